-- What the rules come to at a few small numbers. Assumes nothing.
use Rattle.std.specs.Prelude.{◌≡◌, ◌/◌, [], ◌∷◌, negsuc, Ok, Err}
use Rattle.consensus.specs.Arithmetic.{residue, floor, apart}
use Rattle.consensus.specs.Consensus.{Consensus}
use Rattle.consensus.specs.Evenness.{Even, ways, ways_all}
use Rattle.consensus.specs.Replies.{okcn_built, akcn_built}
use Rattle.consensus.specs.Rules.{okcn, akcn}
use Rattle.consensus.specs.declared.fault.RuleFault.TheVariants.{Limits, Distance}

-- a rule that breaks evenness: three sums cut into two digits, with no draw to share them out
abbrev pub uneven : Consensus
uneven = record {
  modulus = 3;
  digits = 2;
  hints = 1;
  distance = 0;
  draws = 1;
  settle = λ sum draw. (sum / 2, 0);
  recover = λ sum hint. sum / 2;
}

pub record Examples : Type 0 where
  -- remainders and quotients of negative numbers, and the way around the modulus
  pub negative_residue : residue (negsuc 2) 16 ≡ 13
  pub negative_floor : floor (negsuc 2) 2 ≡ negsuc 1
  pub around_zero : apart 16 1 15 ≡ 2
  -- OKCN with q 16, m 4, g 8
  pub sixteen : okcn_built 16 4 8 ≡ Ok (okcn 16 4 8)
  pub sixteen_draws : (okcn 16 4 8).draws ≡ 1
  pub sixteen_distance : (okcn 16 4 8).distance ≡ 1
  pub sixteen_settles : (okcn 16 4 8).settle 7 0 ≡ (1, 6)
  pub sixteen_below : (okcn 16 4 8).recover 6 6 ≡ 1
  pub sixteen_above : (okcn 16 4 8).recover 8 6 ≡ 1
  pub sixteen_beyond : (okcn 16 4 8).recover 10 6 ≡ 2
  -- the numerator is negative here: cut towards zero, the digit would be 0
  pub sixteen_negative : (okcn 16 4 8).recover 0 6 ≡ 3
  -- OKCN with q 11, m 2, g 4
  pub eleven : okcn_built 11 2 4 ≡ Ok (okcn 11 2 4)
  pub eleven_draws : (okcn 11 2 4).draws ≡ 2
  pub eleven_distance : (okcn 11 2 4).distance ≡ 1
  pub eleven_first_draw : (okcn 11 2 4).settle 5 0 ≡ (0, 3)
  pub eleven_second_draw : (okcn 11 2 4).settle 5 1 ≡ (1, 0)
  pub eleven_last_hint : (ways (okcn 11 2 4) 0 3 ≡ 2) × (ways (okcn 11 2 4) 1 3 ≡ 2)
  pub eleven_first_hint : (ways (okcn 11 2 4) 0 0 ≡ 3) × (ways (okcn 11 2 4) 1 0 ≡ 3)
  -- at two places the counts multiply: 2 * 3
  pub eleven_two_places : ways_all (okcn 11 2 4) 2 (0 ∷ 1 ∷ []) (3 ∷ 0 ∷ []) ≡ 6
  -- AKCN with q 11, m 2, g 8
  pub chosen : akcn_built 11 2 8 ≡ Ok (akcn 11 2 8)
  pub chosen_distance : (akcn 11 2 8).distance ≡ 1
  pub chosen_one : (akcn 11 2 8).settle 5 1 ≡ (1, 0)
  pub chosen_zero : (akcn 11 2 8).settle 5 0 ≡ (0, 4)
  pub chosen_one_back : (akcn 11 2 8).recover 6 0 ≡ 1
  pub chosen_zero_back : (akcn 11 2 8).recover 6 4 ≡ 0
  -- here the numerator of recovering is a half, and rounds upwards
  pub chosen_half : (akcn 11 2 8).recover 0 2 ≡ 1
  pub exact_half : (okcn 4 2 3).recover 2 1 ≡ 1
  -- the edge of building: the distance
  pub four_refused : okcn_built 4 2 2 ≡ Err Distance
  pub five_built : okcn_built 5 2 2 ≡ Ok (okcn 5 2 2)
  pub five_distance : (okcn 5 2 2).distance ≡ 0
  pub chosen_refused : akcn_built 16 4 4 ≡ Err Distance
  pub large_built : okcn_built 16384 16 1024 ≡ Ok (okcn 16384 16 1024)
  pub large_distance : (okcn 16384 16 1024).distance ≡ 510
  -- the edge of building: the limits
  pub largest_numbers : okcn_built 32768 256 4096 ≡ Ok (okcn 32768 256 4096)
  pub modulus_limits : (okcn_built 1 2 2 ≡ Err Limits) × (okcn_built 32769 2 3 ≡ Err Limits)
  pub digit_limits : (okcn_built 32768 1 3 ≡ Err Limits) × (okcn_built 32768 257 3 ≡ Err Limits)
  pub hint_limits : (okcn_built 32768 2 1 ≡ Err Limits) × (okcn_built 32768 2 4097 ≡ Err Limits)
  pub modulus_passed : (akcn_built 16 17 2 ≡ Err Limits) × (akcn_built 16 2 17 ≡ Err Limits)
  -- not every rule is even
  pub not_even : Even uneven → ⊥
