use Rattle.std.proofs.Common.{refl, suc-ne-zero, lit<}
use native.Mathlib.Nat.{suc_inj}
use Rattle.consensus.specs.Arithmetic.{gcd}
use Rattle.consensus.specs.Evenness.{ways, ways_all}
use Rattle.consensus.proofs.examples.examples_hold.Goals as goal

pub returns : goal.returns
unfolding gcd ways ways_all
returns c = record {
  negative_residue = refl;
  negative_floor = refl;
  around_zero = refl;
  sixteen = refl;
  sixteen_draws = refl;
  sixteen_distance = refl;
  sixteen_settles = refl;
  sixteen_below = refl;
  sixteen_above = refl;
  sixteen_beyond = refl;
  sixteen_negative = refl;
  eleven = refl;
  eleven_draws = refl;
  eleven_distance = refl;
  eleven_first_draw = refl;
  eleven_second_draw = refl;
  eleven_last_hint = (refl, refl);
  eleven_first_hint = (refl, refl);
  eleven_two_places = refl;
  chosen = refl;
  chosen_distance = refl;
  chosen_one = refl;
  chosen_zero = refl;
  chosen_one_back = refl;
  chosen_zero_back = refl;
  chosen_half = refl;
  exact_half = refl;
  four_refused = refl;
  five_built = refl;
  five_distance = refl;
  chosen_refused = refl;
  large_built = refl;
  large_distance = refl;
  largest_numbers = refl;
  modulus_limits = (refl, refl);
  digit_limits = (refl, refl);
  hint_limits = (refl, refl);
  modulus_passed = (refl, refl);
  not_even = λ even. suc-ne-zero 0 (suc_inj (even 0 0 1 (lit< tt) (lit< tt) (lit< tt)));
}
