-- The table is `round_constant` at each round: antt computes the constants where it compares the two lists.
use Rattle.std.proofs.Common.{◌≡◌, ℕ, ◌+◌, List, refl, ◌∙◌, add-one, arith}
use Rattle.std.proofs.lemmas.List.FromFn.{get_or-map-range_with_len}
use Rattle.keccak.specs.Permutation.{theta, rho, pi, chi, with_constant, round_constant, iota, round, rounds, permute}
use Rattle.keccak.proofs.permutation.permute_in_place.Goals as goal

rounds_more : (a b : List ℕ) (n constant : ℕ) → b ≡ rounds a n → constant ≡ round_constant n
    → with_constant (chi (pi (rho (theta b)))) constant ≡ rounds a (n + 1)
unfolding iota round rounds
rounds_more a b n constant e f = rw (add-one, e, f)

pub loop-constant-init : goal.loop-constant-init
unfolding rounds
loop-constant-init c = refl

pub loop-constant-preserved : goal.loop-constant-preserved
unfolding round_constant
loop-constant-preserved c =
    let i = c.loop-constant.constant-index in
    c.round-next.ensures
    ∙ rounds_more c.args.state.now c.loop-constant.a i _ c.loop-constant.invariant (get_or-map-range_with_len round_constant 0 24 i i 0 c.loop-constant-test.true (omega arith))

pub returns : goal.returns
unfolding permute
returns c = let e : c.loop-constant.constant-index ≡ 24 = omega arith in cc
