-- AKCN is even: the draw is the digit, and it only moves the sum around the circle. Assumes nothing.
use Rattle.std.specs.Prelude.{◌≡◌, ℕ, ◌+◌, ◌*◌, ◌/◌, ◌%◌, ◌<◌, ◌==◌}
use Rattle.std.proofs.Common.{sym, ap, ◌∙◌, arith}
use Rattle.std.proofs.Math.Path.{fun_ext}
use Rattle.std.proofs.Math.Nat.{div-add-mod, add-mul-div_left, add-mul-mod_self_left}
use Rattle.consensus.specs.Arithmetic.{round}
use Rattle.consensus.specs.Evenness.{Even, ways}
use Rattle.consensus.specs.Rules.{akcn}
use Rattle.consensus.specs.Counted.{at_place, ways_is}
use Rattle.consensus.specs.Counting.{tally, one_if, both, tally_pick, tally_turn}

-- whole turns come out of a rounding
round_turns : (a b n : ℕ) → 0 < b → round (a + b * n) b ≡ round a b + n
round_turns a b n pos =
    let pos₂ : 0 < 2 * b = omega arith in
    let e : 2 * (a + b * n) + b ≡ 2 * a + b + 2 * b * n = omega arith in
    ap (λ x. x / (2 * b)) e ∙ add-mul-div_left (2 * a + b) n pos₂

-- the hint at a place x of the circle
hint_at : ℕ → ℕ → ℕ → ℕ
hint_at q g x = round (g * x) q % g

-- it is the same a turn later
hint_turns : (q g x : ℕ) → 0 < q → hint_at q g x ≡ hint_at q g (x % q)
unfolding hint_at
hint_turns q g x pos =
    let e : g * x ≡ g * (x % q) + q * (g * (x / q)) = let d = ap (λ y. g * y) (div-add-mod x q) in omega arith in
    ap (λ y. round y q % g) e ∙ ap (λ y. y % g) (round_turns (g * (x % q)) q (g * (x / q)) pos)
    ∙ add-mul-mod_self_left (round (g * (x % q)) q) g (x / q)

-- so the ways to a digit are the places with the hint, whichever the digit
ways_akcn : (q m g k h : ℕ) → 0 < q → k < m → ways (akcn q m g) k h ≡ tally q (λ x. one_if (hint_at q g x == h))
unfolding hint_at at_place
ways_akcn q m g k h pos within =
    ways_is (akcn q m g) k h
    ∙ ap (tally q) (fun_ext (λ sum.
    ap (tally m) (fun_ext (λ draw. both (draw == k) (hint_at q g (sum + round (q * draw) m) == h)))
    ∙ tally_pick m k (λ draw. one_if (hint_at q g (sum + round (q * draw) m) == h)) within
    ∙ ap (λ x. one_if (x == h)) (hint_turns q g (sum + round (q * k) m) pos)))
    ∙ tally_turn q (round (q * k) m) (λ x. one_if (hint_at q g x == h))

pub akcn_even : (q m g : ℕ) → 0 < q → Even (akcn q m g)
akcn_even q m g pos h k l hh hk hl = ways_akcn q m g k h pos hk ∙ sym (ways_akcn q m g l h pos hl)
