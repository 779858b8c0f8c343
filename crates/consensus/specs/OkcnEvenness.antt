-- OKCN is even: a sum and a draw are a point of the circle, the circle only turns, and its parts are alike. Assumes nothing.
use Rattle.std.specs.Prelude.{◌≡◌, ℕ, ◌+◌, ◌-◌, ◌*◌, ◌/◌, ◌%◌, ◌<◌, ◌&&◌, ◌==◌}
use Rattle.std.proofs.Math.Path.{sym, ap, ap₂, fun_ext}
use Rattle.std.proofs.Common.{◌∙◌, mul-pos, le-mul_of_pos_right}
use Rattle.std.proofs.Math.Nat.{mul_comm}
use Rattle.std.proofs.Math.Arith.{digits_div, digits_mod}
use Rattle.consensus.specs.Evenness.{Even, ways}
use Rattle.consensus.specs.Rules.{okcn, okcn_draws}
use Rattle.consensus.specs.Counted.{at_place, ways_is}
use Rattle.consensus.specs.Counting.{tally, one_if, both, tally_agree, tally_blocks, tally_pick, tally_scale_left, tally_turn}
use Rattle.consensus.specs.OkcnParts.{Shared, shared, point_turned}

module _ (q m g : ℕ) (pq : 0 < q) (pm : 0 < m) where
  C : ℕ
  C = okcn_draws q m

  β : ℕ
  unfolding C
  β = C * q / m

  share : Shared q m C β
  unfolding C β
  share = shared q m pq pm

  start : ℕ
  unfolding C
  start = C * q - (C - 1) / 2

  -- a point meets a digit and a hint
  at : ℕ → ℕ → ℕ → ℕ
  at k h s = one_if (s / β == k && s % β * g / β == h)

  hinted : ℕ → ℕ → ℕ
  hinted h j = one_if (j * g / β == h)

  at_turned : (k h sum draw : ℕ) → at_place (okcn q m g) k h sum draw ≡ at k h ((sum * C + draw + start) % (C * q))
  unfolding C β start at at_place
  at_turned k h sum draw =
      ap (at k h)
      (point_turned C q sum draw (mul-pos share.some_draw pq) (le-mul_of_pos_right C pq)
      ∙ ap (λ x. (x + draw + start) % (C * q)) (mul_comm C sum))

  on_part : (k h i j : ℕ) → j < β → at k h (i * β + j) ≡ one_if (i == k) * hinted h j
  unfolding at hinted
  on_part k h i j l =
      ap₂ (λ x y. one_if (x == k && y * g / β == h)) (digits_div i l) (digits_mod i l)
      ∙ both (i == k) (j * g / β == h)

  -- on each part the hint stands at the same places
  ways_okcn : (k h : ℕ) → k < m → ways (okcn q m g) k h ≡ tally β (hinted h)
  unfolding C
  ways_okcn k h within =
      ways_is (okcn q m g) k h
      ∙ ap (tally q) (fun_ext (λ sum. ap (tally C) (fun_ext (at_turned k h sum))))
      ∙ sym (tally_blocks q C (λ t. at k h ((t + start) % (C * q))))
      ∙ ap (λ n. tally n (λ t. at k h ((t + start) % (C * q)))) (mul_comm q C)
      ∙ tally_turn (C * q) start (at k h)
      ∙ ap (λ n. tally n (at k h)) (share.whole ∙ mul_comm β m)
      ∙ tally_blocks m β (at k h)
      ∙ ap (tally m) (fun_ext (λ i. tally_agree β (on_part k h i) ∙ tally_scale_left β (one_if (i == k)) (hinted h)))
      ∙ tally_pick m k (λ i. tally β (hinted h)) within

  pub okcn_even : Even (okcn q m g)
  okcn_even h k l hh hk hl = ways_okcn k h hk ∙ sym (ways_okcn l h hl)
