-- A rule that is even at one place is even at many: the ways at many places are the product of the ways at each.
-- Assumes nothing.
use Rattle.std.proofs.Common.{◌≡◌, ℕ, zero, suc, ◌*◌, Bool, true, false, ◌&&◌, eqb, List, [], ◌∷◌, sym, refl, ap, ◌∙◌, ap₂, one-mul, zero-mul, suc-ne-zero}
use mathlib.Core.Path.{fun_ext}
use native.Mathlib.Nat.{suc_inj}
use Rattle.consensus.specs.Consensus.{Consensus, settle_all, digits_of, hints_of}
use Rattle.consensus.specs.Evenness.{Even, EvenLists, AllBelow, same, ways, ways_all}
use Rattle.consensus.specs.Counted.{at_place, at_places, ways_is, ways_all_is}
use Rattle.consensus.specs.Counting.{tally, tally_lists, one_if, tally_scale, tally_lists_scale}

-- the tests at one place, and those at the places after it
sorted : (a a' b b' : Bool) → one_if ((a && a') && (b && b')) ≡ one_if (a && b) * one_if (a' && b')
sorted true a' true b' = sym (one-mul (one_if (a' && b')))
sorted true true false b' = sym (zero-mul (one_if (true && b')))
sorted true false false b' = refl
sorted false a' b b' = sym (zero-mul (one_if (a' && b')))

module _ (c : Consensus) where
  at_cons : (k h : ℕ) (ks hs : List ℕ) (sum : ℕ) (sums : List ℕ) (draw : ℕ) (draws : List ℕ)
      → at_places c (k ∷ ks) (h ∷ hs) (sum ∷ sums) (draw ∷ draws) ≡ at_place c k h sum draw * at_places c ks hs sums draws
  unfolding at_place at_places
  at_cons k h ks hs sum sums draw draws =
      sorted
      (eqb (c.settle sum draw).0 k) (same (digits_of (settle_all c sums draws)) ks)
      (eqb (c.settle sum draw).1 h) (same (hints_of (settle_all c sums draws)) hs)

  product : (len k h : ℕ) (ks hs : List ℕ)
      → tally_lists (suc len) c.modulus (λ sums. tally_lists (suc len) c.draws (at_places c (k ∷ ks) (h ∷ hs) sums))
      ≡ tally c.modulus (λ sum. tally c.draws (at_place c k h sum))
      * tally_lists len c.modulus (λ sums. tally_lists len c.draws (at_places c ks hs sums))
  product len k h ks hs =
      let q = c.modulus in
      let w = c.draws in
      ap (tally q) (fun_ext (λ sum.
      ap (tally_lists len q) (fun_ext (λ sums.
      ap (tally w) (fun_ext (λ draw.
      ap (tally_lists len w) (fun_ext (at_cons k h ks hs sum sums draw))
      ∙ tally_lists_scale len w (at_place c k h sum draw) (at_places c ks hs sums)))
      ∙ tally_scale w (at_place c k h sum) (tally_lists len w (at_places c ks hs sums))))
      ∙ tally_lists_scale len q (tally w (at_place c k h sum)) (λ sums. tally_lists len w (at_places c ks hs sums))))
      ∙ tally_scale q (λ sum. tally w (at_place c k h sum)) (tally_lists len q (λ sums. tally_lists len w (at_places c ks hs sums)))

  ways_cons : (len k h : ℕ) (ks hs : List ℕ) → ways_all c (suc len) (k ∷ ks) (h ∷ hs) ≡ ways c k h * ways_all c len ks hs
  ways_cons len k h ks hs =
      ways_all_is c (suc len) (k ∷ ks) (h ∷ hs) ∙ product len k h ks hs
      ∙ ap₂ ◌*◌ (sym (ways_is c k h)) (sym (ways_all_is c len ks hs))

none_long : {A : Type 0} {len : ℕ} → 0 ≡ suc len → A
none_long {len = len} e = absurd (suc-ne-zero len (sym e))

some_short : {A : Type 0} {len : ℕ} → suc len ≡ 0 → A
some_short {len = len} e = absurd (suc-ne-zero len e)

rest : {n len x : ℕ} {xs : List ℕ} → AllBelow n (suc len) (x ∷ xs) → AllBelow n len xs
rest r = record { long = suc_inj r.long; below = r.below.1 }

pub even_lists : (c : Consensus) → Even c → EvenLists c
even_lists c even zero [] [] [] rh rk rl = refl
even_lists c even zero [] [] (l ∷ ls) rh rk rl = some_short rl.long
even_lists c even zero [] (k ∷ ks) ls rh rk rl = some_short rk.long
even_lists c even zero (h ∷ hs) ks ls rh rk rl = some_short rh.long
even_lists c even (suc len) [] ks ls rh rk rl = none_long rh.long
even_lists c even (suc len) (h ∷ hs) [] ls rh rk rl = none_long rk.long
even_lists c even (suc len) (h ∷ hs) (k ∷ ks) [] rh rk rl = none_long rl.long
even_lists c even (suc len) (h ∷ hs) (k ∷ ks) (l ∷ ls) rh rk rl =
    ways_cons c len k h ks hs
    ∙ ap₂ ◌*◌ (even h k l rh.below.0 rk.below.0 rl.below.0) (even_lists c even len hs ks ls (rest rh) (rest rk) (rest rl))
    ∙ sym (ways_cons c len l h ls hs)
