-- The counts of the definitions, over lists that are written out, as sums over numbers. Assumes nothing.
use Rattle.std.specs.Prelude.{◌≡◌, ℕ, zero, suc, ◌+◌, ◌&&◌, List, [], ◌∷◌, map, sum_by, ◌==◌, refl}
use Rattle.std.proofs.Common.{sym, ap, ◌∙◌, map-id, zero-add, add-one}
use Rattle.std.proofs.Math.Path.{fun_ext}
use Rattle.std.specs.List.{range_with_len, flat_map}
use Rattle.std.proofs.lemmas.List.Sums.{sum_by-cons, sum_by-append}
use Rattle.std.proofs.lemmas.List.FromFn.{sum_by-map-range_with_len_more}
use Rattle.consensus.specs.Consensus.{Consensus, settle_all, digits_of, hints_of}
use Rattle.consensus.specs.Evenness.{pairs, lists, same, ways, ways_all}
use Rattle.consensus.specs.Counting.{tally, tally_lists, one_if}

sum_map : {A B : Type 0} (f : B → ℕ) (g : A → B) (xs : List A) → sum_by f (map g xs) ≡ sum_by (λ x. f (g x)) xs
sum_map f g [] = refl
sum_map f g (x ∷ xs) =
    sum_by-cons f (g x) (map g xs) ∙ ap (λ n. f (g x) + n) (sum_map f g xs) ∙ sym (sum_by-cons (λ x. f (g x)) x xs)

sum_joined : {A B : Type 0} (f : B → ℕ) (g : A → List B) (xs : List A) → sum_by f (flat_map g xs) ≡ sum_by (λ x. sum_by f (g x)) xs
sum_joined f g [] = refl
sum_joined f g (x ∷ xs) =
    sum_by-append f (g x) (flat_map g xs) ∙ ap (λ n. sum_by f (g x) + n) (sum_joined f g xs)
    ∙ sym (sum_by-cons (λ x. sum_by f (g x)) x xs)

sum_pairs : {A B : Type 0} (f : A × B → ℕ) (xs : List A) (ys : List B) → sum_by f (pairs xs ys) ≡ sum_by (λ x. sum_by (λ y. f (x, y)) ys) xs
sum_pairs f xs ys =
    sum_joined f (λ x. map (λ y. (x, y)) ys) xs ∙ ap (λ g. sum_by g xs) (fun_ext (λ x. sum_map f (λ y. (x, y)) ys))

sum_below : (n : ℕ) (f : ℕ → ℕ) → sum_by f (range_with_len 0 n) ≡ tally n f
sum_below zero f = refl
sum_below (suc n) f =
    ap (λ k. sum_by f (range_with_len 0 k)) (sym (add-one n))
    ∙ ap (sum_by f) (sym (map-id (range_with_len 0 (n + 1))))
    ∙ sum_by-map-range_with_len_more f (λ x. x) 0 n n (zero-add n)
    ∙ ap (λ xs. sum_by f xs + f n) (map-id (range_with_len 0 n))
    ∙ ap (λ k. k + f n) (sum_below n f)

sum_lists : (len n : ℕ) (f : List ℕ → ℕ) → sum_by f (lists len n) ≡ tally_lists len n f
sum_lists zero n f = zero-add (f [])
sum_lists (suc len) n f =
    sum_joined f (λ x. map (λ xs. x ∷ xs) (lists len n)) (range_with_len 0 n)
    ∙ ap (λ g. sum_by g (range_with_len 0 n)) (fun_ext (λ x. sum_map f (λ xs. x ∷ xs) (lists len n) ∙ sum_lists len n (λ xs. f (x ∷ xs))))
    ∙ sum_below n (λ x. tally_lists len n (λ xs. f (x ∷ xs)))

-- a place, and places, that meet a digit and a hint
unfoldable pub at_place : Consensus → ℕ → ℕ → ℕ → ℕ → ℕ
at_place c k h sum draw = one_if ((c.settle sum draw).0 == k && (c.settle sum draw).1 == h)

unfoldable pub at_places : Consensus → List ℕ → List ℕ → List ℕ → List ℕ → ℕ
at_places c ks hs sums draws = one_if (same (digits_of (settle_all c sums draws)) ks && same (hints_of (settle_all c sums draws)) hs)

pub ways_is : (c : Consensus) (k h : ℕ) → ways c k h ≡ tally c.modulus (λ sum. tally c.draws (at_place c k h sum))
unfolding ways at_place
ways_is c k h =
    sum_pairs (λ p. at_place c k h p.0 p.1) (range_with_len 0 c.modulus) (range_with_len 0 c.draws)
    ∙ sum_below c.modulus (λ sum. sum_by (at_place c k h sum) (range_with_len 0 c.draws))
    ∙ ap (tally c.modulus) (fun_ext (λ sum. sum_below c.draws (at_place c k h sum)))

pub ways_all_is : (c : Consensus) (len : ℕ) (ks hs : List ℕ)
    → ways_all c len ks hs ≡ tally_lists len c.modulus (λ sums. tally_lists len c.draws (at_places c ks hs sums))
unfolding ways_all at_places
ways_all_is c len ks hs =
    sum_pairs (λ p. at_places c ks hs p.0 p.1) (lists len c.modulus) (lists len c.draws)
    ∙ sum_lists len c.modulus (λ sums. sum_by (at_places c ks hs sums) (lists len c.draws))
    ∙ ap (tally_lists len c.modulus) (fun_ext (λ sums. sum_lists len c.draws (at_places c ks hs sums)))
