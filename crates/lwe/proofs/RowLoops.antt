-- A loop over the rows of two matrices side by side. Assumes nothing.
use Rattle.std.proofs.Common.{◌≡◌, ℕ, ◌+◌, ◌-◌, ◌*◌, ◌<◌, ◌≤◌, Bor, List, length, get_or, drop, map, ℤ, pos, None, Some, Option, sym, ap, ◌∙◌, subst, add-mul, arith, length-drop}
use native.Mathlib.Decide.{dec_lt}
use mathlib.Core.Logic.{◌⊎◌, inl, inr}
use Rattle.std.specs.Iterator.Adapters.{take_count, take_source, take_steps, zip_first, zip_second}
use Rattle.std.specs.Slice.Iter.{chunks_exact_rest, chunks_exact_size, chunks_exact_steps}
use Rattle.std.specs.declared.iter.Take.{Take}
use Rattle.std.specs.declared.iter.Zip.{Zip}
use Rattle.std.specs.declared.slice.ChunksExact.{ChunksExact}
use Rattle.std.proofs.lemmas.Iterator.{zips}
use Rattle.std.proofs.Math.Seq.{drop-append_seam}
use Rattle.lwe.proofs.Places.{row_ends}
use Rattle.std.proofs.lemmas.List.{drop-drop, get_or-map, get_or_append_left, get_or-drop}

-- the chunks of a list after the first k, each of l elements
pub record From {A : Type 0} (l : ℕ) (xs : List A) (k : ℕ) (s : ChunksExact A) : Type 0 where
  pub size : chunks_exact_size s ≡ l
  pub rest : chunks_exact_rest s ≡ drop (k * l) xs

-- the k-th chunk
pub record Chunk {A : Type 0} (l : ℕ) (xs : List A) (k : ℕ) (x : List A) : Type 0 where
  pub long : length x ≡ l
  pub at : (i : ℕ) (d : A) → i < l → get_or x i d ≡ get_or xs (k * l + i) d

module _ {A : Type 0} (l : ℕ) (xs : List A) (k : ℕ) (s t : ChunksExact A) (from : From l xs k s) where
  chunk : (x : Bor (List A)) → chunks_exact_steps s (Some x) t → Chunk l xs k x.now
  chunk x step = record {
    long = step.1.1 ∙ from.size;
    at = λ i d h.
        sym (get_or_append_left x.now (chunks_exact_rest t) d i (omega (arith, step.1.1, from.size)))
        ∙ ap (λ ys. get_or ys i d) (sym step.1.0 ∙ from.rest)
        ∙ get_or-drop (k * l) xs i d;
  }

  from_more : (x : Bor (List A)) → chunks_exact_steps s (Some x) t → From l xs (k + 1) t
  from_more x step = record {
    size = step.0 ∙ from.size;
    rest =
        sym (drop-append_seam x.now (chunks_exact_rest t))
        ∙ (λ i. drop ((step.1.1 ∙ from.size) i) ((sym step.1.0 ∙ from.rest) i))
        ∙ drop-drop l (k * l) xs
        ∙ ap (λ i. drop i xs) (omega (arith, add-mul k 1 l));
  }

  from_end : chunks_exact_steps s None t → length xs < k * l + l
  from_end step =
      let left : length (chunks_exact_rest s) ≡ length xs - k * l = ap length from.rest ∙ length-drop (k * l) xs in
      omega (arith, step.1.0, from.size)

-- the value of a number of it
pub value_at : {A : Type 0} (v : A → ℤ) (l : ℕ) (xs : List A) (k i : ℕ) (row : List A) (x : A) → Chunk l xs k row → k * l + i < length xs → i < l → x ≡ get_or row i x → v x ≡ get_or (map v xs) (k * l + i) (pos 0)
value_at v l xs k i row x chunk within below is = ap v (is ∙ chunk.at i x below) ∙ sym (get_or-map v xs (k * l + i) x (pos 0) within)

-- the first k rows of both have come, of n
pub record Passed {A B : Type 0} (l m : ℕ) (xs : List A) (ys : List B) (n k : ℕ) (s : Take (Zip (ChunksExact A) (ChunksExact B))) : Type 0 where
  pub left : From l xs k (zip_first (take_source s))
  pub right : From m ys k (zip_second (take_source s))
  pub count : take_count s + k ≡ n

module _ {A B : Type 0} (l m : ℕ) (xs : List A) (ys : List B) (n k : ℕ) (s t : Take (Zip (ChunksExact A) (ChunksExact B))) (passed : Passed l m xs ys n k s) where
  pub rows_at : (p : Bor (List A) × Bor (List B)) (r : Option (Bor (List A) × Bor (List B))) → r ≡ Some p → take_steps (zips chunks_exact_steps chunks_exact_steps) s r t
      → Passed l m xs ys n (k + 1) t × Chunk l xs k p.0.now × Chunk m ys k p.1.now
  rows_at p r e step =
      let now = subst (λ o. take_steps (zips chunks_exact_steps chunks_exact_steps) s o t) e step in (
        record {
          left = from_more l xs k _ _ passed.left p.0 now.0.0;
          right = from_more m ys k _ _ passed.right p.1 now.0.1;
          count = let c = passed.count in let d = now.1 in omega arith;
        },
        chunk l xs k (zip_first (take_source s)) (zip_first (take_source t)) passed.left p.0 now.0.0,
        chunk m ys k (zip_second (take_source s)) (zip_second (take_source t)) passed.right p.1 now.0.1,
      )

  pub rows_end : (r : Option (Bor (List A) × Bor (List B))) → r ≡ None → n * l ≤ length xs → n * m ≤ length ys → take_steps (zips chunks_exact_steps chunks_exact_steps) s r t → k ≡ n
  rows_end r e fits fits' step = elim (dec_lt k n) [
    | yes h ↦ absurd (spent h (subst (λ o. take_steps (zips chunks_exact_steps chunks_exact_steps) s o t) e step (omega (arith, passed.count))))
    | no h ↦ omega (arith, passed.count)
  ]
    where
      spent : k < n → ((u : ChunksExact A) × chunks_exact_steps (zip_first (take_source s)) None u) ⊎ ((u : ChunksExact B) × chunks_exact_steps (zip_second (take_source s)) None u) → ⊥
      spent h (inl a) = omega (arith, row_ends k n l h, from_end l xs k _ a.0 passed.left a.1)
      spent h (inr b) = omega (arith, row_ends k n m h, from_end m ys k _ b.0 passed.right b.1)
