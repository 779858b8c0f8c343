-- The padded message and its blocks. Assumes nothing.
use Rattle.std.proofs.Common.{◌≡◌, ℕ, zero, suc, ◌+◌, ◌-◌, ◌*◌, ◌/◌, ◌%◌, ◌<◌, ◌≤◌, List, [], ◌∷◌, ◌++◌, length, get_or, take, drop, set, replicate, sym, refl, ap, ◌∙◌, append_assoc, add-one, arith}
use Rattle.std.proofs.lemmas.List.{set_at, get_or_at, replicate_more, drop-replicate, length-append, length-replicate, length-drop, drop-append-le, take-append-le, take_all}
use Rattle.keccak.specs.Permutation.{◌⊕◌}
use Rattle.keccak.specs.Sponge.{rate, padding, pad, nth_block}

-- ---- the last block as the code makes it

-- two writes turn the zeros after the end of m into the padding
two_writes : (m : List ℕ) (n k last : ℕ) → length m ≡ n → n + k ≡ last
    → set (set (m ++ replicate (suc k) 0) n 0x1f) last (get_or (set (m ++ replicate (suc k) 0) n 0x1f) last 0 ⊕ 0x80)
    ≡ m ++ padding (suc k)
two_writes m n zero last e f =
    let h : length m ≡ last = omega arith in
    rw (set_at m 0 [] 0x1f n e, get_or_at m 0x1f [] 0 last h) (set_at m 0x1f [] 0x9f last h)
two_writes m n (suc k) last e f =
    let front : List ℕ = m ++ 0x1f ∷ replicate k 0 in
    let zeros : replicate {A = ℕ} (suc k) 0 ≡ replicate k 0 ++ 0 ∷ [] = rw add-one at (sym (replicate_more {X = ℕ} k 0)) in
    let first : set (m ++ replicate (suc (suc k)) 0) n 0x1f ≡ front ++ 0 ∷ [] =
    set_at m 0 (replicate (suc k) 0) 0x1f n e
    ∙ (ap (λ r. m ++ 0x1f ∷ r) zeros ∙ sym (append_assoc m (0x1f ∷ replicate k 0) (0 ∷ []))) in
    let h : length front ≡ last = simp (length-append, length-replicate) (omega arith) in
    rw (first, get_or_at front 0 [] 0 last h)
    (set_at front 0 [] 0x80 last h ∙ append_assoc m (0x1f ∷ replicate k 0) (0x80 ∷ []))

-- s is what was copied into the zeros
pub last_block_is : (m s : List ℕ) → s ≡ m → length m < rate
    → set (set (s ++ drop (length m - 0) (replicate 168 0)) (length m) 0x1f) 167
    (get_or (set (s ++ drop (length m - 0) (replicate 168 0)) (length m) 0x1f) 167 0 ⊕ 0x80)
    ≡ m ++ padding (rate - length m)
last_block_is m s e h =
    let k : ℕ = 167 - length m in
    let left : rate - length m ≡ suc k = omega arith in
    let same : 168 - (length m - 0) ≡ suc k = omega arith in
    let zeros : drop {A = ℕ} (length m - 0) (replicate 168 0) ≡ replicate (suc k) 0 =
    drop-replicate {X = ℕ} (length m - 0) 168 0 ∙ ap (λ (n : ℕ). replicate {A = ℕ} n 0) same in
    rw (zeros, e, left) (two_writes m (length m) k 167 refl (omega arith))

-- ---- the blocks

length_padding : (n : ℕ) → length (padding n) ≡ n
length_padding zero = refl
length_padding (suc zero) = refl
length_padding (suc (suc n)) = simp (length-append, length-replicate) (omega arith)

pub blocks_of_pad : (m : List ℕ) → length (pad m) / rate ≡ length m / rate + 1
unfolding pad
blocks_of_pad m = simp (length-append, length_padding) (omega arith)

-- a block that lies within the message
pub full_block : (m : List ℕ) (i : ℕ) → rate * i + rate ≤ length m → nth_block (pad m) i ≡ take rate (drop (rate * i) m)
unfolding pad
full_block m i h =
    let p : rate * i ≤ length m = omega arith in
    let q : rate ≤ length (drop (rate * i) m) = simp length-drop (omega arith) in
    rw (drop-append-le (rate * i) m (padding (rate - length m % rate)) p) (take-append-le rate (drop (rate * i) m) _ q)

-- the block that holds the padding
pub padded_block : (m rest : List ℕ) (q : ℕ) → q ≡ length m / rate → rest ≡ drop (rate * q) m
    → nth_block (pad m) q ≡ rest ++ padding (rate - length rest)
unfolding pad
padded_block m rest q e f =
    let p : rate * q ≤ length m = omega arith in
    let n : length m % rate ≡ length rest = sym (ap length f ∙ (length-drop (rate * q) m ∙ omega arith)) in
    let whole : drop (rate * q) (m ++ padding (rate - length m % rate)) ≡ rest ++ padding (rate - length rest) =
    drop-append-le (rate * q) m (padding (rate - length m % rate)) p
    ∙ (ap (λ r. r ++ padding (rate - length m % rate)) (sym f) ∙ ap (λ k. rest ++ padding (rate - k)) n) in
    ap (take rate) whole ∙ take_all rate (rest ++ padding (rate - length rest)) (simp (length-append, length_padding) (omega arith))
