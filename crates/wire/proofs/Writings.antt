-- What is written part by part over the front of a buffer. Assumes nothing.
use Rattle.std.proofs.Common.{◌≡◌, ℕ, ◌+◌, ◌*◌, List, ◌++◌, length, drop, sym, refl, ap, ◌∙◌, append_assoc, arith}
use lib.Seq.{paste}
use Rattle.std.proofs.lemmas.List.Edits.{paste_all, paste-paste}
use Rattle.std.proofs.lemmas.List.{length-append}
use Rattle.wire.specs.Bytes.{bytes_of}
use Rattle.wire.proofs.Laws.{length_bytes, bytes_append}

-- the buffer d, with bs written over its front
abbrev Front : List ℕ → List ℕ → List ℕ → Type 0
Front d bs x = x ≡ paste d 0 bs (length bs)

next : (d bs x y cs : List ℕ) (place n : ℕ)
    → Front d bs x → y ≡ paste x place cs n → place ≡ length bs → n ≡ length cs → Front d (bs ++ cs) y
next d bs x y cs place n was is there long =
    let here : place ≡ 0 + length bs = omega arith in
    let both : length bs + n ≡ length (bs ++ cs) = omega (arith, length-append bs cs) in
    is ∙ (λ i. paste (was i) (here i) cs n) ∙ paste-paste d 0 bs cs (length bs) n refl long (omega arith) ∙ ap (paste d 0 (bs ++ cs)) both

-- a header, a seed, entries and hints
pub laid : (d fs gs seed ys hs w x y z : List ℕ) (i j k : ℕ) → fs ≡ gs
    → w ≡ paste d 0 (bytes_of fs) (2 * length fs) → x ≡ paste w i seed (length seed)
    → y ≡ paste x j (bytes_of ys) (2 * length ys) → z ≡ paste y k (bytes_of hs) (2 * length hs)
    → i ≡ 2 * length gs → j ≡ i + length seed → k ≡ j + 2 * length ys
    → let m = bytes_of gs ++ (seed ++ bytes_of (ys ++ hs)) in z ≡ m ++ drop (length m) d
laid d fs gs seed ys hs w x y z i j k same one two three four at-seed at-ys at-hs =
    let h = bytes_of gs in
    let m = h ++ (seed ++ bytes_of (ys ++ hs)) in
    let long = length_bytes gs in
    let a = length-append h seed in
    let b = length-append (h ++ seed) (bytes_of ys) in
    let heads : Front d h w = one ∙ (λ t. paste d 0 (bytes_of (same t)) ((ap (λ l. 2 * length l) same ∙ sym long) t)) in
    let seeds = next d h w x seed i (length seed) heads two (omega arith) refl in
    let entries = next d (h ++ seed) x y (bytes_of ys) j (2 * length ys) seeds three (omega arith) (sym (length_bytes ys)) in
    let all = next d ((h ++ seed) ++ bytes_of ys) y z (bytes_of hs) k (2 * length hs) entries four (omega (arith, length_bytes ys)) (sym (length_bytes hs)) in
    let whole : ((h ++ seed) ++ bytes_of ys) ++ bytes_of hs ≡ m =
    append_assoc (h ++ seed) (bytes_of ys) (bytes_of hs) ∙ append_assoc h seed (bytes_of ys ++ bytes_of hs) ∙ ap (λ t. h ++ (seed ++ t)) (sym (bytes_append ys hs)) in
    let zero : 0 + length m ≡ length m = omega arith in
    all ∙ (λ t. paste d 0 (whole t) (length (whole t))) ∙ paste_all d 0 m (length m) refl ∙ ap (λ n. m ++ drop n d) zero
