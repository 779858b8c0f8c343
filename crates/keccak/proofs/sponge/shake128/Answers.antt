use Rattle.std.proofs.Common.{◌≡◌, ℕ, suc, ◌+◌, ◌-◌, ◌*◌, ◌/◌, ◌<◌, ◌≤◌, List, [], ◌++◌, length, take, drop, sym, refl, ap, ◌∙◌, append_assoc, arith, rules}
use lib.Seq.{take-append-add}
use borrow.Rule.Slice.PartMut.{put_mid}
use Rattle.std.proofs.lemmas.List.{append-nil, drop_all, length-drop, length-take, length-take-le, nil_from_length, take_all}
use Rattle.std.proofs.lemmas.Slice.{take-put_mid}
use Rattle.std.proofs.lemmas.Bool.{eqb-true}
use Rattle.keccak.specs.Permutation.{permute}
use Rattle.keccak.specs.Sponge.{rate, absorb, output_block, squeeze, shake128}
use Rattle.keccak.proofs.Bytes.{length_bytes}
use Rattle.keccak.proofs.sponge.shake128.Goals as goal

length_output : (s : List ℕ) → length (output_block s) ≤ rate
unfolding output_block
length_output s = omega (arith, length_bytes (take 21 s), length-take 21 s)

-- block i of n + 1
squeeze_more : (n i : ℕ) (s : List ℕ) → i ≤ n → squeeze (n + 1 - i) s ≡ output_block s ++ squeeze (n + 1 - (i + 1)) (permute s)
unfolding squeeze
squeeze_more n i s h =
    let e : n + 1 - i ≡ suc (n + 1 - (i + 1)) = omega arith in rw e

-- with n blocks written, the rest of the output is the front of the last one
last_part : (m : List ℕ) (d n : ℕ) (front s : List ℕ) → 0 < d → n ≡ (d - 1) / rate → length front ≡ rate * n
    → front ++ squeeze (n + 1 - n) s ≡ squeeze (n + 1) (absorb m)
    → front ++ take (d - rate * n) (output_block s) ≡ shake128 m d
unfolding squeeze shake128
last_part m d n front s some e long inv =
    let all : (d + (rate - 1)) / rate ≡ n + 1 = omega arith in
    let one : n + 1 - n ≡ 1 = omega arith in
    let cut : length front + (d - rate * n) ≡ d = omega arith in
    rw (all, ← inv, one, append-nil)
    (sym (take-append-add front (output_block s) (d - rate * n)) ∙ ap (λ k. take k (front ++ output_block s)) cut)

put_end : (a : ℕ) (xs ys : List ℕ) → a ≤ length xs → put_mid a (length xs - a) xs ys ≡ take a xs ++ ys
put_end a xs ys h =
    let e : drop (length xs - a) (drop a xs) ≡ [] = drop_all (length xs - a) (drop a xs) (simp length-drop (omega arith)) in
    rw (e, append-nil)

pub returns-then-is_empty : goal.returns-then-is_empty
unfolding shake128
returns-then-is_empty c =
    let out = c.args.out.now in
    let none : length out ≡ 0 = eqb-true (length out) 0 (sym c.if-is_empty.ensures) in
    nil_from_length out none ∙ ap (shake128 c.args.message.now) (sym none)

pub loop-i-preserved : goal.loop-i-preserved
loop-i-preserved c =
    let i = c.loop-i.i in
    let s = c.loop-i.state in
    let out = c.loop-i.out in
    let part = c.write_block.new.part in
    let n = (length c.args.out.now - 1) / rate in
    let long : length (take (rate * i + rate - rate * i) (drop (rate * i) out)) ≡ rate = simp (length-take, length-drop) (omega arith) in
    let is : part ≡ output_block s =
    c.write_block.ensures ∙ (ap (λ k. take k (output_block s)) long ∙ take_all rate (output_block s) (length_output s)) in
    let fits : length part ≡ rate = c.write_block.auto.part ∙ long in
    let written = take-put_mid (rate * i) (rate * i + rate - rate * i) out part (rate * (i + 1)) (omega arith) (omega arith) in
    let more = squeeze_more n i s (omega arith) in
    cc (append_assoc (take (rate * i) out) part (squeeze (n + 1 - (i + 1)) (permute s)))

pub returns : goal.returns
returns c =
    let d = length c.args.out.now in
    let n = (d - 1) / rate in
    let s = c.loop-i.state in
    let out = c.loop-i.out in
    let part = c.write_block-2.new.part in
    let some : 0 < d = search rules in
    let e : c.loop-i.i ≡ n = omega arith in
    let inv = rw (e, c.absorb-state.ensures) at c.loop-i.invariant in
    let long : length (take (length out - rate * n) (drop (rate * n) out)) ≡ d - rate * n = simp (length-take, length-drop) (omega arith) in
    let is : part ≡ take (d - rate * n) (output_block s) = c.write_block-2.ensures ∙ ap (λ k. take k (output_block s)) long in
    put_end (rate * n) out part (omega arith)
    ∙ (ap (λ r. take (rate * n) out ++ r) is
    ∙ last_part c.args.message.now d n (take (rate * n) out) s some refl (length-take-le (rate * n) out (omega arith)) inv)
