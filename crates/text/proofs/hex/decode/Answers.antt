use Rattle.std.proofs.Common.{ℕ, ◌+◌, ◌*◌, List, drop, Some, vec_items, sym, ap, ◌∙◌, arith}
use Rattle.text.specs.Hex.{bytes_of}
use Rattle.text.proofs.Pairing.{after, at_pair, odd_length}
use Rattle.text.proofs.hex.decode.Goals as goal

pub returns-then-word-eq1 : goal.returns-then-word-eq1
returns-then-word-eq1 c = sym (odd_length c.args.word.now c.if-word-eq1.true)

pub loop-i-preserved : goal.loop-i-preserved
loop-i-preserved c =
    at_pair (Some c.in-Some.byte) (vec_items c.loop-i.bytes) c.args.word.now c.loop-i.i (omega arith)
    c.in-Some.ensures c.loop-i.invariant
    ∙ ap (λ (l : List ℕ). after l (bytes_of (drop (2 * (c.loop-i.i + 1)) c.args.word.now))) (sym c.in_ok-push.ensures.items)
