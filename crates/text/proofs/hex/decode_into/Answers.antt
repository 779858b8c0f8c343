use Rattle.std.proofs.Common.{ℕ, ◌+◌, ◌*◌, List, take, drop, Some, sym, ap, ◌∙◌, arith, length-set}
use Rattle.std.proofs.lemmas.List.{take_more_set}
use Rattle.text.specs.Hex.{bytes_of}
use Rattle.text.proofs.Pairing.{after, at_pair}
use Rattle.text.proofs.hex.decode_into.Goals as goal

pub loop-i-preserved : goal.loop-i-preserved
loop-i-preserved c = (
  omega (arith, length-set c.loop-i.bytes c.loop-i.i c.in_ok-byte.field-0),
  at_pair (Some c.in_ok-byte.field-0) (take c.loop-i.i c.loop-i.bytes) c.args.word.now c.loop-i.i (omega arith)
      c.in_ok-byte.ensures c.loop-i.invariant.1
      ∙ ap (λ (l : List ℕ). after l (bytes_of (drop (2 * (c.loop-i.i + 1)) c.args.word.now)))
      (sym (take_more_set c.loop-i.bytes c.loop-i.i c.in_ok-byte.field-0 (omega arith))),
)
