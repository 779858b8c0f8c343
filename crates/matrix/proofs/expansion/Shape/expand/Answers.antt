use Rattle.std.proofs.Common.{ℕ, ◌^◌, List, map, ap, ◌∙◌, ap₂, arith}
use Rattle.std.proofs.lemmas.List.{length-take}
use Rattle.std.specs.List.{range_with_len}
use Rattle.keccak.specs.Sponge.{shake128}
use Rattle.matrix.specs.Expansion.{entry_at, row_bytes}
use Rattle.matrix.proofs.expansion.Shape.expand.Goals as goal

pub returns : goal.returns
unfolding row_bytes
returns c =
    let s = c.args.self.now in
    c.entries.ensures
    ∙ ap (λ (bytes : List ℕ). map (entry_at (2 ^ s.bits) bytes) (range_with_len 0 s.n)) (c.shake128.ensures ∙ ap₂ shake128 c.row_message.ensures (simp length-take (omega arith)))
