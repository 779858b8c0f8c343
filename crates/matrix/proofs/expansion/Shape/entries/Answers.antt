use Rattle.std.proofs.Common.{◌≡◌, ℕ, ◌+◌, ◌*◌, ◌/◌, ◌%◌, ◌^◌, ◌<◌, [], length, get_or, ap, ◌∙◌, ap₂, length-set, arith}
use Rattle.matrix.specs.Expansion.{entry_at}
use Rattle.matrix.proofs.Entries.{pair_at, written_more}
use Rattle.matrix.proofs.Powers.{shifted_one}
use Rattle.matrix.proofs.expansion.Shape.entries.Goals as goal

pub loop-j-preserved : goal.loop-j-preserved
unfolding entry_at
loop-j-preserved c =
    let bytes = c.args.bytes.now in
    let bits = c.args.self.now.bits in
    let j = c.loop-j.j in
    let pair = get_or c.as_chunks.result.0.now j [] in
    let at : (i : ℕ) → i < 2 → get_or pair i 0 ≡ get_or bytes (2 * j + i) 0 = λ i h.
    ap (λ pairs. get_or (get_or pairs j []) i 0) c.as_chunks.ensures.front ∙ pair_at (length bytes / 2) j i bytes (omega arith) h in
    let low : get_or pair 0 0 ≡ get_or bytes (2 * j) 0 = at 0 (omega arith) ∙ ap (λ m. get_or bytes m 0) (omega arith) in
    let high = at 1 (omega arith) in
    let number : c.from_le_bytes.result ≡ get_or bytes (2 * j) 0 + 256 * get_or bytes (2 * j + 1) 0 = omega (arith, low, high, c.from_le_bytes.ensures) in (
      simp length-set c.loop-j.invariant.0,
      written_more (entry_at (2 ^ bits) bytes) c.loop-j.row j _ (omega arith) c.loop-j.invariant.1 (ap₂ ◌%◌ number (shifted_one 16 bits (omega arith))),
    )
