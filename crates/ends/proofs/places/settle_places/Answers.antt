use Rattle.std.proofs.Common.{ℕ, length, get_or, sym, ap, ◌∙◌, arith}
use Rattle.consensus.specs.Consensus.{settle_all, digits_of, hints_of}
use Rattle.lwe.specs.Matrices.{padded}
use Rattle.lwe.proofs.Arrays.{padded_more, padded_all}
use Rattle.ends.proofs.Settling.{settled_at, settled_is, length_digits, length_hints}
use Rattle.ends.proofs.places.settle_places.Goals as goal

pub loop-k-preserved : goal.loop-k-preserved
loop-k-preserved g c =
    let m = g.R.Rule.meaning c.args.rule.now in
    let sums = c.args.sums.now in
    let draws = c.args.draws.now in
    let settled = settle_all m sums draws in
    let k = c.loop-k.k in
    let counts = c.requires.counts in
    let value = settled_is m (get_or sums k 0) (get_or draws k 0) c.unwrap-digit.result (c.requires.sums k (omega arith)) (c.requires.draws k (omega arith)) (sym c.unwrap-digit.ensures ∙ c.settle.ensures) in
    let at = settled_at m sums draws k (omega arith) counts.0 in (
      padded_more 0 (length c.fill.new.self) (digits_of settled) c.loop-k.digits k c.unwrap-digit.result.0 (omega (arith, c.fill.auto.self, counts.1)) (omega (arith, length_digits m sums draws counts.0)) c.loop-k.invariant.0
          (ap (λ (x : ℕ × ℕ). x.0) value ∙ sym at.digit),
      padded_more 0 (length c.fill-2.new.self) (hints_of settled) c.loop-k.hints k c.unwrap-digit.result.1 (omega (arith, c.fill-2.auto.self, counts.2)) (omega (arith, length_hints m sums draws counts.0)) c.loop-k.invariant.1
          (ap (λ (x : ℕ × ℕ). x.1) value ∙ sym at.hint),
    )

pub returns : goal.returns
returns g c =
    let m = g.R.Rule.meaning c.args.rule.now in
    let sums = c.args.sums.now in
    let draws = c.args.draws.now in
    let settled = settle_all m sums draws in
    let counts = c.requires.counts in
    record {
      digits = c.loop-k.invariant.0 ∙ padded_all 0 (length c.fill.new.self) c.loop-k.k (digits_of settled) (omega (arith, c.fill.auto.self, counts.1, length_digits m sums draws counts.0)) ∙ ap (λ n. padded 0 n (digits_of settled)) c.fill.auto.self;
      hints = c.loop-k.invariant.1 ∙ padded_all 0 (length c.fill-2.new.self) c.loop-k.k (hints_of settled) (omega (arith, c.fill-2.auto.self, counts.2, length_hints m sums draws counts.0)) ∙ ap (λ n. padded 0 n (hints_of settled)) c.fill-2.auto.self;
    }
