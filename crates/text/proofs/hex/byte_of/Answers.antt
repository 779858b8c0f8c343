use Rattle.std.proofs.Common.{◌≡◌, Some, None, Ok, Err, Result, ap, ◌∙◌, arith}
use Rattle.std.specs.Result.{OkIff, result_ok}
use Rattle.text.proofs.Reading.{byte_read}
use Rattle.text.proofs.hex.byte_of.Goals as goal

given : {X E P : Type 0} (r : Result X E) (x : X) → OkIff r P x → P → result_ok r ≡ Some x
given (Ok y) x h p = ap Some h.1
given (Err e) x h p = absurd (h p)

pub returns-in_err-low : goal.returns-in_err-low
returns-in_err-low c =
    c.from_residual-in_err-low.ensures
    ∙ byte_read c.args.high c.args.low c.in_ok-high.high c.from.result c.from-2.result None c.from.ensures c.from-2.ensures
    c.in_ok-high.ensures.value c.in_err-low.ensures.value

pub returns : goal.returns
returns c =
    c.ok.ensures.value
    ∙ given c.try_from.result _ c.try_from.ensures (omega (arith, c.in_ok-high.ensures.value, c.in_ok-low.ensures.value))
    ∙ byte_read c.args.high c.args.low c.in_ok-high.high c.from.result c.from-2.result (Some c.in_ok-low.low) c.from.ensures c.from-2.ensures
    c.in_ok-high.ensures.value c.in_ok-low.ensures.value
