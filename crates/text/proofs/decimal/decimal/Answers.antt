use Rattle.std.proofs.Common.{◌+◌, ◌*◌, ◌≡◌, drop, sym, ◌∙◌, arith}
use Rattle.text.specs.Numbers.{decimal_value}
use Rattle.text.proofs.Reading.{read_from, one_digit, too_large}
use Rattle.text.proofs.decimal.decimal.Goals as goal
use Rattle.text.proofs.decimal.decimal.Goals.{In_ok-digit}

-- the invariant, one digit further
one_more : (c : In_ok-digit)
    → decimal_value c.args.word.now ≡ read_from (c.loop-byte.value * 10 + c.in_ok-digit.digit) (drop (c.loop-byte.byte-index + 1) c.args.word.now)
one_more c =
    c.loop-byte.invariant.1
    ∙ one_digit c.loop-byte.value c.in_ok-digit.digit c.from.result c.args.word.now c.loop-byte.byte-index
    c.loop-byte-test.true c.from.ensures c.in_ok-digit.ensures.value

pub returns-in_err-checked_mul : goal.returns-in_err-checked_mul
returns-in_err-checked_mul c =
    c.from_residual-in_err-checked_mul.ensures
    ∙ sym
    (one_more (goal.at.returns-in_err-checked_mul c).In_ok-digit
    ∙ too_large (c.loop-byte.value * 10 + c.in_ok-digit.digit) (drop (c.loop-byte.byte-index + 1) c.args.word.now)
    (omega (arith, c.in_err-checked_mul.ensures)))

pub returns-in_err-value : goal.returns-in_err-value
returns-in_err-value c =
    c.from_residual-in_err-value.ensures
    ∙ sym
    (one_more (goal.at.returns-in_err-value c).In_ok-digit
    ∙ too_large (c.loop-byte.value * 10 + c.in_ok-digit.digit) (drop (c.loop-byte.byte-index + 1) c.args.word.now)
    (omega (arith, c.in_err-value.ensures, c.in_ok-checked_mul.ensures.1)))
