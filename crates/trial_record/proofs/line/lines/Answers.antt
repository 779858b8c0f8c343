use Rattle.std.proofs.Common.{◌≡◌, ◌∙◌, ℕ, ◌+◌, ◌∷◌, [], ◌++◌, length, string_bytes, sym, ap, length-append}
use Rattle.std.specs.List.{range_with_len, flat_map}
use Rattle.trial_record.specs.Lines.{line, line_at}
use Rattle.trial_record.specs.Trials.{record_reply}
use Rattle.trial_record.proofs.Outputs.{one_more, all_printed}
use Rattle.trial_record.proofs.line.lines.Goals as goal

pub loop-record-preserved : goal.loop-record-preserved
loop-record-preserved c =
    let (size, (parts, long, some)) = c.in-Some.ensures.steps in
    let (printed, by) = c.loop-record.invariant in
    let x = c.in-Some.record in
    let count : length (c.loop-record.yielded ++ (x ∷ [])) ≡ length c.loop-record.yielded + 1 = length-append c.loop-record.yielded (x ∷ []) in
    let pushed : string_bytes c.push_str.new.self ≡ string_bytes c.loop-record.text ++ line (record_reply x.now) = cc (c.in_ok-push_str.ensures.bytes, c.as_str.ensures.value, c.in_ok-line.ensures) in
    (rw count (one_more x.now printed parts (rw by at long) some pushed c.in_ok-push_str-2.ensures.bytes), size ∙ by)

pub returns : goal.returns
returns c =
    let (printed, by) = c.loop-record.invariant in
    let whole = all_printed printed c.in-None.ensures.steps.1.0 in
    printed.lines ∙ ap (λ (n : ℕ). flat_map (line_at c.args.input.now) (range_with_len 0 n)) (sym whole)
