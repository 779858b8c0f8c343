use Rattle.std.proofs.Common.{◌≡◌, string_bytes, length}
use Rattle.trial_record.proofs.Outputs.{Printed}
use Rattle.trial_record.proofs.line.lines.Given as goal

abbrev pub invariant-loop-record : goal.invariant-loop-record
invariant-loop-record l = Printed l.input (string_bytes l.text) (length l.yielded) l.record-iterator.rest.now × (l.record-iterator.size ≡ 14)
