-- What a record gives. Assumes nothing.
use Rattle.std.specs.Prelude.{ℕ, ◌+◌, ◌*◌, cond, List, length, Ok, Err, Result, ◌==◌, nat_le, slice_index}
use Rattle.std.specs.Result.{result_map_both}
use Rattle.consensus.specs.Carried.{carry_reply}
use Rattle.consensus.specs.Consensus.{Consensus}
use Rattle.consensus.specs.Replies.{check, followed, okcn_built, akcn_built}
use Rattle.consensus.specs.declared.fault.RuleFault.{RuleFault}
use Rattle.trial_record.specs.declared.fault.TrialFault.{TrialFault}
use Rattle.trial_record.specs.declared.fault.TrialFault.TheVariants.{Refused, UnknownRule, CutShort}
use Rattle.trial_record.specs.declared.record.Outcome.{Outcome}
use Rattle.trial_record.specs.declared.record.Record.{Record}

-- the 16-bit number at byte i, high byte first
abbrev pub word : List ℕ → ℕ → ℕ
word bytes i = slice_index bytes i * 256 + slice_index bytes (i + 1)

abbrev pub record_at : List ℕ → Record
record_at bytes = record {
  rule = word bytes 0;
  q = word bytes 2;
  m = word bytes 4;
  g = word bytes 6;
  sum = word bytes 8;
  draw = word bytes 10;
  second = word bytes 12;
}

abbrev pub read_reply : List ℕ → Result Record TrialFault
read_reply bytes = check (nat_le 14 (length bytes)) CutShort (Ok (record_at bytes))

-- settling and recovering by the rule c
abbrev pub attempt : Consensus → Record → Result Outcome RuleFault
attempt c r =
    result_map_both
    (λ carried. record {
      digit = carried.digit;
      hint = carried.hint;
      recovered = carried.recovered;
      distance = c.distance;
    })
    (λ fault. fault) (carry_reply c r.sum r.draw r.second)

-- the same by a rule that may not have been built
abbrev pub attempt_with : Result Consensus RuleFault → Record → Result Outcome TrialFault
attempt_with built r = result_map_both (λ outcome. outcome) Refused (followed built (λ c. attempt c r))

-- 1 is OKCN, 2 is AKCN
abbrev pub run_reply : Record → Result Outcome TrialFault
run_reply r =
    cond (r.rule == 1) (attempt_with (okcn_built r.q r.m r.g) r)
    (cond (r.rule == 2) (attempt_with (akcn_built r.q r.m r.g) r) (Err UnknownRule))

abbrev pub record_reply : List ℕ → Result Outcome TrialFault
record_reply bytes = followed (read_reply bytes) run_reply
