-- The number, the place and the words of a refusal. Assumes nothing.
use Rattle.std.specs.Prelude.{ℕ, List, codes}
use Rattle.consensus.specs.Replies as rules
use Rattle.trial_record.specs.declared.fault.TrialFault.{TrialFault}
use Rattle.trial_record.specs.declared.fault.TrialFault.TheVariants.{Refused, UnknownRule, CutShort}

abbrev pub number : TrialFault → ℕ
number (Refused fault) = rules.number fault
number UnknownRule = 1
number CutShort = 9

abbrev pub place : TrialFault → ℕ
place (Refused fault) = rules.place fault
place UnknownRule = 0
place CutShort = 0

abbrev pub words : TrialFault → List ℕ
words (Refused fault) = rules.words fault
words UnknownRule = codes "no rule has the number"
words CutShort = codes "the input ends within the record"
