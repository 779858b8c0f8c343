-- The number, the place and the words of a refusal. Assumes nothing.
use Rattle.std.specs.Prelude.{ℕ, List, codes}
use Rattle.matrix.specs.Faults as source
use Rattle.wire.specs.Faults as message
use Rattle.ends.specs.declared.fault.EndFault.{EndFault}
use Rattle.ends.specs.declared.fault.EndFault.TheVariants.{Settings, Moduli, DrawCount, Draw, State, Spent, Place, Number, Again, Message, Source}

abbrev pub number : EndFault → ℕ
number Settings = 1
number Moduli = 3
number (DrawCount needed) = 5
number (Draw index) = 5
number State = 6
number Spent = 7
number Place = 8
number Number = 11
number Again = 12
number (Message fault) = message.number fault
number (Source fault) = source.number fault

abbrev pub place : EndFault → ℕ
place Settings = 0
place Moduli = 0
place (DrawCount needed) = needed
place (Draw index) = index
place State = 0
place Spent = 0
place Place = 0
place Number = 0
place Again = 0
place (Message fault) = message.place fault
place (Source fault) = source.place fault

abbrev pub words : EndFault → List ℕ
words Settings = codes "the columns or the law of an end are outside their limits"
words Moduli = codes "the rule and the source differ in their modulus"
words (DrawCount needed) = codes "the count of draws is wrong"
words (Draw index) = codes "a draw is out of range"
words State = codes "the state of the end does not allow the call"
words Spent = codes "the last session number is the largest"
words Place = codes "a place of the key is out of range"
words Number = codes "the message is of another session"
words Again = codes "the session was answered or keyed already"
words (Message fault) = message.words fault
words (Source fault) = source.words fault
