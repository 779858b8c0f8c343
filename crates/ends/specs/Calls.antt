-- What the calls of both ends have in common. Assumes nothing.
use Rattle.std.specs.Prelude.{ℕ, ◌*◌, List, ◌++◌, length, drop, Some, None, Err, Option, Result, nat_lt, slice_index}
use Rattle.matrix.specs.Matrices.{Matrices}
use Rattle.matrix.specs.declared.fault.SourceFault.TheVariants.{UnknownSeed}
use Rattle.wire.specs.declared.fault.WireFault.{WireFault}
use Rattle.ends.specs.declared.fault.EndFault.{EndFault}
use Rattle.ends.specs.declared.fault.EndFault.TheVariants.{State, Place, Message, Source}
use Rattle.ends.specs.Refusals.{check, unless}
use Rattle.ends.specs.Settings.{Setting}

-- a fault of a message is a fault of the call
abbrev pub of_message : Option WireFault → Option EndFault
of_message None = None
of_message (Some fault) = Some (Message fault)

-- a seed is refused that the source does not know
abbrev pub seed_fault : Matrices → List ℕ → Option EndFault
seed_fault m seed = check (m.known seed) (Source UnknownSeed) None

-- a message at the front of a buffer, and the bytes behind it as they were
abbrev pub written : List ℕ → List ℕ → List ℕ
written message room = message ++ drop (length message) room

-- a digit is read while the key is there
abbrev pub read_reply : Setting → (key : Option (List ℕ)) → (place : ℕ) → Result ℕ EndFault
read_reply s None place = Err State
read_reply s (Some digits) place = unless (check (nat_lt place (s.la * s.lb)) Place None) (slice_index digits place)
