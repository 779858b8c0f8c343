-- The header of a message, and its faults. Assumes nothing.
use Rattle.std.specs.Prelude.{ℕ, ◌+◌, ◌*◌, not, List, [], ◌∷◌, length, None, Option, ◌==◌, nat_le}
use Rattle.lwe.specs.Limits.{Dimensions}
use Rattle.wire.specs.declared.fault.WireFault.{WireFault}
use Rattle.wire.specs.declared.fault.WireFault.TheVariants.{Short, Field, Shape}
use Rattle.wire.specs.declared.header.Header.{Header}
use Rattle.wire.specs.declared.kind.Kind.{Kind}
use Rattle.wire.specs.declared.kind.Kind.TheVariants.{Offer, Answer}
use Rattle.wire.specs.Bytes.{number_at}
use Rattle.wire.specs.Faults.{unless, first_unless, first_of}

-- the number that stands for a kind
abbrev pub kind_number : Kind → ℕ
kind_number Offer = 1
kind_number Answer = 2

abbrev pub message_length : Dimensions → Kind → ℕ
message_length s Offer = 48 + 2 * (s.n * s.la)
message_length s Answer = 16 + 2 * (s.n * s.lb) + 2 * (s.la * s.lb)

-- an offer has its seed at 16 and Y1 at 48; an answer has Y2 at 16 and its hints behind it
abbrev pub header : Dimensions → Kind → ℕ → Header
header s Offer session = record {
  kind = kind_number Offer;
  number = session;
  rows = s.n;
  columns = s.la;
  first = 16;
  second = 48;
  hints = 0;
  length = message_length s Offer;
}
header s Answer session = record {
  kind = kind_number Answer;
  number = session;
  rows = s.n;
  columns = s.lb;
  first = 16;
  second = 16 + 2 * (s.n * s.lb);
  hints = s.la * s.lb;
  length = message_length s Answer;
}

-- its numbers in their order
abbrev pub fields : Header → List ℕ
fields h = h.kind ∷ h.number ∷ h.rows ∷ h.columns ∷ h.first ∷ h.second ∷ h.hints ∷ h.length ∷ []

-- the header that a message states
abbrev pub header_of : List ℕ → Header
header_of m = record {
  kind = number_at m 0;
  number = number_at m 2;
  rows = number_at m 4;
  columns = number_at m 6;
  first = number_at m 8;
  second = number_at m 10;
  hints = number_at m 12;
  length = number_at m 14;
}

abbrev pub short_fault : List ℕ → Option WireFault
short_fault m = unless (nat_le 16 (length m)) (Short (length m)) None

-- the first fault of a header in a message of `size` bytes, field by field, where `due` is right.
-- The last field is right only if it states the length due and the message has that length.
abbrev pub field_fault : Header → Header → ℕ → Option WireFault
field_fault got due size =
    first_unless (
    (got.kind == due.kind, Field 0)
    ∷ (not (got.number == 0), Field 2)
    ∷ (got.rows == due.rows, Shape 4)
    ∷ (got.columns == due.columns, Shape 6)
    ∷ (got.first == due.first, Field 8)
    ∷ (got.second == due.second, Field 10)
    ∷ (got.hints == due.hints, Field 12)
    ∷ (got.length == due.length, Field 14)
    ∷ (size == due.length, Field 14)
    ∷ []
    )

-- the first fault of a message's length and header; any session but 0 is right
abbrev pub header_fault : Dimensions → Kind → List ℕ → Option WireFault
header_fault s k m = first_of (short_fault m) (field_fault (header_of m) (header s k (number_at m 2)) (length m))
