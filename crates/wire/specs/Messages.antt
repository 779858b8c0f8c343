-- Offers and answers: how they are written and read, and which of their numbers are refused. Assumes nothing.
use Rattle.std.specs.Prelude.{◌≡◌, ℕ, ◌+◌, ◌*◌, ◌<◌, cond, List, [], ◌∷◌, ◌++◌, length, take, drop, None, Ok, Err, Option, Result, ◌≢◌, nat_le, nat_lt, slice_index}
use Rattle.lwe.specs.Limits.{Dimensions}
use Rattle.wire.specs.declared.fault.WireFault.{WireFault}
use Rattle.wire.specs.declared.fault.WireFault.TheVariants.{Room, Entry}
use Rattle.wire.specs.declared.kind.Kind.{Kind}
use Rattle.wire.specs.declared.kind.Kind.TheVariants.{Offer, Answer}
use Rattle.wire.specs.Bytes.{number_at, bytes_of, numbers_of}
use Rattle.wire.specs.Faults.{unless, first_of}
use Rattle.wire.specs.Headers.{message_length, header, fields, header_fault}

-- the fields of a message: an offer has no hints, and an answer no seed
pub record Fields : Type 0 where
  pub session : ℕ
  pub seed : List ℕ
  pub entries : List ℕ
  pub hints : List ℕ

abbrev pub message : ℕ → List ℕ → List ℕ → List ℕ → Fields
message session seed entries hints = record { session = session; seed = seed; entries = entries; hints = hints }

abbrev pub offer : ℕ → List ℕ → List ℕ → Fields
offer session seed entries = message session seed entries []

abbrev pub answer : ℕ → List ℕ → List ℕ → Fields
answer session entries hints = message session [] entries hints

abbrev pub seed_size : Kind → ℕ
seed_size Offer = 32
seed_size Answer = 0

abbrev pub entry_count : Dimensions → Kind → ℕ
entry_count s Offer = s.n * s.la
entry_count s Answer = s.n * s.lb

abbrev pub hint_count : Dimensions → Kind → ℕ
hint_count s Offer = 0
hint_count s Answer = s.la * s.lb

-- the bytes of a message: header, seed, entries, hints
abbrev pub encode : Dimensions → Kind → Fields → List ℕ
encode s k f = bytes_of (fields (header s k f.session)) ++ (f.seed ++ bytes_of (f.entries ++ f.hints))

-- the fields that a message states
abbrev pub decode : Dimensions → Kind → List ℕ → Fields
decode s k m =
    let rest = numbers_of (drop (16 + seed_size k) m) in
    record {
      session = number_at m 2;
      seed = take (seed_size k) (drop 16 m);
      entries = take (entry_count s k) rest;
      hints = drop (entry_count s k) rest;
    }

-- as many of each as the sizes say
pub record Sized (s : Dimensions) (k : Kind) (f : Fields) : Type 0 where
  pub seed : length f.seed ≡ seed_size k
  pub entries : length f.entries ≡ entry_count s k
  pub hints : length f.hints ≡ hint_count s k

-- a taken message states these fields, and is the writing of them: no other message states the same
pub record Taken (s : Dimensions) (k : Kind) (m : List ℕ) (f : Fields) : Type 0 where
  pub decoded : f ≡ decode s k m
  pub session : f.session ≡ 0 → ⊥
  pub sized : Sized s k f
  pub written : m ≡ encode s k f

-- the first number that is not below the limit, where the first of the list counts as number i
abbrev pub over : ℕ → ℕ → List ℕ → Option WireFault
over limit i [] = None
over limit i (x ∷ xs) = unless (nat_lt x limit) (Entry i) (over limit (i + 1) xs)

-- the first entry that is not below q, then the first hint that is not below g, counted on from the entries
abbrev pub number_fault : (q g : ℕ) → Fields → Option WireFault
number_fault q g f = first_of (over q 0 f.entries) (over g (length f.entries) f.hints)

abbrev pub Below : ℕ → List ℕ → Type 0
Below limit xs = (i : ℕ) → i < length xs → slice_index xs i < limit

pub record InRange (q g : ℕ) (f : Fields) : Type 0 where
  pub entries : Below q f.entries
  pub hints : Below g f.hints

-- the message of these fields passes the check of its header, states them, and, if they are in range, passes the check of its numbers
pub record ReadsBack (s : Dimensions) (k : Kind) (f : Fields) : Type 0 where
  pub header : header_fault s k (encode s k f) ≡ None
  pub decoded : decode s k (encode s k f) ≡ f
  pub numbers : (q g : ℕ) → InRange q g f → number_fault q g (decode s k (encode s k f)) ≡ None

abbrev pub write_reply : Dimensions → Kind → ℕ → Result ℕ WireFault
write_reply s k room = cond (nat_le (message_length s k) room) (Ok (message_length s k)) (Err Room)

-- the message stands at the front of the buffer and the bytes behind it stay; refused, all stay
abbrev pub buffer_after : List ℕ → List ℕ → Result ℕ WireFault → List ℕ
buffer_after m before (Ok size) = m ++ drop size before
buffer_after m before (Err fault) = before

pub record Written (s : Dimensions) (k : Kind) (f : Fields) (before after : List ℕ) (r : Result ℕ WireFault) : Type 0 where
  pub answer : r ≡ write_reply s k (length before)
  pub long : length (encode s k f) ≡ message_length s k
  pub buffer : after ≡ buffer_after (encode s k f) before r
  pub back : (f.session ≢ 0) → ReadsBack s k f
