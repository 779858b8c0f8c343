-- An offer and an answer with n 2, la 1, lb 2, q 1000 and g 300, and what is refused of them. Assumes nothing.
use Rattle.std.specs.Prelude.{◌≡◌, ℕ, List, [], ◌∷◌, ◌++◌, take, Some, None, Ok, Err, slice_set}
use Rattle.std.specs.List.{range_with_len}
use Rattle.lwe.specs.Limits.{Dimensions}
use Rattle.wire.specs.declared.fault.WireFault.TheVariants.{Room, Short, Field, Shape, Entry}
use Rattle.wire.specs.declared.kind.Kind.TheVariants.{Offer, Answer}
use Rattle.lwe.specs.Matrices.{padded}
use Rattle.wire.specs.Headers.{header_fault}
use Rattle.wire.specs.Messages.{Fields, offer, answer, encode, decode, number_fault, write_reply, buffer_after}

abbrev pub small : Dimensions
small = record { n = 2; la = 1; lb = 2 }

abbrev pub small_offer : Fields
small_offer = offer 258 (range_with_len 0 32) (3 ∷ 999 ∷ [])

abbrev pub offer_bytes : List ℕ
offer_bytes =
    0 ∷ 1 ∷ 1 ∷ 2 ∷ 0 ∷ 2 ∷ 0 ∷ 1 ∷ 0 ∷ 16 ∷ 0 ∷ 48 ∷ 0 ∷ 0 ∷ 0 ∷ 52 ∷ (range_with_len 0 32 ++ (0 ∷ 3 ∷ 3 ∷ 231 ∷ []))

abbrev pub small_answer : Fields
small_answer = answer 258 (1 ∷ 256 ∷ 513 ∷ 999 ∷ []) (0 ∷ 299 ∷ [])

abbrev pub answer_bytes : List ℕ
answer_bytes =
    0 ∷ 2 ∷ 1 ∷ 2 ∷ 0 ∷ 2 ∷ 0 ∷ 2 ∷ 0 ∷ 16 ∷ 0 ∷ 24 ∷ 0 ∷ 2 ∷ 0 ∷ 28 ∷ 0 ∷ 1 ∷ 1 ∷ 0 ∷ 2 ∷ 1 ∷ 3 ∷ 231 ∷ 0 ∷ 0 ∷ 1 ∷ 43 ∷ []

-- the answer with another byte at a place
abbrev pub changed : ℕ → ℕ → List ℕ
changed place byte = slice_set answer_bytes place byte

pub record Examples : Type 0 where
  pub offer_written : encode small Offer small_offer ≡ offer_bytes
  pub offer_taken : header_fault small Offer offer_bytes ≡ None
  pub offer_states : decode small Offer offer_bytes ≡ small_offer
  pub answer_written : encode small Answer small_answer ≡ answer_bytes
  pub answer_taken : header_fault small Answer answer_bytes ≡ None
  pub answer_states : decode small Answer answer_bytes ≡ small_answer
  -- refusals of length and header
  pub empty : header_fault small Answer [] ≡ Some (Short 0)
  pub short : header_fault small Answer (take 15 answer_bytes) ≡ Some (Short 15)
  pub other_kind : header_fault small Answer offer_bytes ≡ Some (Field 0)
  pub no_session : header_fault small Answer (slice_set (changed 2 0) 3 0) ≡ Some (Field 2)
  pub other_rows : header_fault small Answer (changed 5 3) ≡ Some (Shape 4)
  pub other_columns : header_fault small Answer (changed 7 1) ≡ Some (Shape 6)
  pub other_first : header_fault small Answer (changed 9 17) ≡ Some (Field 8)
  pub other_second : header_fault small Answer (changed 11 25) ≡ Some (Field 10)
  pub other_hints : header_fault small Answer (changed 13 3) ≡ Some (Field 12)
  pub other_length : header_fault small Answer (changed 15 29) ≡ Some (Field 14)
  pub byte_more : header_fault small Answer (answer_bytes ++ (0 ∷ [])) ≡ Some (Field 14)
  pub byte_fewer : header_fault small Answer (take 27 answer_bytes) ≡ Some (Field 14)
  -- of two wrong fields the first counts
  pub rows_before_length : header_fault small Answer (slice_set (changed 5 3) 15 29) ≡ Some (Shape 4)
  -- refusals of numbers: entry 3 is 1000, hint 1 is 300; or both
  pub in_range : number_fault 1000 300 (decode small Answer answer_bytes) ≡ None
  pub entry_at_limit : number_fault 1000 300 (decode small Answer (changed 23 232)) ≡ Some (Entry 3)
  pub hint_at_limit : number_fault 1000 300 (decode small Answer (changed 27 44)) ≡ Some (Entry 5)
  pub entry_before_hint : number_fault 1000 300 (decode small Answer (slice_set (changed 27 44) 23 232)) ≡ Some (Entry 3)
  -- a buffer one byte short, and one that is just long enough
  pub no_room : write_reply small Answer 27 ≡ Err Room
  pub room : write_reply small Answer 28 ≡ Ok 28
  pub rest_stays : buffer_after (5 ∷ 6 ∷ []) (1 ∷ 2 ∷ 3 ∷ []) (Ok 2) ≡ 5 ∷ 6 ∷ 3 ∷ []
  pub zeros_behind : padded {X = ℕ} 0 4 (5 ∷ 6 ∷ []) ≡ 5 ∷ 6 ∷ 0 ∷ 0 ∷ []
