-- A message reads back as its fields, and is their only writing. Assumes nothing.
use Rattle.std.proofs.Common.{◌≡◌, ℕ, ◌+◌, ◌*◌, List, [], ◌++◌, length, take, drop, None, sym, refl, ap, ◌∙◌, subst, append_assoc, arith}
use Rattle.std.proofs.lemmas.List.{drop_all, drop-drop, drop_at, take_all, take_at, take-append-drop, length-append, length-drop, length-take-le, get_or-drop}
use Rattle.std.proofs.lemmas.Bool.{cond-true, le-leb}
use Rattle.lwe.specs.Limits.{Dimensions}
use Rattle.wire.specs.declared.kind.Kind.{Kind}
use Rattle.wire.specs.declared.kind.Kind.TheVariants.{Offer, Answer}
use Rattle.wire.specs.Bytes.{number_at, bytes_of, numbers_of}
use Rattle.wire.specs.Faults.{first_of}
use Rattle.wire.specs.Headers.{message_length, header, fields, header_of, short_fault, field_fault, header_fault}
use Rattle.wire.specs.Messages.{Fields, offer, answer, seed_size, entry_count, hint_count, encode, decode, Sized, Taken, number_fault, ReadsBack}
use Rattle.wire.proofs.Checks.{sound, fields_fine, header_number, header_length, below_over}
use Rattle.wire.proofs.Heads.{head_back, head_only}
use Rattle.wire.proofs.Laws.{Bytes, numbers_bytes, bytes_numbers, length_bytes, length_numbers, take_numbers, drop_numbers}

pub layout : (s : Dimensions) (k : Kind) → message_length s k ≡ 16 + seed_size k + 2 * (entry_count s k + hint_count s k)
layout s Offer = omega arith
layout s Answer = omega arith

-- a message of the right length states as many of each as the sizes say
sized : (s : Dimensions) (k : Kind) (m : List ℕ) → length m ≡ message_length s k → Sized s k (decode s k m)
sized s k m e =
    let body = drop (16 + seed_size k) m in
    let long = layout s k in
    let rest = length-drop (16 + seed_size k) m in
    let count = length_numbers body in
    record {
      seed = length-take-le (seed_size k) (drop 16 m) (omega (arith, length-drop 16 m));
      entries = length-take-le (entry_count s k) (numbers_of body) (omega arith);
      hints = omega (arith, length-drop (entry_count s k) (numbers_of body));
    }

module _ (s : Dimensions) (k : Kind) (m : List ℕ) (none : header_fault s k m ≡ None) (bytes : Bytes m) where
  only : m ≡ encode s k (decode s k m)
  only =
      let right = sound s k m none in
      let start = 16 + seed_size k in
      let n = entry_count s k in
      let ns = numbers_of (drop start m) in
      let seed = take (seed_size k) (drop 16 m) in
      let even = bytes_numbers (drop start m) (n + hint_count s k)
      (omega (arith, length-drop start m, right.long, layout s k))
      (λ i. omega (arith, get_or-drop start m i 0, bytes (start + i))) in
      let rest : drop (seed_size k) (drop 16 m) ≡ bytes_of (take n ns ++ drop n ns) =
      drop-drop (seed_size k) 16 m ∙ sym even ∙ ap bytes_of (sym (take-append-drop n ns)) in
      let tail : drop 16 m ≡ seed ++ bytes_of (take n ns ++ drop n ns) =
      sym (take-append-drop (seed_size k) (drop 16 m)) ∙ ap (λ t. seed ++ t) rest in
      head_only m bytes right.enough ∙ (λ i. bytes_of (fields (right.states i)) ++ tail i)

  pub taken : (f : Fields) → f ≡ decode s k m → Taken s k m f
  taken f e =
      let right = sound s k m none in
      let stated : Taken s k m (decode s k m) = record {
        decoded = refl;
        session = right.session;
        sized = sized s k m right.long;
        written = only;
      } in
      subst (Taken s k m) (sym e) stated

-- what the views of a message state, where `body` is what stands behind its header
pub offer_stated : (s : Dimensions) (m body seed entries : List ℕ) (session : ℕ)
    → length m ≡ message_length s Offer → session ≡ number_at m 2 → body ≡ drop 16 m
    → seed ≡ take 32 body → entries ≡ numbers_of (drop 32 body) → offer session seed entries ≡ decode s Offer m
offer_stated s m body seed entries session long same is front back =
    let ns = numbers_of (drop 48 m) in
    let few : length ns ≡ s.n * s.la = omega (arith, length_numbers (drop 48 m), length-drop 48 m) in
    let all : entries ≡ ns = back ∙ (λ i. numbers_of (drop 32 (is i))) ∙ ap numbers_of (drop-drop 32 16 m) in
    let whole : entries ≡ take (s.n * s.la) ns = all ∙ sym (take_all (s.n * s.la) ns (omega arith)) in
    let none : [] ≡ drop (s.n * s.la) ns = sym (drop_all (s.n * s.la) ns (omega arith)) in
    let first : seed ≡ take 32 (drop 16 m) = front ∙ ap (take 32) is in
    λ i. record { session = same i; seed = first i; entries = whole i; hints = none i }

pub answer_stated : (s : Dimensions) (m body entries hints : List ℕ) (session : ℕ) → session ≡ number_at m 2 → body ≡ drop 16 m
    → entries ≡ numbers_of (take (2 * (s.n * s.lb)) body) → hints ≡ numbers_of (drop (2 * (s.n * s.lb)) body)
    → answer session entries hints ≡ decode s Answer m
answer_stated s m body entries hints session same is front back =
    let n = s.n * s.lb in
    let first = front ∙ (λ i. numbers_of (take (2 * n) (is i))) ∙ take_numbers n (drop 16 m) in
    let second = back ∙ (λ i. numbers_of (drop (2 * n) (is i))) ∙ drop_numbers n (drop 16 m) in
    λ i. record { session = same i; seed = []; entries = first i; hints = second i }

pub encode_long : (s : Dimensions) (k : Kind) (f : Fields) → Sized s k f → length (encode s k f) ≡ message_length s k
encode_long s k f r =
    let ns = f.entries ++ f.hints in
    let h = bytes_of (fields (header s k f.session)) in
    let long = layout s k in
    omega (
      arith,
      length-append h (f.seed ++ bytes_of ns),
      length-append f.seed (bytes_of ns),
      length_bytes ns,
      length-append f.entries f.hints,
      r.seed,
      r.entries,
      r.hints,
    )

-- fields, written, have no fault in their header and read back
pub reads_back : (s : Dimensions) (k : Kind) (f : Fields) → Sized s k f → (f.session ≡ 0 → ⊥) → ReadsBack s k f
reads_back s k f r given =
    let due = header s k f.session in
    let n = entry_count s k in
    let ns = f.entries ++ f.hints in
    let h = bytes_of (fields due) in
    let tail = f.seed ++ bytes_of ns in
    let m = h ++ tail in
    let states = head_back due tail in
    let session : number_at m 2 ≡ f.session = ap (λ h. h.number) states ∙ header_number s k f.session in
    let long = layout s k in
    let a = r.seed in
    let b = r.entries in
    let start : length (h ++ f.seed) ≡ 16 + seed_size k = omega (arith, length-append h f.seed) in
    let size = encode_long s k f r in
    let body : numbers_of (drop (16 + seed_size k) m) ≡ ns =
    ap (λ t. numbers_of (drop (16 + seed_size k) t)) (sym (append_assoc h f.seed (bytes_of ns)))
    ∙ ap numbers_of (drop_at (h ++ f.seed) (bytes_of ns) (16 + seed_size k) start) ∙ numbers_bytes ns in
    let short : short_fault m ≡ None = cond-true _ _ _ (le-leb 16 (length m) (omega arith)) in
    let right : field_fault due due (length m) ≡ None =
    fields_fine due (length m) (λ z. given (sym (header_number s k f.session) ∙ z)) (size ∙ sym (header_length s k f.session)) in
    let heads : field_fault (header_of m) (header s k (number_at m 2)) (length m) ≡ None =
    (λ i. field_fault (states i) (header s k (session i)) (length m)) ∙ right in
    let decoded : decode s k m ≡ f = λ i. record {
      session = session i;
      seed = take_at f.seed (bytes_of ns) (seed_size k) a i;
      entries = (ap (take n) body ∙ take_at f.entries f.hints n b) i;
      hints = (ap (drop n) body ∙ drop_at f.entries f.hints n b) i;
    } in
    record {
      header = λ i. first_of (short i) (heads i);
      decoded = decoded;
      numbers = λ q g in_range.
          let entries = below_over q 0 f.entries in_range.entries in
          let hints = below_over g (length f.entries) f.hints in_range.hints in
          ap (number_fault q g) decoded ∙ (λ i. first_of (entries i) (hints i));
    }
