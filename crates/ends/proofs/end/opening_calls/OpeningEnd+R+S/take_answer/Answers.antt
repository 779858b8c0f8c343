use Rattle.std.proofs.Common.{◌≡◌, ℕ, ◌-◌, ◌*◌, ◌≤◌, List, length, take, Ok, ap, ◌∙◌, arith}
use native.Mathlib.Nat.{sub-zero}
use Rattle.std.proofs.lemmas.Nat.{mul-le}
use Rattle.lwe.specs.Matrices.{padded}
use Rattle.wire.specs.Messages.{Fields, decode}
use Rattle.wire.specs.Views.{answered, list}
use Rattle.wire.specs.declared.kind.Kind.TheVariants.{Answer}
use Rattle.ends.specs.Ends.{setting}
use Rattle.ends.specs.OpeningCalls.{taking}
use Rattle.ends.specs.OpeningStates.{keyed}
use Rattle.ends.specs.Settings.{extent}
use Rattle.ends.proofs.Arrays.{front}
use Rattle.ends.proofs.OpeningCalls.{take_number, keyed_entries}
use Rattle.ends.proofs.end.opening_calls.«OpeningEnd+R+S».take_answer.Goals as goal

-- the hints that are handed on
hints_are : (places n : ℕ) (hints array : List ℕ) → places ≡ n → length hints ≡ n → n ≤ 64 → array ≡ padded 0 64 hints → take (places - 0) array ≡ hints
hints_are places n hints array p long fits e = rw (sub-zero places, p, e) (front 0 64 n hints long fits)

pub key_by-requires-clause-below : goal.key_by-requires-clause-below
key_by-requires-clause-below g c =
    let w = c.args.self.now.works in
    let read = c.in_ok-answer.ensures in
    let a = c.in_ok-answer.answer in
    let few : w.la * w.lb ≤ 64 = mul-le w.la w.lb 8 8 w.opening.1 w.answering.1 in
    rw (hints_are c.places.result (w.la * w.lb) (list a.hints) c.to_array-hints.result c.places.ensures read.1.sized.hints few c.to_array-hints.ensures) read.2.hints

pub returns-clause-takes : goal.returns-clause-takes
returns-clause-takes g c =
    let e = c.args.self.now in
    let s = setting g.R.Rule.meaning g.S.MatrixSource.meaning e.works in
    let sound = (g.met.S.MatrixSource.sound e.works.source).side in
    let message = c.args.message.now in
    let read = c.in_ok-answer.ensures in
    let a = c.in_ok-answer.answer in
    let decoded : answered a ≡ decode (extent s) Answer message = read.1.decoded in
    let few : s.la * s.lb ≤ 64 = mul-le s.la s.lb 8 8 e.works.opening.1 e.works.answering.1 in
    let is = hints_are c.places.result (s.la * s.lb) (list a.hints) c.to_array-hints.result c.places.ensures read.1.sized.hints few c.to_array-hints.ensures in
    let small : s.matrices.side * s.lb ≤ 8192 = mul-le s.matrices.side s.lb 1024 8 sound.1 e.works.answering.1 in
    let entries : length (list a.entries) ≤ 8192 = omega (arith, read.1.sized.entries) in
    let session : a.number ≡ e.state.number = ap (λ (f : Fields). f.session) decoded ∙ take_number s e.state message read.0 in
    let state : c.key_by.new.self ≡ taking s e.state message =
    c.key_by.ensures
    ∙ (λ i. keyed s (c.to_array-y2.ensures i) (is i) e.state)
    ∙ keyed_entries s (list a.entries) (list a.hints) e.state entries
    ∙ (λ i. keyed s (decoded i).entries (decoded i).hints e.state) in
    record { answer = ap Ok session ∙ rw read.0; cases = state }
