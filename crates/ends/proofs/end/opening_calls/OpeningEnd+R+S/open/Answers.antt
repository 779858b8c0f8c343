use Rattle.std.proofs.Common.{◌≡◌, ◌+◌, ◌*◌, ◌≤◌, length, take, None, Ok, ap, ◌∙◌, rules}
use Rattle.std.proofs.lemmas.Nat.{mul-le}
use Rattle.lwe.specs.Limits.{Dimensions, dimensions}
use Rattle.lwe.specs.Matrices.{by_rows}
use Rattle.wire.specs.Headers.{message_length}
use Rattle.wire.specs.Messages.{offer, encode}
use Rattle.wire.specs.declared.kind.Kind.TheVariants.{Offer}
use Rattle.ends.specs.Ends.{setting}
use Rattle.ends.specs.Calls.{seed_fault, written}
use Rattle.ends.specs.OpeningCalls.{open_checks, opening}
use Rattle.ends.specs.OpeningStates.{offered, opened}
use Rattle.ends.specs.Settings.{extent}
use Rattle.ends.proofs.Arrays.{front, length_by_rows}
use Rattle.ends.proofs.Checking.{no_fault, the_value}
use Rattle.ends.proofs.Limits.{dimensions_are, kept_setting}
use Rattle.ends.proofs.Writing.{write_size, write_buffer}
use Rattle.ends.proofs.end.opening_calls.«OpeningEnd+R+S».open.Goals as goal

pub returns-clause-opens : goal.returns-clause-opens
returns-clause-opens g c =
    let e = c.args.self.now in
    let rule_of = g.R.Rule.meaning in
    let matrices_of = g.S.MatrixSource.meaning in
    let s = setting rule_of matrices_of e.works in
    let seed = c.args.seed.now in
    let words = c.args.draws.now in
    let room = c.args.out.now in
    let fine : open_checks s e.state words (length room) ≡ None = no_fault _ (e.state.number + 1) c.next.ensures c.in_ok-number.was in
    let known : seed_fault s.matrices seed ≡ None = no_fault _ tt c.look_up.ensures.answer c.in_ok-look_up.was in
    let session : c.in_ok-number.number ≡ e.state.number + 1 = the_value (open_checks s e.state words (length room)) (e.state.number + 1) c.next.ensures c.in_ok-number.was in
    let found = kept_setting rule_of matrices_of c.look_up.ensures.kept in
    let kept = kept_setting rule_of matrices_of c.open.ensures.works ∙ found in
    let h = c.sizes.ensures in
    let z = c.sizes.result in
    let dims : dimensions z ≡ extent s = dimensions_are (setting rule_of matrices_of c.open.new.works) z h ∙ ap extent kept in
    let state : c.open.new.self ≡ opening s e.state seed words = c.open.ensures.state ∙ (λ i. opened (found i) (session i) seed words) in
    let n = s.matrices.side in
    let Y = offered s.rule.modulus n s.la s.matrices s.law seed words in
    let sound = (g.met.S.MatrixSource.sound e.works.source).side in
    let small : n * s.la ≤ 8192 = mul-le n s.la 1024 8 sound.1 e.works.opening.1 in
    let entries : take (z.n * z.la) c.open.new.self.image ≡ by_rows n s.la Y =
    (λ i. take ((dims i).n * (dims i).la) (state i).image) ∙ front 0 8192 (n * s.la) (by_rows n s.la Y) (length_by_rows n s.la Y) small in
    let size = write_size c.write_offer.ensures c.unwrap.ensures ∙ ap (λ (d : Dimensions). message_length d Offer) dims in
    record {
      answer = ap Ok size ∙ rw (fine, known);
      wiped = search rules;
      cases = (state, write_buffer c.write_offer.ensures c.unwrap.ensures ∙ (λ i. written (encode (dims i) Offer (offer (session i) seed (entries i))) room));
    }
