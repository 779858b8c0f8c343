use Rattle.std.proofs.Common.{◌≡◌, ◌*◌, ◌≤◌, length, take, None, Ok, sym, ap, ◌∙◌, arith, rules}
use Rattle.std.proofs.lemmas.Nat.{mul-le}
use Rattle.consensus.specs.Consensus.{hints_of}
use Rattle.lwe.specs.Limits.{Dimensions, dimensions}
use Rattle.lwe.specs.Matrices.{by_rows}
use Rattle.wire.specs.Headers.{message_length}
use Rattle.wire.specs.Messages.{Fields, answer, decode, encode}
use Rattle.wire.specs.Views.{list, offered}
use Rattle.wire.specs.declared.kind.Kind.TheVariants.{Answer, Offer}
use Rattle.ends.specs.AnsweringCalls.{hear_checks, hearing}
use Rattle.ends.specs.AnsweringStates.{answered, heard, settled}
use Rattle.ends.specs.Calls.{seed_fault, written}
use Rattle.ends.specs.Ends.{setting}
use Rattle.ends.specs.Settings.{extent}
use Rattle.ends.proofs.AnsweringCalls.{hear_drawn, hear_count, hints_count}
use Rattle.ends.proofs.Arrays.{front, length_by_rows}
use Rattle.ends.proofs.Checking.{no_fault}
use Rattle.ends.proofs.Limits.{dimensions_are, kept_setting}
use Rattle.ends.proofs.Writing.{write_size, write_buffer}
use Rattle.ends.proofs.end.answering_calls.«AnsweringEnd+R+S».hear.Goals as goal

pub hear-requires-clause-entries : goal.hear-requires-clause-entries
hear-requires-clause-entries g c =
    let w = c.args.self.now.works in
    let side = (g.met.S.MatrixSource.sound w.source).side in
    let few = mul-le (g.S.MatrixSource.meaning w.source).side w.la 1024 8 side.1 w.opening.1 in
    omega (arith, few, c.in_ok-offer.ensures.1.sized.entries)

pub returns-clause-hears : goal.returns-clause-hears
returns-clause-hears g c =
    let e = c.args.self.now in
    let rule_of = g.R.Rule.meaning in
    let matrices_of = g.S.MatrixSource.meaning in
    let s = setting rule_of matrices_of e.works in
    let n = s.matrices.side in
    let la = s.la in
    let lb = s.lb in
    let message = c.args.message.now in
    let words = c.args.draws.now in
    let room = c.args.out.now in
    let read = c.in_ok-offer.ensures in
    let a = c.in_ok-offer.offer in
    let decoded : offered a ≡ decode (extent s) Offer message = read.1.decoded in
    let fine : hear_checks s words (length room) ≡ None = no_fault _ tt c.prepare.ensures c.in_ok-prepare.was in
    let known : seed_fault s.matrices a.seed ≡ None = no_fault _ tt c.look_up.ensures.answer c.in_ok-look_up.was in
    let known_stated : seed_fault s.matrices (decode (extent s) Offer message).seed ≡ None = ap (λ (f : Fields). seed_fault s.matrices f.seed) (sym decoded) ∙ known in
    let found = kept_setting rule_of matrices_of c.look_up.ensures.kept in
    let kept = kept_setting rule_of matrices_of c.hear.ensures.works ∙ found in
    let h = c.sizes.ensures in
    let z = c.sizes.result in
    let dims : dimensions z ≡ extent s = dimensions_are (setting rule_of matrices_of c.hear.new.works) z h ∙ ap extent kept in
    let sound = (g.met.S.MatrixSource.sound e.works.source).side in
    let state : c.hear.new.self ≡ hearing s message words =
    c.hear.ensures.state
    ∙ (λ i. heard (found i) a.number a.seed (list a.entries) words)
    ∙ (λ i. heard s (decoded i).session (decoded i).seed (decoded i).entries words) in
    let offer = decode (extent s) Offer message in
    let Y = answered s.rule.modulus n lb s.matrices s.law offer.seed words in
    let hints = hints_of (settled n la lb s.rule s.law offer.entries words) in
    let small : n * lb ≤ 8192 = mul-le n lb 1024 8 sound.1 e.works.answering.1 in
    let places : la * lb ≤ 64 = mul-le la lb 8 8 e.works.opening.1 e.works.answering.1 in
    let sent : take (z.n * z.lb) c.hear.new.self.image ≡ by_rows n lb Y =
    (λ i. take ((dims i).n * (dims i).lb) (state i).image) ∙ front 0 8192 (n * lb) (by_rows n lb Y) (length_by_rows n lb Y) small in
    let hinted : take (z.la * z.lb) c.hear.new.self.hints ≡ hints =
    (λ i. take ((dims i).la * (dims i).lb) (state i).hints) ∙ front 0 64 (la * lb) hints (hints_count n la lb s.rule s.law offer.entries words (hear_count s words (hear_drawn s words (length room) fine))) places in
    let size = write_size c.write_answer.ensures c.unwrap.ensures ∙ ap (λ (d : Dimensions). message_length d Answer) dims in
    record {
      answer = ap Ok size ∙ rw (read.0, fine, known_stated);
      wiped = search rules;
      cases = (state, write_buffer c.write_answer.ensures c.unwrap.ensures ∙ (λ i. written (encode (dims i) Answer (answer (decoded i).session (sent i) (hinted i))) room));
    }
