use Rattle.std.proofs.Common.{sym, ap, ◌∙◌}
use Rattle.std.proofs.lemmas.Cmp.{ranked}
use Rattle.std.proofs.lemmas.Result.{err_from_is_err_and}
use Rattle.wire.specs.Views.{offered}
use Rattle.ends.specs.Calls.{of_message}
use Rattle.ends.specs.Ends.{setting}
use Rattle.ends.proofs.AnsweringCalls.{offer_taken, offer_numbers}
use Rattle.ends.proofs.end.answering_calls.«AnsweringEnd+R+S».accept.Goals as goal

pub returns-in_err-check : goal.returns-in_err-check
returns-in_err-check g c =
    let p = err_from_is_err_and c.from_residual-in_err-check.result c.from_residual-in_err-check.ensures.1 in
    let s = setting g.R.Rule.meaning g.S.MatrixSource.meaning c.args.self.now.works in
    let read = c.in_ok-offer.ensures in
    let left = offer_numbers s c.args.self.now.state c.args.message.now c.sizes-sizes.result (offered c.in_ok-offer.offer) c.sizes-sizes.ensures read.0 read.1 in
    let order = rw c.in-Greater.is at (ranked c.in_ok-offer.offer.number c.args.self.now.state.number c.cmp.result c.cmp.ensures) in
    rw (p.1, p.2) (left order ∙ ap of_message (c.in_err-check.ensures s.rule.hints))

pub returns : goal.returns
returns g c =
    let e = c.args.self.now in
    let s = setting g.R.Rule.meaning g.S.MatrixSource.meaning e.works in
    let z = c.sizes-sizes.result in
    let h = c.sizes-sizes.ensures in
    let read = c.in_ok-offer.ensures in
    let fields = offered c.in_ok-offer.offer in
    let order = rw c.in-Greater.is at (ranked c.in_ok-offer.offer.number e.state.number c.cmp.result c.cmp.ensures) in
    let found = c.in_ok-check.ensures s.rule.hints in (
      offer_numbers s e.state c.args.message.now z fields h read.0 read.1 order ∙ ap of_message found.0,
      offer_taken s e.state c.args.message.now z fields h read.0 read.1,
      rw (sym h.modulus) found.1,
    )
