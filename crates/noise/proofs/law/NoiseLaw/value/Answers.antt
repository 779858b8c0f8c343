use Rattle.std.proofs.Common.{Ok, ap, ◌∙◌, arith, w16, SFits, rules}
use Rattle.std.proofs.lemmas.Int.{to_z-of_z}
use Rattle.noise.specs.Replies.{number_of}
use Rattle.noise.proofs.Checked.{number_small, index_small, valued}
use Rattle.noise.proofs.law.NoiseLaw.value.Goals as goal

pub value_at-requires : goal.value_at-requires
value_at-requires c = omega (arith, index_small (number_of c.args.self.now) c.args.word (number_small c.args.self.now))

pub returns : goal.returns
returns c =
    let law = c.args.self.now in
    let fits : SFits w16 c.value_at.result = search rules in
    ap Ok (to_z-of_z w16 c.value_at.result fits)
    ∙ valued (number_of law) c.args.word c.share_index.result c.value_at.result (number_small law) (omega (arith, c.word_limit.ensures)) c.share_index.ensures c.value_at.ensures
