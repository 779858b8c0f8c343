use Rattle.consensus.proofs.Lifting.{even_lists}
use Rattle.consensus.proofs.evenness.lists_are_even.Goals as goal

pub returns : goal.returns
returns g c = even_lists (g.R.Rule.meaning c.args.rule.now) (g.met.R.Rule.lawful c.args.rule.now).evenness
