use Rattle.std.proofs.Common.{sym, ap, ◌∙◌}
use Rattle.noise.specs.Bounds.{index_of}
use Rattle.noise.specs.Laws.{laws}
use Rattle.noise.specs.Replies.{number_of}
use Rattle.noise.proofs.law.NoiseLaw.share_index.Goals as goal

pub returns-in-Three : goal.returns-in-Three
unfolding laws
returns-in-Three c = c.reached-in-Three.ensures ∙ ap (λ law. index_of (number_of law) c.args.word) (sym c.in-Three.is)

pub returns-in-Four : goal.returns-in-Four
unfolding laws
returns-in-Four c = c.reached-in-Four.ensures ∙ ap (λ law. index_of (number_of law) c.args.word) (sym c.in-Four.is)

pub returns-in-Five : goal.returns-in-Five
unfolding laws
returns-in-Five c = c.reached-in-Five.ensures ∙ ap (λ law. index_of (number_of law) c.args.word) (sym c.in-Five.is)
