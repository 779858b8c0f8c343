use Rattle.std.proofs.Common.{◌+◌, sym, ap, ◌∙◌}
use Rattle.std.specs.Option.{option_map}
use Rattle.wire.specs.declared.fault.WireFault.TheVariants.{Entry}
use Rattle.wire.specs.Views.{list, pair_number}
use Rattle.wire.proofs.Checks.{over_position, over_below}
use Rattle.wire.proofs.numbers.Numbers.check.Goals as goal

pub returns-in-Some : goal.returns-in-Some
returns-in-Some c =
    over_position pair_number c.args.limit c.args.from c.args.self.now.pairs.now
    ∙ ap (option_map (λ i. Entry (c.args.from + i))) (sym c.in-Some.ensures)

pub returns-in-None : goal.returns-in-None
returns-in-None c =
    let none = over_position pair_number c.args.limit c.args.from c.args.self.now.pairs.now
    ∙ ap (option_map (λ i. Entry (c.args.from + i))) (sym c.in-None.ensures) in
    (none, over_below c.args.limit c.args.from (list c.args.self.now) none)
