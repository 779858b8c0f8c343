use Rattle.std.proofs.Common.{refl}
use Rattle.noise.specs.Laws.{laws}
use Rattle.noise.proofs.examples.examples_hold.Goals as goal

pub returns : goal.returns
unfolding laws
returns c = record {
  bit_clear = refl;
  bit_set = refl;
  bit_refused = refl;
  zero_last = refl;
  one_first = refl;
  minus_one_first = refl;
  three_first = refl;
  minus_three_last = refl;
  byte_refused = refl;
  last_of_2 = refl;
  last_of_3 = refl;
  last_of_4 = refl;
  last_of_5 = refl;
  law_five = refl;
  law_refused = refl;
}
