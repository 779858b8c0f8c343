-- What an `ExpandingSource` means. Assumes nothing.
use Rattle.std.specs.Prelude.{◌^◌, Option}
use Rattle.std.specs.Option.{option_map}
use Rattle.std.proofs.Common.{mod-lt, pow_pos, pow_mono}
use Rattle.matrix.specs.Expansion.{expansion, entry_at}
use Rattle.matrix.specs.Matrices.{Matrices, Sound, Row}
use Rattle.matrix.specs.declared.expanding.ExpandingSource.{ExpandingSource}

abbrev pub expanding_of : ExpandingSource → Matrices
expanding_of s = expansion s.shape.n (2 ^ s.shape.bits)

-- the row that it is turned to
abbrev pub expanding_row : ExpandingSource → Option Row
expanding_row s = option_map (λ r. (r.seed, r.number)) s.row

pub expanding_sound : (s : ExpandingSource) → Sound (expanding_of s)
unfolding entry_at
expanding_sound s = record {
  side = s.shape.side;
  modulus = (pow_mono s.shape.power.0, pow_mono s.shape.power.1);
  below = λ seed i j known hi hj. mod-lt _ (pow_pos s.shape.bits);
}
