use Rattle.std.proofs.Common.{◌≡◌, ◌^◌, Some, IfSome, take, subst, sym, ap, ◌∙◌, rules}
use Rattle.std.specs.Option.{option_copied}
use Rattle.matrix.specs.Expansion.{entry_at, row_bytes, row_entries}
use Rattle.matrix.proofs.Entries.{read_at}
use Rattle.matrix.proofs.expanding.methods.ExpandingSourceMatrixSource.column.Goals as goal

pub returns : goal.returns
returns c =
    let s = c.args.self.now in
    let n = s.shape.n in
    let q = 2 ^ s.shape.bits in
    let r = c.in_ok-row.row.now in
    let is : s.row ≡ Some r = sym c.as_ref.ensures.value ∙ ap option_copied c.in_ok-row.ensures.ok_part in
    let entries = subst (λ row. IfSome row (λ x. take n x.entries ≡ row_entries n q x.seed x.number)) is s.expanded in
    let read = read_at (entry_at q (row_bytes n r.seed r.number)) r.entries n c.args.j c.if-j-self.false entries in
    search rules
