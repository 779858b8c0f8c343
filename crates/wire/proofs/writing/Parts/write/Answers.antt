use Rattle.std.proofs.Common.{◌+◌, ◌*◌, ◌++◌, length, drop, sym, refl, ap, ◌∙◌, arith}
use Rattle.std.proofs.lemmas.Bool.Decides.{nat_tests}
use Rattle.lwe.specs.Limits.{dimensions}
use Rattle.wire.specs.Headers.{header, fields}
use Rattle.wire.specs.Messages.{encode}
use Rattle.wire.specs.Views.{stated}
use Rattle.wire.proofs.Readings.{encode_long, reads_back}
use Rattle.wire.proofs.Writings.{laid}
use Rattle.wire.proofs.writing.Parts.write.Goals as goal

pub returns-then-out-length : goal.returns-then-out-length
returns-then-out-length c = record {
  answer = grind (arith, nat_tests);
  long = encode_long (dimensions c.args.sizes.now) c.args.self.now.kind _ c.requires;
  buffer = refl;
  back = reads_back (dimensions c.args.sizes.now) c.args.self.now.kind _ c.requires;
}

pub returns : goal.returns
returns c =
    let s = dimensions c.args.sizes.now in
    let k = c.args.self.now.kind in
    let d = c.args.out.now in
    let seed = c.args.self.now.seed.now in
    let y = c.args.self.now.entries.now in
    let hints = c.args.self.now.hints.now in
    let number = c.args.self.now.number in
    let f = stated c.args.self.now in
    let m = encode s k f in
    let body = 16 + length seed in
    let long = encode_long s k f c.requires in
    record {
      answer = grind (arith, nat_tests);
      long = long;
      buffer = laid d c.fields.result (fields (header s k number)) seed y hints _ _ _ _ 16 body (body + 2 * length y)
          (c.fields.ensures ∙ ap fields c.due-header.ensures)
          c.put_numbers.ensures c.put_bytes.ensures c.put_numbers-2.ensures c.put_numbers-3.ensures
          refl refl refl
          ∙ ap (λ size. m ++ drop size d) (long ∙ sym c.length-length.ensures);
      back = reads_back s k f c.requires;
    }
