-- What the ghost field of an `Akcn` says: its rule is lawful. Assumes nothing.
use Rattle.std.specs.Prelude.{ℕ, ◌<◌}
use Rattle.std.proofs.Common.{mod-lt, arith, subst, ap}
use Rattle.consensus.specs.Laws.{Lawful}
use Rattle.consensus.specs.Meanings.{akcn_of}
use Rattle.consensus.specs.Rules.{Allowed, Meets, akcn_bound}
use Rattle.consensus.specs.declared.akcn.Akcn.{Akcn}
use Rattle.consensus.specs.declared.numbers.Numbers.{Numbers}
use Rattle.consensus.specs.AkcnAgreement.{akcn_agrees}
use Rattle.consensus.specs.AkcnEvenness.{akcn_even}
use Rattle.consensus.specs.Residues.{residue_below, close_from_apart}

module _ (r : Akcn) where
  abbrev q : ℕ
  q = r.numbers.modulus

  abbrev m : ℕ
  m = r.numbers.digits

  abbrev g : ℕ
  g = r.numbers.hints

  pub allowed : Allowed q m g
  allowed = r.kept.allowed

  pub lawful : Lawful (akcn_of r)
  lawful =
      let pq : 0 < q = omega arith in
      let pm : 0 < m = omega arith in
      let pg : 0 < g = omega arith in
      let near = subst (Meets m g (akcn_bound q m g)) (ap (λ (n : Numbers). n.distance) r.kept.same) r.kept.meets in
      record {
        limits = record {
          modulus = r.kept.allowed.modulus;
          digits = r.kept.allowed.digits;
          hints = (omega arith, omega arith);
          draws = (omega arith, omega arith);
        };
        ranges = record {
          digit = λ sum draw hs hd. hd;
          hint = λ sum draw hs hd. mod-lt _ pg;
          recovered = λ sum hint hs hh. residue_below _ m pm;
        };
        agreement = λ a b draw ha hb hd h.
            akcn_agrees q m g _ pq pm pg near a b draw hd (close_from_apart q a b _ ha hb h);
        evenness = akcn_even q m g pq;
      }
