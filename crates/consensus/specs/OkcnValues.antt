-- What the ghost field of an `Okcn` says: its rule is lawful, and the numbers that it computes fit. Assumes nothing.
use Rattle.std.proofs.Common.{sym, ap, subst, mod-lt, mul-pos, mul-le-mul_right, le_of_mul-le-mul_right, arith}
use Rattle.std.specs.Prelude.{◌≡◌, ℕ, ◌*◌, ◌/◌, ◌%◌, ◌^◌, ◌<◌, ◌≤◌}
use Rattle.std.proofs.lemmas.Nat.{mul-lt, div_below}
use Rattle.consensus.specs.Laws.{Lawful}
use Rattle.consensus.specs.Meanings.{okcn_of}
use Rattle.consensus.specs.Rules.{Allowed, Meets, okcn_draws, okcn_point, okcn_bound}
use Rattle.consensus.specs.declared.numbers.Numbers.{Numbers}
use Rattle.consensus.specs.declared.okcn.Okcn.{Okcn}
use Rattle.consensus.specs.OkcnAgreement.{okcn_agrees}
use Rattle.consensus.specs.OkcnEvenness.{okcn_even}
use Rattle.consensus.specs.OkcnParts.{Shared, shared, point_part, cell}
use Rattle.consensus.specs.Residues.{residue_below, close_from_apart}

module _ (r : Okcn) where
  abbrev q : ℕ
  q = r.numbers.modulus

  abbrev m : ℕ
  m = r.numbers.digits

  abbrev g : ℕ
  g = r.numbers.hints

  abbrev c : ℕ
  c = r.numbers.draws

  some_modulus : 0 < q
  some_modulus = omega arith

  share_of : Shared q m (okcn_draws q m) (okcn_draws q m * q / m)
  share_of = shared q m some_modulus (omega arith)

  pub lawful : Lawful (okcn_of r)
  lawful =
      let pq = some_modulus in
      let pm : 0 < m = omega arith in
      let pg : 0 < g = omega arith in
      let share = share_of in
      let near = subst (Meets m g (okcn_bound q g)) (ap (λ (n : Numbers). n.distance) r.kept.same) r.kept.meets in
      record {
        limits = record {
          modulus = r.kept.allowed.modulus;
          digits = r.kept.allowed.digits;
          hints = (omega arith, omega arith);
          draws = (share.some_draw, omega (arith, share.few));
        };
        ranges = record {
          digit = λ sum draw hs hd. point_part q m _ _ sum draw share pq hs hd;
          hint = λ sum draw hs hd. cell (okcn_point (okcn_draws q m) q sum draw) _ g share.some_width pg;
          recovered = λ sum hint hs hh. residue_below _ m pm;
        };
        agreement = λ a b draw ha hb hd h.
            okcn_agrees q m g _ _ _ share pq pm pg near a b draw ha hd (close_from_apart q a b _ ha hb h);
        evenness = okcn_even q m g pq pm;
      }

  draws_are : c ≡ okcn_draws q m
  draws_are = ap (λ (n : Numbers). n.draws) r.kept.same

  pub allowed : Allowed q m g
  allowed = r.kept.allowed

  pub share : Shared q m c (c * q / m)
  share = subst (λ (n : ℕ). Shared q m n (n * q / m)) (sym draws_are) share_of

  pub some_point : 0 < c * q
  some_point = mul-pos share.some_draw some_modulus

  pub digit_fits : (s : ℕ) → s < c * q → s / (c * q / m) < 2 ^ 16
  digit_fits s h =
      let few = div_below s (c * q / m) m share.some_width (omega (arith, share.whole)) in
      omega arith

  narrow : c * q / m ≤ q
  narrow = le_of_mul-le-mul_right {k = m} (omega (arith, share.whole, mul-le-mul_right q share.few)) (omega arith)

  pub placed : (s : ℕ) → s % (c * q / m) * g < 2 ^ 32
  placed s =
      let inside = mod-lt s share.some_width in
      let few = mul-lt (s % (c * q / m)) g 32768 4097 (omega (arith, inside, narrow)) (omega arith) in
      omega arith

  pub hint_fits : (s : ℕ) → s % (c * q / m) * g / (c * q / m) < 2 ^ 16
  hint_fits s = let few = cell s (c * q / m) g share.some_width (omega arith) in omega arith
