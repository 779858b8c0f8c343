-- One undisturbed session. Assumes nothing.
use Rattle.std.proofs.Common.{◌≡◌, ℕ, zero, suc, ◌+◌, ◌*◌, ◌/◌, ◌%◌, ◌<◌, ◌≤◌, get_or, ℤ, pos, ◌+ℤ◌, ◌-ℤ◌, ◌*ℤ◌, sym, ap, ◌∙◌, mul-le-mul_right, arith}
use Rattle.std.proofs.lemmas.Nat.{div_below, div-mul-add, mod_below, mod-mul-add}
use Rattle.std.proofs.lemmas.List.FromFn.{get_or-map-range_with_len}
use Rattle.consensus.specs.Arithmetic.{apart, around, residue}
use Rattle.consensus.specs.Consensus.{hints_of}
use Rattle.consensus.specs.Residues.{residue_below, residue_is}
use Rattle.lwe.specs.Exchange.{Y1, Y2, Σ1, Σ2, answering_sum, opening_sum, drift}
use Rattle.lwe.specs.Images.{public_matrix}
use Rattle.lwe.specs.Matrices.{Matrix, Residues, by_rows, plain}
use Rattle.lwe.proofs.DriftIdentity.{drift_identity}
use Rattle.lwe.proofs.FiniteSums.{sum_same}
use Rattle.ends.specs.Agreement.{Exchange, ExchangeAgrees, drawn, sent_Y1, sent_Y2, settling}
use Rattle.ends.specs.AnsweringStates.{rule_draws, sums}
use Rattle.ends.proofs.Arrays.{length_by_rows}
use Rattle.ends.proofs.AnsweringCalls.{hints_count}
use Rattle.ends.proofs.Drawing.{last_count}
use Rattle.ends.proofs.Settling.{recovered_at, settled_at}

-- an entry of a matrix that lies row by row
pub entry_at : (m l : ℕ) (a : Residues) (k : ℕ) → k < m * l → get_or (by_rows m l a) k 0 ≡ a (k / l) (k % l)
entry_at m l a k h = get_or-map-range_with_len (λ k. a (k / l) (k % l)) 0 (m * l) k k 0 h (omega arith)

pub plain_by_rows : (m l : ℕ) (a : Residues) (r i : ℕ) → r < m → i < l → plain l (by_rows m l a) r i ≡ pos (a r i)
plain_by_rows m l a r i hr hi =
    ap pos
    (entry_at m l a (r * l + i) (omega (arith, mul-le-mul_right l hr))
    ∙ ap (λ t. a t ((r * l + i) % l)) (div-mul-add r l i hi)
    ∙ ap (a r) (mod-mul-add r l i hi))

-- from a to b it is as far as from b to a
pub apart_turned : (q a b : ℕ) → a < q → b < q → apart q a b ≡ apart q b a
apart_turned q a b ha hb =
    let there = residue_is a b q (omega arith) (omega arith) in
    let back = residue_is b a q (omega arith) (omega arith) in
    go there.0 back.0 there.3 back.3 there.1 back.1 there.2 back.2
  where
    go : (i j : ℕ) → i ≤ 1 → j ≤ 1 → residue (pos a -ℤ pos b) q < q → residue (pos b -ℤ pos a) q < q → residue (pos a -ℤ pos b) q + b ≡ a + i * q → residue (pos b -ℤ pos a) q + a ≡ b + j * q → apart q a b ≡ apart q b a
    go zero zero h k r t e f = omega arith
    go zero (suc zero) h k r t e f = omega arith
    go zero (suc (suc j)) h k r t e f = absurd (omega arith)
    go (suc zero) zero h k r t e f = omega arith
    go (suc zero) (suc zero) h k r t e f = omega arith
    go (suc zero) (suc (suc j)) h k r t e f = absurd (omega arith)
    go (suc (suc i)) j h k r t e f = absurd (omega arith)

-- the sums of a place, as the exchange has them
module _ (x : Exchange) (k : ℕ) (h : k < x.la * x.lb) where
  some : 0 < x.lb
  some = pos_right x.la x.lb k h
    where
      pos_right : (m l k : ℕ) → k < m * l → 0 < l
      pos_right m zero k h = absurd (omega arith)
      pos_right m (suc l) k h = omega arith

  row : k / x.lb < x.la
  row = div_below k x.lb x.la some h

  column : k % x.lb < x.lb
  column = mod_below k x.lb some

  abbrev A : Matrix
  A = public_matrix x.matrices x.seed

  pub settled_sum : get_or (sums x.rule.modulus x.n x.la x.lb x.answering_law (sent_Y1 x) x.answering_words) k 0 ≡ answering_sum x.rule.modulus x.n A (drawn x) (k / x.lb) (k % x.lb)
  settled_sum =
      let q = x.rule.modulus in
      let i = k / x.lb in
      let j = k % x.lb in
      let Y = Y1 q x.n A (drawn x).X1 (drawn x).E1 in
      let same = sum_same x.n (λ r. plain x.la (sent_Y1 x) r i *ℤ (drawn x).X2 r j) (λ r. pos (Y r i) *ℤ (drawn x).X2 r j) (λ r m. ap (λ (z : ℤ). z *ℤ (drawn x).X2 r j) (plain_by_rows x.n x.la Y r i m row)) in
      entry_at x.la x.lb (Σ2 q x.n (plain x.la (sent_Y1 x)) (drawn x).X2 (drawn x).Eσ) k h ∙ ap (λ (z : ℤ). residue (z +ℤ (drawn x).Eσ i j) q) same

  pub recovered_sum : get_or (by_rows x.la x.lb (Σ1 x.rule.modulus x.n (drawn x).X1 (plain x.lb (sent_Y2 x)))) k 0 ≡ opening_sum x.rule.modulus x.n A (drawn x) (k / x.lb) (k % x.lb)
  recovered_sum =
      let q = x.rule.modulus in
      let i = k / x.lb in
      let j = k % x.lb in
      let Y = Y2 q x.n A (drawn x).X2 (drawn x).E2 in
      let same = sum_same x.n (λ r. (drawn x).X1 r i *ℤ plain x.lb (sent_Y2 x) r j) (λ r. (drawn x).X1 r i *ℤ pos (Y r j)) (λ r m. ap (λ (z : ℤ). (drawn x).X1 r i *ℤ z) (plain_by_rows x.n x.lb Y r j m column)) in
      entry_at x.la x.lb (Σ1 q x.n (drawn x).X1 (plain x.lb (sent_Y2 x))) k h ∙ ap (λ (z : ℤ). residue z q) same

pub exchange_agrees : ExchangeAgrees
exchange_agrees x lawful heard k h within =
    let c = x.rule in
    let q = c.modulus in
    let i = k / x.lb in
    let j = k % x.lb in
    let A = public_matrix x.matrices x.seed in
    let low : 0 < q = omega (arith, lawful.limits.modulus.0) in
    let a = answering_sum q x.n A (drawn x) i j in
    let b = opening_sum q x.n A (drawn x) i j in
    let a_below : a < q = residue_below _ q low in
    let b_below : b < q = residue_below _ q low in
    let settle_sums = sums q x.n x.la x.lb x.answering_law (sent_Y1 x) x.answering_words in
    let recover_sums = by_rows x.la x.lb (Σ1 q x.n (drawn x).X1 (plain x.lb (sent_Y2 x))) in
    let draws = rule_draws x.n x.la x.lb x.answering_words in
    let count = last_count 0 (x.n * x.lb) (x.la * x.lb) x.answering_words heard.count in
    let settle_long = length_by_rows x.la x.lb (Σ2 q x.n (plain x.la (sent_Y1 x)) (drawn x).X2 (drawn x).Eσ) in
    let recover_long = length_by_rows x.la x.lb (Σ1 q x.n (drawn x).X1 (plain x.lb (sent_Y2 x))) in
    let hints = hints_of (settling x) in
    let hints_long = hints_count x.n x.la x.lb c x.answering_law (sent_Y1 x) x.answering_words heard.count in
    let at = settled_at c settle_sums draws k (omega arith) (omega arith) in
    let draw : get_or draws k 0 < c.draws = heard.draws k (omega arith) in
    let far : apart q a b ≡ around q (drift x.n (drawn x) i j) = apart_turned q a b a_below b_below ∙ (drift_identity q x.n A (drawn x) i j low).distance in
    let near : apart q a b ≤ c.distance = omega (arith, far) in
    let agreed = lawful.agreement a b (get_or draws k 0) a_below b_below draw near in
    recovered_at c recover_sums hints k (omega arith) (omega arith)
    ∙ ap (λ (t : ℕ). c.recover t (get_or hints k 0)) (recovered_sum x k h)
    ∙ ap (λ (t : ℕ). c.recover b t) (at.hint ∙ ap (λ (t : ℕ). (c.settle t (get_or draws k 0)).1) (settled_sum x k h))
    ∙ agreed
    ∙ sym (at.digit ∙ ap (λ (t : ℕ). (c.settle t (get_or draws k 0)).0) (settled_sum x k h))
