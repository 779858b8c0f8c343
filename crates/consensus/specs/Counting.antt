-- Sums over the numbers below a bound, and over the lists of such numbers. Assumes nothing.
use Rattle.std.specs.Prelude.{◌≡◌, ℕ, zero, suc, ◌+◌, ◌*◌, ◌%◌, ◌<◌, Bool, true, false, cond, ◌&&◌, ◌≢◌, ◌⊎◌, List, [], ◌∷◌, ◌==◌, refl}
use Rattle.std.proofs.Common.{sym, ap, ap₂, ◌∙◌, inl, inr, zero-mul, mul-zero, one-mul, mul-add, add-mul, add-zero, zero-add, add-suc, suc-add, suc-mul, add_assoc, le_refl, mod-eq_of_lt, eq-or-lt_of_le, le_of_suc-le-suc, not-suc-le-zero, ne_of_lt, ne_of_gt, arith}
use Rattle.std.proofs.Math.Path.{fun_ext}
use Rattle.std.proofs.Math.Nat.{le_step, add_right_cancel, add-mod_left}
use Rattle.std.proofs.lemmas.Bool.{eq-eqb, ne_eqb}

-- f 0 + f 1 + .. + f (n - 1)
abbrev pub tally : ℕ → (ℕ → ℕ) → ℕ
tally zero f = 0
tally (suc n) f = tally n f + f n

-- the sum of f over every list of `len` numbers below n
abbrev pub tally_lists : ℕ → ℕ → (List ℕ → ℕ) → ℕ
tally_lists zero n f = f []
tally_lists (suc len) n f = tally n (λ x. tally_lists len n (λ xs. f (x ∷ xs)))

-- what a test adds to a count
abbrev pub one_if : Bool → ℕ
one_if b = cond b 1 0

-- ---- sums

-- two summands that agree below n
pub tally_agree : (n : ℕ) {f g : ℕ → ℕ} → ((i : ℕ) → i < n → f i ≡ g i) → tally n f ≡ tally n g
tally_agree zero e = refl
tally_agree (suc n) e = ap₂ ◌+◌ (tally_agree n (λ i h. e i (le_step h))) (e n (le_refl (suc n)))

pub tally_none : (n : ℕ) → tally n (λ i. 0) ≡ 0
tally_none zero = refl
tally_none (suc n) = add-zero (tally n (λ i. 0)) ∙ tally_none n

pub tally_scale : (n : ℕ) (f : ℕ → ℕ) (x : ℕ) → tally n (λ i. f i * x) ≡ tally n f * x
tally_scale zero f x = sym (zero-mul x)
tally_scale (suc n) f x = ap (λ y. y + f n * x) (tally_scale n f x) ∙ sym (add-mul (tally n f) (f n) x)

pub tally_scale_left : (n : ℕ) (x : ℕ) (f : ℕ → ℕ) → tally n (λ i. x * f i) ≡ x * tally n f
tally_scale_left zero x f = sym (mul-zero x)
tally_scale_left (suc n) x f = ap (λ y. y + x * f n) (tally_scale_left n x f) ∙ sym (mul-add x (tally n f) (f n))

pub tally_lists_scale : (len n : ℕ) (x : ℕ) (f : List ℕ → ℕ) → tally_lists len n (λ xs. x * f xs) ≡ x * tally_lists len n f
tally_lists_scale zero n x f = refl
tally_lists_scale (suc len) n x f =
    ap (tally n) (fun_ext (λ i. tally_lists_scale len n x (λ xs. f (i ∷ xs))))
    ∙ tally_scale_left n x (λ i. tally_lists len n (λ xs. f (i ∷ xs)))

pub tally_add : (n k : ℕ) (f : ℕ → ℕ) → tally (n + k) f ≡ tally n f + tally k (λ i. f (n + i))
tally_add n zero f = ap (λ x. tally x f) (add-zero n) ∙ sym (add-zero (tally n f))
tally_add n (suc k) f =
    ap (λ x. tally x f) (add-suc n k) ∙ ap (λ x. x + f (n + k)) (tally_add n k f)
    ∙ add_assoc (tally n f) (tally k (λ i. f (n + i))) (f (n + k))

-- a blocks of b
pub tally_blocks : (a b : ℕ) (f : ℕ → ℕ) → tally (a * b) f ≡ tally a (λ i. tally b (λ j. f (i * b + j)))
tally_blocks zero b f = ap (λ x. tally x f) (zero-mul b)
tally_blocks (suc a) b f =
    ap (λ x. tally x f) (suc-mul a b) ∙ tally_add (a * b) b f
    ∙ ap (λ x. x + tally b (λ j. f (a * b + j))) (tally_blocks a b f)

-- ---- around a circle of n places, a start elsewhere does not change a sum

tally_next : (n : ℕ) (f : ℕ → ℕ) → tally n (λ i. f (suc i)) + f 0 ≡ tally n f + f n
tally_next zero f = refl
tally_next (suc n) f = let e = tally_next n f in omega arith

pub tally_turn : (n k : ℕ) (f : ℕ → ℕ) → tally n (λ i. f ((i + k) % n)) ≡ tally n f
tally_turn n zero f = tally_agree n (λ i h. ap f (ap (λ x. x % n) (add-zero i) ∙ mod-eq_of_lt h))
tally_turn n (suc k) f =
    ap (tally n) (fun_ext (λ i. ap (λ x. f (x % n)) (add-suc i k ∙ sym (suc-add i k))))
    ∙ add_right_cancel (f ((0 + k) % n))
    (tally_next n (λ i. f ((i + k) % n)) ∙ ap (λ x. tally n (λ i. f ((i + k) % n)) + f x) (add-mod_left n k ∙ ap (λ x. x % n) (sym (zero-add k))))
    ∙ tally_turn n k f

-- ---- tests

pub both : (a b : Bool) → one_if (a && b) ≡ one_if a * one_if b
both true true = refl
both true false = refl
both false true = refl
both false false = refl

-- of a sum in which one test picks a place, that place is left
pub tally_pick : (n k : ℕ) (f : ℕ → ℕ) → k < n → tally n (λ i. one_if (i == k) * f i) ≡ f k
tally_pick zero k f h = absurd (not-suc-le-zero h)
tally_pick (suc n) k f h = go (tally_pick n k f) (eq-or-lt_of_le (le_of_suc-le-suc h))
  where
    miss : (i : ℕ) → i ≢ k → one_if (i == k) * f i ≡ 0
    miss i ne = ap (λ b. one_if b * f i) (ne_eqb i k ne) ∙ zero-mul (f i)

    go : (k < n → tally n (λ i. one_if (i == k) * f i) ≡ f k) → (k ≡ n) ⊎ (k < n)
        → tally n (λ i. one_if (i == k) * f i) + one_if (n == k) * f n ≡ f k
    go earlier (inl e) =
        ap₂ ◌+◌ (tally_agree n (λ i l. miss i (ne_of_lt (rw e l))) ∙ tally_none n) (ap (λ b. one_if b * f n) (eq-eqb n k (sym e)) ∙ one-mul (f n))
        ∙ zero-add (f n) ∙ ap f (sym e)
    go earlier (inr l) = ap₂ ◌+◌ (earlier l) (miss n (ne_of_gt l)) ∙ add-zero (f k)
