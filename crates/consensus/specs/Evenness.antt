-- Evenness: where every sum and draw is equally likely, a hint says nothing of the digit, at one place and at many.
-- Assumes nothing.
use Rattle.std.specs.Prelude.{◌≡◌, ℕ, zero, suc, ◌<◌, Bool, true, false, ◌&&◌, List, [], ◌∷◌, map, length, count_by, ◌==◌}
use Rattle.std.specs.List.{range_with_len, flat_map, AllByRecursion}
use Rattle.consensus.specs.Consensus.{Consensus, settle_all, digits_of, hints_of}

-- every pair of one of xs and one of ys
abbrev pub pairs : {A B : Type 0} → List A → List B → List (A × B)
pairs xs ys = flat_map (λ x. map (λ y. (x, y)) ys) xs

-- every list of `len` numbers below n
abbrev pub lists : ℕ → ℕ → List (List ℕ)
lists zero n = [] ∷ []
lists (suc len) n = flat_map (λ x. map (λ xs. x ∷ xs) (lists len n)) (range_with_len 0 n)

abbrev pub same : List ℕ → List ℕ → Bool
same [] [] = true
same [] (y ∷ ys) = false
same (x ∷ xs) [] = false
same (x ∷ xs) (y ∷ ys) = x == y && same xs ys

-- how many pairs of a sum and a draw meet the digit and the hint
unfoldable pub ways : Consensus → ℕ → ℕ → ℕ
ways c digit hint =
    count_by (λ pair. ((c.settle pair.0 pair.1).0 == digit) && (c.settle pair.0 pair.1).1 == hint)
    (pairs (range_with_len 0 c.modulus) (range_with_len 0 c.draws))

-- how many pairs of `len` sums and `len` draws meet the digits and the hints, place by place
unfoldable pub ways_all : Consensus → ℕ → List ℕ → List ℕ → ℕ
ways_all c len digits hints =
    count_by
    (λ pair.
    same (digits_of (settle_all c pair.0 pair.1)) digits && same (hints_of (settle_all c pair.0 pair.1)) hints)
    (pairs (lists len c.modulus) (lists len c.draws))

-- whatever the hint, any two digits are met equally often
abbrev pub Even : Consensus → Type 0
Even c =
    (hint digit other : ℕ) → hint < c.hints → digit < c.digits → other < c.digits
    → ways c digit hint ≡ ways c other hint

-- `len` numbers, all below n
pub record AllBelow (n len : ℕ) (xs : List ℕ) : Type 0 where
  pub long : length xs ≡ len
  pub below : AllByRecursion (λ x. x < n) xs

-- whatever the hints, any two lists of digits are met equally often
abbrev pub EvenLists : Consensus → Type 0
EvenLists c =
    (len : ℕ) (hints digits others : List ℕ)
    → AllBelow c.hints len hints → AllBelow c.digits len digits → AllBelow c.digits len others
    → ways_all c len digits hints ≡ ways_all c len others hints
