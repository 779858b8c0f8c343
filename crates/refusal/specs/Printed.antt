-- What is printed of a refusal. Assumes nothing.
use Rattle.std.specs.Prelude.{ℕ, List, ◌++◌, codes, decimal}

abbrev pub printed : (number : ℕ) → List ℕ
printed number = codes "refused " ++ decimal number
