-- What the table of the laws is to keep. Assumes nothing.
use Rattle.std.specs.Prelude.{◌≡◌, ℕ, ◌^◌, ◌<◌, ◌≤◌, Bool, false, map, ℤ, pos, negsuc, sum_by, count_by, ◌==◌}
use Rattle.std.specs.List.{range_with_len, ContainsAt, AllByRecursion}
use Rattle.noise.specs.Laws.{Law, law_of, found}

abbrev pub same : ℤ → ℤ → Bool
same (pos a) (pos b) = a == b
same (pos a) (negsuc b) = false
same (negsuc a) (pos b) = false
same (negsuc a) (negsuc b) = a == b

-- how many of all words of the law's width go to the value
unfoldable pub words_to : Law → ℤ → ℕ
words_to law value = count_by (λ word. same (found law.shares word) value) (range_with_len 0 (2 ^ law.width))

pub record Holds (law : Law) : Type 0 where
  -- the shares use up the words
  pub total : sum_by (λ s. s.count) law.shares ≡ 2 ^ law.width
  -- each value gets as many words as the table says
  pub counts : AllByRecursion (λ s. words_to law s.value ≡ s.count) law.shares
  -- no word goes elsewhere
  pub nowhere_else : (word : ℕ) → word < 2 ^ law.width → ContainsAt (map (λ s. s.value) law.shares) (found law.shares word)

abbrev pub TablesHold : Type 0
TablesHold = (number : ℕ) → number ≤ 5 → Holds (law_of number)
