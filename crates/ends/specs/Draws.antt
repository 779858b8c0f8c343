-- The words that the calls take, and the matrices drawn by them. Assumes nothing.
use Rattle.std.specs.Prelude.{ℕ, ◌+◌, cond, List, [], ◌∷◌, length, None, Option, ◌==◌, nat_lt}
use Rattle.ends.specs.declared.draws.WordsNeeded.{WordsNeeded}
use Rattle.ends.specs.declared.fault.EndFault.{EndFault}
use Rattle.ends.specs.declared.fault.EndFault.TheVariants.{DrawCount, Draw}
use Rattle.ends.specs.Refusals.{check}

-- word i is below this
abbrev pub limit_at : WordsNeeded → ℕ → ℕ
limit_at needed i = cond (nat_lt i needed.noise) needed.noise_limit needed.draw_limit

-- the first word that is not below its limit, where the first of the list counts as word i
abbrev pub first_over : WordsNeeded → ℕ → List ℕ → Option EndFault
first_over needed i [] = None
first_over needed i (word ∷ words) = check (nat_lt word (limit_at needed i)) (Draw i) (first_over needed (i + 1) words)

-- a wrong count is refused first, then the first word out of range
abbrev pub draw_fault : WordsNeeded → List ℕ → Option EndFault
draw_fault needed words =
    check (length words == needed.noise + needed.draws) (DrawCount (needed.noise + needed.draws)) (first_over needed 0 words)
