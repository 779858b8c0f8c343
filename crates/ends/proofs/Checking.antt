-- What checks tell that were passed or not. Assumes nothing.
use Rattle.std.proofs.Common.{◌≡◌, ℕ, ◌+◌, ◌<◌, Bool, true, false, eqb, List, length, get_or, Some, None, Ok, Option, Result, refl, arith}
use Rattle.std.proofs.lemmas.Bool.{eqb-true}
use Rattle.ends.specs.declared.draws.WordsNeeded.{WordsNeeded}
use Rattle.ends.specs.declared.fault.EndFault.TheVariants.{DrawCount}
use Rattle.ends.specs.Draws.{draw_fault, first_over, limit_at}
use Rattle.ends.specs.Refusals.{check, first_of, unless}
use Rattle.ends.proofs.Drawing.{all_below}

-- a call that is granted found no fault, and one that is refused found that one
pub no_fault : {F X : Type 0} (o : Option F) (x : X) {r : Result X F} {y : X} → r ≡ unless o x → r ≡ Ok y → o ≡ None
no_fault None x e s = refl
no_fault (Some f) x e s = cc

pub the_value : {F X : Type 0} (o : Option F) (x : X) {r : Result X F} {y : X} → r ≡ unless o x → r ≡ Ok y → y ≡ x
the_value None x e s = cc
the_value (Some f) x e s = cc

pub check_passed : {F : Type 0} (b : Bool) (f : F) (later : Option F) → check b f later ≡ None → (b ≡ true) × (later ≡ None)
check_passed true f later e = (refl, e)
check_passed false f later e = (cc, cc)

-- the words that passed
pub words_count : (needed : WordsNeeded) (words : List ℕ) → draw_fault needed words ≡ None → length words ≡ needed.noise + needed.draws
words_count needed words e = eqb-true _ _ (check_passed (eqb (length words) (needed.noise + needed.draws)) (DrawCount (needed.noise + needed.draws)) (first_over needed 0 words) e).0

pub words_below : (needed : WordsNeeded) (words : List ℕ) → draw_fault needed words ≡ None → (k : ℕ) → k < length words → get_or words k 0 < limit_at needed k
words_below needed words e k h =
    let none = (check_passed (eqb (length words) (needed.noise + needed.draws)) (DrawCount (needed.noise + needed.draws)) (first_over needed 0 words) e).1 in
    let same : 0 + k ≡ k = omega arith in
    rw same at (all_below needed 0 words none k h)

pub first_none : {F : Type 0} (a b : Option F) → first_of a b ≡ None → (a ≡ None) × (b ≡ None)
first_none None b e = (refl, e)
first_none (Some f) b e = (cc, cc)
