-- Which numbers make a rule, and which distance it then has. Assumes nothing.
use Rattle.std.proofs.Common.{◌≡◌, ℕ, ◌*◌, Bool, true, false, ltb, Ok, Err, Decides, Result, refl, arith}
use Rattle.std.proofs.lemmas.Bool.Decides.{nat_tests, Decides-ltb}
use Rattle.consensus.specs.Replies.{allowed, check, built}
use Rattle.consensus.specs.Rules.{Allowed, Largest, largest_distance}
use Rattle.consensus.specs.declared.fault.RuleFault.{RuleFault}
use Rattle.consensus.specs.declared.fault.RuleFault.TheVariants.{Limits, Distance}
use Rattle.consensus.proofs.Distances.{some_cell, largest_distance_is}

pub allowed_decides : (q m g : ℕ) → Decides (allowed q m g) (Allowed q m g)
allowed_decides q m g = (λ e. record { modulus = grind (arith, nat_tests); digits = grind (arith, nat_tests); hints = grind (arith, nat_tests); within = grind (arith, nat_tests) }, λ limits. grind (arith, nat_tests))

-- what a granted building says of the numbers
pub record Granted (q m g bound : ℕ) : Type 0 where
  pub allowed : Allowed q m g
  pub largest : Largest m g bound (largest_distance m g bound)

never_granted : {X : Type 0} {x : X} {fault : RuleFault} → ◌≡◌ {A = Result X RuleFault} (Ok x) (Err fault) → ⊥
never_granted e = let z : ◌≡◌ {A = ℕ} 0 1 = cc in omega arith

granted_by : (q m g bound : ℕ) → allowed q m g ≡ true → ltb (m * g) bound ≡ true → Granted q m g bound
granted_by q m g bound p r =
    let limits = (allowed_decides q m g).0 p in
    record { allowed = limits; largest = largest_distance_is m g bound (some_cell q m g limits) ((Decides-ltb (m * g) bound).0 r) }

-- what is built is what was to be built
pub granted : {X : Type 0} (q m g bound : ℕ) (x y : X) → Ok y ≡ built q m g bound x → Granted q m g bound × (y ≡ x)
granted {X} q m g bound x y e = go (allowed q m g) refl (ltb (m * g) bound) refl e
  where
    go : (s : Bool) → allowed q m g ≡ s → (t : Bool) → ltb (m * g) bound ≡ t
        → Ok y ≡ check s Limits (check t Distance (Ok x)) → Granted q m g bound × (y ≡ x)
    go true p true r e = (granted_by q m g bound p r, cc)
    go true p false r e = absurd (never_granted e)
    go false p t r e = absurd (never_granted e)
