-- What a rule's calls answer, refusals included. Assumes nothing.
use Rattle.std.specs.Prelude.{ℕ, ◌*◌, Bool, cond, ◌&&◌, List, Ok, Err, codes, Result, nat_le, nat_lt}
use Rattle.std.specs.Result.{result_map_both}
use Rattle.consensus.specs.Consensus.{Consensus}
use Rattle.consensus.specs.Rules.{Allowed, NoneMeets, Largest, okcn, okcn_bound, akcn, akcn_bound}
use Rattle.consensus.specs.declared.fault.RuleFault.{RuleFault}
use Rattle.consensus.specs.declared.fault.RuleFault.TheVariants.{Limits, Distance, Draw, Range}

-- a refusal's number and place
abbrev pub number : RuleFault → ℕ
number Limits = 1
number Distance = 2
number Draw = 5
number Range = 8

abbrev pub place : RuleFault → ℕ
place Limits = 0
place Distance = 0
place Draw = 0
place Range = 0

-- what is printed of a refusal
abbrev pub words : RuleFault → List ℕ
words Limits = codes "the numbers of a rule are outside their limits"
words Distance = codes "no distance exists for the numbers of a rule"
words Draw = codes "a draw is out of range"
words Range = codes "a sum or a hint is out of range"

-- a test that has to pass before what comes later
abbrev pub check : {X F : Type 0} → Bool → F → Result X F → Result X F
check passed fault later = cond passed later (Err fault)

-- an answer that a later one needs
abbrev pub followed : {X Y F : Type 0} → Result X F → (X → Result Y F) → Result Y F
followed (Ok x) next = next x
followed (Err fault) next = Err fault

-- ---- building

abbrev pub allowed : (q m g : ℕ) → Bool
allowed q m g = nat_le 2 q && nat_le q 32768 && nat_le 2 m && nat_le m 256 && nat_le 2 g && nat_le g 4096 && nat_le m q && nat_le g q

-- what is built from q, m and g: refused outside the limits, then where no d meets the bound, not even 0
abbrev pub built : {X : Type 0} → (q m g bound : ℕ) → X → Result X RuleFault
built q m g bound x = check (allowed q m g) Limits (check (nat_lt (m * g) bound) Distance (Ok x))

abbrev pub okcn_built : (q m g : ℕ) → Result Consensus RuleFault
okcn_built q m g = built q m g (okcn_bound q g) (okcn q m g)

abbrev pub akcn_built : (q m g : ℕ) → Result Consensus RuleFault
akcn_built q m g = built q m g (akcn_bound q m g) (akcn q m g)

-- What building comes to: it is refused with `Limits` exactly where the numbers are not allowed, then with `Distance` exactly
-- where no d meets the bound, and else the rule has the largest d.
abbrev pub Built : (q m g bound : ℕ) → Result Consensus RuleFault → Type 0
Built q m g bound (Ok c) = Allowed q m g × Largest m g bound c.distance
Built q m g bound (Err Limits) = Allowed q m g → ⊥
Built q m g bound (Err Distance) = Allowed q m g × NoneMeets m g bound
Built q m g bound (Err Draw) = ⊥
Built q m g bound (Err Range) = ⊥

-- the meaning of what was built
abbrev pub means : {R : Type 0} → (R → Consensus) → Result R RuleFault → Result Consensus RuleFault
means meaning r = result_map_both meaning (λ fault. fault) r

-- ---- the calls of a rule

abbrev pub settle_reply : Consensus → (sum draw : ℕ) → Result (ℕ × ℕ) RuleFault
settle_reply c sum draw = check (nat_lt sum c.modulus) Range (check (nat_lt draw c.draws) Draw (Ok (c.settle sum draw)))

abbrev pub recover_reply : Consensus → (sum hint : ℕ) → Result ℕ RuleFault
recover_reply c sum hint = check (nat_lt sum c.modulus) Range (check (nat_lt hint c.hints) Range (Ok (c.recover sum hint)))
