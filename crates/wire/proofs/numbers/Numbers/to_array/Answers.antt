use Rattle.std.proofs.Common.{◌≡◌, ℕ, ◌<◌, List, [], length, get_or, take, map, min, ◌∙◌, arith}
use Rattle.std.proofs.lemmas.List.{get_or-take, get_or-map, length-take-le, length-map}
use Rattle.lwe.proofs.Arrays.{padded_more, padded_all}
use Rattle.wire.specs.Views.{list, pair_number}
use Rattle.wire.proofs.numbers.Numbers.to_array.Goals as goal

-- the loop goes over m pairs, and each pair is a number
turns : (pairs : List (List ℕ)) (m n : ℕ) → m ≡ min (length (map pair_number pairs)) n
    → (length (take m pairs) ≡ m) × (length (map pair_number pairs) ≡ length pairs)
turns pairs m n e =
    let many = length-map pairs pair_number in (length-take-le m pairs (omega (arith, many)), many)

pub loop-i-preserved : goal.loop-i-preserved
loop-i-preserved g c =
    let xs = list c.args.self.now in
    let pairs = c.args.self.now.pairs.now in
    let count = turns pairs c.min.result g.row.N (omega arith) in
    let room : c.loop-i.i < g.row.N = omega (arith, count) in
    let inside : c.loop-i.i < length xs = omega (arith, count) in
    let taken = get_or-take c.min.result pairs c.loop-i.i [] (omega (arith, count)) in
    let mapped = get_or-map pair_number pairs c.loop-i.i [] 0 (omega (arith, count)) in
    let is : c.from_be_bytes.result ≡ get_or xs c.loop-i.i 0 = grind (arith, taken, mapped) in
    padded_more 0 g.row.N xs c.loop-i.array c.loop-i.i _ room inside c.loop-i.invariant is

pub returns : goal.returns
returns g c =
    let xs = list c.args.self.now in
    let count = turns c.args.self.now.pairs.now c.min.result g.row.N (omega arith) in
    let all : c.loop-i.i ≡ min (length xs) g.row.N = omega (arith, count) in
    c.loop-i.invariant ∙ padded_all 0 g.row.N c.loop-i.i xs all
