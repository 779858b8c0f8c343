use Rattle.std.proofs.Common.{◌≡◌, ℕ, ◌^◌, ◌<◌, map, length, get_or, ℤ, pos, Ok, Result, sym, ap, ◌∙◌, arith, w16, SFits, rules, lt-ltb}
use Rattle.std.proofs.lemmas.List.{get_or-map, length-map}
use Rattle.std.proofs.lemmas.Int.{to_z-of_z}
use Rattle.noise.specs.Laws.{value_of, width_of}
use Rattle.noise.specs.Replies.{number_of, value_reply}
use Rattle.noise.specs.declared.fault.NoiseFault.{NoiseFault}
use Rattle.lwe.specs.Matrices.{padded}
use Rattle.lwe.proofs.Arrays.{padded_more, padded_all}
use Rattle.ends.proofs.draws.sample.Goals as goal

-- the value that a word in range goes to
sampled : (law word : ℕ) (z : ℤ) → word < 2 ^ width_of law → Ok z ≡ value_reply law word → z ≡ value_of law word
sampled law word z h e = let t = lt-ltb word (2 ^ width_of law) h in let p : ◌≡◌ {A = Result ℤ NoiseFault} (Ok z) (Ok (value_of law word)) = e ∙ rw t in cc

pub loop-k-preserved : goal.loop-k-preserved
loop-k-preserved c =
    let law = number_of c.args.law.now in
    let words = c.args.words.now in
    let k = c.loop-k.k in
    let n = length c.fill.new.self in
    let xs = map (value_of law) words in
    let fits : SFits w16 c.unwrap.result = search rules in
    let value = sampled law (get_or words k 0) c.unwrap.result (c.requires.below k (omega arith)) (sym c.unwrap.ensures ∙ c.value.ensures) in
    simp to_z-of_z
    (padded_more (pos 0) n xs c.loop-k.values k c.unwrap.result (omega (arith, c.fill.auto.self)) (rw length-map (omega arith)) c.loop-k.invariant (value ∙ sym (get_or-map (value_of law) words k 0 (pos 0) (omega arith))))

pub returns : goal.returns
returns c =
    let law = number_of c.args.law.now in
    let n = length c.fill.new.self in
    let xs = map (value_of law) c.args.words.now in
    let long = length-map c.args.words.now (value_of law) in
    c.loop-k.invariant ∙ padded_all (pos 0) n c.loop-k.k xs (omega (arith, c.fill.auto.self)) ∙ ap (λ m. padded (pos 0) m xs) c.fill.auto.self
