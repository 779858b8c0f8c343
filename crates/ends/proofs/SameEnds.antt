-- What an end works by where only the source was touched, and left as it was. Assumes nothing.
use Rattle.std.proofs.Common.{◌≡◌, ◌≤◌}
use native.Mathlib.Bridge.{le_prop}
use Rattle.ends.specs.declared.works.Works.{Works}

pub same_works : {R S : Type 0} (w : Works R S) {s : S} {p : (1 ≤ w.la) × (w.la ≤ 8)} {q : (1 ≤ w.lb) × (w.lb ≤ 8)} → s ≡ w.source
    → record { rule = w.rule; source = s; la = w.la; lb = w.lb; law = w.law; opening = p; answering = q } ≡ w
same_works w {p} {q} h = λ i. record {
  rule = w.rule;
  source = h i;
  la = w.la;
  lb = w.lb;
  law = w.law;
  opening = (le_prop p.0 w.opening.0 i, le_prop p.1 w.opening.1 i);
  answering = (le_prop q.0 w.answering.0 i, le_prop q.1 w.answering.1 i);
}
