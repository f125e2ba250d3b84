use Rattle.std.proofs.Common.{rules, arith, ap, subst, ◌∙◌, false, ◌≡◌, [], length, replicate}
use Rattle.wh_sat.specs.Learning.{Has}
use Rattle.wh_sat.proofs.Leveling.{known_as, known_start}
use Rattle.wh_sat_trail.specs.declared.formula.Formula.{Formula}
use Rattle.wh_sat.proofs.learner.Learner.new.Goals as goal

pub returns-clause-sound : goal.returns-clause-sound
returns-clause-sound c =
    let f = c.args.formula in
    let e = c.in_ok-trail.ensures in
    let l : c.in_ok-learnt.learnt.items ≡ replicate (length f.clauses) false = c.in_ok-learnt.ensures.items_if_clones_equal (search rules) ∙ ap (λ xs. replicate (length xs) false) c.as_slice.ensures in
    record {
      known = known_as f.variables _ f.clauses _ (replicate (length f.clauses) false) _ (ap (λ (x : Formula). x.variables) e.0) (ap (λ (x : Formula). x.clauses) e.0) l (known_start f.variables f.clauses);
      ground = e.2;
      derived = λ m h. let q : Has [] m = subst (λ t. Has t m) e.1 h in absurd (omega (arith, q.within));
    }
