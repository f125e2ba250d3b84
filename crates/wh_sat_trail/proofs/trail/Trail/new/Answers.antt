use Rattle.std.proofs.Common.{sym, ap, subst, ◌∙◌, ◌≡◌, ◌∷◌, ◌++◌}
use Rattle.wh_sat_trail.specs.Assignment.{AllBelow}
use Rattle.wh_sat_trail.specs.Propagation.{Within}
use Rattle.wh_sat_trail.proofs.Looking.{next_below}
use Rattle.wh_sat_trail.proofs.trail.Trail.new.Goals as goal

pub add-requires : goal.add-requires
add-requires c =
    let r = c.loop-clause in
    let rest = c.next.new.self.rest.items in
    let e : r.trail.formula.clauses ++ (c.in-Some.clause ∷ rest) ≡ c.args.formula.clauses = ap (λ xs. r.trail.formula.clauses ++ xs) (sym c.in-Some.ensures.steps.0) ∙ r.invariant.clauses in
    subst (λ n. AllBelow n c.in-Some.clause) (sym r.invariant.variables)
    (next_below c.args.formula.variables r.trail.formula.clauses rest c.in-Some.clause (subst (Within c.args.formula.variables) (sym e) c.requires))
