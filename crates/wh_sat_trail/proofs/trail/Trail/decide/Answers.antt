use Rattle.std.proofs.Common.{ap, refl, ◌∙◌, ◌≡◌, [], ◌∷◌, ◌++◌, length}
use Rattle.wh_sat_trail.proofs.Guarding.{guarded_decide, ordered_decide}
use Rattle.wh_sat_trail.specs.declared.watch.Stop.{Stop}
use Rattle.wh_sat_trail.proofs.Settling.{settled_decide}
use Rattle.wh_sat_trail.proofs.trail.Trail.decide.Goals as goal

pub invariant_of-self-2 : goal.invariant_of-self-2
invariant_of-self-2 c =
    let s = c.args.self.now in
    let t = s.assignment.literals.items in
    let l = c.args.literal in
    let is : c.assign.new.self.literals.items ≡ t ++ l ∷ [] = c.assign.ensures.literals in
    let at : Stop = record { done = s.head; mark = length t } in
    let ss : c.push.new.self.items ≡ s.stops.items ++ at ∷ [] = c.in_ok-push.ensures.items ∙ ap (λ n. let r : Stop = record { done = s.head; mark = n } in s.stops.items ++ r ∷ []) c.len.ensures in
    record {
      width = c.assign.ensures.width ∙ s.width;
      within = s.within;
      coded = s.coded;
      paired = s.paired;
      ordered = rw (is, ss) (ordered_decide t s.stops.items s.head l s.ordered);
      guarded = rw (is, ss) (guarded_decide s.formula.clauses t s.stops.items s.head s.lists.items s.pairs.items s.short.items l s.ordered s.guarded);
      settling = rw (is, ss) (settled_decide s.formula.clauses t s.stops.items s.head s.short.items s.settled l at refl s.ordered s.settling);
    }
