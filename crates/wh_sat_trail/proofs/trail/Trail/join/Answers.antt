use Rattle.std.proofs.Common.{arith, sym, ◌∙◌, ◌≡◌, [], ◌∷◌, ◌++◌, length}
use Rattle.std.proofs.lemmas.List.{length_push}
use Rattle.wh_sat_trail.proofs.Looking.{within_push}
use Rattle.wh_sat_trail.proofs.Guarding.{guarded_join}
use Rattle.wh_sat_trail.proofs.Rooms.{if_ok, length-items}
use Rattle.wh_sat_trail.proofs.Settling.{settled_join}
use Rattle.wh_sat_trail.proofs.trail.Trail.join.Goals as goal

pub invariant_of-self-2 : goal.invariant_of-self-2
invariant_of-self-2 c =
    let s = c.args.self.now in
    let t = s.assignment.literals.items in
    let ps : c.push-2.new.self.items ≡ s.pairs.items ++ c.args.pair ∷ [] = if_ok c.push-2.result c.push-2.new.self.items _ _ (c.push-2.ensures.succeeds c.requires.room) c.push-2.ensures.items in
    let cs : c.push.new.self ≡ s.formula.clauses ++ c.args.clause ∷ [] = c.in_ok-push.ensures.ok in
    let same : length s.pairs.items ≡ length s.formula.clauses = sym (length-items s.pairs) ∙ s.paired in
    record {
      width = s.width;
      within = rw cs (within_push s.formula.variables s.formula.clauses c.args.clause s.within c.requires.below);
      coded = s.coded;
      paired = length-items c.push-2.new.self ∙ rw (ps, cs) (omega (arith, same, length_push s.pairs.items c.args.pair, length_push s.formula.clauses c.args.clause));
      ordered = s.ordered;
      guarded = rw (ps, cs) (guarded_join s.formula.clauses t s.stops.items s.head s.lists.items s.pairs.items s.short.items c.args.clause c.args.pair same c.requires.guard c.requires.short s.guarded);
      settling = rw cs (settled_join s.formula.clauses _ s.short.items s.settled c.args.clause s.settling);
    }
