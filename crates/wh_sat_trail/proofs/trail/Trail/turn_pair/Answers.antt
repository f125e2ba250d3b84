use Rattle.std.proofs.Common.{rules, arith, ap, subst, inl, inr, true, ◌≡◌, [], ◌<◌, length, get_or}
use Rattle.wh_sat_trail.specs.Watch.{Guard, no_pair, pair}
use Rattle.wh_sat_trail.proofs.Guarding.{guarded_set, guard_swap}
use Rattle.wh_sat_trail.proofs.Rooms.{length-items}
use Rattle.wh_sat_trail.specs.declared.watch.Pair.{Pair}
use Rattle.wh_sat_trail.proofs.trail.Trail.turn_pair.Goals as goal

pub invariant_of-self : goal.invariant_of-self
invariant_of-self c =
    let s = c.args.self.now in
    let n = c.args.number in
    let p = pair c.args.falsified c.args.other in
    let w : n < length s.pairs.items = omega (arith, length-items s.pairs, c.requires.number_in) in
    let v : n < length s.formula.clauses = omega (arith, s.paired, c.requires.number_in) in
    let kind : (get_or s.pairs.items n no_pair).watched ≡ true = elim c.requires.both [ inl e ↦ ap (λ q. q.watched) e | inr e ↦ ap (λ q. q.watched) e ] in
    let old = s.guarded.watched n v kind in
    let G : Pair → Type 0 = Guard s.assignment.literals.items s.stops.items s.head s.lists.items (get_or s.formula.clauses n []) n in
    let mine : G p = elim c.requires.both [ inl e ↦ subst G e old | inr e ↦ guard_swap s.assignment.literals.items s.stops.items s.head s.lists.items (get_or s.formula.clauses n []) n c.args.falsified c.args.other (subst G e old) ] in
    record {
      width = s.width;
      within = s.within;
      coded = s.coded;
      paired = search rules;
      ordered = s.ordered;
      guarded = guarded_set s.formula.clauses s.assignment.literals.items s.stops.items s.head s.lists.items s.pairs.items s.short.items n c.args.falsified c.args.other w mine s.guarded;
      settling = s.settling;
    }
