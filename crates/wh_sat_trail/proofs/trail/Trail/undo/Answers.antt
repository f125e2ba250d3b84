use Rattle.std.proofs.Common.{arith, sym, ap, ◌∙◌, ◌≡◌, ◌<◌, ◌≤◌, length, get_or, take, map}
use Rattle.std.proofs.lemmas.List.{get_or_default}
use Rattle.wh_sat_trail.specs.Watch.{no_stop}
use Rattle.wh_sat_trail.proofs.Guarding.{guarded_fewer, ordered_fewer, before_stop}
use Rattle.wh_sat_trail.proofs.Rooms.{length-items}
use Rattle.std.proofs.lemmas.List.{take-map}
use Rattle.wh_sat_trail.proofs.Settling.{settled_back, settled_fewer}
use Rattle.wh_sat_trail.proofs.trail.Trail.undo.Goals as goal

pub invariant_of-self : goal.invariant_of-self
invariant_of-self c =
    let s = c.args.self.now in
    let t = s.assignment.literals.items in
    let is : c.truncate.new.self.items ≡ take c.args.level s.stops.items = c.truncate.ensures.items in
    let w : c.args.level ≤ length s.stops.items = omega (arith, length-items s.stops, c.if-level-len.true, c.len.ensures) in
    record {
      width = s.width;
      within = s.within;
      coded = s.coded;
      paired = s.paired;
      ordered = rw is (ordered_fewer s.stops.items s.head (length t) c.args.level w s.ordered);
      guarded = rw is (guarded_fewer s.formula.clauses t s.stops.items s.head s.lists.items s.pairs.items s.short.items c.args.level w s.guarded);
      settling = rw is (settled_fewer s.formula.clauses t s.stops.items s.short.items s.settled c.args.level s.settling);
    }

pub cut-requires-clause-dones : goal.cut-requires-clause-dones
cut-requires-clause-dones c =
    let s = c.args.self.now in
    let w : c.args.level < length s.stops.items = omega (arith, length-items s.stops, c.if-level-len.true, c.len.ensures) in
    let e : c.index-stop.result.now ≡ get_or s.stops.items c.args.level no_stop = c.index-stop.ensures ∙ get_or_default s.stops.items c.args.level _ no_stop w in
    rw (e, c.truncate.ensures.items) (λ j v. (before_stop s.stops.items s.head _ c.args.level j s.ordered w v).0)

pub cut-requires-clause-marks : goal.cut-requires-clause-marks
cut-requires-clause-marks c =
    let s = c.args.self.now in
    let w : c.args.level < length s.stops.items = omega (arith, length-items s.stops, c.if-level-len.true, c.len.ensures) in
    let e : c.index-stop.result.now ≡ get_or s.stops.items c.args.level no_stop = c.index-stop.ensures ∙ get_or_default s.stops.items c.args.level _ no_stop w in
    rw (e, c.truncate.ensures.items) (λ j v. (before_stop s.stops.items s.head _ c.args.level j s.ordered w v).1)

pub cut-requires-clause-settling : goal.cut-requires-clause-settling
cut-requires-clause-settling c =
    let s = c.args.self.now in
    let w : c.args.level < length s.stops.items = omega (arith, length-items s.stops, c.if-level-len.true, c.len.ensures) in
    let e : c.index-stop.result.now ≡ get_or s.stops.items c.args.level no_stop = c.index-stop.ensures ∙ get_or_default s.stops.items c.args.level _ no_stop w in
    rw (e, c.truncate.ensures.items) (settled_back s.formula.clauses s.assignment.literals.items s.stops.items s.head s.short.items s.settled c.args.level w s.ordered s.settling)

pub returns-then-level-len-clause-marks : goal.returns-then-level-len-clause-marks
returns-then-level-len-clause-marks c =
    ap (map (λ stop. stop.mark)) (c.cut.ensures.stops ∙ c.truncate.ensures.items) ∙ sym (take-map (λ stop. stop.mark) c.args.level c.args.self.now.stops.items)
