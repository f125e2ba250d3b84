use Rattle.std.proofs.Common.{arith, subst, ◌∙◌, ◌≡◌, ◌<◌, [], get_or, length}
use Rattle.std.proofs.lemmas.List.{get_or_default}
use Rattle.wh_sat_trail.proofs.Rooms.{length-items}
use Rattle.wh_sat_trail.proofs.Settling.{met_ground, met_quiet}
use Rattle.wh_sat_trail.proofs.Visiting.{closed_by, short_step}
use Rattle.wh_sat_trail.specs.Look.{Looks}
use Rattle.wh_sat_trail.specs.declared.look.Look.TheVariants as look
use Rattle.wh_sat_trail.proofs.trail.Trail.find.Goals.{then-number-len+in-Quiet, else-number-len}
use Rattle.wh_sat_trail.proofs.trail.Trail.find.Goals as goal

pub loop-place-init : goal.loop-place-init
loop-place-init c =
    let s = c.args.self.now in
    λ i w v. met_quiet s.assignment.literals.items _ (met_ground s.stops.items s.assignment.literals.items _ (s.settling.met i w))

pub loop-place-preserved : goal.loop-place-preserved
loop-place-preserved c =
    let s = c.args.self.now in
    let n = c.loop-place.place in
    let w : n < length s.short.items = omega (arith, c.loop-place-test.true, c.len-place-end.ensures, length-items s.short) in
    let at : c.index-number.result.now ≡ get_or s.short.items n 0 = c.index-number.ensures ∙ get_or_default s.short.items n _ 0 w in
    short_step s.formula.clauses s.assignment.literals.items s.short.items n c.loop-place.invariant (elim c.if-number-len.branch [
      | then-number-len+in-Quiet w ↦ λ _. subst (λ k. Looks s.assignment.literals.items (get_or s.formula.clauses k []) look.Quiet) at (subst (λ x. Looks s.assignment.literals.items x look.Quiet) w.clause.ensures w.in-Quiet.ensures)
      | else-number-len w ↦ λ v. absurd (omega (arith, v, at, w.if-number-len.false, c.len.ensures, s.paired))
    ])

pub returns : goal.returns
returns c =
    let s = c.args.self.now in
    closed_by s.formula.clauses s.assignment.literals.items s.stops.items s.head s.lists.items s.pairs.items s.short.items c.requires s.guarded
    (λ i w. c.loop-place.invariant i (omega (arith, w, c.loop-place-test.false, c.len-place-end.ensures, length-items s.short)))
