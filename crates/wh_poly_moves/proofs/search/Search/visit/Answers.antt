-- A left monomial is marked already, or cannot give, or is marked here.
use Rattle.std.proofs.Common.{◌≡◌, ◌<◌, ◌+◌, length, arith, ap, sym, subst, ◌∙◌, None, IsSome, not, refl}
use Rattle.std.proofs.lemmas.List.{get_or_read}
use Rattle.wh_poly_moves.specs.Flows.{CanGive}
use Rattle.wh_poly_moves.specs.Paths.{target, IsSpent, AllMarked}
use Rattle.wh_poly_moves.proofs.SearchSteps.{target_read}
use Rattle.wh_poly_moves.proofs.VisitWalk.{VisitWalk, visit_starts, visit_passes, visit_marks, visit_ends}
use Rattle.wh_poly_moves.proofs.search.Search.visit.Goals as goal
use Rattle.wh_poly_moves.proofs.search.Search.visit.Goals.{then-is_none+then-can_give+else-index-gt0, else-is_none, else-is_none-via-then-is_none+else-can_give, else-is_none-via-else-is_none}

pub loop-giver-init : goal.loop-giver-init
loop-giver-init c = visit_starts c.args.left.now c.args.right.now c.args.flow.now c.args.self.now c.index.result.now.target c.requires.search

pub can_give-requires-clause-taker : goal.can_give-requires-clause-taker
can_give-requires-clause-taker c = subst (λ j. j < length c.args.right.now) (target_read c.args.self.now.steps.items c.args.at c.index.result.now c.requires.here c.index.ensures)
    (c.requires.search.steps.here c.args.at c.requires.here)

pub loop-giver-preserved : goal.loop-giver-preserved
loop-giver-preserved c =
    let now = c.loop-giver.self in
    let j = c.index.result.now.target in
    let here : c.loop-giver.giver < length now.givers.items = let l = c.loop-giver.invariant.search.givers_long in omega (arith, l, c.loop-giver-test.true) in
    elim c.if-is_none.branch [
      | then-is_none+then-can_give+else-index-gt0 w ↦
          let same = c.loop-giver.invariant.marked.steps in
          let at : target now.steps.items c.args.at ≡ j = ap (λ ss. target ss c.args.at) same ∙ target_read c.args.self.now.steps.items c.args.at c.index.result.now c.requires.here c.index.ensures in
          let read = get_or_read c.args.flow.now.free.items c.loop-giver.giver w.index-then-can_give.result.now (let l = c.requires.flow.free_long in omega (arith, l, c.loop-giver-test.true)) w.index-then-can_give.ensures 0 in
          let spent : IsSpent c.args.left.now c.args.right.now c.args.flow.now now.steps.items c.loop-giver.giver c.args.at = record {
            here = let e = ap length same in omega (arith, e, c.requires.here);
            gives = subst (CanGive c.args.left.now c.args.right.now c.loop-giver.giver) (sym at) (w.can_give.ensures.0 w.if-can_give.true);
            spent = omega (arith, read, w.if-index-gt0.false);
          } in
          subst (λ s. VisitWalk c.args.left.now c.args.right.now c.args.flow.now c.args.self.now s j (c.loop-giver.giver + 1)) (sym w.self-is)
          (visit_marks c.args.left.now c.args.right.now c.args.flow.now c.args.self.now now _ j c.loop-giver.giver c.args.at c.loop-giver.invariant refl refl refl here spent)
      | else-is_none w ↦ subst (λ s. VisitWalk c.args.left.now c.args.right.now c.args.flow.now c.args.self.now s j (c.loop-giver.giver + 1)) (sym w.self-is)
          (visit_passes c.args.left.now c.args.right.now c.args.flow.now c.args.self.now now j c.loop-giver.giver (elim w.else-is_none.branch [
            | else-is_none-via-then-is_none+else-can_give w' ↦ λ can. absurd (let yes = w'.can_give.ensures.1 can in let no = w'.if-can_give.false in cc)
            | else-is_none-via-else-is_none w' ↦ λ _.
                let read = get_or_read now.givers.items c.loop-giver.giver c.index-in-loop-giver.result.now here c.index-in-loop-giver.ensures None in
                subst IsSome read (c.is_none.ensures ∙ ap (λ b. not b) w'.if-is_none.false)
          ]) c.loop-giver.invariant)
    ]

pub returns-clause-found : goal.returns-clause-found
returns-clause-found c = subst (λ j. AllMarked c.args.left.now c.args.right.now j c.loop-giver.self) (sym (target_read c.args.self.now.steps.items c.args.at c.index.result.now c.requires.here c.index.ensures))
    (visit_ends c.args.left.now c.args.right.now c.args.flow.now c.args.self.now c.loop-giver.self c.index.result.now.target c.loop-giver.giver c.loop-giver.invariant c.loop-giver-test.false)
