use Rattle.std.proofs.Common.{arith, sym, ap, ◌∙◌, ◌≡◌, [], ◌∷◌, ◌++◌, ◌<◌, length, get_or, take}
use Rattle.std.proofs.lemmas.List.{get_or_default, take_all, take_more, get_or-map, length-map}
use Rattle.wh_sat_trail.specs.State.{assigned, marks_of}
use Rattle.wh_sat_trail.specs.Watch.{nothing}
use Rattle.wh_sat.specs.Solving.{decisions}
use Rattle.wh_sat.proofs.Leveling.{rising_marks}
use Rattle.wh_sat.proofs.learner.Learner.decisions.Goals as goal

pub loop-level-preserved : goal.loop-level-preserved
loop-level-preserved c =
    let s = c.args.self.now.trail in
    let t = assigned s in
    let ms = marks_of s in
    let ds = decisions t ms in
    let i = c.loop-level.level in
    let w : i < length ms = omega (arith, c.loop-level-test.true, c.levels-levels.ensures) in
    let v : i < length ds = omega (arith, w, length-map ms (λ place. get_or t place nothing)) in
    let d : c.decision.result ≡ get_or ds i nothing = c.decision.ensures ∙ get_or_default t (get_or ms i 0) _ nothing ((rising_marks s).within i w) ∙ sym (get_or-map (λ place. get_or t place nothing) ms i 0 nothing w) in
    c.in_ok-push.ensures.items ∙ ap (λ xs. xs ++ c.decision.result ∷ []) c.loop-level.invariant ∙ ap (λ x. take i ds ++ x ∷ []) d ∙ sym (take_more ds i nothing v)

pub returns : goal.returns
returns c =
    let s = c.args.self.now.trail in
    let ds = decisions (assigned s) (marks_of s) in
    c.loop-level.invariant ∙ take_all c.loop-level.level ds (omega (arith, c.loop-level-test.false, c.levels-levels.ensures, length-map (marks_of s) (λ place. get_or (assigned s) place nothing)))
