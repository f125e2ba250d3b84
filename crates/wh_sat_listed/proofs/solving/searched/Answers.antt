use Rattle.std.proofs.Common.{arith, sym, ap, subst, ◌∙◌, ◌≡◌, ◌≤◌, ◌^◌, length, drop, replicate, false}
use Rattle.std.proofs.lemmas.List.{length-drop}
use Rattle.wh_sat_trail.specs.declared.formula.Formula.{Formula}
use Rattle.wh_sat.specs.Learning.{Learnt}
use Rattle.wh_sat.specs.State.{clauses_of, variables_of}
use Rattle.wh_sat.proofs.Deciding.{begun, list_learnt, solves_front}
use Rattle.wh_sat.proofs.Numbering.{learnt_bounded}
use Rattle.wh_sat_listed.proofs.solving.searched.Goals as goal

pub returns-in-Model : goal.returns-in-Model
returns-in-Model c =
    let f = c.args.formula.now in
    let a = c.next.new.self in
    let e = c.in_ok-learner.ensures in
    let x = c.in_ok-next.ensures in
    let copied : c.in_ok-clauses.clauses ≡ f.clauses = c.in_ok-clauses.ensures in
    let g = begun f.clauses c.args.budget c.in_ok-learner.learner a (e.clauses ∙ copied) (e.given ∙ ap (λ cs. replicate (length cs) false) copied) e.left
    x.extends x.sound in
    let r = rw c.in-Model.is at x.answer in
    (omega (arith, r.0, g.count, g.long), r.1 ∙ x.extends.variables ∙ e.variables, solves_front _ f.clauses (clauses_of a) g.front r.2)

pub returns : goal.returns
returns c =
    let f = c.args.formula.now in
    let a = c.next.new.self in
    let e = c.in_ok-learner.ensures in
    let x = c.in_ok-next.ensures in
    let copied : c.in_ok-clauses.clauses ≡ f.clauses = c.in_ok-clauses.ensures in
    let g = begun f.clauses c.args.budget c.in_ok-learner.learner a (e.clauses ∙ copied) (e.given ∙ ap (λ cs. replicate (length cs) false) copied) e.left
    x.extends x.sound in
    let r = rw c.in-Spent.is at x.answer in
    let l = c.in_ok-learnt-in-Spent.learnt in
    let is : l ≡ drop (length f.clauses) (clauses_of a) =
    c.in_ok-learnt-in-Spent.ensures ∙ ap (λ (y : Formula). drop (length c.as_slice-given.result.now) y.clauses) c.formula-in-Spent.ensures
    ∙ ap (λ xs. drop (length xs) (clauses_of a)) c.as_slice-given.ensures in
    let m : variables_of a ≡ f.variables = x.extends.variables ∙ e.variables in
    let all : Learnt f.variables f.clauses (drop (length f.clauses) (clauses_of a)) =
    subst (λ n. Learnt n f.clauses (drop (length f.clauses) (clauses_of a))) m
    (list_learnt (variables_of a) f.clauses (clauses_of a) a.learnt.items g.front g.later x.sound.known) in
    let long : length l ≡ c.args.budget = omega (arith, ap length is, length-drop (length f.clauses) (clauses_of a), r, g.count) in
    let learnt : Learnt f.variables f.clauses l = subst (Learnt f.variables f.clauses) (sym is) all in
    (long, learnt, subst (λ k. k ≤ 3 ^ f.variables) long (learnt_bounded f.variables f.clauses l learnt))
