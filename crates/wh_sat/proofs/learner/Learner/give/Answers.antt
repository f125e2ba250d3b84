use Rattle.std.proofs.Common.{sym, subst, ◌∙◌, false, [], ◌∷◌, ◌++◌}
use Rattle.wh_sat.specs.Learning.{Derives, Has}
use Rattle.wh_sat.specs.State.{clauses_of, variables_of}
use Rattle.wh_sat.proofs.Leveling.{derives_more, known_given, known_as}
use Rattle.wh_sat.proofs.learner.Learner.give.Goals as goal

pub returns-clause-sound : goal.returns-clause-sound
returns-clause-sound c =
    let s = c.args.self.now in
    let e = c.in_ok-join.ensures in
    let q = c.requires.sound in
    record {
      known = known_as (variables_of s) _ (clauses_of s ++ c.args.clause ∷ []) _ (s.learnt.items ++ false ∷ []) _ e.variables e.clauses e.learnt (known_given (variables_of s) (clauses_of s) s.learnt.items c.args.clause q.known);
      ground = e.marks ∙ q.ground;
      derived = λ m h. subst (λ cs. Derives cs [] m) (sym e.clauses) (derives_more (clauses_of s) c.args.clause [] m (q.derived m (subst (λ t. Has t m) e.assigned h)));
    }
