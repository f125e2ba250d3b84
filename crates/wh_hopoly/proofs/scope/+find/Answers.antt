-- A variable is one of the frames around, or an argument of the last one.
use Rattle.std.proofs.Common.{◌≡◌, ◌+◌, [], ◌∷◌, length, sym, subst, ap}
use Rattle.std.specs.Prelude.{MatchResult}
use Rattle.wh_types.specs.Ty.{arguments}
use Rattle.wh_types.specs.Erase.{ty}
use Rattle.wh_poly.specs.Polynomials.{HasType}
use Rattle.wh_hopoly.specs.Scopes.{scope_of}
use Rattle.wh_hopoly.proofs.ReplaceLaws.{at_left}
use Rattle.wh_hopoly.proofs.ScopeLaws.{type_in_list, found_behind}
use Rattle.wh_hopoly.proofs.scope.+find.Goals as goal

pub returns-then-variable-types : goal.returns-then-variable-types
returns-then-variable-types t c = subst (λ kind. HasType (scope_of c.args.scope.now) c.args.variable (ty kind)) c.index-types-variable.is
    (subst (λ Γ. HasType Γ c.args.variable (ty c.index-types-variable.result)) (sym (ap scope_of c.in-Given.is))
    (type_in_list c.in-Given.types.now c.args.variable c.index-types-variable.result c.if-variable-types.true c.index-types-variable.is))

pub returns-in-Ok : goal.returns-in-Ok
returns-in-Ok t c = subst (λ Γ. HasType Γ c.args.variable (ty c.in-Ok.found.now)) (sym (ap scope_of c.in-Wider.is))
    (at_left (scope_of c.in-Wider.around.now) (arguments (ty c.in-Wider.kind.now)) c.args.variable (ty c.in-Ok.found.now) c.in-Ok.ensures)

pub returns-in-Err : goal.returns-in-Err
returns-in-Err t c = subst (λ Γ. MatchResult c.find_argument.result (λ k. HasType Γ c.args.variable (ty k.now)) (λ past. length Γ + past ≡ c.args.variable)) (sym (ap scope_of c.in-Wider.is))
    (found_behind (λ k. ty k.now) (scope_of c.in-Wider.around.now) (arguments (ty c.in-Wider.kind.now)) c.args.variable c.in-Err.past c.find_argument.result c.in-Err.ensures c.find_argument.ensures)

pub returns-in-Ok-find : goal.returns-in-Ok-find
returns-in-Ok-find t c = subst (λ Γ. HasType Γ c.args.variable (ty c.in-Ok-find.found.now)) (sym (ap scope_of c.in-Bound.is))
    (at_left (scope_of c.in-Bound.around.now) (ty c.in-Bound.kind.now ∷ []) c.args.variable (ty c.in-Ok-find.found.now) c.in-Ok-find.ensures)

pub returns-in-Err-find : goal.returns-in-Err-find
returns-in-Err-find t c = subst (λ Γ. MatchResult c.find_single.result (λ k. HasType Γ c.args.variable (ty k.now)) (λ past. length Γ + past ≡ c.args.variable)) (sym (ap scope_of c.in-Bound.is))
    (found_behind (λ k. ty k.now) (scope_of c.in-Bound.around.now) (ty c.in-Bound.kind.now ∷ []) c.args.variable c.in-Err-find.past c.find_single.result c.in-Err-find.ensures c.find_single.ensures)
