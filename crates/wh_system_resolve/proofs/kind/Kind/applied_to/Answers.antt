use Rattle.std.proofs.Common.{◌≡◌, ap, sym, ◌∙◌, rules}
use Rattle.wh_types.specs.Erase.{ty}
use Rattle.wh_types.specs.Ty.{◌⇒◌}
use Rattle.wh_system_resolve.specs.InScope.{type_of}
use Rattle.wh_system_resolve.proofs.FittingLemmas.{takes_it, takes_not}
use Rattle.wh_system_resolve.proofs.kind.Kind.applied_to.Goals as goal

pub returns-then-same_type-clause-taken : goal.returns-then-same_type-clause-taken
returns-then-same_type-clause-taken c =
    let d = ty c.in-Arrow.domain.value in
    let r = ty c.in-Arrow.rest.value in
    let is : type_of c.args.self ≡ (d ⇒ r) = ap type_of c.in-Known.is ∙ ap ty c.in-Arrow.is in
    sym (takes_it (type_of c.args.self) (ty c.args.argument.now) d r is (sym (ap ty c.deref.ensures) ∙ c.same_type.ensures.0 (search rules)))

pub returns-in-Arrow-clause-taken : goal.returns-in-Arrow-clause-taken
returns-in-Arrow-clause-taken c =
    let d = ty c.in-Arrow.domain.value in
    let r = ty c.in-Arrow.rest.value in
    let is : type_of c.args.self ≡ (d ⇒ r) = ap type_of c.in-Known.is ∙ ap ty c.in-Arrow.is in
    sym (takes_not (type_of c.args.self) (ty c.args.argument.now) d r is (λ e. let yes = c.same_type.ensures.1 (ap ty c.deref.ensures ∙ e) in cc yes))

pub returns-then-same_type-2-clause-taken : goal.returns-then-same_type-2-clause-taken
returns-then-same_type-2-clause-taken c =
    let d = ty c.in-Own-Arrow.domain.value in
    let r = ty c.in-Own-Arrow.rest.value in
    let is : type_of c.args.self ≡ (d ⇒ r) = ap type_of c.in-Own-Arrow.is ∙ ap ty c.in-Own-Arrow.field-0-is in
    sym (takes_it (type_of c.args.self) (ty c.args.argument.now) d r is (sym (ap ty c.deref-in-Own-Arrow.ensures) ∙ c.same_type-in-Own-Arrow.ensures.0 (search rules)))

pub returns-in-Own-Arrow-clause-taken : goal.returns-in-Own-Arrow-clause-taken
returns-in-Own-Arrow-clause-taken c =
    let d = ty c.in-Own-Arrow.domain.value in
    let r = ty c.in-Own-Arrow.rest.value in
    let is : type_of c.args.self ≡ (d ⇒ r) = ap type_of c.in-Own-Arrow.is ∙ ap ty c.in-Own-Arrow.field-0-is in
    sym (takes_not (type_of c.args.self) (ty c.args.argument.now) d r is (λ e. let yes = c.same_type-in-Own-Arrow.ensures.1 (ap ty c.deref-in-Own-Arrow.ensures ∙ e) in cc yes))
