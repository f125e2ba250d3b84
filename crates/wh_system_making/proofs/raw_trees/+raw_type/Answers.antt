use Rattle.std.proofs.Common.{List, ap, sym, subst, ◌∙◌, ◌<◌, ◌≡◌, length, rules}
use Rattle.wh_types.specs.Erase.{ty}
use Rattle.wh_text.specs.Erase.{rty, rtys}
use Rattle.wh_text.specs.declared.raw.RawType.{RawType, roll-RawType}
use Rattle.wh_system.specs.Canonical.{raw_arguments_of, join_types}
use Rattle.wh_system_making.proofs.CanonicalWalk.{types_next, types_none, result_there, made_type}
use Rattle.wh_system_making.proofs.raw_trees.+raw_type.Goals as goal

pub push_arguments-returns-in_ok-push_arguments : goal.push_arguments-returns-in_ok-push_arguments
push_arguments-returns-in_ok-push_arguments t c =
    let domain : ty c.deref.result.now ≡ ty c.in-Arrow.domain.value = search rules in
    let rest : ty c.deref-in-Arrow.result.now ≡ ty c.in-Arrow.rest.value = search rules in
    types_next c.args.args.now c.push.new.self c.push_arguments.new.args c.in_ok-raw_type.field-0 c.args.sorts.now (ty c.deref.result.now) (ty c.deref-in-Arrow.result.now) (ty c.args.kind.now)
    (ap ty c.in-Arrow.is) domain rest c.in_ok-push.ensures.ok c.in_ok-raw_type.ensures c.in_ok-push_arguments.ensures

pub push_arguments-returns-in_default : goal.push_arguments-returns-in_default
push_arguments-returns-in_default t c =
    sym (ap (λ k. join_types (rtys c.args.args.now) (raw_arguments_of c.args.sorts.now (ty k))) c.in_default.is ∙ types_none (rtys c.args.args.now))

pub raw_type-bounds-sorts-result_sort : goal.raw_type-bounds-sorts-result_sort
raw_type-bounds-sorts-result_sort t c =
    subst (λ k. k < length c.args.sorts.now) (sym c.result_sort.ensures) (result_there (length c.args.sorts.now) (ty c.args.kind.now) c.requires)

pub raw_type-returns : goal.raw_type-returns
raw_type-returns t c =
    ap (λ (xs : List RawType). rty (roll-RawType (record { args = xs; sort = c.in_ok-copy_of.field-0; at = 0 }))) c.args-2.view_is
    ∙ made_type c.args.sorts.now (ty c.args.kind.now) c.push_arguments.new.args c.new-args.result c.result_sort.result c.index-sorts-result_sort.result c.in_ok-copy_of.field-0
    c.new-args.ensures c.in_ok-push_arguments.ensures c.result_sort.ensures (result_there (length c.args.sorts.now) (ty c.args.kind.now) c.requires) (c.in_ok-copy_of.ensures ∙ c.index-sorts-result_sort.is)
