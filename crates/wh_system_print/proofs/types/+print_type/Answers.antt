use Rattle.std.proofs.Common.{◌≡◌, ap, ap₂, sym, subst, ◌∙◌, arith, length}
use Rattle.wh_types.specs.Ty.{sort, ◌⇒◌, SortsBelow}
use Rattle.wh_types.specs.Erase.{ty}
use Rattle.wh_text.proofs.PrintLemmas.{on_ok}
use Rattle.wh_system_print.proofs.TypePrinting.{weight, arrow_pushed, sort_pushed, part_alone, part_enclosed}
use Rattle.wh_system_print.proofs.types.+print_type.Goals as goal

pub print_part-returns-in-Sort : goal.print_part-returns-in-Sort
print_part-returns-in-Sort t c =
    on_ok c.print_type.result _ _
    (part_alone c.args.sorts.now (ty c.args.kind.now) c.in-Sort.field-0 c.args.out.now c.print_type.new.out (ap ty c.in-Sort.is)) c.print_type.ensures

pub print_part-returns-in_ok-print_type-in-Arrow : goal.print_part-returns-in_ok-print_type-in-Arrow
print_part-returns-in_ok-print_type-in-Arrow t c =
    on_ok c.push-in-Arrow.result _ _
    (part_enclosed c.args.sorts.now (ty c.args.kind.now) (ty c.in-Arrow.field-0.value) (ty c.in-Arrow.field-1.value) c.args.out.now c.push.new.self c.print_type-in-Arrow.new.out
    c.push-in-Arrow.new.self (ap ty c.in-Arrow.is) c.in_ok-push-in-Arrow.ensures.ok c.in_ok-print_type-in-Arrow.ensures)
    c.push-in-Arrow.ensures.ok

pub print_type-bounds-sorts-sort : goal.print_type-bounds-sorts-sort
print_type-bounds-sorts-sort t c =
    subst (SortsBelow (length c.args.sorts.now)) (ap ty c.in-Sort.is) c.loop-here.invariant.sorted

pub print_type-returns-in-Sort : goal.print_type-returns-in-Sort
print_type-returns-in-Sort t c =
    let is : ty c.loop-here.here.now ≡ sort c.in-Sort.sort = ap ty c.in-Sort.is in
    on_ok c.append.result _ _
    (λ e. sort_pushed c.args.sorts.now (ty c.loop-here.here.now) c.in-Sort.sort c.args.out.now c.loop-here.out c.append.new.self c.bytes.result.now c.index-sorts-sort.result _ is
    (subst (SortsBelow (length c.args.sorts.now)) is c.loop-here.invariant.sorted) (c.bytes.ensures.value ∙ c.index-sorts-sort.is) e c.loop-here.invariant.left)
    c.append.ensures.ok

pub print_type-print_part-requires : goal.print_type-print_part-requires
print_type-print_part-requires t c =
    let is : ty c.loop-here.here.now ≡ (ty c.in-Arrow.argument.value ⇒ ty c.in-Arrow.rest.value) = ap ty c.in-Arrow.is in
    let argument = ap ty c.deref.ensures in
    let both = subst (SortsBelow (length c.args.sorts.now)) is c.loop-here.invariant.sorted in
    (omega (arith, ap weight is, ap weight argument, c.loop-here.invariant.light), subst (SortsBelow (length c.args.sorts.now)) (sym argument) both.0)

pub print_type-loop-here-preserved : goal.print_type-loop-here-preserved
print_type-loop-here-preserved t c =
    let argument = ap ty c.deref.ensures in
    let rest = ap ty c.deref-here.ensures in
    let is : ty c.loop-here.here.now ≡ (ty c.deref.result.now ⇒ ty c.deref-here.result.now) = ap ty c.in-Arrow.is ∙ ap₂ ◌⇒◌ (sym argument) (sym rest) in
    record {
      left = arrow_pushed c.args.sorts.now (ty c.loop-here.here.now) (ty c.deref.result.now) (ty c.deref-here.result.now) c.args.out.now c.loop-here.out c.print_part.new.out c.append-in-Arrow.new.self _
          is c.loop-here.invariant.left c.in_ok-print_part-in-Arrow.ensures c.in_ok-append-in-Arrow.ensures.ok;
      sorted = (subst (SortsBelow (length c.args.sorts.now)) is c.loop-here.invariant.sorted).1;
      light = omega (arith, ap weight is, c.loop-here.invariant.light);
    }
