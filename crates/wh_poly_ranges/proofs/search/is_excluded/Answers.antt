use Rattle.std.proofs.Common.{Contains, arith, sym, subst}
use Rattle.std.proofs.lemmas.List.Elements.{Contains-push}
use Rattle.wh_poly_ranges.specs.Out.{AllOut, IsOut}
use Rattle.wh_poly_ranges.proofs.Kept.{told}
use Rattle.wh_poly_ranges.proofs.Spans.{all_more, none_waits, span_out, ranges_out}
use Rattle.wh_poly_ranges.proofs.search.is_excluded.Goals as goal

pub spans-init : goal.spans-init
spans-init c = λ all. all c.args.first (subst (λ l. Contains l c.args.first) (sym c.in_ok-push.ensures.items) (Contains-push c.new-spans.result.items c.args.first))

pub returns-in_default : goal.returns-in_default
returns-in_default c = c.spans.invariant (none_waits c.args.task.now c.args.strict c.spans.spans.items (λ more.
    let e = c.in_default.ensures.variant.1 (omega (arith, more, c.spans.spans.ok.0)) in absurd (cc)))

pub spans-preserved-then-branch : goal.spans-preserved-then-branch
spans-preserved-then-branch c = λ all.
    let t = c.args.task.now in
    let out = told c.in_ok-narrow_all.field-0 (IsOut t c.args.strict c.in_ok-ranges.ranges) c.if-branch.true c.in_ok-narrow_all.ensures.out in
    c.spans.invariant (subst (AllOut t c.args.strict) (sym c.in-Some.ensures.items)
    (all_more t c.args.strict c.pop.new.self.items c.in-Some.span all
    (ranges_out t c.args.strict c.in-Some.span c.in_ok-ranges.ranges c.in_ok-ranges.ensures.low c.in_ok-ranges.ensures.high out)))

pub spans-preserved : goal.spans-preserved
spans-preserved c = λ all.
    let t = c.args.task.now in
    let both = told c.in_ok-split.field-0 _ c.if-not-branch.false c.in_ok-split.ensures t c.args.strict all in
    c.spans.invariant (subst (AllOut t c.args.strict) (sym c.in-Some.ensures.items)
    (all_more t c.args.strict c.pop.new.self.items c.in-Some.span both.1
    (span_out t c.args.strict c.in-Some.span c.in_ok-ranges.ranges c.narrow_all.new.ranges c.in_ok-ranges.ensures.low c.in_ok-ranges.ensures.high
    c.in_ok-narrow_all.ensures.kept both.0)))
