use Rattle.std.proofs.Common.{List, subst, sym, rules}
use Rattle.wh_terms.specs.Pattern.{AllBoundBelow, Distinct, IsPatternUnder}
use Rattle.wh_terms.specs.Erase.{tms}
use Rattle.wh_terms.specs.declared.term.Term.{Term}
use Rattle.wh_terms.proofs.TermLemmas.{tm_of_meta}
use Rattle.wh_match.proofs.pattern.+pattern.Goals as goal

pub is_pattern_under-returns-then-all_bound_below : goal.is_pattern_under-returns-then-all_bound_below
is_pattern_under-returns-then-all_bound_below t c =
    let k = c.args.binders in
    let e = tm_of_meta c.args.term.now c.in-Meta.field-0 c.in-Meta.items c.in-Meta.is in
    let below = subst (λ (xs : List Term). AllBoundBelow k (tms xs)) c.as_slice.ensures (c.all_bound_below.ensures.0 (search rules)) in (
      λ yes. subst (IsPatternUnder k) (sym e) (below, subst (λ (xs : List Term). Distinct (tms xs)) c.as_slice-then-all_bound_below.ensures (c.are_distinct.ensures.0 yes)),
      λ all. c.are_distinct.ensures.1 (subst (λ (xs : List Term). Distinct (tms xs)) (sym c.as_slice-then-all_bound_below.ensures) (subst (IsPatternUnder k) e all).1),
    )

pub is_pattern_under-returns-else-all_bound_below : goal.is_pattern_under-returns-else-all_bound_below
is_pattern_under-returns-else-all_bound_below t c =
    let k = c.args.binders in
    let e = tm_of_meta c.args.term.now c.in-Meta.field-0 c.in-Meta.items c.in-Meta.is in (
      λ yes. absurd (cc (yes, c.if-all_bound_below.false)),
      λ all. c.all_bound_below.ensures.1 (subst (λ (xs : List Term). AllBoundBelow k (tms xs)) (sym c.as_slice.ensures) (subst (IsPatternUnder k) e all).0),
    )
