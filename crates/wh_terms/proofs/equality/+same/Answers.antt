use Rattle.std.proofs.Common.{List, ◌≡◌, ap, sym, ◌∙◌, arith, rules}
use Rattle.wh_terms.specs.Erase.{tms}
use Rattle.wh_terms.specs.declared.term.Term.{Term}
use Rattle.wh_terms.proofs.TermLemmas.{tm_of_meta, weight_in_meta, weight_in_item}
use Rattle.wh_terms.proofs.SameLemmas.{same_length, same_at, same_next}
use Rattle.wh_terms.proofs.equality.+same.Goals as goal

pub same-same_terms-requires : goal.same-same_terms-requires
same-same_terms-requires t c =
    (omega (arith, weight_in_meta c.args.a.now c.in-Meta-Meta.y c.in-Meta-Meta.items c.in-Meta-Meta.is-0), tt)

pub same-returns-then-y-z : goal.same-returns-then-y-z
same-returns-then-y-z t c =
    let left = tm_of_meta c.args.a.now c.in-Meta-Meta.y c.in-Meta-Meta.items c.in-Meta-Meta.is-0 in
    let right = tm_of_meta c.args.b.now c.in-Meta-Meta.z c.in-Meta-Meta.others c.in-Meta-Meta.is-1 in
    (λ yes. let here = c.same_terms.ensures.0 yes in cc, λ e. c.same_terms.ensures.1 cc)

-- the lists that the slices stand for
abbrev both : (us vs : List Term) (xs ys : List Term) → xs ≡ us → ys ≡ vs → tms us ≡ tms vs → tms xs ≡ tms ys
both us vs xs ys ex ey e = ap tms ex ∙ e ∙ sym (ap tms ey)

pub same_terms-returns-then-items-others : goal.same_terms-returns-then-items-others
same_terms-returns-then-items-others t c = (
  λ no_way. cc,
  λ e. absurd (c.if-items-others.true (same_length c.as_slice-items.result.now c.as_slice-others.result.now
      (both c.args.a.now c.args.b.now c.as_slice-items.result.now c.as_slice-others.result.now c.as_slice-items.ensures c.as_slice-others.ensures e))),
)

pub same_terms-same-requires : goal.same_terms-same-requires
same_terms-same-requires t c =
    (omega (arith, weight_in_item c.args.a.now c.as_slice-items.result.now c.loop-i.i c.index-items-i.result c.as_slice-items.ensures c.loop-i-test.true c.index-items-i.is), tt)

pub same_terms-returns-then-not-same : goal.same_terms-returns-then-not-same
same_terms-returns-then-not-same t c =
    let at = λ (e : tms c.args.a.now ≡ tms c.args.b.now). same_at c.as_slice-items.result.now c.as_slice-others.result.now c.loop-i.i c.index-items-i.result c.index-others-i.result
    (both c.args.a.now c.args.b.now c.as_slice-items.result.now c.as_slice-others.result.now c.as_slice-items.ensures c.as_slice-others.ensures e)
    c.loop-i-test.true c.index-items-i.is c.index-others-i.is in
    (λ no_way. cc, λ e. c.if-not-same.ensures.1 (at e))

pub same_terms-loop-i-preserved : goal.same_terms-loop-i-preserved
same_terms-loop-i-preserved t c =
    same_next c.as_slice-items.result.now c.as_slice-others.result.now c.loop-i.i c.index-items-i.result c.index-others-i.result c.loop-i.invariant
    c.loop-i-test.true c.if-items-others.false c.index-items-i.is c.index-others-i.is (c.same.ensures.0 (search rules))
