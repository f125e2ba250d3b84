-- Each return is what is left to compare at its place.
use Rattle.std.proofs.Common.{rules, ◌+◌, ◌<◌, ◌≤◌, ap, ap₂, sym, ◌∙◌, arith, length, drop}
use Rattle.std.specs.Ordering.{ordering_then}
use Rattle.wh_poly.specs.Polynomials.{compare_factors, compare_arguments}
use Rattle.wh_poly.specs.declared.polynomial.Atom.{out-Atom}
use Rattle.wh_poly.specs.Erase.{product_of}
use Rattle.wh_poly.proofs.Lists.{no_arguments_left, polys_by_lists, atoms_by_lists, arguments_by_lists}
use Rattle.wh_poly.proofs.Sizes.{smaller_factors, smaller_arguments, smaller_poly}
use Rattle.wh_poly.proofs.Walks.{decided, undecided, sums_at, products_at, arguments_at, sums_end_right, products_end_right, arguments_end_right, sums_end_left, products_end_left, arguments_end_left, sums_end, products_end, arguments_end}
use Rattle.wh_poly.proofs.comparing.+order.Goals as goal

pub order-returns-then-i-others : goal.order-returns-then-i-others
order-returns-then-i-others t c = let past : length c.as_slice-others.result.now ≤ c.loop-i.i = search rules in
    sym (polys_by_lists c.args.a.now c.args.b.now c.as_slice-items.result.now c.as_slice-others.result.now c.as_slice-items.ensures c.as_slice-others.ensures ∙ c.loop-i.invariant.same
    ∙ sums_end_right c.as_slice-items.result.now c.as_slice-others.result.now c.loop-i.i c.index-items-i.result c.loop-i-test.true past c.index-items-i.is)

pub order-order_factors-first-requires : goal.order-order_factors-first-requires
order-order_factors-first-requires t c =
    (omega (arith, smaller_factors c.args.a.now c.as_slice-items.result.now c.loop-i.i c.index-items-i.result c.as_slice-items.ensures c.loop-i-test.true c.index-items-i.is), tt)

pub order-returns-then-is_ne : goal.order-returns-then-is_ne
order-returns-then-is_ne t c = let within : c.loop-i.i < length c.as_slice-others.result.now = search rules in
    sym (polys_by_lists c.args.a.now c.args.b.now c.as_slice-items.result.now c.as_slice-others.result.now c.as_slice-items.ensures c.as_slice-others.ensures ∙ c.loop-i.invariant.same
    ∙ sums_at c.as_slice-items.result.now c.as_slice-others.result.now c.loop-i.i c.index-items-i.result c.index-others-i.result c.loop-i-test.true within c.index-items-i.is c.index-others-i.is
    ∙ decided c.then-both.result _ _ (c.then-both.ensures ∙ ap₂ ordering_then c.order_factors-first.ensures c.cmp.ensures) (sym c.is_ne.ensures ∙ c.if-is_ne.true))

pub order-returns-then-items-others : goal.order-returns-then-items-others
order-returns-then-items-others t c = let more : c.loop-i.i < length c.as_slice-others.result.now = omega (arith, c.loop-i.auto.i-end, c.if-items-others.true) in
    sym (polys_by_lists c.args.a.now c.args.b.now c.as_slice-items.result.now c.as_slice-others.result.now c.as_slice-items.ensures c.as_slice-others.ensures ∙ c.loop-i.invariant.same ∙ sums_end_left c.as_slice-items.result.now c.as_slice-others.result.now c.loop-i.i c.loop-i-test.false more)

pub order-returns-else-items-others : goal.order-returns-else-items-others
order-returns-else-items-others t c = let past : length c.as_slice-others.result.now ≤ c.loop-i.i = omega (arith, c.loop-i-test.false, c.if-items-others.false) in
    sym (polys_by_lists c.args.a.now c.args.b.now c.as_slice-items.result.now c.as_slice-others.result.now c.as_slice-items.ensures c.as_slice-others.ensures ∙ c.loop-i.invariant.same ∙ sums_end c.as_slice-items.result.now c.as_slice-others.result.now c.loop-i.i c.loop-i-test.false past)

pub order_factors-returns-then-i-others : goal.order_factors-returns-then-i-others
order_factors-returns-then-i-others t c = let past : length c.as_slice-others.result.now ≤ c.loop-i.i = search rules in
    sym (atoms_by_lists c.args.a.now c.args.b.now c.as_slice-items.result.now c.as_slice-others.result.now c.as_slice-items.ensures c.as_slice-others.ensures ∙ c.loop-i.invariant.same
    ∙ products_end_right c.as_slice-items.result.now c.as_slice-others.result.now c.loop-i.i c.index-items-i.result c.loop-i-test.true past c.index-items-i.is)

pub order_factors-loop-i-preserved-then-is_same_variable : goal.order_factors-loop-i-preserved-then-is_same_variable
order_factors-loop-i-preserved-then-is_same_variable t c = let within : c.loop-i.i < length c.as_slice-others.result.now = search rules in
    record {
      within = omega (arith, within);
      same = c.loop-i.invariant.same
          ∙ products_at c.as_slice-items.result.now c.as_slice-others.result.now c.loop-i.i c.index-items-i.result c.index-others-i.result c.loop-i-test.true within c.index-items-i.is c.index-others-i.is
          ∙ ap (λ o. ordering_then o (compare_factors (product_of (drop (c.loop-i.i + 1) c.as_slice-items.result.now)) (product_of (drop (c.loop-i.i + 1) c.as_slice-others.result.now)))) (c.is_same_variable.ensures c.if-is_same_variable.true);
    }

pub order_factors-order_factor-first-requires : goal.order_factors-order_factor-first-requires
order_factors-order_factor-first-requires t c =
    (omega (arith, smaller_arguments c.args.a.now c.as_slice-items.result.now c.loop-i.i c.index-items-i.result c.as_slice-items.ensures c.loop-i-test.true c.index-items-i.is), tt)

pub order_factors-returns-then-is_ne : goal.order_factors-returns-then-is_ne
order_factors-returns-then-is_ne t c = let within : c.loop-i.i < length c.as_slice-others.result.now = search rules in
    sym (atoms_by_lists c.args.a.now c.args.b.now c.as_slice-items.result.now c.as_slice-others.result.now c.as_slice-items.ensures c.as_slice-others.ensures ∙ c.loop-i.invariant.same
    ∙ products_at c.as_slice-items.result.now c.as_slice-others.result.now c.loop-i.i c.index-items-i.result c.index-others-i.result c.loop-i-test.true within c.index-items-i.is c.index-others-i.is
    ∙ decided c.order_factor-first.result _ _ c.order_factor-first.ensures (sym c.is_ne.ensures ∙ c.if-is_ne.true))

pub order_factors-returns-then-items-others : goal.order_factors-returns-then-items-others
order_factors-returns-then-items-others t c = let more : c.loop-i.i < length c.as_slice-others.result.now = omega (arith, c.loop-i.auto.i-end, c.if-items-others.true) in
    sym (atoms_by_lists c.args.a.now c.args.b.now c.as_slice-items.result.now c.as_slice-others.result.now c.as_slice-items.ensures c.as_slice-others.ensures ∙ c.loop-i.invariant.same ∙ products_end_left c.as_slice-items.result.now c.as_slice-others.result.now c.loop-i.i c.loop-i-test.false more)

pub order_factors-returns-else-items-others : goal.order_factors-returns-else-items-others
order_factors-returns-else-items-others t c = let past : length c.as_slice-others.result.now ≤ c.loop-i.i = omega (arith, c.loop-i-test.false, c.if-items-others.false) in
    sym (atoms_by_lists c.args.a.now c.args.b.now c.as_slice-items.result.now c.as_slice-others.result.now c.as_slice-items.ensures c.as_slice-others.ensures ∙ c.loop-i.invariant.same ∙ products_end c.as_slice-items.result.now c.as_slice-others.result.now c.loop-i.i c.loop-i-test.false past)

pub order_factor-returns-then-is_ne : goal.order_factor-returns-then-is_ne
order_factor-returns-then-is_ne t c = sym (decided c.cmp-heads.result _ _ c.cmp-heads.ensures (sym c.is_ne.ensures ∙ c.if-is_ne.true))

pub order_factor-returns-then-is_empty-2 : goal.order_factor-returns-then-is_empty-2
order_factor-returns-then-is_empty-2 t c =
    let first : length c.as_slice.result.now ≤ 0 = search rules in
    let second : length c.as_slice-then-is_empty.result.now ≤ 0 = search rules in
    sym (undecided c.cmp-heads.result _ _ c.cmp-heads.ensures (sym c.is_ne.ensures ∙ c.if-is_ne.false)
    ∙ ap₂ compare_arguments (no_arguments_left (out-Atom c.args.a.now).args c.as_slice.result.now c.as_slice.ensures first) (no_arguments_left (out-Atom c.args.b.now).args c.as_slice-then-is_empty.result.now c.as_slice-then-is_empty.ensures second))

pub order_factor-returns : goal.order_factor-returns
order_factor-returns t c =
    c.order_arguments.ensures ∙ sym (undecided c.cmp-heads.result _ _ c.cmp-heads.ensures (sym c.is_ne.ensures ∙ c.if-is_ne.false))

pub order_arguments-returns-then-i-others : goal.order_arguments-returns-then-i-others
order_arguments-returns-then-i-others t c = let past : length c.as_slice-others.result.now ≤ c.loop-i.i = search rules in
    sym (arguments_by_lists c.args.a.now c.args.b.now c.as_slice-items.result.now c.as_slice-others.result.now c.as_slice-items.ensures c.as_slice-others.ensures ∙ c.loop-i.invariant.same
    ∙ arguments_end_right c.as_slice-items.result.now c.as_slice-others.result.now c.loop-i.i c.index-items-i.result c.loop-i-test.true past c.index-items-i.is)

pub order_arguments-order-first-requires : goal.order_arguments-order-first-requires
order_arguments-order-first-requires t c =
    (omega (arith, smaller_poly c.args.a.now c.as_slice-items.result.now c.loop-i.i c.index-items-i.result c.as_slice-items.ensures c.loop-i-test.true c.index-items-i.is), tt)

pub order_arguments-returns-then-is_ne : goal.order_arguments-returns-then-is_ne
order_arguments-returns-then-is_ne t c = let within : c.loop-i.i < length c.as_slice-others.result.now = search rules in
    sym (arguments_by_lists c.args.a.now c.args.b.now c.as_slice-items.result.now c.as_slice-others.result.now c.as_slice-items.ensures c.as_slice-others.ensures ∙ c.loop-i.invariant.same
    ∙ arguments_at c.as_slice-items.result.now c.as_slice-others.result.now c.loop-i.i c.index-items-i.result c.index-others-i.result c.loop-i-test.true within c.index-items-i.is c.index-others-i.is
    ∙ decided c.order-first.result _ _ (c.order-first.ensures) (sym c.is_ne.ensures ∙ c.if-is_ne.true))

pub order_arguments-returns-then-items-others : goal.order_arguments-returns-then-items-others
order_arguments-returns-then-items-others t c = let more : c.loop-i.i < length c.as_slice-others.result.now = omega (arith, c.loop-i.auto.i-end, c.if-items-others.true) in
    sym (arguments_by_lists c.args.a.now c.args.b.now c.as_slice-items.result.now c.as_slice-others.result.now c.as_slice-items.ensures c.as_slice-others.ensures ∙ c.loop-i.invariant.same ∙ arguments_end_left c.as_slice-items.result.now c.as_slice-others.result.now c.loop-i.i c.loop-i-test.false more)

pub order_arguments-returns-else-items-others : goal.order_arguments-returns-else-items-others
order_arguments-returns-else-items-others t c = let past : length c.as_slice-others.result.now ≤ c.loop-i.i = omega (arith, c.loop-i-test.false, c.if-items-others.false) in
    sym (arguments_by_lists c.args.a.now c.args.b.now c.as_slice-items.result.now c.as_slice-others.result.now c.as_slice-items.ensures c.as_slice-others.ensures ∙ c.loop-i.invariant.same ∙ arguments_end c.as_slice-items.result.now c.as_slice-others.result.now c.loop-i.i c.loop-i-test.false past)
