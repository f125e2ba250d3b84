use Rattle.std.proofs.Common.{rules, arith, None, ◌≡◌, [], vec_len, replicate}
use Rattle.std.proofs.lemmas.List.{get_or-replicate}
use Rattle.wh_sat_trail.proofs.Assigning.{count_replicate}
use Rattle.wh_sat_trail.proofs.assignment.Assignment.new.Goals as goal

pub invariant_of-result : goal.invariant_of-result
invariant_of-result c =
    let e : c.in_ok-values.values.items ≡ replicate c.args.variables None = c.in_ok-values.ensures.items_if_clones_equal (search rules) in
    let l : c.in_ok-literals.literals.items ≡ [] = c.in_ok-literals.ensures.items in
    let wide : vec_len c.in_ok-values.values ≡ c.args.variables = c.in_ok-values.ensures.len in
    record {
      below = rw l (λ i d w. absurd (omega (arith, w)));
      fresh = rw l (λ i d w. absurd (omega (arith, w)));
      tabled = rw (l, e) (λ v w. get_or-replicate _ v None None (omega (arith, w, wide)));
      counted = rw (l, e, count_replicate c.args.variables) (omega (arith, wide));
      roomy = omega (arith, wide, c.in_ok-literals.ensures.capacity);
      reasoned = omega (arith, wide, c.in_ok-reasons.ensures.len);
    }
