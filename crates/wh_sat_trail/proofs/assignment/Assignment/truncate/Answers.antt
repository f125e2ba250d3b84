use Rattle.std.proofs.Common.{rules, arith, ap, subst, ◌∙◌, Some, None, ◌≡◌, [], ◌∷◌, ◌++◌, ◌+◌, length, get_or, vec_len}
use Rattle.std.proofs.lemmas.List.{length_push}
use Rattle.wh_sat_trail.specs.Assignment.{AllBelow, IsFresh, Tabled}
use Rattle.wh_sat_trail.proofs.Assigning.{pop_tabled, pop_fresh_rest, pop_below, pop_fresh, count_undo, push_same}
use Rattle.wh_sat_trail.proofs.assignment.Assignment.truncate.Goals as goal

pub invariant_of-self : goal.invariant_of-self
invariant_of-self c =
    let s = c.loop-self.self in
    let l = c.in-Some.literal in
    let n = vec_len s.values in
    let u = c.pop.new.self.items in
    let is : s.literals.items ≡ u ++ l ∷ [] = c.in-Some.ensures.items in
    let wide : length s.values.items ≡ n = search rules in
    let fresh : IsFresh (u ++ l ∷ []) = subst IsFresh is s.fresh in
    let tabled : Tabled n s.values.items (u ++ l ∷ []) = subst (Tabled n s.values.items) is s.tabled in
    let below = pop_below n u l (subst (AllBelow n) is s.below) in
    let was : get_or s.values.items l.variable None ≡ Some l.positive = tabled l.variable below.1 ∙ push_same u l (pop_fresh u l fresh) in
    let counts = count_undo s.values.items l.variable l.positive (omega (arith, wide, below.1)) was in
    let more : length s.literals.items ≡ length u + 1 = ap length is ∙ length_push u l in
    record {
      below = below.0;
      fresh = pop_fresh_rest u l fresh;
      tabled = pop_tabled n s.values.items u l wide below.1 tabled fresh;
      counted = omega (arith, counts, s.counted, more);
      roomy = search rules;
      reasoned = search rules;
    }
