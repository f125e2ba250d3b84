use Rattle.std.proofs.Common.{rules, arith, sym, ◌∙◌, None, ◌≡◌, [], ◌∷◌, ◌++◌, ◌<◌, length, get_or, vec_len}
use Rattle.std.proofs.lemmas.List.{length_push}
use Rattle.wh_sat_trail.specs.declared.literal.Literal.{Literal}
use Rattle.wh_sat_trail.specs.Assignment.{Open}
use Rattle.wh_sat_trail.proofs.Assigning.{push_tabled, push_fresh, push_below, count_assign}
use Rattle.std.proofs.Common.{vec_capacity}
use Rattle.wh_sat_trail.specs.declared.assignment.Assignment.{Assignment}
use Rattle.wh_sat_trail.proofs.Rooms.{if_ok, length-items}
use Rattle.wh_sat_trail.proofs.assignment.Assignment.assign.Goals as goal

room : (s : Assignment) (l : Literal) → l.variable < vec_len s.values → Open s.literals.items l → vec_len s.literals < vec_capacity s.literals
room s l b o =
    let was : get_or s.values.items l.variable None ≡ None = s.tabled l.variable b ∙ o in
    let counts = count_assign s.values.items l.variable l.positive (omega (arith, length-items s.values, b)) was in
    omega (arith, counts, s.counted, s.roomy, length-items s.literals)

pub returns-clause-literals : goal.returns-clause-literals
returns-clause-literals c =
    if_ok c.push.result c.push.new.self.items _ _ (c.push.ensures.succeeds (room c.args.self.now c.args.literal c.requires.below c.requires.free)) c.push.ensures.items

pub invariant_of-self : goal.invariant_of-self
invariant_of-self c =
    let s = c.args.self.now in
    let l = c.args.literal in
    let was : get_or s.values.items l.variable None ≡ None = s.tabled l.variable c.requires.below ∙ c.requires.free in
    let wide : vec_len s.values ≡ length s.values.items = search rules in
    let counts = count_assign s.values.items l.variable l.positive (omega (arith, wide, c.requires.below)) was in
    let is : c.push.new.self.items ≡ s.literals.items ++ l ∷ [] = if_ok c.push.result c.push.new.self.items _ _ (c.push.ensures.succeeds (room s l c.requires.below c.requires.free)) c.push.ensures.items in
    record {
      below = rw is (push_below _ s.literals.items l s.below c.requires.below);
      fresh = rw is (push_fresh s.literals.items l s.fresh c.requires.free);
      tabled = rw is (push_tabled _ s.values.items s.literals.items l (sym wide) c.requires.below s.tabled c.requires.free);
      counted = rw is (omega (arith, counts, s.counted, length_push s.literals.items l));
      roomy = search rules;
      reasoned = search rules;
    }
