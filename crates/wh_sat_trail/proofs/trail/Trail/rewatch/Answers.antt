use Rattle.std.proofs.Common.{rules, arith, sym, ap, refl, ◌∙◌, ◌≡◌, [], ◌∷◌, ◌++◌, ◌<◌, ◌*◌, length, get_or, set}
use Rattle.std.proofs.lemmas.Grind.{common_steps}
use Rattle.std.proofs.lemmas.List.{get_or_read, length-set}
use Rattle.wh_sat_trail.specs.Code.{code_of}
use Rattle.wh_sat_trail.proofs.Guarding.{guarded_move, rewatched, code_below, swap_default}
use Rattle.wh_sat_trail.proofs.Rooms.{length-items}
use Rattle.std.specs.List.{swap_remove}
use Rattle.wh_sat_trail.proofs.trail.Trail.rewatch.Goals as goal

pub invariant_of-self-2 : goal.invariant_of-self-2
invariant_of-self-2 c =
    let s = c.args.self.now in
    let q = c.requires in
    let a = c.args in
    let old = code_of a.falsified in
    let more = set s.lists.items (code_of a.new) (get_or s.lists.items (code_of a.new) [] ++ a.number ∷ []) in
    let wide : length s.lists.items ≡ 2 * s.formula.variables = search rules in
    let far : length s.pairs.items ≡ length s.formula.clauses = sym (length-items s.pairs) ∙ s.paired in
    let small : a.new.variable < s.formula.variables = omega (arith, s.width, q.candidate.below) in
    let code_in : code_of a.new < length s.lists.items = omega (arith, wide, code_below a.new s.formula.variables small) in
    let old_in : old < length s.lists.items = omega (arith, wide, code_below a.falsified s.formula.variables q.falsified_below) in
    let e1 : c.push.new.self.items ≡ get_or s.lists.items c.code.result [] ++ a.number ∷ [] = grind (arith, common_steps) in
    let e2 : set s.lists.items c.code.result c.push.new.self.items ≡ more = rw (e1, c.code.ensures) refl in
    let w : c.code-2.result < length (set s.lists.items c.code.result c.push.new.self.items) = omega (arith, c.code-2.ensures, old_in, length-set s.lists.items c.code.result c.push.new.self.items) in
    let ins : c.behind-self-2.inside.items.items ≡ get_or more old [] = c.behind-self-2.view_is ∙ get_or_read _ _ _ w c.index_mut-3.ensures.value [] ∙ ap (λ x. get_or x c.code-2.result []) e2 ∙ ap (λ x. get_or more x []) c.code-2.ensures in
    let full : 0 < length c.behind-self-2.inside.items.items = search rules in
    let e3 : c.swap_remove.new.self.items ≡ swap_remove (get_or more old []) a.at a.number = c.swap_remove.ensures.items ∙ swap_default c.behind-self-2.inside.items.items a.at _ a.number full ∙ ap (λ xs. swap_remove xs a.at a.number) ins in
    let e4 : set (set s.lists.items c.code.result c.push.new.self.items) c.code-2.result c.swap_remove.new.self.items ≡ rewatched s.lists.items (code_of a.new) old a.at a.number = rw (e2, e3, c.code-2.ensures) refl in
    record {
      width = search rules;
      within = s.within;
      coded = search rules;
      paired = search rules;
      ordered = s.ordered;
      guarded = rw e4 (guarded_move s.formula.clauses s.assignment.literals.items s.stops.items s.head s.lists.items s.pairs.items s.short.items a.number a.at a.falsified a.other a.new
          (omega (arith, far, q.number_in)) code_in old_in q.number_in q.both q.fails q.candidate.in_clause q.distinct q.candidate.possible q.at_in q.is s.guarded);
      settling = s.settling;
    }
