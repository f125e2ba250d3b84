-- Worked lines of order nodes, computed.
use Rattle.std.proofs.Common.{◌≡◌, ℕ, List, [], ◌∷◌, Some, None, refl}
use Rattle.std.specs.Prelude.{get_or}
use Rattle.wh_types.specs.Ty.{Ty, sort, ◌⇒◌}
use Rattle.wh_terms.specs.Tree.{Tm, bound, fun, meta, lam, app, none, more}
use Rattle.wh_terms.specs.Substitution.{rename}
use Rattle.wh_terms.specs.Typing.{Symbols}
use Rattle.wh_terms.specs.Rules.{RewriteRule}
use Rattle.wh_order_inference.specs.Filters.{Filter, keep}
use Rattle.wh_order_inference.specs.Inferences.{same_trees, part, lower, first_less, spine_parts, body, variable, meta_part, Inference, infer, no_parts, more_parts}
use Rattle.wh_order_extended.specs.Long.{expand, core, cores}
use Rattle.wh_order_extended.specs.ExtendedSides.{extended_metas, extended_side, extended_call}
use Rattle.wh_order_extended.specs.Filtered.{sift, sifts, filtered_symbols, collapsed, precedences}
use Rattle.wh_order_path.specs.Verdict.{line_verdict}

abbrev o : Ty
o = sort 0

abbrev eq : Inference
eq = infer same_trees 0 no_parts

abbrev part_of : ℕ → Inference → Inference
part_of n i = infer part n (more_parts i no_parts)

abbrev meta_of : ℕ → Tm
meta_of z = meta z none

-- zero, s, nil, cons and map over numbers n and lists l of them
abbrev map_symbols : Symbols
map_symbols = record { sorts = 2; funs = sort 0 ∷ (sort 0 ⇒ sort 0) ∷ sort 1 ∷ (sort 0 ⇒ (sort 1 ⇒ sort 1)) ∷ ((sort 0 ⇒ sort 0) ⇒ (sort 1 ⇒ sort 1)) ∷ [] }

-- their arguments, and those of the marked symbols: map alone has rules
abbrev map_arguments : List (List Ty)
map_arguments = [] ∷ (sort 0 ∷ []) ∷ [] ∷ (sort 0 ∷ sort 1 ∷ []) ∷ ((sort 0 ⇒ sort 0) ∷ sort 1 ∷ []) ∷ [] ∷ [] ∷ [] ∷ [] ∷ ((sort 0 ⇒ sort 0) ∷ sort 1 ∷ []) ∷ []

-- all places are kept, but map behind its mark keeps the second one alone; map has the precedence p
abbrev map_filters : ℕ → ℕ → Filter
map_filters p f = get_or (keep 0 [] ∷ keep 0 (0 ∷ []) ∷ keep 0 [] ∷ keep 1 (0 ∷ 1 ∷ []) ∷ keep p (0 ∷ 1 ∷ []) ∷ keep 0 [] ∷ keep 0 [] ∷ keep 0 [] ∷ keep 0 [] ∷ keep 0 (1 ∷ []) ∷ []) f (keep 0 [])

abbrev cons_of : Tm → Tm → Tm
cons_of t u = app (app (fun 3) t) u

-- map F (cons X Y) => cons F[X] (map F Y)
abbrev map_rule : RewriteRule
map_rule = record {
  metas = record { args = sort 0 ∷ []; out = sort 0 } ∷ record { args = []; out = sort 0 } ∷ record { args = []; out = sort 1 } ∷ [];
  left = app (app (fun 4) (lam (sort 0) (meta 0 (more (bound 0) none)))) (cons_of (meta_of 1) (meta_of 2));
  right = cons_of (meta 0 (more (meta_of 1) none)) (app (app (fun 4) (lam (sort 0) (meta 0 (more (bound 0) none)))) (meta_of 2));
}

abbrev map_left : ℕ → Tm
map_left p = sift (map_filters p) (extended_side map_symbols map_rule map_rule.left) []

abbrev map_right : ℕ → Tm
map_right p = sift (map_filters p) (extended_side map_symbols map_rule map_rule.right) []

-- p(z1(s2(s1(=))),x2(s2(=),s1(=),s2(s2(=))))
abbrev map_line : Inference
map_line = infer lower 0 (more_parts (infer meta_part 1 (more_parts (part_of 2 (part_of 1 eq)) no_parts))
    (more_parts (infer first_less 2 (more_parts (part_of 2 eq) (more_parts (part_of 1 eq) (more_parts (part_of 2 (part_of 2 eq)) no_parts)))) no_parts))

row_map_rule : line_verdict (filtered_symbols (map_filters 2) map_arguments) (precedences (map_filters 2)) (collapsed (extended_metas map_symbols map_rule)) (map_left 2) (map_right 2) map_line ≡ None
unfolding sift sifts core cores expand
row_map_rule = refl

-- map F nil => nil, by s2(=)
abbrev nil_rule : RewriteRule
nil_rule = record {
  metas = record { args = sort 0 ∷ []; out = sort 0 } ∷ [];
  left = app (app (fun 4) (lam (sort 0) (meta 0 (more (bound 0) none)))) (fun 2);
  right = fun 2;
}

row_nil_rule : line_verdict (filtered_symbols (map_filters 2) map_arguments) (precedences (map_filters 2)) (collapsed (extended_metas map_symbols nil_rule)) (sift (map_filters 2) (extended_side map_symbols nil_rule nil_rule.left) []) (sift (map_filters 2) (extended_side map_symbols nil_rule nil_rule.right) []) (part_of 2 eq) ≡ None
unfolding sift sifts core cores expand
row_nil_rule = refl

-- with the precedence of cons the line is bad from its first letter on
row_map_low : line_verdict (filtered_symbols (map_filters 1) map_arguments) (precedences (map_filters 1)) (collapsed (extended_metas map_symbols map_rule)) (map_left 1) (map_right 1) map_line ≡ Some 0
unfolding sift sifts core cores expand
row_map_low = refl

-- the pair: map# F (cons X Y) => map# F Y
abbrev call_of : ℕ → Tm → Tm
call_of p t = sift (map_filters p) (extended_call map_symbols map_rule.metas 4 (lam (sort 0) (meta 0 (more (bound 0) none)) ∷ t ∷ [])) []

-- x1(s2(=),s1(s2(=)))
abbrev call_line : Inference
call_line = infer first_less 1 (more_parts (part_of 2 eq) (more_parts (part_of 1 (part_of 2 eq)) no_parts))

row_map_pair : line_verdict (filtered_symbols (map_filters 2) map_arguments) (precedences (map_filters 2)) (collapsed map_rule.metas) (call_of 2 (cons_of (meta_of 1) (meta_of 2))) (call_of 2 (meta_of 2)) call_line ≡ None
unfolding sift sifts core cores expand
row_map_pair = refl

-- the two sides of the pair are not the same
row_map_same : line_verdict (filtered_symbols (map_filters 2) map_arguments) (precedences (map_filters 2)) (collapsed map_rule.metas) (call_of 2 (cons_of (meta_of 1) (meta_of 2))) (call_of 2 (meta_of 2)) eq ≡ Some 0
unfolding sift sifts core cores expand
row_map_same = refl

-- z and f with f z => (\x:o.f x) z, which loops, and z above f
abbrev loop_symbols : Symbols
loop_symbols = record { sorts = 1; funs = o ∷ (o ⇒ o) ∷ [] }

abbrev loop_precedence : ℕ → ℕ
loop_precedence f = get_or (1 ∷ 0 ∷ []) f 0

-- a(s1(b(p(v))),s1(=)): the third inference, which is b, is asked whether z of type o is at least an abstraction of
-- type o ⇒ o
row_loop : line_verdict loop_symbols loop_precedence [] (app (fun 1) (fun 0)) (app (lam o (app (fun 1) (bound 0))) (fun 0))
    (infer spine_parts 0 (more_parts (part_of 1 (infer body 0 (more_parts (infer lower 0 (more_parts (infer variable 0 no_parts) no_parts)) no_parts))) (more_parts (part_of 1 eq) no_parts))) ≡ Some 2
row_loop = refl

-- rules of functional type get a meta-variable for each missing argument, and arguments of functional type get theirs
row_missing : extended_side map_symbols (record { metas = []; left = app (fun 4) (fun 1); right = app (fun 4) (fun 1) }) (app (fun 4) (fun 1)) ≡ app (app (fun 4) (lam (sort 0) (app (fun 1) (bound 0)))) (meta_of 0)
unfolding core cores expand rename
row_missing = refl
