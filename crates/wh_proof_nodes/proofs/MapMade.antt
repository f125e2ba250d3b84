-- The worked system is well made. Limits are seen by computing, names by tests.
use Rattle.std.proofs.Common.{◌≡◌, ℕ, ◌+◌, ◌≤◌, inl, inr, List, [], ◌∷◌, length, All, Contains, refl, sym, ◌∙◌, arith}
use Rattle.std.proofs.lemmas.List.Elements.{All-from_recursion, All-nil, All-cons}
use Rattle.wh_types.specs.Ty.{Ty, ◌⇒◌, arguments}
use Rattle.wh_terms.specs.Tree.{Tm, fun, meta, none, argument_count}
use Rattle.wh_terms.specs.Typing.{Declared, Typed, typed_bound, typed_fun, typed_meta, typed_lam, typed_app, typed_none, typed_more}
use Rattle.wh_terms.specs.Sight.{Occurs}
use Rattle.wh_terms.specs.Rules.{RewriteRule, IsWellMade, AreWellMade}
use Rattle.wh_text.specs.Words.{IsName}
use Rattle.wh_system.specs.Nesting.{type_nesting, TypesNestWithin}
use Rattle.wh_system.specs.WellMade.{TypesWithin, IsTypeOver, IsDeclarationOver, AreDistinct, IsWellMadeSystem}
use Rattle.wh_proof_nodes.specs.MapSystem.{nat, list, map_symbols, function_meta, plain_meta, map_metas, mapped, cons_term, map_over, map_nil, map_cons, map_system}
use Rattle.wh_pairs.proofs.FewLemmas.{each_of_two, all_of_two}
use Rattle.wh_proof_nodes.proofs.NameTests.{is_name, names_by, all_differ, distinct_by, every, all_by, metas_apart}

-- types

nat_over : IsTypeOver 2 nat
nat_over = record { sorts_are_there = omega arith; narrow = tt; shallow = omega arith }

list_over : IsTypeOver 2 list
list_over = record { sorts_are_there = omega arith; narrow = tt; shallow = omega arith }

arrow_over : (a b : Ty) → length (arguments b) + 1 ≤ 32 → type_nesting (a ⇒ b) ≤ 16 → IsTypeOver 2 a → IsTypeOver 2 b
    → IsTypeOver 2 (a ⇒ b)
arrow_over a b few low p q = record {
  sorts_are_there = (p.sorts_are_there, q.sorts_are_there);
  narrow = (few, p.narrow, q.narrow);
  shallow = low;
}

unary_over : IsTypeOver 2 (nat ⇒ nat)
unary_over = arrow_over nat nat (omega arith) (omega arith) nat_over nat_over

lists_over : IsTypeOver 2 (list ⇒ list)
lists_over = arrow_over list list (omega arith) (omega arith) list_over list_over

symbols_over : All (IsTypeOver 2) map_symbols.funs
symbols_over =
    let cons_type = arrow_over nat (list ⇒ list) (omega arith) (omega arith) nat_over lists_over in
    let map_type = arrow_over (nat ⇒ nat) (list ⇒ list) (omega arith) (omega arith) unary_over lists_over in
    All-from_recursion (IsTypeOver 2) map_symbols.funs (nat_over, (unary_over, (list_over, (cons_type, (map_type, tt)))))

-- meta-variables

plain_over : (a : Ty) → IsTypeOver 2 a → IsDeclarationOver 2 (plain_meta a)
plain_over a p = record { narrow = omega arith; args = All-nil (IsTypeOver 2); out = p }

function_over : IsDeclarationOver 2 function_meta
function_over = record { narrow = omega arith; args = All-cons (IsTypeOver 2) nat [] nat_over (All-nil (IsTypeOver 2)); out = nat_over }

function_metas_over : All (IsDeclarationOver 2) map_nil.metas
function_metas_over = All-from_recursion (IsDeclarationOver 2) map_nil.metas (function_over, tt)

metas_over : All (IsDeclarationOver 2) map_metas
metas_over = All-from_recursion (IsDeclarationOver 2) map_metas (function_over, (plain_over nat nat_over, (plain_over list list_over, tt)))

-- types of the sides

mapped_typed : (M : List Declared) → Typed map_symbols (function_meta ∷ M) [] mapped (nat ⇒ nat)
mapped_typed M = typed_lam (omega arith) (typed_meta refl (typed_more (typed_bound refl) typed_none) refl)

map_typed : (M : List Declared) (t : Tm) → Typed map_symbols (function_meta ∷ M) [] t list
    → Typed map_symbols (function_meta ∷ M) [] (map_over t) list
map_typed M t p = typed_app (typed_app (typed_fun refl) (mapped_typed M)) p

first_typed : Typed map_symbols map_metas [] (meta 1 none) nat
first_typed = typed_meta refl typed_none refl

rest_typed : Typed map_symbols map_metas [] (meta 2 none) list
rest_typed = typed_meta refl typed_none refl

cons_typed : Typed map_symbols map_metas [] cons_term list
cons_typed = typed_app (typed_app (typed_fun refl) first_typed) rest_typed

right_typed : Typed map_symbols map_metas [] map_cons.right list
right_typed =
    typed_app (typed_app (typed_fun refl) (typed_meta refl (typed_more first_typed typed_none) refl)) (map_typed _ (meta 2 none) rest_typed)

-- rules

map_nil_made : IsWellMade map_symbols map_nil
map_nil_made = record {
  typed = (list, map_typed [] (fun 2) (typed_fun refl), typed_fun refl);
  left_fits = record { low = omega arith; narrow = (omega arith, (omega arith, tt, (tt, tt)), tt); small = omega arith };
  right_fits = record { low = omega arith; narrow = tt; small = omega arith };
  left_closed = ((tt, (tt, tt)), tt);
  right_closed = tt;
  pattern_left = ((tt, ((omega arith, tt), (tt, tt))), tt);
  headed = (4, refl);
  known = λ z never. absurd never;
}

known_left : (z : ℕ) → Occurs z map_cons.right → Occurs z map_cons.left
known_left z o = elim o [
  | inl (inl never) ↦ absurd never
  | inl (inr (inl e)) ↦ inl (inr (inl e))
  | inl (inr (inr (inl (inl e)))) ↦ inr (inl (inr (inl e)))
  | inl (inr (inr (inl (inr never)))) ↦ absurd never
  | inl (inr (inr (inr never))) ↦ absurd never
  | inr (inl (inl never)) ↦ absurd never
  | inr (inl (inr (inl e))) ↦ inl (inr (inl e))
  | inr (inl (inr (inr (inl never)))) ↦ absurd never
  | inr (inl (inr (inr (inr never)))) ↦ absurd never
  | inr (inr (inl e)) ↦ inr (inr (inl e))
  | inr (inr (inr never)) ↦ absurd never
]

map_cons_made : IsWellMade map_symbols map_cons
map_cons_made = record {
  typed = (list, map_typed _ cons_term cons_typed, right_typed);
  left_fits = record {
    low = omega arith;
    narrow = (omega arith, (omega arith, tt, (tt, tt)), (omega arith, (omega arith, tt, tt), tt));
    small = omega arith;
  };
  right_fits = record {
    low = omega arith;
    narrow = (omega arith, (omega arith, tt, (tt, tt)), (omega arith, (omega arith, tt, (tt, tt)), tt));
    small = omega arith;
  };
  left_closed = ((tt, (tt, tt)), ((tt, tt), tt));
  right_closed = ((tt, (tt, tt)), ((tt, (tt, tt)), tt));
  pattern_left = ((tt, ((omega arith, tt), (tt, tt))), ((tt, (tt, tt)), (tt, tt)));
  headed = (4, refl);
  known = known_left;
}

-- the rules of the one symbol that has rules have two arguments
two_arguments : (r : RewriteRule) → Contains map_system.rules r → argument_count r.left ≡ 2
two_arguments = each_of_two (λ r. argument_count r.left ≡ 2) map_nil map_cons refl refl

rules_made : AreWellMade map_symbols map_system.rules
rules_made = record {
  each = each_of_two (IsWellMade map_symbols) map_nil map_cons map_nil_made map_cons_made;
  even = λ r s first second same. two_arguments r first ∙ sym (two_arguments s second);
}

-- the whole system
pub map_made : IsWellMadeSystem map_system
map_made = record {
  rules = rules_made;
  sorts_within = omega arith;
  symbols_within = omega arith;
  rules_within = omega arith;
  metas_within = all_of_two (λ r. length r.metas ≤ 32) map_nil map_cons (omega arith) (omega arith);
  symbol_types = symbols_over;
  meta_types = all_of_two (λ r. All (IsDeclarationOver 2) r.metas) map_nil map_cons function_metas_over metas_over;
  side_types = all_of_two (λ r. TypesWithin 32 r.left × TypesWithin 32 r.right) map_nil map_cons
      (((tt, (tt, (tt, tt))), tt), tt)
      (((tt, (tt, (tt, tt))), ((tt, tt), tt)), ((tt, (tt, tt)), ((tt, (tt, (tt, tt))), tt)));
  side_types_shallow = all_of_two (λ r. TypesNestWithin 16 r.left × TypesNestWithin 16 r.right) map_nil map_cons
      (((tt, (omega arith, (tt, tt))), tt), tt)
      (((tt, (omega arith, (tt, tt))), ((tt, tt), tt)), ((tt, (tt, tt)), ((tt, (omega arith, (tt, tt))), tt)));
  sorts_named = refl;
  symbols_named = refl;
  metas_named = refl;
  sort_names_spelled = names_by map_system.sort_names refl;
  fun_names_spelled = names_by map_system.fun_names refl;
  meta_names_spelled = all_by (All IsName) (every is_name) names_by map_system.meta_names refl;
  sort_names_distinct = distinct_by map_system.sort_names refl;
  fun_names_distinct = distinct_by map_system.fun_names refl;
  meta_names_distinct = all_by AreDistinct all_differ distinct_by map_system.meta_names refl;
  metas_no_symbols = metas_apart map_system.fun_names map_system.meta_names refl;
}
