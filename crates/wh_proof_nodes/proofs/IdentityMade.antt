-- The worked system that needs interpretations is well made.
use Rattle.std.proofs.Common.{◌≡◌, ◌≤◌, [], length, All, Contains, inr, refl, sym, ◌∙◌, arith}
use Rattle.std.proofs.lemmas.List.Elements.{All-from_recursion, All-nil}
use Rattle.wh_terms.specs.Tree.{argument_count}
use Rattle.wh_terms.specs.Typing.{Typed, typed_fun, typed_meta, typed_app, typed_none}
use Rattle.wh_terms.specs.Rules.{RewriteRule, IsWellMade, AreWellMade}
use Rattle.wh_text.specs.Words.{IsName}
use Rattle.wh_system.specs.Nesting.{TypesNestWithin}
use Rattle.wh_system.specs.WellMade.{TypesWithin, IsTypeOver, IsDeclarationOver, AreDistinct, IsWellMadeSystem}
use Rattle.wh_proof_nodes.specs.MapSystem.{nat}
use Rattle.wh_proof_nodes.specs.IdentitySystem.{unary, identity_symbols, identity_metas, number, next_number, same_number, identity_rule, count_rule, identity_system}
use Rattle.wh_pairs.proofs.FewLemmas.{each_of_two, all_of_two}
use Rattle.wh_proof_nodes.proofs.NameTests.{is_name, names_by, all_differ, distinct_by, every, all_by, metas_apart}

-- types

nat_over : IsTypeOver 1 nat
nat_over = record { sorts_are_there = omega arith; narrow = tt; shallow = omega arith }

unary_over : IsTypeOver 1 unary
unary_over = record { sorts_are_there = (omega arith, omega arith); narrow = (omega arith, tt, tt); shallow = omega arith }

metas_over : All (IsDeclarationOver 1) identity_metas
metas_over =
    All-from_recursion (IsDeclarationOver 1) identity_metas
    (record { narrow = omega arith; args = All-nil (IsTypeOver 1); out = nat_over }, tt)

-- types of the sides

pub number_typed : Typed identity_symbols identity_metas [] number nat
number_typed = typed_meta refl typed_none refl

next_typed : Typed identity_symbols identity_metas [] next_number nat
next_typed = typed_app (typed_fun refl) number_typed

pub same_typed : Typed identity_symbols identity_metas [] same_number nat
same_typed = typed_app (typed_fun refl) number_typed

-- rules

identity_rule_made : IsWellMade identity_symbols identity_rule
identity_rule_made = record {
  typed = (nat, same_typed, number_typed);
  left_fits = record { low = omega arith; narrow = (omega arith, tt, tt); small = omega arith };
  right_fits = record { low = omega arith; narrow = tt; small = omega arith };
  left_closed = (tt, tt);
  right_closed = tt;
  pattern_left = (tt, (tt, tt));
  headed = (1, refl);
  known = λ z o. inr o;
}

count_rule_made : IsWellMade identity_symbols count_rule
count_rule_made = record {
  typed = (nat, typed_app (typed_fun refl) next_typed, typed_app (typed_fun refl) same_typed);
  left_fits = record { low = omega arith; narrow = (omega arith, tt, (omega arith, tt, tt)); small = omega arith };
  right_fits = record { low = omega arith; narrow = (omega arith, tt, (omega arith, tt, tt)); small = omega arith };
  left_closed = (tt, (tt, tt));
  right_closed = (tt, (tt, tt));
  pattern_left = (tt, (tt, (tt, tt)));
  headed = (2, refl);
  known = λ z o. o;
}

one_argument : (r : RewriteRule) → Contains identity_system.rules r → argument_count r.left ≡ 1
one_argument = each_of_two (λ r. argument_count r.left ≡ 1) identity_rule count_rule refl refl

identity_rules_made : AreWellMade identity_symbols identity_system.rules
identity_rules_made = record {
  each = each_of_two (IsWellMade identity_symbols) identity_rule count_rule identity_rule_made count_rule_made;
  even = λ r s first second same. one_argument r first ∙ sym (one_argument s second);
}

-- the whole system
pub identity_made : IsWellMadeSystem identity_system
identity_made = record {
  rules = identity_rules_made;
  sorts_within = omega arith;
  symbols_within = omega arith;
  rules_within = omega arith;
  metas_within = all_of_two (λ r. length r.metas ≤ 32) identity_rule count_rule (omega arith) (omega arith);
  symbol_types = All-from_recursion (IsTypeOver 1) identity_symbols.funs (unary_over, (unary_over, (unary_over, tt)));
  meta_types = all_of_two (λ r. All (IsDeclarationOver 1) r.metas) identity_rule count_rule metas_over metas_over;
  side_types = all_of_two (λ r. TypesWithin 32 r.left × TypesWithin 32 r.right) identity_rule count_rule
      ((tt, tt), tt) ((tt, (tt, tt)), (tt, (tt, tt)));
  side_types_shallow = all_of_two (λ r. TypesNestWithin 16 r.left × TypesNestWithin 16 r.right) identity_rule count_rule
      ((tt, tt), tt) ((tt, (tt, tt)), (tt, (tt, tt)));
  sorts_named = refl;
  symbols_named = refl;
  metas_named = refl;
  sort_names_spelled = names_by identity_system.sort_names refl;
  fun_names_spelled = names_by identity_system.fun_names refl;
  meta_names_spelled = all_by (All IsName) (every is_name) names_by identity_system.meta_names refl;
  sort_names_distinct = distinct_by identity_system.sort_names refl;
  fun_names_distinct = distinct_by identity_system.fun_names refl;
  meta_names_distinct = all_by AreDistinct all_differ distinct_by identity_system.meta_names refl;
  metas_no_symbols = metas_apart identity_system.fun_names identity_system.meta_names refl;
}
