-- The sides of the generated rules are typed, and are as the rules of a system are to be.
use Rattle.std.proofs.Common.{◌≡◌, ℕ, zero, suc, ◌+◌, ◌<◌, List, [], Some, refl, subst, lit<, lit≤, arith, rules}
use Rattle.std.specs.Prelude.{slice_get}
use Rattle.wh_types.specs.Ty.{Ty, ◌⇒◌}
use Rattle.wh_terms.specs.Tree.{Tm}
use Rattle.wh_terms.specs.Typing.{Declared, Typed, typed_bound, typed_fun, typed_meta, typed_lam, typed_app, typed_none, typed_more}
use Rattle.wh_terms.specs.Sight.{NoFree, Occurs}
use Rattle.wh_terms.specs.Measures.{Fits}
use Rattle.wh_terms.specs.Rules.{IsWellMade}
use Rattle.wh_gen.specs.Family.{nat, list, map_type, fun_types, gen_symbols, nil, cons, f_declared, first_metas, second_metas, image, mapped, meta_x, meta_y, map_of, mapped_list, second_right, first_rule, second_rule}
use Rattle.wh_gen.proofs.RangeLists.{constant_at}

-- types

-- the i-th function stands behind the first four symbols
map_symbol : (n i : ℕ) → i < n → slice_get (fun_types n) (4 + i) ≡ Some map_type
map_symbol n i within =
    let behind : suc (suc (suc (suc i))) ≡ 4 + i = omega arith in
    subst (λ k. slice_get (fun_types n) k ≡ Some map_type) behind (constant_at map_type 0 n i within)

image_typed : (n : ℕ) (M : List Declared) (Γ : List Ty) (t : Tm) → slice_get M 0 ≡ Some f_declared → Typed (gen_symbols n) M Γ t nat → Typed (gen_symbols n) M Γ (image t) nat
image_typed n M Γ t declared typed = typed_meta declared (typed_more typed typed_none) refl

mapped_typed : (n : ℕ) (M : List Declared) → slice_get M 0 ≡ Some f_declared → Typed (gen_symbols n) M [] mapped (nat ⇒ nat)
mapped_typed n M declared = typed_lam (lit< tt) (typed_meta declared (typed_more (typed_bound refl) typed_none) refl)

map_typed : (n i : ℕ) (M : List Declared) (t : Tm) → i < n → slice_get M 0 ≡ Some f_declared → Typed (gen_symbols n) M [] t list → Typed (gen_symbols n) M [] (map_of i t) list
map_typed n i M t within declared typed = typed_app (typed_app (typed_fun (map_symbol n i within)) (mapped_typed n M declared)) typed

nil_typed : (n : ℕ) (M : List Declared) → Typed (gen_symbols n) M [] nil list
nil_typed n M = typed_fun refl

cons_typed : (n : ℕ) (M : List Declared) (t u : Tm) → Typed (gen_symbols n) M [] t nat → Typed (gen_symbols n) M [] u list → Typed (gen_symbols n) M [] (cons t u) list
cons_typed n M t u first second = typed_app (typed_app (typed_fun refl) first) second

x_typed : (n : ℕ) → Typed (gen_symbols n) second_metas [] meta_x nat
x_typed n = typed_meta refl typed_none refl

y_typed : (n : ℕ) → Typed (gen_symbols n) second_metas [] meta_y list
y_typed n = typed_meta refl typed_none refl

mapped_list_typed : (n i : ℕ) → i < n → Typed (gen_symbols n) second_metas [] (mapped_list i) list
mapped_list_typed n i within =
    cons_typed n second_metas (image meta_x) (map_of i meta_y) (image_typed n second_metas [] meta_x refl (x_typed n)) (map_typed n i second_metas meta_y within refl (y_typed n))

second_right_typed : (n i : ℕ) → i < n → Typed (gen_symbols n) second_metas [] (second_right i) list
second_right_typed n zero within = mapped_list_typed n zero within
second_right_typed n (suc j) within = map_typed n j second_metas (mapped_list (suc j)) (omega arith) refl (mapped_list_typed n (suc j) within)

-- the right side of a second rule

second_right_fits : (i : ℕ) → Fits (second_right i)
second_right_fits zero = record { low = lit≤ tt; narrow = search rules; small = lit≤ tt }
second_right_fits (suc j) = record { low = lit≤ tt; narrow = search rules; small = lit≤ tt }

second_right_closed : (i : ℕ) → NoFree (second_right i)
second_right_closed zero = search rules
second_right_closed (suc j) = search rules

occurs-right : (i z : ℕ) → Occurs z (second_right i) → Occurs z (second_rule i).left
occurs-right zero z h = grind arith
occurs-right (suc j) z h = grind arith

-- the rules

pub first_rule_made : (n i : ℕ) → i < n → IsWellMade (gen_symbols n) (first_rule i)
first_rule_made n i within = record {
  typed = (list, map_typed n i first_metas nil within refl (nil_typed n first_metas), nil_typed n first_metas);
  left_fits = record { low = lit≤ tt; narrow = search rules; small = lit≤ tt };
  right_fits = record { low = lit≤ tt; narrow = tt; small = lit≤ tt };
  left_closed = search rules;
  right_closed = tt;
  pattern_left = search rules;
  headed = (4 + i, refl);
  known = λ z h. absurd h;
}

pub second_rule_made : (n i : ℕ) → i < n → IsWellMade (gen_symbols n) (second_rule i)
second_rule_made n i within = record {
  typed = (list, map_typed n i second_metas (cons meta_x meta_y) within refl (cons_typed n second_metas meta_x meta_y (x_typed n) (y_typed n)), second_right_typed n i within);
  left_fits = record { low = lit≤ tt; narrow = search rules; small = lit≤ tt };
  right_fits = second_right_fits i;
  left_closed = search rules;
  right_closed = second_right_closed i;
  pattern_left = search rules;
  headed = (4 + i, refl);
  known = occurs-right i;
}
