-- Each generated system is well made.
use Rattle.std.proofs.Common.{◌≡◌, ℕ, zero, suc, ◌+◌, ◌<◌, ◌≤◌, List, [], ◌∷◌, length, map, All, refl, sym, ap, ◌∙◌, lit<, lit≤, arith, rules}
use Rattle.std.specs.Prelude.{codes}
use Rattle.std.specs.List.{flat_map, range_with_len}
use Rattle.std.proofs.lemmas.List.Elements.{All-nil, All-cons, All-contains}
use Rattle.std.proofs.lemmas.List.FromFn.{length-map-range_with_len}
use Rattle.wh_types.specs.Ty.{◌⇒◌}
use Rattle.wh_terms.specs.Tree.{argument_count}
use Rattle.wh_terms.specs.Rules.{RewriteRule, IsWellMade}
use Rattle.wh_text.specs.Words.{IsName}
use Rattle.wh_system.specs.Nesting.{TypesNestWithin}
use Rattle.wh_system.specs.WellMade.{TypesWithin, IsTypeOver, IsDeclarationOver, AreDistinct, AreApart, IsWellMadeSystem}
use Rattle.wh_gen.specs.Family.{map_name, map_type, nat, list, fun_names, fun_types, gen_symbols, f_declared, x_declared, y_declared, first_metas, second_metas, second_right, first_rule, second_rule, rules_of, names_of_metas, gen_data}
use Rattle.wh_gen.proofs.RangeLists.{all_mapped, all_joined, length-pairs}
use Rattle.wh_gen.proofs.FamilyNames as names
use Rattle.wh_gen.proofs.FamilyTyped.{first_rule_made, second_rule_made}

-- what holds of the two rules of each function holds of all rules
each_rule : (P : RewriteRule → Type 0) (n : ℕ) → ((i : ℕ) → i < n → P (first_rule i)) → ((i : ℕ) → i < n → P (second_rule i)) → All P (gen_data n).rules
each_rule P n one two =
    all_joined P rules_of n (λ i within. All-cons P (first_rule i) (second_rule i ∷ []) (one i within) (All-cons P (second_rule i) [] (two i within) (All-nil P)))

-- the same of the names of meta-variables
each_names : (P : List (List ℕ) → Type 0) (n : ℕ) → All P names_of_metas → All P (gen_data n).meta_names
each_names P n both = all_joined P (λ _. names_of_metas) n (λ i within. both)

both_names : (P : List (List ℕ) → Type 0) → P (codes "F" ∷ []) → P (codes "F" ∷ codes "X" ∷ codes "Y" ∷ []) → All P names_of_metas
both_names P one two = All-cons P (codes "F" ∷ []) ((codes "F" ∷ codes "X" ∷ codes "Y" ∷ []) ∷ []) one (All-cons P (codes "F" ∷ codes "X" ∷ codes "Y" ∷ []) [] two (All-nil P))

-- numbers

symbols-many : (n : ℕ) → length (fun_types n) ≡ 4 + n
symbols-many n = let maps = length-map-range_with_len (λ _. map_type) 0 n in omega (arith, maps)

names-many : (n : ℕ) → length (fun_names n) ≡ 4 + n
names-many n = let maps = length-map-range_with_len map_name 0 n in omega (arith, maps)

metas-many : (a k : ℕ) → map length (flat_map (λ _. names_of_metas) (range_with_len a k)) ≡ map (λ r. length r.metas) (flat_map rules_of (range_with_len a k))
metas-many a zero = refl
metas-many a (suc k) = ap (λ ls. 1 ∷ 3 ∷ ls) (metas-many (a + 1) k)

-- types

nat_over : IsTypeOver 2 nat
nat_over = record { sorts_are_there = lit< tt; narrow = tt; shallow = lit≤ tt }

list_over : IsTypeOver 2 list
list_over = record { sorts_are_there = lit< tt; narrow = tt; shallow = lit≤ tt }

step_over : IsTypeOver 2 (nat ⇒ nat)
step_over = record { sorts_are_there = search rules; narrow = search rules; shallow = lit≤ tt }

cons_over : IsTypeOver 2 (nat ⇒ list ⇒ list)
cons_over = record { sorts_are_there = search rules; narrow = search rules; shallow = lit≤ tt }

map_over : IsTypeOver 2 map_type
map_over = record { sorts_are_there = search rules; narrow = search rules; shallow = lit≤ tt }

symbols_over : (n : ℕ) → All (IsTypeOver 2) (fun_types n)
symbols_over n =
    let maps = map (λ _. map_type) (range_with_len 0 n) in
    All-cons (IsTypeOver 2) nat ((nat ⇒ nat) ∷ list ∷ (nat ⇒ list ⇒ list) ∷ maps) nat_over
    (All-cons (IsTypeOver 2) (nat ⇒ nat) (list ∷ (nat ⇒ list ⇒ list) ∷ maps) step_over
    (All-cons (IsTypeOver 2) list ((nat ⇒ list ⇒ list) ∷ maps) list_over
    (All-cons (IsTypeOver 2) (nat ⇒ list ⇒ list) maps cons_over (all_mapped (IsTypeOver 2) (λ _. map_type) n (λ i within. map_over)))))

f_over : IsDeclarationOver 2 f_declared
f_over = record { narrow = lit≤ tt; args = All-cons (IsTypeOver 2) nat [] nat_over (All-nil (IsTypeOver 2)); out = nat_over }

x_over : IsDeclarationOver 2 x_declared
x_over = record { narrow = lit≤ tt; args = All-nil (IsTypeOver 2); out = nat_over }

y_over : IsDeclarationOver 2 y_declared
y_over = record { narrow = lit≤ tt; args = All-nil (IsTypeOver 2); out = list_over }

first_over : All (IsDeclarationOver 2) first_metas
first_over = All-cons (IsDeclarationOver 2) f_declared [] f_over (All-nil (IsDeclarationOver 2))

second_over : All (IsDeclarationOver 2) second_metas
second_over =
    All-cons (IsDeclarationOver 2) f_declared (x_declared ∷ y_declared ∷ []) f_over
    (All-cons (IsDeclarationOver 2) x_declared (y_declared ∷ []) x_over (All-cons (IsDeclarationOver 2) y_declared [] y_over (All-nil (IsDeclarationOver 2))))

right_narrow : (i : ℕ) → TypesWithin 32 (second_right i)
right_narrow zero = search rules
right_narrow (suc j) = search rules

right_shallow : (i : ℕ) → TypesNestWithin 16 (second_right i)
right_shallow zero = search rules
right_shallow (suc j) = search rules

-- each left side has two arguments
even_rules : (n : ℕ) → All (λ r. argument_count r.left ≡ 2) (gen_data n).rules
even_rules n = each_rule (λ r. argument_count r.left ≡ 2) n (λ i within. refl) (λ i within. refl)

pub family_made : (n : ℕ) → n ≤ 200 → IsWellMadeSystem (gen_data n)
family_made n few =
    let count : RewriteRule → Type 0 = λ r. argument_count r.left ≡ 2 in
    let all = (gen_data n).rules in
    record {
      rules = record {
        each = λ r has. All-contains (IsWellMade (gen_symbols n)) all r (each_rule (IsWellMade (gen_symbols n)) n (first_rule_made n) (second_rule_made n)) has;
        even = λ r s r_has s_has same. All-contains count all r (even_rules n) r_has ∙ sym (All-contains count all s (even_rules n) s_has);
      };
      sorts_within = lit≤ tt;
      symbols_within = let many = symbols-many n in omega (arith, many);
      rules_within = let many = length-pairs first_rule second_rule 0 n in omega (arith, many);
      metas_within = each_rule (λ r. length r.metas ≤ 32) n (λ i within. lit≤ tt) (λ i within. lit≤ tt);
      symbol_types = symbols_over n;
      meta_types = each_rule (λ r. All (IsDeclarationOver 2) r.metas) n (λ i within. first_over) (λ i within. second_over);
      side_types = each_rule (λ r. TypesWithin 32 r.left × TypesWithin 32 r.right) n (λ i within. search rules) (λ i within. (search rules, right_narrow i));
      side_types_shallow = each_rule (λ r. TypesNestWithin 16 r.left × TypesNestWithin 16 r.right) n (λ i within. search rules) (λ i within. (search rules, right_shallow i));
      sorts_named = refl;
      symbols_named = names-many n ∙ sym (symbols-many n);
      metas_named = metas-many 0 n;
      sort_names_spelled = names.sort_names_are_names;
      fun_names_spelled = names.fun_names_are_names n (omega arith);
      meta_names_spelled = each_names (All IsName) n (both_names (All IsName) names.first_metas_are_names names.second_metas_are_names);
      sort_names_distinct = names.sort_names_distinct;
      fun_names_distinct = names.fun_names_distinct n (omega arith);
      meta_names_distinct = each_names AreDistinct n (both_names AreDistinct names.first_metas_distinct names.second_metas_distinct);
      metas_no_symbols = each_names (λ ms. AreApart ms (fun_names n)) n (both_names (λ ms. AreApart ms (fun_names n)) (names.first_metas_apart n) (names.second_metas_apart n));
    }
