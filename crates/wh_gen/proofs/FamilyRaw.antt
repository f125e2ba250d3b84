-- The raw parts are the canonical parts of the generated system.
use Rattle.std.proofs.Common.{◌≡◌, ℕ, zero, suc, ◌+◌, ◌<◌, ◌≤◌, List, [], ◌∷◌, ◌++◌, map, refl, ap, ap₂, subst, arith}
use Rattle.std.specs.Prelude.{codes}
use Rattle.std.specs.List.{flat_map, range_with_len}
use Rattle.std.proofs.lemmas.List.FromFn.{get_or-map-range_with_len}
use Rattle.wh_system_parts.specs.Parts.{RRule}
use Rattle.wh_system.specs.Canonical.{name_at}
use Rattle.wh_system_making.specs.CanonicalParts.{raw_name, raw_funs_of, raw_rule_of, raw_rules_of, canonical}
use Rattle.wh_gen.specs.Family.{sort_names, map_name, map_type, fun_names, fun_types, first_rule, second_rule, rules_of, names_of_metas, gen_data}
use Rattle.wh_gen.specs.RawFamily.{raw_plain, raw_map_of, raw_mapped_list, raw_second_left, raw_f, raw_x_meta, raw_y_meta, raw_first_rule, raw_second_rule, raw_base, raw_map_fun, raw_rules_of_map, raw_family}

-- the name of the i-th function stands behind those of the first four symbols
name_there : (n i : ℕ) → i < n → name_at (fun_names n) (4 + i) ≡ map_name i
name_there n i within =
    let behind : suc (suc (suc (suc i))) ≡ 4 + i = omega arith in
    subst (λ k. name_at (fun_names n) k ≡ map_name i) behind (get_or-map-range_with_len map_name 0 n i i [] within (omega arith))

maps-raw : (a k : ℕ) → raw_funs_of sort_names (map map_name (range_with_len a k)) (map (λ _. map_type) (range_with_len a k)) ≡ map raw_map_fun (range_with_len a k)
maps-raw a zero = refl
maps-raw a (suc k) = ap (λ fs. raw_map_fun a ∷ fs) (maps-raw (a + 1) k)

funs-raw : (n : ℕ) → raw_funs_of sort_names (fun_names n) (fun_types n) ≡ raw_base ++ map raw_map_fun (range_with_len 0 n)
funs-raw n = ap (λ fs. raw_base ++ fs) (maps-raw 0 n)

first-raw : (n i : ℕ) → i < n → raw_rule_of (gen_data n) (codes "F" ∷ []) (first_rule i) ≡ raw_first_rule i
first-raw n i within =
    let rule : List ℕ → RRule = λ name. record { metas = raw_f ∷ []; left = raw_map_of name (raw_plain (codes "nil")); right = raw_plain (codes "nil"); at = 0 } in
    ap rule (name_there n i within)

second-raw : (n i : ℕ) → i < n → raw_rule_of (gen_data n) (codes "F" ∷ codes "X" ∷ codes "Y" ∷ []) (second_rule i) ≡ raw_second_rule i
second-raw n zero within =
    let rule : List ℕ → RRule = λ name. record { metas = raw_f ∷ raw_x_meta ∷ raw_y_meta ∷ []; left = raw_second_left name; right = raw_mapped_list name; at = 0 } in
    ap rule (name_there n zero within)
second-raw n (suc j) within =
    let rule : List ℕ → List ℕ → RRule = λ name before. record { metas = raw_f ∷ raw_x_meta ∷ raw_y_meta ∷ []; left = raw_second_left name; right = raw_map_of before (raw_mapped_list name); at = 0 } in
    ap₂ rule (name_there n (suc j) within) (name_there n j (omega arith))

rules-raw : (n a k : ℕ) → a + k ≤ n → raw_rules_of (gen_data n) (flat_map (λ _. names_of_metas) (range_with_len a k)) (flat_map rules_of (range_with_len a k)) ≡ flat_map raw_rules_of_map (range_with_len a k)
rules-raw n a zero within = refl
rules-raw n a (suc k) within = λ i. first-raw n a (omega arith) i ∷ second-raw n a (omega arith) i ∷ rules-raw n (a + 1) k (omega arith) i

pub canonical-family : (n : ℕ) → canonical (gen_data n) ≡ raw_family n
canonical-family n = λ i. record { sorts = map raw_name sort_names; funs = funs-raw n i; rules = rules-raw n 0 n (omega arith) i }
