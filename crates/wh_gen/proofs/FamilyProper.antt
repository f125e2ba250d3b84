-- The raw parts are proper: each declared name is a name, and types nest at most 16 deep.
use Rattle.std.proofs.Common.{ℕ, zero, suc, ◌<◌, ◌≤◌, [], ◌∷◌, map, All, lit≤, arith, rules}
use Rattle.std.specs.Prelude.{codes}
use Rattle.std.specs.List.{range_with_len}
use Rattle.std.proofs.lemmas.List.Elements.{All-nil, All-cons, All-append, All-map}
use Rattle.wh_text.specs.Words.{IsName}
use Rattle.wh_system_parts.specs.Parts.{RFun, RMeta, RRule}
use Rattle.wh_system.specs.Nesting.{raw_nesting, RawTypesNestEach, RawTypesNestWithin}
use Rattle.wh_system_making.specs.Proper.{AreProper}
use Rattle.wh_system_making.specs.CanonicalParts.{raw_name}
use Rattle.wh_gen.specs.Family.{sort_names}
use Rattle.wh_gen.specs.RawFamily.{raw_nat, raw_list, raw_step, raw_onto_lists, raw_fun, raw_f, raw_x_meta, raw_y_meta, raw_second_right, raw_first_rule, raw_second_rule, raw_base, raw_map_fun, raw_rules_of_map, raw_rules, raw_family}
use Rattle.wh_gen.proofs.RangeLists.{all_mapped, all_joined}
use Rattle.wh_gen.proofs.FamilyNames as names

-- what holds of the first symbols and of each function holds of all symbols
each_fun : (P : RFun → Type 0) (n : ℕ) → P (raw_fun (codes "zero") raw_nat) → P (raw_fun (codes "s") raw_step) → P (raw_fun (codes "nil") raw_list) → P (raw_fun (codes "cons") (raw_onto_lists raw_nat))
    → ((i : ℕ) → i < n → P (raw_map_fun i)) → All P (raw_family n).funs
each_fun P n z s l c maps =
    All-append P raw_base (map raw_map_fun (range_with_len 0 n))
    (All-cons P (raw_fun (codes "zero") raw_nat) (raw_fun (codes "s") raw_step ∷ raw_fun (codes "nil") raw_list ∷ raw_fun (codes "cons") (raw_onto_lists raw_nat) ∷ []) z
    (All-cons P (raw_fun (codes "s") raw_step) (raw_fun (codes "nil") raw_list ∷ raw_fun (codes "cons") (raw_onto_lists raw_nat) ∷ []) s
    (All-cons P (raw_fun (codes "nil") raw_list) (raw_fun (codes "cons") (raw_onto_lists raw_nat) ∷ []) l (All-cons P (raw_fun (codes "cons") (raw_onto_lists raw_nat)) [] c (All-nil P)))))
    (all_mapped P raw_map_fun n maps)

-- what holds of the two rules of each function holds of all rules
each_rule : (P : RRule → Type 0) (n : ℕ) → ((i : ℕ) → P (raw_first_rule i)) → ((i : ℕ) → P (raw_second_rule i)) → All P (raw_rules n)
each_rule P n one two =
    all_joined P raw_rules_of_map n (λ i within. All-cons P (raw_first_rule i) (raw_second_rule i ∷ []) (one i) (All-cons P (raw_second_rule i) [] (two i) (All-nil P)))

-- what holds of `F`, `X` and `Y`

first_metas_all : (P : RMeta → Type 0) → P raw_f → All P (raw_f ∷ [])
first_metas_all P f = All-cons P raw_f [] f (All-nil P)

second_metas_all : (P : RMeta → Type 0) → P raw_f → P raw_x_meta → P raw_y_meta → All P (raw_f ∷ raw_x_meta ∷ raw_y_meta ∷ [])
second_metas_all P f x y = All-cons P raw_f (raw_x_meta ∷ raw_y_meta ∷ []) f (All-cons P raw_x_meta (raw_y_meta ∷ []) x (All-cons P raw_y_meta [] y (All-nil P)))

right_shallow : (i : ℕ) → RawTypesNestWithin 16 (raw_second_right i)
right_shallow zero = search rules
right_shallow (suc j) = search rules

pub family_proper : (n : ℕ) → n ≤ 200 → AreProper (raw_family n)
family_proper n few =
    let Named : RMeta → Type 0 = λ m. IsName m.name.name in
    let Shallow : RMeta → Type 0 = λ m. RawTypesNestEach 16 m.args × (raw_nesting m.out ≤ 16) in
    record {
      sorts = All-map (λ s. IsName s.name) raw_name sort_names names.sort_names_are_names;
      funs = each_fun (λ f. IsName f.name.name) n names.zero_is_name names.s_is_name names.nil_is_name names.cons_is_name (λ i within. names.map_name_is_name i (omega arith));
      metas = each_rule (λ r. All Named r.metas) n (λ i. first_metas_all Named names.f_is_name) (λ i. second_metas_all Named names.f_is_name names.x_is_name names.y_is_name);
      fun_types = each_fun (λ f. raw_nesting f.kind ≤ 16) n (lit≤ tt) (lit≤ tt) (lit≤ tt) (lit≤ tt) (λ i within. lit≤ tt);
      meta_types = each_rule (λ r. All Shallow r.metas) n (λ i. first_metas_all Shallow (search rules)) (λ i. second_metas_all Shallow (search rules) (search rules) (search rules));
      side_types = each_rule (λ r. RawTypesNestWithin 16 r.left × RawTypesNestWithin 16 r.right) n (λ i. search rules) (λ i. (search rules, right_shallow i));
    }
