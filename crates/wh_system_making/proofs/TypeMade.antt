-- Where no test fails, the types of symbols and meta-variables are types of the system, and names are distinct.
use Rattle.std.proofs.Common.{◌≡◌, ◌≢◌, ℕ, ◌+◌, ◌≤◌, false, List, [], ◌∷◌, ◌++◌, length, map, Option, Some, None, option_map, unwrap_or, All, append_assoc, append-nil, ap, sym, subst, arith}
use Rattle.std.proofs.lemmas.Bool.{eqb-false}
use Rattle.std.proofs.lemmas.List.Elements.{All-nil, All-cons, All-head, All-tail}
use Rattle.std.proofs.lemmas.List.Quantifiers.{all_pairs_push}
use Rattle.wh_types.specs.Ty.{Ty, sort, ◌⇒◌, arguments}
use Rattle.wh_text.specs.RawTree.{RTy, raw_type, RTys, no_types, more_types}
use Rattle.wh_system_parts.specs.Parts.{RFun, RMeta}
use Rattle.wh_system_parts.specs.Naming.{number_of, is_declared, type_meant, arrows_meant}
use Rattle.wh_system_parts.specs.Tests.{sorts_of_type, width_of_type, width_of_types, count_of_types, type_tests, types_tests, fun_tests, meta_tests}
use Rattle.wh_system_parts.specs.RuleTests.{type_of_raw, types_of_raw, declared_by}
use Rattle.wh_system_parts.proofs.OptionParts.{some_same, none_some, and_then_parts}
use Rattle.wh_system.specs.Nesting.{raw_nesting, RawTypesNestEach}
use Rattle.wh_system.specs.WellMade.{ArgumentsWithin, IsTypeOver, IsDeclarationOver, AreDistinct, AreApart}
use Rattle.wh_system_making.proofs.PassedLaws.{Passed, passed_first, passed_rest, passed_parts, or_false}
use Rattle.wh_system_making.proofs.NameLaws.{undeclared}
use Rattle.wh_system_making.proofs.KindMade.{type_made}
use Rattle.wh_system_making.proofs.NestingMade.{type_nesting-meant}

next : (k : ℕ) → k ≤ 32 → (k ≡ 32 → ⊥) → k + 1 ≤ 32
next k room other = omega arith

mutual
  pub width_of_meant : (sorts : List (List ℕ)) (a : RTy) (b : Ty) → type_meant sorts a ≡ Some b → Passed (width_of_type a) → ArgumentsWithin 32 b
  width_of_meant sorts (raw_type args s at) b e p = (widths_of_meant sorts args (number_of sorts s) 0 b (omega arith) e p).0

  widths_of_meant : (sorts : List (List ℕ)) (args : RTys) (o : Option ℕ) (k : ℕ) (b : Ty) → k ≤ 32 → arrows_meant sorts args (option_map sort o) ≡ Some b → Passed (width_of_types k args)
      → ArgumentsWithin 32 b × (length (arguments b) + k ≤ 32)
  widths_of_meant sorts no_types None k b room e p = absurd (none_some e)
  widths_of_meant sorts no_types (Some s) k b room e p = subst (λ b. ArgumentsWithin 32 b × (length (arguments b) + k ≤ 32)) (some_same e) (tt, omega arith)
  widths_of_meant sorts (more_types a rest) o k b room e p =
      let parts = passed_parts (width_of_type a) (width_of_types (k + 1) rest) (passed_rest p) in
      let both = and_then_parts (λ b c. b ⇒ c) (type_meant sorts a) (arrows_meant sorts rest (option_map sort o)) b e in
      let other : k ≡ 32 → ⊥ = eqb-false k 32 (passed_first p) in
      let there = widths_of_meant sorts rest o (k + 1) both.1 (next k room other) both.3 parts.1 in
      let long : length (arguments both.1) + (k + 1) ≤ 32 = there.1 in
      subst (λ b. ArgumentsWithin 32 b × (length (arguments b) + k ≤ 32)) both.4
      ((omega arith, width_of_meant sorts a both.0 both.2 parts.0, there.0), omega arith)

-- a type that passes
pub type_over : (sorts : List (List ℕ)) (a : RTy) → raw_nesting a ≤ 16 → Passed (type_tests sorts a) → IsTypeOver (length sorts) (type_of_raw sorts a)
type_over sorts a shallow p =
    let parts = passed_parts (sorts_of_type sorts a) (width_of_type a) p in
    let b = type_made sorts a parts.0 in
    subst (IsTypeOver (length sorts)) (sym (ap (λ o. unwrap_or o (sort 0)) b.1)) (record {
      sorts_are_there = b.2;
      narrow = width_of_meant sorts a b.0 b.1 parts.1;
      shallow = subst (λ n. n ≤ 16) (sym (type_nesting-meant sorts a b.0 b.1)) shallow;
    })

types_over : (sorts : List (List ℕ)) (args : RTys) → RawTypesNestEach 16 args → Passed (types_tests sorts args) → All (IsTypeOver (length sorts)) (types_of_raw sorts args)
types_over sorts no_types shallow p = All-nil (IsTypeOver (length sorts))
types_over sorts (more_types a rest) shallow p =
    let parts = passed_parts (type_tests sorts a) (types_tests sorts rest) p in
    All-cons (IsTypeOver (length sorts)) (type_of_raw sorts a) (types_of_raw sorts rest) (type_over sorts a shallow.0 parts.0) (types_over sorts rest shallow.1 parts.1)

few : (sorts : List (List ℕ)) (args : RTys) (k : ℕ) → k ≤ 32 → Passed (count_of_types k args) → length (types_of_raw sorts args) + k ≤ 32
few sorts no_types k room p = omega arith
few sorts (more_types a rest) k room p =
    let other : k ≡ 32 → ⊥ = eqb-false k 32 (passed_first p) in
    let there : length (types_of_raw sorts rest) + (k + 1) ≤ 32 = few sorts rest (k + 1) (next k room other) (passed_rest p) in
    omega arith

-- the symbols

-- its type nests at most 16 deep
abbrev pub IsShallowFun : RFun → Type 0
IsShallowFun f = raw_nesting f.kind ≤ 16

pub funs_over : (sorts before : List (List ℕ)) (fs : List RFun) → All IsShallowFun fs → Passed (fun_tests sorts before fs)
    → All (IsTypeOver (length sorts)) (map (λ f. type_of_raw sorts f.kind) fs)
funs_over sorts before [] shallow p = All-nil (IsTypeOver (length sorts))
funs_over sorts before (f ∷ fs) shallow p =
    let parts = passed_parts (type_tests sorts f.kind) (fun_tests sorts (before ++ f.name.name ∷ []) fs) (passed_rest p) in
    All-cons (IsTypeOver (length sorts)) (type_of_raw sorts f.kind) (map (λ f. type_of_raw sorts f.kind) fs)
    (type_over sorts f.kind (All-head IsShallowFun f fs shallow) parts.0) (funs_over sorts (before ++ f.name.name ∷ []) fs (All-tail IsShallowFun f fs shallow) parts.1)

pub funs_distinct : (sorts before : List (List ℕ)) (fs : List RFun) → AreDistinct before → Passed (fun_tests sorts before fs) → AreDistinct (before ++ map (λ f. f.name.name) fs)
funs_distinct sorts before [] so_far p = subst AreDistinct (sym (append-nil before)) so_far
funs_distinct sorts before (f ∷ fs) so_far p =
    let parts = passed_parts (type_tests sorts f.kind) (fun_tests sorts (before ++ f.name.name ∷ []) fs) (passed_rest p) in
    subst AreDistinct (append_assoc before (f.name.name ∷ []) (map (λ f. f.name.name) fs))
    (funs_distinct sorts (before ++ f.name.name ∷ []) fs (all_pairs_push (λ x y. x ≢ y) before f.name.name so_far (undeclared before f.name.name (passed_first p))) parts.1)

-- the meta-variables of a rule

-- what the tests of the first one and of the others say
pub record MetaPassed (sorts funs before : List (List ℕ)) (m : RMeta) (ms : List RMeta) : Type 0 where
  pub is_new : is_declared before m.name.name ≡ false
  pub is_no_symbol : is_declared funs m.name.name ≡ false
  pub are_few : Passed (count_of_types 0 m.args)
  pub args : Passed (types_tests sorts m.args)
  pub out : Passed (type_tests sorts m.out)
  pub others : Passed (meta_tests sorts funs (before ++ m.name.name ∷ []) ms)

meta_passed : (sorts funs before : List (List ℕ)) (m : RMeta) (ms : List RMeta) → Passed (meta_tests sorts funs before (m ∷ ms)) → MetaPassed sorts funs before m ms
meta_passed sorts funs before m ms p =
    let names = or_false (is_declared before m.name.name) (is_declared funs m.name.name) (passed_first p) in
    let rest = meta_tests sorts funs (before ++ m.name.name ∷ []) ms in
    let p3 = passed_parts (count_of_types 0 m.args ++ types_tests sorts m.args ++ type_tests sorts m.out) rest (passed_rest p) in
    let p2 = passed_parts (count_of_types 0 m.args ++ types_tests sorts m.args) (type_tests sorts m.out) p3.0 in
    let p1 = passed_parts (count_of_types 0 m.args) (types_tests sorts m.args) p2.0 in
    record { is_new = names.0; is_no_symbol = names.1; are_few = p1.0; args = p1.1; out = p2.1; others = p3.1 }

-- its types nest at most 16 deep
abbrev pub IsShallowMeta : RMeta → Type 0
IsShallowMeta m = RawTypesNestEach 16 m.args × (raw_nesting m.out ≤ 16)

pub metas_over : (sorts funs before : List (List ℕ)) (ms : List RMeta) → All IsShallowMeta ms → Passed (meta_tests sorts funs before ms)
    → All (IsDeclarationOver (length sorts)) (map (declared_by sorts) ms)
metas_over sorts funs before [] shallow p = All-nil (IsDeclarationOver (length sorts))
metas_over sorts funs before (m ∷ ms) shallow p =
    let parts = meta_passed sorts funs before m ms p in
    let long : length (types_of_raw sorts m.args) + 0 ≤ 32 = few sorts m.args 0 (omega arith) parts.are_few in
    let here : IsShallowMeta m = All-head IsShallowMeta m ms shallow in
    All-cons (IsDeclarationOver (length sorts)) (declared_by sorts m) (map (declared_by sorts) ms)
    (record { narrow = omega arith; args = types_over sorts m.args here.0 parts.args; out = type_over sorts m.out here.1 parts.out })
    (metas_over sorts funs (before ++ m.name.name ∷ []) ms (All-tail IsShallowMeta m ms shallow) parts.others)

pub metas_distinct : (sorts funs before : List (List ℕ)) (ms : List RMeta) → AreDistinct before → Passed (meta_tests sorts funs before ms) → AreDistinct (before ++ map (λ m. m.name.name) ms)
metas_distinct sorts funs before [] so_far p = subst AreDistinct (sym (append-nil before)) so_far
metas_distinct sorts funs before (m ∷ ms) so_far p =
    let parts = meta_passed sorts funs before m ms p in
    subst AreDistinct (append_assoc before (m.name.name ∷ []) (map (λ m. m.name.name) ms))
    (metas_distinct sorts funs (before ++ m.name.name ∷ []) ms (all_pairs_push (λ x y. x ≢ y) before m.name.name so_far (undeclared before m.name.name parts.is_new)) parts.others)

pub metas_apart : (sorts funs before : List (List ℕ)) (ms : List RMeta) → Passed (meta_tests sorts funs before ms) → AreApart (map (λ m. m.name.name) ms) funs
metas_apart sorts funs before [] p = All-nil (λ x. All (λ y. x ≢ y) funs)
metas_apart sorts funs before (m ∷ ms) p =
    let parts = meta_passed sorts funs before m ms p in
    All-cons (λ x. All (λ y. x ≢ y) funs) m.name.name (map (λ m. m.name.name) ms)
    (λ k d within same. undeclared funs m.name.name parts.is_no_symbol k d within (sym same))
    (metas_apart sorts funs (before ++ m.name.name ∷ []) ms parts.others)
