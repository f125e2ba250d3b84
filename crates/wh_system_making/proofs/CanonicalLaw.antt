-- The canonical parts of a well-made system pass all tests, and say that system.
use Rattle.std.proofs.Common.{◌≡◌, ℕ, suc, ◌≤◌, Bool, true, false, not, ◌&&◌, ◌||◌, List, [], ◌∷◌, ◌++◌, length, map, Option, Some, None, is_some, All, Contains, refl, ap, ap₂, sym, ◌∙◌, subst, arith, eqb-true}
use Rattle.std.specs.Prelude.{◌==◌, nat_lt}
use Rattle.std.proofs.lemmas.List.{length-map}
use Rattle.std.proofs.lemmas.List.Elements.{Contains-get_or}
use Rattle.wh_types.specs.Ty.{Ty}
use Rattle.wh_terms.specs.Tree.{Tm, fun, head, argument_count}
use Rattle.wh_terms.specs.Measures.{Fits}
use Rattle.wh_terms.specs.Typing.{Symbols, Declared, Typed}
use Rattle.wh_terms.specs.Rules.{RewriteRule}
use Rattle.wh_terms.proofs.TypeTests.{same_ty-self}
use Rattle.wh_system_parts.specs.Naming.{Scope, meant}
use Rattle.wh_system_parts.specs.Kinds.{kind_of}
use Rattle.wh_system_parts.specs.Tests.{test, arguments_of, count_test, sort_names, fun_names, sorts_tests, funs_tests, fun_tests, meta_tests, width_of_term, raw_height, raw_size, side_tests, naming_tests}
use Rattle.wh_system_parts.specs.RuleTests.{type_of_raw, declared_by, scope_of, same_kind, open_tests, head_symbol, pattern_tests, new_meta_tests, is_uneven, rule_tests, rules_tests, refusal}
use Rattle.wh_system.specs.Systems.{SystemData}
use Rattle.wh_system_making.specs.Says.{SayRules, Says}
use Rattle.wh_system.specs.WellMade.{IsTypeOver, IsDeclarationOver, TypesWithin, AreDistinct, AreApart, IsWellMadeSystem}
use Rattle.wh_system.specs.Canonical.{raw_of, IsNamedBelow}
use Rattle.wh_system_making.specs.CanonicalParts.{raw_name, raw_metas_of, raw_rule_of, raw_rules_of, canonical}
use Rattle.wh_system_making.proofs.PassedLaws.{Passed}
use Rattle.wh_system_making.proofs.StandsLaws.{stands}
use Rattle.wh_system_making.proofs.SizeMade.{size_made}
use Rattle.wh_system_making.proofs.KindMade.{symbols_of}
use Rattle.wh_system_making.proofs.TypedPassed.{no_test, and_test, and_tests, typed_passes}
use Rattle.wh_system_making.proofs.CanonicalNames.{few_passed}
use Rattle.wh_system_making.proofs.CanonicalBack.{names_in, IsClear, raw_meant, HasNames, typed_named}
use Rattle.wh_system_making.proofs.CanonicalPassed.{raw_width, raw_height_is, raw_closed, raw_head, raw_count}
use Rattle.wh_system_making.proofs.CanonicalPatterns.{raw_pattern, raw_occurs, raw_known}
use Rattle.wh_system_making.proofs.CanonicalLists.{names_passed, funs_passed, funs_named, funs_typed, metas_passed, metas_named_back, metas_declared_back}

-- what names stand for in a rule of the system
abbrev rule_scope : SystemData → List (List ℕ) → RewriteRule → Scope
rule_scope d metas r = record { sorts = d.sort_names; funs = d.fun_names; kinds = d.symbols.funs; metas = metas; declared = r.metas }

-- what the law asks of a rule whose meta-variables have these names
record IsReady (d : SystemData) (metas : List (List ℕ)) (r : RewriteRule) : Type 0 where
  there : Contains d.rules r
  long : length metas ≡ length r.metas
  few : length r.metas ≤ 32
  declared : All (IsDeclarationOver d.symbols.sorts) r.metas
  types : TypesWithin 32 r.left × TypesWithin 32 r.right
  distinct : AreDistinct metas
  apart : AreApart metas d.fun_names

names-back : (ns : List (List ℕ)) → map (λ s. s.name) (map raw_name ns) ≡ ns
names-back [] = refl
names-back (n ∷ ns) = ap (λ xs. n ∷ xs) (names-back ns)

abbrev scope : List (List ℕ) → List (List ℕ) → List Ty → List (List ℕ) → List Declared → Scope
scope sorts funs kinds metas declared = record { sorts = sorts; funs = funs; kinds = kinds; metas = metas; declared = declared }

kinds-back : (d : SystemData) → IsWellMadeSystem d → map (λ f. type_of_raw (sort_names (canonical d)) f.kind) (canonical d).funs ≡ d.symbols.funs
kinds-back d w =
    ap (λ sorts. map (λ f. type_of_raw sorts f.kind) (canonical d).funs) (names-back d.sort_names)
    ∙ funs_typed d.sort_names d.fun_names d.symbols.funs w.sort_names_distinct w.symbols_named (subst (λ n. All (IsTypeOver n) d.symbols.funs) (sym w.sorts_named) w.symbol_types)

scope-back : (d : SystemData) → IsWellMadeSystem d → (metas : List (List ℕ)) (r : RewriteRule) → IsReady d metas r → scope_of (canonical d) (raw_rule_of d metas r) ≡ rule_scope d metas r
scope-back d w metas r ready =
    let names = metas_named_back d.sort_names metas r.metas ready.long in
    let declared : map (declared_by (sort_names (canonical d))) (raw_metas_of d.sort_names metas r.metas) ≡ r.metas =
    ap (λ sorts. map (declared_by sorts) (raw_metas_of d.sort_names metas r.metas)) (names-back d.sort_names)
    ∙ metas_declared_back d.sort_names metas r.metas w.sort_names_distinct ready.long (subst (λ n. All (IsDeclarationOver n) r.metas) (sym w.sorts_named) ready.declared) in
    λ i. scope (names-back d.sort_names i) (funs_named d.sort_names d.fun_names d.symbols.funs w.symbols_named i) (kinds-back d w i) (names i) (declared i)

-- a rule

clear : (d : SystemData) → IsWellMadeSystem d → (metas : List (List ℕ)) (r : RewriteRule) → IsReady d metas r → IsClear (rule_scope d metas r)
clear d w metas r ready = record { sorts = w.sort_names_distinct; funs = w.fun_names_distinct; metas = ready.distinct; apart = ready.apart }

-- a side of the rule with its type
record Side (d : SystemData) (metas : List (List ℕ)) (r : RewriteRule) (t : Tm) (a : Ty) : Type 0 where
  all_named : IsNamedBelow (names_in (rule_scope d metas r)) 0 t
  is_meant : meant (rule_scope d metas r) [] (raw_of (names_in (rule_scope d metas r)) t) ≡ Some t
  fits : Passed (side_tests (raw_of (names_in (rule_scope d metas r)) t))
  named_well : Passed (naming_tests (rule_scope d metas r) [] (raw_of (names_in (rule_scope d metas r)) t))
  kind_is : kind_of (rule_scope d metas r) [] (raw_of (names_in (rule_scope d metas r)) t) ≡ Some a

side : (d : SystemData) → IsWellMadeSystem d → (metas : List (List ℕ)) (r : RewriteRule) → IsReady d metas r → (t : Tm) (a : Ty) → Typed d.symbols r.metas [] t a → Fits t → TypesWithin 32 t
    → Side d metas r t a
side d w metas r ready t a typed fits types =
    let s = rule_scope d metas r in
    let n = names_in s in
    let has : HasNames n d.symbols r.metas = record { sorts = w.sorts_named; funs = w.symbols_named; metas = ready.long } in
    let named = typed_named n has typed in
    let is = raw_meant s (clear d w metas r ready) t 0 named in
    let same : symbols_of s ≡ d.symbols = λ i. symbols (w.sorts_named i) d.symbols.funs in
    let passes = typed_passes s (raw_of n t) [] [] refl t a is (subst (λ S. Typed S r.metas [] t a) (sym same) typed) in
    let small : raw_size (raw_of n t) ≤ 65536 = subst (λ k. k ≤ 65536) (size_made (stands s [] (raw_of n t) t is)) fits.small in
    let low : raw_height (raw_of n t) ≤ 200 = subst (λ k. k ≤ 200) (sym (raw_height_is n t 0)) fits.low in
    record {
      all_named = named;
      is_meant = is;
      fits = and_tests (width_of_term (raw_of n t)) _ (raw_width n t 0 fits.narrow types) (and_test _ _ (at-most 200 (raw_height (raw_of n t)) low) (and_test _ [] (at-most 65536 (raw_size (raw_of n t)) small) no_test));
      named_well = passes.passed;
      kind_is = passes.is_kind;
    }
  where
    symbols : ℕ → List Ty → Symbols
    symbols n kinds = record { sorts = n; funs = kinds }

    at-most : (n m : ℕ) → m ≤ n → nat_lt n m ≡ false
    at-most n m l = grind arith

-- the earlier rules have the same number of arguments where they have the head f
abbrev AllAgree : ℕ → ℕ → List (Option ℕ × ℕ) → Type 0
AllAgree f n [] = Unit {0}
AllAgree f n (e ∷ es) = (e.0 ≡ Some f → n ≡ e.1) × AllAgree f n es

even-passed : (f n : ℕ) (es : List (Option ℕ × ℕ)) → AllAgree f n es → is_uneven (Some f) n es ≡ false
even-passed f n [] agree = refl
even-passed f n ((None, m) ∷ es) agree = even-passed f n es agree.1
even-passed f n ((Some g, m) ∷ es) agree = ap (λ b. ((f == g) && not (n == m)) || b) (even-passed f n es agree.1) ∙ go (f == g) (n == m) refl refl
  where
    go : (b c : Bool) → (f == g) ≡ b → (n == m) ≡ c → (((f == g) && not (n == m)) || false) ≡ false
    go true true e h = ap₂ (λ b c. (b && not c) || false) e h
    go true false e h = absurd (let same : n ≡ m = agree.0 (ap (λ k. Some k) (sym (eqb-true f g e))) in let equal : (n == m) ≡ true = grind arith in cc)
    go false c e h = ap (λ b. (b && not (n == m)) || false) e

rule-passed : (d : SystemData) → IsWellMadeSystem d → (metas : List (List ℕ)) (r : RewriteRule) → IsReady d metas r → (earlier : List (Option ℕ × ℕ))
    → ((f : ℕ) → head r.left ≡ fun f → AllAgree f (argument_count r.left) earlier) → Passed (rule_tests (canonical d) earlier (raw_rule_of d metas r))
rule-passed d w metas r ready earlier agree =
    let p = canonical d in
    let q = raw_rule_of d metas r in
    let s = rule_scope d metas r in
    let c = clear d w metas r ready in
    let m = w.rules.each r ready.there in
    let same = scope-back d w metas r ready in
    let left = side d w metas r ready r.left m.typed.0 m.typed.1 m.left_fits ready.types.0 in
    let right = side d w metas r ready r.right m.typed.0 m.typed.2 m.right_fits ready.types.1 in
    let f = m.headed.0 in
    let headed : head_symbol (scope_of p q) q.left ≡ Some f = ap (λ s. head_symbol s q.left) same ∙ raw_head s c r.left f left.all_named m.headed.1 in
    let names = metas_named_back d.sort_names metas r.metas ready.long in
    let long : length (map (λ m. m.name.at) q.metas) ≡ length r.metas = length-map q.metas _ ∙ sym (length-map q.metas (λ m. m.name.name)) ∙ ap length names ∙ ready.long in
    let counted = and_test (test (nat_lt 32 (length (map (λ m. m.name.at) q.metas))) _) [] (few_passed 32 (map (λ m. m.name.at) q.metas) (subst (λ n. n ≤ 32) (sym long) ready.few)) no_test in
    let declarations : Passed (meta_tests (sort_names p) (fun_names p) [] q.metas) =
    subst (λ sorts. Passed (meta_tests sorts (fun_names p) [] q.metas)) (sym (names-back d.sort_names))
    (subst (λ funs. Passed (meta_tests d.sort_names funs [] q.metas)) (sym (funs_named d.sort_names d.fun_names d.symbols.funs w.symbols_named))
    (metas_passed d.sort_names d.fun_names [] metas r.metas w.sort_names_distinct ready.distinct ready.apart (subst (λ n. All (IsDeclarationOver n) r.metas) (sym w.sorts_named) ready.declared))) in
    let left_named : Passed (naming_tests (scope_of p q) [] q.left) = subst (λ s. Passed (naming_tests s [] q.left)) (sym same) left.named_well in
    let right_named : Passed (naming_tests (scope_of p q) [] q.right) = subst (λ s. Passed (naming_tests s [] q.right)) (sym same) right.named_well in
    let one_type : same_kind (kind_of (scope_of p q) [] q.left) (kind_of (scope_of p q) [] q.right) ≡ true =
    ap₂ same_kind (ap (λ s. kind_of s [] q.left) same ∙ left.kind_is) (ap (λ s. kind_of s [] q.right) same ∙ right.kind_is) ∙ same_ty-self m.typed.0 in
    let patterns : Passed (pattern_tests (scope_of p q) [] q.left) = subst (λ s. Passed (pattern_tests s [] q.left)) (sym same) (raw_pattern s c r.left 0 left.all_named m.pattern_left) in
    let known : Passed (new_meta_tests (scope_of p q) q.left [] q.right) =
    subst (λ s. Passed (new_meta_tests s q.left [] q.right)) (sym same) (raw_known s c q.left r.right 0 right.all_named (λ z o. raw_occurs s c r.left 0 z left.all_named (m.known z o))) in
    let even : is_uneven (head_symbol (scope_of p q) q.left) (arguments_of q.left) earlier ≡ false =
    ap₂ (λ o n. is_uneven o n earlier) headed (raw_count (names_in s) 0 r.left) ∙ even-passed f (argument_count r.left) earlier (agree f m.headed.1) in
    let n1 = and_tests (count_test 32 (map (λ m. m.name.at) q.metas)) (meta_tests (sort_names p) (fun_names p) [] q.metas) counted declarations in
    let n2 = and_tests (count_test 32 (map (λ m. m.name.at) q.metas) ++ meta_tests (sort_names p) (fun_names p) [] q.metas) (side_tests q.left) n1 left.fits in
    let n3 = and_tests (count_test 32 (map (λ m. m.name.at) q.metas) ++ meta_tests (sort_names p) (fun_names p) [] q.metas ++ side_tests q.left) (side_tests q.right) n2 right.fits in
    let n4 = and_tests (count_test 32 (map (λ m. m.name.at) q.metas) ++ meta_tests (sort_names p) (fun_names p) [] q.metas ++ side_tests q.left ++ side_tests q.right) (naming_tests (scope_of p q) [] q.left) n3 left_named in
    let n5 = and_tests (count_test 32 (map (λ m. m.name.at) q.metas) ++ meta_tests (sort_names p) (fun_names p) [] q.metas ++ side_tests q.left ++ side_tests q.right ++ naming_tests (scope_of p q) [] q.left) (naming_tests (scope_of p q) [] q.right) n4 right_named in
    and_tests (count_test 32 (map (λ m. m.name.at) q.metas) ++ meta_tests (sort_names p) (fun_names p) [] q.metas ++ side_tests q.left ++ side_tests q.right ++ naming_tests (scope_of p q) [] q.left ++ naming_tests (scope_of p q) [] q.right) _ n5
    (and_test _ _ (ap not one_type)
    (and_tests (open_tests q.left ++ open_tests q.right) _ (and_tests (open_tests q.left) (open_tests q.right) (raw_closed (names_in s) r.left 0 m.left_closed) (raw_closed (names_in s) r.right 0 m.right_closed))
    (and_test _ _ (ap (λ o. not (is_some o)) headed)
    (and_tests (pattern_tests (scope_of p q) [] q.left ++ new_meta_tests (scope_of p q) q.left [] q.right) _ (and_tests (pattern_tests (scope_of p q) [] q.left) (new_meta_tests (scope_of p q) q.left [] q.right) patterns known)
    (and_test _ [] even no_test)))))

-- all rules

-- what the law asks of rules whose meta-variables have these names
record AreReady (d : SystemData) (others : List (List (List ℕ))) (rs : List RewriteRule) : Type 0 where
  there : All (Contains d.rules) rs
  long : map length others ≡ map (λ r. length r.metas) rs
  few : All (λ r. length r.metas ≤ 32) rs
  declared : All (λ r. All (IsDeclarationOver d.symbols.sorts) r.metas) rs
  types : All (λ r. TypesWithin 32 r.left × TypesWithin 32 r.right) rs
  distinct : All AreDistinct others
  apart : All (λ names. AreApart names d.fun_names) others

ready : (d : SystemData) → IsWellMadeSystem d → AreReady d d.meta_names d.rules
ready d w = record {
  there = λ k e within. Contains-get_or d.rules k e within;
  long = w.metas_named;
  few = w.metas_within;
  declared = w.meta_types;
  types = w.side_types;
  distinct = w.meta_names_distinct;
  apart = w.metas_no_symbols;
}

ready-first : (d : SystemData) (metas : List (List ℕ)) (others : List (List (List ℕ))) (r : RewriteRule) (rs : List RewriteRule) → AreReady d (metas ∷ others) (r ∷ rs) → IsReady d metas r
ready-first d metas others r rs h = record {
  there = h.there 0 r (omega arith);
  long = let e = h.long in cc;
  few = h.few 0 r (omega arith);
  declared = h.declared 0 r (omega arith);
  types = h.types 0 r (omega arith);
  distinct = h.distinct 0 metas (omega arith);
  apart = h.apart 0 metas (omega arith);
}

ready-rest : (d : SystemData) (metas : List (List ℕ)) (others : List (List (List ℕ))) (r : RewriteRule) (rs : List RewriteRule) → AreReady d (metas ∷ others) (r ∷ rs) → AreReady d others rs
ready-rest d metas others r rs h = record {
  there = λ k e within. h.there (suc k) e (omega arith);
  long = let e = h.long in cc;
  few = λ k e within. h.few (suc k) e (omega arith);
  declared = λ k e within. h.declared (suc k) e (omega arith);
  types = λ k e within. h.types (suc k) e (omega arith);
  distinct = λ k e within. h.distinct (suc k) e (omega arith);
  apart = λ k e within. h.apart (suc k) e (omega arith);
}

-- a rule of the system with that head and that number of arguments
record IsKeyed (d : SystemData) (e : Option ℕ × ℕ) : Type 0 where
  rule : RewriteRule
  there : Contains d.rules rule
  symbol : ℕ
  is_head : e.0 ≡ Some symbol
  headed : head rule.left ≡ fun symbol
  counted : argument_count rule.left ≡ e.1

abbrev AllKeyed : SystemData → List (Option ℕ × ℕ) → Type 0
AllKeyed d [] = Unit {0}
AllKeyed d (e ∷ es) = IsKeyed d e × AllKeyed d es

keyed-agree : (d : SystemData) → IsWellMadeSystem d → (r : RewriteRule) → Contains d.rules r → (f : ℕ) → head r.left ≡ fun f → (es : List (Option ℕ × ℕ)) → AllKeyed d es → AllAgree f (argument_count r.left) es
keyed-agree d w r there f headed [] keyed = tt
keyed-agree d w r there f headed (e ∷ es) keyed =
    let k = keyed.0 in (
      λ same. let one : k.symbol ≡ f = some (sym k.is_head ∙ same) in
          w.rules.even r k.rule there k.there (headed ∙ ap fun (sym one) ∙ sym k.headed) ∙ k.counted,
      keyed-agree d w r there f headed es keyed.1,
    )
  where
    some : {a b : ℕ} → Some a ≡ Some b → a ≡ b
    some e = cc

rules-passed : (d : SystemData) → IsWellMadeSystem d → (others : List (List (List ℕ))) (rs : List RewriteRule) → AreReady d others rs → (earlier : List (Option ℕ × ℕ)) → AllKeyed d earlier
    → Passed (rules_tests (canonical d) earlier (raw_rules_of d others rs))
rules-passed d w [] [] h earlier keyed = no_test
rules-passed d w [] (r ∷ rs) h earlier keyed = no_test
rules-passed d w (metas ∷ others) [] h earlier keyed = no_test
rules-passed d w (metas ∷ others) (r ∷ rs) h earlier keyed =
    let here = ready-first d metas others r rs h in
    let m = w.rules.each r here.there in
    let q = raw_rule_of d metas r in
    let s = rule_scope d metas r in
    let left = side d w metas r here r.left m.typed.0 m.typed.1 m.left_fits here.types.0 in
    let key : IsKeyed d (head_symbol (scope_of (canonical d) q) q.left, arguments_of q.left) = record {
      rule = r;
      there = here.there;
      symbol = m.headed.0;
      is_head = ap (λ s. head_symbol s q.left) (scope-back d w metas r here) ∙ raw_head s (clear d w metas r here) r.left m.headed.0 left.all_named m.headed.1;
      headed = m.headed.1;
      counted = sym (raw_count (names_in s) 0 r.left);
    } in
    and_tests (rule_tests (canonical d) earlier q) _ (rule-passed d w metas r here earlier (λ f headed. keyed-agree d w r here.there f headed earlier keyed))
    (rules-passed d w others rs (ready-rest d metas others r rs h) _ (key, keyed))

rule-count : (d : SystemData) (others : List (List (List ℕ))) (rs : List RewriteRule) → AreReady d others rs → length (raw_rules_of d others rs) ≡ length rs
rule-count d [] [] h = refl
rule-count d [] (r ∷ rs) h = absurd (let e = h.long in cc)
rule-count d (metas ∷ others) [] h = absurd (let e = h.long in cc)
rule-count d (metas ∷ others) (r ∷ rs) h = ap (λ n. suc n) (rule-count d others rs (ready-rest d metas others r rs h))

-- no test of the canonical parts fails
pub canonical_passes : (d : SystemData) → IsWellMadeSystem d → refusal (canonical d) ≡ None
canonical_passes d w =
    let p = canonical d in
    let sort_count : length (map (λ s. s.at) p.sorts) ≤ 256 = subst (λ n. n ≤ 256) (sym (length-map p.sorts (λ s. s.at) ∙ length-map d.sort_names raw_name ∙ w.sorts_named)) w.sorts_within in
    let named = funs_named d.sort_names d.fun_names d.symbols.funs w.symbols_named in
    let fun_count : length (map (λ f. f.name.at) p.funs) ≤ 1024 =
    subst (λ n. n ≤ 1024) (sym (length-map p.funs (λ f. f.name.at) ∙ sym (length-map p.funs (λ f. f.name.name)) ∙ ap length named ∙ w.symbols_named)) w.symbols_within in
    let rule_count : length (map (λ r. r.at) p.rules) ≤ 1024 =
    subst (λ n. n ≤ 1024) (sym (length-map p.rules (λ r. r.at) ∙ rule-count d d.meta_names d.rules (ready d w))) w.rules_within in
    let over = subst (λ n. All (IsTypeOver n) d.symbols.funs) (sym w.sorts_named) w.symbol_types in
    let sorts : Passed (sorts_tests p) =
    and_tests (count_test 256 (map (λ s. s.at) p.sorts)) _ (and_test _ [] (few_passed 256 (map (λ s. s.at) p.sorts) sort_count) no_test) (names_passed [] d.sort_names w.sort_names_distinct) in
    let funs : Passed (funs_tests p) =
    and_tests (count_test 1024 (map (λ f. f.name.at) p.funs)) _ (and_test _ [] (few_passed 1024 (map (λ f. f.name.at) p.funs) fun_count) no_test)
    (subst (λ sorts. Passed (fun_tests sorts [] p.funs)) (sym (names-back d.sort_names)) (funs_passed d.sort_names [] d.fun_names d.symbols.funs w.sort_names_distinct w.fun_names_distinct w.symbols_named over)) in
    let rules : Passed (rules_tests p [] p.rules) = rules-passed d w d.meta_names d.rules (ready d w) [] tt in
    (and_tests (sorts_tests p ++ funs_tests p ++ count_test 1024 (map (λ r. r.at) p.rules)) (rules_tests p [] p.rules)
    (and_tests (sorts_tests p ++ funs_tests p) (count_test 1024 (map (λ r. r.at) p.rules)) (and_tests (sorts_tests p) (funs_tests p) sorts funs) (and_test _ [] (few_passed 1024 (map (λ r. r.at) p.rules) rule_count) no_test)) rules).none_fails

-- and they say the system

say-rules : (d : SystemData) → IsWellMadeSystem d → (others : List (List (List ℕ))) (rs : List RewriteRule) → AreReady d others rs → SayRules (canonical d) (raw_rules_of d others rs) rs
say-rules d w [] [] h = tt
say-rules d w [] (r ∷ rs) h = absurd (let e = h.long in cc)
say-rules d w (metas ∷ others) [] h = tt
say-rules d w (metas ∷ others) (r ∷ rs) h =
    let here = ready-first d metas others r rs h in
    let m = w.rules.each r here.there in
    let same = scope-back d w metas r here in
    let left = side d w metas r here r.left m.typed.0 m.typed.1 m.left_fits here.types.0 in
    let right = side d w metas r here r.right m.typed.0 m.typed.2 m.right_fits here.types.1 in (
      record {
        metas = sym (ap (λ s. s.declared) same);
        left = ap (λ s. meant s [] (raw_rule_of d metas r).left) same ∙ left.is_meant;
        right = ap (λ s. meant s [] (raw_rule_of d metas r).right) same ∙ right.is_meant;
      },
      say-rules d w others rs (ready-rest d metas others r rs h),
    )

meta-names-said : (d : SystemData) (others : List (List (List ℕ))) (rs : List RewriteRule) → AreReady d others rs → others ≡ map (λ r. map (λ m. m.name.name) r.metas) (raw_rules_of d others rs)
meta-names-said d [] [] h = refl
meta-names-said d [] (r ∷ rs) h = absurd (let e = h.long in cc)
meta-names-said d (metas ∷ others) [] h = absurd (let e = h.long in cc)
meta-names-said d (metas ∷ others) (r ∷ rs) h =
    ap₂ (λ n ns. n ∷ ns) (sym (metas_named_back d.sort_names metas r.metas (ready-first d metas others r rs h).long)) (meta-names-said d others rs (ready-rest d metas others r rs h))

pub canonical_says : (d : SystemData) → IsWellMadeSystem d → Says (canonical d) d
canonical_says d w = record {
  sort_names = sym (names-back d.sort_names);
  fun_names = sym (funs_named d.sort_names d.fun_names d.symbols.funs w.symbols_named);
  sorts = sym (length-map d.sort_names raw_name ∙ w.sorts_named);
  funs = λ r. sym (kinds-back d w);
  rules = say-rules d w d.meta_names d.rules (ready d w);
  meta_names = meta-names-said d d.meta_names d.rules (ready d w);
}
