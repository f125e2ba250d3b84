-- What all tests say of the system that parts say, and that it is one.
use Rattle.std.proofs.Common.{◌≡◌, ℕ, zero, suc, ◌≤◌, ◌⊎◌, inl, inr, false, not, ◌&&◌, List, [], ◌∷◌, ◌++◌, length, get_or, map, Option, Some, None, All, refl, ap, ap₂, sym, ◌∙◌, subst, arith, ltb-false, eq-eqb, eqb-true}
use Rattle.std.specs.Prelude.{◌==◌}
use Rattle.std.proofs.lemmas.List.{length-map}
use Rattle.std.proofs.lemmas.List.Elements.{All-nil, All-cons, All-head, All-tail, All-map, All-contains, All-weaker}
use Rattle.wh_types.specs.Ty.{Ty}
use Rattle.wh_terms.specs.Tree.{fun, head, argument_count}
use Rattle.wh_terms.specs.Typing.{Symbols}
use Rattle.wh_terms.specs.Rules.{RewriteRule, IsWellMade, IsEven, AreWellMade}
use Rattle.wh_text.specs.RawTree.{named}
use Rattle.wh_text.specs.Words.{IsName}
use Rattle.wh_system_parts.specs.Parts.{RRule, RParts}
use Rattle.wh_system_parts.specs.Tests.{count_test, sort_names, fun_names, names_tests, sorts_tests, fun_tests, funs_tests, width_of_term, arguments_of}
use Rattle.wh_system_parts.specs.RuleTests.{type_of_raw, declared_by, scope_of, head_symbol, is_uneven, rule_tests, rules_tests, tests, refusal}
use Rattle.wh_system_parts.proofs.OptionParts.{some_same}
use Rattle.wh_system.specs.Systems.{SystemData}
use Rattle.wh_system_making.specs.Says.{SaysRule, SayRules, Says}
use Rattle.wh_system.specs.Nesting.{TypesNestWithin, RawTypesNestWithin}
use Rattle.wh_system_making.specs.Proper.{AreProper}
use Rattle.wh_system.specs.WellMade.{TypesWithin, IsTypeOver, IsDeclarationOver, AreDistinct, AreApart, IsWellMadeSystem}
use Rattle.wh_system_making.proofs.PassedLaws.{Passed, passed_first, passed_parts, and_false, or_false, not_false, some_is}
use Rattle.wh_system_making.proofs.NameLaws.{names_distinct}
use Rattle.wh_system_making.proofs.StandsLaws.{stands}
use Rattle.wh_system_making.proofs.SizeMade.{count_made}
use Rattle.wh_system_making.proofs.SideMade.{head_made}
use Rattle.wh_system_making.proofs.NestingMade.{side_nests}
use Rattle.wh_system_making.proofs.TypeMade.{IsShallowMeta, funs_over, funs_distinct, metas_over, metas_distinct, metas_apart}
use Rattle.wh_system_making.proofs.WidthMade.{types_made}
use Rattle.wh_system_making.proofs.RuleMade.{RulePassed, rule_passed, rule_made}

-- the number of things
counted : (n : ℕ) (places : List ℕ) → Passed (count_test n places) → length places ≤ n
counted n places p = ltb-false n (length places) (passed_first p)

abbrev symbols : ℕ → List Ty → Symbols
symbols n funs = record { sorts = n; funs = funs }

-- the symbols that parts say
abbrev said : RParts → Symbols
said p = symbols (length (sort_names p)) (map (λ f. type_of_raw (sort_names p) f.kind) p.funs)

-- one rule

-- its types nest at most 16 deep
record IsShallow (r : RRule) : Type 0 where
  metas : All IsShallowMeta r.metas
  left : RawTypesNestWithin 16 r.left
  right : RawTypesNestWithin 16 r.right

are_shallow : (p : RParts) → AreProper p → All IsShallow p.rules
are_shallow p proper = λ k e within. record { metas = proper.meta_types k e within; left = (proper.side_types k e within).0; right = (proper.side_types k e within).1 }

record IsMade (p : RParts) (rule : RewriteRule) : Type 0 where
  well_made : IsWellMade (said p) rule
  few : length rule.metas ≤ 32
  types : TypesWithin 32 rule.left × TypesWithin 32 rule.right
  shallow : TypesNestWithin 16 rule.left × TypesNestWithin 16 rule.right
  declared : All (IsDeclarationOver (length (sort_names p))) rule.metas

is_made : (p : RParts) (earlier : List (Option ℕ × ℕ)) (r : RRule) (rule : RewriteRule) → IsShallow r → SaysRule p r rule → RulePassed p earlier r → IsMade p rule
is_made p earlier r rule shallow says h =
    let few : length (map (λ m. m.name.at) r.metas) ≤ 32 = counted 32 _ h.count in
    let long : length rule.metas ≡ length (map (λ m. m.name.at) r.metas) = ap length says.metas ∙ length-map r.metas _ ∙ sym (length-map r.metas _) in
    record {
      well_made = rule_made p earlier r rule says h;
      few = subst (λ n. n ≤ 32) (sym long) few;
      types = (
        types_made (scope_of p r) r.left [] rule.left says.left (passed_parts (width_of_term r.left) _ h.left_side).0,
        types_made (scope_of p r) r.right [] rule.right says.right (passed_parts (width_of_term r.right) _ h.right_side).0,
      );
      shallow = (side_nests 16 (scope_of p r) r.left [] rule.left says.left shallow.left, side_nests 16 (scope_of p r) r.right [] rule.right says.right shallow.right);
      declared = subst (All (IsDeclarationOver (length (sort_names p)))) (sym says.metas) (metas_over (sort_names p) (fun_names p) [] r.metas shallow.metas h.metas);
    }

abbrev key : RParts → RRule → Option ℕ × ℕ
key p r = (head_symbol (scope_of p r) r.left, arguments_of r.left)

-- what the tests of the rules know of an earlier one
record IsKeyed (rule : RewriteRule) (e : Option ℕ × ℕ) : Type 0 where
  symbol : ℕ
  is_head : e.0 ≡ Some symbol
  headed : head rule.left ≡ fun symbol
  counted : argument_count rule.left ≡ e.1

is_keyed : (p : RParts) (earlier : List (Option ℕ × ℕ)) (r : RRule) (rule : RewriteRule) → SaysRule p r rule → RulePassed p earlier r → IsKeyed rule (key p r)
is_keyed p earlier r rule says h =
    let left = stands (scope_of p r) [] r.left rule.left says.left in
    let f = some_is (head_symbol (scope_of p r) r.left) h.headed in
    record { symbol = f.0; is_head = f.1; headed = head_made f.0 left f.1; counted = count_made left }

-- all rules

each_made : (p : RParts) (earlier : List (Option ℕ × ℕ)) (rs : List RRule) (us : List RewriteRule) → All IsShallow rs → SayRules p rs us → Passed (rules_tests p earlier rs)
    → All (IsMade p) us
each_made p earlier [] [] shallow say h = All-nil (IsMade p)
each_made p earlier [] (u ∷ us) shallow say h = absurd say
each_made p earlier (r ∷ rs) [] shallow say h = absurd say
each_made p earlier (r ∷ rs) (u ∷ us) shallow say h =
    let parts = passed_parts (rule_tests p earlier r) (rules_tests p (key p r ∷ earlier) rs) h in
    All-cons (IsMade p) u us (is_made p earlier r u (All-head IsShallow r rs shallow) say.0 (rule_passed p earlier r parts.0))
    (each_made p (key p r ∷ earlier) rs us (All-tail IsShallow r rs shallow) say.1 parts.1)

said_length : (p : RParts) (rs : List RRule) (us : List RewriteRule) → SayRules p rs us → length us ≡ length rs
said_length p [] [] say = refl
said_length p [] (u ∷ us) say = absurd say
said_length p (r ∷ rs) [] say = absurd say
said_length p (r ∷ rs) (u ∷ us) say = ap (λ n. suc n) (said_length p rs us say.1)

abbrev meta_names_of : RRule → List (List ℕ)
meta_names_of r = map (λ m. m.name.name) r.metas

metas_named : (p : RParts) (rs : List RRule) (us : List RewriteRule) → SayRules p rs us → map length (map meta_names_of rs) ≡ map (λ r. length r.metas) us
metas_named p [] [] say = refl
metas_named p [] (u ∷ us) say = absurd say
metas_named p (r ∷ rs) [] say = absurd say
metas_named p (r ∷ rs) (u ∷ us) say =
    ap₂ (λ n ns. n ∷ ns) (length-map r.metas _ ∙ sym (length-map r.metas (declared_by (sort_names p))) ∙ ap length (sym say.0.metas)) (metas_named p rs us say.1)

-- a list of no names, or of names none of which is another
none_twice : AreDistinct []
none_twice i j d l m = absurd (omega arith)

all_distinct : (p : RParts) (earlier : List (Option ℕ × ℕ)) (rs : List RRule) → Passed (rules_tests p earlier rs) → All AreDistinct (map meta_names_of rs)
all_distinct p earlier [] h = All-nil AreDistinct
all_distinct p earlier (r ∷ rs) h =
    let parts = passed_parts (rule_tests p earlier r) (rules_tests p (key p r ∷ earlier) rs) h in
    All-cons AreDistinct (meta_names_of r) (map meta_names_of rs) (metas_distinct (sort_names p) (fun_names p) [] r.metas none_twice (rule_passed p earlier r parts.0).metas)
    (all_distinct p (key p r ∷ earlier) rs parts.1)

all_apart : (p : RParts) (earlier : List (Option ℕ × ℕ)) (rs : List RRule) → Passed (rules_tests p earlier rs) → All (λ names. AreApart names (fun_names p)) (map meta_names_of rs)
all_apart p earlier [] h = All-nil (λ names. AreApart names (fun_names p))
all_apart p earlier (r ∷ rs) h =
    let parts = passed_parts (rule_tests p earlier r) (rules_tests p (key p r ∷ earlier) rs) h in
    All-cons (λ names. AreApart names (fun_names p)) (meta_names_of r) (map meta_names_of rs) (metas_apart (sort_names p) (fun_names p) [] r.metas (rule_passed p earlier r parts.0).metas)
    (all_apart p (key p r ∷ earlier) rs parts.1)

-- rules of one symbol have one number of arguments

abbrev Among : Option ℕ × ℕ → List (Option ℕ × ℕ) → Type 0
Among e [] = ⊥
Among e (x ∷ xs) = (x ≡ e) ⊎ Among e xs

same_count : (f n m : ℕ) (earlier : List (Option ℕ × ℕ)) → is_uneven (Some f) n earlier ≡ false → Among (Some f, m) earlier → n ≡ m
same_count f n m [] h among = absurd among
same_count f n m (x ∷ earlier) h (inl same) =
    let at : is_uneven (Some f) n ((Some f, m) ∷ earlier) ≡ false = subst (λ x. is_uneven (Some f) n (x ∷ earlier) ≡ false) same h in
    eqb-true n m (not_false _ (and_false (f == f) (not (n == m)) (or_false ((f == f) && not (n == m)) (is_uneven (Some f) n earlier) at).0 (eq-eqb f f refl)))
same_count f n m (x ∷ earlier) h (inr there) = same_count f n m earlier (or_false _ (is_uneven (Some f) n earlier) h).1 there

abbrev IsEvenWith : RewriteRule → RewriteRule → Type 0
IsEvenWith u v = head u.left ≡ head v.left → argument_count u.left ≡ argument_count v.left

even_with : (p : RParts) (earlier : List (Option ℕ × ℕ)) (u : RewriteRule) (e : Option ℕ × ℕ) (r : RRule) (v : RewriteRule) → IsKeyed u e → Among e earlier → SaysRule p r v
    → RulePassed p earlier r → IsEvenWith u v
even_with p earlier u e r v keyed among say h same_head =
    let k = is_keyed p earlier r v say h in
    let heads : fun keyed.symbol ≡ fun k.symbol = sym keyed.headed ∙ same_head ∙ k.headed in
    let one : keyed.symbol ≡ k.symbol = cc in
    let even : is_uneven (Some k.symbol) (arguments_of r.left) earlier ≡ false = subst (λ o. is_uneven o (arguments_of r.left) earlier ≡ false) k.is_head h.even in
    let there : Among (Some k.symbol, e.1) earlier = subst (λ o. Among (o, e.1) earlier) (keyed.is_head ∙ ap (λ f. Some f) one) among in
    keyed.counted ∙ sym (same_count k.symbol (arguments_of r.left) e.1 earlier even there) ∙ sym k.counted

even_later : (p : RParts) (earlier : List (Option ℕ × ℕ)) (u : RewriteRule) (e : Option ℕ × ℕ) (rs : List RRule) (us : List RewriteRule) → IsKeyed u e → Among e earlier → SayRules p rs us
    → Passed (rules_tests p earlier rs) → All (IsEvenWith u) us
even_later p earlier u e [] [] keyed among say h = All-nil (IsEvenWith u)
even_later p earlier u e [] (v ∷ us) keyed among say h = absurd say
even_later p earlier u e (r ∷ rs) [] keyed among say h = absurd say
even_later p earlier u e (r ∷ rs) (v ∷ us) keyed among say h =
    let parts = passed_parts (rule_tests p earlier r) (rules_tests p (key p r ∷ earlier) rs) h in
    All-cons (IsEvenWith u) v us (even_with p earlier u e r v keyed among say.0 (rule_passed p earlier r parts.0))
    (even_later p (key p r ∷ earlier) u e rs us keyed (inr among) say.1 parts.1)

abbrev Evens : List RewriteRule → Type 0
Evens [] = Unit {0}
Evens (u ∷ us) = All (IsEvenWith u) us × Evens us

all_even : (p : RParts) (earlier : List (Option ℕ × ℕ)) (rs : List RRule) (us : List RewriteRule) → SayRules p rs us → Passed (rules_tests p earlier rs) → Evens us
all_even p earlier [] [] say h = tt
all_even p earlier [] (v ∷ us) say h = absurd say
all_even p earlier (r ∷ rs) [] say h = absurd say
all_even p earlier (r ∷ rs) (u ∷ us) say h =
    let parts = passed_parts (rule_tests p earlier r) (rules_tests p (key p r ∷ earlier) rs) h in (
      even_later p (key p r ∷ earlier) u (key p r) rs us (is_keyed p earlier r u say.0 (rule_passed p earlier r parts.0)) (inl refl) say.1 parts.1,
      all_even p (key p r ∷ earlier) rs us say.1 parts.1,
    )

even_of : (us : List RewriteRule) → Evens us → IsEven us
even_of [] even r s (k, within, e) there same = absurd (omega arith)
even_of (u ∷ us) even r s (zero, k, e) (zero, l, f) same = ap (λ r. argument_count r.left) (sym e ∙ f)
even_of (u ∷ us) even r s (zero, k, e) (suc n, l, f) same =
    subst (λ r. IsEvenWith r s) e (All-contains (IsEvenWith u) us s even.0 (n, omega arith, f)) same
even_of (u ∷ us) even r s (suc n, k, e) (zero, l, f) same =
    sym (subst (λ s. IsEvenWith s r) f (All-contains (IsEvenWith u) us r even.0 (n, omega arith, e)) (sym same))
even_of (u ∷ us) even r s (suc n, k, e) (suc m, l, f) same = even_of us even.1 r s (n, omega arith, e) (m, omega arith, f) same

-- the whole system

any_rule : RRule
any_rule = record { metas = []; left = named [] 0; right = named [] 0; at = 0 }

symbols_said : (p : RParts) (s : SystemData) → Says p s → said p ≡ s.symbols
symbols_said p s says = sym (ap₂ symbols (says.sorts ∙ sym (length-map p.sorts _)) (says.funs any_rule))

-- the tests, by groups
record AllPassed (p : RParts) : Type 0 where
  sort_count : Passed (count_test 256 (map (λ s. s.at) p.sorts))
  sort_distinct : Passed (names_tests [] [] p.sorts)
  fun_count : Passed (count_test 1024 (map (λ f. f.name.at) p.funs))
  funs : Passed (fun_tests (sort_names p) [] p.funs)
  rule_count : Passed (count_test 1024 (map (λ r. r.at) p.rules))
  rules : Passed (rules_tests p [] p.rules)

all_passed : (p : RParts) → refusal p ≡ None → AllPassed p
all_passed p none =
    let all : Passed (tests p) = record { none_fails = none } in
    let c = passed_parts (sorts_tests p ++ funs_tests p ++ count_test 1024 (map (λ r. r.at) p.rules)) (rules_tests p [] p.rules) all in
    let b = passed_parts (sorts_tests p ++ funs_tests p) (count_test 1024 (map (λ r. r.at) p.rules)) c.0 in
    let a = passed_parts (sorts_tests p) (funs_tests p) b.0 in
    let d = passed_parts (count_test 256 (map (λ s. s.at) p.sorts)) (names_tests [] [] p.sorts) a.0 in
    let e = passed_parts (count_test 1024 (map (λ f. f.name.at) p.funs)) (fun_tests (sort_names p) [] p.funs) a.1 in
    record { sort_count = d.0; sort_distinct = d.1; fun_count = e.0; funs = e.1; rule_count = b.1; rules = c.1 }

pub system_made : (p : RParts) (s : SystemData) → AreProper p → refusal p ≡ None → Says p s → IsWellMadeSystem s
system_made p s proper none says =
    let h = all_passed p none in
    let each = each_made p [] p.rules s.rules (are_shallow p proper) says.rules h.rules in
    let S = symbols_said p s says in
    let sorts : length (sort_names p) ≡ s.symbols.sorts = ap (λ S. S.sorts) S in
    record {
      rules = subst (λ S. AreWellMade S s.rules) S (record {
        each = λ r there. (All-contains (IsMade p) s.rules r each there).well_made;
        even = even_of s.rules (all_even p [] p.rules s.rules says.rules h.rules);
      });
      sorts_within = subst (λ n. n ≤ 256) (length-map p.sorts _ ∙ sym says.sorts) (counted 256 _ h.sort_count);
      symbols_within = subst (λ n. n ≤ 1024) (length-map p.funs _ ∙ sym (length-map p.funs _) ∙ ap (λ S. length S.funs) S) (counted 1024 _ h.fun_count);
      rules_within = subst (λ n. n ≤ 1024) (length-map p.rules _ ∙ sym (said_length p p.rules s.rules says.rules)) (counted 1024 _ h.rule_count);
      metas_within = All-weaker (IsMade p) (λ r. length r.metas ≤ 32) (λ r m. m.few) s.rules each;
      symbol_types = subst (λ S. All (IsTypeOver S.sorts) S.funs) S (funs_over (sort_names p) [] p.funs proper.fun_types h.funs);
      meta_types = subst (λ n. All (λ r. All (IsDeclarationOver n) r.metas) s.rules) sorts (All-weaker (IsMade p) (λ r. All (IsDeclarationOver (length (sort_names p))) r.metas) (λ r m. m.declared) s.rules each);
      side_types = All-weaker (IsMade p) (λ r. TypesWithin 32 r.left × TypesWithin 32 r.right) (λ r m. m.types) s.rules each;
      side_types_shallow = All-weaker (IsMade p) (λ r. TypesNestWithin 16 r.left × TypesNestWithin 16 r.right) (λ r m. m.shallow) s.rules each;
      sorts_named = ap length says.sort_names ∙ length-map p.sorts _ ∙ sym says.sorts;
      symbols_named = ap length says.fun_names ∙ length-map p.funs _ ∙ sym (length-map p.funs _) ∙ ap (λ S. length S.funs) S;
      metas_named = ap (map length) says.meta_names ∙ metas_named p p.rules s.rules says.rules;
      sort_names_spelled = subst (All IsName) (sym says.sort_names) (All-map IsName (λ n. n.name) p.sorts proper.sorts);
      fun_names_spelled = subst (All IsName) (sym says.fun_names) (All-map IsName (λ f. f.name.name) p.funs proper.funs);
      meta_names_spelled = subst (All (All IsName)) (sym says.meta_names)
          (All-map (All IsName) meta_names_of p.rules (λ k e within. All-map IsName (λ m. m.name.name) (get_or p.rules k e).metas (proper.metas k e within)));
      sort_names_distinct = subst AreDistinct (sym says.sort_names) (names_distinct [] [] p.sorts none_twice h.sort_distinct);
      fun_names_distinct = subst AreDistinct (sym says.fun_names) (funs_distinct (sort_names p) [] p.funs none_twice h.funs);
      meta_names_distinct = subst (All AreDistinct) (sym says.meta_names) (all_distinct p [] p.rules h.rules);
      metas_no_symbols =
          subst (λ names. All (λ xs. AreApart xs names) s.meta_names) (sym says.fun_names) (subst (All (λ xs. AreApart xs (fun_names p))) (sym says.meta_names) (all_apart p [] p.rules h.rules));
    }

-- one system at most

one_rule : (p : RParts) (r : RRule) (u v : RewriteRule) → SaysRule p r u → SaysRule p r v → u ≡ v
one_rule p r u v a b =
    let metas : u.metas ≡ v.metas = a.metas ∙ sym b.metas in
    let left : u.left ≡ v.left = some_same (sym a.left ∙ b.left) in
    let right : u.right ≡ v.right = some_same (sym a.right ∙ b.right) in
    λ i. record { metas = metas i; left = left i; right = right i }

one_rules : (p : RParts) (rs : List RRule) (us vs : List RewriteRule) → SayRules p rs us → SayRules p rs vs → us ≡ vs
one_rules p [] [] [] a b = refl
one_rules p [] [] (v ∷ vs) a b = absurd b
one_rules p [] (u ∷ us) vs a b = absurd a
one_rules p (r ∷ rs) [] vs a b = absurd a
one_rules p (r ∷ rs) (u ∷ us) [] a b = absurd b
one_rules p (r ∷ rs) (u ∷ us) (v ∷ vs) a b = ap₂ (λ x xs. x ∷ xs) (one_rule p r u v a.0 b.0) (one_rules p rs us vs a.1 b.1)

pub one_system : (p : RParts) (s t : SystemData) → Says p s → Says p t → s ≡ t
one_system p s t a b =
    let sort_names : s.sort_names ≡ t.sort_names = a.sort_names ∙ sym b.sort_names in
    let fun_names : s.fun_names ≡ t.fun_names = a.fun_names ∙ sym b.fun_names in
    let S : s.symbols ≡ t.symbols = sym (symbols_said p s a) ∙ symbols_said p t b in
    let rules : s.rules ≡ t.rules = one_rules p p.rules s.rules t.rules a.rules b.rules in
    let meta_names : s.meta_names ≡ t.meta_names = a.meta_names ∙ sym b.meta_names in
    λ i. record { sort_names = sort_names i; fun_names = fun_names i; symbols = S i; rules = rules i; meta_names = meta_names i }
