-- Places matter neither to whether parts have a fault nor to what they say.
use Rattle.std.proofs.Common.{◌≡◌, ℕ, not, List, [], ◌∷◌, ◌++◌, length, map, Option, None, is_some, refl, ap, ap₂, sym, ◌∙◌, subst}
use Rattle.std.specs.Prelude.{nat_lt}
use Rattle.std.proofs.lemmas.List.{length-map}
use Rattle.wh_types.specs.Ty.{Ty}
use Rattle.wh_terms.specs.Typing.{Declared}
use Rattle.wh_terms.specs.Rules.{RewriteRule}
use Rattle.wh_system_parts.specs.Parts.{RName, RFun, RMeta, RRule, RParts}
use Rattle.wh_system_parts.specs.Naming.{Scope, meant}
use Rattle.wh_system_parts.specs.Kinds.{kind_of}
use Rattle.wh_system_parts.specs.Tests.{count_test, sort_names, fun_names, arguments_of, names_tests, sorts_tests, fun_tests, funs_tests, meta_tests, naming_tests}
use Rattle.wh_system_parts.specs.RuleTests.{type_of_raw, declared_by, scope_of, same_kind, head_symbol, pattern_tests, new_meta_tests, is_uneven, rule_tests, rules_tests, tests, refusal}
use Rattle.wh_system.specs.Systems.{SystemData}
use Rattle.wh_system_making.specs.Says.{SayRules, Says}
use Rattle.wh_system_making.specs.Unplaced.{unplaced_term, unplaced_name, unplaced_fun, unplaced_meta, unplaced_rule, unplaced}
use Rattle.wh_system_making.proofs.PassedLaws.{Passed}
use Rattle.wh_system_making.proofs.UnplacedTerms.{Alike, alike, alike_next, alike_parts, alike_passed, count_unplaced, type_tests_unplaced, types_tests_unplaced, raw_type_unplaced, raw_types_unplaced, meant_unplaced, kind_unplaced, arguments_unplaced, side_unplaced, naming_unplaced, open_unplaced, head_unplaced, pattern_unplaced, known_unplaced}

-- one list, seen in two ways
pub map_twice : {A B C : Type 0} (f : A → B) (g : B → C) (h : A → C) → ((x : A) → g (f x) ≡ h x) → (xs : List A) → map g (map f xs) ≡ map h xs
map_twice f g h same [] = refl
map_twice f g h same (x ∷ xs) = ap₂ (λ y ys. y ∷ ys) (same x) (map_twice f g h same xs)

count_alike : (n : ℕ) (places others : List ℕ) → length places ≡ length others → Alike (count_test n places) (count_test n others)
count_alike n places others long = alike_next (ap (nat_lt n) long) (alike [])

mapped-long : {A : Type 0} (f : A → A) (at : A → ℕ) (xs : List A) → length (map at (map f xs)) ≡ length (map at xs)
mapped-long f at xs = length-map (map f xs) at ∙ length-map xs f ∙ sym (length-map xs at)

names_alike : (before : List (List ℕ)) (ns : List RName) → Alike (names_tests [] before (map unplaced_name ns)) (names_tests [] before ns)
names_alike before [] = alike []
names_alike before (n ∷ ns) = alike_next refl (names_alike (before ++ n.name ∷ []) ns)

funs_alike : (sorts before : List (List ℕ)) (fs : List RFun) → Alike (fun_tests sorts before (map unplaced_fun fs)) (fun_tests sorts before fs)
funs_alike sorts before [] = alike []
funs_alike sorts before (f ∷ fs) = alike_next refl (alike_parts (type_tests_unplaced sorts f.kind) (funs_alike sorts (before ++ f.name.name ∷ []) fs))

metas_alike : (sorts funs before : List (List ℕ)) (ms : List RMeta) → Alike (meta_tests sorts funs before (map unplaced_meta ms)) (meta_tests sorts funs before ms)
metas_alike sorts funs before [] = alike []
metas_alike sorts funs before (m ∷ ms) =
    alike_next refl (alike_parts (alike_parts (alike_parts (count_unplaced m.args 0) (types_tests_unplaced sorts m.args)) (type_tests_unplaced sorts m.out)) (metas_alike sorts funs (before ++ m.name.name ∷ []) ms))

-- what names stand for

sort-names-same : (p : RParts) → sort_names (unplaced p) ≡ sort_names p
sort-names-same p = map_twice unplaced_name (λ s. s.name) (λ s. s.name) (λ s. refl) p.sorts

fun-names-same : (p : RParts) → fun_names (unplaced p) ≡ fun_names p
fun-names-same p = map_twice unplaced_fun (λ f. f.name.name) (λ f. f.name.name) (λ f. refl) p.funs

abbrev scope : List (List ℕ) → List (List ℕ) → List Ty → List (List ℕ) → List Declared → Scope
scope sorts funs kinds metas declared = record { sorts = sorts; funs = funs; kinds = kinds; metas = metas; declared = declared }

scope-same : (p : RParts) (r : RRule) → scope_of (unplaced p) (unplaced_rule r) ≡ scope_of p r
scope-same p r =
    let sorts = sort-names-same p in
    let kinds : map (λ f. type_of_raw (sort_names (unplaced p)) f.kind) (map unplaced_fun p.funs) ≡ map (λ f. type_of_raw (sort_names p) f.kind) p.funs =
    ap (λ names. map (λ f. type_of_raw names f.kind) (map unplaced_fun p.funs)) sorts
    ∙ map_twice unplaced_fun (λ f. type_of_raw (sort_names p) f.kind) (λ f. type_of_raw (sort_names p) f.kind) (λ f. raw_type_unplaced (sort_names p) f.kind) p.funs in
    let metas = map_twice unplaced_meta (λ m. m.name.name) (λ m. m.name.name) (λ m. refl) r.metas in
    let declared : map (declared_by (sort_names (unplaced p))) (map unplaced_meta r.metas) ≡ map (declared_by (sort_names p)) r.metas =
    ap (λ names. map (declared_by names) (map unplaced_meta r.metas)) sorts ∙ map_twice unplaced_meta (declared_by (sort_names p)) (declared_by (sort_names p)) (declared-same (sort_names p)) r.metas in
    λ i. scope (sorts i) (fun-names-same p i) (kinds i) (metas i) (declared i)
  where
    declaration : List Ty → Ty → Declared
    declaration args out = record { args = args; out = out }

    declared-same : (sorts : List (List ℕ)) (m : RMeta) → declared_by sorts (unplaced_meta m) ≡ declared_by sorts m
    declared-same sorts m = λ i. declaration (raw_types_unplaced sorts m.args i) (raw_type_unplaced sorts m.out i)

-- the tests of a rule

rule-alike : (p : RParts) (earlier : List (Option ℕ × ℕ)) (r : RRule) → Alike (rule_tests (unplaced p) earlier (unplaced_rule r)) (rule_tests p earlier r)
rule-alike p earlier r =
    let q = unplaced_rule r in
    let s = scope_of p r in
    let same = scope-same p r in
    let declarations : Alike (meta_tests (sort_names (unplaced p)) (fun_names (unplaced p)) [] q.metas) (meta_tests (sort_names p) (fun_names p) [] r.metas) =
    subst (λ sorts. Alike (meta_tests sorts (fun_names (unplaced p)) [] q.metas) (meta_tests (sort_names p) (fun_names p) [] r.metas)) (sym (sort-names-same p))
    (subst (λ funs. Alike (meta_tests (sort_names p) funs [] q.metas) (meta_tests (sort_names p) (fun_names p) [] r.metas)) (sym (fun-names-same p)) (metas_alike (sort_names p) (fun_names p) [] r.metas)) in
    let left_named : Alike (naming_tests (scope_of (unplaced p) q) [] q.left) (naming_tests s [] r.left) =
    subst (λ s'. Alike (naming_tests s' [] q.left) (naming_tests s [] r.left)) (sym same) (naming_unplaced s r.left []) in
    let right_named : Alike (naming_tests (scope_of (unplaced p) q) [] q.right) (naming_tests s [] r.right) =
    subst (λ s'. Alike (naming_tests s' [] q.right) (naming_tests s [] r.right)) (sym same) (naming_unplaced s r.right []) in
    let kinds : same_kind (kind_of (scope_of (unplaced p) q) [] q.left) (kind_of (scope_of (unplaced p) q) [] q.right) ≡ same_kind (kind_of s [] r.left) (kind_of s [] r.right) =
    ap₂ same_kind (ap (λ s. kind_of s [] q.left) same ∙ kind_unplaced s r.left []) (ap (λ s. kind_of s [] q.right) same ∙ kind_unplaced s r.right []) in
    let headed : head_symbol (scope_of (unplaced p) q) q.left ≡ head_symbol s r.left = ap (λ s. head_symbol s q.left) same ∙ head_unplaced s r.left in
    let patterns : Alike (pattern_tests (scope_of (unplaced p) q) [] q.left) (pattern_tests s [] r.left) =
    subst (λ s'. Alike (pattern_tests s' [] q.left) (pattern_tests s [] r.left)) (sym same) (pattern_unplaced s r.left []) in
    let known : Alike (new_meta_tests (scope_of (unplaced p) q) q.left [] q.right) (new_meta_tests s r.left [] r.right) =
    subst (λ s'. Alike (new_meta_tests s' q.left [] q.right) (new_meta_tests s r.left [] r.right)) (sym same) (known_unplaced s r.left r.right []) in
    alike_parts
    (alike_parts (alike_parts (alike_parts (alike_parts (alike_parts (count_alike 32 _ _ (mapped-long unplaced_meta (λ m. m.name.at) r.metas)) declarations) (side_unplaced r.left)) (side_unplaced r.right)) left_named) right_named)
    (alike_next (ap not kinds)
    (alike_parts (alike_parts (open_unplaced r.left) (open_unplaced r.right))
    (alike_next (ap (λ o. not (is_some o)) headed)
    (alike_parts (alike_parts patterns known) (alike_next (ap₂ (λ o n. is_uneven o n earlier) headed (arguments_unplaced r.left)) (alike []))))))

rules-alike : (p : RParts) (earlier : List (Option ℕ × ℕ)) (rs : List RRule) → Alike (rules_tests (unplaced p) earlier (map unplaced_rule rs)) (rules_tests p earlier rs)
rules-alike p earlier [] = alike []
rules-alike p earlier (r ∷ rs) =
    let headed : head_symbol (scope_of (unplaced p) (unplaced_rule r)) (unplaced_term r.left) ≡ head_symbol (scope_of p r) r.left =
    ap (λ s. head_symbol s (unplaced_term r.left)) (scope-same p r) ∙ head_unplaced (scope_of p r) r.left in
    let there : Alike (rules_tests (unplaced p) ((head_symbol (scope_of (unplaced p) (unplaced_rule r)) (unplaced_term r.left), arguments_of (unplaced_term r.left)) ∷ earlier) (map unplaced_rule rs)) (rules_tests p ((head_symbol (scope_of p r) r.left, arguments_of r.left) ∷ earlier) rs) =
    subst (λ o. Alike (rules_tests (unplaced p) ((o, arguments_of (unplaced_term r.left)) ∷ earlier) (map unplaced_rule rs)) (rules_tests p ((head_symbol (scope_of p r) r.left, arguments_of r.left) ∷ earlier) rs)) (sym headed)
    (subst (λ n. Alike (rules_tests (unplaced p) ((head_symbol (scope_of p r) r.left, n) ∷ earlier) (map unplaced_rule rs)) (rules_tests p ((head_symbol (scope_of p r) r.left, arguments_of r.left) ∷ earlier) rs)) (sym (arguments_unplaced r.left))
    (rules-alike p ((head_symbol (scope_of p r) r.left, arguments_of r.left) ∷ earlier) rs)) in
    alike_parts (rule-alike p earlier r) there

tests-alike : (p : RParts) → Alike (tests (unplaced p)) (tests p)
tests-alike p =
    let sorts : Alike (sorts_tests (unplaced p)) (sorts_tests p) = alike_parts (count_alike 256 _ _ (mapped-long unplaced_name (λ s. s.at) p.sorts)) (names_alike [] p.sorts) in
    let funs : Alike (funs_tests (unplaced p)) (funs_tests p) =
    alike_parts (count_alike 1024 _ _ (mapped-long unplaced_fun (λ f. f.name.at) p.funs))
    (subst (λ names. Alike (fun_tests names [] (map unplaced_fun p.funs)) (fun_tests (sort_names p) [] p.funs)) (sym (sort-names-same p)) (funs_alike (sort_names p) [] p.funs)) in
    alike_parts (alike_parts (alike_parts sorts funs) (count_alike 1024 _ _ (mapped-long unplaced_rule (λ r. r.at) p.rules))) (rules-alike p [] p.rules)

-- parts that are the same but for their places have no fault together
pub places_pass : (p q : RParts) → unplaced p ≡ unplaced q → refusal p ≡ None → refusal q ≡ None
places_pass p q same none =
    let bare : Passed (tests (unplaced p)) = alike_passed (tests p) (tests (unplaced p)) (record { same = sym (tests-alike p).same }) (record { none_fails = none }) in
    (alike_passed (tests (unplaced q)) (tests q) (tests-alike q) (subst (λ u. Passed (tests u)) same bare)).none_fails

-- and say the same

say-unplaced : (p : RParts) (rs : List RRule) (us : List RewriteRule) → SayRules p rs us → SayRules (unplaced p) (map unplaced_rule rs) us
say-unplaced p [] [] say = tt
say-unplaced p [] (u ∷ us) say = absurd say
say-unplaced p (r ∷ rs) [] say = absurd say
say-unplaced p (r ∷ rs) (u ∷ us) say =
    let same = scope-same p r in (
      record {
        metas = say.0.metas ∙ sym (ap (λ s. s.declared) same);
        left = ap (λ s. meant s [] (unplaced_term r.left)) same ∙ meant_unplaced (scope_of p r) r.left [] ∙ say.0.left;
        right = ap (λ s. meant s [] (unplaced_term r.right)) same ∙ meant_unplaced (scope_of p r) r.right [] ∙ say.0.right;
      },
      say-unplaced p rs us say.1,
    )

say-placed : (p : RParts) (rs : List RRule) (us : List RewriteRule) → SayRules (unplaced p) (map unplaced_rule rs) us → SayRules p rs us
say-placed p [] [] say = tt
say-placed p [] (u ∷ us) say = absurd say
say-placed p (r ∷ rs) [] say = absurd say
say-placed p (r ∷ rs) (u ∷ us) say =
    let same = scope-same p r in (
      record {
        metas = say.0.metas ∙ ap (λ s. s.declared) same;
        left = sym (ap (λ s. meant s [] (unplaced_term r.left)) same ∙ meant_unplaced (scope_of p r) r.left []) ∙ say.0.left;
        right = sym (ap (λ s. meant s [] (unplaced_term r.right)) same ∙ meant_unplaced (scope_of p r) r.right []) ∙ say.0.right;
      },
      say-placed p rs us say.1,
    )

meta-names-same : (rs : List RRule) → map (λ r. map (λ m. m.name.name) r.metas) (map unplaced_rule rs) ≡ map (λ r. map (λ m. m.name.name) r.metas) rs
meta-names-same rs = map_twice unplaced_rule (λ r. map (λ m. m.name.name) r.metas) (λ r. map (λ m. m.name.name) r.metas) (λ r. map_twice unplaced_meta (λ m. m.name.name) (λ m. m.name.name) (λ m. refl) r.metas) rs

unplaced-says : (p : RParts) (d : SystemData) → Says p d → Says (unplaced p) d
unplaced-says p d says = record {
  sort_names = says.sort_names ∙ sym (sort-names-same p);
  fun_names = says.fun_names ∙ sym (fun-names-same p);
  sorts = says.sorts ∙ sym (length-map p.sorts unplaced_name);
  funs = λ r. says.funs r ∙ sym (ap (λ s. s.kinds) (scope-same p r));
  rules = say-unplaced p p.rules d.rules says.rules;
  meta_names = says.meta_names ∙ sym (meta-names-same p.rules);
}

placed-says : (p : RParts) (d : SystemData) → Says (unplaced p) d → Says p d
placed-says p d says = record {
  sort_names = says.sort_names ∙ sort-names-same p;
  fun_names = says.fun_names ∙ fun-names-same p;
  sorts = says.sorts ∙ length-map p.sorts unplaced_name;
  funs = λ r. says.funs r ∙ ap (λ s. s.kinds) (scope-same p r);
  rules = say-placed p p.rules d.rules says.rules;
  meta_names = says.meta_names ∙ meta-names-same p.rules;
}

pub places_say : (p q : RParts) (d : SystemData) → unplaced p ≡ unplaced q → Says p d → Says q d
places_say p q d same says = placed-says q d (subst (λ u. Says u d) same (unplaced-says p d says))
