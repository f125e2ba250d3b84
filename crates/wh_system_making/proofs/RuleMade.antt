-- A rule whose tests all pass is well made.
use Rattle.std.proofs.Common.{◌≡◌, ℕ, ◌≤◌, true, false, List, [], ◌++◌, map, Option, Some, is_some, refl, ap₂, sym, ◌∙◌, subst, subst₂, le_trans, ltb-false}
use Rattle.std.proofs.lemmas.List.{length-map}
use Rattle.wh_types.specs.Ty.{Ty}
use Rattle.wh_terms.specs.Tree.{Tm}
use Rattle.wh_terms.specs.Measures.{Fits}
use Rattle.wh_terms.specs.Typing.{Typed}
use Rattle.wh_terms.specs.Rules.{RewriteRule, IsWellMade}
use Rattle.wh_terms.proofs.TypeTests.{same_ty-equal}
use Rattle.wh_text.specs.RawTree.{RTm}
use Rattle.wh_system_parts.specs.Parts.{RRule, RParts}
use Rattle.wh_system_parts.specs.Naming.{Scope, meant}
use Rattle.wh_system_parts.specs.Kinds.{kind_of}
use Rattle.wh_system_parts.specs.Tests.{count_test, sort_names, fun_names, meta_tests, width_of_term, raw_height, raw_size, side_tests, naming_tests, arguments_of}
use Rattle.wh_system_parts.specs.RuleTests.{scope_of, same_kind, open_tests, head_symbol, pattern_tests, new_meta_tests, is_uneven, rule_tests}
use Rattle.wh_system_parts.proofs.OptionParts.{some_same}
use Rattle.wh_system_making.specs.Says.{SaysRule}
use Rattle.wh_system_making.proofs.PassedLaws.{Passed, passed_first, passed_rest, passed_parts, not_false, some_is}
use Rattle.wh_system_making.proofs.KindMade.{IsScope, symbols_of, made}
use Rattle.wh_system_making.proofs.StandsLaws.{Stands, stands}
use Rattle.wh_system_making.proofs.SizeMade.{size_made, height_made, width_made}
use Rattle.wh_system_making.proofs.SideMade.{closed_made, head_made, pattern_made, known_made, occurs_made}

-- the tests of a rule, by groups
pub record RulePassed (p : RParts) (earlier : List (Option ℕ × ℕ)) (r : RRule) : Type 0 where
  pub count : Passed (count_test 32 (map (λ m. m.name.at) r.metas))
  pub metas : Passed (meta_tests (sort_names p) (fun_names p) [] r.metas)
  pub left_side : Passed (side_tests r.left)
  pub right_side : Passed (side_tests r.right)
  pub left_named : Passed (naming_tests (scope_of p r) [] r.left)
  pub right_named : Passed (naming_tests (scope_of p r) [] r.right)
  pub same : same_kind (kind_of (scope_of p r) [] r.left) (kind_of (scope_of p r) [] r.right) ≡ true
  pub left_closed : Passed (open_tests r.left)
  pub right_closed : Passed (open_tests r.right)
  pub headed : is_some (head_symbol (scope_of p r) r.left) ≡ true
  pub pattern_left : Passed (pattern_tests (scope_of p r) [] r.left)
  pub known : Passed (new_meta_tests (scope_of p r) r.left [] r.right)
  pub even : is_uneven (head_symbol (scope_of p r) r.left) (arguments_of r.left) earlier ≡ false

pub rule_passed : (p : RParts) (earlier : List (Option ℕ × ℕ)) (r : RRule) → Passed (rule_tests p earlier r) → RulePassed p earlier r
rule_passed p earlier r h =
    let s = scope_of p r in
    let f = passed_parts (count_test 32 (map (λ m. m.name.at) r.metas) ++ meta_tests (sort_names p) (fun_names p) [] r.metas ++ side_tests r.left ++ side_tests r.right ++ naming_tests s [] r.left ++ naming_tests s [] r.right) _ h in
    let e = passed_parts (count_test 32 (map (λ m. m.name.at) r.metas) ++ meta_tests (sort_names p) (fun_names p) [] r.metas ++ side_tests r.left ++ side_tests r.right ++ naming_tests s [] r.left) (naming_tests s [] r.right) f.0 in
    let d = passed_parts (count_test 32 (map (λ m. m.name.at) r.metas) ++ meta_tests (sort_names p) (fun_names p) [] r.metas ++ side_tests r.left ++ side_tests r.right) (naming_tests s [] r.left) e.0 in
    let c = passed_parts (count_test 32 (map (λ m. m.name.at) r.metas) ++ meta_tests (sort_names p) (fun_names p) [] r.metas ++ side_tests r.left) (side_tests r.right) d.0 in
    let b = passed_parts (count_test 32 (map (λ m. m.name.at) r.metas) ++ meta_tests (sort_names p) (fun_names p) [] r.metas) (side_tests r.left) c.0 in
    let a = passed_parts (count_test 32 (map (λ m. m.name.at) r.metas)) (meta_tests (sort_names p) (fun_names p) [] r.metas) b.0 in
    let i = passed_parts (open_tests r.left ++ open_tests r.right) _ (passed_rest f.1) in
    let g = passed_parts (open_tests r.left) (open_tests r.right) i.0 in
    let k = passed_parts (pattern_tests s [] r.left ++ new_meta_tests s r.left [] r.right) _ (passed_rest i.1) in
    let j = passed_parts (pattern_tests s [] r.left) (new_meta_tests s r.left [] r.right) k.0 in
    record {
      count = a.0;
      metas = a.1;
      left_side = b.1;
      right_side = c.1;
      left_named = d.1;
      right_named = e.1;
      same = not_false _ (passed_first f.1);
      left_closed = g.0;
      right_closed = g.1;
      headed = not_false _ (passed_first i.1);
      pattern_left = j.0;
      known = j.1;
      even = passed_first k.1;
    }

-- what a rule's names stand for has its declarations
pub scope_made : (p : RParts) (r : RRule) → IsScope (scope_of p r)
scope_made p r = record {
  metas_declared = length-map r.metas _ ∙ sym (length-map r.metas _);
  funs_declared = length-map p.funs _ ∙ sym (length-map p.funs _);
}

-- a side that passes fits
fits_made : {s : Scope} {t : RTm} {u : Tm} → Stands s [] t u → Passed (side_tests t) → Fits u
fits_made {t = t} {u = u} stand p =
    let parts = passed_parts (width_of_term t) _ p in
    let low : raw_height t ≤ 200 = ltb-false 200 (raw_height t) (passed_first parts.1) in
    let small : raw_size t ≤ 65536 = ltb-false 65536 (raw_size t) (passed_first (passed_rest parts.1)) in
    record {
      low = le_trans (height_made stand) low;
      narrow = width_made stand parts.0;
      small = subst (λ n. n ≤ 65536) (sym (size_made stand)) small;
    }

-- a side has the type that the tests find
typed_side : (s : Scope) → IsScope s → (t : RTm) (u : Tm) → Passed (naming_tests s [] t) → meant s [] t ≡ Some u
    → (a : Ty) × (kind_of s [] t ≡ Some a) × Typed (symbols_of s) s.declared [] u a
typed_side s w t u p e =
    let m = made s w t [] [] refl p in
    (m.kind, m.is_kind, subst (λ v. Typed (symbols_of s) s.declared [] v m.kind) (some_same (sym m.is_meant ∙ e)) m.typed)

one_kind : (a b : Ty) (o q : Option Ty) → o ≡ Some a → q ≡ Some b → same_kind o q ≡ true → a ≡ b
one_kind a b o q e f same = same_ty-equal a b (sym (ap₂ same_kind e f) ∙ same)

pub rule_made : (p : RParts) (earlier : List (Option ℕ × ℕ)) (r : RRule) (rule : RewriteRule) → SaysRule p r rule → RulePassed p earlier r
    → IsWellMade (symbols_of (scope_of p r)) rule
rule_made p earlier r rule says h =
    let s = scope_of p r in
    let w = scope_made p r in
    let left = stands s [] r.left rule.left says.left in
    let right = stands s [] r.right rule.right says.right in
    let f = some_is (head_symbol s r.left) h.headed in
    let a = typed_side s w r.left rule.left h.left_named says.left in
    let b = typed_side s w r.right rule.right h.right_named says.right in
    let one : a.0 ≡ b.0 = one_kind a.0 b.0 (kind_of s [] r.left) (kind_of s [] r.right) a.1 b.1 h.same in
    record {
      typed = (
        a.0,
        subst (λ M. Typed (symbols_of s) M [] rule.left a.0) (sym says.metas) a.2,
        subst₂ (λ M c. Typed (symbols_of s) M [] rule.right c) (sym says.metas) (sym one) b.2,
      );
      left_fits = fits_made left h.left_side;
      right_fits = fits_made right h.right_side;
      left_closed = closed_made left h.left_closed;
      right_closed = closed_made right h.right_closed;
      pattern_left = pattern_made left h.pattern_left;
      headed = (f.0, head_made f.0 left f.1);
      known = λ z o. let there = known_made r.left z right h.known o in occurs_made there.name z there.is_named left there.is_left;
    }
