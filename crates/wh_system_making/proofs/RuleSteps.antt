-- Rule by rule: what the tests and the rules said so far come to.
use Rattle.std.proofs.Common.{◌≡◌, ℕ, zero, suc, ◌+◌, ◌<◌, ◌≤◌, List, [], ◌∷◌, ◌++◌, length, take, drop, get_or, map, Option, Some, None, Bool, true, false, not, is_some, refl, ap, ap₂, sym, ◌∙◌, subst, subst₂, append_assoc, arith}
use Rattle.std.proofs.lemmas.List.{length-map, map-append, take_more, take_all}
use Rattle.wh_types.specs.Ty.{Ty}
use Rattle.wh_terms.specs.Rules.{RewriteRule}
use Rattle.wh_text.specs.RawTree.{RTm, named, numbered, free_variable, meta, lam, spine}
use Rattle.wh_system_parts.specs.declared.fault.SystemFault.{SystemFault}
use Rattle.wh_system_parts.specs.declared.fault.SystemFault.TheVariants.{IllTyped, HeadNotFun, UnevenRules}
use Rattle.wh_system_parts.specs.declared.parts.RawRule.{RawRule}
use Rattle.wh_system_parts.specs.Parts.{RRule, RParts}
use Rattle.wh_system_parts.specs.Erase.{rrule}
use Rattle.wh_system_parts.specs.Faults.{Test, first_fault}
use Rattle.wh_system_parts.specs.Declarations.{meta_count}
use Rattle.wh_system_parts.specs.Naming.{Scope, is_declared}
use Rattle.wh_system_parts.specs.Kinds.{kind_of}
use Rattle.wh_system_parts.specs.Tests.{test, term_offset, arguments_of, sort_names, fun_names, meta_tests, side_tests, naming_tests}
use Rattle.wh_system_parts.specs.RuleTests.{type_of_raw, scope_of, same_kind, open_tests, head_symbol, pattern_tests, new_meta_tests, is_uneven, rule_tests, rules_tests}
use Rattle.wh_system_parts.proofs.FaultLemmas.{fault_in_first, fault_after, fault_at_test, past_test}
use Rattle.wh_system_making.specs.RulePasses.{own_tests}
use Rattle.wh_system.specs.Needs.{need_of}
use Rattle.wh_system_making.specs.Says.{SaysRule, SayRules}
use Rattle.wh_system_making.proofs.NameLaws.{number_within}
use Rattle.wh_system_making.specs.RulePasses.{IsResolvedRule, differs, scope_over}
use Rattle.wh_system_making.specs.declared.rules.ResolvedRule.{ResolvedRule}
use Rattle.wh_terms.specs.declared.rule.Rule.{Rule}
use Rattle.wh_terms.specs.Erase.{rewrite_rule, rewrite_rules}
use Rattle.wh_system_making.proofs.StandsLaws.{Stands, stands}
use Rattle.wh_system_making.proofs.SideMade.{head_made}
use Rattle.wh_system_making.proofs.SizeMade.{count_made}
use Rattle.wh_system_making.proofs.NeedLemmas.{TellUneven, AreNeeds, tell_next, needs_next}
use Rattle.std.specs.Prelude.{slice_get, slice_set, replicate}
use Rattle.std.proofs.lemmas.Option.{get_or_from_slice_get}
use Rattle.std.proofs.Math.Seq.{take-append_seam}
use Rattle.std.proofs.Math.ListN.{length-set}
use Rattle.std.proofs.lemmas.List.{get_or-replicate, length-replicate}
use Rattle.wh_system_parts.proofs.DeclarationLemmas.{map_next, list_next, list_done, map_fused, map_end}
use Rattle.wh_system_parts.proofs.OptionParts.{none_some}

-- the tests of a rule are its own ones, and then that of evenness
regroup : (C M L R NL NR OL OR P N : List Test) (t h u : Test)
    → C ++ M ++ L ++ R ++ NL ++ NR ++ t ∷ (OL ++ OR ++ h ∷ (P ++ N ++ u ∷ []))
    ≡ (C ++ M) ++ ((L ++ R) ++ ((NL ++ NR ++ t ∷ []) ++ (OL ++ OR ++ h ∷ (P ++ N)))) ++ u ∷ []
regroup C M L R NL NR OL OR P N t h u = simp append_assoc

abbrev pub uneven_test : List (Option ℕ × ℕ) → Option ℕ → RTm → Test
uneven_test earlier f left = test (is_uneven f (arguments_of left) earlier) (UnevenRules (term_offset left))

rule-tests : (p : RParts) (earlier : List (Option ℕ × ℕ)) (r : RRule) → rule_tests p earlier r ≡ own_tests (scope_of p r) r ++ uneven_test earlier (head_symbol (scope_of p r) r.left) r.left ∷ []
rule-tests p earlier r =
    let s = scope_of p r in
    regroup (meta_count r.metas) (meta_tests s.sorts s.funs [] r.metas) (side_tests r.left) (side_tests r.right) (naming_tests s [] r.left) (naming_tests s [] r.right)
    (open_tests r.left) (open_tests r.right) (pattern_tests s [] r.left) (new_meta_tests s r.left [] r.right)
    (test (not (same_kind (kind_of s [] r.left) (kind_of s [] r.right))) (IllTyped (term_offset r.right)))
    (test (not (is_some (head_symbol s r.left))) (HeadNotFun (term_offset r.left)))
    (uneven_test earlier (head_symbol s r.left) r.left)

-- a rule whose own tests fail
pub rule_fails : (p : RParts) (earlier : List (Option ℕ × ℕ)) (r : RRule) (rs : List RRule) (f : SystemFault) → first_fault (own_tests (scope_of p r) r) ≡ Some f
    → first_fault (rules_tests p earlier (r ∷ rs)) ≡ Some f
rule_fails p earlier r rs f e =
    let s = scope_of p r in
    let one = uneven_test earlier (head_symbol s r.left) r.left ∷ [] in
    fault_in_first (rule_tests p earlier r) (rules_tests p ((head_symbol s r.left, arguments_of r.left) ∷ earlier) rs) f
    (ap first_fault (rule-tests p earlier r) ∙ fault_in_first (own_tests s r) one f e)

-- one that is uneven
pub rule_uneven : (p : RParts) (earlier : List (Option ℕ × ℕ)) (r : RRule) (rs : List RRule) → first_fault (own_tests (scope_of p r) r) ≡ None
    → is_uneven (head_symbol (scope_of p r) r.left) (arguments_of r.left) earlier ≡ true → first_fault (rules_tests p earlier (r ∷ rs)) ≡ Some (UnevenRules (term_offset r.left))
rule_uneven p earlier r rs own e =
    let s = scope_of p r in
    let b = is_uneven (head_symbol s r.left) (arguments_of r.left) earlier in
    let place = UnevenRules (term_offset r.left) in
    fault_in_first (rule_tests p earlier r) (rules_tests p ((head_symbol s r.left, arguments_of r.left) ∷ earlier) rs) place
    (ap first_fault (rule-tests p earlier r) ∙ fault_after (own_tests s r) (test b place ∷ []) own ∙ fault_at_test b place [] e)

-- one that passes
pub rule_passes : (p : RParts) (earlier : List (Option ℕ × ℕ)) (r : RRule) (rs : List RRule) (f n : ℕ) → first_fault (own_tests (scope_of p r) r) ≡ None
    → head_symbol (scope_of p r) r.left ≡ Some f → n ≡ arguments_of r.left → is_uneven (Some f) n earlier ≡ false
    → first_fault (rules_tests p earlier (r ∷ rs)) ≡ first_fault (rules_tests p ((Some f, n) ∷ earlier) rs)
rule_passes p earlier r rs f n own is counted e =
    let s = scope_of p r in
    let b = is_uneven (head_symbol s r.left) (arguments_of r.left) earlier in
    let place = UnevenRules (term_offset r.left) in
    let even : b ≡ false = ap₂ (λ o k. is_uneven o k earlier) is (sym counted) ∙ e in
    fault_after (rule_tests p earlier r) (rules_tests p ((head_symbol s r.left, arguments_of r.left) ∷ earlier) rs)
    (ap first_fault (rule-tests p earlier r) ∙ fault_after (own_tests s r) (test b place ∷ []) own ∙ past_test b place [] even)
    ∙ ap₂ (λ o k. first_fault (rules_tests p ((o, k) ∷ earlier) rs)) is (sym counted)

-- the rules said so far, and one more
pub say_push : (p : RParts) (rs : List RRule) (us : List RewriteRule) (r : RRule) (u : RewriteRule) → SayRules p rs us → SaysRule p r u → SayRules p (rs ++ r ∷ []) (us ++ u ∷ [])
say_push p [] [] r u so_far says = (says, tt)
say_push p [] (v ∷ us) r u so_far says = absurd so_far
say_push p (q ∷ rs) [] r u so_far says = absurd so_far
say_push p (q ∷ rs) (v ∷ us) r u so_far says = (so_far.0, say_push p rs us r u so_far.1 says)

-- the symbol that heads a side is one of the symbols
pub head_within : (s : Scope) (t : RTm) (f : ℕ) → head_symbol s t ≡ Some f → f < length s.funs
head_within s (named n at) f e = go (is_declared s.metas n) refl
  where
    go : (b : Bool) → is_declared s.metas n ≡ b → f < length s.funs
    go true is = absurd (none_some (rw is at e))
    go false is = number_within s.funs n f (rw is at e)
head_within s (numbered k at) f e = absurd (cc)
head_within s (free_variable k a at) f e = absurd (cc)
head_within s (meta n ts at) f e = absurd (cc)
head_within s (lam x a t at) f e = absurd (cc)
head_within s (spine h ts at) f e = head_within s h f e

-- what a loop over the rules has come to: the tests still to come, the rules said, and what each symbol needs

abbrev pub meta_names_of : RRule → List (List ℕ)
meta_names_of r = map (λ m. m.name.name) r.metas

pub record SoFar (p : RParts) (raws : List RawRule) (i : ℕ) (rules : List Rule) (names : List (List (List ℕ))) (needs : List (Option ℕ)) : Type 0 where
  pub earlier : List (Option ℕ × ℕ)
  pub tests : first_fault (rules_tests p [] (map rrule raws)) ≡ first_fault (rules_tests p earlier (map rrule (drop i raws)))
  pub says : SayRules p (map rrule (take i raws)) (rewrite_rules rules)
  pub named : map meta_names_of (map rrule raws) ≡ names ++ map (λ (raw : RawRule). meta_names_of (rrule raw)) (drop i raws)
  pub long : length needs ≡ length p.funs
  pub tell : TellUneven earlier needs
  pub needed : AreNeeds needs (rewrite_rules rules)

-- before the first rule
pub none_so_far : (p : RParts) (raws : List RawRule) (k : ℕ) (rules : List Rule) (names : List (List (List ℕ))) (needs : List (Option ℕ)) → rules ≡ [] → names ≡ [] → needs ≡ replicate k None
    → k ≡ length p.funs → SoFar p raws 0 rules names needs
none_so_far p raws k rules names needs no_rules no_names clean long = record {
  earlier = [];
  tests = refl;
  says = subst (λ us. SayRules p [] (rewrite_rules us)) (sym no_rules) tt;
  named = map_fused rrule meta_names_of raws ∙ ap (λ ns. ns ++ map (λ (raw : RawRule). meta_names_of (rrule raw)) raws) (sym no_names);
  long = ap length clean ∙ length-replicate k None ∙ long;
  tell = λ f n inside. sym (ap (differs n) (unset f inside));
  needed = λ f inside. unset f inside ∙ ap (λ us. need_of (rewrite_rules us) f) (sym no_rules);
}
  where
    unset : (f : ℕ) → f < length needs → get_or needs f None ≡ None
    unset f inside = ap (λ l. get_or l f None) clean ∙ get_or-replicate k f None None (subst (λ n. f < n) (ap length clean ∙ length-replicate k None) inside)

-- the head of a resolved rule has a place among the needs
pub head_inside : (p : RParts) (raws : List RawRule) (i : ℕ) (rules : List Rule) (names : List (List (List ℕ))) (needs : List (Option ℕ)) (r : RRule) (done : ResolvedRule)
    → SoFar p raws i rules names needs → IsResolvedRule (scope_of p r) r done → done.head < length needs
head_inside p raws i rules names needs r done so_far is =
    subst (λ n. done.head < n) (length-map p.funs (λ f. f.name.name) ∙ sym so_far.long) (head_within (scope_of p r) r.left done.head is.head)

-- after one rule more
pub one_more : (p : RParts) (raws : List RawRule) (i : ℕ) (rules after : List Rule) (names later : List (List (List ℕ))) (needs : List (Option ℕ)) (raw : RawRule) (done : ResolvedRule)
    → i < length raws → raw ≡ get_or raws i raw → SoFar p raws i rules names needs → first_fault (own_tests (scope_of p (rrule raw)) (rrule raw)) ≡ None
    → IsResolvedRule (scope_of p (rrule raw)) (rrule raw) done → differs done.count (get_or needs done.head None) ≡ false
    → after ≡ rules ++ done.rule ∷ [] → later ≡ names ++ done.meta_names ∷ [] → SoFar p raws (i + 1) after later (slice_set needs done.head (Some done.count))
one_more p raws i rules after names later needs raw done within at so_far own is meets joined shown = record {
  earlier = (Some done.head, done.count) ∷ so_far.earlier;
  tests = so_far.tests ∙ ap (λ rs. first_fault (rules_tests p so_far.earlier rs)) (map_next rrule raws i raw within at)
      ∙ rule_passes p so_far.earlier (rrule raw) (map rrule (drop (i + 1) raws)) done.head done.count own is.head is.count (so_far.tell done.head done.count inside ∙ meets);
  says = subst₂ (λ rs us. SayRules p rs us) front (sym (ap rewrite_rules joined ∙ map-append rewrite_rule rules (done.rule ∷ [])))
      (say_push p (map rrule (take i raws)) (rewrite_rules rules) (rrule raw) (rewrite_rule done.rule) so_far.says says);
  named = list_next (λ (raw : RawRule). meta_names_of (rrule raw)) raws i raw (map meta_names_of (map rrule raws)) names later within at so_far.named (shown ∙ ap (λ ns. names ++ ns ∷ []) is.names);
  long = length-set needs done.head (Some done.count) ∙ so_far.long;
  tell = tell_next so_far.earlier needs done.head done.count inside so_far.tell meets;
  needed = subst (λ us. AreNeeds (slice_set needs done.head (Some done.count)) us) (sym (ap rewrite_rules joined ∙ map-append rewrite_rule rules (done.rule ∷ [])))
      (needs_next needs (rewrite_rules rules) (rewrite_rule done.rule) done.head done.count inside so_far.needed (head_made done.head left is.head) (count_made left ∙ sym is.count) meets);
}
  where
    inside : done.head < length needs
    inside = head_inside p raws i rules names needs (rrule raw) done so_far is

    says : SaysRule p (rrule raw) (rewrite_rule done.rule)
    says = record { metas = is.metas; left = is.left; right = is.right }

    left : Stands (scope_of p (rrule raw)) [] (rrule raw).left (rewrite_rule done.rule).left
    left = stands (scope_of p (rrule raw)) [] (rrule raw).left (rewrite_rule done.rule).left is.left

    front : map rrule (take i raws) ++ rrule raw ∷ [] ≡ map rrule (take (i + 1) raws)
    front = sym (ap (map rrule) (take_more raws i raw within ∙ ap (λ x. take i raws ++ x ∷ []) (sym at)) ∙ map-append rrule (take i raws) (raw ∷ []))

-- what names stand for, as the pass over the rules has it
pub scope_said : (p : RParts) (r : RRule) (sorts funs : List (List ℕ)) (kinds : List Ty) → sorts ≡ sort_names p → funs ≡ fun_names p → kinds ≡ map (λ f. type_of_raw (sort_names p) f.kind) p.funs
    → scope_over sorts funs kinds r ≡ scope_of p r
scope_said p r sorts funs kinds a b c = λ i. scope_over (a i) (b i) (c i) r

-- a slice of numbers that is written back whole
pub written_back : (old new : List (Option ℕ)) (len : ℕ) → length old ≡ len → length new ≡ length old → take len (new ++ drop (length new) old) ≡ new
written_back old new len whole same = ap (λ k. take k (new ++ drop (length new) old)) (sym (same ∙ whole)) ∙ take-append_seam new (drop (length new) old)

-- after the last rule
pub record AllSaid (p : RParts) (rules : List Rule) (names : List (List (List ℕ))) (needs : List (Option ℕ)) : Type 0 where
  pub passed : first_fault (rules_tests p [] p.rules) ≡ None
  pub says : SayRules p p.rules (rewrite_rules rules)
  pub named : names ≡ map meta_names_of p.rules
  pub needed : (f : ℕ) (n : Option ℕ) → slice_get needs f ≡ Some n → n ≡ need_of (rewrite_rules rules) f

pub all_said : (p : RParts) (raws : List RawRule) (i : ℕ) (rules : List Rule) (names : List (List (List ℕ))) (needs : List (Option ℕ)) → p.rules ≡ map rrule raws → length raws ≤ i
    → SoFar p raws i rules names needs → AllSaid p rules names needs
all_said p raws i rules names needs whole past so_far = record {
  passed = ap (λ rs. first_fault (rules_tests p [] rs)) whole ∙ so_far.tests ∙ ap (λ rs. first_fault (rules_tests p so_far.earlier rs)) (map_end rrule raws i past);
  says = subst (λ rs. SayRules p rs (rewrite_rules rules)) (ap (map rrule) (take_all i raws past) ∙ sym whole) so_far.says;
  named = list_done (λ (raw : RawRule). meta_names_of (rrule raw)) raws i (map meta_names_of (map rrule raws)) names past so_far.named ∙ ap (map meta_names_of) (sym whole);
  needed = λ f n at. sym (get_or_from_slice_get needs f n None at) ∙ so_far.needed f (get_within needs f n at);
}
  where
    get_within : (xs : List (Option ℕ)) (k : ℕ) (x : Option ℕ) → slice_get xs k ≡ Some x → k < length xs
    get_within [] k x e = absurd (cc)
    get_within (y ∷ xs) zero x e = omega arith
    get_within (y ∷ xs) (suc k) x e = omega (arith, get_within xs k x e)
