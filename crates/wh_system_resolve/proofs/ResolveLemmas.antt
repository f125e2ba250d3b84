-- How the resolving of a term goes together from that of its parts.
use Rattle.std.proofs.Common.{◌≡◌, ℕ, List, [], ◌∷◌, ◌++◌, Option, Some, None, Bool, true, false, not, map, refl, ap, ap₂, sym, ◌∙◌, subst, arith, append_assoc}
use Rattle.std.proofs.lemmas.List.{map-append}
use Rattle.std.specs.Prelude.{option_map}
use Rattle.wh_types.specs.Ty.{Ty}
use Rattle.wh_types.specs.declared.want.Or.{Or}
use Rattle.wh_types.specs.declared.want.Or.TheVariants.{NoMemory, Because}
use Rattle.wh_terms.specs.Tree.{Tm, app, Tms, none as no_tms, more as more_tms}
use Rattle.wh_terms.specs.Erase.{tm, tms}
use Rattle.wh_terms.proofs.TermLemmas.{join}
use Rattle.wh_text.specs.RawTree.{RTm, RTms, none, more}
use Rattle.wh_system_parts.specs.declared.fault.SystemFault.{SystemFault}
use Rattle.wh_system_parts.specs.declared.fault.SystemFault.TheVariants.{IllTyped}
use Rattle.wh_system_resolve.specs.declared.around.Resolved.{Resolved}
use Rattle.wh_system_resolve.specs.declared.around.ResolvedList.{ResolvedList}
use Rattle.wh_system_resolve.specs.Answers.{IsResolved}
use Rattle.wh_system_resolve.specs.InScope.{type_of, types_of}
use Rattle.wh_system_parts.specs.Faults.{Test, first_of, first_fault}
use Rattle.wh_system_parts.specs.Naming.{Scope, meant, all_meant, applied_meant, both}
use Rattle.wh_system_parts.specs.Kinds.{TypedBinder, binders_of, kind_of, kinds_of, spine_kind, takes, gives, where_true}
use Rattle.wh_system_resolve.specs.Resolving.{AreResolved}
use Rattle.wh_system_parts.specs.Tests.{test, term_offset, naming_tests, namings_tests, applying_tests}
use Rattle.wh_system_parts.proofs.FaultLemmas.{fault_after, no_fault_at_test}
use Rattle.wh_system_resolve.proofs.AnswerLemmas.{Fails, fails_along, fails_first}

-- two applications that come to the same: what is u of the type a with the arguments ts, and what is v of the type b
-- with the arguments rest
pub record SameSpine (s : Scope) (bs : List TypedBinder) (u : Option Tm) (a : Option Ty) (ts : RTms) (v : Option Tm) (b : Option Ty) (rest : RTms) : Type 0 where
  pub tests : first_fault (applying_tests s bs a ts) ≡ first_fault (applying_tests s bs b rest)
  pub tree : applied_meant s (binders_of bs) u ts ≡ applied_meant s (binders_of bs) v rest
  pub kind : spine_kind s bs a ts ≡ spine_kind s bs b rest

pub same_spine : (s : Scope) (bs : List TypedBinder) (u : Option Tm) (a : Option Ty) (ts rest : RTms) → ts ≡ rest → SameSpine s bs u a ts u a rest
same_spine s bs u a ts rest e =
    record { tests = ap (λ us. first_fault (applying_tests s bs a us)) e; tree = ap (applied_meant s (binders_of bs) u) e; kind = ap (spine_kind s bs a) e }

-- one argument, resolved
where-true : (b : Bool) (a : Option Ty) → not b ≡ false → where_true b a ≡ a
where-true true a e = refl
where-true false a e = absurd (grind arith)

spine-tests : (s : Scope) (bs : List TypedBinder) (a k c : Option Ty) (t : RTm) (rest : RTms) (at : ℕ) → first_fault (naming_tests s bs t) ≡ None → kind_of s bs t ≡ k → term_offset t ≡ at
    → not (takes a k) ≡ false → gives a ≡ c → first_fault (applying_tests s bs a (more t rest)) ≡ first_fault (applying_tests s bs c rest)
spine-tests s bs a k c t rest at passed kind place fits given =
    fault_after (naming_tests s bs t) (test (not (takes a (kind_of s bs t))) (IllTyped (term_offset t)) ∷ applying_tests s bs (gives a) rest) passed
    ∙ ap (λ b. first_of b (IllTyped (term_offset t)) (first_fault (applying_tests s bs (gives a) rest))) (ap (λ j. not (takes a j)) kind ∙ fits)
    ∙ ap (λ j. first_fault (applying_tests s bs j rest)) given

pub spine_next : (s : Scope) (bs : List TypedBinder) (u : Option Tm) (a : Option Ty) (ts : RTms) (f x w : Resolved) (t : RTm) (left rest : RTms) (at : ℕ)
    → SameSpine s bs u a ts (Some (tm f.term)) (Some (type_of f.kind)) left → left ≡ more t rest → at ≡ term_offset t
    → IsResolved (naming_tests s bs t) (meant s (binders_of bs) t) (kind_of s bs t) x
    → IsResolved (test (not (takes (Some (type_of f.kind)) (Some (type_of x.kind)))) (IllTyped at) ∷ []) (Some (app (tm f.term) (tm x.term))) (gives (Some (type_of f.kind))) w
    → SameSpine s bs u a ts (Some (tm w.term)) (Some (type_of w.kind)) rest
spine_next s bs u a ts f x w t left rest at same is place argument whole =
    let fits : not (takes (Some (type_of f.kind)) (Some (type_of x.kind))) ≡ false = (no_fault_at_test (not (takes (Some (type_of f.kind)) (Some (type_of x.kind)))) (IllTyped at) [] whole.passed).0 in
    let Here : RTms → Type 0 = λ us. SameSpine s bs u a ts (Some (tm f.term)) (Some (type_of f.kind)) us in
    let here : SameSpine s bs u a ts (Some (tm f.term)) (Some (type_of f.kind)) (more t rest) = subst Here is same in
    record {
      tests = here.tests ∙ spine-tests s bs (Some (type_of f.kind)) (Some (type_of x.kind)) (Some (type_of w.kind)) t rest at argument.passed argument.kind (sym place) fits whole.kind;
      tree = here.tree ∙ ap (λ o. applied_meant s (binders_of bs) o rest) (ap (both app (Some (tm f.term))) argument.term ∙ whole.term);
      kind = here.kind ∙ ap (λ o. spine_kind s bs o rest)
          (ap (λ k. where_true (takes (Some (type_of f.kind)) k) (gives (Some (type_of f.kind)))) argument.kind ∙ where-true (takes (Some (type_of f.kind)) (Some (type_of x.kind))) (gives (Some (type_of f.kind))) fits ∙ whole.kind);
    }

pub spine_done : (s : Scope) (bs : List TypedBinder) (u : Option Tm) (a : Option Ty) (ts : RTms) (w : Resolved) (left : RTms)
    → SameSpine s bs u a ts (Some (tm w.term)) (Some (type_of w.kind)) left → left ≡ none → IsResolved (applying_tests s bs a ts) (applied_meant s (binders_of bs) u ts) (spine_kind s bs a ts) w
spine_done s bs u a ts w left same is =
    let Here : RTms → Type 0 = λ us. SameSpine s bs u a ts (Some (tm w.term)) (Some (type_of w.kind)) us in
    let here : SameSpine s bs u a ts (Some (tm w.term)) (Some (type_of w.kind)) none = subst Here is same in
    record { passed = here.tests; term = here.tree; kind = here.kind }

-- the argument fails, or it does not fit
pub spine_fails_in : (s : Scope) (bs : List TypedBinder) (u v : Option Tm) (a b : Option Ty) (ts left rest : RTms) (t : RTm) (e : Or SystemFault) → SameSpine s bs u a ts v b left
    → left ≡ more t rest → Fails (first_fault (naming_tests s bs t)) e → Fails (first_fault (applying_tests s bs a ts)) e
spine_fails_in s bs u v a b ts left rest t e same is h =
    let tail : List Test = test (not (takes b (kind_of s bs t))) (IllTyped (term_offset t)) ∷ applying_tests s bs (gives b) rest in
    fails_along e (first_fault (naming_tests s bs t ++ tail)) (first_fault (applying_tests s bs a ts))
    (same.tests ∙ ap (λ us. first_fault (applying_tests s bs b us)) is) (fails_first e (naming_tests s bs t) tail h)

fails-test : (e : Or SystemFault) (b : Bool) (f : SystemFault) (rest : Option SystemFault) → Fails (first_of b f None) e → Fails (first_of b f rest) e
fails-test NoMemory b f rest h = tt
fails-test (Because x) true f rest h = h
fails-test (Because x) false f rest h = absurd (grind arith)

pub spine_fails_at : (s : Scope) (bs : List TypedBinder) (u : Option Tm) (a : Option Ty) (ts : RTms) (f x : Resolved) (t : RTm) (left rest : RTms) (at : ℕ) (e : Or SystemFault)
    → SameSpine s bs u a ts (Some (tm f.term)) (Some (type_of f.kind)) left → left ≡ more t rest → at ≡ term_offset t
    → IsResolved (naming_tests s bs t) (meant s (binders_of bs) t) (kind_of s bs t) x
    → Fails (first_fault (test (not (takes (Some (type_of f.kind)) (Some (type_of x.kind)))) (IllTyped at) ∷ [])) e
    → Fails (first_fault (applying_tests s bs a ts)) e
spine_fails_at s bs u a ts f x t left rest at e same is place argument h =
    let b : Bool = not (takes (Some (type_of f.kind)) (Some (type_of x.kind))) in
    let after : Option SystemFault = first_fault (applying_tests s bs (gives (Some (type_of f.kind))) rest) in
    fails_along e (first_of b (IllTyped at) after) (first_fault (applying_tests s bs a ts))
    (same.tests ∙ ap (λ us. first_fault (applying_tests s bs (Some (type_of f.kind)) us)) is
    ∙ fault_after (naming_tests s bs t) (test (not (takes (Some (type_of f.kind)) (kind_of s bs t))) (IllTyped (term_offset t)) ∷ applying_tests s bs (gives (Some (type_of f.kind))) rest) argument.passed
    ∙ ap₂ (λ k p. first_of (not (takes (Some (type_of f.kind)) k)) (IllTyped p) after) argument.kind (sym place))
    (fails-test e b (IllTyped at) after h)

-- terms one after another: of these, the first have these trees and types, and the rest are left
pub record Part (s : Scope) (bs : List TypedBinder) (ts : RTms) (us : Tms) (ks : List Ty) (rest : RTms) : Type 0 where
  pub tests : first_fault (namings_tests s bs ts) ≡ first_fault (namings_tests s bs rest)
  pub trees : all_meant s (binders_of bs) ts ≡ option_map (join us) (all_meant s (binders_of bs) rest)
  pub kinds : kinds_of s bs ts ≡ map Some ks ++ kinds_of s bs rest

join-whole : (o : Option Tms) → o ≡ option_map (join no_tms) o
join-whole None = refl
join-whole (Some us) = refl

pub part_none : (s : Scope) (bs : List TypedBinder) (ts rest : RTms) (us : Tms) (ks : List Ty) → ts ≡ rest → us ≡ no_tms → ks ≡ [] → Part s bs ts us ks rest
part_none s bs ts rest us ks e f g =
    record {
      tests = ap (λ us. first_fault (namings_tests s bs us)) e;
      trees = join-whole (all_meant s (binders_of bs) ts) ∙ ap₂ (λ xs ys. option_map (join xs) (all_meant s (binders_of bs) ys)) (sym f) e;
      kinds = ap₂ (λ xs ys. map Some xs ++ kinds_of s bs ys) (sym g) e;
    }

join-more : (us : Tms) (u : Tm) (vs : Tms) → join us (more_tms u vs) ≡ join (join us (more_tms u no_tms)) vs
join-more no_tms u vs = refl
join-more (more_tms t us) u vs = ap (more_tms t) (join-more us u vs)

join-both : (us : Tms) (u : Tm) (o : Option Tms) → option_map (join us) (both more_tms (Some u) o) ≡ option_map (join (join us (more_tms u no_tms))) o
join-both us u None = refl
join-both us u (Some vs) = ap Some (join-more us u vs)

pub part_next : (s : Scope) (bs : List TypedBinder) (ts left rest : RTms) (us vs : Tms) (ks js : List Ty) (t : RTm) (u : Tm) (k : Ty) → Part s bs ts us ks left → left ≡ more t rest
    → first_fault (naming_tests s bs t) ≡ None → meant s (binders_of bs) t ≡ Some u → kind_of s bs t ≡ Some k
    → vs ≡ join us (more_tms u no_tms) → js ≡ ks ++ k ∷ [] → Part s bs ts vs js rest
part_next s bs ts left rest us vs ks js t u k part is passed tree kind e f =
    let Here : RTms → Type 0 = λ xs. Part s bs ts us ks xs in
    let here : Part s bs ts us ks (more t rest) = subst Here is part in
    record {
      tests = here.tests ∙ fault_after (naming_tests s bs t) (namings_tests s bs rest) passed;
      trees = here.trees ∙ ap (λ o. option_map (join us) (both more_tms o (all_meant s (binders_of bs) rest))) tree ∙ join-both us u (all_meant s (binders_of bs) rest)
          ∙ ap (λ xs. option_map (join xs) (all_meant s (binders_of bs) rest)) (sym e);
      kinds = here.kinds ∙ ap (λ o. map Some ks ++ o ∷ kinds_of s bs rest) kind ∙ sym (append_assoc (map Some ks) (Some k ∷ []) (kinds_of s bs rest))
          ∙ ap (λ xs. xs ++ kinds_of s bs rest) (sym (map-append Some ks (k ∷ []))) ∙ ap (λ xs. map Some xs ++ kinds_of s bs rest) (sym f);
    }

join-none : (us : Tms) → join us no_tms ≡ us
join-none no_tms = refl
join-none (more_tms u us) = ap (more_tms u) (join-none us)

append-none : (ks : List (Option Ty)) → ks ++ [] ≡ ks
append-none [] = refl
append-none (k ∷ ks) = ap (λ xs. k ∷ xs) (append-none ks)

pub part_all : (s : Scope) (bs : List TypedBinder) (ts left : RTms) (r : ResolvedList) → Part s bs ts (tms r.trees) (types_of r.kinds) left → left ≡ none → AreResolved s bs ts r
part_all s bs ts left r part is =
    let Here : RTms → Type 0 = λ xs. Part s bs ts (tms r.trees) (types_of r.kinds) xs in
    let here : Part s bs ts (tms r.trees) (types_of r.kinds) none = subst Here is part in
    record { passed = here.tests; trees = here.trees ∙ ap Some (join-none (tms r.trees)); kinds = here.kinds ∙ append-none (map Some (types_of r.kinds)) }

pub part_fails : (s : Scope) (bs : List TypedBinder) (ts left rest : RTms) (us : Tms) (ks : List Ty) (t : RTm) (e : Or SystemFault) → Part s bs ts us ks left → left ≡ more t rest
    → Fails (first_fault (naming_tests s bs t)) e → Fails (first_fault (namings_tests s bs ts)) e
part_fails s bs ts left rest us ks t e part is h =
    fails_along e (first_fault (naming_tests s bs t ++ namings_tests s bs rest)) (first_fault (namings_tests s bs ts))
    (part.tests ∙ ap (λ xs. first_fault (namings_tests s bs xs)) is) (fails_first e (naming_tests s bs t) (namings_tests s bs rest) h)
