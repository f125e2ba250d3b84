-- A term resolved from its parts: a meta-variable with arguments, an abstraction, a spine.
use Rattle.std.proofs.Common.{◌≡◌, ℕ, List, [], ◌∷◌, ◌++◌, Option, Some, None, not, map, length, Result, Err, refl, ap, ap₂, sym, ◌∙◌, arith}
use Rattle.std.specs.Prelude.{option_map, ◌==◌}
use Rattle.std.proofs.lemmas.List.{length-map}
use Rattle.wh_types.specs.Ty.{Ty, ◌⇒◌}
use Rattle.wh_types.specs.Erase.{ty}
use Rattle.wh_types.specs.declared.simple_type.SimpleType.{SimpleType}
use Rattle.wh_types.specs.Outcome.{MatchOr}
use Rattle.wh_types.specs.declared.want.Or.{Or}
use Rattle.wh_types.specs.declared.want.Or.TheVariants.{NoMemory, Because}
use Rattle.wh_terms.specs.Tree.{Tm, meta as meta_tree, lam as lam_tree}
use Rattle.wh_terms.specs.Erase.{tm, tms}
use Rattle.wh_text.specs.RawTree.{RTy, Binder, RTm, meta, lam, spine, RTms}
use Rattle.wh_text.specs.Erase.{rtms}
use Rattle.wh_text.specs.declared.raw.RawTerm.{RawTerm}
use Rattle.wh_system_parts.specs.declared.fault.SystemFault.{SystemFault}
use Rattle.wh_system_parts.specs.declared.fault.SystemFault.TheVariants.{UnknownName, IllTyped}
use Rattle.wh_system_resolve.specs.declared.around.Resolved.{Resolved}
use Rattle.wh_system_resolve.specs.declared.around.ResolvedList.{ResolvedList}
use Rattle.wh_system_resolve.specs.declared.kind.Kind.{Kind}
use Rattle.wh_system_resolve.specs.Answers.{IsResolved}
use Rattle.wh_system_resolve.specs.InScope.{type_of, types_of}
use Rattle.wh_system_parts.specs.Faults.{Test, first_fault}
use Rattle.wh_system_parts.specs.Naming.{Scope, number_of, is_declared, type_meant, meant, applied_meant, both}
use Rattle.wh_system_parts.specs.Kinds.{TypedBinder, binders_of, kind_of, kinds_of, spine_kind, declaration, meta_kind}
use Rattle.wh_system_resolve.specs.Resolving.{ResolvesTerm, ResolvesSpine, ResolvesMeta, ResolvesEach, AreResolved, applied_tests}
use Rattle.wh_system_parts.specs.Tests.{test, count_of, arity_of, args_of, sorts_of_type, naming_tests, namings_tests, applying_tests, wanted_tests}
use Rattle.wh_system_resolve.proofs.AnswerLemmas.{Fails, fails_along, fails_first, resolves_along}
use Rattle.wh_system_parts.proofs.FaultLemmas.{fault_after}
use Rattle.wh_system_resolve.proofs.FittingLemmas.{wanted_are}

-- as many types as terms
kinds-long : (s : Scope) (bs : List TypedBinder) (xs : List RawTerm) → length (kinds_of s bs (rtms xs)) ≡ length xs
kinds-long s bs [] = refl
kinds-long s bs (x ∷ xs) = omega (arith, kinds-long s bs xs)

pub kinds_long : (s : Scope) (bs : List TypedBinder) (xs : List RawTerm) (ks : List Kind) → kinds_of s bs (rtms xs) ≡ map Some (types_of ks) → length ks ≡ length xs
kinds_long s bs xs ks e =
    let one : length (map Some (types_of ks)) ≡ length xs = sym (ap length e) ∙ kinds-long s bs xs in
    let two : length (map Some (types_of ks)) ≡ length (types_of ks) = length-map (types_of ks) Some in
    let three : length (types_of ks) ≡ length ks = length-map ks type_of in
    omega arith

both-map : {A B : Type 0} (f : A → B → Tm) (o : Option A) (b : B) → both f o (Some b) ≡ option_map (λ a. f a b) o
both-map f None b = refl
both-map f (Some a) b = refl

-- what fails in a part
pub term_fails : (s : Scope) (bs : List TypedBinder) (t : RTm) (e : Or SystemFault) → ResolvesTerm s bs t (Err e) → Fails (first_fault (naming_tests s bs t)) e
term_fails s bs t NoMemory h = tt
term_fails s bs t (Because f) h = h

pub each_fails : (s : Scope) (bs : List TypedBinder) (ts : RTms) (e : Or SystemFault) → ResolvesEach s bs ts (Err e) → Fails (first_fault (namings_tests s bs ts)) e
each_fails s bs ts NoMemory h = tt
each_fails s bs ts (Because f) h = h

pub type_fails : (sorts : List (List ℕ)) (a : RTy) (e : Or SystemFault)
    → MatchOr {T = SimpleType} {E = SystemFault} (Err e) (λ k. (first_fault (sorts_of_type sorts a) ≡ None) × (type_meant sorts a ≡ Some (ty k))) (λ f. first_fault (sorts_of_type sorts a) ≡ Some f)
    → Fails (first_fault (sorts_of_type sorts a)) e
type_fails sorts a NoMemory h = tt
type_fails sorts a (Because f) h = h

-- a meta-variable
pub meta_whole : (s : Scope) (bs : List TypedBinder) (u : RTm) (n : List ℕ) (ts : RTms) (at : ℕ) (list : ResolvedList) (r : Result Resolved (Or SystemFault)) → u ≡ meta n ts at
    → AreResolved s bs ts list → ResolvesMeta s n list ts at r → ResolvesTerm s bs u r
meta_whole s bs u n ts at list r is each h =
    let tail : List Test → List Test = λ rest. test (not (is_declared s.metas n)) (UnknownName at) ∷ test (not (arity_of (declaration s n) == count_of ts)) (IllTyped at) ∷ rest in
    resolves_along r (applied_tests s n (types_of list.kinds) ts at) (naming_tests s bs u) (option_map (λ z. meta_tree z (tms list.trees)) (number_of s.metas n)) (meant s (binders_of bs) u)
    (meta_kind (declaration s n) (map Some (types_of list.kinds))) (kind_of s bs u)
    (ap (λ v. first_fault (naming_tests s bs v)) is ∙ fault_after (namings_tests s bs ts) (tail (wanted_tests s bs ts (args_of (declaration s n)))) each.passed ∙ ap (λ rest. first_fault (tail rest)) (wanted_are s bs ts (types_of list.kinds) (args_of (declaration s n)) each.kinds))
    (ap (meant s (binders_of bs)) is ∙ ap (both meta_tree (number_of s.metas n)) each.trees ∙ both-map meta_tree (number_of s.metas n) (tms list.trees))
    (ap (kind_of s bs) is ∙ ap (meta_kind (declaration s n)) each.kinds) h

pub meta_fails : (s : Scope) (bs : List TypedBinder) (u : RTm) (n : List ℕ) (ts : RTms) (at : ℕ) (e : Or SystemFault) → u ≡ meta n ts at → Fails (first_fault (namings_tests s bs ts)) e
    → Fails (first_fault (naming_tests s bs u)) e
meta_fails s bs u n ts at e is h =
    let rest : List Test = test (not (is_declared s.metas n)) (UnknownName at) ∷ test (not (arity_of (declaration s n) == count_of ts)) (IllTyped at) ∷ wanted_tests s bs ts (args_of (declaration s n)) in
    fails_along e (first_fault (namings_tests s bs ts ++ rest)) (first_fault (naming_tests s bs u)) (ap (λ v. first_fault (naming_tests s bs v)) is) (fails_first e (namings_tests s bs ts) rest h)

-- an abstraction
abbrev pub below : Binder → Option Ty → List TypedBinder → List TypedBinder
below x a bs = record { binder = x; kind = a } ∷ bs

pub lam_whole : (s : Scope) (bs : List TypedBinder) (u t : RTm) (x : Binder) (a : RTy) (at : ℕ) (k : Ty) (body w : Resolved) → u ≡ lam x a t at
    → first_fault (sorts_of_type s.sorts a) ≡ None → type_meant s.sorts a ≡ Some k
    → IsResolved (naming_tests s (below x (Some k) bs) t) (meant s (x ∷ binders_of bs) t) (kind_of s (below x (Some k) bs) t) body
    → tm w.term ≡ lam_tree k (tm body.term) → type_of w.kind ≡ k ⇒ type_of body.kind
    → IsResolved (naming_tests s bs u) (meant s (binders_of bs) u) (kind_of s bs u) w
lam_whole s bs u t x a at k body w is sorts kind inner term type =
    record {
      passed = ap (λ v. first_fault (naming_tests s bs v)) is ∙ fault_after (sorts_of_type s.sorts a) (naming_tests s (below x (type_meant s.sorts a) bs) t) sorts
          ∙ ap (λ o. first_fault (naming_tests s (below x o bs) t)) kind ∙ inner.passed;
      term = ap (meant s (binders_of bs)) is ∙ ap₂ (both lam_tree) kind inner.term ∙ ap Some (sym term);
      kind = ap (kind_of s bs) is ∙ ap (λ o. both (λ b c. b ⇒ c) o (kind_of s (below x o bs) t)) kind ∙ ap (both (λ b c. b ⇒ c) (Some k)) inner.kind ∙ ap Some (sym type);
    }

pub lam_fails_at : (s : Scope) (bs : List TypedBinder) (u t : RTm) (x : Binder) (a : RTy) (at : ℕ) (e : Or SystemFault) → u ≡ lam x a t at → Fails (first_fault (sorts_of_type s.sorts a)) e
    → Fails (first_fault (naming_tests s bs u)) e
lam_fails_at s bs u t x a at e is h =
    let rest : List Test = naming_tests s (below x (type_meant s.sorts a) bs) t in
    fails_along e (first_fault (sorts_of_type s.sorts a ++ rest)) (first_fault (naming_tests s bs u)) (ap (λ v. first_fault (naming_tests s bs v)) is) (fails_first e (sorts_of_type s.sorts a) rest h)

pub lam_fails_in : (s : Scope) (bs : List TypedBinder) (u t : RTm) (x : Binder) (a : RTy) (at : ℕ) (k : Ty) (e : Or SystemFault) → u ≡ lam x a t at
    → first_fault (sorts_of_type s.sorts a) ≡ None → type_meant s.sorts a ≡ Some k → Fails (first_fault (naming_tests s (below x (Some k) bs) t)) e → Fails (first_fault (naming_tests s bs u)) e
lam_fails_in s bs u t x a at k e is sorts kind h =
    fails_along e (first_fault (naming_tests s (below x (Some k) bs) t)) (first_fault (naming_tests s bs u))
    (ap (λ v. first_fault (naming_tests s bs v)) is ∙ fault_after (sorts_of_type s.sorts a) (naming_tests s (below x (type_meant s.sorts a) bs) t) sorts
    ∙ ap (λ o. first_fault (naming_tests s (below x o bs) t)) kind) h

-- a spine
pub spine_whole : (s : Scope) (bs : List TypedBinder) (u h : RTm) (ts : RTms) (at : ℕ) (x : Resolved) (r : Result Resolved (Or SystemFault)) → u ≡ spine h ts at
    → IsResolved (naming_tests s bs h) (meant s (binders_of bs) h) (kind_of s bs h) x → ResolvesSpine s bs (Some (tm x.term)) (Some (type_of x.kind)) ts r → ResolvesTerm s bs u r
spine_whole s bs u h ts at x r is head rest =
    resolves_along r (applying_tests s bs (Some (type_of x.kind)) ts) (naming_tests s bs u) (applied_meant s (binders_of bs) (Some (tm x.term)) ts) (meant s (binders_of bs) u)
    (spine_kind s bs (Some (type_of x.kind)) ts) (kind_of s bs u)
    (ap (λ v. first_fault (naming_tests s bs v)) is ∙ fault_after (naming_tests s bs h) (applying_tests s bs (kind_of s bs h) ts) head.passed ∙ ap (λ k. first_fault (applying_tests s bs k ts)) head.kind)
    (ap (meant s (binders_of bs)) is ∙ ap (λ o. applied_meant s (binders_of bs) o ts) head.term)
    (ap (kind_of s bs) is ∙ ap (λ k. spine_kind s bs k ts) head.kind) rest

pub spine_fails_head : (s : Scope) (bs : List TypedBinder) (u h : RTm) (ts : RTms) (at : ℕ) (e : Or SystemFault) → u ≡ spine h ts at → Fails (first_fault (naming_tests s bs h)) e
    → Fails (first_fault (naming_tests s bs u)) e
spine_fails_head s bs u h ts at e is fails =
    let rest : List Test = applying_tests s bs (kind_of s bs h) ts in
    fails_along e (first_fault (naming_tests s bs h ++ rest)) (first_fault (naming_tests s bs u)) (ap (λ v. first_fault (naming_tests s bs v)) is) (fails_first e (naming_tests s bs h) rest fails)
