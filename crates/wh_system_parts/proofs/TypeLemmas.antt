-- What types stand for.
use Rattle.std.proofs.Common.{◌≡◌, ℕ, ◌+◌, ◌<◌, ◌≤◌, false, not, List, [], ◌∷◌, ◌++◌, length, drop, get_or, Option, Some, None, option_map, option_and_then, unwrap_or, is_some, refl, ap, sym, ◌∙◌, append_assoc, append-nil}
use Rattle.std.proofs.lemmas.List.{map-append}
use Rattle.wh_text.specs.RawTree.{RTy, raw_type, RTys, no_types, more_types}
use Rattle.wh_text.specs.Erase.{rty, rtys}
use Rattle.wh_text.specs.declared.raw.RawType.{RawType, out-RawType}
use Rattle.wh_text.proofs.RawLemmas.{rty_parts}
use Rattle.wh_types.specs.Ty.{Ty, sort, ◌⇒◌}
use Rattle.wh_types.specs.Erase.{ty, tys}
use Rattle.wh_types.specs.declared.simple_type.SimpleType.{SimpleType}
use Rattle.wh_system_parts.specs.declared.fault.SystemFault.{SystemFault}
use Rattle.wh_system_parts.specs.declared.fault.SystemFault.TheVariants.{UnknownName}
use Rattle.wh_system_parts.specs.Faults.{first_fault}
use Rattle.wh_system_parts.specs.Naming.{number_of, is_declared, type_meant, arrows_meant, arrows_over}
use Rattle.wh_system_parts.specs.Tests.{test, sorts_of_type, sorts_of_types}
use Rattle.wh_system_parts.specs.RuleTests.{type_of_raw, types_of_raw}
use Rattle.wh_system_parts.proofs.FaultLemmas.{fault_after, fault_in_first, fault_in_second, no_fault_in_both, no_fault_in_parts, no_fault_at_test, fault_at_test, past_test}
use Rattle.wh_system_parts.proofs.RawTypes.{types_next, types_end}

-- where none of its sorts is missing, a type stands for something

stands_by : (m : Option Ty) (o : Option ℕ) (F : Option ℕ → Option Ty) (G : ℕ → Ty) → m ≡ F o → ((n : ℕ) → F (Some n) ≡ Some (G n))
    → not (is_some o) ≡ false → m ≡ Some (unwrap_or m (sort 0))
stands_by m (Some n) F G e all there =
    let p = e ∙ all n in p ∙ ap Some (sym (ap (λ o. unwrap_or o (sort 0)) p))
stands_by m None F G e all there = absurd (cc there)

mutual
  pub arrows_stand : (S : List (List ℕ)) (args : RTys) (r : Ty) → first_fault (sorts_of_types S args) ≡ None
      → arrows_meant S args (Some r) ≡ Some (arrows_over (types_of_raw S args) r)
  arrows_stand S no_types r passed = refl
  arrows_stand S (more_types a rest) r passed =
      let parts = no_fault_in_parts (sorts_of_type S a) (sorts_of_types S rest) passed in
      λ i. option_and_then (λ b. option_map (λ c. b ⇒ c) (arrows_stand S rest r parts.1 i)) (type_stands S a parts.0 i)

  pub type_stands : (S : List (List ℕ)) (a : RTy) → first_fault (sorts_of_type S a) ≡ None → type_meant S a ≡ Some (type_of_raw S a)
  type_stands S (raw_type args s at) passed =
      let parts = no_fault_in_parts (sorts_of_types S args) (test (not (is_declared S s)) (UnknownName at) ∷ []) passed in
      let there = no_fault_at_test (not (is_declared S s)) (UnknownName at) [] parts.1 in
      stands_by (type_meant S (raw_type args s at)) (number_of S s) (λ o. arrows_meant S args (option_map sort o)) (λ n. arrows_over (types_of_raw S args) (sort n)) refl
      (λ n. arrows_stand S args (sort n) parts.0) there.0

-- a type whose arguments and sort are there

pub type_resolved : (S : List (List ℕ)) (a : RawType) (domains : List SimpleType) (n : ℕ) (whole : SimpleType)
    → first_fault (sorts_of_types S (rtys (out-RawType a).args)) ≡ None → types_of_raw S (rtys (out-RawType a).args) ≡ tys domains
    → number_of S (out-RawType a).sort ≡ Some n → ty whole ≡ arrows_over (tys domains) (sort n)
    → (first_fault (sorts_of_type S (rty a)) ≡ None) × (type_meant S (rty a) ≡ Some (ty whole))
type_resolved S a domains n whole passed same number is =
    let args = rtys (out-RawType a).args in
    let last = test (not (is_declared S (out-RawType a).sort)) (UnknownName (out-RawType a).at) ∷ [] in (
      ap (λ t. first_fault (sorts_of_type S t)) (rty_parts a)
          ∙ no_fault_in_both (sorts_of_types S args) last passed (past_test (not (is_declared S (out-RawType a).sort)) (UnknownName (out-RawType a).at) [] (ap (λ o. not (is_some o)) number)),
      ap (type_meant S) (rty_parts a) ∙ ap (λ o. arrows_meant S args (option_map sort o)) number ∙ arrows_stand S args (sort n) passed
          ∙ ap (λ ds. Some (arrows_over ds (sort n))) same ∙ ap Some (sym is),
    )

pub type_unknown : (S : List (List ℕ)) (a : RawType) → first_fault (sorts_of_types S (rtys (out-RawType a).args)) ≡ None
    → number_of S (out-RawType a).sort ≡ None → first_fault (sorts_of_type S (rty a)) ≡ Some (UnknownName (out-RawType a).at)
type_unknown S a passed number =
    let last = test (not (is_declared S (out-RawType a).sort)) (UnknownName (out-RawType a).at) ∷ [] in
    ap (λ t. first_fault (sorts_of_type S t)) (rty_parts a)
    ∙ fault_in_second (sorts_of_types S (rtys (out-RawType a).args)) last (UnknownName (out-RawType a).at) passed
    (fault_at_test (not (is_declared S (out-RawType a).sort)) (UnknownName (out-RawType a).at) [] (ap (λ o. not (is_some o)) number))

pub type_inner : (S : List (List ℕ)) (a : RawType) (f : SystemFault) → first_fault (sorts_of_types S (rtys (out-RawType a).args)) ≡ Some f
    → first_fault (sorts_of_type S (rty a)) ≡ Some f
type_inner S a f e =
    ap (λ t. first_fault (sorts_of_type S t)) (rty_parts a)
    ∙ fault_in_first (sorts_of_types S (rtys (out-RawType a).args)) (test (not (is_declared S (out-RawType a).sort)) (UnknownName (out-RawType a).at) ∷ []) f e

-- the last of the arguments goes first

pub arrows_pop : (xs : List SimpleType) (d : SimpleType) (r : Ty) → arrows_over (tys (xs ++ d ∷ [])) r ≡ arrows_over (tys xs) (ty d ⇒ r)
arrows_pop [] d r = refl
arrows_pop (x ∷ xs) d r = ap (λ b. ty x ⇒ b) (arrows_pop xs d r)

-- types that are resolved one after another

pub sorts_next : (S : List (List ℕ)) (xs : List RawType) (i : ℕ) (a : RawType) → i < length xs → a ≡ get_or xs i a → first_fault (sorts_of_type S (rty a)) ≡ None
    → first_fault (sorts_of_types S (rtys (drop i xs))) ≡ first_fault (sorts_of_types S (rtys (drop (i + 1) xs)))
sorts_next S xs i a within e passed =
    ap (λ us. first_fault (sorts_of_types S us)) (types_next xs i a within e)
    ∙ fault_after (sorts_of_type S (rty a)) (sorts_of_types S (rtys (drop (i + 1) xs))) passed

pub sorts_fail : (S : List (List ℕ)) (xs : List RawType) (i : ℕ) (a : RawType) (f : SystemFault) → i < length xs → a ≡ get_or xs i a
    → first_fault (sorts_of_type S (rty a)) ≡ Some f → first_fault (sorts_of_types S (rtys (drop i xs))) ≡ Some f
sorts_fail S xs i a f within e failed =
    ap (λ us. first_fault (sorts_of_types S us)) (types_next xs i a within e)
    ∙ fault_in_first (sorts_of_type S (rty a)) (sorts_of_types S (rtys (drop (i + 1) xs))) f failed

pub types_push : (S : List (List ℕ)) (xs : List RawType) (i : ℕ) (a : RawType) (all : List Ty) (out ys : List SimpleType) (r : SimpleType) → i < length xs → a ≡ get_or xs i a
    → type_meant S (rty a) ≡ Some (ty r) → all ≡ tys out ++ types_of_raw S (rtys (drop i xs)) → ys ≡ out ++ r ∷ []
    → all ≡ tys ys ++ types_of_raw S (rtys (drop (i + 1) xs))
types_push S xs i a all out ys r within e is same pushed =
    let rest = types_of_raw S (rtys (drop (i + 1) xs)) in
    same ∙ ap (λ us. tys out ++ types_of_raw S us) (types_next xs i a within e)
    ∙ ap (λ o. tys out ++ unwrap_or o (sort 0) ∷ rest) is
    ∙ sym (append_assoc (tys out) (ty r ∷ []) rest)
    ∙ ap (λ us. us ++ rest) (sym (map-append ty out (r ∷ [])))
    ∙ ap (λ us. tys us ++ rest) (sym pushed)

pub types_done : (S : List (List ℕ)) (xs : List RawType) (i : ℕ) (all : List Ty) (out : List SimpleType) → length xs ≤ i
    → all ≡ tys out ++ types_of_raw S (rtys (drop i xs)) → all ≡ tys out
types_done S xs i all out past same =
    same ∙ ap (λ us. tys out ++ types_of_raw S us) (types_end xs i past) ∙ append-nil (tys out)
