-- Plain names, binders' numbers and meta-variables, resolved.
use Rattle.std.proofs.Common.{◌≡◌, ℕ, ◌<◌, List, [], ◌∷◌, Option, Some, None, Bool, true, false, not, map, length, refl, ap, ap₂, sym, ◌∙◌, arith, get_or, zero, suc, eqb-true, eq-eqb, Result, Ok, Err}
use Rattle.std.specs.Prelude.{◌==◌, ◌&&◌, ◌||◌, is_some, option_map, option_and_then, slice_get, slice_index_or}
use Rattle.std.specs.Str.{bytes_eq}
use Rattle.std.proofs.lemmas.List.Quantifiers.{position-Some}
use Rattle.wh_types.specs.Ty.{Ty}
use Rattle.wh_types.specs.declared.want.Or.{Or}
use Rattle.wh_types.specs.declared.want.Or.TheVariants.{NoMemory, Because}
use Rattle.wh_terms.specs.Tree.{Tm, bound, fun, meta, none as no_tms}
use Rattle.wh_terms.specs.Typing.{Declared}
use Rattle.wh_text.specs.RawTree.{named, numbered, named_binder, numbered_binder, RTms}
use Rattle.wh_system_parts.specs.declared.fault.SystemFault.{SystemFault}
use Rattle.wh_system_parts.specs.declared.fault.SystemFault.TheVariants.{UnknownName, IllTyped}
use Rattle.wh_system_resolve.specs.declared.around.Resolved.{Resolved}
use Rattle.wh_system_resolve.specs.Answers.{Resolves}
use Rattle.wh_system_parts.specs.Faults.{Test, first_of, first_fault}
use Rattle.wh_system_parts.specs.Naming.{Scope, number_of, is_declared, binder_number, name_meant, or_else}
use Rattle.wh_system_parts.specs.Kinds.{TypedBinder, binders_of, name_kind, outer_kind, meta_kind, are_wanted, declaration, where_true}
use Rattle.wh_system_resolve.specs.Resolving.{ResolvesTerm, fitting_tests, applied_tests}
use Rattle.wh_system_parts.specs.Tests.{test, count_of, arity_of, args_of, naming_tests}
use Rattle.wh_system_resolve.proofs.AnswerLemmas.{resolves_along}

-- the tests of a plain name, where the nearest binder of the name is o, and the meta-variable p
abbrev name_tests_at : Scope → List ℕ → ℕ → Option ℕ → Option ℕ → List Test
name_tests_at s n at o p =
    test (not (is_some o || (is_some p || is_declared s.funs n))) (UnknownName at) ∷ test (not (is_some o) && is_some p && not (arity_of (option_and_then (λ z. slice_get s.declared z) p) == 0)) (IllTyped at) ∷ []

bound-kind : (slot other : Option Ty) (u : Tm) (tests : List Test) (v : Option Tm) (r : Result Resolved (Or SystemFault)) → first_fault tests ≡ None → v ≡ Some u → Resolves [] (Some u) slot r
    → Resolves tests v (or_else slot other) r
bound-kind slot other u tests v (Ok x) e f h = record { passed = e; term = f ∙ h.term; kind = ap (λ o. or_else o other) h.kind }
bound-kind slot other u tests v (Err NoMemory) e f h = tt
bound-kind slot other u tests v (Err (Because x)) e f h = absurd (grind arith)

-- a name that a binder has
pub named_bound : (s : Scope) (bs : List TypedBinder) (n : List ℕ) (at i : ℕ) (r : Result Resolved (Or SystemFault)) → binder_number (binders_of bs) (named_binder n) ≡ Some i
    → Resolves [] (Some (bound i)) (slice_index_or (map (λ b. b.kind) bs) i None) r → ResolvesTerm s bs (named n at) r
named_bound s bs n at i r e h =
    resolves_along r (naming_tests s bs (named n at)) (naming_tests s bs (named n at)) (name_meant s (binders_of bs) n) (name_meant s (binders_of bs) n)
    (or_else (slice_index_or (map (λ b. b.kind) bs) i None) (outer_kind s n (number_of s.metas n))) (name_kind s bs n) refl refl
    (ap (λ o. or_else (option_and_then (λ j. slice_index_or (map (λ b. b.kind) bs) j None) o) (outer_kind s n (number_of s.metas n))) e)
    (bound-kind (slice_index_or (map (λ b. b.kind) bs) i None) (outer_kind s n (number_of s.metas n)) (bound i) (naming_tests s bs (named n at)) (name_meant s (binders_of bs) n) r
    (ap (λ o. first_fault (name_tests_at s n at o (number_of s.metas n))) e)
    (ap (λ o. or_else (option_map bound o) (or_else (option_map (λ z. meta z no_tms) (number_of s.metas n)) (option_map fun (number_of s.funs n)))) e) h)

pub numbered_bound : (s : Scope) (bs : List TypedBinder) (k at i : ℕ) (r : Result Resolved (Or SystemFault)) → binder_number (binders_of bs) (numbered_binder k) ≡ Some i
    → Resolves [] (Some (bound i)) (slice_index_or (map (λ b. b.kind) bs) i None) r → ResolvesTerm s bs (numbered k at) r
numbered_bound s bs k at i r e h =
    resolves_along r [] (test (not (is_some (binder_number (binders_of bs) (numbered_binder k)))) (UnknownName at) ∷ []) (Some (bound i)) (option_map bound (binder_number (binders_of bs) (numbered_binder k)))
    (slice_index_or (map (λ b. b.kind) bs) i None) (option_and_then (λ j. slice_index_or (map (λ b. b.kind) bs) j None) (binder_number (binders_of bs) (numbered_binder k)))
    (ap (λ o. first_fault (test (not (is_some o)) (UnknownName at) ∷ [])) e) (ap (option_map bound) e) (ap (option_and_then (λ j. slice_index_or (map (λ b. b.kind) bs) j None)) e) h

pub numbered_none : (s : Scope) (bs : List TypedBinder) (k at : ℕ) → binder_number (binders_of bs) (numbered_binder k) ≡ None → first_fault (naming_tests s bs (numbered k at)) ≡ Some (UnknownName at)
numbered_none s bs k at e = ap (λ o. first_fault (test (not (is_some o)) (UnknownName at) ∷ [])) e

-- a name that no binder has stands for the same as below no binder
pub named_outside : (s : Scope) (bs : List TypedBinder) (n : List ℕ) (at : ℕ) (r : Result Resolved (Or SystemFault)) → binder_number (binders_of bs) (named_binder n) ≡ None
    → ResolvesTerm s [] (named n at) r → ResolvesTerm s bs (named n at) r
named_outside s bs n at r e h =
    resolves_along r (naming_tests s [] (named n at)) (naming_tests s bs (named n at)) (name_meant s [] n) (name_meant s (binders_of bs) n) (name_kind s [] n) (name_kind s bs n)
    (ap (λ o. first_fault (name_tests_at s n at o (number_of s.metas n))) e)
    (ap (λ o. or_else (option_map bound o) (or_else (option_map (λ z. meta z no_tms) (number_of s.metas n)) (option_map fun (number_of s.funs n)))) e)
    (ap (λ o. or_else (option_and_then (λ j. slice_index_or (map (λ b. b.kind) bs) j None) o) (outer_kind s n (number_of s.metas n))) e) h

-- a plain name of a meta-variable
pub plain_tests : (s : Scope) (n : List ℕ) (at z : ℕ) (d : Declared) → number_of s.metas n ≡ Some z → slice_get s.declared z ≡ Some d
    → first_fault (naming_tests s [] (named n at)) ≡ first_of (not (length d.args == 0)) (IllTyped at) None
plain_tests s n at z d e f =
    ap (λ p. first_fault (name_tests_at s n at None p)) e ∙ ap (λ o. first_of (not (arity_of o == 0)) (IllTyped at) None) f

pub plain_meta : (s : Scope) (n : List ℕ) (z : ℕ) → number_of s.metas n ≡ Some z → name_meant s [] n ≡ Some (meta z no_tms)
plain_meta s n z e = ap (λ p. or_else (option_map (λ y. meta y no_tms) p) (option_map fun (number_of s.funs n))) e

no-arguments : (as' : List Ty) → not (length as' == 0) ≡ false → are_wanted [] as' ≡ true
no-arguments [] e = refl
no-arguments (a ∷ as') e = absurd (grind arith)

pub plain_kind : (s : Scope) (n : List ℕ) (z : ℕ) (d : Declared) → number_of s.metas n ≡ Some z → slice_get s.declared z ≡ Some d → not (length d.args == 0) ≡ false → name_kind s [] n ≡ Some d.out
plain_kind s n z d e f bare =
    ap (outer_kind s n) e ∙ ap (λ o. meta_kind o []) f ∙ ap (λ b. where_true b (Some d.out)) (no-arguments d.args bare)

-- a plain name of a symbol, and one of nothing
pub plain_fun_tests : (s : Scope) (n : List ℕ) (at f : ℕ) → number_of s.metas n ≡ None → number_of s.funs n ≡ Some f → first_fault (naming_tests s [] (named n at)) ≡ None
plain_fun_tests s n at f e g =
    ap (λ p. first_fault (name_tests_at s n at None p)) e ∙ ap (λ p. first_of (not (is_some p)) (UnknownName at) None) g

pub plain_fun : (s : Scope) (n : List ℕ) (f : ℕ) → number_of s.metas n ≡ None → number_of s.funs n ≡ Some f → name_meant s [] n ≡ Some (fun f)
plain_fun s n f e g = ap₂ (λ p q. or_else (option_map (λ y. meta y no_tms) p) (option_map fun q)) e g

pub plain_fun_kind : (s : Scope) (n : List ℕ) (f : ℕ) (a : Ty) → number_of s.metas n ≡ None → number_of s.funs n ≡ Some f → slice_get s.kinds f ≡ Some a → name_kind s [] n ≡ Some a
plain_fun_kind s n f a e g k = ap (outer_kind s n) e ∙ ap (option_and_then (λ i. slice_get s.kinds i)) g ∙ k

pub plain_unknown : (s : Scope) (n : List ℕ) (at : ℕ) → number_of s.metas n ≡ None → number_of s.funs n ≡ None → first_fault (naming_tests s [] (named n at)) ≡ Some (UnknownName at)
plain_unknown s n at e g =
    ap (λ p. first_fault (name_tests_at s n at None p)) e ∙ ap (λ p. first_of (not (is_some p)) (UnknownName at) None) g

-- a number in a list is below its length
pub number_below : (names : List (List ℕ)) (n : List ℕ) (z : ℕ) → number_of names n ≡ Some z → z < length names
number_below names n z e = (position-Some (λ other. bytes_eq other n) names z n e).0

-- the item at a place, as a list of what items stand for has it
pub slice_get_mapped : {X Y : Type 0} (f : X → Y) (xs : List X) (i : ℕ) (x : X) → i < length xs → x ≡ get_or xs i x → slice_get (map f xs) i ≡ Some (f x)
slice_get_mapped f [] i x within e = absurd (omega arith)
slice_get_mapped f (y ∷ ys) zero x within e = ap (λ z. Some (f z)) (sym e)
slice_get_mapped f (y ∷ ys) (suc i) x within e = slice_get_mapped f ys i x (omega arith) e

-- a meta-variable with arguments whose types are given
abbrev meta_tests_at : Scope → List Ty → RTms → ℕ → Option ℕ → List Test
meta_tests_at s gs ts at p =
    test (not (is_some p)) (UnknownName at) ∷ test (not (arity_of (option_and_then (λ z. slice_get s.declared z) p) == count_of ts)) (IllTyped at) ∷ fitting_tests gs ts (args_of (option_and_then (λ z. slice_get s.declared z) p))

pub meta_unknown : (s : Scope) (n : List ℕ) (gs : List Ty) (ts : RTms) (at : ℕ) → number_of s.metas n ≡ None → first_fault (applied_tests s n gs ts at) ≡ Some (UnknownName at)
meta_unknown s n gs ts at e = ap (λ p. first_fault (meta_tests_at s gs ts at p)) e

meta-known : (s : Scope) (n : List ℕ) (gs : List Ty) (ts : RTms) (at z : ℕ) (d : Declared) → number_of s.metas n ≡ Some z → slice_get s.declared z ≡ Some d
    → first_fault (applied_tests s n gs ts at) ≡ first_of (not (length d.args == count_of ts)) (IllTyped at) (first_fault (fitting_tests gs ts d.args))
meta-known s n gs ts at z d e f =
    ap (λ p. first_fault (meta_tests_at s gs ts at p)) e ∙ ap (λ o. first_of (not (arity_of o == count_of ts)) (IllTyped at) (first_fault (fitting_tests gs ts (args_of o)))) f

pub meta_uneven : (s : Scope) (n : List ℕ) (gs : List Ty) (ts : RTms) (at z : ℕ) (d : Declared) → number_of s.metas n ≡ Some z → slice_get s.declared z ≡ Some d → (length d.args ≡ count_of ts → ⊥)
    → first_fault (applied_tests s n gs ts at) ≡ Some (IllTyped at)
meta_uneven s n gs ts at z d e f other =
    meta-known s n gs ts at z d e f ∙ ap (λ b. first_of b (IllTyped at) (first_fault (fitting_tests gs ts d.args))) (go (length d.args == count_of ts) refl)
  where
    go : (b : Bool) → (length d.args == count_of ts) ≡ b → not (length d.args == count_of ts) ≡ true
    go true is = absurd (other (eqb-true (length d.args) (count_of ts) is))
    go false is = ap not is

pub meta_even : (s : Scope) (n : List ℕ) (gs : List Ty) (ts : RTms) (at z : ℕ) (d : Declared) → number_of s.metas n ≡ Some z → slice_get s.declared z ≡ Some d → length d.args ≡ count_of ts
    → first_fault (applied_tests s n gs ts at) ≡ first_fault (fitting_tests gs ts d.args)
meta_even s n gs ts at z d e f long =
    meta-known s n gs ts at z d e f ∙ ap (λ b. first_of (not b) (IllTyped at) (first_fault (fitting_tests gs ts d.args))) (eq-eqb (length d.args) (count_of ts) long)

pub meta_kind_is : (s : Scope) (n : List ℕ) (gs : List Ty) (z : ℕ) (d : Declared) → number_of s.metas n ≡ Some z → slice_get s.declared z ≡ Some d → are_wanted (map Some gs) d.args ≡ true
    → meta_kind (declaration s n) (map Some gs) ≡ Some d.out
meta_kind_is s n gs z d e f fits =
    ap (λ p. meta_kind (option_and_then (λ y. slice_get s.declared y) p) (map Some gs)) e ∙ ap (λ o. meta_kind o (map Some gs)) f ∙ ap (λ b. where_true b (Some d.out)) fits
