-- Flat trees and their values: which of them are calls, and of what type.
use Rattle.std.proofs.Common.{◌≡◌, ℕ, ◌⊎◌, inl, inr, List, [], ◌∷◌, Some, slice_get, refl, ap, ◌∙◌, sym, subst}
use Rattle.wh_types.specs.Ty.{Ty, sort, ◌⇒◌, arguments}
use Rattle.wh_terms.specs.Tree.{Tm, bound, free, fun, meta, lam, app, none, more, head}
use Rattle.wh_terms.specs.Typing.{Symbols, Declared, Typed, typed_fun, typed_meta, typed_app}
use Rattle.wh_terms.specs.Value.{Body}
use Rattle.wh_terms.proofs.TypingLaws.{some_one}
use Rattle.wh_terms.proofs.ValueForm.{value}
use Rattle.wh_hopoly.specs.Evaluation.{type_at}
use Rattle.wh_usable_first_order.specs.FirstOrder.{AreSorts, IsFlatTree, IsNullary}
use Rattle.wh_poly_meaning.proofs.TermValues.{at_is}
use Rattle.wh_usable_calls.specs.Bounds.{IsFlatCall, IsWholeCall}

-- parts of equal types

pub argument_one : {a b c d : Ty} → (a ⇒ b) ≡ (c ⇒ d) → a ≡ c
argument_one e = cc

pub result_one : {a b c d : Ty} → (a ⇒ b) ≡ (c ⇒ d) → b ≡ d
result_one e = cc

pub sort_one : {s r : ℕ} → sort s ≡ sort r → s ≡ r
sort_one e = cc

-- a symbol heads the tree
abbrev pub IsHeaded : Tm → Type 0
IsHeaded (fun f) = Unit {0}
IsHeaded (app t u) = IsHeaded t
IsHeaded _ = ⊥

pub head_headed : (t : Tm) (f : ℕ) → head t ≡ fun f → IsHeaded t
head_headed (bound i) f e = absurd (cc)
head_headed (free x a) f e = absurd (cc)
head_headed (fun g) f e = tt
head_headed (meta z ts) f e = absurd (cc)
head_headed (lam a t) f e = absurd (cc)
head_headed (app t u) f e = head_headed t f e

-- the first one of a list of sorts, and the others
pub first_sort : (a : Ty) (Γ : List Ty) → AreSorts (a ∷ Γ) → ((s : ℕ) × (a ≡ sort s)) × AreSorts Γ
first_sort (sort s) Γ h = ((s, refl), h)
first_sort (a ⇒ b) Γ h = absurd h

module _ (S : Symbols) (M : List Declared) where
  -- a meta-variable of a flat tree has a sort
  pub nullary_sort : (z : ℕ) (A : Ty) → IsNullary M z → Typed S M [] (meta z none) A
      → (s : ℕ) × (A ≡ sort s) × (slice_get M z ≡ Some (record { args = []; out = sort s }))
  nullary_sort z A (s, at) (typed_meta e ts o) = (s, o ∙ ap (λ (d : Declared). d.out) (some_one (sym e ∙ at)), at)

  -- what has an arrow type is headed by a symbol
  pub arrow_headed : (t : Tm) (a b : Ty) → IsFlatTree S M t → Typed S M [] t (a ⇒ b) → IsHeaded t
  arrow_headed (bound i) a b flat p = absurd flat
  arrow_headed (free x c) a b flat p = absurd flat
  arrow_headed (fun f) a b flat p = tt
  arrow_headed (meta z none) a b flat p = let (s, same, at) = nullary_sort z (a ⇒ b) flat p in absurd (cc)
  arrow_headed (meta z (more t ts)) a b flat p = absurd flat
  arrow_headed (lam c t) a b flat p = absurd flat
  arrow_headed (app t u) a b flat (typed_app {a = c} p q) = arrow_headed t c (a ⇒ b) flat.0 p

  -- the types of further arguments are sorts
  pub flat_sorts : (t : Tm) (A : Ty) → IsHeaded t → IsFlatTree S M t → Typed S M [] t A → AreSorts (arguments A)
  flat_sorts (bound i) A h flat p = absurd h
  flat_sorts (free x c) A h flat p = absurd h
  flat_sorts (fun f) A h flat (typed_fun e) = subst (λ a. AreSorts (arguments a)) (at_is S.funs f A e) flat
  flat_sorts (meta z ts) A h flat p = absurd h
  flat_sorts (lam c t) A h flat p = absurd h
  flat_sorts (app t u) A h flat (typed_app {a = c} p q) = (first_sort c (arguments A) (flat_sorts t (c ⇒ A) h flat.0 p)).1

  -- the argument of a flat tree has a sort
  pub argument_sort : (t : Tm) (a b : Ty) → IsFlatTree S M t → Typed S M [] t (a ⇒ b) → (s : ℕ) × (a ≡ sort s)
  argument_sort t a b flat p = (first_sort a (arguments b) (flat_sorts t (a ⇒ b) (arrow_headed t a b flat p) flat p)).0

  -- the value of a flat tree that a symbol heads is a call
  pub value_call : (g : ℕ → Body) (t : Tm) (A : Ty) → IsHeaded t → IsFlatTree S M t → Typed S M [] t A → IsFlatCall S (value g t) A
  unfolding value
  value_call g (bound i) A h flat p = absurd h
  value_call g (free x c) A h flat p = absurd h
  value_call g (fun f) A h flat (typed_fun e) = at_is S.funs f A e
  value_call g (meta z ts) A h flat p = absurd h
  value_call g (lam c t) A h flat p = absurd h
  value_call g (app t u) A h flat (typed_app {a = c} p q) =
      let (s, same) = argument_sort t c A flat.0 p in
      (s, subst (λ a. IsFlatCall S (value g t) (a ⇒ A)) same (value_call g t (c ⇒ A) h flat.0 p))

-- the type of a call is one
pub call_one : (S : Symbols) (t : Tm) (A B : Ty) → IsFlatCall S t A → IsFlatCall S t B → A ≡ B
call_one S (bound i) A B p q = absurd p
call_one S (free x a) A B p q = absurd p
call_one S (fun f) A B p q = sym p ∙ q
call_one S (meta z ts) A B p q = absurd p
call_one S (lam a t) A B p q = absurd p
call_one S (app t u) A B (s, p) (r, q) = result_one (call_one S t (sort s ⇒ A) (sort r ⇒ B) p q)

-- whether a tree is a call is decided
abbrev pub IsSomeCall : Symbols → Tm → Type 0
IsSomeCall S t = (A : Ty) × IsFlatCall S t A

no_call : (S : Symbols) (t u : Tm) → (IsSomeCall S t → ⊥) → IsSomeCall S (app t u) → ⊥
no_call S t u never (A, (s, p)) = never (sort s ⇒ A, p)

call_or_not : (S : Symbols) (t : Tm) → IsSomeCall S t ⊎ (IsSomeCall S t → ⊥)
call_or_not S (bound i) = inr (λ p. p.1)
call_or_not S (free x a) = inr (λ p. p.1)
call_or_not S (fun f) = inl (type_at S.funs f, refl)
call_or_not S (meta z ts) = inr (λ p. p.1)
call_or_not S (lam a t) = inr (λ p. p.1)
call_or_not S (app t u) = go (call_or_not S t)
  where
    by_type : (A : Ty) → IsFlatCall S t A → IsSomeCall S (app t u) ⊎ (IsSomeCall S (app t u) → ⊥)
    by_type (sort r) p = inr (λ (A, (s, q)). let same : sort r ≡ (sort s ⇒ A) = call_one S t (sort r) (sort s ⇒ A) p q in absurd (cc))
    by_type (sort r ⇒ B) p = inl (B, (r, p))
    by_type ((a ⇒ b) ⇒ B) p =
        inr (λ (A, (s, q)). let same : ((a ⇒ b) ⇒ B) ≡ (sort s ⇒ A) = call_one S t ((a ⇒ b) ⇒ B) (sort s ⇒ A) p q in absurd (cc))

    go : IsSomeCall S t ⊎ (IsSomeCall S t → ⊥) → IsSomeCall S (app t u) ⊎ (IsSomeCall S (app t u) → ⊥)
    go (inl (A, p)) = by_type A p
    go (inr never) = inr (no_call S t u never)

-- and whether it is a whole one
pub whole_or_not : (S : Symbols) (t : Tm) → IsWholeCall S t ⊎ (IsWholeCall S t → ⊥)
whole_or_not S t = go (call_or_not S t)
  where
    by_type : (A : Ty) → IsFlatCall S t A → IsWholeCall S t ⊎ (IsWholeCall S t → ⊥)
    by_type (sort s) p = inl (s, p)
    by_type (a ⇒ b) p = inr (λ (s, q). let same : (a ⇒ b) ≡ sort s = call_one S t (a ⇒ b) (sort s) p q in absurd (cc))

    go : IsSomeCall S t ⊎ (IsSomeCall S t → ⊥) → IsWholeCall S t ⊎ (IsWholeCall S t → ⊥)
    go (inl (A, p)) = by_type A p
    go (inr never) = inr (λ (s, p). never (sort s, p))
