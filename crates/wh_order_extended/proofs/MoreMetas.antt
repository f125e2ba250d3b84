-- More meta-variables: those that are added for missing arguments, and what is known where they are there.
use Rattle.std.proofs.Common.{◌≡◌, ℕ, zero, suc, ◌+◌, ◌⊎◌, inl, inr, List, [], ◌∷◌, ◌++◌, length, refl, ap, ◌∙◌, subst, Some, slice_get, arith}
use Rattle.wh_types.specs.Ty.{Ty, SortsBelow}
use Rattle.wh_terms.specs.Tree.{Tm, meta, app, Tms, none, tms_of, spine}
use Rattle.wh_terms.specs.Sight.{Occurs, OccursIn, NoFree}
use Rattle.wh_terms.specs.Pattern.{IsPatternSpine}
use Rattle.wh_terms.specs.Typing.{Symbols, Declared, Typed, typed_bound, typed_free, typed_fun, typed_meta, typed_lam, typed_app, AllTyped, typed_none, typed_more}
use Rattle.wh_terms.specs.Value.{Body}
use Rattle.wh_terms.proofs.TypingLaws.{some_one}
use Rattle.wh_terms.proofs.ValueForm.{FitsBodies, AllFitBodies}
use Rattle.wh_terms.proofs.ValueTyping.{typed_count}
use Rattle.wh_order_extended.specs.Kinds.{arrows, KnowsMetas}
use Rattle.wh_order_extended.specs.ExtendedSides.{added, added_from}

pub get_front : (M N : List Declared) (z : ℕ) (d : Declared) → slice_get M z ≡ Some d → slice_get (M ++ N) z ≡ Some d
get_front [] N z d e = absurd (cc)
get_front (c ∷ M) N zero d e = e
get_front (c ∷ M) N (suc z) d e = get_front M N z d e

get_behind : (M N : List Declared) (i : ℕ) → slice_get (M ++ N) (length M + i) ≡ slice_get N i
get_behind [] N i = ap (slice_get N) (omega arith)
get_behind (c ∷ M) N i = ap (slice_get (c ∷ (M ++ N))) (one_more (length M) i) ∙ get_behind M N i
  where
    one_more : (m i : ℕ) → suc m + i ≡ suc (m + i)
    one_more m i = omega arith

mutual
  -- a tree keeps its type where more meta-variables are declared
  pub typed_wider : {S : Symbols} {M : List Declared} {Γ : List Ty} {t : Tm} {a : Ty} (N : List Declared) → Typed S M Γ t a → Typed S (M ++ N) Γ t a
  typed_wider N (typed_bound e) = typed_bound e
  typed_wider N (typed_free p) = typed_free p
  typed_wider N (typed_fun e) = typed_fun e
  typed_wider N (typed_meta {M = M} {z = z} {d = d} e ps o) = typed_meta (get_front M N z d e) (all_typed_wider N ps) o
  typed_wider N (typed_lam s p) = typed_lam s (typed_wider N p)
  typed_wider N (typed_app p q) = typed_app (typed_wider N p) (typed_wider N q)

  all_typed_wider : {S : Symbols} {M : List Declared} {Γ : List Ty} {ts : Tms} {cs : List Ty} (N : List Declared) → AllTyped S M Γ ts cs → AllTyped S (M ++ N) Γ ts cs
  all_typed_wider N typed_none = typed_none
  all_typed_wider N (typed_more p ps) = typed_more (typed_wider N p) (all_typed_wider N ps)

added_at : (S : Symbols) (L : List Declared) (cs : List Ty) (n : ℕ) → ((i : ℕ) → slice_get L (n + i) ≡ slice_get (added cs) i) → AllTyped S L [] (tms_of (added_from n cs)) cs
added_at S L [] n h = typed_none
added_at S L (c ∷ cs) n h =
    typed_more (typed_meta {d = record { args = []; out = c }} (ap (slice_get L) (omega arith) ∙ h 0) typed_none refl)
    (added_at S L cs (suc n) (λ i. ap (slice_get L) (omega arith) ∙ h (suc i)))

-- the added meta-variables have the types that they are added for
pub added_typed : (S : Symbols) (M : List Declared) (cs : List Ty) → AllTyped S (M ++ added cs) [] (tms_of (added_from (length M) cs)) cs
added_typed S M cs = added_at S (M ++ added cs) cs (length M) (get_behind M (added cs))

knows_append : (S : Symbols) (M N : List Declared) → KnowsMetas S M → KnowsMetas S N → KnowsMetas S (M ++ N)
knows_append S [] N h k z d e = k z d e
knows_append S (c ∷ M) N h k zero d e = h 0 d e
knows_append S (c ∷ M) N h k (suc z) d e = knows_append S M N (λ z d e. h (suc z) d e) k z d e

knows_added : (S : Symbols) (cs : List Ty) (b : Ty) → SortsBelow S.sorts (arrows cs b) → KnowsMetas S (added cs)
knows_added S [] b h z d e = absurd (cc)
knows_added S (c ∷ cs) b h zero d e = subst (λ d. SortsBelow S.sorts d.out) (some_one e) h.0
knows_added S (c ∷ cs) b h (suc z) d e = knows_added S cs b h.1 z d e

pub knows_more : (S : Symbols) (M : List Declared) (cs : List Ty) (b : Ty) → KnowsMetas S M → SortsBelow S.sorts (arrows cs b) → KnowsMetas S (M ++ added cs)
knows_more S M cs b h k = knows_append S M (added cs) h (knows_added S cs b k)

pub pattern_added : (t : Tm) (n : ℕ) (cs : List Ty) → IsPatternSpine 0 t → IsPatternSpine 0 (spine t (added_from n cs))
pattern_added t n [] p = p
pattern_added t n (c ∷ cs) p = pattern_added (app t (meta n none)) (suc n) cs (p, (tt, tt))

pub closed_added : (t : Tm) (n : ℕ) (cs : List Ty) → NoFree t → NoFree (spine t (added_from n cs))
closed_added t n [] p = p
closed_added t n (c ∷ cs) p = closed_added (app t (meta n none)) (suc n) cs (p, tt)

-- what occurs in a spine occurs in its head or in its arguments
pub occurs_spine : (z : ℕ) (h : Tm) (ts : List Tm) → Occurs z (spine h ts) → Occurs z h ⊎ OccursIn z (tms_of ts)
occurs_spine z h [] o = inl o
occurs_spine z h (t ∷ ts) o = on (occurs_spine z (app h t) ts o)
  where
    on : Occurs z (app h t) ⊎ OccursIn z (tms_of ts) → Occurs z h ⊎ OccursIn z (tms_of (t ∷ ts))
    on (inl (inl o)) = inl o
    on (inl (inr o)) = inr (inl o)
    on (inr o) = inr (inr o)

pub spine_occurs : (z : ℕ) (h : Tm) (ts : List Tm) → Occurs z h ⊎ OccursIn z (tms_of ts) → Occurs z (spine h ts)
spine_occurs z h [] (inl o) = o
spine_occurs z h [] (inr o) = absurd o
spine_occurs z h (t ∷ ts) (inl o) = spine_occurs z (app h t) ts (inl (inl o))
spine_occurs z h (t ∷ ts) (inr (inl o)) = spine_occurs z (app h t) ts (inl (inr o))
spine_occurs z h (t ∷ ts) (inr (inr o)) = spine_occurs z (app h t) ts (inr o)

-- a declaration that a body fits
pub record Fitted (M : List Declared) (g : ℕ → Body) (z : ℕ) : Type 0 where
  pub declared : Declared
  pub at : slice_get M z ≡ Some declared
  pub counted : (g z).arity ≡ length declared.args

mutual
  -- a meta-variable that occurs in a typed tree is declared, and its body has as many parameters as it has arguments
  pub fitted : {S : Symbols} {M : List Declared} {Γ : List Ty} {t : Tm} {a : Ty} (g : ℕ → Body) (z : ℕ) → Typed S M Γ t a → FitsBodies g t → Occurs z t → Fitted M g z
  fitted g z (typed_bound e) f o = absurd o
  fitted g z (typed_free p) f o = absurd o
  fitted g z (typed_fun e) f o = absurd o
  fitted {M = M} g z (typed_meta {d = d} e ps out) f (inl o) =
      subst (Fitted M g) o (record { declared = d; at = e; counted = f.0 ∙ typed_count ps })
  fitted g z (typed_meta e ps out) f (inr o) = all_fitted g z ps f.1 o
  fitted g z (typed_lam s p) f o = fitted g z p f o
  fitted g z (typed_app p q) f (inl o) = fitted g z p f.0 o
  fitted g z (typed_app p q) f (inr o) = fitted g z q f.1 o

  pub all_fitted : {S : Symbols} {M : List Declared} {Γ : List Ty} {ts : Tms} {cs : List Ty} (g : ℕ → Body) (z : ℕ) → AllTyped S M Γ ts cs → AllFitBodies g ts → OccursIn z ts → Fitted M g z
  all_fitted g z typed_none f o = absurd o
  all_fitted g z (typed_more p ps) f (inl o) = fitted g z p f.0 o
  all_fitted g z (typed_more p ps) f (inr o) = all_fitted g z ps f.1 o
