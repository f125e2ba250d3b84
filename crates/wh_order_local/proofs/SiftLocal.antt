-- A filtered tree depends only on the filters of the symbols of the tree, and has no others.
use Rattle.std.proofs.Common.{◌≡◌, ℕ, zero, suc, ◌<◌, List, [], ◌∷◌, ◌++◌, length, map, get_or, refl, ap, sym, subst, ◌∙◌, arith}
use Rattle.std.proofs.lemmas.Option.{slice_get_within}
use Rattle.std.specs.List.{AllByRecursion}
use Rattle.wh_types.specs.Ty.{Ty, sort}
use Rattle.wh_terms.specs.Tree.{Tm, bound, free, fun, meta, lam, app, Tms, none, more, tms_of, spine}
use Rattle.wh_terms.specs.Typing.{Symbols}
use Rattle.wh_order_inference.specs.Filters.{Filter, keep, pick}
use Rattle.wh_order_extended.specs.Filtered.{collapse, chosen, filtered, sift, sifts, symbol_arity, IncreasingFrom, IsProper}
use Rattle.wh_order.specs.Sifted.{IsWhole, AreWhole}
use Rattle.wh_order_local.specs.Only.{Only, AllOnly}
use Rattle.wh_order_local.proofs.OnlyLemmas.{EachOnly, only_spine}

module _ (Φ Ψ : ℕ → Filter) where
  mutual
    unfolding sift sifts

    pub sift_alike : (t : Tm) (qs : List Tm) → Only (λ f. Φ f ≡ Ψ f) t → sift Φ t qs ≡ sift Ψ t qs
    sift_alike (bound i) qs a = refl
    sift_alike (free x b) qs a = refl
    sift_alike (fun f) qs a = ap (λ w. filtered w f qs) a
    sift_alike (meta z ts) qs a = ap (λ us. spine (meta z us) qs) (sifts_alike ts a)
    sift_alike (lam b t) qs a = ap (λ u. spine (lam (collapse b) u) qs) (sift_alike t [] a)
    sift_alike (app t u) qs a = ap (λ v. sift Φ t (v ∷ qs)) (sift_alike u [] a.1) ∙ sift_alike t (sift Ψ u [] ∷ qs) a.0

    sifts_alike : (ts : Tms) → AllOnly (λ f. Φ f ≡ Ψ f) ts → sifts Φ ts ≡ sifts Ψ ts
    sifts_alike none a = refl
    sifts_alike (more t ts) a = ap (λ u. more u (sifts Φ ts)) (sift_alike t [] a.0) ∙ ap (more (sift Ψ t [])) (sifts_alike ts a.1)

-- the filter finds what it keeps or picks among k arguments
abbrev pub IsPlaced : ℕ → Filter → Type 0
IsPlaced k (keep p is) = AllByRecursion (λ i. i < k) is
IsPlaced k (pick i) = i < k

placed_from : (from n : ℕ) (is : List ℕ) → IncreasingFrom from n is → AllByRecursion (λ i. i < n) is
placed_from from n [] h = tt
placed_from from n (i ∷ is) h = (h.1, placed_from (suc i) n is h.2)

pub proper_placed : (cs : List Ty) (w : Filter) → IsProper cs w → IsPlaced (length cs) w
proper_placed cs (keep p is) h = placed_from 0 (length cs) is h
proper_placed cs (pick i) h = slice_get_within cs i (sort h.0) h.1

module _ (P : ℕ → Type 0) where
  get_only : (qs : List Tm) (i : ℕ) → EachOnly P qs → i < length qs → Only P (get_or qs i (fun 0))
  get_only [] i h within = absurd (omega (arith, within))
  get_only (q ∷ qs) zero h within = h.0
  get_only (q ∷ qs) (suc i) h within = get_only qs i h.1 (omega (arith, within))

  chosen_only : (is : List ℕ) (qs : List Tm) → EachOnly P qs → AllByRecursion (λ i. i < length qs) is → EachOnly P (chosen is qs)
  chosen_only [] qs h placed = tt
  chosen_only (i ∷ is) qs h placed = (get_only qs i h placed.0, chosen_only is qs h placed.1)

  pub filtered_only : (w : Filter) (f : ℕ) (qs : List Tm) → P f → EachOnly P qs → IsPlaced (length qs) w → Only P (filtered w f qs)
  filtered_only (keep p is) f qs here h placed = only_spine P (fun f) (chosen is qs) here (chosen_only is qs h placed)
  filtered_only (pick i) f qs here h placed = get_only qs i h placed

  module _ (S : Symbols) (Φ : ℕ → Filter) (places : (f : ℕ) → f < length S.funs → IsPlaced (symbol_arity S f) (Φ f)) where
    mutual
      unfolding sift sifts

      pub sift_only : (t : Tm) (qs : List Tm) → IsWhole S (length qs) t → Only P t → EachOnly P qs → Only P (sift Φ t qs)
      sift_only (bound i) qs w p h = only_spine P (bound i) qs tt h
      sift_only (free x a) qs w p h = only_spine P (free x (collapse a)) qs tt h
      sift_only (fun f) qs w p h = filtered_only (Φ f) f qs p h (subst (λ k. IsPlaced k (Φ f)) (sym w.1) (places f w.0))
      sift_only (meta z ts) qs w p h = only_spine P (meta z (sifts Φ ts)) qs (sifts_only ts w p) h
      sift_only (lam a t) qs w p h = only_spine P (lam (collapse a) (sift Φ t [])) qs (sift_only t [] w p tt) h
      sift_only (app t u) qs w p h = sift_only t (sift Φ u [] ∷ qs) w.0 p.0 (sift_only u [] w.1 p.1 tt, h)

      sifts_only : (ts : Tms) → AreWhole S ts → AllOnly P ts → AllOnly P (sifts Φ ts)
      sifts_only none w p = tt
      sifts_only (more t ts) w p = (sift_only t [] w.0 p.0 tt, sifts_only ts w.1 p.1)

    -- the filtered trees of a list
    pub each_sifted : (ts : List Tm) → AreWhole S (tms_of ts) → EachOnly P ts → EachOnly P (map (λ t. sift Φ t []) ts)
    each_sifted [] w h = tt
    each_sifted (t ∷ ts) w h = (sift_only t [] w.0 h.0 tt, each_sifted ts w.1 h.1)

-- what is made of a spine is made of its head, with what is made of its arguments behind it
sift_behind : (Φ : ℕ → Filter) (h : Tm) (ts qs : List Tm) → sift Φ (spine h ts) qs ≡ sift Φ h (map (λ t. sift Φ t []) ts ++ qs)
unfolding sift
sift_behind Φ h [] qs = refl
sift_behind Φ h (t ∷ ts) qs = sift_behind Φ (app h t) ts qs

nothing_behind : (qs : List Tm) → qs ++ [] ≡ qs
nothing_behind [] = refl
nothing_behind (q ∷ qs) = ap (λ l. q ∷ l) (nothing_behind qs)

pub sift_spine : (Φ : ℕ → Filter) (f : ℕ) (ts : List Tm) → sift Φ (spine (fun f) ts) [] ≡ filtered (Φ f) f (map (λ t. sift Φ t []) ts)
unfolding sift
sift_spine Φ f ts = sift_behind Φ (fun f) ts [] ∙ ap (filtered (Φ f) f) (nothing_behind (map (λ t. sift Φ t []) ts))
