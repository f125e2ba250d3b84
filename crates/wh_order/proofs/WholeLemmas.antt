-- In an extended tree each symbol is there and has all its arguments.
use Rattle.std.proofs.Common.{◌≡◌, ℕ, suc, Bool, true, false, List, [], ◌∷◌, length, map, ap, subst, sym, ◌∙◌}
use Rattle.std.proofs.lemmas.Option.{slice_get_within}
use Rattle.wh_types.specs.Ty.{Ty, sort, ◌⇒◌, arguments, result_sort}
use Rattle.wh_terms.specs.Tree.{Tm, bound, free, fun, meta, lam, app, Tms, none, more, tms_of, spine}
use Rattle.wh_terms.specs.Substitution.{rename, renames, up_renaming}
use Rattle.wh_terms.specs.Typing.{Symbols, Declared, Typed, typed_bound, typed_free, typed_fun, typed_meta, typed_lam, typed_app, AllTyped, typed_none, typed_more}
use Rattle.wh_terms.specs.Rules.{RewriteRule, IsWellMade}
use Rattle.wh_system.specs.CanonicalView.{side_of}
use Rattle.wh_order_extended.specs.Kinds.{type_at, arrows, kind}
use Rattle.wh_order_extended.specs.Long.{expand, finish, finish_argument, core, cores, long}
use Rattle.wh_order_extended.specs.ExtendedSides.{missing, added, added_from, extended_metas, extended_side}
use Rattle.wh_order_extended.proofs.LongLaws.{at_is, kind_is}
use Rattle.wh_order_extended.proofs.TypeLists.{arrows-arguments, typed_spine}
use Rattle.wh_order_extended.proofs.MoreMetas.{typed_wider, added_typed}
use Rattle.wh_order.specs.Sifted.{IsWhole, AreWhole}

module _ (S : Symbols) where
  mutual
    unfolding rename renames

    whole_rename : (r : ℕ → ℕ) (k : ℕ) (t : Tm) → IsWhole S k t → IsWhole S k (rename r t)
    whole_rename r k (bound i) w = tt
    whole_rename r k (free x a) w = tt
    whole_rename r k (fun f) w = w
    whole_rename r k (meta z ts) w = whole_renames r ts w
    whole_rename r k (lam a t) w = whole_rename (up_renaming r) 0 t w
    whole_rename r k (app t u) w = (whole_rename r (suc k) t w.0, whole_rename r 0 u w.1)

    whole_renames : (r : ℕ → ℕ) (ts : Tms) → AreWhole S ts → AreWhole S (renames r ts)
    whole_renames r none w = tt
    whole_renames r (more t ts) w = (whole_rename r 0 t w.0, whole_renames r ts w.1)

  -- missing arguments that are added are no longer missing
  whole_expand : (a : Ty) (c : Tm) → IsWhole S (length (arguments a)) c → IsWhole S 0 (expand a c)
  unfolding expand
  whole_expand (sort s) c w = w
  whole_expand (a ⇒ b) c w =
      whole_expand b (app (rename suc c) (expand a (bound 0))) (whole_rename suc (length (arguments (a ⇒ b))) c w, whole_expand a (bound 0) tt)

  whole_kind : (k a : Ty) (c : Tm) → k ≡ a → IsWhole S (length (arguments a)) c → IsWhole S 0 (expand k c)
  whole_kind k a c e w = subst (λ k. IsWhole S 0 (expand k c)) (sym e) (whole_expand a c w)

  whole_finish : {M : List Declared} {Γ : List Ty} (t : Tm) (a : Ty) → Typed S M Γ t a → IsWhole S (length (arguments a)) (core S M Γ t)
      → IsWhole S 0 (finish t (kind S M Γ t) (core S M Γ t))
  unfolding core
  whole_finish {M = M} {Γ = Γ} (bound i) a p w = whole_kind (type_at Γ i) a (bound i) (kind_is p) w
  whole_finish {M = M} {Γ = Γ} (free x b) a p w = whole_kind b a (free x b) (kind_is p) w
  whole_finish {M = M} {Γ = Γ} (fun g) a p w = whole_kind (type_at S.funs g) a (fun g) (kind_is p) w
  whole_finish (meta z ts) a p w = w
  whole_finish (lam b t) a p w = w
  whole_finish {M = M} {Γ = Γ} (app t u) a p w = whole_kind (kind S M Γ (app t u)) a (core S M Γ (app t u)) (kind_is p) w

  whole_argument : {M : List Declared} {Γ : List Ty} (t : Tm) (a : Ty) → Typed S M Γ t a → IsWhole S (length (arguments a)) (core S M Γ t)
      → IsWhole S 0 (finish_argument t (kind S M Γ t) (core S M Γ t))
  unfolding core
  whole_argument (bound i) a p w = tt
  whole_argument (free x b) a p w = whole_finish (free x b) a p w
  whole_argument (fun g) a p w = whole_finish (fun g) a p w
  whole_argument (meta z ts) a p w = w
  whole_argument (lam b t) a p w = w
  whole_argument (app t u) a p w = whole_finish (app t u) a p w

  mutual
    unfolding core cores

    -- a core lacks as many arguments as its type takes
    whole_core : {M : List Declared} {Γ : List Ty} {t : Tm} {a : Ty} → Typed S M Γ t a → IsWhole S (length (arguments a)) (core S M Γ t)
    whole_core (typed_bound e) = tt
    whole_core (typed_free p) = tt
    whole_core (typed_fun {f = f} {a = a} e) = (slice_get_within S.funs f a e, ap (λ b. length (arguments b)) (sym (at_is S.funs f a e)))
    whole_core (typed_meta e ts o) = whole_cores ts
    whole_core (typed_lam {b = b} {t = t} p q) = whole_finish t b q (whole_core q)
    whole_core (typed_app {a = a} {u = u} p q) = (whole_core p, whole_finish u a q (whole_core q))

    whole_cores : {M : List Declared} {Γ : List Ty} {ts : Tms} {cs : List Ty} → AllTyped S M Γ ts cs → AreWhole S (cores S M Γ ts)
    whole_cores typed_none = tt
    whole_cores (typed_more {t = t} {a = a} p ps) = (whole_argument t a p (whole_core p), whole_cores ps)

  pub whole_long : {M : List Declared} {Γ : List Ty} (t : Tm) (a : Ty) → Typed S M Γ t a → IsWhole S 0 (long S M Γ t)
  whole_long t a p = whole_finish t a p (whole_core p)

  -- so in the arguments of a call
  pub whole_arguments : (M : List Declared) (ts : List Tm) (cs : List Ty) → AllTyped S M [] (tms_of ts) cs → AreWhole S (tms_of (map (long S M []) ts))
  whole_arguments M [] cs p = tt
  whole_arguments M (t ∷ ts) [] p = elim p [ ]
  whole_arguments M (t ∷ ts) (c ∷ cs) (typed_more p ps) = (whole_long t c p, whole_arguments M ts cs ps)

  -- and in both sides of a rule
  module _ (r : RewriteRule) (made : IsWellMade S r) where
    whole-type : made.typed.0 ≡ arrows (missing S r) (sort (result_sort made.typed.0))
    whole-type = arrows-arguments made.typed.0 ∙ ap (λ a. arrows (arguments a) (sort (result_sort made.typed.0))) (sym (kind_is made.typed.1))

    whole_extended : (t : Tm) → Typed S r.metas [] t made.typed.0 → IsWhole S 0 (extended_side S r t)
    whole_extended t p =
        let zs : List Tm = added_from (length r.metas) (missing S r) in
        let wider : Typed S (extended_metas S r) [] t made.typed.0 = typed_wider (added (missing S r)) p in
        whole_long (spine t zs) (sort (result_sort made.typed.0))
        (typed_spine t zs (missing S r) (subst (Typed S (extended_metas S r) [] t) whole-type wider) (added_typed S r.metas (missing S r)))

    pub whole_side : (right : Bool) → IsWhole S 0 (extended_side S r (side_of right r))
    whole_side true = whole_extended r.right made.typed.2
    whole_side false = whole_extended r.left made.typed.1
