-- Extended trees have no free variable where the trees have none, and extended closed trees are the same in any scope.
use Rattle.std.proofs.Common.{◌≡◌, ℕ, suc, ◌+◌, List, [], ◌∷◌, length, refl, ap, ◌∙◌, sym, Some, slice_get, arith}
use Rattle.wh_types.specs.Ty.{Ty, sort, ◌⇒◌, SortsBelow}
use Rattle.wh_terms.specs.Tree.{Tm, bound, free, fun, meta, lam, app, Tms, none, more}
use Rattle.wh_terms.specs.Substitution.{up_renaming, rename, renames}
use Rattle.wh_terms.specs.Sight.{LooseBelow, NoFree, AllNoFree}
use Rattle.wh_terms.specs.Typing.{Symbols, Declared, Typed}
use Rattle.wh_terms.proofs.ActLaws.{rename-is-act, act-id}
use Rattle.wh_terms.proofs.SightLaws.{act_loose}
use Rattle.wh_terms.proofs.TypingLaws.{typed_loose}
use Rattle.wh_step_laws.specs.RootRelations.{KnowsSorts}
use Rattle.wh_order_extended.specs.Kinds.{type_at, kind, KnowsMetas}
use Rattle.wh_order_extended.specs.Long.{expand, finish, finish_argument, core, cores, long}
use Rattle.wh_order_extended.proofs.LongLaws.{long-rename}
use Rattle.wh_order_extended.proofs.LongTyped.{long_typed}

mutual
  unfolding rename renames

  no_free_rename : (r : ℕ → ℕ) (t : Tm) → NoFree t → NoFree (rename r t)
  no_free_rename r (bound i) n = tt
  no_free_rename r (free x a) n = n
  no_free_rename r (fun f) n = tt
  no_free_rename r (meta z ts) n = no_free_renames r ts n
  no_free_rename r (lam a t) n = no_free_rename (up_renaming r) t n
  no_free_rename r (app t u) n = (no_free_rename r t n.0, no_free_rename r u n.1)

  no_free_renames : (r : ℕ → ℕ) (ts : Tms) → AllNoFree ts → AllNoFree (renames r ts)
  no_free_renames r none n = tt
  no_free_renames r (more t ts) n = (no_free_rename r t n.0, no_free_renames r ts n.1)

no_free_expand : (a : Ty) (c : Tm) → NoFree c → NoFree (expand a c)
unfolding expand
no_free_expand (sort s) c n = n
no_free_expand (a ⇒ b) c n = no_free_expand b (app (rename suc c) (expand a (bound 0))) (no_free_rename suc c n, no_free_expand a (bound 0) tt)

no_free_finish : (t : Tm) (a : Ty) (c : Tm) → NoFree c → NoFree (finish t a c)
no_free_finish (bound i) a c n = no_free_expand a c n
no_free_finish (free x b) a c n = no_free_expand a c n
no_free_finish (fun f) a c n = no_free_expand a c n
no_free_finish (meta y ts) a c n = n
no_free_finish (lam b t) a c n = n
no_free_finish (app t u) a c n = no_free_expand a c n

no_free_argument : (t : Tm) (a : Ty) (c : Tm) → NoFree c → NoFree (finish_argument t a c)
no_free_argument (bound i) a c n = n
no_free_argument (free x b) a c n = no_free_expand a c n
no_free_argument (fun f) a c n = no_free_expand a c n
no_free_argument (meta y ts) a c n = n
no_free_argument (lam b t) a c n = n
no_free_argument (app t u) a c n = no_free_expand a c n

module _ (S : Symbols) (M : List Declared) where
  mutual
    unfolding core cores

    no_free_core : (Γ : List Ty) (t : Tm) → NoFree t → NoFree (core S M Γ t)
    no_free_core Γ (bound i) n = tt
    no_free_core Γ (free x a) n = n
    no_free_core Γ (fun f) n = tt
    no_free_core Γ (meta z ts) n = no_free_cores Γ ts n
    no_free_core Γ (lam a t) n = no_free_finish t (kind S M (a ∷ Γ) t) (core S M (a ∷ Γ) t) (no_free_core (a ∷ Γ) t n)
    no_free_core Γ (app t u) n = (no_free_core Γ t n.0, no_free_finish u (kind S M Γ u) (core S M Γ u) (no_free_core Γ u n.1))

    no_free_cores : (Γ : List Ty) (ts : Tms) → AllNoFree ts → AllNoFree (cores S M Γ ts)
    no_free_cores Γ none n = tt
    no_free_cores Γ (more t ts) n = (no_free_argument t (kind S M Γ t) (core S M Γ t) (no_free_core Γ t n.0), no_free_cores Γ ts n.1)

  pub no_free_long : (Γ : List Ty) (t : Tm) → NoFree t → NoFree (long S M Γ t)
  no_free_long Γ t n = no_free_finish t (kind S M Γ t) (core S M Γ t) (no_free_core Γ t n)

  past_end : (Γ : List Ty) (i : ℕ) → type_at Γ (i + length Γ) ≡ sort 0
  past_end [] i = refl
  past_end (a ∷ Γ) i = ap (type_at (a ∷ Γ)) (one_less i) ∙ past_end Γ i
    where
      one_less : (i : ℕ) → i + length (a ∷ Γ) ≡ suc (i + length Γ)
      one_less i = omega arith

  same_renamed : (r : ℕ → ℕ) (t : Tm) → LooseBelow 0 t → rename r t ≡ t
  same_renamed r t l = rename-is-act r t ∙ act_loose 0 (λ i. bound (r i)) bound free t l (λ i k. absurd (omega (arith, k))) ∙ act-id t

  -- the extension of a typed tree without loose variables is the same below any binders
  pub long_anywhere : KnowsSorts S → KnowsMetas S M → (Γ : List Ty) (t : Tm) (a : Ty) → Typed S M [] t a → long S M Γ t ≡ long S M [] t
  long_anywhere known metas Γ t a p =
      let r : ℕ → ℕ = λ i. i + length Γ in
      ap (long S M Γ) (sym (same_renamed r t (typed_loose p)))
      ∙ long-rename S M t [] Γ r (past_end Γ)
      ∙ same_renamed r (long S M [] t) (typed_loose (long_typed S M known metas no_types p))
    where
      no_types : (i : ℕ) (b : Ty) → slice_get [] i ≡ Some b → SortsBelow S.sorts b
      no_types i b e = absurd (cc)
