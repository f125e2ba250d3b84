-- Extended trees have the types of the trees, and what stands in them.
use Rattle.std.proofs.Common.{◌≡◌, ℕ, suc, inl, inr, List, ◌∷◌, refl, sym, subst}
use Rattle.wh_types.specs.Ty.{Ty, sort, ◌⇒◌, SortsBelow}
use Rattle.wh_terms.specs.Tree.{Tm, bound, free, fun, meta, lam, app, Tms, none, more}
use Rattle.wh_terms.specs.Substitution.{up_renaming, rename, renames}
use Rattle.wh_terms.specs.Sight.{Occurs, OccursIn}
use Rattle.wh_terms.specs.Typing.{Symbols, Declared, Typed, typed_bound, typed_free, typed_fun, typed_meta, typed_lam, typed_app, AllTyped, typed_none, typed_more}
use Rattle.wh_terms.proofs.TypingLaws.{typed-shift}
use Rattle.wh_step_laws.specs.RootRelations.{KnowsSorts}
use Rattle.wh_step_laws.proofs.Fundamental.{KnownTypes, known_more}
use Rattle.wh_order_extended.specs.Kinds.{type_at, kind, KnowsMetas}
use Rattle.wh_order_extended.specs.Long.{expand, finish, finish_argument, core, cores, long}
use Rattle.wh_order_extended.proofs.LongLaws.{kind_is}

mutual
  unfolding rename renames

  occurs_back : (z : ℕ) (r : ℕ → ℕ) (t : Tm) → Occurs z (rename r t) → Occurs z t
  occurs_back z r (bound i) o = o
  occurs_back z r (free x a) o = o
  occurs_back z r (fun f) o = o
  occurs_back z r (meta y ts) (inl e) = inl e
  occurs_back z r (meta y ts) (inr o) = inr (occurs_in_back z r ts o)
  occurs_back z r (lam a t) o = occurs_back z (up_renaming r) t o
  occurs_back z r (app t u) (inl o) = inl (occurs_back z r t o)
  occurs_back z r (app t u) (inr o) = inr (occurs_back z r u o)

  occurs_in_back : (z : ℕ) (r : ℕ → ℕ) (ts : Tms) → OccursIn z (renames r ts) → OccursIn z ts
  occurs_in_back z r none o = o
  occurs_in_back z r (more t ts) (inl o) = inl (occurs_back z r t o)
  occurs_in_back z r (more t ts) (inr o) = inr (occurs_in_back z r ts o)

mutual
  unfolding rename renames

  occurs_on : (z : ℕ) (r : ℕ → ℕ) (t : Tm) → Occurs z t → Occurs z (rename r t)
  occurs_on z r (bound i) o = o
  occurs_on z r (free x a) o = o
  occurs_on z r (fun f) o = o
  occurs_on z r (meta y ts) (inl e) = inl e
  occurs_on z r (meta y ts) (inr o) = inr (occurs_in_on z r ts o)
  occurs_on z r (lam a t) o = occurs_on z (up_renaming r) t o
  occurs_on z r (app t u) (inl o) = inl (occurs_on z r t o)
  occurs_on z r (app t u) (inr o) = inr (occurs_on z r u o)

  occurs_in_on : (z : ℕ) (r : ℕ → ℕ) (ts : Tms) → OccursIn z ts → OccursIn z (renames r ts)
  occurs_in_on z r none o = o
  occurs_in_on z r (more t ts) (inl o) = inl (occurs_on z r t o)
  occurs_in_on z r (more t ts) (inr o) = inr (occurs_in_on z r ts o)

occurs_expand : (z : ℕ) (a : Ty) (c : Tm) → Occurs z c → Occurs z (expand a c)
unfolding expand
occurs_expand z (sort s) c o = o
occurs_expand z (a ⇒ b) c o = occurs_expand z b (app (rename suc c) (expand a (bound 0))) (inl (occurs_on z suc c o))

expand_occurs : (z : ℕ) (a : Ty) (c : Tm) → Occurs z (expand a c) → Occurs z c
unfolding expand
expand_occurs z (sort s) c o = o
expand_occurs z (a ⇒ b) c o = on (expand_occurs z b (app (rename suc c) (expand a (bound 0))) o) (λ o. expand_occurs z a (bound 0) o)
  where
    on : Occurs z (app (rename suc c) (expand a (bound 0))) → (Occurs z (expand a (bound 0)) → Occurs z (bound 0)) → Occurs z c
    on (inl o) h = occurs_back z suc c o
    on (inr o) h = absurd (h o)

finish_occurs : (z : ℕ) (t : Tm) (a : Ty) (c : Tm) → Occurs z (finish t a c) → Occurs z c
finish_occurs z (bound i) a c o = expand_occurs z a c o
finish_occurs z (free x b) a c o = expand_occurs z a c o
finish_occurs z (fun f) a c o = expand_occurs z a c o
finish_occurs z (meta y ts) a c o = o
finish_occurs z (lam b t) a c o = o
finish_occurs z (app t u) a c o = expand_occurs z a c o

occurs_finish : (z : ℕ) (t : Tm) (a : Ty) (c : Tm) → Occurs z c → Occurs z (finish t a c)
occurs_finish z (bound i) a c o = occurs_expand z a c o
occurs_finish z (free x b) a c o = occurs_expand z a c o
occurs_finish z (fun f) a c o = occurs_expand z a c o
occurs_finish z (meta y ts) a c o = o
occurs_finish z (lam b t) a c o = o
occurs_finish z (app t u) a c o = occurs_expand z a c o

argument_occurs : (z : ℕ) (t : Tm) (a : Ty) (c : Tm) → Occurs z (finish_argument t a c) → Occurs z c
argument_occurs z (bound i) a c o = o
argument_occurs z (free x b) a c o = expand_occurs z a c o
argument_occurs z (fun f) a c o = expand_occurs z a c o
argument_occurs z (meta y ts) a c o = o
argument_occurs z (lam b t) a c o = o
argument_occurs z (app t u) a c o = expand_occurs z a c o

occurs_argument : (z : ℕ) (t : Tm) (a : Ty) (c : Tm) → Occurs z c → Occurs z (finish_argument t a c)
occurs_argument z (bound i) a c o = o
occurs_argument z (free x b) a c o = occurs_expand z a c o
occurs_argument z (fun f) a c o = occurs_expand z a c o
occurs_argument z (meta y ts) a c o = o
occurs_argument z (lam b t) a c o = o
occurs_argument z (app t u) a c o = occurs_expand z a c o

module _ (S : Symbols) (M : List Declared) where
  mutual
    unfolding core cores

    core_occurs : (z : ℕ) (Γ : List Ty) (t : Tm) → Occurs z (core S M Γ t) → Occurs z t
    core_occurs z Γ (bound i) o = o
    core_occurs z Γ (free x a) o = o
    core_occurs z Γ (fun f) o = o
    core_occurs z Γ (meta y ts) (inl e) = inl e
    core_occurs z Γ (meta y ts) (inr o) = inr (cores_occur z Γ ts o)
    core_occurs z Γ (lam a t) o = core_occurs z (a ∷ Γ) t (finish_occurs z t (kind S M (a ∷ Γ) t) (core S M (a ∷ Γ) t) o)
    core_occurs z Γ (app t u) (inl o) = inl (core_occurs z Γ t o)
    core_occurs z Γ (app t u) (inr o) = inr (core_occurs z Γ u (finish_occurs z u (kind S M Γ u) (core S M Γ u) o))

    cores_occur : (z : ℕ) (Γ : List Ty) (ts : Tms) → OccursIn z (cores S M Γ ts) → OccursIn z ts
    cores_occur z Γ none o = o
    cores_occur z Γ (more t ts) (inl o) = inl (core_occurs z Γ t (argument_occurs z t (kind S M Γ t) (core S M Γ t) o))
    cores_occur z Γ (more t ts) (inr o) = inr (cores_occur z Γ ts o)

  mutual
    unfolding core cores

    occurs_core : (z : ℕ) (Γ : List Ty) (t : Tm) → Occurs z t → Occurs z (core S M Γ t)
    occurs_core z Γ (bound i) o = o
    occurs_core z Γ (free x a) o = o
    occurs_core z Γ (fun f) o = o
    occurs_core z Γ (meta y ts) (inl e) = inl e
    occurs_core z Γ (meta y ts) (inr o) = inr (occur_cores z Γ ts o)
    occurs_core z Γ (lam a t) o = occurs_finish z t (kind S M (a ∷ Γ) t) (core S M (a ∷ Γ) t) (occurs_core z (a ∷ Γ) t o)
    occurs_core z Γ (app t u) (inl o) = inl (occurs_core z Γ t o)
    occurs_core z Γ (app t u) (inr o) = inr (occurs_finish z u (kind S M Γ u) (core S M Γ u) (occurs_core z Γ u o))

    occur_cores : (z : ℕ) (Γ : List Ty) (ts : Tms) → OccursIn z ts → OccursIn z (cores S M Γ ts)
    occur_cores z Γ none o = o
    occur_cores z Γ (more t ts) (inl o) = inl (occurs_argument z t (kind S M Γ t) (core S M Γ t) (occurs_core z Γ t o))
    occur_cores z Γ (more t ts) (inr o) = inr (occur_cores z Γ ts o)

  pub long_occurs : (z : ℕ) (Γ : List Ty) (t : Tm) → Occurs z (long S M Γ t) → Occurs z t
  long_occurs z Γ t o = core_occurs z Γ t (finish_occurs z t (kind S M Γ t) (core S M Γ t) o)

  pub occurs_long : (z : ℕ) (Γ : List Ty) (t : Tm) → Occurs z t → Occurs z (long S M Γ t)
  occurs_long z Γ t o = occurs_finish z t (kind S M Γ t) (core S M Γ t) (occurs_core z Γ t o)

  expand_typed : {Γ : List Ty} (a : Ty) (c : Tm) → SortsBelow S.sorts a → Typed S M Γ c a → Typed S M Γ (expand a c) a
  unfolding expand
  expand_typed (sort s) c k p = p
  expand_typed (a ⇒ b) c k p = typed_lam k.0 (expand_typed b (app (rename suc c) (expand a (bound 0))) k.1 (typed_app (typed-shift a p) (expand_typed a (bound 0) k.0 (typed_bound {i = 0} refl))))

  kind_typed : {Γ : List Ty} (k a : Ty) (c : Tm) → k ≡ a → SortsBelow S.sorts a → Typed S M Γ c a → Typed S M Γ (expand k c) a
  kind_typed {Γ = Γ} k a c e s p = subst (λ k. Typed S M Γ (expand k c) a) (sym e) (expand_typed a c s p)

  -- the types of typed trees have known sorts
  module _ (known : KnowsSorts S) (metas : KnowsMetas S M) where
    pub type_known : {Γ : List Ty} {t : Tm} {a : Ty} → KnownTypes S Γ → Typed S M Γ t a → SortsBelow S.sorts a
    type_known k (typed_bound {i = i} {a = a} e) = k i a e
    type_known k (typed_free p) = p
    type_known k (typed_fun {f = f} {a = a} e) = known f a e
    type_known k (typed_meta {z = z} {d = d} e ts o) = subst (SortsBelow S.sorts) (sym o) (metas z d e)
    type_known {Γ = Γ} k (typed_lam {a = a} p q) = (p, type_known (known_more S Γ a p k) q)
    type_known k (typed_app p q) = (type_known k p).1

    finish_typed : {Γ : List Ty} (t : Tm) (a : Ty) → KnownTypes S Γ → Typed S M Γ t a → Typed S M Γ (core S M Γ t) a → Typed S M Γ (finish t (kind S M Γ t) (core S M Γ t)) a
    finish_typed {Γ = Γ} (bound i) a k p q = kind_typed (type_at Γ i) a (core S M Γ (bound i)) (kind_is p) (type_known k p) q
    finish_typed {Γ = Γ} (free x b) a k p q = kind_typed b a (core S M Γ (free x b)) (kind_is p) (type_known k p) q
    finish_typed {Γ = Γ} (fun f) a k p q = kind_typed (type_at S.funs f) a (core S M Γ (fun f)) (kind_is p) (type_known k p) q
    finish_typed (meta z ts) a k p q = q
    finish_typed (lam b t) a k p q = q
    finish_typed {Γ = Γ} (app t u) a k p q = kind_typed (kind S M Γ (app t u)) a (core S M Γ (app t u)) (kind_is p) (type_known k p) q

    argument_typed : {Γ : List Ty} (t : Tm) (a : Ty) → KnownTypes S Γ → Typed S M Γ t a → Typed S M Γ (core S M Γ t) a → Typed S M Γ (finish_argument t (kind S M Γ t) (core S M Γ t)) a
    argument_typed (bound i) a k p q = q
    argument_typed (free x b) a k p q = finish_typed (free x b) a k p q
    argument_typed (fun f) a k p q = finish_typed (fun f) a k p q
    argument_typed (meta z ts) a k p q = q
    argument_typed (lam b t) a k p q = q
    argument_typed (app t u) a k p q = finish_typed (app t u) a k p q

    mutual
      unfolding core cores

      core_typed : {Γ : List Ty} {t : Tm} {a : Ty} → KnownTypes S Γ → Typed S M Γ t a → Typed S M Γ (core S M Γ t) a
      core_typed k (typed_bound e) = typed_bound e
      core_typed k (typed_free p) = typed_free p
      core_typed k (typed_fun e) = typed_fun e
      core_typed k (typed_meta e ts o) = typed_meta e (cores_typed k ts) o
      core_typed {Γ = Γ} k (typed_lam {a = a} {b = b} {t = t} p q) = let below = known_more S Γ a p k in typed_lam p (finish_typed t b below q (core_typed below q))
      core_typed k (typed_app {a = a} {u = u} p q) = typed_app (core_typed k p) (finish_typed u a k q (core_typed k q))

      cores_typed : {Γ : List Ty} {ts : Tms} {cs : List Ty} → KnownTypes S Γ → AllTyped S M Γ ts cs → AllTyped S M Γ (cores S M Γ ts) cs
      cores_typed k typed_none = typed_none
      cores_typed k (typed_more {t = t} {a = a} p ps) = typed_more (argument_typed t a k p (core_typed k p)) (cores_typed k ps)

    -- an extended tree has the type of the tree
    pub long_typed : {Γ : List Ty} {t : Tm} {a : Ty} → KnownTypes S Γ → Typed S M Γ t a → Typed S M Γ (long S M Γ t) a
    long_typed {t = t} {a = a} k p = finish_typed t a k p (core_typed k p)
