-- Extended terms, shape by shape: what is built, and where the room is too small.
use Rattle.std.proofs.Common.{◌≡◌, ℕ, zero, suc, ◌+◌, ◌<◌, ◌≤◌, List, [], ◌∷◌, ◌++◌, Result, Ok, Err, IsErrAnd, length, take, get_or, refl, ap, subst, sym, ◌∙◌, arith}
use Rattle.wh_types.specs.Ty.{Ty}
use Rattle.wh_types.specs.Outcome.{MatchOr}
use Rattle.wh_types.specs.declared.want.Or.{Or}
use Rattle.wh_types.specs.declared.want.Or.TheVariants.{NoMemory, Because}
use Rattle.wh_terms.specs.Tree.{Tm, bound, free, fun, meta, lam, app, Tms, none, more}
use Rattle.wh_terms.specs.Typing.{Symbols, Declared}
use Rattle.wh_terms.specs.Measures.{size, sizes}
use Rattle.wh_terms.specs.Erase.{tm, tms}
use Rattle.wh_terms.specs.declared.term.Term.{Term, Meta}
use Rattle.wh_terms.proofs.TermLemmas.{join, tms_append, tms_take_next, tm_meta, tm_of_meta}
use Rattle.wh_order_extended.specs.Kinds.{kind}
use Rattle.wh_order_extended.specs.Long.{core, cores, finish, finish_argument, long}
use Rattle.wh_order_sides.specs.Growth.{argued}
use Rattle.wh_order_sides.specs.declared.room.Built.{Built}
use Rattle.wh_order_sides.specs.declared.room.BuiltTerms.{BuiltTerms}
use Rattle.wh_order_sides.specs.Room.{IsBuilt, AreBuilt}
use Rattle.wh_order_sides.proofs.ExpandLemmas.{size_expand}

-- want of room in a part is want of room for the whole
pub passed_on : {T U E : Type 0} (r : Result U (Or E)) (e : Or E) (P : T → Type 0) (Q : U → Type 0) (A B : Type 0) → IsErrAnd r (λ x. x ≡ e)
    → MatchOr {T = T} (Err e) P (λ _. A) → (A → B) → MatchOr r Q (λ _. B)
passed_on {T} {U} {E} (Ok x) e P Q A B is h on = absurd is
passed_on {T} {U} {E} (Err x) e P Q A B is h on = subst (λ y. MatchOr {T = U} (Err y) Q (λ _. B)) (sym is) (by e h)
  where
    by : (e : Or E) → MatchOr {T = T} (Err e) P (λ _. A) → MatchOr {T = U} (Err e) Q (λ _. B)
    by NoMemory h = tt
    by (Because o) h = on h

-- missing arguments make a tree no smaller

finish-larger : (t : Tm) (a : Ty) (c : Tm) → size c ≤ size (finish t a c)
finish-larger (bound i) a c = omega (arith, size_expand a c)
finish-larger (free x b) a c = omega (arith, size_expand a c)
finish-larger (fun f) a c = omega (arith, size_expand a c)
finish-larger (meta z ts) a c = omega arith
finish-larger (lam b t) a c = omega arith
finish-larger (app t u) a c = omega (arith, size_expand a c)

argument-larger : (t : Tm) (a : Ty) (c : Tm) → size c ≤ size (finish_argument t a c)
argument-larger (bound i) a c = omega arith
argument-larger (free x b) a c = finish-larger (free x b) a c
argument-larger (fun f) a c = finish-larger (fun f) a c
argument-larger (meta z ts) a c = finish-larger (meta z ts) a c
argument-larger (lam b t) a c = finish-larger (lam b t) a c
argument-larger (app t u) a c = finish-larger (app t u) a c

pub long_wide : (S : Symbols) (M : List Declared) (Γ : List Ty) (room : ℕ) (t : Tm) → room < size (core S M Γ t) → room < size (long S M Γ t)
long_wide S M Γ room t wide = omega (arith, wide, finish-larger t (kind S M Γ t) (core S M Γ t))

pub argument_wide : (S : Symbols) (M : List Declared) (Γ : List Ty) (room : ℕ) (t : Tm) → room < size (core S M Γ t) → room < size (argued S M Γ t)
argument_wide S M Γ room t wide = omega (arith, wide, argument-larger t (kind S M Γ t) (core S M Γ t))

is_built : (room : ℕ) (u v : Tm) (b : Built) → u ≡ v → tm b.term ≡ v → b.room + size v ≡ room → IsBuilt room u b
is_built room u v b e same left = subst (λ w. IsBuilt room w b) (sym e) (record { same = same; left = left })

module _ (S : Symbols) (M : List Declared) (Γ : List Ty) where
  core-app : (t u : Tm) → core S M Γ (app t u) ≡ app (core S M Γ t) (long S M Γ u)
  unfolding core
  core-app t u = refl

  core-lam : (a : Ty) (t : Tm) → core S M Γ (lam a t) ≡ lam a (long S M (a ∷ Γ) t)
  unfolding core
  core-lam a t = refl

  core-meta : (z : ℕ) (ts : Tms) → core S M Γ (meta z ts) ≡ meta z (cores S M Γ ts)
  unfolding core cores
  core-meta z ts = refl

  -- there is always a node
  pub no_room : (room : ℕ) (t : Tm) → room < 1 → room < size (core S M Γ t)
  unfolding core
  no_room room (bound i) low = low
  no_room room (free x a) low = low
  no_room room (fun f) low = low
  no_room room (meta z ts) low = omega arith
  no_room room (lam a t) low = omega arith
  no_room room (app t u) low = omega arith

  -- variables and symbols

  pub bound_built : (room : ℕ) (v : Tm) (i : ℕ) (b : Built) → v ≡ bound i → tm b.term ≡ bound i → b.room + 1 ≡ room → IsBuilt room (core S M Γ v) b
  unfolding core
  bound_built room v i b e same left = is_built room (core S M Γ v) (bound i) b (ap (core S M Γ) e) same left

  pub free_built : (room : ℕ) (v : Tm) (x : ℕ) (a : Ty) (b : Built) → v ≡ free x a → tm b.term ≡ free x a → b.room + 1 ≡ room → IsBuilt room (core S M Γ v) b
  unfolding core
  free_built room v x a b e same left = is_built room (core S M Γ v) (free x a) b (ap (core S M Γ) e) same left

  pub fun_built : (room : ℕ) (v : Tm) (f : ℕ) (b : Built) → v ≡ fun f → tm b.term ≡ fun f → b.room + 1 ≡ room → IsBuilt room (core S M Γ v) b
  unfolding core
  fun_built room v f b e same left = is_built room (core S M Γ v) (fun f) b (ap (core S M Γ) e) same left

  -- applications of meta-variables

  meta-is : (t : Term) (z : ℕ) (ts : List Term) → t ≡ Meta z ts → core S M Γ (tm t) ≡ meta z (cores S M Γ (tms ts))
  meta-is t z ts e = ap (core S M Γ) (tm_of_meta t z ts e) ∙ core-meta z (tms ts)

  pub meta_built : (room rest : ℕ) (t : Term) (z : ℕ) (ts : List Term) (us : BuiltTerms) (b : Built) → t ≡ Meta z ts → rest + 1 ≡ room
      → AreBuilt rest (cores S M Γ (tms ts)) us → b.term ≡ Meta z us.items → b.room ≡ us.room → IsBuilt room (core S M Γ (tm t)) b
  meta_built room rest t z ts us b e one arguments same left =
      is_built room (core S M Γ (tm t)) (meta z (cores S M Γ (tms ts))) b (meta-is t z ts e)
      (ap tm same ∙ tm_meta z us.items ∙ ap (meta z) arguments.same) (omega (arith, arguments.left))

  pub meta_wide : (room rest : ℕ) (t : Term) (z : ℕ) (ts : List Term) → t ≡ Meta z ts → rest + 1 ≡ room → rest < sizes (cores S M Γ (tms ts))
      → room < size (core S M Γ (tm t))
  meta_wide room rest t z ts e one wide = omega (arith, ap size (meta-is t z ts e))

  -- abstractions

  lam-is : (Δ : List Ty) (v : Tm) (a : Ty) (t : Tm) → v ≡ lam a t → Δ ≡ a ∷ Γ → core S M Γ v ≡ lam a (long S M Δ t)
  lam-is Δ v a t e inner = ap (core S M Γ) e ∙ core-lam a t ∙ ap (λ Θ. lam a (long S M Θ t)) (sym inner)

  pub lam_built : (Δ : List Ty) (room rest : ℕ) (v : Tm) (a : Ty) (t : Tm) (u b : Built) → v ≡ lam a t → Δ ≡ a ∷ Γ → rest + 1 ≡ room
      → IsBuilt rest (long S M Δ t) u → tm b.term ≡ lam a (tm u.term) → b.room ≡ u.room → IsBuilt room (core S M Γ v) b
  lam_built Δ room rest v a t u b e inner one body same left =
      is_built room (core S M Γ v) (lam a (long S M Δ t)) b (lam-is Δ v a t e inner) (same ∙ ap (lam a) body.same) (omega (arith, body.left))

  pub lam_wide : (Δ : List Ty) (room rest : ℕ) (v : Tm) (a : Ty) (t : Tm) → v ≡ lam a t → Δ ≡ a ∷ Γ → rest + 1 ≡ room → rest < size (long S M Δ t)
      → room < size (core S M Γ v)
  lam_wide Δ room rest v a t e inner one wide = omega (arith, ap size (lam-is Δ v a t e inner))

  -- applications

  app-is : (Δ : List Ty) (v t u : Tm) → v ≡ app t u → Δ ≡ Γ → core S M Γ v ≡ app (core S M Γ t) (long S M Δ u)
  app-is Δ v t u e kept = ap (core S M Γ) e ∙ core-app t u ∙ ap (λ Θ. app (core S M Γ t) (long S M Θ u)) (sym kept)

  pub app_built : (Δ : List Ty) (room rest : ℕ) (v t u : Tm) (f a b : Built) → v ≡ app t u → Δ ≡ Γ → rest + 1 ≡ room
      → IsBuilt rest (core S M Γ t) f → IsBuilt f.room (long S M Δ u) a → tm b.term ≡ app (tm f.term) (tm a.term) → b.room ≡ a.room
      → IsBuilt room (core S M Γ v) b
  app_built Δ room rest v t u f a b e kept one front last same left =
      is_built room (core S M Γ v) (app (core S M Γ t) (long S M Δ u)) b (app-is Δ v t u e kept)
      (same ∙ ap (λ w. app w (tm a.term)) front.same ∙ ap (app (core S M Γ t)) last.same) (omega (arith, front.left, last.left))

  pub app_wide_front : (room rest : ℕ) (v t u : Tm) → v ≡ app t u → rest + 1 ≡ room → rest < size (core S M Γ t) → room < size (core S M Γ v)
  app_wide_front room rest v t u e one wide = omega (arith, ap size (app-is Γ v t u e refl))

  pub app_wide : (Δ : List Ty) (room rest : ℕ) (v t u : Tm) (f : Built) → v ≡ app t u → Δ ≡ Γ → rest + 1 ≡ room
      → IsBuilt rest (core S M Γ t) f → f.room < size (long S M Δ u) → room < size (core S M Γ v)
  app_wide Δ room rest v t u f e kept one front wide = omega (arith, ap size (app-is Δ v t u e kept), front.left)

  -- lists of arguments

  cores-join : (ts us : Tms) → cores S M Γ (join ts us) ≡ join (cores S M Γ ts) (cores S M Γ us)
  unfolding cores
  cores-join none us = refl
  cores-join (more t ts) us = ap (more (argued S M Γ t)) (cores-join ts us)

  cores-one : (t : Tm) → cores S M Γ (more t none) ≡ more (argued S M Γ t) none
  unfolding cores
  cores-one t = refl

  cores-next : (xs : List Term) (i : ℕ) (t : Term) → i < length xs → t ≡ get_or xs i t
      → cores S M Γ (tms (take (i + 1) xs)) ≡ join (cores S M Γ (tms (take i xs))) (more (argued S M Γ (tm t)) none)
  cores-next xs i t within e =
      ap (cores S M Γ) (tms_take_next xs i t within e) ∙ cores-join (tms (take i xs)) (more (tm t) none)
      ∙ ap (join (cores S M Γ (tms (take i xs)))) (cores-one (tm t))

  sizes-join : (ts us : Tms) → sizes (join ts us) ≡ sizes ts + sizes us
  sizes-join none us = omega arith
  sizes-join (more t ts) us = omega (arith, sizes-join ts us)

  cores-take : (xs : List Term) (n : ℕ) → sizes (cores S M Γ (tms (take n xs))) ≤ sizes (cores S M Γ (tms xs))
  unfolding cores
  cores-take [] zero = omega arith
  cores-take [] (suc n) = omega arith
  cores-take (x ∷ xs) zero = omega arith
  cores-take (x ∷ xs) (suc n) = omega (arith, cores-take xs n)

  pub none_built : (room : ℕ) (out : List Term) → out ≡ [] → AreBuilt room (cores S M Γ none) (record { items = out; room = room })
  unfolding cores
  none_built room out e = record { same = ap tms e; left = omega arith }

  -- one argument more
  pub more_built : (Δ : List Ty) (room left : ℕ) (xs out new : List Term) (i : ℕ) (t : Term) (a : Built) → i < length xs → t ≡ get_or xs i t → Δ ≡ Γ
      → AreBuilt room (cores S M Γ (tms (take i xs))) (record { items = out; room = left }) → IsBuilt left (argued S M Δ (tm t)) a
      → new ≡ out ++ a.term ∷ [] → AreBuilt room (cores S M Γ (tms (take (i + 1) xs))) (record { items = new; room = a.room })
  more_built Δ room left xs out new i t a within e kept so_far argument pushed =
      let here : IsBuilt left (argued S M Γ (tm t)) a = subst (λ Θ. IsBuilt left (argued S M Θ (tm t)) a) kept argument in
      let next = cores-next xs i t within e in
      record {
        same = ap tms pushed ∙ tms_append out (a.term ∷ []) ∙ ap (λ us. join us (more (tm a.term) none)) so_far.same
            ∙ ap (λ u. join (cores S M Γ (tms (take i xs))) (more u none)) here.same ∙ sym next;
        left = omega (arith, so_far.left, here.left, ap sizes next, sizes-join (cores S M Γ (tms (take i xs))) (more (argued S M Γ (tm t)) none));
      }

  pub more_wide : (Δ : List Ty) (room left : ℕ) (xs ts out : List Term) (i : ℕ) (t : Term) → xs ≡ ts → i < length xs → t ≡ get_or xs i t → Δ ≡ Γ
      → AreBuilt room (cores S M Γ (tms (take i xs))) (record { items = out; room = left }) → left < size (argued S M Δ (tm t))
      → room < sizes (cores S M Γ (tms ts))
  more_wide Δ room left xs ts out i t from within e kept so_far wide =
      let here : left < size (argued S M Γ (tm t)) = subst (λ Θ. left < size (argued S M Θ (tm t))) kept wide in
      subst (λ (ys : List Term). room < sizes (cores S M Γ (tms ys))) from
      (omega (arith, so_far.left, here, ap sizes (cores-next xs i t within e), sizes-join (cores S M Γ (tms (take i xs))) (more (argued S M Γ (tm t)) none), cores-take xs (i + 1)))
