-- Spines.
use Rattle.std.proofs.Common.{◌≡◌, ◌+◌, List, [], ◌∷◌, ◌++◌, map, reverse, refl, ap, sym, subst, ◌∙◌, arith, Box, Global}
use Rattle.std.specs.Borrow.{Bor}
use Rattle.std.proofs.lemmas.List.{map-append, reverse-append}
use Rattle.wh_terms.specs.Tree.{Tm, bound, free, fun, meta, lam, app, head, tms_of}
use Rattle.wh_terms.specs.Erase.{tm}
use Rattle.wh_terms.specs.declared.term.Term.{Term, App}
use Rattle.wh_terms.specs.declared.term.Term.TheVariants.{Bound, Free, Fun, Meta', Lam', App'}
use Rattle.wh_terms.proofs.TermLemmas.{weight, weights}
use Rattle.wh_pairs.specs.Spines.{spine_arguments}
use Rattle.wh_pairs_calls.specs.Views.{trees}

-- a tree that is no application
abbrev pub IsAlone : Tm → Type 0
IsAlone (app t u) = ⊥
IsAlone _ = Unit {0}

pub alone_head : (t : Tm) → IsAlone t → head t ≡ t
alone_head (bound i) a = refl
alone_head (free x b) a = refl
alone_head (fun f) a = refl
alone_head (meta z ts) a = refl
alone_head (lam b t) a = refl
alone_head (app t u) a = absurd a

pub head_is_alone : (t : Tm) → IsAlone (head t)
head_is_alone (bound i) = tt
head_is_alone (free x b) = tt
head_is_alone (fun f) = tt
head_is_alone (meta z ts) = tt
head_is_alone (lam b t) = tt
head_is_alone (app t u) = head_is_alone t

pub alone_arguments : (t : Tm) → IsAlone t → spine_arguments t ≡ []
alone_arguments (bound i) a = refl
alone_arguments (free x b) a = refl
alone_arguments (fun f) a = refl
alone_arguments (meta z ts) a = refl
alone_arguments (lam b t) a = refl
alone_arguments (app t u) a = absurd a

no_application : (t : Term) → ((p q : Box Term Global) → t ≡ App p q → ⊥) → IsAlone (tm t)
no_application (Bound i) no_app = tt
no_application (Free x b) no_app = tt
no_application (Fun f) no_app = tt
no_application (Meta' z shape all) no_app = tt
no_application (Lam' b p t) no_app = tt
no_application (App' p t q u) no_app = no_app (record { ptr = p.ptr; alloc = p.alloc; value = t }) (record { ptr = q.ptr; alloc = q.alloc; value = u }) refl

pub head_alone : (t : Term) → ((p q : Box Term Global) → t ≡ App p q → ⊥) → head (tm t) ≡ tm t
head_alone t no_app = alone_head (tm t) (no_application t no_app)

pub trees_end : (t : Term) (s : List Tm) (xs : List Tm) → ((p q : Box Term Global) → t ≡ App p q → ⊥) → s ≡ spine_arguments (tm t) ++ xs → s ≡ xs
trees_end t s xs no_app e = e ∙ ap (λ l. l ++ xs) (alone_arguments (tm t) (no_application t no_app))

map-reverse : {A B : Type 0} (f : A → B) (xs : List A) → map f (reverse xs) ≡ reverse (map f xs)
map-reverse f [] = refl
map-reverse f (x ∷ xs) = ap (map f) (reverse-append (x ∷ []) xs) ∙ map-append f (reverse xs) (x ∷ []) ∙ ap (λ l. l ++ f x ∷ []) (map-reverse f xs) ∙ sym (reverse-append (f x ∷ []) (map f xs))

pub trees-reverse : (xs : List (Bor Term)) → trees (reverse xs) ≡ reverse (trees xs)
trees-reverse = map-reverse (λ t. tm t.now)

-- the weight of a spine is that of its parts
pub weight_of_spine : (t : Tm) → weight t ≡ weight (head t) + weights (tms_of (spine_arguments t))
weight_of_spine (bound i) = omega arith
weight_of_spine (free x b) = omega arith
weight_of_spine (fun f) = omega arith
weight_of_spine (meta z ts) = omega arith
weight_of_spine (lam b t) = omega arith
weight_of_spine (app t u) = omega (arith, weight_of_spine t, weights-push (spine_arguments t) u)
  where
    weights-push : (ts : List Tm) (u : Tm) → weights (tms_of (ts ++ u ∷ [])) ≡ weights (tms_of ts) + (1 + weight u)
    weights-push [] u = omega arith
    weights-push (t ∷ ts) u = omega (arith, weights-push ts u)

-- the head of a spine is no application
pub no_head : (t u v : Tm) → head v ≡ v → v ≡ app t u → ⊥
no_head t u v e is = subst IsAlone (e ∙ is) (head_is_alone v)

pub head_head : (t : Tm) → head (head t) ≡ head t
head_head t = alone_head (head t) (head_is_alone t)
