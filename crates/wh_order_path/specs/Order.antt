-- The path order on filtered trees: which claims an inference is good for. It is the computability path order (Blanqui,
-- Jouannaud and Rubio 2015) with bodies of abstractions compared on both sides (Kop 2012), over one sort.
use Rattle.std.specs.Prelude.{ℕ, suc, ◌≡◌, ◌≢◌, ◌<◌, List, [], ◌∷◌, length, Contains, Some, slice_get, take}
use Rattle.wh_types.specs.Ty.{Ty, sort}
use Rattle.wh_terms.specs.Tree.{Tm, free, fun, meta, lam, tms_of, spine}
use Rattle.wh_terms.specs.Substitution.{opened}
use Rattle.wh_terms.specs.Sight.{Fresh}
use Rattle.wh_terms.specs.Typing.{Symbols, Declared, Typed}
use Rattle.wh_order_inference.specs.Inferences.{same_trees, bodies, arguments, part, lower, first_less, spine_parts, body, variable, meta_part, Inference, infer, Inferences, no_parts, more_parts}
use Rattle.wh_order_path.specs.Heads.{IsOtherHead, nearest, abstracted, SomeStrict}

-- a free variable, which stands for the variable of a binder that was passed
pub record Variable : Type 0 where
  pub number : ℕ
  pub type_of : Ty

-- no variable of the list has the number x
abbrev pub NoneNumbered : ℕ → List Variable → Type 0
NoneNumbered x [] = Unit {0}
NoneNumbered x (v ∷ vs) = (v.number ≢ x) × NoneNumbered x vs

-- F is the signature of filtered trees, M declares their meta-variables
module _ (F : Symbols) (prec : ℕ → ℕ) (M : List Declared) where
  -- the two trees have no loose variable and are well typed, with one type
  pub record OneType (s t : Tm) : Type 0 where
    pub kind : Ty
    pub left : Typed F M [] s kind
    pub right : Typed F M [] t kind

  mutual
    -- s is at least t: they are the same tree, or s is greater (Blanqui, Jouannaud and Rubio 2015)
    pub data AtLeast : Tm → Tm → Inference → Type 0 where
      at_least_same : {s t : Tm} → s ≡ t → AtLeast s t (infer same_trees 0 no_parts)
      at_least_greater : {s t : Tm} {i : Inference} → Greater s t i → AtLeast s t i

    -- each tree of the first list is at least its partner in the second
    pub data AllAtLeast : List Tm → List Tm → Inferences → Type 0 where
      none_at_least : AllAtLeast [] [] no_parts
      more_at_least : {s t : Tm} {ss ts : List Tm} {i : Inference} {is : Inferences} → AtLeast s t i → AllAtLeast ss ts is
          → AllAtLeast (s ∷ ss) (t ∷ ts) (more_parts i is)

    -- s is greater than t, and they have one type (Blanqui, Jouannaud and Rubio 2015; by bodies and by arguments: Kop
    -- 2012)
    pub data Greater : Tm → Tm → Inference → Type 0 where
      by_bodies : {a : Ty} {s t : Tm} {i : Inference} (x : ℕ) → Fresh x s → Fresh x t → OneType (lam a s) (lam a t)
          → Greater (opened (free x a) s) (opened (free x a) t) i → Greater (lam a s) (lam a t) (infer bodies 0 (more_parts i no_parts))
      by_arguments : {s t : Tm} {is : Inferences} (h : Tm) (ss ts : List Tm) → IsOtherHead h → s ≡ spine h ss → t ≡ spine h ts
          → OneType s t → AllAtLeast ss ts is → SomeStrict is → Greater s t (infer arguments 0 is)
      by_above : {s t : Tm} {i : Inference} (f : ℕ) (ss : List Tm) → s ≡ spine (fun f) ss → Typed F M [] s (sort 0)
          → Typed F M [] t (sort 0) → Above s [] t i → Greater s t i

    -- s, which a symbol heads, is above t, where X has the variables of the binders of t that were passed
    -- (Blanqui, Jouannaud and Rubio 2015; by a meta-variable: Kop 2012)
    pub data Above : Tm → List Variable → Tm → Inference → Type 0 where
      by_part : {s t : Tm} {X : List Variable} {i : Inference} (f n : ℕ) (ss : List Tm) (u : Tm) → s ≡ spine (fun f) ss
          → slice_get ss n ≡ Some u → OneType u t → AtLeast u t i → Above s X t (infer part (suc n) (more_parts i no_parts))
      by_lower : {s t : Tm} {X : List Variable} {is : Inferences} (f g : ℕ) (ss ts : List Tm) → s ≡ spine (fun f) ss
          → t ≡ spine (fun g) ts → prec g < prec f → AllAbove s X ts is → Above s X t (infer lower 0 is)
      by_first_less : {s t : Tm} {X : List Variable} {i : Inference} {is : Inferences} (f g n : ℕ) (ss ts : List Tm) (u v : Tm)
          → s ≡ spine (fun f) ss → t ≡ spine (fun g) ts → prec g ≡ prec f → Typed F M [] t (sort 0) → take n ss ≡ take n ts
          → slice_get ss n ≡ Some u → slice_get ts n ≡ Some v → Greater u v i → AllAbove s X ts is
          → Above s X t (infer first_less (suc n) (more_parts i is))
      by_spine : {s t : Tm} {X : List Variable} {i : Inference} {is : Inferences} (h u : Tm) (ts : List Tm) → IsOtherHead h
          → t ≡ spine h (u ∷ ts) → Above s X h i → AllAbove s X (u ∷ ts) is → Above s X t (infer spine_parts 0 (more_parts i is))
      by_body : {s t : Tm} {X : List Variable} {i : Inference} {a : Ty} (x : ℕ) → Fresh x s → Fresh x t → NoneNumbered x X
          → Above s (record { number = x; type_of = a } ∷ X) (opened (free x a) t) i
          → Above s X (lam a t) (infer body 0 (more_parts i no_parts))
      by_variable : {s : Tm} {X : List Variable} {x : ℕ} {a : Ty} → Contains X (record { number = x; type_of = a })
          → Above s X (free x a) (infer variable 0 no_parts)
      by_meta : {s : Tm} {X : List Variable} {z : ℕ} {is : Inferences} (f n : ℕ) (ss ts : List Tm) (u : Tm) (cs : List Ty)
          → s ≡ spine (fun f) ss → slice_get ss n ≡ Some u → u ≡ abstracted cs (meta z (nearest (length cs))) → length cs ≡ length ts
          → AllAbove s X ts is → Above s X (meta z (tms_of ts)) (infer meta_part (suc n) is)

    -- the tree is above each tree of a list
    pub data AllAbove : Tm → List Variable → List Tm → Inferences → Type 0 where
      none_above : {s : Tm} {X : List Variable} → AllAbove s X [] no_parts
      more_above : {s t : Tm} {X : List Variable} {ts : List Tm} {i : Inference} {is : Inferences} → Above s X t i
          → AllAbove s X ts is → AllAbove s X (t ∷ ts) (more_parts i is)
