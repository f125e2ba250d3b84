-- The variables that a type adds: their weight, and how they are made one by one.
use Rattle.std.proofs.Common.{◌≡◌, ℕ, suc, ◌+◌, ◌<◌, ◌≤◌, ◌⊎◌, inl, inr, List, [], ◌∷◌, ◌++◌, refl, ap, sym, ◌∙◌, arith, length}
use Rattle.wh_types.specs.Ty.{Ty, sort, ◌⇒◌, arguments}
use Rattle.wh_poly.specs.Polynomials.{Arguments, no_arguments, argument}
use Rattle.wh_poly.specs.Arithmetic.{atom}
use Rattle.wh_poly.specs.Added.{added, variable, added_weight, added_nesting}
use Rattle.wh_poly.specs.Limits.{weight_of_arguments, nesting_of_arguments, TooLarge, Exceeds}
use Rattle.wh_poly.specs.Erase.{poly, polys, list, arguments_of}
use Rattle.wh_poly.specs.declared.polynomial.Polys.{Polys}
use Rattle.wh_poly.proofs.Lists.{polys_is}
use Rattle.wh_poly.specs.declared.polynomial.Poly.{Poly}
use Rattle.wh_poly.proofs.Pushes.{arguments_followed_by, arguments_of_append}

weight_added : (A : Ty) (n i : ℕ) → weight_of_arguments (added A n i) ≡ added_weight A
weight_added (sort s) n i = refl
weight_added (A ⇒ B) n i = let a = weight_added A (n + length (arguments A)) n in let b = weight_added B n (suc i) in omega (arith, a, b)

nesting_added : (A : Ty) (n i : ℕ) → nesting_of_arguments (added A n i) ≡ added_nesting A
nesting_added (sort s) n i = refl
nesting_added (A ⇒ B) n i = let a = nesting_added A (n + length (arguments A)) n in let b = nesting_added B n (suc i) in omega (arith, a, b)

-- the value of a variable is too large exactly where what is added is
pub variable_is_large : (A : Ty) (n x : ℕ) → (65534 < added_weight A) ⊎ (400 < added_nesting A) → TooLarge (variable A n x)
variable_is_large A n x (inl h) = inl (let e = weight_added A (n + length (arguments A)) n in omega (arith, e, h))
variable_is_large A n x (inr h) = inr (let e = nesting_added A (n + length (arguments A)) n in omega (arith, e, h))

pub weighed_is_within : (A : Ty) (n x : ℕ) → added_weight A ≤ 65534 → added_nesting A ≤ 400 → Exceeds (variable A n x) → ⊥
weighed_is_within A n x h k (inl (inl o)) = omega (arith, o)
weighed_is_within A n x h k (inl (inr o)) = o
weighed_is_within A n x h k (inr (inl o)) = let e = weight_added A (n + length (arguments A)) n in omega (arith, e, h, o)
weighed_is_within A n x h k (inr (inr o)) = let e = nesting_added A (n + length (arguments A)) n in omega (arith, e, k, o)

pub followed_assoc : (ps qs rs : Arguments) → arguments_followed_by (arguments_followed_by ps qs) rs ≡ arguments_followed_by ps (arguments_followed_by qs rs)
followed_assoc no_arguments qs rs = refl
followed_assoc (argument p ps) qs rs = ap (argument p) (followed_assoc ps qs rs)

pub followed_by_none : (ps : Arguments) → arguments_followed_by ps no_arguments ≡ ps
followed_by_none no_arguments = refl
followed_by_none (argument p ps) = ap (argument p) (followed_by_none ps)

-- the variables for the rest of the type are still to be made
pub record Adding (whole : Arguments) (out : List Poly) (rest : Ty) (n x : ℕ) : Type 0 where
  pub same : whole ≡ arguments_followed_by (arguments_of out) (added rest n x)

pub adding_steps : (whole : Arguments) (out new : List Poly) (A B : Ty) (n x : ℕ) (p : Poly) → Adding whole out (A ⇒ B) n x → new ≡ out ++ p ∷ [] → poly p ≡ atom x (added A (n + length (arguments A)) n)
    → Adding whole new B n (suc x)
adding_steps whole out new A B n x p g e h = record {
  same = g.same ∙ ap (λ q. arguments_followed_by (arguments_of out) (argument q (added B n (suc x)))) (sym h)
      ∙ sym (followed_assoc (arguments_of out) (argument (poly p) no_arguments) (added B n (suc x)))
      ∙ ap (λ ps. arguments_followed_by ps (added B n (suc x))) (sym (ap arguments_of e ∙ arguments_of_append out (p ∷ [])));
}

pub adding_ends : (whole : Arguments) (out : Polys) (rest : Ty) (n x s : ℕ) → rest ≡ sort s → Adding whole (list out) rest n x → polys out ≡ whole
adding_ends whole out rest n x s e g = polys_is out
    ∙ sym (g.same ∙ ap (λ T. arguments_followed_by (arguments_of (list out)) (added T n x)) e ∙ followed_by_none (arguments_of (list out)))
