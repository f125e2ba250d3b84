-- The type of a variable in a scope that is a chain of frames.
use Rattle.std.proofs.Common.{◌≡◌, ℕ, zero, suc, ◌+◌, ◌<◌, List, [], ◌∷◌, ◌++◌, length, length-append, get_or, ap, sym, subst, arith, Result, Ok, Err}
use Rattle.std.specs.Prelude.{MatchResult}
use Rattle.wh_types.specs.Ty.{Ty}
use Rattle.wh_types.specs.Erase.{ty, tys}
use Rattle.wh_types.specs.declared.simple_type.SimpleType.{SimpleType}
use Rattle.wh_poly.specs.Polynomials.{HasType}
use Rattle.wh_hopoly.proofs.ReplaceLaws.{at_right}

pub type_in_list : (xs : List SimpleType) (i : ℕ) (x : SimpleType) → i < length xs → x ≡ get_or xs i x → HasType (tys xs) i (ty x)
type_in_list [] i x h e = absurd (omega (arith, h))
type_in_list (y ∷ xs) zero x h e = ap ty (sym e)
type_in_list (y ∷ xs) (suc i) x h e = type_in_list xs i x (omega (arith, h)) e

-- a search that goes on behind a scope
pub found_behind : {K : Type 0} (type : K → Ty) (Γ X : List Ty) (x past : ℕ) (r : Result K ℕ) → length Γ + past ≡ x
    → MatchResult r (λ k. HasType X past (type k)) (λ q. length X + q ≡ past) → MatchResult r (λ k. HasType (Γ ++ X) x (type k)) (λ q. length (Γ ++ X) + q ≡ x)
found_behind type Γ X x past (Ok k) e h = subst (λ x. HasType (Γ ++ X) x (type k)) e (at_right Γ X past (type k) h)
found_behind type Γ X x past (Err q) e h = let l = length-append Γ X in omega (arith, l, e, h)
