-- What is answered for a line, test by test.
use Rattle.std.proofs.Common.{◌≡◌, inl, inr, List, Bool, Result, Ok, Err, IsErrAnd, MatchResult, sym, subst, ◌∙◌}
use mathlib.Core.Path.{subst₂}
use Rattle.wh_types.specs.Outcome.{MatchOr, IfBecause}
use Rattle.wh_types.specs.declared.want.Or.{Or}
use Rattle.wh_types.specs.declared.want.Or.TheVariants.{NoMemory, Because}
use Rattle.wh_poly.specs.Polynomials.{Polynomial}
use Rattle.wh_hopoly.specs.Evaluation.{Run}
use Rattle.wh_hopoly.specs.Moves.{Transfer}
use Rattle.wh_poly.specs.declared.polynomial.Poly.{Poly}
use Rattle.wh_polycheck.specs.declared.fault.CoverFault.{CoverFault}
use Rattle.wh_poly_covering.specs.CoveringFaults.{IsFirstFaultOfMoves, IsFirstLineFault}
use Rattle.wh_polycheck.specs.Small.{with_limits}
use Rattle.wh_poly_covering.specs.declared.fault.LineFault.{LineFault}
use Rattle.wh_poly_covering.specs.declared.fault.LineFault.TheVariants.{Exceeds, Cover}
use Rattle.wh_poly_covering.specs.Lines.{IsSide, IsExcessOf, IsAnswerOf}

-- the fault of moves between two sides is that between the results of their evaluations
pub moves_fault : (a b : Run Polynomial) (p q : Polynomial) (strict : Bool) (ms : List Transfer) (f : CoverFault) → IsSide a p → IsSide b q
    → IsFirstFaultOfMoves strict p q ms f → IsFirstLineFault with_limits a b strict ms (Cover f)
moves_fault a b p q strict ms f l r h = (l.within, r.within, subst₂ (λ p q. IsFirstFaultOfMoves strict p q ms f) l.is r.is h)

-- a left side that exceeds a limit, handed on

pub left_exceeds : (a b : Run Polynomial) (strict : Bool) (ms : List Transfer) (r : Result (Unit {0}) (Or LineFault)) (f : Or LineFault) (P : Poly → Type 0)
    → IsErrAnd r (λ x. x ≡ f) → MatchOr {T = Poly} (Err f) P (IsExcessOf a) → IsAnswerOf a b strict ms r
left_exceeds a b strict ms (Ok x) f P is h = absurd is
left_exceeds a b strict ms (Err x) f P is h = subst (λ y. IsAnswerOf a b strict ms (Err y)) (sym is) (by f h)
  where
    by : (f : Or LineFault) → MatchOr {T = Poly} (Err f) P (IsExcessOf a) → IsAnswerOf a b strict ms (Err f)
    by NoMemory h = tt
    by (Because (Exceeds e)) h = inl h
    by (Because (Cover f)) h = absurd h

-- and a right side, where the left one does not
pub right_exceeds : (a b : Run Polynomial) (p : Polynomial) (strict : Bool) (ms : List Transfer) (r : Result (Unit {0}) (Or LineFault)) (f : Or LineFault) (P : Poly → Type 0)
    → IsErrAnd r (λ x. x ≡ f) → IsSide a p → MatchOr {T = Poly} (Err f) P (IsExcessOf b) → IsAnswerOf a b strict ms r
right_exceeds a b p strict ms (Ok x) f P is l h = absurd is
right_exceeds a b p strict ms (Err x) f P is l h = subst (λ y. IsAnswerOf a b strict ms (Err y)) (sym is) (by f h)
  where
    by : (f : Or LineFault) → MatchOr {T = Poly} (Err f) P (IsExcessOf b) → IsAnswerOf a b strict ms (Err f)
    by NoMemory h = tt
    by (Because (Exceeds e)) h = inr (l.within, h)
    by (Because (Cover f)) h = absurd h

-- the fault that a test answered
pub told_fault : {T E : Type 0} (told answered : Result T E) (f : E) (P : T → Type 0) (Q : E → Type 0) → answered ≡ told → answered ≡ Err f → MatchResult told P Q → Q f
told_fault told answered f P Q same is h = subst (λ r. MatchResult r P Q) (sym same ∙ is) h

-- the cause that a call told

pub told_cause : (T : Type 0) {E : Type 0} (o : Or E) (f : E) (Q : E → Type 0) → o ≡ Because f → IfBecause {T = T} (Err o) Q → Q f
told_cause T o f Q same h = subst (λ o. IfBecause {T = T} (Err o) Q) same h

pub told_of : (T : Type 0) {E : Type 0} (o : Or E) (f : E) (P : T → Type 0) (Q : E → Type 0) → o ≡ Because f → MatchOr {T = T} (Err o) P Q → Q f
told_of T o f P Q same h = subst (λ o. MatchOr {T = T} (Err o) P Q) same h

pub handed_on : (T : Type 0) {U E : Type 0} (r : Result U (Or E)) (f : Or E) (P : T → Type 0) (Q : E → Type 0) → IsErrAnd r (λ x. x ≡ f)
    → MatchOr {T = T} (Err f) P Q → IfBecause r Q
handed_on T (Ok x) f P Q is h = absurd is
handed_on T {U} (Err x) f P Q is h = subst (λ y. IfBecause {T = U} (Err y) Q) (sym is) (by f h)
  where
    by : (f : Or _) → MatchOr {T = T} (Err f) P Q → IfBecause {T = U} (Err f) Q
    by NoMemory h = tt
    by (Because e) h = h
