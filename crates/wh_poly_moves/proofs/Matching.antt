-- Units between monomials with equal factors: such factors are at least each other.
use Rattle.std.proofs.Common.{◌≡◌, ℕ, ◌+◌, ◌<◌, inl, inr, List, [], ◌∷◌, ◌++◌, refl, sym, subst, arith, Equal}
use Rattle.std.specs.List.{All}
use Rattle.std.proofs.lemmas.List.Elements.{All-weaker, All-push, All-nil}
use Rattle.wh_poly.specs.Polynomials.{Polynomial, zero_poly, plus, Factors, no_factors, times, Arguments, no_arguments, argument, compare_factors}
use Rattle.wh_hopoly.specs.Covers.{AtLeast}
use Rattle.wh_hopoly.specs.Moves.{ArgumentsAtLeast, FactorsAtLeast}
use Rattle.wh_poly.specs.declared.polynomial.Monomial.{Monomial}
use Rattle.wh_hopoly.specs.Erase.{transfers}
use Rattle.wh_poly.proofs.OrderLaws.{factors_equal}
use Rattle.wh_poly_moves.specs.declared.flow.Flow.{Flow}
use Rattle.wh_poly_moves.specs.Flows.{IsFlow, NoneBetween}

with_first : (c : ℕ) (us : Factors) (p q : Polynomial) → AtLeast p q → AtLeast (plus c us p) q
with_first c us p zero_poly h = tt
with_first c us p (plus d vs q) h = (inr h.0, with_first c us p q h.1)

at_least_itself : (p : Polynomial) → AtLeast p p
at_least_itself zero_poly = tt
at_least_itself (plus c us p) = (inl (refl, omega arith), with_first c us p p (at_least_itself p))

arguments_at_least_themselves : (ps : Arguments) → ArgumentsAtLeast ps ps
arguments_at_least_themselves no_arguments = tt
arguments_at_least_themselves (argument p ps) = (at_least_itself p, arguments_at_least_themselves ps)

factors_at_least_themselves : (us : Factors) → FactorsAtLeast us us
factors_at_least_themselves no_factors = tt
factors_at_least_themselves (times x ps us) = (refl, arguments_at_least_themselves ps, factors_at_least_themselves us)

pub equal_factors_at_least : (us vs : Factors) → compare_factors us vs ≡ Equal → FactorsAtLeast us vs
equal_factors_at_least us vs e = subst (FactorsAtLeast us) (factors_equal us vs e) (factors_at_least_themselves us)

-- what the walk keeps: the moves come from left monomials that were passed
pub record MatchWalk (left right : List Monomial) (now : Flow) (i : ℕ) : Type 0 where
  pub flow : IsFlow left right now
  pub passed : All (λ m. m.from < i) (transfers now.moves.items)

pub match_starts : (left right : List Monomial) (now : Flow) → IsFlow left right now → now.moves.items ≡ [] → MatchWalk left right now 0
match_starts left right now f e = record { flow = f; passed = subst (λ ms. All (λ m. m.from < 0) (transfers ms)) (sym e) (All-nil (λ m. m.from < 0)) }

pub match_passes : (left right : List Monomial) (now : Flow) (i : ℕ) → MatchWalk left right now i → MatchWalk left right now (i + 1)
match_passes left right now i w = record { flow = w.flow; passed = All-weaker (λ m. m.from < i) (λ m. m.from < i + 1) (λ m h. omega (arith, h)) (transfers now.moves.items) w.passed }

pub match_gives : (left right : List Monomial) (now next : Flow) (i j amount : ℕ) → MatchWalk left right now i → IsFlow left right next
    → transfers next.moves.items ≡ transfers now.moves.items ++ record { from = i; to = j; amount = amount } ∷ [] → MatchWalk left right next (i + 1)
match_gives left right now next i j amount w f e = record {
  flow = f;
  passed = subst (All (λ m. m.from < i + 1)) (sym e) (All-push (λ m. m.from < i + 1) (transfers now.moves.items) (record { from = i; to = j; amount = amount })
      (All-weaker (λ m. m.from < i) (λ m. m.from < i + 1) (λ m h. omega (arith, h)) (transfers now.moves.items) w.passed) (omega arith));
}

pub none_yet : (left right : List Monomial) (now : Flow) (i j : ℕ) → MatchWalk left right now i → NoneBetween i j (transfers now.moves.items)
none_yet left right now i j w = All-weaker (λ m. m.from < i) (λ m. m.from ≡ i → m.to ≡ j → ⊥) (λ m h e _. omega (arith, h, e)) (transfers now.moves.items) w.passed
