-- The definitions on small examples.
use Rattle.std.proofs.Common.{◌≡◌, suc, List, [], ◌∷◌, refl, arith}
use Rattle.wh_types.specs.Ty.{sort, ◌⇒◌}
use Rattle.wh_terms.specs.Tree.{bound, fun, meta, lam, app, none, more}
use Rattle.wh_poly.specs.Polynomials.{Polynomial, zero_poly, plus, no_factors, times, no_arguments, argument}
use Rattle.wh_hopoly.specs.Evaluation.{var, symbol, lambda, apply}
use Rattle.wh_poly_meaning.specs.Valuations.{Valuation}
use Rattle.wh_poly_meaning.specs.Functionals.{nothing}
use Rattle.wh_poly_meaning.specs.Meaning.{den}
use Rattle.wh_hopoly.specs.Moves.{Transfer, IsCover, given_by}
use Rattle.wh_polycheck.specs.Sides.{side}

-- in a scope of two meta-variables, of which the first takes an argument, `\x. \y. f (Z[x]) y`: binders go on from the scope's length
side_is : side 2 (lam (sort 0) (lam (sort 1) (app (app (fun 5) (meta 0 (more (bound 1) none))) (bound 0))))
    ≡ lambda (sort 0) (lambda (sort 1) (apply (apply (symbol 5) (apply (var 0) (var 2))) (var 3)))
side_is = refl

-- 2 * y0 + 3 where y0 is 0 at the valuation
three : den (sort 0 ∷ []) (λ x A. nothing A) (plus 3 no_factors (plus 2 (times 0 no_arguments no_factors) zero_poly)) ≡ 3
three = refl

-- 1 + y0(2) where y0 adds 4 to its argument
takes_a_function : (ψ : Valuation) → ψ 0 (sort 0 ⇒ sort 0) ≡ (λ n. suc (suc (suc (suc n)))) → den ((sort 0 ⇒ sort 0) ∷ []) ψ
    (plus 1 no_factors (plus 1 (times 0 (argument (plus 2 no_factors zero_poly) no_arguments) no_factors) zero_poly)) ≡ 7
takes_a_function ψ e = rw e refl

-- units of all moves count together: a coefficient of 1 can't be spent twice
two_moves : List Transfer
two_moves = record { from = 0; to = 0; amount = 1 } ∷ record { from = 0; to = 1; amount = 1 } ∷ []

spent_twice : given_by 0 two_moves ≡ 2
unfolding two_moves
spent_twice = refl

no_cover : (right : Polynomial) → IsCover (plus 1 (times 0 no_arguments no_factors) zero_poly) right two_moves → ⊥
unfolding two_moves
no_cover right c = let l = c.not_over_spent 0 1 (times 0 no_arguments no_factors) (refl, refl) in omega (arith, l)
