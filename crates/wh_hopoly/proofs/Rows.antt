-- Values computed by the definitions alone.
use Rattle.std.proofs.Common.{◌≡◌, ℕ, List, [], ◌∷◌, refl}
use Rattle.wh_types.specs.Ty.{Ty, sort, ◌⇒◌}
use Rattle.wh_poly.specs.Polynomials.{Polynomial, zero_poly, plus, Factors, no_factors, times, Arguments, no_arguments, argument}
use Rattle.wh_poly.specs.Arithmetic.{atom, constant, multiply}
use Rattle.wh_hopoly.specs.Evaluation.{Expression, var, symbol, lambda, apply, Interpretation, evaluate}
use Rattle.wh_poly.specs.Limits.{weight, nesting}

-- a variable of a sort, before other factors and by itself
abbrev y : ℕ → Factors → Factors
y x us = times x no_arguments us

abbrev only : ℕ → Polynomial → Polynomial
only x p = plus 1 (y x no_factors) p

abbrev nat : Ty
nat = sort 0

abbrev list : Ty
list = sort 1

-- the symbol 0 is read as 1+2*y0; (\F.\x.F (F x)) applied to it is 3+4*y0
abbrev double : List Interpretation
double = record { kind = nat ⇒ nat; polynomial = plus 1 no_factors (plus 2 (y 0 no_factors) zero_poly) } ∷ []

twice : (evaluate double [] (apply (lambda (nat ⇒ nat) (lambda nat (apply (var 0) (apply (var 0) (var 1))))) (symbol 0))).result
    ≡ plus 3 no_factors (plus 4 (y 0 no_factors) zero_poly)
twice = refl

-- lists: zero and nil are read as 0, s as 1*y0, cons as 1+1*y0+1*y1, map as 1*y0(1*y1)*y1+1*y1
abbrev one_argument : Polynomial → Arguments
one_argument p = argument p no_arguments

abbrev lists : List Interpretation
lists =
    record { kind = nat; polynomial = zero_poly } ∷
    (record { kind = nat ⇒ nat; polynomial = only 0 zero_poly } ∷
    (record { kind = list; polynomial = zero_poly } ∷
    (record { kind = nat ⇒ list ⇒ list; polynomial = plus 1 no_factors (only 0 (only 1 zero_poly)) } ∷
    (record { kind = (nat ⇒ nat) ⇒ list ⇒ list; polynomial = plus 1 (times 0 (one_argument (only 1 zero_poly)) (y 1 no_factors)) (only 1 zero_poly) } ∷ []))))

-- a scope F : nat -> nat, X : nat, Y : list
abbrev metas : List Ty
metas = (nat ⇒ nat) ∷ (nat ∷ (list ∷ []))

-- \x.F x
abbrev function : Expression
function = lambda nat (apply (var 0) (var 3))

-- with A = 1+1*y1+1*y2, map (\x.F x) (cons X Y) is 1+1*y0(A)+1*y0(A)*y1+1*y0(A)*y2+1*y1+1*y2
abbrev a : Arguments
a = one_argument (plus 1 no_factors (only 1 (only 2 zero_poly)))

left_side : (evaluate lists metas (apply (apply (symbol 4) function) (apply (apply (symbol 3) (var 1)) (var 2)))).result
    ≡ plus 1 no_factors (plus 1 (times 0 a no_factors) (plus 1 (times 0 a (y 1 no_factors)) (plus 1 (times 0 a (y 2 no_factors)) (only 1 (only 2 zero_poly)))))
left_side = refl

-- cons (F X) (map (\x.F x) Y) is 1+1*y0(1*y1)+1*y0(1*y2)*y2+1*y2
right_side : (evaluate lists metas (apply (apply (symbol 3) (apply (var 0) (var 1))) (apply (apply (symbol 4) function) (var 2)))).result
    ≡ plus 1 no_factors (plus 1 (times 0 (one_argument (only 1 zero_poly)) no_factors) (plus 1 (times 0 (one_argument (only 2 zero_poly)) (y 2 no_factors)) (only 2 zero_poly)))
right_side = refl

-- rows of a product need not be in order: 1*y1 times 1+1*y0 is 1*y0*y1+1*y1
product_out_of_order : multiply (only 1 zero_poly) (plus 1 no_factors (only 0 zero_poly)) ≡ plus 1 (y 0 (y 1 no_factors)) (only 1 zero_poly)
product_out_of_order = refl

-- y0(1) weighs 3 and nests 1 deep
weight_of_call : weight (atom 0 (one_argument (constant 1))) ≡ 3
weight_of_call = refl

nesting_of_call : nesting (atom 0 (one_argument (constant 1))) ≡ 1
nesting_of_call = refl

-- a value before a factor 0 counts, and the product is 0 from there: 5*y0*y1 at y0 = 0 and y1 = 7, the values of the last replacement
abbrev product : List Interpretation
product = record { kind = nat ⇒ nat ⇒ nat; polynomial = plus 5 (y 0 (y 1 no_factors)) zero_poly } ∷
    (record { kind = nat; polynomial = zero_poly } ∷ (record { kind = nat; polynomial = constant 7 } ∷ []))

values_of_product : (evaluate product [] (apply (apply (symbol 0) (symbol 2)) (symbol 1))).values
    ≡ plus 5 (y 0 (y 1 no_factors)) zero_poly ∷ (constant 7
    ∷ (constant 7 ∷ (constant 5 ∷ (only 0 zero_poly ∷ (constant 35 ∷ (plus 35 (y 0 no_factors) zero_poly ∷ (plus 35 (y 0 no_factors) zero_poly ∷ (plus 35 (y 0 no_factors) zero_poly
    ∷ (zero_poly ∷ (zero_poly ∷ (constant 35 ∷ (zero_poly ∷ (zero_poly ∷ (zero_poly ∷ []))))))))))))))
values_of_product = refl
