-- What is answered about the width of a side.
use Rattle.std.proofs.Common.{◌≡◌, ◌<◌, ◌≤◌, ◌↔◌, ℕ, Bool, true, false, IsTrue, Result, Ok, Err, IfOk, refl, sym, ap, subst, ◌∙◌, arith}
use Rattle.wh_types.specs.Outcome.{MatchOr}
use Rattle.wh_types.specs.declared.want.Or.{Or}
use Rattle.wh_types.specs.declared.want.Or.TheVariants.{Because}

pub ok_narrow : {T W E : Type 0} (r : Result Bool E) (n m : ℕ) (P : T → Type 0) (told : Result T (Or W)) (x : T) → told ≡ Ok x → r ≡ Ok true
    → MatchOr told (λ u. (n ≤ m) × P u) (λ _. m < n) → IfOk r (λ narrow. IsTrue narrow ↔ (n ≤ m))
ok_narrow r n m P told x is same h =
    let holds = subst (λ t. MatchOr t (λ u. (n ≤ m) × P u) (λ _. m < n)) is h in
    subst (λ t. IfOk t (λ narrow. IsTrue narrow ↔ (n ≤ m))) (sym same) ((λ yes. holds.0), (λ yes. refl))

pub no_memory : {E : Type 0} (r : Result Bool E) (P : Bool → Type 0) {e : E} → r ≡ Err e → IfOk r P
no_memory r P same = subst (λ t. IfOk t P) (sym same) tt

pub not_narrow : {T W E : Type 0} (r : Result Bool E) (n m : ℕ) (P : T → Type 0) (told : Result T (Or W)) (o : Or W) (w : W) → told ≡ Err o
    → o ≡ Because w → r ≡ Ok false → MatchOr told (λ u. (n ≤ m) × P u) (λ _. m < n) → IfOk r (λ narrow. IsTrue narrow ↔ (n ≤ m))
not_narrow r n m P told o w is cause same h =
    let wide = subst (λ t. MatchOr t (λ u. (n ≤ m) × P u) (λ _. m < n)) (is ∙ ap (λ x. Err x) cause) h in
    subst (λ t. IfOk t (λ narrow. IsTrue narrow ↔ (n ≤ m))) (sym same) ((λ no. absurd (cc (no))), (λ le. absurd (omega (arith, le, wide))))
