-- A number that is no symbol's heads no rule.
use Rattle.std.proofs.Common.{◌≡◌, ℕ, suc, ◌<◌, ◌≤◌, ◌==◌, Bool, true, false, List, [], ◌∷◌, Option, None, length, Contains, refl, ap, sym, ◌∙◌, arith}
use Rattle.std.proofs.lemmas.Option.{slice_get_within}
use Rattle.std.proofs.lemmas.Bool.Decides.{nat_tests}
use Rattle.wh_types.specs.Ty.{Ty}
use Rattle.wh_terms.specs.Tree.{Tm, fun, head, argument_count}
use Rattle.wh_terms.specs.Typing.{Symbols, Declared, Typed, typed_bound, typed_free, typed_fun, typed_meta, typed_lam, typed_app}
use Rattle.wh_terms.specs.Rules.{RewriteRule, IsWellMade, AreWellMade}
use Rattle.wh_system.specs.Needs.{need_of, is_symbol, first_need}

-- the symbol that heads a typed tree is a symbol
head_within : {S : Symbols} {M : List Declared} {Γ : List Ty} {t : Tm} {a : Ty} → Typed S M Γ t a → (f : ℕ) → head t ≡ fun f → f < length S.funs
head_within (typed_bound e) f h = cc
head_within (typed_free s) f h = cc
head_within {S} (typed_fun {f = g} {a = a} e) f h =
    let same : g ≡ f = cc in
    let below = slice_get_within S.funs g a e in omega arith
head_within (typed_meta e ts o) f h = cc
head_within (typed_lam s t) f h = cc
head_within (typed_app t u) f h = head_within t f h

other_need : (b : Bool) (n : ℕ) (rest : Option ℕ) → (b ≡ true → ⊥) → rest ≡ None → first_need b n rest ≡ None
other_need true n rest other none = absurd (other refl)
other_need false n rest other none = none

other_symbol : (g f : ℕ) (t : Tm) → t ≡ fun g → (g ≡ f → ⊥) → is_symbol f t ≡ true → ⊥
other_symbol g f t e other is =
    let tested : (f == g) ≡ true = sym (ap (is_symbol f) e) ∙ is in
    other (grind (arith, nat_tests, tested))

no_need-each : (S : Symbols) (rules : List RewriteRule) → ((r : RewriteRule) → Contains rules r → IsWellMade S r) → (f : ℕ) → length S.funs ≤ f → need_of rules f ≡ None
no_need-each S [] each f past = refl
no_need-each S (r ∷ rules) each f past =
    let here = each r (0, omega arith, refl) in
    let within = head_within here.typed.1 here.headed.0 here.headed.1 in
    let other : here.headed.0 ≡ f → ⊥ = λ e. omega arith in
    other_need (is_symbol f (head r.left)) (argument_count r.left) (need_of rules f)
    (other_symbol here.headed.0 f (head r.left) here.headed.1 other)
    (no_need-each S rules (λ s found. each s (suc found.0, omega arith, found.2)) f past)

pub no_need : (S : Symbols) (rules : List RewriteRule) → AreWellMade S rules → (f : ℕ) → length S.funs ≤ f → need_of rules f ≡ None
no_need S rules made f past = no_need-each S rules made.each f past
