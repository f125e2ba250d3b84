-- Terms of sides as expressions, argument by argument.
use Rattle.std.proofs.Common.{◌≡◌, ℕ, ◌+◌, ◌<◌, List, [], ◌∷◌, length, map, take, get_or, refl, ap, ap₂, sym, ◌∙◌}
use Rattle.wh_terms.specs.Tree.{Tm, Tms, none, more, tms_of}
use Rattle.wh_terms.specs.Erase.{tm, tms}
use Rattle.wh_terms.specs.declared.term.Term.{Term, Meta}
use Rattle.wh_terms.proofs.TermLemmas.{join, tms_take_next, tm_of_meta}
use Rattle.wh_hopoly.specs.Evaluation.{Expression, var, apply}
use Rattle.wh_hopoly.specs.Outcomes.{applied_to}
use Rattle.wh_polycheck.specs.Sides.{side, side_applied}

pub side_of_meta : (n : ℕ) (t : Term) (z : ℕ) (ts : List Term) → t ≡ Meta z ts → side n (tm t) ≡ side_applied n (var z) (tms ts)
side_of_meta n t z ts e = ap (side n) (tm_of_meta t z ts e)

pub applied_last : (n : ℕ) (e : Expression) (ts : Tms) (t : Tm)
    → side_applied n e (join ts (more t none)) ≡ apply (side_applied n e ts) (side n t)
applied_last n e none t = refl
applied_last n e (more u us) t = applied_last n (apply e (side n u)) us t

-- one argument more
pub applied_next : (n : ℕ) (e : Expression) (xs : List Term) (i : ℕ) (t : Term) (before after d : Expression)
    → before ≡ side_applied n e (tms (take i xs)) → d ≡ side n (tm t) → after ≡ apply before d → i < length xs → t ≡ get_or xs i t
    → after ≡ side_applied n e (tms (take (i + 1) xs))
applied_next n e xs i t before after d same is made within there =
    made ∙ ap₂ apply same is ∙ sym (applied_last n e (tms (take i xs)) (tm t))
    ∙ ap (side_applied n e) (sym (tms_take_next xs i t within there))

-- all arguments in turn
pub applied_in_turn : (n : ℕ) (e : Expression) (xs : List Term)
    → applied_to e (map (λ t. side n (tm t)) xs) ≡ side_applied n e (tms_of (map tm xs))
applied_in_turn n e [] = refl
applied_in_turn n e (x ∷ xs) = applied_in_turn n (apply e (side n (tm x))) xs
