-- How many arguments the rules of a symbol need: those of its left sides (ours).
use Rattle.std.specs.Prelude.{ℕ, ◌==◌, Bool, true, false, List, [], ◌∷◌, Option, Some, None}
use Rattle.wh_terms.specs.Tree.{Tm, fun, head, argument_count}
use Rattle.wh_terms.specs.Rules.{RewriteRule}

abbrev pub is_symbol : ℕ → Tm → Bool
is_symbol f (fun g) = f == g
is_symbol f _ = false

-- the number of arguments where it is given, or else the rest
abbrev pub first_need : Bool → ℕ → Option ℕ → Option ℕ
first_need true n rest = Some n
first_need false n rest = rest

-- how many arguments the left side of the first rule of the symbol has (in a system every rule of the symbol has as
-- many); None where it has no rules
abbrev pub need_of : List RewriteRule → ℕ → Option ℕ
need_of [] f = None
need_of (r ∷ rules) f = first_need (is_symbol f (head r.left)) (argument_count r.left) (need_of rules f)
