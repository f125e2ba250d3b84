-- How much larger a tree gets by its missing arguments.
use Rattle.std.specs.Prelude.{ℕ, zero, suc, ◌+◌, List}
use Rattle.wh_types.specs.Ty.{Ty, sort, ◌⇒◌}
use Rattle.wh_terms.specs.Tree.{Tm}
use Rattle.wh_terms.specs.Typing.{Symbols, Declared}
use Rattle.wh_terms.specs.Substitution.{up_renaming}
use Rattle.wh_order_extended.specs.Kinds.{kind}
use Rattle.wh_order_extended.specs.Long.{core, finish_argument}

-- how many nodes the missing arguments of a tree of the type add: an abstraction, an application and a variable each,
-- and what the variable itself is missing (ours)
abbrev pub growth : Ty → ℕ
growth (sort s) = 0
growth (a ⇒ b) = 3 + growth a + growth b

-- k binders inside the place where a tree is moved below one binder more, loose variables of the tree count one more
-- (ours)
unfoldable pub past : ℕ → ℕ → ℕ
past zero = suc
past (suc k) = up_renaming (past k)

-- an argument of a meta-variable, extended (ours)
abbrev pub argued : Symbols → List Declared → List Ty → Tm → Tm
argued S M Γ t = finish_argument t (kind S M Γ t) (core S M Γ t)
