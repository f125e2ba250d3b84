-- The names that a system has for what stands in its terms and in the sides of its rules.
use Rattle.std.specs.Prelude.{ℕ, Bool, true, false, [], get_or}
use Rattle.wh_terms.specs.Tree.{Tm}
use Rattle.wh_terms.specs.Rules.{RewriteRule}
use Rattle.wh_system.specs.Systems.{SystemData}
use Rattle.wh_system.specs.Canonical.{Names}

-- the names of a system, without meta-variables
abbrev pub names_of_system : SystemData → Names
names_of_system d = record { sorts = d.sort_names; funs = d.fun_names; metas = [] }

-- with the meta-variables of that rule
abbrev pub names_of_rule : SystemData → ℕ → Names
names_of_rule d r = record { sorts = d.sort_names; funs = d.fun_names; metas = get_or d.meta_names r [] }

-- the right or the left side
abbrev pub side_of : Bool → RewriteRule → Tm
side_of true rule = rule.right
side_of false rule = rule.left
