-- The term or type that a raw one stands for over the names of a system, if there is one.
use Rattle.std.specs.Prelude.{◌≡◌, [], Option, Some, MatchOption}
use Rattle.wh_terms.specs.Tree.{Tm}
use Rattle.wh_terms.specs.Typing.{WellTyped}
use Rattle.wh_terms.specs.Erase.{tm}
use Rattle.wh_terms.specs.declared.term.Term.{Term}
use Rattle.wh_text.specs.RawTree.{RTm}
use Rattle.wh_system_parts.specs.Naming.{Scope, meant}
use Rattle.wh_system.specs.Systems.{SystemData}

-- what names may stand for in a term of the system: its sorts and its symbols, and no meta-variables (ours)
abbrev pub term_scope : SystemData → Scope
term_scope d = record { sorts = d.sort_names; funs = d.fun_names; kinds = d.symbols.funs; metas = []; declared = [] }

-- the raw tree stands for that term of the system: by its names it is that tree, and the tree is well typed (ours)
pub record Means (d : SystemData) (u : RTm) (t : Tm) : Type 0 where
  pub named : meant (term_scope d) [] u ≡ Some t
  pub typed : WellTyped d.symbols t

-- the answer is the term that the raw tree stands for, or nothing where it stands for none
abbrev pub TellsMeant : SystemData → RTm → Option Term → Type 0
TellsMeant d u answer = MatchOption answer ((t : Tm) → Means d u t → ⊥) (λ t. Means d u (tm t))
