-- What a path order asks of rules and of pairs beside well-typed sides.
use Rattle.std.specs.Prelude.{◌<◌, List, length, Contains}
use Rattle.std.specs.List.{AllByRecursion}
use Rattle.wh_terms.specs.Pattern.{IsPatternUnder}
use Rattle.wh_terms.specs.Typing.{Symbols}
use Rattle.wh_terms.specs.Rules.{RewriteRule}
use Rattle.wh_step_laws.specs.RootRelations.{KnowsSorts}
use Rattle.wh_pairs.specs.PairData.{PairData}
use Rattle.wh_order_extended.specs.Kinds.{KnowsMetas, KnowsArguments}

-- the sorts in the types of symbols, and in those of the rules' meta-variables, are sorts of S (ours)
pub record HaveKnownSorts (S : Symbols) (rules : List RewriteRule) : Type 0 where
  pub of_symbols : KnowsSorts S
  pub of_metas : (r : RewriteRule) → Contains rules r → KnowsMetas S r.metas

-- the pair leads to a call of a symbol of S, its meta-variables are declared with sorts of S, and the arguments on its
-- left side are patterns (Kop 2012; the form is ours)
pub record HasPatternSides (S : Symbols) (p : PairData) : Type 0 where
  pub right_known : p.right_fun < length S.funs
  pub metas_known : KnowsMetas S p.metas
  pub arguments_known : KnowsArguments S p.metas
  pub left_patterns : AllByRecursion (IsPatternUnder 0) p.left

-- each pair of the list has pattern sides
abbrev pub HavePatternSides : Symbols → List PairData → Type 0
HavePatternSides S pairs = (p : PairData) → Contains pairs p → HasPatternSides S p
