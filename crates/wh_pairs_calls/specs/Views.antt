-- The data that calls of the program, and lists of references to terms, stand for.
use Rattle.std.specs.Prelude.{List, map}
use Rattle.std.specs.Borrow.{Bor}
use Rattle.wh_terms.specs.Tree.{Tm}
use Rattle.wh_terms.specs.Erase.{tm}
use Rattle.wh_terms.specs.Scope.{scope}
use Rattle.wh_terms.specs.declared.term.Term.{Term}
use Rattle.wh_pairs.specs.PairData.{within}
use Rattle.wh_pairs.specs.Calls.{Call}
use Rattle.wh_pairs_calls.specs.declared.calling.Call as code

-- the trees that a list of references leads to
abbrev pub trees : List (Bor Term) → List Tm
trees = map (λ t. tm t.now)

-- what a call of the program stands for
abbrev pub call_data : code.Call → Call
call_data c = record {
  conditions = map within c.conditions.items;
  binders = scope c.binders.items;
  symbol = c.symbol;
  need = c.need;
  arguments = trees c.arguments.items;
}
