-- The candidates for dependency pairs: the calls of the right sides, each with its left side.
use Rattle.std.specs.Prelude.{ℕ, zero, suc, ◌+◌, ◌-◌, List, [], ◌∷◌, ◌++◌, length, map, take, drop, reverse, get_or}
use Rattle.wh_types.specs.Ty.{Ty, sort, arguments}
use Rattle.wh_terms.specs.Tree.{Tm, bound, free, meta, none, head}
use Rattle.wh_terms.specs.Substitution.{act, cons}
use Rattle.wh_terms.specs.Typing.{Symbols, Declared}
use Rattle.wh_terms.specs.Rules.{RewriteRule}
use Rattle.wh_pairs.specs.PairData.{PairData}
use Rattle.wh_pairs.specs.Spines.{spine_arguments, symbol_of}
use Rattle.wh_pairs.specs.Calls.{Call, calls_of}

-- a meta-variable of arity 0 of that type
abbrev pub nullary : Ty → Declared
nullary a = record { args = []; out = a }

-- for each variable of the binders of the types Γ, the innermost first, a meta-variable of arity 0: that of the
-- outermost binder has the number x, and each further one counts on (Fuhs and Kop 2019, freed bound variables)
unfoldable pub freed : ℕ → List Ty → ℕ → Tm
freed x [] = bound
freed x (a ∷ Γ) = cons (meta (x + length Γ) none) (freed x Γ)

-- n meta-variables of arity 0, numbered from x on
abbrev pub numbered_from : ℕ → ℕ → List Tm
numbered_from x zero = []
numbered_from x (suc n) = meta x none ∷ numbered_from (x + 1) n

-- the types of the arguments that the call lacks
abbrev pub missing_types : Symbols → Call → List Ty
missing_types S c = drop (length c.arguments) (take c.need (arguments (get_or S.funs c.symbol (sort 0))))

-- the candidate of a call in the right side of the rule r, which has the number k. To the meta-variables of the rule
-- come fresh ones: for each binder around the call, from the outside, and then for each argument that the call lacks.
-- On the right stand as many arguments as the rules of the symbol have, with fresh meta-variables for the bound
-- variables and for what is lacking (Kop 2012, static dependency pairs; Fuhs and Kop 2019; that a symbol has one number
-- of arguments is ours)
abbrev pub candidate : Symbols → ℕ → RewriteRule → Call → PairData
candidate S k r c = record {
  rule = k;
  metas = r.metas ++ map nullary (reverse c.binders ++ missing_types S c);
  left_fun = symbol_of (head r.left);
  left = spine_arguments r.left;
  right_fun = c.symbol;
  right = map (act (freed (length r.metas) c.binders) free) (take c.need c.arguments)
      ++ numbered_from (length r.metas + length c.binders) (c.need - length c.arguments);
  conditions = c.conditions;
}

-- the candidates of the rules from number k on
abbrev pub candidates_from : Symbols → List RewriteRule → ℕ → List RewriteRule → List PairData
candidates_from S rules k [] = []
candidates_from S rules k (r ∷ rest) = map (candidate S k r) (calls_of rules r) ++ candidates_from S rules (k + 1) rest

-- the candidates of a system: rules in order, and the calls of each right side in order (Kop 2012; Fuhs and Kop 2019)
abbrev pub candidates : Symbols → List RewriteRule → List PairData
candidates S rules = candidates_from S rules 0 rules
