-- The extended sides of rules and pairs. A marked symbol has a number too: the symbol's, counted on behind all symbols.
use Rattle.std.specs.Prelude.{ℕ, suc, ◌+◌, List, [], ◌∷◌, ◌++◌, length, map}
use Rattle.wh_types.specs.Ty.{Ty, arguments}
use Rattle.wh_terms.specs.Tree.{Tm, fun, meta, none, spine}
use Rattle.wh_terms.specs.Typing.{Symbols, Declared}
use Rattle.wh_terms.specs.Rules.{RewriteRule}
use Rattle.wh_order_extended.specs.Kinds.{kind}
use Rattle.wh_order_extended.specs.Long.{long}

-- the types of the arguments that a rule's sides may still take (ours)
abbrev pub missing : Symbols → RewriteRule → List Ty
missing S r = arguments (kind S r.metas [] r.left)

-- for each type a meta-variable of that type without arguments (ours)
abbrev pub added : List Ty → List Declared
added cs = map (λ c. record { args = []; out = c }) cs

-- for each type the application of such a meta-variable, numbered from n on (ours)
abbrev pub added_from : ℕ → List Ty → List Tm
added_from n [] = []
added_from n (c ∷ cs) = meta n none ∷ added_from (suc n) cs

-- the meta-variables of the extended sides: those of the rule, and behind them one for each missing argument (Kop 2012)
abbrev pub extended_metas : Symbols → RewriteRule → List Declared
extended_metas S r = r.metas ++ added (missing S r)

-- a side of the rule, applied to fresh meta-variables for its missing arguments and extended (Kop 2012)
abbrev pub extended_side : Symbols → RewriteRule → Tm → Tm
extended_side S r t = long S (extended_metas S r) [] (spine t (added_from (length r.metas) (missing S r)))

-- the number of the marked symbol of f (ours)
abbrev pub marked_number : Symbols → ℕ → ℕ
marked_number S f = length S.funs + f

-- the marked symbol of f with extended arguments: a side of a pair, extended (Kop 2012)
abbrev pub extended_call : Symbols → List Declared → ℕ → List Tm → Tm
extended_call S M f ts = spine (fun (marked_number S f)) (map (long S M []) ts)
