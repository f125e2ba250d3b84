-- Facts on the symbols in a system's trees: their numbers are declared, and their types have enough arguments.
use Rattle.std.specs.Prelude.{ℕ, ◌<◌, ◌≤◌, length, get_or}
use Rattle.wh_types.specs.Ty.{sort, arguments}
use Rattle.wh_terms.specs.Tree.{Tm, fun, meta, lam, app, Tms, none, more}
use Rattle.wh_terms.specs.Typing.{Symbols}

-- each symbol in the tree has a number below n
abbrev mutual
  pub SymbolsBelow : ℕ → Tm → Type 0
  SymbolsBelow n (fun f) = f < n
  SymbolsBelow n (meta z ts) = AllSymbolsBelow n ts
  SymbolsBelow n (lam a t) = SymbolsBelow n t
  SymbolsBelow n (app t u) = SymbolsBelow n t × SymbolsBelow n u
  SymbolsBelow n _ = Unit {0}

  pub AllSymbolsBelow : ℕ → Tms → Type 0
  AllSymbolsBelow n none = Unit {0}
  AllSymbolsBelow n (more t ts) = SymbolsBelow n t × AllSymbolsBelow n ts

-- f is a symbol whose type has at least e arguments
pub record TakesArguments (S : Symbols) (f e : ℕ) : Type 0 where
  pub known : f < length S.funs
  pub enough : e ≤ length (arguments (get_or S.funs f (sort 0)))
