-- What a system text says before its names are looked up, without pointers.
use Rattle.std.specs.Prelude.{ℕ, List}
use Rattle.wh_text.specs.RawTree.{RTy, RTys, RTm}

-- a declared name, and its offset
pub record RName : Type 0 where
  pub name : List ℕ
  pub at : ℕ

-- a declared symbol and its type
pub record RFun : Type 0 where
  pub name : RName
  pub kind : RTy

-- a declared meta-variable: the types in its brackets, and the type behind them
pub record RMeta : Type 0 where
  pub name : RName
  pub args : RTys
  pub out : RTy

-- a rule; its offset is that of its keyword
pub record RRule : Type 0 where
  pub metas : List RMeta
  pub left : RTm
  pub right : RTm
  pub at : ℕ

-- the sorts, symbols and rules, in order
pub record RParts : Type 0 where
  pub sorts : List RName
  pub funs : List RFun
  pub rules : List RRule
