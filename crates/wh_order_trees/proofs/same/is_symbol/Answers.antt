use Rattle.std.proofs.Common.{subst, sym, rules}
use Rattle.wh_order_trees.proofs.PartLemmas.{IsOtherTree, no_symbol}
use Rattle.wh_order_trees.proofs.SameLemmas.{never, symbol_same, symbol_no_mark}
use Rattle.wh_order_trees.proofs.same.is_symbol.Goals as goal

pub returns-in-Sym : goal.returns-in-Sym
returns-in-Sym c n w low o = symbol_same _ c.args.t.now c.args.symbol c.in-Sym.own c.in-Sym.field-1 c.in-Sym.is (search rules) n

pub returns-in-Mark : goal.returns-in-Mark
returns-in-Mark c n w low o = symbol_no_mark c.args.t.now c.args.symbol c.in-Mark.field-0 c.in-Mark.field-1 c.in-Mark.is n low

pub returns-in-Apply : goal.returns-in-Apply
returns-in-Apply c n w low o = never (λ e. no_symbol n c.args.t.now (subst IsOtherTree (sym c.in-Apply.is) tt) w o c.args.symbol (sym e))

pub returns-in-Meta : goal.returns-in-Meta
returns-in-Meta c n w low o = never (λ e. no_symbol n c.args.t.now (subst IsOtherTree (sym c.in-Meta.is) tt) w o c.args.symbol (sym e))

pub returns-in-Lam : goal.returns-in-Lam
returns-in-Lam c n w low o = never (λ e. no_symbol n c.args.t.now (subst IsOtherTree (sym c.in-Lam.is) tt) w o c.args.symbol (sym e))

pub returns-in-Bound : goal.returns-in-Bound
returns-in-Bound c n w low o = never (λ e. no_symbol n c.args.t.now (subst IsOtherTree (sym c.in-Bound.is) tt) w o c.args.symbol (sym e))

pub returns-in-Free : goal.returns-in-Free
returns-in-Free c n w low o = never (λ e. no_symbol n c.args.t.now (subst IsOtherTree (sym c.in-Free.is) tt) w o c.args.symbol (sym e))
