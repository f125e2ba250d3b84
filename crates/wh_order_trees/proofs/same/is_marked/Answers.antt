use Rattle.std.proofs.Common.{◌+◌, subst, sym, rules}
use Rattle.wh_order_trees.proofs.PartLemmas.{IsOtherTree, no_symbol}
use Rattle.wh_order_trees.proofs.SameLemmas.{never, mark_same, mark_no_symbol}
use Rattle.wh_order_trees.proofs.same.is_marked.Goals as goal

pub returns-in-Mark : goal.returns-in-Mark
returns-in-Mark c n w o = mark_same _ c.args.t.now c.args.symbol c.in-Mark.own c.in-Mark.field-1 c.in-Mark.is (search rules) n

pub returns-in-Sym : goal.returns-in-Sym
returns-in-Sym c n w o = mark_no_symbol c.args.t.now c.args.symbol c.in-Sym.field-0 c.in-Sym.field-1 c.in-Sym.is n w o

pub returns-in-Apply : goal.returns-in-Apply
returns-in-Apply c n w o = never (λ e. no_symbol n c.args.t.now (subst IsOtherTree (sym c.in-Apply.is) tt) w o (n + c.args.symbol) (sym e))

pub returns-in-Meta : goal.returns-in-Meta
returns-in-Meta c n w o = never (λ e. no_symbol n c.args.t.now (subst IsOtherTree (sym c.in-Meta.is) tt) w o (n + c.args.symbol) (sym e))

pub returns-in-Lam : goal.returns-in-Lam
returns-in-Lam c n w o = never (λ e. no_symbol n c.args.t.now (subst IsOtherTree (sym c.in-Lam.is) tt) w o (n + c.args.symbol) (sym e))

pub returns-in-Bound : goal.returns-in-Bound
returns-in-Bound c n w o = never (λ e. no_symbol n c.args.t.now (subst IsOtherTree (sym c.in-Bound.is) tt) w o (n + c.args.symbol) (sym e))

pub returns-in-Free : goal.returns-in-Free
returns-in-Free c n w o = never (λ e. no_symbol n c.args.t.now (subst IsOtherTree (sym c.in-Free.is) tt) w o (n + c.args.symbol) (sym e))
