-- From the first unused number on, each number is fresh.
use Rattle.std.proofs.Common.{arith}
use Rattle.wh_terms.specs.Tree.{Tm, bound, free, fun, meta, lam, app, Tms, none, more}
use Rattle.wh_terms.proofs.FreshLaws.{Above, AllAbove}
use Rattle.wh_no.specs.Unused.{first_unused, all_first_unused}

mutual
  pub unused-above : (t : Tm) → Above (first_unused t) t
  unused-above (bound i) y h = tt
  unused-above (free x a) y h = λ e. omega arith
  unused-above (fun f) y h = tt
  unused-above (meta z ts) y h = all_unused-above ts y h
  unused-above (lam a t) y h = unused-above t y h
  unused-above (app t u) y h = (unused-above t y (omega arith), unused-above u y (omega arith))

  pub all_unused-above : (ts : Tms) → AllAbove (all_first_unused ts) ts
  all_unused-above none y h = tt
  all_unused-above (more t ts) y h = (unused-above t y (omega arith), all_unused-above ts y (omega arith))
