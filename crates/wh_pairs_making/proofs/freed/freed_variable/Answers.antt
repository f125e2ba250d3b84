use Rattle.std.proofs.Common.{◌≡◌, ◌+◌, ℕ, ap, sym, ◌∙◌, arith}
use Rattle.std.proofs.lemmas.Result.{IfOk-weaker}
use Rattle.wh_terms.specs.Tree.{meta, none}
use Rattle.wh_terms.specs.Erase.{tm}
use Rattle.wh_terms.specs.Scope.{scope}
use Rattle.wh_terms.specs.Under.{ups}
use Rattle.wh_pairs.specs.Candidates.{freed}
use Rattle.wh_pairs.proofs.FreedLemmas.{freed_here}
use Rattle.wh_pairs_making.proofs.freed.freed_variable.Goals as goal

pub returns-in_ok-sum : goal.returns-in_ok-sum
returns-in_ok-sum c =
    let by = c.args.by.now in
    let j : ℕ = c.in_ok-outward.outward in
    let z : c.in_ok-sum.field-0 ≡ by.first + j = c.in_ok-sum.ensures in
    let there = freed_here by.first c.args.depth c.args.number j by.binders.now (omega arith) (omega (arith, c.in_ok-outward.ensures)) in
    IfOk-weaker c.nullary.result (λ r. tm r ≡ meta c.in_ok-sum.field-0 none) (λ r. tm r ≡ ups c.args.depth (freed by.first (scope by.binders.now)) c.args.number)
    (λ r e. e ∙ ap (λ n. meta n none) z ∙ sym there) c.nullary.ensures
