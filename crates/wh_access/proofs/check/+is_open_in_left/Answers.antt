use Rattle.std.proofs.Common.{◌≡◌, ap, sym, ◌∙◌}
use Rattle.wh_terms.specs.Tree.{app}
use Rattle.wh_terms.specs.Erase.{tm, symbols}
use Rattle.wh_step_laws.specs.Ranks.{rank_of}
use Rattle.wh_access.proofs.ReadingLemmas.{left_in_front, left_in_last}
use Rattle.wh_access.proofs.check.+is_open_in_left.Goals as goal

pub returns-then-is_some : goal.returns-then-is_some
returns-then-is_some t c =
    let e : tm c.args.left.now ≡ app (tm c.deref.result.now) (tm c.in-App.argument.value) = ap tm c.in-App.is ∙ ap (λ v. app (tm v) (tm c.in-App.argument.value)) (sym c.deref.ensures) in
    left_in_front (symbols c.args.signature.now) (rank_of c.args.ranks.now) c.args.meta _ _ _ c.is_open_in_left-front.result e (sym c.is_some.ensures ∙ c.if-is_some.true) c.is_open_in_left-front.ensures

pub returns-else-is_some : goal.returns-else-is_some
returns-else-is_some t c =
    let e : tm c.args.left.now ≡ app (tm c.deref.result.now) (tm c.deref-in-App.result.now) =
    ap tm c.in-App.is ∙ ap (λ v. app (tm v) (tm c.in-App.argument.value)) (sym c.deref.ensures) ∙ ap (λ v. app (tm c.deref.result.now) (tm v)) (sym c.deref-in-App.ensures) in
    left_in_last (symbols c.args.signature.now) (rank_of c.args.ranks.now) c.args.meta _ _ _ c.is_open_in_left-front.result c.is_open.result e (sym c.is_some.ensures ∙ c.if-is_some.false) c.is_open_in_left-front.ensures c.is_open.ensures
