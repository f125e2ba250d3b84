use Rattle.std.proofs.Common.{◌≡◌, Some, ap, sym, ◌∙◌, subst}
use Rattle.wh_terms.specs.Tree.{app, head, argument_count}
use Rattle.wh_terms.specs.Erase.{tm, symbols}
use Rattle.wh_step_laws.specs.Ranks.{rank_of}
use Rattle.wh_access.specs.Readings.{readings, symbol_of}
use Rattle.wh_access.specs.Answered.{TellsOpen}
use Rattle.wh_access.proofs.ReadingLemmas.{in_front, in_nothing, in_argument}
use Rattle.wh_access.proofs.check.+is_open.Goals as goal

pub returns-then-is_some : goal.returns-then-is_some
returns-then-is_some t c =
    let e : tm c.args.pattern.now ≡ app (tm c.deref-in-App.result.now) (tm c.in-App.argument.value) = ap tm c.in-App.is ∙ ap (λ v. app (tm v) (tm c.in-App.argument.value)) (sym c.deref-in-App.ensures) in
    in_front (symbols c.args.signature.now) (rank_of c.args.ranks.now) c.args.meta _ _ _ c.is_open-front.result e (sym c.is_some.ensures ∙ c.if-is_some.true) c.is_open-front.ensures

pub returns-in_err-open-in-App : goal.returns-in_err-open-in-App
returns-in_err-open-in-App t c =
    let e : tm c.args.pattern.now ≡ app (tm c.deref-in-App.result.now) (tm c.deref-in-App-2.result.now) =
    ap tm c.in-App.is ∙ ap (λ v. app (tm v) (tm c.in-App.argument.value)) (sym c.deref-in-App.ensures) ∙ ap (λ v. app (tm c.deref-in-App.result.now) (tm v)) (sym c.deref-in-App-2.ensures) in
    subst (TellsOpen (symbols c.args.signature.now) (rank_of c.args.ranks.now) c.args.meta (readings (tm c.args.pattern.now))) (sym c.from_residual.ensures)
    (in_nothing (symbols c.args.signature.now) (rank_of c.args.ranks.now) c.args.meta _ _ _ c.is_open-front.result e (sym c.is_some.ensures ∙ c.if-is_some.false) c.is_open-front.ensures c.in_err-open-in-App.ensures)

pub returns-then-open : goal.returns-then-open
returns-then-open t c =
    let place = c.in_ok-place-in-App.place in
    let S = symbols c.args.signature.now in
    let rank = rank_of c.args.ranks.now in
    let e : tm c.args.pattern.now ≡ app (tm c.deref-in-App.result.now) (tm c.deref-in-App-2.result.now) =
    ap tm c.in-App.is ∙ ap (λ v. app (tm v) (tm c.in-App.argument.value)) (sym c.deref-in-App.ensures) ∙ ap (λ v. app (tm c.deref-in-App.result.now) (tm v)) (sym c.deref-in-App-2.ensures) in
    let same : tm c.deref-in-App-3.result.now ≡ tm c.deref-in-App.result.now = ap tm (c.deref-in-App-3.ensures ∙ sym c.deref-in-App.ensures) in
    let found : TellsOpen S rank c.args.meta (readings (tm c.deref-in-App-2.result.now)) (Some c.in_ok-open-in-App.open) = c.in_ok-open-in-App.ensures in
    in_argument S rank c.args.meta _ _ _ c.is_open-front.result place.symbol place.index c.in_ok-open-in-App.open c.is_accessible.result e (sym c.is_some.ensures ∙ c.if-is_some.false) c.is_open-front.ensures
    (ap (λ u. symbol_of (head u)) (sym same) ∙ c.in_ok-place-in-App.ensures.0) (c.in_ok-place-in-App.ensures.1 ∙ ap argument_count same) found
    (λ yes. (c.if-open.true, c.is_accessible.ensures.0 yes), λ both. c.is_accessible.ensures.1 both.1)

pub returns-else-open : goal.returns-else-open
returns-else-open t c =
    let place = c.in_ok-place-in-App.place in
    let S = symbols c.args.signature.now in
    let rank = rank_of c.args.ranks.now in
    let e : tm c.args.pattern.now ≡ app (tm c.deref-in-App.result.now) (tm c.deref-in-App-2.result.now) =
    ap tm c.in-App.is ∙ ap (λ v. app (tm v) (tm c.in-App.argument.value)) (sym c.deref-in-App.ensures) ∙ ap (λ v. app (tm c.deref-in-App.result.now) (tm v)) (sym c.deref-in-App-2.ensures) in
    let same : tm c.deref-in-App-3.result.now ≡ tm c.deref-in-App.result.now = ap tm (c.deref-in-App-3.ensures ∙ sym c.deref-in-App.ensures) in
    let found : TellsOpen S rank c.args.meta (readings (tm c.deref-in-App-2.result.now)) (Some c.in_ok-open-in-App.open) = c.in_ok-open-in-App.ensures in
    in_argument S rank c.args.meta _ _ _ c.is_open-front.result place.symbol place.index c.in_ok-open-in-App.open c.in_ok-open-in-App.open e (sym c.is_some.ensures ∙ c.if-is_some.false) c.is_open-front.ensures
    (ap (λ u. symbol_of (head u)) (sym same) ∙ c.in_ok-place-in-App.ensures.0) (c.in_ok-place-in-App.ensures.1 ∙ ap argument_count same) found
    (λ yes. absurd (cc (yes, c.if-open.false)), λ both. both.0)
