use Rattle.std.proofs.Common.{◌≡◌, ap, sym, ◌∙◌, subst}
use Rattle.wh_terms.specs.Tree.{app}
use Rattle.wh_terms.specs.Erase.{tm, symbols}
use Rattle.wh_access.specs.Readings.{readings_of_left}
use Rattle.wh_access.specs.Tables.{TellsAsked}
use Rattle.wh_access.proofs.AskLemmas.{ask_left_front, ask_left_last}
use Rattle.wh_access.proofs.demands.+ask_left.Goals as goal

pub returns-then-ask_left : goal.returns-then-ask_left
returns-then-ask_left t c =
    let e : tm c.args.left.now ≡ app (tm c.deref.result.now) (tm c.in-App.argument.value) = ap tm c.in-App.is ∙ ap (λ v. app (tm v) (tm c.in-App.argument.value)) (sym c.deref.ensures) in
    let S = symbols c.args.signature.now in
    let told = subst (TellsAsked S c.args.meta (readings_of_left (tm c.deref.result.now)) c.args.demands.now c.ask_left.new.demands) c.if-ask_left.true c.ask_left.ensures in
    subst (TellsAsked S c.args.meta (readings_of_left (tm c.args.left.now)) c.args.demands.now c.ask_left.new.demands) (sym c.if-ask_left.true)
    (ask_left_front S c.args.meta _ _ _ c.args.demands.now c.ask_left.new.demands e told)

pub returns-else-ask_left : goal.returns-else-ask_left
returns-else-ask_left t c =
    let e : tm c.args.left.now ≡ app (tm c.deref.result.now) (tm c.deref-else-ask_left.result.now) =
    ap tm c.in-App.is ∙ ap (λ v. app (tm v) (tm c.in-App.argument.value)) (sym c.deref.ensures) ∙ ap (λ v. app (tm c.deref.result.now) (tm v)) (sym c.deref-else-ask_left.ensures) in
    let S = symbols c.args.signature.now in
    let told = subst (TellsAsked S c.args.meta (readings_of_left (tm c.deref.result.now)) c.args.demands.now c.ask_left.new.demands) c.if-ask_left.false c.ask_left.ensures in
    ask_left_last S c.args.meta _ _ _ c.args.demands.now c.ask_left.new.demands c.ask_in.new.demands c.ask_in.result e told c.ask_in.ensures
