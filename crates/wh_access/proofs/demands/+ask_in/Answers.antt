use Rattle.std.proofs.Common.{◌≡◌, ap, sym, ◌∙◌, subst}
use Rattle.wh_terms.specs.Tree.{app, head, argument_count}
use Rattle.wh_terms.specs.Erase.{tm, symbols}
use Rattle.wh_access.specs.Readings.{readings, symbol_of}
use Rattle.wh_access.specs.Tables.{TellsAsked}
use Rattle.wh_access.proofs.AskLemmas.{ask_front, ask_nothing, ask_argument}
use Rattle.wh_access.proofs.demands.+ask_in.Goals as goal

pub returns-then-ask_in : goal.returns-then-ask_in
returns-then-ask_in t c =
    let e : tm c.args.pattern.now ≡ app (tm c.deref-in-App.result.now) (tm c.in-App.argument.value) = ap tm c.in-App.is ∙ ap (λ v. app (tm v) (tm c.in-App.argument.value)) (sym c.deref-in-App.ensures) in
    let S = symbols c.args.signature.now in
    let told = subst (TellsAsked S c.args.meta (readings (tm c.deref-in-App.result.now)) c.args.demands.now c.ask_in-in-App.new.demands) c.if-ask_in.true c.ask_in-in-App.ensures in
    ask_front S c.args.meta _ _ _ c.args.demands.now c.ask_in-in-App.new.demands e told

pub returns-then-not-ask_in : goal.returns-then-not-ask_in
returns-then-not-ask_in t c =
    let S = symbols c.args.signature.now in
    let e : tm c.args.pattern.now ≡ app (tm c.deref-in-App.result.now) (tm c.deref-in-App-3.result.now) =
    ap tm c.in-App.is ∙ ap (λ v. app (tm v) (tm c.in-App.argument.value)) (sym c.deref-in-App.ensures) ∙ ap (λ v. app (tm c.deref-in-App.result.now) (tm v)) (sym c.deref-in-App-3.ensures) in
    let told = subst (TellsAsked S c.args.meta (readings (tm c.deref-in-App.result.now)) c.args.demands.now c.ask_in-in-App.new.demands) c.if-ask_in.false c.ask_in-in-App.ensures in
    ask_nothing S c.args.meta _ _ _ c.args.demands.now c.ask_in-in-App.new.demands c.ask_in-in-App-2.new.demands e told c.if-not-ask_in.ensures

pub returns-else-not-ask_in : goal.returns-else-not-ask_in
returns-else-not-ask_in t c =
    let S = symbols c.args.signature.now in
    let e : tm c.args.pattern.now ≡ app (tm c.deref-in-App.result.now) (tm c.deref-in-App-3.result.now) =
    ap tm c.in-App.is ∙ ap (λ v. app (tm v) (tm c.in-App.argument.value)) (sym c.deref-in-App.ensures) ∙ ap (λ v. app (tm c.deref-in-App.result.now) (tm v)) (sym c.deref-in-App-3.ensures) in
    let told = subst (TellsAsked S c.args.meta (readings (tm c.deref-in-App.result.now)) c.args.demands.now c.ask_in-in-App.new.demands) c.if-ask_in.false c.ask_in-in-App.ensures in
    let place = c.in-Some.place in
    let same : tm c.deref-in-App-2.result.now ≡ tm c.deref-in-App.result.now = ap tm (c.deref-in-App-2.ensures ∙ sym c.deref-in-App.ensures) in
    ask_argument S c.args.meta _ _ _ place.symbol place.index c.args.demands.now c.ask_in-in-App.new.demands c.ask_in-in-App-2.new.demands c.ask_at.new.demands e told
    (ap (λ u. symbol_of (head u)) (sym same) ∙ c.in-Some.ensures.0) (c.in-Some.ensures.1 ∙ ap argument_count same) c.if-not-ask_in.ensures c.ask_at.ensures
