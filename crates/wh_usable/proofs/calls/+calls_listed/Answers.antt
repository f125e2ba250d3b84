use Rattle.std.proofs.Common.{ap, sym, subst}
use Rattle.wh_terms.specs.Erase.{tm}
use Rattle.wh_usable_first_order.specs.FirstOrder.{IsFlatTree}
use Rattle.wh_usable.specs.Closed.{ListsRulesIn}
use Rattle.wh_usable.proofs.CallLemmas.{lists_fun, lists_app}
use Rattle.wh_usable.proofs.calls.+calls_listed.Goals as goal

pub returns-in-Fun : goal.returns-in-Fun
returns-in-Fun t c S M rules listed flat table =
    let same = lists_fun rules listed c.in-Fun.symbol (tm c.args.term.now) (ap tm c.in-Fun.is) in
    let told = c.is_listed.ensures rules listed table in
    (λ yes. same.0 (told.0 yes), λ all. told.1 (same.1 all))

pub returns-then-calls_listed : goal.returns-then-calls_listed
returns-then-calls_listed t c S M rules listed flat table =
    let is = ap tm c.in-App.is in
    let plain = subst (IsFlatTree S M) is flat in
    let first = ap tm c.deref.ensures in
    let second = ap tm c.deref-then-calls_listed.ensures in
    let whole = lists_app rules listed (tm c.args.term.now) (tm c.in-App.function.value) (tm c.in-App.argument.value) is in
    let told = c.calls_listed.ensures S M rules listed (subst (IsFlatTree S M) (sym first) plain.0) table in
    let next = c.calls_listed-then-calls_listed.ensures S M rules listed (subst (IsFlatTree S M) (sym second) plain.1) table in (
      λ yes. whole.0 (subst (ListsRulesIn rules listed) first (told.0 c.if-calls_listed.true), subst (ListsRulesIn rules listed) second (next.0 yes)),
      λ all. next.1 (subst (ListsRulesIn rules listed) (sym second) (whole.1 all).1),
    )

pub returns-else-calls_listed : goal.returns-else-calls_listed
returns-else-calls_listed t c S M rules listed flat table =
    let is = ap tm c.in-App.is in
    let plain = subst (IsFlatTree S M) is flat in
    let first = ap tm c.deref.ensures in
    let whole = lists_app rules listed (tm c.args.term.now) (tm c.in-App.function.value) (tm c.in-App.argument.value) is in
    let told = c.calls_listed.ensures S M rules listed (subst (IsFlatTree S M) (sym first) plain.0) table in (
      λ yes. absurd (cc (yes, c.if-calls_listed.false)),
      λ all. told.1 (subst (ListsRulesIn rules listed) (sym first) (whole.1 all).0),
    )
