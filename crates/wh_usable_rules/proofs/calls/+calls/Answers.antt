use Rattle.std.proofs.Common.{List, ◌+◌, drop, sym, subst}
use Rattle.std.proofs.Math.ListN.{drop_of_length-le}
use Rattle.wh_terms.specs.Tree.{Tm}
use Rattle.wh_terms.specs.Erase.{tm, tms}
use Rattle.wh_terms.specs.declared.term.Term.{Term}
use Rattle.wh_terms.proofs.TermLemmas.{tm_of_meta}
use Rattle.wh_poly.proofs.Walks.{drop_next}
use Rattle.wh_usable.specs.Closed.{HasSymbol, HaveSymbol}
use Rattle.wh_usable_rules.specs.Tables.{Enters}
use Rattle.wh_usable_rules.proofs.Tables.{EntersSome, some_all, some_next}
use Rattle.wh_usable_rules.proofs.calls.+calls.Goals as goal

pub call_symbols-returns-in-Meta : goal.call_symbols-returns-in-Meta
call_symbols-returns-in-Meta t c =
    subst (λ (v : Tm). Enters (λ f. HasSymbol f v) c.args.called.now c.call_symbols_of_all.new.called)
    (sym (tm_of_meta c.args.term.now c.in-Meta.field-0 c.in-Meta.terms c.in-Meta.is)) c.call_symbols_of_all.ensures

pub call_symbols_of_all-returns : goal.call_symbols_of_all-returns
call_symbols_of_all-returns t c =
    let items = c.as_slice-term-items.result.now in
    let old = c.args.called.now in
    let new = c.loop-term.called in
    let ended = subst (λ (l : List Term). EntersSome (tms l) (tms items) old new) (drop_of_length-le items c.loop-term-test.false) c.loop-term.invariant in
    subst (λ (l : List Term). Enters (λ f. HaveSymbol f (tms l)) old new) c.as_slice-term-items.ensures (some_all (tms items) old new ended)

pub call_symbols_of_all-loop-term-preserved : goal.call_symbols_of_all-loop-term-preserved
call_symbols_of_all-loop-term-preserved t c =
    let items = c.as_slice-term-items.result.now in
    let i = c.loop-term.term-index in
    let x = c.term-item.result in
    let before = subst (λ (l : List Term). EntersSome (tms l) (tms items) c.args.called.now c.loop-term.called) (drop_next items i x c.loop-term-test.true c.term-item.is) c.loop-term.invariant in
    some_next (tm x) (tms (drop (i + 1) items)) (tms items) c.args.called.now c.loop-term.called c.call_symbols.new.called before c.call_symbols.ensures
