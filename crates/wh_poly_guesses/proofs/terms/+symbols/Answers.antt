use Rattle.std.proofs.Common.{List, ◌+◌, drop, OnOk, sym, ap, subst}
use Rattle.std.proofs.Math.ListN.{drop_of_length-le}
use Rattle.wh_terms.specs.Tree.{Tm, app}
use Rattle.wh_terms.specs.Erase.{tm, tms}
use Rattle.wh_terms.specs.declared.term.Term.{Term}
use Rattle.wh_terms.proofs.TermLemmas.{tm_of_meta}
use Rattle.wh_poly_guesses.specs.Conditions.{HasSymbol, SomeHasSymbol}
use Rattle.wh_poly_guesses.specs.Uses.{Joins}
use Rattle.wh_poly_covering.proofs.CoverWalk.{ok_so}
use Rattle.wh_poly.proofs.Walks.{drop_next}
use Rattle.wh_poly_guesses.proofs.UseLemmas.{JoinsSome, joins_all, joins_both, joins_next}
use Rattle.wh_poly_guesses.proofs.terms.+symbols.Goals as goal

pub add_symbols-returns-in-Meta : goal.add_symbols-returns-in-Meta
add_symbols-returns-in-Meta t c =
    subst (λ (v : Tm). OnOk c.add_symbols_of_all.result (Joins (λ n. HasSymbol n v) c.args.symbols.now.items c.add_symbols_of_all.new.symbols.items))
    (sym (tm_of_meta c.args.term.now c.in-Meta.field-0 c.in-Meta.terms c.in-Meta.is)) c.add_symbols_of_all.ensures

pub add_symbols-returns-in-Lam : goal.add_symbols-returns-in-Lam
add_symbols-returns-in-Lam t c =
    subst (λ (v : Tm). OnOk c.add_symbols.result (Joins (λ n. HasSymbol n v) c.args.symbols.now.items c.add_symbols.new.symbols.items)) (sym (ap tm c.in-Lam.is))
    (subst (λ (u : Term). OnOk c.add_symbols.result (Joins (λ n. HasSymbol n (tm u)) c.args.symbols.now.items c.add_symbols.new.symbols.items)) c.deref.ensures c.add_symbols.ensures)

pub add_symbols-returns-in_ok-add_symbols-in-App : goal.add_symbols-returns-in_ok-add_symbols-in-App
add_symbols-returns-in_ok-add_symbols-in-App t c =
    let old = c.args.symbols.now.items in
    let mid = c.add_symbols-in-App.new.symbols.items in
    let new = c.add_symbols-in-App-2.new.symbols.items in
    let first = subst (λ (u : Term). Joins (λ n. HasSymbol n (tm u)) old mid) c.deref-in-App.ensures c.in_ok-add_symbols-in-App.ensures in
    subst (λ (v : Tm). OnOk c.add_symbols-in-App-2.result (Joins (λ n. HasSymbol n v) old new)) (sym (ap tm c.in-App.is))
    (ok_so c.add_symbols-in-App-2.result (Joins (λ n. HasSymbol n (tm c.deref-in-App-2.result.now)) mid new)
    (Joins (λ n. HasSymbol n (app (tm c.in-App.function.value) (tm c.in-App.argument.value))) old new)
    (λ second. joins_both (λ n. HasSymbol n (tm c.in-App.function.value)) (λ n. HasSymbol n (tm c.in-App.argument.value)) old mid new first
    (subst (λ (u : Term). Joins (λ n. HasSymbol n (tm u)) mid new) c.deref-in-App-2.ensures second)) c.add_symbols-in-App-2.ensures)

pub add_symbols_of_all-returns : goal.add_symbols_of_all-returns
add_symbols_of_all-returns t c =
    let items = c.as_slice-term-items.result.now in
    let old = c.args.symbols.now.items in
    let new = c.loop-term.symbols.items in
    let ended = subst (λ (l : List Term). JoinsSome (tms l) (tms items) old new) (drop_of_length-le items c.loop-term-test.false) c.loop-term.invariant in
    subst (λ (l : List Term). Joins (λ n. SomeHasSymbol n (tms l)) old new) c.as_slice-term-items.ensures (joins_all (tms items) old new ended)

pub add_symbols_of_all-loop-term-preserved : goal.add_symbols_of_all-loop-term-preserved
add_symbols_of_all-loop-term-preserved t c =
    let items = c.as_slice-term-items.result.now in
    let i = c.loop-term.term-index in
    let x = c.term-item.result in
    let before = subst (λ (l : List Term). JoinsSome (tms l) (tms items) c.args.symbols.now.items c.loop-term.symbols.items) (drop_next items i x c.loop-term-test.true c.term-item.is) c.loop-term.invariant in
    joins_next (tm x) (tms (drop (i + 1) items)) (tms items) c.args.symbols.now.items c.loop-term.symbols.items c.add_symbols.new.symbols.items before c.in_ok-add_symbols.ensures
