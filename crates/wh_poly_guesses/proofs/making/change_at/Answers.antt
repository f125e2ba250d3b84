use Rattle.std.proofs.Common.{◌≡◌, ◌+◌, ◌-◌, ◌<◌, List, length, map, slice_get, ap, sym, subst, ◌∙◌, arith}
use Rattle.std.proofs.lemmas.List.{length-map}
use Rattle.wh_types.specs.Erase.{ty}
use Rattle.wh_system.specs.SystemView.{system_data}
use Rattle.wh_hopoly.specs.declared.expression.Symbol.{Symbol}
use Rattle.wh_polycheck.specs.declared.marks.MarkedSymbol.{MarkedSymbol}
use Rattle.wh_poly_covering.proofs.CoverWalk.{ok_so}
use Rattle.wh_poly_guesses.specs.Reads.{IsChanged}
use Rattle.wh_poly_guesses.proofs.BackLemmas.{back_is}
use Rattle.wh_poly_guesses.proofs.ReadLemmas.{symbol_changed, mark_changed}
use Rattle.wh_poly_guesses.proofs.making.change_at.Goals as goal

pub returns-then-number-count-clause-lists : goal.returns-then-number-count-clause-lists
returns-then-number-count-clause-lists c =
    let d = system_data c.args.task.now.system.now in
    let g = c.args.guess.now in
    let xs = g.symbols.items in
    let ys = c.change_symbol.new.symbols in
    let ms = g.marks.items in
    let value = c.deref_mut.ensures.value in
    let kinds = c.change_symbol.ensures.kinds ∙ ap (map (λ (s : Symbol). ty s.kind)) value in
    let long : length ys ≡ length xs = sym (length-map ys (λ (s : Symbol). ty s.kind)) ∙ ap length kinds ∙ length-map xs (λ (s : Symbol). ty s.kind) in
    let within : c.args.number < length xs = omega (arith, c.if-number-count.true, c.len-count.ensures, g.symbols.ok.0) in
    ok_so c.change_symbol.result _ _ (λ here. subst (λ (l : List Symbol). IsChanged d.symbols d.rules c.args.number c.args.coefficients.now xs ms l ms)
    (sym (back_is xs ys g.symbols.len long (omega (arith, g.symbols.ok.0))))
    (symbol_changed d.symbols d.rules c.args.number c.args.coefficients.now xs ys ms within kinds here
    (λ i apart. c.change_symbol.ensures.others i apart ∙ ap (λ (l : List Symbol). slice_get l i) value))) c.change_symbol.ensures.here

pub returns-else-number-count-clause-lists : goal.returns-else-number-count-clause-lists
returns-else-number-count-clause-lists c =
    let d = system_data c.args.task.now.system.now in
    let g = c.args.guess.now in
    let xs = g.symbols.items in
    let ms = g.marks.items in
    let ns = c.change_mark.new.marks in
    let value = c.deref_mut-else-number-count.ensures.value in
    let symbols = c.change_mark.ensures.symbols ∙ ap (map (λ (m : MarkedSymbol). m.symbol)) value in
    let long : length ns ≡ length ms = sym (length-map ns (λ (m : MarkedSymbol). m.symbol)) ∙ ap length symbols ∙ length-map ms (λ (m : MarkedSymbol). m.symbol) in
    let behind : c.args.number ≡ length xs + (c.args.number - c.len-count.result) = omega (arith, c.if-number-count.false, c.len-count.ensures, g.symbols.ok.0) in
    ok_so c.change_mark.result _ _ (λ here. subst (λ (l : List MarkedSymbol). IsChanged d.symbols d.rules c.args.number c.args.coefficients.now xs ms xs l)
    (sym (back_is ms ns g.marks.len long (omega (arith, g.marks.ok.0))))
    (mark_changed d.symbols d.rules c.args.number (c.args.number - c.len-count.result) c.args.coefficients.now xs ms ns behind here
    (λ i apart. c.change_mark.ensures.others i apart ∙ ap (λ (l : List MarkedSymbol). slice_get l i) value))) c.change_mark.ensures.here
