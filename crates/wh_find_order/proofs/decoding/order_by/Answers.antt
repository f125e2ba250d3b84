use Rattle.std.proofs.Common.{List, length, ap, sym, ◌∙◌}
use Rattle.std.proofs.lemmas.List.{length-map}
use Rattle.wh_types.specs.Erase.{ty, tys}
use Rattle.wh_types.specs.declared.simple_type.SimpleType.{SimpleType}
use Rattle.wh_terms.specs.Typing.{Symbols}
use Rattle.wh_poly_blocking.specs.Sizes.{value_of}
use Rattle.wh_find_order.proofs.DecodingLemmas.{order_is}
use Rattle.wh_find_order.proofs.decoding.order_by.Goals as goal

pub symbol_filters-requires-clause-symbols : goal.symbol_filters-requires-clause-symbols
symbol_filters-requires-clause-symbols c =
    let funs = c.as_slice-symbols.result.now in
    sym (length-map funs ty) ∙ ap (λ (l : List SimpleType). length (tys l)) c.as_slice-symbols.ensures ∙ ap (λ (S : Symbols). length S.funs) c.signature.ensures

pub returns : goal.returns
returns c =
    order_is c.args.encoding.now (value_of c.args.values.now) (record { funs = c.in_ok-funs.funs; marks = c.in_ok-marks.marks })
    c.in_ok-funs.ensures.count c.in_ok-marks.ensures.marks c.in_ok-funs.ensures.filters c.in_ok-marks.ensures.filters
