use Rattle.std.proofs.Common.{ap, ◌∙◌}
use Rattle.std.proofs.lemmas.List.{take_all}
use Rattle.wh_types.specs.Erase.{tys}
use Rattle.wh_terms.specs.Typing.{Symbols}
use Rattle.wh_test_finders.proofs.ReadKinds.{kinds_next}
use Rattle.wh_test_finders.proofs.readings.symbols_of.Goals as goal

pub loop-i-preserved : goal.loop-i-preserved
loop-i-preserved c =
    kinds_next c.loop-i.symbols.items c.push.new.self.items c.as_slice-kinds.result.now c.loop-i.i (record { kind = c.in_ok-kind.kind; poly = c.in_ok-poly.poly })
    c.index-kinds-i.result c.loop-i.invariant c.in_ok-push.ensures.items c.in_ok-kind.ensures c.loop-i-test.true c.index-kinds-i.is

pub returns : goal.returns
returns c =
    c.loop-i.invariant ∙ ap tys (take_all c.loop-i.i c.as_slice-kinds.result.now c.loop-i-test.false ∙ c.as_slice-kinds.ensures)
    ∙ ap (λ (S : Symbols). S.funs) c.signature.ensures
