use Rattle.std.proofs.Common.{◌≡◌, ◌+◌, ◌<◌, map, [], arith}
use Rattle.wh_types.specs.Limits.{greatest_size}
use Rattle.wh_terms.specs.Erase.{declared_metas, symbols, tm}
use Rattle.wh_terms.specs.Measures.{size}
use Rattle.wh_order_extended.specs.Long.{long}
use Rattle.wh_order_extended.specs.ExtendedSides.{extended_call}
use Rattle.wh_order_sides.specs.Room.{IsBuilt}
use Rattle.wh_order_sides.specs.PairSides.{AreWholeArguments}
use Rattle.wh_order_sides.proofs.BuildLemmas.{passed_on}
use Rattle.wh_order_sides.proofs.CallLemmas.{first_next, first_wide, first_all}
use Rattle.wh_order_sides.proofs.sides.extended_list.Goals as goal

pub returns-in_err-without : goal.returns-in_err-without
returns-in_err-without c f =
    let S = symbols c.args.signature.now in
    let M = declared_metas c.args.metas.now in
    let ts = map tm c.args.items.now in
    passed_on c.from_residual-in_err-without.result c.in_err-without.field-0.0 (λ rest. rest + 1 ≡ c.loop-item.left) (AreWholeArguments S M f ts)
    (c.loop-item.left < 1) (greatest_size < size (extended_call S M f ts)) c.from_residual-in_err-without.ensures.1 c.in_err-without.ensures
    (λ low. first_wide S M f c.as_slice-item-items.result.now c.args.items.now c.loop-item.results c.loop-item.item-index c.loop-item.left c.item-item.result
    c.as_slice-item-items.ensures c.loop-item-test.true c.item-item.is c.loop-item.invariant (omega (arith, low)))

pub returns-in_err-argument : goal.returns-in_err-argument
returns-in_err-argument c f =
    let S = symbols c.args.signature.now in
    let M = declared_metas c.args.metas.now in
    let ts = map tm c.args.items.now in
    let here = long S M [] (tm c.item-item.result) in
    let rest = c.in_ok-without.field-0 in
    let one : rest + 1 ≡ c.loop-item.left = c.in_ok-without.ensures in
    passed_on c.from_residual-in_err-argument.result c.in_err-argument.field-0.0 (IsBuilt rest here) (AreWholeArguments S M f ts)
    (rest < size here) (greatest_size < size (extended_call S M f ts)) c.from_residual-in_err-argument.ensures.1 c.in_err-argument.ensures
    (λ wide. first_wide S M f c.as_slice-item-items.result.now c.args.items.now c.loop-item.results c.loop-item.item-index c.loop-item.left c.item-item.result
    c.as_slice-item-items.ensures c.loop-item-test.true c.item-item.is c.loop-item.invariant (omega (arith, wide, one)))

pub loop-item-preserved : goal.loop-item-preserved
loop-item-preserved c =
    first_next (symbols c.args.signature.now) (declared_metas c.args.metas.now) c.as_slice-item-items.result.now c.loop-item.results c.push.new.self c.loop-item.item-index
    c.loop-item.left c.in_ok-without.field-0 c.item-item.result c.in_ok-argument.argument c.loop-item-test.true c.item-item.is c.loop-item.invariant
    c.in_ok-without.ensures c.in_ok-argument.ensures c.in_ok-push.ensures.ok

pub returns : goal.returns
returns c f =
    first_all (symbols c.args.signature.now) (declared_metas c.args.metas.now) f c.as_slice-item-items.result.now c.args.items.now c.loop-item.results c.loop-item.item-index
    c.loop-item.left c.as_slice-item-items.ensures (omega (arith, c.loop-item-test.false)) c.loop-item.invariant
