-- Item by item.
use Rattle.std.proofs.Common.{◌++◌, ap, ◌∙◌}
use Rattle.std.proofs.Math.Seq.{take_all}
use Rattle.wh_poly.specs.Erase.{factors, product_of}
use Rattle.wh_poly.proofs.Pushes.{product_copies}
use Rattle.wh_poly.proofs.copying.push_copies.Goals as goal

pub loop-item-preserved : goal.loop-item-preserved
loop-item-preserved c = product_copies (factors c.args.us.now) (factors c.loop-item.us) (factors c.push_copy.new.us) c.args.items.now c.loop-item.item-index c.item-item.result
    c.loop-item.invariant c.in_ok-push_copy.ensures c.loop-item-test.true c.item-item.is

pub returns : goal.returns
returns c = c.loop-item.invariant ∙ ap (λ xs. product_of (factors c.args.us.now ++ xs)) (take_all c.loop-item.item-index c.args.items.now c.loop-item-test.false)
