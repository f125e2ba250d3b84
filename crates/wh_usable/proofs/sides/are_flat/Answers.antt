use Rattle.std.proofs.Common.{refl}
use Rattle.wh_terms.specs.Erase.{declared_metas, symbols, tm}
use Rattle.wh_pairs.proofs.ByPlace.{read, contains_at, before_more, before_all}
use Rattle.wh_usable_first_order.specs.FirstOrder.{IsFlatTree}
use Rattle.wh_usable_first_order.proofs.Lists.{all_flat, flat_each}
use Rattle.wh_usable.proofs.sides.are_flat.Goals as goal

pub returns-then-not-is_flat : goal.returns-then-not-is_flat
returns-then-not-is_flat c =
    let items = c.args.items.now in
    let i = c.loop-item.item-index in
    let t = c.item-item.result in
    let found = contains_at items i t (read items i t c.loop-item-test.true c.item-item.is) in (
      λ no. absurd (cc no),
      λ flat. absurd (cc (c.is_flat.ensures.1 (flat_each (symbols c.args.signature.now) (declared_metas c.args.metas.now) items flat t found), c.if-not-is_flat.true)),
    )

pub loop-item-preserved : goal.loop-item-preserved
loop-item-preserved c =
    let items = c.args.items.now in
    let i = c.loop-item.item-index in
    let t = c.item-item.result in
    before_more (λ t. IsFlatTree (symbols c.args.signature.now) (declared_metas c.args.metas.now) (tm t)) items i t c.loop-item.invariant
    (read items i t c.loop-item-test.true c.item-item.is) (c.is_flat.ensures.0 c.if-not-is_flat.false)

pub returns : goal.returns
returns c =
    let S = symbols c.args.signature.now in
    let M = declared_metas c.args.metas.now in
    let items = c.args.items.now in (
      λ yes. all_flat S M items (λ t found. before_all (λ t. IsFlatTree S M (tm t)) items c.loop-item.item-index t c.loop-item.invariant
          c.loop-item-test.false found),
      λ flat. refl,
    )
