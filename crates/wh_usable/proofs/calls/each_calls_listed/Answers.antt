use Rattle.std.proofs.Common.{refl}
use Rattle.wh_terms.specs.Erase.{tm}
use Rattle.wh_pairs.proofs.ByPlace.{read, contains_at, before_more, before_all}
use Rattle.wh_usable_first_order.proofs.Lists.{flat_each}
use Rattle.wh_usable.specs.Closed.{ListsRulesIn}
use Rattle.wh_usable.proofs.CallLemmas.{lists_all, lists_each}
use Rattle.wh_usable.proofs.calls.each_calls_listed.Goals as goal

pub returns-then-not-calls_listed : goal.returns-then-not-calls_listed
returns-then-not-calls_listed c S M rules listed flat table =
    let items = c.args.items.now in
    let i = c.loop-item.item-index in
    let t = c.item-item.result in
    let found = contains_at items i t (read items i t c.loop-item-test.true c.item-item.is) in
    let told = c.calls_listed.ensures S M rules listed (flat_each S M items flat t found) table in (
      λ no. absurd (cc no),
      λ all. absurd (cc (told.1 (lists_each rules listed items all t found), c.if-not-calls_listed.true)),
    )

pub loop-item-preserved : goal.loop-item-preserved
loop-item-preserved c S M rules listed flat table =
    let items = c.args.items.now in
    let i = c.loop-item.item-index in
    let t = c.item-item.result in
    let at = read items i t c.loop-item-test.true c.item-item.is in
    before_more (λ t. ListsRulesIn rules listed (tm t)) items i t (c.loop-item.invariant S M rules listed flat table) at
    ((c.calls_listed.ensures S M rules listed (flat_each S M items flat t (contains_at items i t at)) table).0 c.if-not-calls_listed.false)

pub returns : goal.returns
returns c S M rules listed flat table =
    let items = c.args.items.now in (
      λ yes. lists_all rules listed items (λ t found. before_all (λ t. ListsRulesIn rules listed (tm t)) items
          c.loop-item.item-index t (c.loop-item.invariant S M rules listed flat table) c.loop-item-test.false found),
      λ all. refl,
    )
