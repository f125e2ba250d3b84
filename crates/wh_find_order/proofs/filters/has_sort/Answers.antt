use Rattle.wh_pairs.proofs.ByPlace.{read}
use Rattle.wh_find_order.proofs.SortLemmas.{sort_at, sort_there, no_sort}
use Rattle.wh_find_order.proofs.filters.has_sort.Goals as goal

pub returns-in-Some : goal.returns-in-Some
returns-in-Some c =
    let scope = c.args.scope.now in
    let i = c.args.place in
    let kind = c.in-Some.kind.now in
    let at = read scope i kind c.in-Some.ensures.lookup.3.0 c.in-Some.ensures.lookup.1 in (
      λ yes. (let (s, is) = c.is_sort.ensures.0 yes in (s, sort_at scope i s kind at is)),
      λ there. (let (s, is) = there in c.is_sort.ensures.1 (s, sort_there scope i s kind at is)),
    )

pub returns-in-None : goal.returns-in-None
returns-in-None c = (
  λ yes. absurd (cc yes),
  λ there. (let (s, is) = there in absurd (no_sort c.args.scope.now c.args.place s c.in-None.ensures.lookup.3 is)),
)
