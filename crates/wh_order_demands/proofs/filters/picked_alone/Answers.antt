use Rattle.std.proofs.Common.{◌≡◌, ◌+◌, subst, ap, ◌∙◌}
use Rattle.wh_order_demands.specs.OrderDemands.{IsNoneSet}
use Rattle.wh_order_demands.proofs.FilterLemmas.{alone_found}
use Rattle.wh_order_demands.proofs.filters.picked_alone.Goals as goal

pub returns : goal.returns
returns c =
    let s = c.args.spot in
    let picked : c.in_ok-picked.picked ≡ s.places + s.first = c.in_ok-picked.ensures in
    alone_found s c.args.place c.in_ok-bit.bit c.requires (c.in_ok-bit.ensures ∙ ap (λ n. n + c.args.place) picked) c.in_ok-no_keep.no_keep c.in_ok-no_pick.no_pick c.in_ok-alone.alone c.either.result
    c.in_ok-no_keep.ensures (subst (λ n. IsNoneSet n c.args.place c.in_ok-no_pick.no_pick) picked c.in_ok-no_pick.ensures) c.in_ok-alone.ensures c.either.ensures
