use Rattle.std.proofs.Common.{◌≡◌, inl, inr, map, slice_get, subst, sym, ap, ◌∙◌, arith}
use Rattle.wh_terms.specs.Tree.{Tm}
use Rattle.wh_terms.specs.Erase.{tm}
use Rattle.wh_system.specs.SystemView.{system_data}
use Rattle.wh_graph.specs.Clash.{Clash}
use Rattle.wh_pairs.proofs.ByPlace.{some_one, read_map, map_within, same_or_below}
use Rattle.wh_graph.proofs.follow.some_clash.Goals as goal
use Rattle.wh_graph.proofs.follow.some_clash.Goals.{else-i-patterns-via-then-i-patterns+else-clashes, else-i-patterns-via-else-i-patterns}

pub loop-i-preserved : goal.loop-i-preserved
loop-i-preserved c =
    let rules = (system_data c.args.system.now).rules in
    let qs = c.args.terms.now in
    let ps = c.args.patterns.now in
    let i = c.loop-i.i in
    let term = read_map tm qs i c.index-terms-i.result c.loop-i-test.true c.index-terms-i.is in
    λ k q p below eq ep clash.
    elim (same_or_below k i below) [
      | inl same ↦ elim c.else-i-patterns.branch [
        | else-i-patterns-via-then-i-patterns+else-clashes w ↦
            let pattern = read_map tm ps i w.index-patterns-i.result w.if-i-patterns.true w.index-patterns-i.is in
            let one : q ≡ tm c.index-terms-i.result = some_one (sym (ap (slice_get (map tm qs)) same) ∙ eq) term in
            let other : p ≡ tm w.index-patterns-i.result = some_one (sym (ap (slice_get (map tm ps)) same) ∙ ep) pattern in
            cc (w.clashes.ensures.1 (subst (λ (u : Tm). Clash rules u (tm w.index-patterns-i.result)) one (subst (Clash rules q) other clash)), w.if-clashes.false)
        | else-i-patterns-via-else-i-patterns w ↦ absurd (omega (arith, map_within tm ps k p ep, w.if-i-patterns.false))
      ]
      | inr less ↦ c.loop-i.invariant k q p less eq ep clash
    ]

pub returns : goal.returns
returns c = (
  λ no_way. cc,
  λ found. absurd (c.loop-i.invariant found.0 found.1 found.2 (omega (arith, map_within tm c.args.terms.now found.0 found.1 found.3)) found.3 found.4 found.5),
)
