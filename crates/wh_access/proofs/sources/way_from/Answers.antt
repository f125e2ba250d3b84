use Rattle.std.proofs.Common.{sym, subst, arith}
use Rattle.wh_access.specs.Sources.{IsWay, LeadsBy, next_at, sort_at}
use Rattle.wh_access.proofs.SourceLemmas.{StandsFrom, way_push}
use Rattle.wh_access.proofs.sources.way_from.Goals as goal

pub loop-at-preserved : goal.loop-at-preserved
loop-at-preserved c =
    let xs = c.args.found.now in
    let k = c.loop-at.at in
    let start = sort_at xs c.args.start in
    let next = way_push xs start k c.loop-at.way c.requires.earlier c.requires.apart c.loop-at-test.true c.loop-at.invariant.within c.loop-at.invariant.stands c.loop-at.invariant.way in
    record {
      within = omega (arith, c.requires.earlier k c.loop-at-test.true c.loop-at.invariant.within, c.loop-at.invariant.within);
      stands = subst (StandsFrom xs (next_at xs k)) (sym c.in_ok-push-2.ensures.ok) next.0;
      way = subst (IsWay (LeadsBy xs) start (sort_at xs (next_at xs k))) (sym c.in_ok-push-2.ensures.ok) next.1;
    }
