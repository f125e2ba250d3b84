use Rattle.std.proofs.Common.{arith}
use Rattle.wh_access.specs.Tables.{LeadsIn}
use Rattle.wh_access.proofs.SourceLemmas.{few_sources, begun_all}
use Rattle.wh_access.proofs.sources.sources.Goals as goal

pub overflow_cast-at : goal.overflow_cast-at
overflow_cast-at c =
    let few = few_sources (LeadsIn c.args.demands.now) c.args.sorts c.args.goal c.loop-at.found.items c.loop-at.at c.loop-at.invariant.begun in
    omega (arith, few, c.requires.sorts)

pub loop-at-smaller : goal.loop-at-smaller
loop-at-smaller c =
    let few = few_sources (LeadsIn c.args.demands.now) c.args.sorts c.args.goal c.loop-at.found.items c.loop-at.at c.loop-at.invariant.begun in
    let test = c.loop-at-test.true in
    omega (arith, few)

pub returns : goal.returns
returns c = begun_all (LeadsIn c.args.demands.now) c.args.sorts c.args.goal c.loop-at.found.items c.loop-at.at c.loop-at.invariant.begun (omega arith)
