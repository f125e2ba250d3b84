use Rattle.std.proofs.Common.{◌++◌, take, ◌∙◌}
use Rattle.std.proofs.lemmas.List.{take_rest}
use Rattle.wh_io.proofs.Fronts.{wrote_both, split_rest}
use Rattle.wh_io.proofs.write.write_all_of.Goals as goal

pub loop-rest-preserved : goal.loop-rest-preserved
loop-rest-preserved g c =
    let front = c.loop-rest.invariant.front in
    let rest = c.loop-rest.rest.now in
    let n = c.in_ok-count.count in
    record {
      front = front ++ take n rest;
      whole = rw (take_rest rest n) (split_rest c.args.bytes.now front rest n c.loop-rest.invariant.whole);
      wrote = wrote_both _ _ _ front (take n rest) c.loop-rest.invariant.wrote c.in_ok-count.ensures.bytes.2;
      same = c.in_ok-count.ensures.cause.same ∙ c.loop-rest.invariant.same;
    }
