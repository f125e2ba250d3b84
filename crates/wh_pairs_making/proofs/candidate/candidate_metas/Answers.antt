use Rattle.std.proofs.Common.{ap, sym, ◌++◌, ◌∙◌, arith}
use Rattle.wh_types.specs.Erase.{ty}
use Rattle.wh_terms.specs.Erase.{declared_meta, declared_metas}
use Rattle.wh_pairs.specs.Candidates.{nullary}
use Rattle.wh_pairs.proofs.ListLemmas.{map_done}
use Rattle.wh_pairs_making.proofs.CandidateLemmas.{map-kinds}
use Rattle.wh_pairs_making.proofs.candidate.candidate_metas.Goals as goal

pub returns : goal.returns
returns c =
    map_done declared_meta (λ a. nullary (ty a.now)) (declared_metas c.args.metas.now) c.args.kinds.now c.loop-kind.kind-index c.loop-kind.all c.loop-kind.invariant (omega (arith, c.loop-kind-test.false))
    ∙ ap (λ l. declared_metas c.args.metas.now ++ l) (sym (map-kinds c.args.kinds.now nullary))
