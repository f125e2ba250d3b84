-- All meta-variables have their types.
use Rattle.std.proofs.Common.{map, ap, sym, ◌∙◌}
use Rattle.std.proofs.Math.Seq.{take_all}
use Rattle.wh_polycheck.proofs.Pushes.{meta_type, types_are}
use Rattle.wh_intern_pairs.proofs.scopes.scope_of.Goals as goal

pub returns : goal.returns
returns c =
    types_are c.args.metas.now
    ∙ sym (c.loop-meta.invariant
    ∙ ap (map meta_type) (take_all c.loop-meta.meta-index c.as_slice-meta-items.result.now c.loop-meta-test.false ∙ c.as_slice-meta-items.ensures))
