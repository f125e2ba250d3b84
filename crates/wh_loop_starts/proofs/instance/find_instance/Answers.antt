-- The search begins at the top.
use Rattle.std.proofs.Common.{sym, subst}
use Rattle.wh_terms.specs.Erase.{tm, symbols}
use Rattle.wh_terms.proofs.TypingLaws.{typed_loose}
use Rattle.wh_system.specs.SystemView.{system_data}
use Rattle.wh_loop_starts.specs.Space.{HoldsInstanceOf}
use Rattle.wh_loop_starts.specs.Found.{IsInstanceIn}
use Rattle.wh_loop_starts.specs.Meets.{IsReady, HasNoneFrom}
use Rattle.wh_loop_starts.proofs.StartLemmas.{start_ready}
use Rattle.wh_loop_starts.proofs.PlaceLemmas.{none_anywhere}
use Rattle.wh_loop_starts.proofs.Outcomes.{answer_more}
use Rattle.wh_loop_starts.proofs.instance.find_instance.Goals as goal

pub instance_from-requires-clause-ready : goal.instance_from-requires-clause-ready
instance_from-requires-clause-ready c =
    let d = system_data c.args.system.now in
    let s = tm c.args.start.now in
    subst (λ S. IsReady S s) (sym c.signature.ensures) (start_ready d s c.is_well_made.ensures c.requires.start)

pub instance_from-requires-clause-searchable : goal.instance_from-requires-clause-searchable
instance_from-requires-clause-searchable c = record { small = c.requires.small; shut = typed_loose c.requires.typed.1 }

pub returns : goal.returns
returns c =
    let d = system_data c.args.system.now in
    let S = symbols c.signature.result.now in
    let s = tm c.args.start.now in
    let u = tm c.args.term.now in
    answer_more c.instance_from.result (HasNoneFrom S s u c.new-steps.result.items) (HoldsInstanceOf d.symbols s u → ⊥) (IsInstanceIn S s u) (IsInstanceIn d.symbols s u) c.instance_from.ensures.found
    (none_anywhere S d.symbols s u c.new-steps.result.items c.signature.ensures c.new-steps.ensures.items)
    (λ i h. subst (λ R. IsInstanceIn R s u i) c.signature.ensures h)
