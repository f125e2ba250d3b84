use Rattle.std.proofs.Common.{[], ap₂, sym, subst, subst₂, ◌∙◌}
use Rattle.std.proofs.lemmas.Result.{IfOk-weaker}
use Rattle.wh_terms.specs.Erase.{tm}
use Rattle.wh_text.specs.Erase.{rtm}
use Rattle.wh_system.specs.SystemView.{system_data}
use Rattle.wh_system.specs.Canonical.{IsNamedBelow, raw_of}
use Rattle.wh_system.specs.CanonicalView.{names_of_system}
use Rattle.wh_system_making.specs.Resolve.{Means}
use Rattle.wh_system.proofs.MadeDecided.{system_is_well_made}
use Rattle.wh_system_making.proofs.CanonicalBack.{typed_named, system_names, canonical_means}
use Rattle.wh_system_making.proofs.raw_trees.raw_term.Goals as goal

pub raw_with-requires : goal.raw_with-requires
raw_with-requires c =
    let d = system_data c.args.system.now in
    let w = system_is_well_made c.args.system.now in
    subst₂ (λ sorts funs. IsNamedBelow (record { sorts = sorts; funs = funs; metas = [] }) 0 (tm c.args.term.now)) (sym c.sort_names.ensures) (sym c.fun_names.ensures)
    (typed_named (names_of_system d) (system_names d w) c.requires.1)

pub returns-clause-meant : goal.returns-clause-meant
returns-clause-meant c =
    let d = system_data c.args.system.now in
    let w = system_is_well_made c.args.system.now in
    let t = tm c.args.term.now in
    IfOk-weaker c.raw_with.result _ (λ raw. Means d (rtm raw) t)
    (λ raw is. subst (λ u. Means d u t) (sym (is ∙ ap₂ (λ sorts funs. raw_of (record { sorts = sorts; funs = funs; metas = [] }) t) c.sort_names.ensures c.fun_names.ensures)) (canonical_means d w t c.requires)) c.raw_with.ensures
