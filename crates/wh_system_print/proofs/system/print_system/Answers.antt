use Rattle.std.proofs.Common.{◌≡◌, ◌∙◌, length, All, ap, sym, subst}
use Rattle.wh_types.specs.Ty.{SortsBelow}
use Rattle.wh_types.specs.Erase.{tys}
use Rattle.wh_system.specs.SystemView.{system_data}
use Rattle.wh_system.proofs.MadeDecided.{system_is_well_made}
use Rattle.wh_system_print.proofs.system.print_system.Goals as goal

pub print_funs-requires-clause-sorted : goal.print_funs-requires-clause-sorted
print_funs-requires-clause-sorted c =
    let d = system_data c.args.system.now in
    let w = system_is_well_made c.args.system.now in
    let kinds : d.symbols.funs ≡ tys c.as_slice.result.now = ap (λ S. S.funs) (sym c.signature.ensures) ∙ ap tys (sym c.as_slice.ensures) in
    let sorts : d.symbols.sorts ≡ length c.sort_names-2.result.now = sym w.sorts_named ∙ ap length (sym c.sort_names-2.ensures) in
    subst (λ n. All (SortsBelow n) (tys c.as_slice.result.now)) sorts
    (subst (λ ks. All (SortsBelow d.symbols.sorts) ks) kinds (λ i a below. (w.symbol_types i a below).sorts_are_there))
