use Rattle.std.proofs.Common.{subst}
use Rattle.std.specs.Prelude.{Contains}
use Rattle.wh_system.specs.SystemView.{system_data}
use Rattle.wh_system.proofs.MadeDecided.{system_is_well_made}
use Rattle.wh_pairs.specs.Views.{pairs_data}
use Rattle.wh_system_print.proofs.NamedPairs.{pairs_named}
use Rattle.wh_system_print.proofs.pairs.print_pairs.Goals as goal

pub print_lines-requires : goal.print_lines-requires
print_lines-requires c = λ p at.
    pairs_named (system_data c.args.system.now) (system_is_well_made c.args.system.now) (pairs_data c.args.pairs.now) c.requires p
    (subst (λ xs. Contains (pairs_data xs) p) c.as_slice-2.ensures at)
