use Rattle.std.proofs.Common.{List, map, subst}
use Rattle.wh_terms.specs.Erase.{tm}
use Rattle.wh_terms.specs.declared.term.Term.{Term}
use Rattle.wh_text.specs.Pushes.{Pushes}
use Rattle.wh_text.proofs.PrintLemmas.{on_ok}
use Rattle.wh_pairs.specs.PairData.{within, pair_data}
use Rattle.wh_system.specs.SystemView.{system_data}
use Rattle.wh_system_print.specs.PairText.{put_if, put_side}
use Rattle.wh_system_print.specs.NameViews.{printed_names}
use Rattle.wh_system_print.proofs.PairPrinting.{pair_pushes}
use Rattle.wh_system_print.proofs.pairs.print_pair.Goals as goal

pub returns : goal.returns
returns c =
    let n = printed_names c.in_ok-names.names in
    let conditions = subst (λ ws. Pushes c.print_side-2.new.out c.print_if.new.out (put_if n (map within ws))) c.as_slice.ensures c.in_ok-print_if.ensures in
    let left = subst (λ (ts : List Term). Pushes c.push.new.self c.print_side.new.out (put_side n c.args.pair.now.left_fun (map tm ts))) c.deref.ensures c.in_ok-print_side.ensures in
    on_ok c.push-2.result _ _
    (pair_pushes (system_data c.args.system.now) c.args.k (pair_data c.args.pair.now) n c.args.out.now c.append.new.self c.print_number.new.out c.append-2.new.self c.print_number-2.new.out c.push.new.self
    c.print_side.new.out c.append-3.new.self c.print_side-2.new.out c.print_if.new.out c.push-2.new.self c.in_ok-names.ensures c.in_ok-append.ensures.ok c.in_ok-print_number.ensures c.in_ok-append-2.ensures.ok
    c.in_ok-print_number-2.ensures c.in_ok-push.ensures.ok left c.in_ok-append-3.ensures.ok c.in_ok-print_side-2.ensures conditions)
    c.push-2.ensures.ok
