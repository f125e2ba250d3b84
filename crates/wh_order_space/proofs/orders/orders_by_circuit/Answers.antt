use Rattle.std.proofs.Common.{◌≡◌, ◌+◌, length, ap₂, refl, subst, ◌∙◌, arith}
use Rattle.wh_reduction_pairs.specs.TaskView.{task_data}
use Rattle.wh_poly_guesses.specs.Coefficients.{scopes_of}
use Rattle.wh_order_meeting.specs.Meeting.{IsMeeting}
use Rattle.wh_order_space.specs.Circuited.{IsDemandOfSet}
use Rattle.wh_order_space.specs.Spotted.{AreSpotted}
use Rattle.wh_order_space.proofs.NothingLemmas.{has_no_order}
use Rattle.wh_order_space.proofs.OrderLemmas.{funs_count, first_are}
use Rattle.wh_order_space.proofs.orders.orders_by_circuit.Goals as goal

pub returns-in-Never : goal.returns-in-Never
returns-in-Never c =
    let T = task_data c.args.task.now in
    let marked = c.args.marked.now in
    let lists = c.args.scopes.now in
    let firsts = c.in_ok-first_bits.first_bits.items in
    let spots = c.in_ok-spots.spots.items in
    let demand = c.in_ok-demand.demand in
    let funs = length T.symbols.funs in
    let symbols = length c.as_slice-symbols.result.now in
    let count : symbols ≡ funs = funs_count c.signature.result.now T.symbols c.as_slice-symbols.result.now symbols c.signature.ensures c.as_slice-symbols.ensures refl in
    let width : c.in_ok-sum.field-0 ≡ funs + funs = omega (arith, count, c.in_ok-sum.ensures, c.in_ok-width.ensures) in
    let spotted : AreSpotted funs marked lists firsts spots =
    subst (λ l. AreSpotted funs marked lists l spots) c.deref.ensures.value (subst (λ n. AreSpotted n marked lists c.deref.result.now spots) count c.in_ok-spots.ensures.spotted) in
    let asked : IsDemandOfSet T spots demand = subst (λ l. IsDemandOfSet T l demand) c.deref-2.ensures.value c.in_ok-demand.ensures in
    has_no_order T marked lists firsts spots demand c.requires.marked c.requires.scopes
    (first_are lists (scopes_of T marked) firsts c.in_ok-sum.field-0 (funs + funs) c.requires.scopes width c.in_ok-first_bits.ensures.each)
    spotted (c.in_ok-spots.ensures.count ∙ ap₂ (λ m n. m + n) count count) asked (subst (IsMeeting demand) c.in-Never.is c.in_ok-meet.ensures)
