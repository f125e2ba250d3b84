use Rattle.std.proofs.Common.{◌≡◌, ◌<◌, ap, sym, subst, true}
use Rattle.wh_types.specs.Erase.{ty}
use Rattle.wh_types.specs.Ty.{SortsBelow}
use Rattle.wh_terms.specs.Erase.{symbols}
use Rattle.wh_access.specs.Demands.{Asks, HasSort}
use Rattle.wh_access.specs.Tables.{Grows}
use Rattle.wh_access.proofs.PlaceLemmas.{symbol_known, argument_below, result_below}
use Rattle.wh_access.proofs.AskLemmas.{asked_grows}
use Rattle.wh_access.proofs.demands.ask_at.Goals as goal

pub add-requires-clause-from : goal.add-requires-clause-from
add-requires-clause-from c =
    let kind = c.in-Some.kind.now in
    let known = symbol_known c.as_slice.result.now c.args.signature.now.funs c.args.place.symbol kind c.as_slice.ensures c.in-Some.ensures.lookup.3.0 c.in-Some.ensures.lookup.1 in
    let below = argument_below 256 (ty kind) c.args.place.index (ty c.in-Some-argument_at.argument.now) (c.requires c.args.place.symbol (ty kind) known) (sym c.in-Some-argument_at.ensures) in
    subst (λ u. SortsBelow 256 (ty u)) c.in-Sort.is below

pub add-requires-clause-to : goal.add-requires-clause-to
add-requires-clause-to c =
    let kind = c.in-Some.kind.now in
    let known = symbol_known c.as_slice.result.now c.args.signature.now.funs c.args.place.symbol kind c.as_slice.ensures c.in-Some.ensures.lookup.3.0 c.in-Some.ensures.lookup.1 in
    subst (λ s. s < 256) (sym c.result_sort.ensures) (result_below 256 (ty kind) (c.requires c.args.place.symbol (ty kind) known))

pub ask_below-requires-clause-sorts : goal.ask_below-requires-clause-sorts
ask_below-requires-clause-sorts c =
    let kind = c.in-Some.kind.now in
    let known = symbol_known c.as_slice.result.now c.args.signature.now.funs c.args.place.symbol kind c.as_slice.ensures c.in-Some.ensures.lookup.3.0 c.in-Some.ensures.lookup.1 in
    let below = argument_below 256 (ty kind) c.args.place.index (ty c.in-Some-argument_at.argument.now) (c.requires c.args.place.symbol (ty kind) known) (sym c.in-Some-argument_at.ensures) in
    below

pub ask_below-requires-clause-to : goal.ask_below-requires-clause-to
ask_below-requires-clause-to c =
    let kind = c.in-Some.kind.now in
    let known = symbol_known c.as_slice.result.now c.args.signature.now.funs c.args.place.symbol kind c.as_slice.ensures c.in-Some.ensures.lookup.3.0 c.in-Some.ensures.lookup.1 in
    subst (λ s. s < 256) (sym c.result_sort-in-Arrow.ensures) (result_below 256 (ty kind) (c.requires c.args.place.symbol (ty kind) known))

pub returns-in-Sort : goal.returns-in-Sort
returns-in-Sort c =
    let kind = c.in-Some.kind.now in
    let known = symbol_known c.as_slice.result.now c.args.signature.now.funs c.args.place.symbol kind c.as_slice.ensures c.in-Some.ensures.lookup.3.0 c.in-Some.ensures.lookup.1 in
    asked_grows c.args.demands.now c.add.new.self (symbols c.args.signature.now) (record { symbol = c.args.place.symbol; index = c.args.place.index }) (ty c.in-Some-argument_at.argument.now) (ty kind) c.result_sort.result
    known (sym c.in-Some-argument_at.ensures) c.result_sort.ensures
    (subst (λ u. Grows c.args.demands.now c.add.new.self (λ d. Asks u c.result_sort.result d)) (sym (ap ty c.in-Sort.is)) c.add.ensures)

pub returns-in-Arrow : goal.returns-in-Arrow
returns-in-Arrow c =
    let kind = c.in-Some.kind.now in
    let known = symbol_known c.as_slice.result.now c.args.signature.now.funs c.args.place.symbol kind c.as_slice.ensures c.in-Some.ensures.lookup.3.0 c.in-Some.ensures.lookup.1 in
    let old = c.args.demands.now in
    let new = c.ask_below.new.demands in
    let t = c.result_sort-in-Arrow.result in
    asked_grows old new (symbols c.args.signature.now) (record { symbol = c.args.place.symbol; index = c.args.place.index }) (ty c.in-Some-argument_at.argument.now) (ty kind) t
    known (sym c.in-Some-argument_at.ensures) c.result_sort-in-Arrow.ensures
    (subst (λ u. Grows old new (λ d. Asks u t d)) (sym (ap ty c.in-Arrow.is)) (subst (λ u. Grows old new (λ d. HasSort d.from u × (d.to ≡ t) × (d.strict ≡ true))) (ap ty c.in-Arrow.is) c.ask_below.ensures))
