use Rattle.std.proofs.Common.{◌<◌, length, subst, sym, arith}
use Rattle.std.specs.Prelude.{Contains}
use Rattle.std.proofs.lemmas.List.{take_all, get_or_default}
use Rattle.std.proofs.lemmas.Bool.{false≢true}
use Rattle.wh_terms.specs.Erase.{tm}
use Rattle.wh_loop_reached.proofs.ListingLemmas.{none_among_next}
use Rattle.wh_loop_reached.proofs.listing.lists_among.Goals as goal

pub loop-number-preserved : goal.loop-number-preserved
loop-number-preserved c =
    let within : c.loop-number.number-index < length c.args.numbers.now = omega arith in
    none_among_next c.args.entries.now c.args.numbers.now c.loop-number.number-index _ (record { start = c.args.start; term = tm c.args.term.now }) within (get_or_default c.args.numbers.now c.loop-number.number-index 0 _ within)
    c.loop-number.invariant (λ lists. false≢true (c.if-lists_at.ensures.1 lists))

pub returns-clause-none : goal.returns-clause-none
returns-clause-none c k has lists =
    absurd (c.loop-number.invariant k (subst (λ l. Contains l k) (sym (take_all c.loop-number.number-index c.args.numbers.now (omega arith))) has) lists)
