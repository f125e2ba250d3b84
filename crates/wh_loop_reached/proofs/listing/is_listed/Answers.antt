use Rattle.std.proofs.Common.{◌≡◌, Some, slice_get, subst, sym}
use Rattle.wh_terms.specs.Erase.{tm}
use Rattle.wh_loop_reached.specs.Listing.{IsListed, ListsAt}
use Rattle.wh_loop_reached.proofs.ListingLemmas.{number_of_listed}
use Rattle.wh_loop_reached.proofs.listing.is_listed.Goals as goal

pub returns : goal.returns
returns c =
    let l = c.args.listing.now in
    let n = c.args.start in
    let t = tm c.args.term.now in
    let row = c.row.result.now in (
      λ yes. subst (λ entries. IsListed entries n t) c.deref.ensures.value (c.lists_among.ensures.some yes),
      λ listed.
          let (i, inside, lists) = number_of_listed l.marks row l.entries.items n t c.requires.marked (subst (λ k. slice_get l.marks k ≡ Some row) c.key_of.ensures.value c.row.ensures) listed in
          c.lists_among.ensures.none i inside (subst (λ entries. ListsAt entries i (record { start = n; term = t })) (sym c.deref.ensures.value) lists),
    )
