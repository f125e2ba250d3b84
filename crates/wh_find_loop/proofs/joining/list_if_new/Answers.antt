use Rattle.std.proofs.Common.{refl}
use Rattle.std.proofs.lemmas.Bool.{false≢true}
use Rattle.wh_loop_reached.specs.Listing.{arrival_of}
use Rattle.wh_loop_reached.proofs.ListingLemmas.{takes_old, takes_new}
use Rattle.wh_find_loop.proofs.joining.list_if_new.Goals as goal

pub returns-then-is_listed : goal.returns-then-is_listed
returns-then-is_listed c d level listing entry linked = takes_old d level c.args.listing.now (arrival_of c.args.entry) listing (c.if-is_listed.ensures.0 refl)

pub returns : goal.returns
returns c d level listing entry linked =
    takes_new d level c.args.listing.now c.add.new.listing c.args.entry listing entry linked (λ has. false≢true (c.if-is_listed.ensures.1 has)) c.in_ok-add.ensures.entries c.in_ok-add.ensures.keys c.in_ok-add.ensures.kept
    c.in_ok-add.ensures.added
