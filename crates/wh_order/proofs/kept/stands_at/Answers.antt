use Rattle.std.proofs.Common.{sym, subst, ◌↔◌, ◌≡◌, Bool, IsTrue, Some, slice_get}
use Rattle.std.proofs.lemmas.Bool.{le-ltb}
use Rattle.wh_order.proofs.KeptLemmas.{stands_within, stands_past}
use Rattle.wh_order.proofs.kept.stands_at.Goals as goal

pub returns-then-number-places : goal.returns-then-number-places
returns-then-number-places c = stands_within c.args.places.now c.args.number c.args.place c.if-number-places.true

pub returns-else-number-places : goal.returns-else-number-places
returns-else-number-places c =
    subst (λ (b : Bool). IsTrue b ↔ (slice_get c.args.places.now c.args.number ≡ Some c.args.place)) (sym (le-ltb c.args.number _ c.if-number-places.false))
    (stands_past c.args.places.now c.args.number c.args.place c.if-number-places.false)
