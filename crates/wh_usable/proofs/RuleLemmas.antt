-- Rules with first-order sides of a sort.
use Rattle.std.proofs.Common.{◌≡◌, ◌↔◌, ℕ, Bool, IsTrue, List, [], subst}
use Rattle.wh_types.specs.Ty.{Ty, sort}
use Rattle.wh_terms.specs.Typing.{Symbols, Typed}
use Rattle.wh_terms.specs.Rules.{RewriteRule, IsWellMade}
use Rattle.wh_usable_first_order.specs.FirstOrder.{IsFlatTree}
use Rattle.wh_usable.specs.Closed.{ListsRulesIn, IsClosedRule}

pub closed_rule : (S : Symbols) (rules : List RewriteRule) (listed : List ℕ) (r : RewriteRule) (calls : Bool) → IsWellMade S r
    → IsFlatTree S r.metas r.left × IsFlatTree S r.metas r.right
    → ((a : Ty) → Typed S r.metas [] r.left a → (s : ℕ) × (a ≡ sort s))
    → IsTrue calls ↔ ListsRulesIn rules listed r.right → IsTrue calls ↔ IsClosedRule S rules listed r
closed_rule S rules listed r calls made flat sorts told =
    let (a, left, right) = made.typed in
    let (s, is) = sorts a left in (
      λ yes. record {
        of_a_sort = (s, subst (λ b. Typed S r.metas [] r.left b) is left, subst (λ b. Typed S r.metas [] r.right b) is right);
        left = flat.0;
        right = flat.1;
        calls = told.0 yes;
      },
      λ closed. told.1 closed.calls,
    )
