-- Least things: said in other words, and the lesser of two.
use Rattle.std.proofs.Common.{◌⊎◌, ℕ, inl, inr, Option, Some, None, subst, sym, arith}
use Rattle.wh_order_known.specs.declared.choice.Choice.{Choice}
use Rattle.wh_order_known.specs.Least.{IsLeast}
use Rattle.wh_order_known.specs.Counts.{IsLesser}

-- the same said of the things in other words
pub least_same : {A : Type 0} (number : A → ℕ) (P Q : A → Type 0) (r : Option A) → ((a : A) → P a → Q a) → ((a : A) → Q a → P a)
    → IsLeast number P r → IsLeast number Q r
least_same number P Q None to from least = λ a q. least a (from a q)
least_same number P Q (Some a) to from least = (least.0, to a least.1, λ b q. least.2 b (from b q))

abbrev number_of : Choice → ℕ
number_of c = c.count

-- the lesser one of two is a least one of all
pub least_or : (P Q R : Choice → Type 0) (f s r : Option Choice) → IsLesser f s r → IsLeast (λ c. c.count) P f → IsLeast (λ c. c.count) Q s
    → ((c : Choice) → R c → P c ⊎ Q c) → ((c : Choice) → P c → R c) → ((c : Choice) → Q c → R c) → IsLeast (λ c. c.count) R r
least_or P Q R None None r is p q split left right =
    subst (IsLeast number_of R) (sym is) (λ c x. elim (split c x) [ inl h ↦ p c h | inr h ↦ q c h ])
least_or P Q R None (Some b) r is p q split left right =
    subst (IsLeast number_of R) (sym is)
    (q.0, right b q.1, λ c x. elim (split c x) [ inl h ↦ omega (arith, q.0, p c h) | inr h ↦ q.2 c h ])
least_or P Q R (Some a) None r is p q split left right =
    subst (IsLeast number_of R) (sym is)
    (p.0, left a p.1, λ c x. elim (split c x) [ inl h ↦ p.2 c h | inr h ↦ omega (arith, p.0, q c h) ])
least_or P Q R (Some a) (Some b) r (inl is) p q split left right =
    subst (IsLeast number_of R) (sym is.1)
    (p.0, left a p.1, λ c x. elim (split c x) [ inl h ↦ p.2 c h | inr h ↦ omega (arith, is.0, q.2 c h) ])
least_or P Q R (Some a) (Some b) r (inr is) p q split left right =
    subst (IsLeast number_of R) (sym is.1)
    (q.0, right b q.1, λ c x. elim (split c x) [ inl h ↦ omega (arith, is.0, p.2 c h) | inr h ↦ q.2 c h ])
