-- The coefficient at hand fits its type, and the rest is left.
use Rattle.std.proofs.Common.{◌≡◌, ℕ, ◌+◌, ◌<◌, ◌^◌, inl, inr, List, ap, sym, subst, ◌∙◌, arith, length, drop, get_or}
use Rattle.wh_poly.specs.Limits.{Overflows}
use Rattle.wh_poly.specs.Erase.{sum_of}
use Rattle.wh_poly.specs.declared.polynomial.Monomial.{Monomial, out-Monomial}
use Rattle.wh_poly.proofs.Lists.{poly_is}
use Rattle.wh_poly.proofs.Walks.{sum_drop, sum_ended}
use Rattle.wh_poly_limits.proofs.limits.coefficients_fit.Goals as goal

behind_overflows : (xs : List Monomial) (i : ℕ) (m : Monomial) → i < length xs → m ≡ get_or xs i m → (out-Monomial m).coefficient < 2 ^ 128 → Overflows (sum_of (drop i xs)) → Overflows (sum_of (drop (i + 1) xs))
behind_overflows xs i m l e f h = elim (subst Overflows (sum_drop xs i m l e) h) [ inl k ↦ absurd (omega (arith, f, k)) | inr k ↦ k ]

pub loop-item-init : goal.loop-item-init
loop-item-init c = λ h. subst Overflows (poly_is c.args.p.now ∙ ap sum_of (sym c.as_slice-item-items.ensures)) h

pub loop-item-preserved : goal.loop-item-preserved
loop-item-preserved c = λ h. behind_overflows c.as_slice-item-items.result.now c.loop-item.item-index c.item-item.result c.loop-item-test.true c.item-item.is c.fits.ensures (c.loop-item.invariant h)

pub returns : goal.returns
returns c = λ h. subst Overflows (sum_ended c.as_slice-item-items.result.now c.loop-item.item-index c.loop-item-test.false) (c.loop-item.invariant h)
