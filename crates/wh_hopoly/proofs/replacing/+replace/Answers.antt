-- Each call's run is a part of the run that it is in, and a loop's invariant says what is left of that.
use Rattle.std.proofs.Common.{rules, ◌≤◌, ◌≡◌, ◌-◌, ◌++◌, ap, sym, subst, ◌∙◌, arith, length, length-append}
use Rattle.wh_types.specs.Erase.{ty}
use Rattle.wh_types.specs.Ty.{◌⇒◌, arguments}
use Rattle.wh_poly.specs.Polynomials.{zero_poly, no_arguments, Normal, NormalFactors, NormalArguments}
use Rattle.wh_poly.specs.Arithmetic.{constant, sum_poly, multiply, atom}
use Rattle.wh_poly.specs.Limits.{Exceeds}
use Rattle.wh_poly.specs.Excesses.{ExceedsAs}
use Rattle.wh_hopoly.specs.Evaluation.{one, down, replace, replace_factors, replace_arguments, applied}
use Rattle.wh_hopoly.specs.Outcomes.{ComesTo, ComesToArguments, PassesLimit}
use Rattle.wh_hopoly.specs.Scopes.{scope_of}
use Rattle.wh_poly_arithmetic.specs.Growing.{grown, HasRoom}
use Rattle.wh_poly_arithmetic.specs.Totals.{total}
use Rattle.wh_hopoly.specs.Replacements.{head_of, head_by, replace_factor, product_with, apply_at, value_at, Replaces}
use Rattle.wh_poly.specs.declared.polynomial.Monomial.{out-Monomial}
use Rattle.wh_poly.specs.declared.polynomial.Atom.{out-Atom}
use Rattle.wh_poly.specs.Erase.{poly, atoms, polys, list, sum_of, product_of, arguments_of}
use Rattle.wh_poly.proofs.Lists.{poly_is, atoms_is, polys_is}
use Rattle.wh_poly.proofs.FaultLaws.{ok_so, done_so, because_so, passed_on}
use Rattle.wh_poly.proofs.OrderedLaws.{normal_ordered}
use Rattle.wh_hopoly.proofs.NormalWalk.{one_type, not_past}
use Rattle.wh_hopoly.proofs.RenumberLaws.{moved_by}
use Rattle.wh_poly_arithmetic.proofs.RoomLaws.{room_is_within}
use Rattle.wh_hopoly.proofs.ReplacingLaws as laws
use Rattle.wh_hopoly.proofs.replacing.+replace.Goals as goal

pub applied-loop-item-init : goal.applied-loop-item-init
applied-loop-item-init t c =
    laws.applying_starts (scope_of c.args.scope.now) (ty c.args.kind.now) (poly c.args.value) c.as_slice-item-items.result.now c.requires.normal
    (subst (NormalArguments (scope_of c.args.scope.now) (ty c.args.kind.now)) (polys_is c.args.args.now ∙ ap arguments_of (sym c.as_slice-item-items.ensures)) c.requires.arguments)

pub applied-apply_one-requires : goal.applied-apply_one-requires
applied-apply_one-requires t c =
    let Γ = scope_of c.args.scope.now in
    let A = ty c.args.kind.now in
    let g = poly c.args.value in
    let ps = c.as_slice-item-items.result.now in
    let K = ty c.loop-item.here.now in
    let p = poly c.loop-item.applied_value in
    let same : polys c.args.args.now ≡ arguments_of ps = polys_is c.args.args.now ∙ ap arguments_of (sym c.as_slice-item-items.ensures) in
    let shorter = laws.application_shorter Γ A g ps K p c.loop-item.item-index c.item-item.result c.loop-item.invariant c.loop-item-test.true c.item-item.is (ty c.in-Arrow.field-0.value) (ty c.in-Arrow.rest.value) (ap ty c.in-Arrow.is) in
    let whole = ap (λ ps. length (applied A Γ g ps).values) same in (
      omega (arith, shorter, whole),
      (
        c.requires.counted,
        (c.loop-item.invariant.normal, laws.argument_fits Γ A g ps K p c.loop-item.item-index c.item-item.result c.loop-item.invariant c.loop-item-test.true c.item-item.is),
      ),
    )

pub applied-returns-in_err-applied_value-clause-fault : goal.applied-returns-in_err-applied_value-clause-fault
applied-returns-in_err-applied_value-clause-fault t c =
    let Γ = scope_of c.args.scope.now in
    let A = ty c.args.kind.now in
    let g = poly c.args.value in
    let ps = c.as_slice-item-items.result.now in
    let K = ty c.loop-item.here.now in
    let p = poly c.loop-item.applied_value in
    let same : polys c.args.args.now ≡ arguments_of ps = polys_is c.args.args.now ∙ ap arguments_of (sym c.as_slice-item-items.ensures) in
    passed_on c.apply_one.result c.from_residual.result c.in_err-applied_value.field-0.0 (PassesLimit (apply_at K Γ p (poly c.item-item.result))) (PassesLimit (applied A Γ g (polys c.args.args.now)))
    c.from_residual.ensures.1 c.in_err-applied_value.ensures.fault
    (λ e f. subst (λ ps. PassesLimit (applied A Γ g ps) e) (sym same)
    (laws.application_fault Γ A g ps K p c.loop-item.item-index c.item-item.result c.loop-item.invariant c.loop-item-test.true c.item-item.is (ty c.in-Arrow.field-0.value) (ty c.in-Arrow.rest.value) (ap ty c.in-Arrow.is) e f))

pub applied-loop-item-preserved : goal.applied-loop-item-preserved
applied-loop-item-preserved t c =
    laws.applying_steps (scope_of c.args.scope.now) (ty c.args.kind.now) (poly c.args.value) c.as_slice-item-items.result.now (ty c.loop-item.here.now) (poly c.loop-item.applied_value) c.loop-item.item-index
    c.item-item.result c.loop-item.invariant c.loop-item-test.true c.item-item.is (ty c.in-Arrow.field-0.value) (ty c.in-Arrow.rest.value) (ap ty c.in-Arrow.is)
    (poly c.in_ok-applied_value.applied_value) (ty c.deref-here.result.now) c.in_ok-applied_value.ensures.ok (ap ty c.deref-here.ensures)

pub applied-returns-clause-ok : goal.applied-returns-clause-ok
applied-returns-clause-ok t c =
    let Γ = scope_of c.args.scope.now in
    let A = ty c.args.kind.now in
    let g = poly c.args.value in
    let ps = c.as_slice-item-items.result.now in
    let same : polys c.args.args.now ≡ arguments_of ps = polys_is c.args.args.now ∙ ap arguments_of (sym c.as_slice-item-items.ensures) in
    ok_so c.tested.result (λ r. (poly r ≡ poly c.loop-item.applied_value) × (Exceeds (poly r) → ⊥)) (λ r. ComesTo (applied A Γ g (polys c.args.args.now)) (poly r))
    (λ r h. subst (λ ps. ComesTo (applied A Γ g ps) (poly r)) (sym same)
    (laws.applying_ends Γ A g ps (ty c.loop-item.here.now) (poly c.loop-item.applied_value) (poly r) c.loop-item.item-index c.loop-item.invariant c.loop-item-test.false h)) c.tested.ensures.ok

pub applied-returns-clause-fault : goal.applied-returns-clause-fault
applied-returns-clause-fault t c =
    let Γ = scope_of c.args.scope.now in
    let A = ty c.args.kind.now in
    let g = poly c.args.value in
    let ps = c.as_slice-item-items.result.now in
    let same : polys c.args.args.now ≡ arguments_of ps = polys_is c.args.args.now ∙ ap arguments_of (sym c.as_slice-item-items.ensures) in
    because_so c.tested.result (λ e. ExceedsAs e (poly c.loop-item.applied_value)) (PassesLimit (applied A Γ g (polys c.args.args.now)))
    (λ e h. subst (λ ps. PassesLimit (applied A Γ g ps) e) (sym same)
    (laws.last_fault Γ A g ps (ty c.loop-item.here.now) (poly c.loop-item.applied_value) c.loop-item.item-index e c.loop-item.invariant c.loop-item-test.false h)) c.tested.ensures.fault

pub apply_one-returns-clause-ok : goal.apply_one-returns-clause-ok
apply_one-returns-clause-ok t c =
    let Γ = scope_of c.args.scope.now in
    let K = ty c.args.kind.now in
    let g = poly c.args.function.now in
    let p = poly c.args.argument.now in
    let n = c.args.count in
    let run = replace (head_by (ty c.deref.result.now) n p) n (Γ ++ arguments K) zero_poly g in
    let same : run ≡ apply_at K Γ g p = laws.apply_is K (ty c.in-Arrow.first.value) (ty c.in-Arrow.rest.value) (ty c.deref.result.now) Γ n g p (ap ty c.in-Arrow.is) c.requires.counted (ap ty c.deref.ensures) in
    ok_so c.replace.result (λ r. ComesTo run (poly r)) (λ r. ComesTo (apply_at K Γ g p) (poly r)) (λ r h. subst (λ run. ComesTo run (poly r)) same h) c.replace.ensures.ok

pub replace-replace_factors-requires : goal.replace-replace_factors-requires
replace-replace_factors-requires t c =
    let H = head_of c.args.replacement.now in
    let v = c.args.replacement.now.variable in
    let Γ = scope_of c.args.place.now.inner in
    let xs = c.as_slice-item-items.result.now in
    let same : poly c.args.p.now ≡ sum_of xs = poly_is c.args.p.now ∙ ap sum_of (sym c.as_slice-item-items.ensures) in
    let m = laws.monomial_normal Γ xs c.loop-item.item-index c.item-item.result (subst (Normal Γ) same c.requires.normal) c.loop-item-test.true c.item-item.is in
    let shorter = laws.monomial_shorter H v Γ xs c.loop-item.total c.loop-item.item-index c.item-item.result c.loop-item.invariant.summing c.loop-item-test.true c.item-item.is in
    let whole = ap (λ p. length (replace H v Γ zero_poly p).values) same in
    (omega (arith, shorter, whole), (c.requires.fits, (c.loop-item.invariant.kept, m)))

pub replace-returns-in_err-value-clause-fault : goal.replace-returns-in_err-value-clause-fault
replace-returns-in_err-value-clause-fault t c =
    let H = head_of c.args.replacement.now in
    let v = c.args.replacement.now.variable in
    let Γ = scope_of c.args.place.now.inner in
    let xs = c.as_slice-item-items.result.now in
    let same : poly c.args.p.now ≡ sum_of xs = poly_is c.args.p.now ∙ ap sum_of (sym c.as_slice-item-items.ensures) in
    passed_on c.replace_factors.result c.from_residual.result c.in_err-value.field-0.0
    (PassesLimit (replace_factors H v Γ (constant (out-Monomial c.item-item.result).coefficient) (atoms (out-Monomial c.item-item.result).atoms)))
    (PassesLimit (replace H v Γ zero_poly (poly c.args.p.now))) c.from_residual.ensures.1 c.in_err-value.ensures.fault
    (λ e f. subst (λ p. PassesLimit (replace H v Γ zero_poly p) e) (sym same)
    (laws.monomial_fault H v Γ xs c.loop-item.total c.loop-item.item-index c.item-item.result e c.loop-item.invariant.summing c.loop-item-test.true c.item-item.is f))

pub replace-add-requires-clause-value : goal.replace-add-requires-clause-value
replace-add-requires-clause-value t c =
    let H = head_of c.args.replacement.now in
    let v = c.args.replacement.now.variable in
    let Γ = scope_of c.args.place.now.inner in
    let Δ = scope_of c.args.place.now.outer in
    let xs = c.as_slice-item-items.result.now in
    let same : poly c.args.p.now ≡ sum_of xs = poly_is c.args.p.now ∙ ap sum_of (sym c.as_slice-item-items.ensures) in
    let m = laws.monomial_normal Γ xs c.loop-item.item-index c.item-item.result (subst (Normal Γ) same c.requires.normal) c.loop-item-test.true c.item-item.is in
    let coefficient = (out-Monomial c.item-item.result).coefficient in
    let run = replace_factors (head_of c.args.replacement.now) v Γ (constant coefficient) (atoms (out-Monomial c.item-item.result).atoms) in
    normal_ordered Δ (poly c.in_ok-value.value) (subst (Normal Δ) (sym {b = run.result} c.in_ok-value.ensures.ok.0)
    (laws.factors_normal (ty c.args.replacement.now.kind.now) v (poly c.args.replacement.now.value.now) Γ Δ c.requires.fits.0 (constant coefficient) (atoms (out-Monomial c.item-item.result).atoms)
    (m.0, tt, tt, tt) m.1))

pub replace-returns-in_err-add-clause-fault : goal.replace-returns-in_err-add-clause-fault
replace-returns-in_err-add-clause-fault t c =
    let H = head_of c.args.replacement.now in
    let v = c.args.replacement.now.variable in
    let Γ = scope_of c.args.place.now.inner in
    let xs = c.as_slice-item-items.result.now in
    let same : poly c.args.p.now ≡ sum_of xs = poly_is c.args.p.now ∙ ap sum_of (sym c.as_slice-item-items.ensures) in
    passed_on c.add.result c.from_residual-in_err-add.result c.in_err-add.field-0.0 (λ e. ExceedsAs e (sum_poly (poly c.in_ok-value.value) (total c.loop-item.total)))
    (PassesLimit (replace H v Γ zero_poly (poly c.args.p.now))) c.from_residual-in_err-add.ensures.1 c.in_err-add.ensures.fault
    (λ e f. subst (λ p. PassesLimit (replace H v Γ zero_poly p) e) (sym same)
    (laws.sum_fault H v Γ xs c.loop-item.total c.loop-item.item-index c.item-item.result (poly c.in_ok-value.value) e c.loop-item.invariant.summing c.loop-item-test.true c.item-item.is c.in_ok-value.ensures.ok.0 f))

pub replace-loop-item-preserved : goal.replace-loop-item-preserved
replace-loop-item-preserved t c = record {
  summing = laws.summing_steps (head_of c.args.replacement.now) c.args.replacement.now.variable (scope_of c.args.place.now.inner) c.as_slice-item-items.result.now c.loop-item.total c.add.new.self
      c.loop-item.item-index c.item-item.result (poly c.in_ok-value.value) c.loop-item.invariant.summing c.loop-item-test.true c.item-item.is c.in_ok-value.ensures.ok c.in_ok-add.ensures.ok.0 c.in_ok-add.ensures.ok.1;
  kept = c.in_ok-value.ensures.kept;
}

pub replace-returns-clause-ok : goal.replace-returns-clause-ok
replace-returns-clause-ok t c =
    let H = head_of c.args.replacement.now in
    let v = c.args.replacement.now.variable in
    let Γ = scope_of c.args.place.now.inner in
    let xs = c.as_slice-item-items.result.now in
    let same : poly c.args.p.now ≡ sum_of xs = poly_is c.args.p.now ∙ ap sum_of (sym c.as_slice-item-items.ensures) in
    ok_so c.finish.result (λ r. (poly r ≡ total c.loop-item.total) × (Exceeds (poly r) → ⊥)) (λ r. ComesTo (replace H v Γ zero_poly (poly c.args.p.now)) (poly r))
    (λ r h. subst (λ p. ComesTo (replace H v Γ zero_poly p) (poly r)) (sym same)
    (laws.summing_ends H v Γ xs c.loop-item.total c.loop-item.item-index (poly r) c.loop-item.invariant.summing c.loop-item-test.false h.0 h.1)) c.finish.ensures.ok

pub replace-returns-clause-fault : goal.replace-returns-clause-fault
replace-returns-clause-fault t c =
    let H = head_of c.args.replacement.now in
    let v = c.args.replacement.now.variable in
    let Γ = scope_of c.args.place.now.inner in
    let xs = c.as_slice-item-items.result.now in
    let same : poly c.args.p.now ≡ sum_of xs = poly_is c.args.p.now ∙ ap sum_of (sym c.as_slice-item-items.ensures) in
    because_so c.finish.result (λ e. ExceedsAs e (total c.loop-item.total)) (PassesLimit (replace H v Γ zero_poly (poly c.args.p.now)))
    (λ e h. subst (λ p. PassesLimit (replace H v Γ zero_poly p) e) (sym same)
    (laws.last_sum_fault H v Γ xs c.loop-item.total c.loop-item.item-index e c.loop-item.invariant.summing c.loop-item-test.false h)) c.finish.ensures.fault

pub replace_factors-multiply_by_factor-requires : goal.replace_factors-multiply_by_factor-requires
replace_factors-multiply_by_factor-requires t c =
    let H = head_of c.args.replacement.now in
    let v = c.args.replacement.now.variable in
    let Γ = scope_of c.args.place.now.inner in
    let Δ = scope_of c.args.place.now.outer in
    let us = c.as_slice-item-items.result.now in
    let same : atoms c.args.us.now ≡ product_of us = atoms_is c.args.us.now ∙ ap product_of (sym c.as_slice-item-items.ensures) in
    let shorter = laws.factor_shorter H v Γ Δ c.args.coefficient us (grown c.loop-item.so_far) c.loop-item.item-index c.item-item.result c.loop-item.invariant.multiplying c.loop-item-test.true c.item-item.is in
    let whole = ap (λ us. length (replace_factors H v Γ (constant c.args.coefficient) us).values) same in (
      omega (arith, shorter, whole),
      (
        c.requires.fits,
        (
          c.loop-item.invariant.kept,
          (
            c.loop-item.invariant.room,
            (
              normal_ordered Δ (grown c.loop-item.so_far) c.loop-item.invariant.multiplying.normal,
              laws.atom_normal Γ us c.loop-item.item-index c.item-item.result (subst (NormalFactors Γ) same c.requires.normal) c.loop-item-test.true c.item-item.is,
            ),
          ),
        ),
      ),
    )

pub replace_factors-returns-in_err-multiply_by_factor-clause-fault : goal.replace_factors-returns-in_err-multiply_by_factor-clause-fault
replace_factors-returns-in_err-multiply_by_factor-clause-fault t c =
    let H = head_of c.args.replacement.now in
    let v = c.args.replacement.now.variable in
    let Γ = scope_of c.args.place.now.inner in
    let Δ = scope_of c.args.place.now.outer in
    let us = c.as_slice-item-items.result.now in
    let same : atoms c.args.us.now ≡ product_of us = atoms_is c.args.us.now ∙ ap product_of (sym c.as_slice-item-items.ensures) in
    passed_on c.multiply_by_factor.result c.from_residual-in_err-multiply_by_factor.result c.in_err-multiply_by_factor.field-0.0
    (PassesLimit (product_with (grown c.loop-item.so_far) (replace_factor H v Γ (out-Atom c.item-item.result).head (polys (out-Atom c.item-item.result).args))))
    (PassesLimit (replace_factors H v Γ (constant c.args.coefficient) (atoms c.args.us.now))) c.from_residual-in_err-multiply_by_factor.ensures.1 c.in_err-multiply_by_factor.ensures.fault
    (λ e f. subst (λ us. PassesLimit (replace_factors H v Γ (constant c.args.coefficient) us) e) (sym same)
    (laws.factor_or_product_fault H v Γ Δ c.args.coefficient us (grown c.loop-item.so_far) c.loop-item.item-index c.item-item.result e c.loop-item.invariant.multiplying c.loop-item-test.true c.item-item.is f))

pub replace_factors-loop-item-preserved : goal.replace_factors-loop-item-preserved
replace_factors-loop-item-preserved t c =
    let r = c.args.replacement.now in
    let H = head_of r in
    let v = r.variable in
    let Γ = scope_of c.args.place.now.inner in
    let Δ = scope_of c.args.place.now.outer in
    let us = c.as_slice-item-items.result.now in
    let u = c.item-item.result in
    let same : atoms c.args.us.now ≡ product_of us = atoms_is c.args.us.now ∙ ap product_of (sym c.as_slice-item-items.ensures) in
    let made = c.in_ok-multiply_by_factor.ensures.ok in
    let normal = laws.atom_normal Γ us c.loop-item.item-index u (subst (NormalFactors Γ) same c.requires.normal) c.loop-item-test.true c.item-item.is in
    record {
      multiplying = laws.multiplying_goes_on H v Γ Δ c.args.coefficient us (grown c.loop-item.so_far) (grown c.multiply_by_factor.new.so_far) c.loop-item.item-index u
          c.loop-item.invariant.multiplying c.loop-item-test.true c.item-item.is
          (laws.factor_normal (ty r.kind.now) v (poly r.value.now) Γ Δ c.requires.fits.0 (out-Atom u).head (polys (out-Atom u).args) normal)
          made.0 (room_is_within c.multiply_by_factor.new.so_far made.1);
      room = made.1;
      kept = c.in_ok-multiply_by_factor.ensures.kept;
    }

pub replace_factors-returns-clause-ok : goal.replace_factors-returns-clause-ok
replace_factors-returns-clause-ok t c =
    let H = head_of c.args.replacement.now in
    let v = c.args.replacement.now.variable in
    let Γ = scope_of c.args.place.now.inner in
    let Δ = scope_of c.args.place.now.outer in
    let us = c.as_slice-item-items.result.now in
    let same : atoms c.args.us.now ≡ product_of us = atoms_is c.args.us.now ∙ ap product_of (sym c.as_slice-item-items.ensures) in
    let end = laws.multiplying_ends H v Γ Δ c.args.coefficient us (grown c.loop-item.so_far) c.loop-item.item-index c.loop-item.invariant.multiplying c.loop-item-test.false in
    subst (λ us. ComesTo (replace_factors H v Γ (constant c.args.coefficient) us) (poly c.in_ok-finish.field-0)) (sym same) (c.in_ok-finish.ensures ∙ end.0, end.1)

pub multiply_by_factor-multiply_by-requires-clause-right : goal.multiply_by_factor-multiply_by-requires-clause-right
multiply_by_factor-multiply_by-requires-clause-right t c =
    let r = c.args.replacement.now in
    let H = head_of r in
    let Γ = scope_of c.args.place.now.inner in
    let Δ = scope_of c.args.place.now.outer in
    let x = (out-Atom c.args.item.now).head in
    let ps = polys (out-Atom c.args.item.now).args in
    let run = replace_factor H r.variable Γ x ps in
    normal_ordered Δ (poly c.in_ok-factor.factor) (subst (Normal Δ) (sym {b = run.result} c.in_ok-factor.ensures.ok.0)
    (laws.factor_normal (ty r.kind.now) r.variable (poly r.value.now) Γ Δ c.requires.fits.0 x ps c.requires.normal))

pub multiply_by_factor-returns-then-not-is_empty-clause-ok : goal.multiply_by_factor-returns-then-not-is_empty-clause-ok
multiply_by_factor-returns-then-not-is_empty-clause-ok t c =
    let r = c.args.replacement.now in
    let H = head_of r in
    let Γ = scope_of c.args.place.now.inner in
    let Δ = scope_of c.args.place.now.outer in
    let x = (out-Atom c.args.item.now).head in
    let ps = polys (out-Atom c.args.item.now).args in
    let run = replace_factor H r.variable Γ x ps in
    let p = grown c.args.so_far.now in
    let a = c.multiply_by.new.so_far in
    done_so c.multiply_by.result ((grown a ≡ multiply p (poly c.in_ok-factor.factor)) × HasRoom a) (ComesTo (product_with p run) (grown a) × HasRoom a)
    (λ h. (laws.product_comes run p (poly c.in_ok-factor.factor) (grown a) c.in_ok-factor.ensures.ok h.0 (room_is_within a h.1), h.1)) c.multiply_by.ensures.ok

pub multiply_by_factor-returns-then-not-is_empty-clause-fault : goal.multiply_by_factor-returns-then-not-is_empty-clause-fault
multiply_by_factor-returns-then-not-is_empty-clause-fault t c =
    let r = c.args.replacement.now in
    let H = head_of r in
    let Γ = scope_of c.args.place.now.inner in
    let Δ = scope_of c.args.place.now.outer in
    let x = (out-Atom c.args.item.now).head in
    let ps = polys (out-Atom c.args.item.now).args in
    let run = replace_factor H r.variable Γ x ps in
    let p = grown c.args.so_far.now in
    because_so c.multiply_by.result (λ e. ExceedsAs e (multiply p (poly c.in_ok-factor.factor))) (PassesLimit (product_with p run))
    (λ e h. laws.product_passes run p (poly c.in_ok-factor.factor) e c.in_ok-factor.ensures.ok.0 h) c.multiply_by.ensures.fault

pub multiply_by_factor-returns-then-item-replacement-clause-ok : goal.multiply_by_factor-returns-then-item-replacement-clause-ok
multiply_by_factor-returns-then-item-replacement-clause-ok t c =
    let r = c.args.replacement.now in
    let H = head_of r in
    let Γ = scope_of c.args.place.now.inner in
    let Δ = scope_of c.args.place.now.outer in
    let x = (out-Atom c.args.item.now).head in
    let ps = polys (out-Atom c.args.item.now).args in
    let run = replace_factor H r.variable Γ x ps in
    let p = grown c.args.so_far.now in
    let none : length c.as_slice.result.now ≤ 0 = search rules in
    let alone = laws.alone_is ps c.as_slice.result.now (polys_is (out-Atom c.args.item.now).args ∙ ap arguments_of (sym c.as_slice.ensures)) none in
    let q = atom (down r.variable x) no_arguments in
    let same : run ≡ one q = laws.variable_alone H r.variable Γ x ps alone c.if-item-replacement.true in
    let a = c.multiply_by_variable.new.so_far in
    done_so c.multiply_by_variable.result ((grown a ≡ multiply p (atom c.lowered.result no_arguments)) × HasRoom a) (ComesTo (product_with p run) (grown a) × HasRoom a)
    (λ h. (
      laws.product_comes run p q (grown a) (subst (λ run. ComesTo run q) (sym same) (laws.one_comes q (laws.variable_within (down r.variable x))))
          (h.0 ∙ ap (λ y. multiply p (atom y no_arguments)) c.lowered.ensures) (room_is_within a h.1),
      h.1,
    )) c.multiply_by_variable.ensures.ok

pub multiply_by_factor-returns-then-item-replacement-clause-fault : goal.multiply_by_factor-returns-then-item-replacement-clause-fault
multiply_by_factor-returns-then-item-replacement-clause-fault t c =
    let r = c.args.replacement.now in
    let H = head_of r in
    let Γ = scope_of c.args.place.now.inner in
    let Δ = scope_of c.args.place.now.outer in
    let x = (out-Atom c.args.item.now).head in
    let ps = polys (out-Atom c.args.item.now).args in
    let run = replace_factor H r.variable Γ x ps in
    let p = grown c.args.so_far.now in
    let none : length c.as_slice.result.now ≤ 0 = search rules in
    let alone = laws.alone_is ps c.as_slice.result.now (polys_is (out-Atom c.args.item.now).args ∙ ap arguments_of (sym c.as_slice.ensures)) none in
    let q = atom (down r.variable x) no_arguments in
    let same : run ≡ one q = laws.variable_alone H r.variable Γ x ps alone c.if-item-replacement.true in
    because_so c.multiply_by_variable.result (λ e. ExceedsAs e (multiply p (atom c.lowered.result no_arguments))) (PassesLimit (product_with p run))
    (λ e h. laws.product_passes run p q e (sym (ap (λ run. run.result) same)) (subst (λ y. ExceedsAs e (multiply p (atom y no_arguments))) c.lowered.ensures h)) c.multiply_by_variable.ensures.fault

pub multiply_by_factor-multiply_by_raised-requires-clause-right : goal.multiply_by_factor-multiply_by_raised-requires-clause-right
multiply_by_factor-multiply_by_raised-requires-clause-right t c =
    let r = c.args.replacement.now in
    let H = head_of r in
    let Γ = scope_of c.args.place.now.inner in
    let Δ = scope_of c.args.place.now.outer in
    let x = (out-Atom c.args.item.now).head in
    let ps = polys (out-Atom c.args.item.now).args in
    let run = replace_factor H r.variable Γ x ps in
    let none : length c.as_slice.result.now ≤ 0 = search rules in
    let alone = laws.alone_is ps c.as_slice.result.now (polys_is (out-Atom c.args.item.now).args ∙ ap arguments_of (sym c.as_slice.ensures)) none in
    let q = value_at r c.args.place.now in
    let same : run ≡ one q = laws.value_alone (ty r.kind.now) r.variable (poly r.value.now) Γ Δ x ps c.requires.fits.0 alone c.if-item-replacement.false in
    normal_ordered Δ q (subst (Normal Δ) (ap (λ run. run.result) same)
    (laws.factor_normal (ty r.kind.now) r.variable (poly r.value.now) Γ Δ c.requires.fits.0 x ps c.requires.normal))

pub multiply_by_factor-returns-clause-ok : goal.multiply_by_factor-returns-clause-ok
multiply_by_factor-returns-clause-ok t c =
    let r = c.args.replacement.now in
    let H = head_of r in
    let Γ = scope_of c.args.place.now.inner in
    let Δ = scope_of c.args.place.now.outer in
    let x = (out-Atom c.args.item.now).head in
    let ps = polys (out-Atom c.args.item.now).args in
    let run = replace_factor H r.variable Γ x ps in
    let p = grown c.args.so_far.now in
    let none : length c.as_slice.result.now ≤ 0 = search rules in
    let alone = laws.alone_is ps c.as_slice.result.now (polys_is (out-Atom c.args.item.now).args ∙ ap arguments_of (sym c.as_slice.ensures)) none in
    let q = value_at r c.args.place.now in
    let same : run ≡ one q = laws.value_alone (ty r.kind.now) r.variable (poly r.value.now) Γ Δ x ps c.requires.fits.0 alone c.if-item-replacement.false in
    let a = c.multiply_by_raised.new.so_far in
    done_so c.multiply_by_raised.result (ComesTo (product_with p (one q)) (grown a) × HasRoom a) (ComesTo (product_with p run) (grown a) × HasRoom a)
    (λ h. (subst (λ run. ComesTo (product_with p run) (grown a)) (sym same) h.0, h.1)) c.multiply_by_raised.ensures.ok

pub multiply_by_factor-returns-clause-fault : goal.multiply_by_factor-returns-clause-fault
multiply_by_factor-returns-clause-fault t c =
    let r = c.args.replacement.now in
    let H = head_of r in
    let Γ = scope_of c.args.place.now.inner in
    let Δ = scope_of c.args.place.now.outer in
    let x = (out-Atom c.args.item.now).head in
    let ps = polys (out-Atom c.args.item.now).args in
    let run = replace_factor H r.variable Γ x ps in
    let p = grown c.args.so_far.now in
    let none : length c.as_slice.result.now ≤ 0 = search rules in
    let alone = laws.alone_is ps c.as_slice.result.now (polys_is (out-Atom c.args.item.now).args ∙ ap arguments_of (sym c.as_slice.ensures)) none in
    let q = value_at r c.args.place.now in
    let same : run ≡ one q = laws.value_alone (ty r.kind.now) r.variable (poly r.value.now) Γ Δ x ps c.requires.fits.0 alone c.if-item-replacement.false in
    because_so c.multiply_by_raised.result (PassesLimit (product_with p (one q))) (PassesLimit (product_with p run))
    (λ e h. subst (λ run. PassesLimit (product_with p run) e) (sym same) h) c.multiply_by_raised.ensures.fault

pub replace_factor-unreachable-requires : goal.replace_factor-unreachable-requires
replace_factor-unreachable-requires t c =
    not_past (scope_of c.args.place.now.inner) (out-Atom c.args.item.now).head c.in_default.field-0 (polys (out-Atom c.args.item.now).args) c.in_default.ensures c.requires.normal

pub replace_factor-replace_arguments-requires : goal.replace_factor-replace_arguments-requires
replace_factor-replace_arguments-requires t c =
    let r = c.args.replacement.now in
    let Γ = scope_of c.args.place.now.inner in
    let x = (out-Atom c.args.item.now).head in
    let ps = polys (out-Atom c.args.item.now).args in
    let B = ty c.in-Ok.kind.now in
    let shorter = laws.passed_shorter (ty r.kind.now) r.variable (poly r.value.now) Γ (scope_of c.args.place.now.outer) c.requires.fits.0 x ps B c.in-Ok.ensures in
    (omega (arith, shorter), (c.requires.fits, (one_type Γ x ps B c.in-Ok.ensures).0 c.requires.normal))

pub replace_factor-returns-in_err-args-clause-fault : goal.replace_factor-returns-in_err-args-clause-fault
replace_factor-returns-in_err-args-clause-fault t c =
    let r = c.args.replacement.now in
    let H = head_of r in
    let Γ = scope_of c.args.place.now.inner in
    let x = (out-Atom c.args.item.now).head in
    let ps = polys (out-Atom c.args.item.now).args in
    let B = ty c.in-Ok.kind.now in
    passed_on c.replace_arguments.result c.from_residual.result c.in_err-args.field-0.0 (PassesLimit (replace_arguments H r.variable Γ B ps)) (PassesLimit (replace_factor H r.variable Γ x ps))
    c.from_residual.ensures.1 c.in_err-args.ensures.fault
    (laws.passed_fault (ty r.kind.now) r.variable (poly r.value.now) Γ (scope_of c.args.place.now.outer) c.requires.fits.0 x ps B c.in-Ok.ensures)

pub replace_factor-applied-requires : goal.replace_factor-applied-requires
replace_factor-applied-requires t c =
    let r = c.args.replacement.now in
    let Γ = scope_of c.args.place.now.inner in
    let Δ = scope_of c.args.place.now.outer in
    let A = ty r.kind.now in
    let g = poly r.value.now in
    let x = (out-Atom c.args.item.now).head in
    let ps = polys (out-Atom c.args.item.now).args in
    let B = ty c.in-Ok.kind.now in
    let counts = laws.place_counts A r.variable c.args.place.now.count g Γ Δ c.requires.fits.0 c.requires.fits.1 in
    let value = c.in_ok-value.ensures ∙ moved_by r.variable (c.args.place.now.count - 1 - r.variable) Δ g (let n = counts.0 in let m = counts.1 in omega (arith, n, m)) in
    let shorter = laws.applied_shorter A r.variable g Γ Δ c.requires.fits.0 x ps B c.in-Ok.ensures c.if-item-replacement.true (polys c.in_ok-args.args) (poly c.in_ok-value.value) c.in_ok-args.ensures.ok.0 value in (
      omega (arith, shorter),
      (
        (let n = counts.0 in omega (arith, n)),
        (
          laws.moved_normal A r.variable g Γ Δ c.requires.fits.0 x ps B c.in-Ok.ensures (poly c.in_ok-value.value) value,
          laws.passed_normal A r.variable g Γ Δ c.requires.fits.0 x ps B c.in-Ok.ensures c.if-item-replacement.true ((one_type Γ x ps B c.in-Ok.ensures).0 c.requires.normal) (polys c.in_ok-args.args) c.in_ok-args.ensures.ok.0,
        ),
      ),
    )

pub replace_factor-returns-then-item-replacement-clause-ok : goal.replace_factor-returns-then-item-replacement-clause-ok
replace_factor-returns-then-item-replacement-clause-ok t c =
    let r = c.args.replacement.now in
    let Γ = scope_of c.args.place.now.inner in
    let Δ = scope_of c.args.place.now.outer in
    let A = ty r.kind.now in
    let g = poly r.value.now in
    let x = (out-Atom c.args.item.now).head in
    let ps = polys (out-Atom c.args.item.now).args in
    let B = ty c.in-Ok.kind.now in
    let counts = laws.place_counts A r.variable c.args.place.now.count g Γ Δ c.requires.fits.0 c.requires.fits.1 in
    let value = c.in_ok-value.ensures ∙ moved_by r.variable (c.args.place.now.count - 1 - r.variable) Δ g (let n = counts.0 in let m = counts.1 in omega (arith, n, m)) in
    ok_so c.applied.result (λ q. ComesTo (applied A Δ (poly c.in_ok-value.value) (polys c.in_ok-args.args)) (poly q)) (λ q. ComesTo (replace_factor (head_of r) r.variable Γ x ps) (poly q))
    (λ q h. laws.applied_comes A r.variable g Γ Δ c.requires.fits.0 x ps B c.in-Ok.ensures c.if-item-replacement.true (polys c.in_ok-args.args) (poly c.in_ok-value.value) c.in_ok-args.ensures.ok.0 value
    (poly q) c.in_ok-args.ensures.ok.1 h) c.applied.ensures.ok

pub replace_factor-returns-then-item-replacement-clause-fault : goal.replace_factor-returns-then-item-replacement-clause-fault
replace_factor-returns-then-item-replacement-clause-fault t c =
    let r = c.args.replacement.now in
    let Γ = scope_of c.args.place.now.inner in
    let Δ = scope_of c.args.place.now.outer in
    let A = ty r.kind.now in
    let g = poly r.value.now in
    let x = (out-Atom c.args.item.now).head in
    let ps = polys (out-Atom c.args.item.now).args in
    let B = ty c.in-Ok.kind.now in
    let counts = laws.place_counts A r.variable c.args.place.now.count g Γ Δ c.requires.fits.0 c.requires.fits.1 in
    let value = c.in_ok-value.ensures ∙ moved_by r.variable (c.args.place.now.count - 1 - r.variable) Δ g (let n = counts.0 in let m = counts.1 in omega (arith, n, m)) in
    because_so c.applied.result (PassesLimit (applied A Δ (poly c.in_ok-value.value) (polys c.in_ok-args.args))) (PassesLimit (replace_factor (head_of r) r.variable Γ x ps))
    (laws.applied_fault A r.variable g Γ Δ c.requires.fits.0 x ps B c.in-Ok.ensures c.if-item-replacement.true (polys c.in_ok-args.args) (poly c.in_ok-value.value) c.in_ok-args.ensures.ok.0 value)
    c.applied.ensures.fault

pub replace_factor-returns-clause-ok : goal.replace_factor-returns-clause-ok
replace_factor-returns-clause-ok t c =
    let r = c.args.replacement.now in
    let Γ = scope_of c.args.place.now.inner in
    let A = ty r.kind.now in
    let g = poly r.value.now in
    let x = (out-Atom c.args.item.now).head in
    let ps = polys (out-Atom c.args.item.now).args in
    let B = ty c.in-Ok.kind.now in
    let p = poly c.in_ok-one_factor.field-0 in
    let made : p ≡ atom (down r.variable x) (polys c.in_ok-args.args) = c.in_ok-one_factor.ensures ∙ ap (λ y. atom y (polys c.in_ok-args.args)) c.lowered-head.ensures in
    ok_so c.tested.result (λ q. (poly q ≡ p) × (Exceeds (poly q) → ⊥)) (λ q. ComesTo (replace_factor (head_of r) r.variable Γ x ps) (poly q))
    (λ q h. laws.atom_comes A r.variable g Γ (scope_of c.args.place.now.outer) c.requires.fits.0 x ps B c.in-Ok.ensures c.if-item-replacement.false (polys c.in_ok-args.args) p c.in_ok-args.ensures.ok.0 made
    (poly q) c.in_ok-args.ensures.ok.1 h) c.tested.ensures.ok

pub replace_factor-returns-clause-fault : goal.replace_factor-returns-clause-fault
replace_factor-returns-clause-fault t c =
    let r = c.args.replacement.now in
    let Γ = scope_of c.args.place.now.inner in
    let A = ty r.kind.now in
    let g = poly r.value.now in
    let x = (out-Atom c.args.item.now).head in
    let ps = polys (out-Atom c.args.item.now).args in
    let B = ty c.in-Ok.kind.now in
    let p = poly c.in_ok-one_factor.field-0 in
    let made : p ≡ atom (down r.variable x) (polys c.in_ok-args.args) = c.in_ok-one_factor.ensures ∙ ap (λ y. atom y (polys c.in_ok-args.args)) c.lowered-head.ensures in
    because_so c.tested.result (λ e. ExceedsAs e p) (PassesLimit (replace_factor (head_of r) r.variable Γ x ps))
    (laws.atom_fault A r.variable g Γ (scope_of c.args.place.now.outer) c.requires.fits.0 x ps B c.in-Ok.ensures c.if-item-replacement.false (polys c.in_ok-args.args) p c.in_ok-args.ensures.ok.0 made)
    c.tested.ensures.fault

pub replace_arguments-loop-item-init : goal.replace_arguments-loop-item-init
replace_arguments-loop-item-init t c =
    laws.passing_starts (head_of c.args.replacement.now) c.args.replacement.now.variable (scope_of c.args.place.now.inner) (ty c.args.kind.now) c.as_slice-item-items.result.now (list c.new-out.result) c.new-out.ensures
    (subst (NormalArguments (scope_of c.args.place.now.inner) (ty c.args.kind.now)) (polys_is c.args.ps.now ∙ ap arguments_of (sym c.as_slice-item-items.ensures)) c.requires.normal)

pub replace_arguments-replace-requires : goal.replace_arguments-replace-requires
replace_arguments-replace-requires t c =
    let r = c.args.replacement.now in
    let H = head_of r in
    let v = r.variable in
    let Γ = scope_of c.args.place.now.inner in
    let Δ = scope_of c.args.place.now.outer in
    let A = ty c.args.kind.now in
    let ps = c.as_slice-item-items.result.now in
    let K = ty c.loop-item.here.now in
    let B = ty c.in-Arrow.first.value in
    let D = ty c.deref.result.now in
    let first : D ≡ B = ap ty c.deref.ensures in
    let same : polys c.args.ps.now ≡ arguments_of ps = polys_is c.args.ps.now ∙ ap arguments_of (sym c.as_slice-item-items.ensures) in
    let split : K ≡ (B ⇒ ty c.in-Arrow.rest.value) = ap ty c.in-Arrow.is in
    let shorter = laws.argument_shorter H v Γ A ps (list c.loop-item.out) K B (ty c.in-Arrow.rest.value) c.loop-item.item-index c.item-item.result c.loop-item.invariant c.loop-item-test.true c.item-item.is split in
    let here = ap (λ B. length (replace H v (Γ ++ arguments B) zero_poly (poly c.item-item.result)).values) first in
    let whole = ap (λ ps. length (replace_arguments H v Γ A ps).values) same in
    let arity = ap (λ T. length (arguments T)) (ap ty c.deref-in-loop-item-2.ensures ∙ sym first) in
    let wide = laws.wider (ty r.kind.now) v (poly r.value.now) Γ Δ (arguments D) c.requires.fits.0 in (
      omega (arith, shorter, whole, here),
      (
        (
          subst (λ E. Replaces (ty r.kind.now) v (poly r.value.now) (Γ ++ arguments D) (Δ ++ arguments E)) (ap ty c.deref.ensures ∙ sym (ap ty c.deref-in-loop-item.ensures)) wide,
          c.in_ok-with_arguments.ensures ∙ (let l = length-append Γ (arguments D) in let n = c.requires.fits.1 in omega (arith, l, n, arity)),
        ),
        subst (λ B. Normal (Γ ++ arguments B) (poly c.item-item.result)) (sym first)
            (laws.argument_is_normal H v Γ A ps (list c.loop-item.out) K B (ty c.in-Arrow.rest.value) c.loop-item.item-index c.item-item.result c.loop-item.invariant c.loop-item-test.true c.item-item.is split),
      ),
    )

pub replace_arguments-returns-in_err-replace-clause-fault : goal.replace_arguments-returns-in_err-replace-clause-fault
replace_arguments-returns-in_err-replace-clause-fault t c =
    let H = head_of c.args.replacement.now in
    let v = c.args.replacement.now.variable in
    let Γ = scope_of c.args.place.now.inner in
    let A = ty c.args.kind.now in
    let ps = c.as_slice-item-items.result.now in
    let B = ty c.in-Arrow.first.value in
    let D = ty c.deref.result.now in
    let same : polys c.args.ps.now ≡ arguments_of ps = polys_is c.args.ps.now ∙ ap arguments_of (sym c.as_slice-item-items.ensures) in
    passed_on c.replace.result c.from_residual-in_err-replace.result c.in_err-replace.field-0.0 (PassesLimit (replace H v (Γ ++ arguments D) zero_poly (poly c.item-item.result)))
    (PassesLimit (replace_arguments H v Γ A (polys c.args.ps.now))) c.from_residual-in_err-replace.ensures.1 c.in_err-replace.ensures.fault
    (λ e f. subst (λ ps. PassesLimit (replace_arguments H v Γ A ps) e) (sym same)
    (laws.argument_fault H v Γ A ps (list c.loop-item.out) (ty c.loop-item.here.now) B (ty c.in-Arrow.rest.value) c.loop-item.item-index c.item-item.result c.loop-item.invariant c.loop-item-test.true c.item-item.is
    (ap ty c.in-Arrow.is) e (subst (λ B. PassesLimit (replace H v (Γ ++ arguments B) zero_poly (poly c.item-item.result)) e) (ap ty c.deref.ensures) f)))

pub replace_arguments-loop-item-preserved : goal.replace_arguments-loop-item-preserved
replace_arguments-loop-item-preserved t c =
    let H = head_of c.args.replacement.now in
    let v = c.args.replacement.now.variable in
    let Γ = scope_of c.args.place.now.inner in
    laws.passing_steps H v Γ (ty c.args.kind.now) c.as_slice-item-items.result.now (list c.loop-item.out) (ty c.loop-item.here.now) (ty c.in-Arrow.first.value) (ty c.in-Arrow.rest.value)
    c.loop-item.item-index c.item-item.result c.loop-item.invariant c.loop-item-test.true c.item-item.is (ap ty c.in-Arrow.is) (list c.push.new.self) c.in_ok-replace.field-0 (ty c.deref-here.result.now)
    (subst (λ B. ComesTo (replace H v (Γ ++ arguments B) zero_poly (poly c.item-item.result)) (poly c.in_ok-replace.field-0)) (ap ty c.deref.ensures) c.in_ok-replace.ensures.ok)
    c.in_ok-push.ensures.ok (ap ty c.deref-here.ensures)

pub replace_arguments-returns-clause-ok : goal.replace_arguments-returns-clause-ok
replace_arguments-returns-clause-ok t c =
    let H = head_of c.args.replacement.now in
    let v = c.args.replacement.now.variable in
    let Γ = scope_of c.args.place.now.inner in
    let A = ty c.args.kind.now in
    let ps = c.as_slice-item-items.result.now in
    let same : polys c.args.ps.now ≡ arguments_of ps = polys_is c.args.ps.now ∙ ap arguments_of (sym c.as_slice-item-items.ensures) in
    let end = laws.passing_ends H v Γ A ps (list c.loop-item.out) (ty c.loop-item.here.now) c.loop-item.item-index c.loop-item.invariant c.loop-item-test.false in
    subst (λ ps. ComesToArguments (replace_arguments H v Γ A ps) (polys c.loop-item.out)) (sym same) (polys_is c.loop-item.out ∙ end.0, end.1)
