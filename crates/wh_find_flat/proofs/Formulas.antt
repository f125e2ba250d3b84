-- The formula of the circuit of a flat set: its models write just the interpretations that let a pair go.
use Rattle.std.proofs.Common.{◌≡◌, ℕ, zero, suc, ◌+◌, ◌*◌, ◌<◌, ◌≤◌, Bool, true, if◌then◌else◌, List, [], ◌∷◌, map, length, refl, ap, ap₂, sym, subst, ◌∙◌, arith}
use Rattle.wh_system.specs.Systems.{SystemData}
use Rattle.wh_system.specs.WellMade.{IsWellMadeSystem}
use Rattle.wh_pairs.specs.PairData.{PairData}
use Rattle.wh_pairs.specs.Marked.{AreMarked}
use Rattle.wh_reduction_pairs.specs.TaskData.{TaskData}
use Rattle.wh_polycheck.specs.Readings.{ReadingsData, AreReadingsFor}
use Rattle.wh_polycheck.specs.Covering.{HaveTypedSides}
use Rattle.wh_polycheck.specs.Marks.{Mark}
use Rattle.wh_proof.proofs.InterpretationLemmas.{marked_one}
use Rattle.wh_sat_trail.specs.declared.literal.Literal.{Literal}
use Rattle.wh_sat_trail.specs.Propagation.{Within}
use Rattle.wh_sat.specs.Solving.{Solves}
use Rattle.wh_circuit.specs.Gates.{Agrees, Ordered}
use Rattle.wh_circuit.specs.Values.{all_true}
use Rattle.wh_circuit.specs.State.{gates_of, required_of}
use Rattle.wh_circuit.specs.declared.circuit.Circuit.{Circuit}
use Rattle.wh_circuit.proofs.Carrying.{values_exist_law}
use Rattle.wh_poly_space.specs.Space.{space_of}
use Rattle.wh_poly_guesses.specs.Coefficients.{scopes_of, AreOfSpace, HaveCoefficients}
use Rattle.wh_poly_guesses.specs.Conditions.{LetsGo}
use Rattle.wh_poly_blocking.specs.Bits.{digits, lists_by}
use Rattle.wh_poly_blocking.specs.Sizes.{bits_in, lists_of}
use Rattle.wh_poly_blocking.specs.Tried.{AreWritten}
use Rattle.wh_poly_blocking.proofs.EncodingLemmas.{lists_same}
use Rattle.wh_poly_blocking.proofs.Written.{written}
use Rattle.wh_poly_flat.specs.Flat.{IsFlat, all_occurrences, task_for}
use Rattle.wh_poly_flat.specs.Dominance.{LetsGoBy}
use Rattle.wh_poly_flat.proofs.Law.{lets_go_if, lets_go_by}
use Rattle.wh_find_flat.specs.Lists.{lists_for}
use Rattle.wh_find_flat.specs.Ready.{IsFlatCircuit}
use Rattle.wh_find_flat.specs.Answers.{IsFlatFormula, most_variables}

-- bits that agree write the same coefficients

digits_alike : (v w : ℕ → Bool) (x k : ℕ) → ((y : ℕ) → y < 2 * k → v (x + y) ≡ w (x + y)) → digits v x k ≡ digits w x k
digits_alike v w x zero same = refl
digits_alike v w x (suc k) same =
    let e : x + 0 ≡ x = omega arith in
    let f : x + 1 ≡ suc x = omega arith in
    let low : v x ≡ w x = subst (λ x. v x ≡ w x) e (same 0 (omega arith)) in
    let high : v (suc x) ≡ w (suc x) = subst (λ x. v x ≡ w x) f (same 1 (omega arith)) in
    let rest : digits v (2 + x) k ≡ digits w (2 + x) k = digits_alike v w (2 + x) k (λ y below.
    let h : x + suc (suc y) ≡ (2 + x) + y = omega arith in
    subst (λ x. v x ≡ w x) h (same (suc (suc y)) (omega (arith, below)))) in
    ap₂ (λ c cs. c ∷ cs) (ap₂ (λ a b. (if a then 1 else 0) + (if b then 2 else 0)) low high) rest

lists_alike : (v w : ℕ → Bool) (x : ℕ) (sizes : List ℕ) → ((y : ℕ) → y < bits_in sizes → v (x + y) ≡ w (x + y)) → lists_of v x sizes ≡ lists_of w x sizes
lists_alike v w x [] same = refl
lists_alike v w x (k ∷ sizes) same = ap₂ (λ c cs. c ∷ cs) (digits_alike v w x k (λ y below. same y (omega (arith, below))))
    (lists_alike v w (2 * k + x) sizes (λ y below.
    let e : x + (2 * k + y) ≡ (2 * k + x) + y = omega arith in
    subst (λ z. v z ≡ w z) e (same (2 * k + y) (omega (arith, below)))))

module _ (d : SystemData) (pairs : List PairData) (set covered marked : List ℕ) (made : IsWellMadeSystem d)
    (typed : HaveTypedSides d.symbols d.rules pairs) (flat : IsFlat (task_for d pairs set covered)) (are : AreMarked pairs set marked) (sizes : List ℕ)
    (sized : sizes ≡ map (λ Γ. length (space_of Γ)) (scopes_of (task_for d pairs set covered) marked)) where
  abbrev T : TaskData
  T = task_for d pairs set covered

  -- the coefficients that bits write
  lists_are : (v : ℕ → Bool) → lists_for sizes v ≡ lists_by v (scopes_of T marked)
  lists_are v = ap (lists_of v 0) sized ∙ lists_same v 0 (scopes_of T marked)

  module _ (v : ℕ → Bool) (R : ReadingsData) (by : AreWritten T marked v R) where
    coefficients : HaveCoefficients T (lists_for sizes v) R
    coefficients = subst (λ l. HaveCoefficients T l R) (sym (lists_are v)) by.coefficients

    readings : AreReadingsFor T R
    readings = record { kinds = by.kinds; marked = subst (AreMarked pairs set) (sym by.marked_are) are }

    go_if : LetsGoBy T marked (lists_for sizes v) → LetsGo T R
    go_if h = lets_go_if d pairs set covered (lists_for sizes v) R made typed flat readings coefficients
        (subst (λ ns. LetsGoBy T ns (lists_for sizes v)) (sym by.marked_are) h)

    go_by : LetsGo T R → LetsGoBy T marked (lists_for sizes v)
    go_by h = subst (λ ns. LetsGoBy T ns (lists_for sizes v)) by.marked_are
        (lets_go_by d pairs set covered (lists_for sizes v) R made typed flat readings coefficients h)

  module _ (circuit : Circuit) (is : IsFlatCircuit sizes T marked (bits_in sizes) circuit) (variables : ℕ) (clauses : List (List Literal))
      (ordered : Ordered (gates_of circuit))
      (sound : (v : ℕ → Bool) → Solves v clauses → Agrees (gates_of circuit) v × (all_true v (required_of circuit) ≡ true))
      (complete : (v : ℕ → Bool) → Agrees (gates_of circuit) v → all_true v (required_of circuit) ≡ true → Solves v clauses) where
    all_written : (R : ReadingsData) → AreOfSpace T R → LetsGo T R → (v : ℕ → Bool) × Solves v clauses × AreWritten T marked v R
    all_written R space go =
        let one : map (λ m. m.symbol) R.marks ≡ marked =
        marked_one pairs set (map (λ (m : Mark). m.symbol) R.marks) marked space.readings.marked are in
        let (w, first) = written T R space in
        let by : AreWritten T marked w R = subst (λ ns. AreWritten T ns w R) one first in
        let (v, carries) = values_exist_law (gates_of circuit) w ordered in
        let alike : lists_for sizes v ≡ lists_for sizes w = lists_alike v w 0 sizes (λ y below.
        let (g, at, input) = is.inputs y below in
        let e : y ≡ 0 + y = omega arith in
        subst (λ x. v x ≡ w x) e (carries.inputs y g at input)) in
        let told = go_by w R by go in
        let true_there = is.asks v carries.agrees (subst (LetsGoBy T marked) (sym alike) told) in
        let lists : lists_by w (scopes_of T marked) ≡ lists_by v (scopes_of T marked) = sym (lists_are w) ∙ sym alike ∙ lists_are v in (
          v,
          complete v carries.agrees true_there,
          record {
            kinds = by.kinds;
            marked_are = by.marked_are;
            coefficients = subst (λ l. HaveCoefficients T l R) lists by.coefficients;
          },
        )

    pub flat_formula : variables ≤ most_variables T.covered (all_occurrences T) → Within variables clauses → IsFlatFormula T marked variables clauses
    flat_formula few within = record {
      few = few;
      within = within;
      models = λ v solves R by. (let (agrees, met) = sound v solves in go_if v R by (is.met v agrees met));
      all = all_written;
    }
