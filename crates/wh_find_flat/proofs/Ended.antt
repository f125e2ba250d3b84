-- What the search by a circuit ends with.
use Rattle.std.proofs.Common.{◌≡◌, ℕ, ◌<◌, ◌≤◌, inl, Bool, true, Option, Some, None, List, map, length, All, refl, sym, subst, ◌∙◌, arith}
use Rattle.std.proofs.lemmas.List.{length-map}
use Rattle.std.proofs.lemmas.List.Elements.{All-contains}
use Rattle.std.specs.Global.{Vec}
use Rattle.wh_pairs.specs.PairData.{PairData, IsIncreasing, pair_data}
use Rattle.wh_pairs.specs.declared.pair.Pair.{Pair}
use Rattle.wh_pairs.proofs.SetLemmas.{all_from_members}
use Rattle.wh_pairs.specs.Marked.{AreMarked}
use Rattle.wh_system.specs.SystemView.{system_data}
use Rattle.wh_system.specs.Systems.{SystemData}
use Rattle.wh_system.specs.WellMade.{IsWellMadeSystem}
use Rattle.wh_reduction_pairs.specs.TaskData.{TaskData, IsTask, task_over}
use Rattle.wh_reduction_pairs.specs.TaskView.{task_data}
use Rattle.wh_reduction_pairs.specs.declared.task.Task.{Task}
use Rattle.wh_polycheck.specs.Covering.{IsTypedTask}
use Rattle.wh_polycheck.specs.Readings.{ReadingsData}
use Rattle.wh_poly_covering.proofs.Walks.{marks_are}
use Rattle.wh_usable.specs.Closed.{IsUsable}
use Rattle.wh_usable.proofs.Whole.{all_in_order}
use Rattle.wh_proof.specs.Looked.{poly_task}
use Rattle.wh_sat_trail.specs.declared.literal.Literal.{Literal}
use Rattle.wh_sat_trail.specs.Propagation.{Within}
use Rattle.wh_sat.specs.Solving.{Solves}
use Rattle.wh_circuit.specs.Gates.{Agrees, Ordered}
use Rattle.wh_circuit.specs.Values.{all_true}
use Rattle.wh_circuit.specs.State.{gates_of, required_of}
use Rattle.wh_circuit.specs.declared.circuit.Circuit.{Circuit}
use Rattle.wh_poly_space.specs.Space.{space_of}
use Rattle.wh_poly_guesses.specs.Coefficients.{scopes_of, HaveCoefficients}
use Rattle.wh_poly_guesses.specs.Conditions.{Fails, LetsGo}
use Rattle.wh_poly_guesses.specs.Tasks.{IsGuessOf, guess_data}
use Rattle.wh_poly_guesses.specs.declared.guess.Guess.{Guess}
use Rattle.wh_poly_guesses.proofs.GuessLemmas.{guess_of_space}
use Rattle.wh_poly_blocking.specs.Sizes.{bits_in, lists_of, value_of}
use Rattle.wh_poly_blocking.specs.Tried.{AreWritten}
use Rattle.wh_poly_blocking.proofs.EncodingLemmas.{lists_are}
use Rattle.wh_poly_flat.specs.Flat.{IsFlat, all_occurrences}
use Rattle.wh_find_flat.specs.Ready.{IsFlatCircuit}
use Rattle.wh_find_flat.specs.Answers.{IsClosedList, IsFlatFormula, most_variables}
use Rattle.wh_find_flat.proofs.Formulas.{flat_formula}

-- the rules of the list, or all rules, are closed for the set
pub usable_is : (d : SystemData) (pairs : List PairData) (set : List ℕ) (usable : Option (List ℕ)) → IsClosedList d pairs set usable
    → IsUsable (poly_task d pairs set usable)
usable_is d pairs set None closed =
    let order = all_in_order (length d.rules) in record { increasing = order.0; are_rules = order.1; closed = inl refl }
usable_is d pairs set (Some listed) closed = closed

-- what holds of the set holds of the task that is made of it
pub of_task : (P : TaskData → Type 0) (d : SystemData) (ps qs : List Pair) (set numbers rules covered : List ℕ) → ps ≡ qs → set ≡ numbers → rules ≡ covered
    → P (task_over d.symbols d.rules (map pair_data qs) numbers covered) → P (task_over d.symbols d.rules (map pair_data ps) set rules)
of_task P d ps qs set numbers rules covered p s r h =
    subst (λ (l : List Pair). P (task_over d.symbols d.rules (map pair_data l) set rules)) (sym p)
    (subst (λ (l : List ℕ). P (task_over d.symbols d.rules (map pair_data qs) l rules)) (sym s)
    (subst (λ (l : List ℕ). P (task_over d.symbols d.rules (map pair_data qs) numbers l)) (sym r) h))

-- the task of the set, without the types of its sides
pub plain_task : (d : SystemData) (pairs : List Pair) (set covered : List ℕ) → All (λ n. n < length pairs) set → IsIncreasing set
    → All (λ n. n < length d.rules) covered → IsTask (task_over d.symbols d.rules (map pair_data pairs) set covered)
plain_task d pairs set covered within up are_rules = record {
  within = all_from_members (λ n. n < length (map pair_data pairs)) set (λ n found.
      let h = All-contains (λ n. n < length pairs) set n within found in omega (arith, h, length-map pairs pair_data));
  increasing = up;
  are_rules = are_rules;
}

module _ (t : Task) (marked sizes : List ℕ) (sized : sizes ≡ map (λ Γ. length (space_of Γ)) (scopes_of (task_data t) marked)) where
  abbrev d : SystemData
  d = system_data t.system.now

  abbrev ps : List PairData
  ps = (task_data t).pairs

  abbrev T : TaskData
  T = task_data t

  -- the formula of the circuit
  pub formula_is : (circuit : Circuit) (variables : ℕ) (clauses : List (List Literal)) → IsWellMadeSystem d → IsTypedTask T → IsFlat T
      → AreMarked ps t.set.now marked → IsFlatCircuit sizes T marked (bits_in sizes) circuit
      → length (gates_of circuit) ≤ most_variables t.covered.now (all_occurrences T) → variables ≡ length (gates_of circuit) → Within variables clauses
      → Ordered (gates_of circuit)
      → ((v : ℕ → Bool) → Solves v clauses → Agrees (gates_of circuit) v × (all_true v (required_of circuit) ≡ true))
      → ((v : ℕ → Bool) → Agrees (gates_of circuit) v → all_true v (required_of circuit) ≡ true → Solves v clauses)
      → IsFlatFormula T marked variables clauses
  formula_is circuit variables clauses made typed flat are is few count within ordered sound complete =
      flat_formula d ps t.set.now t.covered.now marked made typed.typed flat are sizes sized circuit is variables clauses ordered sound complete
      (omega (arith, few, count)) within

  -- no condition fails under what the bits write, where that lets a pair go
  pub never_fails : (values : List Bool) (lists : List (Vec ℕ)) (g : Guess) (k : ℕ)
      → ((R : ReadingsData) → AreWritten (task_data t) marked (value_of values) R → LetsGo (task_data t) R)
      → map (λ l. l.items) lists ≡ lists_of (value_of values) 0 sizes → IsGuessOf t g → map (λ m. m.symbol) g.marks.items ≡ marked
      → HaveCoefficients (task_data t) (map (λ l. l.items) lists) (guess_data g) → Fails (task_data t) (guess_data g) k → ⊥
  never_fails values lists g k go by guess marks has (c, is, fails) =
      fails (go (guess_data g) record {
        kinds = (guess_of_space t g guess).readings.kinds;
        marked_are = marks_are g.marks.items ∙ marks;
        coefficients = subst (λ l. HaveCoefficients (task_data t) l (guess_data g))
            (lists_are (scopes_of (task_data t) marked) sizes (value_of values) (map (λ l. l.items) lists) sized by) has;
      } k c is)
