-- The node of readings under which all lines are found.
use Rattle.std.proofs.Common.{◌≡◌, ◌≢◌, ℕ, ◌+◌, Result, IfOk, ap, sym, subst, ◌<◌, ◌≤◌, ◌^◌, inl, inr, true, false, Option, Some, None, List, [], length, map, All, Contains, refl, arith}
use Rattle.std.specs.declared.alloc.AllocError.{AllocError}
use Rattle.std.proofs.lemmas.List.{length-map}
use Rattle.std.proofs.lemmas.List.Elements.{All-contains}
use Rattle.std.proofs.lemmas.Option.{slice_get_within}
use Rattle.wh_system.specs.Systems.{SystemData}
use Rattle.wh_system.specs.SystemView.{system_data}
use Rattle.wh_system.specs.WellMade.{IsWellMadeSystem}
use Rattle.wh_pairs.specs.PairData.{PairData, IsIncreasing}
use Rattle.wh_pairs.specs.Drops.{IsBadDrop}
use Rattle.wh_pairs.proofs.Increasing.{one_place}
use Rattle.wh_pairs.proofs.ByPlace.{contains_at, place_of, unmap, remap}
use Rattle.wh_pairs.proofs.SetLemmas.{all_from_members}
use Rattle.wh_reduction_pairs.specs.TaskData.{TaskData, IsTask, CoversAll, task_over}
use Rattle.wh_reduction_pairs.specs.TaskView.{task_data}
use Rattle.wh_reduction_pairs.specs.ReductionPair.{Evidence, IsRightRule, IsRightPair}
use Rattle.wh_reduction_pairs.specs.declared.task.Task.{Task}
use Rattle.wh_poly.specs.Polynomials.{Polynomial}
use Rattle.wh_hopoly.specs.Evaluation.{Run}
use Rattle.wh_hopoly.specs.Erase.{transfers}
use Rattle.wh_hopoly.specs.Moves.{Transfer}
use Rattle.wh_hopoly.specs.declared.expression.Move.{Move}
use Rattle.wh_polycheck.specs.Marks.{Mark}
use Rattle.wh_polycheck.specs.Readings.{ReadingsData}
use Rattle.wh_polycheck.specs.Covering.{rule_run, pair_run}
use Rattle.wh_polycheck.specs.Small.{with_limits}
use Rattle.wh_poly_covering.specs.CoveringFaults.{IsReady, right_lines}
use Rattle.wh_poly_covering.proofs.Walks.{some_at}
use Rattle.wh_poly_covering.proofs.CoverWalk.{covering_holds, small_holds}
use Rattle.wh_cert.specs.TermLimits.{IsSmall}
use Rattle.wh_cert.specs.Written as w
use Rattle.wh_cert.specs.Interps.{Interp}
use Rattle.wh_cert.specs.Limits.{NodeFits, NodeWithin, MoveFits, UsableFits, UsableWithin, IsOfVersion}
use Rattle.wh_usable.specs.Closed.{AreRulesInOrder, IsUsable}
use Rattle.wh_usable.proofs.Whole.{all_in_order}
use Rattle.wh_proof.specs.Looked.{SayInterpretations, SayMarks, covered_rules, moves_of, poly_task}
use Rattle.wh_poly_moves.specs.Found.{AreApart}
use Rattle.wh_poly_guesses.specs.Coefficients.{AreOfSpace}
use Rattle.wh_poly_guesses.specs.Conditions.{covers_rule, covers_pair, some_strictly, of_rule, of_pair, of_set, IsMet, Fails}
use Rattle.wh_poly_guesses.specs.Lines.{IsLine, IsStrictLine, IsFailingRule, IsFailingPair, AreRuleLines, ArePairLines}
use Rattle.wh_poly_guesses.specs.Weighing.{AreRulesOf, WeighsOver}
use Rattle.wh_poly_guesses.specs.declared.node.Weighing.{Weighing}
use Rattle.wh_poly_guesses.specs.Found.{task_of, IsInterpretationOver, version_with}
use Rattle.wh_poly_guesses.proofs.IncreasingLemmas.{few_increasing}
use Rattle.wh_poly_guesses.proofs.GuessLemmas.{space_normal}
use Rattle.wh_poly_guesses.proofs.LimitLemmas.{all_narrow, symbols_fit, marks_fit, as_many_symbols, as_many_marks, said_named, moves_fit}
use Rattle.wh_poly_guesses.proofs.LineLemmas.{few_moves}

-- each line is one between some sides

abbrev IsSomeLine : List Transfer → Type 0
IsSomeLine ms = (a : Run Polynomial) × (b : Run Polynomial) × IsLine a b ms

abbrev AreSomeLines : List (List Transfer) → Type 0
AreSomeLines lines = (ms : List Transfer) → Contains lines ms → IsSomeLine ms

all_apart : (lines : List (List Transfer)) → AreSomeLines lines → All AreApart lines
all_apart lines each = all_from_members AreApart lines (λ ms found. let (a, b, line) = each ms found in line.moves.apart)

of_code : (lines : List (List Move)) → AreSomeLines (map transfers lines) → (ms : List Move) → Contains lines ms → IsSomeLine (transfers ms)
of_code lines each ms found =
    let at = place_of lines ms found in each (transfers ms) (contains_at (map transfers lines) at.0 (transfers ms) (remap transfers lines at.0 ms at.1))

all_fit : (lines : List (List Move)) → AreSomeLines (map transfers lines) → All (All MoveFits) lines
all_fit lines each = all_from_members (All MoveFits) lines (λ ms found. let (a, b, line) = of_code lines each ms found in moves_fit a b ms line)

all_few : (lines : List (List Move)) → AreSomeLines (map transfers lines) → All (λ moves. length moves ≤ 2 ^ 32) lines
all_few lines each = all_from_members (λ (moves : List Move). length moves ≤ 2 ^ 32) lines (λ ms found. let (a, b, line) = of_code lines each ms found in few_moves a b ms line)

good_drop : (set drop : List ℕ) → drop ≢ [] → IsIncreasing drop → All (Contains set) drop → IsBadDrop set drop → ⊥
good_drop set drop some up within (inl empty) = some empty
good_drop set drop some up within (inr (inl (n, (i, j, less, at, also)))) = let same = one_place drop i j n up at also in omega (arith, same, less)
good_drop set drop some up within (inr (inr (n, found, stray))) = stray (All-contains (Contains set) drop n within found)

-- there are lines for all, under readings of the space
pub record AreAllLines (T : TaskData) (R : ReadingsData) (rules pairs : List (List Move)) (drop : List ℕ) : Type 0 where
  pub task : IsTask T
  pub of_space : AreOfSpace T R
  pub rule_lines : AreRuleLines T R (map transfers rules)
  pub pair_lines : ArePairLines T R (map transfers pairs) drop

-- where all rules are to be covered, the task is that of its system
pub whole_is : (t : Task) → CoversAll (task_data t) → task_data t ≡ task_of (system_data t.system.now) (task_data t).pairs (task_data t).set
whole_is t whole =
    let T = task_data t in ap (λ (l : List ℕ). task_over T.symbols T.rules T.pairs T.set l) whole

-- so it is of a task with the rules that a node lists
pub listing_is : (t : Task) (usable : Option (List ℕ)) → AreRulesOf t usable
    → task_data t ≡ poly_task (system_data t.system.now) (task_data t).pairs (task_data t).set usable
listing_is t usable are =
    let T = task_data t in ap (λ (l : List ℕ). task_over T.symbols T.rules T.pairs T.set l) are.covers

pub whole_rules : (t : Task) → IsTask (task_data t) → CoversAll (task_data t) → AreRulesOf t None
whole_rules t task whole =
    let T = task_data t in
    record {
      covers = whole;
      closed = record {
        increasing = subst IsIncreasing (sym whole) (all_in_order (length T.rules)).0;
        are_rules = task.are_rules;
        closed = inl whole;
      };
    }

-- lists of rules in nodes

rules_fit : (usable : Option (List ℕ)) (count : ℕ) → count ≤ 1024 → AreRulesInOrder count (covered_rules usable count) → UsableFits usable
rules_fit None count few in_order = tt
rules_fit (Some listed) count few in_order =
    all_from_members IsSmall listed (λ n found. let below = All-contains (λ n. n < count) listed n in_order.1 found in omega (arith, below, few))

rules_few : (usable : Option (List ℕ)) (count : ℕ) → count ≤ 1024 → AreRulesInOrder count (covered_rules usable count) → UsableWithin (2 ^ 32) usable
rules_few None count few in_order = tt
rules_few (Some listed) count few in_order =
    let short = few_increasing listed count in_order.0 (λ n found. All-contains (λ n. n < count) listed n in_order.1 found) in omega (arith, short, few)

version_is : (usable : Option (List ℕ)) (funs marks : List Interp) (rules pairs : List (List Move)) (drop : List ℕ)
    → IsOfVersion (version_with usable) (w.interpretations usable funs marks rules pairs drop)
version_is None funs marks rules pairs drop = refl
version_is (Some listed) funs marks rules pairs drop = refl

module _ (d : SystemData) (ps : List PairData) (set : List ℕ) (usable : Option (List ℕ)) (R : ReadingsData) (funs mark_lines : List Interp)
    (rules pairs : List (List Move)) (drop : List ℕ) (made : IsWellMadeSystem d) (few : length ps ≤ 4096)
    (are : AreAllLines (poly_task d ps set usable) R rules pairs drop) (listed : IsUsable (poly_task d ps set usable)) (some : drop ≢ [])
    (says : SayInterpretations d.fun_names d.symbols.funs funs R.symbols) (says_marks : SayMarks d mark_lines R.marks) where
  abbrev T : TaskData
  T = poly_task d ps set usable

  abbrev E : Evidence (List Transfer)
  E = moves_of rules pairs drop

  in_order : AreRulesInOrder (length d.rules) (covered_rules usable (length d.rules))
  in_order = (listed.increasing, listed.are_rules)

  few_rules : length T.covered ≤ length d.rules
  few_rules = few_increasing T.covered (length d.rules) listed.increasing
      (λ n found. All-contains (λ n. n < length d.rules) T.covered n listed.are_rules found)

  ready : IsReady T R E
  ready = record {
    normal = space_normal T R are.of_space;
    counted = record {
      rule_count = are.rule_lines.count;
      pair_count = are.pair_lines.count;
      good_drop = good_drop set drop some are.pair_lines.increasing are.pair_lines.within;
    };
    closed = listed.closed;
  }

  right_rules : (k : ℕ) → IsRightRule (right_lines with_limits T.symbols T.rules R) T (map transfers rules) k
  right_rules k n r ms place at there =
      let line = are.rule_lines.each k n ms place there r at in (line.left_side.within, line.right_side.within, line.moves.cover)

  right_pairs : (k : ℕ) → IsRightPair (right_lines with_limits T.symbols T.rules R) T (map transfers pairs) drop k
  right_pairs k n p ms true at pair there dropped =
      let (line, strict) = are.pair_lines.each k n ms at there p pair in (line.left_side.within, line.right_side.within, strict.0 dropped)
  right_pairs k n p ms false at pair there dropped =
      let (line, strict) = are.pair_lines.each k n ms at there p pair in (line.left_side.within, line.right_side.within, line.moves.cover)

  some_rules : AreSomeLines (map transfers rules)
  some_rules ms found =
      let at = place_of (map transfers rules) ms found in
      let within = slice_get_within (map transfers rules) at.0 ms at.1 in
      let n = some_at T.covered at.0 (omega (arith, within, are.rule_lines.count)) in
      let r = some_at d.rules n.0 (All-contains (λ n. n < length d.rules) T.covered n.0 are.task.are_rules (contains_at T.covered at.0 n.0 n.1)) in
      (rule_run R r.0 false, rule_run R r.0 true, are.rule_lines.each at.0 n.0 ms n.1 at.1 r.0 r.1)

  some_pairs : AreSomeLines (map transfers pairs)
  some_pairs ms found =
      let at = place_of (map transfers pairs) ms found in
      let within = slice_get_within (map transfers pairs) at.0 ms at.1 in
      let n = some_at set at.0 (omega (arith, within, are.pair_lines.count)) in
      let p = some_at ps n.0 (All-contains (λ n. n < length ps) set n.0 are.task.within (contains_at set at.0 n.0 n.1)) in
      let run = pair_run T.symbols T.rules R p.0 in
      let (line, strict) = are.pair_lines.each at.0 n.0 ms n.1 at.1 p.0 p.1 in (run false, run true, line)

  drop_below : (n : ℕ) → Contains drop n → n < length ps
  drop_below n found = All-contains (λ n. n < length ps) set n are.task.within (All-contains (Contains set) drop n are.pair_lines.within found)

  marks_few : length R.marks ≤ length d.fun_names
  marks_few =
      let numbers = map (λ (m : Mark). m.symbol) R.marks in
      let short = few_increasing numbers (length d.fun_names) are.of_space.readings.marked.in_order (λ f found.
      let at = place_of numbers f found in
      let m = unmap (λ (m : Mark). m.symbol) R.marks at.0 f at.1 in
      let (name, named) = said_named d mark_lines R.marks says_marks m.0 (contains_at R.marks at.0 m.0 m.1) in
      let below = slice_get_within d.fun_names (m.0).symbol name named in omega (arith, below, m.2)) in
      omega (arith, short, length-map R.marks (λ (m : Mark). m.symbol))

  fits : NodeFits (w.interpretations usable funs mark_lines rules pairs drop)
  fits =
      let narrow = all_narrow d.symbols.sorts d.symbols.funs made.symbol_types in (
        rules_fit usable (length d.rules) made.rules_within in_order,
        symbols_fit d.fun_names d.symbols.funs funs R.symbols says made.fun_names_spelled narrow are.of_space.symbols_of_space,
        marks_fit d mark_lines R.marks says_marks made.fun_names_spelled narrow are.of_space.marks_of_space,
        all_fit rules some_rules,
        all_fit pairs some_pairs,
        all_from_members IsSmall drop (λ n found. let below = drop_below n found in omega (arith, below, few)),
      )

  within : NodeWithin (2 ^ 32) (w.interpretations usable funs mark_lines rules pairs drop)
  within =
      let named = made.symbols_named in
      let symbols_few = made.symbols_within in
      let set_few = few_increasing set (length ps) are.task.increasing (λ n found. All-contains (λ n. n < length ps) set n are.task.within found) in
      let drop_few = few_increasing drop (length ps) are.pair_lines.increasing drop_below in (
        rules_few usable (length d.rules) made.rules_within in_order,
        omega (arith, as_many_symbols d.fun_names d.symbols.funs funs R.symbols says, named, symbols_few),
        omega (arith, as_many_marks d mark_lines R.marks says_marks, marks_few, named, symbols_few),
        all_few rules some_rules,
        omega (arith, are.rule_lines.count, few_rules, length-map rules transfers, made.rules_within),
        all_few pairs some_pairs,
        omega (arith, are.pair_lines.count, length-map pairs transfers, set_few, few),
        omega (arith, drop_few, few),
      )

  pub interpretation_found : IsInterpretationOver d ps set usable (w.interpretations usable funs mark_lines rules pairs drop)
  interpretation_found = record {
    readings = R;
    evidence = E;
    says = (refl, (says, says_marks), refl);
    covering = covering_holds T R E with_limits ready right_rules right_pairs are.of_space.readings;
    small = small_holds T R E ready right_rules right_pairs;
    of_space = are.of_space;
    rules_apart = all_apart (map transfers rules) some_rules;
    pairs_apart = all_apart (map transfers pairs) some_pairs;
    increasing = are.pair_lines.increasing;
    all_strict = λ i n p ms at pair there strict. (are.pair_lines.each i n ms at there p pair).1.1 strict;
    version = version_is usable funs mark_lines rules pairs drop;
    fits = fits;
    within = within;
  }

-- the numbers of conditions that fail

module _ (T : TaskData) (R : ReadingsData) where
  pub rule_fails : (k : ℕ) → IsFailingRule T R k → Fails T R k
  rule_fails k (n, r, place, at, never) = (covers_rule r, of_rule k n r place at, never)

  pub pair_fails : (i k : ℕ) → IsFailingPair T R i → k ≡ length T.covered + i → Fails T R k
  pair_fails i k (n, p, place, at, never) is = subst (λ (k : ℕ). Fails T R k) (sym is) (covers_pair p, of_pair i n p place at, never)

  -- a line that is not strict shows that no moves are
  never_strict : (a b : Run Polynomial) (ms : List Transfer) → IsLine a b ms → (IsStrictLine a b ms → ⊥) → IsMet a b true → ⊥
  never_strict a b ms line never met = never (line.moves.strict met.moves met.covers)

  pub set_fails : (lines : List (List Transfer)) (drop : List ℕ) (k : ℕ) → ArePairLines T R lines drop → drop ≡ []
      → k ≡ length T.covered + length T.set → Fails T R k
  set_fails lines drop k are none is =
      subst (λ (k : ℕ). Fails T R k) (sym is) (
        some_strictly,
        of_set,
        λ (p, (n, found, at), met).
            let place = place_of T.set n found in
            let within = slice_get_within T.set place.0 n place.1 in
            let ms = some_at lines place.0 (omega (arith, within, are.count)) in
            let line = are.each place.0 n ms.0 place.1 ms.1 p at in
            never_strict (pair_run T.symbols T.rules R p false) (pair_run T.symbols T.rules R p true) ms.0 line.0
            (λ strict. nothing (subst (λ (l : List ℕ). Contains l n) none (line.1.1 strict))) met,
      )
    where
      nothing : {n : ℕ} → Contains [] n → ⊥
      nothing (k, within, is) = omega (arith, within)

-- what the readings come to is what the guess comes to
pub weighs : (t : Task) (usable : Option (List ℕ)) (R Q : ReadingsData) (r : Result Weighing AllocError) → R ≡ Q
    → IfOk r (WeighsOver t usable R) → IfOk r (WeighsOver t usable Q)
weighs t usable R Q r same h = subst (λ (R : ReadingsData). IfOk r (WeighsOver t usable R)) same h
