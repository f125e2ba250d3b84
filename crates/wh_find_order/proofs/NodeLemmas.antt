-- The node of an order under which all lines are found, and the conditions that fail.
use Rattle.std.proofs.Common.{◌≡◌, ◌≢◌, ℕ, zero, suc, ◌+◌, ◌-◌, ◌<◌, ◌≤◌, ◌^◌, true, false, List, [], ◌∷◌, length, map, Some, slice_get, All, Contains, refl, ap, sym, subst, ◌∙◌, arith}
use Rattle.std.proofs.lemmas.List.{length-map, length-take}
use Rattle.std.proofs.lemmas.List.Elements.{All-nil, All-cons, All-head, All-tail, All-contains}
use Rattle.std.proofs.lemmas.Option.{slice_get_within}
use Rattle.std.specs.Prelude.{unwrap_or}
use Rattle.wh_types.specs.Ty.{Ty, sort, arguments}
use Rattle.wh_text.specs.Words.{IsName}
use Rattle.wh_terms.specs.Typing.{Symbols}
use Rattle.wh_terms.specs.Rules.{RewriteRule}
use Rattle.wh_system.specs.Needs.{need_of}
use Rattle.wh_system.specs.Systems.{SystemData}
use Rattle.wh_system.specs.WellMade.{IsTypeOver, IsWellMadeSystem}
use Rattle.wh_pairs.specs.PairData.{PairData}
use Rattle.wh_pairs.proofs.Increasing.{one_place}
use Rattle.wh_pairs.proofs.ByPlace.{contains_at, place_of, unmap, remap}
use Rattle.wh_pairs.proofs.SetLemmas.{all_from_members}
use Rattle.wh_reduction_pairs.specs.TaskData.{TaskData, IsTask}
use Rattle.wh_reduction_pairs.specs.ReductionPair.{Evidence, IsRightRule, IsRightPair}
use Rattle.wh_reduction_pairs.proofs.Numbers.{numbers_length}
use Rattle.wh_polycheck.specs.Marks.{marked_types}
use Rattle.wh_order_inference.specs.Inferences.{Inference, entries}
use Rattle.wh_order_inference.specs.InferenceLimits.{InferenceFits}
use Rattle.wh_order_inference.specs.FilterText.{WrittenFilter, keeps, picks, FilterFits}
use Rattle.wh_order_extended.specs.Filtered.{IncreasingFrom}
use Rattle.wh_order_extended.specs.Kinds as extended
use Rattle.wh_order_node.specs.Filterings.{FilteringData, MarkFilter, IsProperAsWritten}
use Rattle.wh_order_node.specs.Ordering.{IsGoodRule, IsGoodPair, by_inferences, AreNarrow, IsOrdering}
use Rattle.wh_cert.specs.TermLimits.{IsSmall}
use Rattle.wh_cert.specs.Written as w
use Rattle.wh_cert.specs.Limits.{FilteringFits, FilterWithin, NodeFits, NodeWithin}
use Rattle.wh_proof.specs.Looked.{SayFilters, SayMarkFilters, inferences_of}
use Rattle.wh_proof.proofs.FilterLemmas.{as_many_filters, filters_named}
use Rattle.wh_poly_covering.proofs.Walks.{some_at}
use Rattle.wh_poly_guesses.specs.Conditions.{covers_rule, covers_pair, some_strictly, of_rule, of_pair, of_set}
use Rattle.wh_poly_guesses.specs.Found.{task_of}
use Rattle.wh_poly_guesses.proofs.IncreasingLemmas.{few_increasing}
use Rattle.wh_order_lines.specs.Oriented.{IsWithin}
use Rattle.wh_order_lines.specs.OrderLines.{IsRuleLine}
use Rattle.wh_order_lines.specs.OrderWalks.{AreRuleLines, ArePairLines, IsDropped, IsFailingRule, IsFailingPair}
use Rattle.wh_order_space.specs.Space.{IsLow, IsOfSpace}
use Rattle.wh_find_order.specs.Answers.{IsOrder}
use Rattle.wh_find_order.specs.Trials.{IsTried, Fails}
use Rattle.wh_poly_guesses.proofs.LimitLemmas.{wide}

-- a filter is within the limits of certificates

small_places : (from n : ℕ) (ns : List ℕ) → n ≤ 32 → IncreasingFrom from n (map (λ m. m - 1) ns) → All (λ m. m ≤ 65535) ns
small_places from n [] few rise = All-nil (λ m. m ≤ 65535)
small_places from n (m ∷ ns) few rise =
    All-cons (λ m. m ≤ 65535) m ns (omega (arith, rise.1, few)) (small_places (suc (m - 1)) n ns few rise.2)

few_places : (from n : ℕ) (ns : List ℕ) → IncreasingFrom from n (map (λ m. m - 1) ns) → length ns ≤ n - from
few_places from n [] rise = omega arith
few_places from n (m ∷ ns) rise =
    let rest = few_places (suc (m - 1)) n ns rise.2 in omega (arith, rest, rise.0, rise.1)

filter_fits : (cs : List Ty) (f : WrittenFilter) (k : ℕ) → length cs ≤ 32 → k ≤ 65536 → IsProperAsWritten cs f → IsLow k f → FilterFits f
filter_fits cs (keeps prec ns) k few small proper low = (omega (arith, low, small), small_places 0 (length cs) ns few proper.proper)
filter_fits cs (picks n) k few small proper low =
    let within = slice_get_within cs (n - 1) (sort proper.proper.0) proper.proper.1 in omega (arith, within, few)

filter_within : (cs : List Ty) (f : WrittenFilter) → length cs ≤ 32 → IsProperAsWritten cs f → FilterWithin (2 ^ 32) f
filter_within cs (keeps prec ns) few proper =
    let short = few_places 0 (length cs) ns proper.proper in omega (arith, short, few)
filter_within cs (picks n) few proper = tt

type_wide : (sorts : ℕ) (kinds : List Ty) → All (IsTypeOver sorts) kinds → (f : ℕ) → length (arguments (extended.type_at kinds f)) ≤ 32
type_wide sorts [] over f = omega arith
type_wide sorts (a ∷ kinds) over zero = wide a (All-head (IsTypeOver sorts) a kinds over).narrow
type_wide sorts (a ∷ kinds) over (suc f) = type_wide sorts kinds (All-tail (IsTypeOver sorts) a kinds over) f

marked_wide : (S : Symbols) (rules : List RewriteRule) (f : ℕ) → All (IsTypeOver S.sorts) S.funs → length (marked_types S rules f) ≤ 32
marked_wide S rules f over =
    let h = type_wide S.sorts S.funs over f in omega (arith, h, length-take (unwrap_or (need_of rules f) 0) (arguments (extended.type_at S.funs f)))

-- lines that say filters

filters_all : (Q : WrittenFilter → Type 0) (names : List (List ℕ)) (lines : List w.Filtering) (filters : List WrittenFilter) → SayFilters names lines filters
    → ((f : WrittenFilter) → Contains filters f → Q f) → All (λ l. Q l.filter) lines
filters_all Q names lines filters says each =
    let are = (filters_named names lines filters says).1 in
    all_from_members (λ (l : w.Filtering). Q l.filter) lines (λ l found.
    let at = place_of lines l found in
    each l.filter (contains_at filters at.0 l.filter (ap (λ fs. slice_get fs at.0) are ∙ remap (λ (l : w.Filtering). l.filter) lines at.0 l at.1)))

marks_all : (Q : WrittenFilter → Type 0) (d : SystemData) (lines : List w.Filtering) (marks : List MarkFilter) → SayMarkFilters d lines marks
    → ((m : MarkFilter) → Contains marks m → Q m.filter) → All (λ l. Q l.filter) lines
marks_all Q d [] [] says each = All-nil (λ (l : w.Filtering). Q l.filter)
marks_all Q d (l ∷ lines) (m ∷ marks) (here, rest) each =
    All-cons (λ (l : w.Filtering). Q l.filter) l lines (subst Q here.filter (each m (0, omega arith, refl)))
    (marks_all Q d lines marks rest (λ n found. each n (suc found.0, omega (arith, found.1), found.2)))
marks_all Q d [] (m ∷ marks) says each = absurd says
marks_all Q d (l ∷ lines) [] says each = absurd says

names_all : (names : List (List ℕ)) (lines : List w.Filtering) (filters : List WrittenFilter) → SayFilters names lines filters → All IsName names
    → All (λ l. IsName l.name) lines
names_all names lines filters says named =
    let are = (filters_named names lines filters says).0 in
    all_from_members (λ (l : w.Filtering). IsName l.name) lines (λ l found.
    let at = place_of lines l found in
    All-contains IsName names l.name named
    (contains_at names at.0 l.name (ap (λ ns. slice_get ns at.0) (sym are) ∙ remap (λ (l : w.Filtering). l.name) lines at.0 l at.1)))

mark_names_all : (d : SystemData) (lines : List w.Filtering) (marks : List MarkFilter) → SayMarkFilters d lines marks → All IsName d.fun_names
    → All (λ l. IsName l.name) lines
mark_names_all d [] [] says named = All-nil (λ (l : w.Filtering). IsName l.name)
mark_names_all d (l ∷ lines) (m ∷ marks) (here, rest) named =
    All-cons (λ (l : w.Filtering). IsName l.name) l lines (All-contains IsName d.fun_names l.name named (contains_at d.fun_names m.symbol l.name here.named))
    (mark_names_all d lines marks rest named)
mark_names_all d [] (m ∷ marks) says named = absurd says
mark_names_all d (l ∷ lines) [] says named = absurd says

both_fit : (lines : List w.Filtering) → All (λ l. IsName l.name) lines → All (λ l. FilterFits l.filter) lines → All FilteringFits lines
both_fit lines names filters = all_from_members FilteringFits lines (λ l found. record {
  name = (All-contains (λ (l : w.Filtering). IsName l.name) lines l names found).word;
  filter = All-contains (λ (l : w.Filtering). FilterFits l.filter) lines l filters found;
})

as_many_marks : (d : SystemData) (lines : List w.Filtering) (marks : List MarkFilter) → SayMarkFilters d lines marks → length lines ≡ length marks
as_many_marks d [] [] says = refl
as_many_marks d (l ∷ lines) (m ∷ marks) (here, rest) = ap suc (as_many_marks d lines marks rest)
as_many_marks d [] (m ∷ marks) says = absurd says
as_many_marks d (l ∷ lines) [] says = absurd says

said_named : (d : SystemData) (lines : List w.Filtering) (marks : List MarkFilter) → SayMarkFilters d lines marks → (m : MarkFilter) → Contains marks m
    → m.symbol < length d.fun_names
said_named d [] [] says m (k, within, is) = absurd (omega arith)
said_named d (l ∷ lines) (n ∷ marks) (here, rest) m (zero, within, is) =
    slice_get_within d.fun_names m.symbol l.name (ap (λ (m : MarkFilter). slice_get d.fun_names m.symbol) (sym is) ∙ here.named)
said_named d (l ∷ lines) (n ∷ marks) (here, rest) m (suc k, within, is) = said_named d lines marks rest m (k, omega arith, is)
said_named d [] (n ∷ marks) says m found = absurd says
said_named d (l ∷ lines) [] says m found = absurd says

module _ (d : SystemData) (ps : List PairData) (set : List ℕ) (D : FilteringData) (funs mark_lines : List w.Filtering)
    (rules pairs : List Inference) (drop : List ℕ) (made : IsWellMadeSystem d) (few : length ps ≤ 4096) (task : IsTask (task_of d ps set))
    (tried : IsTried (task_of d ps set) D) (rule_lines : AreRuleLines (task_of d ps set) D rules) (pair_lines : ArePairLines (task_of d ps set) D pairs drop)
    (some : drop ≢ []) (says : SayFilters d.fun_names funs D.symbols) (says_marks : SayMarkFilters d mark_lines D.marks)
    (rule_fits : (r : RewriteRule) (i : Inference) → IsGoodRule d.symbols d.rules D r i → IsWithin i → InferenceFits 0 i)
    (pair_fits : (p : PairData) (i : Inference) → IsGoodPair d.symbols d.rules D p i → IsWithin i → InferenceFits 0 i) where
  abbrev T : TaskData
  T = task_of d ps set

  abbrev E : Evidence Inference
  E = inferences_of rules pairs drop

  -- each line is that of some rule, or of some pair

  a_rule : (i : Inference) → Contains rules i → (r : RewriteRule) × IsRuleLine d.symbols d.rules D r i
  a_rule line found =
      let at = place_of rules line found in
      let within = slice_get_within rules at.0 line at.1 in
      let n = some_at T.covered at.0 (omega (arith, within, rule_lines.count)) in
      let r = some_at d.rules n.0 (All-contains (λ n. n < length d.rules) T.covered n.0 task.are_rules (contains_at T.covered at.0 n.0 n.1)) in
      (r.0, rule_lines.each at.0 n.0 line n.1 at.1 r.0 r.1)

  a_pair : (i : Inference) → Contains pairs i → (n : ℕ) × (p : PairData) × IsDropped T D (Contains drop n) p i
  a_pair line found =
      let at = place_of pairs line found in
      let within = slice_get_within pairs at.0 line at.1 in
      let n = some_at set at.0 (omega (arith, within, pair_lines.count)) in
      let p = some_at ps n.0 (All-contains (λ n. n < length ps) set n.0 task.within (contains_at set at.0 n.0 n.1)) in
      (n.0, p.0, pair_lines.each at.0 n.0 line n.1 at.1 p.0 p.1)

  -- the line of a rule, and that of a pair

  line_of_rule : (n : ℕ) (r : RewriteRule) → Contains T.covered n → slice_get d.rules n ≡ Some r → (i : Inference) × IsRuleLine d.symbols d.rules D r i
  line_of_rule n r found at =
      let place = place_of T.covered n found in
      let within = slice_get_within T.covered place.0 n place.1 in
      let line = some_at rules place.0 (omega (arith, within, rule_lines.count)) in
      (line.0, rule_lines.each place.0 n line.0 place.1 line.1 r at)

  line_of_pair : (n : ℕ) (p : PairData) → Contains set n → slice_get ps n ≡ Some p → (i : Inference) × IsDropped T D (Contains drop n) p i
  line_of_pair n p found at =
      let place = place_of set n found in
      let within = slice_get_within set place.0 n place.1 in
      let line = some_at pairs place.0 (omega (arith, within, pair_lines.count)) in
      (line.0, pair_lines.each place.0 n line.0 place.1 line.1 p at)

  narrow : AreNarrow T
  narrow = record {
    of_rules = λ n r found at. (line_of_rule n r found at).1.narrow;
    of_pairs = λ n p found at. (line_of_pair n p found at).1.narrow;
  }

  right_rules : (i : ℕ) → IsRightRule (by_inferences d.symbols d.rules D) T rules i
  right_rules i n r line place at there = (rule_lines.each i n line place there r at).good

  right_pairs : (i : ℕ) → IsRightPair (by_inferences d.symbols d.rules D) T pairs drop i
  right_pairs i n p line true at pair there dropped =
      let h = pair_lines.each i n line at there p pair in (h.good, h.differ dropped)
  right_pairs i n p line false at pair there dropped = ((pair_lines.each i n line at there p pair).good, tt)

  ordering : IsOrdering T D E
  ordering = record {
    filters = tried.filters;
    symbols = tried.symbols;
    marks = tried.marks;
    narrow = narrow;
    lines = record {
      rule_count = rule_lines.count;
      pair_count = pair_lines.count;
      some_dropped = some;
      once = λ i j n at also. one_place drop i j n pair_lines.increasing at also;
      within = pair_lines.within;
      rules = right_rules;
      pairs = right_pairs;
    };
  }

  of_space : IsOfSpace T D
  of_space = record {
    filters = tried.filters;
    symbols = tried.symbols;
    marks = tried.marks;
    symbols_low = tried.symbols_low;
    marks_low = tried.marks_low;
    narrow = narrow;
  }

  drop_below : (n : ℕ) → Contains drop n → n < length ps
  drop_below n found = All-contains (λ n. n < length ps) set n task.within (All-contains (Contains set) drop n pair_lines.within found)

  marks_few : length D.marks ≤ length d.fun_names
  marks_few =
      let numbers = map (λ (m : MarkFilter). m.symbol) D.marks in
      let short = few_increasing numbers (length d.fun_names) tried.filters.marked.in_order (λ f found.
      let at = place_of numbers f found in
      let m = unmap (λ (m : MarkFilter). m.symbol) D.marks at.0 f at.1 in
      let below = said_named d mark_lines D.marks says_marks m.0 (contains_at D.marks at.0 m.0 m.1) in omega (arith, below, m.2)) in
      omega (arith, short, length-map D.marks (λ (m : MarkFilter). m.symbol))

  all_few : length D.symbols + length D.marks ≤ 65536
  all_few =
      let short = marks_few in
      omega (arith, short, as_many_filters d.fun_names funs D.symbols says, made.symbols_named, made.symbols_within)

  symbol_proper : (f : WrittenFilter) → Contains D.symbols f → (cs : List Ty) × (length cs ≤ 32) × IsProperAsWritten cs f
  symbol_proper f found =
      let at = place_of D.symbols f found in
      let within = slice_get_within D.symbols at.0 f at.1 in
      let a = some_at d.symbols.funs at.0 (omega (arith, within, tried.filters.each_symbol)) in
      let over = All-contains (IsTypeOver d.symbols.sorts) d.symbols.funs a.0 made.symbol_types (contains_at d.symbols.funs at.0 a.0 a.1) in
      (arguments a.0, wide a.0 over.narrow, tried.symbols at.0 a.0 f a.1 at.1)

  mark_proper : (m : MarkFilter) → Contains D.marks m → (cs : List Ty) × (length cs ≤ 32) × IsProperAsWritten cs m.filter
  mark_proper m found =
      let at = place_of D.marks m found in
      (marked_types d.symbols d.rules m.symbol, marked_wide d.symbols d.rules m.symbol made.symbol_types, tried.marks at.0 m at.1)

  abbrev count : ℕ
  count = length D.symbols + length D.marks

  symbol_fits : (f : WrittenFilter) → Contains D.symbols f → FilterFits f
  symbol_fits f found =
      let h = symbol_proper f found in
      filter_fits h.0 f count h.1 all_few h.2 (All-contains (IsLow count) D.symbols f tried.symbols_low found)

  mark_fits : (m : MarkFilter) → Contains D.marks m → FilterFits m.filter
  mark_fits m found =
      let h = mark_proper m found in
      filter_fits h.0 m.filter count h.1 all_few h.2 (All-contains (λ (m : MarkFilter). IsLow count m.filter) D.marks m tried.marks_low found)

  rule_within : All IsWithin rules
  rule_within = all_from_members IsWithin rules (λ i found. (a_rule i found).1.within)

  pair_within : All IsWithin pairs
  pair_within = all_from_members IsWithin pairs (λ i found. (a_pair i found).2.within)

  few_entries : (lines : List Inference) → All IsWithin lines → All (λ i. entries i < 2 ^ 32) lines
  few_entries lines within = all_from_members (λ (i : Inference). entries i < 2 ^ 32) lines (λ i found. (All-contains IsWithin lines i within found).few)

  fits : NodeFits (w.order funs mark_lines rules pairs drop)
  fits = (
    both_fit funs (names_all d.fun_names funs D.symbols says made.fun_names_spelled) (filters_all FilterFits d.fun_names funs D.symbols says symbol_fits),
    both_fit mark_lines (mark_names_all d mark_lines D.marks says_marks made.fun_names_spelled) (marks_all FilterFits d mark_lines D.marks says_marks mark_fits),
    all_from_members (InferenceFits 0) rules (λ i found. let (r, line) = a_rule i found in rule_fits r i line.good line.within),
    all_from_members (InferenceFits 0) pairs (λ i found. let (n, p, line) = a_pair i found in pair_fits p i line.good line.within),
    all_from_members IsSmall drop (λ n found. let below = drop_below n found in omega (arith, below, few)),
  )

  node_within : NodeWithin (2 ^ 32) (w.order funs mark_lines rules pairs drop)
  node_within =
      let named = made.symbols_named in
      let symbols_few = made.symbols_within in
      let as_many = ap length (filters_named d.fun_names funs D.symbols says).0 in
      let set_few = few_increasing set (length ps) task.increasing (λ n found. All-contains (λ n. n < length ps) set n task.within found) in
      let drop_few = few_increasing drop (length ps) pair_lines.increasing drop_below in (
        omega (arith, as_many, length-map funs (λ (l : w.Filtering). l.name), named, symbols_few),
        omega (arith, as_many_marks d mark_lines D.marks says_marks, marks_few, named, symbols_few),
        filters_all (FilterWithin (2 ^ 32)) d.fun_names funs D.symbols says (λ f found. let h = symbol_proper f found in filter_within h.0 f h.1 h.2),
        marks_all (FilterWithin (2 ^ 32)) d mark_lines D.marks says_marks (λ m found. let h = mark_proper m found in filter_within h.0 m.filter h.1 h.2),
        few_entries rules rule_within,
        omega (arith, rule_lines.count, numbers_length 0 (length d.rules), made.rules_within),
        few_entries pairs pair_within,
        omega (arith, pair_lines.count, set_few, few),
        omega (arith, drop_few, few),
      )

  pub order_found : IsOrder d ps set (w.order funs mark_lines rules pairs drop)
  order_found = record {
    filtering = D;
    evidence = E;
    says = ((says, says_marks), refl);
    ordering = ordering;
    of_space = of_space;
    rules_within = rule_within;
    pairs_within = pair_within;
    increasing = pair_lines.increasing;
    all_dropped = λ n lets. (line_of_pair n lets.pair lets.in_set lets.is).1.strict_is.1 lets.strictly;
    fits = fits;
    within = node_within;
  }

-- the numbers of conditions that fail

module _ (T : TaskData) (D : FilteringData) where
  pub rule_fails : (k : ℕ) → IsFailingRule T D k → Fails T D k
  rule_fails k (n, r, place, at, never) = (covers_rule r, of_rule k n r place at, never)

  pub pair_fails : (i k : ℕ) → IsFailingPair T D i → k ≡ length T.covered + i → Fails T D k
  pair_fails i k (n, p, place, at, never) is = subst (λ (k : ℕ). Fails T D k) (sym is) (covers_pair p, of_pair i n p place at, never)

  pub set_fails : (lines : List Inference) (drop : List ℕ) (k : ℕ) → ArePairLines T D lines drop → drop ≡ [] → k ≡ length T.covered + length T.set
      → Fails T D k
  set_fails lines drop k are none is =
      subst (λ (k : ℕ). Fails T D k) (sym is) (
        some_strictly,
        of_set,
        λ (n, p, found, at, met).
            let place = place_of T.set n found in
            let within = slice_get_within T.set place.0 n place.1 in
            let line = some_at lines place.0 (omega (arith, within, are.count)) in
            let h = are.each place.0 n line.0 place.1 line.1 p at in
            nothing (subst (λ (l : List ℕ). Contains l n) none (h.strict_is.1 met.1)),
      )
    where
      nothing : {n : ℕ} → Contains [] n → ⊥
      nothing (k, within, is) = omega (arith, within)
