-- A node for a set, from the answers of its parts.
use Rattle.std.proofs.Common.{◌≡◌, ◌≢◌, ◌↔◌, ℕ, ◌^◌, ◌≤◌, ◌==◌, eqb-true, Bool, true, false, not, inl, Option, Some, None, List, [], ◌∷◌, ◌++◌, length, get_or, IfSome, IsTrue, All, refl, sym, ap, subst, ◌∙◌, arith}
use Rattle.std.specs.Borrow.{Bor}
use Rattle.std.specs.Prelude.{option_copied}
use Rattle.std.proofs.lemmas.List.Elements.{All-nil, All-cons}
use Rattle.wh_system.specs.Systems.{SystemData}
use Rattle.wh_system.specs.WellMade.{IsWellMadeSystem}
use Rattle.wh_pairs.specs.PairData.{PairData, IsIncreasing}
use Rattle.wh_graph.specs.May.{Follows}
use Rattle.wh_graph.specs.Components.{AreComponents}
use Rattle.wh_subterm.specs.Projections.{Chosen}
use Rattle.wh_subterm.specs.SubtermRows.{IsProjection}
use Rattle.wh_find_subterm.specs.Found.{DropsAllBelow}
use Rattle.wh_cert.specs.Written as w
use Rattle.wh_reduction_pairs.specs.ReductionPair.{Evidence}
use Rattle.wh_hopoly.specs.Moves.{Transfer}
use Rattle.wh_usable.proofs.Whole.{all_in_order}
use Rattle.wh_poly_moves.specs.Found.{AreApart}
use Rattle.wh_usable.specs.Closed.{IsUsable}
use Rattle.wh_poly_guesses.specs.Found.{version_with}
use Rattle.wh_proof.specs.Looked.{covered_rules, poly_task}
use Rattle.wh_order_inference.specs.Inferences.{Inference}
use Rattle.wh_order_lines.specs.Oriented.{IsWithin}
use Rattle.wh_poly_guesses.specs.Conditions.{HasNoInterpretation}
use Rattle.wh_poly_guesses.specs.Found.{task_of}
use Rattle.wh_find_order.specs.Answers.{IsOrder}
use Rattle.wh_prover.specs.Searched.{AreSearched, AreOrders}
use Rattle.wh_interpreting.specs.Fewer.{HasFewer}
use Rattle.wh_interpreting.specs.Interpreted.{IsShortList, Interprets}
use Rattle.wh_prover.specs.Versions.{IsMade}
use Rattle.wh_cert.specs.Limits.{NodeFits, NodeWithin}
use Rattle.wh_proof.specs.Nodes.{done, alone, blocks, subterm, poly, order, Leaves, by_done, by_alone, by_blocks, by_subterm, by_poly, by_order}
use Rattle.wh_pairs.specs.Sets.{IsSetOf, IsKept}
use Rattle.wh_proof.specs.GoesOn.{GoesOn}
use Rattle.wh_prover.specs.Arriving.{IsAlone, IsAloneUnder, Arrives, behind_projection, behind_interpretation, behind_order, Ended, HasNoProjection}
use Rattle.wh_prover.specs.Walk.{weight, SaysProjection, Adds, dropped_by}
use Rattle.wh_prover.proofs.CountLemmas.{components_lighter, rest_lighter, weighs_something}
use Rattle.wh_prover.proofs.ArriveLemmas.{arrives_below, arrives_apart, sets_themselves, components_are_blocks}
use Rattle.wh_prover.proofs.LimitLemmas.{blocks_fit, blocks_within, subterm_fits, subterm_within}

-- the one number of a set that is not related to itself

one_number : (set : List ℕ) → length set ≡ 1 → set ≡ get_or set 0 0 ∷ []
one_number (a ∷ []) one = refl
one_number [] one = absurd (omega arith)
one_number (a ∷ b ∷ rest) one = absurd (omega arith)

not_true : (b : Bool) (P : Type 0) → IsTrue b ↔ P → IsTrue (not b) ↔ (P → ⊥)
not_true true P is = (λ no. cc, λ free. absurd (free (is.0 refl)))
not_true false P is = (λ yes p. let both = is.1 p in cc, λ free. refl)

same_head : (a b : ℕ) (xs ys : List ℕ) → a ∷ xs ≡ b ∷ ys → a ≡ b
same_head a b xs ys e = cc

pub alone_decided : (E : ℕ → ℕ → Type 0) (set : List ℕ) (b : Bool) → length set ≡ 1 → IsTrue b ↔ E (get_or set 0 0) (get_or set 0 0)
    → IsTrue (not b) ↔ IsAloneUnder E set
alone_decided E set b one itself =
    let n = get_or set 0 0 in
    let free = not_true b (E n n) itself in (
      λ yes. (n, one_number set one, free.0 yes),
      λ (a, single, none). free.1 (λ edge.
          let same : n ≡ a = same_head n a [] [] (sym (one_number set one) ∙ single) in
          none (subst (λ m. E m m) same edge)),
    )

pub alone_same : (E F : ℕ → ℕ → Type 0) (set : List ℕ) → ((a b : ℕ) → E a b ↔ F a b) → IsAloneUnder E set ↔ IsAloneUnder F set
alone_same E F set same = (
  λ (a, single, none). (a, single, λ f. none ((same a a).1 f)),
  λ (a, single, none). (a, single, λ e. none ((same a a).0 e)),
)

-- nodes that leave nothing

adds_nothing : (d : SystemData) (ps : List PairData) (set : List ℕ) (sets : List (List ℕ)) (lines longer : List w.Node) (line : w.Node)
    → longer ≡ lines ++ line ∷ [] → (goes : GoesOn d ps set line sets sets) → NodeFits line → NodeWithin (2 ^ 32) line → IsMade d line → goes.left ≡ []
    → Adds d ps set sets sets lines longer
adds_nothing d ps set sets lines longer line joined goes fits within made nothing = record {
  line = line;
  joined = joined;
  goes = goes;
  fits = fits;
  within = within;
  made = made;
  arrives = subst (All (Arrives d ps)) (sym nothing) (All-nil (Arrives d ps));
  lighter = omega (arith, weighs_something set, ap weight nothing);
}

pub adds_done : (d : SystemData) (ps : List PairData) (set : List ℕ) (sets : List (List ℕ)) (lines longer : List w.Node) → set ≡ []
    → longer ≡ lines ++ w.done ∷ [] → Adds d ps set sets sets lines longer
adds_done d ps set sets lines longer empty joined =
    let goes : GoesOn d ps set w.done sets sets = record {
      node = done;
      left = [];
      says = tt;
      leaves = subst (λ (s : List ℕ). Leaves d.symbols d.rules ps s done []) (sym empty) by_done;
      small = tt;
      after_is = refl;
    } in
    adds_nothing d ps set sets lines longer w.done joined goes tt tt tt refl

pub adds_alone : (d : SystemData) (ps : List PairData) (set : List ℕ) (sets : List (List ℕ)) (lines longer : List w.Node) → IsAlone d.rules ps set
    → longer ≡ lines ++ w.alone ∷ [] → Adds d ps set sets sets lines longer
adds_alone d ps set sets lines longer (a, one, free) joined =
    let goes : GoesOn d ps set w.alone sets sets = record {
      node = alone;
      left = [];
      says = tt;
      leaves = subst (λ (s : List ℕ). Leaves d.symbols d.rules ps s alone []) (sym one) (by_alone free);
      small = tt;
      after_is = refl;
    } in
    adds_nothing d ps set sets lines longer w.alone joined goes tt tt tt refl

-- a node by blocks

pub adds_blocks : (d : SystemData) (ps : List PairData) (set : List ℕ) (parts sets after : List (List ℕ)) (lines longer : List w.Node)
    → length ps ≤ 4096 → IsIncreasing set → Arrives d ps set → AreComponents (Follows d.rules ps) set parts → All IsIncreasing parts → 2 ≤ length parts
    → after ≡ parts ++ sets → longer ≡ lines ++ w.blocks parts ∷ [] → Adds d ps set sets after lines longer
adds_blocks d ps set parts sets after lines longer few up arrives are parts_up enough after_is joined =
    let E = Follows d.rules ps in
    let below = arrives_below d ps set arrives in
    record {
      line = w.blocks parts;
      joined = joined;
      goes = record {
        node = blocks parts;
        left = parts;
        says = refl;
        leaves = by_blocks (components_are_blocks E set parts are enough) (sets_themselves parts parts_up);
        small = tt;
        after_is = after_is;
      };
      fits = blocks_fit E (length ps) set parts few up below parts_up are;
      within = blocks_within E (length ps) set parts few below parts_up are;
      made = tt;
      arrives = arrives_apart d ps set parts arrives are parts_up enough;
      lighter = components_lighter E set parts parts_up are enough;
    }

-- a node by a projection

pub adds_subterm : (d : SystemData) (ps : List PairData) (set drop rest : List ℕ) (args : List Chosen) (line : w.Node) (sets after : List (List ℕ))
    (lines longer : List w.Node) → IsWellMadeSystem d → length ps ≤ 4096 → Ended d ps set → IsProjection d.rules ps set args drop
    → DropsAllBelow ps set args drop → IsSetOf (IsKept set drop) rest → SaysProjection d line args drop → after ≡ rest ∷ sets → longer ≡ lines ++ line ∷ []
    → Adds d ps set sets after lines longer
adds_subterm d ps set drop rest args line sets after lines longer made few end is all kept (said, line_is, says, fit) after_is joined =
    let below = arrives_below d ps set end.arrives in
    let one : w.Node = w.subterm said drop in
    record {
      line = one;
      joined = joined ∙ ap (λ (x : w.Node). lines ++ x ∷ []) line_is;
      goes = record {
        node = subterm args drop;
        left = rest ∷ [];
        says = (says, refl);
        leaves = by_subterm is kept;
        small = tt;
        after_is = after_is;
      };
      fits = subterm_fits (length ps) set said drop few below is.within fit;
      within = subterm_within d ps (length ps) set said args drop made few below says is;
      made = tt;
      arrives = All-cons (Arrives d ps) rest [] (behind_projection end.arrives end.knot is all kept) (All-nil (Arrives d ps));
      lighter = omega (arith, rest_lighter set drop rest kept is.some_dropped is.within);
    }

-- a node by interpretations

-- a list that is closed for the set, or none, which stands for all rules
list_usable : (d : SystemData) (ps : List PairData) (set : List ℕ) (usable : Option (List ℕ)) → IsShortList d ps set usable
    → IsUsable (poly_task d ps set usable)
list_usable d ps set (Some listed) list = list.0
list_usable d ps set None list =
    let order = all_in_order (length d.rules) in record { increasing = order.0; are_rules = order.1; closed = inl refl }

fewer_of : (d : SystemData) (ps : List PairData) (set : List ℕ) (usable : Option (List ℕ)) (listed : List ℕ) → IsShortList d ps set usable
    → 2 ≡ version_with usable → covered_rules usable (length d.rules) ≡ listed → HasFewer d listed
fewer_of d ps set (Some other) listed list two same = subst (HasFewer d) same list.1
fewer_of d ps set None listed list two same = absurd (omega (arith, two))

-- it is of the space that is searched, and where it lists rules, these are not all
interpretation_made : (d : SystemData) (ps : List PairData) (set : List ℕ) (line : w.Node) → Interprets d ps set line → IsMade d line
interpretation_made d ps set (w.interpretations usable funs marks rules pairs drop) found = by usable found
  where
    of_space : (usable : Option (List ℕ)) → Interprets d ps set (w.interpretations usable funs marks rules pairs drop) → AreSearched d funs marks rules pairs
    of_space usable found = record {
      readings = found.is.readings;
      says = found.is.says.1;
      of_space = found.is.of_space.symbols_of_space;
      marks_of_space = found.is.of_space.marks_of_space;
      rules_apart = subst (λ (E : Evidence (List Transfer)). All AreApart E.of_rules) found.is.says.2 found.is.rules_apart;
      pairs_apart = subst (λ (E : Evidence (List Transfer)). All AreApart E.of_pairs) found.is.says.2 found.is.pairs_apart;
    }

    by : (usable : Option (List ℕ)) → Interprets d ps set (w.interpretations usable funs marks rules pairs drop)
        → IsMade d (w.interpretations usable funs marks rules pairs drop)
    by None found = of_space None found
    by (Some listed) found =
        (of_space (Some listed) found, fewer_of d ps set found.usable listed found.list (sym found.is.version) found.is.says.0)
interpretation_made d ps set w.done found = tt
interpretation_made d ps set w.alone found = tt
interpretation_made d ps set (w.blocks parts) found = tt
interpretation_made d ps set (w.subterm lines drop) found = tt
interpretation_made d ps set (w.order funs marks rules pairs drop) found = absurd found.is.says

pub adds_interpretation : (d : SystemData) (ps : List PairData) (set rest : List ℕ) (line : w.Node) (sets after : List (List ℕ)) (lines longer : List w.Node)
    → Ended d ps set → HasNoProjection d.rules ps set → (found : Interprets d ps set line) → IsSetOf (IsKept set found.is.evidence.drop) rest
    → after ≡ rest ∷ sets → longer ≡ lines ++ line ∷ [] → Adds d ps set sets after lines longer
adds_interpretation d ps set rest line sets after lines longer end none found kept after_is joined =
    let is = found.is in
    let covering = is.covering in
    let closed = list_usable d ps set found.usable found.list in
    record {
      line = line;
      joined = joined;
      goes = record {
        node = poly (covered_rules found.usable (length d.rules)) is.readings is.evidence;
        left = rest ∷ [];
        says = is.says;
        leaves = by_poly covering closed kept;
        small = is.small;
        after_is = after_is;
      };
      fits = is.fits;
      within = is.within;
      made = interpretation_made d ps set line found;
      arrives = All-cons (Arrives d ps) rest [] (behind_interpretation end.arrives end.knot none closed covering kept) (All-nil (Arrives d ps));
      lighter = omega (arith, rest_lighter set is.evidence.drop rest kept covering.lines.some_dropped covering.lines.within);
    }

-- the pairs that its line drops are those that it drops
pub dropped_by_interpretation : (d : SystemData) (ps : List PairData) (set : List ℕ) (line : w.Node) → (found : Interprets d ps set line)
    → dropped_by line ≡ found.is.evidence.drop
dropped_by_interpretation d ps set (w.interpretations usable funs marks rules pairs drop) found =
    ap (λ (E : Evidence (List Transfer)). E.drop) (sym found.is.says.2)
dropped_by_interpretation d ps set w.done found = absurd found.is.says
dropped_by_interpretation d ps set w.alone found = absurd found.is.says
dropped_by_interpretation d ps set (w.blocks parts) found = absurd found.is.says
dropped_by_interpretation d ps set (w.subterm lines drop) found = absurd found.is.says
dropped_by_interpretation d ps set (w.order funs marks rules pairs drop) found = absurd found.is.says

-- a node of a path order

-- it is of the space that is searched
order_made : (d : SystemData) (ps : List PairData) (set : List ℕ) (funs marks : List w.Filtering) (rules pairs : List Inference) (drop : List ℕ)
    → IsOrder d ps set (w.order funs marks rules pairs drop) → AreOrders d funs marks rules pairs
order_made d ps set funs marks rules pairs drop found = record {
  filtering = found.filtering;
  says = found.says.0;
  proper = found.of_space.symbols;
  marks_proper = found.of_space.marks;
  low = found.of_space.symbols_low;
  marks_low = found.of_space.marks_low;
  rules_within = subst (λ (E : Evidence Inference). All IsWithin E.of_rules) found.says.1 found.rules_within;
  pairs_within = subst (λ (E : Evidence Inference). All IsWithin E.of_pairs) found.says.1 found.pairs_within;
}

pub adds_order : (d : SystemData) (ps : List PairData) (set rest : List ℕ) (funs marks : List w.Filtering) (rules pairs : List Inference) (drop : List ℕ)
    (sets after : List (List ℕ)) (lines longer : List w.Node) → Ended d ps set → HasNoProjection d.rules ps set → HasNoInterpretation (task_of d ps set)
    → IsOrder d ps set (w.order funs marks rules pairs drop) → IsSetOf (IsKept set drop) rest
    → after ≡ rest ∷ sets → longer ≡ lines ++ w.order funs marks rules pairs drop ∷ [] → Adds d ps set sets after lines longer
adds_order d ps set rest funs marks rules pairs drop sets after lines longer end none none_either found kept after_is joined =
    let ordering = found.ordering in
    let left = subst (λ (E : Evidence Inference). IsSetOf (IsKept set E.drop) rest) (sym found.says.1) kept in
    record {
      line = w.order funs marks rules pairs drop;
      joined = joined;
      goes = record {
        node = order found.filtering found.evidence;
        left = rest ∷ [];
        says = found.says;
        leaves = by_order ordering left;
        small = tt;
        after_is = after_is;
      };
      fits = found.fits;
      within = found.within;
      made = order_made d ps set funs marks rules pairs drop found;
      arrives = All-cons (Arrives d ps) rest [] (behind_order end.arrives end.knot none none_either ordering left) (All-nil (Arrives d ps));
      lighter = omega (arith, rest_lighter set found.evidence.drop rest left ordering.lines.some_dropped ordering.lines.within);
    }

-- whether a list is empty, as a test tells it

pub is_none : {A : Type 0} (xs : List A) → length xs ≡ 0 → xs ≡ []
is_none [] none = refl
is_none (x ∷ xs) none = absurd (omega arith)

pub tested_none : {A : Type 0} (xs : List A) (b : Bool) → b ≡ (length xs == 0) → b ≡ true → xs ≡ []
tested_none xs b is true_b = is_none xs (eqb-true (length xs) 0 (sym is ∙ true_b))

pub tested_some : {A : Type 0} (xs : List A) (b : Bool) → b ≡ (length xs == 0) → b ≡ false → xs ≢ []
tested_some [] b is false_b = absurd (let true_b : b ≡ true = is in cc)
tested_some (x ∷ xs) b is false_b = λ empty. cc

pub not_so : (b : Bool) (P : Type 0) → (P → IsTrue b) → b ≡ false → P → ⊥
not_so b P is false_b p = let true_b : b ≡ true = is p in cc

-- a list that is not empty has something

pub some_of : {A : Type 0} (xs : List A) → xs ≢ [] → 1 ≤ length xs
some_of [] some = absurd (some refl)
some_of (x ∷ xs) some = omega arith

-- what is so of a value, if there is one, is so of the borrowed one
pub borrowed : {A : Type 0} (P : A → Type 0) (r : Option (Bor A)) (o : Option A) → option_copied r ≡ o → IfSome o P → IfSome r (λ x. P x.now)
borrowed P None o e h = tt
borrowed P (Some x) o e h = subst (λ p. IfSome p P) (sym e) h
