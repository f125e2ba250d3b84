-- What refuted sides say of ranges.
use mathlib.Core.Path.{subst₂}
use Rattle.std.specs.Bool.{OnTrue}
use Rattle.std.specs.declared.alloc.AllocError.{AllocError}
use Rattle.std.proofs.Common.{◌≡◌, ◌≤◌, ℕ, zero, suc, List, [], ◌∷◌, ◌++◌, length, map, get_or, Bool, true, false, Some, slice_get, Contains, Result, Ok, Err, IfOk, refl, ap, sym, subst, ◌∙◌, arith, length-append}
use Rattle.std.proofs.lemmas.Option.{slice_get_within}
use Rattle.std.proofs.lemmas.List.{length-map}
use Rattle.wh_types.specs.Ty.{Ty, arguments}
use Rattle.wh_terms.specs.Tree.{Tm}
use Rattle.wh_terms.specs.Erase.{declared_meta, rewrite_rule, rewrite_rules}
use Rattle.wh_terms.specs.declared.rule.Rule.{Rule}
use Rattle.wh_terms.specs.Sight.{NoFree}
use Rattle.wh_terms.specs.Typing.{Declared, Typed}
use Rattle.wh_terms.specs.Rules.{RewriteRule, AreWellMade}
use Rattle.wh_pairs.specs.PairData.{PairData}
use Rattle.wh_pairs.proofs.SetLemmas.{all_from_members}
use Rattle.wh_system.specs.SystemView.{system_data}
use Rattle.wh_system.specs.WellMade.{IsWellMadeSystem}
use Rattle.wh_pairs.proofs.ByPlace.{contains_at, map_at, place_of, some_one}
use Rattle.wh_reduction_pairs.specs.TaskData.{TaskData}
use Rattle.wh_reduction_pairs.specs.TaskView.{task_data}
use Rattle.wh_reduction_pairs.specs.declared.task.Task.{Task}
use Rattle.wh_poly.specs.Polynomials.{Polynomial, Normal}
use Rattle.wh_hopoly.specs.Evaluation.{Run}
use Rattle.wh_hopoly.specs.Moves.{Transfer}
use Rattle.wh_polycheck.specs.Marks.{marked_types, HasMarkedSides}
use Rattle.wh_polycheck.specs.Readings.{ReadingsData, AreReadingsFor, AreProper}
use Rattle.wh_polycheck.specs.Sides.{types_of_metas, side_polynomial}
use Rattle.wh_polycheck.specs.Covering.{rule_run, pair_run, CoversSides, IsTypedTask}
use Rattle.wh_poly_meaning.specs.Meaning.{den}
use Rattle.wh_poly_meaning.specs.Valuations.{Valuation, MonoValuation}
use Rattle.wh_poly_meaning.proofs.Steps.{side_normal}
use Rattle.wh_poly_covering.proofs.Walks.{of_equals}
use Rattle.wh_proof.proofs.InterpretationLemmas.{marked_one}
use Rattle.wh_poly_growth.specs.Below.{AreBelow}
use Rattle.wh_poly_growth.specs.Refuted.{IsRefuted}
use Rattle.wh_poly_growth.proofs.WeightLaws.{IsCoverBy, refuted_uncovered}
use Rattle.wh_poly_growth.proofs.Growth.{side_grows, pair_side_grows, pair_side_normal}
use Rattle.wh_poly_space.specs.Space.{IsOfSpace}
use Rattle.wh_poly_guesses.specs.Coefficients.{HaveCoefficients, AreOfSpace}
use Rattle.wh_poly_guesses.specs.Conditions.{IsMetBy}
use Rattle.wh_poly_guesses.specs.Tasks.{IsTaskOf, guess_data}
use Rattle.wh_poly_guesses.proofs.GuessLemmas.{space_proper, space_sides, guess_of_space}
use Rattle.wh_poly_ranges.specs.Excluded.{AreAtMost, Fit, IsExcluded}
use Rattle.wh_poly_ranges.specs.Bounds.{IsBound, AreRanges, lists_of}
use Rattle.wh_poly_ranges.specs.Out.{IsOut, IsRuleOut, IsPairOut}
use Rattle.wh_poly_ranges.specs.declared.bounds.Bound.{Bound}
use Rattle.wh_poly_ranges.specs.declared.bounds.Ranges.{Ranges}
use Rattle.wh_poly_ranges.proofs.Lists.{lists_below}

count_types : (M : List Declared) → length (types_of_metas M) ≡ length M
count_types [] = refl
count_types (d ∷ M) = let e = count_types M in omega (arith, e)

-- the scope of a side has all meta-variables
metas_in_scope : (M : List Declared) (Γ : List Ty) → length M ≤ length (types_of_metas M ++ Γ)
metas_in_scope M Γ = omega (arith, count_types M, length-append (types_of_metas M) Γ)

cover_by : (left right : Run Polynomial) (strict : Bool) (ms : List Transfer) → CoversSides left right strict ms
    → IsCoverBy strict left.result right.result ms
cover_by left right false ms h = h
cover_by left right true ms h = h

module _ (T : TaskData) where
  -- readings of all symbols and of the marked symbols of the set, with these coefficients
  pub record AllHave (lists : List (List ℕ)) (R : ReadingsData) : Type 0 where
    pub readings : AreReadingsFor T R
    pub coefficients : HaveCoefficients T lists R

  fitting : (strict : ℕ) (lists : List (List ℕ)) (R : ReadingsData) → Fit T strict lists R → AllHave lists R
  fitting strict lists R fit = record { readings = fit.readings; coefficients = fit.coefficients }

  module _ (lists : List (List ℕ)) (R : ReadingsData) (has : AllHave lists R) where
    in_space : AreOfSpace T R
    in_space = record {
      readings = has.readings;
      symbols_of_space = all_from_members (λ s. IsOfSpace (arguments s.kind) s.polynomial) R.symbols
          (λ s found. let (f, at) = place_of R.symbols s found in (has.coefficients.of_symbols f s at).of_space);
      marks_of_space = all_from_members (λ m. IsOfSpace (marked_types T.symbols T.rules m.symbol) m.polynomial) R.marks
          (λ m found. let (i, at) = place_of R.marks m found in (has.coefficients.of_marks i m at).of_space);
    }

    proper : AreProper T.symbols T.rules R
    proper = space_proper T R in_space

    normal_side : (M : List Declared) (t : Tm) (a : Ty) → Typed T.symbols M [] t a → NoFree t
        → Normal (types_of_metas M ++ arguments a) (side_polynomial R.symbols M t)
    normal_side = side_normal T.symbols R.symbols proper.interpreted proper.normal.symbols

    module _ (typed : IsTypedTask T) (i n : ℕ) (p : PairData) (place : slice_get T.set i ≡ Some n) (at : slice_get T.pairs n ≡ Some p) where
      marked_sides : HasMarkedSides T.symbols T.rules R.marks p
      marked_sides = space_sides T R in_space typed n p (contains_at T.set i n place) at

      normal_pair_side : (right : Bool) → Normal (types_of_metas p.metas ++ []) (pair_run T.symbols T.rules R p right).result
      normal_pair_side = pair_side_normal T.symbols T.rules R proper p marked_sides

  -- lesser coefficients, and what sides come to by them
  module _ (ls hs : List (List ℕ)) (low high : ReadingsData) (has : AllHave ls low) (also : AllHave hs high) (most : AreAtMost ls hs) where
    below : AreBelow T.symbols T.rules low high
    below =
        lists_below T ls hs low high (has.readings.kinds ∙ sym also.readings.kinds)
        (marked_one T.pairs T.set (map (λ m. m.symbol) low.marks) (map (λ m. m.symbol) high.marks) has.readings.marked also.readings.marked)
        has.coefficients also.coefficients most

    side_less : (M : List Declared) (t : Tm) (a : Ty) → Typed T.symbols M [] t a → NoFree t → (ψ : Valuation) → MonoValuation ψ
        → den (types_of_metas M ++ arguments a) ψ (side_polynomial low.symbols M t)
        ≤ den (types_of_metas M ++ arguments a) ψ (side_polynomial high.symbols M t)
    side_less = side_grows T.symbols T.rules low high (proper ls low has) (proper hs high also) below

    pair_side_less : IsTypedTask T → (i n : ℕ) (p : PairData) → slice_get T.set i ≡ Some n → slice_get T.pairs n ≡ Some p
        → (right : Bool) (ψ : Valuation) → MonoValuation ψ
        → den (types_of_metas p.metas ++ []) ψ (pair_run T.symbols T.rules low p right).result
        ≤ den (types_of_metas p.metas ++ []) ψ (pair_run T.symbols T.rules high p right).result
    pair_side_less typed i n p place at =
        pair_side_grows T.symbols T.rules low high (proper ls low has) (proper hs high also) below p
        (marked_sides ls low has typed i n p place at) (marked_sides hs high also typed i n p place at)

  module _ (ls hs : List (List ℕ)) (low high : ReadingsData) (has : AllHave ls low) (also : AllHave hs high) where
    -- a rule that is refuted by the ends of the ranges is covered by nothing in them
    pub rule_excluded : AreWellMade T.symbols T.rules → (n : ℕ) (r : RewriteRule) → Contains T.covered n → slice_get T.rules n ≡ Some r
        → IsRefuted (length r.metas) (rule_run high r false).result (rule_run low r true).result false
        → (strict : ℕ) → IsExcluded T strict ls hs
    rule_excluded well n r found at refuted strict lists R fit lie =
        let is = fitting strict lists R fit in
        let w = well.each r (contains_at T.rules n r at) in
        let met = fit.rules_met n r found at in
        let M = r.metas in
        let (a, left, right) = w.typed in
        refuted_uncovered (types_of_metas M ++ arguments a) (length M) (side_polynomial R.symbols M r.left) (side_polynomial R.symbols M r.right)
        (side_polynomial high.symbols M r.left) (side_polynomial low.symbols M r.right) false met.moves (metas_in_scope M (arguments a))
        (normal_side lists R is M r.left a left w.left_closed) (normal_side lists R is M r.right a right w.right_closed)
        (normal_side hs high also M r.left a left w.left_closed)
        (normal_side ls low has M r.right a right w.right_closed)
        (side_less lists hs R high is also lie.below M r.left a left w.left_closed)
        (side_less ls lists low R has is lie.above M r.right a right w.right_closed) refuted met.covers

    -- so is a pair
    pub pair_excluded : IsTypedTask T → (i n : ℕ) (p : PairData) → slice_get T.set i ≡ Some n → slice_get T.pairs n ≡ Some p
        → (here : Bool) (strict : ℕ) → (here ≡ true → i ≡ strict)
        → IsRefuted (length p.metas) (pair_run T.symbols T.rules high p false).result (pair_run T.symbols T.rules low p true).result here
        → IsExcluded T strict ls hs
    pair_excluded typed i n p place at here strict same refuted lists R fit lie =
        let is = fitting strict lists R fit in
        let met = met_by here same in
        let M = p.metas in
        let left = pair_run T.symbols T.rules R p false in
        let right = pair_run T.symbols T.rules R p true in
        refuted_uncovered (types_of_metas M ++ []) (length M) left.result right.result
        (pair_run T.symbols T.rules high p false).result (pair_run T.symbols T.rules low p true).result here met.moves
        (metas_in_scope M [])
        (normal_pair_side lists R is typed i n p place at false) (normal_pair_side lists R is typed i n p place at true)
        (normal_pair_side hs high also typed i n p place at false)
        (normal_pair_side ls low has typed i n p place at true)
        (pair_side_less lists hs R high is also lie.below typed i n p place at false)
        (pair_side_less ls lists low R has is lie.above typed i n p place at true) refuted
        (cover_by left right here met.moves met.covers)
      where
        met_by : (b : Bool) → (b ≡ true → i ≡ strict) → IsMetBy T R p b
        met_by false f = fit.pairs_met p (n, contains_at T.set i n place, at)
        met_by true f = fit.strictly n p (subst (λ (k : ℕ). slice_get T.set k ≡ Some n) (f refl) place) at

-- what is told of a condition is told of the ranges

told_as : (told : Result Bool AllocError) (P Q : Type 0) → (P → Q) → IfOk told (λ b. OnTrue b P) → IfOk told (λ b. OnTrue b Q)
told_as (Ok true) P Q f h = f h
told_as (Ok false) P Q f h = tt
told_as (Err e) P Q f h = tt

-- what numbers say of polynomials they say of equal ones
pub refuted_same : (told : Result Bool AllocError) (m n : ℕ) (p q a b : Polynomial) (strict : Bool) → m ≡ n → p ≡ a → q ≡ b
    → IfOk told (λ t. OnTrue t (IsRefuted m p q strict)) → IfOk told (λ t. OnTrue t (IsRefuted n a b strict))
refuted_same told m n p q a b strict e f g h =
    of_equals (λ m p q s. IfOk told (λ t. OnTrue t (IsRefuted m p q s))) m n p a q b strict strict e f g refl h

pub metas_of_rule : (made : List Rule) (rules : List RewriteRule) (k : ℕ) (d : Rule) (r : RewriteRule) → rewrite_rules made ≡ rules
    → slice_get rules k ≡ Some r → length (get_or made k d).metas ≡ length r.metas
metas_of_rule made rules k d r is at =
    let there : slice_get (rewrite_rules made) k ≡ Some r = ap (λ l. slice_get l k) is ∙ at in
    let within = slice_get_within (rewrite_rules made) k r there in
    let same = some_one (map_at rewrite_rule made k d (omega (arith, within, length-map made rewrite_rule))) there in
    sym (length-map (get_or made k d).metas declared_meta) ∙ ap (λ (r : RewriteRule). length r.metas) same

pub told_of_pair : (T : TaskData) (low high : ReadingsData) (i n : ℕ) (p : PairData) (strict : Bool) (told : Result Bool AllocError)
    → slice_get T.set i ≡ Some n → slice_get T.pairs n ≡ Some p
    → IfOk told (λ b. OnTrue b (IsRefuted (length p.metas) (pair_run T.symbols T.rules high p false).result (pair_run T.symbols T.rules low p true).result strict))
    → IfOk told (λ b. OnTrue b (IsPairOut T low high i strict))
told_of_pair T low high i n p strict told place at =
    told_as told (IsRefuted (length p.metas) (pair_run T.symbols T.rules high p false).result (pair_run T.symbols T.rules low p true).result strict)
    (IsPairOut T low high i strict) (λ refuted. (n, p, place, at, refuted))

module _ (t : Task) where
  have_bound : (b : Bound) → IsBound t b → AllHave (task_data t) (lists_of b) (guess_data b.guess)
  have_bound b is = record {
    readings = let are = guess_of_space t b.guess is.guess in are.readings;
    coefficients = is.coefficients;
  }

  module _ (r : Ranges) (ranges : AreRanges t r) (low high : ReadingsData) (low_is : low ≡ guess_data r.low.guess)
      (high_is : high ≡ guess_data r.high.guess) (strict : ℕ) (told : Result Bool AllocError) where
    pub out_by_rule : IsWellMadeSystem (system_data t.system.now) → (n : ℕ) (rule : RewriteRule) → Contains (task_data t).covered n
        → slice_get (task_data t).rules n ≡ Some rule
        → IfOk told (λ b. OnTrue b (IsRuleOut low high rule)) → IfOk told (λ b. OnTrue b (IsOut t strict r))
    out_by_rule well n rule found at =
        told_as told (IsRuleOut low high rule) (IsOut t strict r) (λ refuted.
        rule_excluded (task_data t) (lists_of r.low) (lists_of r.high) (guess_data r.low.guess) (guess_data r.high.guess)
        (have_bound r.low ranges.low) (have_bound r.high ranges.high) well.rules n rule found at
        (subst₂ (λ (l h : ReadingsData). IsRuleOut l h rule) low_is high_is refuted) strict)

    pub out_by_pair : IsTaskOf t → (i : ℕ) (here : Bool) → (here ≡ true → i ≡ strict)
        → IfOk told (λ b. OnTrue b (IsPairOut (task_data t) low high i here)) → IfOk told (λ b. OnTrue b (IsOut t strict r))
    out_by_pair task i here same =
        told_as told (IsPairOut (task_data t) low high i here) (IsOut t strict r) (λ h.
        let (n, p, place, at, refuted) = subst₂ (λ (l h : ReadingsData). IsPairOut (task_data t) l h i here) low_is high_is h in
        pair_excluded (task_data t) (lists_of r.low) (lists_of r.high) (guess_data r.low.guess) (guess_data r.high.guess)
        (have_bound r.low ranges.low) (have_bound r.high ranges.high) task.typed i n p place at here strict same refuted)
