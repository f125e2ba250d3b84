-- Lines that are found one after another.
use Rattle.std.specs.Bool.{OnTrue}
use Rattle.std.specs.Option.{is_none}
use Rattle.std.specs.declared.alloc.AllocError.{AllocError}
use Rattle.std.proofs.Common.{Option, None, ◌≡◌, ℕ, ◌+◌, ◌<◌, ◌≤◌, ◌^◌, ◌↔◌, inl, inr, true, false, IsTrue, List, [], ◌∷◌, ◌++◌, length, map, Some, slice_get, All, Contains, Bool, MatchOption, Result, Ok, Err, IfOk, MatchResult, refl, ap, sym, subst, ◌∙◌, arith}
use Rattle.std.specs.Result.{is_ok}
use mathlib.Core.Path.{subst₂}
use Rattle.std.proofs.lemmas.Option.{slice_get_within, get_or_from_slice_get}
use Rattle.std.proofs.lemmas.List.{length-map, length-append}
use Rattle.std.proofs.lemmas.List.Elements.{Contains-push_cases, Contains-append_left, Contains-push}
use Rattle.wh_terms.specs.Typing.{Symbols}
use Rattle.wh_terms.specs.Rules.{RewriteRule}
use Rattle.wh_pairs.specs.PairData.{PairData, IsIncreasing}
use Rattle.wh_pairs.proofs.Increasing.{one_place, increasing_at}
use Rattle.wh_pairs.proofs.PairLemmas.{increasing_push}
use Rattle.wh_pairs.proofs.ByPlace.{some_one, contains_at}
use Rattle.wh_poly.specs.Polynomials.{Polynomial}
use Rattle.wh_hopoly.specs.Evaluation.{Run}
use Rattle.wh_hopoly.specs.Moves.{Transfer, IsCover, IsStrictCover}
use Rattle.wh_poly.specs.Erase.{poly, monomials}
use Rattle.wh_hopoly.specs.Erase.{transfer, transfers}
use Rattle.wh_poly.specs.Limits.{weight}
use Rattle.wh_poly.specs.declared.polynomial.Poly.{Poly}
use Rattle.wh_poly.proofs.Lists.{poly_is}
use Rattle.wh_hopoly.specs.declared.expression.Move.{Move}
use Rattle.wh_reduction_pairs.specs.TaskData.{TaskData}
use Rattle.wh_polycheck.specs.Readings.{ReadingsData}
use Rattle.wh_polycheck.specs.CoverFaults.{IsFirstStrictCoverFault}
use Rattle.wh_polycheck.specs.declared.fault.CoverFault.{CoverFault}
use Rattle.wh_polycheck.specs.declared.fault.CoverFault.TheVariants.{BadMove, OverSpent, NotCovered, NotStrict}
use Rattle.wh_polycheck.specs.Covering.{rule_run, pair_run}
use Rattle.wh_system.specs.CanonicalView.{side_of}
use Rattle.wh_hopoly.specs.declared.fault.PolyFault.{PolyFault}
use Rattle.wh_hopoly.specs.declared.fault.PolyFault.TheVariants.{Overflow, TooLarge}
use Rattle.wh_polycheck.specs.SideResults.{HasExcess, IsFaultOfSide, IsFaultOfPairSide}
use Rattle.wh_poly_covering.specs.Lines.{IsSide, IsSomeSide}
use Rattle.wh_poly_moves.specs.Found.{AreCovering, NoneCovers}
use Rattle.wh_poly_guesses.specs.Conditions.{IsMet}
use Rattle.wh_poly_guesses.specs.Lines.{IsLine, HasNoSide, IsNotMet, IsRuleLine, AreRuleLines, IsStrictLine, IsPairLine, IsDroppedLine, ArePairLines}
use Rattle.wh_poly_guesses.specs.declared.lines.PairLine.{PairLine}
use Rattle.wh_pairs.proofs.SetLemmas.{all_from_members}
use Rattle.wh_poly_space.proofs.PushLemmas.{EachAt, each_push, map_push}
use Rattle.wh_poly_covering.proofs.SideLemmas.{count_within}

pub line_of : (a b : Run Polynomial) (p q : Polynomial) (ms : List Transfer) → IsSide a p → IsSide b q → AreCovering p q ms → IsLine a b ms
line_of a b p q ms l r h = record {
  left_side = subst (IsSide a) l.is l;
  right_side = subst (IsSide b) r.is r;
  moves = subst₂ (λ p q. AreCovering p q ms) l.is r.is h;
}

-- where a side or moves are missing

excess : (run : Run Polynomial) (e : PolyFault) → HasExcess (Contains run.values) e → HasNoSide run
excess run (Overflow k) (w, value, over) p side = side.within w value (inl over)
excess run (TooLarge k) (w, value, over) p side = side.within w value (inr over)

pub no_rule_side : (R : ReadingsData) (r : RewriteRule) (right : Bool) (e : PolyFault) → IsFaultOfSide R.symbols r.metas (side_of right r) e → HasNoSide (rule_run R r right)
no_rule_side R r right e fault = excess (rule_run R r right) e fault.0

pub no_pair_side : (S : Symbols) (rules : List RewriteRule) (R : ReadingsData) (p : PairData) (right : Bool) (e : PolyFault)
    → IsFaultOfPairSide S rules R.symbols R.marks p right e → HasNoSide (pair_run S rules R p right)
no_pair_side S rules R p right e fault = excess (pair_run S rules R p right) e fault.0

pub no_left : (a b : Run Polynomial) → HasNoSide a → IsNotMet a b
no_left a b none met = none a.result met.left_side

pub no_right : (a b : Run Polynomial) → HasNoSide b → IsNotMet a b
no_right a b none met = none b.result met.right_side

none_met : (a b : Run Polynomial) (p q : Polynomial) → IsSide a p → IsSide b q → NoneCovers p q → IsNotMet a b
none_met a b p q l r none met = none met.moves (subst₂ (λ p q. IsCover p q met.moves) (sym l.is) (sym r.is) met.covers)

pub line_found : (a b : Run Polynomial) (p q : Polynomial) (found : Result (Option (List Move)) AllocError) → IsSide a p → IsSide b q
    → IfOk found (λ o. MatchOption o (NoneCovers p q) (λ ms. AreCovering p q (transfers ms)))
    → IfOk found (λ o. MatchOption o (IsNotMet a b) (λ ms. IsLine a b (transfers ms)))
line_found a b p q (Ok None) l r none = none_met a b p q l r none
line_found a b p q (Ok (Some ms)) l r covering = line_of a b p q (transfers ms) l r covering
line_found a b p q (Err e) l r h = tt

-- what there is holds of what it is, and what is missing holds

pub matched_some : {A : Type 0} (o : Option A) (x : A) (N : Type 0) (P : A → Type 0) → o ≡ Some x → MatchOption o N P → P x
matched_some None x N P is h = absurd (cc)
matched_some (Some y) x N P is h = let e : y ≡ x = cc in subst P e h

pub matched_none : {A : Type 0} (o : Option A) (N : Type 0) (P : A → Type 0) → o ≡ None → MatchOption o N P → N
matched_none None N P is h = h
matched_none (Some y) N P is h = absurd (cc)

pub told_missing : {A : Type 0} (o : Option A) (N : Type 0) (P : A → Type 0) (told : Bool) → told ≡ is_none o → MatchOption o N P → OnTrue told N
told_missing None N P true is h = h
told_missing None N P false is h = tt
told_missing (Some y) N P true is h = absurd (cc)
told_missing (Some y) N P false is h = tt

-- a side has few monomials

pub few_side : (p : Poly) → IsSomeSide (poly p) → length (monomials p) ≤ 65536
few_side p (run, side) =
    let counted = subst (λ q. length (monomials p) ≤ weight q) (sym (poly_is p)) (count_within (monomials p)) in
    let light : 65536 < weight (poly p) → ⊥ = λ h. side.fits (inr (inl h)) in
    omega (arith, counted, light)

pub few_moves : (a b : Run Polynomial) (ms : List Move) → IsLine a b (transfers ms) → length ms ≤ 2 ^ 32
few_moves a b ms line = omega (arith, line.moves.few, length-map ms transfer)

pub pair_line_of : (a b : Run Polynomial) (p q : Polynomial) (line : PairLine) → IsSide a p → IsSide b q → IsLine a b (transfers line.moves)
    → IsTrue line.strict ↔ IsStrictCover p q (transfers line.moves) → IsPairLine a b line
pair_line_of a b p q line l r is strict = record {
  line_is = is;
  strict_is = subst₂ (λ p q. IsTrue line.strict ↔ IsStrictCover p q (transfers line.moves)) l.is r.is strict;
}

-- a line is strict where some moves show that the left side is greater
pub strict_is_met : (a b : Run Polynomial) (line : PairLine) → IsPairLine a b line → IsTrue line.strict ↔ IsMet a b true
strict_is_met a b line is = (
  λ strict. record {
    left_side = is.line_is.left_side;
    right_side = is.line_is.right_side;
    moves = transfers line.moves;
    covers = is.strict_is.0 strict;
  },
  λ met. is.strict_is.1 (is.line_is.moves.strict met.moves met.covers),
)

-- a fault of a strict cover is that there is none
no_strict_cover : (left right : Polynomial) (ms : List Transfer) (f : CoverFault) → IsFirstStrictCoverFault left right ms f → IsStrictCover left right ms → ⊥
no_strict_cover left right ms (BadMove e) (m, at, bad, before) strict = bad (strict.cover.good m (contains_at ms e m at))
no_strict_cover left right ms (OverSpent i) (good, ((c, us, at, more), before)) strict = let h = strict.cover.not_over_spent i c us at in omega (arith, h, more)
no_strict_cover left right ms (NotCovered j) (good, spent, ((c, us, at, less), before)) strict = let h = strict.cover.covered j c us at in omega (arith, h, less)
no_strict_cover left right ms NotStrict (cover, none) strict = none (strict.constant, strict.first, strict.left_over)

pub strict_decided : (left right : Polynomial) (ms : List Transfer) (r : Result (Unit {0}) CoverFault)
    → MatchResult r (λ _. IsStrictCover left right ms) (IsFirstStrictCoverFault left right ms) → IsTrue (is_ok r) ↔ IsStrictCover left right ms
strict_decided left right ms (Ok x) h = (λ _. h, λ _. refl)
strict_decided left right ms (Err f) h = (λ t. absurd (cc), λ strict. absurd (no_strict_cover left right ms f h strict))

-- rules

pub record HasRuleLines (T : TaskData) (R : ReadingsData) (i : ℕ) (lines : List (List Move)) : Type 0 where
  pub count : length lines ≡ i
  pub each : EachAt (λ k ms. (n : ℕ) → slice_get T.covered k ≡ Some n → IsRuleLine T R n ms) (map transfers lines)

module _ (T : TaskData) (R : ReadingsData) where
  pub rule_lines_none : (lines : List (List Move)) → lines ≡ [] → HasRuleLines T R 0 lines
  rule_lines_none lines none = record {
    count = ap length none;
    each = λ k ms at. absurd (let within = slice_get_within (map transfers lines) k ms at in omega (arith, within, length-map lines transfers, ap length none));
  }

  pub rule_lines_more : (i n : ℕ) (lines new : List (List Move)) (ms : List Move) → HasRuleLines T R i lines → new ≡ lines ++ ms ∷ []
      → slice_get T.covered i ≡ Some n → IsRuleLine T R n (transfers ms) → HasRuleLines T R (i + 1) new
  rule_lines_more i n lines new ms has is place here = record {
    count = omega (arith, ap length is, length-append lines (ms ∷ []), has.count);
    each = each_push (λ k ms. (n : ℕ) → slice_get T.covered k ≡ Some n → IsRuleLine T R n ms)
        (map transfers lines) (map transfers new) (transfers ms) (map_push transfers lines new ms is) has.each
        (λ m at.
        let same : n ≡ m = some_one place (ap (slice_get T.covered) (sym (length-map lines transfers ∙ has.count)) ∙ at) in
        subst (λ (m : ℕ). IsRuleLine T R m (transfers ms)) same here);
  }

  pub rule_lines_all : (i : ℕ) (lines : List (List Move)) → HasRuleLines T R i lines → i ≡ length T.covered → AreRuleLines T R (map transfers lines)
  rule_lines_all i lines has all = record {
    count = length-map lines transfers ∙ has.count ∙ all;
    each = λ k n ms at there. has.each k ms there n at;
  }

-- pairs

module _ (T : TaskData) (R : ReadingsData) where
  pub record HasPairLines (i : ℕ) (lines : List (List Move)) (drop : List ℕ) : Type 0 where
    pub count : length lines ≡ i
    pub each : EachAt (λ k ms. (n : ℕ) → slice_get T.set k ≡ Some n → IsDroppedLine T R drop n ms) (map transfers lines)
    pub increasing : IsIncreasing drop
    pub earlier : (m : ℕ) → Contains drop m → (k : ℕ) × (k < i) × (slice_get T.set k ≡ Some m)

  pub pair_lines_none : (lines : List (List Move)) (drop : List ℕ) → lines ≡ [] → drop ≡ [] → HasPairLines 0 lines drop
  pair_lines_none lines drop none empty = record {
    count = ap length none;
    each = λ k ms at. absurd (let within = slice_get_within (map transfers lines) k ms at in omega (arith, within, length-map lines transfers, ap length none));
    increasing = subst IsIncreasing (sym empty) tt;
    earlier = λ m found. absurd (let (k, within, e) = subst (λ (l : List ℕ). Contains l m) empty found in omega arith);
  }

  module _ (up : IsIncreasing T.set) (i n : ℕ) (p : PairData) (lines new : List (List Move)) (drop : List ℕ) (line : PairLine) (has : HasPairLines i lines drop)
      (place : slice_get T.set i ≡ Some n) (pair : slice_get T.pairs n ≡ Some p) (is : new ≡ lines ++ line.moves ∷ [])
      (found : IsPairLine (pair_run T.symbols T.rules R p false) (pair_run T.symbols T.rules R p true) line) where
    -- what was dropped before is not this pair
    not_yet : Contains drop n → ⊥
    not_yet there = let (k, less, at) = has.earlier n there in let same = one_place T.set k i n up at place in omega (arith, same, less)

    here : (more : List ℕ) → (Contains more n ↔ IsTrue line.strict) → (q : PairData) → slice_get T.pairs n ≡ Some q
        → IsLine (pair_run T.symbols T.rules R q false) (pair_run T.symbols T.rules R q true) (transfers line.moves)
        × (Contains more n ↔ IsStrictLine (pair_run T.symbols T.rules R q false) (pair_run T.symbols T.rules R q true) (transfers line.moves))
    here more dropped q at =
        subst (λ (q : PairData). IsLine (pair_run T.symbols T.rules R q false) (pair_run T.symbols T.rules R q true) (transfers line.moves)
        × (Contains more n ↔ IsStrictLine (pair_run T.symbols T.rules R q false) (pair_run T.symbols T.rules R q true) (transfers line.moves)))
        (some_one pair at) (found.line_is, (λ c. found.strict_is.0 (dropped.0 c), λ s. dropped.1 (found.strict_is.1 s)))

    at_last : (more : List ℕ) → (Contains more n ↔ IsTrue line.strict) → (m : ℕ) → slice_get T.set (length (map transfers lines)) ≡ Some m
        → IsDroppedLine T R more m (transfers line.moves)
    at_last more dropped m at =
        let same : n ≡ m = some_one place (ap (slice_get T.set) (sym (length-map lines transfers ∙ has.count)) ∙ at) in
        subst (λ (m : ℕ). IsDroppedLine T R more m (transfers line.moves)) same (here more dropped)

    count_more : length new ≡ i + 1
    count_more = omega (arith, ap length is, length-append lines (line.moves ∷ []), has.count)

    earlier_more : (m : ℕ) → Contains drop m → (k : ℕ) × (k < i + 1) × (slice_get T.set k ≡ Some m)
    earlier_more m there = let (k, less, at) = has.earlier m there in (k, omega arith, at)

    pub pair_kept : line.strict ≡ false → HasPairLines (i + 1) new drop
    pair_kept kept = record {
      count = count_more;
      each = each_push (λ k ms. (m : ℕ) → slice_get T.set k ≡ Some m → IsDroppedLine T R drop m ms) (map transfers lines) (map transfers new) (transfers line.moves)
          (map_push transfers lines new line.moves is) has.each (at_last drop (λ there. absurd (not_yet there), λ strict. cc));
      increasing = has.increasing;
      earlier = earlier_more;
    }

    -- an earlier pair is dropped as before
    as_before : (longer : List ℕ) → longer ≡ drop ++ n ∷ [] → (k m : ℕ) → k < i → slice_get T.set k ≡ Some m → Contains longer m ↔ Contains drop m
    as_before longer more k m less at = (
      λ there. elim (Contains-push_cases drop n m (subst (λ (l : List ℕ). Contains l m) more there)) [
        | inl before ↦ before
        | inr same ↦ absurd (let one = one_place T.set k i n up (at ∙ ap Some (sym same)) place in omega (arith, one, less))
      ],
      λ there. subst (λ (l : List ℕ). Contains l m) (sym more) (Contains-append_left drop (n ∷ []) m there),
    )

    below_all : All (λ m. m < n) drop
    below_all = all_from_members (λ m. m < n) drop (λ m there.
        let (k, less, at) = has.earlier m there in
        let next = increasing_at T.set k i up less (slice_get_within T.set i n place) in
        omega (arith, next, get_or_from_slice_get T.set k m 0 at, get_or_from_slice_get T.set i n 0 place))

    pub pair_dropped : (longer : List ℕ) → longer ≡ drop ++ n ∷ [] → line.strict ≡ true → HasPairLines (i + 1) new longer
    pair_dropped longer more strict = record {
      count = count_more;
      each = each_push (λ k ms. (m : ℕ) → slice_get T.set k ≡ Some m → IsDroppedLine T R longer m ms) (map transfers lines) (map transfers new) (transfers line.moves)
          (map_push transfers lines new line.moves is)
          (λ k ms there m at q known.
          let within = slice_get_within (map transfers lines) k ms there in
          let old = has.each k ms there m at q known in
          let same = as_before longer more k m (omega (arith, within, length-map lines transfers, has.count)) at in
          (old.0, (λ c. old.1.0 (same.0 c), λ s. same.1 (old.1.1 s))))
          (at_last longer (λ _. strict, λ _. subst (λ (l : List ℕ). Contains l n) (sym more) (Contains-push drop n)));
      increasing = subst IsIncreasing (sym more) (increasing_push drop n has.increasing below_all);
      earlier = λ m there. elim (Contains-push_cases drop n m (subst (λ (l : List ℕ). Contains l m) more there)) [
        | inl before ↦ earlier_more m before
        | inr same ↦ (i, omega arith, place ∙ ap Some same)
      ];
    }

  pub pair_lines_all : (i : ℕ) (lines : List (List Move)) (drop : List ℕ) → HasPairLines i lines drop → i ≡ length T.set
      → ArePairLines T R (map transfers lines) drop
  pair_lines_all i lines drop has all = record {
    count = length-map lines transfers ∙ has.count ∙ all;
    each = λ k n ms at there. has.each k ms there n at;
    increasing = has.increasing;
    within = all_from_members (Contains T.set) drop (λ m there. let (k, less, at) = has.earlier m there in contains_at T.set k m at);
  }
