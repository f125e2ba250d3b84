-- Where all rules and pairs are covered, and each pair is kept or strictly covered, calls end if those by the kept
-- pairs do.
use Rattle.std.proofs.Common.{◌≡◌, ℕ, List, [], ◌∷◌, ◌++◌, ◌⊎◌, inl, inr, map, Some, slice_get, Contains, ◌≤◌, ◌<◌, ap₂, sym, subst}
use Rattle.std.specs.Prelude.{take, unwrap_or}
use Rattle.wh_types.specs.Ty.{arguments}
use Rattle.wh_terms.specs.Tree.{Tm, tms_of}
use Rattle.wh_terms.specs.Sight.{OccursIn}
use Rattle.wh_terms.specs.Typing.{Symbols, AllTyped}
use Rattle.wh_terms.specs.Value.{Body}
use Rattle.wh_terms.specs.Rules.{RewriteRule, AreWellMade}
use Rattle.wh_step.specs.Step.{Step}
use Rattle.wh_pairs.specs.PairData.{PairData}
use Rattle.wh_pairs.specs.Sets.{InSet}
use Rattle.wh_proof_calls.specs.MarkedCalls.{IsTypedCall, MarkedCall, AreTypedBodies, PairLeads, ArgumentsStep, CallsEnd}
use Rattle.wh_hopoly.specs.Evaluation.{Interpretation, NormalInterpretations}
use Rattle.wh_polycheck.specs.Sides.{Interprets, RulesAreCovered}
use Rattle.wh_polycheck.specs.Marks.{marked_interpretation, with_marks, mark_number, marked_types, HasMarkedSides}
use Rattle.wh_polycheck.specs.Readings.{ReadingsData, AreProper}
use Rattle.wh_polycheck.proofs.MoreInterpretations.{interprets_more, rules_covered_more, mark_interpreted, normal_with_marks}
use Rattle.wh_poly_meaning.specs.Calls.{call_value, IsMarkedSide, HasTypedBodies}
use Rattle.wh_poly_meaning.specs.PairCovers.{worth_of, PairIsCovered, PairIsStrictlyCovered}
use Rattle.wh_poly_meaning.proofs.TermValues.{at_is}
use Rattle.wh_poly_meaning.proofs.CallValues.{call_reduct_le, covered_call_le, strictly_covered_call_lt}
use Rattle.wh_poly_meaning.proofs.Measures.{ends_numbered}

pub occurs_left : (z : ℕ) (ts us : List Tm) → OccursIn z (tms_of ts) → OccursIn z (tms_of (ts ++ us))
occurs_left z [] us o = absurd o
occurs_left z (t ∷ ts) us (inl o) = inl o
occurs_left z (t ∷ ts) us (inr o) = inr (occurs_left z ts us o)

pub occurs_right : (z : ℕ) (ts us : List Tm) → OccursIn z (tms_of us) → OccursIn z (tms_of (ts ++ us))
occurs_right z [] us o = o
occurs_right z (t ∷ ts) us o = inr (occurs_right z ts us o)

left_bodies : (S : Symbols) (p : PairData) (g : ℕ → Body) → AreTypedBodies S p g → HasTypedBodies S p.metas g (tms_of p.left)
left_bodies S p g b z d o e = b z d (occurs_left z p.left p.right o) e

right_bodies : (S : Symbols) (p : PairData) (g : ℕ → Body) → AreTypedBodies S p g → HasTypedBodies S p.metas g (tms_of p.right)
right_bodies S p g b z d o e = b z d (occurs_right z p.left p.right o) e

-- the types of the arguments of a typed call
typed_at_marked : (S : Symbols) (rules : List RewriteRule) (c : MarkedCall) → IsTypedCall S rules c
    → AllTyped S [] [] (tms_of c.arguments) (marked_types S rules c.symbol)
typed_at_marked S rules c t = subst (AllTyped S [] [] (tms_of c.arguments))
    (ap₂ (λ n a. take (unwrap_or n 0) (arguments a)) (sym t.needed) (sym (at_is S.funs c.symbol t.kind t.known))) t.typed

module _ (S : Symbols) (rules : List RewriteRule) (R : ReadingsData) (proper : AreProper S rules R) where
  -- the interpretations of the symbols, and those of the marked symbols behind them
  abbrev all : List Interpretation
  all = with_marks S rules R.symbols R.marks

  interprets : Interprets S all
  interprets = interprets_more R.symbols (map (marked_interpretation S rules) R.marks) S proper.interpreted

  normal : NormalInterpretations all
  normal = normal_with_marks S rules R.symbols R.marks proper.normal.symbols proper.normal.marks

  -- what a call of the symbol f is worth
  abbrev at_symbol : ℕ → List Tm → ℕ
  at_symbol f ts = call_value S all (mark_number R.symbols R.marks f) (marked_types S rules f) 0 (tms_of ts)

  -- a step in an argument
  pub arguments_worth : AreWellMade S rules → RulesAreCovered R.symbols rules → (c d : MarkedCall) → IsTypedCall S rules c
      → ArgumentsStep (Step rules) c d → worth_of S rules R d ≤ worth_of S rules R c
  arguments_worth well covered c d t a =
      let marked = map (marked_interpretation S rules) R.marks in
      let rules_covered = rules_covered_more R.symbols marked S rules well proper.interpreted covered in
      subst (λ f. at_symbol f d.arguments ≤ worth_of S rules R c) (sym a.symbol)
      (call_reduct_le S all interprets normal rules well rules_covered (mark_number R.symbols R.marks c.symbol)
      (marked_types S rules c.symbol) 0 c.arguments d.arguments (typed_at_marked S rules c t) a.arguments)

  -- the sides of a pair are marked sides
  module _ (p : PairData) (sides : HasMarkedSides S rules R.marks p) where
    left_side : IsMarkedSide S all p.metas (mark_number R.symbols R.marks p.left_fun) (marked_types S rules p.left_fun) 0 (tms_of p.left)
    left_side = record {
      interpreted = mark_interpreted S rules R.symbols R.marks p.left_fun sides.left_marked;
      typed = sides.left_typed;
      closed = sides.left_closed;
    }

    right_side : IsMarkedSide S all p.metas (mark_number R.symbols R.marks p.right_fun) (marked_types S rules p.right_fun) 0
        (tms_of p.right)
    right_side = record {
      interpreted = mark_interpreted S rules R.symbols R.marks p.right_fun sides.right_marked;
      typed = sides.right_typed;
      closed = sides.right_closed;
    }

  -- a covered pair
  pub pair_worth : (p : PairData) (c d : MarkedCall) → PairIsCovered S rules R p → PairLeads S p c d
      → worth_of S rules R d ≤ worth_of S rules R c
  pair_worth p c d k s =
      subst (λ f. worth_of S rules R d ≤ at_symbol f c.arguments) (sym s.left_symbol)
      (subst (λ f. at_symbol f d.arguments ≤ at_symbol p.left_fun c.arguments) (sym s.right_symbol)
      (covered_call_le S all interprets normal p.metas s.bodies (mark_number R.symbols R.marks p.left_fun)
      (marked_types S rules p.left_fun) 0 (tms_of p.left) (tms_of c.arguments) (mark_number R.symbols R.marks p.right_fun)
      (marked_types S rules p.right_fun) 0 (tms_of p.right) (tms_of d.arguments) (left_side p k.sides) (right_side p k.sides)
      (left_bodies S p s.bodies s.typed_bodies) (right_bodies S p s.bodies s.typed_bodies) s.left s.right k.moves k.cover))

  -- a strictly covered pair
  pub strict_pair_worth : (p : PairData) (c d : MarkedCall) → HasMarkedSides S rules R.marks p → PairIsStrictlyCovered S rules R p
      → PairLeads S p c d → worth_of S rules R d < worth_of S rules R c
  strict_pair_worth p c d sides (ms, h) s =
      subst (λ f. worth_of S rules R d < at_symbol f c.arguments) (sym s.left_symbol)
      (subst (λ f. at_symbol f d.arguments < at_symbol p.left_fun c.arguments) (sym s.right_symbol)
      (strictly_covered_call_lt S all interprets normal p.metas s.bodies (mark_number R.symbols R.marks p.left_fun)
      (marked_types S rules p.left_fun) 0 (tms_of p.left) (tms_of c.arguments) (mark_number R.symbols R.marks p.right_fun)
      (marked_types S rules p.right_fun) 0 (tms_of p.right) (tms_of d.arguments) (left_side p sides) (right_side p sides)
      (left_bodies S p s.bodies s.typed_bodies) (right_bodies S p s.bodies s.typed_bodies) s.left s.right ms h))

-- the calls by the kept pairs decide
pub sets_end_by_worth : (S : Symbols) (rules : List RewriteRule) (R : ReadingsData) (pairs : List PairData) (set kept : List ℕ)
    → AreWellMade S rules → AreProper S rules R → RulesAreCovered R.symbols rules
    → ((n : ℕ) (p : PairData) → Contains set n → slice_get pairs n ≡ Some p → PairIsCovered S rules R p)
    → ((n : ℕ) (p : PairData) → Contains set n → slice_get pairs n ≡ Some p → Contains kept n ⊎ PairIsStrictlyCovered S rules R p)
    → CallsEnd S rules (Step rules) (InSet pairs kept) → CallsEnd S rules (Step rules) (InSet pairs set)
sets_end_by_worth S rules R pairs set kept well proper covered each decided =
    ends_numbered (worth_of S rules R) (arguments_worth S rules R proper well covered) (λ p c d (n, inside, at) s.
    by_pair n p c d at (each n p inside at) s.leads (decided n p inside at))
  where
    by_pair : (n : ℕ) (p : PairData) (c d : MarkedCall) → slice_get pairs n ≡ Some p → PairIsCovered S rules R p
        → PairLeads S p c d → Contains kept n ⊎ PairIsStrictlyCovered S rules R p
        → ((InSet pairs kept p × worth_of S rules R d ≤ worth_of S rules R c) ⊎ worth_of S rules R d < worth_of S rules R c)
    by_pair n p c d at k s (inl stays) = inl ((n, stays, at), pair_worth S rules R proper p c d k s)
    by_pair n p c d at k s (inr strict) = inr (strict_pair_worth S rules R proper p c d k.sides strict s)
