-- What is known of the sides of rules and pairs where they are evaluated, and what the evaluation answers.
use Rattle.std.proofs.Common.{◌≡◌, ◌<◌, ℕ, zero, suc, Bool, true, false, List, [], ◌∷◌, length, map, get_or, take, unwrap_or, Result, Ok, Err, IfOk, refl, ap, ap₂, sym, subst, ◌∙◌, arith, Some, slice_get}
use Rattle.std.proofs.lemmas.List.{length-map}
use Rattle.std.proofs.lemmas.Result.{IfOk-weaker}
use mathlib.Core.Path.{subst₂}
use Rattle.wh_types.specs.Ty.{Ty, sort, arguments}
use Rattle.wh_types.specs.Erase.{ty}
use Rattle.wh_types.specs.Outcome.{IfBecause}
use Rattle.wh_types.specs.declared.simple_type.SimpleType.{SimpleType}
use Rattle.wh_types.specs.declared.want.Or.{Or}
use Rattle.wh_types.specs.declared.want.Or.TheVariants.{NoMemory, Because}
use Rattle.wh_terms.specs.Tree.{tms_of}
use Rattle.wh_terms.specs.Typing.{Symbols, Declared}
use Rattle.wh_terms.specs.Rules.{RewriteRule}
use Rattle.wh_terms.specs.Erase.{tm, rewrite_rule, rewrite_rules}
use Rattle.wh_terms.specs.declared.term.Term.{Term}
use Rattle.wh_terms.specs.declared.rule.Rule.{Rule}
use Rattle.wh_terms.proofs.TypingLaws.{some_one}
use Rattle.wh_system.specs.CanonicalView.{side_of}
use Rattle.wh_system.specs.Needs.{need_of}
use Rattle.wh_pairs.specs.PairData.{PairData}
use Rattle.wh_system.specs.Systems.{SystemData}
use Rattle.wh_system.specs.WellMade.{IsWellMadeSystem}
use Rattle.wh_poly.specs.Polynomials.{Polynomial}
use Rattle.wh_hopoly.specs.Evaluation.{Expression, symbol, Interpretation, type_at, evaluate, TypedExpression, Norm, Values}
use Rattle.wh_poly.specs.Limits.{Exceeds}
use Rattle.wh_hopoly.specs.Outcomes.{ComesTo, IsFaultOf, applied_to}
use Rattle.wh_poly.specs.Erase.{poly}
use Rattle.wh_poly.specs.declared.polynomial.Poly.{Poly}
use Rattle.wh_hopoly.specs.declared.fault.PolyFault.{PolyFault}
use Rattle.wh_hopoly.specs.declared.fault.PolyFault.TheVariants.{Overflow, TooLarge}
use Rattle.wh_hopoly.proofs.PartLaws.{part_is_value}
use Rattle.wh_polycheck.specs.Sides.{arrows, types_of_metas, side, side_applied, side_expression, marked_expression, Interprets}
use Rattle.wh_polycheck.specs.Marks.{Mark, marked_kind, with_marks, mark_number, HasMarkedSides, head_of_side, arguments_of_side}
use Rattle.wh_polycheck.specs.SideResults.{HasExcess, SideComesTo, IsFaultOfSide, PairSideComesTo, IsFaultOfPairSide}
use Rattle.wh_polycheck.proofs.MarkedSides.{contains_there, marked_typed, marked_side}
use Rattle.wh_polycheck.proofs.SideTypes.{side_typed}
use Rattle.wh_polycheck.proofs.SideWalk.{applied_in_turn}

-- results

-- a weaker fact of a cause
pub cause_so : {T : Type 0} (r : Result T (Or PolyFault)) (P Q : PolyFault → Type 0) → ((x : PolyFault) → P x → Q x) → IfBecause r P
    → IfBecause r Q
cause_so (Ok x) P Q f h = tt
cause_so (Err NoMemory) P Q f h = tt
cause_so (Err (Because x)) P Q f h = f x h

-- a typed expression that comes to p has p as its normal form
pub normal_within : (symbols : List Interpretation) (Γ : List Ty) (e : Expression) → TypedExpression symbols Γ e → (p : Polynomial)
    → ComesTo (evaluate symbols Γ e) p → Norm symbols Γ e p × ((w : Polynomial) → Values symbols Γ e w → Exceeds w → ⊥)
normal_within symbols Γ e t p (is, none) = ((t, is), none)

-- where the rule of a part gives a value that exceeds a limit, one of all values does
pub fault_exceeds : (symbols : List Interpretation) (Γ : List Ty) (e : Expression) (x : PolyFault) → IsFaultOf symbols Γ e x
    → HasExcess (Values symbols Γ e) x × IsFaultOf symbols Γ e x
fault_exceeds symbols Γ e (Overflow k) (w, v, o) = ((w, part_is_value symbols Γ e k w v, o), (w, v, o))
fault_exceeds symbols Γ e (TooLarge k) (w, v, o) = ((w, part_is_value symbols Γ e k w v, o), (w, v, o))

-- marked symbols

pub mark_kind_told : (S : Symbols) (rules : List RewriteRule) (f n : ℕ) (kinds : List Ty) (k : Ty) → kinds ≡ S.funs
    → n ≡ unwrap_or (need_of rules f) 0 → type_at kinds f ≡ k → arrows (take n (arguments k)) (sort 0) ≡ marked_kind S rules f
mark_kind_told S rules f n kinds k all need there =
    ap₂ (λ n k. arrows (take n (arguments k)) (sort 0)) need (sym there ∙ ap (λ l. type_at l f) all)

-- a function applied to expressions that terms of a side have become
pub call_told : (M : List Declared) (n k l : ℕ) (xs : List Term) (es : List Expression) → n ≡ length (types_of_metas M)
    → es ≡ map (λ t. side n (tm t)) xs → k ≡ l → applied_to (symbol k) es ≡ marked_expression M l (tms_of (map tm xs))
call_told M n k l xs es long made same =
    ap (applied_to (symbol k)) made ∙ applied_in_turn n (symbol k) xs
    ∙ ap₂ (λ n k. side_applied n (symbol k) (tms_of (map tm xs))) long same

-- rules

rewritten : (xs : List Rule) (i : ℕ) (x : Rule) → i < length xs → x ≡ get_or xs i x → slice_get (rewrite_rules xs) i ≡ Some (rewrite_rule x)
rewritten [] i x within there = absurd (omega arith)
rewritten (y ∷ xs) zero x within there = ap (λ r. Some (rewrite_rule r)) (sym there)
rewritten (y ∷ xs) (suc i) x within there = rewritten xs i x (omega arith) there

pub rule_there : (xs : List Rule) (rules : List RewriteRule) (i : ℕ) (x : Rule) → rewrite_rules xs ≡ rules → i < length rules
    → x ≡ get_or xs i x → slice_get rules i ≡ Some (rewrite_rule x)
rule_there xs rules i x are within there =
    let h : i < length xs = omega (arith, within, ap length are, length-map xs rewrite_rule) in
    ap (λ l. slice_get l i) (sym are) ∙ rewritten xs i x h there

-- a side of a rule of a well-made system is a typed expression
pub rule_side_typed : (d : SystemData) → IsWellMadeSystem d → (symbols : List Interpretation) → Interprets d.symbols symbols
    → (i : ℕ) (r : RewriteRule) → slice_get d.rules i ≡ Some r → (right : Bool)
    → TypedExpression symbols (types_of_metas r.metas) (side_expression r.metas (side_of right r))
rule_side_typed d made symbols interprets i r there false =
    let w = made.rules.each r (contains_there d.rules i r there) in
    (side_typed d.symbols r.metas symbols interprets (length (types_of_metas r.metas)) refl w.typed.1 w.left_closed).0
rule_side_typed d made symbols interprets i r there true =
    let w = made.rules.each r (contains_there d.rules i r there) in
    (side_typed d.symbols r.metas symbols interprets (length (types_of_metas r.metas)) refl w.typed.2 w.right_closed).0

-- the scope as it was made is as long as that of the side
pub scope_counted : (kinds : List SimpleType) (Γ : List Ty) (n : ℕ) → map ty kinds ≡ Γ → n ≡ length kinds → n ≡ length Γ
scope_counted kinds Γ n same long = long ∙ sym (length-map kinds ty) ∙ ap length same

-- what is answered for the side b of a rule
pub rule_side_normal : (d : SystemData) → IsWellMadeSystem d → (symbols : List Interpretation) → Interprets d.symbols symbols
    → (i : ℕ) (u : RewriteRule) → slice_get d.rules i ≡ Some u → (right b : Bool) → right ≡ b → (result : Result Poly (Or PolyFault))
    → IfOk result (λ p. ComesTo (evaluate symbols (types_of_metas u.metas) (side_expression u.metas (side_of b u))) (poly p))
    → (r : RewriteRule) → slice_get d.rules i ≡ Some r → IfOk result (λ p. SideComesTo symbols r.metas (side_of right r) (poly p))
rule_side_normal d made symbols interprets i u there right b is result h r e =
    let Γ = types_of_metas u.metas in
    let side = side_expression u.metas (side_of b u) in
    subst₂ (λ r b. IfOk result (λ p. SideComesTo symbols r.metas (side_of b r) (poly p))) (some_one (sym there ∙ e)) (sym is)
    (IfOk-weaker result (λ p. ComesTo (evaluate symbols Γ side) (poly p)) (λ p. SideComesTo symbols u.metas (side_of b u) (poly p))
    (λ p k. normal_within symbols Γ side (rule_side_typed d made symbols interprets i u there b) (poly p) k) h)

pub rule_side_fault : (d : SystemData) (symbols : List Interpretation) (i : ℕ) (u : RewriteRule) → slice_get d.rules i ≡ Some u
    → (right b : Bool) → right ≡ b → (result : Result Poly (Or PolyFault))
    → IfBecause result (IsFaultOf symbols (types_of_metas u.metas) (side_expression u.metas (side_of b u)))
    → (r : RewriteRule) → slice_get d.rules i ≡ Some r → IfBecause result (IsFaultOfSide symbols r.metas (side_of right r))
rule_side_fault d symbols i u there right b is result h r e =
    let Γ = types_of_metas u.metas in
    let side = side_expression u.metas (side_of b u) in
    subst₂ (λ r b. IfBecause result (IsFaultOfSide symbols r.metas (side_of b r))) (some_one (sym there ∙ e)) (sym is)
    (cause_so result (IsFaultOf symbols Γ side) (IsFaultOfSide symbols u.metas (side_of b u)) (λ x k. fault_exceeds symbols Γ side x k) h)

-- and for the side b of a pair
module _ (S : Symbols) (rules : List RewriteRule) (symbols : List Interpretation) (marks : List Mark) (a : PairData) (right b : Bool)
    (is : right ≡ b) (result : Result Poly (Or PolyFault)) where
  abbrev all : List Interpretation
  all = with_marks S rules symbols marks

  -- the side as an expression
  abbrev call : Expression
  call = marked_expression a.metas (mark_number symbols marks (head_of_side a b)) (arguments_of_side a b)

  pub pair_side_normal : Interprets S symbols → HasMarkedSides S rules marks a
      → IfOk result (λ p. ComesTo (evaluate all (types_of_metas a.metas) call) (poly p))
      → IfOk result (λ p. PairSideComesTo S rules symbols marks a right (poly p))
  pair_side_normal interprets sides h =
      let s = marked_side S rules marks a b sides in
      let t = marked_typed S rules symbols marks interprets a.metas (head_of_side a b) (arguments_of_side a b) s.marked s.typed s.closed in
      subst (λ b. IfOk result (λ p. PairSideComesTo S rules symbols marks a b (poly p))) (sym is)
      (IfOk-weaker result (λ p. ComesTo (evaluate all (types_of_metas a.metas) call) (poly p))
      (λ p. PairSideComesTo S rules symbols marks a b (poly p)) (λ p k. normal_within all (types_of_metas a.metas) call t (poly p) k) h)

  pub pair_side_fault : IfBecause result (IsFaultOf all (types_of_metas a.metas) call)
      → IfBecause result (IsFaultOfPairSide S rules symbols marks a right)
  pair_side_fault h =
      subst (λ b. IfBecause result (IsFaultOfPairSide S rules symbols marks a b)) (sym is)
      (cause_so result (IsFaultOf all (types_of_metas a.metas) call) (IsFaultOfPairSide S rules symbols marks a b)
      (λ x k. fault_exceeds all (types_of_metas a.metas) call x k) h)
