-- The law of flat sets: interpretations of the space let a pair go just where their coefficients do by what the sides
-- are worth.
use mathlib.Core.Path.{subst₂}
use Rattle.std.proofs.Common.{◌≡◌, inl, inr, ℕ, zero, suc, ◌+◌, ◌≤◌, ◌==◌, if◌then◌else◌, true, false, List, [], ◌∷◌, ◌++◌, length, map, take, get_or, unwrap_or, Some, slice_get, Contains, refl, ap, ap₂, ◌∙◌, sym, subst, arith}
use Rattle.std.proofs.lemmas.List.{length-map}
use Rattle.std.proofs.lemmas.List.Elements.{All-contains}
use Rattle.std.proofs.lemmas.Option.{none-some, same_Some}
use Rattle.wh_types.specs.Ty.{Ty, sort, ◌⇒◌, arguments}
use Rattle.wh_terms.specs.Tree.{Tm, fun, meta, app, Tms, none, more, tms_of, spine}
use Rattle.wh_terms.specs.Sight.{NoFree, AllNoFree}
use Rattle.wh_terms.specs.Typing.{Symbols, Declared, Typed, typed_bound, typed_free, typed_fun, typed_meta, typed_lam, typed_app, AllTyped, typed_more}
use Rattle.wh_terms.specs.Rules.{RewriteRule}
use Rattle.wh_system.specs.Systems.{SystemData}
use Rattle.wh_system.specs.WellMade.{IsWellMadeSystem, IsTypeOver, ArgumentsWithin}
use Rattle.wh_system.specs.Needs.{need_of}
use Rattle.wh_pairs.specs.PairData.{PairData}
use Rattle.wh_pairs.specs.Sets.{InSet}
use Rattle.wh_pairs.specs.Marked.{AreMarked, HeadsASide}
use Rattle.wh_reduction_pairs.specs.TaskData.{TaskData}
use Rattle.wh_pairs.proofs.ByPlace.{contains_at, place_of as placed, unmap}
use Rattle.wh_poly.specs.Polynomials.{Polynomial}
use Rattle.wh_hopoly.specs.Evaluation.{Run, Interpretation, type_at, NormalInterpretations, TypedExpression, evaluate, type_of, symbol}
use Rattle.wh_hopoly.proofs.ValueLaws.{interpretation_is}
use Rattle.wh_hopoly.proofs.ReplaceLaws.{type_is}
use Rattle.wh_hopoly.proofs.NormalWalk.{has_type_within}
use Rattle.wh_polycheck.specs.Sides.{types_of_metas, Interprets}
use Rattle.wh_polycheck.specs.Marks.{Mark, marked_types, marked_kind, marked_interpretation, with_marks, place_of, mark_number, HasMark, AreNormalMarks, HasMarkedSides}
use Rattle.wh_polycheck.specs.Readings.{ReadingsData, AreReadingsFor}
use Rattle.wh_polycheck.specs.Covering.{rule_run, pair_run, HaveTypedSides}
use Rattle.wh_polycheck.proofs.SideTypes.{meta_in_scope, side_typed, side_applied_typed}
use Rattle.wh_polycheck.proofs.MoreInterpretations.{slice_get_front, slice_get_behind, interprets_more, mark_at, mapped, mark_interpreted, normal_with_marks, arguments_of_arrows}
use Rattle.wh_poly_space.specs.Coefficients.{HasCoefficients}
use Rattle.wh_poly_guesses.specs.Coefficients.{HaveCoefficients}
use Rattle.wh_poly_guesses.specs.Conditions.{covers_rule, covers_pair, some_strictly, of_rule, of_pair, of_set, IsMet, LetsGo}
use Rattle.wh_usable_first_order.specs.FirstOrder.{AreSorts, IsFirstOrder, IsFlatTree, AreFlatTrees}
use Rattle.wh_poly_flat.specs.Flat.{IsFlatRule, IsFlatPair, IsFlat, IsListed, occurrences, call_occurrences, task_for}
use Rattle.wh_poly_flat.specs.Worth.{IsAtLeast, IsGreater}
use Rattle.wh_poly_flat.specs.Dominance.{place_among, marked_number, left_call, right_call, LetsGoBy}
use Rattle.wh_poly_flat.proofs.Valued.{IsLinearSymbol, IsRead, run_of}
use Rattle.wh_poly_flat.proofs.ReadLemmas.{linear_symbol}
use Rattle.wh_poly_flat.proofs.Sides.{spine_side, spine_occurrences, IsSideTree, met_if, met_strictly_if, at_least_where, greater_where}

take_sorts : (n : ℕ) (Γ : List Ty) → AreSorts Γ → AreSorts (take n Γ)
take_sorts zero Γ a = tt
take_sorts (suc n) [] a = tt
take_sorts (suc n) (sort s ∷ Γ) a = take_sorts n Γ a
take_sorts (suc n) ((b ⇒ c) ∷ Γ) a = absurd a

take_few : (n : ℕ) (Γ : List Ty) → length (take n Γ) ≤ length Γ
take_few zero Γ = omega arith
take_few (suc n) [] = omega arith
take_few (suc n) (A ∷ Γ) = let e = take_few n Γ in omega (arith, e)

few_arguments : (A : Ty) → ArgumentsWithin 32 A → length (arguments A) ≤ 32
few_arguments (sort s) h = omega arith
few_arguments (a ⇒ b) h = let f = h.0 in omega (arith, f)

type_there : (Γ : List Ty) (f : ℕ) (A : Ty) → slice_get Γ f ≡ Some A → type_at Γ f ≡ A
type_there [] f A e = absurd (none-some A e)
type_there (B ∷ Γ) zero A e = same_Some B A e
type_there (B ∷ Γ) (suc f) A e = type_there Γ f A e

type_few : (Γ : List Ty) → ((A : Ty) → Contains Γ A → length (arguments A) ≤ 32) → (f : ℕ) → length (arguments (type_at Γ f)) ≤ 32
type_few [] h f = omega arith
type_few (A ∷ Γ) h zero = h A (contains_at (A ∷ Γ) 0 A refl)
type_few (A ∷ Γ) h (suc f) = type_few Γ (λ B c. (let (i, at) = placed Γ B c in h B (contains_at (A ∷ Γ) (suc i) B at))) f

-- a flat and typed tree is read
module _ (S : Symbols) (M : List Declared) (I : List Interpretation) (lists : List (List ℕ))
    (known : (f : ℕ) (A : Ty) → slice_get S.funs f ≡ Some A → AreSorts (arguments A) → IsLinearSymbol I (types_of_metas M) lists f) where
  meta_read : (z : ℕ) (ts : Tms) → IsFlatTree S M (meta z ts) → IsRead I (types_of_metas M) lists (meta z ts)
  meta_read z none (s, e) =
      let h = meta_in_scope M [] z (record { args = []; out = sort s }) e in
      (has_type_within (types_of_metas M) z (sort s) h, (s, type_is (types_of_metas M) z (sort s) h))
  meta_read z (more t ts) f = absurd f

  tree_read : {Γ : List Ty} {t : Tm} {a : Ty} → Typed S M Γ t a → IsFlatTree S M t → IsRead I (types_of_metas M) lists t
  tree_read (typed_bound e) f = absurd f
  tree_read (typed_free p) f = absurd f
  tree_read (typed_fun {f = g} {a = a} e) f = known g a e (subst (λ A. AreSorts (arguments A)) (type_there S.funs g a e) f)
  tree_read (typed_meta {z = z} {ts = ts} e ps o) f = meta_read z ts f
  tree_read (typed_lam p q) f = absurd f
  tree_read (typed_app p q) f = (tree_read p f.0, tree_read q f.1)

  spine_read : {cs : List Ty} (h : Tm) (ts : List Tm) → IsRead I (types_of_metas M) lists h → AllTyped S M [] (tms_of ts) cs
      → AreFlatTrees S M ts → IsRead I (types_of_metas M) lists (spine h ts)
  spine_read h [] r p f = r
  spine_read h (t ∷ ts) r (typed_more p ps) f = spine_read (app h t) ts (r, tree_read p f.0) ps f.1

-- the place of a mark by symbols alone
pub place_same : (marks : List Mark) (f : ℕ) → place_of marks f ≡ place_among (map (λ m. m.symbol) marks) f
place_same [] f = refl
place_same (m ∷ marks) f = ap (λ k. if m.symbol == f then 0 else suc k) (place_same marks f)

module _ (d : SystemData) (pairs : List PairData) (set covered : List ℕ) (lists : List (List ℕ)) (R : ReadingsData) (made : IsWellMadeSystem d)
    (typed : HaveTypedSides d.symbols d.rules pairs) (flat : IsFlat (task_for d pairs set covered))
    (readings : AreReadingsFor (task_for d pairs set covered) R) (has : HaveCoefficients (task_for d pairs set covered) lists R) where
  abbrev T : TaskData
  T = task_for d pairs set covered

  abbrev symbols : List Interpretation
  symbols = R.symbols

  abbrev marks : List Mark
  marks = R.marks

  kinds : map (λ s. s.kind) symbols ≡ d.symbols.funs
  kinds = readings.kinds

  marked : AreMarked pairs set (map (λ m. m.symbol) marks)
  marked = readings.marked

  abbrev S : Symbols
  S = d.symbols

  abbrev all : List Interpretation
  all = with_marks S d.rules symbols marks

  interprets : Interprets S symbols
  interprets f a e = let (s, at, k) = unmap (λ (s : Interpretation). s.kind) symbols f a (ap (λ l. slice_get l f) kinds ∙ e) in (s, at, k)

  normal : NormalInterpretations symbols
  normal f s at = (has.of_symbols f s at).of_space.normal

  normal_marks : AreNormalMarks S d.rules marks
  normal_marks m c = let (i, at) = placed marks m c in (has.of_marks i m at).of_space.normal

  each_few : (A : Ty) → Contains S.funs A → length (arguments A) ≤ 32
  each_few A c = few_arguments A (All-contains (IsTypeOver S.sorts) S.funs A made.symbol_types c).narrow

  few_of : (f : ℕ) (A : Ty) → slice_get S.funs f ≡ Some A → length (arguments A) ≤ 32
  few_of f A e = each_few A (contains_at S.funs f A e)

  known_in : (others : List Interpretation) (Γ : List Ty) (f : ℕ) (A : Ty) → slice_get S.funs f ≡ Some A → AreSorts (arguments A)
      → IsLinearSymbol (symbols ++ others) Γ lists f
  known_in others Γ f A e sorts =
      let (s, at, k) = interprets f A e in
      linear_symbol (symbols ++ others) lists Γ f s (slice_get_front symbols others f s at)
      (subst (λ A. AreSorts (arguments A)) (sym k) sorts)
      (subst (λ A. length (arguments A) ≤ 32) (sym k) (few_of f A e)) (has.of_symbols f s at)

  known : (Γ : List Ty) (f : ℕ) (A : Ty) → slice_get S.funs f ≡ Some A → AreSorts (arguments A) → IsLinearSymbol symbols Γ lists f
  known Γ f A e sorts =
      let (s, at, k) = interprets f A e in
      linear_symbol symbols lists Γ f s at
      (subst (λ A. AreSorts (arguments A)) (sym k) sorts)
      (subst (λ A. length (arguments A) ≤ 32) (sym k) (few_of f A e)) (has.of_symbols f s at)

  -- sides of rules
  module _ (r : RewriteRule) (listed : IsListed d.rules covered r) where
    rule_flat : IsFlatRule S r
    rule_flat = flat.rules r listed

    within : Contains d.rules r
    within = let (n, found, at) = listed in contains_at d.rules n r at

    rule_tree : (t : Tm) → IsFlatTree S r.metas t → (s : ℕ) → Typed S r.metas [] t (sort s) → NoFree t → occurrences t ≤ 60
        → IsSideTree symbols (types_of_metas r.metas) lists normal t
    rule_tree t f s p c few =
        let h = side_typed S r.metas symbols interprets (length (types_of_metas r.metas)) refl p c in
        record {
          read = tree_read S r.metas symbols lists (known (types_of_metas r.metas)) p f;
          typed = h.0;
          of = s;
          of_a_sort = h.1;
          few = few;
        }

    left_tree : IsSideTree symbols (types_of_metas r.metas) lists normal r.left
    left_tree = rule_tree r.left rule_flat.left rule_flat.of_a_sort.0 rule_flat.of_a_sort.1 (made.rules.each r within).left_closed rule_flat.left_few

    right_tree : IsSideTree symbols (types_of_metas r.metas) lists normal r.right
    right_tree = rule_tree r.right rule_flat.right rule_flat.of_a_sort.0 rule_flat.of_a_sort.2 (made.rules.each r within).right_closed rule_flat.right_few

    rule_if : IsAtLeast lists r.left r.right → IsMet (rule_run R r false) (rule_run R r true) false
    rule_if = met_if symbols (types_of_metas r.metas) lists normal r.left r.right left_tree right_tree

    rule_where : IsMet (rule_run R r false) (rule_run R r true) false → IsAtLeast lists r.left r.right
    rule_where = at_least_where symbols (types_of_metas r.metas) lists normal r.left r.right left_tree right_tree

  -- sides of pairs
  normal_all : NormalInterpretations all
  normal_all = normal_with_marks S d.rules symbols marks normal normal_marks

  -- a marked symbol is linear
  mark_known : (Γ : List Ty) (f : ℕ) → IsFirstOrder S f → HasMark marks f → IsLinearSymbol all Γ lists (mark_number symbols marks f)
  mark_known Γ f first h =
      let (m, e, k) = mark_at marks f h in
      let i = place_of marks f in
      let at : slice_get all (mark_number symbols marks f) ≡ Some (marked_interpretation S d.rules m) =
      slice_get_behind symbols (map (marked_interpretation S d.rules) marks) i ∙ mapped S d.rules marks i m e in
      let args : arguments (marked_kind S d.rules m.symbol) ≡ marked_types S d.rules m.symbol = arguments_of_arrows (marked_types S d.rules m.symbol) 0 in
      let n = unwrap_or (need_of d.rules m.symbol) 0 in
      let A = arguments (type_at S.funs m.symbol) in
      let sorts : AreSorts (marked_types S d.rules m.symbol) = take_sorts n A (subst (λ f. IsFirstOrder S f) (sym k) first) in
      let few : length (marked_types S d.rules m.symbol) ≤ 32 = (let a = take_few n A in let b = type_few S.funs (λ A c. each_few A c) m.symbol in omega (arith, a, b)) in
      linear_symbol all lists Γ (mark_number symbols marks f) (marked_interpretation S d.rules m) at
      (subst AreSorts (sym args) sorts) (subst (λ Γ. length Γ ≤ 32) (sym args) few)
      (subst (λ Γ. HasCoefficients Γ (get_or lists (mark_number symbols marks f) []) m.polynomial) (sym args) (has.of_marks i m e))

  abbrev of_marks : List ℕ
  of_marks = map (λ (m : Mark). m.symbol) marks

  same_number : (f : ℕ) → mark_number symbols marks f ≡ marked_number S of_marks f
  same_number f = ap₂ (λ a b. a + b) (sym (length-map symbols (λ (s : Interpretation). s.kind)) ∙ ap length kinds) (place_same marks f)

  module _ (p : PairData) (within : InSet pairs set p) where
    pair_flat : IsFlatPair S p
    pair_flat = flat.pairs_of_set p within

    has_mark : (f : ℕ) → HeadsASide f p → HasMark marks f
    has_mark f heads =
        let (n, c, at) = within in
        let (i, there) = placed of_marks f ((marked.each f).1 (n, c, (p, at, heads))) in
        let (m, e, k) = unmap (λ (m : Mark). m.symbol) marks i f there in
        (m, contains_at marks i m e, k)

    left_mark : HasMark marks p.left_fun
    left_mark = has_mark p.left_fun (inl refl)

    right_mark : HasMark marks p.right_fun
    right_mark = has_mark p.right_fun (inr refl)

    sides : HasMarkedSides S d.rules marks p
    sides = let (n, c, at) = within in typed marks p (contains_at pairs n p at) left_mark right_mark

    call_tree : (f : ℕ) (ts : List Tm) → IsFirstOrder S f → HasMark marks f → AllTyped S p.metas [] (tms_of ts) (marked_types S d.rules f)
        → AllNoFree (tms_of ts) → AreFlatTrees S p.metas ts → call_occurrences ts ≤ 60
        → IsSideTree all (types_of_metas p.metas) lists normal_all (spine (fun (mark_number symbols marks f)) ts)
    call_tree f ts first h q c ff few =
        let Γ = types_of_metas p.metas in
        let k = mark_number symbols marks f in
        let (s, e, j) = mark_interpreted S d.rules symbols marks f h in
        let t = side_applied_typed S p.metas all (interprets_more symbols (map (marked_interpretation S d.rules) marks) S interprets) (length Γ) refl
        (symbol k) (sort 0) ((s, e), ap (λ s. s.kind) (interpretation_is all k s e) ∙ j) q c in
        let same = sym (spine_side (length Γ) (fun k) ts) in
        record {
          read = spine_read S p.metas all lists (known_in (map (marked_interpretation S d.rules) marks) Γ) (fun k) ts (mark_known Γ f first h) q ff;
          typed = subst (TypedExpression all Γ) same t.0;
          of = 0;
          of_a_sort = subst (λ e. type_of all Γ e ≡ sort 0) same t.1;
          few = (let o = spine_occurrences (fun k) ts in omega (arith, o, few));
        }

    left_side_tree : IsSideTree all (types_of_metas p.metas) lists normal_all (spine (fun (mark_number symbols marks p.left_fun)) p.left)
    left_side_tree = call_tree p.left_fun p.left pair_flat.left_head left_mark sides.left_typed sides.left_closed pair_flat.left pair_flat.left_few

    right_side_tree : IsSideTree all (types_of_metas p.metas) lists normal_all (spine (fun (mark_number symbols marks p.right_fun)) p.right)
    right_side_tree = call_tree p.right_fun p.right pair_flat.right_head right_mark sides.right_typed sides.right_closed pair_flat.right pair_flat.right_few

    abbrev run_in : Tm → Run Polynomial
    run_in t = run_of all (types_of_metas p.metas) lists t

    abbrev of_left : Tm
    of_left = spine (fun (mark_number symbols marks p.left_fun)) p.left

    abbrev of_right : Tm
    of_right = spine (fun (mark_number symbols marks p.right_fun)) p.right

    left_run : run_in of_left ≡ pair_run S d.rules R p false
    left_run = ap (evaluate all (types_of_metas p.metas)) (spine_side (length (types_of_metas p.metas)) (fun (mark_number symbols marks p.left_fun)) p.left)

    right_run : run_in of_right ≡ pair_run S d.rules R p true
    right_run = ap (evaluate all (types_of_metas p.metas)) (spine_side (length (types_of_metas p.metas)) (fun (mark_number symbols marks p.right_fun)) p.right)

    left_same : of_left ≡ left_call S of_marks p
    left_same = ap (λ k. spine (fun k) p.left) (same_number p.left_fun)

    right_same : of_right ≡ right_call S of_marks p
    right_same = ap (λ k. spine (fun k) p.right) (same_number p.right_fun)

    pair_if : IsAtLeast lists (left_call S of_marks p) (right_call S of_marks p)
        → IsMet (pair_run S d.rules R p false) (pair_run S d.rules R p true) false
    pair_if h = subst₂ (λ a b. IsMet a b false) left_run right_run
        (met_if all (types_of_metas p.metas) lists normal_all of_left of_right left_side_tree right_side_tree
        (subst₂ (IsAtLeast lists) (sym left_same) (sym right_same) h))

    pair_where : IsMet (pair_run S d.rules R p false) (pair_run S d.rules R p true) false
        → IsAtLeast lists (left_call S of_marks p) (right_call S of_marks p)
    pair_where m = subst₂ (IsAtLeast lists) left_same right_same
        (at_least_where all (types_of_metas p.metas) lists normal_all of_left of_right left_side_tree right_side_tree
        (subst₂ (λ a b. IsMet a b false) (sym left_run) (sym right_run) m))

    pair_strictly_if : IsAtLeast lists (left_call S of_marks p) (right_call S of_marks p)
        → IsGreater lists (left_call S of_marks p) (right_call S of_marks p)
        → IsMet (pair_run S d.rules R p false) (pair_run S d.rules R p true) true
    pair_strictly_if h g = subst₂ (λ a b. IsMet a b true) left_run right_run
        (met_strictly_if all (types_of_metas p.metas) lists normal_all of_left of_right left_side_tree right_side_tree
        (subst₂ (IsAtLeast lists) (sym left_same) (sym right_same) h) (subst₂ (IsGreater lists) (sym left_same) (sym right_same) g))

    pair_greater : IsMet (pair_run S d.rules R p false) (pair_run S d.rules R p true) true
        → IsGreater lists (left_call S of_marks p) (right_call S of_marks p)
    pair_greater m = subst₂ (IsGreater lists) left_same right_same
        (greater_where all (types_of_metas p.metas) lists normal_all of_left of_right left_side_tree right_side_tree
        (subst₂ (λ a b. IsMet a b true) (sym left_run) (sym right_run) m))

  pub lets_go_if : LetsGoBy T of_marks lists → LetsGo T R
  lets_go_if by k c (of_rule i n r si at) =
      let listed : IsListed d.rules covered r = (n, contains_at covered i n si, at) in rule_if r listed (by.rules_at_least r listed)
  lets_go_if by k c (of_pair i n p si at) = let within : InSet pairs set p = (n, contains_at set i n si, at) in pair_if p within (by.pairs_at_least p within)
  lets_go_if by k c of_set = let (p, within, g) = by.some_greater in (p, within, pair_strictly_if p within (by.pairs_at_least p within) g)

  pub lets_go_by : LetsGo T R → LetsGoBy T of_marks lists
  lets_go_by go = record {
    rules_at_least = λ r listed. (let (n, c, at) = listed in let (k, si) = placed covered n c in
        rule_where r listed (go k (covers_rule r) (of_rule k n r si at)));
    pairs_at_least = λ p within. (let (n, c, at) = within in let (i, si) = placed set n c in
        pair_where p within (go (length T.covered + i) (covers_pair p) (of_pair i n p si at)));
    some_greater = (let (p, within, m) = go (length T.covered + length set) some_strictly of_set in (p, within, pair_greater p within m));
  }
