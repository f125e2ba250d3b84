-- Whether an inference is good for a rule or a pair depends only on the filters of the symbols in the two sides.
use Rattle.std.proofs.Common.{◌≡◌, ℕ, zero, suc, ◌+◌, ◌<◌, Bool, true, false, List, [], ◌∷◌, length, map, None, refl, ap, ap₂, sym, subst, ◌∙◌, arith}
use Rattle.std.proofs.lemmas.List.{length-map}
use Rattle.wh_types.specs.Ty.{Ty, arguments}
use Rattle.wh_terms.specs.Tree.{Tm, fun, tms_of}
use Rattle.wh_terms.specs.Typing.{Symbols, Declared, AllTyped}
use Rattle.wh_terms.specs.Rules.{RewriteRule, IsWellMade}
use Rattle.wh_system.specs.CanonicalView.{side_of}
use Rattle.wh_pairs.specs.PairData.{PairData}
use Rattle.wh_polycheck.specs.Marks.{marked_types}
use Rattle.wh_order_inference.specs.Filters.{Filter}
use Rattle.wh_order_inference.specs.Inferences.{Inference}
use Rattle.wh_order_extended.specs.Kinds.{type_at}
use Rattle.wh_order_extended.specs.Long.{long}
use Rattle.wh_order_extended.specs.ExtendedSides.{extended_metas, extended_side, extended_call, marked_number}
use Rattle.wh_order_extended.specs.Filtered.{sift, collapsed, kept_type, kept_types, precedence, symbol_arity, IsProper}
use Rattle.wh_order_extended.proofs.TypeLists.{typed_length}
use Rattle.wh_order_path.specs.Verdict.{at_least, line_verdict}
use Rattle.wh_order_path.specs.Lines.{filtered_side, filtered_call}
use Rattle.wh_order_node.specs.Filterings.{FilteringData, filters_of, precedences_of, filtered_signature, argument_types}
use Rattle.wh_order_node.specs.Ordering.{IsGoodRule, IsGoodPair}
use Rattle.wh_order.specs.TreeSides.{AreFilters, HasTypedCalls}
use Rattle.wh_order.proofs.FilterLemmas.{type_there, filter_there, symbol_filter, mark_filter_of, mark_proper, proper_marks}
use Rattle.wh_order.proofs.WholeLemmas.{whole_arguments, whole_side}
use Rattle.wh_order_local.specs.Only.{Only, AllOnly}
use Rattle.wh_order_local.proofs.OnlyLemmas.{only_more, only_spine, only_longs, only_side}
use Rattle.wh_order_local.proofs.SiftLocal.{IsPlaced, sift_alike, proper_placed, filtered_only, sift_only, each_sifted, sift_spine}
use Rattle.wh_order_local.proofs.VerdictLocal.{IsAlike, verdict_alike}

kept_alike : (Φ Ψ : ℕ → Filter) (n : ℕ) (css : List (List Ty)) (f : ℕ) → Φ (n + f) ≡ Ψ (n + f)
    → type_at (kept_types Φ n css) f ≡ type_at (kept_types Ψ n css) f
kept_alike Φ Ψ n [] f a = refl
kept_alike Φ Ψ n (cs ∷ css) zero a =
    let e : n + 0 ≡ n = omega arith in
    ap (kept_type cs) (subst (λ m. Φ m ≡ Ψ m) e a)
kept_alike Φ Ψ n (cs ∷ css) (suc f) a =
    let e : n + suc f ≡ suc n + f = omega arith in
    kept_alike Φ Ψ (suc n) css f (subst (λ m. Φ m ≡ Ψ m) e a)

module _ (S : Symbols) (rules : List RewriteRule) (D E : FilteringData) where
  -- the symbol has the same filter in both orders
  abbrev pub HasSame : ℕ → Type 0
  HasSame f = filters_of S D f ≡ filters_of S E f

  alike : (f : ℕ) → HasSame f
      → IsAlike (filtered_signature S rules D) (filtered_signature S rules E) (precedences_of S D) (precedences_of S E) f
  alike f same =
      let e : f ≡ 0 + f = omega arith in record {
        types = kept_alike (filters_of S D) (filters_of S E) 0 (argument_types S rules) f (subst (λ n. filters_of S D n ≡ filters_of S E n) e same);
        precedences = ap precedence same;
      }

  module _ (filters : AreFilters S rules D) where
    places : (f : ℕ) → f < length S.funs → IsPlaced (symbol_arity S f) (filters_of S D f)
    places f low =
        let (w, at) = filter_there D.symbols f (omega (arith, low, filters.each_symbol)) in
        proper_placed (arguments (type_at S.funs f)) (filters_of S D f)
        (subst (IsProper (arguments (type_at S.funs f))) (sym (symbol_filter S D f w low at))
        (filters.symbols f (type_at S.funs f) w (type_there S.funs f low) at).proper)

    -- so of two sides of one tree
    lines_alike : (M : List Declared) (s t u v : Tm) (i : Inference) → Only HasSame s → Only HasSame t → s ≡ u → t ≡ v
        → line_verdict (filtered_signature S rules D) (precedences_of S D) M s t i ≡ None
        → line_verdict (filtered_signature S rules E) (precedences_of S E) M u v i ≡ None
    lines_alike M s t u v i a b left right good =
        ap₂ (λ x y. line_verdict (filtered_signature S rules E) (precedences_of S E) M x y i) (sym left) (sym right)
        ∙ sym (verdict_alike (filtered_signature S rules D) (filtered_signature S rules E) (precedences_of S D) (precedences_of S E) M
        (record { claim = at_least; next = 0; left = s; right = t }) i (
          only_more HasSame (IsAlike (filtered_signature S rules D) (filtered_signature S rules E) (precedences_of S D) (precedences_of S E)) alike s a,
          only_more HasSame (IsAlike (filtered_signature S rules D) (filtered_signature S rules E) (precedences_of S D) (precedences_of S E)) alike t b,
        ))
        ∙ good

    -- a side of a rule
    side_only : (r : RewriteRule) → IsWellMade S r → (right : Bool) → Only HasSame (side_of right r)
        → Only HasSame (filtered_side S (filters_of S D) r (side_of right r))
    side_only r made right a =
        sift_only HasSame S (filters_of S D) places (extended_side S r (side_of right r)) [] (whole_side S r made right)
        (only_side HasSame S r (side_of right r) a) tt

    -- an inference that is good for a rule under one order is good under the other
    pub rule_alike : (r : RewriteRule) (i : Inference) → IsWellMade S r → Only HasSame r.left → Only HasSame r.right
        → IsGoodRule S rules D r i → IsGoodRule S rules E r i
    rule_alike r i made a b good =
        lines_alike (collapsed (extended_metas S r)) (filtered_side S (filters_of S D) r r.left) (filtered_side S (filters_of S D) r r.right)
        (filtered_side S (filters_of S E) r r.left) (filtered_side S (filters_of S E) r r.right) i (side_only r made false a) (side_only r made true b)
        (sift_alike (filters_of S D) (filters_of S E) (extended_side S r r.left) [] (only_side HasSame S r r.left a))
        (sift_alike (filters_of S D) (filters_of S E) (extended_side S r r.right) [] (only_side HasSame S r r.right b)) good

    -- a side of a pair
    call_only : (M : List Declared) (f : ℕ) (ts : List Tm) → AllTyped S M [] (tms_of ts) (marked_types S rules f) → HasSame (marked_number S f)
        → AllOnly HasSame (tms_of ts) → Only HasSame (filtered_call S (filters_of S D) M f ts)
    call_only M f ts typed head_same a =
        let qs : List Tm = map (long S M []) ts in
        let n = marked_number S f in
        let cs = marked_types S rules f in
        let proper : IsProper cs (filters_of S D n) =
        subst (IsProper cs) (sym (mark_filter_of S D f)) (mark_proper D.marks f cs (proper_marks S rules D filters f)) in
        let count : length cs ≡ length (map (λ t. sift (filters_of S D) t []) qs) =
        sym (typed_length ts cs typed) ∙ sym (length-map ts (long S M [])) ∙ sym (length-map qs (λ t. sift (filters_of S D) t [])) in
        subst (Only HasSame) (sym (sift_spine (filters_of S D) n qs))
        (filtered_only HasSame (filters_of S D n) n (map (λ t. sift (filters_of S D) t []) qs) head_same
        (each_sifted HasSame S (filters_of S D) places qs (whole_arguments S M ts cs typed) (only_longs HasSame S M ts a))
        (subst (λ k. IsPlaced k (filters_of S D n)) count (proper_placed cs (filters_of S D n) proper)))

    call_same : (M : List Declared) (f : ℕ) (ts : List Tm) → HasSame (marked_number S f) → AllOnly HasSame (tms_of ts)
        → filtered_call S (filters_of S D) M f ts ≡ filtered_call S (filters_of S E) M f ts
    call_same M f ts head_same a =
        sift_alike (filters_of S D) (filters_of S E) (extended_call S M f ts) []
        (only_spine HasSame (fun (marked_number S f)) (map (long S M []) ts) head_same (only_longs HasSame S M ts a))

    -- and so for a pair
    pub pair_alike : (p : PairData) (i : Inference) → HasTypedCalls S rules p → HasSame (marked_number S p.left_fun)
        → HasSame (marked_number S p.right_fun) → AllOnly HasSame (tms_of p.left) → AllOnly HasSame (tms_of p.right)
        → IsGoodPair S rules D p i → IsGoodPair S rules E p i
    pair_alike p i typed left_head right_head a b good =
        lines_alike (collapsed p.metas) (filtered_call S (filters_of S D) p.metas p.left_fun p.left) (filtered_call S (filters_of S D) p.metas p.right_fun p.right)
        (filtered_call S (filters_of S E) p.metas p.left_fun p.left) (filtered_call S (filters_of S E) p.metas p.right_fun p.right) i
        (call_only p.metas p.left_fun p.left typed.left left_head a) (call_only p.metas p.right_fun p.right typed.right right_head b)
        (call_same p.metas p.left_fun p.left left_head a) (call_same p.metas p.right_fun p.right right_head b) good
