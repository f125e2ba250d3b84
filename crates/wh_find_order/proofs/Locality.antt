-- What a condition on lines comes to depends only on the filters of what is used in it.
use Rattle.std.proofs.Common.{◌≡◌, ◌⊎◌, inl, inr, ℕ, zero, suc, ◌+◌, ◌<◌, ◌==◌, cond, List, [], ◌∷◌, ◌++◌, length, map, Some, slice_get, Contains, refl, ap, sym, ◌∙◌, arith}
use Rattle.std.proofs.lemmas.Bool.{cases_Bool, eqb-true}
use Rattle.std.proofs.lemmas.Option.{slice_get_within}
use Rattle.wh_types.specs.Ty.{Ty, ◌⇒◌}
use Rattle.wh_terms.specs.Tree.{Tm, bound, free, fun, meta, lam, app, Tms, none, more, tms_of}
use Rattle.wh_terms.specs.Typing.{Symbols, Declared, Typed, typed_fun, typed_meta, typed_lam, typed_app, AllTyped, typed_more}
use Rattle.wh_terms.specs.Rules.{RewriteRule, IsWellMade}
use Rattle.wh_pairs.specs.PairData.{PairData}
use Rattle.wh_pairs.specs.Marked.{HeadsASide}
use Rattle.wh_pairs.proofs.ByPlace.{contains_at, remap}
use Rattle.wh_reduction_pairs.specs.TaskData.{TaskData}
use Rattle.wh_polycheck.specs.Marks.{marked_types}
use Rattle.wh_order_inference.specs.FilterText.{WrittenFilter, filter_of}
use Rattle.wh_order_inference.specs.Inferences.{Inference}
use Rattle.wh_order_node.specs.Ordering.{IsGoodPair}
use Rattle.wh_order_extended.specs.ExtendedSides.{marked_number}
use Rattle.wh_order_node.specs.Filterings.{FilteringData, MarkFilter, mark_among}
use Rattle.wh_order.specs.TreeSides.{AreFilters, HasTypedCalls}
use Rattle.wh_order.proofs.FilterLemmas.{symbol_filter, mark_filter_of}
use Rattle.wh_order_local.specs.Only.{Only, AllOnly}
use Rattle.wh_order_local.proofs.OrderLocal.{HasSame, rule_alike, pair_alike}
use Rattle.wh_poly_guesses.specs.Conditions.{Condition, covers_rule, covers_pair, some_strictly, IsCondition, of_rule, of_pair, HasSymbol, SomeHasSymbol, StandsInPair, UsesSymbol, UsesMark, UsesNumber}
use Rattle.wh_order_lines.specs.Oriented.{OrientsRule, OrientsPair, OrientsStrictly}
use Rattle.wh_order_space.specs.Space.{Meets}
use Rattle.wh_find_order.proofs.SpaceLemmas.{all_filters, at_front}

-- what holds of each symbol that stands in a typed tree holds of all its symbols
module _ (P : ℕ → Type 0) (S : Symbols) where
  mutual
    only_typed : (M : List Declared) (Γ : List Ty) (t : Tm) (A : Ty) → Typed S M Γ t A → ((f : ℕ) → f < length S.funs → HasSymbol f t → P f) → Only P t
    only_typed M Γ (bound i) A p h = tt
    only_typed M Γ (free x a) A p h = tt
    only_typed M Γ (fun g) A (typed_fun e) h = h g (slice_get_within S.funs g A e) refl
    only_typed M Γ (meta z ts) A (typed_meta {d = d} e ps i) h = all_typed M Γ ts d.args ps h
    only_typed M Γ (lam a t) A (typed_lam {b = b} s p) h = only_typed M (a ∷ Γ) t b p h
    only_typed M Γ (app t u) A (typed_app {a = a} p q) h =
        (only_typed M Γ t (a ⇒ A) p (λ f less s. h f less (inl s)), only_typed M Γ u a q (λ f less s. h f less (inr s)))

    all_typed : (M : List Declared) (Γ : List Ty) (ts : Tms) (As : List Ty) → AllTyped S M Γ ts As
        → ((f : ℕ) → f < length S.funs → SomeHasSymbol f ts → P f) → AllOnly P ts
    all_typed M Γ none As ps h = tt
    all_typed M Γ (more t ts) As (typed_more {a = a} {bs = bs} p ps) h =
        (only_typed M Γ t a p (λ f less s. h f less (inl s)), all_typed M Γ ts bs ps (λ f less s. h f less (inr s)))

-- the filters of marked symbols
mark_same : (ms ns : List MarkFilter) (f : ℕ) → map (λ m. m.symbol) ms ≡ map (λ m. m.symbol) ns
    → ((i : ℕ) (m n : MarkFilter) → slice_get ms i ≡ Some m → slice_get ns i ≡ Some n → m.symbol ≡ f → m.filter ≡ n.filter)
    → mark_among ms f ≡ mark_among ns f
mark_same [] [] f same alike = refl
mark_same [] (n ∷ ns) f same alike = absurd (cc)
mark_same (m ∷ ms) [] f same alike = absurd (cc)
mark_same (m ∷ ms) (n ∷ ns) f same alike =
    let symbols : m.symbol ≡ n.symbol = cc in
    let rest : mark_among ms f ≡ mark_among ns f = mark_same ms ns f (cc) (λ i a b at there is. alike (suc i) a b at there is) in
    elim (cases_Bool (m.symbol == f)) [
      | inl hit ↦
          let here : m.symbol ≡ f = eqb-true m.symbol f hit in
          let filters : m.filter ≡ n.filter = alike 0 m n refl refl here in
          ap (λ b. cond b (filter_of m.filter) (mark_among ms f)) hit ∙ ap filter_of filters
          ∙ sym (ap (λ b. cond b (filter_of n.filter) (mark_among ns f)) (ap (λ k. k == f) (sym symbols) ∙ hit))
      | inr miss ↦
          ap (λ b. cond b (filter_of m.filter) (mark_among ms f)) miss ∙ rest
          ∙ sym (ap (λ b. cond b (filter_of n.filter) (mark_among ns f)) (ap (λ k. k == f) (sym symbols) ∙ miss))
    ]

module _ (T : TaskData) (marked : List ℕ) (made : (r : RewriteRule) → Contains T.rules r → IsWellMade T.symbols r)
    (typed : (p : PairData) → Contains T.pairs p → HasTypedCalls T.symbols T.rules p)
    (D E : FilteringData) (filters : AreFilters T.symbols T.rules D) (E_symbols : length E.symbols ≡ length T.symbols.funs)
    (D_marks : map (λ m. m.symbol) D.marks ≡ marked) (E_marks : map (λ m. m.symbol) E.marks ≡ marked) where
  abbrev S : Symbols
  S = T.symbols

  abbrev Same : ℕ → Type 0
  Same = HasSame S T.rules D E

  module _ (c : Condition)
      (alike : (n : ℕ) (w u : WrittenFilter) → UsesNumber T marked c n → slice_get (all_filters D) n ≡ Some w → slice_get (all_filters E) n ≡ Some u → w ≡ u) where
    symbol_same : (f : ℕ) → f < length S.funs → UsesSymbol T c f → Same f
    symbol_same f less uses =
        let (w, at) = there D.symbols f (omega (arith, less, filters.each_symbol)) in
        let (u, also) = there E.symbols f (omega (arith, less, E_symbols)) in
        let is = alike f w u (inl (less, uses)) (at_front D.symbols (map (λ (m : MarkFilter). m.filter) D.marks) f w at)
        (at_front E.symbols (map (λ (m : MarkFilter). m.filter) E.marks) f u also) in
        symbol_filter S D f w less at ∙ ap filter_of is ∙ sym (symbol_filter S E f u less also)
      where
        there : (ws : List WrittenFilter) (f : ℕ) → f < length ws → (w : WrittenFilter) × (slice_get ws f ≡ Some w)
        there [] f low = absurd (omega (arith, low))
        there (w ∷ ws) zero low = (w, refl)
        there (w ∷ ws) (suc f) low = there ws f (omega (arith, low))

    behind : (X : FilteringData) (i : ℕ) (m : MarkFilter) → length X.symbols ≡ length S.funs → slice_get X.marks i ≡ Some m
        → slice_get (all_filters X) (length S.funs + i) ≡ Some m.filter
    behind X i m long at =
        ap (λ n. slice_get (all_filters X) (n + i)) (sym long)
        ∙ after X.symbols (map (λ (m : MarkFilter). m.filter) X.marks) i ∙ remap (λ (m : MarkFilter). m.filter) X.marks i m at
      where
        after : (xs ys : List WrittenFilter) (i : ℕ) → slice_get (xs ++ ys) (length xs + i) ≡ slice_get ys i
        after [] ys i = let e : 0 + i ≡ i = omega arith in ap (slice_get ys) e
        after (x ∷ xs) ys i =
            let e : length (x ∷ xs) + i ≡ suc (length xs + i) = omega arith in
            ap (slice_get (x ∷ (xs ++ ys))) e ∙ after xs ys i

    head_same : (f : ℕ) → UsesMark T c f → Same (marked_number S f)
    head_same f uses =
        mark_filter_of S D f
        ∙ mark_same D.marks E.marks f (D_marks ∙ sym E_marks) (λ i m n at also is.
        let here : slice_get marked i ≡ Some f = ap (λ l. slice_get l i) (sym D_marks) ∙ remap (λ (m : MarkFilter). m.symbol) D.marks i m at ∙ ap Some is in
        alike (length S.funs + i) m.filter n.filter (inr (i, f, refl, here, uses)) (behind D i m filters.each_symbol at) (behind E i n E_symbols also))
        ∙ sym (mark_filter_of S E f)

  rule_moved : (r : RewriteRule) → Contains T.rules r → ((f : ℕ) → f < length S.funs → HasSymbol f r.left ⊎ HasSymbol f r.right → Same f)
      → OrientsRule S T.rules D r → OrientsRule S T.rules E r
  rule_moved r found same (i, good, within) =
      let well = made r found in (
        i,
        rule_alike S T.rules D E filters r i well
            (only_typed Same S r.metas [] r.left well.typed.0 well.typed.1 (λ f less s. same f less (inl s)))
            (only_typed Same S r.metas [] r.right well.typed.0 well.typed.2 (λ f less s. same f less (inr s))) good,
        within,
      )

  module _ (p : PairData) (found : Contains T.pairs p) (same : (f : ℕ) → f < length S.funs → StandsInPair f p → Same f)
      (heads : (f : ℕ) → HeadsASide f p → Same (marked_number S f)) where
    good_moved : (i : Inference) → IsGoodPair S T.rules D p i → IsGoodPair S T.rules E p i
    good_moved i good =
        let calls = typed p found in
        pair_alike S T.rules D E filters p i calls (heads p.left_fun (inl refl)) (heads p.right_fun (inr refl))
        (all_typed Same S p.metas [] (tms_of p.left) (marked_types S T.rules p.left_fun) calls.left (λ f less s. same f less (inl s)))
        (all_typed Same S p.metas [] (tms_of p.right) (marked_types S T.rules p.right_fun) calls.right (λ f less s. same f less (inr s))) good

    pair_moved : OrientsPair S T.rules D p → OrientsPair S T.rules E p
    pair_moved (i, good, within) = (i, good_moved i good, within)

    strict_moved : OrientsStrictly S T.rules D p → OrientsStrictly S T.rules E p
    strict_moved (i, good, within, strict) = (i, good_moved i good, within, strict)

  -- a condition that holds under one order holds under another that agrees on what is used in it
  pub meets_moved : (k : ℕ) (c : Condition) → IsCondition T k c
      → ((n : ℕ) (w u : WrittenFilter) → UsesNumber T marked c n → slice_get (all_filters D) n ≡ Some w → slice_get (all_filters E) n ≡ Some u → w ≡ u)
      → Meets T D c → Meets T E c
  meets_moved k (covers_rule r) (of_rule j n r' at there) alike (narrow, orients) =
      (narrow, rule_moved r (contains_at T.rules n r there) (symbol_same (covers_rule r) alike) orients)
  meets_moved k (covers_pair p) (of_pair i n p' at there) alike (narrow, orients) =
      (narrow, pair_moved p (contains_at T.pairs n p there) (symbol_same (covers_pair p) alike) (head_same (covers_pair p) alike) orients)
  meets_moved k some_strictly is alike (n, p, found, there, (narrow, orients)) = (
    n,
    p,
    found,
    there,
    (
      narrow,
      strict_moved p (contains_at T.pairs n p there)
          (λ f less stands. symbol_same some_strictly alike f less (p, (n, found, there), stands))
          (λ f heads. head_same some_strictly alike f (p, (n, found, there), heads)) orients,
    ),
  )
