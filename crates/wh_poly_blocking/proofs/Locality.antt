-- What a condition comes to depends only on the readings of what is used in it.
use Rattle.std.proofs.Common.{◌≡◌, ◌⊎◌, inl, inr, ℕ, zero, suc, ◌+◌, ◌<◌, ◌≤◌, ◌==◌, Bool, true, false, if◌then◌else◌, List, [], ◌∷◌, ◌++◌, map, length, Some, slice_get, refl, ap, ap₂, sym, subst, subst₂, ◌∙◌, arith}
use Rattle.std.proofs.lemmas.List.{length-map}
use Rattle.std.proofs.lemmas.Option.{slice_get_within}
use Rattle.wh_types.specs.Ty.{Ty, ◌⇒◌}
use Rattle.wh_terms.specs.Tree.{Tm, bound, free, fun, meta, lam, app, Tms, none, more, tms_of}
use Rattle.wh_terms.specs.Typing.{Symbols, Declared, Typed, typed_fun, typed_meta, typed_lam, typed_app, AllTyped, typed_more}
use Rattle.wh_terms.specs.Rules.{RewriteRule}
use Rattle.wh_system.specs.CanonicalView.{side_of}
use Rattle.wh_pairs.specs.PairData.{PairData}
use Rattle.wh_pairs.proofs.ByPlace.{contains_at, remap}
use Rattle.wh_pairs.specs.Marked.{AreMarked, HeadsASide}
use Rattle.wh_reduction_pairs.specs.TaskData.{TaskData}
use Rattle.wh_polycheck.specs.Readings.{ReadingsData}
use Rattle.wh_poly.specs.Arithmetic.{renumber}
use Rattle.wh_hopoly.specs.Evaluation.{one, next, Expression, var, symbol, lambda, apply, Interpretation, interpretation_at, type_of, codomain, apply_one, evaluate}
use Rattle.wh_hopoly.proofs.ValueLaws.{interpretation_is}
use Rattle.wh_polycheck.specs.Sides.{types_of_metas, side, side_applied, side_expression, marked_expression}
use Rattle.wh_polycheck.specs.Marks.{Mark, marked_types, marked_interpretation, with_marks, place_of, mark_number, HasMark, HasMarkedSides, head_of_side, arguments_of_side}
use Rattle.wh_polycheck.proofs.ProperReadings.{marked_head}
use Rattle.wh_polycheck.proofs.MoreInterpretations.{mark_at, mapped}
use Rattle.wh_polycheck.specs.Covering.{rule_run, pair_run, IsTypedTask}
use Rattle.wh_poly_guesses.specs.Conditions.{Condition, covers_rule, covers_pair, some_strictly, IsCondition, of_pair, HasSymbol, SomeHasSymbol, StandsInPair, UsesSymbol, UsesMark, IsMet, Meets}
use Rattle.wh_pairs.specs.Sets.{InSet}

-- the interpretations of a list by number

front : (xs zs : List Interpretation) (f : ℕ) → f < length xs → interpretation_at (xs ++ zs) f ≡ interpretation_at xs f
front [] zs f within = absurd (omega arith)
front (x ∷ xs) zs zero within = refl
front (x ∷ xs) zs (suc f) within = front xs zs f (omega arith)

behind : (xs zs : List Interpretation) (i : ℕ) → interpretation_at (xs ++ zs) (length xs + i) ≡ interpretation_at zs i
behind [] zs i = let e : 0 + i ≡ i = omega arith in ap (interpretation_at zs) e
behind (x ∷ xs) zs i =
    let e : length (x ∷ xs) + i ≡ suc (length xs + i) = omega arith in ap (interpretation_at (x ∷ (xs ++ zs))) e ∙ behind xs zs i

past : (xs ys : List Interpretation) (f : ℕ) → length xs ≤ f → length ys ≤ f → interpretation_at xs f ≡ interpretation_at ys f
past [] [] f h k = refl
past [] (y ∷ ys) zero h k = absurd (omega arith)
past [] (y ∷ ys) (suc f) h k = past [] ys f (omega arith) (omega arith)
past (x ∷ xs) ys zero h k = absurd (omega arith)
past (x ∷ xs) [] (suc f) h k = past xs [] f (omega arith) (omega arith)
past (x ∷ xs) (y ∷ ys) (suc f) h k = past xs ys f (omega arith) (omega arith)

-- the symbol has the same interpretation in both lists
abbrev pub IsAlike : List Interpretation → List Interpretation → ℕ → Type 0
IsAlike xs ys f = interpretation_at xs f ≡ interpretation_at ys f

-- the place of a mark, told by the symbols alone
abbrev place_among : List ℕ → ℕ → ℕ
place_among [] f = 0
place_among (n ∷ ns) f = if n == f then 0 else suc (place_among ns f)

place_is : (ms : List Mark) (f : ℕ) → place_of ms f ≡ place_among (map (λ m. m.symbol) ms) f
place_is [] f = refl
place_is (m ∷ ms) f = ap (λ n. if m.symbol == f then 0 else suc n) (place_is ms f)

module _ (xs ys : List Interpretation) where
  -- the two lists have the same interpretations of the symbols of an expression
  abbrev Agree : Expression → Type 0
  Agree (var x) = Unit {0}
  Agree (symbol f) = IsAlike xs ys f
  Agree (lambda A e) = Agree e
  Agree (apply e d) = Agree e × Agree d

  type_alike : (Γ : List Ty) (e : Expression) → Agree e → type_of xs Γ e ≡ type_of ys Γ e
  type_alike Γ (var x) a = refl
  type_alike Γ (symbol f) a = ap (λ s. s.kind) a
  type_alike Γ (lambda A e) a = ap (λ B. A ⇒ B) (type_alike (Γ ++ A ∷ []) e a)
  type_alike Γ (apply e d) a = ap codomain (type_alike Γ e a.0)

  -- so the evaluations are the same
  evaluate_alike : (Γ : List Ty) (e : Expression) → Agree e → evaluate xs Γ e ≡ evaluate ys Γ e
  evaluate_alike Γ (var x) a = refl
  evaluate_alike Γ (symbol f) a = ap (λ s. one (renumber (λ i. length Γ + i) s.polynomial)) a
  evaluate_alike Γ (lambda A e) a = evaluate_alike (Γ ++ A ∷ []) e a
  evaluate_alike Γ (apply e d) a =
      ap₂ (λ a b. next (evaluate xs Γ e) (λ g. next (evaluate xs Γ d) (λ p. apply_one a (codomain b) Γ g p)))
      (type_alike Γ d a.1) (type_alike Γ e a.0)
      ∙ ap₂ (λ x y. next x (λ g. next y (λ p. apply_one (type_of ys Γ d) (codomain (type_of ys Γ e)) Γ g p)))
      (evaluate_alike Γ e a.0) (evaluate_alike Γ d a.1)

  -- sides in which only symbols stand that are read alike
  mutual
    side_agrees : (n : ℕ) (t : Tm) → ((f : ℕ) → HasSymbol f t → IsAlike xs ys f) → Agree (side n t)
    side_agrees n (bound i) h = tt
    side_agrees n (free x a) h = tt
    side_agrees n (fun f) h = h f refl
    side_agrees n (meta z ts) h = applied_agrees n (var z) ts tt h
    side_agrees n (lam a t) h = side_agrees (suc n) t h
    side_agrees n (app t u) h = (side_agrees n t (λ f s. h f (inl s)), side_agrees n u (λ f s. h f (inr s)))

    applied_agrees : (n : ℕ) (e : Expression) (ts : Tms) → Agree e → ((f : ℕ) → SomeHasSymbol f ts → IsAlike xs ys f)
        → Agree (side_applied n e ts)
    applied_agrees n e none a h = a
    applied_agrees n e (more t ts) a h =
        applied_agrees n (apply e (side n t)) ts (a, side_agrees n t (λ f s. h f (inl s))) (λ f s. h f (inr s))

-- the symbols of a typed tree are of the system

mutual
  symbols_below : (S : Symbols) (M : List Declared) (Γ : List Ty) (t : Tm) (A : Ty) → Typed S M Γ t A
      → (f : ℕ) → HasSymbol f t → f < length S.funs
  symbols_below S M Γ (bound i) A p f h = elim h [ ]
  symbols_below S M Γ (free x a) A p f h = elim h [ ]
  symbols_below S M Γ (fun g) A (typed_fun e) f h = subst (λ g. g < length S.funs) h (slice_get_within S.funs g A e)
  symbols_below S M Γ (meta z ts) A (typed_meta {d = d} e ps i) f h = all_symbols_below S M Γ ts d.args ps f h
  symbols_below S M Γ (lam a t) A (typed_lam {b = b} s p) f h = symbols_below S M (a ∷ Γ) t b p f h
  symbols_below S M Γ (app t u) A (typed_app {a = a} p q) f (inl h) = symbols_below S M Γ t (a ⇒ A) p f h
  symbols_below S M Γ (app t u) A (typed_app {a = a} p q) f (inr h) = symbols_below S M Γ u a q f h

  all_symbols_below : (S : Symbols) (M : List Declared) (Γ : List Ty) (ts : Tms) (As : List Ty) → AllTyped S M Γ ts As
      → (f : ℕ) → SomeHasSymbol f ts → f < length S.funs
  all_symbols_below S M Γ none As ps f h = elim h [ ]
  all_symbols_below S M Γ (more t ts) As (typed_more {a = a} {bs = bs} p ps) f (inl h) = symbols_below S M Γ t a p f h
  all_symbols_below S M Γ (more t ts) As (typed_more {a = a} {bs = bs} p ps) f (inr h) = all_symbols_below S M Γ ts bs ps f h

lt_or_ge : (i j : ℕ) → (i < j) ⊎ (j ≤ i)
lt_or_ge i zero = inr (omega arith)
lt_or_ge zero (suc j) = inl (omega arith)
lt_or_ge (suc i) (suc j) = elim (lt_or_ge i j) [
  | inl less ↦ inl (omega arith)
  | inr not_less ↦ inr (omega arith)
]

pub count_of : (S : Symbols) (xs : List Interpretation) → map (λ s. s.kind) xs ≡ S.funs → length xs ≡ length S.funs
count_of S xs kinds = sym (length-map xs (λ (s : Interpretation). s.kind)) ∙ ap length kinds

module _ (S : Symbols) (R Q : ReadingsData) (xs_kinds : map (λ s. s.kind) R.symbols ≡ S.funs)
    (ys_kinds : map (λ s. s.kind) Q.symbols ≡ S.funs) where
  abbrev xs : List Interpretation
  xs = R.symbols

  abbrev ys : List Interpretation
  ys = Q.symbols

  abbrev ms : List Mark
  ms = R.marks

  abbrev ns : List Mark
  ns = Q.marks

  -- past the end all are alike
  all_alike : (Uses : ℕ → Type 0) → ((f : ℕ) → f < length S.funs → Uses f → IsAlike xs ys f)
      → (f : ℕ) → Uses f → IsAlike xs ys f
  all_alike Uses alike f uses = elim (lt_or_ge f (length S.funs)) [
    | inl less ↦ alike f less uses
    | inr not_less ↦ past xs ys f (omega (arith, count_of S xs xs_kinds)) (omega (arith, count_of S ys ys_kinds))
  ]

  rule_run_alike : (r : RewriteRule) → ((f : ℕ) → f < length S.funs → HasSymbol f r.left ⊎ HasSymbol f r.right → IsAlike xs ys f)
      → (right : Bool) → rule_run R r right ≡ rule_run Q r right
  rule_run_alike r alike right = evaluate_alike xs ys (types_of_metas r.metas) (side_expression r.metas (side_of right r)) (agrees right)
    where
      all : (f : ℕ) → HasSymbol f r.left ⊎ HasSymbol f r.right → IsAlike xs ys f
      all = all_alike (λ f. HasSymbol f r.left ⊎ HasSymbol f r.right) alike

      agrees : (right : Bool) → Agree xs ys (side_expression r.metas (side_of right r))
      agrees false = side_agrees xs ys (length (types_of_metas r.metas)) r.left (λ f s. all f (inl s))
      agrees true = side_agrees xs ys (length (types_of_metas r.metas)) r.right (λ f s. all f (inr s))

  module _ (rules : List RewriteRule) where
    -- a symbol of the system before the marked ones
    symbol_alike : (f : ℕ) → f < length S.funs → IsAlike xs ys f
        → interpretation_at (with_marks S rules xs ms) f ≡ interpretation_at (with_marks S rules ys ns) f
    symbol_alike f less alike =
        front xs (map (marked_interpretation S rules) ms) f (omega (arith, count_of S xs xs_kinds)) ∙ alike
        ∙ sym (front ys (map (marked_interpretation S rules) ns) f (omega (arith, count_of S ys ys_kinds)))

    module _ (same : map (λ m. m.symbol) ms ≡ map (λ m. m.symbol) ns) where
      number_alike : (f : ℕ) → mark_number xs ms f ≡ mark_number ys ns f
      number_alike f =
          ap₂ (λ m n. m + n) (count_of S xs xs_kinds ∙ sym (count_of S ys ys_kinds))
          (place_is ms f ∙ ap (λ l. place_among l f) same ∙ sym (place_is ns f))

      -- a marked symbol whose marks are the same
      mark_alike : (f : ℕ) → HasMark ms f → slice_get ms (place_of ms f) ≡ slice_get ns (place_of ms f)
          → interpretation_at (with_marks S rules xs ms) (mark_number xs ms f)
          ≡ interpretation_at (with_marks S rules ys ns) (mark_number ys ns f)
      mark_alike f has alike =
          let (m, at, is) = mark_at ms f has in
          let i = place_of ms f in
          let s = marked_interpretation S rules m in
          let j : i ≡ place_of ns f = place_is ms f ∙ ap (λ l. place_among l f) same ∙ sym (place_is ns f) in
          behind xs (map (marked_interpretation S rules) ms) i
          ∙ interpretation_is (map (marked_interpretation S rules) ms) i s (mapped S rules ms i m at)
          ∙ sym (interpretation_is (map (marked_interpretation S rules) ns) i s (mapped S rules ns i m (sym alike ∙ at)))
          ∙ ap (interpretation_at (map (marked_interpretation S rules) ns)) j
          ∙ sym (behind ys (map (marked_interpretation S rules) ns) (place_of ns f))

      -- a marked symbol with arguments
      call_alike : (M : List Declared) (f : ℕ) (ts : Tms) → HasMark ms f → slice_get ms (place_of ms f) ≡ slice_get ns (place_of ms f)
          → ((g : ℕ) → SomeHasSymbol g ts → (g < length S.funs) × IsAlike xs ys g)
          → evaluate (with_marks S rules xs ms) (types_of_metas M) (marked_expression M (mark_number xs ms f) ts)
          ≡ evaluate (with_marks S rules ys ns) (types_of_metas M) (marked_expression M (mark_number ys ns f) ts)
      call_alike M f ts has alike all =
          let X = with_marks S rules xs ms in
          let Y = with_marks S rules ys ns in
          ap (λ k. evaluate X (types_of_metas M) (marked_expression M k ts)) (number_alike f)
          ∙ evaluate_alike X Y (types_of_metas M) (marked_expression M (mark_number ys ns f) ts)
          (applied_agrees X Y (length (types_of_metas M)) (symbol (mark_number ys ns f)) ts
          (ap (interpretation_at X) (sym (number_alike f)) ∙ mark_alike f has alike)
          (λ g stands. let known = all g stands in symbol_alike g known.0 known.1))

heads_side : (p : PairData) (right : Bool) → HeadsASide (head_of_side p right) p
heads_side p false = inl refl
heads_side p true = inr refl

stands_side : (p : PairData) (right : Bool) (f : ℕ) → SomeHasSymbol f (arguments_of_side p right) → StandsInPair f p
stands_side p false f s = inl s
stands_side p true f s = inr s

-- the symbols of a pair are of the system
pair_symbols : (S : Symbols) (rules : List RewriteRule) (ms : List Mark) (p : PairData) → HasMarkedSides S rules ms p
    → (f : ℕ) → StandsInPair f p → f < length S.funs
pair_symbols S rules ms p sides f (inl s) =
    all_symbols_below S p.metas [] (tms_of p.left) (marked_types S rules p.left_fun) sides.left_typed f s
pair_symbols S rules ms p sides f (inr s) =
    all_symbols_below S p.metas [] (tms_of p.right) (marked_types S rules p.right_fun) sides.right_typed f s

pair_of : (T : TaskData) (k : ℕ) (p : PairData) → IsCondition T k (covers_pair p) → InSet T.pairs T.set p
pair_of T k p (of_pair i n q at there) = (n, contains_at T.set i n at, there)

module _ (T : TaskData) (marked : List ℕ) (task : IsTypedTask T) (are : AreMarked T.pairs T.set marked) (R Q : ReadingsData)
    (R_kinds : map (λ s. s.kind) R.symbols ≡ T.symbols.funs) (Q_kinds : map (λ s. s.kind) Q.symbols ≡ T.symbols.funs)
    (R_marks : map (λ m. m.symbol) R.marks ≡ marked) (Q_marks : map (λ m. m.symbol) Q.marks ≡ marked) where
  marks_are : AreMarked T.pairs T.set (map (λ m. m.symbol) R.marks)
  marks_are = subst (AreMarked T.pairs T.set) (sym R_marks) are

  pair_run_alike : (p : PairData) → InSet T.pairs T.set p
      → ((f : ℕ) → f < length T.symbols.funs → StandsInPair f p → IsAlike R.symbols Q.symbols f)
      → ((i f : ℕ) → slice_get marked i ≡ Some f → HeadsASide f p → slice_get R.marks i ≡ slice_get Q.marks i)
      → (right : Bool) → pair_run T.symbols T.rules R p right ≡ pair_run T.symbols T.rules Q p right
  pair_run_alike p of alike marks right =
      let ms = R.marks in
      let has : (f : ℕ) → HeadsASide f p → HasMark ms f = λ f heads. marked_head T.pairs T.set ms marks_are p f of heads in
      let h = head_of_side p right in
      let (m, at, is) = mark_at ms h (has h (heads_side p right)) in
      let here : slice_get marked (place_of ms h) ≡ Some h =
      ap (λ l. slice_get l (place_of ms h)) (sym R_marks) ∙ remap (λ (m : Mark). m.symbol) ms (place_of ms h) m at ∙ ap Some is in
      let sides = task.typed ms p (contains_at T.pairs of.0 p of.2) (has p.left_fun (inl refl)) (has p.right_fun (inr refl)) in
      call_alike T.symbols R Q R_kinds Q_kinds T.rules (R_marks ∙ sym Q_marks) p.metas h (arguments_of_side p right)
      (has h (heads_side p right)) (marks (place_of ms h) h here (heads_side p right))
      (λ g stands.
      let s = stands_side p right g stands in
      let less = pair_symbols T.symbols T.rules ms p sides g s in
      (less, alike g less s))

  -- a condition that holds under some readings holds under others that agree on what is used in it
  pub meets_alike : (k : ℕ) (c : Condition) → IsCondition T k c
      → ((f : ℕ) → f < length T.symbols.funs → UsesSymbol T c f → IsAlike R.symbols Q.symbols f)
      → ((i f : ℕ) → slice_get marked i ≡ Some f → UsesMark T c f → slice_get R.marks i ≡ slice_get Q.marks i)
      → Meets T R c → Meets T Q c
  meets_alike k (covers_rule r) is alike marks met =
      let same = rule_run_alike T.symbols R Q R_kinds Q_kinds r alike in
      subst₂ (λ left right. IsMet left right false) (same false) (same true) met
  meets_alike k (covers_pair p) is alike marks met =
      let same = pair_run_alike p (pair_of T k p is) alike marks in
      subst₂ (λ left right. IsMet left right false) (same false) (same true) met
  meets_alike k some_strictly is alike marks (p, of, met) =
      let same = pair_run_alike p of (λ f less stands. alike f less (p, of, stands)) (λ i f at heads. marks i f at (p, of, heads)) in
      (p, of, subst₂ (λ left right. IsMet left right true) (same false) (same true) met)
