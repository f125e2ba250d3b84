-- Symbols and marked symbols that are read by lists of coefficients, one after another or one anew.
use Rattle.std.proofs.Common.{◌≡◌, ◌≢◌, ℕ, zero, suc, ◌+◌, ◌<◌, ◌≤◌, ◌⊎◌, inl, inr, nat_lt, Bool, true, false, cond, List, [], ◌∷◌, ◌++◌, length, map, take, get_or, Some, slice_get, All, refl, ap, sym, subst, ◌∙◌, arith}
use Rattle.std.proofs.Math.ListN.{set}
use Rattle.std.proofs.lemmas.Bool.Decides.{nat_tests}
use Rattle.std.proofs.lemmas.List.{take_more, map-append, length-map, get_or_past}
use Rattle.std.proofs.lemmas.Option.{slice_get_within}
use Rattle.wh_types.specs.Ty.{Ty, arguments}
use Rattle.wh_types.specs.Erase.{ty}
use Rattle.wh_terms.specs.Typing.{Symbols}
use Rattle.wh_terms.specs.Rules.{RewriteRule}
use Rattle.wh_pairs.proofs.ByPlace.{place_of, unmap, remap}
use Rattle.wh_poly.specs.Polynomials.{Polynomial}
use Rattle.wh_reduction_pairs.specs.TaskData.{TaskData}
use Rattle.wh_hopoly.specs.Evaluation.{Interpretation}
use Rattle.wh_hopoly.specs.Erase.{interpretation, interpretations}
use Rattle.wh_hopoly.specs.declared.expression.Symbol.{Symbol}
use Rattle.wh_polycheck.specs.Marks.{Mark, marked_types}
use Rattle.wh_polycheck.specs.Readings.{ReadingsData}
use Rattle.wh_polycheck.specs.SideResults.{mark, marks_of}
use Rattle.wh_polycheck.specs.declared.marks.MarkedSymbol.{MarkedSymbol}
use Rattle.wh_poly_space.specs.Coefficients.{HasCoefficients}
use Rattle.wh_poly_guesses.specs.Coefficients.{HaveCoefficients}
use Rattle.wh_poly_guesses.specs.Guesses.{IsReadSymbol, IsReadMark}
use Rattle.wh_poly_guesses.specs.Reads.{IsReadBy, IsMarkBy, AreReadBy, AreMarksBy, list_of, IsChanged}
use Rattle.wh_pairs.proofs.SetLemmas.{all_from_members}

pub read_as : (Γ Δ : List Ty) (cs ds : List ℕ) (p : Polynomial) → HasCoefficients Γ cs p → Γ ≡ Δ → cs ≡ ds → HasCoefficients Δ ds p
read_as Γ Δ cs ds p has same also = subst (λ (Γ : List Ty). HasCoefficients Γ ds p) same (subst (λ (l : List ℕ). HasCoefficients Γ l p) also has)

pub taken_map : {A B : Type 0} (g : A → B) (xs : List A) (i : ℕ) (x : A) → i < length xs → x ≡ get_or xs i x → map g (take (i + 1) xs) ≡ map g (take i xs) ++ g x ∷ []
taken_map g xs i x within is = ap (map g) (take_more xs i x within) ∙ map-append g (take i xs) (get_or xs i x ∷ []) ∙ ap (λ y. map g (take i xs) ++ g y ∷ []) (sym is)

-- what is the same of the new element at a place is the same of all
pub map_set_same : {A B : Type 0} (g : A → B) (xs : List A) (i : ℕ) (old new : A) → old ≡ get_or xs i old → g new ≡ g old → map g (set xs i new) ≡ map g xs
map_set_same g [] i old new is same = refl
map_set_same g (x ∷ xs) zero old new is same = ap (λ y. y ∷ map g xs) (same ∙ ap g is)
map_set_same g (x ∷ xs) (suc i) old new is same = ap (λ l. g x ∷ l) (map_set_same g xs i old new is same)

-- the new element, and the others
pub set_here : {A : Type 0} (xs : List A) (i : ℕ) (new x : A) → slice_get (set xs i new) i ≡ Some x → new ≡ x
set_here [] i new x at = absurd (cc)
set_here (y ∷ xs) zero new x at = cc
set_here (y ∷ xs) (suc i) new x at = set_here xs i new x at

pub set_others : {A : Type 0} (xs : List A) (i : ℕ) (new : A) (j : ℕ) → j ≢ i → slice_get (set xs i new) j ≡ slice_get xs j
set_others [] i new j apart = refl
set_others (y ∷ xs) zero new zero apart = absurd (apart refl)
set_others (y ∷ xs) zero new (suc j) apart = refl
set_others (y ∷ xs) (suc i) new zero apart = refl
set_others (y ∷ xs) (suc i) new (suc j) apart = set_others xs i new j (λ same. apart (ap suc same))

-- what has coefficients is of the space

pub all_read : (at : ℕ → List ℕ) (symbols : List Symbol) → AreReadBy at symbols → All IsReadSymbol symbols
all_read at symbols read = all_from_members IsReadSymbol symbols (λ s found. let (f, there) = place_of symbols s found in let has = read f s there in has.of_space)

pub all_marks : (S : Symbols) (rules : List RewriteRule) (at : ℕ → List ℕ) (first : ℕ) (marks : List MarkedSymbol) → AreMarksBy S rules at first marks → All (IsReadMark S rules) marks
all_marks S rules at first marks read = all_from_members (IsReadMark S rules) marks (λ m found. let (i, there) = place_of marks m found in let has = read i m there in has.of_space)

-- the coefficients of the program's symbols, and of what these stand for

module _ (T : TaskData) (lists : List (List ℕ)) (symbols : List Symbol) (marks : List MarkedSymbol) where
  abbrev Both : ReadingsData
  Both = record { symbols = interpretations symbols; marks = marks_of marks }

  pub have_coefficients : (first : ℕ) → AreReadBy (list_of lists) symbols → AreMarksBy T.symbols T.rules (list_of lists) first marks
      → first ≡ length symbols → HaveCoefficients T lists Both
  have_coefficients first read read_marks is = record {
    of_symbols = λ f s at.
        let (u, there, same) = unmap interpretation symbols f s at in
        subst (λ (s : Interpretation). HasCoefficients (arguments s.kind) (get_or lists f []) s.polynomial) same (read f u there);
    of_marks = λ i m at.
        let (u, there, same) = unmap mark marks i m at in
        let e : first + i ≡ length (interpretations symbols) + i = omega (arith, is, length-map symbols interpretation) in
        subst (λ (m : Mark). HasCoefficients (marked_types T.symbols T.rules m.symbol) (get_or lists (length (interpretations symbols) + i) []) m.polynomial) same
        (subst (λ (k : ℕ). IsMarkBy T.symbols T.rules (get_or lists k []) u) e (read_marks i u there));
  }

  pub symbols_have : HaveCoefficients T lists Both → AreReadBy (list_of lists) symbols
  symbols_have have f s at = have.of_symbols f (interpretation s) (remap interpretation symbols f s at)

  pub marks_have : HaveCoefficients T lists Both → AreMarksBy T.symbols T.rules (list_of lists) (length symbols) marks
  marks_have have i m at =
      let e : length (interpretations symbols) + i ≡ length symbols + i = omega (arith, length-map symbols interpretation) in
      subst (λ (k : ℕ). IsMarkBy T.symbols T.rules (get_or lists k []) m) e (have.of_marks i (mark m) (remap mark marks i m at))

-- the first lists are new ones, the others old ones

abbrev pub mixed : ℕ → List (List ℕ) → List (List ℕ) → ℕ → List ℕ
mixed n new old k = cond (nat_lt k n) (get_or new k []) (get_or old k [])

pub mixed_none : (new old : List (List ℕ)) (k : ℕ) → list_of old k ≡ mixed 0 new old k
mixed_none new old k = let t : nat_lt k 0 ≡ false = grind (arith, nat_tests) in ap (λ (b : Bool). cond b (get_or new k []) (get_or old k [])) (sym t)

pub mixed_all : (new old : List (List ℕ)) (n : ℕ) → length old ≡ length new → length new ≤ n → (k : ℕ) → mixed n new old k ≡ list_of new k
mixed_all new old n same all k = by (nat_lt k n) refl
  where
    by : (b : Bool) → nat_lt k n ≡ b → cond b (get_or new k []) (get_or old k []) ≡ get_or new k []
    by true t = refl
    by false t =
        let past : n ≤ k = grind (arith, nat_tests, t) in
        get_or_past old k [] (omega (arith, same, all, past)) ∙ sym (get_or_past new k [] (omega (arith, all, past)))

pub mixed_here : (new old : List (List ℕ)) (n : ℕ) → mixed (n + 1) new old n ≡ get_or new n []
mixed_here new old n = let t : nat_lt n (n + 1) ≡ true = grind (arith, nat_tests) in ap (λ (b : Bool). cond b (get_or new n []) (get_or old n [])) t

pub mixed_others : (new old : List (List ℕ)) (n k : ℕ) → k ≢ n → mixed (n + 1) new old k ≡ mixed n new old k
mixed_others new old n k apart = ap (λ (b : Bool). cond b (get_or new k []) (get_or old k [])) (by (nat_lt k n) refl)
  where
    by : (b : Bool) → nat_lt k n ≡ b → nat_lt k (n + 1) ≡ b
    by true t = let less : k < n = grind (arith, nat_tests, t) in grind (arith, nat_tests, less)
    by false t = let past : n ≤ k = grind (arith, nat_tests, t) in let more : n + 1 ≤ k = omega (arith, past, apart) in grind (arith, nat_tests, more)

pub mixed_same : (new old : List (List ℕ)) (n : ℕ) → get_or new n [] ≡ get_or old n [] → (k : ℕ) → mixed (n + 1) new old k ≡ mixed n new old k
mixed_same new old n same k = by (nat_lt k n) (nat_lt k (n + 1)) refl refl
  where
    by : (a b : Bool) → nat_lt k n ≡ a → nat_lt k (n + 1) ≡ b → cond b (get_or new k []) (get_or old k []) ≡ cond a (get_or new k []) (get_or old k [])
    by true true s t = refl
    by false false s t = refl
    by true false s t = let less : k < n = grind (arith, nat_tests, s) in let past : n + 1 ≤ k = grind (arith, nat_tests, t) in absurd (omega (arith, less, past))
    by false true s t =
        let past : n ≤ k = grind (arith, nat_tests, s) in
        let less : k < n + 1 = grind (arith, nat_tests, t) in
        let e : k ≡ n = omega (arith, past, less) in
        subst (λ (j : ℕ). get_or new j [] ≡ get_or old j []) (sym e) same

pub read_same : (at to : ℕ → List ℕ) (symbols : List Symbol) → ((k : ℕ) → at k ≡ to k) → AreReadBy at symbols → AreReadBy to symbols
read_same at to symbols same read f s there = subst (λ (l : List ℕ). IsReadBy l s) (same f) (read f s there)

pub marks_same : (S : Symbols) (rules : List RewriteRule) (at to : ℕ → List ℕ) (first : ℕ) (marks : List MarkedSymbol) → ((k : ℕ) → at k ≡ to k)
    → AreMarksBy S rules at first marks → AreMarksBy S rules to first marks
marks_same S rules at to first marks same read i m there = subst (λ (l : List ℕ). IsMarkBy S rules l m) (same (first + i)) (read i m there)

-- one symbol or marked symbol is read anew

same_or_apart : (i j : ℕ) → (i ≡ j) ⊎ (i ≢ j)
same_or_apart zero zero = inl refl
same_or_apart zero (suc j) = inr (λ e. omega (arith, e))
same_or_apart (suc i) zero = inr (λ e. omega (arith, e))
same_or_apart (suc i) (suc j) = elim (same_or_apart i j) [
  | inl same ↦ inl (ap suc same)
  | inr apart ↦ inr (λ e. apart (omega (arith, e)))
]

pub symbol_changed : (S : Symbols) (rules : List RewriteRule) (number : ℕ) (cs : List ℕ) (xs ys : List Symbol) (ms : List MarkedSymbol) → number < length xs
    → map (λ s. ty s.kind) ys ≡ map (λ s. ty s.kind) xs → ((s : Symbol) → slice_get ys number ≡ Some s → IsReadBy cs s)
    → ((i : ℕ) → i ≢ number → slice_get ys i ≡ slice_get xs i) → IsChanged S rules number cs xs ms ys ms
symbol_changed S rules number cs xs ys ms within kinds here others before after is same read read_marks = (symbols, marks)
  where
    long : length ys ≡ length xs
    long = sym (length-map ys (λ s. ty s.kind)) ∙ ap length kinds ∙ length-map xs (λ s. ty s.kind)

    symbols : AreReadBy after ys
    symbols f s at = elim (same_or_apart f number) [
      | inl e ↦ subst (λ (l : List ℕ). IsReadBy l s) (sym (ap after e ∙ is)) (here s (ap (slice_get ys) (sym e) ∙ at))
      | inr apart ↦ subst (λ (l : List ℕ). IsReadBy l s) (sym (same f apart)) (read f s (sym (others f apart) ∙ at))
    ]

    marks : AreMarksBy S rules after (length ys) ms
    marks i m at =
        let apart : length ys + i ≢ number = λ e. omega (arith, e, long, within) in
        let e : length xs + i ≡ length ys + i = omega (arith, long) in
        subst (λ (l : List ℕ). IsMarkBy S rules l m) (sym (same (length ys + i) apart))
        (subst (λ (k : ℕ). IsMarkBy S rules (before k) m) e (read_marks i m at))

pub mark_changed : (S : Symbols) (rules : List RewriteRule) (number place : ℕ) (cs : List ℕ) (xs : List Symbol) (ms ns : List MarkedSymbol) → number ≡ length xs + place
    → ((m : MarkedSymbol) → slice_get ns place ≡ Some m → IsMarkBy S rules cs m) → ((i : ℕ) → i ≢ place → slice_get ns i ≡ slice_get ms i)
    → IsChanged S rules number cs xs ms xs ns
mark_changed S rules number place cs xs ms ns behind here others before after is same read read_marks = (symbols, marks)
  where
    symbols : AreReadBy after xs
    symbols f s at =
        let within = slice_get_within xs f s at in
        let apart : f ≢ number = λ e. omega (arith, e, within, behind) in
        subst (λ (l : List ℕ). IsReadBy l s) (sym (same f apart)) (read f s at)

    marks : AreMarksBy S rules after (length xs) ns
    marks i m at = elim (same_or_apart i place) [
      | inl e ↦
          let there : length xs + i ≡ number = omega (arith, e, behind) in
          subst (λ (l : List ℕ). IsMarkBy S rules l m) (sym (ap after there ∙ is)) (here m (ap (slice_get ns) (sym e) ∙ at))
      | inr apart ↦
          let other : length xs + i ≢ number = λ f. apart (omega (arith, f, behind)) in
          subst (λ (l : List ℕ). IsMarkBy S rules l m) (sym (same (length xs + i) other)) (read_marks i m (sym (others i apart) ∙ at))
    ]
