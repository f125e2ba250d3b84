-- Where no bits make all blocked clauses true, no readings of the space let a pair go: readings that do make each of them
-- true.
use Rattle.std.proofs.Common.{◌≡◌, inl, inr, ℕ, zero, suc, ◌+◌, ◌*◌, ◌<◌, ◌≤◌, Bool, true, false, not, cond, if◌then◌else◌, List, [], ◌∷◌, map, length, get_or, take, Some, slice_get, refl, ap, ap₂, sym, subst, ◌∙◌, arith}
use Rattle.std.proofs.lemmas.Option.{slice_get-get_or}
use Rattle.wh_types.specs.Ty.{Ty, sort, arguments}
use Rattle.wh_reduction_pairs.specs.TaskData.{TaskData}
use Rattle.wh_polycheck.specs.Readings.{ReadingsData}
use Rattle.wh_pairs.proofs.ByPlace.{unmap}
use Rattle.wh_pairs.specs.Marked.{AreMarked}
use Rattle.wh_poly.specs.Polynomials.{Polynomial}
use Rattle.wh_hopoly.specs.Evaluation.{Interpretation}
use Rattle.wh_hopoly.proofs.ValueLaws.{interpretation_is}
use Rattle.wh_polycheck.specs.Marks.{Mark, marked_types}
use Rattle.wh_polycheck.specs.Covering.{IsTypedTask}
use Rattle.wh_proof.proofs.InterpretationLemmas.{marked_one}
use Rattle.wh_sat_trail.specs.declared.literal.Literal.{Literal}
use Rattle.wh_sat.specs.Learning.{Has}
use Rattle.wh_sat.specs.Solving.{SolvesGiven, clause_true, literal_true}
use Rattle.wh_sat.proofs.Assuring.{cases_bool, all_false}
use Rattle.wh_poly_space.specs.Space.{space_of}
use Rattle.wh_poly_space.specs.Coefficients.{capped, HasCoefficients}
use Rattle.wh_poly_guesses.specs.Coefficients.{scopes_of}
use Rattle.wh_poly_guesses.specs.Conditions.{Condition, UsesSymbol, UsesMark, UsesNumber, LetsGo, HasNoInterpretation}
use Rattle.wh_poly_blocking.specs.Bits.{bits_of, first_bit, digits, lists_from, lists_by}
use Rattle.wh_poly_blocking.specs.Tried.{IsBitOf, AreWritten, IsBlocked}
use Rattle.wh_poly_blocking.proofs.Locality.{IsAlike, count_of, meets_alike}
use Rattle.wh_poly_guesses.proofs.Uniqueness.{same_polynomial}
use Rattle.wh_poly_blocking.proofs.Written.{written}

-- bits that agree write the same numbers

digits_alike : (v g : ℕ → Bool) (x k : ℕ) → ((y : ℕ) → y < 2 * k → v (x + y) ≡ g (x + y)) → digits v x k ≡ digits g x k
digits_alike v g x zero alike = refl
digits_alike v g x (suc k) alike =
    let e : x + 0 ≡ x = omega arith in
    let f : x + 1 ≡ suc x = omega arith in
    let first : v x ≡ g x = subst (λ x. v x ≡ g x) e (alike 0 (omega arith)) in
    let second : v (suc x) ≡ g (suc x) = subst (λ x. v x ≡ g x) f (alike 1 (omega arith)) in
    let rest : digits v (2 + x) k ≡ digits g (2 + x) k = digits_alike v g (2 + x) k (λ y below.
    let h : x + suc (suc y) ≡ (2 + x) + y = omega arith in
    subst (λ x. v x ≡ g x) h (alike (suc (suc y)) (omega (arith, below)))) in
    ap₂ (λ c cs. c ∷ cs) (ap₂ (λ a b. (if a then 1 else 0) + (if b then 2 else 0)) first second) rest

none_first : (scopes : List (List Ty)) → first_bit scopes 0 ≡ 0
none_first [] = refl
none_first (Γ ∷ scopes) = refl

lists_alike : (v g : ℕ → Bool) (scopes : List (List Ty)) (n x : ℕ)
    → ((y : ℕ) → first_bit scopes n ≤ y → y < first_bit scopes (suc n) → v (x + y) ≡ g (x + y))
    → get_or (lists_from v x scopes) n [] ≡ get_or (lists_from g x scopes) n []
lists_alike v g [] n x alike = refl
lists_alike v g (Γ ∷ scopes) zero x alike =
    digits_alike v g x (length (space_of Γ)) (λ y below. alike y (omega arith) (omega (arith, below, none_first scopes)))
lists_alike v g (Γ ∷ scopes) (suc n) x alike = lists_alike v g scopes n (bits_of Γ + x) (λ y from below.
    let e : x + (bits_of Γ + y) ≡ (bits_of Γ + x) + y = omega arith in
    subst (λ x. v x ≡ g x) e (alike (bits_of Γ + y) (omega (arith, from)) (omega (arith, below))))

-- a literal that is false tells the value of its variable

pub told : (p a b : Bool) → cond p a (not a) ≡ false → cond p b (not b) ≡ false → a ≡ b
told true a b e f = e ∙ sym f
told false true true e f = refl
told false false b e f = absurd (grind (arith, e))
told false true false e f = absurd (grind (arith, f))

pub opposed : (b : Bool) → cond (not b) b (not b) ≡ false
opposed true = refl
opposed false = refl

module _ (T : TaskData) (marked : List ℕ) where
  -- the coefficients that bits write for the reading with this number
  abbrev list_at : (ℕ → Bool) → ℕ → List ℕ
  list_at v n = get_or (lists_by v (scopes_of T marked)) n []

  module _ (earlier : List (List Literal)) (clause : List Literal) (blocked : IsBlocked T marked earlier clause)
      (v : ℕ → Bool) (wrong : clause_true v clause ≡ false) where
    -- bits that make a blocked clause false agree with its guess on all that is used in its condition
    bits_alike : (x : ℕ) → IsBitOf T marked blocked.condition x → v x ≡ blocked.guess x
    bits_alike x of =
        let l : Literal = record { variable = x; positive = not (blocked.guess x) } in
        let false_there : literal_true blocked.guess l ≡ false = opposed (blocked.guess x) in
        let has : Has clause l = (blocked.literals l).1 (of, false_there) in
        let false_here : literal_true v l ≡ false =
        subst (λ l. literal_true v l ≡ false) (has.is l) (all_false v clause has.place l wrong has.within) in
        told l.positive (v x) (blocked.guess x) false_here false_there

    coefficients_alike : (n : ℕ) → UsesNumber T marked blocked.condition n → list_at v n ≡ list_at blocked.guess n
    coefficients_alike n uses = lists_alike v blocked.guess (scopes_of T marked) n 0 (λ y from below.
        let e : y ≡ 0 + y = omega arith in
        subst (λ x. v x ≡ blocked.guess x) e (bits_alike y (n, uses, from, below)))

  same_coefficients : (Γ Δ : List Ty) (cs ds : List ℕ) (p q : Polynomial) → Γ ≡ Δ → cs ≡ ds
      → HasCoefficients Γ cs p → HasCoefficients Δ ds q → p ≡ q
  same_coefficients Γ Δ cs ds p q scopes lists has also =
      same_polynomial Γ cs ds p q has (subst (λ Γ. HasCoefficients Γ ds q) (sym scopes) also)
      (λ j within. ap (λ cs. capped (get_or cs j 0)) lists)

  -- so the readings that the bits write are alike there
  module _ (v g : ℕ → Bool) (R Q : ReadingsData) (c : Condition)
      (here : AreWritten T marked v R) (there : AreWritten T marked g Q)
      (alike : (n : ℕ) → UsesNumber T marked c n → list_at v n ≡ list_at g n) where
    symbols_alike : (f : ℕ) → f < length T.symbols.funs → UsesSymbol T c f → IsAlike R.symbols Q.symbols f
    symbols_alike f less uses =
        let funs = T.symbols.funs in
        let A = get_or funs f (sort 0) in
        let at : slice_get funs f ≡ Some A = slice_get-get_or funs f (sort 0) less in
        let (s, s_at, s_kind) = unmap (λ (s : Interpretation). s.kind) R.symbols f A (ap (λ l. slice_get l f) here.kinds ∙ at) in
        let (t, t_at, t_kind) = unmap (λ (s : Interpretation). s.kind) Q.symbols f A (ap (λ l. slice_get l f) there.kinds ∙ at) in
        let kinds : s.kind ≡ t.kind = s_kind ∙ sym t_kind in
        let polynomials : s.polynomial ≡ t.polynomial =
        same_coefficients (arguments s.kind) (arguments t.kind) (list_at v f) (list_at g f) s.polynomial t.polynomial (ap arguments kinds)
        (alike f (inl (less, uses))) (here.coefficients.of_symbols f s s_at) (there.coefficients.of_symbols f t t_at) in
        let same : s ≡ t = ap₂ (λ a p. record { kind = a; polynomial = p }) kinds polynomials in
        interpretation_is R.symbols f s s_at ∙ same ∙ sym (interpretation_is Q.symbols f t t_at)

    marks_alike : (i f : ℕ) → slice_get marked i ≡ Some f → UsesMark T c f → slice_get R.marks i ≡ slice_get Q.marks i
    marks_alike i f at uses =
        let (m, m_at, m_is) = unmap (λ (m : Mark). m.symbol) R.marks i f (ap (λ l. slice_get l i) here.marked_are ∙ at) in
        let (n, n_at, n_is) = unmap (λ (m : Mark). m.symbol) Q.marks i f (ap (λ l. slice_get l i) there.marked_are ∙ at) in
        let symbols : m.symbol ≡ n.symbol = m_is ∙ sym n_is in
        let lists : list_at v (length R.symbols + i) ≡ list_at g (length Q.symbols + i) =
        ap (λ k. list_at v (k + i)) (count_of T.symbols R.symbols here.kinds)
        ∙ alike (length T.symbols.funs + i) (inr (i, f, refl, at, uses))
        ∙ ap (λ k. list_at g (k + i)) (sym (count_of T.symbols Q.symbols there.kinds)) in
        let polynomials : m.polynomial ≡ n.polynomial =
        same_coefficients (marked_types T.symbols T.rules m.symbol) (marked_types T.symbols T.rules n.symbol)
        (list_at v (length R.symbols + i)) (list_at g (length Q.symbols + i)) m.polynomial n.polynomial (ap (marked_types T.symbols T.rules) symbols) lists
        (here.coefficients.of_marks i m m_at) (there.coefficients.of_marks i n n_at) in
        let same : m ≡ n = ap₂ (λ f p. record { symbol = f; polynomial = p }) symbols polynomials in
        m_at ∙ ap Some same ∙ sym n_at

  -- bits of readings that let a pair go make every blocked clause true
  blocked_true : IsTypedTask T → AreMarked T.pairs T.set marked
      → (v : ℕ → Bool) (R : ReadingsData) → AreWritten T marked v R → LetsGo T R
      → (earlier : List (List Literal)) (clause : List Literal) → IsBlocked T marked earlier clause
      → clause_true v clause ≡ true
  blocked_true typed are v R here lets earlier clause blocked = elim (cases_bool (clause_true v clause)) [
    | inl right ↦ right
    | inr wrong ↦
        let alike = coefficients_alike earlier clause blocked v wrong in
        let c = blocked.condition in
        let Q = blocked.readings in
        let there = blocked.written in
        absurd (blocked.fails (meets_alike T marked typed are R Q
        here.kinds there.kinds here.marked_are there.marked_are blocked.number c blocked.is
        (symbols_alike v blocked.guess R Q c here there alike)
        (marks_alike v blocked.guess R Q c here there alike)
        (lets blocked.number c blocked.is)))
  ]

-- clauses of which those that were given are blocked, and which no bits solve
pub nothing : (T : TaskData) (marked : List ℕ) (clauses : List (List Literal)) (learnt : List Bool)
    → IsTypedTask T → AreMarked T.pairs T.set marked
    → ((k : ℕ) → k < length clauses → get_or learnt k false ≡ false → IsBlocked T marked (take k clauses) (get_or clauses k []))
    → ((v : ℕ → Bool) → SolvesGiven v clauses learnt → ⊥)
    → HasNoInterpretation T
nothing T marked clauses learnt typed are blocked unsolved R of lets =
    let same : map (λ m. m.symbol) R.marks ≡ marked = marked_one T.pairs T.set (map (λ m. m.symbol) R.marks) marked of.readings.marked are in
    let (v, by) = written T R of in
    let here = subst (λ l. AreWritten T l v R) same by in
    unsolved v (λ k below given.
    blocked_true T marked typed are v R here lets (take k clauses) (get_or clauses k []) (blocked k below given))
