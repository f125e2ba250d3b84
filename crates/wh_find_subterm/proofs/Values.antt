-- Values of the variables that say a projection.
use Rattle.std.proofs.Common.{◌≡◌, ℕ, ◌+◌, ◌-◌, ◌<◌, ◌≤◌, ◌&&◌, ◌||◌, inl, inr, Bool, true, false, cond, nat_eq, nat_lt, List, [], ◌∷◌, get_or, ap, ◌∙◌, arith}
use Rattle.std.proofs.lemmas.Bool.{cond-true, cond-false, cases_eq, eqb-true, eq-eqb, ne_eqb, lt-ltb, le-ltb, or_cases, or_left, or_right, and_parts, and_from}
use Rattle.wh_terms.specs.Rules.{RewriteRule}
use Rattle.wh_subterm.specs.Projections.{Chosen}
use Rattle.wh_pairs.specs.PairData.{IsIncreasing}
use Rattle.wh_find_subterm.specs.declared.rows.Row.{Row}
use Rattle.wh_find_subterm.specs.Rows.{choices_of, end_from, row_of, rows_from}
use Rattle.wh_find_subterm.proofs.Members.{In}
use Rattle.wh_find_subterm.proofs.RowLemmas.{row_need, row_within}

-- tests of membership

abbrev pub chosen_with : ℕ → ℕ → Chosen
chosen_with f k = record { symbol = f; argument = k }

abbrev pub is_chosen : List Chosen → ℕ → ℕ → Bool
is_chosen [] f k = false
is_chosen (c ∷ args) f k = (nat_eq c.symbol f && nat_eq c.argument k) || is_chosen args f k

abbrev pub is_member : List ℕ → ℕ → Bool
is_member [] n = false
is_member (m ∷ ns) n = nat_eq m n || is_member ns n

pub chosen_in : (args : List Chosen) (f k : ℕ) → is_chosen args f k ≡ true → In (record { symbol = f; argument = k }) args
chosen_in [] f k is = absurd (grind (arith, is))
chosen_in (c ∷ args) f k is = elim (or_cases (nat_eq c.symbol f && nat_eq c.argument k) (is_chosen args f k) is) [
  | inl here ↦
      let parts = and_parts (nat_eq c.symbol f) (nat_eq c.argument k) here in
      let symbol = eqb-true c.symbol f parts.0 in
      let argument = eqb-true c.argument k parts.1 in
      inl (ap (λ g. chosen_with g c.argument) symbol ∙ ap (chosen_with f) argument)
  | inr later ↦ inr (chosen_in args f k later)
]

pub in_chosen : (args : List Chosen) (f k : ℕ) → In (record { symbol = f; argument = k }) args → is_chosen args f k ≡ true
in_chosen [] f k is = absurd is
in_chosen (c ∷ args) f k (inl here) =
    or_left (nat_eq c.symbol f && nat_eq c.argument k) (is_chosen args f k)
    (and_from (nat_eq c.symbol f) (nat_eq c.argument k) (eq-eqb c.symbol f (ap (λ (d : Chosen). d.symbol) here)) (eq-eqb c.argument k (ap (λ (d : Chosen). d.argument) here)))
in_chosen (c ∷ args) f k (inr later) = or_right (nat_eq c.symbol f && nat_eq c.argument k) (is_chosen args f k) (in_chosen args f k later)

pub member_in : (ns : List ℕ) (n : ℕ) → is_member ns n ≡ true → In n ns
member_in [] n is = absurd (grind (arith, is))
member_in (m ∷ ns) n is = elim (or_cases (nat_eq m n) (is_member ns n) is) [
  | inl here ↦ inl (eqb-true m n here)
  | inr later ↦ inr (member_in ns n later)
]

pub in_member : (ns : List ℕ) (n : ℕ) → In n ns → is_member ns n ≡ true
in_member [] n is = absurd is
in_member (m ∷ ns) n (inl here) = or_left (nat_eq m n) (is_member ns n) (eq-eqb m n here)
in_member (m ∷ ns) n (inr later) = or_right (nat_eq m n) (is_member ns n) (in_member ns n later)

-- the value of a variable of the symbols, counted from their first one: whether its argument is chosen
abbrev pub value_among : List RewriteRule → List Chosen → List ℕ → ℕ → Bool
value_among rules args [] x = false
value_among rules args (f ∷ fs) x = cond (nat_lt x (choices_of rules f)) (is_chosen args f (x + 1)) (value_among rules args fs (x - choices_of rules f))

-- the value of any variable: behind the symbols' ones whether the pair is dropped
abbrev pub value_of : List RewriteRule → List Chosen → List ℕ → List ℕ → List ℕ → ℕ → Bool
value_of rules args drop set fs x = cond (nat_lt x (end_from rules 0 fs)) (value_among rules args fs x) (is_member drop (get_or set (x - end_from rules 0 fs) 0))

row_above : (rules : List RewriteRule) (n : ℕ) (fs : List ℕ) (f : ℕ) → In f fs → n ≤ (row_of (rows_from rules n fs) f).first
row_above rules n [] f is = absurd is
row_above rules n (g ∷ fs) f is =
    let r : Row = record { symbol = g; need = choices_of rules g; first = n } in
    let rest = rows_from rules (n + choices_of rules g) fs in
    elim (cases_eq g f) [
      | inl same ↦
          let first = ap (λ (s : Row). s.first) (cond-true (nat_eq g f) r (row_of rest f) (eq-eqb g f same)) in omega (arith, first)
      | inr other ↦
          let first = ap (λ (s : Row). s.first) (cond-false (nat_eq g f) r (row_of rest f) (ne_eqb g f other)) in
          let later = row_above rules (n + choices_of rules g) fs f (elim is [ inl here ↦ absurd (other here) | inr later ↦ later ]) in omega (arith, first, later)
    ]

among_at : (rules : List RewriteRule) (args : List Chosen) (n : ℕ) (fs : List ℕ) (f i x : ℕ) → In f fs → i < choices_of rules f → n + x ≡ (row_of (rows_from rules n fs) f).first + i
    → value_among rules args fs x ≡ is_chosen args f (i + 1)
among_at rules args n [] f i x is less at = absurd is
among_at rules args n (g ∷ fs) f i x is less at =
    let r : Row = record { symbol = g; need = choices_of rules g; first = n } in
    let rest = rows_from rules (n + choices_of rules g) fs in
    elim (cases_eq g f) [
      | inl same ↦
          let first = ap (λ (s : Row). s.first) (cond-true (nat_eq g f) r (row_of rest f) (eq-eqb g f same)) in
          let x_is : x ≡ i = omega (arith, at, first) in
          let count = ap (choices_of rules) same in
          let below : x < choices_of rules g = omega (arith, x_is, less, count) in
          cond-true (nat_lt x (choices_of rules g)) (is_chosen args g (x + 1)) (value_among rules args fs (x - choices_of rules g)) (lt-ltb x (choices_of rules g) below)
          ∙ ap (λ h. is_chosen args h (x + 1)) same ∙ ap (λ k. is_chosen args f (k + 1)) x_is
      | inr other ↦
          let in_rest : In f fs = elim is [ inl here ↦ absurd (other here) | inr later ↦ later ] in
          let first = ap (λ (s : Row). s.first) (cond-false (nat_eq g f) r (row_of rest f) (ne_eqb g f other)) in
          let above = row_above rules (n + choices_of rules g) fs f in_rest in
          let past : choices_of rules g ≤ x = omega (arith, at, first, above) in
          let moved : n + choices_of rules g + (x - choices_of rules g) ≡ (row_of rest f).first + i = omega (arith, at, first, above) in
          cond-false (nat_lt x (choices_of rules g)) (is_chosen args g (x + 1)) (value_among rules args fs (x - choices_of rules g)) (le-ltb x (choices_of rules g) past)
          ∙ among_at rules args (n + choices_of rules g) fs f i (x - choices_of rules g) in_rest less moved
    ]

pub value_symbol : (rules : List RewriteRule) (args : List Chosen) (drop set fs : List ℕ) (f i : ℕ) → In f fs → i < choices_of rules f
    → value_of rules args drop set fs ((row_of (rows_from rules 0 fs) f).first + i) ≡ is_chosen args f (i + 1)
value_symbol rules args drop set fs f i is less =
    let r = row_of (rows_from rules 0 fs) f in
    let x = r.first + i in
    let inside = row_within rules 0 fs f in
    let need = row_need rules 0 fs f is in
    let below : x < end_from rules 0 fs = omega (arith, inside, need, less) in
    let same : 0 + x ≡ r.first + i = omega arith in
    cond-true (nat_lt x (end_from rules 0 fs)) (value_among rules args fs x) (is_member drop (get_or set (x - end_from rules 0 fs) 0)) (lt-ltb x (end_from rules 0 fs) below)
    ∙ among_at rules args 0 fs f i x is less same

pub value_pair : (rules : List RewriteRule) (args : List Chosen) (drop set fs : List ℕ) (k : ℕ) → value_of rules args drop set fs (end_from rules 0 fs + k) ≡ is_member drop (get_or set k 0)
value_pair rules args drop set fs k =
    let end = end_from rules 0 fs in
    let x = end + k in
    let past : end ≤ x = omega arith in
    let at : x - end ≡ k = omega arith in
    cond-false (nat_lt x end) (value_among rules args fs x) (is_member drop (get_or set (x - end) 0)) (le-ltb x end past) ∙ ap (λ j. is_member drop (get_or set j 0)) at

-- a row of an increasing list of symbols is that of its symbol

above_first : (g : ℕ) (fs : List ℕ) (f : ℕ) → IsIncreasing (g ∷ fs) → In f fs → g < f
above_first g [] f up is = absurd is
above_first g (h ∷ fs) f up (inl here) = omega (arith, up.0, here)
above_first g (h ∷ fs) f up (inr later) = let rest = above_first h fs f up.1 later in omega (arith, up.0, rest)

increasing_rest : (g : ℕ) (fs : List ℕ) → IsIncreasing (g ∷ fs) → IsIncreasing fs
increasing_rest g [] up = tt
increasing_rest g (h ∷ fs) up = up.1

symbol_in : (rules : List RewriteRule) (n : ℕ) (fs : List ℕ) (r : Row) → In r (rows_from rules n fs) → In r.symbol fs
symbol_in rules n [] r is = absurd is
symbol_in rules n (g ∷ fs) r (inl here) = inl (ap (λ (s : Row). s.symbol) here)
symbol_in rules n (g ∷ fs) r (inr later) = inr (symbol_in rules (n + choices_of rules g) fs r later)

pub row_only : (rules : List RewriteRule) (n : ℕ) (fs : List ℕ) (r : Row) → IsIncreasing fs → In r (rows_from rules n fs) → row_of (rows_from rules n fs) r.symbol ≡ r
row_only rules n [] r up is = absurd is
row_only rules n (g ∷ fs) r up (inl here) =
    let first : Row = record { symbol = g; need = choices_of rules g; first = n } in
    cond-true (nat_eq g r.symbol) first (row_of (rows_from rules (n + choices_of rules g) fs) r.symbol) (eq-eqb g r.symbol (ap (λ (s : Row). s.symbol) here)) ∙ here
row_only rules n (g ∷ fs) r up (inr later) =
    let first : Row = record { symbol = g; need = choices_of rules g; first = n } in
    let above = above_first g fs r.symbol up (symbol_in rules (n + choices_of rules g) fs r later) in
    cond-false (nat_eq g r.symbol) first (row_of (rows_from rules (n + choices_of rules g) fs) r.symbol) (ne_eqb g r.symbol (λ same. omega (arith, above, same)))
    ∙ row_only rules (n + choices_of rules g) fs r (increasing_rest g fs up) later
