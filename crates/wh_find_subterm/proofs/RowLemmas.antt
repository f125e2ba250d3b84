-- The rows of symbols.
use Rattle.std.proofs.Common.{◌≡◌, ℕ, ◌+◌, ◌≤◌, inl, inr, List, [], ◌∷◌, nat_eq, map, refl, sym, ap, subst, ◌∙◌, arith}
use Rattle.std.proofs.lemmas.Bool.{cond-true, cond-false, cases_Bool, eq-eqb, cases_eq, ne_eqb}
use Rattle.wh_terms.specs.Rules.{RewriteRule}
use Rattle.wh_find_subterm.specs.declared.rows.Row.{Row}
use Rattle.wh_find_subterm.specs.Rows.{choices_of, rows_from, end_from, row_of}
use Rattle.wh_find_subterm.proofs.Members.{In}

pub end_above : (rules : List RewriteRule) (n : ℕ) (fs : List ℕ) → n ≤ end_from rules n fs
end_above rules n [] = omega arith
end_above rules n (f ∷ fs) = let later = end_above rules (n + choices_of rules f) fs in omega arith

-- a row of the list

pub record IsRow (rules : List RewriteRule) (n : ℕ) (fs : List ℕ) (r : Row) : Type 0 where
  pub symbol : In r.symbol fs
  pub need : r.need ≡ choices_of rules r.symbol
  pub within : r.first + r.need ≤ end_from rules n fs

pub row_is : (rules : List RewriteRule) (n : ℕ) (fs : List ℕ) (r : Row) → In r (rows_from rules n fs) → IsRow rules n fs r
row_is rules n [] r is = absurd is
row_is rules n (f ∷ fs) r (inl here) =
    let above = end_above rules (n + choices_of rules f) fs in
    let first : n ≡ r.first = ap (λ (s : Row). s.first) here in
    let need : choices_of rules f ≡ r.need = ap (λ (s : Row). s.need) here in
    let symbol : f ≡ r.symbol = ap (λ (s : Row). s.symbol) here in
    record { symbol = inl symbol; need = sym need ∙ ap (choices_of rules) symbol; within = omega (arith, above, first, need) }
row_is rules n (f ∷ fs) r (inr later) =
    let from = row_is rules (n + choices_of rules f) fs r later in
    record { symbol = inr from.symbol; need = from.need; within = from.within }

-- the row of a symbol of the list

pub row_in : (rules : List RewriteRule) (n : ℕ) (fs : List ℕ) (f : ℕ) → In f fs → In (row_of (rows_from rules n fs) f) (rows_from rules n fs)
row_in rules n [] f is = absurd is
row_in rules n (g ∷ fs) f is =
    let r : Row = record { symbol = g; need = choices_of rules g; first = n } in
    let rest = rows_from rules (n + choices_of rules g) fs in
    elim (cases_eq g f) [
      | inl same ↦ inl (sym (cond-true (nat_eq g f) r (row_of rest f) (eq-eqb g f same)))
      | inr other ↦ inr (subst (λ s. In s rest) (sym (cond-false (nat_eq g f) r (row_of rest f) (ne_eqb g f other)))
          (row_in rules (n + choices_of rules g) fs f (elim is [ inl here ↦ absurd (other here) | inr later ↦ later ])))
    ]

pub row_symbol : (rows : List Row) (f : ℕ) → (row_of rows f).symbol ≡ f
row_symbol [] f = refl
row_symbol (r ∷ rows) f = elim (cases_eq r.symbol f) [
  | inl same ↦ ap (λ (s : Row). s.symbol) (cond-true (nat_eq r.symbol f) r (row_of rows f) (eq-eqb r.symbol f same)) ∙ same
  | inr other ↦ ap (λ (s : Row). s.symbol) (cond-false (nat_eq r.symbol f) r (row_of rows f) (ne_eqb r.symbol f other)) ∙ row_symbol rows f
]

pub row_need : (rules : List RewriteRule) (n : ℕ) (fs : List ℕ) (f : ℕ) → In f fs → (row_of (rows_from rules n fs) f).need ≡ choices_of rules f
row_need rules n fs f is =
    let from = row_is rules n fs (row_of (rows_from rules n fs) f) (row_in rules n fs f is) in
    from.need ∙ ap (choices_of rules) (row_symbol (rows_from rules n fs) f)

-- the row of any number ends before the end
pub row_within : (rules : List RewriteRule) (n : ℕ) (fs : List ℕ) (f : ℕ) → (row_of (rows_from rules n fs) f).first + (row_of (rows_from rules n fs) f).need ≤ end_from rules n fs
row_within rules n [] f = omega arith
row_within rules n (g ∷ fs) f =
    let r : Row = record { symbol = g; need = choices_of rules g; first = n } in
    let rest = rows_from rules (n + choices_of rules g) fs in
    let above = end_above rules (n + choices_of rules g) fs in
    elim (cases_Bool (nat_eq g f)) [
      | inl same ↦
          let is = cond-true (nat_eq g f) r (row_of rest f) same in
          let first = ap (λ (s : Row). s.first) is in
          let need = ap (λ (s : Row). s.need) is in omega (arith, above, first, need)
      | inr other ↦ subst (λ (s : Row). s.first + s.need ≤ end_from rules (n + choices_of rules g) fs) (sym (cond-false (nat_eq g f) r (row_of rest f) other)) (row_within rules (n + choices_of rules g) fs f)
    ]

pub row_symbols : (rules : List RewriteRule) (n : ℕ) (fs : List ℕ) → map (λ (r : Row). r.symbol) (rows_from rules n fs) ≡ fs
row_symbols rules n [] = refl
row_symbols rules n (f ∷ fs) = ap (λ gs. f ∷ gs) (row_symbols rules (n + choices_of rules f) fs)
