-- The order of redexes is a strict order, and total.
use Rattle.std.proofs.Common.{◌≡◌, ℕ, zero, suc, ◌<◌, ◌⊎◌, inl, inr, List, [], ◌∷◌, Option, Some, None, refl, ap, ap₂, sym, ◌∙◌, subst, arith}
use Rattle.std.specs.Prelude.{Contains}
use Rattle.wh_step.specs.Reducts.{IsBefore, IsEarlier, Redex, Precedes, InOrder}

-- none comes before itself

before_irrefl : (p : List ℕ) → IsBefore p p → ⊥
before_irrefl [] h = h
before_irrefl (d ∷ p) (inl h) = omega arith
before_irrefl (d ∷ p) (inr h) = before_irrefl p h.1

earlier_irrefl : (k : Option ℕ) → IsEarlier k k → ⊥
earlier_irrefl None h = h
earlier_irrefl (Some k) h = omega arith

pub precedes_irrefl : (a : Redex) → Precedes a a → ⊥
precedes_irrefl a (inl h) = before_irrefl a.path h
precedes_irrefl a (inr h) = earlier_irrefl a.rule h.1

-- what comes before one comes before those behind it

before_trans : (p q r : List ℕ) → IsBefore p q → IsBefore q r → IsBefore p r
before_trans [] [] r h k = absurd h
before_trans [] (e ∷ q) [] h k = absurd k
before_trans [] (e ∷ q) (f ∷ r) h k = tt
before_trans (d ∷ p) [] r h k = absurd h
before_trans (d ∷ p) (e ∷ q) [] h k = absurd k
before_trans (d ∷ p) (e ∷ q) (f ∷ r) (inl h) (inl k) = inl (omega arith)
before_trans (d ∷ p) (e ∷ q) (f ∷ r) (inl h) (inr k) = inl (subst (λ (n : ℕ). d < n) k.0 h)
before_trans (d ∷ p) (e ∷ q) (f ∷ r) (inr h) (inl k) = inl (subst (λ (n : ℕ). n < f) (sym h.0) k)
before_trans (d ∷ p) (e ∷ q) (f ∷ r) (inr h) (inr k) = inr (h.0 ∙ k.0, before_trans p q r h.1 k.1)

earlier_trans : (j k l : Option ℕ) → IsEarlier j k → IsEarlier k l → IsEarlier j l
earlier_trans None None l h k = absurd h
earlier_trans None (Some k) None h l = absurd l
earlier_trans None (Some k) (Some l) h m = tt
earlier_trans (Some j) None l h k = absurd h
earlier_trans (Some j) (Some k) None h l = absurd l
earlier_trans (Some j) (Some k) (Some l) h m = omega arith

pub precedes_trans : (a b c : Redex) → Precedes a b → Precedes b c → Precedes a c
precedes_trans a b c (inl h) (inl k) = inl (before_trans a.path b.path c.path h k)
precedes_trans a b c (inl h) (inr k) = inl (subst (IsBefore a.path) k.0 h)
precedes_trans a b c (inr h) (inl k) = inl (subst (λ (p : List ℕ). IsBefore p c.path) (sym h.0) k)
precedes_trans a b c (inr h) (inr k) = inr (h.0 ∙ k.0, earlier_trans a.rule b.rule c.rule h.1 k.1)

-- of two one comes before the other, or they are one

number_cases : (i j : ℕ) → (i < j) ⊎ ((i ≡ j) ⊎ (j < i))
number_cases zero zero = inr (inl refl)
number_cases zero (suc j) = inl (omega arith)
number_cases (suc i) zero = inr (inr (omega arith))
number_cases (suc i) (suc j) = one_more (number_cases i j)
  where
    one_more : (i < j) ⊎ ((i ≡ j) ⊎ (j < i)) → (suc i < suc j) ⊎ ((suc i ≡ suc j) ⊎ (suc j < suc i))
    one_more (inl h) = inl (omega arith)
    one_more (inr (inl h)) = inr (inl (ap suc h))
    one_more (inr (inr h)) = inr (inr (omega arith))

path_cases : (p q : List ℕ) → IsBefore p q ⊎ ((p ≡ q) ⊎ IsBefore q p)
path_cases [] [] = inr (inl refl)
path_cases [] (e ∷ q) = inl tt
path_cases (d ∷ p) [] = inr (inr tt)
path_cases (d ∷ p) (e ∷ q) = by_head (path_cases p q) (number_cases d e)
  where
    by_rest : d ≡ e → IsBefore p q ⊎ ((p ≡ q) ⊎ IsBefore q p) → IsBefore (d ∷ p) (e ∷ q) ⊎ ((d ∷ p ≡ e ∷ q) ⊎ IsBefore (e ∷ q) (d ∷ p))
    by_rest same (inl h) = inl (inr (same, h))
    by_rest same (inr (inl h)) = inr (inl (ap₂ (λ (n : ℕ) (l : List ℕ). n ∷ l) same h))
    by_rest same (inr (inr h)) = inr (inr (inr (sym same, h)))

    by_head : IsBefore p q ⊎ ((p ≡ q) ⊎ IsBefore q p) → (d < e) ⊎ ((d ≡ e) ⊎ (e < d)) → IsBefore (d ∷ p) (e ∷ q) ⊎ ((d ∷ p ≡ e ∷ q) ⊎ IsBefore (e ∷ q) (d ∷ p))
    by_head rest (inl h) = inl (inl h)
    by_head rest (inr (inl h)) = by_rest h rest
    by_head rest (inr (inr h)) = inr (inr (inl h))

rule_cases : (j k : Option ℕ) → IsEarlier j k ⊎ ((j ≡ k) ⊎ IsEarlier k j)
rule_cases None None = inr (inl refl)
rule_cases None (Some k) = inl tt
rule_cases (Some j) None = inr (inr tt)
rule_cases (Some j) (Some k) = some (number_cases j k)
  where
    some : (j < k) ⊎ ((j ≡ k) ⊎ (k < j)) → (j < k) ⊎ ((Some j ≡ Some k) ⊎ (k < j))
    some (inl h) = inl h
    some (inr (inl h)) = inr (inl (ap Some h))
    some (inr (inr h)) = inr (inr h)

redex_is : (a b : Redex) → a.rule ≡ b.rule → a.path ≡ b.path → a ≡ b
redex_is a b e d = ap₂ (λ (k : Option ℕ) (path : List ℕ). record { rule = k; path = path }) e d

pub redex_cases : (a b : Redex) → Precedes a b ⊎ ((a ≡ b) ⊎ Precedes b a)
redex_cases a b = by_path (path_cases a.path b.path)
  where
    by_rule : a.path ≡ b.path → IsEarlier a.rule b.rule ⊎ ((a.rule ≡ b.rule) ⊎ IsEarlier b.rule a.rule) → Precedes a b ⊎ ((a ≡ b) ⊎ Precedes b a)
    by_rule same (inl h) = inl (inr (same, h))
    by_rule same (inr (inl h)) = inr (inl (redex_is a b h same))
    by_rule same (inr (inr h)) = inr (inr (inr (sym same, h)))

    by_path : IsBefore a.path b.path ⊎ ((a.path ≡ b.path) ⊎ IsBefore b.path a.path) → Precedes a b ⊎ ((a ≡ b) ⊎ Precedes b a)
    by_path (inl h) = inl (inl h)
    by_path (inr (inl h)) = by_rule h (rule_cases a.rule b.rule)
    by_path (inr (inr h)) = inr (inr (inl h))

-- the first of a list in order comes before the others
pub head_precedes : (a : Redex) (rest : List Redex) → InOrder (a ∷ rest) → (b : Redex) → Contains rest b → Precedes a b
head_precedes a [] h b (k, within, is) = absurd (omega arith)
head_precedes a (c ∷ rest) h b (zero, within, is) = subst (Precedes a) is h.0
head_precedes a (c ∷ rest) h b (suc k, within, is) = precedes_trans a c b h.0 (head_precedes c rest h.1 b (k, omega arith, is))
