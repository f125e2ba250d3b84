-- Tokens say one thing, and have one fault.
use Rattle.std.proofs.Common.{◌≡◌, ℕ, ◌+◌, ◌-◌, ◌<◌, ◌≤◌, true, List, [], ◌++◌, length, take, drop, sym, ap, subst, ◌∙◌, ◌⊎◌, inl, inr, arith, append_assoc}
use Rattle.std.proofs.Math.Seq.{take-add}
use Rattle.std.proofs.lemmas.List.{take-append-drop}
use Rattle.std.proofs.lemmas.Bool.{cases_lt, cases_order}
use Rattle.wh_system_parts.specs.Parts.{RParts}
use Rattle.wh_read.specs.Written.{WSystem}
use Rattle.wh_read.specs.Spelled.{Placed, spelled}
use Rattle.wh_read.specs.Nesting.{SystemFits}
use Rattle.wh_read.specs.Raw.{said}
use Rattle.wh_read.specs.Parsing.{Parses, Begins, BeginsWithin, SyntaxAt, TooDeepAt}
use Rattle.wh_read.proofs.Machine.{State, between, run, start}
use Rattle.wh_read.proofs.CompleteText.{system_run}

text_in : State → WSystem
text_in (between w) = w
text_in s = record { sorts = []; funs = []; rules = [] }

-- within the limits a text is written in one way
one_text : (v w : WSystem) → SystemFits v → SystemFits w → spelled v ≡ spelled w → v ≡ w
unfolding text_in
one_text v w f g e = ap text_in (sym (system_run true v (λ i. f)) ∙ ap (run true start) e ∙ system_run true w (λ i. g))

pub one_parse : (ts : List Placed) (p q : RParts) → Parses ts p → Parses ts q → p ≡ q
one_parse ts p q a b = a.parts_are ∙ ap said (one_text a.written b.written a.fits b.fits (sym a.spelling ∙ b.spelling)) ∙ sym b.parts_are

-- what begins with tokens begins with fewer of them
front_begins : (ts : List Placed) (k j : ℕ) → Begins (take (k + j) ts) → Begins (take k ts)
front_begins ts k j h =
    (h.0, take j (drop k ts) ++ h.1, sym (append_assoc (take k ts) (take j (drop k ts)) h.1) ∙ ap (λ (xs : List Placed). xs ++ h.1) (sym (take-add k j ts)) ∙ h.2)

front_within : (ts : List Placed) (k j : ℕ) → BeginsWithin (take (k + j) ts) → BeginsWithin (take k ts)
front_within ts k j h =
    (h.0, take j (drop k ts) ++ h.1, h.2, sym (append_assoc (take k ts) (take j (drop k ts)) h.1) ∙ ap (λ (xs : List Placed). xs ++ h.1) (sym (take-add k j ts)) ∙ h.3)

within : (ts : List Placed) → BeginsWithin ts → Begins ts
within ts h = (h.0, h.1, h.3)

begins_before : (ts : List Placed) (n m : ℕ) → n < m → Begins (take m ts) → Begins (take (n + 1) ts)
begins_before ts n m below h =
    let seam : m ≡ (n + 1) + (m - (n + 1)) = omega (arith, below) in
    front_begins ts (n + 1) (m - (n + 1)) (subst (λ k. Begins (take k ts)) seam h)

within_before : (ts : List Placed) (n m : ℕ) → n < m → BeginsWithin (take m ts) → BeginsWithin (take (n + 1) ts)
within_before ts n m below h =
    let seam : m ≡ (n + 1) + (m - (n + 1)) = omega (arith, below) in
    front_within ts (n + 1) (m - (n + 1)) (subst (λ k. BeginsWithin (take k ts)) seam h)

-- a system text begins with each of its fronts
whole_begins : (ts : List Placed) (p : RParts) (n : ℕ) → Parses ts p → BeginsWithin (take n ts)
whole_begins ts p n h = (h.written, drop n ts, h.fits, take-append-drop n ts ∙ h.spelling)

-- what is a system text has no fault
pub no_syntax_fault : (ts : List Placed) (p : RParts) (n : ℕ) → Parses ts p → SyntaxAt ts n → ⊥
no_syntax_fault ts p n h s = by_end (cases_lt n (length ts))
  where
    by_end : (n < length ts) ⊎ (length ts ≤ n) → ⊥
    by_end (inl below) = s.none_goes_on below (within (take (n + 1) ts) (whole_begins ts p (n + 1) h))
    by_end (inr past) = s.ends_early (omega (arith, past, s.within)) h.written h.spelling

pub not_too_deep : (ts : List Placed) (p : RParts) (n : ℕ) → Parses ts p → TooDeepAt ts n → ⊥
not_too_deep ts p n h s = s.too_deep (whole_begins ts p (n + 1) h)

-- the place of a fault is the only one
syntax_first : (ts : List Placed) (n m : ℕ) → SyntaxAt ts n → SyntaxAt ts m → n < m → ⊥
syntax_first ts n m s t below = s.none_goes_on (omega (arith, below, t.within)) (begins_before ts n m below (within (take m ts) t.begins))

pub one_syntax_fault : (ts : List Placed) (n m : ℕ) → SyntaxAt ts n → SyntaxAt ts m → n ≡ m
one_syntax_fault ts n m s t = by_order (cases_order n m)
  where
    by_order : (n ≡ m) ⊎ ((n < m) ⊎ (m < n)) → n ≡ m
    by_order (inl e) = e
    by_order (inr (inl h)) = absurd (syntax_first ts n m s t h)
    by_order (inr (inr h)) = absurd (syntax_first ts m n t s h)

deep_first : (ts : List Placed) (n m : ℕ) → TooDeepAt ts n → TooDeepAt ts m → n < m → ⊥
deep_first ts n m s t below = s.too_deep (within_before ts n m below t.begins)

pub one_deep_fault : (ts : List Placed) (n m : ℕ) → TooDeepAt ts n → TooDeepAt ts m → n ≡ m
one_deep_fault ts n m s t = by_order (cases_order n m)
  where
    by_order : (n ≡ m) ⊎ ((n < m) ⊎ (m < n)) → n ≡ m
    by_order (inl e) = e
    by_order (inr (inl h)) = absurd (deep_first ts n m s t h)
    by_order (inr (inr h)) = absurd (deep_first ts m n t s h)

pub syntax_or_deep : (ts : List Placed) (n m : ℕ) → SyntaxAt ts n → TooDeepAt ts m → ⊥
syntax_or_deep ts n m s t = by_order (cases_order n m)
  where
    by_order : (n ≡ m) ⊎ ((n < m) ⊎ (m < n)) → ⊥
    by_order (inl e) = s.none_goes_on (omega (arith, e, t.within)) (subst (λ k. Begins (take (k + 1) ts)) (sym e) t.goes_on)
    by_order (inr (inl h)) = s.none_goes_on (omega (arith, h, t.within)) (begins_before ts n m h (within (take m ts) t.begins))
    by_order (inr (inr h)) = t.too_deep (within_before ts m n h s.begins)
