-- What tests of clauses show, one place after the other.
use Rattle.std.proofs.Common.{◌≡◌, ℕ, ◌+◌, ◌<◌, ◌≤◌, ◌^◌, Bool, true, false, List, [], ◌∷◌, ◌++◌, length, get_or, take, All, Contains, sym, ap, subst, ◌∙◌, inl, inr, arith}
use Rattle.std.specs.Bool.{OnTrue}
use Rattle.std.proofs.lemmas.Bool.{cases_eq}
use Rattle.std.proofs.lemmas.List.{get_or_default, take_all, take_more}
use Rattle.std.proofs.lemmas.List.Elements.{All-contains, All-push}
use Rattle.wh_sat_trail.specs.declared.literal.Literal.{Literal}
use Rattle.wh_sat_trail.specs.declared.entry.Entry.{Entry}
use Rattle.wh_sat_trail.specs.Assignment.{AllBelow}

pub on_true : (b : Bool) (P : Type 0) → OnTrue b P → b ≡ true → P
on_true true P p e = p
on_true false P p e = cc

-- one literal more is below a number
pub below_more : (variables : ℕ) (clause : List Literal) (n : ℕ) (e : Literal) → ((i : ℕ) (d : Literal) → i < n → (get_or clause i d).variable < variables) → n < length clause → (get_or clause n e).variable < variables
    → (i : ℕ) (d : Literal) → i < n + 1 → (get_or clause i d).variable < variables
below_more variables clause n e before w here i d u = elim (cases_eq i n) [
  | inl same ↦ subst (λ j. (get_or clause j d).variable < variables) (sym same) (subst (λ (x : Literal). x.variable < variables) (get_or_default clause n e d w) here)
  | inr other ↦ before i d (omega (arith, other, u))
]

-- one clause more is
pub within_more : (variables : ℕ) (clauses : List (List Literal)) (n : ℕ) → ((k : ℕ) → k < n → AllBelow variables (get_or clauses k [])) → AllBelow variables (get_or clauses n [])
    → (k : ℕ) → k < n + 1 → AllBelow variables (get_or clauses k [])
within_more variables clauses n before here k u = elim (cases_eq k n) [
  | inl same ↦ subst (λ j. AllBelow variables (get_or clauses j [])) (sym same) here
  | inr other ↦ before k (omega (arith, other, u))
]

-- one entry more has few hints

abbrev pub IsShort : Entry → Type 0
IsShort e = length e.hints ≤ 2 ^ 32

pub short_more : (xs : List Entry) (i : ℕ) (x : Entry) → All IsShort (take i xs) → IsShort x → i < length xs → x ≡ get_or xs i x
    → All IsShort (take (i + 1) xs)
short_more xs i x all one within here =
    subst (All IsShort) (sym (take_more xs i x within ∙ ap (λ y. take i xs ++ y ∷ []) (sym here))) (All-push IsShort (take i xs) x all one)

pub short_all : (xs : List Entry) (i : ℕ) → All IsShort (take i xs) → length xs ≤ i → (e : Entry) → Contains xs e → IsShort e
short_all xs i all past e found = All-contains IsShort xs e (subst (All IsShort) (take_all i xs past) all) found
