-- Members of lists of literals.
use Rattle.std.proofs.Common.{◌≡◌, ℕ, zero, suc, ◌+◌, ◌<◌, ◌||◌, ◌&&◌, ◌⊎◌, inl, inr, Bool, true, false, eqb, List, [], ◌∷◌, ◌++◌, length, get_or, take, drop, refl, sym, ◌∙◌, ap, subst, arith}
use Rattle.std.proofs.lemmas.Bool.{false_from_ne_true}
use Rattle.std.proofs.lemmas.List.{take-append-drop}
use Rattle.std.proofs.Math.Seq.{take-suc}
use mathlib.Core.Bool.{beq}
use Rattle.wh_sat_trail.specs.declared.literal.Literal.{Literal}
use Rattle.wh_sat_trail.specs.Assignment.{AllBelow}
use Rattle.wh_sat_trail.specs.Member.{member}
use Rattle.wh_sat_trail.proofs.Guarding.{member_at, member_place}

or_assoc : (a b c d : Bool) → b ≡ (c || d) → (a || b) ≡ ((a || c) || d)
or_assoc true b c d e = refl
or_assoc false b c d e = e

or_right : (a b : Bool) → b ≡ true → (a || b) ≡ true
or_right true b e = refl
or_right false b e = e

or_left : (a b : Bool) → a ≡ true → (a || b) ≡ true
or_left true b e = refl
or_left false b e = absurd (cc)

or_false : (a b : Bool) → b ≡ false → (a || b) ≡ a
or_false true b e = refl
or_false false b e = e

or_cases : (a b : Bool) → (a || b) ≡ true → (a ≡ true) ⊎ (b ≡ true)
or_cases true b e = inl refl
or_cases false b e = inr e

pub true_is_not_false : (a : Bool) → a ≡ true → a ≡ false → ⊥
true_is_not_false true e f = absurd (cc)
true_is_not_false false e f = absurd (cc)

pub member_append : (l : Literal) (xs ys : List Literal) → member l (xs ++ ys) ≡ (member l xs || member l ys)
member_append l [] ys = refl
member_append l (x ∷ xs) ys =
    or_assoc (eqb x.variable l.variable && beq x.positive l.positive) (member l (xs ++ ys)) (member l xs) (member l ys) (member_append l xs ys)

-- the one member of a list of one
pub member_alone : (x : Literal) → member x (x ∷ []) ≡ true
member_alone x = member_at (x ∷ []) 0 x (omega arith)

pub alone_member : (l x : Literal) → member l (x ∷ []) ≡ true → x ≡ l
alone_member l x h = let p = member_place l (x ∷ []) h in go p.0 p.1.0 p.1.1
  where
    go : (k : ℕ) → k < 1 → ((d : Literal) → get_or (x ∷ []) k d ≡ l) → x ≡ l
    go zero w is = is x
    go (suc k) w is = absurd (omega (arith, w))

pub member_left : (l x : Literal) (xs : List Literal) → member l xs ≡ true → member l (xs ++ x ∷ []) ≡ true
member_left l x xs h = member_append l xs (x ∷ []) ∙ ap (λ b. b || member l (x ∷ [])) h

pub member_last : (x : Literal) (xs : List Literal) → member x (xs ++ x ∷ []) ≡ true
member_last x xs = member_append x xs (x ∷ []) ∙ or_right (member x xs) (member x (x ∷ [])) (member_alone x)

pub member_either : (l x : Literal) (xs : List Literal) → member l (xs ++ x ∷ []) ≡ true → (member l xs ≡ true) ⊎ (x ≡ l)
member_either l x xs h = elim (or_cases (member l xs) (member l (x ∷ [])) (sym (member_append l xs (x ∷ [])) ∙ h)) [
  | inl p ↦ inl p
  | inr p ↦ inr (alone_member l x p)
]

pub member_other : (l x : Literal) (xs : List Literal) → (x ≡ l → ⊥) → member l (xs ++ x ∷ []) ≡ member l xs
member_other l x xs n =
    member_append l xs (x ∷ []) ∙ or_false (member l xs) (member l (x ∷ [])) (false_from_ne_true (member l (x ∷ [])) (λ h. n (alone_member l x h)))

-- a member is below where all are
pub member_below : (n : ℕ) (c : List Literal) (l : Literal) → AllBelow n c → member l c ≡ true → l.variable < n
member_below n c l below h =
    let p = member_place l c h in subst (λ (x : Literal). x.variable < n) (p.1.1 l) (below p.0 l p.1.0)

pub cons_here : (x : Literal) (xs : List Literal) → member x (x ∷ xs) ≡ true
cons_here x xs = member_at (x ∷ xs) 0 x (omega arith)

pub cons_later : (l x : Literal) (xs : List Literal) → member l xs ≡ true → member l (x ∷ xs) ≡ true
cons_later l x xs h = or_right (eqb x.variable l.variable && beq x.positive l.positive) (member l xs) h

pub cons_cases : (l x : Literal) (xs : List Literal) → member l (x ∷ xs) ≡ true → (x ≡ l) ⊎ (member l xs ≡ true)
cons_cases l x xs h = let p = member_place l (x ∷ xs) h in go p.0 p.1.0 p.1.1
  where
    go : (k : ℕ) → k < suc (length xs) → ((d : Literal) → get_or (x ∷ xs) k d ≡ l) → (x ≡ l) ⊎ (member l xs ≡ true)
    go zero w is = inl (is x)
    go (suc k) w is = inr (subst (λ y. member y xs ≡ true) (is l) (member_at xs k l (omega (arith, w))))

-- one item more of a list
pub next : {X : Type 0} (xs : List X) (i : ℕ) (d : X) → i < length xs → take (i + 1) xs ≡ take i xs ++ get_or xs i d ∷ []
next xs i d w = let e : i + 1 ≡ suc i = omega arith in ap (λ n. take n xs) e ∙ take-suc xs i d w

pub member_front : (l : Literal) (xs : List Literal) (i : ℕ) → member l (take i xs) ≡ true → member l xs ≡ true
member_front l xs i h =
    ap (member l) (sym (take-append-drop i xs)) ∙ member_append l (take i xs) (drop i xs)
    ∙ or_left (member l (take i xs)) (member l (drop i xs)) h
