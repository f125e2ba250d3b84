-- A clause is looked at, literal by literal.
use Rattle.std.proofs.Common.{◌≡◌, ◌≢◌, inl, inr, true, false, ℕ, ◌+◌, ◌<◌, List, [], ◌∷◌, ◌++◌, length, get_or, take, Option, Some, None, refl, sym, ◌∙◌, subst}
use Rattle.wh_sat_trail.specs.declared.literal.Literal.{Literal}
use Rattle.wh_sat_trail.specs.Assignment.{negated}
use Rattle.wh_sat_trail.specs.Member.{member}
use Rattle.wh_refute.specs.RefuteFaults.{IsStuck, two_left}
use Rattle.wh_refute.specs.Told.{Scanned}
use Rattle.wh_sat_trail.specs.Watch.{nothing}
use Rattle.wh_sat_trail.proofs.Guarding.{member_at}
use Rattle.wh_refute.proofs.Members.{member_left, member_last, member_either, member_front, next, true_is_not_false}

-- nothing was looked at yet
pub scanned_nothing : (t : List Literal) → Scanned t [] None
scanned_nothing t = λ m h. absurd (true_is_not_false false h refl)

-- the next literal is false
pub scanned_false : (t c : List Literal) (l : Literal) (left : Option Literal) → member (negated l) t ≡ true → Scanned t c left
    → Scanned t (c ++ l ∷ []) left
scanned_false t c l None is f = λ m h. elim (member_either m l c h) [
  | inl before ↦ f m before
  | inr same ↦ subst (λ x. member (negated x) t ≡ true) same is
]
scanned_false t c l (Some k) is f = record {
  in_clause = member_left k l c f.in_clause;
  possible = f.possible;
  others = λ m h n. elim (member_either m l c h) [
    | inl before ↦ f.others m before n
    | inr same ↦ subst (λ x. member (negated x) t ≡ true) same is
  ];
}

-- it is the first one that is not
pub scanned_open : (t c : List Literal) (l : Literal) → member (negated l) t ≡ false → Scanned t c None → Scanned t (c ++ l ∷ []) (Some l)
scanned_open t c l is f = record {
  in_clause = member_last l c;
  possible = is;
  others = λ m h n. elim (member_either m l c h) [ inl before ↦ f m before | inr same ↦ absurd (n (sym same)) ];
}

-- it is the one that was met before
pub scanned_again : (t c : List Literal) (l k : Literal) → k ≡ l → Scanned t c (Some k) → Scanned t (c ++ l ∷ []) (Some k)
scanned_again t c l k same f = record {
  in_clause = member_left k l c f.in_clause;
  possible = f.possible;
  others = λ m h n. elim (member_either m l c h) [ inl before ↦ f.others m before n | inr is ↦ absurd (n (sym (same ∙ is))) ];
}

-- it is another one
pub scanned_two : (t c d : List Literal) (l k : Literal) → k ≢ l → member (negated l) t ≡ false → Scanned t c (Some k) → member l d ≡ true
    → ((m : Literal) → member m c ≡ true → member m d ≡ true) → IsStuck t d
scanned_two t c d l k other is f here inside = two_left k l (inside k f.in_clause) here other f.possible is

-- the same of the literals of a clause up to one of them
pub next_false : (t c : List Literal) (i : ℕ) (left : Option Literal) → i < length c → member (negated (get_or c i nothing)) t ≡ true
    → Scanned t (take i c) left → Scanned t (take (i + 1) c) left
next_false t c i left w is s = subst (λ d. Scanned t d left) (sym (next c i nothing w)) (scanned_false t (take i c) (get_or c i nothing) left is s)

pub next_open : (t c : List Literal) (i : ℕ) → i < length c → member (negated (get_or c i nothing)) t ≡ false → Scanned t (take i c) None
    → Scanned t (take (i + 1) c) (Some (get_or c i nothing))
next_open t c i w is s =
    subst (λ d. Scanned t d (Some (get_or c i nothing))) (sym (next c i nothing w)) (scanned_open t (take i c) (get_or c i nothing) is s)

pub next_again : (t c : List Literal) (i : ℕ) (k : Literal) → i < length c → k ≡ get_or c i nothing → Scanned t (take i c) (Some k)
    → Scanned t (take (i + 1) c) (Some k)
next_again t c i k w same s =
    subst (λ d. Scanned t d (Some k)) (sym (next c i nothing w)) (scanned_again t (take i c) (get_or c i nothing) k same s)

pub next_two : (t c : List Literal) (i : ℕ) (k : Literal) → i < length c → k ≢ get_or c i nothing → member (negated (get_or c i nothing)) t ≡ false
    → Scanned t (take i c) (Some k) → IsStuck t c
next_two t c i k w other is s =
    scanned_two t (take i c) c (get_or c i nothing) k other is s (member_at c i nothing w) (λ m h. member_front m c i h)
