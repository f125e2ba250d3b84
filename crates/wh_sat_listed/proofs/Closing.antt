-- Where no clause makes anything true, all that propagation derives is true.
use Rattle.std.proofs.Common.{◌≡◌, ◌≢◌, ℕ, ◌<◌, inl, inr, true, List, [], ◌++◌, length, length-append, get_or, sym, ◌∙◌, subst, arith}
use Rattle.std.proofs.lemmas.List.{get_or_append_left}
use Rattle.wh_sat_trail.specs.declared.literal.Literal.{Literal}
use Rattle.wh_sat_trail.specs.Assignment.{negated}
use Rattle.wh_sat_trail.specs.Member.{member}
use Rattle.wh_sat_trail.specs.Watch.{nothing}
use Rattle.wh_sat_trail.proofs.Guarding.{member_at, member_place}
use Rattle.wh_refute.specs.Refuting.{IsFalse}
use Rattle.wh_refute.specs.RefuteFaults.{IsStuck, two_left, true_already}
use Rattle.wh_refute.proofs.Members.{true_is_not_false}
use Rattle.wh_sat.specs.Learning.{Has, Derives, given, forced, Refutes}
use Rattle.wh_sat.proofs.Deriving.{cases_lit}

not_stuck : (t c : List Literal) → IsStuck t c → IsFalse t c → ⊥
not_stuck t c (two_left a b in_a in_b apart open_a open_b) f = true_is_not_false (member (negated a) t) (f a in_a) open_a
not_stuck t c (true_already a left is) f = true_is_not_false (member (negated a) t) (f a left.in_clause) left.possible

-- a stuck clause whose other literals are false has its last one true
stuck_true : (t c : List Literal) (l : Literal) → IsStuck t c
    → ((m : Literal) → member m c ≡ true → m ≢ l → member (negated m) t ≡ true) → member l t ≡ true
stuck_true t c l (two_left a b in_a in_b apart open_a open_b) rest = elim (cases_lit a l) [
  | inl e ↦ absurd (true_is_not_false (member (negated b) t) (rest b in_b (λ f. apart (e ∙ sym f))) open_b)
  | inr u ↦ absurd (true_is_not_false (member (negated a) t) (rest a in_a u) open_a)
]
stuck_true t c l (true_already a left is) rest = elim (cases_lit a l) [
  | inl e ↦ subst (λ x. member x t ≡ true) e is
  | inr u ↦ absurd (true_is_not_false (member (negated a) t) (rest a left.in_clause u) left.possible)
]

derives_true : (clauses : List (List Literal)) (start t : List Literal) (l : Literal)
    → ((k : ℕ) → k < length clauses → IsStuck t (get_or clauses k [])) → ((m : Literal) → Has start m → member m t ≡ true)
    → Derives clauses start l → member l t ≡ true
derives_true clauses start t l stuck base (given l' has) = base l has
derives_true clauses start t l stuck base (forced k l' known has others) =
    let c = get_or clauses k [] in
    stuck_true t c l (stuck k known) (λ m h other.
    let p = member_place m c h in
    subst (λ x. member (negated x) t ≡ true) (p.1.1 nothing)
    (derives_true clauses start t (negated (get_or c p.0 nothing)) stuck base
    (others p.0 nothing p.1.0 (λ e. other (sym (p.1.1 nothing) ∙ e)))))

-- so propagation refutes nothing then
pub stuck_not_refuted : (clauses : List (List Literal)) (start t : List Literal)
    → ((k : ℕ) → k < length clauses → IsStuck t (get_or clauses k [])) → ((m : Literal) → Has start m → member m t ≡ true)
    → Refutes clauses start → ⊥
stuck_not_refuted clauses start t stuck base r =
    let c = get_or clauses r.clause [] in
    not_stuck t c (stuck r.clause r.known) (λ m h.
    let p = member_place m c h in
    subst (λ x. member (negated x) t ≡ true) (p.1.1 nothing)
    (derives_true clauses start t (negated (get_or c p.0 nothing)) stuck base (r.all p.0 nothing p.1.0)))

-- what the start has is true behind it
pub start_true : (start made : List Literal) (m : Literal) → Has start m → member m (start ++ made) ≡ true
start_true start made m h =
    subst (λ x. member x (start ++ made) ≡ true) (get_or_append_left start made nothing h.place h.within ∙ h.is nothing)
    (member_at (start ++ made) h.place nothing (omega (arith, h.within, length-append start made)))
