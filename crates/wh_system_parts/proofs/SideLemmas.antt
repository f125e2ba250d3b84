-- The limits of a side.
use Rattle.std.proofs.Common.{◌≡◌, ℕ, ◌+◌, ◌<◌, ◌≤◌, ◌==◌, max, nat_lt, true, false, MatchOption, arith, List, [], ◌∷◌, ◌++◌, length, drop, get_or, Option, Some, None, refl, ap, ◌∙◌}
use Rattle.std.proofs.lemmas.Bool.{lt-ltb, le-ltb}
use Rattle.wh_text.specs.RawTree.{RTm, meta}
use Rattle.wh_text.specs.Erase.{rtm, rtms}
use Rattle.wh_text.specs.declared.raw.RawTerm.{RawTerm}
use Rattle.wh_system_parts.specs.declared.fault.SystemFault.{SystemFault}
use Rattle.wh_system_parts.specs.declared.fault.SystemFault.TheVariants.{TooMany}
use Rattle.wh_system_parts.specs.Faults.{first_fault}
use Rattle.wh_system_parts.specs.Tests.{test, raw_height, raw_heights, raw_size, side_tests, term_offset, width_of_term, width_of_arguments}
use Rattle.wh_system_parts.proofs.FaultLemmas.{fault_after, fault_in_first, fault_in_second, no_fault_in_both, past_test, fault_at_test}
use Rattle.wh_system_parts.proofs.RawTypes.{is_true, is_false}
use Rattle.wh_system_parts.proofs.RawTerms.{left_next, left_none}

pub argument_next : (xs : List RawTerm) (k : ℕ) (t : RawTerm) → k < length xs → t ≡ get_or xs k t → (k ≡ 32 → ⊥) → first_fault (width_of_term (rtm t)) ≡ None
    → first_fault (width_of_arguments k (rtms (drop k xs))) ≡ first_fault (width_of_arguments (k + 1) (rtms (drop (k + 1) xs)))
argument_next xs k t within e other passed =
    let rest = width_of_arguments (k + 1) (rtms (drop (k + 1) xs)) in
    ap (λ us. first_fault (width_of_arguments k us)) (left_next xs k t within e)
    ∙ past_test (k == 32) (TooMany (term_offset (rtm t))) (width_of_term (rtm t) ++ rest) (is_false k 32 other)
    ∙ fault_after (width_of_term (rtm t)) rest passed

pub argument_fails : (xs : List RawTerm) (k : ℕ) (t : RawTerm) (f : SystemFault) → k < length xs → t ≡ get_or xs k t → (k ≡ 32 → ⊥) → first_fault (width_of_term (rtm t)) ≡ Some f
    → first_fault (width_of_arguments k (rtms (drop k xs))) ≡ Some f
argument_fails xs k t f within e other failed =
    let rest = width_of_arguments (k + 1) (rtms (drop (k + 1) xs)) in
    ap (λ us. first_fault (width_of_arguments k us)) (left_next xs k t within e)
    ∙ past_test (k == 32) (TooMany (term_offset (rtm t))) (width_of_term (rtm t) ++ rest) (is_false k 32 other)
    ∙ fault_in_first (width_of_term (rtm t)) rest f failed

pub argument_past : (xs : List RawTerm) (k : ℕ) (t : RawTerm) → k < length xs → t ≡ get_or xs k t → k ≡ 32
    → first_fault (width_of_arguments k (rtms (drop k xs))) ≡ Some (TooMany (term_offset (rtm t)))
argument_past xs k t within e same =
    ap (λ us. first_fault (width_of_arguments k us)) (left_next xs k t within e)
    ∙ fault_at_test (k == 32) (TooMany (term_offset (rtm t))) (width_of_term (rtm t) ++ width_of_arguments (k + 1) (rtms (drop (k + 1) xs))) (is_true k 32 same)

pub arguments_end : (xs : List RawTerm) (k : ℕ) → length xs ≤ k → first_fault (width_of_arguments k (rtms (drop k xs))) ≡ None
arguments_end xs k past = ap (λ us. first_fault (width_of_arguments k us)) (left_none xs k past)

-- what is left of a size

pub spent_meta : (r : Option ℕ) (room below u v : ℕ) → below + 1 ≡ room → v ≡ 1 + u → MatchOption r (below < u) (λ rest. rest + u ≡ below)
    → MatchOption r (room < v) (λ rest. rest + v ≡ room)
spent_meta None room below u v one is short = omega arith
spent_meta (Some rest) room below u v one is left = omega arith

pub spent_spine : (r : Option ℕ) (room rest u v w : ℕ) → rest + u ≡ room → w ≡ u + v → MatchOption r (rest < v) (λ left. left + v ≡ rest)
    → MatchOption r (room < w) (λ left. left + w ≡ room)
spent_spine None room rest u v w head is short = omega arith
spent_spine (Some left) room rest u v w head is short = omega arith

-- heights

pub low_under : {A : Type 0} (r : Option A) (low below u v : ℕ) → below + 1 ≡ low → v ≡ 1 + u → MatchOption r (below < u) (λ _. u ≤ below) → MatchOption r (low < v) (λ _. v ≤ low)
low_under None low below u v one is h = omega arith
low_under (Some x) low below u v one is h = omega arith

pub low_spine : {A : Type 0} (r : Option A) (low below u v w : ℕ) → below + 1 ≡ low → w ≡ 1 + max u v → u ≤ below → MatchOption r (below < v) (λ _. v ≤ below)
    → MatchOption r (low < w) (λ _. w ≤ low)
low_spine None low below u v w one is head h = omega arith
low_spine (Some x) low below u v w one is head h = omega arith

pub low_refused : {A : Type 0} (r : Option A) (low v : ℕ) → r ≡ None → low < v → MatchOption r (low < v) (λ _. v ≤ low)
low_refused None low v none less = less
low_refused (Some x) low v none less = absurd (cc none)

pub height_none : (n : List ℕ) (xs : List RawTerm) (at : ℕ) → (length xs == 0) ≡ true → raw_height (meta n (rtms xs) at) ≡ 0
height_none n [] at e = refl
height_none n (x ∷ xs) at e = absurd (grind arith)

pub height_some : (n : List ℕ) (xs : List RawTerm) (at : ℕ) → (length xs == 0) ≡ false → raw_height (meta n (rtms xs) at) ≡ 1 + raw_heights (rtms xs)
height_some n [] at e = absurd (grind arith)
height_some n (x ∷ xs) at e = refl

-- the tests of a side

pub side_wide : (t : RTm) (f : SystemFault) → first_fault (width_of_term t) ≡ Some f → first_fault (side_tests t) ≡ Some f
side_wide t f wide =
    fault_in_first (width_of_term t) (test (nat_lt 200 (raw_height t)) (TooMany (term_offset t)) ∷ test (nat_lt 65536 (raw_size t)) (TooMany (term_offset t)) ∷ []) f wide

pub side_high : (t : RTm) → first_fault (width_of_term t) ≡ None → 200 < raw_height t → first_fault (side_tests t) ≡ Some (TooMany (term_offset t))
side_high t narrow high =
    fault_in_second (width_of_term t) (test (nat_lt 200 (raw_height t)) (TooMany (term_offset t)) ∷ test (nat_lt 65536 (raw_size t)) (TooMany (term_offset t)) ∷ []) (TooMany (term_offset t)) narrow
    (fault_at_test (nat_lt 200 (raw_height t)) (TooMany (term_offset t)) (test (nat_lt 65536 (raw_size t)) (TooMany (term_offset t)) ∷ []) (lt-ltb 200 (raw_height t) high))

pub side_large : (t : RTm) → first_fault (width_of_term t) ≡ None → raw_height t ≤ 200 → 65536 < raw_size t → first_fault (side_tests t) ≡ Some (TooMany (term_offset t))
side_large t narrow low large =
    fault_in_second (width_of_term t) (test (nat_lt 200 (raw_height t)) (TooMany (term_offset t)) ∷ test (nat_lt 65536 (raw_size t)) (TooMany (term_offset t)) ∷ []) (TooMany (term_offset t)) narrow
    (past_test (nat_lt 200 (raw_height t)) (TooMany (term_offset t)) (test (nat_lt 65536 (raw_size t)) (TooMany (term_offset t)) ∷ []) (le-ltb 200 (raw_height t) low)
    ∙ fault_at_test (nat_lt 65536 (raw_size t)) (TooMany (term_offset t)) [] (lt-ltb 65536 (raw_size t) large))

pub side_fits : (t : RTm) → first_fault (width_of_term t) ≡ None → raw_height t ≤ 200 → raw_size t ≤ 65536 → first_fault (side_tests t) ≡ None
side_fits t narrow low small =
    no_fault_in_both (width_of_term t) (test (nat_lt 200 (raw_height t)) (TooMany (term_offset t)) ∷ test (nat_lt 65536 (raw_size t)) (TooMany (term_offset t)) ∷ []) narrow
    (past_test (nat_lt 200 (raw_height t)) (TooMany (term_offset t)) (test (nat_lt 65536 (raw_size t)) (TooMany (term_offset t)) ∷ []) (le-ltb 200 (raw_height t) low)
    ∙ past_test (nat_lt 65536 (raw_size t)) (TooMany (term_offset t)) [] (le-ltb 65536 (raw_size t) small))
