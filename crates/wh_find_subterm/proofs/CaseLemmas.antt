-- Cases that join a list, one by one or by parts.
use Rattle.std.proofs.Common.{◌≡◌, ℕ, zero, suc, ◌+◌, ◌<◌, ◌≤◌, length, get_or, map, take, List, [], ◌∷◌, ◌++◌, sym, ap, subst, ◌∙◌, append_assoc, arith}
use Rattle.std.specs.List.{flat_map, range_with_len}
use Rattle.std.proofs.lemmas.List.{append-nil, map-id, take_all}
use Rattle.std.proofs.lemmas.List.Concat.{flat_map-append}
use Rattle.std.proofs.lemmas.List.FromFn.{map-range_with_len_more}
use Rattle.wh_pairs.specs.PairData.{PairData}
use Rattle.wh_find_subterm.specs.declared.rows.Row.{Row}
use Rattle.wh_find_subterm.specs.Rows.{row_of}
use Rattle.wh_find_subterm.specs.declared.cases.Case.{Case}
use Rattle.wh_find_subterm.specs.Cases.{Adds, AreCases, IsCase, Spot, pair_at, spots, spots_of}

pub are_cases_append : (ss ts : List Spot) (cs ds : List Case) → AreCases ss cs → AreCases ts ds → AreCases (ss ++ ts) (cs ++ ds)
are_cases_append [] ts [] ds are more = more
are_cases_append [] ts (c ∷ cs) ds are more = absurd are
are_cases_append (s ∷ ss) ts [] ds are more = absurd are
are_cases_append (s ∷ ss) ts (c ∷ cs) ds are more = (are.0, are_cases_append ss ts cs ds are.1 more)

pub adds_none : (cs : List Case) → Adds cs cs []
adds_none cs = record { added = []; is = sym (append-nil cs); are = tt }

pub adds_one : (before after : List Case) (c : Case) (s : Spot) → after ≡ before ++ c ∷ [] → IsCase s c → Adds before after (s ∷ [])
adds_one before after c s is case = record { added = c ∷ []; is = is; are = (case, tt) }

pub adds_more : (first second third : List Case) (ss ts us : List Spot) → Adds first second ss → Adds second third ts → us ≡ ss ++ ts → Adds first third us
adds_more first second third ss ts us left right whole = record {
  added = left.added ++ right.added;
  is = right.is ∙ ap (λ cs. cs ++ right.added) left.is ∙ append_assoc first left.added right.added;
  are = subst (λ vs. AreCases vs (left.added ++ right.added)) (sym whole) (are_cases_append ss ts left.added right.added left.are right.are);
}

-- the cases of one more pair

abbrev spots_at : List Row → List PairData → ℕ → ℕ → List Spot
spots_at rows pairs own n = spots_of (pair_at pairs n) (row_of rows (pair_at pairs n).left_fun) (row_of rows (pair_at pairs n).right_fun) own

spots_more : (rows : List Row) (pairs : List PairData) (own : ℕ) (set : List ℕ) (i : ℕ) → i < length set
    → spots rows pairs own (take (i + 1) set) ≡ spots rows pairs own (take i set) ++ spots_at rows pairs (own + i) (get_or set i 0)
spots_more rows pairs own [] i within = absurd (omega arith)
spots_more rows pairs own (m ∷ set) zero within =
    let same : own ≡ own + zero = omega arith in
    let one : zero + 1 ≡ suc zero = omega arith in
    ap (λ k. spots rows pairs own (take k (m ∷ set))) one ∙ append-nil (spots_at rows pairs own m) ∙ ap (λ o. spots_at rows pairs o m) same
spots_more rows pairs own (m ∷ set) (suc i) within =
    let one : suc i + 1 ≡ suc (i + 1) = omega arith in
    let same : own + 1 + i ≡ own + suc i = omega arith in
    let n = get_or set i 0 in
    ap (λ k. spots rows pairs own (take k (m ∷ set))) one
    ∙ ap (λ ss. spots_at rows pairs own m ++ ss) (spots_more rows pairs (own + 1) set i (omega arith))
    ∙ sym (append_assoc (spots_at rows pairs own m) (spots rows pairs (own + 1) (take i set)) (spots_at rows pairs (own + 1 + i) n))
    ∙ ap (λ o. spots_at rows pairs own m ++ spots rows pairs (own + 1) (take i set) ++ spots_at rows pairs o n) same

pub cases_more : (rows : List Row) (pairs : List PairData) (own : ℕ) (set : List ℕ) (i : ℕ) (cases after : List Case) (a : PairData) (l r : Row) (here : ℕ) → i < length set
    → AreCases (spots rows pairs own (take i set)) cases → Adds cases after (spots_of a l r here) → a ≡ pair_at pairs (get_or set i 0) → l ≡ row_of rows a.left_fun → r ≡ row_of rows a.right_fun → here ≡ own + i
    → AreCases (spots rows pairs own (take (i + 1) set)) after
cases_more rows pairs own set i cases after a l r here within are adds pair left right at =
    let n = get_or set i 0 in
    let added : spots_of a l r here ≡ spots_at rows pairs (own + i) n =
    ap (λ (s : Row). spots_of a s r here) left ∙ ap (λ (s : Row). spots_of a (row_of rows a.left_fun) s here) right
    ∙ ap (λ (b : PairData). spots_of b (row_of rows b.left_fun) (row_of rows b.right_fun) here) pair ∙ ap (λ o. spots_at rows pairs o n) at in
    let joined = are_cases_append (spots rows pairs own (take i set)) (spots_of a l r here) cases adds.added are adds.are in
    let whole : spots rows pairs own (take i set) ++ spots_of a l r here ≡ spots rows pairs own (take (i + 1) set) =
    ap (λ ss. spots rows pairs own (take i set) ++ ss) added ∙ sym (spots_more rows pairs own set i within) in
    subst (λ cs. AreCases (spots rows pairs own (take (i + 1) set)) cs) (sym adds.is) (subst (λ ss. AreCases ss (cases ++ adds.added)) whole joined)

pub cases_all : (rows : List Row) (pairs : List PairData) (own : ℕ) (set : List ℕ) (i : ℕ) (cases : List Case) → AreCases (spots rows pairs own (take i set)) cases → length set ≤ i → AreCases (spots rows pairs own set) cases
cases_all rows pairs own set i cases are past = subst (λ ns. AreCases (spots rows pairs own ns) cases) (take_all i set past) are

-- lists made of the numbers below n + 1: what n adds to those made of the numbers below n

pub made_more : (f : ℕ → Spot) (n : ℕ) → map f (range_with_len 0 (n + 1)) ≡ map f (range_with_len 0 n) ++ f n ∷ []
made_more f n = map-range_with_len_more f 0 n n (omega arith)

range_more : (n : ℕ) → range_with_len 0 (n + 1) ≡ range_with_len 0 n ++ n ∷ []
range_more n =
    sym (map-id (range_with_len 0 (n + 1))) ∙ map-range_with_len_more (λ x. x) 0 n n (omega arith) ∙ ap (λ xs. xs ++ n ∷ []) (map-id (range_with_len 0 n))

pub joined_more : (f : ℕ → List Spot) (n : ℕ) → flat_map f (range_with_len 0 (n + 1)) ≡ flat_map f (range_with_len 0 n) ++ f n
joined_more f n = ap (flat_map f) (range_more n) ∙ flat_map-append f (range_with_len 0 n) (n ∷ []) ∙ ap (λ ys. flat_map f (range_with_len 0 n) ++ ys) (append-nil (f n))
