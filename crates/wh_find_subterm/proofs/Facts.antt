-- The five groups of clauses.
use Rattle.std.proofs.Common.{◌≡◌, ℕ, true, Bool, inl, inr, List, [], ◌∷◌, ◌++◌, map, refl, sym, subst}
use Rattle.std.specs.List.{flat_map}
use Rattle.wh_sat_trail.specs.declared.literal.Literal.{Literal}
use Rattle.wh_sat.specs.Solving.{Solves, clause_true}
use Rattle.wh_find_subterm.specs.declared.rows.Row.{Row}
use Rattle.wh_find_subterm.specs.declared.cases.Case.{Case}
use Rattle.wh_find_subterm.specs.Clauses.{clauses_of, fourth, one_chosen, only_one_chosen, some_of, third}
use Rattle.wh_find_subterm.proofs.Members.{In, in_left, in_right, in_either, in_map, in_map_from, in_flat, in_flat_from}
use Rattle.wh_find_subterm.proofs.Truth.{solves_in, in_solves}

-- P holds of each clause, group by group
pub record Groups (P : List Literal → Type 0) (rows : List Row) (cases : List Case) (end count : ℕ) : Type 0 where
  pub chosen : (r : Row) → In r rows → P (one_chosen r)
  pub only : (r : Row) (c : List Literal) → In r rows → In c (only_one_chosen r) → P c
  pub neither : (d : Case) (c : List Literal) → In d cases → In c (third d) → P c
  pub not_below : (d : Case) (c : List Literal) → In d cases → In c (fourth d) → P c
  pub some : P (some_of end count)

pub groups_from : (P : List Literal → Type 0) (rows : List Row) (cases : List Case) (end count : ℕ)
    → ((c : List Literal) → In c (clauses_of rows cases end count) → P c) → Groups P rows cases end count
groups_from P rows cases end count all =
    let one = map one_chosen rows in
    let two = flat_map only_one_chosen rows in
    let three = flat_map third cases in
    let four = flat_map fourth cases in
    let last = some_of end count ∷ [] in
    record {
      chosen = λ r is. all (one_chosen r) (in_left (one ++ two ++ three ++ four) last (one_chosen r) (in_left (one ++ two ++ three) four (one_chosen r) (in_left (one ++ two) three (one_chosen r) (in_left one two (one_chosen r) (in_map one_chosen rows r is)))));
      only = λ r c is at. all c (in_left (one ++ two ++ three ++ four) last c (in_left (one ++ two ++ three) four c (in_left (one ++ two) three c (in_right one two c (in_flat only_one_chosen rows r c is at)))));
      neither = λ d c is at. all c (in_left (one ++ two ++ three ++ four) last c (in_left (one ++ two ++ three) four c (in_right (one ++ two) three c (in_flat third cases d c is at))));
      not_below = λ d c is at. all c (in_left (one ++ two ++ three ++ four) last c (in_right (one ++ two ++ three) four c (in_flat fourth cases d c is at)));
      some = all (some_of end count) (in_right (one ++ two ++ three ++ four) last (some_of end count) (inl refl));
    }

pub all_from : (P : List Literal → Type 0) (rows : List Row) (cases : List Case) (end count : ℕ) → Groups P rows cases end count
    → (c : List Literal) → In c (clauses_of rows cases end count) → P c
all_from P rows cases end count groups c is =
    let one = map one_chosen rows in
    let two = flat_map only_one_chosen rows in
    let three = flat_map third cases in
    let four = flat_map fourth cases in
    let last = some_of end count ∷ [] in
    elim (in_either (one ++ two ++ three ++ four) last c is) [
      | inl front ↦ elim (in_either (one ++ two ++ three) four c front) [
        | inl front ↦ elim (in_either (one ++ two) three c front) [
          | inl front ↦ elim (in_either one two c front) [
            | inl here ↦ let from = in_map_from one_chosen rows c here in subst P from.2 (groups.chosen from.0 from.1)
            | inr here ↦ let from = in_flat_from only_one_chosen rows c here in groups.only from.0 c from.1 from.2
          ]
          | inr here ↦ let from = in_flat_from third cases c here in groups.neither from.0 c from.1 from.2
        ]
        | inr here ↦ let from = in_flat_from fourth cases c here in groups.not_below from.0 c from.1 from.2
      ]
      | inr end_is ↦ elim end_is [
        | inl here ↦ subst P here groups.some
        | inr never ↦ absurd never
      ]
    ]

-- the clauses are true, group by group
abbrev pub AreTrue : (ℕ → Bool) → List Row → List Case → ℕ → ℕ → Type 0
AreTrue v rows cases end count = Groups (λ c. clause_true v c ≡ true) rows cases end count

pub true_from : (v : ℕ → Bool) (rows : List Row) (cases : List Case) (end count : ℕ) (clauses : List (List Literal)) → clauses ≡ clauses_of rows cases end count → Solves v clauses
    → AreTrue v rows cases end count
true_from v rows cases end count clauses is solves =
    groups_from (λ c. clause_true v c ≡ true) rows cases end count (λ c at. solves_in v clauses c solves (subst (In c) (sym is) at))

pub solves_from : (v : ℕ → Bool) (rows : List Row) (cases : List Case) (end count : ℕ) (clauses : List (List Literal)) → clauses ≡ clauses_of rows cases end count
    → AreTrue v rows cases end count → Solves v clauses
solves_from v rows cases end count clauses is groups =
    in_solves v clauses (λ c at. all_from (λ d. clause_true v d ≡ true) rows cases end count groups c (subst (In c) is at))
