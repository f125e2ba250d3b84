-- A pass over the clauses, one by one.
use Rattle.std.proofs.Common.{◌≡◌, ℕ, ◌+◌, ◌-◌, ◌<◌, ◌≤◌, ◌⊎◌, inl, inr, false, List, [], ◌∷◌, ◌++◌, length, get_or, sym, ◌∙◌, subst, arith}
use Rattle.std.proofs.lemmas.Bool.{cases_lt}
use Rattle.std.proofs.lemmas.List.{append-nil, append_assoc, get_or_default, length_push}
use Rattle.wh_sat_trail.specs.declared.literal.Literal.{Literal}
use Rattle.wh_sat_trail.specs.Member.{member}
use Rattle.wh_sat_trail.specs.Propagation.{Within}
use Rattle.wh_refute.specs.Refuting.{IsLeft}
use Rattle.wh_refute.specs.RefuteFaults.{IsStuck}
use Rattle.wh_refute.specs.Told.{Tells}
use Rattle.wh_refute.specs.declared.truth.Truth.{Truth}
use Rattle.wh_sat.specs.Learning.{Refutes}
use Rattle.wh_sat_listed.specs.Leading.{AreStuck, IsAt, Reaches}
use Rattle.wh_sat_listed.proofs.Closing.{start_true, stuck_not_refuted}
use Rattle.wh_sat_listed.proofs.Reaching.{reaches_next, reaches_start}

-- the clause that is looked at
pub looked : (clauses : List (List Literal)) (k : ℕ) (x d : List Literal) → k < length clauses → x ≡ get_or clauses k x → d ≡ x
    → d ≡ get_or clauses k []
looked clauses k x d within is same = same ∙ is ∙ get_or_default clauses k x [] within

-- nothing has been made true yet
pub at_start : (n : ℕ) (clauses : List (List Literal)) (start : List Literal) (truth : Truth) (hints : List ℕ) → hints ≡ [] → Tells n truth start
    → IsAt n clauses start truth hints
at_start n clauses start truth hints none tells = record {
  made = [];
  tells = subst (Tells n truth) (sym (append-nil start)) tells;
  reaches = subst (λ hs. Reaches n clauses start hs []) (sym none) (reaches_start n clauses start);
}

-- what holds before the clause with that number
abbrev pub Passed : ℕ → List (List Literal) → Truth → List ℕ → Truth → List ℕ → ℕ → Type 0
Passed n clauses old before truth hints number =
    ((t : List Literal) × Tells n truth t)
    × ((start : List Literal) → IsAt n clauses start old before → IsAt n clauses start truth hints)
    × (length before ≤ length hints)
    × ((length before < length hints) ⊎ AreStuck n clauses truth number)
    × (truth.round ≡ old.round)

-- a clause that leaves one literal
pub one_hint : (n : ℕ) (clauses : List (List Literal)) (old : Truth) (before : List ℕ) (truth new : Truth) (hints : List ℕ) (k : ℕ) (l : Literal)
    → Within n clauses → k < length clauses → ((t : List Literal) → Tells n truth t → IsLeft t (get_or clauses k []) l × (member l t ≡ false))
    → ((t : List Literal) → Tells n truth t → Tells n new (t ++ l ∷ [])) → new.round ≡ truth.round → Passed n clauses old before truth hints k
    → Passed n clauses old before new (hints ++ k ∷ []) (k + 1)
one_hint n clauses old before truth new hints k l within known left tells same (told, at, low, more, round) = (
  (told.0 ++ l ∷ [], tells told.0 told.1),
  λ start was.
      let a = at start was in
      let look = left (start ++ a.made) a.tells in
      record {
        made = a.made ++ l ∷ [];
        tells = subst (Tells n new) (append_assoc start a.made (l ∷ [])) (tells (start ++ a.made) a.tells);
        reaches = reaches_next n clauses start hints a.made k l within known look.0 look.1 a.reaches;
      },
  omega (arith, low, length_push hints k),
  inl (omega (arith, low, length_push hints k)),
  same ∙ round,
)

-- a clause that is stuck
pub one_stuck : (n : ℕ) (clauses : List (List Literal)) (old : Truth) (before : List ℕ) (truth : Truth) (hints : List ℕ) (k : ℕ)
    → ((t : List Literal) → Tells n truth t → IsStuck t (get_or clauses k [])) → Passed n clauses old before truth hints k
    → Passed n clauses old before truth hints (k + 1)
one_stuck n clauses old before truth hints k stuck (told, at, low, more, round) = (told, at, low, still more, round)
  where
    one : AreStuck n clauses truth k → AreStuck n clauses truth (k + 1)
    one all t now j w known = elim (cases_lt j k) [
      | inl earlier ↦ all t now j earlier known
      | inr later ↦ subst (λ i. IsStuck t (get_or clauses i [])) (omega (arith, w, later)) (stuck t now)
    ]

    still : (length before < length hints) ⊎ AreStuck n clauses truth k → (length before < length hints) ⊎ AreStuck n clauses truth (k + 1)
    still (inl made) = inl made
    still (inr all) = inr (one all)

-- behind the last one some clause has made a literal true
pub passed_all : (n : ℕ) (clauses : List (List Literal)) (old : Truth) (before : List ℕ) (truth : Truth) (hints : List ℕ) (number : ℕ)
    → length clauses ≤ number → Passed n clauses old before truth hints number → (start : List Literal) → IsAt n clauses start old before
    → Refutes clauses start → IsAt n clauses start truth hints × (length before < length hints)
passed_all n clauses old before truth hints number end (told, at, low, more, round) start was refutes = (at start was, by more)
  where
    by : (length before < length hints) ⊎ AreStuck n clauses truth number → length before < length hints
    by (inl made) = made
    by (inr stuck) =
        let a = at start was in
        absurd (stuck_not_refuted clauses start (start ++ a.made) (λ k w. stuck (start ++ a.made) a.tells k (omega (arith, w, end)) w)
        (start_true start a.made) refutes)

pub smaller : (n a b : ℕ) → a < b → b ≤ n → n + 1 - b < n + 1 - a
smaller n a b more few = omega (arith, more, few)
