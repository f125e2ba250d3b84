-- Hints are followed one by one.
use Rattle.std.proofs.Common.{◌≡◌, ℕ, zero, suc, ◌+◌, ◌-◌, ◌<◌, ◌≤◌, inl, inr, false, List, [], ◌∷◌, ◌++◌, Option, Some, None, length, get_or, map, take, drop, slice_get, length-append, refl, sym, ◌∙◌, ap, subst, arith}
use Rattle.std.proofs.lemmas.Bool.{cases_lt}
use Rattle.std.proofs.lemmas.List.{get_or_append_left}
use Rattle.std.proofs.Math.Seq.{drop-cons, get_or-append_right}
use Rattle.wh_sat_trail.specs.declared.literal.Literal.{Literal}
use Rattle.wh_sat_trail.specs.declared.entry.Entry.{Entry}
use Rattle.wh_sat_trail.specs.Assignment.{AllBelow, negated}
use Rattle.wh_sat_trail.specs.Member.{member}
use Rattle.wh_sat_trail.specs.Propagation.{Within}
use Rattle.wh_refute.specs.Refuting.{IsFalse, IsLeft, Leads, ends, goes, IsGoodEntry, AreGoodBefore, EndsEmpty, clauses_before}
use Rattle.wh_refute.specs.RefuteFaults.{IsFirstRefuteFault, IsStuck, Strays, names_none, false_too_early, gets_stuck, stays_open, later}
use Rattle.wh_refute.specs.Told.{IsEntryFault, IsHintFault, fault_of, with_entries}
use Rattle.wh_refute.specs.declared.fault.EntryFault.{EntryFault}
use Rattle.wh_refute.specs.declared.fault.EntryFault.TheVariants as fault

-- what holds of the hints from number i on, behind the true literals u, holds of all hints behind t
pub record Reaches (clauses : List (List Literal)) (t : List Literal) (hints : List ℕ) (i : ℕ) (u : List Literal) : Type 0 where
  pub strays : (f : Option ℕ) → Strays clauses i u (drop i hints) f → Strays clauses 0 t hints f
  pub leads : Leads clauses u (drop i hints) → Leads clauses t hints

pub reaches_start : (clauses : List (List Literal)) (t : List Literal) (hints : List ℕ) → Reaches clauses t hints 0 t
reaches_start clauses t hints = record { strays = λ f s. s; leads = λ l. l }

-- the hint number i, with those behind it
here : (hints : List ℕ) (i : ℕ) (k : ℕ) → i < length hints → k ≡ get_or hints i k → drop i hints ≡ k ∷ drop (suc i) hints
here hints i k within is = drop-cons hints i k within ∙ ap (λ n. n ∷ drop (suc i) hints) (sym is)

pub reaches_next : (clauses : List (List Literal)) (t u : List Literal) (hints : List ℕ) (i k : ℕ) (l : Literal) → i < length hints
    → k ≡ get_or hints i k → k < length clauses → IsLeft u (get_or clauses k []) l → member l u ≡ false → Reaches clauses t hints i u
    → Reaches clauses t hints (suc i) (u ++ l ∷ [])
reaches_next clauses t u hints i k l within is known left new r = record {
  strays = λ f s. r.strays f (subst (λ hs. Strays clauses i u hs f) (sym (here hints i k within is))
      (later i u k l (drop (suc i) hints) f known left new s));
  leads = λ m. r.leads (subst (Leads clauses u) (sym (here hints i k within is)) (goes u k l (drop (suc i) hints) known left new m));
}

pub reaches_unknown : (clauses : List (List Literal)) (t u : List Literal) (hints : List ℕ) (i k : ℕ) → i < length hints
    → k ≡ get_or hints i k → length clauses ≤ k → Reaches clauses t hints i u → Strays clauses 0 t hints (Some i)
reaches_unknown clauses t u hints i k within is unknown r =
    r.strays (Some i) (subst (λ hs. Strays clauses i u hs (Some i)) (sym (here hints i k within is))
    (names_none i u k (drop (suc i) hints) unknown))

pub reaches_stuck : (clauses : List (List Literal)) (t u : List Literal) (hints : List ℕ) (i k : ℕ) → i < length hints
    → k ≡ get_or hints i k → k < length clauses → IsStuck u (get_or clauses k []) → Reaches clauses t hints i u
    → Strays clauses 0 t hints (Some i)
reaches_stuck clauses t u hints i k within is known stuck r =
    r.strays (Some i) (subst (λ hs. Strays clauses i u hs (Some i)) (sym (here hints i k within is))
    (gets_stuck i u k (drop (suc i) hints) known stuck))

pub reaches_early : (clauses : List (List Literal)) (t u : List Literal) (hints : List ℕ) (i k : ℕ) → suc i < length hints
    → k ≡ get_or hints i k → k < length clauses → IsFalse u (get_or clauses k []) → Reaches clauses t hints i u
    → Strays clauses 0 t hints (Some i)
reaches_early clauses t u hints i k more is known false_there r =
    r.strays (Some i) (subst (λ hs. Strays clauses i u hs (Some i))
    (sym (here hints i k (omega (arith, more)) is ∙ ap (λ hs. k ∷ hs) (drop-cons hints (suc i) 0 more)))
    (false_too_early i u k (get_or hints (suc i) 0) (drop (suc (suc i)) hints) known false_there))

nothing_behind : (hints : List ℕ) (i : ℕ) → length hints ≤ i → drop i hints ≡ []
nothing_behind [] zero h = refl
nothing_behind [] (suc i) h = refl
nothing_behind (x ∷ hints) zero h = absurd (omega (arith, h))
nothing_behind (x ∷ hints) (suc i) h = nothing_behind hints i (omega (arith, h))

pub reaches_false : (clauses : List (List Literal)) (t u : List Literal) (hints : List ℕ) (i k : ℕ) → suc i ≡ length hints
    → k ≡ get_or hints i k → k < length clauses → IsFalse u (get_or clauses k []) → Reaches clauses t hints i u → Leads clauses t hints
reaches_false clauses t u hints i k last is known false_there r =
    r.leads (subst (Leads clauses u)
    (sym (here hints i k (omega (arith, last)) is ∙ ap (λ hs. k ∷ hs) (nothing_behind hints (suc i) (omega (arith, last)))))
    (ends u k known false_there))

pub reaches_end : (clauses : List (List Literal)) (t u : List Literal) (hints : List ℕ) (i : ℕ) → length hints ≤ i
    → Reaches clauses t hints i u → Strays clauses 0 t hints None
reaches_end clauses t u hints i over r =
    r.strays None (subst (λ hs. Strays clauses i u hs None) (sym (nothing_behind hints i over)) (stays_open i u))

-- the clauses of good entries are over the formula's variables, too
clause_there : (list : List Entry) (k j : ℕ) → j < length (map (λ (e : Entry). e.clause) (take k list)) → (e : Entry) × (j < k)
    × (slice_get list j ≡ Some e) × (get_or (map (λ (e : Entry). e.clause) (take k list)) j [] ≡ e.clause)
clause_there [] zero j h = absurd (omega (arith, h))
clause_there [] (suc k) j h = absurd (omega (arith, h))
clause_there (e ∷ list) zero j h = absurd (omega (arith, h))
clause_there (e ∷ list) (suc k) zero h = (e, omega arith, refl, refl)
clause_there (e ∷ list) (suc k) (suc j) h =
    let r = clause_there list k j (omega (arith, h)) in (r.0, omega (arith, r.1), r.2, r.3)

pub within_entries : (n : ℕ) (given : List (List Literal)) (list : List Entry) (k : ℕ) → Within n given → AreGoodBefore n given list k
    → Within n (with_entries given (take k list))
within_entries n given list k w good j inside = elim (cases_lt j (length given)) [
  | inl before ↦ subst (AllBelow n) (sym (get_or_append_left given entries [] j before)) (w j before)
  | inr behind ↦
      let r = clause_there list k (j - length given) (omega (arith, inside, behind, length-append given entries)) in
      let g = good (j - length given) r.0 r.1 r.2 in
      subst (AllBelow n) (sym (get_or-append_right given entries j [] behind ∙ r.3)) g.below
]
  where
    entries : List (List Literal)
    entries = map (λ (e : Entry). e.clause) (take k list)

-- one good entry more
pub good_push : (n : ℕ) (given : List (List Literal)) (list : List Entry) (k : ℕ) (x : Entry) → slice_get list k ≡ Some x
    → IsGoodEntry n (with_entries given (take k list)) x → AreGoodBefore n given list k → AreGoodBefore n given list (k + 1)
good_push n given list k x is good before j e w found = elim (cases_lt j k) [
  | inl earlier ↦ before j e earlier found
  | inr this ↦
      let same : j ≡ k = omega (arith, w, this) in
      let one : x ≡ e = some_one x e (sym is ∙ ap (slice_get list) (sym same) ∙ found) in
      subst (λ i. IsGoodEntry n (clauses_before given list i) e) (sym same)
      (subst (IsGoodEntry n (clauses_before given list k)) one good)
]
  where
    some_one : (a b : Entry) → Some a ≡ Some b → a ≡ b
    some_one a b e = ap (λ (o : Option Entry). elim o [ None ↦ a | Some c ↦ c ]) e

-- an entry at fault behind good ones
pub first_fault : (n : ℕ) (given : List (List Literal)) (list : List Entry) (k : ℕ) (x : Entry) (f : EntryFault) → slice_get list k ≡ Some x
    → AreGoodBefore n given list k → IsEntryFault n (with_entries given (take k list)) x f → IsFirstRefuteFault n given list (fault_of k f)
first_fault n given list k x fault.Literal is good h = (good, x, is, h)
first_fault n given list k x (fault.Hint i) is good (below, strays) =
    record { good = good; entry = x; is = is; below = below; strays = strays }
first_fault n given list k x fault.Open is good (below, strays) =
    record { good = good; entry = x; is = is; below = below; strays = strays }

-- an entry's negations lead on, or go wrong
pub entry_faults : (n : ℕ) (clauses : List (List Literal)) (e : Entry) (f : EntryFault) → AllBelow n e.clause
    → IsHintFault clauses (map negated e.clause) e.hints f → IsEntryFault n clauses e f
entry_faults n clauses e fault.Literal below h = absurd h
entry_faults n clauses e (fault.Hint i) below h = (below, h)
entry_faults n clauses e fault.Open below h = (below, h)

pub nothing_ends : EndsEmpty [] → ⊥
nothing_ends (k, e, f) = absurd (omega (arith, e))

pub ends_at : (list : List Entry) (k : ℕ) (x : Entry) → length list ≡ k + 1 → slice_get list k ≡ Some x → (EndsEmpty list → x.clause ≡ [])
    × (x.clause ≡ [] → EndsEmpty list)
ends_at list k x long is = (λ h. there h, λ e. (k, long, λ y found. ap (λ (o : Option Entry). clause_in o) (sym found ∙ is) ∙ e))
  where
    clause_in : Option Entry → List Literal
    clause_in (Some y) = y.clause
    clause_in None = []

    there : EndsEmpty list → x.clause ≡ []
    there (j, e, f) = f x (ap (slice_get list) (omega (arith, e, long)) ∙ is)
