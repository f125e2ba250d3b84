-- Clauses that join a learner's.
use Rattle.std.proofs.Common.{◌≡◌, ℕ, ◌<◌, ◌≤◌, inl, inr, Bool, true, false, List, [], ◌∷◌, ◌++◌, length, get_or, take, ap, sym, subst, ◌∙◌, arith}
use Rattle.std.proofs.lemmas.Bool.{cases_lt, false≢true}
use Rattle.std.proofs.lemmas.List.{get_or_append_left, get_or_push, get_or-take, length_push, take-append-le, take_at, take-take, length-take}
use Rattle.wh_sat_trail.specs.declared.literal.Literal.{Literal}

-- what holds of each given clause and those before it
abbrev pub AllGiven : (List (List Literal) → List Literal → Type 0) → List (List Literal) → List Bool → Type 0
AllGiven P clauses learnt = (k : ℕ) → k < length clauses → get_or learnt k false ≡ false → P (take k clauses) (get_or clauses k [])

both_same : (P : List (List Literal) → List Literal → Type 0) (cs ds : List (List Literal)) (c d : List Literal) → cs ≡ ds → c ≡ d → P ds d → P cs c
both_same P cs ds c d front last p = subst (λ l. P l c) (sym front) (subst (P ds) (sym last) p)

-- one more clause is given
pub given_push : (P : List (List Literal) → List Literal → Type 0) (clauses new : List (List Literal)) (learnt told : List Bool) (clause : List Literal)
    → new ≡ clauses ++ clause ∷ [] → told ≡ learnt ++ false ∷ [] → length learnt ≡ length clauses
    → AllGiven P clauses learnt → P clauses clause → AllGiven P new told
given_push P clauses new learnt told clause is marks long before here k within given = elim (cases_lt k (length clauses)) [
  | inl early ↦
      both_same P (take k new) (take k clauses) (get_or new k []) (get_or clauses k [])
      (ap (take k) is ∙ take-append-le k clauses (clause ∷ []) (omega (arith, early)))
      (ap (λ l. get_or l k []) is ∙ get_or_append_left clauses (clause ∷ []) [] k early)
      (before k early (sym (get_or_append_left learnt (false ∷ []) false k (omega (arith, early, long))) ∙ sym (ap (λ l. get_or l k false) marks) ∙ given))
  | inr late ↦
      let last : length clauses ≡ k = omega (arith, late, within, ap length is, length_push clauses clause) in
      both_same P (take k new) clauses (get_or new k []) clause
      (ap (take k) is ∙ take_at clauses (clause ∷ []) k last) (ap (λ l. get_or l k []) is ∙ get_or_push clauses clause [] k last) here
]

-- clauses are learnt
pub given_extends : (P : List (List Literal) → List Literal → Type 0) (clauses new : List (List Literal)) (learnt told : List Bool)
    → take (length clauses) new ≡ clauses → take (length learnt) told ≡ learnt → length learnt ≡ length clauses → length told ≡ length new
    → ((k : ℕ) → length learnt ≤ k → k < length told → get_or told k false ≡ true)
    → AllGiven P clauses learnt → AllGiven P new told
given_extends P clauses new learnt told front marks long longer later before k within given = elim (cases_lt k (length clauses)) [
  | inl early ↦
      both_same P (take k new) (take k clauses) (get_or new k []) (get_or clauses k [])
      (sym (take-take k (length clauses) new (omega (arith, early))) ∙ ap (take k) front)
      (sym (get_or-take (length clauses) new k [] early) ∙ ap (λ l. get_or l k []) front)
      (before k early (sym (ap (λ l. get_or l k false) marks) ∙ get_or-take (length learnt) told k false (omega (arith, early, long)) ∙ given))
  | inr late ↦ absurd (false≢true (sym given ∙ later k (omega (arith, late, long)) (omega (arith, within, longer))))
]

-- the clauses do not get fewer
pub front_long : (clauses new : List (List Literal)) → take (length clauses) new ≡ clauses → length clauses ≤ length new
front_long clauses new front = omega (arith, ap length front, length-take (length clauses) new)
