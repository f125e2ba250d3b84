-- Entries one by one.
use Rattle.std.proofs.Common.{◌≡◌, ℕ, suc, ◌+◌, ◌<◌, ◌≤◌, inl, inr, List, [], ◌∷◌, ◌++◌, Some, Contains, length, get_or, map, take, slice_get, sym, ◌∙◌, ap, subst, arith}
use Rattle.std.proofs.lemmas.Bool.{cases_lt}
use Rattle.std.proofs.lemmas.List.{append-nil, append_assoc, length_push, length-take-le, map-append, take-append-le, get_or_append_left, take_all}
use Rattle.std.proofs.lemmas.List.Elements.{Contains-push_cases}
use Rattle.std.proofs.lemmas.Option.{slice_get-get_or, get_or_from_slice_get}
use Rattle.std.proofs.Math.Seq.{get_or-append_seam, take-append_seam, take-suc}
use Rattle.wh_sat_trail.specs.declared.literal.Literal.{Literal}
use Rattle.wh_sat_trail.specs.declared.entry.Entry.{Entry}
use Rattle.wh_refute.specs.Refuting.{IsGoodEntry, AreGoodBefore, IsRefutation}

-- the clauses of entries
abbrev pub clauses_in : List Entry → List (List Literal)
clauses_in list = map (λ (e : Entry). e.clause) list

-- what is so far: good entries, whose clauses are those behind the given ones, and none has more hints than that
pub record SoFar (n : ℕ) (given all : List (List Literal)) (place : ℕ) (list : List Entry) : Type 0 where
  pub good : AreGoodBefore n given list (length list)
  pub clauses : given ++ clauses_in list ≡ take place all
  pub count : length list + length given ≡ place
  pub hints : (e : Entry) → Contains list e → length e.hints ≤ n + 1

pub none_yet : (n : ℕ) (all : List (List Literal)) (given : ℕ) → given ≤ length all → SoFar n (take given all) all given []
none_yet n all given within = record {
  good = λ j e w f. absurd (omega (arith, w));
  clauses = append-nil (take given all);
  count = omega (arith, length-take-le given all within);
  hints = λ e h. absurd (omega (arith, h.1));
}

-- one good entry more
good_more : (n : ℕ) (given : List (List Literal)) (list : List Entry) (x : Entry) → AreGoodBefore n given list (length list)
    → IsGoodEntry n (given ++ clauses_in list) x → AreGoodBefore n given (list ++ x ∷ []) (length (list ++ x ∷ []))
good_more n given list x good is j e w found = elim (cases_lt j (length list)) [
  | inl before ↦
      let same : slice_get (list ++ x ∷ []) j ≡ slice_get list j =
      slice_get-get_or (list ++ x ∷ []) j x w ∙ ap Some (get_or_append_left list (x ∷ []) x j before) ∙ sym (slice_get-get_or list j x before) in
      subst (λ l. IsGoodEntry n (given ++ clauses_in l) e) (sym (take-append-le j list (x ∷ []) (omega (arith, before))))
      (good j e before (sym same ∙ found))
  | inr behind ↦
      let last : j ≡ length list = omega (arith, w, behind, length_push list x) in
      let one : x ≡ e = sym (get_or-append_seam list x [] x) ∙ ap (λ k. get_or (list ++ x ∷ []) k x) (sym last)
      ∙ get_or_from_slice_get (list ++ x ∷ []) j e x found in
      subst (λ l. IsGoodEntry n (given ++ clauses_in l) e)
      (sym (ap (λ k. take k (list ++ x ∷ [])) last ∙ take-append_seam list (x ∷ []))) (subst (IsGoodEntry n (given ++ clauses_in list)) one is)
]

hints_more : (n : ℕ) (list : List Entry) (x : Entry) → ((e : Entry) → Contains list e → length e.hints ≤ n + 1) → length x.hints ≤ n + 1
    → (e : Entry) → Contains (list ++ x ∷ []) e → length e.hints ≤ n + 1
hints_more n list x all few e h = elim (Contains-push_cases list x e h) [
  | inl before ↦ all e before
  | inr same ↦ subst (λ (y : Entry). length y.hints ≤ n + 1) same few
]

pub one_more : (n : ℕ) (given all : List (List Literal)) (place : ℕ) (list : List Entry) (x : Entry) → place < length all
    → IsGoodEntry n (take place all) x → x.clause ≡ get_or all place [] → length x.hints ≤ n + 1 → SoFar n given all place list
    → SoFar n given all (place + 1) (list ++ x ∷ [])
one_more n given all place list x within is clause few s = record {
  good = good_more n given list x s.good (subst (λ c. IsGoodEntry n c x) (sym s.clauses) is);
  clauses = ap (λ l. given ++ l) (map-append (λ (e : Entry). e.clause) list (x ∷ []))
      ∙ sym (append_assoc given (clauses_in list) (x.clause ∷ [])) ∙ ap (λ l. l ++ x.clause ∷ []) s.clauses
      ∙ ap (λ c. take place all ++ c ∷ []) clause ∙ sym (take-suc all place [] within)
      ∙ ap (λ k. take k all) (let e : suc place ≡ place + 1 = omega arith in e);
  count = omega (arith, s.count, length_push list x);
  hints = hints_more n list x s.hints few;
}

-- at last the empty clause
pub with_last : (n : ℕ) (given all : List (List Literal)) (place : ℕ) (list : List Entry) (x : Entry) → length all ≤ place → IsGoodEntry n all x
    → x.clause ≡ [] → SoFar n given all place list → IsRefutation n given (list ++ x ∷ [])
with_last n given all place list x end is clause s = record {
  good = good_more n given list x s.good (subst (λ c. IsGoodEntry n c x) (sym (s.clauses ∙ take_all place all end)) is);
  empty = (
    length list,
    length_push list x,
    λ e found. ap (λ (y : Entry). y.clause) (sym (get_or_from_slice_get (list ++ x ∷ []) (length list) e x found) ∙ get_or-append_seam list x [] x) ∙ clause,
  );
}

pub all_hints : (n : ℕ) (given all : List (List Literal)) (place : ℕ) (list : List Entry) (x : Entry) → length x.hints ≤ n + 1
    → SoFar n given all place list → (e : Entry) → Contains (list ++ x ∷ []) e → length e.hints ≤ n + 1
all_hints n given all place list x few s = hints_more n list x s.hints few
