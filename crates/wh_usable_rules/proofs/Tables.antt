-- Tables into which places are entered.
use Rattle.std.proofs.Common.{◌≡◌, ℕ, ◌+◌, ◌<◌, ◌≤◌, ◌⊎◌, ◌↔◌, inl, inr, Bool, List, length, Some, slice_get, refl, sym, subst, ◌∙◌, arith}
use Rattle.std.proofs.lemmas.Option.{slice_get_within}
use Rattle.wh_terms.specs.Tree.{Tm, Tms, none, more, tms_of}
use Rattle.wh_pairs.specs.PairData.{PairData}
use Rattle.wh_pairs.proofs.ByPlace.{same_or_below, some_one, contains_at, place_of}
use Rattle.wh_usable.specs.Closed.{HasSymbol, HaveSymbol}
use Rattle.wh_usable_rules.specs.Tables.{Says, Enters}
use Rattle.wh_usable_rules.specs.Called.{StandsInPairs}

pub enters_none : (P : ℕ → Type 0) (table : List Bool) → ((n : ℕ) → P n → ⊥) → Enters P table table
enters_none P table never = record {
  same_length = refl;
  each = λ n within. (inl, λ h. elim h [ inl there ↦ there | inr p ↦ absurd (never n p) ]);
}

pub enters_as : (P Q : ℕ → Type 0) (old new : List Bool) → ((n : ℕ) → P n ↔ Q n) → Enters P old new → Enters Q old new
enters_as P Q old new same enters = record {
  same_length = enters.same_length;
  each = λ n within. (
    λ says. elim ((enters.each n within).0 says) [ inl there ↦ inl there | inr p ↦ inr ((same n).0 p) ],
    λ h. elim h [ inl there ↦ (enters.each n within).1 (inl there) | inr q ↦ (enters.each n within).1 (inr ((same n).1 q)) ],
  );
}

pub enters_both : (P Q : ℕ → Type 0) (old mid new : List Bool) → Enters P old mid → Enters Q mid new → Enters (λ n. P n ⊎ Q n) old new
enters_both P Q old mid new first second = record {
  same_length = second.same_length ∙ first.same_length;
  each = λ n within.
      let one = first.each n within in
      let two = second.each n (omega (arith, within, first.same_length)) in (
        λ says. elim (two.0 says) [
          | inl there ↦ elim (one.0 there) [ inl before ↦ inl before | inr p ↦ inr (inl p) ]
          | inr q ↦ inr (inr q)
        ],
        λ h. elim h [
          | inl before ↦ two.1 (inl (one.1 (inl before)))
          | inr either ↦ elim either [ inl p ↦ two.1 (inl (one.1 (inr p))) | inr q ↦ two.1 (inr q) ]
        ],
      );
}

-- the symbols of the trees before a place are entered
pub record EntersSome (rest all : Tms) (old new : List Bool) : Type 0 where
  pub same_length : length new ≡ length old
  pub each : (n : ℕ) → n < length old → (Says new n ⊎ HaveSymbol n rest) ↔ (Says old n ⊎ HaveSymbol n all)

pub some_first : (all : Tms) (table : List Bool) → EntersSome all all table table
some_first all table = record { same_length = refl; each = λ n within. (λ h. h, λ h. h) }

pub some_next : (t : Tm) (rest all : Tms) (old mid new : List Bool) → EntersSome (more t rest) all old mid → Enters (λ n. HasSymbol n t) mid new
    → EntersSome rest all old new
some_next t rest all old mid new before here = record {
  same_length = here.same_length ∙ before.same_length;
  each = λ n within.
      let was = before.each n within in
      let now = here.each n (omega (arith, within, before.same_length)) in (
        λ h. elim h [
          | inl says ↦ elim (now.0 says) [ inl there ↦ was.0 (inl there) | inr has ↦ was.0 (inr (inl has)) ]
          | inr later ↦ was.0 (inr (inr later))
        ],
        λ h. elim (was.1 h) [
          | inl there ↦ inl (now.1 (inl there))
          | inr either ↦ elim either [ inl has ↦ inl (now.1 (inr has)) | inr later ↦ inr later ]
        ],
      );
}

pub some_all : (all : Tms) (old new : List Bool) → EntersSome none all old new → Enters (λ n. HaveSymbol n all) old new
some_all all old new ended = record {
  same_length = ended.same_length;
  each = λ n within. (
    λ says. (ended.each n within).0 (inl says),
    λ h. elim ((ended.each n within).1 h) [ inl says ↦ says | inr never ↦ absurd never ],
  );
}

-- symbols in the right arguments of the pairs before a place of the set

module _ (pairs : List PairData) (set : List ℕ) where
  pub record StandsBefore (i f : ℕ) : Type 0 where
    pub place : ℕ
    pub number : ℕ
    pub pair : PairData
    pub before : place < i
    pub at : slice_get set place ≡ Some number
    pub there : slice_get pairs number ≡ Some pair
    pub has : HaveSymbol f (tms_of pair.right)

  pub stands_first : (f : ℕ) → StandsBefore 0 f → ⊥
  stands_first f s = omega (arith, s.before)

  pub stands_next : (i n : ℕ) (p : PairData) → slice_get set i ≡ Some n → slice_get pairs n ≡ Some p → (f : ℕ)
      → (StandsBefore i f ⊎ HaveSymbol f (tms_of p.right)) ↔ StandsBefore (i + 1) f
  stands_next i n p at there f = (
    λ h. elim h [
      | inl s ↦
          record { place = s.place; number = s.number; pair = s.pair; before = omega (arith, s.before); at = s.at; there = s.there; has = s.has }
      | inr has ↦ record { place = i; number = n; pair = p; before = omega arith; at = at; there = there; has = has }
    ],
    λ s. elim (same_or_below s.place i s.before) [
      | inl same ↦
          let number : s.number ≡ n = some_one (subst (λ k. slice_get set k ≡ Some s.number) same s.at) at in
          let pair : s.pair ≡ p = some_one (subst (λ k. slice_get pairs k ≡ Some s.pair) number s.there) there in
          inr (subst (λ (q : PairData). HaveSymbol f (tms_of q.right)) pair s.has)
      | inr below ↦
          inl (record { place = s.place; number = s.number; pair = s.pair; before = below; at = s.at; there = s.there; has = s.has })
    ],
  )

  pub enters_pair : (i n : ℕ) (p : PairData) (ts : Tms) (old mid new : List Bool) → slice_get set i ≡ Some n → slice_get pairs n ≡ Some p
      → tms_of p.right ≡ ts → Enters (StandsBefore i) old mid → Enters (λ f. HaveSymbol f ts) mid new → Enters (StandsBefore (i + 1)) old new
  enters_pair i n p ts old mid new at there same before here =
      enters_as (λ f. StandsBefore i f ⊎ HaveSymbol f (tms_of p.right)) (StandsBefore (i + 1)) old new (stands_next i n p at there)
      (enters_both (StandsBefore i) (λ f. HaveSymbol f (tms_of p.right)) old mid new before
      (subst (λ (v : Tms). Enters (λ f. HaveSymbol f v) mid new) (sym same) here))

  pub stands_all : (i : ℕ) → length set ≤ i → (f : ℕ) → StandsBefore i f ↔ StandsInPairs pairs set f
  stands_all i past f = (
    λ s. (s.pair, (s.number, contains_at set s.place s.number s.at, s.there), s.has),
    λ (p, (n, found, there), has).
        let (k, at) = place_of set n found in
        let within = slice_get_within set k n at in
        record { place = k; number = n; pair = p; before = omega (arith, within, past); at = at; there = there; has = has },
  )
