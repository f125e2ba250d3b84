-- What it means that no test of a list fails.
use Rattle.std.proofs.Common.{◌≡◌, Bool, true, false, not, ◌&&◌, ◌||◌, List, ◌∷◌, ◌++◌, Option, Some, None, is_some, refl}
use Rattle.wh_system_parts.specs.Faults.{Test, first_fault}
use Rattle.wh_system_parts.proofs.FaultLemmas.{no_fault_in_parts, no_fault_at_test}

-- no test of the list fails
pub record Passed (ts : List Test) : Type 0 where
  pub none_fails : first_fault ts ≡ None

pub passed_first : {t : Test} {ts : List Test} → Passed (t ∷ ts) → t.fails ≡ false
passed_first {t} {ts} p = (no_fault_at_test t.fails t.fault ts p.none_fails).0

pub passed_rest : {t : Test} {ts : List Test} → Passed (t ∷ ts) → Passed ts
passed_rest {t} {ts} p = record { none_fails = (no_fault_at_test t.fails t.fault ts p.none_fails).1 }

-- where the tests of two lists together pass, those of each list do
pub passed_parts : (ts us : List Test) → Passed (ts ++ us) → Passed ts × Passed us
passed_parts ts us p =
    let parts = no_fault_in_parts ts us p.none_fails in
    (record { none_fails = parts.0 }, record { none_fails = parts.1 })

-- tests as truth values

pub and_true : (a b : Bool) → (a && b) ≡ true → (a ≡ true) × (b ≡ true)
and_true true b e = (refl, e)
and_true false b e = absurd (cc)

pub and_false : (a b : Bool) → (a && b) ≡ false → a ≡ true → b ≡ false
and_false true b e h = e
and_false false b e h = absurd (cc)

pub or_false : (a b : Bool) → (a || b) ≡ false → (a ≡ false) × (b ≡ false)
or_false true b e = absurd (cc)
or_false false b e = (refl, e)

pub or_true : (a b : Bool) → (a || b) ≡ true → a ≡ false → b ≡ true
or_true true b e h = absurd (cc)
or_true false b e h = e

pub not_false : (a : Bool) → not a ≡ false → a ≡ true
not_false true e = refl
not_false false e = absurd (cc)

pub not_true : (a : Bool) → not a ≡ true → a ≡ false
not_true true e = absurd (cc)
not_true false e = refl

-- what may be there

pub some_is : {A : Type 0} (o : Option A) → is_some o ≡ true → (a : A) × (o ≡ Some a)
some_is (Some a) e = (a, refl)
some_is None e = absurd (cc)

pub none_is : {A : Type 0} (o : Option A) → is_some o ≡ false → o ≡ None
none_is (Some a) e = absurd (cc)
none_is None e = refl
