-- Names that go from a list into a table and back, one after another.
use Rattle.std.proofs.Common.{◌≡◌, ◌≢◌, ℕ, ◌+◌, ◌<◌, Bool, true, false, List, [], ◌∷◌, ◌++◌, length, get_or, take, is_some, MatchBool, ap, ap₂, sym, ◌∙◌, subst, arith}
use Rattle.std.proofs.lemmas.List.{get_or_default, get_or-take, length-take-le, take_more}
use Rattle.wh_system_parts.specs.Naming.{is_declared}
use Rattle.wh_system.specs.Canonical.{name_at}
use Rattle.wh_system.specs.WellMade.{AreDistinct}
use Rattle.wh_system_making.proofs.CanonicalNames.{no_number}

-- a name is not among those before it
pub new_name : (names : List (List ℕ)) (i : ℕ) (name : List ℕ) → AreDistinct names → i < length names → name ≡ get_or names i name → is_declared (take i names) name ≡ false
new_name names i name distinct within is =
    ap is_some (no_number (take i names) name other)
  where
    other : (k : ℕ) → k < length (take i names) → name_at (take i names) k ≢ name
    other k l e =
        let below : k < i = subst (λ n. k < n) (length-take-le i names (omega arith)) l in
        distinct k i [] below within (sym (get_or-take i names k [] below) ∙ e ∙ is ∙ get_or_default names i name [] within)

-- a name that is not declared joins the names
pub joined : (joined : Bool) (old new : List (List ℕ)) (name : List ℕ) → is_declared old name ≡ false
    → MatchBool joined ((is_declared old name ≡ false) × (new ≡ old ++ name ∷ [])) ((is_declared old name ≡ true) × (new ≡ old)) → new ≡ old ++ name ∷ []
joined true old new name other answer = answer.1
joined false old new name other answer = absurd (let known = answer.0 in cc)

-- a name more
pub taken_next : (names before after : List (List ℕ)) (i : ℕ) (name : List ℕ) → i < length names → name ≡ get_or names i name → before ≡ take i names → after ≡ before ++ name ∷ []
    → after ≡ take (i + 1) names
taken_next names before after i name within is so_far new =
    new ∙ ap₂ (λ ns n. ns ++ n ∷ []) so_far is ∙ sym (take_more names i name within)
