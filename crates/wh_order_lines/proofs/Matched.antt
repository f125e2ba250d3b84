-- What there is holds of what it is, and what is missing holds.
use Rattle.std.proofs.Common.{◌≡◌, ◌↔◌, Bool, true, false, not, IsTrue, Option, Some, None, MatchOption, is_some, refl, subst}

pub matched_some : {A : Type 0} (o : Option A) (x : A) (N : Type 0) (P : A → Type 0) → o ≡ Some x → MatchOption o N P → P x
matched_some None x N P is h = absurd (cc)
matched_some (Some y) x N P is h = let e : y ≡ x = cc in subst P e h

pub matched_none : {A : Type 0} (o : Option A) (N : Type 0) (P : A → Type 0) → o ≡ None → MatchOption o N P → N
matched_none None N P is h = h
matched_none (Some y) N P is h = absurd (cc)

-- whether it is missing is told
pub told_missing : {A : Type 0} (o : Option A) (N : Type 0) (P : A → Type 0) (b : Bool) → is_some o ≡ not b → MatchOption o N P
    → ((x : A) → P x → N → ⊥) → IsTrue b ↔ N
told_missing None N P true e h apart = (λ _. h, λ _. refl)
told_missing None N P false e h apart = absurd (cc)
told_missing (Some x) N P true e h apart = absurd (cc)
told_missing (Some x) N P false e h apart = (λ no_way. cc, λ n. absurd (apart x h n))
