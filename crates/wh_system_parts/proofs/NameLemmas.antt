-- Names in a list, by their bytes.
use Rattle.std.proofs.Common.{◌≡◌, ℕ, suc, ◌+◌, Bool, true, false, cond, not, ◌||◌, List, [], ◌∷◌, ◌++◌, length, Some, None, MatchBool, if◌then◌else◌, is_some, nat_lt, refl, ap, sym, ◌∙◌, subst, arith}
use native.Mathlib.Numerals.{unary_clauses}
use Rattle.std.specs.List.{list_any, position_or_len}
use Rattle.std.specs.Str.{bytes_eq}
use Rattle.std.proofs.lemmas.Cmp.{nat_list_eq_equiv}
use Rattle.std.specs.Prelude.{position}
use Rattle.wh_system_parts.specs.Naming.{is_declared, number_of}

-- a name is declared where it is in the list

less-step : (a b : ℕ) → nat_lt (1 + a) (suc b) ≡ nat_lt a b
less-step a b = first_of (simp unary_clauses, grind arith)

in_reach-at : (b : Bool) (a n : ℕ) (rest : Bool) → nat_lt a n ≡ rest → nat_lt (cond (not b) (1 + a) 0) (suc n) ≡ (b || rest)
in_reach-at true a n rest e = first_of (cc, grind arith, simp unary_clauses)
in_reach-at false a n rest e = less-step a n ∙ e

in_reach : {K : Type 0} (p : K → Bool) (ks : List K) → nat_lt (position_or_len p ks) (length ks) ≡ list_any p ks
in_reach p [] = refl
in_reach p (k ∷ ks) = in_reach-at (p k) (position_or_len p ks) (length ks) (list_any p ks) (in_reach p ks)

is_some-cond : (b : Bool) (n : ℕ) → is_some (cond b (Some n) None) ≡ b
is_some-cond true n = refl
is_some-cond false n = refl

any-turned : (name : List ℕ) (names : List (List ℕ)) → list_any (λ other. bytes_eq other name) names ≡ list_any (bytes_eq name) names
any-turned name [] = refl
any-turned name (other ∷ names) = λ i. nat_list_eq_equiv.symm other name i || any-turned name names i

-- a name is looked up by its equality with each, from either side
pub number_of-turned : (names : List (List ℕ)) (name : List ℕ) → position (bytes_eq name) names ≡ number_of names name
number_of-turned names name = λ i. position (λ other. nat_list_eq_equiv.symm name other i) names

pub is_declared-any : (names : List (List ℕ)) (name : List ℕ) → is_declared names name ≡ list_any (bytes_eq name) names
is_declared-any names name =
    let p = λ (other : List ℕ). bytes_eq other name in
    is_some-cond (nat_lt (position_or_len p names) (length names)) (position_or_len p names) ∙ in_reach p names ∙ any-turned name names

-- what `add` answers, and the names after it
abbrev pub Added : Bool → List (List ℕ) → List ℕ → List (List ℕ) → Type 0
Added joined old name new = MatchBool joined ((is_declared old name ≡ false) × (new ≡ old ++ name ∷ [])) ((is_declared old name ≡ true) × (new ≡ old))

pub table_added : (joined : Bool) (keys after : List (List ℕ)) (copy : List ℕ) (names : List (List ℕ)) (name : List ℕ)
    → names ≡ keys → copy ≡ name → joined ≡ not (list_any (bytes_eq copy) keys)
    → after ≡ (if list_any (bytes_eq copy) keys then keys else keys ++ copy ∷ []) → Added joined names name after
table_added joined keys after copy names name from is answer put = by (list_any (bytes_eq copy) keys) refl
  where
    known : is_declared names name ≡ list_any (bytes_eq copy) keys
    known = (λ i. is_declared (from i) (sym is i)) ∙ is_declared-any keys copy

    by : (b : Bool) → list_any (bytes_eq copy) keys ≡ b → Added joined names name after
    by true e =
        let stays = answer ∙ ap not e in
        subst (λ j. Added j names name after) (sym stays) (known ∙ e, put ∙ ap (λ b. if b then keys else keys ++ copy ∷ []) e ∙ sym from)
    by false e =
        let joins = answer ∙ ap not e in
        subst (λ j. Added j names name after) (sym joins)
        (known ∙ e, put ∙ ap (λ b. if b then keys else keys ++ copy ∷ []) e ∙ (λ i. sym from i ++ is i ∷ []))
