-- The sides of a candidate take the values that an instance of its call has: to a meta-substitution for the rule come terms for
-- the binders around the call, and for the arguments that it lacks.
use Rattle.std.proofs.Common.{◌≡◌, ℕ, zero, suc, ◌+◌, ◌-◌, ◌<◌, ◌≤◌, List, [], ◌∷◌, ◌++◌, length, map, reverse, get_or, ltb, Bool, true, false, Option, Some, None, slice_get, Contains, ◌⊎◌, inl, inr, refl, ap, sym, ◌∙◌, subst, subst₂, arith, append_assoc}
use Rattle.std.proofs.lemmas.Bool.{cases_lt, lt-ltb, le-ltb}
use Rattle.std.proofs.lemmas.List.{reverse-append}
use Rattle.std.proofs.lemmas.List.Elements.{Contains-append_cases}
use Rattle.std.proofs.lemmas.Option.{slice_get_within, slice_get-get_or, get_or_from_slice_get}
use Rattle.wh_types.specs.Ty.{Ty, sort, ◌⇒◌}
use Rattle.wh_terms.specs.Tree.{Tm, bound, free, meta, Tms, none, tms_of}
use Rattle.wh_terms.specs.Substitution.{act}
use Rattle.wh_terms.specs.Sight.{LooseBelow, Occurs, OccursIn}
use Rattle.wh_terms.specs.Typing.{Symbols, Declared, Typed, typed_bound, typed_free, typed_fun, typed_meta, typed_lam, typed_app, AllTyped, typed_none, typed_more}
use Rattle.wh_terms.specs.Value.{Body, parameters, Value, of_meta, Values, of_none, of_more}
use Rattle.wh_terms.specs.TypedBodies.{FitsDeclared, TypedBodies}
use Rattle.wh_terms.specs.Rules.{RewriteRule, IsWellMade}
use Rattle.wh_terms.proofs.ActLaws.{act-id}
use Rattle.wh_terms.proofs.SightLaws.{act_loose}
use Rattle.wh_terms.proofs.TypingLaws.{some_one, typed_loose}
use Rattle.wh_terms.proofs.ValueForm.{value, values, value_agree, FitsBodies, AllFitBodies}
use Rattle.wh_terms.proofs.ValueLaws.{has_value}
use Rattle.wh_terms.proofs.ValueTyping.{TypedBodiesIn, typed-value}
use Rattle.wh_system.specs.Needs.{need_of}
use Rattle.wh_pairs.specs.PairData.{Within}
use Rattle.wh_pairs.specs.Calls.{Call, calls, calls_within, call_where_defined, calls_of}
use Rattle.wh_pairs.specs.Candidates.{nullary, freed, numbered_from}
use Rattle.wh_pairs.proofs.MemberLemmas.{none_there, head_or_behind}
use Rattle.wh_pairs.proofs.FreedLemmas.{freed-near, freed-far}
use Rattle.wh_proof_calls.proofs.Puts.{inst}
use Rattle.wh_order_extended.specs.Kinds.{arrows}
use Rattle.wh_proof_calls.proofs.WholeBodies.{IsShut, ShutBodies, declared_anywhere, typed_fits, typed_shut, occurs_known}
use Rattle.wh_proof_calls.proofs.MetaSubstitution.{OnPut, fits-put, value-act}

-- calls of a typed right side

-- a call has a declared symbol, typed arguments below its binders, and P holds of each meta-variable in these
pub record IsTypedIn (S : Symbols) (M : List Declared) (P : ℕ → Type 0) (c : Call) : Type 0 where
  pub types : List Ty
  pub result : Ty
  pub known : slice_get S.funs c.symbol ≡ Some (arrows types result)
  pub typed : AllTyped S M c.binders (tms_of c.arguments) types
  pub occurs : (z : ℕ) → OccursIn z (tms_of c.arguments) → P z

mutual
  pub calls_typed : {S : Symbols} {M : List Declared} {Γ : List Ty} {t : Tm} {a : Ty} (P : ℕ → Type 0) (rules : List RewriteRule)
      (es : List Within) (qs : List Tm) (cs : List Ty) (b : Ty) → Typed S M Γ t a → a ≡ arrows cs b
      → AllTyped S M Γ (tms_of qs) cs → ((z : ℕ) → Occurs z t → P z) → ((z : ℕ) → OccursIn z (tms_of qs) → P z) → (c : Call)
      → Contains (calls rules es Γ t qs) c → IsTypedIn S M P c
  calls_typed P rules es qs cs b (typed_bound e) is ps h k c at = absurd (none_there c at)
  calls_typed P rules es qs cs b (typed_free s) is ps h k c at = absurd (none_there c at)
  calls_typed {S = S} {M = M} P rules es qs cs b (typed_fun {Γ = Γ} {f = f} e) is ps h k c at = go (need_of rules f) at
    where
      here : (n : ℕ) → (record { conditions = es; binders = Γ; symbol = f; need = n; arguments = qs } ≡ c) ⊎ Contains [] c
          → IsTypedIn S M P c
      here n (inl same) = subst (IsTypedIn S M P) same (record { types = cs; result = b; known = e ∙ ap Some is; typed = ps; occurs = k })
      here n (inr at) = absurd (none_there c at)

      go : (o : Option ℕ) → Contains (call_where_defined o es Γ f qs) c → IsTypedIn S M P c
      go None at = absurd (none_there c at)
      go (Some n) at = here n (head_or_behind [] _ c at)
  calls_typed P rules es qs cs b (typed_meta {z = z} e us o) is ps h k c at = calls_within_typed P rules es z 1 us (λ y p. h y (inr p)) c at
  calls_typed P rules es qs cs b (typed_lam {b = d} s p) is ps h k c at =
      calls_typed P rules es [] [] d p refl typed_none h (λ z o. absurd o) c at
  calls_typed {S = S} {M = M} P rules es qs cs b (typed_app {Γ = Γ} {a = a} {t = t} {u = u} p q) is ps h k c at =
      go (λ i. calls_typed P rules es (u ∷ qs) (a ∷ cs) b p (ap (λ d. a ⇒ d) is) (typed_more q ps) (λ z o. h z (inl o)) front c i)
      (λ i. calls_typed P rules es [] [] a q refl typed_none (λ z o. h z (inr o)) (λ z o. absurd o) c i)
      (Contains-append_cases (calls rules es Γ t (u ∷ qs)) (calls rules es Γ u []) c at)
    where
      front : (z : ℕ) → Occurs z u ⊎ OccursIn z (tms_of qs) → P z
      front z (inl o) = h z (inr o)
      front z (inr o) = k z o

      go : (Contains (calls rules es Γ t (u ∷ qs)) c → IsTypedIn S M P c) → (Contains (calls rules es Γ u []) c → IsTypedIn S M P c)
          → Contains (calls rules es Γ t (u ∷ qs)) c ⊎ Contains (calls rules es Γ u []) c → IsTypedIn S M P c
      go l r (inl i) = l i
      go l r (inr i) = r i

  calls_within_typed : {S : Symbols} {M : List Declared} {Γ : List Ty} {ts : Tms} {cs : List Ty} (P : ℕ → Type 0) (rules : List RewriteRule)
      (es : List Within) (z i : ℕ) → AllTyped S M Γ ts cs
      → ((y : ℕ) → OccursIn y ts → P y) → (c : Call) → Contains (calls_within rules es Γ z i ts) c → IsTypedIn S M P c
  calls_within_typed P rules es z i typed_none h c at = absurd (none_there c at)
  calls_within_typed {S = S} {M = M} P rules es z i (typed_more {Γ = Γ} {t = t} {ts = ts} {a = a} p ps) h c at =
      go (λ j. calls_typed P rules _ [] [] a p refl typed_none (λ y o. h y (inl o)) (λ y o. absurd o) c j)
      (λ j. calls_within_typed P rules es z (i + 1) ps (λ y o. h y (inr o)) c j)
      (Contains-append_cases _ (calls_within rules es Γ z (i + 1) ts) c at)
    where
      go : {X : Type 0} → (X → IsTypedIn S M P c) → (Contains (calls_within rules es Γ z (i + 1) ts) c → IsTypedIn S M P c)
          → X ⊎ Contains (calls_within rules es Γ z (i + 1) ts) c → IsTypedIn S M P c
      go l r (inl j) = l j
      go l r (inr j) = r j

-- the calls of a well-made rule are typed, and what occurs in them occurs in its right side
pub rule_call : (S : Symbols) (rules : List RewriteRule) (r : RewriteRule) → IsWellMade S r → (c : Call) → Contains (calls_of rules r) c
    → IsTypedIn S r.metas (λ z. Occurs z r.right) c
rule_call S rules r made c at =
    calls_typed (λ z. Occurs z r.right) rules [] [] [] made.typed.0 made.typed.2 refl typed_none (λ z o. o) (λ z o. absurd o) c at

-- terms for fresh meta-variables

-- a body of arity 0
abbrev pub plain : Tm → Body
plain t = record { arity = 0; tree = t }

abbrev first_where : Bool → Body → Body → Body
first_where true b c = b
first_where false b c = c

-- the bodies of g below the number x, and from x on the terms of the list
abbrev pub beside : ℕ → (ℕ → Body) → List Tm → ℕ → Body
beside x g ts z = first_where (ltb z x) (g z) (plain (get_or ts (z - x) (bound 0)))

pub beside-low : (x : ℕ) (g : ℕ → Body) (ts : List Tm) (z : ℕ) → z < x → beside x g ts z ≡ g z
beside-low x g ts z low = ap (λ b. first_where b (g z) (plain (get_or ts (z - x) (bound 0)))) (lt-ltb z x low)

pub beside-high : (x : ℕ) (g : ℕ → Body) (ts : List Tm) (j : ℕ) → beside x g ts (x + j) ≡ plain (get_or ts j (bound 0))
beside-high x g ts j =
    let at : (x + j) - x ≡ j = omega arith in
    ap (λ b. first_where b (g (x + j)) (plain (get_or ts ((x + j) - x) (bound 0)))) (le-ltb (x + j) x (omega arith))
    ∙ ap (λ i. plain (get_or ts i (bound 0))) at

-- the terms for the binders, the outermost first, and behind them further ones
abbrev pub outermost : List Ty → (ℕ → Tm) → List Tm → List Tm
outermost [] τ ws = ws
outermost (a ∷ Γ) τ ws = outermost Γ (λ i. τ (suc i)) (τ 0 ∷ ws)

outermost-behind : (Γ : List Ty) (τ : ℕ → Tm) (ws : List Tm) (i : ℕ)
    → get_or (outermost Γ τ ws) (length Γ + i) (bound 0) ≡ get_or ws i (bound 0)
outermost-behind [] τ ws i = let e : 0 + i ≡ i = omega arith in ap (λ j. get_or ws j (bound 0)) e
outermost-behind (a ∷ Γ) τ ws i =
    let e : suc (length Γ) + i ≡ length Γ + suc i = omega arith in
    ap (λ j. get_or (outermost Γ (λ k. τ (suc k)) (τ 0 ∷ ws)) j (bound 0)) e ∙ outermost-behind Γ (λ k. τ (suc k)) (τ 0 ∷ ws) (suc i)

outermost-at : (Γ : List Ty) (τ : ℕ → Tm) (ws : List Tm) (i j : ℕ) → i + j + 1 ≡ length Γ → get_or (outermost Γ τ ws) j (bound 0) ≡ τ i
outermost-at [] τ ws i j sum = absurd (omega arith)
outermost-at (a ∷ Γ) τ ws zero j sum =
    let e : j ≡ length Γ + 0 = omega arith in
    ap (λ k. get_or (outermost Γ (λ k. τ (suc k)) (τ 0 ∷ ws)) k (bound 0)) e ∙ outermost-behind Γ (λ k. τ (suc k)) (τ 0 ∷ ws) 0
outermost-at (a ∷ Γ) τ ws (suc i) j sum = outermost-at Γ (λ k. τ (suc k)) (τ 0 ∷ ws) i j (omega arith)

-- the terms have the types of the binders
abbrev pub PutsTyped : Symbols → List Ty → (ℕ → Tm) → Type 0
PutsTyped S Γ τ = (i : ℕ) (a : Ty) → slice_get Γ i ≡ Some a → Typed S [] [] (τ i) a

pub outermost-typed : {S : Symbols} (Γ : List Ty) (τ : ℕ → Tm) (ws : List Tm) (cs : List Ty) → PutsTyped S Γ τ
    → AllTyped S [] [] (tms_of ws) cs → AllTyped S [] [] (tms_of (outermost Γ τ ws)) (reverse Γ ++ cs)
outermost-typed [] τ ws cs h p = p
outermost-typed {S = S} (a ∷ Γ) τ ws cs h p =
    let e : reverse Γ ++ a ∷ cs ≡ reverse (a ∷ Γ) ++ cs =
    sym (append_assoc (reverse Γ) (a ∷ []) cs) ∙ ap (λ l. l ++ cs) (sym (reverse-append (a ∷ []) Γ)) in
    subst (AllTyped S [] [] (tms_of (outermost Γ (λ i. τ (suc i)) (τ 0 ∷ ws)))) e
    (outermost-typed Γ (λ i. τ (suc i)) (τ 0 ∷ ws) (a ∷ cs) (λ i b s. h (suc i) b s) (typed_more (h 0 a refl) p))

all_typed_at : {S : Symbols} {M : List Declared} {Γ : List Ty} (ts : List Tm) (cs : List Ty) (i : ℕ) (a : Ty)
    → AllTyped S M Γ (tms_of ts) cs → slice_get cs i ≡ Some a → Typed S M Γ (get_or ts i (bound 0)) a
all_typed_at [] cs i a typed_none e = absurd (cc)
all_typed_at {S = S} {M = M} {Γ = Γ} (t ∷ ts) cs zero a (typed_more p ps) e = subst (Typed S M Γ t) (some_one e) p
all_typed_at (t ∷ ts) cs (suc i) a (typed_more {bs = bs} p ps) e = all_typed_at ts bs i a ps e

pub slice_get-front : {A : Type 0} (xs ys : List A) (i : ℕ) → i < length xs → slice_get (xs ++ ys) i ≡ slice_get xs i
slice_get-front [] ys i low = absurd (omega arith)
slice_get-front (x ∷ xs) ys zero low = refl
slice_get-front (x ∷ xs) ys (suc i) low = slice_get-front xs ys i (omega arith)

slice_get-back : {A : Type 0} (xs ys : List A) (j : ℕ) → slice_get (xs ++ ys) (length xs + j) ≡ slice_get ys j
slice_get-back [] ys j = let e : 0 + j ≡ j = omega arith in ap (slice_get ys) e
slice_get-back (x ∷ xs) ys j =
    let e : suc (length xs) + j ≡ suc (length xs + j) = omega arith in ap (slice_get (x ∷ xs ++ ys)) e ∙ slice_get-back xs ys j

nullary_at : (cs : List Ty) (j : ℕ) (d : Declared) → slice_get (map nullary cs) j ≡ Some d
    → (a : Ty) × (slice_get cs j ≡ Some a) × (nullary a ≡ d)
nullary_at [] j d e = absurd (cc)
nullary_at (a ∷ cs) zero d e = (a, refl, some_one e)
nullary_at (a ∷ cs) (suc j) d e = nullary_at cs j d e

-- a typed term as the body of a meta-variable of arity 0
plain_fits : {S : Symbols} (a : Ty) (t : Tm) → Typed S [] [] t a → FitsDeclared S [] [] (nullary a) (plain t)
plain_fits a t p = record { counted = refl; typed = p }

-- a declared meta-variable from x on has a body of its type
pub beside_fits : {S : Symbols} (M : List Declared) (g : ℕ → Body) (ts : List Tm) (cs : List Ty) → AllTyped S [] [] (tms_of ts) cs
    → (z : ℕ) (d : Declared) → length M ≤ z → slice_get (M ++ map nullary cs) z ≡ Some d
    → FitsDeclared S [] [] d (beside (length M) g ts z)
beside_fits {S = S} M g ts cs p z d high e =
    let j : ℕ = z - length M in
    let at : length M + j ≡ z = omega arith in
    let (a, there, is) = nullary_at cs j d (sym (slice_get-back M (map nullary cs) j) ∙ ap (slice_get (M ++ map nullary cs)) at ∙ e) in
    subst₂ (FitsDeclared S [] []) is (sym (beside-high (length M) g ts j) ∙ ap (beside (length M) g ts) at)
    (plain_fits a (get_or ts j (bound 0)) (all_typed_at ts cs j a p there))

-- values of arguments

-- a variable of a binder is freed to a fresh meta-variable; others come nearer
pub data IsFreed (x : ℕ) (Γ : List Ty) (i : ℕ) : Type 0 where
  freed_to : (j : ℕ) → i + j + 1 ≡ length Γ → freed x Γ i ≡ meta (x + j) none → IsFreed x Γ i
  freed_past : (j : ℕ) → freed x Γ i ≡ bound j → IsFreed x Γ i

pub is_freed : (x : ℕ) (Γ : List Ty) (i : ℕ) → IsFreed x Γ i
is_freed x Γ i = go (cases_lt i (length Γ))
  where
    go : (i < length Γ) ⊎ (length Γ ≤ i) → IsFreed x Γ i
    go (inl low) = let j : ℕ = length Γ - (i + 1) in freed_to j (omega arith) (freed-near x Γ i j (omega arith))
    go (inr high) = let j : ℕ = i - length Γ in freed_past j (freed-far x Γ i j (omega arith))

-- no meta-variable below x comes in
pub freed_high : (x : ℕ) (Γ : List Ty) → OnPut (λ z. x ≤ z) (freed x Γ)
freed_high x Γ i z o = go (is_freed x Γ i)
  where
    named : (j : ℕ) → (x + j ≡ z) ⊎ ⊥ → x ≤ z
    named j (inl e) = omega arith
    named j (inr n) = absurd n

    go : IsFreed x Γ i → x ≤ z
    go (freed_to j sum e) = named j (subst (Occurs z) e o)
    go (freed_past j e) = absurd (subst (Occurs z) e o)

module _ (S : Symbols) (M : List Declared) (g : ℕ → Body) (Γ : List Ty) (τ : ℕ → Tm) (typed : PutsTyped S Γ τ) (ws : List Tm) where
  abbrev H : ℕ → Body
  H = beside (length M) g (outermost Γ τ ws)

  abbrev F : ℕ → Tm
  F = freed (length M) Γ

  near : (i j : ℕ) → i + j + 1 ≡ length Γ → H (length M + j) ≡ plain (τ i)
  near i j sum = beside-high (length M) g (outermost Γ τ ws) j ∙ ap plain (outermost-at Γ τ ws i j sum)

  freed_fits : (i : ℕ) → FitsBodies H (F i)
  freed_fits i = go (is_freed (length M) Γ i)
    where
      go : IsFreed (length M) Γ i → FitsBodies H (F i)
      go (freed_to j sum e) = subst (FitsBodies H) (sym e) (ap (λ b. b.arity) (near i j sum), tt)
      go (freed_past j e) = subst (FitsBodies H) (sym e) tt

  freed_shut : (i : ℕ) → ShutBodies H (F i)
  freed_shut i = go (is_freed (length M) Γ i)
    where
      closed : (j : ℕ) → i + j + 1 ≡ length Γ → LooseBelow 0 (τ i)
      closed j sum = let low : i < length Γ = omega arith in typed_loose (typed i (get_or Γ i (sort 0)) (slice_get-get_or Γ i (sort 0) low))

      named : (j : ℕ) → i + j + 1 ≡ length Γ → (z : ℕ) → (length M + j ≡ z) ⊎ ⊥ → IsShut H z
      named j sum z (inl e) = subst (IsShut H) e (subst (λ b. LooseBelow b.arity b.tree) (sym (near i j sum)) (closed j sum))
      named j sum z (inr n) = absurd n

      go : IsFreed (length M) Γ i → ShutBodies H (F i)
      go (freed_to j sum e) z o = named j sum z (subst (Occurs z) e o)
      go (freed_past j e) z o = absurd (subst (Occurs z) e o)

  freed_value : (i : ℕ) → i < length Γ → value H (F i) ≡ τ i
  unfolding value values parameters
  freed_value i low =
      let j : ℕ = length Γ - (i + 1) in
      let sum : i + j + 1 ≡ length Γ = omega arith in
      ap (value H) (freed-near (length M) Γ i j sum) ∙ ap (λ b. act bound free b.tree) (near i j sum) ∙ act-id (τ i)

  low_bodies : {t : Tm} {Δ : List Ty} {a : Ty} → Typed S M Δ t a → TypedBodies S M [] [] g t → TypedBodies S M [] [] H t
  low_bodies p h z d o e =
      subst (FitsDeclared S [] [] d) (sym (beside-low (length M) g (outermost Γ τ ws) z (slice_get_within M z d e))) (h z d o e)

  low_value : {t : Tm} {Δ : List Ty} {a : Ty} → Typed S M Δ t a → value H t ≡ value g t
  low_value {t = t} p =
      value_agree H g t (λ z o. let (d, e) = occurs_known z p o in beside-low (length M) g (outermost Γ τ ws) z (slice_get_within M z d e))

  -- an argument of the candidate has the value that the call's argument has with the terms for its binders
  argument_value : {q : Tm} {a : Ty} → Typed S M Γ q a → TypedBodies S M [] [] g q → Value H (act F free q) (inst g τ q)
  argument_value {q = q} {a = a} p h =
      let typed_here : TypedBodies S M [] [] H q = low_bodies p h in
      let fits : FitsBodies H q = typed_fits H p typed_here in
      let loose : LooseBelow (length Γ) (value g q) = typed_loose (typed-value g p (λ z d o e. declared_anywhere Γ (g z) (h z d o e))) in
      let e : value H (act F free q) ≡ inst g τ q =
      value-act H F q (typed_shut H p typed_here) freed_shut fits freed_fits ∙ ap (act (λ i. value H (F i)) free) (low_value p)
      ∙ act_loose (length Γ) (λ i. value H (F i)) τ free (value g q) loose freed_value in
      subst (Value H (act F free q)) e (has_value H (act F free q) (fits-put (λ z. (H z).arity) F q freed_fits fits))

  pub argument_values : (qs : List Tm) (cs : List Ty) → AllTyped S M Γ (tms_of qs) cs → TypedBodiesIn S M [] [] g (tms_of qs)
      → Values H (tms_of (map (act F free) qs)) (tms_of (map (inst g τ) qs))
  argument_values [] cs typed_none h = of_none
  argument_values (q ∷ qs) cs (typed_more {bs = bs} p ps) h =
      of_more (argument_value p (λ z d o e. h z d (inl o) e)) (argument_values qs bs ps (λ z d o e. h z d (inr o) e))

  -- the fresh meta-variables for lacking arguments have the further terms as values
  pub lacking_values : Values H (tms_of (numbered_from (length M + length Γ) (length ws))) (tms_of ws)
  unfolding parameters
  lacking_values = each (length M + length Γ) ws at
    where
      at : (i : ℕ) (w : Tm) → slice_get ws i ≡ Some w → H (length M + length Γ + i) ≡ plain w
      at i w e =
          let sum : length M + length Γ + i ≡ length M + (length Γ + i) = omega arith in
          ap H sum ∙ beside-high (length M) g (outermost Γ τ ws) (length Γ + i)
          ∙ ap plain (outermost-behind Γ τ ws i ∙ get_or_from_slice_get ws i w (bound 0) e)

      one : (y : ℕ) (w : Tm) → H y ≡ plain w → Value H (meta y none) w
      one y w e = of_meta (ap (λ b. b.arity) e) of_none (sym (ap (λ b. act bound free b.tree) e ∙ act-id w))

      each : (y : ℕ) (us : List Tm) → ((i : ℕ) (w : Tm) → slice_get us i ≡ Some w → H (y + i) ≡ plain w)
          → Values H (tms_of (numbered_from y (length us))) (tms_of us)
      each y [] h = of_none
      each y (u ∷ us) h =
          let here : y ≡ y + 0 = omega arith in
          of_more (one y u (ap H here ∙ h 0 u refl))
          (each (y + 1) us (λ i w e. let next : (y + 1) + i ≡ y + suc i = omega arith in ap H next ∙ h (suc i) w e))

  -- the arguments of the left side keep their values
  pub left_values : (ts : List Tm) → AllFitBodies H (tms_of ts) → ((z : ℕ) → OccursIn z (tms_of ts) → z < length M)
      → Values H (tms_of ts) (tms_of (map (value g) ts))
  left_values [] f h = of_none
  left_values (t ∷ ts) f h =
      let e : value H t ≡ value g t = value_agree H g t (λ z o. beside-low (length M) g (outermost Γ τ ws) z (h z (inl o))) in
      of_more (subst (Value H t) e (has_value H t f.0)) (left_values ts f.1 (λ z o. h z (inr o)))
