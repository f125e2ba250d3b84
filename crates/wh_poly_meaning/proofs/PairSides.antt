-- The sides of the pairs of a well-made system are typed and closed.
use Rattle.std.proofs.Common.{◌≡◌, ◌⊎◌, inl, inr, ℕ, zero, suc, ◌+◌, ◌-◌, ◌<◌, ◌≤◌, List, [], ◌∷◌, ◌++◌, length, map, take, drop, reverse, unwrap_or, Option, Some, None, slice_get, get_or, Contains, refl, ap, ap₂, sym, ◌∙◌, subst, arith}
use Rattle.std.proofs.lemmas.List.{take_at, length-take-le, length-drop, length-reverse, reverse-append, drop_all}
use Rattle.std.proofs.lemmas.List.Elements.{Contains-append_cases}
use Rattle.std.proofs.lemmas.Option.{none-some, slice_get_within, get_or_from_slice_get}
use Rattle.wh_types.specs.Ty.{Ty, sort, arguments}
use Rattle.wh_terms.specs.Tree.{Tm, bound, free, fun, meta, lam, app, Tms, none, more, head, spine, argument_count, tms_of}
use Rattle.wh_terms.specs.Substitution.{rename, renames, up, up_free, act, acts, cons}
use Rattle.wh_terms.specs.Sight.{NoFree, AllNoFree}
use Rattle.wh_terms.specs.Typing.{Symbols, Declared, Typed, typed_bound, typed_free, typed_fun, typed_meta, typed_lam, typed_app, AllTyped, typed_none, typed_more}
use Rattle.wh_terms.specs.Rules.{RewriteRule, IsWellMade}
use Rattle.wh_terms.proofs.TypingLaws.{FitsLoose, fits-free, typed-act}
use Rattle.wh_system.specs.Needs.{need_of}
use Rattle.wh_pairs.specs.PairData.{PairData, Within}
use Rattle.wh_system.specs.Systems.{SystemData}
use Rattle.wh_system.specs.WellMade.{IsWellMadeSystem}
use Rattle.wh_pairs.specs.Spines.{spine_arguments, symbol_of}
use Rattle.wh_pairs.specs.Calls.{Call, calls, calls_within, call_where_defined, calls_of}
use Rattle.wh_pairs.specs.Candidates.{nullary, freed, numbered_from, missing_types, candidate, candidates}
use Rattle.wh_pairs.specs.Subsumption.{ArePairs}
use Rattle.wh_pairs.proofs.FreedLemmas.{freed-near}
use Rattle.wh_pairs.proofs.KnownLemmas.{takes_arguments, defined_call}
use Rattle.wh_pairs.proofs.MemberLemmas.{none_there, head_or_behind}
use Rattle.wh_pairs.proofs.SubsumptionLaws.{left-member}
use Rattle.wh_proof_calls.proofs.CandidateValues.{IsTypedIn, rule_call}
use Rattle.wh_proof_calls.proofs.NeedLaws.{rule_need}
use Rattle.wh_order_extended.specs.Kinds.{arrows}
use Rattle.wh_proof_calls.proofs.Served.{IsOfCall, candidate_of_call}
use Rattle.wh_proof_calls.proofs.SpineLaws.{symbol-spine, count-arguments}
use Rattle.wh_order_extended.proofs.TypeLists.{arguments-arrows, typed_length, typed_spine-arguments}
use Rattle.wh_hopoly.specs.Evaluation.{type_at}
use Rattle.wh_polycheck.specs.Marks.{Mark, marked_types, HasMark, HasMarkedSides}
use Rattle.wh_polycheck.proofs.MoreInterpretations.{slice_get_front, slice_get_behind}
use Rattle.wh_polycheck.proofs.MarkedSides.{contains_there}

-- lists of typed trees

mutual
  -- a tree keeps its type where more meta-variables are declared
  typed_wider : {S : Symbols} {M : List Declared} {Γ : List Ty} {t : Tm} {a : Ty} (N : List Declared) → Typed S M Γ t a
      → Typed S (M ++ N) Γ t a
  typed_wider N (typed_bound e) = typed_bound e
  typed_wider N (typed_free p) = typed_free p
  typed_wider N (typed_fun e) = typed_fun e
  typed_wider N (typed_meta {M = M} {z = z} {d = d} e ps o) = typed_meta (slice_get_front M N z d e) (all_typed_wider N ps) o
  typed_wider N (typed_lam s p) = typed_lam s (typed_wider N p)
  typed_wider N (typed_app p q) = typed_app (typed_wider N p) (typed_wider N q)

  all_typed_wider : {S : Symbols} {M : List Declared} {Γ : List Ty} {ts : Tms} {cs : List Ty} (N : List Declared) → AllTyped S M Γ ts cs
      → AllTyped S (M ++ N) Γ ts cs
  all_typed_wider N typed_none = typed_none
  all_typed_wider N (typed_more p ps) = typed_more (typed_wider N p) (all_typed_wider N ps)

list_typed_act : {S : Symbols} {M : List Declared} {Γ : List Ty} (σ : ℕ → Tm) → FitsLoose S M Γ [] σ → (ts : List Tm) (cs : List Ty)
    → AllTyped S M Γ (tms_of ts) cs → AllTyped S M [] (tms_of (map (act σ free) ts)) cs
list_typed_act σ h [] cs typed_none = typed_none
list_typed_act σ h (t ∷ ts) cs (typed_more {bs = bs} p ps) =
    typed_more (typed-act [] σ free h (fits-free []) p) (list_typed_act σ h ts bs ps)

typed_take : {S : Symbols} {M : List Declared} {Γ : List Ty} (n : ℕ) (ts : List Tm) (cs : List Ty) → AllTyped S M Γ (tms_of ts) cs
    → AllTyped S M Γ (tms_of (take n ts)) (take n cs)
typed_take zero ts cs p = typed_none
typed_take (suc n) [] [] p = typed_none
typed_take (suc n) [] (c ∷ cs) p = elim p [ ]
typed_take (suc n) (t ∷ ts) [] p = elim p [ ]
typed_take (suc n) (t ∷ ts) (c ∷ cs) (typed_more p ps) = typed_more p (typed_take n ts cs ps)

typed_join : {S : Symbols} {M : List Declared} {Γ : List Ty} (ts us : List Tm) (cs ds : List Ty) → AllTyped S M Γ (tms_of ts) cs
    → AllTyped S M Γ (tms_of us) ds → AllTyped S M Γ (tms_of (ts ++ us)) (cs ++ ds)
typed_join [] us [] ds p q = q
typed_join [] us (c ∷ cs) ds p q = elim p [ ]
typed_join (t ∷ ts) us [] ds p q = elim p [ ]
typed_join (t ∷ ts) us (c ∷ cs) ds (typed_more p ps) q = typed_more p (typed_join ts us cs ds ps q)

-- fresh meta-variables

reverse_at : (Γ : List Ty) (i j : ℕ) (a : Ty) → i + j + 1 ≡ length Γ → slice_get Γ i ≡ Some a → slice_get (reverse Γ) j ≡ Some a
reverse_at [] i j a sum e = absurd (omega arith)
reverse_at (b ∷ Γ) zero j a sum e =
    let last : j ≡ length (reverse Γ) + 0 = omega (arith, length-reverse Γ) in
    ap₂ slice_get (reverse-append (b ∷ []) Γ) last ∙ slice_get_behind (reverse Γ) (b ∷ []) 0 ∙ e
reverse_at (b ∷ Γ) (suc i) j a sum e =
    ap (λ l. slice_get l j) (reverse-append (b ∷ []) Γ) ∙ slice_get_front (reverse Γ) (b ∷ []) j a (reverse_at Γ i j a (omega arith) e)

nullary_there : (cs : List Ty) (j : ℕ) (a : Ty) → slice_get cs j ≡ Some a → slice_get (map nullary cs) j ≡ Some (nullary a)
nullary_there [] j a e = absurd (none-some a e)
nullary_there (c ∷ cs) zero a e = cc
nullary_there (c ∷ cs) (suc j) a e = nullary_there cs j a e

module _ (M : List Declared) (Γ ds : List Ty) where
  -- the meta-variables of a pair
  abbrev all : List Declared
  all = M ++ map nullary (reverse Γ ++ ds)

  fresh_there : (j : ℕ) (a : Ty) → slice_get (reverse Γ ++ ds) j ≡ Some a → slice_get all (length M + j) ≡ Some (nullary a)
  fresh_there j a e = slice_get_behind M (map nullary (reverse Γ ++ ds)) j ∙ nullary_there (reverse Γ ++ ds) j a e

  -- one for each binder
  fits_freed : (S : Symbols) → FitsLoose S all Γ [] (freed (length M) Γ)
  fits_freed S i a e =
      let within : i < length Γ = slice_get_within Γ i a e in
      let j : ℕ = length Γ - (i + 1) in
      let sum : i + j + 1 ≡ length Γ = omega arith in
      subst (λ t. Typed S all [] t a) (sym (freed-near (length M) Γ i j sum))
      (typed_meta (fresh_there j a (slice_get_front (reverse Γ) ds j a (reverse_at Γ i j a sum e))) typed_none refl)

  -- and one for each argument that lacks
  lacking_there : (i : ℕ) (a : Ty) → slice_get ds i ≡ Some a → slice_get all (length M + length Γ + i) ≡ Some (nullary a)
  lacking_there i a e =
      let sum : length M + length Γ + i ≡ length M + (length (reverse Γ) + i) = omega (arith, length-reverse Γ) in
      ap (slice_get all) sum ∙ fresh_there (length (reverse Γ) + i) a (slice_get_behind (reverse Γ) ds i ∙ e)

numbered_typed : {S : Symbols} {M : List Declared} (y n : ℕ) (ds : List Ty) → n ≡ length ds
    → ((i : ℕ) (a : Ty) → slice_get ds i ≡ Some a → slice_get M (y + i) ≡ Some (nullary a))
    → AllTyped S M [] (tms_of (numbered_from y n)) ds
numbered_typed y zero [] many h = typed_none
numbered_typed y zero (d ∷ ds) many h = absurd (omega arith)
numbered_typed y (suc n) [] many h = absurd (omega arith)
numbered_typed {M = M} y (suc n) (d ∷ ds) many h =
    let here : y ≡ y + 0 = omega arith in
    typed_more (typed_meta (ap (slice_get M) here ∙ h 0 d refl) typed_none refl)
    (numbered_typed (y + 1) n ds (omega arith)
    (λ i a e. let next : y + 1 + i ≡ y + suc i = omega arith in ap (slice_get M) next ∙ h (suc i) a e))

-- trees without free variables

mutual
  unfolding rename renames

  rename_closed : (ρ : ℕ → ℕ) (t : Tm) → NoFree t → NoFree (rename ρ t)
  rename_closed ρ (bound i) h = tt
  rename_closed ρ (free x a) h = absurd h
  rename_closed ρ (fun f) h = tt
  rename_closed ρ (meta z ts) h = renames_closed ρ ts h
  rename_closed ρ (lam a t) h = rename_closed _ t h
  rename_closed ρ (app t u) h = (rename_closed ρ t h.0, rename_closed ρ u h.1)

  renames_closed : (ρ : ℕ → ℕ) (ts : Tms) → AllNoFree ts → AllNoFree (renames ρ ts)
  renames_closed ρ none h = tt
  renames_closed ρ (more t ts) h = (rename_closed ρ t h.0, renames_closed ρ ts h.1)

up_closed : (σ : ℕ → Tm) → ((i : ℕ) → NoFree (σ i)) → (i : ℕ) → NoFree (up σ i)
unfolding up
up_closed σ h zero = tt
up_closed σ h (suc i) = rename_closed suc (σ i) (h i)

mutual
  unfolding act acts

  act_keeps_closed : (σ : ℕ → Tm) (φ : ℕ → Ty → Tm) → ((i : ℕ) → NoFree (σ i)) → (t : Tm) → NoFree t → NoFree (act σ φ t)
  act_keeps_closed σ φ h (bound i) f = h i
  act_keeps_closed σ φ h (free x a) f = absurd f
  act_keeps_closed σ φ h (fun g) f = tt
  act_keeps_closed σ φ h (meta z ts) f = acts_keep_closed σ φ h ts f
  act_keeps_closed σ φ h (lam a t) f = act_keeps_closed (up σ) (up_free φ) (up_closed σ h) t f
  act_keeps_closed σ φ h (app t u) f = (act_keeps_closed σ φ h t f.0, act_keeps_closed σ φ h u f.1)

  acts_keep_closed : (σ : ℕ → Tm) (φ : ℕ → Ty → Tm) → ((i : ℕ) → NoFree (σ i)) → (ts : Tms) → AllNoFree ts → AllNoFree (acts σ φ ts)
  acts_keep_closed σ φ h none f = tt
  acts_keep_closed σ φ h (more t ts) f = (act_keeps_closed σ φ h t f.0, acts_keep_closed σ φ h ts f.1)

freed_closed : (x : ℕ) (Γ : List Ty) (i : ℕ) → NoFree (freed x Γ i)
unfolding freed cons
freed_closed x [] i = tt
freed_closed x (a ∷ Γ) zero = tt
freed_closed x (a ∷ Γ) (suc i) = freed_closed x Γ i

list_act_closed : (σ : ℕ → Tm) → ((i : ℕ) → NoFree (σ i)) → (ts : List Tm) → AllNoFree (tms_of ts)
    → AllNoFree (tms_of (map (act σ free) ts))
list_act_closed σ h [] f = tt
list_act_closed σ h (t ∷ ts) f = (act_keeps_closed σ free h t f.0, list_act_closed σ h ts f.1)

closed_take : (n : ℕ) (ts : List Tm) → AllNoFree (tms_of ts) → AllNoFree (tms_of (take n ts))
closed_take zero ts f = tt
closed_take (suc n) [] f = tt
closed_take (suc n) (t ∷ ts) f = (f.0, closed_take n ts f.1)

closed_join : (ts us : List Tm) → AllNoFree (tms_of ts) → AllNoFree (tms_of us) → AllNoFree (tms_of (ts ++ us))
closed_join [] us f g = g
closed_join (t ∷ ts) us f g = (f.0, closed_join ts us f.1 g)

numbered_closed : (y n : ℕ) → AllNoFree (tms_of (numbered_from y n))
numbered_closed y zero = tt
numbered_closed y (suc n) = (tt, numbered_closed (y + 1) n)

arguments_closed : (t : Tm) → NoFree t → AllNoFree (tms_of (spine_arguments t))
arguments_closed (bound i) f = tt
arguments_closed (free x a) f = tt
arguments_closed (fun g) f = tt
arguments_closed (meta z ts) f = tt
arguments_closed (lam a t) f = tt
arguments_closed (app t u) f = closed_join (spine_arguments t) (u ∷ []) (arguments_closed t f.0) (f.1, tt)

-- the calls in a closed tree have closed arguments
mutual
  calls_closed : (rules : List RewriteRule) (es : List Within) (Γ : List Ty) (t : Tm) (qs : List Tm) → NoFree t → AllNoFree (tms_of qs)
      → (c : Call) → Contains (calls rules es Γ t qs) c → AllNoFree (tms_of c.arguments)
  calls_closed rules es Γ (bound i) qs f g c at = absurd (none_there c at)
  calls_closed rules es Γ (free x a) qs f g c at = absurd (none_there c at)
  calls_closed rules es Γ (fun k) qs f g c at = go (need_of rules k) at
    where
      here : (n : ℕ) → (record { conditions = es; binders = Γ; symbol = k; need = n; arguments = qs } ≡ c) ⊎ Contains [] c
          → AllNoFree (tms_of c.arguments)
      here n (inl same) = subst (λ d. AllNoFree (tms_of d.arguments)) same g
      here n (inr at) = absurd (none_there c at)

      go : (o : Option ℕ) → Contains (call_where_defined o es Γ k qs) c → AllNoFree (tms_of c.arguments)
      go None at = absurd (none_there c at)
      go (Some n) at = here n (head_or_behind [] _ c at)
  calls_closed rules es Γ (meta z ts) qs f g c at = calls_within_closed rules es Γ z 1 ts f c at
  calls_closed rules es Γ (lam a t) qs f g c at = calls_closed rules es (a ∷ Γ) t [] f tt c at
  calls_closed rules es Γ (app t u) qs f g c at =
      go (λ i. calls_closed rules es Γ t (u ∷ qs) f.0 (f.1, g) c i) (λ i. calls_closed rules es Γ u [] f.1 tt c i)
      (Contains-append_cases (calls rules es Γ t (u ∷ qs)) (calls rules es Γ u []) c at)
    where
      go : (Contains (calls rules es Γ t (u ∷ qs)) c → AllNoFree (tms_of c.arguments))
          → (Contains (calls rules es Γ u []) c → AllNoFree (tms_of c.arguments))
          → Contains (calls rules es Γ t (u ∷ qs)) c ⊎ Contains (calls rules es Γ u []) c → AllNoFree (tms_of c.arguments)
      go l r (inl i) = l i
      go l r (inr i) = r i

  calls_within_closed : (rules : List RewriteRule) (es : List Within) (Γ : List Ty) (z i : ℕ) (ts : Tms) → AllNoFree ts
      → (c : Call) → Contains (calls_within rules es Γ z i ts) c → AllNoFree (tms_of c.arguments)
  calls_within_closed rules es Γ z i none f c at = absurd (none_there c at)
  calls_within_closed rules es Γ z i (more t ts) f c at =
      go (λ j. calls_closed rules _ Γ t [] f.0 tt c j) (λ j. calls_within_closed rules es Γ z (i + 1) ts f.1 c j)
      (Contains-append_cases _ (calls_within rules es Γ z (i + 1) ts) c at)
    where
      go : {X : Type 0} → (X → AllNoFree (tms_of c.arguments))
          → (Contains (calls_within rules es Γ z (i + 1) ts) c → AllNoFree (tms_of c.arguments))
          → X ⊎ Contains (calls_within rules es Γ z (i + 1) ts) c → AllNoFree (tms_of c.arguments)
      go l r (inl j) = l j
      go l r (inr j) = r j

-- the sides

type_at_is : (cs : List Ty) (f : ℕ) (a : Ty) → slice_get cs f ≡ Some a → type_at cs f ≡ a
type_at_is [] f a e = absurd (none-some a e)
type_at_is (c ∷ cs) zero a e = cc
type_at_is (c ∷ cs) (suc f) a e = type_at_is cs f a e

typed_symbol : {S : Symbols} {M : List Declared} {Γ : List Ty} {f : ℕ} {a : Ty} → Typed S M Γ (fun f) a → slice_get S.funs f ≡ Some a
typed_symbol (typed_fun e) = e

-- the types that a marked symbol takes
marked_types_are : (S : Symbols) (rules : List RewriteRule) (f n : ℕ) (a : Ty) → slice_get S.funs f ≡ Some a → need_of rules f ≡ Some n
    → take n (arguments a) ≡ marked_types S rules f
marked_types_are S rules f n a known needed =
    sym (ap₂ (λ o b. take (unwrap_or o 0) (arguments b)) needed (type_at_is S.funs f a known))

-- the first m of two lists are the first m of one, and what these lack of the other
take-append : {A : Type 0} (m : ℕ) (l k : List A) → take m l ++ drop (length l) (take m (l ++ k)) ≡ take m (l ++ k)
take-append zero l k = drop_all (length l) [] (omega arith)
take-append (suc m) [] k = refl
take-append (suc m) (a ∷ l) k = ap (λ r. a ∷ r) (take-append m l k)

module _ (d : SystemData) (made : IsWellMadeSystem d) (r : RewriteRule) (listed : Contains d.rules r) where
  abbrev S : Symbols
  S = d.symbols

  rule : IsWellMade S r
  rule = made.rules.each r listed

  left_typed : AllTyped S r.metas [] (tms_of (spine_arguments r.left)) (marked_types S d.rules (symbol_of (head r.left)))
  left_typed =
      let (f, headed) = rule.headed in
      let (a, p, q) = rule.typed in
      let whole : Typed S r.metas [] (spine (fun f) (spine_arguments r.left)) a =
      subst (λ t. Typed S r.metas [] t a) (sym (symbol-spine f r.left headed)) p in
      let (cs, h, ps) = typed_spine-arguments (fun f) (spine_arguments r.left) whole in
      let count : argument_count r.left ≡ length cs = count-arguments r.left ∙ typed_length (spine_arguments r.left) cs ps in
      let needed : need_of d.rules f ≡ Some (length cs) = rule_need d.rules made.rules.even r listed f headed ∙ ap Some count in
      let types : take (length cs) (arguments (arrows cs a)) ≡ cs =
      ap (take (length cs)) (arguments-arrows cs a) ∙ take_at cs (arguments a) (length cs) refl in
      let marked : cs ≡ marked_types S d.rules f =
      sym types ∙ marked_types_are S d.rules f (length cs) (arrows cs a) (typed_symbol h) needed in
      subst (AllTyped S r.metas [] (tms_of (spine_arguments r.left)))
      (marked ∙ ap (λ t. marked_types S d.rules (symbol_of t)) (sym headed)) ps

  module _ (k : ℕ) (c : Call) (called : Contains (calls_of d.rules r) c) where
    abbrev p : PairData
    p = candidate S k r c

    abbrev lacking : List Tm
    lacking = numbered_from (length r.metas + length c.binders) (c.need - length c.arguments)

    right_typed : AllTyped S p.metas [] (tms_of p.right) (marked_types S d.rules c.symbol)
    right_typed =
        let t : IsTypedIn S r.metas _ c = rule_call S d.rules r rule c called in
        let a : Ty = arrows t.types t.result in
        let F : ℕ → Tm = freed (length r.metas) c.binders in
        let needed : need_of d.rules c.symbol ≡ Some c.need = defined_call d.rules r c called in
        let here : get_or S.funs c.symbol (sort 0) ≡ a = get_or_from_slice_get S.funs c.symbol a (sort 0) t.known in
        let kinds : arguments (get_or S.funs c.symbol (sort 0)) ≡ t.types ++ arguments t.result =
        ap arguments here ∙ arguments-arrows t.types t.result in
        let enough : c.need ≤ length (arguments (get_or S.funs c.symbol (sort 0))) =
        (takes_arguments d made c.symbol c.need needed).enough in
        let many : c.need - length c.arguments ≡ length (missing_types S c) =
        sym (length-drop (length c.arguments) (take c.need (arguments (get_or S.funs c.symbol (sort 0))))
        ∙ ap (λ n. n - length c.arguments) (length-take-le c.need (arguments (get_or S.funs c.symbol (sort 0))) enough)) in
        let given : AllTyped S p.metas [] (tms_of (map (act F free) (take c.need c.arguments))) (take c.need t.types) =
        list_typed_act F (fits_freed r.metas c.binders (missing_types S c) S) (take c.need c.arguments) (take c.need t.types)
        (typed_take c.need c.arguments t.types (all_typed_wider (map nullary (reverse c.binders ++ missing_types S c)) t.typed)) in
        let rest : AllTyped S p.metas [] (tms_of lacking) (missing_types S c) =
        numbered_typed (length r.metas + length c.binders) (c.need - length c.arguments) (missing_types S c) many
        (lacking_there r.metas c.binders (missing_types S c)) in
        let types : take c.need t.types ++ missing_types S c ≡ take c.need (arguments a) =
        ap₂ (λ n l. take c.need t.types ++ drop n (take c.need l)) (typed_length c.arguments t.types t.typed) kinds
        ∙ take-append c.need t.types (arguments t.result) ∙ ap (take c.need) (sym (arguments-arrows t.types t.result)) in
        subst (AllTyped S p.metas [] (tms_of p.right)) (types ∙ marked_types_are S d.rules c.symbol c.need a t.known needed)
        (typed_join (map (act F free) (take c.need c.arguments)) lacking (take c.need t.types) (missing_types S c) given rest)

    right_closed : AllNoFree (tms_of p.right)
    right_closed =
        closed_join (map (act (freed (length r.metas) c.binders) free) (take c.need c.arguments)) lacking
        (list_act_closed (freed (length r.metas) c.binders) (freed_closed (length r.metas) c.binders) (take c.need c.arguments)
        (closed_take c.need c.arguments (calls_closed d.rules [] [] r.right [] rule.right_closed tt c called)))
        (numbered_closed (length r.metas + length c.binders) (c.need - length c.arguments))

    candidate_sides : (marks : List Mark) → HasMark marks p.left_fun → HasMark marks p.right_fun → HasMarkedSides S d.rules marks p
    candidate_sides marks l m = record {
      left_marked = l;
      right_marked = m;
      left_typed = all_typed_wider (map nullary (reverse c.binders ++ missing_types S c)) left_typed;
      right_typed = right_typed;
      left_closed = arguments_closed r.left rule.left_closed;
      right_closed = right_closed;
    }

-- every pair of a well-made system has typed and closed sides
pub pair_sides : (d : SystemData) → IsWellMadeSystem d → (ps : List PairData) → ArePairs (candidates d.symbols d.rules) ps
    → (marks : List Mark) (p : PairData) → Contains ps p → HasMark marks p.left_fun → HasMark marks p.right_fun
    → HasMarkedSides d.symbols d.rules marks p
pair_sides d made ps pairs marks p at l m =
    let from : IsOfCall d.symbols d.rules p =
    candidate_of_call d.symbols d.rules p (left-member [] (candidates d.symbols d.rules) ps p pairs at) in
    subst (HasMarkedSides d.symbols d.rules marks) (sym from.is)
    (candidate_sides d made from.rule (contains_there d.rules p.rule from.rule from.listed) p.rule from.call from.called marks
    (subst (λ q. HasMark marks q.left_fun) from.is l) (subst (λ q. HasMark marks q.right_fun) from.is m))
