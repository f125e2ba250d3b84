-- The pairs of a well-made system have patterns on their left sides, and meta-variables of known sorts.
use Rattle.std.proofs.Common.{◌≡◌, ◌⊎◌, inl, inr, ℕ, ◌+◌, List, [], ◌∷◌, ◌++◌, length, map, take, reverse, Option, Some, None, slice_get, get_or, Contains, All, sym, subst}
use Rattle.std.specs.List.{AllByRecursion}
use Rattle.std.proofs.lemmas.List.{reverse-append}
use Rattle.std.proofs.lemmas.List.Elements.{Contains-append_cases, All-nil, All-cons, All-head, All-tail, All-same, All-push, All-append, All-take, All-drop, All-weaker, All-map, All-contains}
use Rattle.std.proofs.lemmas.Option.{none-some, get_or_from_slice_get}
use Rattle.wh_types.specs.Ty.{Ty, sort, ◌⇒◌, arguments, SortsBelow}
use Rattle.wh_terms.specs.Tree.{Tm, bound, free, fun, meta, lam, app, Tms}
use Rattle.wh_terms.specs.Pattern.{IsPatternUnder, IsPatternSpine}
use Rattle.wh_terms.specs.Typing.{Symbols, Declared, Typed, typed_bound, typed_free, typed_fun, typed_meta, typed_lam, typed_app, AllTyped, typed_none, typed_more}
use Rattle.wh_terms.specs.Rules.{RewriteRule, IsWellMade}
use Rattle.wh_terms.proofs.ValueTyping.{headed_spine}
use Rattle.wh_step_laws.specs.RootRelations.{KnowsSorts}
use Rattle.wh_system.specs.Needs.{need_of}
use Rattle.wh_system.specs.Systems.{SystemData}
use Rattle.wh_system.specs.WellMade.{IsTypeOver, IsDeclarationOver, IsWellMadeSystem}
use Rattle.wh_pairs.specs.PairData.{PairData, Within}
use Rattle.wh_pairs.specs.Spines.{spine_arguments}
use Rattle.wh_pairs.specs.Calls.{Call, calls, calls_within, call_where_defined, calls_of}
use Rattle.wh_pairs.specs.Candidates.{nullary, missing_types, candidate, candidates}
use Rattle.wh_pairs.specs.Subsumption.{ArePairs}
use Rattle.wh_pairs.proofs.ByPlace.{contains_at}
use Rattle.wh_pairs.proofs.KnownLemmas.{takes_arguments, defined_call}
use Rattle.wh_pairs.proofs.MemberLemmas.{none_there, head_or_behind}
use Rattle.wh_pairs.proofs.SubsumptionLaws.{left-member}
use Rattle.wh_proof_calls.proofs.CandidateValues.{IsTypedIn, rule_call}
use Rattle.wh_proof_calls.proofs.Served.{IsOfCall, candidate_of_call}
use Rattle.wh_order_extended.specs.Kinds.{arrows}
use Rattle.wh_order_descent.specs.PatternSides.{HaveKnownSorts, HasPatternSides}

-- lists of types with known sorts

abbrev AreBelow : ℕ → List Ty → Type 0
AreBelow n = All (SortsBelow n)

all_reverse : {A : Type 0} (P : A → Type 0) (xs : List A) → All P xs → All P (reverse xs)
all_reverse P [] h = All-nil P
all_reverse P (x ∷ xs) h =
    All-same P (reverse (x ∷ xs)) (reverse xs ++ x ∷ []) (reverse-append (x ∷ []) xs)
    (All-push P (reverse xs) x (all_reverse P xs (All-tail P x xs h)) (All-head P x xs h))

arguments_below : (n : ℕ) (a : Ty) → SortsBelow n a → AreBelow n (arguments a)
arguments_below n (sort s) h = All-nil (SortsBelow n)
arguments_below n (a ⇒ b) h = All-cons (SortsBelow n) a (arguments b) h.0 (arguments_below n b h.1)

-- the binders around a call of a typed tree have types of known sorts
mutual
  binders_below : {S : Symbols} {M : List Declared} {Γ : List Ty} {t : Tm} {a : Ty} (rules : List RewriteRule) (es : List Within)
      (qs : List Tm) → Typed S M Γ t a → AreBelow S.sorts Γ → (c : Call) → Contains (calls rules es Γ t qs) c → AreBelow S.sorts c.binders
  binders_below rules es qs (typed_bound e) known c at = absurd (none_there c at)
  binders_below rules es qs (typed_free s) known c at = absurd (none_there c at)
  binders_below {S = S} rules es qs (typed_fun {Γ = Γ} {f = f} e) known c at = go (need_of rules f) at
    where
      here : (n : ℕ) → (record { conditions = es; binders = Γ; symbol = f; need = n; arguments = qs } ≡ c) ⊎ Contains [] c
          → AreBelow S.sorts c.binders
      here n (inl same) = subst (λ d. AreBelow S.sorts d.binders) same known
      here n (inr at) = absurd (none_there c at)

      go : (o : Option ℕ) → Contains (call_where_defined o es Γ f qs) c → AreBelow S.sorts c.binders
      go None at = absurd (none_there c at)
      go (Some n) at = here n (head_or_behind [] _ c at)
  binders_below rules es qs (typed_meta {z = z} e us o) known c at = binders_within_below rules es z 1 us known c at
  binders_below {S = S} rules es qs (typed_lam {Γ = Γ} {a = a} s p) known c at =
      binders_below rules es [] p (All-cons (SortsBelow S.sorts) a Γ s known) c at
  binders_below {S = S} rules es qs (typed_app {Γ = Γ} {t = t} {u = u} p q) known c at =
      elim (Contains-append_cases (calls rules es Γ t (u ∷ qs)) (calls rules es Γ u []) c at) [
        | inl i ↦ binders_below rules es (u ∷ qs) p known c i
        | inr i ↦ binders_below rules es [] q known c i
      ]

  binders_within_below : {S : Symbols} {M : List Declared} {Γ : List Ty} {ts : Tms} {cs : List Ty} (rules : List RewriteRule)
      (es : List Within) (z i : ℕ) → AllTyped S M Γ ts cs → AreBelow S.sorts Γ → (c : Call) → Contains (calls_within rules es Γ z i ts) c
      → AreBelow S.sorts c.binders
  binders_within_below rules es z i typed_none known c at = absurd (none_there c at)
  binders_within_below rules es z i (typed_more {Γ = Γ} {ts = ts} p ps) known c at =
      elim (Contains-append_cases _ (calls_within rules es Γ z (i + 1) ts) c at) [
        | inl j ↦ binders_below rules _ [] p known c j
        | inr j ↦ binders_within_below rules es z (i + 1) ps known c j
      ]

-- the arguments of a pattern that a symbol heads are patterns

all_by_push : {A : Type 0} (P : A → Type 0) (xs : List A) (x : A) → AllByRecursion P xs → P x → AllByRecursion P (xs ++ x ∷ [])
all_by_push P [] x all h = (h, tt)
all_by_push P (y ∷ xs) x all h = (all.0, all_by_push P xs x all.1 h)

spine_patterns : (t : Tm) → IsPatternSpine 0 t → AllByRecursion (IsPatternUnder 0) (spine_arguments t)
spine_patterns (bound i) p = tt
spine_patterns (free x a) p = absurd p
spine_patterns (fun f) p = tt
spine_patterns (meta z ts) p = absurd p
spine_patterns (lam a t) p = absurd p
spine_patterns (app t u) p = all_by_push (IsPatternUnder 0) (spine_arguments t) u (spine_patterns t p.0) p.1

-- what is declared of known sorts alone
record IsKnown (n : ℕ) (q : Declared) : Type 0 where
  out : SortsBelow n q.out
  args : (i : ℕ) (c : Ty) → slice_get q.args i ≡ Some c → SortsBelow n c

declared_known : (n : ℕ) (q : Declared) → IsDeclarationOver n q → IsKnown n q
declared_known n q over = record {
  out = over.out.sorts_are_there;
  args = λ i c e. (All-contains (IsTypeOver n) q.args c over.args (contains_at q.args i c e)).sorts_are_there;
}

nullary_known : (n : ℕ) (a : Ty) → SortsBelow n a → IsKnown n (nullary a)
nullary_known n a h = record { out = h; args = λ i c e. absurd (none-some c e) }

module _ (d : SystemData) (made : IsWellMadeSystem d) where
  abbrev S : Symbols
  S = d.symbols

  abbrev n : ℕ
  n = d.symbols.sorts

  symbols_known : KnowsSorts S
  symbols_known f a e = (All-contains (IsTypeOver n) S.funs a made.symbol_types (contains_at S.funs f a e)).sorts_are_there

  rule_known : (r : RewriteRule) → Contains d.rules r → All (IsKnown n) r.metas
  rule_known r there =
      All-weaker (IsDeclarationOver n) (IsKnown n) (declared_known n) r.metas
      (All-contains (λ (r : RewriteRule). All (IsDeclarationOver n) r.metas) d.rules r made.meta_types there)

  pub known_sorts : HaveKnownSorts S d.rules
  known_sorts = record {
    of_symbols = symbols_known;
    of_metas = λ r there z q e. (All-contains (IsKnown n) r.metas q (rule_known r there) (contains_at r.metas z q e)).out;
  }

  module _ (r : RewriteRule) (listed : Contains d.rules r) (k : ℕ) (c : Call) (called : Contains (calls_of d.rules r) c) where
    rule : IsWellMade S r
    rule = made.rules.each r listed

    abbrev p : PairData
    p = candidate S k r c

    abbrev fresh : List Ty
    fresh = reverse c.binders ++ missing_types S c

    missing_below : AreBelow n (missing_types S c)
    missing_below =
        let t : IsTypedIn S r.metas _ c = rule_call S d.rules r rule c called in
        let a : Ty = arrows t.types t.result in
        let here : get_or S.funs c.symbol (sort 0) ≡ a = get_or_from_slice_get S.funs c.symbol a (sort 0) t.known in
        let below : SortsBelow n (get_or S.funs c.symbol (sort 0)) = subst (SortsBelow n) (sym here) (symbols_known c.symbol a t.known) in
        let all = arguments (get_or S.funs c.symbol (sort 0)) in
        All-drop (SortsBelow n) (length c.arguments) (take c.need all)
        (All-take (SortsBelow n) c.need all (arguments_below n (get_or S.funs c.symbol (sort 0)) below))

    fresh_below : AreBelow n fresh
    fresh_below =
        All-append (SortsBelow n) (reverse c.binders) (missing_types S c)
        (all_reverse (SortsBelow n) c.binders (binders_below d.rules [] [] rule.typed.2 (All-nil (SortsBelow n)) c called)) missing_below

    metas_known : All (IsKnown n) p.metas
    metas_known =
        All-append (IsKnown n) r.metas (map nullary fresh) (rule_known r listed)
        (All-map (IsKnown n) nullary fresh
        (All-weaker (SortsBelow n) (λ a. IsKnown n (nullary a)) (nullary_known n) fresh fresh_below))

    meta_known : (z : ℕ) (q : Declared) → slice_get p.metas z ≡ Some q → IsKnown n q
    meta_known z q e = All-contains (IsKnown n) p.metas q metas_known (contains_at p.metas z q e)

    candidate_pattern : HasPatternSides S p
    candidate_pattern =
        let (f, headed) = rule.headed in record {
          right_known = (takes_arguments d made c.symbol c.need (defined_call d.rules r c called)).known;
          metas_known = λ z q e. (meta_known z q e).out;
          arguments_known = λ z q e. (meta_known z q e).args;
          left_patterns = spine_patterns r.left (headed_spine 0 f r.left rule.pattern_left headed);
        }

  -- every pair has patterns on its left side
  pub pattern_sides : (ps : List PairData) → ArePairs (candidates S d.rules) ps → (p : PairData) → Contains ps p → HasPatternSides S p
  pattern_sides ps pairs p at =
      let from : IsOfCall S d.rules p =
      candidate_of_call S d.rules p (left-member [] (candidates S d.rules) ps p pairs at) in
      subst (HasPatternSides S) (sym from.is)
      (candidate_pattern from.rule (contains_at d.rules p.rule from.rule from.listed) p.rule from.call from.called)
