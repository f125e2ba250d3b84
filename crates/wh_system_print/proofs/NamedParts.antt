-- What stands in the parts of a side has a name, also where bound variables are freed.
use Rattle.std.proofs.Common.{◌≡◌, ℕ, zero, suc, ◌+◌, ◌<◌, ◌≤◌, List, [], ◌∷◌, length, All, Option, Some, None, ⊎_elim, subst, arith}
use Rattle.std.specs.Prelude.{Contains}
use Rattle.std.proofs.lemmas.List.Elements.{All-nil, All-cons, All-push, Contains-append_cases}
use Rattle.wh_types.specs.Ty.{Ty, SortsBelow}
use Rattle.wh_terms.specs.Tree.{Tm, bound, free, fun, meta, lam, app, Tms, none, more, head}
use Rattle.wh_terms.specs.Substitution.{up_renaming, rename, renames, up, up_free, act, acts, cons}
use Rattle.wh_terms.specs.Rules.{RewriteRule}
use Rattle.wh_terms.proofs.ActLaws.{act-id}
use Rattle.wh_system.specs.Canonical.{Names, IsNamedBelow, AreNamedBelow}
use Rattle.wh_system.specs.Needs.{need_of}
use Rattle.wh_pairs.specs.PairData.{Within}
use Rattle.wh_pairs.specs.Spines.{spine_arguments}
use Rattle.wh_pairs.specs.Conditions.{with_condition}
use Rattle.wh_pairs.specs.Calls.{Call, calls, calls_within, call_where_defined}
use Rattle.wh_pairs.specs.Candidates.{freed, numbered_from}
use Rattle.wh_pairs.proofs.OrderLaws.{with_member}
use Rattle.wh_pairs.proofs.MemberLemmas.{none_there, head_or_behind}

-- renaming and substitution

below-up : (k m : ℕ) (ρ : ℕ → ℕ) → ((i : ℕ) → i < k → ρ i < m) → (i : ℕ) → i < k + 1 → up_renaming ρ i < m + 1
unfolding up_renaming
below-up k m ρ h zero l = omega arith
below-up k m ρ h (suc i) l = let b : ρ i < m = h i (omega arith) in omega arith

mutual
  unfolding rename renames

  named-rename : (n : Names) (k m : ℕ) (ρ : ℕ → ℕ) (t : Tm) → ((i : ℕ) → i < k → ρ i < m) → IsNamedBelow n k t → IsNamedBelow n m (rename ρ t)
  named-rename n k m ρ (bound i) h l = h i l
  named-rename n k m ρ (free x a) h l = l
  named-rename n k m ρ (fun f) h l = l
  named-rename n k m ρ (meta z ts) h l = (l.0, all_named-renames n k m ρ ts h l.1)
  named-rename n k m ρ (lam a t) h l = (l.0, named-rename n (k + 1) (m + 1) (up_renaming ρ) t (below-up k m ρ h) l.1)
  named-rename n k m ρ (app t u) h l = (named-rename n k m ρ t h l.0, named-rename n k m ρ u h l.1)

  all_named-renames : (n : Names) (k m : ℕ) (ρ : ℕ → ℕ) (ts : Tms) → ((i : ℕ) → i < k → ρ i < m) → AreNamedBelow n k ts → AreNamedBelow n m (renames ρ ts)
  all_named-renames n k m ρ none h l = tt
  all_named-renames n k m ρ (more t ts) h l = (named-rename n k m ρ t h l.0, all_named-renames n k m ρ ts h l.1)

named-shift : (n : Names) (m : ℕ) (t : Tm) → IsNamedBelow n m t → IsNamedBelow n (m + 1) (rename suc t)
named-shift n m t l = named-rename n m (m + 1) suc t (λ i b. omega arith) l

named-up : (n : Names) (k m : ℕ) (σ : ℕ → Tm) → ((i : ℕ) → i < k → IsNamedBelow n m (σ i)) → (i : ℕ) → i < k + 1 → IsNamedBelow n (m + 1) (up σ i)
unfolding up
named-up n k m σ h zero l = omega arith
named-up n k m σ h (suc i) l = named-shift n m (σ i) (h i (omega arith))

-- the names of a rule, and the same with names for further meta-variables
abbrev with_metas : List (List ℕ) → List (List ℕ) → List (List ℕ) → Names
with_metas sorts funs metas = record { sorts = sorts; funs = funs; metas = metas }

module _ (sorts funs few many : List (List ℕ)) (wide : length few ≤ length many) where
  mutual
    unfolding act acts up_free

    pub named-act : (k m : ℕ) (σ : ℕ → Tm) (φ : ℕ → Ty → Tm) (t : Tm) → ((i : ℕ) → i < k → IsNamedBelow (with_metas sorts funs many) m (σ i))
        → ((x : ℕ) (a : Ty) → SortsBelow (length sorts) a → IsNamedBelow (with_metas sorts funs many) m (φ x a)) → IsNamedBelow (with_metas sorts funs few) k t
        → IsNamedBelow (with_metas sorts funs many) m (act σ φ t)
    named-act k m σ φ (bound i) h f l = h i l
    named-act k m σ φ (free x a) h f l = f x a l
    named-act k m σ φ (fun g) h f l = l
    named-act k m σ φ (meta z ts) h f l = let here : z < length few = l.0 in (omega (arith, here, wide), all_named-acts k m σ φ ts h f l.1)
    named-act k m σ φ (lam a t) h f l =
        let n : Names = with_metas sorts funs many in
        (l.0, named-act (k + 1) (m + 1) (up σ) (up_free φ) t (named-up n k m σ h) (λ x b s. named-shift n m (φ x b) (f x b s)) l.1)
    named-act k m σ φ (app t u) h f l = (named-act k m σ φ t h f l.0, named-act k m σ φ u h f l.1)

    all_named-acts : (k m : ℕ) (σ : ℕ → Tm) (φ : ℕ → Ty → Tm) (ts : Tms) → ((i : ℕ) → i < k → IsNamedBelow (with_metas sorts funs many) m (σ i))
        → ((x : ℕ) (a : Ty) → SortsBelow (length sorts) a → IsNamedBelow (with_metas sorts funs many) m (φ x a)) → AreNamedBelow (with_metas sorts funs few) k ts
        → AreNamedBelow (with_metas sorts funs many) m (acts σ φ ts)
    all_named-acts k m σ φ none h f l = tt
    all_named-acts k m σ φ (more t ts) h f l = (named-act k m σ φ t h f l.0, all_named-acts k m σ φ ts h f l.1)

  -- a closed tree
  pub named-wide : (t : Tm) → IsNamedBelow (with_metas sorts funs few) 0 t → IsNamedBelow (with_metas sorts funs many) 0 t
  named-wide t l = subst (IsNamedBelow (with_metas sorts funs many) 0) (act-id t) (named-act 0 0 bound free t (λ i b. absurd (omega arith)) (λ x a s. s) l)

-- fresh meta-variables

pub named-freed : (n : Names) (x : ℕ) (Γ : List Ty) → x + length Γ ≤ length n.metas → (i : ℕ) → i < length Γ → IsNamedBelow n 0 (freed x Γ i)
unfolding freed cons
named-freed n x [] room i within = absurd (omega arith)
named-freed n x (a ∷ Γ) room zero within = (omega (arith, room), tt)
named-freed n x (a ∷ Γ) room (suc i) within = named-freed n x Γ (omega (arith, room)) i (omega arith)

pub named-numbered : (n : Names) (x count : ℕ) → x + count ≤ length n.metas → All (IsNamedBelow n 0) (numbered_from x count)
named-numbered n x zero room = All-nil (IsNamedBelow n 0)
named-numbered n x (suc count) room = All-cons (IsNamedBelow n 0) (meta x none) (numbered_from (x + 1) count) (omega arith, tt) (named-numbered n (x + 1) count (omega arith))

-- spines

pub named-head : (n : Names) (d : ℕ) (t : Tm) → IsNamedBelow n d t → IsNamedBelow n d (head t)
named-head n d (bound i) l = l
named-head n d (free x a) l = l
named-head n d (fun f) l = l
named-head n d (meta z ts) l = l
named-head n d (lam a t) l = l
named-head n d (app t u) l = named-head n d t l.0

pub named-arguments : (n : Names) (d : ℕ) (t : Tm) → IsNamedBelow n d t → All (IsNamedBelow n d) (spine_arguments t)
named-arguments n d (bound i) l = All-nil (IsNamedBelow n d)
named-arguments n d (free x a) l = All-nil (IsNamedBelow n d)
named-arguments n d (fun f) l = All-nil (IsNamedBelow n d)
named-arguments n d (meta z ts) l = All-nil (IsNamedBelow n d)
named-arguments n d (lam a t) l = All-nil (IsNamedBelow n d)
named-arguments n d (app t u) l = All-push (IsNamedBelow n d) (spine_arguments t) u (named-arguments n d t l.0) l.1

-- calls

-- the meta-variables of conditions have numbers below k
abbrev pub AreBelow : ℕ → List Within → Type 0
AreBelow k cs = (w : Within) → Contains cs w → w.meta < k

below-with : (k : ℕ) (w : Within) (cs : List Within) → w.meta < k → AreBelow k cs → AreBelow k (with_condition w cs)
below-with k w cs here all v at = ⊎_elim (λ e. subst (λ u. u.meta < k) e here) (all v) (with_member w cs v at)

-- what stands in a call has names, below its binders
pub record IsNamedCall (n : Names) (c : Call) : Type 0 where
  pub arguments : All (IsNamedBelow n (length c.binders)) c.arguments
  pub conditions : AreBelow (length n.metas) c.conditions

module _ (n : Names) (rules : List RewriteRule) where
  mutual
    pub named-call : (cs : List Within) (Γ : List Ty) (t : Tm) (qs : List Tm) (c : Call) → AreBelow (length n.metas) cs → IsNamedBelow n (length Γ) t → All (IsNamedBelow n (length Γ)) qs
        → Contains (calls rules cs Γ t qs) c → IsNamedCall n c
    named-call cs Γ (bound i) qs c known l all at = absurd (none_there c at)
    named-call cs Γ (free x a) qs c known l all at = absurd (none_there c at)
    named-call cs Γ (fun f) qs c known l all at = go (need_of rules f) at
      where
        go : (o : Option ℕ) → Contains (call_where_defined o cs Γ f qs) c → IsNamedCall n c
        go None at = absurd (none_there c at)
        go (Some e) at =
            ⊎_elim (λ is. subst (IsNamedCall n) is (record { arguments = all; conditions = known })) (λ h. absurd (none_there c h))
            (head_or_behind [] (record { conditions = cs; binders = Γ; symbol = f; need = e; arguments = qs }) c at)
    named-call cs Γ (meta z ts) qs c known l all at = named-call_within cs Γ z 1 ts c known l.0 l.1 at
    named-call cs Γ (lam a t) qs c known l all at =
        let deeper : length Γ + 1 ≡ length (a ∷ Γ) = omega arith in
        named-call cs (a ∷ Γ) t [] c known (subst (λ d. IsNamedBelow n d t) deeper l.1) (All-nil (IsNamedBelow n (length (a ∷ Γ)))) at
    named-call cs Γ (app t u) qs c known l all at =
        ⊎_elim (λ h. named-call cs Γ t (u ∷ qs) c known l.0 (All-cons (IsNamedBelow n (length Γ)) u qs l.1 all) h) (λ h. named-call cs Γ u [] c known l.1 (All-nil (IsNamedBelow n (length Γ))) h)
        (Contains-append_cases (calls rules cs Γ t (u ∷ qs)) (calls rules cs Γ u []) c at)

    named-call_within : (cs : List Within) (Γ : List Ty) (z i : ℕ) (ts : Tms) (c : Call) → AreBelow (length n.metas) cs → z < length n.metas → AreNamedBelow n (length Γ) ts
        → Contains (calls_within rules cs Γ z i ts) c → IsNamedCall n c
    named-call_within cs Γ z i none c known inside l at = absurd (none_there c at)
    named-call_within cs Γ z i (more t ts) c known inside l at =
        let w : Within = record { meta = z; place = i } in
        ⊎_elim (λ h. named-call (with_condition w cs) Γ t [] c (below-with (length n.metas) w cs inside known) l.0 (All-nil (IsNamedBelow n (length Γ))) h)
        (λ h. named-call_within cs Γ z (i + 1) ts c known inside l.1 h)
        (Contains-append_cases (calls rules (with_condition w cs) Γ t []) (calls_within rules cs Γ z (i + 1) ts) c at)
