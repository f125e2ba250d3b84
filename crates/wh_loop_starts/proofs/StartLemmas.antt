-- Starts are well typed, begin with a symbol, and have variables with the numbers and types of meta-variables.
use Rattle.std.proofs.Common.{◌≡◌, ℕ, zero, suc, ◌<◌, ◌≤◌, List, [], ◌∷◌, length, get_or, Some, refl, ap, sym, ◌∙◌, subst, arith}
use Rattle.std.specs.Prelude.{slice_get, Contains, All}
use Rattle.std.proofs.lemmas.List.Elements.{All-head, All-tail, All-contains}
use Rattle.std.proofs.lemmas.Option.{slice_get_within, get_or_from_slice_get}
use Rattle.wh_types.specs.Ty.{Ty, sort, SortsBelow}
use Rattle.wh_terms.specs.Tree.{Tm, bound, free, fun, meta, lam, app, Tms, none, more, head}
use Rattle.wh_terms.specs.Sight.{NoFree, AllNoFree}
use Rattle.wh_terms.specs.Typing.{Symbols, Declared, Typed, typed_bound, typed_free, typed_fun, typed_meta, typed_lam, typed_app, AllTyped, typed_none, typed_more, WellTyped}
use Rattle.wh_terms.specs.Rules.{RewriteRule, IsWellMade}
use Rattle.wh_terms.specs.Erase.{rewrite_rule, rewrite_rules}
use Rattle.wh_terms.specs.declared.rule.Rule.{Rule}
use Rattle.std.proofs.lemmas.List.{length-map}
use Rattle.wh_terms.proofs.TypingLaws.{some_one}
use Rattle.wh_system.specs.Systems.{SystemData}
use Rattle.wh_system.specs.WellMade.{IsTypeOver, IsDeclarationOver, IsWellMadeSystem}
use Rattle.wh_no.specs.Unused.{first_unused}
use Rattle.wh_loop_starts.specs.Starts.{function_type, meta_type, freed, freed_spine, IsStart, IsSomeStart}
use Rattle.wh_loop_starts.specs.Meets.{IsHeaded, HasKinds, IsReady}

-- the type of a declared meta-variable
pub meta_type_at : (M : List Declared) (z : ℕ) (d : Declared) → slice_get M z ≡ Some d → meta_type M z ≡ function_type d.args d.out
meta_type_at [] z d e = absurd (cc)
meta_type_at (c ∷ M) zero d e = ap (λ k. function_type k.args k.out) (some_one e)
meta_type_at (c ∷ M) (suc z) d e = meta_type_at M z d e

pub meta_type_past : (M : List Declared) (z : ℕ) → length M ≤ z → meta_type M z ≡ sort 0
meta_type_past [] z past = refl
meta_type_past (c ∷ M) zero past = absurd (omega arith)
meta_type_past (c ∷ M) (suc z) past = meta_type_past M z (omega arith)

-- the sorts of the types of meta-variables are there
abbrev pub HasSorts : Symbols → List Declared → Type 0
HasSorts S M = (z : ℕ) (d : Declared) → slice_get M z ≡ Some d → SortsBelow S.sorts (function_type d.args d.out)

function_sorts : (n : ℕ) (cs : List Ty) (a : Ty) → All (IsTypeOver n) cs → IsTypeOver n a → SortsBelow n (function_type cs a)
function_sorts n [] a h k = k.sorts_are_there
function_sorts n (c ∷ cs) a h k = ((All-head (IsTypeOver n) c cs h).sorts_are_there, function_sorts n cs a (All-tail (IsTypeOver n) c cs h) k)

pub contains_at : {A : Type 0} (l : List A) (i : ℕ) (a : A) → slice_get l i ≡ Some a → Contains l a
contains_at l i a e = (i, slice_get_within l i a e, get_or_from_slice_get l i a a e)

declared_sorts : (S : Symbols) (M : List Declared) → All (IsDeclarationOver S.sorts) M → HasSorts S M
declared_sorts S M h z d e =
    let over = All-contains (IsDeclarationOver S.sorts) M d h (contains_at M z d e) in function_sorts S.sorts d.args d.out over.args over.out

mutual
  pub freed_typed : {S : Symbols} {M : List Declared} {Γ : List Ty} {t : Tm} {a : Ty} → HasSorts S M → Typed S M Γ t a → Typed S [] Γ (freed M t) a
  freed_typed h (typed_bound e) = typed_bound e
  freed_typed h (typed_free p) = typed_free p
  freed_typed h (typed_fun e) = typed_fun e
  freed_typed {S = S} {M = M} {Γ = Γ} h (typed_meta {z = z} {ts = ts} {d = d} e us o) =
      let kind = meta_type_at M z d e in
      let sorts = subst (SortsBelow S.sorts) (sym kind) (h z d e) in
      subst (Typed S [] Γ (freed_spine M (free z (meta_type M z)) ts)) (sym o) (spine_typed h d.args d.out (subst (Typed S [] Γ (free z (meta_type M z))) kind (typed_free sorts)) us)
  freed_typed h (typed_lam p t) = typed_lam p (freed_typed h t)
  freed_typed h (typed_app t u) = typed_app (freed_typed h t) (freed_typed h u)

  spine_typed : {S : Symbols} {M : List Declared} {Γ : List Ty} {h : Tm} {ts : Tms} → HasSorts S M → (cs : List Ty) (a : Ty) → Typed S [] Γ h (function_type cs a) → AllTyped S M Γ ts cs → Typed S [] Γ (freed_spine M h ts) a
  spine_typed k [] a p typed_none = p
  spine_typed k (c ∷ cs) a p (typed_more t ts) = spine_typed k cs a (typed_app p (freed_typed k t)) ts

-- a symbol at the head stays there

freed_headed : (M : List Declared) (f : ℕ) (t : Tm) → head t ≡ fun f → IsHeaded (freed M t)
freed_headed M f (fun g) e = tt
freed_headed M f (app t u) e = freed_headed M f t e
freed_headed M f (bound i) e = absurd (cc)
freed_headed M f (free x a) e = absurd (cc)
freed_headed M f (meta z ts) e = absurd (cc)
freed_headed M f (lam a t) e = absurd (cc)

-- the numbers of variables tell their types

mutual
  freed_kinds : (M : List Declared) (t : Tm) → NoFree t → HasKinds (meta_type M) (freed M t)
  freed_kinds M (bound i) n = tt
  freed_kinds M (free x a) n = absurd n
  freed_kinds M (fun f) n = tt
  freed_kinds M (meta z ts) n = spine_kinds M (free z (meta_type M z)) ts refl n
  freed_kinds M (lam a t) n = freed_kinds M t n
  freed_kinds M (app t u) n = (freed_kinds M t n.0, freed_kinds M u n.1)

  spine_kinds : (M : List Declared) (h : Tm) (ts : Tms) → HasKinds (meta_type M) h → AllNoFree ts → HasKinds (meta_type M) (freed_spine M h ts)
  spine_kinds M h none p n = p
  spine_kinds M h (more t ts) p n = spine_kinds M (app h (freed M t)) ts (p, freed_kinds M t n.0) n.1

-- and are below the number of meta-variables

mutual
  freed_low : {S : Symbols} {M : List Declared} {Γ : List Ty} {t : Tm} {a : Ty} → NoFree t → Typed S M Γ t a → first_unused (freed M t) ≤ length M
  freed_low n (typed_bound e) = omega arith
  freed_low n (typed_free p) = absurd n
  freed_low n (typed_fun e) = omega arith
  freed_low {M = M} n (typed_meta {z = z} {ts = ts} {d = d} e us o) =
      let below : z < length M = slice_get_within M z d e in spine_low (free z (meta_type M z)) (omega arith) n us
  freed_low n (typed_lam p t) = freed_low n t
  freed_low n (typed_app t u) = let left = freed_low n.0 t in let right = freed_low n.1 u in omega arith

  spine_low : {S : Symbols} {M : List Declared} {Γ : List Ty} {ts : Tms} {cs : List Ty} (h : Tm) → first_unused h ≤ length M → AllNoFree ts → AllTyped S M Γ ts cs → first_unused (freed_spine M h ts) ≤ length M
  spine_low h p n typed_none = p
  spine_low {M = M} h p n (typed_more {t = t} q ts) = let arg = freed_low n.0 q in spine_low (app h (freed M t)) (omega arith) n.1 ts

-- the start of a rule

pub rule_made : (d : SystemData) (n : ℕ) (r : RewriteRule) → IsWellMadeSystem d → slice_get d.rules n ≡ Some r → IsWellMade d.symbols r
rule_made d n r made at = made.rules.each r (contains_at d.rules n r at)

pub rule_sorts : (d : SystemData) (n : ℕ) (r : RewriteRule) → IsWellMadeSystem d → slice_get d.rules n ≡ Some r → HasSorts d.symbols r.metas
rule_sorts d n r made at =
    declared_sorts d.symbols r.metas (All-contains (λ q. All (IsDeclarationOver d.symbols.sorts) q.metas) d.rules r made.meta_types (contains_at d.rules n r at))

pub start_typed : (d : SystemData) (n : ℕ) (t : Tm) → IsWellMadeSystem d → IsStart d.rules n t → WellTyped d.symbols t
start_typed d n t made (r, at, is) =
    let w = rule_made d n r made at in
    let (a, left, right) = w.typed in
    (a, subst (λ u. Typed d.symbols [] [] u a) (sym is) (freed_typed (rule_sorts d n r made at) left))

start_ready_at : (d : SystemData) (n : ℕ) (r : RewriteRule) → IsWellMadeSystem d → slice_get d.rules n ≡ Some r → IsReady d.symbols (freed r.metas r.left)
start_ready_at d n r made at =
    let w = rule_made d n r made at in
    let (a, left, right) = w.typed in
    let low = freed_low w.left_closed left in
    let few = All-contains (λ q. length q.metas ≤ 32) d.rules r made.metas_within (contains_at d.rules n r at) in record {
      typed = (a, freed_typed (rule_sorts d n r made at) left);
      headed = freed_headed r.metas w.headed.0 r.left w.headed.1;
      kinds = meta_type r.metas;
      has_kinds = freed_kinds r.metas r.left w.left_closed;
      low = omega arith;
    }

pub start_ready : (d : SystemData) (t : Tm) → IsWellMadeSystem d → IsSomeStart d.rules t → IsReady d.symbols t
start_ready d t made (n, (r, at, is)) = subst (IsReady d.symbols) (sym is) (start_ready_at d n r made at)

rewritten : (xs : List Rule) (i : ℕ) (x : Rule) → i < length xs → x ≡ get_or xs i x → slice_get (rewrite_rules xs) i ≡ Some (rewrite_rule x)
rewritten [] i x within there = absurd (omega arith)
rewritten (y ∷ xs) zero x within there = ap (λ r. Some (rewrite_rule r)) (sym there)
rewritten (y ∷ xs) (suc i) x within there = rewritten xs i x (omega arith) there

pub rule_there : (xs : List Rule) (rules : List RewriteRule) (i : ℕ) (x : Rule) → rewrite_rules xs ≡ rules → i < length rules → x ≡ get_or xs i x → slice_get rules i ≡ Some (rewrite_rule x)
rule_there xs rules i x are within there =
    let h : i < length xs = omega (arith, within, ap length are, length-map xs rewrite_rule) in
    ap (λ l. slice_get l i) (sym are) ∙ rewritten xs i x h there
