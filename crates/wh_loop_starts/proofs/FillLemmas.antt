-- Instances of a start, and what the walk beside a part finds.
use Rattle.std.proofs.Common.{◌≡◌, ℕ, zero, suc, List, [], ◌∷◌, Bool, true, false, Option, Some, None, refl, ap, ap₂, sym, ◌∙◌, subst, ⊎_elim}
use Rattle.std.specs.Prelude.{if◌then◌else◌, ◌==◌, ◌&&◌, All}
use Rattle.std.proofs.Math.ListN.{replicate}
use Rattle.std.proofs.lemmas.List.Elements.{All-head, All-tail, All-weaker}
use Rattle.wh_types.specs.Ty.{Ty, same_ty, SortsBelow}
use Rattle.wh_types.specs.Erase.{ty}
use Rattle.wh_terms.specs.Tree.{Tm, bound, free, fun, meta, lam, app}
use Rattle.wh_terms.specs.Erase.{tm}
use Rattle.wh_terms.specs.Sight.{IsTerm, LooseBelow, Lacks}
use Rattle.wh_terms.specs.Substitution.{up_free, act}
use Rattle.wh_terms.specs.Typing.{Symbols, Typed, typed_free, typed_lam, typed_app}
use Rattle.wh_terms.proofs.ActLaws.{act_same, up-bound}
use Rattle.wh_terms.proofs.SightLaws.{rename_shut}
use Rattle.wh_terms.proofs.TypeTests.{variable-equal}
use Rattle.wh_terms.proofs.TypingLaws.{typed_loose, typed_term}
use Rattle.wh_no.specs.Claim.{Put, put_for}
use Rattle.wh_no.specs.Valid.{IsPutOver}
use Rattle.wh_loop_starts.specs.Found.{IsPutFor}
use Rattle.wh_loop_starts.specs.declared.meets.Met.{Met}
use Rattle.wh_loop_starts.specs.Meets.{Holds, HasKinds, IsReady, filled, IsAt, Agrees, IsMeeting, HasNoMeeting, IsFrom, IsOfTable, ArePutsOf, HasUntyped, AreInstance, IsNoInstance}
use Rattle.wh_no.proofs.InstanceLemmas.{shut_if}

-- values without loose variables may be filled in as they are
pub fill : (κ : ℕ → Ty) (φ : ℕ → Ty → Tm) (t : Tm) → HasKinds κ t → IsTerm t → ((x : ℕ) (a : Ty) → LooseBelow 0 (φ x a)) → act bound φ t ≡ filled (λ x. φ x (κ x)) t
unfolding act up_free
fill κ φ (bound i) h p s = refl
fill κ φ (free x a) h p s = ap (φ x) h
fill κ φ (fun f) h p s = refl
fill κ φ (meta z ts) h p s = absurd p
fill κ φ (lam a t) h p s = ap (lam a) (act_same up-bound (λ x b. rename_shut suc (φ x b) (s x b)) t ∙ fill κ φ t h p s)
fill κ φ (app t u) h p s = ap₂ app (fill κ φ t h.0 p.0 s) (fill κ φ u h.1 p.1 s)

-- what is put is shut and typed

pub put_shut : (S : Symbols) (puts : List Put) → All (IsPutOver S) puts → (x : ℕ) (a : Ty) → LooseBelow 0 (put_for puts x a)
put_shut S [] h x a = tt
put_shut S (p ∷ puts) h x a =
    shut_if ((p.number == x) && same_ty p.kind a) p.value (put_for puts x a) (typed_loose (All-head (IsPutOver S) p puts h).typed) (put_shut S puts (All-tail (IsPutOver S) p puts h) x a)

pub put_typed : (S : Symbols) (puts : List Put) → All (IsPutOver S) puts → (x : ℕ) (a : Ty) → SortsBelow S.sorts a → Typed S [] [] (put_for puts x a) a
put_typed S [] h x a s = typed_free s
put_typed S (p ∷ puts) h x a s = go (put_typed S puts (All-tail (IsPutOver S) p puts h) x a s) ((p.number == x) && same_ty p.kind a) refl
  where
    go : Typed S [] [] (put_for puts x a) a → (c : Bool) → ((p.number == x) && same_ty p.kind a) ≡ c → Typed S [] [] (if c then p.value else put_for puts x a) a
    go rest true e = subst (Typed S [] [] p.value) (variable-equal x a p.number p.kind e).1 (All-head (IsPutOver S) p puts h).typed
    go rest false e = rest

-- the variables of a tree

pub holds_kind : (κ : ℕ → Ty) (x : ℕ) (a : Ty) (t : Tm) → HasKinds κ t → Holds x a t → a ≡ κ x
holds_kind κ x a (free y b) h (n, k) = sym k ∙ h ∙ ap κ n
holds_kind κ x a (lam b t) h k = holds_kind κ x a t h k
holds_kind κ x a (app t u) h k = ⊎_elim (holds_kind κ x a t h.0) (holds_kind κ x a u h.1) k
holds_kind κ x a (bound i) h k = absurd k
holds_kind κ x a (fun f) h k = absurd k
holds_kind κ x a (meta z ts) h k = absurd k

holds_sorts : {S : Symbols} {Γ : List Ty} {b : Ty} (x : ℕ) (a : Ty) (t : Tm) → Typed S [] Γ t b → Holds x a t → SortsBelow S.sorts a
holds_sorts {S = S} x a (free y c) (typed_free p) (n, k) = subst (SortsBelow S.sorts) k p
holds_sorts x a (lam c t) (typed_lam p q) k = holds_sorts x a t q k
holds_sorts x a (app t u) (typed_app p q) k = ⊎_elim (holds_sorts x a t p) (holds_sorts x a u q) k
holds_sorts x a (bound i) p k = absurd k
holds_sorts x a (fun f) p k = absurd k
holds_sorts x a (meta z ts) p k = absurd k

holds_seen : (x : ℕ) (a : Ty) (t : Tm) → Holds x a t → Lacks x a t → ⊥
holds_seen x a (free y b) k f = f k.0 k.1
holds_seen x a (lam b t) k f = holds_seen x a t k f
holds_seen x a (app t u) k f = ⊎_elim (λ l. holds_seen x a t l f.0) (λ r. holds_seen x a u r f.1) k
holds_seen x a (bound i) k f = k
holds_seen x a (fun g) k f = k
holds_seen x a (meta z ts) k f = k

-- the empty table

abbrev pub IsEmpty : List (Option Met) → Type 0
IsEmpty table = (x : ℕ) (m : Met) → IsAt table x m → ⊥

pub empty_table : (n : ℕ) → IsEmpty (replicate n None)
empty_table zero x m e = absurd (cc)
empty_table (suc n) zero m e = let f : None ≡ Some m = some_inner e in absurd (cc)
  where
    some_inner : Some None ≡ Some (Some m) → None ≡ Some m
    some_inner e = cc
empty_table (suc n) (suc x) m e = empty_table n x m e

empty_agrees : (table : List (Option Met)) (φ : ℕ → Tm) → IsEmpty table → Agrees table φ
empty_agrees table φ h x m at = absurd (h x m at)

from_start : (s : Tm) (old new : List (Option Met)) (x : ℕ) (m : Met) → IsEmpty old → IsFrom s old new → IsAt new x m → Holds x (ty m.kind.now) s
from_start s old new x m h from at = ⊎_elim (λ b. absurd (h x m b)) (λ k. k) (from x m at)

-- an instance agrees with what is met

abbrev by_number : (ℕ → Ty) → List Put → ℕ → Tm
by_number κ puts x = put_for puts x (κ x)

instance_filled : (S : Symbols) (s w : Tm) (r : IsReady S s) (puts : List Put) → All (IsPutOver S) puts → w ≡ act bound (put_for puts) s → w ≡ filled (by_number r.kinds puts) s
instance_filled S s w r puts over e = e ∙ fill r.kinds (put_for puts) s r.has_kinds (typed_term s r.typed.1) (put_shut S puts over)

pub nothing_meets : (S : Symbols) (s w : Tm) (old : List (Option Met)) → IsReady S s → IsEmpty old → HasNoMeeting s w old → IsNoInstance S s w
nothing_meets S s w old r empty h puts over rising e =
    h (by_number r.kinds puts) (empty_agrees old (by_number r.kinds puts) empty) (instance_filled S s w r puts over e)

pub untyped_meets : (S : Symbols) (s w : Tm) (old new : List (Option Met)) → IsReady S s → IsEmpty old → IsMeeting s w old new → IsFrom s old new → HasUntyped S new → IsNoInstance S s w
untyped_meets S s w old new r empty meeting from (x, m, at, ill) puts over rising e =
    let φ = by_number r.kinds puts in
    let agrees = (meeting φ).1 (empty_agrees old φ empty) (instance_filled S s w r puts over e) in
    let here = from_start s old new x m empty from at in
    let kind = holds_kind r.kinds x (ty m.kind.now) s r.has_kinds here in
    let sorts = holds_sorts x (ty m.kind.now) s r.typed.1 here in
    let typed = put_typed S puts over x (ty m.kind.now) sorts in
    ill (subst (λ v. Typed S [] [] v (ty m.kind.now)) (ap (put_for puts x) kind ∙ agrees x m at) typed)

put_over : (S : Symbols) (s : Tm) (old new : List (Option Met)) → IsReady S s → IsEmpty old → IsFrom s old new → (p : Put) → IsOfTable S new p → IsPutOver S p
put_over S s old new r empty from p (m, at, typed, kind, value) =
    let here = from_start s old new p.number m empty from at in record {
      sorts_are_there = subst (SortsBelow S.sorts) (sym kind) (holds_sorts p.number (ty m.kind.now) s r.typed.1 here);
      typed = subst (λ v. Typed S [] [] v p.kind) (sym value) (subst (λ a. Typed S [] [] (tm m.value.now) a) (sym kind) typed);
    }

put_for_variable : (S : Symbols) (s : Tm) (old new : List (Option Met)) → IsEmpty old → IsFrom s old new → (p : Put) → IsOfTable S new p → IsPutFor s p
put_for_variable S s old new empty from p (m, at, typed, kind, value) =
    subst (λ a. Lacks p.number a s → ⊥) (sym kind) (holds_seen p.number (ty m.kind.now) s (from_start s old new p.number m empty from at))

pub puts_meet : (S : Symbols) (s w : Tm) (old new : List (Option Met)) (puts : List Put) → IsReady S s → IsEmpty old → IsMeeting s w old new → IsFrom s old new → ArePutsOf S new puts → AreInstance S s w puts
puts_meet S s w old new puts r empty meeting from are =
    let over = All-weaker (IsOfTable S new) (IsPutOver S) (put_over S s old new r empty from) puts are.of_table in record {
      typed = over;
      increasing = are.increasing;
      for_variables = All-weaker (IsOfTable S new) (IsPutFor s) (put_for_variable S s old new empty from) puts are.of_table;
      same = ((meeting (by_number r.kinds puts)).0 agrees).1 ∙ sym (fill r.kinds (put_for puts) s r.has_kinds (typed_term s r.typed.1) (put_shut S puts over));
    }
  where
    agrees : Agrees new (by_number r.kinds puts)
    agrees x m at = ap (put_for puts x) (sym (holds_kind r.kinds x (ty m.kind.now) s r.has_kinds (from_start s old new x m empty from at))) ∙ are.each x m at
