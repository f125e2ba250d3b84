-- Entries for a table, by increasing numbers.
use Rattle.std.proofs.Common.{◌≡◌, ◌≢◌, ℕ, zero, suc, ◌+◌, ◌<◌, ◌≤◌, List, [], ◌∷◌, ◌++◌, length, get_or, Option, Some, None, AllPairs, ap, sym, ◌∙◌, subst, arith, ⊎_elim}
use Rattle.std.specs.Prelude.{if◌then◌else◌, ◌==◌, ◌&&◌, All, slice_get}
use Rattle.std.proofs.lemmas.Bool.{cases_lt}
use Rattle.std.proofs.lemmas.List.Elements.{All-nil, All-head, All-tail, All-push, All-weaker, All-get_or}
use Rattle.std.proofs.lemmas.List.Quantifiers.{all_pairs_push}
use Rattle.wh_types.specs.Ty.{Ty, same_ty}
use Rattle.wh_types.specs.Erase.{ty}
use Rattle.wh_terms.specs.Tree.{free}
use Rattle.wh_terms.specs.Erase.{tm}
use Rattle.wh_terms.specs.Typing.{Symbols}
use Rattle.wh_terms.proofs.TypeTests.{variable-same, variable-other}
use Rattle.wh_terms.proofs.TypingLaws.{some_one}
use Rattle.wh_no.specs.Claim.{Put, put_for}
use Rattle.wh_no.specs.Valid.{IsBelow}
use Rattle.wh_loop_starts.specs.declared.meets.Met.{Met}
use Rattle.wh_terms.specs.declared.subst.SubstEntry.{SubstEntry}
use Rattle.wh_no.specs.Entry.{entry_put, entry_puts}
use Rattle.wh_loop_starts.specs.Meets.{IsAt, IsTypedMet, IsOfTable, ArePutsOf, HasUntyped, IsPushed, IsUntyped}

passed : (p : Put) (rest : List Put) (x : ℕ) (a : Ty) → p.number ≢ x → put_for (p ∷ rest) x a ≡ put_for rest x a
passed p rest x a other = ap (λ t. if t then p.value else put_for rest x a) (variable-other x a p.number p.kind (λ n k. other n))

put_for-front : (puts : List Put) (p : Put) (x : ℕ) (a : Ty) → p.number ≢ x → put_for (puts ++ p ∷ []) x a ≡ put_for puts x a
put_for-front [] p x a other = passed p [] x a other
put_for-front (q ∷ puts) p x a other = ap (λ v. if (q.number == x) && same_ty q.kind a then q.value else v) (put_for-front puts p x a other)

put_for-last : (puts : List Put) (p : Put) (x : ℕ) (a : Ty) → p.number ≡ x → p.kind ≡ a → All (λ q. q.number < x) puts → put_for (puts ++ p ∷ []) x a ≡ p.value
put_for-last [] p x a n k h = ap (λ t. if t then p.value else free x a) (variable-same x a p.number p.kind n k)
put_for-last (q ∷ puts) p x a n k h =
    let low : q.number < x = All-head (λ r. r.number < x) q puts h in
    passed q (puts ++ p ∷ []) x a (λ e. omega arith) ∙ put_for-last puts p x a n k (All-tail (λ r. r.number < x) q puts h)

-- the puts of what stands at the first i numbers of the table
pub record AreSoFar (S : Symbols) (table : List (Option Met)) (i : ℕ) (puts : List Put) : Type 0 where
  pub of_table : All (IsOfTable S table) puts
  pub low : All (λ p. p.number < i) puts
  pub increasing : AllPairs IsBelow puts
  pub each : (x : ℕ) (m : Met) → x < i → IsAt table x m → put_for puts x (ty m.kind.now) ≡ tm m.value.now

pub none_so_far : (S : Symbols) (table : List (Option Met)) → AreSoFar S table 0 []
none_so_far S table = record {
  of_table = All-nil (IsOfTable S table);
  low = All-nil (λ p. p.number < 0);
  increasing = λ i j d l k. absurd (omega arith);
  each = λ x m l at. absurd (omega arith);
}

weaker : (i : ℕ) (p : Put) → p.number < i → p.number < i + 1
weaker i p h = omega arith

pub skipped : (S : Symbols) (table : List (Option Met)) (i : ℕ) (puts : List Put) → slice_get table i ≡ Some None → AreSoFar S table i puts → AreSoFar S table (i + 1) puts
skipped S table i puts gone h = record {
  of_table = h.of_table;
  low = All-weaker (λ p. p.number < i) (λ p. p.number < i + 1) (weaker i) puts h.low;
  increasing = h.increasing;
  each = λ x m l at. ⊎_elim (λ b. h.each x m b at) (λ k. absurd (nothing x m l k at)) (cases_lt x i);
}
  where
    nothing : (x : ℕ) (m : Met) → x < i + 1 → i ≤ x → IsAt table x m → ⊥
    nothing x m l k at =
        let same : i ≡ x = omega arith in
        let e : None ≡ Some m = some_one (sym gone ∙ ap (slice_get table) same ∙ at) in absurd (cc)

pub pushed : (S : Symbols) (table : List (Option Met)) (i : ℕ) (puts : List Put) (m : Met) (p : Put) → IsAt table i m → IsTypedMet S m → p.number ≡ i → p.kind ≡ ty m.kind.now → p.value ≡ tm m.value.now
    → AreSoFar S table i puts → AreSoFar S table (i + 1) (puts ++ p ∷ [])
pushed S table i puts m p here typed n k v h = record {
  of_table = All-push (IsOfTable S table) puts p h.of_table (m, subst (λ j. IsAt table j m) (sym n) here, typed, k, v);
  low = All-push (λ q. q.number < i + 1) puts p (All-weaker (λ q. q.number < i) (λ q. q.number < i + 1) (weaker i) puts h.low) (omega arith);
  increasing = all_pairs_push IsBelow puts p h.increasing (λ j d l. let b : (get_or puts j d).number < i = All-get_or (λ q. q.number < i) puts j d l h.low in omega arith);
  each = λ x o l at. ⊎_elim (before x o at) (there x o l at) (cases_lt x i);
}
  where
    before : (x : ℕ) (o : Met) → IsAt table x o → x < i → put_for (puts ++ p ∷ []) x (ty o.kind.now) ≡ tm o.value.now
    before x o at l = put_for-front puts p x (ty o.kind.now) (λ e. omega arith) ∙ h.each x o l at

    there : (x : ℕ) (o : Met) → x < i + 1 → IsAt table x o → i ≤ x → put_for (puts ++ p ∷ []) x (ty o.kind.now) ≡ tm o.value.now
    there x o l at g =
        let same : i ≡ x = omega arith in
        let one : m ≡ o = some_one (some_one (sym here ∙ ap (slice_get table) same ∙ at)) in
        put_for-last puts p x (ty o.kind.now) (n ∙ same) (k ∙ ap (λ q. ty q.kind.now) one) (subst (λ j. All (λ q. q.number < j) puts) same h.low)
        ∙ v ∙ ap (λ q. tm q.value.now) one

pub all_put : (S : Symbols) (table : List (Option Met)) (i : ℕ) (puts : List Put) → ((x : ℕ) (m : Met) → IsAt table x m → x < i) → AreSoFar S table i puts → ArePutsOf S table puts
all_put S table i puts within h = record {
  of_table = h.of_table;
  increasing = h.increasing;
  each = λ x m at. h.each x m (within x m at) at;
}

pub next_so_far : (S : Symbols) (table : List (Option Met)) (i : ℕ) (puts new : List Put) (o : Option Met) → slice_get table i ≡ Some o → IsPushed S i o puts new → AreSoFar S table i puts → AreSoFar S table (i + 1) new
next_so_far S table i puts new None at same h = subst (AreSoFar S table (i + 1)) (sym same) (skipped S table i puts at h)
next_so_far S table i puts new (Some m) at (p, typed, n, k, v, is) h = subst (AreSoFar S table (i + 1)) (sym is) (pushed S table i puts m p at typed n k v h)

pub untyped_here : (S : Symbols) (table : List (Option Met)) (i : ℕ) (o : Option Met) → slice_get table i ≡ Some o → IsUntyped S o → HasUntyped S table
untyped_here S table i None at ill = absurd ill
untyped_here S table i (Some m) at ill = (i, m, at, ill)

pub entry_has : (P : Put → Type 0) (es : List SubstEntry) (i : ℕ) (e : SubstEntry) → All P (entry_puts es) → i < length es → e ≡ get_or es i e → P (entry_put e)
entry_has P [] i e h within is = absurd (omega arith)
entry_has P (d ∷ es) zero e h within is = subst (λ x. P (entry_put x)) (sym is) (All-head P (entry_put d) (entry_puts es) h)
entry_has P (d ∷ es) (suc i) e h within is = entry_has P es i e (All-tail P (entry_put d) (entry_puts es) h) (omega arith) is
