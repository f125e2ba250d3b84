-- A valid claim's term has reductions of every length.
use Rattle.std.proofs.Common.{◌≡◌, ℕ, ◌<◌, List, [], ◌∷◌, length, Some, Bool, true, false, sym, subst}
use Rattle.std.specs.Prelude.{if◌then◌else◌, ◌==◌, ◌&&◌, All}
use Rattle.std.proofs.lemmas.List.Elements.{All-head, All-tail}
use Rattle.wh_types.specs.Ty.{Ty, same_ty}
use Rattle.wh_terms.specs.Tree.{Tm, bound, free}
use Rattle.wh_terms.specs.Substitution.{act}
use Rattle.wh_terms.specs.Sight.{IsTerm, LooseBelow}
use Rattle.wh_terms.specs.Places.{opened_part_at}
use Rattle.wh_terms.specs.Typing.{Symbols}
use Rattle.wh_terms.specs.Rules.{RewriteRule, AreWellMade}
use Rattle.wh_terms.specs.StepOver.{AreFreeTerms}
use Rattle.wh_terms.proofs.ActLaws.{act-id}
use Rattle.wh_terms.proofs.TypingLaws.{typed_loose, typed_term}
use Rattle.wh_step.specs.Reduction.{Reduction, Unbounded, last_of}
use Rattle.wh_step.proofs.Instances.{instances_kept}
use Rattle.wh_step.proofs.Places.{replay-reduction}
use Rattle.wh_step.proofs.RawStep.{RawStep}
use Rattle.wh_no.specs.Claim.{Put, Claim, put_for}
use Rattle.wh_no.specs.Unused.{first_unused}
use Rattle.wh_no.specs.Valid.{IsPutOver, IsValid}
use Rattle.wh_no.proofs.UnusedNumbers.{unused-above}
use Rattle.wh_no.proofs.Loops.{Walks, always, walk-reduction, reduction-walk, walk-above}

term_if : (c : Bool) (t u : Tm) → IsTerm t → IsTerm u → IsTerm (if c then t else u)
term_if true t u p q = p
term_if false t u p q = q

pub put_terms : (S : Symbols) (puts : List Put) → All (IsPutOver S) puts → AreFreeTerms (put_for puts)
put_terms S [] h x a = tt
put_terms S (p ∷ puts) h x a =
    term_if ((p.number == x) && same_ty p.kind a) p.value (put_for puts x a) (typed_term p.value (All-head (IsPutOver S) p puts h).typed) (put_terms S puts (All-tail (IsPutOver S) p puts h) x a)

raw_endless : (rules : List RewriteRule) (t : Tm) → LooseBelow 0 t → IsTerm t → (S : Symbols) → AreWellMade S rules → (l : List Tm) → Reduction rules t l → 0 < length l
    → (path : List ℕ) (φ : ℕ → Ty → Tm) → AreFreeTerms φ → opened_part_at (first_unused t) path (last_of t l) ≡ Some (act bound φ t) → (n : ℕ) → Walks (RawStep rules) n t
raw_endless rules t shut term S w l r some path φ terms e n =
    let k = reduction-walk S w t l r in
    subst (Walks (RawStep rules) n) (act-id t)
    (always (instances_kept S rules w) t l k some path (first_unused t) φ terms (walk-above S w (first_unused t) t l k (unused-above t)) e n bound free (λ i. tt) (λ x a. tt))

pub valid-unbounded : (S : Symbols) (rules : List RewriteRule) (c : Claim) → AreWellMade S rules → IsValid S rules c → Unbounded rules c.term
valid-unbounded S rules c w v n =
    let shut = typed_loose v.typed.1 in
    let term = typed_term c.term v.typed.1 in
    let (l, r, counted, ends) = replay-reduction c.steps c.term v.last v.replays in
    let (m, k, e) = raw_endless rules c.term shut term S w l r (subst (λ i. 0 < i) (sym counted) v.some_step) c.at (put_for c.puts) (put_terms S c.puts v.puts)
    (subst (λ u. opened_part_at (first_unused c.term) c.at u ≡ Some (act bound (put_for c.puts) c.term)) (sym ends) v.instance) n in
    (m, walk-reduction S w c.term m shut term k, e)
