-- Instances of rules: the root of a step, by the value as a function, and with bodies that need not be whole.
use Rattle.std.proofs.Common.{◌≡◌, ℕ, ◌+◌, List, [], Contains, ap, sym, ◌∙◌, subst, subst₂, arith}
use Rattle.wh_types.specs.Ty.{Ty}
use Rattle.wh_terms.specs.Tree.{Tm}
use Rattle.wh_terms.specs.Substitution.{act}
use Rattle.wh_terms.specs.Sight.{IsTerm, LooseBelow}
use Rattle.wh_terms.specs.Pattern.{IsPatternSpine}
use Rattle.wh_terms.specs.Typing.{Symbols, Typed}
use Rattle.wh_terms.specs.Rules.{RewriteRule, IsWellMade, AreWellMade}
use Rattle.wh_terms.specs.Value.{Body}
use Rattle.wh_terms.proofs.SightLaws.{act_closed}
use Rattle.wh_terms.proofs.LooseLaws.{loose-more}
use Rattle.wh_terms.proofs.TypingLaws.{typed_loose, typed_anywhere}
use Rattle.wh_terms.proofs.ValueForm.{acted, value, FitsBodies, act-value}
use Rattle.wh_terms.proofs.ValueSight.{loose-value, term-value, pattern_loose, pattern_term}
use Rattle.wh_terms.proofs.ValueTyping.{typed-value, spine_bodies, headed_spine}
use Rattle.wh_terms.proofs.StepOver.{IsKept, KeepsTypes, KeepsLoose, KeepsTerms}
use Rattle.wh_step.specs.Step.{AreWhole}

-- t and u are the values of the two sides of a rule
pub data Instance (rules : List RewriteRule) : Tm → Tm → Type 0 where
  instance_of : {t u : Tm} (r : RewriteRule) (g : ℕ → Body) → Contains rules r → FitsBodies g r.left → FitsBodies g r.right → t ≡ value g r.left → u ≡ value g r.right → Instance rules t u

-- the sides of a well-made rule have no loose variable
pub left_shut : (S : Symbols) (r : RewriteRule) → IsWellMade S r → LooseBelow 0 r.left
left_shut S r w = typed_loose w.typed.1

pub right_shut : (S : Symbols) (r : RewriteRule) → IsWellMade S r → LooseBelow 0 r.right
right_shut S r w = typed_loose w.typed.2

pub act_left : (S : Symbols) (r : RewriteRule) → IsWellMade S r → (σ : ℕ → Tm) (φ : ℕ → Ty → Tm) → act σ φ r.left ≡ r.left
act_left S r w σ φ = act_closed σ φ r.left w.left_closed (left_shut S r w)

pub act_right : (S : Symbols) (r : RewriteRule) → IsWellMade S r → (σ : ℕ → Tm) (φ : ℕ → Ty → Tm) → act σ φ r.right ≡ r.right
act_right S r w σ φ = act_closed σ φ r.right w.right_closed (right_shut S r w)

pub spine_left : (S : Symbols) (r : RewriteRule) → IsWellMade S r → IsPatternSpine 0 r.left
spine_left S r w = headed_spine 0 w.headed.0 r.left w.pattern_left w.headed.1

-- substitution keeps instances
pub instances_kept : (S : Symbols) (rules : List RewriteRule) → AreWellMade S rules → IsKept (Instance rules)
instances_kept S rules well σ φ t u p q (instance_of r g c f h e d) =
    let w = well.each r c in
    instance_of r (acted σ φ g) c f h (ap (act σ φ) e ∙ act-value σ φ g r.left p q f ∙ ap (value (acted σ φ g)) (act_left S r w σ φ))
    (ap (act σ φ) d ∙ act-value σ φ g r.right p q h ∙ ap (value (acted σ φ g)) (act_right S r w σ φ))

-- instances keep types
pub instances_typed : (S : Symbols) (rules : List RewriteRule) → AreWellMade S rules → KeepsTypes S (Instance rules)
instances_typed S rules well Γ t u a (instance_of r g c f h e d) p =
    let w = well.each r c in
    let left : Typed S [] Γ (value g r.left) a = subst (λ v. Typed S [] Γ v a) e p in
    let (same, bodies) = spine_bodies 0 g r.left (spine_left S r w) f (typed_anywhere Γ w.typed.1) left in
    let right : Typed S [] Γ (value g r.right) w.typed.0 = typed-value g (typed_anywhere Γ w.typed.2) (λ z b o s. bodies z b (w.known z o) s) in
    subst₂ (λ v b. Typed S [] Γ v b) (sym d) same right

-- instances bring no loose variable and no meta-variable
pub instances_loose : (S : Symbols) (rules : List RewriteRule) → AreWellMade S rules → KeepsLoose (Instance rules)
instances_loose S rules well k t u (instance_of r g c f h e d) l =
    let w = well.each r c in
    let bodies = pattern_loose 0 k g r.left w.pattern_left f (subst (LooseBelow k) e l) in
    subst (LooseBelow k) (sym d) (loose-value k g r.right h (loose-more 0 k r.right (omega arith) (right_shut S r w)) (λ z o. bodies z (w.known z o)))

pub instances_terms : (S : Symbols) (rules : List RewriteRule) → AreWellMade S rules → KeepsTerms (Instance rules)
instances_terms S rules well t u (instance_of r g c f h e d) p =
    let w = well.each r c in
    let bodies = pattern_term 0 g r.left w.pattern_left (subst IsTerm e p) in
    subst IsTerm (sym d) (term-value g r.right (λ z o. bodies z (w.known z o)))

-- where a well-made rule's left side has a term without loose variables as value, the bodies are whole
pub whole_bodies : (S : Symbols) (r : RewriteRule) (g : ℕ → Body) → IsWellMade S r → FitsBodies g r.left → LooseBelow 0 (value g r.left) → IsTerm (value g r.left) → AreWhole g r
whole_bodies S r g w f l p z o = record {
  shut = loose-more ((g z).arity + 0) (g z).arity (g z).tree (omega arith) (pattern_loose 0 0 g r.left w.pattern_left f l z o);
  term = pattern_term 0 g r.left w.pattern_left p z o;
}
