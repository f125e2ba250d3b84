-- Clashes, case by case.
use Rattle.std.proofs.Common.{◌≡◌, ◌↔◌, IsTrue, Bool, true, false, List, ◌⊎◌, inl, inr, Option, Some, None, IsSome, refl, ap, sym, ◌∙◌, subst}
use Rattle.wh_types.specs.Ty.{Ty}
use Rattle.wh_terms.specs.Tree.{Tm, lam, app}
use Rattle.wh_terms.specs.Rules.{RewriteRule}
use Rattle.wh_graph.specs.Rigid.{root, Rigid, SameRoot}
use Rattle.wh_graph.specs.Clash.{body, last, front, Clash, roots, parts, PartsClash}

some_is : {A : Type 0} (o : Option A) → IsSome o → (x : A) × (o ≡ Some x)
some_is (Some x) is = (x, refl)
some_is None is = cc

pub clash_roots : (rules : List RewriteRule) (q p : Tm) → Rigid rules q → IsSome (root p) → (SameRoot q p → ⊥) → Clash rules q p
clash_roots rules q p rigid rooted other =
    let found = some_is (root p) rooted in
    roots rigid rigid.1 found.1 (λ e. other (rigid.0, rigid.1, found.1 ∙ ap Some (sym e)))

pub clash_parts : (rules : List RewriteRule) (q p : Tm) → Rigid rules q → SameRoot q p → PartsClash rules q p → Clash rules q p
clash_parts rules q p rigid (r, d, e) (x, y, match, clash) = parts rigid d e match clash

-- what a clash says, where the roots are one
pub clash_same : (rules : List RewriteRule) (q p : Tm) → Clash rules q p → SameRoot q p → PartsClash rules q p
clash_same rules q p (roots {r = r} {s = s} rigid d e other) (t, d', e') = absurd (other (cc (d, e, d', e')))
clash_same rules q p (parts {x = x} {y = y} rigid d e match clash) same = (x, y, match, clash)

pub clash_rigid : (rules : List RewriteRule) (q p : Tm) → Clash rules q p → Rigid rules q × IsSome (root p)
clash_rigid rules q p (roots rigid d e other) = (rigid, subst IsSome (sym e) refl)
clash_rigid rules q p (parts rigid d e match clash) = (rigid, subst IsSome (sym e) refl)

-- matching parts of two abstractions, and of two applications

pub parts_body : (rules : List RewriteRule) (a b : Ty) (t u : Tm) → Clash rules t u → PartsClash rules (lam a t) (lam b u)
parts_body rules a b t u clash = (t, u, body, clash)

pub body_parts : (rules : List RewriteRule) (a b : Ty) (t u : Tm) → PartsClash rules (lam a t) (lam b u) → Clash rules t u
body_parts rules a b t u (x, y, body, clash) = clash

pub parts_last : (rules : List RewriteRule) (t t' u u' : Tm) → Clash rules u u' → PartsClash rules (app t u) (app t' u')
parts_last rules t t' u u' clash = (u, u', last, clash)

pub parts_front : (rules : List RewriteRule) (t t' u u' : Tm) → PartsClash rules t t' → PartsClash rules (app t u) (app t' u')
parts_front rules t t' u u' (x, y, match, clash) = (x, y, front match, clash)

pub spine_parts : (rules : List RewriteRule) (t t' u u' : Tm) → PartsClash rules (app t u) (app t' u') → PartsClash rules t t' ⊎ Clash rules u u'
spine_parts rules t t' u u' (x, y, last, clash) = inr clash
spine_parts rules t t' u u' (x, y, front match, clash) = inl (x, y, match, clash)

-- the tests of the walk

pub bodies_decide : (rules : List RewriteRule) (q p t u : Tm) (a b : Ty) (r : Bool) → q ≡ lam a t → p ≡ lam b u → (IsTrue r ↔ Clash rules t u) → IsTrue r ↔ PartsClash rules q p
bodies_decide rules q p t u a b r d e here = (
  λ is. subst (λ v. PartsClash rules v p) (sym d) (subst (PartsClash rules (lam a t)) (sym e) (parts_body rules a b t u (here.0 is))),
  λ clash. here.1 (body_parts rules a b t u (subst (PartsClash rules (lam a t)) e (subst (λ v. PartsClash rules v p) d clash))),
)

pub front_decides : (rules : List RewriteRule) (q p t t' u u' : Tm) (r : Bool) → q ≡ app t u → p ≡ app t' u' → r ≡ true → (IsTrue r ↔ PartsClash rules t t') → IsTrue r ↔ PartsClash rules q p
front_decides rules q p t t' u u' r d e is before = (
  λ _. subst (λ v. PartsClash rules v p) (sym d) (subst (PartsClash rules (app t u)) (sym e) (parts_front rules t t' u u' (before.0 is))),
  λ _. is,
)

pub last_decides : (rules : List RewriteRule) (q p t t' u u' : Tm) (r s : Bool) → q ≡ app t u → p ≡ app t' u' → r ≡ false → (IsTrue r ↔ PartsClash rules t t') → (IsTrue s ↔ Clash rules u u') → IsTrue s ↔ PartsClash rules q p
last_decides rules q p t t' u u' r s d e without before here = (
  λ is. subst (λ v. PartsClash rules v p) (sym d) (subst (PartsClash rules (app t u)) (sym e) (parts_last rules t t' u u' (here.0 is))),
  λ clash. elim (spine_parts rules t t' u u' (subst (PartsClash rules (app t u)) e (subst (λ v. PartsClash rules v p) d clash))) [
    | inl found ↦ cc (without, before.1 found)
    | inr found ↦ here.1 found
  ],
)
