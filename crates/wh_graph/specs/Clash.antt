-- `Clash`: a meta-term can reduce to no instance of a pattern, since their roots, or those of two parts, differ and
-- can't change. Types of binders are not compared: matching parts of two sides have one type.
use Rattle.std.specs.Prelude.{◌≡◌, ◌≢◌, List, Some}
use Rattle.wh_types.specs.Ty.{Ty}
use Rattle.wh_terms.specs.Tree.{Tm, lam, app}
use Rattle.wh_terms.specs.Rules.{RewriteRule}
use Rattle.wh_graph.specs.Rigid.{Root, root, Rigid}

-- `Match q p x y`: x and y are parts of q and p at the same place, as bodies of two abstractions or as arguments of two
-- spines (counted from the right, which comes to the same where the spines have the same number of arguments)
pub data Match : (q p x y : Tm) → Type 0 where
  body : {a b : Ty} {t u : Tm} → Match (lam a t) (lam b u) t u
  last : {t t' u u' : Tm} → Match (app t u) (app t' u') u u'
  front : {t t' u u' x y : Tm} → Match t t' x y → Match (app t u) (app t' u') x y

-- `Clash rules q p`: q is rigid, p is no meta-application, and their roots differ, or two matching parts clash. Both
-- stand under the same binders, so that bound variables of one binder have one number (Fuhs and Kop 2019; the form is
-- ours).
pub data Clash (rules : List RewriteRule) : (q p : Tm) → Type 0 where
  roots : {q p : Tm} {r s : Root} → Rigid rules q → root q ≡ Some r → root p ≡ Some s → r ≢ s → Clash rules q p
  parts : {q p x y : Tm} {r : Root} → Rigid rules q → root q ≡ Some r → root p ≡ Some r → Match q p x y → Clash rules x y → Clash rules q p

-- two matching parts clash
abbrev pub PartsClash : List RewriteRule → Tm → Tm → Type 0
PartsClash rules q p = (x y : Tm) × Match q p x y × Clash rules x y
