-- Rewrite rules, and what makes them well made: typed sides, a pattern on the left, no new meta-variable on the right.
use Rattle.std.specs.Prelude.{ℕ, ◌≡◌, List, [], Contains}
use Rattle.wh_types.specs.Ty.{Ty}
use Rattle.wh_terms.specs.Tree.{Tm, fun, head, argument_count}
use Rattle.wh_terms.specs.Typing.{Symbols, Declared, Typed}
use Rattle.wh_terms.specs.Sight.{NoFree, Occurs}
use Rattle.wh_terms.specs.Pattern.{IsPattern}
use Rattle.wh_terms.specs.Measures.{Fits}

-- a rewrite rule over its declared meta-variables (Fuhs and Kop 2019)
pub record RewriteRule : Type 0 where
  pub metas : List Declared
  pub left : Tm
  pub right : Tm

-- the sides are closed, of one type, and fit; the left one is a pattern headed by a symbol; each meta-variable of the
-- right one occurs in the left one. That the sides fit is asked here, so that what the calls on terms ask of their
-- arguments follows for rules.
pub record IsWellMade (S : Symbols) (r : RewriteRule) : Type 0 where
  pub typed : (a : Ty) × Typed S r.metas [] r.left a × Typed S r.metas [] r.right a
  pub left_fits : Fits r.left
  pub right_fits : Fits r.right
  pub left_closed : NoFree r.left
  pub right_closed : NoFree r.right
  pub pattern_left : IsPattern r.left
  pub headed : (f : ℕ) × (head r.left ≡ fun f)
  pub known : (z : ℕ) → Occurs z r.right → Occurs z r.left

-- all rules of one symbol have the same number of arguments on the left (ours)
abbrev pub IsEven : List RewriteRule → Type 0
IsEven rules = (r s : RewriteRule) → Contains rules r → Contains rules s → head r.left ≡ head s.left
    → argument_count r.left ≡ argument_count s.left

-- the rules of a system, as far as terms go
pub record AreWellMade (S : Symbols) (rules : List RewriteRule) : Type 0 where
  pub each : (r : RewriteRule) → Contains rules r → IsWellMade S r
  pub even : IsEven rules
