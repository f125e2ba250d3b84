-- Matching: `IsMatch` says that a meta-substitution makes a pattern a term, and that it is the only one. It is a
-- relation on trees, without types: types of binders are compared as parts of trees, and on well-typed terms typing
-- follows.
use Rattle.std.specs.Prelude.{ℕ, ◌≡◌, ◌≢◌, ◌↔◌, List, All, AllPairs}
use Rattle.wh_terms.specs.Tree.{Tm}
use Rattle.wh_terms.specs.Measures.{Manageable}
use Rattle.wh_terms.specs.Erase.{tm}
use Rattle.wh_terms.specs.Sight.{LooseBelow, IsTerm, Occurs}
use Rattle.wh_terms.specs.Value.{Body, Value, IsWhole}
use Rattle.wh_terms.specs.Entries.{bodies, Lists}
use Rattle.wh_terms.specs.declared.subst.MetaBody.{MetaBody}

-- two bodies are for different meta-variables
abbrev pub AreForOthers : MetaBody → MetaBody → Type 0
AreForOthers b c = b.meta ≢ c.meta

-- the body is in range for the calls that take it
abbrev pub IsInRange : MetaBody → Type 0
IsInRange b = Manageable (tm b.body)

-- the meta-substitution makes the pattern p the term t, it is the only one, and it lists just the meta-variables of the
-- pattern, each once; where t is a whole term each body is whole, and where t is in range each body is (Fuhs and Kop
-- 2019, matching)
pub record IsMatch (p t : Tm) (s : List MetaBody) : Type 0 where
  pub value : Value (bodies s) p t
  pub only : (g : ℕ → Body) → Value g p t → (z : ℕ) → Occurs z p → g z ≡ bodies s z
  pub listed : (z : ℕ) → Lists s z ↔ Occurs z p
  pub once : AllPairs AreForOthers s
  pub whole : LooseBelow 0 t → IsTerm t → (z : ℕ) → Occurs z p → IsWhole (bodies s z)
  pub in_range : Manageable t → All IsInRange s

-- no meta-substitution makes the pattern p the term t
abbrev pub HasNoMatch : Tm → Tm → Type 0
HasNoMatch p t = (g : ℕ → Body) → Value g p t → ⊥
