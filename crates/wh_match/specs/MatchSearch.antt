-- The search for a match: a part of the pattern below binders that were passed, and the meta-substitution found so far.
use Rattle.std.specs.Prelude.{ℕ, ◌+◌, ◌^◌, ◌<◌, ◌≡◌, ◌⊎◌, Bool, true, false, List, All, AllPairs}
use Rattle.wh_terms.specs.Tree.{Tm, bound, free, fun, meta, lam, app, Tms, none, more}
use Rattle.wh_terms.specs.Measures.{nesting, BoundNumbersBelow}
use Rattle.wh_terms.specs.Sight.{Occurs}
use Rattle.wh_terms.specs.Value.{Body, parameters}
use Rattle.wh_terms.specs.Entries.{bodies, Lists, Covers}
use Rattle.wh_terms.specs.Under.{ups, moved}
use Rattle.wh_terms.specs.Valued.{valued, HasArities}
use Rattle.wh_match.specs.Matching.{AreForOthers, IsInRange}
use Rattle.wh_terms.specs.declared.subst.MetaBody.{MetaBody}

-- the body b as it stands where its meta-variable is applied to `args` below k binders, seen from below d binders of b
-- itself (ours)
abbrev mutual
  pub placed : Tms → ℕ → ℕ → Tm → Tm
  placed args k d (bound i) = ups d (parameters args (moved k)) i
  placed args k d (free x a) = free x a
  placed args k d (fun f) = fun f
  placed args k d (meta z ts) = meta z (all_placed args k d ts)
  placed args k d (lam a t) = lam a (placed args k (d + 1) t)
  placed args k d (app t u) = app (placed args k d t) (placed args k d u)

  pub all_placed : Tms → ℕ → ℕ → Tms → Tms
  all_placed args k d none = none
  all_placed args k d (more t ts) = more (placed args k d t) (all_placed args k d ts)

-- g makes the pattern p the term t below k binders
abbrev pub HasValue : ℕ → (ℕ → Body) → Tm → Tm → Type 0
HasValue k g p t = HasArities g p × (t ≡ valued k g p)

-- g gives what the list lists
abbrev pub Agrees : List MetaBody → (ℕ → Body) → Type 0
Agrees s g = (z : ℕ) → Lists s z → g z ≡ bodies s z

-- `new` goes on from `old`, makes p the term t, and is the least that does
pub record IsLeastMatch (k : ℕ) (p t : Tm) (old new : List MetaBody) : Type 0 where
  pub value : t ≡ valued k (bodies new) p
  pub covers : Covers new p
  pub kept : Agrees old (bodies new)
  pub grown : (z : ℕ) → Lists old z → Lists new z
  pub added : (z : ℕ) → Lists new z → Lists old z ⊎ Occurs z p
  pub once : AllPairs AreForOthers old → AllPairs AreForOthers new
  pub in_range : All IsInRange old → k + nesting t < 2 ^ 30 → BoundNumbersBelow (2 ^ 30) t → All IsInRange new
  pub least : (g : ℕ → Body) → Agrees old g → HasValue k g p t → Agrees new g

-- what the answer to a search for a match says
abbrev pub Answers : ℕ → Tm → Tm → List MetaBody → List MetaBody → Bool → Type 0
Answers k p t old new true = IsLeastMatch k p t old new
Answers k p t old new false = (g : ℕ → Body) → Agrees old g → HasValue k g p t → ⊥
