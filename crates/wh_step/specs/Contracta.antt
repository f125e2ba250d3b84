-- The parts of a step's result before it is built: which term they make, and what is known of them.
use Rattle.std.specs.Prelude.{ℕ, List, [], ◌∷◌, Option, Some, None, All}
use Rattle.wh_terms.specs.Tree.{Tm, Tms}
use Rattle.wh_terms.specs.Erase.{tm}
use Rattle.wh_terms.specs.Sight.{IsTerm, Occurs, OccursIn}
use Rattle.wh_terms.specs.Substitution.{opened}
use Rattle.wh_terms.specs.Entries.{bodies, Covers}
use Rattle.wh_terms.specs.Measures.{Manageable}
use Rattle.wh_match.specs.Matching.{IsInRange}
use Rattle.wh_terms.specs.Valued.{valued}
use Rattle.wh_terms.specs.declared.subst.MetaBody.{MetaBody}
use Rattle.wh_step.specs.declared.redex.Contractum.{Contractum}
use Rattle.wh_step.specs.declared.redex.Contractum.TheVariants.{Opened, Instance}

-- the result that is built from the parts
abbrev pub result_of : Contractum → Tm
result_of (Opened body argument) = opened (tm argument.now) (tm body.now)
result_of (Instance right found) = valued 0 (bodies found) (tm right.now)

-- a term that calls take
pub record IsPlain (t : Tm) : Type 0 where
  pub in_range : Manageable t
  pub term : IsTerm t

-- the bodies of the meta-variables in a tree are terms
abbrev pub TermsFor : List MetaBody → Tm → Type 0
TermsFor found t = (z : ℕ) → Occurs z t → IsTerm (bodies found z).tree

abbrev pub AllTermsFor : List MetaBody → Tms → Type 0
AllTermsFor found ts = (z : ℕ) → OccursIn z ts → IsTerm (bodies found z).tree

-- the meta-substitution lists the meta-variables of a right side, and their bodies are terms
pub record IsInstance (right : Tm) (found : List MetaBody) : Type 0 where
  pub in_range : Manageable right
  pub covered : Covers found right
  pub bodies_in_range : All IsInRange found
  pub terms : TermsFor found right

-- the parts are such that the result can be measured and built
abbrev pub IsReady : Contractum → Type 0
IsReady (Opened body argument) = IsPlain (tm body.now) × IsPlain (tm argument.now)
IsReady (Instance right found) = IsInstance (tm right.now) found

-- the result, if there is one
abbrev pub results_of : Option Contractum → List Tm
results_of None = []
results_of (Some c) = result_of c ∷ []

-- the parts are ready, where there are any
abbrev pub AreReady : Option Contractum → Type 0
AreReady None = Unit {0}
AreReady (Some c) = IsReady c
