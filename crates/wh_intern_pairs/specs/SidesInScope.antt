-- Trees in a scope: the types of the meta-variables that they are over.
use Rattle.std.specs.Prelude.{ℕ, ◌≡◌, List, [], length}
use Rattle.wh_types.specs.Ty.{Ty}
use Rattle.wh_terms.specs.Tree.{Tm, tms_of}
use Rattle.wh_terms.specs.Sight.{NoFree, AllNoFree}
use Rattle.wh_terms.specs.Typing.{Symbols, Declared, Typed, AllTyped}
use Rattle.wh_terms.specs.Rules.{RewriteRule}
use Rattle.wh_pairs.specs.PairData.{PairData}
use Rattle.wh_hopoly.specs.Evaluation.{Expression, symbol}
use Rattle.wh_polycheck.specs.Sides.{types_of_metas, side_applied}
use Rattle.wh_polycheck.specs.Marks.{Mark, HasMarkedSides}
use Rattle.wh_intern.specs.declared.sides.Sides.{Sides}
use Rattle.wh_intern_pairs.specs.NumberedSides.{AreSidesOf}

-- the meta-variables have the types of the scope, each as a function of its arguments
abbrev pub AreInScope : List Declared → List Ty → Type 0
AreInScope M Γ = types_of_metas M ≡ Γ

-- the tree has a type over meta-variables with the types of the scope, and no loose and no free variable
pub record IsTypedIn (S : Symbols) (Γ : List Ty) (t : Tm) : Type 0 where
  pub metas : List Declared
  pub in_scope : AreInScope metas Γ
  pub kind : Ty
  pub typed : Typed S metas [] t kind
  pub closed : NoFree t

-- the trees are arguments of these types, over meta-variables with the types of the scope, and have no loose and no
-- free variable
pub record AreTypedIn (S : Symbols) (Γ : List Ty) (ts : List Tm) (kinds : List Ty) : Type 0 where
  pub metas : List Declared
  pub in_scope : AreInScope metas Γ
  pub typed : AllTyped S metas [] (tms_of ts) kinds
  pub closed : AllNoFree (tms_of ts)

-- a symbol applied to trees in the scope, as an expression
abbrev pub call_in : List Ty → ℕ → List Tm → Expression
call_in Γ k ts = side_applied (length Γ) (symbol k) (tms_of ts)

-- the entry is that of a pair with meta-variables of these types, whose heads have marks and whose arguments are typed
-- and closed
pub record AreMarkedSidesIn (S : Symbols) (rules : List RewriteRule) (marks : List Mark) (ts : List Tm) (Γ : List Ty) (s : Sides)
    : Type 0 where
  pub pair : PairData
  pub sides : AreSidesOf ts s pair
  pub in_scope : AreInScope pair.metas Γ
  pub marked : HasMarkedSides S rules marks pair
