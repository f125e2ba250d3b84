-- Rules and pairs with inferences for them: each line says that the filtered left side is at least the right one.
use Rattle.std.specs.Prelude.{ℕ, ◌≡◌, List, [], Contains, None, Some, slice_get}
use Rattle.std.specs.List.{AllByRecursion}
use Rattle.wh_types.specs.Ty.{Ty}
use Rattle.wh_terms.specs.Tree.{Tm, Tms, tms_of}
use Rattle.wh_terms.specs.Sight.{AllNoFree, OccursIn}
use Rattle.wh_terms.specs.Pattern.{IsPatternUnder}
use Rattle.wh_terms.specs.Typing.{Symbols, Declared, AllTyped}
use Rattle.wh_terms.specs.Rules.{RewriteRule, AreWellMade}
use Rattle.wh_terms.specs.Value.{Body}
use Rattle.wh_terms.specs.TypedBodies.{FitsDeclared}
use Rattle.wh_step_laws.specs.RootRelations.{KnowsSorts}
use Rattle.wh_order_inference.specs.Filters.{Filter}
use Rattle.wh_order_inference.specs.Inferences.{Inference}
use Rattle.wh_order_extended.specs.Kinds.{KnowsMetas, KnowsArguments}
use Rattle.wh_order_extended.specs.Long.{long}
use Rattle.wh_order_extended.specs.ExtendedSides.{extended_metas, extended_side, extended_call}
use Rattle.wh_order_extended.specs.Filtered.{sift, collapsed, Filters, HasOneSort}
use Rattle.wh_order_path.specs.Verdict.{line_verdict}

-- a side of a rule, extended and filtered (Kop 2012)
abbrev pub filtered_side : Symbols → (ℕ → Filter) → RewriteRule → Tm → Tm
filtered_side S Φ r t = sift Φ (extended_side S r t) []

-- a term, extended and filtered (Kop 2012)
abbrev pub filtered_term : Symbols → (ℕ → Filter) → Tm → Tm
filtered_term S Φ t = sift Φ (long S [] [] t) []

-- a side of a pair, or a call where M is empty: the marked symbol of f with arguments, extended and filtered (Kop 2012)
abbrev pub filtered_call : Symbols → (ℕ → Filter) → List Declared → ℕ → List Tm → Tm
filtered_call S Φ M f ts = sift Φ (extended_call S M f ts) []

-- the inference is good for the rule (ours)
abbrev pub IsGoodLine : Symbols → Symbols → (ℕ → Filter) → (ℕ → ℕ) → RewriteRule → Inference → Type 0
IsGoodLine S F Φ prec r i =
    line_verdict F prec (collapsed (extended_metas S r)) (filtered_side S Φ r r.left) (filtered_side S Φ r r.right) i ≡ None

-- each rule has a good inference, and declares meta-variables of known sorts (ours)
abbrev pub HaveGoodLines : Symbols → Symbols → (ℕ → Filter) → (ℕ → ℕ) → List RewriteRule → Type 0
HaveGoodLines S F Φ prec rules =
    (r : RewriteRule) → Contains rules r → KnowsMetas S r.metas × ((i : Inference) × IsGoodLine S F Φ prec r i)

-- the rules of a system are oriented by filters, precedences and inferences: the system is well made, F is the
-- signature of its filtered trees, and each rule has a good inference (Kop 2012)
pub record AreOriented (S F : Symbols) (Φ : ℕ → Filter) (prec : ℕ → ℕ) (rules : List RewriteRule) : Type 0 where
  pub well_made : AreWellMade S rules
  pub sorts_known : KnowsSorts S
  pub filters : Filters S F Φ
  pub one_sort : HasOneSort F
  pub lines : HaveGoodLines S F Φ prec rules

-- what is known of the arguments of a pair's sides: they have the types of the marked symbols' arguments and no free
-- variables, and those on the left are patterns (Kop 2012)
pub record PairSides (S : Symbols) (M : List Declared) (cs ds : List Ty) (ls rs : List Tm) : Type 0 where
  pub metas_known : KnowsMetas S M
  pub arguments_known : KnowsArguments S M
  pub left_typed : AllTyped S M [] (tms_of ls) cs
  pub right_typed : AllTyped S M [] (tms_of rs) ds
  pub left_closed : AllNoFree (tms_of ls)
  pub right_closed : AllNoFree (tms_of rs)
  pub left_patterns : AllByRecursion (IsPatternUnder 0) ls

-- the inference is good for the pair of the marked symbols of f and g with these arguments (ours)
abbrev pub IsGoodPairLine : Symbols → Symbols → (ℕ → Filter) → (ℕ → ℕ) → List Declared → ℕ → List Tm → ℕ → List Tm → Inference → Type 0
IsGoodPairLine S F Φ prec M f ls g rs i = line_verdict F prec (collapsed M) (filtered_call S Φ M f ls) (filtered_call S Φ M g rs) i ≡ None

-- the bodies of the meta-variables that occur in the trees are typed as these are declared (ours)
abbrev pub HasTypedBodies : Symbols → List Declared → (ℕ → Body) → Tms → Type 0
HasTypedBodies S M b ts = (z : ℕ) (d : Declared) → OccursIn z ts → slice_get M z ≡ Some d → FitsDeclared S [] [] d (b z)
