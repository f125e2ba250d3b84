-- Interpretations of marked symbols. In one list they stand behind those of the symbols, in the order in which they are
-- given.
use Rattle.std.specs.Prelude.{ℕ, suc, ◌+◌, ◌==◌, ◌≡◌, List, [], ◌∷◌, ◌++◌, length, map, take, unwrap_or, if◌then◌else◌, Bool, true, false, Contains}
use Rattle.wh_types.specs.Ty.{Ty, sort, arguments}
use Rattle.wh_terms.specs.Tree.{Tms, tms_of}
use Rattle.wh_terms.specs.Sight.{AllNoFree}
use Rattle.wh_terms.specs.Typing.{Symbols, AllTyped}
use Rattle.wh_terms.specs.Rules.{RewriteRule}
use Rattle.wh_system.specs.Needs.{need_of}
use Rattle.wh_pairs.specs.PairData.{PairData}
use Rattle.wh_poly.specs.Polynomials.{Polynomial, Normal}
use Rattle.wh_hopoly.specs.Evaluation.{type_at, Interpretation, Norm, Values}
use Rattle.wh_polycheck.specs.Sides.{arrows, types_of_metas, marked_expression}

-- what a marked symbol is read as: the number of the symbol, and a polynomial in the arguments of the marked one (Fuhs
-- and Kop 2012)
pub record Mark : Type 0 where
  pub symbol : ℕ
  pub polynomial : Polynomial

-- the types of the arguments of the marked symbol of f: the first ones of its type, as many as the rules of f need
-- (ours)
abbrev pub marked_types : Symbols → List RewriteRule → ℕ → List Ty
marked_types S rules f = take (unwrap_or (need_of rules f) 0) (arguments (type_at S.funs f))

-- with its arguments it is a number: its type leads to a sort, and any sort will do (ours)
abbrev pub marked_kind : Symbols → List RewriteRule → ℕ → Ty
marked_kind S rules f = arrows (marked_types S rules f) (sort 0)

abbrev pub marked_interpretation : Symbols → List RewriteRule → Mark → Interpretation
marked_interpretation S rules m = record { kind = marked_kind S rules m.symbol; polynomial = m.polynomial }

-- the interpretations of the symbols, and behind them those of the marked symbols (ours)
abbrev pub with_marks : Symbols → List RewriteRule → List Interpretation → List Mark → List Interpretation
with_marks S rules symbols marks = symbols ++ map (marked_interpretation S rules) marks

-- the place of the first mark of the symbol f, or the length of the list (ours)
abbrev pub place_of : List Mark → ℕ → ℕ
place_of [] f = 0
place_of (m ∷ marks) f = if m.symbol == f then 0 else suc (place_of marks f)

-- the number of the marked symbol of f among all interpretations (ours)
abbrev pub mark_number : List Interpretation → List Mark → ℕ → ℕ
mark_number symbols marks f = length symbols + place_of marks f

-- the symbol f has a mark
abbrev pub HasMark : List Mark → ℕ → Type 0
HasMark marks f = (m : Mark) × Contains marks m × (m.symbol ≡ f)

-- each mark has a polynomial that is normal in the scope of its arguments (Fuhs and Kop 2012)
abbrev pub AreNormalMarks : Symbols → List RewriteRule → List Mark → Type 0
AreNormalMarks S rules marks = (m : Mark) → Contains marks m → Normal (marked_types S rules m.symbol) m.polynomial

-- the marked symbols of a pair have marks, and their arguments are typed and closed (ours)
pub record HasMarkedSides (S : Symbols) (rules : List RewriteRule) (marks : List Mark) (p : PairData) : Type 0 where
  pub left_marked : HasMark marks p.left_fun
  pub right_marked : HasMark marks p.right_fun
  pub left_typed : AllTyped S p.metas [] (tms_of p.left) (marked_types S rules p.left_fun)
  pub right_typed : AllTyped S p.metas [] (tms_of p.right) (marked_types S rules p.right_fun)
  pub left_closed : AllNoFree (tms_of p.left)
  pub right_closed : AllNoFree (tms_of p.right)

-- a side of a pair: the symbol whose mark heads it, and its arguments
abbrev pub head_of_side : PairData → Bool → ℕ
head_of_side p false = p.left_fun
head_of_side p true = p.right_fun

abbrev pub arguments_of_side : PairData → Bool → Tms
arguments_of_side p false = tms_of p.left
arguments_of_side p true = tms_of p.right

-- p is the normal form of a side of the pair (Fuhs and Kop 2012), and w one of the values on the way to it (ours)
abbrev pub IsNormOfPairSide : Symbols → List RewriteRule → List Interpretation → List Mark → PairData → Bool → Polynomial → Type 0
IsNormOfPairSide S rules symbols marks a right p =
    Norm (with_marks S rules symbols marks) (types_of_metas a.metas)
    (marked_expression a.metas (mark_number symbols marks (head_of_side a right)) (arguments_of_side a right)) p

abbrev pub IsValueOfPairSide : Symbols → List RewriteRule → List Interpretation → List Mark → PairData → Bool → Polynomial → Type 0
IsValueOfPairSide S rules symbols marks a right w =
    Values (with_marks S rules symbols marks) (types_of_metas a.metas)
    (marked_expression a.metas (mark_number symbols marks (head_of_side a right)) (arguments_of_side a right)) w
