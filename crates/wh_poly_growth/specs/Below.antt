-- Readings that are below others: each polynomial is at most its partner, whatever the variables are.
use Rattle.std.specs.Prelude.{ℕ, ◌≤◌, ◌≡◌, List, Some, map, slice_get}
use Rattle.wh_types.specs.Ty.{Ty, arguments}
use Rattle.wh_terms.specs.Typing.{Symbols}
use Rattle.wh_terms.specs.Rules.{RewriteRule}
use Rattle.wh_poly.specs.Polynomials.{Polynomial}
use Rattle.wh_hopoly.specs.Evaluation.{Interpretation}
use Rattle.wh_polycheck.specs.Marks.{Mark, marked_types}
use Rattle.wh_polycheck.specs.Readings.{ReadingsData}
use Rattle.wh_poly_meaning.specs.Valuations.{Valuation}
use Rattle.wh_poly_meaning.specs.Meaning.{den}

-- the first polynomial of the scope is at most the second, whatever the variables are (ours)
abbrev pub IsBelow : List Ty → Polynomial → Polynomial → Type 0
IsBelow Γ p q = (ψ : Valuation) → den Γ ψ p ≤ den Γ ψ q

-- the interpretations are of the same types, each at most the other of its symbol (ours)
pub record AreSymbolsBelow (low high : List Interpretation) : Type 0 where
  pub kinds : map (λ s. s.kind) low ≡ map (λ s. s.kind) high
  pub each : (f : ℕ) (s t : Interpretation) → slice_get low f ≡ Some s → slice_get high f ≡ Some t
      → IsBelow (arguments s.kind) s.polynomial t.polynomial

-- the marks are of the same symbols, each at most the other of its symbol (ours)
pub record AreMarksBelow (S : Symbols) (rules : List RewriteRule) (low high : List Mark) : Type 0 where
  pub symbols : map (λ m. m.symbol) low ≡ map (λ m. m.symbol) high
  pub each : (i : ℕ) (m n : Mark) → slice_get low i ≡ Some m → slice_get high i ≡ Some n
      → IsBelow (marked_types S rules m.symbol) m.polynomial n.polynomial

-- each reading of the first is at most the one of the second (ours)
pub record AreBelow (S : Symbols) (rules : List RewriteRule) (low high : ReadingsData) : Type 0 where
  pub of_symbols : AreSymbolsBelow low.symbols high.symbols
  pub of_marks : AreMarksBelow S rules low.marks high.marks
