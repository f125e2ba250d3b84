-- Mark by mark.
use Rattle.std.proofs.Common.{◌≡◌, ◌<◌, ℕ, zero, suc, List, [], ◌∷◌, length, map, get_or, ap, ◌∙◌, arith, Contains}
use Rattle.wh_polycheck.specs.Marks.{Mark}
use Rattle.wh_polycheck.proofs.ProperReadings.{mark_among}
use Rattle.wh_polycheck.proofs.laws.symbols_of_marks_have_marks.Goals as goal

abbrev symbols_of : List Mark → List ℕ
symbols_of = map (λ (m : Mark). m.symbol)

symbol_of : (marks : List Mark) (m : Mark) (f i : ℕ) → i < length marks → get_or marks i m ≡ m → m.symbol ≡ f → Contains (symbols_of marks) f
symbol_of [] m f i l e g = absurd (omega (arith, l))
symbol_of (n ∷ marks) m f zero l e g = (0, omega arith, ap (λ (m : Mark). m.symbol) e ∙ g)
symbol_of (n ∷ marks) m f (suc i) l e g = let (j, k, h) = symbol_of marks m f i (omega (arith, l)) e g in (suc j, omega (arith, k), h)

pub returns : goal.returns
returns c marks f = (λ there. mark_among marks f there, λ (m, (i, l, e), g). symbol_of marks m f i l e g)
