-- What the values of the reader of the lines of a node of interpretations stand for.
use Rattle.std.specs.Prelude.{List, map}
use Rattle.wh_hopoly.specs.declared.expression.Move as moved
use Rattle.wh_cert_parts.specs.PolyViews.{poly_stack, poly_place}
use Rattle.wh_cert.specs.Said.{said_interp}
use Rattle.wh_cert.specs.declared.poly_node.Interp.{Interp}
use Rattle.wh_cert_lines.specs.Sections as s
use Rattle.wh_cert_lines.specs.SectionsViews.{lines_up_to}
use Rattle.wh_cert_lines.specs.PolyLines as m
use Rattle.wh_cert_lines.specs.declared.sections.Section.{Section}
use Rattle.wh_cert_lines.specs.declared.sections.LinesStep.{LinesStep}
use Rattle.wh_cert_lines.specs.declared.sections.LinesStep.TheVariants as step
use Rattle.wh_cert_lines.specs.declared.poly_lines.LinesPlace.{LinesPlace}
use Rattle.wh_cert_lines.specs.declared.poly_lines.LinesPlace.TheVariants as place
use Rattle.wh_cert_lines.specs.declared.poly_lines.PolyLines.{PolyLines}

-- the lines with names and polynomials without pointers
abbrev pub said_lines : s.Lines Interp (List moved.Move) → m.Lines
said_lines x = s.map_lines (map said_interp) (λ (rs : List (List moved.Move)). rs) x

-- the lines up to those of a kind
abbrev pub section_of : Section → PolyLines → m.Lines
section_of section l = said_lines (lines_up_to section l.lists)

abbrev pub lines_of : PolyLines → m.Lines
lines_of l = section_of l.lists.section l

abbrev pub place_of : LinesPlace → PolyLines → m.LinesPlace
place_of place.Front l = m.lines_front
place_of place.NameWanted l = m.name_wanted
place_of place.Name l = m.name l.name
place_of place.Poly l = m.in_poly l.name (poly_stack l.poly.stack.items) (poly_place l.poly)
place_of place.Moves l = m.moves l.moves
place_of place.FromWanted l = m.from_wanted l.moves
place_of (place.From n) l = m.from l.moves n
place_of place.ToWanted l = m.to_wanted l.moves l.from
place_of (place.To n) l = m.to l.moves l.from n
place_of place.AmountWanted l = m.amount_wanted l.moves l.from l.to
place_of (place.Amount n) l = m.amount l.moves l.from l.to n

abbrev pub lines_place : PolyLines → m.LinesPlace
lines_place l = place_of l.place l

-- a step that left the lines so
abbrev pub lines_went : LinesStep → PolyLines → m.LinesStep
lines_went step.On l = m.on (lines_of l) (lines_place l)
lines_went step.Begins l = m.begins (lines_of l)
lines_went step.Drops l = m.drops (lines_of l)
lines_went step.Wrong l = m.refused
