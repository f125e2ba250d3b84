-- What the values of the reader of the lines of a node of a path order stand for.
use Rattle.std.specs.Prelude.{map}
use Rattle.wh_order_inference.specs.Said.{inference}
use Rattle.wh_order_inference.specs.declared.inference.Inference.{Inference}
use Rattle.wh_order_text.specs.FilterViews.{filter_place}
use Rattle.wh_order_text.specs.InferenceViews.{inference_stack, inference_place}
use Rattle.wh_cert.specs.Said.{said_filter}
use Rattle.wh_cert.specs.declared.order_node.NamedFilter.{NamedFilter}
use Rattle.wh_cert_lines.specs.Sections as s
use Rattle.wh_cert_lines.specs.SectionsViews.{lines_up_to}
use Rattle.wh_cert_lines.specs.OrderLines as m
use Rattle.wh_cert_lines.specs.declared.sections.Section.{Section}
use Rattle.wh_cert_lines.specs.declared.order_lines.OrderPlace.{OrderPlace}
use Rattle.wh_cert_lines.specs.declared.order_lines.OrderPlace.TheVariants as place
use Rattle.wh_cert_lines.specs.declared.order_lines.OrderLines.{OrderLines}
use Rattle.wh_cert_lines.specs.declared.sections.LinesStep.{LinesStep}
use Rattle.wh_cert_lines.specs.declared.sections.LinesStep.TheVariants as step

-- the lines with names, filters and inferences without pointers
abbrev pub said_lines : s.Lines NamedFilter Inference → m.Lines
said_lines x = s.map_lines (map said_filter) (map inference) x

-- the lines up to those of a kind
abbrev pub section_of : Section → OrderLines → m.Lines
section_of section l = said_lines (lines_up_to section l.lists)

abbrev pub lines_of : OrderLines → m.Lines
lines_of l = section_of l.lists.section l

abbrev pub place_of : OrderPlace → OrderLines → m.LinesPlace
place_of place.Front l = m.lines_front
place_of place.NameWanted l = m.name_wanted
place_of place.Name l = m.name l.name
place_of place.Filter l = m.in_filter l.name (filter_place l.filter)
place_of place.SpaceWanted l = m.space_wanted
place_of place.Inference l = m.in_inference (inference_stack l.inference.stack.items) (inference_place l.inference)

abbrev pub lines_place : OrderLines → m.LinesPlace
lines_place l = place_of l.place l

-- a step that left the lines so
abbrev pub lines_went : LinesStep → OrderLines → m.LinesStep
lines_went step.On l = m.on (lines_of l) (lines_place l)
lines_went step.Begins l = m.begins (lines_of l)
lines_went step.Drops l = m.drops (lines_of l)
lines_went step.Wrong l = m.refused
