-- The states of the reader of NO certificates that the values of its code stand for.
use Rattle.std.specs.Prelude.{ℕ, [], drop, Option, Some, None}
use Rattle.wh_text.specs.Erase.{rty, rtm}
use Rattle.wh_text.specs.declared.raw.RawType.{RawType}
use Rattle.wh_cert_parts.specs.TypeViews.{type_stack, type_place}
use Rattle.wh_cert_parts.specs.TermViews.{term_stack, term_place}
use Rattle.wh_cert.specs.Said.{said_put}
use Rattle.wh_cert_machines.specs.LineMachine as m
use Rattle.wh_cert_machines.specs.declared.line_reader.Behind.{Behind}
use Rattle.wh_cert_machines.specs.declared.line_reader.Behind.TheVariants as behind
use Rattle.wh_cert_machines.specs.declared.line_reader.LinePlace.{LinePlace}
use Rattle.wh_cert_machines.specs.declared.line_reader.LinePlace.TheVariants.{Word, Term, Line, Rule, RuleNumber, StepPath, AtPath, LaterLine, PutVariable, PutNumber, PutType, PutTerm, Finished}
use Rattle.wh_cert_machines.specs.declared.line_reader.NoLine.{NoLine}
use Rattle.wh_cert_machines.specs.declared.line_reader.Item.{Item}
use Rattle.wh_cert_machines.specs.declared.line_reader.Item.TheVariants as item
use Rattle.wh_cert_machines.specs.declared.line_reader.LineStep.{LineStep}
use Rattle.wh_cert_machines.specs.declared.line_reader.LineStep.TheVariants.{On, Gives, Wrong}

abbrev pub behind_of : Behind → m.Behind
behind_of behind.Term = m.to_term
behind_of behind.Rule = m.to_rule
behind_of (behind.Path rule) = m.to_path rule
behind_of behind.At = m.to_at
behind_of behind.Put = m.to_put
behind_of behind.Finish = m.to_finish

-- no byte is right here
abbrev pub nowhere : m.LinePlace
nowhere = m.word [] m.to_finish

-- in the term that is put for a variable, whose type was read
abbrev pub putting : ℕ → Option RawType → NoLine → m.LinePlace
putting n None l = nowhere
putting n (Some a) l = m.put_term n (rty a) (term_stack l.frames.items) (term_place l.part)

-- past the end of a word no byte is right
abbrev pub place_of : LinePlace → NoLine → m.LinePlace
place_of (Word o i) l = m.word (drop i (m.spelling (behind_of o))) (behind_of o)
place_of Term l = m.in_term (term_stack l.frames.items) (term_place l.part)
place_of Line l = m.line
place_of Rule l = m.rule_wanted
place_of (RuleNumber n) l = m.rule_number n
place_of (StepPath rule) l = m.step_path rule l.path
place_of AtPath l = m.at_path l.path
place_of LaterLine l = m.later_line
place_of PutVariable l = m.put_percent
place_of (PutNumber n) l = m.put_number n
place_of (PutType n) l = m.put_type n (type_stack l.types.items) (type_place l.type_part)
place_of (PutTerm n) l = putting n l.kind l
place_of Finished l = m.finished

abbrev pub line_place : NoLine → m.LinePlace
line_place l = place_of l.place l

abbrev pub item_of : Item → m.Item
item_of (item.Term t) = m.head_item (rtm t.value)
item_of (item.Step s) = m.step_item s
item_of (item.At at) = m.at_item at
item_of (item.Put p) = m.put_item (said_put p.value)
item_of item.End = m.end_item

-- a step that left the line so
abbrev pub line_went : LineStep → NoLine → m.LineStep
line_went On l = m.on (line_place l)
line_went (Gives i) l = m.gives (item_of i) (line_place l)
line_went Wrong l = m.refused

-- on to a place, or nowhere
abbrev pub went_to : Option LinePlace → NoLine → m.LineStep
went_to (Some p) l = m.on (place_of p l)
went_to None l = m.refused
