-- What the values of the reader of lines in four sections stand for.
use Rattle.wh_cert_lines.specs.Sections as m
use Rattle.wh_cert_lines.specs.declared.sections.Section.{Section}
use Rattle.wh_cert_lines.specs.declared.sections.Section.TheVariants.{Funs, Marks, Rules, Pairs}
use Rattle.wh_cert_lines.specs.declared.sections.Sections.{Sections}
use Rattle.wh_cert_lines.specs.declared.sections.LineBegun.{LineBegun}
use Rattle.wh_cert_lines.specs.declared.sections.LineBegun.TheVariants.{Begins, Drops, Wrong}

-- the lines up to those of a kind
abbrev pub lines_up_to : {N L : Type 0} → Section → Sections N L → m.Lines N L
lines_up_to Funs l = m.in_funs l.funs
lines_up_to Marks l = m.in_marks l.funs l.marks
lines_up_to Rules l = m.in_rules l.funs l.marks l.rules
lines_up_to Pairs l = m.in_pairs l.funs l.marks l.rules l.pairs

abbrev pub lines_of : {N L : Type 0} → Sections N L → m.Lines N L
lines_of l = lines_up_to l.section l

-- a first byte that left the lines so
abbrev pub begun_went : {N L : Type 0} → LineBegun → Sections N L → m.LinesStep N L (Unit {0})
begun_went Begins l = m.begins (lines_of l)
begun_went Drops l = m.drops (lines_of l)
begun_went Wrong l = m.refused
