-- What the reader of the lines of a node of interpretations keeps, as trees.
use Rattle.std.proofs.Common.{◌≡◌, ℕ, List, map, Option, refl, sym, ap, ◌∙◌}
use Rattle.std.proofs.lemmas.List.{map_push}
use Rattle.wh_hopoly.specs.declared.expression.Move as moved
use Rattle.wh_cert.specs.Interps as w
use Rattle.wh_cert.specs.Written.{interpretations}
use Rattle.wh_cert.specs.Said.{said_interp}
use Rattle.wh_cert.specs.declared.poly_node.Interp.{Interp}
use Rattle.wh_cert_lines.specs.Sections as s
use Rattle.wh_cert_lines.specs.SectionsViews as v
use Rattle.wh_cert_lines.specs.PolyLines.{Lines, LinesStep, LinesPlace, in_funs, in_marks, in_rules, in_pairs, to_pairs, add_named, add_shown, first_step, node_of}
use Rattle.wh_cert_lines.specs.PolyLinesViews.{said_lines}
use Rattle.wh_cert_lines.specs.declared.sections.Sections.{Sections}
use Rattle.wh_cert_lines.specs.declared.sections.LineBegun.{LineBegun}
use Rattle.wh_cert_lines.proofs.SectionsCode as c

abbrev Raw : Type 0
Raw = s.Lines Interp (List moved.Move)

-- the items without pointers
abbrev pub reading : c.Reading Interp (List moved.Move) w.Interp (List moved.Move)
reading = record { named = map said_interp; shown = λ rs. rs; no_named = refl; no_shown = refl }

abbrev pub said_step : s.LinesStep Interp (List moved.Move) (Unit {0}) → LinesStep
said_step o = c.said_step LinesPlace reading o

pub interp_said : (x : Raw) (i : Interp) → said_lines (add_named x i) ≡ add_named (said_lines x) (said_interp i)
interp_said (in_funs funs) i = ap in_funs (map_push said_interp funs i)
interp_said (in_marks funs marks) i = ap (in_marks (map said_interp funs)) (map_push said_interp marks i)
interp_said (in_rules funs marks rules) i = refl
interp_said (in_pairs funs marks rules pairs) i = refl

pub moves_said : (x : Raw) (ms : List moved.Move) → said_lines (add_shown x ms) ≡ add_shown (said_lines x) ms
moves_said (in_funs funs) ms = refl
moves_said (in_marks funs marks) ms = refl
moves_said (in_rules funs marks rules) ms = refl
moves_said (in_pairs funs marks rules pairs) ms = refl

-- the first byte of a line
pub begun_said : (went : LineBegun) (old new : Sections Interp (List moved.Move)) (b : ℕ) → v.begun_went went new ≡ first_step (v.lines_of old) b
    → said_step (v.begun_went went new) ≡ first_step (said_lines (v.lines_of old)) b
begun_said went old new b e = c.begun_said LinesPlace reading went old new b e

-- the node of all lines

node_same : (usable : Option (List ℕ)) (x : Lines) (drop : List ℕ) → node_of usable (to_pairs x) drop ≡ node_of usable x drop
node_same usable (in_funs funs) drop = refl
node_same usable (in_marks funs marks) drop = refl
node_same usable (in_rules funs marks rules) drop = refl
node_same usable (in_pairs funs marks rules pairs) drop = refl

pub node_ended : (x y : Raw) (usable : Option (List ℕ)) (funs marks : List w.Interp) (rules pairs : List (List moved.Move)) (drop : List ℕ) → y ≡ to_pairs x
    → said_lines y ≡ in_pairs funs marks rules pairs → interpretations usable funs marks rules pairs drop ≡ node_of usable (said_lines x) drop
node_ended x y usable funs marks rules pairs drop to is =
    ap (λ (z : Lines). node_of usable z drop) (sym is ∙ ap said_lines to ∙ c.pairs_said reading x) ∙ node_same usable (said_lines x) drop
