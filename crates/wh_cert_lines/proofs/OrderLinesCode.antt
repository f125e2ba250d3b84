-- What the reader of the lines of a node of a path order keeps, as trees.
use Rattle.std.proofs.Common.{◌≡◌, ℕ, List, map, refl, sym, ap, ◌∙◌}
use Rattle.std.proofs.lemmas.List.{map_push}
use Rattle.wh_order_inference.specs.Inferences as m
use Rattle.wh_order_inference.specs.Said.{inference}
use Rattle.wh_order_inference.specs.declared.inference.Inference.{Inference}
use Rattle.wh_cert.specs.Written.{Filtering, order}
use Rattle.wh_cert.specs.Said.{said_filter}
use Rattle.wh_cert.specs.declared.order_node.NamedFilter.{NamedFilter}
use Rattle.wh_cert_lines.specs.Sections as s
use Rattle.wh_cert_lines.specs.SectionsViews as v
use Rattle.wh_cert_lines.specs.OrderLines.{Lines, LinesStep, LinesPlace, in_funs, in_marks, in_rules, in_pairs, to_pairs, add_named, add_shown, first_step, node_of}
use Rattle.wh_cert_lines.specs.OrderLinesViews.{said_lines}
use Rattle.wh_cert_lines.specs.declared.sections.Sections.{Sections}
use Rattle.wh_cert_lines.specs.declared.sections.LineBegun.{LineBegun}
use Rattle.wh_cert_lines.proofs.SectionsCode as c

abbrev Raw : Type 0
Raw = s.Lines NamedFilter Inference

-- the items without pointers
abbrev pub reading : c.Reading NamedFilter Inference Filtering m.Inference
reading = record { named = map said_filter; shown = map inference; no_named = refl; no_shown = refl }

abbrev pub said_step : s.LinesStep NamedFilter Inference (Unit {0}) → LinesStep
said_step o = c.said_step LinesPlace reading o

pub filter_said : (x : Raw) (f : NamedFilter) → said_lines (add_named x f) ≡ add_named (said_lines x) (said_filter f)
filter_said (in_funs funs) f = ap in_funs (map_push said_filter funs f)
filter_said (in_marks funs marks) f = ap (in_marks (map said_filter funs)) (map_push said_filter marks f)
filter_said (in_rules funs marks rules) f = refl
filter_said (in_pairs funs marks rules pairs) f = refl

pub inference_said : (x : Raw) (i : Inference) → said_lines (add_shown x i) ≡ add_shown (said_lines x) (inference i)
inference_said (in_funs funs) i = refl
inference_said (in_marks funs marks) i = refl
inference_said (in_rules funs marks rules) i = ap (in_rules (map said_filter funs) (map said_filter marks)) (map_push inference rules i)
inference_said (in_pairs funs marks rules pairs) i = ap (in_pairs (map said_filter funs) (map said_filter marks) (map inference rules)) (map_push inference pairs i)

-- the first byte of a line
pub begun_said : (went : LineBegun) (old new : Sections NamedFilter Inference) (b : ℕ) → v.begun_went went new ≡ first_step (v.lines_of old) b
    → said_step (v.begun_went went new) ≡ first_step (said_lines (v.lines_of old)) b
begun_said went old new b e = c.begun_said LinesPlace reading went old new b e

-- the node of all lines

node_same : (x : Lines) (drop : List ℕ) → node_of (to_pairs x) drop ≡ node_of x drop
node_same (in_funs funs) drop = refl
node_same (in_marks funs marks) drop = refl
node_same (in_rules funs marks rules) drop = refl
node_same (in_pairs funs marks rules pairs) drop = refl

pub node_ended : (x y : Raw) (funs marks : List Filtering) (rules pairs : List m.Inference) (drop : List ℕ) → y ≡ to_pairs x → said_lines y ≡ in_pairs funs marks rules pairs
    → order funs marks rules pairs drop ≡ node_of (said_lines x) drop
node_ended x y funs marks rules pairs drop to is =
    ap (λ (z : Lines). node_of z drop) (sym is ∙ ap said_lines to ∙ c.pairs_said reading x) ∙ node_same (said_lines x) drop
