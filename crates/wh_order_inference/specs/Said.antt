-- What a value of the program stands for: the inference, and the filter as it is written.
use Rattle.std.specs.Prelude.{List, [], ◌∷◌}
use Rattle.wh_order_inference.specs.Inferences as m
use Rattle.wh_order_inference.specs.FilterText.{WrittenFilter, keeps, picks}
use Rattle.wh_order_inference.specs.declared.filter.Filter.{Filter}
use Rattle.wh_order_inference.specs.declared.filter.Filter.TheVariants.{Keep, Pick}
use Rattle.wh_order_inference.specs.declared.inference.Letter.{Letter}
use Rattle.wh_order_inference.specs.declared.inference.Letter.TheVariants.{Same, Lam, Mono, Sub, Prec, Lex, App, Bind, Var, Meta}
use Rattle.wh_order_inference.specs.declared.inference.Inference.{Inference, Inference', Row_of-Inference, end_of-Inference, more_of-Inference}

abbrev pub letter : Letter → m.Letter
letter Same = m.same_trees
letter Lam = m.bodies
letter Mono = m.arguments
letter Sub = m.part
letter Prec = m.lower
letter Lex = m.first_less
letter App = m.spine_parts
letter Bind = m.body
letter Var = m.variable
letter Meta = m.meta_part

-- the inference that a value stands for, and its parts
abbrev mutual
  pub inference : Inference → m.Inference
  inference (Inference' l n shape all) = m.infer (letter l) n (parts_row all)

  pub parts_row : {k : _} → Row_of-Inference k → m.Inferences
  parts_row end_of-Inference = m.no_parts
  parts_row (more_of-Inference i rest) = m.more_parts (inference i) (parts_row rest)

-- the inferences that a list of values stands for
abbrev pub inferences : List Inference → m.Inferences
inferences [] = m.no_parts
inferences (i ∷ is) = m.more_parts (inference i) (inferences is)

-- the filter that a value stands for, as it is written
abbrev pub written_filter : Filter → WrittenFilter
written_filter (Keep prec places) = keeps prec places
written_filter (Pick place) = picks place
