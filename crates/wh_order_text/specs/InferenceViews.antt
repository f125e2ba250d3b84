-- The states of the reader of inferences that the values of its code stand for.
use Rattle.std.specs.Prelude.{ℕ, List, [], ◌∷◌}
use Rattle.wh_order_inference.specs.Said.{letter, inference, inferences}
use Rattle.wh_order_text.specs.InferenceMachine as m
use Rattle.wh_order_text.specs.declared.inference_reader.InferencePlace.{InferencePlace}
use Rattle.wh_order_text.specs.declared.inference_reader.InferencePlace.TheVariants.{Wanted, PlaceWanted, Placed, PartsWanted, Begun, Behind}
use Rattle.wh_order_text.specs.declared.inference_reader.OpenInference.{OpenInference}
use Rattle.wh_order_text.specs.declared.inference_reader.InferenceText.{InferenceText}
use Rattle.wh_order_text.specs.declared.inference_reader.InferenceStep.{InferenceStep}
use Rattle.wh_order_text.specs.declared.inference_reader.InferenceStep.TheVariants.{On, Ended, Wrong}

-- an open inference inside others
abbrev pub opened : OpenInference → m.Stack → m.Stack
opened f fs = m.inside (letter f.letter) f.place (inferences f.parts) fs

-- the open inferences of the list, from the outermost on, inside those given
abbrev pub opened_in : m.Stack → List OpenInference → m.Stack
opened_in fs [] = fs
opened_in fs (f ∷ rest) = opened_in (opened f fs) rest

abbrev pub inference_stack : List OpenInference → m.Stack
inference_stack = opened_in m.outside

abbrev pub place_of : InferencePlace → InferenceText → m.Place
place_of Wanted t = m.wanted
place_of (PlaceWanted l) t = m.place_wanted (letter l)
place_of (Placed l n) t = m.placed (letter l) n
place_of (PartsWanted l) t = m.list_wanted (letter l)
place_of (Begun l n) t = m.begun (letter l) n
place_of Behind t = m.behind (inference t.last)

abbrev pub inference_place : InferenceText → m.Place
inference_place t = place_of t.place t

-- a step at this byte that left the text so
abbrev pub went : InferenceText → ℕ → InferenceStep → m.Step
went t b On = m.goes (inference_stack t.stack.items) (inference_place t)
went t b (Ended i) = m.ended (inference i) b
went t b Wrong = m.nowhere
