-- The states of the reader of types that the values of its code stand for.
use Rattle.std.specs.Prelude.{ℕ, List, [], ◌∷◌}
use Rattle.wh_text.specs.Erase.{rty, rtys}
use Rattle.wh_text.specs.declared.raw.RawType.{RawType}
use Rattle.wh_cert_parts.specs.TypeMachine as m
use Rattle.wh_cert_parts.specs.declared.type_reader.TypePlace.{TypePlace}
use Rattle.wh_cert_parts.specs.declared.type_reader.TypePlace.TheVariants.{Wanted, Name, Dash, Closed}
use Rattle.wh_cert_parts.specs.declared.type_reader.TypeStep.{TypeStep}
use Rattle.wh_cert_parts.specs.declared.type_reader.TypeStep.TheVariants.{Goes, Ended, Wrong}

-- the open parentheses of the list, from the outermost on, inside those given
abbrev pub opened_in : m.TypeStack → List (List RawType) → m.TypeStack
opened_in fs [] = fs
opened_in fs (args ∷ rest) = opened_in (m.inside (rtys args) fs) rest

abbrev pub type_stack : List (List RawType) → m.TypeStack
type_stack = opened_in m.outside

abbrev pub type_place : TypePlace → m.TypePlace
type_place Wanted = m.type_wanted
type_place (Name letters) = m.sort_name letters
type_place (Dash a) = m.dash (rty a)
type_place (Closed a) = m.closed_type (rty a)

-- a step at this byte that left these parentheses open
abbrev pub type_went : List (List RawType) → ℕ → TypeStep → m.TypeStep
type_went stack b (Goes place) = m.goes (type_stack stack) (type_place place)
type_went stack b (Ended a) = m.type_ended (rty a) b
type_went stack b Wrong = m.no_type
