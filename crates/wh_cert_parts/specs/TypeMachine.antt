-- A reader of types, byte by byte, as a function: where it stands, and where the next byte leads. It mirrors the code;
-- the laws in proofs/ tie it to the text.
use Rattle.std.specs.Prelude.{ℕ, suc, ◌==◌, ◌&&◌, nat_lt, Bool, true, false, cond, List, [], ◌∷◌, ◌++◌, length}
use Rattle.wh_types.specs.Limits.{longest_name, deepest_certificate_type, most_certificate_arguments}
use Rattle.wh_text.specs.Chars.{is_start, is_part}
use Rattle.wh_text.specs.RawTree.{RTy, raw_type, RTys, no_types, more_types}
use Rattle.wh_cert.specs.TermLimits.{type_count}

-- the open parentheses, the innermost first, each with the arguments that were read in it
pub data TypeStack : Type 0 where
  outside : TypeStack
  inside : (args : RTys) (around : TypeStack) → TypeStack

-- what was read since: nothing; letters of a name; a type and the `-` of an arrow; a type that ended with `)`
pub data TypePlace : Type 0 where
  type_wanted : TypePlace
  sort_name : (letters : List ℕ) → TypePlace
  dash : (a : RTy) → TypePlace
  closed_type : (a : RTy) → TypePlace

-- where a byte leads: on; out of the type, which ended before the byte that is handed on; nowhere
pub data TypeStep : Type 0 where
  goes : (fs : TypeStack) (k : TypePlace) → TypeStep
  type_ended : (a : RTy) (b : ℕ) → TypeStep
  no_type : TypeStep

abbrev pub type_level : TypeStack → ℕ
type_level outside = 0
type_level (inside args fs) = suc (type_level fs)

-- the innermost parenthesis has room for one more argument
abbrev pub has_room : TypeStack → Bool
has_room outside = true
has_room (inside args fs) = nat_lt (type_count args) most_certificate_arguments

abbrev pub has_types : RTys → Bool
has_types no_types = false
has_types (more_types a rest) = true

-- a type joins at the end
abbrev pub add_type : RTys → RTy → RTys
add_type no_types b = more_types b no_types
add_type (more_types a rest) b = more_types a (add_type rest b)

-- a name has ended before the byte
abbrev pub name_ended : TypeStack → List ℕ → ℕ → TypeStep
name_ended outside xs b = type_ended (raw_type no_types xs 0) b
name_ended (inside args fs) xs b =
    cond ((b == 45) && nat_lt (type_count args) most_certificate_arguments) (goes (inside args fs) (dash (raw_type no_types xs 0)))
    (cond ((b == 41) && has_types args) (goes fs (closed_type (raw_type args xs 0))) no_type)

abbrev pub type_step : TypeStack → TypePlace → ℕ → TypeStep
type_step fs type_wanted b =
    cond (is_start b) (goes fs (sort_name (b ∷ []))) (cond ((b == 40) && (nat_lt (type_level fs) deepest_certificate_type && has_room fs))
    (goes (inside no_types fs) type_wanted) no_type)
type_step fs (sort_name xs) b =
    cond (is_part b && nat_lt (length xs) longest_name) (goes fs (sort_name (xs ++ b ∷ []))) (name_ended fs xs b)
type_step (inside args fs) (dash a) b = cond (b == 62) (goes (inside (add_type args a) fs) type_wanted) no_type
type_step outside (dash a) b = no_type
type_step outside (closed_type a) b = type_ended a b
type_step (inside args fs) (closed_type a) b = cond (b == 45) (goes (inside args fs) (dash a)) no_type
