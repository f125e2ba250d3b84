-- A spine taken apart: its head and its arguments.
use Rattle.std.specs.Prelude.{ℕ, List, [], ◌∷◌, ◌++◌}
use Rattle.wh_terms.specs.Tree.{Tm, fun, app}

-- the arguments of the spine that a tree is, from left to right (Fuhs and Kop 2019)
abbrev pub spine_arguments : Tm → List Tm
spine_arguments (app t u) = spine_arguments t ++ u ∷ []
spine_arguments _ = []

-- the symbol that a head is; the head of a left side is one
abbrev pub symbol_of : Tm → ℕ
symbol_of (fun f) = f
symbol_of _ = 0
