-- A reader of the lines of a node in four sections, byte by byte, as a function, whatever a line holds. It mirrors the
-- code.
use Rattle.std.specs.Prelude.{ℕ, ◌==◌, cond, List, [], ◌∷◌, ◌++◌, codes}

-- the lines so far: of symbols; of marked symbols too; of rules too; of pairs too. N is what a line of a symbol holds,
-- L what one of a rule or a pair holds
pub data Lines (N L : Type 0) : Type 0 where
  in_funs : (funs : List N) → Lines N L
  in_marks : (funs marks : List N) → Lines N L
  in_rules : (funs marks : List N) (rules : List L) → Lines N L
  in_pairs : (funs marks : List N) (rules pairs : List L) → Lines N L

-- where a byte leads: on, to one of the places K; to a line of the last kind, or to that of `drop`, whose first byte it
-- is; nowhere
pub data LinesStep (N L K : Type 0) : Type 0 where
  on : (x : Lines N L) (k : K) → LinesStep N L K
  begins drops : (x : Lines N L) → LinesStep N L K
  refused : LinesStep N L K

-- the first byte of the word of a line of the last kind, and the others
abbrev pub line_first : {N L : Type 0} → Lines N L → ℕ
line_first (in_funs funs) = 102
line_first (in_marks funs marks) = 109
line_first (in_rules funs marks rules) = 114
line_first (in_pairs funs marks rules pairs) = 112

abbrev pub line_rest : {N L : Type 0} → Lines N L → List ℕ
line_rest (in_funs funs) = codes "un "
line_rest (in_marks funs marks) = codes "ark "
line_rest (in_rules funs marks rules) = codes "ule"
line_rest (in_pairs funs marks rules pairs) = codes "air"

-- the kinds of lines come one behind the other
abbrev pub to_marks : {N L : Type 0} → Lines N L → Lines N L
to_marks (in_funs funs) = in_marks funs []
to_marks x = x

abbrev pub to_rules : {N L : Type 0} → Lines N L → Lines N L
to_rules (in_funs funs) = in_rules funs [] []
to_rules (in_marks funs marks) = in_rules funs marks []
to_rules x = x

abbrev pub to_pairs : {N L : Type 0} → Lines N L → Lines N L
to_pairs (in_funs funs) = in_pairs funs [] [] []
to_pairs (in_marks funs marks) = in_pairs funs marks [] []
to_pairs (in_rules funs marks rules) = in_pairs funs marks rules []
to_pairs x = x

-- a line of the last kind joins
abbrev pub add_named : {N L : Type 0} → Lines N L → N → Lines N L
add_named (in_funs funs) i = in_funs (funs ++ i ∷ [])
add_named (in_marks funs marks) i = in_marks funs (marks ++ i ∷ [])
add_named x i = x

abbrev pub add_shown : {N L : Type 0} → Lines N L → L → Lines N L
add_shown (in_rules funs marks rules) c = in_rules funs marks (rules ++ c ∷ [])
add_shown (in_pairs funs marks rules pairs) c = in_pairs funs marks rules (pairs ++ c ∷ [])
add_shown x c = x

-- the first byte of a line: of pairs or of `drop`; of rules too; of marked symbols too; of symbols too
abbrev pub pair_step : {N L K : Type 0} → Lines N L → ℕ → LinesStep N L K
pair_step x b = cond (b == 112) (begins (to_pairs x)) (cond (b == 100) (drops (to_pairs x)) refused)

abbrev pub rule_step : {N L K : Type 0} → Lines N L → ℕ → LinesStep N L K
rule_step x b = cond (b == 114) (begins (to_rules x)) (pair_step x b)

abbrev pub mark_step : {N L K : Type 0} → Lines N L → ℕ → LinesStep N L K
mark_step x b = cond (b == 109) (begins (to_marks x)) (rule_step x b)

abbrev pub first_step : {N L K : Type 0} → Lines N L → ℕ → LinesStep N L K
first_step (in_funs funs) b = cond (b == 102) (begins (in_funs funs)) (mark_step (in_funs funs) b)
first_step (in_marks funs marks) b = mark_step (in_marks funs marks) b
first_step (in_rules funs marks rules) b = rule_step (in_rules funs marks rules) b
first_step (in_pairs funs marks rules pairs) b = pair_step (in_pairs funs marks rules pairs) b

-- the lines with other items
abbrev pub map_lines : {N L M C : Type 0} → (List N → List M) → (List L → List C) → Lines N L → Lines M C
map_lines f g (in_funs funs) = in_funs (f funs)
map_lines f g (in_marks funs marks) = in_marks (f funs) (f marks)
map_lines f g (in_rules funs marks rules) = in_rules (f funs) (f marks) (g rules)
map_lines f g (in_pairs funs marks rules pairs) = in_pairs (f funs) (f marks) (g rules) (g pairs)
