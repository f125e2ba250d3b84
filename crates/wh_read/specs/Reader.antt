-- The reader, token by token: what it holds behind some tokens of a system text, and how one more token changes that.
-- It is a machine with a stack for the terms that are open and one for the types (ours).
use Rattle.std.specs.Prelude.{ℕ, ◌+◌, nat_lt, length, List, [], ◌∷◌, ◌++◌, Option, None, Some, if◌then◌else◌}
use Rattle.wh_types.specs.Limits.{deepest_term, deepest_type}
use Rattle.wh_text.specs.RawTree.{RTy, raw_type, RTys, no_types, more_types, Binder, named_binder, numbered_binder, RTm, named, numbered, free_variable, meta, lam, spine, RTms, none, more}
use Rattle.wh_system_parts.specs.Parts.{RName, RFun, RMeta, RRule, RParts}
use Rattle.wh_read.specs.Raw.{join, place_of}
use Rattle.wh_read.specs.Spelled.{Placed}
use Rattle.wh_read.specs.Lexemes.{Lexeme, a_name, a_dollar, a_percent, key_sort, key_fun, key_rule, backslash, colon, dot, semicolon, comma, open_paren, close_paren, open_bracket, close_bracket, open_brace, close_brace, thin_arrow, thick_arrow, lexeme}

-- the open terms of a side, the innermost first: an abstraction whose body is read, a parenthesis or a bracket with the
-- spine so far before it; in a bracket also the arguments so far
pub data Frames : Type 0 where
  no_frames : Frames
  body : (x : Binder) (a : RTy) (at : ℕ) (w : Frames) → Frames
  paren : (before : Option RTm) (w : Frames) → Frames
  bracket : (name : List ℕ) (at : ℕ) (args : RTms) (before : Option RTm) (w : Frames) → Frames

-- how many levels are open
abbrev pub level : Frames → ℕ
level no_frames = 0
level (body x a at w) = level w + 1
level (paren before w) = level w + 1
level (bracket name at args before w) = level w + 1

-- a rule whose sides are read: its meta-variables, its place, the left side where that is read, and the open terms
pub record OpenRule : Type 0 where
  pub metas : List RMeta
  pub at : ℕ
  pub left : Option RTm
  pub frames : Frames

-- a rule whose meta-variables are read: those so far, and its place
pub record OpenMetas : Type 0 where
  pub metas : List RMeta
  pub at : ℕ

-- a meta-variable up to its name
pub record OpenMeta : Type 0 where
  pub rule : OpenMetas
  pub name : RName

-- what a type is for: the type of a symbol, a type in the brackets of a meta-variable behind others, the one behind the
-- brackets, the type of a binder, or that of a free variable
pub data Use : Type 0 where
  of_fun : (x : RName) → Use
  in_brackets : (m : OpenMeta) (args : RTys) → Use
  of_meta : (m : OpenMeta) (args : RTys) → Use
  of_binder : (u : OpenRule) (x : Binder) (at : ℕ) → Use
  of_variable : (u : OpenRule) (before : Option RTm) (n at : ℕ) → Use

-- the arguments of a type so far, and those of the types around it, one for each open parenthesis, the innermost first
pub record OpenType : Type 0 where
  pub args : RTys
  pub outer : List RTys

-- a place of the reader, named for what stands before it
pub data Place : Type 0 where
  between : Place
  behind_sort : Place
  sort_named : (x : RName) → Place
  behind_fun : Place
  fun_named : (x : RName) → Place
  behind_rule : (at : ℕ) → Place
  want_meta : (u : OpenMetas) → Place
  meta_named : (m : OpenMeta) → Place
  meta_colon : (m : OpenMeta) → Place
  want_atype : (use_for : Use) (open_type : OpenType) → Place
  behind_atype : (use_for : Use) (open_type : OpenType) (a : RTy) → Place
  behind_lambda : (u : OpenRule) (at : ℕ) → Place
  binder_named : (u : OpenRule) (x : Binder) (at : ℕ) → Place
  binder_typed : (u : OpenRule) (x : Binder) (a : RTy) (at : ℕ) → Place
  want_atom : (u : OpenRule) (before : Option RTm) → Place
  behind_name : (u : OpenRule) (before : Option RTm) (name : List ℕ) (at : ℕ) → Place
  behind_percent : (u : OpenRule) (before : Option RTm) (n at : ℕ) → Place

-- a place with the parts so far, or a fault: a token that no text has there, one that opens a level too many
pub data State : Type 0 where
  inside : (parts : RParts) (p : Place) → State
  failed too_many : State

abbrev pub join_types : RTys → RTys → RTys
join_types no_types later = later
join_types (more_types a rest) later = more_types a (join_types rest later)

abbrev pub add_type : RTys → RTy → RTys
add_type args a = join_types args (more_types a no_types)

-- the type with these arguments before its own
abbrev pub with_arguments : RTys → RTy → RTy
with_arguments args (raw_type own sort at) = raw_type (join_types args own) sort at

abbrev pub new_type : OpenType
new_type = record { args = no_types; outer = [] }

-- the type that begins in a parenthesis of the other
abbrev pub inner_type : OpenType → OpenType
inner_type t = record { args = no_types; outer = t.args ∷ t.outer }

abbrev pub add_term : RTms → RTm → RTms
add_term args t = join args (more t none)

-- the spine so far, with one more atom
abbrev pub applied : Option RTm → RTm → RTm
applied None u = u
applied (Some (spine h ts at)) u = spine h (add_term ts u) at
applied (Some h) u = spine h (more u none) (place_of h)

abbrev pub next : Option RTm → RTm → Option RTm
next before u = Some (applied before u)

abbrev pub add_sort : RParts → RName → RParts
add_sort p x = record { sorts = p.sorts ++ x ∷ []; funs = p.funs; rules = p.rules }

abbrev pub add_fun : RParts → RName → RTy → RParts
add_fun p x a = record { sorts = p.sorts; funs = p.funs ++ record { name = x; kind = a } ∷ []; rules = p.rules }

abbrev pub add_rule : RParts → OpenRule → RTm → RTm → RParts
add_rule p u left right = record {
  sorts = p.sorts;
  funs = p.funs;
  rules = p.rules ++ record
      { metas = u.metas; left = left; right = right; at = u.at } ∷ [];
}

abbrev pub add_meta : OpenMeta → RTys → RTy → OpenMetas
add_meta m args out = record { metas = m.rule.metas ++ record { name = m.name; args = args; out = out } ∷ []; at = m.rule.at }

-- the left side of the rule begins
abbrev pub left_of : OpenMetas → Place
left_of u = want_atom (record { metas = u.metas; at = u.at; left = None; frames = no_frames }) None

abbrev pub with_frames : OpenRule → Frames → OpenRule
with_frames u w = record { metas = u.metas; at = u.at; left = u.left; frames = w }

abbrev pub with_left : OpenRule → RTm → OpenRule
with_left u t = record { metas = u.metas; at = u.at; left = Some t; frames = no_frames }

abbrev pub opened : RParts → ℕ → ℕ → Place → State
opened parts k n p = if nat_lt k n then inside parts p else too_many

abbrev pub open_term : RParts → OpenRule → Place → State
open_term parts u p = opened parts (level u.frames) deepest_term p

-- a sort's name or a type in parentheses was read, with no parenthesis around it
abbrev pub had_outer : RParts → Use → OpenType → RTy → State
had_outer parts (of_binder u x at) open_type a = inside parts (binder_typed u x a at)
had_outer parts (of_variable u before n at) open_type a = inside parts (want_atom u (next before (free_variable n a at)))
had_outer parts use_for open_type a = inside parts (behind_atype use_for open_type a)

abbrev pub had_atype : RParts → Use → RTys → List RTys → RTy → State
had_atype parts use_for args [] a = had_outer parts use_for (record { args = args; outer = [] }) a
had_atype parts use_for args (b ∷ outer) a = inside parts (behind_atype use_for (record { args = args; outer = b ∷ outer }) a)

-- the type t, in no parentheses, has ended before the letter
abbrev pub whole_type_ended : RParts → Use → RTy → Lexeme → State
whole_type_ended parts (of_fun x) t semicolon = inside (add_fun parts x t) between
whole_type_ended parts (in_brackets m args) t comma = inside parts (want_atype (in_brackets m (add_type args t)) new_type)
whole_type_ended parts (in_brackets m args) t close_bracket = inside parts (want_atype (of_meta m (add_type args t)) new_type)
whole_type_ended parts (of_meta m args) t comma = inside parts (want_meta (add_meta m args t))
whole_type_ended parts (of_meta m args) t close_brace = inside parts (left_of (add_meta m args t))
whole_type_ended parts use_for t l = failed

-- the type t, in a parenthesis behind the arguments so far, has ended before the letter
abbrev pub inner_type_ended : RParts → Use → RTys → List RTys → RTy → Lexeme → State
inner_type_ended parts use_for args outer t close_paren = had_atype parts use_for args outer t
inner_type_ended parts use_for args outer t l = failed

abbrev pub type_ended : RParts → Use → List RTys → RTy → Lexeme → State
type_ended parts use_for [] t l = whole_type_ended parts use_for t l
type_ended parts use_for (args ∷ outer) t l = inner_type_ended parts use_for args outer t l

-- a side has ended before the letter: the left one before the arrow, the right one, and with it the rule, at its end
abbrev pub side_ended : RParts → OpenRule → Option RTm → RTm → Lexeme → State
side_ended parts u None t thick_arrow = inside parts (want_atom (with_left u t) None)
side_ended parts u (Some left) t semicolon = inside (add_rule parts u left t) between
side_ended parts u left t l = failed

-- the term t has ended before the letter
abbrev pub term_ended : RParts → OpenRule → Frames → RTm → Lexeme → State
term_ended parts u no_frames t l = side_ended parts u u.left t l
term_ended parts u (body x a at w) t l = term_ended parts u w (lam x a t at) l
term_ended parts u (paren before w) t close_paren = inside parts (want_atom (with_frames u w) (next before t))
term_ended parts u (paren before w) t l = failed
term_ended parts u (bracket n at args before w) t comma = inside parts
    (want_atom (with_frames u (bracket n at (add_term args t) before w)) None)
term_ended parts u (bracket n at args before w) t close_bracket = inside parts
    (want_atom (with_frames u w) (next before (meta n (add_term args t) at)))
term_ended parts u (bracket n at args before w) t l = failed

abbrev pub spine_ended : RParts → OpenRule → Option RTm → Lexeme → State
spine_ended parts u None l = failed
spine_ended parts u (Some t) l = term_ended parts u u.frames t l

-- an abstraction begins, where no atom stands before it
abbrev pub lambda_begins : RParts → OpenRule → Option RTm → ℕ → State
lambda_begins parts u None at = open_term parts u (behind_lambda u at)
lambda_begins parts u (Some t) at = failed

abbrev pub at_atom : RParts → OpenRule → Option RTm → Lexeme → ℕ → State
at_atom parts u before (a_name n) at = inside parts (behind_name u before n at)
at_atom parts u before (a_dollar n) at = inside parts (want_atom u (next before (numbered n at)))
at_atom parts u before (a_percent n) at = inside parts (behind_percent u before n at)
at_atom parts u before open_paren at = open_term parts u (want_atom (with_frames u (paren before u.frames)) None)
at_atom parts u before backslash at = lambda_begins parts u before at
at_atom parts u before l at = spine_ended parts u before l

abbrev pub behind_plain : RParts → OpenRule → Option RTm → List ℕ → ℕ → Lexeme → ℕ → State
behind_plain parts u before n n_at open_bracket at = open_term parts u
    (want_atom (with_frames u (bracket n n_at none before u.frames)) None)
behind_plain parts u before n n_at l at = at_atom parts u (next before (named n n_at)) l at

abbrev pub at_atype : RParts → Use → OpenType → Lexeme → ℕ → State
at_atype parts use_for t (a_name n) at = had_atype parts use_for t.args t.outer (raw_type no_types n at)
at_atype parts use_for t open_paren at = opened parts (length t.outer) deepest_type (want_atype use_for (inner_type t))
at_atype parts use_for t l at = failed

abbrev pub behind_type : RParts → Use → OpenType → RTy → Lexeme → State
behind_type parts use_for t a thin_arrow = inside parts (want_atype use_for (record { args = add_type t.args a; outer = t.outer }))
behind_type parts use_for t a l = type_ended parts use_for t.outer (with_arguments t.args a) l

-- a name, or the end of no meta-variables at all
abbrev pub at_meta : RParts → ℕ → List RMeta → Lexeme → ℕ → State
at_meta parts rule_at metas (a_name n) at = inside parts
    (meta_named (record { rule = record { metas = metas; at = rule_at }; name = record { name = n; at = at } }))
at_meta parts rule_at [] close_brace at = inside parts (left_of (record { metas = []; at = rule_at }))
at_meta parts rule_at metas l at = failed

abbrev pub behind_colon : RParts → OpenMeta → Lexeme → ℕ → State
behind_colon parts m open_bracket at = inside parts (want_atype (in_brackets m no_types) new_type)
behind_colon parts m l at = at_atype parts (of_meta m no_types) new_type l at

abbrev pub at_binder : RParts → OpenRule → ℕ → Lexeme → State
at_binder parts u at (a_name n) = inside parts (binder_named u (named_binder n) at)
at_binder parts u at (a_dollar n) = inside parts (binder_named u (numbered_binder n) at)
at_binder parts u at l = failed

-- a declaration begins: no sort behind a symbol or a rule, no symbol behind a rule
abbrev pub sort_begins : RParts → List RFun → List RRule → State
sort_begins parts [] [] = inside parts behind_sort
sort_begins parts funs rules = failed

abbrev pub fun_begins : RParts → List RRule → State
fun_begins parts [] = inside parts behind_fun
fun_begins parts rules = failed

abbrev pub begin : RParts → Lexeme → ℕ → State
begin parts key_sort at = sort_begins parts parts.funs parts.rules
begin parts key_fun at = fun_begins parts parts.rules
begin parts key_rule at = inside parts (behind_rule at)
begin parts l at = failed

abbrev pub expect_colon : RParts → Place → Lexeme → State
expect_colon parts p colon = inside parts p
expect_colon parts p l = failed

abbrev pub expect_dot : RParts → Place → Lexeme → State
expect_dot parts p dot = inside parts p
expect_dot parts p l = failed

abbrev pub expect_open : RParts → Place → Lexeme → State
expect_open parts p open_brace = inside parts p
expect_open parts p l = failed

abbrev pub expect_name : RParts → (RName → Place) → Lexeme → ℕ → State
expect_name parts p (a_name n) at = inside parts (p (record { name = n; at = at }))
expect_name parts p l at = failed

abbrev pub sort_ends : RParts → RName → Lexeme → State
sort_ends parts x semicolon = inside (add_sort parts x) between
sort_ends parts x l = failed

-- the state behind one more letter, which stands at a place of the text
abbrev pub move : RParts → Place → Lexeme → ℕ → State
move parts between l at = begin parts l at
move parts behind_sort l at = expect_name parts sort_named l at
move parts (sort_named x) l at = sort_ends parts x l
move parts behind_fun l at = expect_name parts fun_named l at
move parts (fun_named x) l at = expect_colon parts (want_atype (of_fun x) new_type) l
move parts (behind_rule rule_at) l at = expect_open parts (want_meta (record { metas = []; at = rule_at })) l
move parts (want_meta u) l at = at_meta parts u.at u.metas l at
move parts (meta_named m) l at = expect_colon parts (meta_colon m) l
move parts (meta_colon m) l at = behind_colon parts m l at
move parts (want_atype use_for t) l at = at_atype parts use_for t l at
move parts (behind_atype use_for t a) l at = behind_type parts use_for t a l
move parts (behind_lambda u lambda_at) l at = at_binder parts u lambda_at l
move parts (binder_named u x lambda_at) l at = expect_colon parts (want_atype (of_binder u x lambda_at) new_type) l
move parts (binder_typed u x a lambda_at) l at = expect_dot parts (want_atom (with_frames u (body x a lambda_at u.frames)) None) l
move parts (want_atom u before) l at = at_atom parts u before l at
move parts (behind_name u before n n_at) l at = behind_plain parts u before n n_at l at
move parts (behind_percent u before n n_at) l at = expect_colon parts (want_atype (of_variable u before n n_at) new_type) l

abbrev pub read : State → Option Lexeme → ℕ → State
read (inside parts p) (Some l) at = move parts p l at
read (inside parts p) None at = failed
read failed l at = failed
read too_many l at = too_many

abbrev pub step : State → Placed → State
step s k = read s (lexeme k.kind) k.at

-- the state behind some tokens
abbrev pub run : State → List Placed → State
run s [] = s
run s (k ∷ r) = run (step s k) r

abbrev pub start : State
start = inside (record { sorts = []; funs = []; rules = [] }) between
