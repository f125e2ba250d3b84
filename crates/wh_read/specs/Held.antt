-- The state of the reader, without pointers: what its places, frames and open rules stand for.
use Rattle.std.specs.Prelude.{ℕ, List, [], ◌∷◌, map, Option, option_map, Box}
use Rattle.std.specs.Global.{Global}
use Rattle.wh_text.specs.RawTree.{RTys, RTm}
use Rattle.wh_text.specs.Erase.{rty, rtys, rtm, rtms, rbinder}
use Rattle.wh_text.specs.declared.raw.RawType.{RawType}
use Rattle.wh_system_parts.specs.Parts.{RParts}
use Rattle.wh_system_parts.specs.Erase.{rname, rmeta}
use Rattle.wh_read.specs.Lexemes as s
use Rattle.wh_read.specs.Reader as r
use Rattle.wh_read.specs.declared.lexeme.Lexeme.{Lexeme}
use Rattle.wh_read.specs.declared.lexeme.Lexeme.TheVariants.{Name, Dollar, Percent, Sort, Fun, Rule, Backslash, Colon, Dot, Semicolon, Comma, OpenParen, CloseParen, OpenBracket, CloseBracket, OpenBrace, CloseBrace, ThinArrow, ThickArrow}
use Rattle.wh_read.specs.declared.place.Frame.{Frame}
use Rattle.wh_read.specs.declared.place.Frame.TheVariants.{Body, Paren, Bracket}
use Rattle.wh_read.specs.declared.place.OpenRule.{OpenRule}
use Rattle.wh_read.specs.declared.place.OpenMetas.{OpenMetas}
use Rattle.wh_read.specs.declared.place.OpenMeta.{OpenMeta}
use Rattle.wh_read.specs.declared.place.Purpose.{Purpose}
use Rattle.wh_read.specs.declared.place.Purpose.TheVariants.{OfFun, InBrackets, OfMeta, OfBinder, OfVariable}
use Rattle.wh_read.specs.declared.place.OpenType.{OpenType}
use Rattle.wh_read.specs.declared.place.Place.{Place}
use Rattle.wh_read.specs.declared.place.Place.TheVariants.{Between, BehindSort, SortNamed, BehindFun, FunNamed, BehindRule, WantMeta, MetaNamed, MetaColon, WantAtype, BehindAtype, BehindLambda, BinderNamed, BinderTyped, WantAtom, BehindName, BehindPercent}
use Rattle.wh_read.specs.declared.place.Step.{Step}
use Rattle.wh_read.specs.declared.place.Step.TheVariants.{To, Failed, TooMany}
use Rattle.wh_read.specs.declared.fault.SyntaxFault.{SyntaxFault}
use Rattle.wh_read.specs.declared.fault.SyntaxFault.TheVariants as fault

abbrev pub letter : Lexeme → s.Lexeme
letter (Name x) = s.a_name x
letter (Dollar n) = s.a_dollar n
letter (Percent n) = s.a_percent n
letter Sort = s.key_sort
letter Fun = s.key_fun
letter Rule = s.key_rule
letter Backslash = s.backslash
letter Colon = s.colon
letter Dot = s.dot
letter Semicolon = s.semicolon
letter Comma = s.comma
letter OpenParen = s.open_paren
letter CloseParen = s.close_paren
letter OpenBracket = s.open_bracket
letter CloseBracket = s.close_bracket
letter OpenBrace = s.open_brace
letter CloseBrace = s.close_brace
letter ThinArrow = s.thin_arrow
letter ThickArrow = s.thick_arrow

abbrev pub frame : Frame → r.Frames → r.Frames
frame (Body x a at) w = r.body (rbinder x) (rty a.value) at w
frame (Paren before) w = r.paren (option_map rtm before) w
frame (Bracket x args before) w = r.bracket x.name x.at (rtms args) (option_map rtm before) w

-- frames inside w, the innermost last
abbrev pub frames_in : r.Frames → List Frame → r.Frames
frames_in w [] = w
frames_in w (f ∷ fs) = frames_in (frame f w) fs

abbrev pub open_rule : OpenRule → r.OpenRule
open_rule u = record { metas = map rmeta u.metas; at = u.at; left = option_map rtm u.left; frames = frames_in r.no_frames u.frames.items }

abbrev pub rule : Box OpenRule Global → r.OpenRule
rule u = open_rule u.value

-- the spine that is read in a rule
abbrev pub spine_of : Box OpenRule Global → Option RTm
spine_of u = option_map rtm u.value.before

abbrev pub metas : OpenMetas → r.OpenMetas
metas u = record { metas = map rmeta u.metas; at = u.at }

abbrev pub meta : OpenMeta → r.OpenMeta
meta m = record { rule = metas m.rule; name = rname m.name }

abbrev pub purpose_of : Purpose → r.Use
purpose_of (OfFun x) = r.of_fun (rname x)
purpose_of (InBrackets m args) = r.in_brackets (meta m) (rtys args)
purpose_of (OfMeta m args) = r.of_meta (meta m) (rtys args)
purpose_of (OfBinder u x at) = r.of_binder (rule u) (rbinder x) at
purpose_of (OfVariable u n at) = r.of_variable (rule u) (spine_of u) n at

abbrev pub purpose : Box Purpose Global → r.Use
purpose p = purpose_of p.value

-- lists around those before, the innermost last
abbrev pub types_in : List RTys → List (List RawType) → List RTys
types_in before [] = before
types_in before (ts ∷ rest) = types_in (rtys ts ∷ before) rest

abbrev pub open_type : OpenType → r.OpenType
open_type t = record { args = rtys t.args; outer = types_in [] t.outer.items }

abbrev pub place : Place → r.Place
place Between = r.between
place BehindSort = r.behind_sort
place (SortNamed x) = r.sort_named (rname x)
place BehindFun = r.behind_fun
place (FunNamed x) = r.fun_named (rname x)
place (BehindRule at) = r.behind_rule at
place (WantMeta u) = r.want_meta (metas u)
place (MetaNamed m) = r.meta_named (meta m)
place (MetaColon m) = r.meta_colon (meta m)
place (WantAtype p t) = r.want_atype (purpose p) (open_type t)
place (BehindAtype p t a) = r.behind_atype (purpose p) (open_type t) (rty a.value)
place (BehindLambda u at) = r.behind_lambda (rule u) at
place (BinderNamed u x at) = r.binder_named (rule u) (rbinder x) at
place (BinderTyped u x a at) = r.binder_typed (rule u) (rbinder x) (rty a.value) at
place (WantAtom u) = r.want_atom (rule u) (spine_of u)
place (BehindName u x) = r.behind_name (rule u) (spine_of u) x.name x.at
place (BehindPercent u n at) = r.behind_percent (rule u) (spine_of u) n at

-- the state behind a step, with these parts so far
abbrev pub state : RParts → Step → r.State
state parts (To p) = r.inside parts (place p)
state parts Failed = r.failed
state parts TooMany = r.too_many

-- the state that a fault stands for, and its place
abbrev pub stopped : SyntaxFault → r.State
stopped (fault.Syntax at) = r.failed
stopped (fault.TooMany at) = r.too_many

abbrev pub fault_offset : SyntaxFault → ℕ
fault_offset (fault.Syntax at) = at
fault_offset (fault.TooMany at) = at
