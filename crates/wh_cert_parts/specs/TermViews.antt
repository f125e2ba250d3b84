-- The states of the reader of terms that the values of its code stand for.
use Rattle.std.specs.Prelude.{List, [], ◌∷◌, Option, Some, None}
use Rattle.wh_text.specs.Erase.{rty, rtm, rtms}
use Rattle.wh_cert_parts.specs.TermMachine as m
use Rattle.wh_cert_parts.specs.TypeViews.{type_stack, type_place}
use Rattle.wh_cert_parts.specs.declared.term_reader.Frame.{Frame}
use Rattle.wh_cert_parts.specs.declared.term_reader.Frame.TheVariants.{Head, Spine, Body}
use Rattle.wh_cert_parts.specs.declared.term_reader.Typed.{Typed}
use Rattle.wh_cert_parts.specs.declared.term_reader.Typed.TheVariants as of
use Rattle.wh_cert_parts.specs.declared.term_reader.TermPlace.{TermPlace}
use Rattle.wh_cert_parts.specs.declared.term_reader.TermPlace.TheVariants.{Wanted, Opened, HeadOpened, Name, Dollar, Bound, Percent, Free, Slash, Binder, BinderNumber, Typing, Closed}
use Rattle.wh_cert_parts.specs.declared.term_reader.TermStep.{TermStep}
use Rattle.wh_cert_parts.specs.declared.term_reader.TermStep.TheVariants.{Goes, Whole, Wrong}

-- a parenthesis inside others
abbrev pub framed : Frame → m.Stack → m.Stack
framed Head fs = m.in_head fs
framed (Spine head args) fs = m.in_spine (rtm head.value) (rtms args) fs
framed (Body n a) fs = m.in_body n (rty a.value) fs

-- the open parentheses of the list, from the outermost on, inside those given
abbrev pub framed_in : m.Stack → List Frame → m.Stack
framed_in fs [] = fs
framed_in fs (f ∷ rest) = framed_in (framed f fs) rest

abbrev pub term_stack : List Frame → m.Stack
term_stack = framed_in m.base

abbrev pub typed_of : Typed → m.Typed
typed_of (of.Variable n) = m.of_free n
typed_of (of.Binder n) = m.of_binder n

abbrev pub term_place : TermPlace → m.Place
term_place Wanted = m.wanted
term_place Opened = m.opened
term_place HeadOpened = m.head_opened
term_place (Name letters) = m.letters letters
term_place Dollar = m.dollar
term_place (Bound n) = m.bound_number n
term_place Percent = m.percent
term_place (Free n) = m.free_number n
term_place Slash = m.slash
term_place Binder = m.binder
term_place (BinderNumber n) = m.binder_number n
term_place (Typing purpose text) = m.typing (typed_of purpose) (type_stack text.value.stack.items) (type_place text.value.place)
term_place (Closed t) = m.closed (rtm t.value)

-- a step that left these parentheses open
abbrev pub term_went : List Frame → TermStep → m.State
term_went stack (Goes place) = m.at (term_stack stack) (term_place place)
term_went stack (Whole t) = m.whole (rtm t.value)
term_went stack Wrong = m.failed

-- on to a place inside these parentheses, or else as is said
abbrev pub begun : m.Stack → Option TermPlace → m.State → m.State
begun fs (Some place) other = m.at fs (term_place place)
begun fs None other = other
