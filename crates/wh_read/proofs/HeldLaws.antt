-- What the reader's lists and trees stand for once they have grown by one.
use Rattle.std.proofs.Common.{◌≡◌, ℕ, zero, suc, ◌+◌, ◌<◌, ◌≤◌, List, [], ◌∷◌, ◌++◌, map, length, Option, None, Some, option_map, is_some, Box, Global, refl, sym, ap, ◌∙◌, arith, Vec, vec_len, ◌==◌, Bool, false, true≢false, nat_lt, lt-ltb, if◌then◌else◌, Result, Ok, Err, IfOk}
use Rattle.std.proofs.lemmas.Bool.{le-ltb}
use Rattle.std.proofs.lemmas.List.{map-append}
use Rattle.wh_text.specs.RawTree.{RTy, raw_type, RTys, no_types, more_types, RTm, named, lam, spine, RTms, more}
use Rattle.wh_text.specs.Erase.{rty, rtys, rtm, rtms}
use Rattle.wh_text.specs.declared.raw.RawType.{RawType, out-RawType}
use Rattle.wh_text.specs.declared.raw.RawTerm.{RawTerm, Spine}
use Rattle.wh_text.proofs.RawLemmas.{rty_parts, rtm_of_spine}
use Rattle.wh_system_parts.specs.Parts.{RParts}
use Rattle.wh_system_parts.specs.Erase.{rname, rmeta}
use Rattle.wh_system_parts.specs.declared.parts.RawName.{RawName}
use Rattle.wh_system_parts.specs.declared.parts.RawMeta.{RawMeta}
use Rattle.wh_read.specs.declared.lexeme.Lexeme.{Lexeme}
use Rattle.wh_read.specs.declared.lexeme.Lexeme.TheVariants.{CloseParen, OpenBracket}
use Rattle.wh_read.specs.declared.place.Step.{Step}
use Rattle.wh_read.specs.declared.place.Frame.{Frame}
use Rattle.wh_read.specs.declared.place.OpenRule.{OpenRule}
use Rattle.wh_read.specs.declared.place.Frame.TheVariants.{Body, Paren, Bracket}
use Rattle.wh_read.specs.Lexemes as s
use Rattle.wh_read.specs.Held as held
use Rattle.wh_read.specs.Reader as r

pub rtys_append : (xs ys : List RawType) → rtys (xs ++ ys) ≡ r.join_types (rtys xs) (rtys ys)
rtys_append [] ys = refl
rtys_append (x ∷ xs) ys = ap (more_types (rty x)) (rtys_append xs ys)

pub rtms_push : (xs : List RawTerm) (t : RawTerm) → rtms (xs ++ t ∷ []) ≡ r.add_term (rtms xs) (rtm t)
rtms_push [] t = refl
rtms_push (x ∷ xs) t = ap (more (rtm x)) (rtms_push xs t)

-- one more type, or term, at the end of a list
pub types_grow : (old new : List RawType) (a : RawType) → new ≡ old ++ a ∷ [] → rtys new ≡ r.add_type (rtys old) (rty a)
types_grow old new a e = ap rtys e ∙ rtys_append old (a ∷ [])

pub terms_grow : (old new : List RawTerm) (t : RawTerm) → new ≡ old ++ t ∷ [] → rtms new ≡ r.add_term (rtms old) (rtm t)
terms_grow old new t e = ap rtms e ∙ rtms_push old t

-- the type whose arguments are those of b behind others
pub with_joined : (args new : List RawType) (b : RawType) → new ≡ args ++ (out-RawType b).args → raw_type (rtys new) (out-RawType b).sort (out-RawType b).at ≡ r.with_arguments (rtys args) (rty b)
with_joined args new b e =
    ap (λ (ts : List RawType). raw_type (rtys ts) (out-RawType b).sort (out-RawType b).at) e
    ∙ ap (λ (ts : RTys). raw_type ts (out-RawType b).sort (out-RawType b).at) (rtys_append args (out-RawType b).args)
    ∙ sym (ap (r.with_arguments (rtys args)) (rty_parts b))

-- a spine with one more argument
pub spine_longer : (t : RawTerm) (h : Box RawTerm Global) (old new : List RawTerm) (u : RawTerm) (at : ℕ) → t ≡ Spine h new at → new ≡ old ++ u ∷ [] → rtm t ≡ spine (rtm h.value) (r.add_term (rtms old) (rtm u)) at
spine_longer t h old new u at e f = rtm_of_spine t h new at e ∙ ap (λ (ts : RTms). spine (rtm h.value) ts at) (terms_grow old new u f)

pub applied_spine : (t : RawTerm) (h : Box RawTerm Global) (ts : List RawTerm) (at : ℕ) (u : RTm) → t ≡ Spine h ts at → r.applied (Some (rtm t)) u ≡ spine (rtm h.value) (r.add_term (rtms ts) u) at
applied_spine t h ts at u e = ap (λ (s : RTm). r.applied (Some s) u) (rtm_of_spine t h ts at e)

-- stacks, the innermost last
pub frames_push : (w : r.Frames) (xs ys : List Frame) (f : Frame) → ys ≡ xs ++ f ∷ [] → held.frames_in w ys ≡ held.frame f (held.frames_in w xs)
frames_push w xs ys f e = ap (held.frames_in w) e ∙ pushed w xs
  where
    pushed : (v : r.Frames) (zs : List Frame) → held.frames_in v (zs ++ f ∷ []) ≡ held.frame f (held.frames_in v zs)
    pushed v [] = refl
    pushed v (z ∷ zs) = pushed (held.frame z v) zs

pub outer_push : (b : List RTys) (xs ys : List (List RawType)) (t : List RawType) → ys ≡ xs ++ t ∷ [] → held.types_in b ys ≡ rtys t ∷ held.types_in b xs
outer_push b xs ys t e = ap (held.types_in b) e ∙ pushed b xs
  where
    pushed : (v : List RTys) (zs : List (List RawType)) → held.types_in v (zs ++ t ∷ []) ≡ rtys t ∷ held.types_in v zs
    pushed v [] = refl
    pushed v (z ∷ zs) = pushed (rtys z ∷ v) zs

level_frame : (f : Frame) (w : r.Frames) → r.level (held.frame f w) ≡ r.level w + 1
level_frame (Body x a at) w = refl
level_frame (Paren before) w = refl
level_frame (Bracket x args before) w = refl

pub level_in : (w : r.Frames) (xs : List Frame) → r.level (held.frames_in w xs) ≡ r.level w + length xs
level_in w [] = omega arith
level_in w (x ∷ xs) =
    let rest = level_in (held.frame x w) xs in
    let one = level_frame x w in
    omega (arith, rest, one)

pub level_is : (xs : List Frame) → r.level (held.frames_in r.no_frames xs) ≡ length xs
level_is xs =
    let all = level_in r.no_frames xs in
    omega (arith, all)

pub outer_in : (b : List RTys) (xs : List (List RawType)) → length (held.types_in b xs) ≡ length b + length xs
outer_in b [] = omega arith
outer_in b (x ∷ xs) =
    let rest = outer_in (rtys x ∷ b) xs in
    omega (arith, rest)

pub outer_is : (xs : List (List RawType)) → length (held.types_in [] xs) ≡ length xs
outer_is xs =
    let all = outer_in [] xs in
    omega (arith, all)

pub level_of : (v : Vec Frame Global) → r.level (held.frames_in r.no_frames v.items) ≡ vec_len v
level_of v = level_is v.items ∙ sym v.ok.0

pub outer_of : (v : Vec (List RawType) Global) → length (held.types_in [] v.items) ≡ vec_len v
outer_of v = outer_is v.items ∙ sym v.ok.0

-- with a parenthesis around it a part of a type is only a part
had_within : (parts : RParts) (u : r.Use) (args : RTys) (outer : List RTys) (a : RTy) → 0 < length outer → r.had_atype parts u args outer a ≡ r.inside parts (r.behind_atype u (record { args = args; outer = outer }) a)
had_within parts u args [] a h = absurd (omega (arith, h))
had_within parts u args (b ∷ bs) a h = refl

pub had_inner : (parts : RParts) (u : r.Use) (args : RTys) (v : Vec (List RawType) Global) (a : RTy) → (vec_len v == 0) ≡ false → r.inside parts (r.behind_atype u (record { args = args; outer = held.types_in [] v.items }) a) ≡ r.had_atype parts u args (held.types_in [] v.items) a
had_inner parts u args v a h =
    let some : 0 < length (held.types_in [] v.items) = above (vec_len v) (length (held.types_in [] v.items)) (outer_of v) h in
    sym (had_within parts u args (held.types_in [] v.items) a some)
  where
    above : (n m : ℕ) → m ≡ n → (n == 0) ≡ false → 0 < m
    above zero m e f = absurd (true≢false f)
    above (suc n) m e f = omega (arith, e)

-- a level opens, or is one too many
pub open_under : (parts : RParts) (k n m : ℕ) (p : r.Place) → k ≡ m → m < n → r.opened parts k n p ≡ r.inside parts p
open_under parts k n m p e h = ap (λ (c : Bool). if c then r.inside parts p else r.too_many) (lt-ltb k n (omega (arith, e, h)))

pub open_over : (parts : RParts) (k n m : ℕ) (p : r.Place) → k ≡ m → n ≤ m → r.opened parts k n p ≡ r.too_many
open_over parts k n m p e h = ap (λ (c : Bool). if c then r.inside parts p else r.too_many) (le-ltb k n (omega (arith, e, h)))

-- whether a level opens, by the test of its depth
pub open_tested : (parts : RParts) (k n m : ℕ) (b : Bool) (p : r.Place) → k ≡ m → nat_lt m n ≡ b → r.opened parts k n p ≡ (if b then r.inside parts p else r.too_many)
open_tested parts k n m b p e h = ap (λ (c : Bool). if c then r.inside parts p else r.too_many) (ap (λ (x : ℕ). nat_lt x n) e ∙ h)

-- where no atom stands before it an abstraction opens a level
pub begins_empty : (parts : RParts) (u : r.OpenRule) (before : Option RawTerm) (at : ℕ) → is_some before ≡ false → r.lambda_begins parts u (option_map rtm before) at ≡ r.open_term parts u (r.behind_lambda u at)
begins_empty parts u None at e = refl
begins_empty parts u (Some t) at e = absurd (true≢false e)

-- one more meta-variable
pub metas_grow : (old new : List RawMeta) (x : RawName) (args : List RawType) (out : RawType) → new ≡ old ++ record { name = x; args = args; result = out } ∷ [] → map rmeta new ≡ map rmeta old ++ record { name = rname x; args = rtys args; out = rty out } ∷ []
metas_grow old new x args out e =
    ap (map rmeta) e ∙ map-append rmeta old _

-- in a parenthesis a type ends at nothing but the closing one
pub paren_wanted : (parts : RParts) (u : r.Use) (args : RTys) (outer : List RTys) (a : RTy) (l : Lexeme) → (l ≡ CloseParen → ⊥) → r.inner_type_ended parts u args outer a (held.letter l) ≡ r.failed
paren_wanted parts u args outer a CloseParen h = absurd (h refl)
paren_wanted parts u args outer a l h = refl

-- behind the colon of a meta-variable, with no bracket
pub no_bracket : (parts : RParts) (m : r.OpenMeta) (l : Lexeme) (at : ℕ) → (l ≡ OpenBracket → ⊥) → r.at_atype parts (r.of_meta m no_types) r.new_type (held.letter l) at ≡ r.behind_colon parts m (held.letter l) at
no_bracket parts m OpenBracket at h = absurd (h refl)
no_bracket parts m l at h = refl

-- what is said of a step holds along an equation
pub step_along : {E : Type 0} (result : Result Step E) (f g : RParts → r.State) → ((parts : RParts) → f parts ≡ g parts) → IfOk result (λ step. (parts : RParts) → held.state parts step ≡ f parts) → IfOk result (λ step. (parts : RParts) → held.state parts step ≡ g parts)
step_along (Ok step) f g e h = λ parts. h parts ∙ e parts
step_along (Err x) f g e h = h

-- where two states are equal, a step that leads to the one leads to the other
pub state_along : {E : Type 0} (result : Result Step E) (parts : RParts) (f g : r.State) → f ≡ g → IfOk result (λ step. held.state parts step ≡ f) → IfOk result (λ step. held.state parts step ≡ g)
state_along (Ok step) parts f g e h = h ∙ e
state_along (Err x) parts f g e h = h

pub state_at : {E : Type 0} (result : Result Step E) (parts : RParts) (f : RParts → r.State) (g : r.State) → f parts ≡ g → IfOk result (λ step. (parts : RParts) → held.state parts step ≡ f parts) → IfOk result (λ step. held.state parts step ≡ g)
state_at (Ok step) parts f g e h = h parts ∙ e
state_at (Err x) parts f g e h = h

-- where a term ends only the frames that are passed count
side_apart : (parts : RParts) (u : r.OpenRule) (v : r.Frames) (left : Option RTm) (t : RTm) (l : s.Lexeme) → r.side_ended parts (r.with_frames u v) left t l ≡ r.side_ended parts u left t l
side_apart parts u v None t s.thick_arrow = refl
side_apart parts u v (Some left) t s.semicolon = refl
side_apart parts u v left t l = refl

pub frames_apart : (parts : RParts) (u : r.OpenRule) (v w : r.Frames) (t : RTm) (l : s.Lexeme) → r.term_ended parts (r.with_frames u v) w t l ≡ r.term_ended parts u w t l
frames_apart parts u v r.no_frames t l = side_apart parts u v u.left t l
frames_apart parts u v (r.body x a at w) t l = frames_apart parts u v w (lam x a t at) l
frames_apart parts u v (r.paren before w) t s.close_paren = refl
frames_apart parts u v (r.paren before w) t l = refl
frames_apart parts u v (r.bracket n at args before w) t s.comma = refl
frames_apart parts u v (r.bracket n at args before w) t s.close_bracket = refl
frames_apart parts u v (r.bracket n at args before w) t l = refl

-- the innermost frame is the last one
pub term_under : (parts : RParts) (u : r.OpenRule) (xs ys : List Frame) (f frame : Frame) (t : RTm) (l : s.Lexeme) → xs ≡ ys ++ f ∷ [] → f ≡ frame → r.term_ended parts (r.with_frames u (held.frames_in r.no_frames ys)) (held.frame frame (held.frames_in r.no_frames ys)) t l ≡ r.term_ended parts u (held.frames_in r.no_frames xs) t l
term_under parts u xs ys f frame t l e h =
    frames_apart parts u (held.frames_in r.no_frames ys) (held.frame frame (held.frames_in r.no_frames ys)) t l ∙ ap (λ (k : Frame). r.term_ended parts u (held.frame k (held.frames_in r.no_frames ys)) t l) (sym h)
    ∙ ap (λ (w : r.Frames). r.term_ended parts u w t l) (sym (frames_push r.no_frames ys xs f e))

pub ended_there : (parts : RParts) (u v : OpenRule) (t : RTm) (l : s.Lexeme) → u ≡ v → r.term_ended parts (held.open_rule u) (held.open_rule u).frames t l ≡ r.term_ended parts (held.open_rule v) (held.open_rule v).frames t l
ended_there parts u v t l e = ap (λ (w : OpenRule). r.term_ended parts (held.open_rule w) (held.open_rule w).frames t l) e

-- behind a name, with no bracket
pub no_application : (parts : RParts) (u : r.OpenRule) (before : Option RTm) (n : List ℕ) (n_at : ℕ) (l : Lexeme) (at : ℕ) → (l ≡ OpenBracket → ⊥) → r.at_atom parts u (r.next before (named n n_at)) (held.letter l) at ≡ r.behind_plain parts u before n n_at (held.letter l) at
no_application parts u before n n_at OpenBracket at h = absurd (h refl)
no_application parts u before n n_at l at h = refl

-- what the place where an atom may begin holds
abbrev atom_state : RParts → s.Lexeme → ℕ → r.Place → r.State
atom_state parts l at (r.want_atom u before) = r.at_atom parts u before l at
atom_state parts l at p = r.failed

pub atom_after : (parts : RParts) (u v : r.OpenRule) (before other : Option RTm) (l : s.Lexeme) (at : ℕ) → r.want_atom u before ≡ r.want_atom v other → r.at_atom parts u before l at ≡ r.at_atom parts v other l at
atom_after parts u v before other l at e = ap (atom_state parts l at) e
