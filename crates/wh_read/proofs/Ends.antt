-- From each place of the machine some tokens lead to the end of a system text. They open nothing.
use Rattle.std.proofs.Common.{◌≡◌, ℕ, Bool, List, [], ◌∷◌, ◌++◌, refl, ap, ◌∙◌, codes}
use Rattle.wh_read.specs.Written.{WType, only, arrow, WAtype, sort_name, type_in, WTerm, lambda, atoms, WAtom, plain_name, typed_variable, term_in, WAtoms, no_atoms, no_brackets, WDeclared, nothing, WSystem}
use Rattle.wh_text.specs.Tokens.{name}
use Rattle.wh_text.specs.RawTree.{named_binder}
use Rattle.wh_read.specs.Spelled.{Placed, token, mark}
use Rattle.wh_read.specs.Lexemes.{Lexeme, semicolon, close_paren, close_bracket, close_brace, thick_arrow}
use Rattle.wh_read.proofs.Machine.{SomeAtoms, no_atoms_yet, atoms_so_far, add_atom, next_atoms, all_types, all_terms, all_metas, RuleStart, MetaStart, Where, on_left, on_right, in_body, in_paren, in_bracket, TypeWhere, of_fun, in_brackets, of_meta, behind_arrow, in_type_paren, AtypeWhere, in_type, of_binder, of_variable, Place, behind_sort, sort_named, behind_fun, fun_named, behind_rule, want_meta, meta_named, meta_colon, want_atype, behind_atype, behind_lambda, binder_named, binder_typed, want_atom, behind_name, behind_percent, State, between, inside, had_atype, with_fun, the_meta, with_rule, left_of, type_ended, term_ended, run}
use Rattle.wh_read.proofs.LexemeLaws.{kind_of}
use Rattle.wh_read.proofs.Complete.{goes, EndsType, EndsTerm, type_ends, spine_ends, plain_ends, plain_run}

-- the tokens lead from the state to the end of a text
abbrev pub ReachesText : Bool → State → List Placed → Type 0
ReachesText b s r = (w : WSystem) × (run b s r ≡ between w)

ends_same : (b : Bool) (s t : State) (q r : List Placed) → run b s q ≡ run b t r → ReachesText b t r → ReachesText b s q
ends_same b s t q r e h = (h.0, e ∙ h.1)

-- a name, and the tokens that end what began before
abbrev some_name : Placed
some_name = token (name (codes "x")) 0

abbrev right_side : List Placed
right_side = some_name ∷ mark (codes ";") 0 ∷ []

abbrev sides : List Placed
sides = some_name ∷ mark (codes "=>") 0 ∷ right_side

abbrev pub closing_letter : Where → Lexeme
closing_letter (on_left h) = thick_arrow
closing_letter (on_right h left arrow_at) = semicolon
closing_letter (in_body at x x_at colon_at a dot_at w) = closing_letter w
closing_letter (in_paren open_at us w) = close_paren
closing_letter (in_bracket x at open_at before us w) = close_bracket

abbrev pub closing_rest : Where → List Placed
closing_rest (on_left h) = right_side
closing_rest (on_right h left arrow_at) = []
closing_rest (in_body at x x_at colon_at a dot_at w) = closing_rest w
closing_rest (in_paren open_at us w) = token (kind_of (closing_letter w)) 0 ∷ closing_rest w
closing_rest (in_bracket x at open_at before us w) = token (kind_of (closing_letter w)) 0 ∷ closing_rest w

abbrev pub closing : Where → List Placed
closing w = token (kind_of (closing_letter w)) 0 ∷ closing_rest w

closing_ends : (w : Where) → EndsTerm (closing_letter w)
closing_ends (on_left h) = tt
closing_ends (on_right h left arrow_at) = tt
closing_ends (in_body at x x_at colon_at a dot_at w) = closing_ends w
closing_ends (in_paren open_at us w) = tt
closing_ends (in_bracket x at open_at before us w) = tt

-- what holds of every term that stands there
abbrev TermEnds : Bool → Where → Type 0
TermEnds b w = (t : WTerm) → ReachesText b (term_ended w t (closing_letter w) 0) (closing_rest w)

spine_closes : (b : Bool) (us : SomeAtoms) (u : WAtom) (w : Where) → TermEnds b w → ReachesText b (inside (want_atom (next_atoms us u) w)) (closing w)
spine_closes b no_atoms_yet u w h =
    ends_same b (inside (want_atom (atoms_so_far u no_atoms) w)) (term_ended w (atoms u no_atoms) (closing_letter w) 0) (closing w) (closing_rest w)
    (goes b (want_atom (atoms_so_far u no_atoms) w) (closing_letter w) 0 (closing_rest w) ∙ ap (λ (s : State). run b s (closing_rest w)) (spine_ends b u no_atoms w (closing_letter w) 0 (closing_ends w))) (h (atoms u no_atoms))
spine_closes b (atoms_so_far v us) u w h =
    let vs : WAtoms = add_atom us u in
    ends_same b (inside (want_atom (atoms_so_far v vs) w)) (term_ended w (atoms v vs) (closing_letter w) 0) (closing w) (closing_rest w)
    (goes b (want_atom (atoms_so_far v vs) w) (closing_letter w) 0 (closing_rest w) ∙ ap (λ (s : State). run b s (closing_rest w)) (spine_ends b v vs w (closing_letter w) 0 (closing_ends w))) (h (atoms v vs))

term_ends : (b : Bool) (w : Where) → TermEnds b w
term_ends b (on_left h) t = (with_rule h t 0 (atoms (plain_name (codes "x") 0) no_atoms) 0, refl)
term_ends b (on_right h left arrow_at) t = (with_rule h left arrow_at t 0, refl)
term_ends b (in_body at x x_at colon_at a dot_at w) t = term_ends b w (lambda at x x_at colon_at a dot_at t)
term_ends b (in_paren open_at us w) t = spine_closes b us (term_in open_at t 0) w (term_ends b w)
term_ends b (in_bracket x at open_at before us w) t = spine_closes b us (all_terms x at open_at before t 0) w (term_ends b w)

-- a spine that goes on, a name that stands there, and a term that begins there
spine_ends_here : (b : Bool) (us : SomeAtoms) (u : WAtom) (w : Where) → ReachesText b (inside (want_atom (next_atoms us u) w)) (closing w)
spine_ends_here b us u w = spine_closes b us u w (term_ends b w)

name_ends : (b : Bool) (x : List ℕ) (at : ℕ) (us : SomeAtoms) (w : Where) → ReachesText b (inside (behind_name x at us w)) (closing w)
name_ends b x at us w =
    ends_same b (inside (behind_name x at us w)) (inside (want_atom (next_atoms us (plain_name x at)) w)) (closing w) (closing w)
    (plain_run b x at us w (closing w) (plain_ends (closing_letter w) 0 (closing_rest w) (closing_ends w))) (spine_ends_here b us (plain_name x at) w)

abbrev mutual
  pub type_letter : TypeWhere → Lexeme
  type_letter (of_fun f) = semicolon
  type_letter (in_brackets m colon_at open_at before) = close_bracket
  type_letter (of_meta m colon_at args) = close_brace
  type_letter (behind_arrow a arrow_at c) = type_letter c
  type_letter (in_type_paren open_at c) = close_paren

  pub type_rest : TypeWhere → List Placed
  type_rest (of_fun f) = []
  type_rest (in_brackets m colon_at open_at before) = some_name ∷ mark (codes "}") 0 ∷ sides
  type_rest (of_meta m colon_at args) = sides
  type_rest (behind_arrow a arrow_at c) = type_rest c
  type_rest (in_type_paren open_at c) = atype_rest c

  pub atype_rest : AtypeWhere → List Placed
  atype_rest (in_type c) = token (kind_of (type_letter c)) 0 ∷ type_rest c
  atype_rest (of_binder at x x_at colon_at w) = mark (codes ".") 0 ∷ some_name ∷ closing w
  atype_rest (of_variable n at colon_at us w) = closing w

type_letter_ends : (c : TypeWhere) → EndsType (type_letter c)
type_letter_ends (of_fun f) = tt
type_letter_ends (in_brackets m colon_at open_at before) = tt
type_letter_ends (of_meta m colon_at args) = tt
type_letter_ends (behind_arrow a arrow_at c) = type_letter_ends c
type_letter_ends (in_type_paren open_at c) = tt

mutual
  type_ends_here : (b : Bool) (c : TypeWhere) (t : WType) → ReachesText b (type_ended c t (type_letter c) 0) (type_rest c)
  type_ends_here b (of_fun f) t = (with_fun f t 0, refl)
  type_ends_here b (in_brackets m colon_at open_at before) t =
      (with_rule (record { start = m.start; metas = all_metas m.before (the_meta m colon_at (all_types open_at before t 0) (only (sort_name (codes "x") 0))); close_at = 0 }) (atoms (plain_name (codes "x") 0) no_atoms) 0 (atoms (plain_name (codes "x") 0) no_atoms) 0, refl)
  type_ends_here b (of_meta m colon_at args) t =
      (with_rule (record { start = m.start; metas = all_metas m.before (the_meta m colon_at args t); close_at = 0 }) (atoms (plain_name (codes "x") 0) no_atoms) 0 (atoms (plain_name (codes "x") 0) no_atoms) 0, refl)
  type_ends_here b (behind_arrow a arrow_at c) t = type_ends_here b c (arrow a arrow_at t)
  type_ends_here b (in_type_paren open_at c) t = atype_ends_here b c (type_in open_at t 0)

  atype_ends_here : (b : Bool) (c : AtypeWhere) (a : WAtype) → ReachesText b (inside (had_atype c a)) (atype_rest c)
  atype_ends_here b (in_type c) a =
      ends_same b (inside (behind_atype c a)) (type_ended c (only a) (type_letter c) 0) (atype_rest (in_type c)) (type_rest c)
      (goes b (behind_atype c a) (type_letter c) 0 (type_rest c) ∙ ap (λ (s : State). run b s (type_rest c)) (type_ends b c a (type_letter c) 0 (type_letter_ends c))) (type_ends_here b c (only a))
  atype_ends_here b (of_binder at x x_at colon_at w) a = name_ends b (codes "x") 0 no_atoms_yet (in_body at x x_at colon_at a 0 w)
  atype_ends_here b (of_variable n at colon_at us w) a = spine_ends_here b us (typed_variable n at colon_at a) w

-- the tokens that lead from a place to the end of a text
abbrev pub finish : Place → List Placed
finish (behind_sort ss at) = right_side
finish (sort_named ss at x x_at) = mark (codes ";") 0 ∷ []
finish (behind_fun ss fs at) = some_name ∷ mark (codes ":") 0 ∷ right_side
finish (fun_named ss fs at x x_at) = mark (codes ":") 0 ∷ right_side
finish (behind_rule s at) = mark (codes "{") 0 ∷ mark (codes "}") 0 ∷ sides
finish (want_meta u before) = some_name ∷ mark (codes ":") 0 ∷ some_name ∷ mark (codes "}") 0 ∷ sides
finish (meta_named m) = mark (codes ":") 0 ∷ some_name ∷ mark (codes "}") 0 ∷ sides
finish (meta_colon m colon_at) = some_name ∷ mark (codes "}") 0 ∷ sides
finish (want_atype c) = some_name ∷ atype_rest c
finish (behind_atype c a) = atype_rest (in_type c)
finish (behind_lambda at w) = some_name ∷ mark (codes ":") 0 ∷ some_name ∷ mark (codes ".") 0 ∷ some_name ∷ closing w
finish (binder_named at x x_at w) = mark (codes ":") 0 ∷ some_name ∷ mark (codes ".") 0 ∷ some_name ∷ closing w
finish (binder_typed at x x_at colon_at a w) = mark (codes ".") 0 ∷ some_name ∷ closing w
finish (want_atom us w) = some_name ∷ closing w
finish (behind_name x at us w) = closing w
finish (behind_percent n at us w) = mark (codes ":") 0 ∷ some_name ∷ closing w

abbrev some_type : WAtype
some_type = sort_name (codes "x") 0

abbrev some_term : WTerm
some_term = atoms (plain_name (codes "x") 0) no_atoms

rule_of : (b : Bool) (u : RuleStart) (metas : WDeclared) → ReachesText b (left_of u metas 0) sides
rule_of b u metas = (with_rule (record { start = u; metas = metas; close_at = 0 }) some_term 0 some_term 0, refl)

meta_of : (b : Bool) (m : MetaStart) (colon_at : ℕ) → ReachesText b (inside (meta_colon m colon_at)) (some_name ∷ mark (codes "}") 0 ∷ sides)
meta_of b m colon_at = rule_of b m.start (all_metas m.before (the_meta m colon_at no_brackets (only some_type)))

pub place_ends : (b : Bool) (p : Place) → ReachesText b (inside p) (finish p)
place_ends b (behind_sort ss at) = (record { sorts = ss ++ record { at = at; name = codes "x"; name_at = 0; end_at = 0 } ∷ []; funs = []; rules = [] }, refl)
place_ends b (sort_named ss at x x_at) = (record { sorts = ss ++ record { at = at; name = x; name_at = x_at; end_at = 0 } ∷ []; funs = []; rules = [] }, refl)
place_ends b (behind_fun ss fs at) = (with_fun (record { sorts = ss; funs = fs; at = at; name = codes "x"; name_at = 0; colon_at = 0 }) (only some_type) 0, refl)
place_ends b (fun_named ss fs at x x_at) = (with_fun (record { sorts = ss; funs = fs; at = at; name = x; name_at = x_at; colon_at = 0 }) (only some_type) 0, refl)
place_ends b (behind_rule s at) = rule_of b (record { before = s; at = at; open_at = 0 }) nothing
place_ends b (want_meta u before) = meta_of b (record { start = u; before = before; name = codes "x"; name_at = 0 }) 0
place_ends b (meta_named m) = meta_of b m 0
place_ends b (meta_colon m colon_at) = meta_of b m colon_at
place_ends b (want_atype c) = atype_ends_here b c some_type
place_ends b (behind_atype c a) = atype_ends_here b (in_type c) a
place_ends b (behind_lambda at w) = name_ends b (codes "x") 0 no_atoms_yet (in_body at (named_binder (codes "x")) 0 0 some_type 0 w)
place_ends b (binder_named at x x_at w) = name_ends b (codes "x") 0 no_atoms_yet (in_body at x x_at 0 some_type 0 w)
place_ends b (binder_typed at x x_at colon_at a w) = name_ends b (codes "x") 0 no_atoms_yet (in_body at x x_at colon_at a 0 w)
place_ends b (want_atom us w) = name_ends b (codes "x") 0 us w
place_ends b (behind_name x at us w) = name_ends b x at us w
place_ends b (behind_percent n at us w) = spine_ends_here b us (typed_variable n at 0 some_type) w
