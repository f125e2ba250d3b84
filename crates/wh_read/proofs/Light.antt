-- The reader holds what the machine over written trees holds, with what is said in place of what is written.
use Rattle.std.proofs.Common.{◌≡◌, ℕ, ◌+◌, Bool, true, false, List, [], ◌∷◌, ◌++◌, map, length, Option, None, Some, refl, ap, ◌∙◌, nat_lt, if◌then◌else◌, suc, arith}
use Rattle.wh_text.specs.RawTree.{RTy, raw_type, RTys, no_types as no_rtys, more_types as more_rtys, RTm, named, numbered, free_variable, meta, lam, spine, RTms, none, more}
use Rattle.wh_system_parts.specs.Parts.{RMeta, RParts}
use Rattle.wh_read.specs.Written.{WType, only, arrow, WAtype, sort_name, type_in, WTerm, lambda, atoms, WAtom, plain_name, number, typed_variable, term_in, WAtoms, no_atoms, more_atoms, WTerms, no_terms, more_terms, WTypes, no_types, more_types, WBrackets, no_brackets, WMeta, WMetas, no_metas, more_metas, WSort, WFun, WRule, WSystem}
use Rattle.wh_read.specs.Spelled.{Placed}
use Rattle.wh_read.specs.Raw.{with_argument, said_type, said_atype, join, spined, said_term, said_atom, said_atoms, said_terms, said_types, said_brackets, said_meta, said_metas, said_declared, said_sort, said_fun, said_rule, said}
use Rattle.wh_read.specs.Lexemes.{Lexeme, a_name, a_dollar, a_percent, key_sort, key_fun, key_rule, backslash, colon, dot, semicolon, comma, open_paren, close_paren, open_bracket, close_bracket, open_brace, close_brace, thin_arrow, thick_arrow, lexeme}
use Rattle.wh_read.specs.Reader as l
use Rattle.wh_read.proofs.Machine.{SomeTypes, no_types_yet, types_so_far, SomeTerms, no_terms_yet, terms_so_far, SomeMetas, no_metas_yet, metas_so_far, SomeAtoms, no_atoms_yet, atoms_so_far, add_type, add_term, add_meta, add_atom, next_types, next_terms, next_metas, next_atoms, all_types, all_terms, all_metas, FunStart, RuleStart, MetaStart, RuleHead, Where, on_left, on_right, in_body, in_paren, in_bracket, TypeWhere, of_fun, in_brackets, of_meta, behind_arrow, in_type_paren, AtypeWhere, in_type, of_binder, of_variable, level, type_level, atype_level, Place, behind_sort, sort_named, behind_fun, fun_named, behind_rule, want_meta, meta_named, meta_colon, want_atype, behind_atype, behind_lambda, binder_named, binder_typed, want_atom, behind_name, behind_percent, State, between, inside, failed, too_many, opened, had_atype, the_meta, type_ended, term_ended, spine_ended, at_atom, behind_plain, at_atype, move, read_some, step, run, lambda_begins, at_meta, at_binder, sort_begins, fun_begins, begin}

-- what is said of the lists so far
abbrev pub types_said : SomeTypes → RTys
types_said no_types_yet = no_rtys
types_said (types_so_far t rest c) = more_rtys (said_type t) (said_types rest)

abbrev pub terms_said : SomeTerms → RTms
terms_said no_terms_yet = none
terms_said (terms_so_far t rest c) = more (said_term t) (said_terms rest)

abbrev pub metas_said : SomeMetas → List RMeta
metas_said no_metas_yet = []
metas_said (metas_so_far m rest c) = said_meta m ∷ said_metas rest

abbrev pub spine_said : SomeAtoms → Option RTm
spine_said no_atoms_yet = None
spine_said (atoms_so_far h rest) = Some (spined (said_atom h) (said_atoms rest))

abbrev pub head_of : Where → RuleHead
head_of (on_left h) = h
head_of (on_right h left arrow_at) = h
head_of (in_body at x x_at colon_at a dot_at w) = head_of w
head_of (in_paren open_at us w) = head_of w
head_of (in_bracket x at open_at before us w) = head_of w

abbrev pub left_said : Where → Option RTm
left_said (on_left h) = None
left_said (on_right h left arrow_at) = Some (said_term left)
left_said (in_body at x x_at colon_at a dot_at w) = left_said w
left_said (in_paren open_at us w) = left_said w
left_said (in_bracket x at open_at before us w) = left_said w

abbrev pub frames : Where → l.Frames
frames (on_left h) = l.no_frames
frames (on_right h left arrow_at) = l.no_frames
frames (in_body at x x_at colon_at a dot_at w) = l.body x (said_atype a) at (frames w)
frames (in_paren open_at us w) = l.paren (spine_said us) (frames w)
frames (in_bracket x at open_at before us w) = l.bracket x at (terms_said before) (spine_said us) (frames w)

abbrev pub rule_of : Where → l.OpenRule
rule_of w = record { metas = said_declared (head_of w).metas; at = (head_of w).start.at; left = left_said w; frames = frames w }

abbrev pub where_parts : Where → RParts
where_parts w = said (head_of w).start.before

abbrev pub metas_of : RuleStart → SomeMetas → l.OpenMetas
metas_of u before = record { metas = metas_said before; at = u.at }

abbrev pub meta_of : MetaStart → l.OpenMeta
meta_of m = record { rule = metas_of m.start m.before; name = record { name = m.name; at = m.name_at } }

abbrev pub fun_parts : List WSort → List WFun → RParts
fun_parts ss fs = record { sorts = map said_sort ss; funs = map said_fun fs; rules = [] }

abbrev mutual
  pub type_use : TypeWhere → l.Use
  type_use (of_fun f) = l.of_fun (record { name = f.name; at = f.name_at })
  type_use (in_brackets m colon_at open_at before) = l.in_brackets (meta_of m) (types_said before)
  type_use (of_meta m colon_at args) = l.of_meta (meta_of m) (said_brackets args)
  type_use (behind_arrow a arrow_at c) = type_use c
  type_use (in_type_paren open_at c) = atype_use c

  pub atype_use : AtypeWhere → l.Use
  atype_use (in_type c) = type_use c
  atype_use (of_binder at x x_at colon_at w) = l.of_binder (rule_of w) x at
  atype_use (of_variable n at colon_at us w) = l.of_variable (rule_of w) (spine_said us) n at

abbrev pub type_args : TypeWhere → RTys
type_args (of_fun f) = no_rtys
type_args (in_brackets m colon_at open_at before) = no_rtys
type_args (of_meta m colon_at args) = no_rtys
type_args (behind_arrow a arrow_at c) = l.add_type (type_args c) (said_atype a)
type_args (in_type_paren open_at c) = no_rtys

abbrev pub atype_args : AtypeWhere → RTys
atype_args (in_type c) = type_args c
atype_args (of_binder at x x_at colon_at w) = no_rtys
atype_args (of_variable n at colon_at us w) = no_rtys

abbrev mutual
  pub type_outer : TypeWhere → List RTys
  type_outer (of_fun f) = []
  type_outer (in_brackets m colon_at open_at before) = []
  type_outer (of_meta m colon_at args) = []
  type_outer (behind_arrow a arrow_at c) = type_outer c
  type_outer (in_type_paren open_at c) = atype_args c ∷ atype_outer c

  pub atype_outer : AtypeWhere → List RTys
  atype_outer (in_type c) = type_outer c
  atype_outer (of_binder at x x_at colon_at w) = []
  atype_outer (of_variable n at colon_at us w) = []

abbrev mutual
  pub type_parts : TypeWhere → RParts
  type_parts (of_fun f) = fun_parts f.sorts f.funs
  type_parts (in_brackets m colon_at open_at before) = said m.start.before
  type_parts (of_meta m colon_at args) = said m.start.before
  type_parts (behind_arrow a arrow_at c) = type_parts c
  type_parts (in_type_paren open_at c) = atype_parts c

  pub atype_parts : AtypeWhere → RParts
  atype_parts (in_type c) = type_parts c
  atype_parts (of_binder at x x_at colon_at w) = where_parts w
  atype_parts (of_variable n at colon_at us w) = where_parts w

abbrev pub opened_type : TypeWhere → l.OpenType
opened_type c = record { args = type_args c; outer = type_outer c }

abbrev pub opened_atype : AtypeWhere → l.OpenType
opened_atype c = record { args = atype_args c; outer = atype_outer c }

-- what the reader holds at a place of the machine, and the parts so far
abbrev pub place : Place → l.Place
place (behind_sort ss at) = l.behind_sort
place (sort_named ss at x x_at) = l.sort_named (record { name = x; at = x_at })
place (behind_fun ss fs at) = l.behind_fun
place (fun_named ss fs at x x_at) = l.fun_named (record { name = x; at = x_at })
place (behind_rule s at) = l.behind_rule at
place (want_meta u before) = l.want_meta (metas_of u before)
place (meta_named m) = l.meta_named (meta_of m)
place (meta_colon m colon_at) = l.meta_colon (meta_of m)
place (want_atype c) = l.want_atype (atype_use c) (opened_atype c)
place (behind_atype c a) = l.behind_atype (type_use c) (opened_type c) (said_atype a)
place (behind_lambda at w) = l.behind_lambda (rule_of w) at
place (binder_named at x x_at w) = l.binder_named (rule_of w) x at
place (binder_typed at x x_at colon_at a w) = l.binder_typed (rule_of w) x (said_atype a) at
place (want_atom us w) = l.want_atom (rule_of w) (spine_said us)
place (behind_name x at us w) = l.behind_name (rule_of w) (spine_said us) x at
place (behind_percent n at us w) = l.behind_percent (rule_of w) (spine_said us) n at

abbrev pub parts : Place → RParts
parts (behind_sort ss at) = fun_parts ss []
parts (sort_named ss at x x_at) = fun_parts ss []
parts (behind_fun ss fs at) = fun_parts ss fs
parts (fun_named ss fs at x x_at) = fun_parts ss fs
parts (behind_rule s at) = said s
parts (want_meta u before) = said u.before
parts (meta_named m) = said m.start.before
parts (meta_colon m colon_at) = said m.start.before
parts (want_atype c) = atype_parts c
parts (behind_atype c a) = type_parts c
parts (behind_lambda at w) = where_parts w
parts (binder_named at x x_at w) = where_parts w
parts (binder_typed at x x_at colon_at a w) = where_parts w
parts (want_atom us w) = where_parts w
parts (behind_name x at us w) = where_parts w
parts (behind_percent n at us w) = where_parts w

abbrev pub light : State → l.State
light (between s) = l.inside (said s) l.between
light (inside p) = l.inside (parts p) (place p)
light failed = l.failed
light too_many = l.too_many

-- lists to which one more was added
map-add : {A B : Type 0} (f : A → B) (xs : List A) (x : A) → map f xs ++ f x ∷ [] ≡ map f (xs ++ x ∷ [])
map-add f [] x = refl
map-add f (y ∷ xs) x = ap (λ ys. f y ∷ ys) (map-add f xs x)

types-add : (ts : WTypes) (c : ℕ) (t : WType) → l.add_type (said_types ts) (said_type t) ≡ said_types (add_type ts c t)
types-add no_types c t = refl
types-add (more_types d u ts) c t = ap (more_rtys (said_type u)) (types-add ts c t)

terms-add : (ts : WTerms) (c : ℕ) (t : WTerm) → l.add_term (said_terms ts) (said_term t) ≡ said_terms (add_term ts c t)
terms-add no_terms c t = refl
terms-add (more_terms d u ts) c t = ap (more (said_term u)) (terms-add ts c t)

metas-add : (ts : WMetas) (c : ℕ) (t : WMeta) → said_metas ts ++ said_meta t ∷ [] ≡ said_metas (add_meta ts c t)
metas-add no_metas c t = refl
metas-add (more_metas d u ts) c t = ap (λ ms. said_meta u ∷ ms) (metas-add ts c t)

atoms-add : (ts : WAtoms) (t : WAtom) → l.add_term (said_atoms ts) (said_atom t) ≡ said_atoms (add_atom ts t)
atoms-add no_atoms t = refl
atoms-add (more_atoms u ts) t = ap (more (said_atom u)) (atoms-add ts t)

join-add : (ts us : RTms) (t : RTm) → l.add_term (join ts us) t ≡ join ts (l.add_term us t)
join-add none us t = refl
join-add (more u ts) us t = ap (more u) (join-add ts us t)

next_types-said : (ts : SomeTypes) (t : WType) (at : ℕ) → l.add_type (types_said ts) (said_type t) ≡ types_said (next_types ts t at)
next_types-said no_types_yet t at = refl
next_types-said (types_so_far u ts c) t at = ap (more_rtys (said_type u)) (types-add ts c t)

all_types-said : (open_at : ℕ) (ts : SomeTypes) (t : WType) (at : ℕ) → l.add_type (types_said ts) (said_type t) ≡ said_brackets (all_types open_at ts t at)
all_types-said open_at no_types_yet t at = refl
all_types-said open_at (types_so_far u ts c) t at = ap (more_rtys (said_type u)) (types-add ts c t)

next_terms-said : (ts : SomeTerms) (t : WTerm) (at : ℕ) → l.add_term (terms_said ts) (said_term t) ≡ terms_said (next_terms ts t at)
next_terms-said no_terms_yet t at = refl
next_terms-said (terms_so_far u ts c) t at = ap (more (said_term u)) (terms-add ts c t)

all_terms-said : (x : List ℕ) (x_at open_at : ℕ) (ts : SomeTerms) (t : WTerm) (at : ℕ) → meta x (l.add_term (terms_said ts) (said_term t)) x_at ≡ said_atom (all_terms x x_at open_at ts t at)
all_terms-said x x_at open_at no_terms_yet t at = refl
all_terms-said x x_at open_at (terms_so_far u ts c) t at = ap (λ us. meta x (more (said_term u) us) x_at) (terms-add ts c t)

next_metas-said : (ts : SomeMetas) (t : WMeta) (at : ℕ) → metas_said ts ++ said_meta t ∷ [] ≡ metas_said (next_metas ts t at)
next_metas-said no_metas_yet t at = refl
next_metas-said (metas_so_far u ts c) t at = ap (λ ms. said_meta u ∷ ms) (metas-add ts c t)

all_metas-said : (ts : SomeMetas) (t : WMeta) → metas_said ts ++ said_meta t ∷ [] ≡ said_declared (all_metas ts t)
all_metas-said no_metas_yet t = refl
all_metas-said (metas_so_far u ts c) t = ap (λ ms. said_meta u ∷ ms) (metas-add ts c t)

spined-add : (h : RTm) (us : RTms) (u : RTm) → l.applied (Some (spined h us)) u ≡ spined h (l.add_term us u)
spined-add (named n at) none u = refl
spined-add (numbered n at) none u = refl
spined-add (free_variable n a at) none u = refl
spined-add (meta n ts at) none u = refl
spined-add (lam x a t at) none u = refl
spined-add (spine h ts at) none u = refl
spined-add (named n at) (more v vs) u = refl
spined-add (numbered n at) (more v vs) u = refl
spined-add (free_variable n a at) (more v vs) u = refl
spined-add (meta n ts at) (more v vs) u = refl
spined-add (lam x a t at) (more v vs) u = refl
spined-add (spine h ts at) (more v vs) u = ap (λ ws. spine h ws at) (join-add ts (more v vs) u)

next_atoms-said : (us : SomeAtoms) (u : WAtom) → l.next (spine_said us) (said_atom u) ≡ spine_said (next_atoms us u)
next_atoms-said no_atoms_yet u = refl
next_atoms-said (atoms_so_far h us) u = ap Some (spined-add (said_atom h) (said_atoms us) (said_atom u) ∙ ap (spined (said_atom h)) (atoms-add us u))

-- types with arguments
with-none : (a : RTy) → l.with_arguments no_rtys a ≡ a
with-none (raw_type own sort at) = refl

join_types-add : (args : RTys) (a : RTy) (own : RTys) → l.join_types (l.add_type args a) own ≡ l.join_types args (more_rtys a own)
join_types-add no_rtys a own = refl
join_types-add (more_rtys b args) a own = ap (more_rtys b) (join_types-add args a own)

with-add : (args : RTys) (a b : RTy) → l.with_arguments (l.add_type args a) b ≡ l.with_arguments args (with_argument a b)
with-add args a (raw_type own sort at) = ap (λ ts. raw_type ts sort at) (join_types-add args a own)

-- levels
level-said : (w : Where) → l.level (frames w) ≡ level w
level-said (on_left h) = refl
level-said (on_right h left arrow_at) = refl
level-said (in_body at x x_at colon_at a dot_at w) = ap (λ n. n + 1) (level-said w)
level-said (in_paren open_at us w) = ap (λ n. n + 1) (level-said w)
level-said (in_bracket x at open_at before us w) = ap (λ n. n + 1) (level-said w)

one_more : (n : ℕ) → suc n ≡ n + 1
one_more n = omega arith

mutual
  type_level-said : (c : TypeWhere) → length (type_outer c) ≡ type_level c
  type_level-said (of_fun f) = refl
  type_level-said (in_brackets m colon_at open_at before) = refl
  type_level-said (of_meta m colon_at args) = refl
  type_level-said (behind_arrow a arrow_at c) = type_level-said c
  type_level-said (in_type_paren open_at c) = one_more (length (atype_outer c)) ∙ ap (λ n. n + 1) (atype_level-said c)

  atype_level-said : (c : AtypeWhere) → length (atype_outer c) ≡ atype_level c
  atype_level-said (in_type c) = type_level-said c
  atype_level-said (of_binder at x x_at colon_at w) = refl
  atype_level-said (of_variable n at colon_at us w) = refl

opened-said : (k j n : ℕ) (p : Place) → k ≡ j → l.opened (parts p) k n (place p) ≡ light (opened true j n p)
opened-said k j n p e = ap (λ i. l.opened (parts p) i n (place p)) e ∙ tested (nat_lt j n)
  where
    tested : (c : Bool) → (if c then l.inside (parts p) (place p) else l.too_many) ≡ light (if c then inside p else too_many)
    tested true = refl
    tested false = refl

-- a part of a type was read
had_in_type : (c : TypeWhere) (ps : RParts) (args : RTys) (a : RTy) → l.had_atype ps (type_use c) args (type_outer c) a ≡ l.inside ps (l.behind_atype (type_use c) (record { args = args; outer = type_outer c }) a)
had_in_type (of_fun f) ps args a = refl
had_in_type (in_brackets m colon_at open_at before) ps args a = refl
had_in_type (of_meta m colon_at later) ps args a = refl
had_in_type (behind_arrow b arrow_at c) ps args a = had_in_type c ps args a
had_in_type (in_type_paren open_at c) ps args a = refl

had_atype-said : (c : AtypeWhere) (a : WAtype) → l.had_atype (atype_parts c) (atype_use c) (atype_args c) (atype_outer c) (said_atype a) ≡ light (inside (had_atype c a))
had_atype-said (in_type c) a = had_in_type c (type_parts c) (type_args c) (said_atype a)
had_atype-said (of_binder at x x_at colon_at w) a = refl
had_atype-said (of_variable n at colon_at us w) a = ap (λ t. l.inside (where_parts w) (l.want_atom (rule_of w) t)) (next_atoms-said us (typed_variable n at colon_at a))

-- a type has ended
fun_ended : (f : FunStart) (t : WType) (k : Lexeme) (at : ℕ) → l.whole_type_ended (type_parts (of_fun f)) (type_use (of_fun f)) (said_type t) k ≡ light (type_ended (of_fun f) t k at)
fun_ended f t semicolon at = ap (λ fs. l.inside (record { sorts = map said_sort f.sorts; funs = fs; rules = [] }) l.between) (map-add said_fun f.funs (record { at = f.at; name = f.name; name_at = f.name_at; colon_at = f.colon_at; kind = t; end_at = at }))
fun_ended f t k at = refl

bracket_ended : (m : MetaStart) (colon_at open_at : ℕ) (before : SomeTypes) (t : WType) (k : Lexeme) (at : ℕ) → l.whole_type_ended (said m.start.before) (l.in_brackets (meta_of m) (types_said before)) (said_type t) k ≡ light (type_ended (in_brackets m colon_at open_at before) t k at)
bracket_ended m colon_at open_at before t comma at = ap (λ ts. l.inside (said m.start.before) (l.want_atype (l.in_brackets (meta_of m) ts) l.new_type)) (next_types-said before t at)
bracket_ended m colon_at open_at before t close_bracket at = ap (λ ts. l.inside (said m.start.before) (l.want_atype (l.of_meta (meta_of m) ts) l.new_type)) (all_types-said open_at before t at)
bracket_ended m colon_at open_at before t k at = refl

meta_ended : (m : MetaStart) (colon_at : ℕ) (args : WBrackets) (t : WType) (k : Lexeme) (at : ℕ) → l.whole_type_ended (said m.start.before) (l.of_meta (meta_of m) (said_brackets args)) (said_type t) k ≡ light (type_ended (of_meta m colon_at args) t k at)
meta_ended m colon_at args t comma at = ap (λ ms. l.inside (said m.start.before) (l.want_meta (record { metas = ms; at = m.start.at }))) (next_metas-said m.before (the_meta m colon_at args t) at)
meta_ended m colon_at args t close_brace at = ap (λ ms. l.inside (said m.start.before) (l.left_of (record { metas = ms; at = m.start.at }))) (all_metas-said m.before (the_meta m colon_at args t))
meta_ended m colon_at args t k at = refl

inner_ended : (open_at : ℕ) (c : AtypeWhere) (t : WType) (k : Lexeme) (at : ℕ) → l.inner_type_ended (atype_parts c) (atype_use c) (atype_args c) (atype_outer c) (said_type t) k ≡ light (type_ended (in_type_paren open_at c) t k at)
inner_ended open_at c t close_paren at = had_atype-said c (type_in open_at t at)
inner_ended open_at c t k at = refl

type_ended-said : (c : TypeWhere) (t : WType) (k : Lexeme) (at : ℕ) → l.type_ended (type_parts c) (type_use c) (type_outer c) (l.with_arguments (type_args c) (said_type t)) k ≡ light (type_ended c t k at)
type_ended-said (of_fun f) t k at =
    ap (λ a. l.whole_type_ended (fun_parts f.sorts f.funs) (type_use (of_fun f)) a k) (with-none (said_type t)) ∙ fun_ended f t k at
type_ended-said (in_brackets m colon_at open_at before) t k at =
    ap (λ a. l.whole_type_ended (said m.start.before) (l.in_brackets (meta_of m) (types_said before)) a k) (with-none (said_type t)) ∙ bracket_ended m colon_at open_at before t k at
type_ended-said (of_meta m colon_at args) t k at =
    ap (λ a. l.whole_type_ended (said m.start.before) (l.of_meta (meta_of m) (said_brackets args)) a k) (with-none (said_type t)) ∙ meta_ended m colon_at args t k at
type_ended-said (behind_arrow a arrow_at c) t k at =
    ap (λ b. l.type_ended (type_parts c) (type_use c) (type_outer c) b k) (with-add (type_args c) (said_atype a) (said_type t)) ∙ type_ended-said c (arrow a arrow_at t) k at
type_ended-said (in_type_paren open_at c) t k at =
    ap (λ a. l.inner_type_ended (atype_parts c) (atype_use c) (atype_args c) (atype_outer c) a k) (with-none (said_type t)) ∙ inner_ended open_at c t k at

-- a term has ended
right_ended : (h : RuleHead) (left : WTerm) (arrow_at : ℕ) (f : l.Frames) (t : WTerm) (k : Lexeme) (at : ℕ) → l.side_ended (said h.start.before) (l.with_frames (rule_of (on_right h left arrow_at)) f) (Some (said_term left)) (said_term t) k ≡ light (term_ended (on_right h left arrow_at) t k at)
right_ended h left arrow_at f t semicolon at =
    ap (λ us. l.inside (record { sorts = map said_sort h.start.before.sorts; funs = map said_fun h.start.before.funs; rules = us }) l.between)
    (map-add said_rule h.start.before.rules (record { at = h.start.at; open_at = h.start.open_at; metas = h.metas; close_at = h.close_at; left = left; arrow_at = arrow_at; right = t; end_at = at }))
right_ended h left arrow_at f t k at = refl

term_ended-said : (w : Where) (f : l.Frames) (t : WTerm) (k : Lexeme) (at : ℕ) → l.term_ended (where_parts w) (l.with_frames (rule_of w) f) (frames w) (said_term t) k ≡ light (term_ended w t k at)
term_ended-said (on_left h) f t thick_arrow at = refl
term_ended-said (on_left h) f t k at = refl
term_ended-said (on_right h left arrow_at) f t k at = right_ended h left arrow_at f t k at
term_ended-said (in_body lambda_at x x_at colon_at a dot_at w) f t k at = term_ended-said w f (lambda lambda_at x x_at colon_at a dot_at t) k at
term_ended-said (in_paren open_at us w) f t close_paren at = ap (λ s. l.inside (where_parts w) (l.want_atom (rule_of w) s)) (next_atoms-said us (term_in open_at t at))
term_ended-said (in_paren open_at us w) f t k at = refl
term_ended-said (in_bracket x x_at open_at before us w) f t comma at =
    ap (λ ts. l.inside (where_parts w) (l.want_atom (l.with_frames (rule_of w) (l.bracket x x_at ts (spine_said us) (frames w))) None)) (next_terms-said before t at)
term_ended-said (in_bracket x x_at open_at before us w) f t close_bracket at =
    ap (λ s. l.inside (where_parts w) (l.want_atom (rule_of w) s)) (ap (l.next (spine_said us)) (all_terms-said x x_at open_at before t at) ∙ next_atoms-said us (all_terms x x_at open_at before t at))
term_ended-said (in_bracket x x_at open_at before us w) f t k at = refl

spine_ended-said : (us : SomeAtoms) (w : Where) (k : Lexeme) (at : ℕ) → l.spine_ended (where_parts w) (rule_of w) (spine_said us) k ≡ light (spine_ended us w k at)
spine_ended-said no_atoms_yet w k at = refl
spine_ended-said (atoms_so_far h us) w k at = term_ended-said w (frames w) (atoms h us) k at

lambda_begins-said : (us : SomeAtoms) (w : Where) (at : ℕ) → l.lambda_begins (where_parts w) (rule_of w) (spine_said us) at ≡ light (lambda_begins true us w at)
lambda_begins-said no_atoms_yet w at = opened-said (l.level (frames w)) (level w) 400 (behind_lambda at w) (level-said w)
lambda_begins-said (atoms_so_far h us) w at = refl

at_atom-said : (us : SomeAtoms) (w : Where) (k : Lexeme) (at : ℕ) → l.at_atom (where_parts w) (rule_of w) (spine_said us) k at ≡ light (at_atom true us w k at)
at_atom-said us w (a_name n) at = refl
at_atom-said us w (a_dollar n) at = ap (λ s. l.inside (where_parts w) (l.want_atom (rule_of w) s)) (next_atoms-said us (number n at))
at_atom-said us w (a_percent n) at = refl
at_atom-said us w open_paren at = opened-said (l.level (frames w)) (level w) 400 (want_atom no_atoms_yet (in_paren at us w)) (level-said w)
at_atom-said us w backslash at = lambda_begins-said us w at
at_atom-said us w k at = spine_ended-said us w k at

plain-said : (x : List ℕ) (x_at : ℕ) (us : SomeAtoms) (w : Where) (k : Lexeme) (at : ℕ) → l.at_atom (where_parts w) (rule_of w) (l.next (spine_said us) (named x x_at)) k at ≡ light (at_atom true (next_atoms us (plain_name x x_at)) w k at)
plain-said x x_at us w k at =
    ap (λ s. l.at_atom (where_parts w) (rule_of w) s k at) (next_atoms-said us (plain_name x x_at)) ∙ at_atom-said (next_atoms us (plain_name x x_at)) w k at

behind_plain-said : (x : List ℕ) (x_at : ℕ) (us : SomeAtoms) (w : Where) (k : Lexeme) (at : ℕ) → l.behind_plain (where_parts w) (rule_of w) (spine_said us) x x_at k at ≡ light (behind_plain true x x_at us w k at)
behind_plain-said x x_at us w open_bracket at = opened-said (l.level (frames w)) (level w) 400 (want_atom no_atoms_yet (in_bracket x x_at at no_terms_yet us w)) (level-said w)
behind_plain-said x x_at us w k at = plain-said x x_at us w k at

at_atype-said : (c : AtypeWhere) (k : Lexeme) (at : ℕ) → l.at_atype (atype_parts c) (atype_use c) (opened_atype c) k at ≡ light (at_atype true c k at)
at_atype-said c (a_name n) at = had_atype-said c (sort_name n at)
at_atype-said c open_paren at = opened-said (length (atype_outer c)) (atype_level c) 16 (want_atype (in_type (in_type_paren at c))) (atype_level-said c)
at_atype-said c k at = refl

behind_type-said : (c : TypeWhere) (a : WAtype) (k : Lexeme) (at : ℕ) → l.behind_type (type_parts c) (type_use c) (opened_type c) (said_atype a) k ≡ light (move true (behind_atype c a) k at)
behind_type-said c a thin_arrow at = refl
behind_type-said c a k at = type_ended-said c (only a) k at

at_meta-said : (u : RuleStart) (before : SomeMetas) (k : Lexeme) (at : ℕ) → l.at_meta (said u.before) u.at (metas_said before) k at ≡ light (at_meta u before k at)
at_meta-said u before (a_name n) at = refl
at_meta-said u no_metas_yet close_brace at = refl
at_meta-said u no_metas_yet k at = refl
at_meta-said u (metas_so_far m ms c) k at = refl

behind_colon-said : (m : MetaStart) (colon_at : ℕ) (k : Lexeme) (at : ℕ) → l.behind_colon (said m.start.before) (meta_of m) k at ≡ light (move true (meta_colon m colon_at) k at)
behind_colon-said m colon_at open_bracket at = refl
behind_colon-said m colon_at k at = at_atype-said (in_type (of_meta m colon_at no_brackets)) k at

at_binder-said : (lambda_at : ℕ) (w : Where) (k : Lexeme) (at : ℕ) → l.at_binder (where_parts w) (rule_of w) lambda_at k ≡ light (at_binder lambda_at w k at)
at_binder-said lambda_at w (a_name n) at = refl
at_binder-said lambda_at w (a_dollar n) at = refl
at_binder-said lambda_at w k at = refl

pub move-said : (p : Place) (k : Lexeme) (at : ℕ) → l.move (parts p) (place p) k at ≡ light (move true p k at)
move-said (behind_sort ss sort_at) (a_name n) at = refl
move-said (behind_sort ss sort_at) k at = refl
move-said (sort_named ss sort_at x x_at) semicolon at = ap (λ xs. l.inside (record { sorts = xs; funs = []; rules = [] }) l.between) (map-add said_sort ss (record { at = sort_at; name = x; name_at = x_at; end_at = at }))
move-said (sort_named ss sort_at x x_at) k at = refl
move-said (behind_fun ss fs fun_at) (a_name n) at = refl
move-said (behind_fun ss fs fun_at) k at = refl
move-said (fun_named ss fs fun_at x x_at) colon at = refl
move-said (fun_named ss fs fun_at x x_at) k at = refl
move-said (behind_rule s rule_at) open_brace at = refl
move-said (behind_rule s rule_at) k at = refl
move-said (want_meta u before) k at = at_meta-said u before k at
move-said (meta_named m) colon at = refl
move-said (meta_named m) k at = refl
move-said (meta_colon m colon_at) k at = behind_colon-said m colon_at k at
move-said (want_atype c) k at = at_atype-said c k at
move-said (behind_atype c a) k at = behind_type-said c a k at
move-said (behind_lambda lambda_at w) k at = at_binder-said lambda_at w k at
move-said (binder_named lambda_at x x_at w) colon at = refl
move-said (binder_named lambda_at x x_at w) k at = refl
move-said (binder_typed lambda_at x x_at colon_at a w) dot at = refl
move-said (binder_typed lambda_at x x_at colon_at a w) k at = refl
move-said (want_atom us w) k at = at_atom-said us w k at
move-said (behind_name x x_at us w) k at = behind_plain-said x x_at us w k at
move-said (behind_percent n n_at us w) colon at = refl
move-said (behind_percent n n_at us w) k at = refl

sort_begins-said : (ss : List WSort) (fs : List WFun) (us : List WRule) (at : ℕ) → l.sort_begins (record { sorts = map said_sort ss; funs = map said_fun fs; rules = map said_rule us }) (map said_fun fs) (map said_rule us) ≡ light (sort_begins ss fs us at)
sort_begins-said ss [] [] at = refl
sort_begins-said ss [] (u ∷ us) at = refl
sort_begins-said ss (f ∷ fs) us at = refl

fun_begins-said : (ss : List WSort) (fs : List WFun) (us : List WRule) (at : ℕ) → l.fun_begins (record { sorts = map said_sort ss; funs = map said_fun fs; rules = map said_rule us }) (map said_rule us) ≡ light (fun_begins ss fs us at)
fun_begins-said ss fs [] at = refl
fun_begins-said ss fs (u ∷ us) at = refl

begin-said : (s : WSystem) (k : Lexeme) (at : ℕ) → l.begin (said s) k at ≡ light (begin s k at)
begin-said s key_sort at = sort_begins-said s.sorts s.funs s.rules at
begin-said s key_fun at = fun_begins-said s.sorts s.funs s.rules at
begin-said s key_rule at = refl
begin-said s k at = refl

read-said : (s : State) (o : Option Lexeme) (at : ℕ) → l.read (light s) o at ≡ light (read_some true s o at)
read-said (between w) None at = refl
read-said (between w) (Some k) at = begin-said w k at
read-said (inside p) None at = refl
read-said (inside p) (Some k) at = move-said p k at
read-said failed None at = refl
read-said failed (Some k) at = refl
read-said too_many None at = refl
read-said too_many (Some k) at = refl

pub run-said : (s : State) (ts : List Placed) → l.run (light s) ts ≡ light (run true s ts)
run-said s [] = refl
run-said s (k ∷ ts) = ap (λ t. l.run t ts) (read-said s (lexeme k.kind) k.at) ∙ run-said (step true s k) ts
