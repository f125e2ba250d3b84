-- Over the tokens that spell a part, the machine comes to where the part is read, whatever stands behind it. With
-- `bounded` the part has to nest within the limits.
use Rattle.std.proofs.Common.{◌≡◌, ℕ, ◌+◌, ◌<◌, Bool, true, false, List, [], ◌∷◌, Option, None, Some, refl, sym, ap, ◌∙◌, codes, lt-ltb, if◌then◌else◌}
use Rattle.wh_text.specs.RawTree.{Binder, named_binder, numbered_binder}
use Rattle.wh_read.specs.Written.{WType, only, arrow, WAtype, sort_name, type_in, WTerm, lambda, atoms, WAtom, plain_name, number, typed_variable, applied, term_in, WAtoms, no_atoms, more_atoms, WTerms, no_terms, more_terms, WTypes, no_types, more_types, WMeta, WMetas, no_metas, more_metas}
use Rattle.wh_read.specs.Spelled.{Placed, token, mark, put_type, put_atype, put_binder, put_term, put_atom, put_atoms, put_terms}
use Rattle.wh_read.specs.Nesting.{TypeFits, AtypeFits, TermFits, AtomFits, AtomsFit, TermsFit}
use Rattle.wh_read.specs.Lexemes.{Lexeme, semicolon, comma, close_paren, open_bracket, close_bracket, thin_arrow, thick_arrow, lexeme}
use Rattle.wh_read.proofs.LexemeLaws.{kind_of, lexeme_kind}
use Rattle.wh_read.proofs.Machine.{SomeTerms, no_terms_yet, terms_so_far, SomeAtoms, no_atoms_yet, atoms_so_far, join_types, join_terms, join_metas, join_atoms, add_type, add_term, add_meta, add_atom, next_terms, next_atoms, all_terms, Where, in_body, in_paren, in_bracket, TypeWhere, behind_arrow, in_type_paren, AtypeWhere, in_type, of_binder, of_variable, level, type_level, atype_level, Place, want_atype, behind_atype, behind_lambda, binder_named, want_atom, behind_name, State, inside, too_many, opened, had_atype, type_ended, term_ended, move, read_some, run}

-- one letter
pub goes : (b : Bool) (p : Place) (l : Lexeme) (at : ℕ) (r : List Placed) → run b (inside p) (token (kind_of l) at ∷ r) ≡ run b (move b p l at) r
goes b p l at r = ap (λ (o : Option Lexeme). run b (read_some b (inside p) o at) r) (lexeme_kind l)

-- a level that may be opened
opens : (b : Bool) (k n : ℕ) (p : Place) (r : List Placed) → (b ≡ true → k < n) → run b (opened b k n p) r ≡ run b (inside p) r
opens false k n p r h = refl
opens true k n p r h = ap (λ (c : Bool). run true (if c then inside p else too_many) r) (lt-ltb k n (h refl))

-- the letter goes on no type
abbrev pub EndsType : Lexeme → Type 0
EndsType thin_arrow = ⊥
EndsType l = Unit {0}

-- the letter is one of those behind a term
abbrev pub EndsTerm : Lexeme → Type 0
EndsTerm semicolon = Unit {0}
EndsTerm comma = Unit {0}
EndsTerm close_paren = Unit {0}
EndsTerm close_bracket = Unit {0}
EndsTerm thick_arrow = Unit {0}
EndsTerm l = ⊥

pub type_ends : (b : Bool) (c : TypeWhere) (a : WAtype) (e : Lexeme) (at : ℕ) → EndsType e → move b (behind_atype c a) e at ≡ type_ended c (only a) e at
type_ends b c a thin_arrow at n = absurd n
type_ends b c a e at n = refl

pub spine_ends : (b : Bool) (h : WAtom) (us : WAtoms) (w : Where) (e : Lexeme) (at : ℕ) → EndsTerm e → move b (want_atom (atoms_so_far h us) w) e at ≡ term_ended w (atoms h us) e at
spine_ends b h us w semicolon at n = refl
spine_ends b h us w comma at n = refl
spine_ends b h us w close_paren at n = refl
spine_ends b h us w close_bracket at n = refl
spine_ends b h us w thick_arrow at n = refl
spine_ends b h us w e at n = absurd n

mutual
  pub type_run : (b : Bool) (c : TypeWhere) (t : WType) → (b ≡ true → TypeFits (type_level c) t) → (e : Lexeme) (at : ℕ) (r : List Placed) → EndsType e → run b (inside (want_atype (in_type c))) (put_type t (token (kind_of e) at ∷ r)) ≡ run b (type_ended c t e at) r
  type_run b c (only a) f e at r n =
      atype_run b (in_type c) a f (token (kind_of e) at ∷ r) ∙ goes b (behind_atype c a) e at r ∙ ap (λ (s : State). run b s r) (type_ends b c a e at n)
  type_run b c (arrow a arrow_at t) f e at r n =
      atype_run b (in_type c) a (λ i. (f i).0) (mark (codes "->") arrow_at ∷ put_type t (token (kind_of e) at ∷ r)) ∙ type_run b (behind_arrow a arrow_at c) t (λ i. (f i).1) e at r n

  pub atype_run : (b : Bool) (c : AtypeWhere) (a : WAtype) → (b ≡ true → AtypeFits (atype_level c) a) → (r : List Placed) → run b (inside (want_atype c)) (put_atype a r) ≡ run b (inside (had_atype c a)) r
  atype_run b c (sort_name n at) f r = refl
  atype_run b c (type_in open_at t close_at) f r =
      opens b (atype_level c) 16 (want_atype (in_type (in_type_paren open_at c))) (put_type t (mark (codes ")") close_at ∷ r)) (λ i. (f i).0) ∙ type_run b (in_type_paren open_at c) t (λ i. (f i).1) close_paren close_at r tt

-- no `[` comes next
abbrev pub NoBracket : Option Lexeme → Type 0
NoBracket (Some open_bracket) = ⊥
NoBracket o = Unit {0}

abbrev pub Plain : List Placed → Type 0
Plain [] = ⊥
Plain (k ∷ r) = NoBracket (lexeme k.kind)

pub plain_ends : (e : Lexeme) (at : ℕ) (r : List Placed) → EndsTerm e → Plain (token (kind_of e) at ∷ r)
plain_ends semicolon at r n = tt
plain_ends comma at r n = tt
plain_ends close_paren at r n = tt
plain_ends close_bracket at r n = tt
plain_ends thick_arrow at r n = tt
plain_ends e at r n = absurd n

plain_atoms : (us : WAtoms) (r : List Placed) → Plain r → Plain (put_atoms us r)
plain_atoms no_atoms r n = n
plain_atoms (more_atoms (plain_name x at) us) r n = tt
plain_atoms (more_atoms (number x at) us) r n = tt
plain_atoms (more_atoms (typed_variable x at colon_at a) us) r n = tt
plain_atoms (more_atoms (applied x at open_at t rest close_at) us) r n = tt
plain_atoms (more_atoms (term_in open_at t close_at) us) r n = tt

plain_read : (b : Bool) (x : List ℕ) (x_at : ℕ) (us : SomeAtoms) (w : Where) (o : Option Lexeme) (at : ℕ) → NoBracket o → read_some b (inside (behind_name x x_at us w)) o at ≡ read_some b (inside (want_atom (next_atoms us (plain_name x x_at)) w)) o at
plain_read b x x_at us w None at n = refl
plain_read b x x_at us w (Some open_bracket) at n = absurd n
plain_read b x x_at us w (Some l) at n = refl

pub plain_run : (b : Bool) (x : List ℕ) (at : ℕ) (us : SomeAtoms) (w : Where) (r : List Placed) → Plain r → run b (inside (behind_name x at us w)) r ≡ run b (inside (want_atom (next_atoms us (plain_name x at)) w)) r
plain_run b x at us w [] n = absurd n
plain_run b x at us w (k ∷ r) n = ap (λ (s : State). run b s r) (plain_read b x at us w (lexeme k.kind) k.at n)

binder_run : (b : Bool) (at : ℕ) (x : Binder) (x_at : ℕ) (w : Where) (r : List Placed) → run b (inside (behind_lambda at w)) (put_binder x x_at r) ≡ run b (inside (binder_named at x x_at w)) r
binder_run b at (named_binder n) x_at w r = refl
binder_run b at (numbered_binder n) x_at w r = refl

-- lists to which one more was added
join_terms-add : (ts : WTerms) (c : ℕ) (t : WTerm) (us : WTerms) → join_terms (add_term ts c t) us ≡ join_terms ts (more_terms c t us)
join_terms-add no_terms c t us = refl
join_terms-add (more_terms d u ts) c t us = ap (more_terms d u) (join_terms-add ts c t us)

join_atoms-add : (ts : WAtoms) (t : WAtom) (us : WAtoms) → join_atoms (add_atom ts t) us ≡ join_atoms ts (more_atoms t us)
join_atoms-add no_atoms t us = refl
join_atoms-add (more_atoms u ts) t us = ap (more_atoms u) (join_atoms-add ts t us)

join_atoms-none : (ts : WAtoms) → join_atoms ts no_atoms ≡ ts
join_atoms-none no_atoms = refl
join_atoms-none (more_atoms u ts) = ap (more_atoms u) (join_atoms-none ts)

pub join_types-add : (ts : WTypes) (c : ℕ) (t : WType) (us : WTypes) → join_types (add_type ts c t) us ≡ join_types ts (more_types c t us)
join_types-add no_types c t us = refl
join_types-add (more_types d u ts) c t us = ap (more_types d u) (join_types-add ts c t us)

pub join_metas-add : (ts : WMetas) (c : ℕ) (t : WMeta) (us : WMetas) → join_metas (add_meta ts c t) us ≡ join_metas ts (more_metas c t us)
join_metas-add no_metas c t us = refl
join_metas-add (more_metas d u ts) c t us = ap (more_metas d u) (join_metas-add ts c t us)

-- the meta-application whose arguments before t are read and behind t still to come
abbrev bracketed : List ℕ → ℕ → ℕ → SomeTerms → WTerm → WTerms → ℕ → WAtom
bracketed x at open_at no_terms_yet t rest close_at = applied x at open_at t rest close_at
bracketed x at open_at (terms_so_far u ts c) t rest close_at = applied x at open_at u (join_terms ts (more_terms c t rest)) close_at

bracketed-none : (x : List ℕ) (at open_at : ℕ) (before : SomeTerms) (t : WTerm) (close_at : ℕ) → all_terms x at open_at before t close_at ≡ bracketed x at open_at before t no_terms close_at
bracketed-none x at open_at no_terms_yet t close_at = refl
bracketed-none x at open_at (terms_so_far u ts c) t close_at = refl

bracketed-more : (x : List ℕ) (at open_at : ℕ) (before : SomeTerms) (t : WTerm) (d : ℕ) (u : WTerm) (rest : WTerms) (close_at : ℕ) → bracketed x at open_at (next_terms before t d) u rest close_at ≡ bracketed x at open_at before t (more_terms d u rest) close_at
bracketed-more x at open_at no_terms_yet t d u rest close_at = refl
bracketed-more x at open_at (terms_so_far v ts c) t d u rest close_at = ap (λ (us : WTerms). applied x at open_at v us close_at) (join_terms-add ts c t (more_terms d u rest))

-- what holds of the term t where it stands
abbrev pub TermRuns : Bool → Where → WTerm → Type 0
TermRuns b w t = (e : Lexeme) (at : ℕ) (r : List Placed) → EndsTerm e → run b (inside (want_atom no_atoms_yet w)) (put_term t (token (kind_of e) at ∷ r)) ≡ run b (term_ended w t e at) r

mutual
  pub term_run : (b : Bool) (w : Where) (t : WTerm) → (b ≡ true → TermFits (level w) t) → TermRuns b w t
  term_run b w (lambda lambda_at x x_at colon_at a dot_at t) f e at r n =
      opens b (level w) 400 (behind_lambda lambda_at w) (put_binder x x_at (mark (codes ":") colon_at ∷ put_atype a (mark (codes ".") dot_at ∷ put_term t (token (kind_of e) at ∷ r)))) (λ i. (f i).0)
      ∙ binder_run b lambda_at x x_at w (mark (codes ":") colon_at ∷ put_atype a (mark (codes ".") dot_at ∷ put_term t (token (kind_of e) at ∷ r)))
      ∙ atype_run b (of_binder lambda_at x x_at colon_at w) a (λ i. (f i).1) (mark (codes ".") dot_at ∷ put_term t (token (kind_of e) at ∷ r))
      ∙ term_run b (in_body lambda_at x x_at colon_at a dot_at w) t (λ i. (f i).2) e at r n
  term_run b w (atoms h rest) f e at r n =
      atom_run b no_atoms_yet w h (λ i. (f i).0) (put_atoms rest (token (kind_of e) at ∷ r)) (plain_atoms rest (token (kind_of e) at ∷ r) (plain_ends e at r n))
      ∙ atoms_run b w h no_atoms rest (λ i. (f i).1) e at r n

  pub atom_run : (b : Bool) (us : SomeAtoms) (w : Where) (u : WAtom) → (b ≡ true → AtomFits (level w) u) → (r : List Placed) → Plain r → run b (inside (want_atom us w)) (put_atom u r) ≡ run b (inside (want_atom (next_atoms us u) w)) r
  atom_run b us w (plain_name x at) f r n = plain_run b x at us w r n
  atom_run b us w (number x at) f r n = refl
  atom_run b us w (typed_variable x at colon_at a) f r n = atype_run b (of_variable x at colon_at us w) a f r
  atom_run b us w (applied x at open_at t rest close_at) f r n =
      opens b (level w) 400 (want_atom no_atoms_yet (in_bracket x at open_at no_terms_yet us w)) (put_term t (put_terms rest (mark (codes "]") close_at ∷ r))) (λ i. (f i).0)
      ∙ terms_run b us w x at open_at no_terms_yet t (term_run b (in_bracket x at open_at no_terms_yet us w) t (λ i. (f i).1)) rest close_at (λ i. (f i).2) r
  atom_run b us w (term_in open_at t close_at) f r n =
      opens b (level w) 400 (want_atom no_atoms_yet (in_paren open_at us w)) (put_term t (mark (codes ")") close_at ∷ r)) (λ i. (f i).0)
      ∙ term_run b (in_paren open_at us w) t (λ i. (f i).1) close_paren close_at r tt

  pub atoms_run : (b : Bool) (w : Where) (h : WAtom) (us rest : WAtoms) → (b ≡ true → AtomsFit (level w) rest) → (e : Lexeme) (at : ℕ) (r : List Placed) → EndsTerm e → run b (inside (want_atom (atoms_so_far h us) w)) (put_atoms rest (token (kind_of e) at ∷ r)) ≡ run b (term_ended w (atoms h (join_atoms us rest)) e at) r
  atoms_run b w h us no_atoms f e at r n =
      goes b (want_atom (atoms_so_far h us) w) e at r ∙ ap (λ (s : State). run b s r) (spine_ends b h us w e at n)
      ∙ ap (λ (vs : WAtoms). run b (term_ended w (atoms h vs) e at) r) (sym (join_atoms-none us))
  atoms_run b w h us (more_atoms u rest) f e at r n =
      atom_run b (atoms_so_far h us) w u (λ i. (f i).0) (put_atoms rest (token (kind_of e) at ∷ r)) (plain_atoms rest (token (kind_of e) at ∷ r) (plain_ends e at r n))
      ∙ atoms_run b w h (add_atom us u) rest (λ i. (f i).1) e at r n
      ∙ ap (λ (vs : WAtoms). run b (term_ended w (atoms h vs) e at) r) (join_atoms-add us u rest)

  pub terms_run : (b : Bool) (us : SomeAtoms) (w : Where) (x : List ℕ) (at open_at : ℕ) (before : SomeTerms) (t : WTerm) → TermRuns b (in_bracket x at open_at before us w) t → (rest : WTerms) (close_at : ℕ) → (b ≡ true → TermsFit (level w + 1) rest) → (r : List Placed) → run b (inside (want_atom no_atoms_yet (in_bracket x at open_at before us w))) (put_term t (put_terms rest (mark (codes "]") close_at ∷ r))) ≡ run b (inside (want_atom (next_atoms us (bracketed x at open_at before t rest close_at)) w)) r
  terms_run b us w x at open_at before t h no_terms close_at f r =
      h close_bracket close_at r tt ∙ ap (λ (u : WAtom). run b (inside (want_atom (next_atoms us u) w)) r) (bracketed-none x at open_at before t close_at)
  terms_run b us w x at open_at before t h (more_terms d u rest) close_at f r =
      h comma d (put_term u (put_terms rest (mark (codes "]") close_at ∷ r))) tt
      ∙ terms_run b us w x at open_at (next_terms before t d) u (term_run b (in_bracket x at open_at (next_terms before t d) us w) u (λ i. (f i).0)) rest close_at (λ i. (f i).1) r
      ∙ ap (λ (v : WAtom). run b (inside (want_atom (next_atoms us v) w)) r) (bracketed-more x at open_at before t d u rest close_at)
