-- Each token that the machine takes stands among those that its place has read.
use Rattle.std.proofs.Common.{◌≡◌, ℕ, ◌+◌, ◌<◌, Bool, true, false, List, [], ◌∷◌, ◌++◌, refl, sym, ap, subst, ◌∙◌, codes, nat_lt, ltb-true, true≢false, if◌then◌else◌}
use Rattle.std.proofs.Math.Path.{fun_ext}
use Rattle.wh_text.specs.Tokens.{name, keyword}
use Rattle.wh_read.specs.Written.{WType, only, arrow, WAtype, sort_name, type_in, WTerm, lambda, atoms, WAtom, plain_name, number, typed_variable, term_in, WAtoms, no_atoms, more_atoms, WTerms, no_terms, more_terms, WTypes, no_types, more_types, no_brackets, WMeta, WMetas, no_metas, more_metas, WSort, WFun, WRule, WSystem}
use Rattle.wh_read.specs.Spelled.{Placed, token, mark, put_type, put_atype, put_term, put_atom, put_atoms, put_terms, put_types, put_brackets, put_meta, put_metas, put_declared, put_sort, put_fun, put_rule, put_all}
use Rattle.wh_read.specs.Nesting.{TypeFits, AtypeFits, TermFits, AtomFits, AtomsFit, TermsFit, TypesFit, BracketsFit, MetaFits, MetasFit, DeclaredFits, RuleFits, Each, SystemFits}
use Rattle.wh_read.specs.Lexemes.{Lexeme, a_name, a_dollar, a_percent, key_sort, key_fun, key_rule, backslash, colon, dot, semicolon, comma, open_paren, close_paren, open_bracket, close_bracket, open_brace, close_brace, thin_arrow, thick_arrow}
use Rattle.wh_read.proofs.Machine.{SomeTypes, no_types_yet, types_so_far, SomeTerms, no_terms_yet, terms_so_far, SomeMetas, no_metas_yet, metas_so_far, SomeAtoms, no_atoms_yet, atoms_so_far, add_type, add_term, add_meta, add_atom, next_types, next_terms, next_metas, next_atoms, all_types, all_terms, all_metas, FunStart, RuleStart, RuleHead, Where, on_left, on_right, in_body, in_paren, in_bracket, TypeWhere, of_fun, in_brackets, of_meta, behind_arrow, in_type_paren, AtypeWhere, in_type, of_binder, of_variable, level, type_level, atype_level, Place, behind_sort, sort_named, behind_fun, fun_named, behind_rule, want_meta, meta_named, meta_colon, want_atype, behind_atype, behind_lambda, binder_named, binder_typed, want_atom, behind_name, behind_percent, State, between, inside, failed, too_many, opened, had_atype, with_fun, the_meta, with_rule, type_ended, term_ended, spine_ended, at_atom, behind_plain, at_atype, move, lambda_begins, at_meta, at_binder, sort_begins, fun_begins, begin}
use Rattle.wh_read.proofs.LexemeLaws.{kind_of}
use Rattle.wh_read.proofs.Seen.{seen_types, seen_terms, seen_metas, seen_atoms, seen_system, seen_fun, seen_rule, seen_meta, seen_head, seen_where, seen_type_where, seen_atype_where, seen, SomeTypesFit, SomeTermsFit, SomeMetasFit, SomeAtomsFit, FunsFit, HeadFits, WhereFits, TypeWhereFits, AtypeWhereFits, PlaceFits}

-- lists to which one more was added, spelled
put_types-add : (ts : WTypes) (c : ℕ) (t : WType) (r : List Placed) → put_types (add_type ts c t) r ≡ put_types ts (mark (codes ",") c ∷ put_type t r)
put_types-add no_types c t r = refl
put_types-add (more_types d u ts) c t r = ap (λ (q : List Placed). mark (codes ",") d ∷ put_type u q) (put_types-add ts c t r)

put_terms-add : (ts : WTerms) (c : ℕ) (t : WTerm) (r : List Placed) → put_terms (add_term ts c t) r ≡ put_terms ts (mark (codes ",") c ∷ put_term t r)
put_terms-add no_terms c t r = refl
put_terms-add (more_terms d u ts) c t r = ap (λ (q : List Placed). mark (codes ",") d ∷ put_term u q) (put_terms-add ts c t r)

put_metas-add : (ts : WMetas) (c : ℕ) (t : WMeta) (r : List Placed) → put_metas (add_meta ts c t) r ≡ put_metas ts (mark (codes ",") c ∷ put_meta t r)
put_metas-add no_metas c t r = refl
put_metas-add (more_metas d u ts) c t r = ap (λ (q : List Placed). mark (codes ",") d ∷ put_meta u q) (put_metas-add ts c t r)

put_atoms-add : (ts : WAtoms) (t : WAtom) (r : List Placed) → put_atoms (add_atom ts t) r ≡ put_atoms ts (put_atom t r)
put_atoms-add no_atoms t r = refl
put_atoms-add (more_atoms u ts) t r = ap (put_atom u) (put_atoms-add ts t r)

put_all-add : {A : Type 0} (put : A → List Placed → List Placed) (xs : List A) (x : A) (r : List Placed) → put_all put (xs ++ x ∷ []) r ≡ put_all put xs (put x r)
put_all-add put [] x r = refl
put_all-add put (y ∷ xs) x r = ap (put y) (put_all-add put xs x r)

Types-add : (ts : WTypes) (c : ℕ) (t : WType) → TypesFit ts → TypeFits 0 t → TypesFit (add_type ts c t)
Types-add no_types c t f g = (g, tt)
Types-add (more_types d u ts) c t f g = (f.0, Types-add ts c t f.1 g)

Terms-add : (k : ℕ) (ts : WTerms) (c : ℕ) (t : WTerm) → TermsFit k ts → TermFits k t → TermsFit k (add_term ts c t)
Terms-add k no_terms c t f g = (g, tt)
Terms-add k (more_terms d u ts) c t f g = (f.0, Terms-add k ts c t f.1 g)

Metas-add : (ts : WMetas) (c : ℕ) (t : WMeta) → MetasFit ts → MetaFits t → MetasFit (add_meta ts c t)
Metas-add no_metas c t f g = (g, tt)
Metas-add (more_metas d u ts) c t f g = (f.0, Metas-add ts c t f.1 g)

Atoms-add : (k : ℕ) (ts : WAtoms) (t : WAtom) → AtomsFit k ts → AtomFits k t → AtomsFit k (add_atom ts t)
Atoms-add k no_atoms t f g = (g, tt)
Atoms-add k (more_atoms u ts) t f g = (f.0, Atoms-add k ts t f.1 g)

Each-add : {A : Type 0} (P : A → Type 0) (xs : List A) (x : A) → Each P xs → P x → Each P (xs ++ x ∷ [])
Each-add P [] x f g = (g, tt)
Each-add P (y ∷ xs) x f g = (f.0, Each-add P xs x f.1 g)

-- the lists so far, with one more
next_types-seen : (ts : SomeTypes) (t : WType) (at : ℕ) (r : List Placed) → seen_types (next_types ts t at) r ≡ seen_types ts (put_type t (mark (codes ",") at ∷ r))
next_types-seen no_types_yet t at r = refl
next_types-seen (types_so_far u ts c) t at r = ap (put_type u) (put_types-add ts c t (mark (codes ",") at ∷ r))

next_terms-seen : (ts : SomeTerms) (t : WTerm) (at : ℕ) (r : List Placed) → seen_terms (next_terms ts t at) r ≡ seen_terms ts (put_term t (mark (codes ",") at ∷ r))
next_terms-seen no_terms_yet t at r = refl
next_terms-seen (terms_so_far u ts c) t at r = ap (put_term u) (put_terms-add ts c t (mark (codes ",") at ∷ r))

next_metas-seen : (ts : SomeMetas) (t : WMeta) (at : ℕ) (r : List Placed) → seen_metas (next_metas ts t at) r ≡ seen_metas ts (put_meta t (mark (codes ",") at ∷ r))
next_metas-seen no_metas_yet t at r = refl
next_metas-seen (metas_so_far u ts c) t at r = ap (put_meta u) (put_metas-add ts c t (mark (codes ",") at ∷ r))

next_atoms-seen : (ts : SomeAtoms) (t : WAtom) (r : List Placed) → seen_atoms (next_atoms ts t) r ≡ seen_atoms ts (put_atom t r)
next_atoms-seen no_atoms_yet t r = refl
next_atoms-seen (atoms_so_far u ts) t r = ap (put_atom u) (put_atoms-add ts t r)

all_types-seen : (open_at : ℕ) (ts : SomeTypes) (t : WType) (at : ℕ) (r : List Placed) → put_brackets (all_types open_at ts t at) r ≡ mark (codes "[") open_at ∷ seen_types ts (put_type t (mark (codes "]") at ∷ r))
all_types-seen open_at no_types_yet t at r = refl
all_types-seen open_at (types_so_far u ts c) t at r = ap (λ (q : List Placed). mark (codes "[") open_at ∷ put_type u q) (put_types-add ts c t (mark (codes "]") at ∷ r))

all_terms-seen : (x : List ℕ) (x_at open_at : ℕ) (ts : SomeTerms) (t : WTerm) (at : ℕ) (r : List Placed) → put_atom (all_terms x x_at open_at ts t at) r ≡ token (name x) x_at ∷ mark (codes "[") open_at ∷ seen_terms ts (put_term t (mark (codes "]") at ∷ r))
all_terms-seen x x_at open_at no_terms_yet t at r = refl
all_terms-seen x x_at open_at (terms_so_far u ts c) t at r = ap (λ (q : List Placed). token (name x) x_at ∷ mark (codes "[") open_at ∷ put_term u q) (put_terms-add ts c t (mark (codes "]") at ∷ r))

all_metas-seen : (ts : SomeMetas) (t : WMeta) (r : List Placed) → put_declared (all_metas ts t) r ≡ seen_metas ts (put_meta t r)
all_metas-seen no_metas_yet t r = refl
all_metas-seen (metas_so_far u ts c) t r = ap (put_meta u) (put_metas-add ts c t r)

next_types-fit : (ts : SomeTypes) (t : WType) (at : ℕ) → SomeTypesFit ts → TypeFits 0 t → SomeTypesFit (next_types ts t at)
next_types-fit no_types_yet t at f g = (g, tt)
next_types-fit (types_so_far u ts c) t at f g = (f.0, Types-add ts c t f.1 g)

next_terms-fit : (k : ℕ) (ts : SomeTerms) (t : WTerm) (at : ℕ) → SomeTermsFit k ts → TermFits k t → SomeTermsFit k (next_terms ts t at)
next_terms-fit k no_terms_yet t at f g = (g, tt)
next_terms-fit k (terms_so_far u ts c) t at f g = (f.0, Terms-add k ts c t f.1 g)

next_metas-fit : (ts : SomeMetas) (t : WMeta) (at : ℕ) → SomeMetasFit ts → MetaFits t → SomeMetasFit (next_metas ts t at)
next_metas-fit no_metas_yet t at f g = (g, tt)
next_metas-fit (metas_so_far u ts c) t at f g = (f.0, Metas-add ts c t f.1 g)

next_atoms-fit : (k : ℕ) (ts : SomeAtoms) (t : WAtom) → SomeAtomsFit k ts → AtomFits k t → SomeAtomsFit k (next_atoms ts t)
next_atoms-fit k no_atoms_yet t f g = (g, tt)
next_atoms-fit k (atoms_so_far u ts) t f g = (f.0, Atoms-add k ts t f.1 g)

all_types-fit : (open_at : ℕ) (ts : SomeTypes) (t : WType) (at : ℕ) → SomeTypesFit ts → TypeFits 0 t → BracketsFit (all_types open_at ts t at)
all_types-fit open_at no_types_yet t at f g = (g, tt)
all_types-fit open_at (types_so_far u ts c) t at f g = (f.0, Types-add ts c t f.1 g)

all_terms-fit : (k : ℕ) (x : List ℕ) (x_at open_at : ℕ) (ts : SomeTerms) (t : WTerm) (at : ℕ) → k < 400 → SomeTermsFit (k + 1) ts → TermFits (k + 1) t → AtomFits k (all_terms x x_at open_at ts t at)
all_terms-fit k x x_at open_at no_terms_yet t at h f g = (h, g, tt)
all_terms-fit k x x_at open_at (terms_so_far u ts c) t at h f g = (h, f.0, Terms-add (k + 1) ts c t f.1 g)

all_metas-fit : (ts : SomeMetas) (t : WMeta) → SomeMetasFit ts → MetaFits t → DeclaredFits (all_metas ts t)
all_metas-fit no_metas_yet t f g = (g, tt)
all_metas-fit (metas_so_far u ts c) t f g = (f.0, Metas-add ts c t f.1 g)

-- the state fits, where there are bounds, and has read f r before r
abbrev pub Next : Bool → State → (List Placed → List Placed) → Type 0
Next b (between s) f = (b ≡ true → SystemFits s) × ((r : List Placed) → seen_system s r ≡ f r)
Next b (inside p) f = (b ≡ true → PlaceFits p) × ((r : List Placed) → seen p r ≡ f r)
Next b failed f = Unit {0}
Next b too_many f = Unit {0}

opened-kept : (b : Bool) (k n : ℕ) (p : Place) (f : List Placed → List Placed) → ((b ≡ true → k < n) → Next b (inside p) f) → Next b (opened b k n p) f
opened-kept false k n p f h = h (λ e. absurd (true≢false (sym e)))
opened-kept true k n p f h = tested (nat_lt k n) (λ e. h (λ _. ltb-true k n e))
  where
    tested : (c : Bool) → (c ≡ true → Next true (inside p) f) → Next true (if c then inside p else too_many) f
    tested true g = g refl
    tested false g = tt

had_atype-kept : (b : Bool) (c : AtypeWhere) (a : WAtype) → (b ≡ true → AtypeWhereFits c) → (b ≡ true → AtypeFits (atype_level c) a) → Next b (inside (had_atype c a)) (λ r. seen_atype_where c (put_atype a r))
had_atype-kept b (in_type c) a f g = ((λ i. (f i, g i)), λ r. refl)
had_atype-kept b (of_binder at x x_at colon_at w) a f g = ((λ i. ((f i).0, (f i).1, g i)), λ r. refl)
had_atype-kept b (of_variable n at colon_at us w) a f g =
    ((λ i. ((f i).0, next_atoms-fit (level w) us (typed_variable n at colon_at a) (f i).1 (g i))), λ r. ap (seen_where w) (next_atoms-seen us (typed_variable n at colon_at a) r))

with_fun-kept : (b : Bool) (f : FunStart) (t : WType) (at : ℕ) → (b ≡ true → FunsFit f.funs) → (b ≡ true → TypeFits 0 t) → Next b (between (with_fun f t at)) (λ r. seen_fun f (put_type t (mark (codes ";") at ∷ r)))
with_fun-kept b f t at h g =
    let whole : WFun = record { at = f.at; name = f.name; name_at = f.name_at; colon_at = f.colon_at; kind = t; end_at = at } in
    ((λ i. (Each-add (λ (x : WFun). TypeFits 0 x.kind) f.funs whole (h i) (g i), tt)), λ r. ap (put_all put_sort f.sorts) (put_all-add put_fun f.funs whole r))

with_rule-kept : (b : Bool) (h : RuleHead) (left : WTerm) (arrow_at : ℕ) (right : WTerm) (at : ℕ) → (b ≡ true → HeadFits h) → (b ≡ true → TermFits 0 left) → (b ≡ true → TermFits 0 right) → Next b (between (with_rule h left arrow_at right at)) (λ r. seen_head h (put_term left (mark (codes "=>") arrow_at ∷ put_term right (mark (codes ";") at ∷ r))))
with_rule-kept b h left arrow_at right at f g k =
    let s : WSystem = h.start.before in
    let whole : WRule = record { at = h.start.at; open_at = h.start.open_at; metas = h.metas; close_at = h.close_at; left = left; arrow_at = arrow_at; right = right; end_at = at } in (
      (λ i. ((f i).0.0, Each-add RuleFits s.rules whole (f i).0.1 ((f i).1, g i, k i))),
      λ r. ap (λ (q : List Placed). put_all put_sort s.sorts (put_all put_fun s.funs q)) (put_all-add put_rule s.rules whole r),
    )

-- a type has ended before the letter
type_ended-kept : (b : Bool) (c : TypeWhere) (t : WType) (l : Lexeme) (at : ℕ) → (b ≡ true → TypeWhereFits c) → (b ≡ true → TypeFits (type_level c) t) → Next b (type_ended c t l at) (λ r. seen_type_where c (put_type t (token (kind_of l) at ∷ r)))
type_ended-kept b (of_fun f) t semicolon at h g = with_fun-kept b f t at h g
type_ended-kept b (of_fun f) t l at h g = tt
type_ended-kept b (in_brackets m colon_at open_at before) t comma at h g =
    ((λ i. ((h i).0, next_types-fit before t at (h i).1 (g i))), λ r. ap (λ (q : List Placed). seen_meta m (mark (codes ":") colon_at ∷ mark (codes "[") open_at ∷ q)) (next_types-seen before t at r))
type_ended-kept b (in_brackets m colon_at open_at before) t close_bracket at h g =
    ((λ i. ((h i).0, all_types-fit open_at before t at (h i).1 (g i))), λ r. ap (λ (q : List Placed). seen_meta m (mark (codes ":") colon_at ∷ q)) (all_types-seen open_at before t at r))
type_ended-kept b (in_brackets m colon_at open_at before) t l at h g = tt
type_ended-kept b (of_meta m colon_at args) t comma at h g =
    ((λ i. ((h i).0.0, next_metas-fit m.before (the_meta m colon_at args t) at (h i).0.1 ((h i).1, g i))), λ r. ap (seen_rule m.start) (next_metas-seen m.before (the_meta m colon_at args t) at r))
type_ended-kept b (of_meta m colon_at args) t close_brace at h g =
    ((λ i. (((h i).0.0, all_metas-fit m.before (the_meta m colon_at args t) (h i).0.1 ((h i).1, g i)), tt)), λ r. ap (seen_rule m.start) (all_metas-seen m.before (the_meta m colon_at args t) (mark (codes "}") at ∷ r)))
type_ended-kept b (of_meta m colon_at args) t l at h g = tt
type_ended-kept b (behind_arrow a arrow_at c) t l at h g = type_ended-kept b c (arrow a arrow_at t) l at (λ i. (h i).0) (λ i. ((h i).1, g i))
type_ended-kept b (in_type_paren open_at c) t close_paren at h g = had_atype-kept b c (type_in open_at t at) (λ i. (h i).0) (λ i. ((h i).1, g i))
type_ended-kept b (in_type_paren open_at c) t l at h g = tt

-- a term has ended before the letter
term_ended-kept : (b : Bool) (w : Where) (t : WTerm) (l : Lexeme) (at : ℕ) → (b ≡ true → WhereFits w) → (b ≡ true → TermFits (level w) t) → Next b (term_ended w t l at) (λ r. seen_where w (put_term t (token (kind_of l) at ∷ r)))
term_ended-kept b (on_left h) t thick_arrow at f g = ((λ i. ((f i, g i), tt)), λ r. refl)
term_ended-kept b (on_left h) t l at f g = tt
term_ended-kept b (on_right h left arrow_at) t semicolon at f g = with_rule-kept b h left arrow_at t at (λ i. (f i).0) (λ i. (f i).1) g
term_ended-kept b (on_right h left arrow_at) t l at f g = tt
term_ended-kept b (in_body lambda_at x x_at colon_at a dot_at w) t l at f g = term_ended-kept b w (lambda lambda_at x x_at colon_at a dot_at t) l at (λ i. (f i).0) (λ i. ((f i).1, (f i).2, g i))
term_ended-kept b (in_paren open_at us w) t close_paren at f g =
    ((λ i. ((f i).0, next_atoms-fit (level w) us (term_in open_at t at) (f i).2 ((f i).1, g i))), λ r. ap (seen_where w) (next_atoms-seen us (term_in open_at t at) r))
term_ended-kept b (in_paren open_at us w) t l at f g = tt
term_ended-kept b (in_bracket x x_at open_at before us w) t comma at f g = (
  (λ i. (((f i).0, (f i).1, (f i).2, next_terms-fit (level w + 1) before t at (f i).3 (g i)), tt)),
  λ r. ap (λ (q : List Placed). seen_where w (seen_atoms us (token (name x) x_at ∷ mark (codes "[") open_at ∷ q))) (next_terms-seen before t at r),
)
term_ended-kept b (in_bracket x x_at open_at before us w) t close_bracket at f g = (
  (λ i. ((f i).0, next_atoms-fit (level w) us (all_terms x x_at open_at before t at) (f i).2 (all_terms-fit (level w) x x_at open_at before t at (f i).1 (f i).3 (g i)))),
  λ r. ap (seen_where w) (next_atoms-seen us (all_terms x x_at open_at before t at) r ∙ ap (seen_atoms us) (all_terms-seen x x_at open_at before t at r)),
)
term_ended-kept b (in_bracket x x_at open_at before us w) t l at f g = tt

spine_ended-kept : (b : Bool) (us : SomeAtoms) (w : Where) (l : Lexeme) (at : ℕ) → (b ≡ true → WhereFits w × SomeAtomsFit (level w) us) → Next b (spine_ended us w l at) (λ r. seen_where w (seen_atoms us (token (kind_of l) at ∷ r)))
spine_ended-kept b no_atoms_yet w l at f = tt
spine_ended-kept b (atoms_so_far h rest) w l at f = term_ended-kept b w (atoms h rest) l at (λ i. (f i).0) (λ i. (f i).1)

lambda_begins-kept : (b : Bool) (us : SomeAtoms) (w : Where) (at : ℕ) → (b ≡ true → WhereFits w × SomeAtomsFit (level w) us) → Next b (lambda_begins b us w at) (λ r. seen_where w (seen_atoms us (mark (codes "\\") at ∷ r)))
lambda_begins-kept b no_atoms_yet w at f = opened-kept b (level w) 400 (behind_lambda at w) (λ r. seen_where w (mark (codes "\\") at ∷ r)) (λ h. ((λ i. ((f i).0, h i)), λ r. refl))
lambda_begins-kept b (atoms_so_far h rest) w at f = tt

at_atom-kept : (b : Bool) (us : SomeAtoms) (w : Where) (l : Lexeme) (at : ℕ) → (b ≡ true → WhereFits w × SomeAtomsFit (level w) us) → Next b (at_atom b us w l at) (λ r. seen_where w (seen_atoms us (token (kind_of l) at ∷ r)))
at_atom-kept b us w (a_name x) at f = (f, λ r. refl)
at_atom-kept b us w (a_dollar n) at f = ((λ i. ((f i).0, next_atoms-fit (level w) us (number n at) (f i).1 tt)), λ r. ap (seen_where w) (next_atoms-seen us (number n at) r))
at_atom-kept b us w (a_percent n) at f = (f, λ r. refl)
at_atom-kept b us w open_paren at f = opened-kept b (level w) 400 (want_atom no_atoms_yet (in_paren at us w)) (λ r. seen_where w (seen_atoms us (mark (codes "(") at ∷ r))) (λ h. ((λ i. (((f i).0, h i, (f i).1), tt)), λ r. refl))
at_atom-kept b us w backslash at f = lambda_begins-kept b us w at f
at_atom-kept b us w l at f = spine_ended-kept b us w l at f

-- the plain name goes on no further
plain-kept : (b : Bool) (x : List ℕ) (x_at : ℕ) (us : SomeAtoms) (w : Where) (l : Lexeme) (at : ℕ) → (b ≡ true → WhereFits w × SomeAtomsFit (level w) us) → Next b (at_atom b (next_atoms us (plain_name x x_at)) w l at) (λ r. seen_where w (seen_atoms us (token (name x) x_at ∷ token (kind_of l) at ∷ r)))
plain-kept b x x_at us w l at f =
    subst (Next b (at_atom b (next_atoms us (plain_name x x_at)) w l at)) (fun_ext (λ r. ap (seen_where w) (next_atoms-seen us (plain_name x x_at) (token (kind_of l) at ∷ r))))
    (at_atom-kept b (next_atoms us (plain_name x x_at)) w l at (λ i. ((f i).0, next_atoms-fit (level w) us (plain_name x x_at) (f i).1 tt)))

behind_plain-kept : (b : Bool) (x : List ℕ) (x_at : ℕ) (us : SomeAtoms) (w : Where) (l : Lexeme) (at : ℕ) → (b ≡ true → WhereFits w × SomeAtomsFit (level w) us) → Next b (behind_plain b x x_at us w l at) (λ r. seen_where w (seen_atoms us (token (name x) x_at ∷ token (kind_of l) at ∷ r)))
behind_plain-kept b x x_at us w open_bracket at f =
    opened-kept b (level w) 400 (want_atom no_atoms_yet (in_bracket x x_at at no_terms_yet us w)) (λ r. seen_where w (seen_atoms us (token (name x) x_at ∷ mark (codes "[") at ∷ r)))
    (λ h. ((λ i. (((f i).0, h i, (f i).1, tt), tt)), λ r. refl))
behind_plain-kept b x x_at us w l at f = plain-kept b x x_at us w l at f

at_atype-kept : (b : Bool) (c : AtypeWhere) (l : Lexeme) (at : ℕ) → (b ≡ true → AtypeWhereFits c) → Next b (at_atype b c l at) (λ r. seen_atype_where c (token (kind_of l) at ∷ r))
at_atype-kept b c (a_name x) at f = had_atype-kept b c (sort_name x at) f (λ i. tt)
at_atype-kept b c open_paren at f = opened-kept b (atype_level c) 16 (want_atype (in_type (in_type_paren at c))) (λ r. seen_atype_where c (mark (codes "(") at ∷ r)) (λ h. ((λ i. (f i, h i)), λ r. refl))
at_atype-kept b c l at f = tt

at_meta-kept : (b : Bool) (u : RuleStart) (before : SomeMetas) (l : Lexeme) (at : ℕ) → (b ≡ true → SystemFits u.before × SomeMetasFit before) → Next b (at_meta u before l at) (λ r. seen_rule u (seen_metas before (token (kind_of l) at ∷ r)))
at_meta-kept b u before (a_name x) at f = (f, λ r. refl)
at_meta-kept b u no_metas_yet close_brace at f = ((λ i. (((f i).0, tt), tt)), λ r. refl)
at_meta-kept b u before l at f = tt

at_binder-kept : (b : Bool) (lambda_at : ℕ) (w : Where) (l : Lexeme) (at : ℕ) → (b ≡ true → WhereFits w × (level w < 400)) → Next b (at_binder lambda_at w l at) (λ r. seen_where w (mark (codes "\\") lambda_at ∷ token (kind_of l) at ∷ r))
at_binder-kept b lambda_at w (a_name x) at f = (f, λ r. refl)
at_binder-kept b lambda_at w (a_dollar n) at f = (f, λ r. refl)
at_binder-kept b lambda_at w l at f = tt

pub move-kept : (b : Bool) (p : Place) (l : Lexeme) (at : ℕ) → (b ≡ true → PlaceFits p) → Next b (move b p l at) (λ r. seen p (token (kind_of l) at ∷ r))
move-kept b (behind_sort ss sort_at) (a_name x) at f = ((λ i. tt), λ r. refl)
move-kept b (behind_sort ss sort_at) l at f = tt
move-kept b (sort_named ss sort_at x x_at) semicolon at f =
    ((λ i. (tt, tt)), λ r. put_all-add put_sort ss (record { at = sort_at; name = x; name_at = x_at; end_at = at }) r)
move-kept b (sort_named ss sort_at x x_at) l at f = tt
move-kept b (behind_fun ss fs fun_at) (a_name x) at f = (f, λ r. refl)
move-kept b (behind_fun ss fs fun_at) l at f = tt
move-kept b (fun_named ss fs fun_at x x_at) colon at f = (f, λ r. refl)
move-kept b (fun_named ss fs fun_at x x_at) l at f = tt
move-kept b (behind_rule s rule_at) open_brace at f = ((λ i. (f i, tt)), λ r. refl)
move-kept b (behind_rule s rule_at) l at f = tt
move-kept b (want_meta u before) l at f = at_meta-kept b u before l at f
move-kept b (meta_named m) colon at f = (f, λ r. refl)
move-kept b (meta_named m) l at f = tt
move-kept b (meta_colon m colon_at) open_bracket at f = ((λ i. (f i, tt)), λ r. refl)
move-kept b (meta_colon m colon_at) l at f = at_atype-kept b (in_type (of_meta m colon_at no_brackets)) l at (λ i. (f i, tt))
move-kept b (want_atype c) l at f = at_atype-kept b c l at f
move-kept b (behind_atype c a) thin_arrow at f = (f, λ r. refl)
move-kept b (behind_atype c a) l at f = type_ended-kept b c (only a) l at (λ i. (f i).0) (λ i. (f i).1)
move-kept b (behind_lambda lambda_at w) l at f = at_binder-kept b lambda_at w l at f
move-kept b (binder_named lambda_at x x_at w) colon at f = (f, λ r. refl)
move-kept b (binder_named lambda_at x x_at w) l at f = tt
move-kept b (binder_typed lambda_at x x_at colon_at a w) dot at f = ((λ i. (f i, tt)), λ r. refl)
move-kept b (binder_typed lambda_at x x_at colon_at a w) l at f = tt
move-kept b (want_atom us w) l at f = at_atom-kept b us w l at f
move-kept b (behind_name x x_at us w) l at f = behind_plain-kept b x x_at us w l at f
move-kept b (behind_percent n n_at us w) colon at f = (f, λ r. refl)
move-kept b (behind_percent n n_at us w) l at f = tt

sort_begins-kept : (b : Bool) (ss : List WSort) (fs : List WFun) (us : List WRule) (at : ℕ) → Next b (sort_begins ss fs us at) (λ r. put_all put_sort ss (put_all put_fun fs (put_all put_rule us (token (keyword (codes "sort")) at ∷ r))))
sort_begins-kept b ss [] [] at = ((λ i. tt), λ r. refl)
sort_begins-kept b ss [] (u ∷ us) at = tt
sort_begins-kept b ss (f ∷ fs) us at = tt

fun_begins-kept : (b : Bool) (ss : List WSort) (fs : List WFun) (us : List WRule) (at : ℕ) → (b ≡ true → FunsFit fs) → Next b (fun_begins ss fs us at) (λ r. put_all put_sort ss (put_all put_fun fs (put_all put_rule us (token (keyword (codes "fun")) at ∷ r))))
fun_begins-kept b ss fs [] at f = (f, λ r. refl)
fun_begins-kept b ss fs (u ∷ us) at f = tt

pub begin-kept : (b : Bool) (s : WSystem) (l : Lexeme) (at : ℕ) → (b ≡ true → SystemFits s) → Next b (begin s l at) (λ r. seen_system s (token (kind_of l) at ∷ r))
begin-kept b s key_sort at f = sort_begins-kept b s.sorts s.funs s.rules at
begin-kept b s key_fun at f = fun_begins-kept b s.sorts s.funs s.rules at (λ i. (f i).0)
begin-kept b s key_rule at f = (f, λ r. refl)
begin-kept b s l at f = tt
