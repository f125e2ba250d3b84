-- What is read is proper: each declared name is a name, and types nest no deeper than a text may.
use Rattle.std.proofs.Common.{◌≡◌, ℕ, ◌+◌, ◌≤◌, List, [], ◌∷◌, map, All, refl, sym, subst, arith}
use Rattle.std.specs.Prelude.{codes, length, max}
use Rattle.std.proofs.lemmas.List.Elements.{All-nil, All-cons}
use Rattle.wh_text.specs.RawTree.{RTy, raw_type, no_types as no_rtys, more_types as more_rtys, Binder, named_binder, numbered_binder, RTm, named, numbered, free_variable, meta, lam, spine, RTms, none, more}
use Rattle.wh_text.specs.Words.{IsName}
use Rattle.wh_text.specs.Tokens.{Token, whole, Cuts}
use Rattle.wh_system_parts.specs.Parts.{RName, RFun, RMeta, RRule, RParts}
use Rattle.wh_system.specs.Systems.{SystemData}
use Rattle.wh_system.specs.Nesting.{raw_part_nesting, raw_nesting, RawTypesNestEach, RawTypesNestWithin, AllRawTypesNestWithin}
use Rattle.wh_system_making.specs.Proper.{AreProper}
use Rattle.wh_system.specs.WellMade.{IsWellMadeSystem}
use Rattle.wh_system_making.proofs.SystemMade.{system_made}
use Rattle.wh_read.specs.Written.{WType, only, arrow, WAtype, sort_name, type_in, WTerm, lambda, atoms, WAtom, plain_name, number, typed_variable, applied, term_in, WAtoms, no_atoms, more_atoms, WTerms, no_terms, more_terms, WTypes, no_types, more_types, WBrackets, no_brackets, brackets, WMeta, WMetas, no_metas, more_metas, WDeclared, nothing, declares, WSort, WFun, WRule, WSystem}
use Rattle.wh_read.specs.Spelled.{Placed, placed, mark, put_type, put_atype, put_binder, put_term, put_atom, put_atoms, put_terms, put_types, put_brackets, put_meta, put_metas, put_declared, put_sort, put_fun, put_rule, put_all, spelled}
use Rattle.wh_read.specs.Raw.{with_argument, said_type, said_atype, join, spined, said_term, said_atom, said_atoms, said_terms, said_types, said_brackets, said_meta, said_metas, said_declared, said_sort, said_fun, said_rule, said}
use Rattle.wh_read.specs.Nesting.{TypeFits, AtypeFits, TermFits, AtomFits, AtomsFit, TermsFit, TypesFit, BracketsFit, MetaFits, MetasFit, DeclaredFits, RuleFits, Each, SystemFits}
use Rattle.wh_read.specs.Parsing.{Parses}
use Rattle.wh_read.specs.Reading.{Reads}
use Rattle.wh_read.proofs.CutTokens.{KindFits, StandsIn, all_stand}

-- types nest no deeper than they are written

part_nesting-low : (a : RTy) → raw_nesting a ≤ raw_part_nesting a
part_nesting-low (raw_type no_rtys s at) = omega arith
part_nesting-low (raw_type (more_rtys a rest) s at) = omega arith

part_nesting-high : (a : RTy) → raw_part_nesting a ≤ raw_nesting a + 1
part_nesting-high (raw_type no_rtys s at) = omega arith
part_nesting-high (raw_type (more_rtys a rest) s at) = omega arith

nesting-with_argument : (a b : RTy) → raw_nesting (with_argument a b) ≡ max (raw_part_nesting a) (raw_nesting b)
nesting-with_argument a (raw_type args s at) = refl

mutual
  type_shallow : (j : ℕ) (t : WType) → j ≤ 16 → TypeFits j t → raw_nesting (said_type t) + j ≤ 16
  type_shallow j (only a) room fits =
      let there = atype_shallow j a room fits in
      let low = part_nesting-low (said_atype a) in
      omega (arith, there, low)
  type_shallow j (arrow a arrow_at t) room fits =
      let here = atype_shallow j a room fits.0 in
      let there = type_shallow j t room fits.1 in
      let same = nesting-with_argument (said_atype a) (said_type t) in
      omega (arith, here, there, same)

  atype_shallow : (j : ℕ) (a : WAtype) → j ≤ 16 → AtypeFits j a → raw_part_nesting (said_atype a) + j ≤ 16
  atype_shallow j (sort_name n at) room fits = omega arith
  atype_shallow j (type_in open_at t close_at) room fits =
      let there = type_shallow (j + 1) t (omega (arith, fits.0)) fits.1 in
      let high = part_nesting-high (said_type t) in
      omega (arith, there, high)

type_within : (t : WType) → TypeFits 0 t → raw_nesting (said_type t) ≤ 16
type_within t fits = let there = type_shallow 0 t (omega arith) fits in omega (arith, there)

atype_within : (a : WAtype) → AtypeFits 0 a → raw_part_nesting (said_atype a) ≤ 16
atype_within a fits = let there = atype_shallow 0 a (omega arith) fits in omega (arith, there)

types_within : (ts : WTypes) → TypesFit ts → RawTypesNestEach 16 (said_types ts)
types_within no_types fits = tt
types_within (more_types comma_at t rest) fits = (type_within t fits.0, types_within rest fits.1)

brackets_within : (b : WBrackets) → BracketsFit b → RawTypesNestEach 16 (said_brackets b)
brackets_within no_brackets fits = tt
brackets_within (brackets open_at t rest close_at) fits = (type_within t fits.0, types_within rest fits.1)

-- the types of a meta-variable
abbrev IsShallowMeta : RMeta → Type 0
IsShallowMeta m = RawTypesNestEach 16 m.args × (raw_nesting m.out ≤ 16)

meta_within : (m : WMeta) → MetaFits m → IsShallowMeta (said_meta m)
meta_within m fits = (brackets_within m.args fits.0, type_within m.result fits.1)

metas_within : (ms : WMetas) → MetasFit ms → All IsShallowMeta (said_metas ms)
metas_within no_metas fits = All-nil IsShallowMeta
metas_within (more_metas comma_at m rest) fits = All-cons IsShallowMeta (said_meta m) (said_metas rest) (meta_within m fits.0) (metas_within rest fits.1)

declared_within : (d : WDeclared) → DeclaredFits d → All IsShallowMeta (said_declared d)
declared_within nothing fits = All-nil IsShallowMeta
declared_within (declares m rest) fits = All-cons IsShallowMeta (said_meta m) (said_metas rest) (meta_within m fits.0) (metas_within rest fits.1)

-- the types in a side

join_within : (n : ℕ) (ts us : RTms) → AllRawTypesNestWithin n ts → AllRawTypesNestWithin n us → AllRawTypesNestWithin n (join ts us)
join_within n none us h k = k
join_within n (more t ts) us h k = (h.0, join_within n ts us h.1 k)

spined_within : (n : ℕ) (h : RTm) (ts : RTms) → RawTypesNestWithin n h → AllRawTypesNestWithin n ts → RawTypesNestWithin n (spined h ts)
spined_within n h none p q = p
spined_within n (spine h ts at) (more u us) p q = (p.0, join_within n ts (more u us) p.1 q)
spined_within n (named x at) (more u us) p q = (p, q)
spined_within n (numbered k at) (more u us) p q = (p, q)
spined_within n (free_variable k a at) (more u us) p q = (p, q)
spined_within n (meta x ts at) (more u us) p q = (p, q)
spined_within n (lam x a t at) (more u us) p q = (p, q)

mutual
  term_within : (k : ℕ) (t : WTerm) → TermFits k t → RawTypesNestWithin 16 (said_term t)
  term_within k (lambda at x x_at colon_at a dot_at t) fits = (atype_within a fits.1, term_within (k + 1) t fits.2)
  term_within k (atoms head rest) fits = spined_within 16 (said_atom head) (said_atoms rest) (atom_within k head fits.0) (atoms_within k rest fits.1)

  atom_within : (k : ℕ) (u : WAtom) → AtomFits k u → RawTypesNestWithin 16 (said_atom u)
  atom_within k (plain_name n at) fits = tt
  atom_within k (number n at) fits = tt
  atom_within k (typed_variable n at colon_at a) fits = atype_within a fits
  atom_within k (applied n at open_at t rest close_at) fits = (term_within (k + 1) t fits.1, terms_within (k + 1) rest fits.2)
  atom_within k (term_in open_at t close_at) fits = term_within (k + 1) t fits.1

  atoms_within : (k : ℕ) (us : WAtoms) → AtomsFit k us → AllRawTypesNestWithin 16 (said_atoms us)
  atoms_within k no_atoms fits = tt
  atoms_within k (more_atoms u rest) fits = (atom_within k u fits.0, atoms_within k rest fits.1)

  terms_within : (k : ℕ) (ts : WTerms) → TermsFit k ts → AllRawTypesNestWithin 16 (said_terms ts)
  terms_within k no_terms fits = tt
  terms_within k (more_terms comma_at t rest) fits = (term_within k t fits.0, terms_within k rest fits.1)

-- each token of a name spells one

abbrev AreSpelled : List Placed → Type 0
AreSpelled = Each (λ t. KindFits t.kind)

spelled-cut : (n : ℕ) (ts : List Token) → Each (StandsIn n) ts → AreSpelled (map placed ts)
spelled-cut n [] h = tt
spelled-cut n (t ∷ ts) h = (h.0.fits, spelled-cut n ts h.1)

-- so do those behind a part

mutual
  behind_type : (t : WType) (r : List Placed) → AreSpelled (put_type t r) → AreSpelled r
  behind_type (only a) r h = behind_atype a r h
  behind_type (arrow a arrow_at t) r h = behind_type t r (behind_atype a (mark (codes "->") arrow_at ∷ put_type t r) h).1

  behind_atype : (a : WAtype) (r : List Placed) → AreSpelled (put_atype a r) → AreSpelled r
  behind_atype (sort_name n at) r h = h.1
  behind_atype (type_in open_at t close_at) r h = (behind_type t (mark (codes ")") close_at ∷ r) h.1).1

behind_binder : (x : Binder) (at : ℕ) (r : List Placed) → AreSpelled (put_binder x at r) → AreSpelled r
behind_binder (named_binder n) at r h = h.1
behind_binder (numbered_binder n) at r h = h.1

mutual
  behind_term : (t : WTerm) (r : List Placed) → AreSpelled (put_term t r) → AreSpelled r
  behind_term (lambda at x x_at colon_at a dot_at t) r h =
      let typed = behind_binder x x_at (mark (codes ":") colon_at ∷ put_atype a (mark (codes ".") dot_at ∷ put_term t r)) h.1 in
      behind_term t r (behind_atype a (mark (codes ".") dot_at ∷ put_term t r) typed.1).1
  behind_term (atoms head rest) r h = behind_atoms rest r (behind_atom head (put_atoms rest r) h)

  behind_atom : (u : WAtom) (r : List Placed) → AreSpelled (put_atom u r) → AreSpelled r
  behind_atom (plain_name n at) r h = h.1
  behind_atom (number n at) r h = h.1
  behind_atom (typed_variable n at colon_at a) r h = behind_atype a r h.1.1
  behind_atom (applied n at open_at t rest close_at) r h =
      (behind_terms rest (mark (codes "]") close_at ∷ r) (behind_term t (put_terms rest (mark (codes "]") close_at ∷ r)) h.1.1)).1
  behind_atom (term_in open_at t close_at) r h = (behind_term t (mark (codes ")") close_at ∷ r) h.1).1

  behind_atoms : (us : WAtoms) (r : List Placed) → AreSpelled (put_atoms us r) → AreSpelled r
  behind_atoms no_atoms r h = h
  behind_atoms (more_atoms u rest) r h = behind_atoms rest r (behind_atom u (put_atoms rest r) h)

  behind_terms : (ts : WTerms) (r : List Placed) → AreSpelled (put_terms ts r) → AreSpelled r
  behind_terms no_terms r h = h
  behind_terms (more_terms comma_at t rest) r h = behind_terms rest r (behind_term t (put_terms rest r) h.1)

behind_types : (ts : WTypes) (r : List Placed) → AreSpelled (put_types ts r) → AreSpelled r
behind_types no_types r h = h
behind_types (more_types comma_at t rest) r h = behind_types rest r (behind_type t (put_types rest r) h.1)

behind_brackets : (b : WBrackets) (r : List Placed) → AreSpelled (put_brackets b r) → AreSpelled r
behind_brackets no_brackets r h = h
behind_brackets (brackets open_at t rest close_at) r h =
    (behind_types rest (mark (codes "]") close_at ∷ r) (behind_type t (put_types rest (mark (codes "]") close_at ∷ r)) h.1)).1

behind_meta : (m : WMeta) (r : List Placed) → AreSpelled (put_meta m r) → AreSpelled r
behind_meta m r h = behind_type m.result r (behind_brackets m.args (put_type m.result r) h.1.1)

-- what is declared has a name, and what stands behind it is spelled

abbrev IsNamedMeta : RMeta → Type 0
IsNamedMeta m = IsName m.name.name

metas_named : (ms : WMetas) (r : List Placed) → AreSpelled (put_metas ms r) → All IsNamedMeta (said_metas ms) × AreSpelled r
metas_named no_metas r h = (All-nil IsNamedMeta, h)
metas_named (more_metas comma_at m rest) r h =
    let there = metas_named rest r (behind_meta m (put_metas rest r) h.1) in
    (All-cons IsNamedMeta (said_meta m) (said_metas rest) h.1.0 there.0, there.1)

declared_named : (d : WDeclared) (r : List Placed) → AreSpelled (put_declared d r) → All IsNamedMeta (said_declared d) × AreSpelled r
declared_named nothing r h = (All-nil IsNamedMeta, h)
declared_named (declares m rest) r h =
    let there = metas_named rest r (behind_meta m (put_metas rest r) h) in
    (All-cons IsNamedMeta (said_meta m) (said_metas rest) h.0 there.0, there.1)

abbrev IsNamedSort : RName → Type 0
IsNamedSort s = IsName s.name

sorts_named : (ss : List WSort) (r : List Placed) → AreSpelled (put_all put_sort ss r) → All IsNamedSort (map said_sort ss) × AreSpelled r
sorts_named [] r h = (All-nil IsNamedSort, h)
sorts_named (s ∷ ss) r h =
    let there = sorts_named ss r h.1.1.1 in
    (All-cons IsNamedSort (said_sort s) (map said_sort ss) h.1.0 there.0, there.1)

abbrev IsNamedFun : RFun → Type 0
IsNamedFun f = IsName f.name.name

funs_named : (fs : List WFun) (r : List Placed) → AreSpelled (put_all put_fun fs r) → All IsNamedFun (map said_fun fs) × AreSpelled r
funs_named [] r h = (All-nil IsNamedFun, h)
funs_named (f ∷ fs) r h =
    let behind = put_all put_fun fs r in
    let there = funs_named fs r (behind_type f.kind (mark (codes ";") f.end_at ∷ behind) h.1.1.1).1 in
    (All-cons IsNamedFun (said_fun f) (map said_fun fs) h.1.0 there.0, there.1)

-- the meta-variables of a rule
abbrev IsNamedRule : RRule → Type 0
IsNamedRule u = All IsNamedMeta u.metas

rules_named : (us : List WRule) (r : List Placed) → AreSpelled (put_all put_rule us r) → All IsNamedRule (map said_rule us)
rules_named [] r h = All-nil IsNamedRule
rules_named (u ∷ us) r h =
    let behind = put_all put_rule us r in
    let right = put_term u.right (mark (codes ";") u.end_at ∷ behind) in
    let sides = put_term u.left (mark (codes "=>") u.arrow_at ∷ right) in
    let metas = declared_named u.metas (mark (codes "}") u.close_at ∷ sides) h.1.1 in
    let on_right : AreSpelled right = (behind_term u.left (mark (codes "=>") u.arrow_at ∷ right) metas.1.1).1 in
    All-cons IsNamedRule (said_rule u) (map said_rule us) metas.0 (rules_named us r (behind_term u.right (mark (codes ";") u.end_at ∷ behind) on_right).1)

-- what holds of each thing that is written holds of all that is said
each_said : {A B : Type 0} (P : A → Type 0) (Q : B → Type 0) (f : A → B) → ((x : A) → P x → Q (f x)) → (xs : List A) → Each P xs → All Q (map f xs)
each_said P Q f holds [] h = All-nil Q
each_said P Q f holds (x ∷ xs) h = All-cons Q (f x) (map f xs) (holds x h.0) (each_said P Q f holds xs h.1)

proper-said : (w : WSystem) → SystemFits w → AreSpelled (spelled w) → AreProper (said w)
proper-said w fits h =
    let funs_behind = put_all put_fun w.funs (put_all put_rule w.rules []) in
    let sorts = sorts_named w.sorts funs_behind h in
    let funs = funs_named w.funs (put_all put_rule w.rules []) sorts.1 in
    record {
      sorts = sorts.0;
      funs = funs.0;
      metas = rules_named w.rules [] funs.1;
      fun_types = each_said (λ f. TypeFits 0 f.kind) (λ f. raw_nesting f.kind ≤ 16) said_fun (λ f fit. type_within f.kind fit) w.funs fits.0;
      meta_types = each_said RuleFits (λ r. All IsShallowMeta r.metas) said_rule (λ u fit. declared_within u.metas fit.0) w.rules fits.1;
      side_types = each_said RuleFits (λ r. RawTypesNestWithin 16 r.left × RawTypesNestWithin 16 r.right) said_rule
          (λ u fit. (term_within 0 u.left fit.1, term_within 0 u.right fit.2)) w.rules fits.1;
    }

pub parsed_parts_are_proper : (bytes : List ℕ) (ts : List Token) (parts : RParts) → Cuts 0 bytes ts whole → Parses (map placed ts) parts → AreProper parts
parsed_parts_are_proper bytes ts parts cut parses =
    let spelling : AreSpelled (map placed ts) = spelled-cut (length bytes) ts (all_stand cut (length bytes) (omega arith)) in
    subst AreProper (sym parses.parts_are) (proper-said parses.written parses.fits (subst AreSpelled parses.spelling spelling))

-- what a text says is a well-made system
pub system_read : (bytes : List ℕ) (d : SystemData) → Reads bytes d → IsWellMadeSystem d
system_read bytes d reads = system_made reads.parts d (parsed_parts_are_proper bytes reads.tokens reads.parts reads.cut reads.parses) reads.passes reads.says
