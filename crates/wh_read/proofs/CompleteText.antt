-- Over the tokens of a whole system text the machine comes to that system.
use Rattle.std.proofs.Common.{◌≡◌, ℕ, Bool, true, List, [], ◌∷◌, ◌++◌, refl, sym, ap, ◌∙◌, append_assoc, append-nil, codes}
use Rattle.wh_read.specs.Written.{WType, only, arrow, sort_name, type_in, WTypes, no_types, more_types, WBrackets, no_brackets, brackets, WMeta, WMetas, no_metas, more_metas, WDeclared, nothing, declares, WSort, WFun, WRule, WSystem}
use Rattle.wh_read.specs.Spelled.{Placed, token, mark, put_type, put_term, put_types, put_brackets, put_meta, put_metas, put_declared, put_sort, put_fun, put_rule, put_all, spelled}
use Rattle.wh_read.specs.Nesting.{TypeFits, TypesFit, BracketsFit, MetaFits, MetasFit, DeclaredFits, RuleFits, Each, SystemFits}
use Rattle.wh_read.specs.Lexemes.{Lexeme, semicolon, comma, close_bracket, close_brace, thick_arrow}
use Rattle.wh_read.proofs.LexemeLaws.{kind_of}
use Rattle.wh_read.proofs.Machine.{SomeTypes, no_types_yet, types_so_far, SomeMetas, no_metas_yet, metas_so_far, join_types, join_metas, next_types, next_metas, all_types, all_metas, FunStart, RuleStart, MetaStart, RuleHead, on_left, on_right, of_fun, in_brackets, of_meta, in_type, want_meta, meta_colon, want_atype, State, between, inside, left_of, type_ended, run, start}
use Rattle.wh_read.proofs.Complete.{EndsType, type_run, term_run, join_types-add, join_metas-add}

-- the brackets whose types before t are read and behind t still to come
abbrev in_all : ℕ → SomeTypes → WType → WTypes → ℕ → WBrackets
in_all open_at no_types_yet t rest close_at = brackets open_at t rest close_at
in_all open_at (types_so_far u ts c) t rest close_at = brackets open_at u (join_types ts (more_types c t rest)) close_at

in_all-none : (open_at : ℕ) (before : SomeTypes) (t : WType) (close_at : ℕ) → all_types open_at before t close_at ≡ in_all open_at before t no_types close_at
in_all-none open_at no_types_yet t close_at = refl
in_all-none open_at (types_so_far u ts c) t close_at = refl

in_all-more : (open_at : ℕ) (before : SomeTypes) (t : WType) (d : ℕ) (u : WType) (rest : WTypes) (close_at : ℕ) → in_all open_at (next_types before t d) u rest close_at ≡ in_all open_at before t (more_types d u rest) close_at
in_all-more open_at no_types_yet t d u rest close_at = refl
in_all-more open_at (types_so_far v ts c) t d u rest close_at = ap (λ (us : WTypes). brackets open_at v us close_at) (join_types-add ts c t (more_types d u rest))

types_run : (b : Bool) (m : MetaStart) (colon_at open_at : ℕ) (before : SomeTypes) (t : WType) (rest : WTypes) (close_at : ℕ) → (b ≡ true → TypeFits 0 t) → (b ≡ true → TypesFit rest) → (r : List Placed) → run b (inside (want_atype (in_type (in_brackets m colon_at open_at before)))) (put_type t (put_types rest (mark (codes "]") close_at ∷ r))) ≡ run b (inside (want_atype (in_type (of_meta m colon_at (in_all open_at before t rest close_at))))) r
types_run b m colon_at open_at before t no_types close_at f g r =
    type_run b (in_brackets m colon_at open_at before) t f close_bracket close_at r tt
    ∙ ap (λ (u : WBrackets). run b (inside (want_atype (in_type (of_meta m colon_at u)))) r) (in_all-none open_at before t close_at)
types_run b m colon_at open_at before t (more_types d u rest) close_at f g r =
    type_run b (in_brackets m colon_at open_at before) t f comma d (put_type u (put_types rest (mark (codes "]") close_at ∷ r))) tt
    ∙ types_run b m colon_at open_at (next_types before t d) u rest close_at (λ i. (g i).0) (λ i. (g i).1) r
    ∙ ap (λ (v : WBrackets). run b (inside (want_atype (in_type (of_meta m colon_at v)))) r) (in_all-more open_at before t d u rest close_at)

-- with no bracket the result begins at once
result_begins : (b : Bool) (m : MetaStart) (colon_at : ℕ) (t : WType) (r : List Placed) → run b (inside (meta_colon m colon_at)) (put_type t r) ≡ run b (inside (want_atype (in_type (of_meta m colon_at no_brackets)))) (put_type t r)
result_begins b m colon_at (only (sort_name n at)) r = refl
result_begins b m colon_at (only (type_in open_at t close_at)) r = refl
result_begins b m colon_at (arrow (sort_name n at) arrow_at t) r = refl
result_begins b m colon_at (arrow (type_in open_at u close_at) arrow_at t) r = refl

brackets_run : (b : Bool) (m : MetaStart) (colon_at : ℕ) (args : WBrackets) (t : WType) → (b ≡ true → BracketsFit args) → (r : List Placed) → run b (inside (meta_colon m colon_at)) (put_brackets args (put_type t r)) ≡ run b (inside (want_atype (in_type (of_meta m colon_at args)))) (put_type t r)
brackets_run b m colon_at no_brackets t f r = result_begins b m colon_at t r
brackets_run b m colon_at (brackets open_at u rest close_at) t f r = types_run b m colon_at open_at no_types_yet u rest close_at (λ i. (f i).0) (λ i. (f i).1) (put_type t r)

-- a meta-variable, and the letter behind it
abbrev meta_ended : RuleStart → SomeMetas → WMeta → Lexeme → ℕ → State
meta_ended u before m e at = type_ended (of_meta (record { start = u; before = before; name = m.name; name_at = m.at }) m.colon_at m.args) m.result e at

meta_run : (b : Bool) (u : RuleStart) (before : SomeMetas) (m : WMeta) → (b ≡ true → MetaFits m) → (e : Lexeme) (at : ℕ) (r : List Placed) → EndsType e → run b (inside (want_meta u before)) (put_meta m (token (kind_of e) at ∷ r)) ≡ run b (meta_ended u before m e at) r
meta_run b u before m f e at r n =
    let s : MetaStart = record { start = u; before = before; name = m.name; name_at = m.at } in
    brackets_run b s m.colon_at m.args m.result (λ i. (f i).0) (token (kind_of e) at ∷ r) ∙ type_run b (of_meta s m.colon_at m.args) m.result (λ i. (f i).1) e at r n

abbrev declared_all : SomeMetas → WMeta → WMetas → WDeclared
declared_all no_metas_yet m rest = declares m rest
declared_all (metas_so_far n ms c) m rest = declares n (join_metas ms (more_metas c m rest))

declared_all-none : (before : SomeMetas) (m : WMeta) → all_metas before m ≡ declared_all before m no_metas
declared_all-none no_metas_yet m = refl
declared_all-none (metas_so_far n ms c) m = refl

declared_all-more : (before : SomeMetas) (m : WMeta) (d : ℕ) (u : WMeta) (rest : WMetas) → declared_all (next_metas before m d) u rest ≡ declared_all before m (more_metas d u rest)
declared_all-more no_metas_yet m d u rest = refl
declared_all-more (metas_so_far n ms c) m d u rest = ap (declares n) (join_metas-add ms c m (more_metas d u rest))

metas_run : (b : Bool) (u : RuleStart) (before : SomeMetas) (m : WMeta) (rest : WMetas) (close_at : ℕ) → (b ≡ true → MetaFits m) → (b ≡ true → MetasFit rest) → (r : List Placed) → run b (inside (want_meta u before)) (put_meta m (put_metas rest (mark (codes "}") close_at ∷ r))) ≡ run b (left_of u (declared_all before m rest) close_at) r
metas_run b u before m no_metas close_at f g r =
    meta_run b u before m f close_brace close_at r tt ∙ ap (λ (d : WDeclared). run b (left_of u d close_at) r) (declared_all-none before m)
metas_run b u before m (more_metas d n rest) close_at f g r =
    meta_run b u before m f comma d (put_meta n (put_metas rest (mark (codes "}") close_at ∷ r))) tt
    ∙ metas_run b u (next_metas before m d) n rest close_at (λ i. (g i).0) (λ i. (g i).1) r
    ∙ ap (λ (v : WDeclared). run b (left_of u v close_at) r) (declared_all-more before m d n rest)

declared_run : (b : Bool) (u : RuleStart) (d : WDeclared) (close_at : ℕ) → (b ≡ true → DeclaredFits d) → (r : List Placed) → run b (inside (want_meta u no_metas_yet)) (put_declared d (mark (codes "}") close_at ∷ r)) ≡ run b (left_of u d close_at) r
declared_run b u nothing close_at f r = refl
declared_run b u (declares m rest) close_at f r = metas_run b u no_metas_yet m rest close_at (λ i. (f i).0) (λ i. (f i).1) r

rule_run : (b : Bool) (s : WSystem) (u : WRule) → (b ≡ true → RuleFits u) → (r : List Placed) → run b (between s) (put_rule u r) ≡ run b (between (record { sorts = s.sorts; funs = s.funs; rules = s.rules ++ u ∷ [] })) r
rule_run b s u f r =
    let first : RuleStart = record { before = s; at = u.at; open_at = u.open_at } in
    let head : RuleHead = record { start = first; metas = u.metas; close_at = u.close_at } in
    declared_run b first u.metas u.close_at (λ i. (f i).0) (put_term u.left (mark (codes "=>") u.arrow_at ∷ put_term u.right (mark (codes ";") u.end_at ∷ r)))
    ∙ term_run b (on_left head) u.left (λ i. (f i).1) thick_arrow u.arrow_at (put_term u.right (mark (codes ";") u.end_at ∷ r)) tt
    ∙ term_run b (on_right head u.left u.arrow_at) u.right (λ i. (f i).2) semicolon u.end_at r tt

abbrev system : List WSort → List WFun → List WRule → State
system ss fs us = between (record { sorts = ss; funs = fs; rules = us })

rules_run : (b : Bool) (ss : List WSort) (fs : List WFun) (before us : List WRule) → (b ≡ true → Each RuleFits us) → (r : List Placed) → run b (system ss fs before) (put_all put_rule us r) ≡ run b (system ss fs (before ++ us)) r
rules_run b ss fs before [] f r = ap (λ (vs : List WRule). run b (system ss fs vs) r) (sym (append-nil before))
rules_run b ss fs before (u ∷ us) f r =
    rule_run b (record { sorts = ss; funs = fs; rules = before }) u (λ i. (f i).0) (put_all put_rule us r)
    ∙ rules_run b ss fs (before ++ u ∷ []) us (λ i. (f i).1) r ∙ ap (λ (vs : List WRule). run b (system ss fs vs) r) (append_assoc before (u ∷ []) us)

funs_run : (b : Bool) (ss : List WSort) (before fs : List WFun) → (b ≡ true → Each (λ (f : WFun). TypeFits 0 f.kind) fs) → (r : List Placed) → run b (system ss before []) (put_all put_fun fs r) ≡ run b (system ss (before ++ fs) []) r
funs_run b ss before [] f r = ap (λ (vs : List WFun). run b (system ss vs []) r) (sym (append-nil before))
funs_run b ss before (x ∷ fs) f r =
    let first : FunStart = record { sorts = ss; funs = before; at = x.at; name = x.name; name_at = x.name_at; colon_at = x.colon_at } in
    type_run b (of_fun first) x.kind (λ i. (f i).0) semicolon x.end_at (put_all put_fun fs r) tt
    ∙ funs_run b ss (before ++ x ∷ []) fs (λ i. (f i).1) r ∙ ap (λ (vs : List WFun). run b (system ss vs []) r) (append_assoc before (x ∷ []) fs)

sorts_run : (b : Bool) (before ss : List WSort) (r : List Placed) → run b (system before [] []) (put_all put_sort ss r) ≡ run b (system (before ++ ss) [] []) r
sorts_run b before [] r = ap (λ (vs : List WSort). run b (system vs [] []) r) (sym (append-nil before))
sorts_run b before (x ∷ ss) r =
    sorts_run b (before ++ x ∷ []) ss r ∙ ap (λ (vs : List WSort). run b (system vs [] []) r) (append_assoc before (x ∷ []) ss)

pub system_run : (b : Bool) (w : WSystem) → (b ≡ true → SystemFits w) → run b start (spelled w) ≡ between w
system_run b w f =
    sorts_run b [] w.sorts (put_all put_fun w.funs (put_all put_rule w.rules []))
    ∙ funs_run b w.sorts [] w.funs (λ i. (f i).0) (put_all put_rule w.rules [])
    ∙ rules_run b w.sorts w.funs [] w.rules (λ i. (f i).1) []
