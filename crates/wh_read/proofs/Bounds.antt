-- With bounds the machine goes as without them, up to a token that opens a level too many.
use Rattle.std.proofs.Common.{◌≡◌, ℕ, Bool, true, false, List, [], ◌∷◌, Option, None, Some, refl, ap, subst, ◌∙◌, ◌⊎◌, inl, inr, ⊎_elim, nat_lt, if◌then◌else◌}
use Rattle.wh_read.specs.Written.{WType, only, arrow, WTerm, lambda, atoms, plain_name, no_brackets, WSort, WFun, WRule, WSystem}
use Rattle.wh_read.specs.Spelled.{Placed}
use Rattle.wh_read.specs.Lexemes.{Lexeme, a_name, a_dollar, a_percent, key_sort, key_fun, key_rule, backslash, colon, dot, semicolon, comma, open_paren, close_paren, open_bracket, close_bracket, open_brace, close_brace, thin_arrow, thick_arrow, lexeme}
use Rattle.wh_read.proofs.Machine.{no_terms_yet, SomeMetas, no_metas_yet, SomeAtoms, no_atoms_yet, atoms_so_far, next_atoms, RuleStart, Where, on_left, on_right, in_body, in_paren, in_bracket, TypeWhere, of_fun, in_brackets, of_meta, behind_arrow, in_type_paren, AtypeWhere, in_type, level, atype_level, Place, behind_sort, sort_named, behind_fun, fun_named, behind_rule, want_meta, meta_named, meta_colon, want_atype, behind_atype, behind_lambda, binder_named, binder_typed, want_atom, behind_name, behind_percent, State, between, inside, failed, too_many, opened, type_ended, term_ended, spine_ended, at_atom, behind_plain, at_atype, move, read_some, step, run, lambda_begins, at_meta, at_binder, sort_begins, fun_begins, begin}

-- not too many levels
abbrev pub Calm : State → Type 0
Calm too_many = ⊥
Calm s = Unit {0}

-- the state with bounds, and the one without
abbrev pub Under : State → State → Type 0
Under too_many s = (p : Place) × (s ≡ inside p)
Under t s = s ≡ t

same : (s : State) → Calm s → Under s s
same (between w) h = refl
same (inside p) h = refl
same failed h = refl
same too_many h = absurd h

opened-under : (k n : ℕ) (p : Place) → Under (opened true k n p) (opened false k n p)
opened-under k n p = tested (nat_lt k n)
  where
    tested : (c : Bool) → Under (if c then inside p else too_many) (inside p)
    tested true = refl
    tested false = (p, refl)

type_ended-calm : (c : TypeWhere) (t : WType) (l : Lexeme) (at : ℕ) → Calm (type_ended c t l at)
type_ended-calm (of_fun f) t semicolon at = tt
type_ended-calm (of_fun f) t l at = tt
type_ended-calm (in_brackets m colon_at open_at before) t comma at = tt
type_ended-calm (in_brackets m colon_at open_at before) t close_bracket at = tt
type_ended-calm (in_brackets m colon_at open_at before) t l at = tt
type_ended-calm (of_meta m colon_at args) t comma at = tt
type_ended-calm (of_meta m colon_at args) t close_brace at = tt
type_ended-calm (of_meta m colon_at args) t l at = tt
type_ended-calm (behind_arrow a arrow_at c) t l at = type_ended-calm c (arrow a arrow_at t) l at
type_ended-calm (in_type_paren open_at c) t close_paren at = tt
type_ended-calm (in_type_paren open_at c) t l at = tt

term_ended-calm : (w : Where) (t : WTerm) (l : Lexeme) (at : ℕ) → Calm (term_ended w t l at)
term_ended-calm (on_left h) t thick_arrow at = tt
term_ended-calm (on_left h) t l at = tt
term_ended-calm (on_right h left arrow_at) t semicolon at = tt
term_ended-calm (on_right h left arrow_at) t l at = tt
term_ended-calm (in_body lambda_at x x_at colon_at a dot_at w) t l at = term_ended-calm w (lambda lambda_at x x_at colon_at a dot_at t) l at
term_ended-calm (in_paren open_at us w) t close_paren at = tt
term_ended-calm (in_paren open_at us w) t l at = tt
term_ended-calm (in_bracket x x_at open_at before us w) t comma at = tt
term_ended-calm (in_bracket x x_at open_at before us w) t close_bracket at = tt
term_ended-calm (in_bracket x x_at open_at before us w) t l at = tt

spine_ended-calm : (us : SomeAtoms) (w : Where) (l : Lexeme) (at : ℕ) → Calm (spine_ended us w l at)
spine_ended-calm no_atoms_yet w l at = tt
spine_ended-calm (atoms_so_far h rest) w l at = term_ended-calm w (atoms h rest) l at

at_meta-calm : (u : RuleStart) (before : SomeMetas) (l : Lexeme) (at : ℕ) → Calm (at_meta u before l at)
at_meta-calm u before (a_name x) at = tt
at_meta-calm u no_metas_yet close_brace at = tt
at_meta-calm u before l at = tt

at_binder-calm : (lambda_at : ℕ) (w : Where) (l : Lexeme) (at : ℕ) → Calm (at_binder lambda_at w l at)
at_binder-calm lambda_at w (a_name x) at = tt
at_binder-calm lambda_at w (a_dollar n) at = tt
at_binder-calm lambda_at w l at = tt

lambda_begins-under : (us : SomeAtoms) (w : Where) (at : ℕ) → Under (lambda_begins true us w at) (lambda_begins false us w at)
lambda_begins-under no_atoms_yet w at = opened-under (level w) 400 (behind_lambda at w)
lambda_begins-under (atoms_so_far h rest) w at = refl

at_atom-under : (us : SomeAtoms) (w : Where) (l : Lexeme) (at : ℕ) → Under (at_atom true us w l at) (at_atom false us w l at)
at_atom-under us w (a_name x) at = refl
at_atom-under us w (a_dollar n) at = refl
at_atom-under us w (a_percent n) at = refl
at_atom-under us w open_paren at = opened-under (level w) 400 (want_atom no_atoms_yet (in_paren at us w))
at_atom-under us w backslash at = lambda_begins-under us w at
at_atom-under us w l at = same (spine_ended us w l at) (spine_ended-calm us w l at)

behind_plain-under : (x : List ℕ) (x_at : ℕ) (us : SomeAtoms) (w : Where) (l : Lexeme) (at : ℕ) → Under (behind_plain true x x_at us w l at) (behind_plain false x x_at us w l at)
behind_plain-under x x_at us w open_bracket at = opened-under (level w) 400 (want_atom no_atoms_yet (in_bracket x x_at at no_terms_yet us w))
behind_plain-under x x_at us w l at = at_atom-under (next_atoms us (plain_name x x_at)) w l at

at_atype-under : (c : AtypeWhere) (l : Lexeme) (at : ℕ) → Under (at_atype true c l at) (at_atype false c l at)
at_atype-under c (a_name x) at = refl
at_atype-under c open_paren at = opened-under (atype_level c) 16 (want_atype (in_type (in_type_paren at c)))
at_atype-under c l at = refl

move-under : (p : Place) (l : Lexeme) (at : ℕ) → Under (move true p l at) (move false p l at)
move-under (behind_sort ss sort_at) (a_name x) at = refl
move-under (behind_sort ss sort_at) l at = refl
move-under (sort_named ss sort_at x x_at) semicolon at = refl
move-under (sort_named ss sort_at x x_at) l at = refl
move-under (behind_fun ss fs fun_at) (a_name x) at = refl
move-under (behind_fun ss fs fun_at) l at = refl
move-under (fun_named ss fs fun_at x x_at) colon at = refl
move-under (fun_named ss fs fun_at x x_at) l at = refl
move-under (behind_rule s rule_at) open_brace at = refl
move-under (behind_rule s rule_at) l at = refl
move-under (want_meta u before) l at = same (at_meta u before l at) (at_meta-calm u before l at)
move-under (meta_named m) colon at = refl
move-under (meta_named m) l at = refl
move-under (meta_colon m colon_at) open_bracket at = refl
move-under (meta_colon m colon_at) l at = at_atype-under (in_type (of_meta m colon_at no_brackets)) l at
move-under (want_atype c) l at = at_atype-under c l at
move-under (behind_atype c a) thin_arrow at = refl
move-under (behind_atype c a) l at = same (type_ended c (only a) l at) (type_ended-calm c (only a) l at)
move-under (behind_lambda lambda_at w) l at = same (at_binder lambda_at w l at) (at_binder-calm lambda_at w l at)
move-under (binder_named lambda_at x x_at w) colon at = refl
move-under (binder_named lambda_at x x_at w) l at = refl
move-under (binder_typed lambda_at x x_at colon_at a w) dot at = refl
move-under (binder_typed lambda_at x x_at colon_at a w) l at = refl
move-under (want_atom us w) l at = at_atom-under us w l at
move-under (behind_name x x_at us w) l at = behind_plain-under x x_at us w l at
move-under (behind_percent n n_at us w) colon at = refl
move-under (behind_percent n n_at us w) l at = refl

begin-calm : (s : WSystem) (l : Lexeme) (at : ℕ) → Calm (begin s l at)
begin-calm s key_sort at = sort_calm s.sorts s.funs s.rules at
  where
    sort_calm : (ss : List WSort) (fs : List WFun) (us : List WRule) (at : ℕ) → Calm (sort_begins ss fs us at)
    sort_calm ss [] [] at = tt
    sort_calm ss [] (u ∷ us) at = tt
    sort_calm ss (f ∷ fs) us at = tt
begin-calm s key_fun at = fun_calm s.sorts s.funs s.rules at
  where
    fun_calm : (ss : List WSort) (fs : List WFun) (us : List WRule) (at : ℕ) → Calm (fun_begins ss fs us at)
    fun_calm ss fs [] at = tt
    fun_calm ss fs (u ∷ us) at = tt
begin-calm s key_rule at = tt
begin-calm s l at = tt

-- one token
pub step-under : (s : State) (o : Option Lexeme) (at : ℕ) → Calm s → Under (read_some true s o at) (read_some false s o at)
step-under (between w) None at h = refl
step-under (between w) (Some l) at h = same (begin w l at) (begin-calm w l at)
step-under (inside p) None at h = refl
step-under (inside p) (Some l) at h = move-under p l at
step-under failed o at h = refl
step-under too_many o at h = absurd h

pub read_failed : (b : Bool) (o : Option Lexeme) (at : ℕ) → read_some b failed o at ≡ failed
read_failed b None at = refl
read_failed b (Some l) at = refl

pub read_too_many : (b : Bool) (o : Option Lexeme) (at : ℕ) → read_some b too_many o at ≡ too_many
read_too_many b None at = refl
read_too_many b (Some l) at = refl

-- a fault stays
pub run_failed : (b : Bool) (r : List Placed) → run b failed r ≡ failed
run_failed b [] = refl
run_failed b (k ∷ r) = ap (λ (s : State). run b s r) (read_failed b (lexeme k.kind) k.at) ∙ run_failed b r

pub run_too_many : (b : Bool) (r : List Placed) → run b too_many r ≡ too_many
run_too_many b [] = refl
run_too_many b (k ∷ r) = ap (λ (s : State). run b s r) (read_too_many b (lexeme k.kind) k.at) ∙ run_too_many b r

-- whether a state is one of too many levels
calm_or : (s : State) → Calm s ⊎ (s ≡ too_many)
calm_or (between w) = inl tt
calm_or (inside p) = inl tt
calm_or failed = inl tt
calm_or too_many = inr refl

-- the state after one token is at or below the one without bounds; where it is calm they are the same
under-calm : (t u : State) → Under t u → Calm t → u ≡ t
under-calm (between w) u e c = e
under-calm (inside p) u e c = e
under-calm failed u e c = e
under-calm too_many u e c = absurd c

-- many tokens, where none opened too much
pub run-under : (r : List Placed) (s : State) → Calm (run true s r) → run false s r ≡ run true s r
run-under [] s h = refl
run-under (k ∷ r) s h =
    let before : Calm s = calm_before (k ∷ r) s h in
    let after : Calm (step true s k) = calm_before r (step true s k) h in
    ap (λ (x : State). run false x r) (under-calm (step true s k) (step false s k) (step-under s (lexeme k.kind) k.at before) after) ∙ run-under r (step true s k) h
  where
    calm_before : (q : List Placed) (t : State) → Calm (run true t q) → Calm t
    calm_before q t c = ⊎_elim (λ d. d) (λ e. absurd (subst Calm (ap (λ (x : State). run true x q) e ∙ run_too_many true q) c)) (calm_or t)
