-- Lines in four sections, whatever a line holds: what the first byte of a line has read, and where it leads.
use Rattle.std.proofs.Common.{◌≡◌, ℕ, cond, ◌==◌, false, List, [], ◌∷◌, ◌++◌, codes, refl, sym, ap, ◌∙◌, subst}
use Rattle.std.proofs.lemmas.Bool.{eqb-true, cond_both, cond-false}
use Rattle.wh_cert_lines.specs.Sections.{Lines, in_funs, in_marks, in_rules, in_pairs, LinesStep, on, begins, drops, refused, line_first, line_rest, to_marks, to_rules, to_pairs, pair_step, rule_step, mark_step, first_step}

-- how lists of lines are spelled behind a word, those of symbols and those of rules or pairs, with r behind them
pub record Spelling (N L : Type 0) : Type 0 where
  pub named : List ℕ → List N → List ℕ → List ℕ
  pub shown : List ℕ → List L → List ℕ → List ℕ
  pub no_named : (w r : List ℕ) → named w [] r ≡ r
  pub no_shown : (w r : List ℕ) → shown w [] r ≡ r

-- their limits, where n bytes were read
pub record Limits (N L : Type 0) : Type 1 where
  pub named : ℕ → List N → Type 0
  pub shown : ℕ → List L → Type 0
  pub no_named : (n : ℕ) → named n []
  pub no_shown : (n : ℕ) → shown n []

-- what was read, with r behind it
abbrev pub put_lines : {N L : Type 0} → Spelling N L → Lines N L → List ℕ → List ℕ
put_lines p (in_funs funs) r = p.named (codes "fun ") funs r
put_lines p (in_marks funs marks) r = p.named (codes "fun ") funs (p.named (codes "mark ") marks r)
put_lines p (in_rules funs marks rules) r =
    p.named (codes "fun ") funs (p.named (codes "mark ") marks (p.shown (codes "rule") rules r))
put_lines p (in_pairs funs marks rules pairs) r =
    p.named (codes "fun ") funs (p.named (codes "mark ") marks (p.shown (codes "rule") rules (p.shown (codes "pair") pairs r)))

-- the lines so far and the word of the present one
abbrev pub put_begun : {N L : Type 0} → Spelling N L → Lines N L → List ℕ → List ℕ
put_begun p x r = put_lines p x (line_first x ∷ (line_rest x ++ r))

abbrev pub GoodLines : {N L : Type 0} → Limits N L → ℕ → Lines N L → Type 0
GoodLines q n (in_funs funs) = q.named n funs
GoodLines q n (in_marks funs marks) = q.named n funs × q.named n marks
GoodLines q n (in_rules funs marks rules) = q.named n funs × q.named n marks × q.shown n rules
GoodLines q n (in_pairs funs marks rules pairs) = q.named n funs × q.named n marks × q.shown n rules × q.shown n pairs

-- which lines the last kind has

abbrev pub TakesNamed : {N L : Type 0} → Lines N L → Type 0
TakesNamed (in_funs funs) = Unit {0}
TakesNamed (in_marks funs marks) = Unit {0}
TakesNamed _ = ⊥

abbrev pub TakesShown : {N L : Type 0} → Lines N L → Type 0
TakesShown (in_rules funs marks rules) = Unit {0}
TakesShown (in_pairs funs marks rules pairs) = Unit {0}
TakesShown _ = ⊥

-- nothing of a kind

marks_good : {N L : Type 0} (q : Limits N L) (n : ℕ) (x : Lines N L) → GoodLines q n x → GoodLines q n (to_marks x)
marks_good q n (in_funs funs) g = (g, q.no_named n)
marks_good q n (in_marks funs marks) g = g
marks_good q n (in_rules funs marks rules) g = g
marks_good q n (in_pairs funs marks rules pairs) g = g

rules_good : {N L : Type 0} (q : Limits N L) (n : ℕ) (x : Lines N L) → GoodLines q n x → GoodLines q n (to_rules x)
rules_good q n (in_funs funs) g = (g, q.no_named n, q.no_shown n)
rules_good q n (in_marks funs marks) g = (g.0, g.1, q.no_shown n)
rules_good q n (in_rules funs marks rules) g = g
rules_good q n (in_pairs funs marks rules pairs) g = g

pub pairs_good : {N L : Type 0} (q : Limits N L) (n : ℕ) (x : Lines N L) → GoodLines q n x → GoodLines q n (to_pairs x)
pairs_good q n (in_funs funs) g = (g, q.no_named n, q.no_shown n, q.no_shown n)
pairs_good q n (in_marks funs marks) g = (g.0, g.1, q.no_shown n, q.no_shown n)
pairs_good q n (in_rules funs marks rules) g = (g.0, g.1, g.2, q.no_shown n)
pairs_good q n (in_pairs funs marks rules pairs) g = g

marks_text : {N L : Type 0} (p : Spelling N L) (x : Lines N L) (r : List ℕ) → put_lines p (to_marks x) r ≡ put_lines p x r
marks_text p (in_funs funs) r = ap (p.named (codes "fun ") funs) (p.no_named (codes "mark ") r)
marks_text p (in_marks funs marks) r = refl
marks_text p (in_rules funs marks rules) r = refl
marks_text p (in_pairs funs marks rules pairs) r = refl

rules_text : {N L : Type 0} (p : Spelling N L) (x : Lines N L) (r : List ℕ) → put_lines p (to_rules x) r ≡ put_lines p x r
rules_text p (in_funs funs) r =
    ap (p.named (codes "fun ") funs) (p.no_named (codes "mark ") (p.shown (codes "rule") [] r) ∙ p.no_shown (codes "rule") r)
rules_text p (in_marks funs marks) r =
    ap (λ (s : List ℕ). p.named (codes "fun ") funs (p.named (codes "mark ") marks s)) (p.no_shown (codes "rule") r)
rules_text p (in_rules funs marks rules) r = refl
rules_text p (in_pairs funs marks rules pairs) r = refl

-- no pair behind the lines before
pairs_behind : {N L : Type 0} (p : Spelling N L) (x : Lines N L) (r : List ℕ) → put_lines p (to_pairs x) r ≡ put_lines p (to_rules x) r
pairs_behind p (in_funs funs) r =
    ap (λ (s : List ℕ). p.named (codes "fun ") funs (p.named (codes "mark ") [] (p.shown (codes "rule") [] s))) (p.no_shown (codes "pair") r)
pairs_behind p (in_marks funs marks) r =
    ap (λ (s : List ℕ). p.named (codes "fun ") funs (p.named (codes "mark ") marks (p.shown (codes "rule") [] s))) (p.no_shown (codes "pair") r)
pairs_behind p (in_rules funs marks rules) r =
    ap (λ (s : List ℕ). p.named (codes "fun ") funs (p.named (codes "mark ") marks (p.shown (codes "rule") rules s))) (p.no_shown (codes "pair") r)
pairs_behind p (in_pairs funs marks rules pairs) r = refl

pub pairs_text : {N L : Type 0} (p : Spelling N L) (x : Lines N L) (r : List ℕ) → put_lines p (to_pairs x) r ≡ put_lines p x r
pairs_text p x r = pairs_behind p x r ∙ rules_text p x r

-- what the first byte of a line leads to: good lines, which have read f
abbrev pub FirstNext : {N L K : Type 0} → Spelling N L → Limits N L → ℕ → LinesStep N L K → (List ℕ → List ℕ) → Type 0
FirstNext p q n (on x k) f = ⊥
FirstNext p q n (begins x) f = GoodLines q n x × ((r : List ℕ) → put_lines p x (line_first x ∷ r) ≡ f r)
FirstNext p q n (drops x) f = GoodLines q n x × ((r : List ℕ) → put_lines p x (100 ∷ r) ≡ f r)
FirstNext p q n refused f = Unit {0}

if_byte : {N L K : Type 0} (p : Spelling N L) (q : Limits N L) (n b c : ℕ) (s o : LinesStep N L K) (f : List ℕ → List ℕ) → FirstNext p q n s (λ r. f (c ∷ r)) → FirstNext p q n o (λ r. f (b ∷ r)) → FirstNext p q n (cond (b == c) s o) (λ r. f (b ∷ r))
if_byte p q n b c s o f so other =
    cond_both (b == c) s o (λ t. FirstNext p q n t (λ r. f (b ∷ r)))
    (λ e. subst (λ (x : ℕ). FirstNext p q n s (λ r. f (x ∷ r))) (sym (eqb-true b c e)) so)
    (λ e. other)

pairs_first : {N L : Type 0} (x : Lines N L) → line_first (to_pairs x) ≡ 112
pairs_first (in_funs funs) = refl
pairs_first (in_marks funs marks) = refl
pairs_first (in_rules funs marks rules) = refl
pairs_first (in_pairs funs marks rules pairs) = refl

pair_kept : {N L : Type 0} (K : Type 0) (p : Spelling N L) (q : Limits N L) (n : ℕ) (x : Lines N L) (b : ℕ) → GoodLines q n x → FirstNext {K = K} p q n (pair_step x b) (λ r. put_lines p x (b ∷ r))
pair_kept K p q n x b g =
    if_byte p q n b 112 (begins (to_pairs x)) _ (put_lines p x)
    (pairs_good q n x g, λ r. ap (λ (c : ℕ). put_lines p (to_pairs x) (c ∷ r)) (pairs_first x) ∙ pairs_text p x (112 ∷ r))
    (if_byte p q n b 100 (drops (to_pairs x)) refused (put_lines p x) (pairs_good q n x g, λ r. pairs_text p x (100 ∷ r)) tt)

-- only where rules may still come
abbrev Rules : {N L : Type 0} → Lines N L → Type 0
Rules (in_pairs funs marks rules pairs) = ⊥
Rules _ = Unit {0}

rules_first : {N L : Type 0} (x : Lines N L) → Rules x → line_first (to_rules x) ≡ 114
rules_first (in_funs funs) h = refl
rules_first (in_marks funs marks) h = refl
rules_first (in_rules funs marks rules) h = refl
rules_first (in_pairs funs marks rules pairs) h = absurd h

rule_kept : {N L : Type 0} (K : Type 0) (p : Spelling N L) (q : Limits N L) (n : ℕ) (x : Lines N L) (b : ℕ) → Rules x → GoodLines q n x → FirstNext {K = K} p q n (rule_step x b) (λ r. put_lines p x (b ∷ r))
rule_kept K p q n x b h g =
    if_byte p q n b 114 (begins (to_rules x)) (pair_step x b) (put_lines p x)
    (rules_good q n x g, λ r. ap (λ (c : ℕ). put_lines p (to_rules x) (c ∷ r)) (rules_first x h) ∙ rules_text p x (114 ∷ r))
    (pair_kept K p q n x b g)

-- only where marked symbols may still come
marks_first : {N L : Type 0} (x : Lines N L) → TakesNamed x → line_first (to_marks x) ≡ 109
marks_first (in_funs funs) h = refl
marks_first (in_marks funs marks) h = refl
marks_first (in_rules funs marks rules) h = absurd h
marks_first (in_pairs funs marks rules pairs) h = absurd h

named_before_rules : {N L : Type 0} (x : Lines N L) → TakesNamed x → Rules x
named_before_rules (in_funs funs) h = tt
named_before_rules (in_marks funs marks) h = tt
named_before_rules (in_rules funs marks rules) h = tt
named_before_rules (in_pairs funs marks rules pairs) h = absurd h

mark_kept : {N L : Type 0} (K : Type 0) (p : Spelling N L) (q : Limits N L) (n : ℕ) (x : Lines N L) (b : ℕ) → TakesNamed x → GoodLines q n x → FirstNext {K = K} p q n (mark_step x b) (λ r. put_lines p x (b ∷ r))
mark_kept K p q n x b h g =
    if_byte p q n b 109 (begins (to_marks x)) (rule_step x b) (put_lines p x)
    (marks_good q n x g, λ r. ap (λ (c : ℕ). put_lines p (to_marks x) (c ∷ r)) (marks_first x h) ∙ marks_text p x (109 ∷ r))
    (rule_kept K p q n x b (named_before_rules x h) g)

pub first_kept : {N L : Type 0} (K : Type 0) (p : Spelling N L) (q : Limits N L) (n : ℕ) (x : Lines N L) (b : ℕ) → GoodLines q n x → FirstNext {K = K} p q n (first_step x b) (λ r. put_lines p x (b ∷ r))
first_kept K p q n (in_funs funs) b g =
    if_byte p q n b 102 (begins (in_funs funs)) (mark_step (in_funs funs) b) (put_lines p (in_funs funs)) (g, λ r. refl) (mark_kept K p q n (in_funs funs) b tt g)
first_kept K p q n (in_marks funs marks) b g = mark_kept K p q n (in_marks funs marks) b tt g
first_kept K p q n (in_rules funs marks rules) b g = rule_kept K p q n (in_rules funs marks rules) b tt g
first_kept K p q n (in_pairs funs marks rules pairs) b g = pair_kept K p q n (in_pairs funs marks rules pairs) b g

-- where no more line of a kind comes, it is as if one of the next kind had come

pub skip_funs : {N L K : Type 0} (funs : List N) (b : ℕ) → (b == 102) ≡ false → first_step {N = N} {L = L} {K = K} (in_funs funs) b ≡ first_step (in_marks funs []) b
skip_funs funs b o = cond-false (b == 102) (begins (in_funs funs)) (mark_step (in_funs funs) b) o

pub skip_marks : {N L K : Type 0} (funs marks : List N) (b : ℕ) → (b == 109) ≡ false → first_step {N = N} {L = L} {K = K} (in_marks funs marks) b ≡ first_step (in_rules funs marks []) b
skip_marks funs marks b o = cond-false (b == 109) (begins (in_marks funs marks)) (rule_step (in_marks funs marks) b) o

pub skip_rules : {N L K : Type 0} (funs marks : List N) (rules : List L) (b : ℕ) → (b == 114) ≡ false → first_step {N = N} {L = L} {K = K} (in_rules funs marks rules) b ≡ first_step (in_pairs funs marks rules []) b
skip_rules funs marks rules b o = cond-false (b == 114) (begins (in_rules funs marks rules)) (pair_step (in_rules funs marks rules) b) o
