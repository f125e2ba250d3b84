-- Lines in four sections with other items, as with or without pointers: the first byte of a line leads to the same.
use Rattle.std.proofs.Common.{◌≡◌, ℕ, Bool, true, false, cond, ◌==◌, List, [], refl, ap, ap₂, ◌∙◌}
use Rattle.wh_cert_lines.specs.Sections.{Lines, in_funs, in_marks, in_rules, in_pairs, LinesStep, on, begins, drops, refused, to_marks, to_rules, to_pairs, pair_step, rule_step, mark_step, first_step, map_lines}
use Rattle.wh_cert_lines.specs.SectionsViews.{lines_of, begun_went}
use Rattle.wh_cert_lines.specs.declared.sections.Sections.{Sections}
use Rattle.wh_cert_lines.specs.declared.sections.LineBegun.{LineBegun}

-- the other items of lists, which are none where there were none
pub record Reading (N L M C : Type 0) : Type 0 where
  pub named : List N → List M
  pub shown : List L → List C
  pub no_named : named [] ≡ []
  pub no_shown : shown [] ≡ []

abbrev pub said : {N L M C : Type 0} → Reading N L M C → Lines N L → Lines M C
said q x = map_lines q.named q.shown x

marks_said : {N L M C : Type 0} (q : Reading N L M C) (x : Lines N L) → said q (to_marks x) ≡ to_marks (said q x)
marks_said q (in_funs funs) = ap (in_marks (q.named funs)) q.no_named
marks_said q (in_marks funs marks) = refl
marks_said q (in_rules funs marks rules) = refl
marks_said q (in_pairs funs marks rules pairs) = refl

rules_said : {N L M C : Type 0} (q : Reading N L M C) (x : Lines N L) → said q (to_rules x) ≡ to_rules (said q x)
rules_said q (in_funs funs) = ap₂ (in_rules (q.named funs)) q.no_named q.no_shown
rules_said q (in_marks funs marks) = ap (in_rules (q.named funs) (q.named marks)) q.no_shown
rules_said q (in_rules funs marks rules) = refl
rules_said q (in_pairs funs marks rules pairs) = refl

pub pairs_said : {N L M C : Type 0} (q : Reading N L M C) (x : Lines N L) → said q (to_pairs x) ≡ to_pairs (said q x)
pairs_said {N} {L} {M} {C} q (in_funs funs) =
    ap₂ (λ (ms : List M) (rs : List C). in_pairs (q.named funs) ms rs rs) q.no_named q.no_shown
pairs_said {N} {L} {M} {C} q (in_marks funs marks) = ap (λ (rs : List C). in_pairs (q.named funs) (q.named marks) rs rs) q.no_shown
pairs_said {N} {L} {M} {C} q (in_rules funs marks rules) = ap (in_pairs (q.named funs) (q.named marks) (q.shown rules)) q.no_shown
pairs_said {N} {L} {M} {C} q (in_pairs funs marks rules pairs) = refl

-- the first byte of a line

abbrev pub said_step : {N L M C : Type 0} (K : Type 0) → Reading N L M C → LinesStep N L (Unit {0}) → LinesStep M C K
said_step K q (on x k) = refused
said_step K q (begins x) = begins (said q x)
said_step K q (drops x) = drops (said q x)
said_step K q refused = refused

said_or : {N L M C : Type 0} (K : Type 0) (q : Reading N L M C) (c : Bool) (x : Lines N L) (o : LinesStep N L (Unit {0})) (z : Lines M C) (e : LinesStep M C K) → said q x ≡ z → said_step K q o ≡ e
    → said_step K q (cond c (begins x) o) ≡ cond c (begins z) e
said_or K q true x o z e here other = ap begins here
said_or K q false x o z e here other = other

drop_said : {N L M C : Type 0} (K : Type 0) (q : Reading N L M C) (c : Bool) (x : Lines N L) (z : Lines M C) → said q x ≡ z → said_step K q (cond c (drops x) refused) ≡ cond c (drops z) refused
drop_said K q true x z here = ap drops here
drop_said K q false x z here = refl

pair_said : {N L M C : Type 0} (K : Type 0) (q : Reading N L M C) (x : Lines N L) (b : ℕ) → said_step K q (pair_step x b) ≡ pair_step (said q x) b
pair_said K q x b =
    said_or K q (b == 112) (to_pairs x) (cond (b == 100) (drops (to_pairs x)) refused) (to_pairs (said q x)) (cond (b == 100) (drops (to_pairs (said q x))) refused) (pairs_said q x)
    (drop_said K q (b == 100) (to_pairs x) (to_pairs (said q x)) (pairs_said q x))

rule_said : {N L M C : Type 0} (K : Type 0) (q : Reading N L M C) (x : Lines N L) (b : ℕ) → said_step K q (rule_step x b) ≡ rule_step (said q x) b
rule_said K q x b = said_or K q (b == 114) (to_rules x) (pair_step x b) (to_rules (said q x)) (pair_step (said q x) b) (rules_said q x) (pair_said K q x b)

mark_said : {N L M C : Type 0} (K : Type 0) (q : Reading N L M C) (x : Lines N L) (b : ℕ) → said_step K q (mark_step x b) ≡ mark_step (said q x) b
mark_said K q x b = said_or K q (b == 109) (to_marks x) (rule_step x b) (to_marks (said q x)) (rule_step (said q x) b) (marks_said q x) (rule_said K q x b)

first_said : {N L M C : Type 0} (K : Type 0) (q : Reading N L M C) (x : Lines N L) (b : ℕ) → said_step K q (first_step x b) ≡ first_step (said q x) b
first_said K q (in_funs funs) b =
    said_or K q (b == 102) (in_funs funs) (mark_step (in_funs funs) b) (in_funs (q.named funs)) (mark_step (in_funs (q.named funs)) b) refl (mark_said K q (in_funs funs) b)
first_said K q (in_marks funs marks) b = mark_said K q (in_marks funs marks) b
first_said K q (in_rules funs marks rules) b = rule_said K q (in_rules funs marks rules) b
first_said K q (in_pairs funs marks rules pairs) b = pair_said K q (in_pairs funs marks rules pairs) b

pub begun_said : {N L M C : Type 0} (K : Type 0) (q : Reading N L M C) (went : LineBegun) (old new : Sections N L) (b : ℕ) → begun_went went new ≡ first_step (lines_of old) b
    → said_step K q (begun_went went new) ≡ first_step (said q (lines_of old)) b
begun_said K q went old new b e = ap (said_step K q) e ∙ first_said K q (lines_of old) b
