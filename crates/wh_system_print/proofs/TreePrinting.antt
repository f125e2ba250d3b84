-- Printing terms.
use Rattle.std.proofs.Common.{◌≡◌, ℕ, ◌==◌, false, List, [], ◌∷◌, ◌++◌, length, refl, sym, ap, subst}
use Rattle.std.proofs.lemmas.Bool.{true≢false}
use Rattle.wh_terms.specs.Tree.{Tm, meta, app, Tms, none, more}
use Rattle.wh_terms.specs.Erase.{tms}
use Rattle.wh_terms.specs.declared.term.Term.{Term}
use Rattle.wh_text.specs.RawTree.{RTm, named, numbered, free_variable, meta as raw_meta, lam as raw_lam, spine, RTms, none as no_raws, more as more_raws}
use Rattle.wh_text.specs.Spelling.{put_term, put_parts, put_each, put_bracketed}
use Rattle.wh_text.specs.Pushes.{Pushes}
use Rattle.wh_text.proofs.PrintLemmas.{push_bytes, push_byte, push_then, push_same, meta_put}
use Rattle.wh_system.specs.Canonical.{Names, name_at, and_last, with_argument, raw_below, each_raw_below}
use Rattle.wh_system_print.specs.Fronts.{put_front}

-- a spine with one argument more, without its parentheses and with them

parts-last : (ts : RTms) (u : RTm) (r : List ℕ) → put_parts ts (32 ∷ put_term u r) ≡ put_parts (and_last ts u) r
parts-last no_raws u r = refl
parts-last (more_raws t ts) u r = ap (λ (s : List ℕ). 32 ∷ put_term t s) (parts-last ts u r)

front-argument : (h u : RTm) (r : List ℕ) → put_front h (32 ∷ put_term u r) ≡ put_front (with_argument h u) r
front-argument (named n at) u r = refl
front-argument (numbered k at) u r = refl
front-argument (free_variable k a at) u r = refl
front-argument (raw_meta n ts at) u r = refl
front-argument (raw_lam x a t at) u r = refl
front-argument (spine h ts at) u r = ap (put_term h) (parts-last ts u r)

front-enclosed : (h u : RTm) (r : List ℕ) → 40 ∷ put_front (with_argument h u) (41 ∷ r) ≡ put_term (with_argument h u) r
front-enclosed (named n at) u r = refl
front-enclosed (numbered k at) u r = refl
front-enclosed (free_variable k a at) u r = refl
front-enclosed (raw_meta n ts at) u r = refl
front-enclosed (raw_lam x a t at) u r = refl
front-enclosed (spine h ts at) u r = refl

pub front_pushes : (n : Names) (d : ℕ) (t f u : Tm) (a b c e : List ℕ) → t ≡ app f u → Pushes a b (put_front (raw_below n d f)) → c ≡ b ++ 32 ∷ [] → Pushes c e (put_term (raw_below n d u))
    → Pushes a e (put_front (raw_below n d t))
front_pushes n d t f u a b c e is front space argument =
    let H : RTm = raw_below n d f in
    let U : RTm = raw_below n d u in
    let spaced = push_then b c e (λ r. 32 ∷ r) (put_term U) (push_byte b c 32 space) argument in
    let whole = push_then a b e (put_front H) (λ r. 32 ∷ put_term U r) front spaced in
    subst (λ (v : Tm). Pushes a e (put_front (raw_below n d v))) (sym is) (push_same a e (λ r. put_front H (32 ∷ put_term U r)) (put_front (with_argument H U)) (front-argument H U) whole)

pub spine_pushes : (n : Names) (d : ℕ) (t f u : Tm) (a b c e g h : List ℕ) → t ≡ app f u → b ≡ a ++ 40 ∷ [] → Pushes b c (put_front (raw_below n d f)) → e ≡ c ++ 32 ∷ []
    → Pushes e g (put_term (raw_below n d u)) → h ≡ g ++ 41 ∷ [] → Pushes a h (put_term (raw_below n d t))
spine_pushes n d t f u a b c e g h is opens front space argument closes =
    let F : List ℕ → List ℕ = put_front (raw_below n d (app f u)) in
    let inner = push_then b g h F (λ r. 41 ∷ r) (front_pushes n d (app f u) f u b c e g refl front space argument) (push_byte g h 41 closes) in
    let whole = push_then a b h (λ r. 40 ∷ r) (λ r. F (41 ∷ r)) (push_byte a b 40 opens) inner in
    subst (λ (v : Tm). Pushes a h (put_term (raw_below n d v))) (sym is)
    (push_same a h (λ r. 40 ∷ F (41 ∷ r)) (put_term (raw_below n d (app f u))) (front-enclosed (raw_below n d f) (raw_below n d u)) whole)

-- a meta-variable with its arguments

meta-put : (n : Names) (d z : ℕ) (ts : Tms) (r : List ℕ) → name_at n.metas z ++ put_bracketed (each_raw_below n d ts) r ≡ put_term (raw_below n d (meta z ts)) r
meta-put n d z none r = refl
meta-put n d z (more t ts) r = meta_put (name_at n.metas z) (each_raw_below n d (more t ts)) 0 r

pub meta_pushes : (n : Names) (d : ℕ) (t : Tm) (z : ℕ) (ts : Tms) (a b c : List ℕ) → t ≡ meta z ts → b ≡ a ++ name_at n.metas z → Pushes b c (put_bracketed (each_raw_below n d ts))
    → Pushes a c (put_term (raw_below n d t))
meta_pushes n d t z ts a b c is front args =
    let N : List ℕ = name_at n.metas z in
    let R : List ℕ → List ℕ = put_bracketed (each_raw_below n d ts) in
    let whole = push_then a b c (λ r. N ++ r) R (push_bytes a b N front) args in
    subst (λ (u : Tm). Pushes a c (put_term (raw_below n d u))) (sym is) (push_same a c (λ r. N ++ R r) (put_term (raw_below n d (meta z ts))) (meta-put n d z ts) whole)

bracketed-some : (n : Names) (d : ℕ) (xs : List Term) → (length xs == 0) ≡ false → (r : List ℕ)
    → put_each 91 44 (each_raw_below n d (tms xs)) (93 ∷ r) ≡ put_bracketed (each_raw_below n d (tms xs)) r
bracketed-some n d [] some r = absurd (true≢false some)
bracketed-some n d (x ∷ xs) some r = refl

pub bracketed_pushes : (n : Names) (d : ℕ) (xs ys : List Term) (a b c : List ℕ) → ys ≡ xs → (length ys == 0) ≡ false → Pushes a b (put_each 91 44 (each_raw_below n d (tms xs)))
    → c ≡ b ++ 93 ∷ [] → Pushes a c (put_bracketed (each_raw_below n d (tms xs)))
bracketed_pushes n d xs ys a b c same some inner closes =
    let L : List ℕ → List ℕ = put_each 91 44 (each_raw_below n d (tms xs)) in
    let full : (length xs == 0) ≡ false = subst (λ (zs : List Term). (length zs == 0) ≡ false) same some in
    push_same a c (λ r. L (93 ∷ r)) (put_bracketed (each_raw_below n d (tms xs))) (bracketed-some n d xs full) (push_then a b c L (λ r. 93 ∷ r) inner (push_byte b c 93 closes))
