-- What printers append, one after another.
use Rattle.std.proofs.Common.{◌≡◌, ℕ, ◌+◌, ◌<◌, ◌≤◌, ◌^◌, ◌/◌, ◌%◌, ◌==◌, true, false, List, [], ◌∷◌, ◌++◌, length, get_or, drop, Result, Ok, Err, OnOk, refl, sym, ap, ◌∙◌, subst, arith, append_assoc}
use Rattle.std.proofs.lemmas.Bool.{true≢false, eqb-true}
use Rattle.std.proofs.lemmas.List.{drop_more, drop_all}
use Rattle.std.specs.Fmt.{decimal}
use Rattle.std.proofs.lemmas.Fmt.{decimal_digit, decimal_step}
use Rattle.wh_text.specs.RawTree.{RTy, raw_type, Binder, RTm, meta, lam, spine, RTms, none, more}
use Rattle.wh_text.specs.Spelling.{put_type, put_part, put_arguments, put_binder, put_term, put_listed, put_parts, put_each, put_bracketed}
use Rattle.wh_text.specs.Pushes.{Pushes}
use Rattle.wh_text.specs.Erase.{rty, rtys, rtm, rtms}
use Rattle.wh_text.specs.declared.raw.RawType.{RawType, out-RawType}
use Rattle.wh_text.specs.declared.raw.RawTerm.{RawTerm}
use Rattle.wh_text.proofs.RawLemmas.{rty_parts}

pub on_ok : {T E : Type 0} (r : Result T E) (P Q : Type 0) → (P → Q) → OnOk r P → OnOk r Q
on_ok (Ok x) P Q f p = f p
on_ok (Err e) P Q f p = tt

pub push_bytes : (a b xs : List ℕ) → b ≡ a ++ xs → Pushes a b (λ r. xs ++ r)
push_bytes a b xs e =
    record { behind = λ r. ap (λ (s : List ℕ). s ++ r) e ∙ append_assoc a xs r }

pub push_byte : (a b : List ℕ) (x : ℕ) → b ≡ a ++ x ∷ [] → Pushes a b (λ r. x ∷ r)
push_byte a b x e = push_bytes a b (x ∷ []) e

pub push_then : (a b c : List ℕ) (f g : List ℕ → List ℕ) → Pushes a b f → Pushes b c g → Pushes a c (λ r. f (g r))
push_then a b c f g p q = record { behind = λ r. q.behind r ∙ p.behind (g r) }

pub push_same : (a b : List ℕ) (f g : List ℕ → List ℕ) → ((r : List ℕ) → f r ≡ g r) → Pushes a b f → Pushes a b g
push_same a b f g same p = record { behind = λ r. p.behind r ∙ ap (λ (s : List ℕ). a ++ s) (same r) }

-- what was to be pushed, with what is left of it
pub record Leaves (old new : List ℕ) (left all : List ℕ → List ℕ) : Type 0 where
  pub behind : (r : List ℕ) → new ++ left r ≡ old ++ all r

-- numbers

pub number_digit : (a b c : List ℕ) (n : ℕ) → n < 10 → b ≡ a → c ≡ b ++ (48 + n % 10) ∷ [] → c ≡ a ++ decimal n
number_digit a b c n small same e =
    let digit : n % 10 ≡ n = omega arith in
    e ∙ ap (λ (s : List ℕ). s ++ (48 + n % 10) ∷ []) same ∙ ap (λ (d : ℕ). a ++ (48 + d) ∷ []) digit ∙ ap (λ (s : List ℕ). a ++ s) (sym (decimal_digit n small))

pub number_more : (a b c : List ℕ) (n : ℕ) → 10 ≤ n → n < 2 ^ 64 → b ≡ a ++ decimal (n / 10) → c ≡ b ++ (48 + n % 10) ∷ [] → c ≡ a ++ decimal n
number_more a b c n large fits front e =
    e ∙ ap (λ (s : List ℕ). s ++ (48 + n % 10) ∷ []) front ∙ append_assoc a (decimal (n / 10)) ((48 + n % 10) ∷ []) ∙ ap (λ (s : List ℕ). a ++ s) (sym (decimal_step n large fits))

-- types

pub part_alone : (xs : List RawType) (sort : List ℕ) (at : ℕ) → (length xs == 0) ≡ true → (r : List ℕ) → sort ++ r ≡ put_part (raw_type (rtys xs) sort at) r
part_alone [] sort at lone r = refl
part_alone (x ∷ xs) sort at lone r = absurd (omega (arith, eqb-true (length (x ∷ xs)) 0 lone))

pub part_enclosed : (xs : List RawType) (sort : List ℕ) (at : ℕ) → (length xs == 0) ≡ false → (r : List ℕ) → 40 ∷ put_arguments (rtys xs) (sort ++ (41 ∷ r)) ≡ put_part (raw_type (rtys xs) sort at) r
part_enclosed [] sort at some r = absurd (true≢false some)
part_enclosed (x ∷ xs) sort at some r = refl

pub type_put : (raw : RawType) (a b c s : List ℕ) → Pushes a b (put_arguments (rtys (out-RawType raw).args)) → s ≡ (out-RawType raw).sort → c ≡ b ++ s → Pushes a c (put_type (rty raw))
type_put raw a b c s args sort e =
    let Put : RTy → Type 0 = λ t. Pushes a c (put_type t) in
    let whole : Put (raw_type (rtys (out-RawType raw).args) (out-RawType raw).sort (out-RawType raw).at) = push_then a b c (put_arguments (rtys (out-RawType raw).args)) (λ r. (out-RawType raw).sort ++ r) args (push_bytes b c (out-RawType raw).sort (e ∙ ap (λ (t : List ℕ). b ++ t) sort)) in
    subst Put (sym (rty_parts raw)) whole

pub part_alone_put : (raw : RawType) (a b s : List ℕ) (xs : List RawType) → xs ≡ (out-RawType raw).args → (length xs == 0) ≡ true → s ≡ (out-RawType raw).sort → b ≡ a ++ s → Pushes a b (put_part (rty raw))
part_alone_put raw a b s xs args lone sort e =
    let all : List RawType = (out-RawType raw).args in
    let sort_put = push_bytes a b (out-RawType raw).sort (e ∙ ap (λ (t : List ℕ). a ++ t) sort) in
    let empty : (length all == 0) ≡ true = subst (λ (ys : List RawType). (length ys == 0) ≡ true) args lone in
    let Put : RTy → Type 0 = λ t. Pushes a b (put_part t) in
    let whole : Put (raw_type (rtys (out-RawType raw).args) (out-RawType raw).sort (out-RawType raw).at) = push_same a b (λ r. (out-RawType raw).sort ++ r) (put_part (raw_type (rtys all) (out-RawType raw).sort (out-RawType raw).at)) (part_alone all (out-RawType raw).sort (out-RawType raw).at empty) sort_put in
    subst Put (sym (rty_parts raw)) whole

pub part_enclosed_put : (raw : RawType) (a b c d f s : List ℕ) (xs : List RawType) → xs ≡ (out-RawType raw).args → (length xs == 0) ≡ false → b ≡ a ++ 40 ∷ [] → Pushes b c (put_arguments (rtys (out-RawType raw).args)) → s ≡ (out-RawType raw).sort → d ≡ c ++ s → f ≡ d ++ 41 ∷ [] → Pushes a f (put_part (rty raw))
part_enclosed_put raw a b c d f s xs args some opens inner sort e closes =
    let all : List RawType = (out-RawType raw).args in
    let sort_put = push_bytes c d (out-RawType raw).sort (e ∙ ap (λ (t : List ℕ). c ++ t) sort) in
    let full : (length all == 0) ≡ false = subst (λ (ys : List RawType). (length ys == 0) ≡ false) args some in
    let ends = push_then c d f (λ r. (out-RawType raw).sort ++ r) (λ r. 41 ∷ r) sort_put (push_byte d f 41 closes) in
    let inside = push_then b c f (put_arguments (rtys all)) (λ r. (out-RawType raw).sort ++ (41 ∷ r)) inner ends in
    let enclosed = push_then a b f (λ r. 40 ∷ r) (λ r. put_arguments (rtys all) ((out-RawType raw).sort ++ (41 ∷ r))) (push_byte a b 40 opens) inside in
    let Put : RTy → Type 0 = λ t. Pushes a f (put_part t) in
    let whole : Put (raw_type (rtys (out-RawType raw).args) (out-RawType raw).sort (out-RawType raw).at) = push_same a f (λ r. 40 ∷ put_arguments (rtys all) ((out-RawType raw).sort ++ (41 ∷ r))) (put_part (raw_type (rtys all) (out-RawType raw).sort (out-RawType raw).at)) (part_enclosed all (out-RawType raw).sort (out-RawType raw).at full) enclosed in
    subst Put (sym (rty_parts raw)) whole

pub types_step : (old a b c : List ℕ) (all : List ℕ → List ℕ) (xs : List RawType) (i : ℕ) (x : RawType) → Leaves old a (put_arguments (rtys (drop i xs))) all → i < length xs → x ≡ get_or xs i x → Pushes a b (put_part (rty x)) → c ≡ b ++ 45 ∷ 62 ∷ [] → Leaves old c (put_arguments (rtys (drop (i + 1) xs))) all
types_step old a b c all xs i x left below is part arrow =
    let next : drop i xs ≡ x ∷ drop (i + 1) xs = drop_more xs i x below ∙ ap (λ (y : RawType). y ∷ drop (i + 1) xs) (sym is) in
    let both = push_then a b c (put_part (rty x)) (λ r. 45 ∷ 62 ∷ r) part (push_bytes b c (45 ∷ 62 ∷ []) arrow) in
    record { behind = λ r. both.behind (put_arguments (rtys (drop (i + 1) xs)) r) ∙ ap (λ (ys : List RawType). a ++ put_arguments (rtys ys) r) (sym next) ∙ left.behind r }

pub types_end : (old a : List ℕ) (all : List ℕ → List ℕ) (xs : List RawType) (i : ℕ) → Leaves old a (put_arguments (rtys (drop i xs))) all → length xs ≤ i → Pushes old a all
types_end old a all xs i left past =
    record { behind = λ r. ap (λ (ys : List RawType). a ++ put_arguments (rtys ys) r) (sym (drop_all i xs past)) ∙ left.behind r }

-- terms

pub each_step : (old a b c : List ℕ) (all : List ℕ → List ℕ) (first other : ℕ) (xs : List RawTerm) (i : ℕ) (x : RawTerm) → Leaves old a (put_each first other (rtms (drop i xs))) all → i < length xs → x ≡ get_or xs i x → b ≡ a ++ first ∷ [] → Pushes b c (put_term (rtm x)) → Leaves old c (put_each other other (rtms (drop (i + 1) xs))) all
each_step old a b c all first other xs i x left below is sign part =
    let next : drop i xs ≡ x ∷ drop (i + 1) xs = drop_more xs i x below ∙ ap (λ (y : RawTerm). y ∷ drop (i + 1) xs) (sym is) in
    let both = push_then a b c (λ r. first ∷ r) (put_term (rtm x)) (push_byte a b first sign) part in
    record { behind = λ r. both.behind (put_each other other (rtms (drop (i + 1) xs)) r) ∙ ap (λ (ys : List RawTerm). a ++ put_each first other (rtms ys) r) (sym next) ∙ left.behind r }

pub each_end : (old a : List ℕ) (all : List ℕ → List ℕ) (first other : ℕ) (xs : List RawTerm) (i : ℕ) → Leaves old a (put_each first other (rtms (drop i xs))) all → length xs ≤ i → Pushes old a all
each_end old a all first other xs i left past =
    record { behind = λ r. ap (λ (ys : List RawTerm). a ++ put_each first other (rtms ys) r) (sym (drop_all i xs past)) ∙ left.behind r }

each_listed : (ts : RTms) (r : List ℕ) → put_each 44 44 ts r ≡ put_listed ts r
each_listed none r = refl
each_listed (more t ts) r = ap (λ (s : List ℕ). 44 ∷ put_term t s) (each_listed ts r)

pub each_parts : (ts : RTms) (r : List ℕ) → put_each 32 32 ts r ≡ put_parts ts r
each_parts none r = refl
each_parts (more t ts) r = ap (λ (s : List ℕ). 32 ∷ put_term t s) (each_parts ts r)

pub bracketed_none : (xs : List RawTerm) → (length xs == 0) ≡ true → (r : List ℕ) → r ≡ put_bracketed (rtms xs) r
bracketed_none [] lone r = refl
bracketed_none (x ∷ xs) lone r = absurd (omega (arith, eqb-true (length (x ∷ xs)) 0 lone))

pub bracketed_some : (xs : List RawTerm) → (length xs == 0) ≡ false → (r : List ℕ) → put_each 91 44 (rtms xs) (93 ∷ r) ≡ put_bracketed (rtms xs) r
bracketed_some [] some r = absurd (true≢false some)
bracketed_some (x ∷ xs) some r = refl

-- a meta-variable with its arguments
pub meta_put : (z : List ℕ) (ts : RTms) (at : ℕ) (r : List ℕ) → z ++ put_bracketed ts r ≡ put_term (meta z ts at) r
meta_put z none at r = refl
meta_put z (more t ts) at r = ap (λ (s : List ℕ). z ++ (91 ∷ put_term t s)) (each_listed ts (93 ∷ r))

pub meta_pushes : (t : RTm) (z : List ℕ) (ts : RTms) (at : ℕ) (a b c s : List ℕ) → t ≡ meta z ts at → s ≡ z → b ≡ a ++ s → Pushes b c (put_bracketed ts) → Pushes a c (put_term t)
meta_pushes t z ts at a b c s is same e args =
    let front = push_bytes a b z (e ∙ ap (λ (x : List ℕ). a ++ x) same) in
    let both = push_then a b c (λ r. z ++ r) (put_bracketed ts) front args in
    subst (λ (u : RTm). Pushes a c (put_term u)) (sym is) (push_same a c (λ r. z ++ put_bracketed ts r) (put_term (meta z ts at)) (meta_put z ts at) both)

pub bracketed_pushes : (xs ys : List RawTerm) (a b c : List ℕ) → ys ≡ xs → (length ys == 0) ≡ false → Pushes a b (put_each 91 44 (rtms xs)) → c ≡ b ++ 93 ∷ [] → Pushes a c (put_bracketed (rtms xs))
bracketed_pushes xs ys a b c same some inner closes =
    let full : (length xs == 0) ≡ false = subst (λ (zs : List RawTerm). (length zs == 0) ≡ false) same some in
    let both = push_then a b c (put_each 91 44 (rtms xs)) (λ r. 93 ∷ r) inner (push_byte b c 93 closes) in
    push_same a c (λ r. put_each 91 44 (rtms xs) (93 ∷ r)) (put_bracketed (rtms xs)) (bracketed_some xs full) both

pub lam_pushes : (t : RTm) (x : Binder) (y : RTy) (u : RTm) (at : ℕ) (a b c d f g h k : List ℕ) → t ≡ lam x y u at → b ≡ a ++ 40 ∷ 92 ∷ [] → Pushes b c (put_binder x) → d ≡ c ++ 58 ∷ [] → Pushes d f (put_part y) → g ≡ f ++ 46 ∷ [] → Pushes g h (put_term u) → k ≡ h ++ 41 ∷ [] → Pushes a k (put_term t)
lam_pushes t x y u at a b c d f g h k is opens binder colon type dot body closes =
    let p1 = push_then g h k (put_term u) (λ r. 41 ∷ r) body (push_byte h k 41 closes) in
    let p2 = push_then f g k (λ r. 46 ∷ r) (λ r. put_term u (41 ∷ r)) (push_byte f g 46 dot) p1 in
    let p3 = push_then d f k (put_part y) (λ r. 46 ∷ put_term u (41 ∷ r)) type p2 in
    let p4 = push_then c d k (λ r. 58 ∷ r) (λ r. put_part y (46 ∷ put_term u (41 ∷ r))) (push_byte c d 58 colon) p3 in
    let p5 = push_then b c k (put_binder x) (λ r. 58 ∷ put_part y (46 ∷ put_term u (41 ∷ r))) binder p4 in
    let p6 = push_then a b k (λ r. 40 ∷ 92 ∷ r) (λ r. put_binder x (58 ∷ put_part y (46 ∷ put_term u (41 ∷ r)))) (push_bytes a b (40 ∷ 92 ∷ []) opens) p5 in
    subst (λ (v : RTm). Pushes a k (put_term v)) (sym is) p6

pub spine_pushes : (t u : RTm) (ts : RTms) (at : ℕ) (a b c d f : List ℕ) → t ≡ spine u ts at → b ≡ a ++ 40 ∷ [] → Pushes b c (put_term u) → Pushes c d (put_each 32 32 ts) → f ≡ d ++ 41 ∷ [] → Pushes a f (put_term t)
spine_pushes t u ts at a b c d f is opens head args closes =
    let p1 = push_then c d f (put_each 32 32 ts) (λ r. 41 ∷ r) args (push_byte d f 41 closes) in
    let p2 = push_same c f (λ r. put_each 32 32 ts (41 ∷ r)) (λ r. put_parts ts (41 ∷ r)) (λ r. each_parts ts (41 ∷ r)) p1 in
    let p3 = push_then b c f (put_term u) (λ r. put_parts ts (41 ∷ r)) head p2 in
    let p4 = push_then a b f (λ r. 40 ∷ r) (λ r. put_term u (put_parts ts (41 ∷ r))) (push_byte a b 40 opens) p3 in
    subst (λ (v : RTm). Pushes a f (put_term v)) (sym is) p4
