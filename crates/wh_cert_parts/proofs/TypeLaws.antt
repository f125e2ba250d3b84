-- The reader of types reads exactly their spellings: what it has read is spelled, a spelling is read, and every front that
-- it goes along can be ended.
use Rattle.std.proofs.Common.{◌≡◌, ℕ, suc, ◌+◌, ◌<◌, ◌≤◌, Bool, true, false, cond, ◌&&◌, ◌==◌, ltb, eqb, List, [], ◌∷◌, ◌++◌, length, refl, sym, ap, ◌∙◌, subst, arith, append_assoc}
use Rattle.std.proofs.lemmas.Bool.{false≢true, and_parts, and_from, and_left, eqb-true, ltb-true, lt-ltb, cond-true, cond-false, cond_both}
use Rattle.wh_text.specs.Chars.{is_start, is_part}
use Rattle.wh_text.specs.Words.{IsWord}
use Rattle.wh_text.specs.RawTree.{RTy, raw_type, RTys, no_types, more_types}
use Rattle.wh_text.specs.Spelling.{put_part, put_arguments}
use Rattle.wh_cert_letters.proofs.NamesAndNumbers.{ReadsNames, name_run, first_letter, next_letter}
use Rattle.wh_cert.specs.TermLimits.{type_count, TypeFits, ArgumentsFit}
use Rattle.wh_cert_parts.specs.TypeMachine.{TypeStack, outside, inside, TypePlace, type_wanted, sort_name, dash, closed_type, TypeStep, goes, type_ended, no_type, type_level, has_room, has_types, add_type, name_ended, type_step}

-- what a place has read, with r behind it

abbrev pub type_front : TypeStack → List ℕ → List ℕ
type_front outside r = r
type_front (inside args fs) r = type_front fs (40 ∷ put_arguments args r)

abbrev pub type_seen : TypeStack → TypePlace → List ℕ → List ℕ
type_seen fs type_wanted r = type_front fs r
type_seen fs (sort_name xs) r = type_front fs (xs ++ r)
type_seen fs (dash a) r = type_front fs (put_part a (45 ∷ r))
type_seen fs (closed_type a) r = type_front fs (put_part a r)

-- what is read so far is within the limits

abbrev pub GoodTypes : TypeStack → Type 0
GoodTypes outside = Unit {0}
GoodTypes (inside args fs) = (type_level fs < 18) × (type_count args ≤ 64) × ArgumentsFit (type_level fs) args × (has_room fs ≡ true) × GoodTypes fs

abbrev pub GoodTypePlace : TypeStack → TypePlace → Type 0
GoodTypePlace fs type_wanted = Unit {0}
GoodTypePlace fs (sort_name xs) = IsWord xs
GoodTypePlace outside (dash a) = ⊥
GoodTypePlace (inside args fs) (dash a) = TypeFits (suc (type_level fs)) a × (type_count args < 64)
GoodTypePlace fs (closed_type a) = TypeFits (type_level fs) a × (has_room fs ≡ true)

-- the step leads to a good place that has read f
abbrev pub TypeNext : TypeStep → (List ℕ → List ℕ) → Type 0
TypeNext (goes fs k) f = GoodTypes fs × GoodTypePlace fs k × ((r : List ℕ) → type_seen fs k r ≡ f r)
TypeNext (type_ended a b) f = TypeFits 0 a × ((r : List ℕ) → put_part a (b ∷ r) ≡ f r)
TypeNext no_type f = Unit {0}

if_byte : (b c : ℕ) (q : Bool) (s o : TypeStep) (f : List ℕ → List ℕ) → (q ≡ true → TypeNext s (λ r. f (c ∷ r))) → TypeNext o (λ r. f (b ∷ r)) → TypeNext (cond ((b == c) && q) s o) (λ r. f (b ∷ r))
if_byte b c q s o f so other =
    cond_both ((b == c) && q) s o (λ t. TypeNext t (λ r. f (b ∷ r)))
    (λ e. let both = and_parts (eqb b c) q e in subst (λ (x : ℕ). TypeNext s (λ r. f (x ∷ r))) (sym (eqb-true b c both.0)) (so both.1))
    (λ e. other)

if_just : (b c : ℕ) (s o : TypeStep) (f : List ℕ → List ℕ) → TypeNext s (λ r. f (c ∷ r)) → TypeNext o (λ r. f (b ∷ r)) → TypeNext (cond (b == c) s o) (λ r. f (b ∷ r))
if_just b c s o f so other =
    cond_both (b == c) s o (λ t. TypeNext t (λ r. f (b ∷ r)))
    (λ e. subst (λ (x : ℕ). TypeNext s (λ r. f (x ∷ r))) (sym (eqb-true b c e)) so)
    (λ e. other)

if_so : (t : Bool) (s o : TypeStep) (f : List ℕ → List ℕ) → (t ≡ true → TypeNext s f) → TypeNext o f → TypeNext (cond t s o) f
if_so t s o f so other = cond_both t s o (λ u. TypeNext u f) so (λ e. other)

-- one more argument

pub count_add_type : (args : RTys) (a : RTy) → type_count (add_type args a) ≡ suc (type_count args)
count_add_type no_types a = refl
count_add_type (more_types b rest) a = ap suc (count_add_type rest a)

fit_add_type : (k : ℕ) (args : RTys) (a : RTy) → k < 18 → ArgumentsFit k args → TypeFits (suc k) a → ArgumentsFit k (add_type args a)
fit_add_type k no_types a low h fits = (low, fits, tt)
fit_add_type k (more_types b rest) a low h fits = (h.0, h.1, fit_add_type k rest a low h.2 fits)

put_add_type : (args : RTys) (a : RTy) (r : List ℕ) → put_arguments (add_type args a) r ≡ put_arguments args (put_part a (45 ∷ 62 ∷ r))
put_add_type no_types a r = refl
put_add_type (more_types b rest) a r = ap (λ (s : List ℕ). put_part b (45 ∷ 62 ∷ s)) (put_add_type rest a r)

has_add_type : (args : RTys) (a : RTy) → has_types (add_type args a) ≡ true
has_add_type no_types a = refl
has_add_type (more_types b rest) a = refl

put_functional : (args : RTys) (xs r : List ℕ) → has_types args ≡ true → put_part (raw_type args xs 0) r ≡ 40 ∷ put_arguments args (xs ++ 41 ∷ r)
put_functional no_types xs r h = absurd (false≢true h)
put_functional (more_types a rest) xs r h = refl

-- each step keeps: the place has read the bytes that led to it

name_kept : (fs : TypeStack) (xs : List ℕ) (b : ℕ) → GoodTypes fs → IsWord xs → TypeNext (name_ended fs xs b) (λ r. type_seen fs (sort_name xs) (b ∷ r))
name_kept outside xs b g w = ((w, refl, omega arith, tt), λ r. refl)
name_kept (inside args fs) xs b g w =
    if_byte b 45 (ltb (type_count args) 64) (goes (inside args fs) (dash (raw_type no_types xs 0))) _ (type_seen (inside args fs) (sort_name xs))
    (λ e. (g, ((w, refl, omega arith, tt), ltb-true (type_count args) 64 e), λ r. refl))
    (if_byte b 41 (has_types args) (goes fs (closed_type (raw_type args xs 0))) no_type (type_seen (inside args fs) (sort_name xs))
    (λ e. (g.4, ((w, refl, g.1, g.2), g.3), λ r. ap (type_front fs) (put_functional args xs r e)))
    tt)

pub type_kept : (fs : TypeStack) (k : TypePlace) (b : ℕ) → GoodTypes fs → GoodTypePlace fs k → TypeNext (type_step fs k b) (λ r. type_seen fs k (b ∷ r))
type_kept fs type_wanted b g p =
    if_so (is_start b) (goes fs (sort_name (b ∷ []))) _ (λ r. type_seen fs type_wanted (b ∷ r))
    (λ e. (g, first_letter b e, λ r. refl))
    (if_byte b 40 (ltb (type_level fs) 18 && has_room fs) (goes (inside no_types fs) type_wanted) no_type (type_seen fs type_wanted)
    (λ e. let both = and_parts (ltb (type_level fs) 18) (has_room fs) e in ((ltb-true (type_level fs) 18 both.0, omega arith, tt, both.1, g), tt, λ r. refl))
    tt)
type_kept fs (sort_name xs) b g w =
    if_so (is_part b && ltb (length xs) 64) (goes fs (sort_name (xs ++ b ∷ []))) _ (λ r. type_seen fs (sort_name xs) (b ∷ r))
    (λ e. (g, next_letter xs b w e, λ r. ap (type_front fs) (append_assoc xs (b ∷ []) r)))
    (name_kept fs xs b g w)
type_kept outside (dash a) b g p = absurd p
type_kept (inside args fs) (dash a) b g p =
    if_just b 62 (goes (inside (add_type args a) fs) type_wanted) no_type (type_seen (inside args fs) (dash a))
    ((g.0, omega (arith, count_add_type args a, p.1), fit_add_type (type_level fs) args a g.0 g.2 p.0, g.3, g.4), tt, λ r. ap (λ (s : List ℕ). type_front fs (40 ∷ s)) (put_add_type args a r))
    tt
type_kept outside (closed_type a) b g p = (p.0, λ r. refl)
type_kept (inside args fs) (closed_type a) b g p =
    if_just b 45 (goes (inside args fs) (dash a)) no_type (type_seen (inside args fs) (closed_type a))
    (g, (p.0, ltb-true (type_count args) 64 p.1), λ r. refl)
    tt

-- where a list of bytes leads

pub data TypeScan : Type 0 where
  in_type : (fs : TypeStack) (k : TypePlace) → TypeScan
  type_read : (a : RTy) (r : List ℕ) → TypeScan
  no_scan : TypeScan

abbrev pub type_scan : TypeStep → List ℕ → TypeScan
type_scan (type_ended a b) r = type_read a (b ∷ r)
type_scan no_type r = no_scan
type_scan (goes fs k) [] = in_type fs k
type_scan (goes fs k) (b ∷ r) = type_scan (type_step fs k b) r

-- a spelling is read

-- what may come behind a type: outside no byte that goes on a name; in a parenthesis an arrow, if there is room
abbrev pub TypeTurn : TypeStack → ℕ → Type 0
TypeTurn outside b = is_part b ≡ false
TypeTurn (inside args fs) b = (b ≡ 45) × (type_count args < 64)

turn_room : (fs : TypeStack) (b : ℕ) → TypeTurn fs b → has_room fs ≡ true
turn_room outside b t = refl
turn_room (inside args fs) b t = lt-ltb (type_count args) 64 t.1

turn_ends : (fs : TypeStack) (b : ℕ) → TypeTurn fs b → is_part b ≡ false
turn_ends outside b t = t
turn_ends (inside args fs) b t = ap is_part t.0

reads_sorts : (fs : TypeStack) → ReadsNames (λ (r : List ℕ). type_scan (goes fs type_wanted) r) (λ (xs r : List ℕ). type_scan (goes fs (sort_name xs)) r)
reads_sorts fs = record {
  starts = λ b r h. ap (λ (s : TypeStep). type_scan s r) (cond-true (is_start b) (goes fs (sort_name (b ∷ []))) _ h);
  goes = λ xs b r p s. ap (λ (t : TypeStep). type_scan t r) (cond-true (is_part b && ltb (length xs) 64) (goes fs (sort_name (xs ++ b ∷ []))) _ (and_from (is_part b) (ltb (length xs) 64) p (lt-ltb (length xs) 64 s)));
}

-- a name that is followed by no byte of a name
name_stops : (fs : TypeStack) (xs : List ℕ) (b : ℕ) (r : List ℕ) → is_part b ≡ false → type_scan (goes fs (sort_name xs)) (b ∷ r) ≡ type_scan (name_ended fs xs b) r
name_stops fs xs b r stop =
    ap (λ (s : TypeStep). type_scan s r) (cond-false (is_part b && ltb (length xs) 64) (goes fs (sort_name (xs ++ b ∷ []))) (name_ended fs xs b) (and_left (is_part b) (ltb (length xs) 64) stop))

sort_closes : (fs : TypeStack) (xs : List ℕ) (b : ℕ) → TypeTurn fs b → name_ended fs xs b ≡ type_step fs (closed_type (raw_type no_types xs 0)) b
sort_closes outside xs b t = refl
sort_closes (inside args fs) xs b t =
    let Same : ℕ → Type 0 = λ c. name_ended (inside args fs) xs c ≡ type_step (inside args fs) (closed_type (raw_type no_types xs 0)) c in
    subst Same (sym t.0) (cond-true (ltb (type_count args) 64) (goes (inside args fs) (dash (raw_type no_types xs 0))) _ (lt-ltb (type_count args) 64 t.1))

abbrev pub join_types : RTys → RTys → RTys
join_types no_types bs = bs
join_types (more_types a rest) bs = more_types a (join_types rest bs)

join_add : (args : RTys) (a : RTy) (bs : RTys) → join_types (add_type args a) bs ≡ join_types args (more_types a bs)
join_add no_types a bs = refl
join_add (more_types b rest) a bs = ap (λ (cs : RTys). more_types b cs) (join_add rest a bs)

join_none : (args : RTys) → join_types args no_types ≡ args
join_none no_types = refl
join_none (more_types a rest) = ap (λ (bs : RTys). more_types a bs) (join_none rest)

opens : (fs : TypeStack) (s : List ℕ) → type_level fs < 18 → has_room fs ≡ true → type_scan (goes fs type_wanted) (40 ∷ s) ≡ type_scan (goes (inside no_types fs) type_wanted) s
opens fs s low room =
    ap (λ (t : TypeStep). type_scan t s) (cond-true (ltb (type_level fs) 18 && has_room fs) (goes (inside no_types fs) type_wanted) no_type (and_from (ltb (type_level fs) 18) (has_room fs) (lt-ltb (type_level fs) 18 low) room))

closes : (fs : TypeStack) (args : RTys) (xs : List ℕ) (s : List ℕ) → has_types args ≡ true → type_scan (name_ended (inside args fs) xs 41) s ≡ type_scan (goes fs (closed_type (raw_type args xs 0))) s
closes fs args xs s some =
    ap (λ (t : TypeStep). type_scan t s) (cond-true (has_types args) (goes fs (closed_type (raw_type args xs 0))) no_type some)

whole_run : (fs : TypeStack) (args : RTys) (xs : List ℕ) (b : ℕ) (r : List ℕ) → TypeFits (type_level fs) (raw_type args xs 0) → TypeTurn fs b
    → ((s : List ℕ) → type_scan (goes (inside no_types fs) type_wanted) (put_arguments args s) ≡ type_scan (goes (inside args fs) type_wanted) s)
    → type_scan (goes fs type_wanted) (put_part (raw_type args xs 0) (b ∷ r)) ≡ type_scan (goes fs (closed_type (raw_type args xs 0))) (b ∷ r)
whole_run fs no_types xs b r h t run =
    name_run _ _ (reads_sorts fs) xs (b ∷ r) h.0
    ∙ name_stops fs xs b r (turn_ends fs b t)
    ∙ ap (λ (s : TypeStep). type_scan s r) (sort_closes fs xs b t)
whole_run fs (more_types a rest) xs b r h t run =
    opens fs _ h.3.0 (turn_room fs b t)
    ∙ run (xs ++ 41 ∷ b ∷ r)
    ∙ name_run _ _ (reads_sorts (inside (more_types a rest) fs)) xs (41 ∷ b ∷ r) h.0
    ∙ name_stops (inside (more_types a rest) fs) xs 41 (b ∷ r) refl
    ∙ closes fs (more_types a rest) xs (b ∷ r) refl

arrow : (fs : TypeStack) (args : RTys) (a : RTy) (s : List ℕ) → type_scan (goes (inside args fs) (closed_type a)) (45 ∷ 62 ∷ s) ≡ type_scan (goes (inside (add_type args a) fs) type_wanted) s
arrow fs args a s = refl

mutual
  pub type_run : (fs : TypeStack) (a : RTy) (b : ℕ) (r : List ℕ) → TypeFits (type_level fs) a → TypeTurn fs b → type_scan (goes fs type_wanted) (put_part a (b ∷ r)) ≡ type_scan (goes fs (closed_type a)) (b ∷ r)
  type_run fs (raw_type args xs at) b r h t =
      let Run : ℕ → Type 0 = λ i. type_scan (goes fs type_wanted) (put_part (raw_type args xs i) (b ∷ r)) ≡ type_scan (goes fs (closed_type (raw_type args xs i))) (b ∷ r) in
      subst Run (sym h.1) (whole_run fs args xs b r (h.0, refl, h.2, h.3) t (λ s. arguments_run fs no_types args s h.3 (omega (arith, h.2))))

  arguments_run : (fs : TypeStack) (done todo : RTys) (s : List ℕ) → ArgumentsFit (type_level fs) todo → type_count done + type_count todo ≤ 64 → type_scan (goes (inside done fs) type_wanted) (put_arguments todo s) ≡ type_scan (goes (inside (join_types done todo) fs) type_wanted) s
  arguments_run fs done no_types s h room = ap (λ (all : RTys). type_scan (goes (inside all fs) type_wanted) s) (sym (join_none done))
  arguments_run fs done (more_types a rest) s h room =
      type_run (inside done fs) a 45 (62 ∷ put_arguments rest s) h.1 (refl, omega (arith, room))
      ∙ arrow fs done a (put_arguments rest s)
      ∙ arguments_run fs (add_type done a) rest s h.2 (omega (arith, room, count_add_type done a))
      ∙ ap (λ (all : RTys). type_scan (goes (inside all fs) type_wanted) s) (join_add done a rest)

-- what was read is spelled

type_next_same : (s : TypeStep) (f g : List ℕ → List ℕ) → ((r : List ℕ) → f r ≡ g r) → TypeNext s f → TypeNext s g
type_next_same (goes fs k) f g same n = (n.0, n.1, λ r. n.2 r ∙ same r)
type_next_same (type_ended a b) f g same n = (n.0, λ r. n.1 r ∙ same r)
type_next_same no_type f g same n = tt

pub type_sound : (s : TypeStep) (p : List ℕ) (f : List ℕ → List ℕ) (a : RTy) (r : List ℕ) → TypeNext s f → type_scan s p ≡ type_read a r → TypeFits 0 a × (put_part a r ≡ f p)
type_sound (type_ended c b) p f a r n e =
    let same : c ≡ a = cc in
    let rest : b ∷ p ≡ r = cc in
    (subst (TypeFits 0) same n.0, sym (ap (put_part c) rest ∙ ap (λ (d : RTy). put_part d r) same) ∙ n.1 p)
type_sound no_type p f a r n e = absurd cc
type_sound (goes fs k) [] f a r n e = absurd cc
type_sound (goes fs k) (b ∷ p) f a r n e =
    type_sound (type_step fs k b) p (λ q. f (b ∷ q)) a r (type_next_same (type_step fs k b) (λ q. type_seen fs k (b ∷ q)) (λ q. f (b ∷ q)) (λ q. n.2 (b ∷ q)) (type_kept fs k b n.0 n.1)) e

-- every front can be ended

-- what ends the open parentheses behind a type
abbrev pub type_closing : TypeStack → List ℕ → List ℕ
type_closing outside r = r
type_closing (inside args fs) r = 45 ∷ 62 ∷ 97 ∷ 41 ∷ type_closing fs r

-- the bytes w lead from the step to the end of some type
pub record TypeEnds (s : TypeStep) : Type 0 where
  pub tail : List ℕ → List ℕ
  pub a : RTy
  pub ends : (b : ℕ) (r : List ℕ) → is_part b ≡ false → type_scan s (tail (b ∷ r)) ≡ type_read a (b ∷ r)

after_bytes : (s t : TypeStep) (w : List ℕ → List ℕ) → ((r : List ℕ) → type_scan s (w r) ≡ type_scan t r) → TypeEnds t → TypeEnds s
after_bytes s t w leads e =
    record { tail = λ r. w (e.tail r); a = e.a; ends = λ b r h. leads (e.tail (b ∷ r)) ∙ e.ends b r h }

last_sort : (fs : TypeStack) (args : RTys) (r : List ℕ) → has_types args ≡ true → type_scan (goes (inside args fs) type_wanted) (97 ∷ 41 ∷ r) ≡ type_scan (goes fs (closed_type (raw_type args (97 ∷ []) 0))) r
last_sort fs args r some = closes fs args (97 ∷ []) r some

closed_ends : (fs : TypeStack) (a : RTy) → TypeEnds (goes fs (closed_type a))
closed_ends outside a = record { tail = λ r. r; a = a; ends = λ b r h. refl }
closed_ends (inside args fs) a =
    after_bytes (goes (inside args fs) (closed_type a)) (goes fs (closed_type (raw_type (add_type args a) (97 ∷ []) 0))) (λ r. 45 ∷ 62 ∷ 97 ∷ 41 ∷ r)
    (λ r. last_sort fs (add_type args a) r (has_add_type args a))
    (closed_ends fs (raw_type (add_type args a) (97 ∷ []) 0))

dash_ends : (fs : TypeStack) (args : RTys) (a : RTy) → TypeEnds (goes (inside args fs) (dash a))
dash_ends fs args a =
    after_bytes (goes (inside args fs) (dash a)) (goes fs (closed_type (raw_type (add_type args a) (97 ∷ []) 0))) (λ r. 62 ∷ 97 ∷ 41 ∷ r)
    (λ r. last_sort fs (add_type args a) r (has_add_type args a))
    (closed_ends fs (raw_type (add_type args a) (97 ∷ []) 0))

sort_ends : (fs : TypeStack) (xs : List ℕ) → TypeEnds (goes fs (sort_name xs))
sort_ends outside xs = record { tail = λ r. r; a = raw_type no_types xs 0; ends = λ b r h. name_stops outside xs b r h }
sort_ends (inside no_types fs) xs =
    after_bytes (goes (inside no_types fs) (sort_name xs)) (goes (inside no_types fs) (dash (raw_type no_types xs 0))) (λ r. 45 ∷ r)
    (λ r. refl)
    (dash_ends fs no_types (raw_type no_types xs 0))
sort_ends (inside (more_types a rest) fs) xs =
    after_bytes (goes (inside (more_types a rest) fs) (sort_name xs)) (goes fs (closed_type (raw_type (more_types a rest) xs 0))) (λ r. 41 ∷ r)
    (λ r. refl)
    (closed_ends fs (raw_type (more_types a rest) xs 0))

pub type_ends : (fs : TypeStack) (k : TypePlace) → GoodTypePlace fs k → TypeEnds (goes fs k)
type_ends fs type_wanted g =
    after_bytes (goes fs type_wanted) (goes fs (sort_name (97 ∷ []))) (λ r. 97 ∷ r) (λ r. refl) (sort_ends fs (97 ∷ []))
type_ends fs (sort_name xs) g = sort_ends fs xs
type_ends outside (dash a) g = absurd g
type_ends (inside args fs) (dash a) g = dash_ends fs args a
type_ends fs (closed_type a) g = closed_ends fs a
