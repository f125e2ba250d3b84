-- The canonical raw tree of a term within limits fits into a certificate.
use Rattle.std.proofs.Common.{◌≡◌, ℕ, zero, suc, ◌+◌, ◌<◌, ◌≤◌, List, [], length, refl, ap, ◌∙◌, arith}
use Rattle.std.specs.Prelude.{All}
use Rattle.std.proofs.lemmas.List.Elements.{All-get_or}
use Rattle.wh_types.specs.Ty.{Ty, sort, ◌⇒◌, arguments, result_sort, SortsBelow}
use Rattle.wh_terms.specs.Tree.{Tm, bound, free, fun, meta, lam, app, argument_count}
use Rattle.wh_terms.specs.Sight.{IsTerm}
use Rattle.wh_text.specs.Words.{IsWord, IsName}
use Rattle.wh_text.specs.RawTree.{RTm, named, numbered, free_variable, meta as raw_meta, lam as raw_lam, spine, RTms, none, more}
use Rattle.wh_system.specs.WellMade.{ArgumentsWithin}
use Rattle.wh_system.specs.Canonical.{Names, name_at, raw_type_of, raw_arguments_of, and_last, with_argument, raw_below, IsNamedBelow}
use Rattle.wh_cert.specs.TermLimits.{type_count, term_count, TypeFits, ArgumentsFit, IsHead, TermFits, TermsFit}
use Rattle.wh_loop_starts.proofs.SmallTypes.{depth, IsSmallType}
use Rattle.wh_loop_starts.proofs.PartLimits.{IsWithin}

-- names are words

word_at : (names : List (List ℕ)) (k : ℕ) → All IsName names → k < length names → IsWord (name_at names k)
word_at names k h within = (All-get_or IsName names k [] within h).word

-- types

result_below : (n : ℕ) (a : Ty) → SortsBelow n a → result_sort a < n
result_below n (sort s) h = h
result_below n (a ⇒ b) h = result_below n b h.1

count_arguments : (sorts : List (List ℕ)) (a : Ty) → type_count (raw_arguments_of sorts a) ≡ length (arguments a)
count_arguments sorts (sort s) = refl
count_arguments sorts (a ⇒ b) = ap suc (count_arguments sorts b)

mutual
  type_fits : (sorts : List (List ℕ)) → All IsName sorts → (k : ℕ) (a : Ty) → SortsBelow (length sorts) a → ArgumentsWithin 64 a → k + depth a ≤ 18 → TypeFits k (raw_type_of sorts a)
  type_fits sorts w k (sort s) h n l = (word_at sorts s w h, refl, omega arith, tt)
  type_fits sorts w k (a ⇒ b) h n l = (
    word_at sorts (result_sort b) w (result_below (length sorts) b h.1),
    refl,
    omega (arith, n.0, count_arguments sorts b),
    (omega arith, type_fits sorts w (suc k) a h.0 n.1 (omega arith), arguments_fit sorts w k b h.1 n.2 (omega arith)),
  )

  arguments_fit : (sorts : List (List ℕ)) → All IsName sorts → (k : ℕ) (a : Ty) → SortsBelow (length sorts) a → ArgumentsWithin 64 a → k + depth a ≤ 18 → ArgumentsFit k (raw_arguments_of sorts a)
  arguments_fit sorts w k (sort s) h n l = tt
  arguments_fit sorts w k (a ⇒ b) h n l = (omega arith, type_fits sorts w (suc k) a h.0 n.1 (omega arith), arguments_fit sorts w k b h.1 n.2 (omega arith))

pub small_type_fits : (sorts : List (List ℕ)) → All IsName sorts → (a : Ty) → SortsBelow (length sorts) a → IsSmallType a → TypeFits 0 (raw_type_of sorts a)
small_type_fits sorts w a h s = type_fits sorts w 0 a h s.narrow (omega (arith, s.shallow))

-- one argument more

last_fits : (k : ℕ) (ts : RTms) (u : RTm) → TermsFit k ts → TermFits k u → TermsFit k (and_last ts u)
last_fits k none u h f = (f, tt)
last_fits k (more t ts) u h f = (h.0, last_fits k ts u h.1 f)

count_last : (ts : RTms) (u : RTm) → term_count (and_last ts u) ≡ suc (term_count ts)
count_last none u = refl
count_last (more t ts) u = ap suc (count_last ts u)

-- the tree is a spine of n arguments
abbrev IsSpineOf : ℕ → RTm → Type 0
IsSpineOf n (spine h ts at) = term_count ts ≡ n
IsSpineOf n _ = ⊥

-- a head with its first argument
first_argument : (k : ℕ) (h u : RTm) → k < 200 → IsHead h → TermFits (suc k) h → TermFits (suc k) u → TermFits k (with_argument h u) × IsSpineOf 1 (with_argument h u)
first_argument k (named x at) u l i f g = ((l, tt, f, omega arith, omega arith, (g, tt), refl), refl)
first_argument k (numbered n at) u l i f g = ((l, tt, f, omega arith, omega arith, (g, tt), refl), refl)
first_argument k (free_variable n a at) u l i f g = ((l, tt, f, omega arith, omega arith, (g, tt), refl), refl)
first_argument k (raw_meta x ts at) u l i f g = ((l, tt, f, omega arith, omega arith, (g, tt), refl), refl)
first_argument k (raw_lam x a t at) u l i f g = ((l, tt, f, omega arith, omega arith, (g, tt), refl), refl)
first_argument k (spine h ts at) u l i f g = absurd i

-- a spine with a further argument
next_argument : (k n : ℕ) (h u : RTm) → n + 1 ≤ 32 → IsSpineOf n h → TermFits k h → TermFits (suc k) u → TermFits k (with_argument h u) × IsSpineOf (n + 1) (with_argument h u)
next_argument k n (spine h ts at) u l i f g =
    let more_by_one = count_last ts u in
    ((f.0, f.1, f.2, omega arith, omega (arith, i), last_fits (suc k) ts u f.5 g, f.6), more_by_one ∙ ap suc i ∙ (let e : suc n ≡ n + 1 = omega arith in e))
next_argument k n (named x at) u l i f g = absurd i
next_argument k n (numbered m at) u l i f g = absurd i
next_argument k n (free_variable m a at) u l i f g = absurd i
next_argument k n (raw_meta x ts at) u l i f g = absurd i
next_argument k n (raw_lam x a t at) u l i f g = absurd i

-- the names that a certificate needs
pub record AreNamed (n : Names) : Type 0 where
  pub sorts : All IsName n.sorts
  pub funs : All IsName n.funs

argument_low : (m h : ℕ) (t u : Tm) → IsWithin m (suc h) (app t u) → IsWithin m h u
argument_low m h t u w = record { low = omega (arith, w.low); narrow = w.narrow.2; numbered = w.numbered.1; small = w.small.1 }

function_same : (m h : ℕ) (t u v : Tm) → IsWithin m h (app (app t u) v) → IsWithin m h (app t u)
function_same m h t u v w = record { low = omega (arith, w.low); narrow = w.narrow.1; numbered = w.numbered.0; small = w.small.0 }

body_low : (m h : ℕ) (a : Ty) (t : Tm) → IsWithin m (suc h) (lam a t) → IsWithin m h t
body_low m h a t w = record { low = omega (arith, w.low); narrow = w.narrow; numbered = w.numbered; small = w.small.1 }

head_low : (m h : ℕ) (a : Ty) (t u : Tm) → IsWithin m (suc h) (app (lam a t) u) → IsWithin m h (lam a t)
head_low m h a t u w = record { low = omega (arith, w.low); narrow = w.narrow.1; numbered = w.numbered.0; small = w.small.0 }

-- an application gives a spine
abbrev IsSpineFor : Tm → RTm → Type 0
IsSpineFor (app t u) r = IsSpineOf (argument_count t + 1) r
IsSpineFor _ r = Unit {0}

-- what stands below d binders and inside k parentheses
raw_fits : (n : Names) → AreNamed n → (m h d k : ℕ) (t : Tm) → m ≤ 65536 → IsNamedBelow n d t → IsTerm t → IsWithin m h t → k + h ≤ 200 → d ≤ k → TermFits k (raw_below n d t) × IsSpineFor t (raw_below n d t)
raw_fits n a m h d k (bound i) l b p w r e = ((omega arith, refl), tt)
raw_fits n a m h d k (free x c) l b p w r e = ((omega (arith, w.numbered), small_type_fits n.sorts a.sorts c b w.small, refl), tt)
raw_fits n a m h d k (fun f) l b p w r e = ((word_at n.funs f a.funs b, refl), tt)
raw_fits n a m h d k (meta z ts) l b p w r e = absurd p
raw_fits n a m zero d k (lam c t) l b p w r e = absurd (omega (arith, w.low))
raw_fits n a m (suc h) d k (lam c t) l b p w r e =
    let body = raw_fits n a m h (d + 1) (suc k) t l b.1 p (body_low m h c t w) (omega arith) (omega arith) in
    ((omega arith, omega arith, small_type_fits n.sorts a.sorts c b.0 w.small.0, body.0, refl), tt)
raw_fits n a m zero d k (app t u) l b p w r e = absurd (omega (arith, w.low))
raw_fits n a m (suc h) d k (app (app t v) u) l b p w r e =
    let (front, count) = raw_fits n a m (suc h) d k (app t v) l b.0 p.0 (function_same m (suc h) t v u w) r e in
    let last = raw_fits n a m h d (suc k) u l b.1 p.1 (argument_low m h (app t v) u w) (omega arith) (omega arith) in
    next_argument k (argument_count (app t v)) (raw_below n d (app t v)) (raw_below n d u) w.narrow.0 count front last.0
raw_fits n a m (suc h) d k (app (bound i) u) l b p w r e =
    let last = raw_fits n a m h d (suc k) u l b.1 p.1 (argument_low m h (bound i) u w) (omega arith) (omega arith) in
    first_argument k (raw_below n d (bound i)) (raw_below n d u) (omega arith) tt (omega arith, refl) last.0
raw_fits n a m (suc h) d k (app (free x c) u) l b p w r e =
    let last = raw_fits n a m h d (suc k) u l b.1 p.1 (argument_low m h (free x c) u w) (omega arith) (omega arith) in
    first_argument k (raw_below n d (free x c)) (raw_below n d u) (omega arith) tt (omega (arith, w.numbered.0), small_type_fits n.sorts a.sorts c b.0 w.small.0, refl) last.0
raw_fits n a m (suc h) d k (app (fun f) u) l b p w r e =
    let last = raw_fits n a m h d (suc k) u l b.1 p.1 (argument_low m h (fun f) u w) (omega arith) (omega arith) in
    first_argument k (raw_below n d (fun f)) (raw_below n d u) (omega arith) tt (word_at n.funs f a.funs b.0, refl) last.0
raw_fits n a m (suc h) d k (app (meta z ts) u) l b p w r e = absurd p.0
raw_fits n a m (suc h) d k (app (lam c t) u) l b p w r e =
    let head = raw_fits n a m h d (suc k) (lam c t) l b.0 p.0 (head_low m h c t u w) (omega arith) (omega arith) in
    let last = raw_fits n a m h d (suc k) u l b.1 p.1 (argument_low m h (lam c t) u w) (omega arith) (omega arith) in
    first_argument k (raw_below n d (lam c t)) (raw_below n d u) (omega arith) tt head.0 last.0

pub term_fits : (n : Names) → AreNamed n → (m : ℕ) (t : Tm) → m ≤ 65536 → IsNamedBelow n 0 t → IsTerm t → IsWithin m 200 t → TermFits 0 (raw_below n 0 t)
term_fits n a m t l b p w = (raw_fits n a m 200 0 0 t l b p w (omega arith) (omega arith)).0
