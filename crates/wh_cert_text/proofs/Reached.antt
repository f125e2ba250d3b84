-- Where the bytes of a certificate lead: the items so far and the present line spell them.
use Rattle.std.proofs.Common.{◌≡◌, ℕ, suc, ◌+◌, ◌≤◌, ◌==◌, List, [], ◌∷◌, ◌++◌, length, codes, refl, sym, ap, ◌∙◌, subst, arith, append-nil, length-append}
use Rattle.std.proofs.lemmas.Bool.{eqb-true, cond_both}
use Rattle.std.proofs.lemmas.List.Elements.{All-nil, All-push, All-weaker}
use Rattle.wh_terms.specs.declared.path.Step as taken
use Rattle.wh_text.specs.Spelling.{put_term}
use Rattle.wh_cert.specs.Written.{Put, Cert, yes, no}
use Rattle.wh_cert.specs.Text.{put_step, put_steps, put_put, put_puts, text}
use Rattle.wh_cert.specs.Limits.{StepFits, PutFits, PartsFit, PathsWithin, CountsWithin}
use Rattle.wh_cert_machines.specs.LineMachine.{Item, head_item, step_item, at_item, put_item, end_item, to_term, LinePlace, word, finished, LineStep, on, gives, refused, line_step, Past, nothing, begun, placed, gather, Standing, unread, stands, stands_yes, wrong, standing_after, standing_after_yes, first_byte, take_byte, run, start}
use Rattle.wh_cert_machines.specs.YesMachine as y
use Rattle.wh_cert_text.specs.ReadEnd.{IsEnd}
use Rattle.wh_cert_text.proofs.YesReached as yes_past
use Rattle.wh_cert_text.proofs.YesReached.{nodes_wider, byte_good, begun_good, end_found, StepGood}
use Rattle.wh_cert_text.proofs.LineSound.{stage, past_stage, item_from, item_to, PlaceReads, item_text, past_text, GoodLine, ItemFits, ItemWithin, PastFits, PastWithin, LineNext, lead_kept}

-- one more item

put_steps_add : (steps : List taken.Step) (s : taken.Step) (r : List ℕ) → put_steps (steps ++ s ∷ []) r ≡ put_steps steps (put_step s r)
put_steps_add [] s r = refl
put_steps_add (t ∷ steps) s r = ap (put_step t) (put_steps_add steps s r)

put_puts_add : (puts : List Put) (p : Put) (r : List ℕ) → put_puts (puts ++ p ∷ []) r ≡ put_puts puts (put_put p r)
put_puts_add [] p r = refl
put_puts_add (q ∷ puts) p r = ap (put_put q) (put_puts_add puts p r)

pub gather_text : (h : Past) (i : Item) (r : List ℕ) → item_from i ≡ past_stage h → past_text (gather h i) r ≡ past_text h (item_text i r)
gather_text nothing (head_item t) r e = refl
gather_text nothing (step_item s) r e = absurd cc
gather_text nothing (at_item at) r e = absurd cc
gather_text nothing (put_item p) r e = absurd cc
gather_text nothing end_item r e = absurd cc
gather_text (begun t steps) (head_item u) r e = absurd cc
gather_text (begun t steps) (step_item s) r e =
    ap (λ (w : List ℕ). codes "NO 1" ++ (10 ∷ (codes "term " ++ put_term t (10 ∷ w)))) (put_steps_add steps s r)
gather_text (begun t steps) (at_item at) r e = refl
gather_text (begun t steps) (put_item p) r e = absurd cc
gather_text (begun t steps) end_item r e = absurd cc
gather_text (placed u others there puts) (head_item t) r e = absurd cc
gather_text (placed u others there puts) (step_item s) r e = absurd cc
gather_text (placed u others there puts) (at_item at) r e = absurd cc
gather_text (placed t steps at puts) (put_item p) r e =
    ap (λ (w : List ℕ). past_text (placed t steps at []) w) (put_puts_add puts p r)
gather_text (placed t steps at puts) end_item r e = refl

pub gather_stage : (h : Past) (i : Item) → item_from i ≡ past_stage h → past_stage (gather h i) ≡ item_to i
gather_stage nothing (head_item t) e = refl
gather_stage nothing (step_item s) e = absurd cc
gather_stage nothing (at_item at) e = absurd cc
gather_stage nothing (put_item p) e = absurd cc
gather_stage nothing end_item e = absurd cc
gather_stage (begun t steps) (head_item u) e = absurd cc
gather_stage (begun t steps) (step_item s) e = refl
gather_stage (begun t steps) (at_item at) e = refl
gather_stage (begun t steps) (put_item p) e = absurd cc
gather_stage (begun t steps) end_item e = absurd cc
gather_stage (placed u others there puts) (head_item t) e = absurd cc
gather_stage (placed u others there puts) (step_item s) e = absurd cc
gather_stage (placed u others there puts) (at_item at) e = absurd cc
gather_stage (placed t steps at puts) (put_item p) e = refl
gather_stage (placed t steps at puts) end_item e = refl

pub gather_fits : (h : Past) (i : Item) → PastFits h → ItemFits i → PastFits (gather h i)
gather_fits nothing (head_item t) g f = (f, All-nil StepFits)
gather_fits nothing (step_item s) g f = g
gather_fits nothing (at_item at) g f = g
gather_fits nothing (put_item p) g f = g
gather_fits nothing end_item g f = g
gather_fits (begun t steps) (head_item u) g f = g
gather_fits (begun t steps) (step_item s) g f = (g.0, All-push StepFits steps s g.1 f)
gather_fits (begun t steps) (at_item at) g f = (g.0, g.1, f, All-nil PutFits)
gather_fits (begun t steps) (put_item p) g f = g
gather_fits (begun t steps) end_item g f = g
gather_fits (placed t steps at puts) (head_item u) g f = g
gather_fits (placed t steps at puts) (step_item s) g f = g
gather_fits (placed t steps at puts) (at_item to) g f = g
gather_fits (placed t steps at puts) (put_item p) g f = (g.0, g.1, g.2, All-push PutFits puts p g.3 f)
gather_fits (placed t steps at puts) end_item g f = g

paths_wider : (n m : ℕ) (steps : List taken.Step) → n ≤ m → PathsWithin n steps → PathsWithin m steps
paths_wider n m steps le h =
    All-weaker (λ (s : taken.Step). length s.path ≤ n) (λ (s : taken.Step). length s.path ≤ m) (λ s p. omega arith) steps h

pub counts_wider : (n m : ℕ) (c : Cert) → n ≤ m → CountsWithin n c → CountsWithin m c
counts_wider n m (yes version ranks pairs nodes) le h = (omega (arith, h.0), omega (arith, h.1), nodes_wider n m nodes le h.2)
counts_wider n m (no t steps at puts) le h =
    (omega (arith, h.0), paths_wider n m steps le h.1, omega (arith, h.2), omega (arith, h.3))

pub past_wider : (n : ℕ) (h : Past) → PastWithin n h → PastWithin (suc n) h
past_wider n nothing g = tt
past_wider n (begun t steps) g = (omega (arith, g.0), paths_wider n (suc n) steps (omega arith) g.1)
past_wider n (placed t steps at puts) g = counts_wider n (suc n) (no t steps at puts) (omega arith) g

pub gather_within : (n : ℕ) (h : Past) (i : Item) → PastWithin n h → ItemWithin (suc n) i → PastWithin (suc n) (gather h i)
gather_within n nothing (head_item t) g w =
    (omega arith, All-nil (λ (s : taken.Step). length s.path ≤ suc n))
gather_within n nothing (step_item s) g w = g
gather_within n nothing (at_item at) g w = g
gather_within n nothing (put_item p) g w = g
gather_within n nothing end_item g w = g
gather_within n (begun t steps) (head_item u) g w = past_wider n (begun t steps) g
gather_within n (begun t steps) (step_item s) g w =
    (omega (arith, length-append steps (s ∷ []), g.0), All-push (λ (x : taken.Step). length x.path ≤ suc n) steps s (paths_wider n (suc n) steps (omega arith) g.1) w)
gather_within n (begun t steps) (at_item at) g w =
    (omega (arith, g.0), paths_wider n (suc n) steps (omega arith) g.1, w, omega arith)
gather_within n (begun t steps) (put_item p) g w = past_wider n (begun t steps) g
gather_within n (begun t steps) end_item g w = past_wider n (begun t steps) g
gather_within n (placed t steps at puts) (head_item u) g w = past_wider n (placed t steps at puts) g
gather_within n (placed t steps at puts) (step_item s) g w = past_wider n (placed t steps at puts) g
gather_within n (placed t steps at puts) (at_item to) g w = past_wider n (placed t steps at puts) g
gather_within n (placed t steps at puts) (put_item p) g w =
    (omega (arith, g.0), paths_wider n (suc n) steps (omega arith) g.1, omega (arith, g.2), omega (arith, length-append puts (p ∷ []), g.3))
gather_within n (placed t steps at puts) end_item g w = past_wider n (placed t steps at puts) g

-- after n bytes, f of them: the items and the place are good, and have read f
pub record Good (n : ℕ) (h : Past) (p : LinePlace) (f : List ℕ → List ℕ) : Type 0 where
  pub fits : PastFits h
  pub within : PastWithin n h
  pub staged : stage p ≡ past_stage h
  pub place : GoodLine n p
  pub line : List ℕ → List ℕ
  pub reads : PlaceReads p line
  pub spelled : (r : List ℕ) → past_text h (line r) ≡ f r

abbrev pub StandsGood : ℕ → Standing → (List ℕ → List ℕ) → Type 0
StandsGood n unread f = (n ≡ 0) × ((r : List ℕ) → r ≡ f r)
StandsGood n (stands h p) f = Good n h p f
StandsGood n (stands_yes h p) f = yes_past.Good n h p f
StandsGood n wrong f = Unit {0}

moved_kept : (n : ℕ) (h : Past) (p : LinePlace) (s : LineStep) (b : ℕ) (f : List ℕ → List ℕ) → (g : Good n h p f) → LineNext (suc n) s (stage p) (λ r. g.line (b ∷ r)) → StandsGood (suc n) (standing_after h s) (λ r. f (b ∷ r))
moved_kept n h p (on q) b f g next = record {
  fits = g.fits;
  within = past_wider n h g.within;
  staged = next.0 ∙ g.staged;
  place = next.1;
  line = λ r. g.line (b ∷ r);
  reads = next.2;
  spelled = λ r. g.spelled (b ∷ r);
}
moved_kept n h p (gives i q) b f g next = record {
  fits = gather_fits h i g.fits next.2;
  within = gather_within n h i g.within next.3;
  staged = next.1 ∙ sym (gather_stage h i (next.0 ∙ g.staged));
  place = next.4;
  line = next.5.0;
  reads = next.5.1;
  spelled = λ r. gather_text h i (next.5.0 r) (next.0 ∙ g.staged) ∙ ap (past_text h) (next.5.2 r) ∙ g.spelled (b ∷ r);
}
moved_kept n h p refused b f g next = tt

moved_yes_kept : (n : ℕ) (h : y.Past) (s : y.LineStep) (f : List ℕ → List ℕ) → StepGood n h s f → StandsGood n (standing_after_yes h s) f
moved_yes_kept n h (y.on q) f g = g
moved_yes_kept n h (y.gives i q) f g = g
moved_yes_kept n h y.refused f g = tt

-- behind the first byte of a NO certificate
no_begun : Good 1 nothing (word (codes "O 1" ++ (10 ∷ codes "term ")) to_term) (λ r. 78 ∷ r)
no_begun = record {
  fits = tt;
  within = tt;
  staged = refl;
  place = tt;
  line = λ r. 78 ∷ r;
  reads = (78 ∷ [], refl, λ r. refl);
  spelled = λ r. refl;
}

good_same : (n m : ℕ) (s : Standing) (f g : List ℕ → List ℕ) → n ≡ m → ((r : List ℕ) → f r ≡ g r) → StandsGood n s f → StandsGood m s g
good_same n m unread f g e same h = (sym e ∙ h.0, λ r. h.1 r ∙ same r)
good_same n m (stands h p) f g e same k =
    subst (λ (i : ℕ). Good i h p g) e (record { fits = k.fits; within = k.within; staged = k.staged; place = k.place; line = k.line; reads = k.reads; spelled = λ r. k.spelled r ∙ same r })
good_same n m (stands_yes h p) f g e same k =
    record { before = k.before; since = k.since; sum = k.sum ∙ e; past = k.past; place = k.place; right = k.right; line = k.line; reads = k.reads; spelled = λ r. k.spelled r ∙ same r }
good_same n m wrong f g e same h = tt

first_kept : (b : ℕ) → StandsGood 1 (first_byte b) (λ r. b ∷ r)
first_kept b =
    cond_both (b == 89) (stands_yes y.nothing (y.word (codes "ES ") y.to_version)) _ (λ s. StandsGood 1 s (λ r. b ∷ r))
    (λ e. subst (λ (x : ℕ). yes_past.Good 1 y.nothing (y.word (codes "ES ") y.to_version) (λ r. x ∷ r)) (sym (eqb-true b 89 e)) begun_good)
    (λ e. cond_both (b == 78) (stands nothing (word (codes "O 1" ++ (10 ∷ codes "term ")) to_term)) wrong (λ s. StandsGood 1 s (λ r. b ∷ r))
    (λ d. subst (λ (x : ℕ). Good 1 nothing (word (codes "O 1" ++ (10 ∷ codes "term ")) to_term) (λ r. x ∷ r)) (sym (eqb-true b 78 d)) no_begun)
    (λ d. tt))

byte_kept : (n : ℕ) (s : Standing) (b : ℕ) (f : List ℕ → List ℕ) → StandsGood n s f → StandsGood (suc n) (take_byte s b) (λ r. f (b ∷ r))
byte_kept n unread b f g =
    good_same 1 (suc n) (first_byte b) (λ r. b ∷ r) (λ r. f (b ∷ r)) (sym (ap (λ (k : ℕ). suc k) g.0)) (λ r. g.1 (b ∷ r)) (first_kept b)
byte_kept n (stands h p) b f g = moved_kept n h p (line_step p b) b f g (lead_kept n p b g.place g.line g.reads)
byte_kept n (stands_yes h p) b f g = moved_yes_kept (suc n) h (y.step (y.version_of h) (y.wants h) p b) (λ r. f (b ∷ r)) (byte_good n h p b f g)
byte_kept n wrong b f g = tt

run_kept : (n : ℕ) (s : Standing) (p : List ℕ) (f : List ℕ → List ℕ) → StandsGood n s f → StandsGood (n + length p) (run s p) (λ r. f (p ++ r))
run_kept n s [] f g = let same : n ≡ n + 0 = omega arith in subst (λ (k : ℕ). StandsGood k s f) same g
run_kept n s (b ∷ p) f g =
    let same : suc n + length p ≡ n + suc (length p) = omega arith in
    subst (λ (k : ℕ). StandsGood k (run (take_byte s b) p) (λ r. f (b ∷ (p ++ r)))) same (run_kept (suc n) (take_byte s b) p (λ r. f (b ∷ r)) (byte_kept n s b f g))

start_good : StandsGood 0 start (λ r. r)
start_good = (refl, λ r. refl)

pub reached : (p : List ℕ) → StandsGood (length p) (run start p) (λ r. p ++ r)
reached p =
    let same : 0 + length p ≡ length p = omega arith in
    subst (λ (k : ℕ). StandsGood k (run start p) (λ r. p ++ r)) same (run_kept 0 start p (λ r. r) start_good)

pub reached_at : (p : List ℕ) (h : Past) (q : LinePlace) → run start p ≡ stands h q → Good (length p) h q (λ r. p ++ r)
reached_at p h q e = subst (λ (s : Standing). StandsGood (length p) s (λ r. p ++ r)) e (reached p)

pub reached_yes : (p : List ℕ) (h : y.Past) (q : y.Place) → run start p ≡ stands_yes h q → yes_past.Good (length p) h q (λ r. p ++ r)
reached_yes p h q e = subst (λ (s : Standing). StandsGood (length p) s (λ r. p ++ r)) e (reached p)

-- where all was read, the bytes are the text
pub found : (p : List ℕ) (c : Cert) → IsEnd (run start p) c → PartsFit c × (p ≡ text c)
found p (no t steps at puts) e =
    let g = reached_at p (placed t steps at puts) finished e in
    (g.fits, sym (ap (past_text (placed t steps at puts)) (g.reads []) ∙ g.spelled [] ∙ append-nil p))
found p (yes version ranks pairs nodes) e =
    let g = reached_yes p (y.so_far version ranks pairs nodes 0) y.finished e in
    let f = end_found (length p) version ranks pairs nodes 0 (λ r. p ++ r) g in
    (f.0, sym (f.2 ∙ append-nil p))
