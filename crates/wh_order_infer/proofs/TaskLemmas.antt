-- What inferences ask for: on what it hangs, and at which places.
use Rattle.std.proofs.Common.{◌≡◌, ◌⊎◌, ℕ, zero, suc, ◌≤◌, inl, inr, Bool, true, cond, List, [], ◌∷◌, length, Option, Some, None, refl, ap, ap₂, subst, sym, ◌∙◌, arith}
use Rattle.std.proofs.lemmas.Option.{slice_get_within}
use Rattle.wh_terms.specs.Tree.{Tm, bound, free, fun, meta, lam, app, head}
use Rattle.wh_terms.specs.Typing.{Symbols, Declared}
use Rattle.wh_order_inference.specs.Inferences.{Letter, same_trees, bodies, arguments, part, lower, first_less, spine_parts, body, variable, meta_part, Inference, infer, Inferences, no_parts, more_parts, letter_of, count_parts}
use Rattle.wh_order_path.specs.Heads.{arguments_of}
use Rattle.wh_order_path.specs.Verdict.{Claim, at_least, greater, above, Task, pairwise, some_strict, symbol_tasks, one_kind, greater_tasks, typed_tasks, at_least_tasks, tasks, or_later, verdict, verdicts}
use Rattle.wh_order_path.proofs.AskedTasks.{split, first_part, AboveAsks, asks_part, asks_lower, asks_first_less, asks_spine, asks_body, asks_variable, asks_meta, above_asks, GreaterAsks, asks_bodies, asks_arguments, asks_above, typed_asks, AtLeastAsks, asks_same, asks_greater, at_least_asks}
use Rattle.wh_order.specs.Claims.{moved}
use Rattle.wh_order.proofs.CheckLemmas.{by_parts}
use Rattle.wh_order.proofs.LetterTasks.{no_above, same_asks, arguments_asks}
use Rattle.wh_order.proofs.AskedTasks.{IsOtherLetter, bodies_left, arguments_are, greater_above, typed_greater, at_least_typed}
use Rattle.wh_order_path.proofs.SameTreeLaws.{some_none, none_some}

-- each task is that the left tree is at least the right one
abbrev pub AllAtLeast : List Task → Type 0
AllAtLeast [] = Unit {0}
AllAtLeast (k ∷ ks) = (k.claim ≡ at_least) × AllAtLeast ks

pub pairwise_at_least : (next : ℕ) (ss ts : List Tm) → AllAtLeast (pairwise next ss ts)
pairwise_at_least next [] ts = tt
pairwise_at_least next (s ∷ ss) [] = tt
pairwise_at_least next (s ∷ ss) (t ∷ ts) = (refl, pairwise_at_least next ss ts)

pub pairwise_count : (next : ℕ) (ss ts : List Tm) → length (pairwise next ss ts) ≤ length ss
pairwise_count next [] ts = omega arith
pairwise_count next (s ∷ ss) [] = omega arith
pairwise_count next (s ∷ ss) (t ∷ ts) = omega (arith, pairwise_count next ss ts)

-- a letter is `m` or another one
pub is_arguments : (l : Letter) → (l ≡ arguments) ⊎ (l ≡ arguments → ⊥)
is_arguments arguments = inl refl
is_arguments same_trees = inr (λ e. cc)
is_arguments bodies = inr (λ e. cc)
is_arguments part = inr (λ e. cc)
is_arguments lower = inr (λ e. cc)
is_arguments first_less = inr (λ e. cc)
is_arguments spine_parts = inr (λ e. cc)
is_arguments body = inr (λ e. cc)
is_arguments variable = inr (λ e. cc)
is_arguments meta_part = inr (λ e. cc)

-- the parts of which some one is not that of equal trees
pub strict_split : (i : Inference) (is : Inferences) → some_strict (more_parts i is) ≡ true → (letter_of i ≡ same_trees → ⊥) ⊎ (some_strict is ≡ true)
strict_split i is e = on (letter_of i) refl e
  where
    on : (l : Letter) → letter_of i ≡ l → elim l as (λ l. Bool) [ same_trees ↦ some_strict is | _ ↦ true ] ≡ true → (letter_of i ≡ same_trees → ⊥) ⊎ (some_strict is ≡ true)
    on same_trees d e = inr e
    on bodies d e = inl (λ c. cc)
    on arguments d e = inl (λ c. cc)
    on part d e = inl (λ c. cc)
    on lower d e = inl (λ c. cc)
    on first_less d e = inl (λ c. cc)
    on spine_parts d e = inl (λ c. cc)
    on body d e = inl (λ c. cc)
    on variable d e = inl (λ c. cc)
    on meta_part d e = inl (λ c. cc)

pub strict_first : (i : Inference) (is : Inferences) → (letter_of i ≡ same_trees → ⊥) → some_strict (more_parts i is) ≡ true
strict_first i is refuted = on (letter_of i) refl
  where
    on : (l : Letter) → letter_of i ≡ l → elim l as (λ l. Bool) [ same_trees ↦ some_strict is | _ ↦ true ] ≡ true
    on same_trees d = absurd (refuted d)
    on bodies d = refl
    on arguments d = refl
    on part d = refl
    on lower d = refl
    on first_less d = refl
    on spine_parts d = refl
    on body d = refl
    on variable d = refl
    on meta_part d = refl

pub strict_behind : (i : Inference) (is : Inferences) → some_strict is ≡ true → some_strict (more_parts i is) ≡ true
strict_behind i is so = on (letter_of i)
  where
    on : (l : Letter) → elim l as (λ l. Bool) [ same_trees ↦ some_strict is | _ ↦ true ] ≡ true
    on same_trees = so
    on bodies = refl
    on arguments = refl
    on part = refl
    on lower = refl
    on first_less = refl
    on spine_parts = refl
    on body = refl
    on variable = refl
    on meta_part = refl

-- the task with another claim
abbrev pub claimed : Claim → Task → Task
claimed c k = record { claim = c; next = k.next; left = k.left; right = k.right }

module _ (F : Symbols) (prec : ℕ → ℕ) (M : List Declared) where
  pub both_none : (v o : Option ℕ) (n : ℕ) → v ≡ None → o ≡ None → or_later F prec M v n o ≡ None
  both_none v o n p q = ap₂ (λ x y. or_later F prec M x n y) p q

  -- there are as many good inferences as tasks
  pub as_many : (ks : List Task) (is : Inferences) → verdicts F prec M ks is ≡ None → length ks ≡ count_parts is
  as_many [] no_parts e = refl
  as_many [] (more_parts i is) e = absurd (some_none e)
  as_many (k ∷ ks) no_parts e = absurd (some_none e)
  as_many (k ∷ ks) (more_parts i is) e = omega (arith, as_many ks is (first_part F prec M k ks i is e).1)

  -- an inference is good where its parts are
  pub joined : (k : Task) (l : Letter) (n : ℕ) (is : Inferences) (ks : List Task) → tasks F prec M k l n is ≡ Some ks → verdicts F prec M ks is ≡ None
      → verdict F prec M k (infer l n is) ≡ None
  joined k l n is ks e v = by_parts F prec M k l n is ks e (as_many ks is v) ∙ ap (moved 1) v

  -- what is asked for does not hang on the parts, but with `m`

  bodies_any : (next : ℕ) (s t : Tm) (n : ℕ) (is js : Inferences) → greater_tasks F prec M next s t bodies n is ≡ greater_tasks F prec M next s t bodies n js
  bodies_any next (lam a p) (lam b q) zero is js = refl
  bodies_any next (lam a p) (lam b q) (suc n) is js = refl
  bodies_any next (lam a p) (bound i) n is js = refl
  bodies_any next (lam a p) (free x b) n is js = refl
  bodies_any next (lam a p) (fun g) n is js = refl
  bodies_any next (lam a p) (meta z ts) n is js = refl
  bodies_any next (lam a p) (app u v) n is js = refl
  bodies_any next (bound i) t n is js = refl
  bodies_any next (free x a) t n is js = refl
  bodies_any next (fun f) t n is js = refl
  bodies_any next (meta z ts) t n is js = refl
  bodies_any next (app p q) t n is js = bodies_left F prec M next (app p q) t n is refl ∙ sym (bodies_left F prec M next (app p q) t n js refl)

  other_any : (next : ℕ) (s t : Tm) (l : Letter) (n : ℕ) (is js : Inferences) → IsOtherLetter l → greater_tasks F prec M next s t l n is ≡ greater_tasks F prec M next s t l n js
  other_any next s t l n is js o = greater_above F prec M next s t l n is o ∙ sym (greater_above F prec M next s t l n js o)

  greater_any : (next : ℕ) (s t : Tm) (l : Letter) (n : ℕ) (is js : Inferences) → (l ≡ arguments → ⊥)
      → greater_tasks F prec M next s t l n is ≡ greater_tasks F prec M next s t l n js
  greater_any next s t arguments n is js refuted = absurd (refuted refl)
  greater_any next s t bodies n is js refuted = bodies_any next s t n is js
  greater_any next s t same_trees n is js refuted = other_any next s t same_trees n is js tt
  greater_any next s t part n is js refuted = other_any next s t part n is js tt
  greater_any next s t lower n is js refuted = other_any next s t lower n is js tt
  greater_any next s t first_less n is js refuted = other_any next s t first_less n is js tt
  greater_any next s t spine_parts n is js refuted = other_any next s t spine_parts n is js tt
  greater_any next s t body n is js refuted = other_any next s t body n is js tt
  greater_any next s t variable n is js refuted = other_any next s t variable n is js tt
  greater_any next s t meta_part n is js refuted = other_any next s t meta_part n is js tt

  typed_any : (next : ℕ) (s t : Tm) (l : Letter) (n : ℕ) (is js : Inferences) → (l ≡ arguments → ⊥)
      → typed_tasks F prec M next s t l n is ≡ typed_tasks F prec M next s t l n js
  typed_any next s t l n is js refuted = ap (λ x. cond (one_kind F prec M s t) x None) (greater_any next s t l n is js refuted)

  at_least_any : (next : ℕ) (s t : Tm) (l : Letter) (n : ℕ) (is js : Inferences) → (l ≡ arguments → ⊥)
      → at_least_tasks F prec M next s t l n is ≡ at_least_tasks F prec M next s t l n js
  at_least_any next s t same_trees zero is js refuted = refl
  at_least_any next s t same_trees (suc n) is js refuted = typed_any next s t same_trees (suc n) is js refuted
  at_least_any next s t bodies n is js refuted = typed_any next s t bodies n is js refuted
  at_least_any next s t arguments n is js refuted = absurd (refuted refl)
  at_least_any next s t part n is js refuted = typed_any next s t part n is js refuted
  at_least_any next s t lower n is js refuted = typed_any next s t lower n is js refuted
  at_least_any next s t first_less n is js refuted = typed_any next s t first_less n is js refuted
  at_least_any next s t spine_parts n is js refuted = typed_any next s t spine_parts n is js refuted
  at_least_any next s t body n is js refuted = typed_any next s t body n is js refuted
  at_least_any next s t variable n is js refuted = typed_any next s t variable n is js refuted
  at_least_any next s t meta_part n is js refuted = typed_any next s t meta_part n is js refuted

  on_claim : (c : Claim) (k : Task) (l : Letter) (n : ℕ) (is js : Inferences) → (l ≡ arguments → ⊥)
      → tasks F prec M (claimed c k) l n is ≡ tasks F prec M (claimed c k) l n js
  on_claim at_least k l n is js refuted = at_least_any k.next k.left k.right l n is js refuted
  on_claim greater k l n is js refuted = typed_any k.next k.left k.right l n is js refuted
  on_claim (above from) k l n is js refuted = refl

  pub tasks_any : (k : Task) (l : Letter) (n : ℕ) (is js : Inferences) → (l ≡ arguments → ⊥) → tasks F prec M k l n is ≡ tasks F prec M k l n js
  tasks_any k l n is js refuted = on_claim k.claim k l n is js refuted

  -- what `m` asks for

  -- parts one of which says more, and pairs of arguments
  pub record AskedPairs (k : Task) (n : ℕ) (is : Inferences) (ks : List Task) : Type 0 where
    pub first : n ≡ 0
    pub strict : some_strict is ≡ true
    pub each : AllAtLeast ks
    pub few : length ks ≤ length (arguments_of k.left)
    pub any : (js : Inferences) → some_strict js ≡ true → tasks F prec M k arguments 0 js ≡ Some ks

  pairs_of : (next : ℕ) (s t : Tm) (l : Letter) (n : ℕ) (is : Inferences) (ks : List Task) → l ≡ arguments → GreaterAsks F prec M next s t l n is ks
      → (n ≡ 0) × (some_strict is ≡ true) × AllAtLeast ks × (length ks ≤ length (arguments_of s))
      × ((js : Inferences) → some_strict js ≡ true → greater_tasks F prec M next s t arguments 0 js ≡ Some ks)
  pairs_of next s t l n is ks d (asks_bodies e k) = absurd (cc)
  pairs_of next s t l n is ks d (asks_arguments {s = h} {u = u} {t = j} {v = v} other heads len strict k) = (
    refl,
    strict,
    subst AllAtLeast (sym k) (pairwise_at_least next (arguments_of (app h u)) (arguments_of (app j v))),
    omega (arith, ap length k, pairwise_count next (arguments_of (app h u)) (arguments_of (app j v))),
    λ js so. arguments_are F prec M next (app h u) (app j v) h u j v 0 js refl refl refl other heads len so ∙ ap Some (sym k),
  )
  pairs_of next s t l n is ks d (asks_above asked) =
      absurd (none_some (sym (no_above F prec M next next s t l n (λ f. subst (λ x. symbol_tasks F prec M f next next s t x n (head t) ≡ None) (sym d) (arguments_asks F prec M f next next s t n))) ∙ asked))

  pairs_typed : (k : Task) (n : ℕ) (is : Inferences) (ks : List Task) → typed_tasks F prec M k.next k.left k.right arguments n is ≡ Some ks
      → (n ≡ 0) × (some_strict is ≡ true) × AllAtLeast ks × (length ks ≤ length (arguments_of k.left))
      × ((js : Inferences) → some_strict js ≡ true → typed_tasks F prec M k.next k.left k.right arguments 0 js ≡ Some ks)
  pairs_typed k n is ks e =
      let (kinds, h) = typed_asks F prec M k.next k.left k.right arguments n is ks e in
      let (first, strict, each, few, any) = pairs_of k.next k.left k.right arguments n is ks refl h in
      (first, strict, each, few, λ js so. typed_greater F prec M k.next k.left k.right arguments 0 js kinds ∙ any js so)

  pairs_on : (c : Claim) (k : Task) (n : ℕ) (is : Inferences) (ks : List Task) → tasks F prec M (claimed c k) arguments n is ≡ Some ks → AskedPairs (claimed c k) n is ks
  pairs_on at_least k n is ks e =
      let (first, strict, each, few, any) = pairs_typed k n is ks e in
      record { first = first; strict = strict; each = each; few = few; any = any }
  pairs_on greater k n is ks e =
      let (first, strict, each, few, any) = pairs_typed k n is ks e in
      record { first = first; strict = strict; each = each; few = few; any = any }
  pairs_on (above from) k n is ks e =
      absurd (none_some (sym (no_above F prec M from k.next k.left k.right arguments n (λ f. arguments_asks F prec M f from k.next k.left k.right n)) ∙ e))

  pub asked_pairs : (k : Task) (n : ℕ) (is : Inferences) (ks : List Task) → tasks F prec M k arguments n is ≡ Some ks → AskedPairs k n is ks
  asked_pairs k n is ks e = pairs_on k.claim k n is ks e

  -- at which places

  above_place : (from next : ℕ) (s t : Tm) (l : Letter) (n : ℕ) (ks : List Task) → AboveAsks F prec M from next s t l n ks → n ≤ length (arguments_of s)
  above_place from next s t part (suc n) ks (asks_part u here k) = omega (arith, slice_get_within (arguments_of s) n u here)
  above_place from next s t lower zero ks (asks_lower f g p q b k) = omega arith
  above_place from next s t first_less (suc n) ks (asks_first_less f g u v p q e front here there k) = omega (arith, slice_get_within (arguments_of s) n u here)
  above_place from next s t spine_parts zero ks (asks_spine u v e o k) = omega arith
  above_place from next s t body zero ks (asks_body a v e k) = omega arith
  above_place from next s t variable zero ks (asks_variable x a e b k) = omega arith
  above_place from next s t meta_part (suc n) ks (asks_meta z ts u e here b k) = omega (arith, slice_get_within (arguments_of s) n u here)
  above_place from next s t same_trees n ks h = elim h [ ]
  above_place from next s t bodies n ks h = elim h [ ]
  above_place from next s t arguments n ks h = elim h [ ]
  above_place from next s t part zero ks h = elim h [ ]
  above_place from next s t lower (suc n) ks h = elim h [ ]
  above_place from next s t first_less zero ks h = elim h [ ]
  above_place from next s t spine_parts (suc n) ks h = elim h [ ]
  above_place from next s t body (suc n) ks h = elim h [ ]
  above_place from next s t variable (suc n) ks h = elim h [ ]
  above_place from next s t meta_part zero ks h = elim h [ ]

  greater_place : (next : ℕ) (s t : Tm) (l : Letter) (n : ℕ) (is : Inferences) (ks : List Task) → GreaterAsks F prec M next s t l n is ks → n ≤ length (arguments_of s)
  greater_place next s t l n is ks (asks_bodies e k) = omega arith
  greater_place next s t l n is ks (asks_arguments other heads len strict k) = omega arith
  greater_place next s t l n is ks (asks_above asked) = above_place next next s t l n ks (above_asks F prec M next next s t l n ks asked).1

  typed_place : (next : ℕ) (s t : Tm) (l : Letter) (n : ℕ) (is : Inferences) (ks : List Task) → typed_tasks F prec M next s t l n is ≡ Some ks → n ≤ length (arguments_of s)
  typed_place next s t l n is ks e = greater_place next s t l n is ks (typed_asks F prec M next s t l n is ks e).1

  at_least_place : (next : ℕ) (s t : Tm) (l : Letter) (n : ℕ) (is : Inferences) (ks : List Task) → AtLeastAsks F prec M next s t l n is ks → n ≤ length (arguments_of s)
  at_least_place next s t l n is ks (asks_same e k) = omega arith
  at_least_place next s t l n is ks (asks_greater asked) = typed_place next s t l n is ks asked

  place_on : (c : Claim) (k : Task) (l : Letter) (n : ℕ) (is : Inferences) (ks : List Task) → tasks F prec M (claimed c k) l n is ≡ Some ks → n ≤ length (arguments_of k.left)
  place_on at_least k l n is ks e = at_least_place k.next k.left k.right l n is ks (at_least_asks F prec M k.next k.left k.right l n is ks e)
  place_on greater k l n is ks e = typed_place k.next k.left k.right l n is ks e
  place_on (above from) k l n is ks e = above_place from k.next k.left k.right l n ks (above_asks F prec M from k.next k.left k.right l n ks e).1

  pub place_within : (k : Task) (l : Letter) (n : ℕ) (is : Inferences) (ks : List Task) → tasks F prec M k l n is ≡ Some ks → n ≤ length (arguments_of k.left)
  place_within k l n is ks e = place_on k.claim k l n is ks e

  -- inferences for the stricter claim

  no_same : (next : ℕ) (s t : Tm) (l : Letter) (n : ℕ) (is : Inferences) (ks : List Task) → GreaterAsks F prec M next s t l n is ks → l ≡ same_trees → ⊥
  no_same next s t l n is ks (asks_bodies e k) d = cc
  no_same next s t l n is ks (asks_arguments other heads len strict k) d = cc
  no_same next s t l n is ks (asks_above asked) d =
      none_some (sym (no_above F prec M next next s t l n (λ f. subst (λ x. symbol_tasks F prec M f next next s t x n (head t) ≡ None) (sym d) (same_asks F prec M f next next s t n))) ∙ asked)

  pub stricter_good : (k : Task) (i : Inference) → k.claim ≡ at_least → (letter_of i ≡ same_trees → ⊥) → verdict F prec M k i ≡ None
      → verdict F prec M (claimed greater k) i ≡ None
  stricter_good k (infer l n is) e refuted good =
      let v : verdict F prec M (claimed at_least k) (infer l n is) ≡ None = sym (ap (λ (c : Claim). verdict F prec M (claimed c k) (infer l n is)) e) ∙ good in
      let (ks, asked, fine) = split F prec M (claimed at_least k) l n is v in
      joined (claimed greater k) l n is ks (sym (at_least_typed F prec M k.next k.left k.right l n is (λ z same. refuted same)) ∙ asked) fine

  pub weaker_good : (k : Task) (i : Inference) → k.claim ≡ at_least → verdict F prec M (claimed greater k) i ≡ None
      → (verdict F prec M k i ≡ None) × (letter_of i ≡ same_trees → ⊥)
  weaker_good k (infer l n is) e good =
      let (ks, asked, fine) = split F prec M (claimed greater k) l n is good in
      let refuted : l ≡ same_trees → ⊥ = no_same k.next k.left k.right l n is ks (typed_asks F prec M k.next k.left k.right l n is ks asked).1 in (
        ap (λ (c : Claim). verdict F prec M (claimed c k) (infer l n is)) e
            ∙ joined (claimed at_least k) l n is ks (at_least_typed F prec M k.next k.left k.right l n is (λ z same. refuted same) ∙ asked) fine,
        refuted,
      )
