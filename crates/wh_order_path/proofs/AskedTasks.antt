-- What a good inference asks for: the conditions of its letter, and that its parts are good for their tasks.
use Rattle.std.proofs.Common.{◌≡◌, ℕ, zero, suc, Bool, true, false, ◌&&◌, cond, List, [], ◌∷◌, length, take, refl, ap, ◌∙◌, sym, Some, None, Option, slice_get, eqb-true}
use Rattle.std.specs.Prelude.{◌==◌, nat_lt}
use Rattle.wh_types.specs.Ty.{Ty, same_ty}
use Rattle.wh_terms.specs.Tree.{Tm, bound, free, fun, meta, lam, app, Tms, spine, head}
use Rattle.wh_terms.specs.Substitution.{opened}
use Rattle.wh_terms.specs.Typing.{Symbols, Declared}
use Rattle.wh_terms.proofs.TypeTests.{same_ty-equal}
use Rattle.wh_step_laws.proofs.Spines.{spine-append}
use Rattle.wh_order_extended.specs.Kinds.{kind}
use Rattle.wh_order_inference.specs.Inferences.{Letter, same_trees, bodies, arguments, part, lower, first_less, spine_parts, body, variable, meta_part, Inference, infer, Inferences, more_parts, entries, count_parts}
use Rattle.wh_order_path.specs.Heads.{arguments_of, list_of}
use Rattle.wh_order_path.specs.Verdict.{at_least, greater, above, Task, each, pairwise, some_strict, when, is_other_head, is_abstracted, symbol_tasks, above_tasks, one_kind, greater_tasks, typed_tasks, at_least_tasks, tasks, or_later, verdict, verdicts}
use Rattle.wh_order_path.specs.SameTrees.{same, same_list}
use Rattle.wh_order_path.proofs.SameTreeLaws.{some_none, none_some, both, tree_equal, list_equal}

when_true : (b : Bool) (l ks : List Task) → when b l ≡ Some ks → (b ≡ true) × (ks ≡ l)
when_true true l ks e = (refl, cc)
when_true false l ks e = absurd (cc)

-- a tree is its head with its arguments
pub spine_whole : (t : Tm) → t ≡ spine (head t) (arguments_of t)
spine_whole (bound i) = refl
spine_whole (free x a) = refl
spine_whole (fun f) = refl
spine_whole (meta z ts) = refl
spine_whole (lam a t) = refl
spine_whole (app t u) = ap (λ t. app t u) (spine_whole t) ∙ sym (spine-append (head t) (arguments_of t) (u ∷ []))

module _ (F : Symbols) (prec : ℕ → ℕ) (M : List Declared) where
  pub split : (k : Task) (l : Letter) (n : ℕ) (is : Inferences) → verdict F prec M k (infer l n is) ≡ None
      → (ks : List Task) × (tasks F prec M k l n is ≡ Some ks) × (verdicts F prec M ks is ≡ None)
  split k l n is e = on (tasks F prec M k l n is) refl e
    where
      later : (o : Option ℕ) → or_later F prec M None 1 o ≡ None → o ≡ None
      later None e = refl
      later (Some m) e = absurd (some_none e)

      tested : (b : Bool) (o : Option ℕ) → cond b o (Some 0) ≡ None → o ≡ None
      tested true o e = e
      tested false o e = absurd (some_none e)

      on : (o : Option (List Task)) → tasks F prec M k l n is ≡ o
          → elim o as (λ x. Option ℕ) [ None ↦ Some 0 | Some ks ↦ cond (length ks == count_parts is) (or_later F prec M None 1 (verdicts F prec M ks is)) (Some 0) ] ≡ None
          → (ks : List Task) × (tasks F prec M k l n is ≡ Some ks) × (verdicts F prec M ks is ≡ None)
      on None d e = absurd (some_none e)
      on (Some ks) d e = (ks, d, later (verdicts F prec M ks is) (tested (length ks == count_parts is) (or_later F prec M None 1 (verdicts F prec M ks is)) e))

  -- the parts of a list, one after another
  pub first_part : (k : Task) (ks : List Task) (i : Inference) (is : Inferences) → verdicts F prec M (k ∷ ks) (more_parts i is) ≡ None
      → (verdict F prec M k i ≡ None) × (verdicts F prec M ks is ≡ None)
  first_part k ks i is e = on (verdict F prec M k i) (verdicts F prec M ks is) e
    where
      on : (o p : Option ℕ) → or_later F prec M o (entries i) p ≡ None → (o ≡ None) × (p ≡ None)
      on None None e = (refl, refl)
      on None (Some m) e = absurd (some_none e)
      on (Some m) p e = absurd (some_none e)

  -- what a letter asks for, where a symbol is to be above
  pub data AboveAsks (from next : ℕ) (s : Tm) : Tm → Letter → ℕ → List Task → Type 0 where
    asks_part : {t : Tm} {n : ℕ} {ks : List Task} (u : Tm) → slice_get (arguments_of s) n ≡ Some u → ks ≡ record { claim = at_least; next = next; left = u; right = t } ∷ [] → AboveAsks from next s t part (suc n) ks
    asks_lower : {t : Tm} {ks : List Task} (f g : ℕ) → head s ≡ fun f → head t ≡ fun g → nat_lt (prec g) (prec f) ≡ true → ks ≡ each (above from) next s (arguments_of t) → AboveAsks from next s t lower 0 ks
    asks_first_less : {t : Tm} {n : ℕ} {ks : List Task} (f g : ℕ) (u v : Tm) → head s ≡ fun f → head t ≡ fun g → prec g ≡ prec f → take n (arguments_of s) ≡ take n (arguments_of t)
        → slice_get (arguments_of s) n ≡ Some u → slice_get (arguments_of t) n ≡ Some v → ks ≡ record { claim = greater; next = next; left = u; right = v } ∷ each (above from) next s (arguments_of t) → AboveAsks from next s t first_less (suc n) ks
    asks_spine : {t : Tm} {ks : List Task} (u v : Tm) → t ≡ app u v → is_other_head (head t) ≡ true → ks ≡ each (above from) next s (head t ∷ arguments_of t) → AboveAsks from next s t spine_parts 0 ks
    asks_body : {t : Tm} {ks : List Task} (a : Ty) (v : Tm) → t ≡ lam a v → ks ≡ record { claim = above from; next = suc next; left = s; right = opened (free next a) v } ∷ [] → AboveAsks from next s t body 0 ks
    asks_variable : {t : Tm} {ks : List Task} (x : ℕ) (a : Ty) → t ≡ free x a → cond (nat_lt x from) false (nat_lt x next) ≡ true → ks ≡ [] → AboveAsks from next s t variable 0 ks
    asks_meta : {t : Tm} {n : ℕ} {ks : List Task} (z : ℕ) (ts : Tms) (u : Tm) → t ≡ meta z ts → slice_get (arguments_of s) n ≡ Some u → is_abstracted z (length (list_of ts)) 0 u ≡ true → ks ≡ each (above from) next s (list_of ts) → AboveAsks from next s t meta_part (suc n) ks

  some_of : {A : Type 0} {a b : A} → Some a ≡ Some b → a ≡ b
  some_of e = cc

  symbol_asks : (f from next : ℕ) (s t : Tm) (l : Letter) (n : ℕ) (h : Tm) → head s ≡ fun f → head t ≡ h → (ks : List Task) → symbol_tasks F prec M f from next s t l n h ≡ Some ks → AboveAsks from next s t l n ks
  symbol_asks f from next s t part (suc n) h p q ks e = on (slice_get (arguments_of s) n) refl e
    where
      on : (o : Option Tm) → slice_get (arguments_of s) n ≡ o → elim o [ None ↦ None | Some u ↦ Some (record { claim = at_least; next = next; left = u; right = t } ∷ []) ] ≡ Some ks → AboveAsks from next s t part (suc n) ks
      on None d e = absurd (none_some e)
      on (Some u) d e = asks_part u d (sym (some_of e))
  symbol_asks f from next s t lower zero (fun g) p q ks e =
      let (b, d) = when_true (nat_lt (prec g) (prec f)) (each (above from) next s (arguments_of t)) ks e in
      asks_lower f g p q b d
  symbol_asks f from next s t first_less (suc n) (fun g) p q ks e = on (slice_get (arguments_of s) n) refl e
    where
      inner : (u : Tm) → slice_get (arguments_of s) n ≡ Some u → (o : Option Tm) → slice_get (arguments_of t) n ≡ o
          → elim o [ None ↦ None | Some v ↦ when ((prec g == prec f) && same_list (take n (arguments_of s)) (take n (arguments_of t))) (record { claim = greater; next = next; left = u; right = v } ∷ each (above from) next s (arguments_of t)) ] ≡ Some ks
          → AboveAsks from next s t first_less (suc n) ks
      inner u d None c e = absurd (none_some e)
      inner u d (Some v) c e =
          let (b, l) = when_true ((prec g == prec f) && same_list (take n (arguments_of s)) (take n (arguments_of t))) (record { claim = greater; next = next; left = u; right = v } ∷ each (above from) next s (arguments_of t)) ks e in
          let (x, y) = both (prec g == prec f) (same_list (take n (arguments_of s)) (take n (arguments_of t))) b in
          asks_first_less f g u v p q (eqb-true (prec g) (prec f) x) (list_equal (take n (arguments_of s)) (take n (arguments_of t)) y) d c l

      on : (o : Option Tm) → slice_get (arguments_of s) n ≡ o
          → elim o [ None ↦ None | Some u ↦ elim (slice_get (arguments_of t) n) [ None ↦ None | Some v ↦ when ((prec g == prec f) && same_list (take n (arguments_of s)) (take n (arguments_of t))) (record { claim = greater; next = next; left = u; right = v } ∷ each (above from) next s (arguments_of t)) ] ] ≡ Some ks
          → AboveAsks from next s t first_less (suc n) ks
      on None d e = absurd (none_some e)
      on (Some u) d e = inner u d (slice_get (arguments_of t) n) refl e
  symbol_asks f from next s (app t v) spine_parts zero h p q ks e =
      let (b, d) = when_true (is_other_head h) (each (above from) next s (h ∷ arguments_of (app t v))) ks e in
      asks_spine t v refl (ap is_other_head q ∙ b) (d ∙ ap (λ h. each (above from) next s (h ∷ arguments_of (app t v))) (sym q))
  symbol_asks f from next s (lam a t) body zero h p q ks e = asks_body a t refl (sym (some_of e))
  symbol_asks f from next s (free x a) variable zero h p q ks e =
      let (b, d) = when_true (cond (nat_lt x from) false (nat_lt x next)) [] ks e in
      asks_variable x a refl b d
  symbol_asks f from next s (meta z ts) meta_part (suc n) h p q ks e = on (slice_get (arguments_of s) n) refl e
    where
      on : (o : Option Tm) → slice_get (arguments_of s) n ≡ o → elim o [ None ↦ None | Some u ↦ when (is_abstracted z (length (list_of ts)) 0 u) (each (above from) next s (list_of ts)) ] ≡ Some ks → AboveAsks from next s (meta z ts) meta_part (suc n) ks
      on None d e = absurd (none_some e)
      on (Some u) d e = let (b, l) = when_true (is_abstracted z (length (list_of ts)) 0 u) (each (above from) next s (list_of ts)) ks e in asks_meta z ts u refl d b l
  symbol_asks f from next s t same_trees n h p q ks e = absurd (none_some e)
  symbol_asks f from next s t bodies n h p q ks e = absurd (none_some e)
  symbol_asks f from next s t arguments n h p q ks e = absurd (none_some e)
  symbol_asks f from next s t part zero h p q ks e = absurd (none_some e)
  symbol_asks f from next s t lower (suc n) h p q ks e = absurd (none_some e)
  symbol_asks f from next s t lower zero (bound i) p q ks e = absurd (none_some e)
  symbol_asks f from next s t lower zero (free x a) p q ks e = absurd (none_some e)
  symbol_asks f from next s t lower zero (meta z ts) p q ks e = absurd (none_some e)
  symbol_asks f from next s t lower zero (lam a u) p q ks e = absurd (none_some e)
  symbol_asks f from next s t lower zero (app u v) p q ks e = absurd (none_some e)
  symbol_asks f from next s t first_less zero h p q ks e = absurd (none_some e)
  symbol_asks f from next s t first_less (suc n) (bound i) p q ks e = absurd (none_some e)
  symbol_asks f from next s t first_less (suc n) (free x a) p q ks e = absurd (none_some e)
  symbol_asks f from next s t first_less (suc n) (meta z ts) p q ks e = absurd (none_some e)
  symbol_asks f from next s t first_less (suc n) (lam a u) p q ks e = absurd (none_some e)
  symbol_asks f from next s t first_less (suc n) (app u v) p q ks e = absurd (none_some e)
  symbol_asks f from next s (bound i) spine_parts (suc n) h p q ks e = absurd (none_some e)
  symbol_asks f from next s (bound i) spine_parts zero h p q ks e = absurd (none_some e)
  symbol_asks f from next s (free x a) spine_parts (suc n) h p q ks e = absurd (none_some e)
  symbol_asks f from next s (free x a) spine_parts zero h p q ks e = absurd (none_some e)
  symbol_asks f from next s (fun g) spine_parts (suc n) h p q ks e = absurd (none_some e)
  symbol_asks f from next s (fun g) spine_parts zero h p q ks e = absurd (none_some e)
  symbol_asks f from next s (meta z ts) spine_parts (suc n) h p q ks e = absurd (none_some e)
  symbol_asks f from next s (meta z ts) spine_parts zero h p q ks e = absurd (none_some e)
  symbol_asks f from next s (lam a t) spine_parts (suc n) h p q ks e = absurd (none_some e)
  symbol_asks f from next s (lam a t) spine_parts zero h p q ks e = absurd (none_some e)
  symbol_asks f from next s (app t v) spine_parts (suc n) h p q ks e = absurd (none_some e)
  symbol_asks f from next s (bound i) body (suc n) h p q ks e = absurd (none_some e)
  symbol_asks f from next s (bound i) body zero h p q ks e = absurd (none_some e)
  symbol_asks f from next s (free x a) body (suc n) h p q ks e = absurd (none_some e)
  symbol_asks f from next s (free x a) body zero h p q ks e = absurd (none_some e)
  symbol_asks f from next s (fun g) body (suc n) h p q ks e = absurd (none_some e)
  symbol_asks f from next s (fun g) body zero h p q ks e = absurd (none_some e)
  symbol_asks f from next s (meta z ts) body (suc n) h p q ks e = absurd (none_some e)
  symbol_asks f from next s (meta z ts) body zero h p q ks e = absurd (none_some e)
  symbol_asks f from next s (lam a t) body (suc n) h p q ks e = absurd (none_some e)
  symbol_asks f from next s (app t v) body (suc n) h p q ks e = absurd (none_some e)
  symbol_asks f from next s (app t v) body zero h p q ks e = absurd (none_some e)
  symbol_asks f from next s (bound i) variable (suc n) h p q ks e = absurd (none_some e)
  symbol_asks f from next s (bound i) variable zero h p q ks e = absurd (none_some e)
  symbol_asks f from next s (free x a) variable (suc n) h p q ks e = absurd (none_some e)
  symbol_asks f from next s (fun g) variable (suc n) h p q ks e = absurd (none_some e)
  symbol_asks f from next s (fun g) variable zero h p q ks e = absurd (none_some e)
  symbol_asks f from next s (meta z ts) variable (suc n) h p q ks e = absurd (none_some e)
  symbol_asks f from next s (meta z ts) variable zero h p q ks e = absurd (none_some e)
  symbol_asks f from next s (lam a t) variable (suc n) h p q ks e = absurd (none_some e)
  symbol_asks f from next s (lam a t) variable zero h p q ks e = absurd (none_some e)
  symbol_asks f from next s (app t v) variable (suc n) h p q ks e = absurd (none_some e)
  symbol_asks f from next s (app t v) variable zero h p q ks e = absurd (none_some e)
  symbol_asks f from next s (bound i) meta_part zero h p q ks e = absurd (none_some e)
  symbol_asks f from next s (bound i) meta_part (suc n) h p q ks e = absurd (none_some e)
  symbol_asks f from next s (free x a) meta_part zero h p q ks e = absurd (none_some e)
  symbol_asks f from next s (free x a) meta_part (suc n) h p q ks e = absurd (none_some e)
  symbol_asks f from next s (fun g) meta_part zero h p q ks e = absurd (none_some e)
  symbol_asks f from next s (fun g) meta_part (suc n) h p q ks e = absurd (none_some e)
  symbol_asks f from next s (meta z ts) meta_part zero h p q ks e = absurd (none_some e)
  symbol_asks f from next s (lam a t) meta_part zero h p q ks e = absurd (none_some e)
  symbol_asks f from next s (lam a t) meta_part (suc n) h p q ks e = absurd (none_some e)
  symbol_asks f from next s (app t v) meta_part zero h p q ks e = absurd (none_some e)
  symbol_asks f from next s (app t v) meta_part (suc n) h p q ks e = absurd (none_some e)

  pub above_asks : (from next : ℕ) (s t : Tm) (l : Letter) (n : ℕ) (ks : List Task) → above_tasks F prec M from next s t l n ≡ Some ks → ((f : ℕ) × (head s ≡ fun f)) × AboveAsks from next s t l n ks
  above_asks from next s t l n ks e = on (head s) refl e
    where
      on : (h : Tm) → head s ≡ h → elim h [ fun f ↦ symbol_tasks F prec M f from next s t l n (head t) | _ ↦ None ] ≡ Some ks → ((f : ℕ) × (head s ≡ fun f)) × AboveAsks from next s t l n ks
      on (bound i) d e = absurd (none_some e)
      on (free x a) d e = absurd (none_some e)
      on (fun f) d e = ((f, d), symbol_asks f from next s t l n (head t) d refl ks e)
      on (meta z ts) d e = absurd (none_some e)
      on (lam a u) d e = absurd (none_some e)
      on (app u v) d e = absurd (none_some e)

  -- what a letter asks for, where a tree is to be greater
  pub data GreaterAsks (next : ℕ) : Tm → Tm → Letter → ℕ → Inferences → List Task → Type 0 where
    asks_bodies : {s t : Tm} {a b : Ty} {is : Inferences} {ks : List Task} → a ≡ b → ks ≡ record { claim = greater; next = suc next; left = opened (free next a) s; right = opened (free next b) t } ∷ []
        → GreaterAsks next (lam a s) (lam b t) bodies 0 is ks
    asks_arguments : {s u t v : Tm} {is : Inferences} {ks : List Task} → is_other_head (head s) ≡ true → head s ≡ head t → length (arguments_of (app s u)) ≡ length (arguments_of (app t v)) → some_strict is ≡ true
        → ks ≡ pairwise next (arguments_of (app s u)) (arguments_of (app t v)) → GreaterAsks next (app s u) (app t v) arguments 0 is ks
    asks_above : {s t : Tm} {l : Letter} {n : ℕ} {is : Inferences} {ks : List Task} → above_tasks F prec M next next s t l n ≡ Some ks → GreaterAsks next s t l n is ks

  pub greater_asks : (next : ℕ) (s t : Tm) (l : Letter) (n : ℕ) (is : Inferences) (ks : List Task) → greater_tasks F prec M next s t l n is ≡ Some ks → GreaterAsks next s t l n is ks
  greater_asks next (lam a s) (lam b t) bodies zero is ks e =
      let (d, k) = when_true (same_ty a b) (record { claim = greater; next = suc next; left = opened (free next a) s; right = opened (free next b) t } ∷ []) ks e in
      asks_bodies (same_ty-equal a b d) k
  greater_asks next (app s u) (app t v) arguments zero is ks e =
      let (d, k) = when_true (is_other_head (head s) && same (head s) (head t) && (length (arguments_of (app s u)) == length (arguments_of (app t v))) && some_strict is) (pairwise next (arguments_of (app s u)) (arguments_of (app t v))) ks e in
      let (d1, strict) = both (is_other_head (head s) && same (head s) (head t) && (length (arguments_of (app s u)) == length (arguments_of (app t v)))) (some_strict is) d in
      let (d2, len) = both (is_other_head (head s) && same (head s) (head t)) (length (arguments_of (app s u)) == length (arguments_of (app t v))) d1 in
      let (other, heads) = both (is_other_head (head s)) (same (head s) (head t)) d2 in
      asks_arguments other (tree_equal (head s) (head t) heads) (eqb-true (length (arguments_of (app s u))) (length (arguments_of (app t v))) len) strict k
  greater_asks next s t l n is ks e = asks_above e

  -- where typed_tasks gives tasks, the two trees have one type
  pub typed_asks : (next : ℕ) (s t : Tm) (l : Letter) (n : ℕ) (is : Inferences) (ks : List Task) → typed_tasks F prec M next s t l n is ≡ Some ks
      → (kind F M [] s ≡ kind F M [] t) × GreaterAsks next s t l n is ks
  typed_asks next s t l n is ks e = on (one_kind F prec M s t) refl e
    where
      on : (b : Bool) → one_kind F prec M s t ≡ b → cond b (greater_tasks F prec M next s t l n is) None ≡ Some ks → (kind F M [] s ≡ kind F M [] t) × GreaterAsks next s t l n is ks
      on true d e = (same_ty-equal (kind F M [] s) (kind F M [] t) d, greater_asks next s t l n is ks e)
      on false d e = absurd (none_some e)

  -- where a tree is to be at least another one
  pub data AtLeastAsks (next : ℕ) (s t : Tm) : Letter → ℕ → Inferences → List Task → Type 0 where
    asks_same : {is : Inferences} {ks : List Task} → s ≡ t → ks ≡ [] → AtLeastAsks next s t same_trees 0 is ks
    asks_greater : {l : Letter} {n : ℕ} {is : Inferences} {ks : List Task} → typed_tasks F prec M next s t l n is ≡ Some ks → AtLeastAsks next s t l n is ks

  pub at_least_asks : (next : ℕ) (s t : Tm) (l : Letter) (n : ℕ) (is : Inferences) (ks : List Task) → at_least_tasks F prec M next s t l n is ≡ Some ks → AtLeastAsks next s t l n is ks
  at_least_asks next s t same_trees zero is ks e = let (d, k) = when_true (same s t) [] ks e in asks_same (tree_equal s t d) k
  at_least_asks next s t l n is ks e = asks_greater e
