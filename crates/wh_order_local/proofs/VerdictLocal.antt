-- The verdict on an inference depends only on the types and precedences of the symbols in the two trees.
use Rattle.std.proofs.Common.{◌≡◌, ℕ, zero, suc, ◌&&◌, cond, List, [], ◌∷◌, length, take, Option, Some, None, slice_get, refl, ap, ap₂, sym, subst, ◌∙◌}
use Rattle.std.specs.Prelude.{◌==◌, nat_lt}
use Rattle.std.specs.List.{AllByRecursion}
use Rattle.wh_types.specs.Ty.{Ty, ◌⇒◌, same_ty}
use Rattle.wh_terms.specs.Tree.{Tm, bound, free, fun, meta, lam, app, head}
use Rattle.wh_terms.specs.Typing.{Symbols, Declared}
use Rattle.wh_order_inference.specs.Inferences.{Letter, same_trees, bodies, arguments, part, lower, first_less, spine_parts, body, variable, meta_part, Inference, infer, Inferences, no_parts, more_parts, entries, count_parts}
use Rattle.wh_order_extended.specs.Kinds.{type_at, codomain, kind}
use Rattle.wh_order_path.specs.Heads.{arguments_of, list_of}
use Rattle.wh_order_path.specs.SameTrees.{same_list}
use Rattle.wh_order_path.specs.Verdict.{Claim, at_least, greater, above, Task, each, pairwise, when, symbol_tasks, above_tasks, one_kind, greater_tasks, typed_tasks, at_least_tasks, tasks, or_later, verdict, verdicts}
use Rattle.wh_order_path.proofs.AskedTasks.{AboveAsks, asks_part, asks_lower, asks_first_less, asks_spine, asks_body, asks_variable, asks_meta, above_asks, GreaterAsks, asks_bodies, asks_arguments, asks_above, typed_asks, AtLeastAsks, asks_same, asks_greater, at_least_asks}
use Rattle.wh_order_local.specs.Only.{Only}
use Rattle.wh_order_local.proofs.OnlyLemmas.{EachOnly, only_opened, only_head, only_arguments, only_listed, only_at}

module _ (F G : Symbols) (prec other : ℕ → ℕ) where
  -- the symbol has the same type and the same precedence
  pub record IsAlike (f : ℕ) : Type 0 where
    pub types : type_at F.funs f ≡ type_at G.funs f
    pub precedences : prec f ≡ other f

  module _ (M : List Declared) where
    -- so have all symbols in the trees of a task
    abbrev pub IsAlikeTask : Task → Type 0
    IsAlikeTask k = Only IsAlike k.left × Only IsAlike k.right

    abbrev AreAlike : List Task → Type 0
    AreAlike ks = AllByRecursion IsAlikeTask ks

    kind_alike : (Γ : List Ty) (t : Tm) → Only IsAlike t → kind F M Γ t ≡ kind G M Γ t
    kind_alike Γ (bound i) a = refl
    kind_alike Γ (free x b) a = refl
    kind_alike Γ (fun f) a = a.types
    kind_alike Γ (meta z ts) a = refl
    kind_alike Γ (lam b t) a = ap (λ c. b ⇒ c) (kind_alike (b ∷ Γ) t a)
    kind_alike Γ (app t u) a = ap codomain (kind_alike Γ t a.0)

    -- the symbols that are compared have the same precedences
    abbrev IsAlikeHead : Tm → Type 0
    IsAlikeHead (fun g) = IsAlike g
    IsAlikeHead _ = Unit {0}

    head_alike : (t : Tm) → Only IsAlike t → IsAlikeHead (head t)
    head_alike t a = on (head t) (only_head IsAlike t a)
      where
        on : (h : Tm) → Only IsAlike h → IsAlikeHead h
        on (bound i) p = tt
        on (free x b) p = tt
        on (fun g) p = p
        on (meta z ts) p = tt
        on (lam b u) p = tt
        on (app u v) p = tt

    symbol_alike : (f from next : ℕ) (s t : Tm) (l : Letter) (n : ℕ) (h : Tm) → IsAlike f → IsAlikeHead h
        → symbol_tasks F prec M f from next s t l n h ≡ symbol_tasks G other M f from next s t l n h
    symbol_alike f from next s t part (suc n) h a b = refl
    symbol_alike f from next s t lower zero (fun g) a b =
        ap₂ (λ p q. when (nat_lt p q) (each (above from) next s (arguments_of t))) b.precedences a.precedences
    symbol_alike f from next s t first_less (suc n) (fun g) a b =
        ap₂ (λ p q. elim (slice_get (arguments_of s) n) as (λ _. Option (List Task)) [
          | None ↦ None
          | Some u ↦ elim (slice_get (arguments_of t) n) as (λ _. Option (List Task)) [
            | None ↦ None
            | Some v ↦
                when ((p == q) && same_list (take n (arguments_of s)) (take n (arguments_of t)))
                (record { claim = greater; next = next; left = u; right = v } ∷ each (above from) next s (arguments_of t))
          ]
        ]) b.precedences a.precedences
    symbol_alike f from next s (app t u) spine_parts zero h a b = refl
    symbol_alike f from next s (lam c t) body zero h a b = refl
    symbol_alike f from next s (free x c) variable zero h a b = refl
    symbol_alike f from next s (meta z ts) meta_part (suc n) h a b = refl
    symbol_alike f from next s t l n h a b = refl

    above_alike : (from next : ℕ) (s t : Tm) (l : Letter) (n : ℕ) → Only IsAlike s → Only IsAlike t
        → above_tasks F prec M from next s t l n ≡ above_tasks G other M from next s t l n
    above_alike from next s t l n a b = on (head s) (head_alike s a)
      where
        on : (h : Tm) → IsAlikeHead h
            → elim h as (λ _. Option (List Task)) [ fun f ↦ symbol_tasks F prec M f from next s t l n (head t) | _ ↦ None ]
            ≡ elim h as (λ _. Option (List Task)) [ fun f ↦ symbol_tasks G other M f from next s t l n (head t) | _ ↦ None ]
        on (bound i) p = refl
        on (free x c) p = refl
        on (fun f) p = symbol_alike f from next s t l n (head t) p (head_alike t b)
        on (meta z ts) p = refl
        on (lam c u) p = refl
        on (app u v) p = refl

    greater_alike : (next : ℕ) (s t : Tm) (l : Letter) (n : ℕ) (is : Inferences) → Only IsAlike s → Only IsAlike t
        → greater_tasks F prec M next s t l n is ≡ greater_tasks G other M next s t l n is
    greater_alike next (lam c s) (lam d t) bodies zero is a b = refl
    greater_alike next (app s u) (app t v) arguments zero is a b = refl
    greater_alike next s t l n is a b = above_alike next next s t l n a b

    typed_alike : (next : ℕ) (s t : Tm) (l : Letter) (n : ℕ) (is : Inferences) → Only IsAlike s → Only IsAlike t
        → typed_tasks F prec M next s t l n is ≡ typed_tasks G other M next s t l n is
    typed_alike next s t l n is a b =
        ap₂ (λ x y. cond (same_ty x y) (greater_tasks F prec M next s t l n is) None) (kind_alike [] s a) (kind_alike [] t b)
        ∙ ap (λ o. cond (one_kind G other M s t) o None) (greater_alike next s t l n is a b)

    at_least_alike : (next : ℕ) (s t : Tm) (l : Letter) (n : ℕ) (is : Inferences) → Only IsAlike s → Only IsAlike t
        → at_least_tasks F prec M next s t l n is ≡ at_least_tasks G other M next s t l n is
    at_least_alike next s t same_trees zero is a b = refl
    at_least_alike next s t l n is a b = typed_alike next s t l n is a b

    tasks_alike : (k : Task) (l : Letter) (n : ℕ) (is : Inferences) → IsAlikeTask k → tasks F prec M k l n is ≡ tasks G other M k l n is
    tasks_alike k l n is (a, b) = on k.claim
      where
        on : (c : Claim)
            → elim c as (λ _. Option (List Task)) [
              | at_least ↦ at_least_tasks F prec M k.next k.left k.right l n is
              | greater ↦ typed_tasks F prec M k.next k.left k.right l n is
              | above from ↦ above_tasks F prec M from k.next k.left k.right l n
            ]
            ≡ elim c as (λ _. Option (List Task)) [
              | at_least ↦ at_least_tasks G other M k.next k.left k.right l n is
              | greater ↦ typed_tasks G other M k.next k.left k.right l n is
              | above from ↦ above_tasks G other M from k.next k.left k.right l n
            ]
        on at_least = at_least_alike k.next k.left k.right l n is a b
        on greater = typed_alike k.next k.left k.right l n is a b
        on (above from) = above_alike from k.next k.left k.right l n a b

    -- the tasks of the parts are on trees with the same symbols

    each_alike : (c : Claim) (next : ℕ) (s : Tm) (ts : List Tm) → Only IsAlike s → EachOnly IsAlike ts → AreAlike (each c next s ts)
    each_alike c next s [] a b = tt
    each_alike c next s (t ∷ ts) a b = ((a, b.0), each_alike c next s ts a b.1)

    pairwise_alike : (next : ℕ) (ss ts : List Tm) → EachOnly IsAlike ss → EachOnly IsAlike ts → AreAlike (pairwise next ss ts)
    pairwise_alike next (s ∷ ss) (t ∷ ts) a b = ((a.0, b.0), pairwise_alike next ss ts a.1 b.1)
    pairwise_alike next [] ts a b = tt
    pairwise_alike next (s ∷ ss) [] a b = tt

    above_parts : (from next : ℕ) (s t : Tm) (l : Letter) (n : ℕ) (ks : List Task) → Only IsAlike s → Only IsAlike t
        → AboveAsks F prec M from next s t l n ks → AreAlike ks
    above_parts from next s t l n ks a b (asks_part {n = m} u at is) =
        subst AreAlike (sym is) ((only_at IsAlike (arguments_of s) m u (only_arguments IsAlike s a) at, b), tt)
    above_parts from next s t l n ks a b (asks_lower f g hs ht less is) =
        subst AreAlike (sym is) (each_alike (above from) next s (arguments_of t) a (only_arguments IsAlike t b))
    above_parts from next s t l n ks a b (asks_first_less {n = m} f g u v hs ht same front at there is) =
        subst AreAlike (sym is) (
          (only_at IsAlike (arguments_of s) m u (only_arguments IsAlike s a) at, only_at IsAlike (arguments_of t) m v (only_arguments IsAlike t b) there),
          each_alike (above from) next s (arguments_of t) a (only_arguments IsAlike t b),
        )
    above_parts from next s t l n ks a b (asks_spine u v whole other_head is) =
        subst AreAlike (sym is) (each_alike (above from) next s (head t ∷ arguments_of t) a (only_head IsAlike t b, only_arguments IsAlike t b))
    above_parts from next s t l n ks a b (asks_body c v whole is) =
        subst AreAlike (sym is) ((a, only_opened IsAlike next c v (subst (Only IsAlike) whole b)), tt)
    above_parts from next s t l n ks a b (asks_variable x c whole low is) = subst AreAlike (sym is) tt
    above_parts from next s t l n ks a b (asks_meta z ts u whole at same is) =
        subst AreAlike (sym is) (each_alike (above from) next s (list_of ts) a (only_listed IsAlike ts (subst (Only IsAlike) whole b)))

    greater_parts : (next : ℕ) (s t : Tm) (l : Letter) (n : ℕ) (is : Inferences) (ks : List Task) → Only IsAlike s → Only IsAlike t
        → GreaterAsks F prec M next s t l n is ks → AreAlike ks
    greater_parts next s' t' l n is ks a b (asks_bodies {s = s} {t = t} {a = c} {b = d} same ks_is) =
        subst AreAlike (sym ks_is) ((only_opened IsAlike next c s a, only_opened IsAlike next d t b), tt)
    greater_parts next s' t' l n is ks a b (asks_arguments {s = s} {u = u} {t = t} {v = v} head_is heads long strict ks_is) =
        subst AreAlike (sym ks_is)
        (pairwise_alike next (arguments_of (app s u)) (arguments_of (app t v)) (only_arguments IsAlike (app s u) a) (only_arguments IsAlike (app t v) b))
    greater_parts next s t l n is ks a b (asks_above e) = above_parts next next s t l n ks a b (above_asks F prec M next next s t l n ks e).1

    typed_parts : (next : ℕ) (s t : Tm) (l : Letter) (n : ℕ) (is : Inferences) (ks : List Task) → Only IsAlike s → Only IsAlike t
        → typed_tasks F prec M next s t l n is ≡ Some ks → AreAlike ks
    typed_parts next s t l n is ks a b e = greater_parts next s t l n is ks a b (typed_asks F prec M next s t l n is ks e).1

    at_least_parts : (next : ℕ) (s t : Tm) (l : Letter) (n : ℕ) (is : Inferences) (ks : List Task) → Only IsAlike s → Only IsAlike t
        → AtLeastAsks F prec M next s t l n is ks → AreAlike ks
    at_least_parts next s t l n is ks a b (asks_same same ks_is) = subst AreAlike (sym ks_is) tt
    at_least_parts next s t l n is ks a b (asks_greater e) = typed_parts next s t l n is ks a b e

    parts_alike : (k : Task) (l : Letter) (n : ℕ) (is : Inferences) (ks : List Task) → IsAlikeTask k → tasks F prec M k l n is ≡ Some ks → AreAlike ks
    parts_alike k l n is ks (a, b) e = on k.claim e
      where
        on : (c : Claim)
            → elim c as (λ _. Option (List Task)) [
              | at_least ↦ at_least_tasks F prec M k.next k.left k.right l n is
              | greater ↦ typed_tasks F prec M k.next k.left k.right l n is
              | above from ↦ above_tasks F prec M from k.next k.left k.right l n
            ] ≡ Some ks → AreAlike ks
        on at_least e = at_least_parts k.next k.left k.right l n is ks a b (at_least_asks F prec M k.next k.left k.right l n is ks e)
        on greater e = typed_parts k.next k.left k.right l n is ks a b e
        on (above from) e = above_parts from k.next k.left k.right l n ks a b (above_asks F prec M from k.next k.left k.right l n ks e).1

    later_alike : (o : Option ℕ) (n : ℕ) (p : Option ℕ) → or_later F prec M o n p ≡ or_later G other M o n p
    later_alike (Some m) n p = refl
    later_alike None n (Some m) = refl
    later_alike None n None = refl

    mutual
      -- the verdict is the same
      pub verdict_alike : (k : Task) (i : Inference) → IsAlikeTask k → verdict F prec M k i ≡ verdict G other M k i
      verdict_alike k (infer l n is) a =
          on (tasks F prec M k l n is) refl (λ ks e. verdicts_alike ks is (parts_alike k l n is ks a e)) ∙ ap other_verdict (tasks_alike k l n is a)
        where
          other_verdict : Option (List Task) → Option ℕ
          other_verdict o = elim o as (λ _. Option ℕ) [
            | None ↦ Some 0
            | Some ks ↦ cond (length ks == count_parts is) (or_later G other M None 1 (verdicts G other M ks is)) (Some 0)
          ]

          on : (o : Option (List Task)) → tasks F prec M k l n is ≡ o
              → ((ks : List Task) → tasks F prec M k l n is ≡ Some ks → verdicts F prec M ks is ≡ verdicts G other M ks is)
              → elim o as (λ _. Option ℕ) [
                | None ↦ Some 0
                | Some ks ↦ cond (length ks == count_parts is) (or_later F prec M None 1 (verdicts F prec M ks is)) (Some 0)
              ] ≡ other_verdict o
          on None e h = refl
          on (Some ks) e h =
              ap (λ o. cond (length ks == count_parts is) (or_later F prec M None 1 o) (Some 0)) (h ks e)
              ∙ ap (λ o. cond (length ks == count_parts is) o (Some 0)) (later_alike None 1 (verdicts G other M ks is))

      verdicts_alike : (ks : List Task) (is : Inferences) → AreAlike ks → verdicts F prec M ks is ≡ verdicts G other M ks is
      verdicts_alike [] no_parts a = refl
      verdicts_alike [] (more_parts i is) a = refl
      verdicts_alike (k ∷ ks) no_parts a = refl
      verdicts_alike (k ∷ ks) (more_parts i is) a =
          ap₂ (λ o p. or_later F prec M o (entries i) p) (verdict_alike k i a.0) (verdicts_alike ks is a.1)
          ∙ later_alike (verdict G other M k i) (entries i) (verdicts G other M ks is)
