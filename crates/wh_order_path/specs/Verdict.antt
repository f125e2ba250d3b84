-- Which inference of a line is the first bad one, as a function. It checks the claims of `Order`, from letter to
-- letter.
use Rattle.std.specs.Prelude.{ℕ, zero, suc, ◌+◌, ◌==◌, ◌&&◌, nat_lt, Bool, true, false, cond, List, [], ◌∷◌, length, map, take, Option, Some, None, slice_get}
use Rattle.wh_types.specs.Ty.{same_ty}
use Rattle.wh_terms.specs.Tree.{Tm, free, fun, meta, lam, app, head}
use Rattle.wh_terms.specs.Substitution.{opened}
use Rattle.wh_terms.specs.Typing.{Symbols, Declared}
use Rattle.wh_order_inference.specs.Inferences.{Letter, same_trees, bodies, arguments, part, lower, first_less, spine_parts, body, variable, meta_part, Inference, infer, Inferences, no_parts, more_parts, letter_of, count_parts, entries}
use Rattle.wh_order_extended.specs.Kinds.{kind}
use Rattle.wh_order_path.specs.Heads.{arguments_of, list_of, nearest}
use Rattle.wh_order_path.specs.SameTrees.{same, all_same, same_list}

-- what an inference is for: that the left tree is at least the right one, is greater, or is above it, where the
-- variables of the binders that were passed are the free ones numbered from `from` on
pub data Claim : Type 0 where
  at_least greater : Claim
  above : (from : ℕ) → Claim

-- a claim about two trees whose free variables have numbers below `next`
pub record Task : Type 0 where
  pub claim : Claim
  pub next : ℕ
  pub left : Tm
  pub right : Tm

-- some inference is not that of equal trees
abbrev pub some_strict : Inferences → Bool
some_strict no_parts = false
some_strict (more_parts i is) = elim (letter_of i) [ same_trees ↦ some_strict is | _ ↦ true ]

-- one claim for the left tree and each tree of a list
abbrev pub each : Claim → ℕ → Tm → List Tm → List Task
each c next s ts = map (λ t. record { claim = c; next = next; left = s; right = t }) ts

-- that the trees of one list are at least those of another, member by member
abbrev pub pairwise : ℕ → List Tm → List Tm → List Task
pairwise next (s ∷ ss) (t ∷ ts) = record { claim = at_least; next = next; left = s; right = t } ∷ pairwise next ss ts
pairwise next _ _ = []

-- the tasks, where the condition holds
abbrev pub when : Bool → List Task → Option (List Task)
when true l = Some l
when false l = None

-- the tree may stand at the head of a spine and is no symbol
abbrev pub is_other_head : Tm → Bool
is_other_head (fun f) = false
is_other_head (app t u) = false
is_other_head _ = true

-- `is_abstracted z n 0 t`: the tree is the meta-variable z below n abstractions and with their variables as its
-- arguments
abbrev pub is_abstracted : ℕ → ℕ → ℕ → Tm → Bool
is_abstracted z n k (lam a t) = is_abstracted z n (suc k) t
is_abstracted z n k (meta y ts) = (y == z) && (k == n) && all_same ts (nearest n)
is_abstracted z n k _ = false

module _ (F : Symbols) (prec : ℕ → ℕ) (M : List Declared) where
  -- what the parts are for where s, which the symbol f heads, is to be above t with the head h
  abbrev pub symbol_tasks : ℕ → ℕ → ℕ → Tm → Tm → Letter → ℕ → Tm → Option (List Task)
  symbol_tasks f from next s t part (suc n) h = elim (slice_get (arguments_of s) n) [
    | None ↦ None
    | Some u ↦ Some (record { claim = at_least; next = next; left = u; right = t } ∷ [])
  ]
  symbol_tasks f from next s t lower zero (fun g) = when (nat_lt (prec g) (prec f)) (each (above from) next s (arguments_of t))
  symbol_tasks f from next s t first_less (suc n) (fun g) = elim (slice_get (arguments_of s) n) [
    | None ↦ None
    | Some u ↦ elim (slice_get (arguments_of t) n) [
      | None ↦ None
      | Some v ↦
          when ((prec g == prec f) && same_list (take n (arguments_of s)) (take n (arguments_of t)))
          (record { claim = greater; next = next; left = u; right = v } ∷ each (above from) next s (arguments_of t))
    ]
  ]
  symbol_tasks f from next s (app t u) spine_parts zero h =
      when (is_other_head h) (each (above from) next s (h ∷ arguments_of (app t u)))
  symbol_tasks f from next s (lam a t) body zero h =
      Some (record { claim = above from; next = suc next; left = s; right = opened (free next a) t } ∷ [])
  symbol_tasks f from next s (free x a) variable zero h = when (cond (nat_lt x from) false (nat_lt x next)) []
  symbol_tasks f from next s (meta z ts) meta_part (suc n) h = elim (slice_get (arguments_of s) n) [
    | None ↦ None
    | Some u ↦ when (is_abstracted z (length (list_of ts)) 0 u) (each (above from) next s (list_of ts))
  ]
  symbol_tasks f from next s t l n h = None

  -- what the parts are for where s is to be above t
  abbrev pub above_tasks : ℕ → ℕ → Tm → Tm → Letter → ℕ → Option (List Task)
  above_tasks from next s t l n = elim (head s) [ fun f ↦ symbol_tasks f from next s t l n (head t) | _ ↦ None ]

  -- the two trees have one type
  abbrev pub one_kind : Tm → Tm → Bool
  one_kind s t = same_ty (kind F M [] s) (kind F M [] t)

  -- what the parts are for where s is to be greater than t
  abbrev pub greater_tasks : ℕ → Tm → Tm → Letter → ℕ → Inferences → Option (List Task)
  greater_tasks next (lam a s) (lam b t) bodies zero is =
      when (same_ty a b)
      (record { claim = greater; next = suc next; left = opened (free next a) s; right = opened (free next b) t } ∷ [])
  greater_tasks next (app s u) (app t v) arguments zero is =
      when (is_other_head (head s) && same (head s) (head t)
      && (length (arguments_of (app s u)) == length (arguments_of (app t v))) && some_strict is)
      (pairwise next (arguments_of (app s u)) (arguments_of (app t v)))
  greater_tasks next s t l n is = above_tasks next next s t l n

  -- the tasks that greater_tasks gives, where the two trees have one type; else none
  abbrev pub typed_tasks : ℕ → Tm → Tm → Letter → ℕ → Inferences → Option (List Task)
  typed_tasks next s t l n is = cond (one_kind s t) (greater_tasks next s t l n is) None

  -- the tasks that show s at least t by this letter
  abbrev pub at_least_tasks : ℕ → Tm → Tm → Letter → ℕ → Inferences → Option (List Task)
  at_least_tasks next s t same_trees zero is = when (same s t) []
  at_least_tasks next s t l n is = typed_tasks next s t l n is

  -- what the parts of an inference with the letter and the place are for, or None where the letter is not for the
  -- claim, its condition fails, or trees of two types are compared
  abbrev pub tasks : Task → Letter → ℕ → Inferences → Option (List Task)
  tasks k l n is = elim k.claim [
    | at_least ↦ at_least_tasks k.next k.left k.right l n is
    | greater ↦ typed_tasks k.next k.left k.right l n is
    | above from ↦ above_tasks from k.next k.left k.right l n
  ]

  -- m where it is a number, else o moved on by n
  abbrev pub or_later : Option ℕ → ℕ → Option ℕ → Option ℕ
  or_later (Some m) n o = Some m
  or_later None n (Some m) = Some (n + m)
  or_later None n None = None

  abbrev mutual
    -- the number of the first bad inference, counted in preorder from 0, or None where all are good for what they are
    -- for
    pub verdict : Task → Inference → Option ℕ
    verdict k (infer l n is) = elim (tasks k l n is) [
      | None ↦ Some 0
      | Some ks ↦ cond (length ks == count_parts is) (or_later None 1 (verdicts ks is)) (Some 0)
    ]

    -- the first bad inference in a list of them, one for each task
    pub verdicts : List Task → Inferences → Option ℕ
    verdicts [] no_parts = None
    verdicts [] (more_parts i is) = Some 0
    verdicts (k ∷ ks) no_parts = Some 0
    verdicts (k ∷ ks) (more_parts i is) = or_later (verdict k i) (entries i) (verdicts ks is)

  -- the verdict on a line: the left side is at least the right one, and no binder was passed
  abbrev pub line_verdict : Tm → Tm → Inference → Option ℕ
  line_verdict s t i = verdict (record { claim = at_least; next = 0; left = s; right = t }) i
