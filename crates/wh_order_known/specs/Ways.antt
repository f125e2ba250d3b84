-- The ways to show a claim of the path order: which letter, at which place, and what it then asks for.
use Rattle.std.specs.Prelude.{ℕ, zero, suc, ◌≡◌, ◌≤◌, List, [], ◌∷◌, Option, None, Some}
use Rattle.wh_terms.specs.Typing.{Symbols, Declared}
use Rattle.wh_order_inference.specs.Inferences.{Letter, arguments, variable, Inference, infer, Inferences, no_parts, more_parts, entries, all_entries}
use Rattle.wh_order_inference.specs.InferenceLimits.{depth, deepest}
use Rattle.wh_order_path.specs.Verdict.{Task, greater, tasks, verdict, verdicts}

-- one part that is not that of equal trees
abbrev pub strict_part : Inferences
strict_part = more_parts (infer variable 0 no_parts) no_parts

-- the tasks with one of them made stricter: at that place the left tree has to be greater
abbrev pub sharpened : ℕ → List Task → Option (List Task)
sharpened n [] = None
sharpened zero (k ∷ ks) = Some (record { claim = greater; next = k.next; left = k.left; right = k.right } ∷ ks)
sharpened (suc n) (k ∷ ks) = elim (sharpened n ks) [ None ↦ None | Some js ↦ Some (k ∷ js) ]

module _ (F : Symbols) (prec : ℕ → ℕ) (M : List Declared) where
  -- the inference is good for the task, and nests at most d deep
  abbrev pub IsGood : ℕ → Task → Inference → Type 0
  IsGood d k i = (verdict F prec M k i ≡ None) × (depth i ≤ d)

  -- each inference of a list is good for the task at its place, and nests at most d deep
  abbrev pub AreGood : ℕ → List Task → Inferences → Type 0
  AreGood d ks is = (verdicts F prec M ks is ≡ None) × (deepest is ≤ d)

  -- some such inference has c entries
  abbrev pub IsShown : ℕ → Task → ℕ → Type 0
  IsShown d k c = (i : Inference) × IsGood d k i × (entries i ≡ c)

  -- some such list of inferences has c entries in all
  abbrev pub AreShown : ℕ → List Task → ℕ → Type 0
  AreShown d ks c = (is : Inferences) × AreGood d ks is × (all_entries is ≡ c)

  -- the tasks that are left where the task is done by this letter at this place. By `m` two trees are compared argument
  -- by argument, and some of them have to get smaller: there the place says which (ours)
  abbrev pub tasks_by : Task → Letter → ℕ → Option (List Task)
  tasks_by k arguments zero = None
  tasks_by k arguments (suc n) = elim (tasks F prec M k arguments zero strict_part) [ None ↦ None | Some ks ↦ sharpened n ks ]
  tasks_by k l n = tasks F prec M k l n no_parts
