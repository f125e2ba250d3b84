-- How orders are written by bits in the program, and what it keeps in a search.
use Rattle.std.specs.Prelude.{ℕ, ◌+◌, ◌-◌, ◌<◌, ◌≤◌, ◌≡◌, ◌↔◌, Bool, false, List, [], Some, length, take, get_or, slice_get, Contains}
use Rattle.std.specs.Global.{Vec}
use Rattle.wh_types.specs.Ty.{Ty, sort}
use Rattle.wh_system.specs.Systems.{SystemData}
use Rattle.wh_system.specs.SystemView.{system_data}
use Rattle.wh_system.specs.WellMade.{IsWellMadeSystem}
use Rattle.wh_pairs.specs.Marked.{AreMarked}
use Rattle.wh_reduction_pairs.specs.TaskData.{TaskData}
use Rattle.wh_reduction_pairs.specs.TaskView.{task_data}
use Rattle.wh_order_inference.specs.FilterText.{WrittenFilter, keeps, picks}
use Rattle.wh_sat_trail.specs.Assignment.{AllBelow}
use Rattle.wh_sat_trail.specs.declared.literal.Literal.{Literal}
use Rattle.wh_sat.specs.Solving.{Solves}
use Rattle.wh_sat.specs.State.{Sound, clauses_of, variables_of}
use Rattle.wh_sat.specs.Answers.{Answers}
use Rattle.wh_sat.specs.declared.learner.Learner.{Learner}
use Rattle.wh_sat.specs.declared.learner.Next.{Next}
use Rattle.wh_sat.specs.declared.learner.Next.TheVariants.{Model}
use Rattle.wh_poly_blocking.specs.Sizes.{value_of}
use Rattle.wh_poly_guesses.specs.Coefficients.{scopes_of}
use Rattle.wh_poly_guesses.specs.Conditions.{Condition, IsCondition, UsesNumber}
use Rattle.wh_poly_guesses.specs.Tasks.{IsTaskOf}
use Rattle.wh_order_space.specs.Spotted.{types_in}
use Rattle.wh_order_space.specs.Bits.{bit_count, first_bit, precedence_bits, IsFilterBy}
use Rattle.wh_find_order.specs.Tried.{FailsUnder, IsBlocked, proper}
use Rattle.wh_find_order.specs.declared.encoding.Encoding.{Encoding}

-- where the filter picks a place, a sort stands there
abbrev pub PicksSort : List Ty → WrittenFilter → Type 0
PicksSort cs (keeps prec places) = Unit {0}
PicksSort cs (picks place) = (s : ℕ) × (slice_get cs (place - 1) ≡ Some (sort s))

-- the task that is encoded, and its system
abbrev pub task_in : Encoding → TaskData
task_in e = task_data e.task

abbrev pub system_in : Encoding → SystemData
system_in e = system_data e.task.system.now

-- how many symbols the system has
abbrev pub symbols_in : Encoding → ℕ
symbols_in e = length (task_in e).symbols.funs

-- the types of the arguments of all symbols and of the marked ones
abbrev pub scopes_for : Encoding → List (List Ty)
scopes_for e = scopes_of (task_in e) e.marked.now

-- how many bits a precedence has
abbrev pub bits_for : Encoding → ℕ
bits_for e = precedence_bits (task_in e) e.marked.now

-- the tables of the bits and of the symbols in conditions are right
pub record IsEncoding (e : Encoding) : Type 0 where
  pub task : IsTaskOf e.task
  pub made : IsWellMadeSystem (system_in e)
  pub marked : AreMarked (task_in e).pairs (task_in e).set e.marked.now
  pub scopes : types_in e.scopes.items ≡ scopes_for e
  pub precedence : e.precedence_bits ≡ bits_for e
  pub short : bits_for e < 32
  pub few : bit_count (bits_for e) (scopes_for e) < 4294967296
  -- for each symbol its first bit, and at the end how many bits there are
  pub count : length e.first_bits.items ≡ length (scopes_for e) + 1
  pub firsts : (n : ℕ) → n ≤ length (scopes_for e) → get_or e.first_bits.items n 0 ≡ first_bit (bits_for e) (scopes_for e) n
  -- for each condition on lines the numbers of the symbols in it
  pub conditions : length e.numbers.items ≡ length (task_in e).covered + length (task_in e).set + 1
  pub numbers : (k : ℕ) (c : Condition) (ns : Vec ℕ) → IsCondition (task_in e) k c → slice_get e.numbers.items k ≡ Some ns
      → (n : ℕ) → Contains ns.items n ↔ UsesNumber (task_in e) e.marked.now c n

-- the bits write these filters for the symbols with numbers from n on
abbrev pub AreFiltersFrom : Encoding → (ℕ → Bool) → ℕ → List WrittenFilter → Type 0
AreFiltersFrom e v n filters =
    (i : ℕ) (f : WrittenFilter) → slice_get filters i ≡ Some f → IsFilterBy (task_in e) e.marked.now v (n + i) f

-- the bits write no filter that is tried for the symbol with this number
abbrev pub HasNoFilter : Encoding → (ℕ → Bool) → ℕ → Type 0
HasNoFilter e v n = (n < length (scopes_for e)) × FailsUnder (task_in e) e.marked.now v (proper n)

-- the learner has the bits for variables, and each clause that was given to it is blocked
pub record IsBlocking (e : Encoding) (learner : Learner) : Type 0 where
  pub sound : Sound learner
  pub variables : variables_of learner ≡ bit_count (bits_for e) (scopes_for e)
  pub blocked : (k : ℕ) → k < length (clauses_of learner) → get_or learner.learnt.items k false ≡ false
      → IsBlocked (task_in e) e.marked.now (take k (clauses_of learner)) (get_or (clauses_of learner) k [])

-- the clause is over the bits, and blocked where the bits make all clauses before it true
pub record ShutsOut (e : Encoding) (v : ℕ → Bool) (clause : List Literal) : Type 0 where
  pub below : AllBelow (bit_count (bits_for e) (scopes_for e)) clause
  pub blocked : (earlier : List (List Literal)) → Solves v earlier → IsBlocked (task_in e) e.marked.now earlier clause

-- what a search for guesses comes to: one under which all clauses are true, that no values make all given clauses true,
-- or that no clause may join any more
abbrev pub IsNext : Learner → Next → Type 0
IsNext learner (Model values) = (0 < learner.left) × Solves (value_of values.items) (clauses_of learner)
IsNext learner next = Answers learner next
