-- How readings are written by bits in the program, and what it keeps in a search.
use Rattle.std.specs.Prelude.{ℕ, ◌+◌, ◌<◌, ◌≤◌, ◌≡◌, ◌↔◌, false, List, [], Some, length, map, take, get_or, slice_get, Contains}
use Rattle.std.specs.Global.{Vec}
use Rattle.wh_types.specs.Ty.{Ty}
use Rattle.wh_system.specs.Systems.{SystemData}
use Rattle.wh_system.specs.SystemView.{system_data}
use Rattle.wh_pairs.specs.Marked.{AreMarked}
use Rattle.wh_reduction_pairs.specs.TaskData.{TaskData}
use Rattle.wh_reduction_pairs.specs.TaskView.{task_data}
use Rattle.wh_sat.specs.State.{Sound, clauses_of, variables_of}
use Rattle.wh_sat.specs.declared.learner.Learner.{Learner}
use Rattle.wh_poly_space.specs.Space.{space_of}
use Rattle.wh_poly_guesses.specs.Coefficients.{scopes_of, HaveCoefficients}
use Rattle.wh_poly_guesses.specs.Conditions.{Condition, IsCondition, UsesNumber}
use Rattle.wh_poly_guesses.specs.Tasks.{IsGuessOf, IsTaskOf, guess_data}
use Rattle.wh_poly_blocking.specs.Bits.{bit_count, first_bit, lists_by}
use Rattle.wh_poly_blocking.specs.Sizes.{value_of}
use Rattle.wh_poly_blocking.specs.Tried.{IsBlocked}
use Rattle.wh_poly_blocking.specs.declared.encoding.Encoding.{Encoding}
use Rattle.wh_poly_blocking.specs.declared.guessing.WrittenGuess.{WrittenGuess}

-- the task that is encoded, and its system
abbrev pub task_in : Encoding → TaskData
task_in e = task_data e.task

abbrev pub system_in : Encoding → SystemData
system_in e = system_data e.task.system.now

-- the scopes of all polynomials of a guess
abbrev pub scopes_for : Encoding → List (List Ty)
scopes_for e = scopes_of (task_in e) e.marked.now

-- the tables of the bits and of the symbols in conditions are right
pub record IsEncoding (e : Encoding) : Type 0 where
  pub task : IsTaskOf e.task
  pub marked : AreMarked (task_in e).pairs (task_in e).set e.marked.now
  pub sizes : e.sizes.items ≡ map (λ Γ. length (space_of Γ)) (scopes_for e)
  pub few : bit_count (scopes_for e) < 4294967296
  -- for each scope its first bit, and at the end how many bits there are
  pub count : length e.first_bits.items ≡ length (scopes_for e) + 1
  pub firsts : (n : ℕ) → n ≤ length (scopes_for e) → get_or e.first_bits.items n 0 ≡ first_bit (scopes_for e) n
  -- for each condition the numbers of the symbols in it
  pub conditions : length e.numbers.items ≡ length (task_in e).covered + length (task_in e).set + 1
  pub numbers : (k : ℕ) (c : Condition) (ns : Vec ℕ) → IsCondition (task_in e) k c → slice_get e.numbers.items k ≡ Some ns
      → (n : ℕ) → Contains ns.items n ↔ UsesNumber (task_in e) e.marked.now c n

-- the guess is the one that the bits write, and so are the lists
pub record IsWritten (e : Encoding) (w : WrittenGuess) : Type 0 where
  pub guess : IsGuessOf e.task w.guess
  pub marks : map (λ m. m.symbol) w.guess.marks.items ≡ e.marked.now
  pub lists : map (λ l. l.items) w.lists.items ≡ lists_by (value_of w.values.items) (scopes_for e)
  pub coefficients : HaveCoefficients (task_in e) (map (λ l. l.items) w.lists.items) (guess_data w.guess)

-- the learner has the bits for variables, and each clause that was given to it is blocked
pub record IsBlocking (e : Encoding) (learner : Learner) : Type 0 where
  pub sound : Sound learner
  pub variables : variables_of learner ≡ bit_count (scopes_for e)
  pub blocked : (k : ℕ) → k < length (clauses_of learner) → get_or learner.learnt.items k false ≡ false
      → IsBlocked (task_in e) e.marked.now (take k (clauses_of learner)) (get_or (clauses_of learner) k [])
