-- What the search by guesses keeps, and what it ends with.
use Rattle.std.proofs.Common.{◌≡◌, ◌↔◌, ℕ, suc, ◌+◌, ◌<◌, inl, inr, Bool, false, List, [], ◌∷◌, ◌++◌, length, get_or, take, Some, slice_get, All, ap, sym, subst, ◌∙◌, arith}
use Rattle.std.specs.Global.{Vec}
use Rattle.std.specs.List.{flat_map}
use Rattle.std.proofs.lemmas.Bool.{cases_Bool}
use Rattle.wh_reduction_pairs.specs.TaskData.{TaskData}
use Rattle.wh_poly_covering.proofs.Walks.{marks_are}
use Rattle.wh_sat_trail.specs.declared.literal.Literal.{Literal}
use Rattle.wh_sat_trail.specs.Assignment.{AllBelow}
use Rattle.wh_sat.specs.Learning.{IsLearnt}
use Rattle.wh_sat.specs.Solving.{Solves, SolvesGiven}
use Rattle.wh_sat.specs.State.{Extends, Sound, clauses_of, variables_of}
use Rattle.wh_sat.specs.declared.learner.Learner.{Learner}
use Rattle.wh_sat.proofs.Clashing.{at_place}
use Rattle.wh_poly_guesses.specs.Coefficients.{HaveCoefficients}
use Rattle.wh_poly_guesses.specs.Conditions.{Condition, IsCondition, Fails, HasNoInterpretation}
use Rattle.wh_poly_guesses.specs.Found.{task_of}
use Rattle.wh_poly_guesses.specs.Tasks.{guess_data}
use Rattle.wh_poly_guesses.proofs.GuessLemmas.{guess_of_space}
use Rattle.wh_poly_guesses.proofs.NodeLemmas.{whole_is}
use Rattle.wh_pairs.proofs.SetLemmas.{all_from_members}
use Rattle.wh_poly_blocking.specs.Answers.{IsSpent}
use Rattle.wh_poly_blocking.specs.Bits.{bit_count}
use Rattle.wh_poly_blocking.specs.Encodings.{system_in, task_in, scopes_for, IsEncoding, IsWritten, IsBlocking}
use Rattle.wh_poly_blocking.specs.Literals.{literals_on}
use Rattle.wh_poly_blocking.specs.Sizes.{value_of}
use Rattle.wh_poly_blocking.specs.Tried.{IsBitOf, IsBlocked, Tried}
use Rattle.wh_poly_blocking.specs.declared.encoding.Encoding.{Encoding}
use Rattle.wh_poly_blocking.specs.declared.guessing.WrittenGuess.{WrittenGuess}
use Rattle.wh_poly_blocking.proofs.BlockingLemmas.{given_extends, given_push}
use Rattle.wh_poly_blocking.proofs.EncodingLemmas.{bit_within, uses_within, via}
use Rattle.wh_poly_blocking.proofs.LiteralLemmas.{IsAmong, literals_are}
use Rattle.wh_poly_blocking.proofs.NothingLemmas.{nothing}

-- the bit is one of what has the condition's numbers
among : (e : Encoding) → IsEncoding e → (k : ℕ) (c : Condition) (ns : Vec ℕ) → IsCondition (task_in e) k c
    → slice_get e.numbers.items k ≡ Some ns → (x : ℕ)
    → IsAmong e.first_bits.items ns.items x ↔ IsBitOf (task_in e) e.marked.now c x
among e enc k c ns is at x = (
  λ h.
      let used = (enc.numbers k c ns is at h.0).0 h.1 in
      let within = uses_within (task_in e) e.marked.now c h.0 used in
      let low = enc.firsts h.0 (omega (arith, within)) in
      let high = enc.firsts (suc h.0) (omega (arith, within)) in
      (h.0, used, omega (arith, low, h.2), omega (arith, high, h.3)),
  λ h.
      let within = uses_within (task_in e) e.marked.now c h.0 h.1 in
      let low = enc.firsts h.0 (omega (arith, within)) in
      let high = enc.firsts (suc h.0) (omega (arith, within)) in
      (h.0, (enc.numbers k c ns is at h.0).1 h.1, omega (arith, low, h.2), omega (arith, high, h.3)),
)

-- the numbers have first bits
pub numbers_within : (e : Encoding) → IsEncoding e → (k : ℕ) (c : Condition) (ns : Vec ℕ) → IsCondition (task_in e) k c
    → slice_get e.numbers.items k ≡ Some ns → All (λ n. n + 1 < length e.first_bits.items) ns.items
numbers_within e enc k c ns is at = all_from_members (λ n. n + 1 < length e.first_bits.items) ns.items (λ n found.
    let within = uses_within (task_in e) e.marked.now c n ((enc.numbers k c ns is at n).0 found) in
    omega (arith, within, enc.count))

-- the clause of a condition that fails is blocked
pub clause_blocked : (e : Encoding) (w : WrittenGuess) (clauses : List (List Literal)) (ns : Vec ℕ) (k : ℕ) → IsEncoding e → IsWritten e w
    → Solves (value_of w.values.items) clauses → Fails (task_in e) (guess_data w.guess) k → slice_get e.numbers.items k ≡ Some ns
    → IsBlocked (task_in e) e.marked.now clauses
    (flat_map (literals_on (value_of w.values.items) e.first_bits.items) ns.items)
clause_blocked e w clauses ns k enc written solves (c, is, fails) at =
    let v = value_of w.values.items in
    let are = guess_of_space e.task w.guess written.guess in
    record {
      guess = v;
      allowed = solves;
      readings = guess_data w.guess;
      written = record {
        kinds = are.readings.kinds;
        marked_are = marks_are w.guess.marks.items ∙ written.marks;
        coefficients = subst (λ l. HaveCoefficients (task_in e) l (guess_data w.guess)) written.lists written.coefficients;
      };
      number = k;
      condition = c;
      is = is;
      fails = fails;
      literals = λ l. via (literals_are v e.first_bits.items ns.items l)
          (λ h. ((among e enc k c ns is at l.variable).0 h.0, h.1), λ h. ((among e enc k c ns is at l.variable).1 h.0, h.1));
    }

-- and its variables are bits
pub clause_below : (e : Encoding) (v : ℕ → Bool) (ns : Vec ℕ) (k : ℕ) (c : Condition) → IsEncoding e → IsCondition (task_in e) k c
    → slice_get e.numbers.items k ≡ Some ns → AllBelow (bit_count (scopes_for e)) (flat_map (literals_on v e.first_bits.items) ns.items)
clause_below e v ns k c enc is at i d within =
    let clause = flat_map (literals_on v e.first_bits.items) ns.items in
    let l = get_or clause i d in
    let among_numbers = ((literals_are v e.first_bits.items ns.items l).0 (at_place clause i d within)).0 in
    let bit = (among e enc k c ns is at l.variable).0 among_numbers in
    omega (arith, bit.3, bit_within (scopes_for e) (suc bit.0))

-- a blocked clause is given
pub blocking_given : (e : Encoding) (before after : Learner) (clause : List Literal) → IsBlocking e before → Sound after → variables_of after ≡ variables_of before
    → clauses_of after ≡ clauses_of before ++ clause ∷ [] → after.learnt.items ≡ before.learnt.items ++ false ∷ []
    → IsBlocked (task_in e) e.marked.now (clauses_of before) clause → IsBlocking e after
blocking_given e before after clause blocking sound variables clauses learnt blocked = record {
  sound = sound;
  variables = variables ∙ blocking.variables;
  blocked = given_push (IsBlocked (task_in e) e.marked.now)
      (clauses_of before) (clauses_of after) before.learnt.items after.learnt.items clause clauses learnt blocking.sound.known.marked blocking.blocked blocked;
}

-- clauses are learnt
pub blocking_extends : (e : Encoding) (before after : Learner) → IsBlocking e before → Sound after → Extends before after → IsBlocking e after
blocking_extends e before after blocking sound extends = record {
  sound = sound;
  variables = extends.variables ∙ blocking.variables;
  blocked = given_extends (IsBlocked (task_in e) e.marked.now)
      (clauses_of before) (clauses_of after) before.learnt.items after.learnt.items extends.clauses extends.earlier blocking.sound.known.marked sound.known.marked
      extends.later blocking.blocked;
}

-- no clause is there
pub blocking_begun : (e : Encoding) (learner : Learner) → Sound learner → variables_of learner ≡ bit_count (scopes_for e) → clauses_of learner ≡ [] → IsBlocking e learner
blocking_begun e learner sound variables none = record {
  sound = sound;
  variables = variables;
  blocked = λ k within given. absurd (omega (arith, within, ap length none));
}

-- where the task is that of its system with all rules to be covered, so is what is said of it
as_whole : (e : Encoding) → IsEncoding e → task_in e ≡ task_of (system_in e) (task_in e).pairs (task_in e).set
as_whole e enc = whole_is e.task enc.task.whole

-- as many clauses as the budget
pub spent_is : (e : Encoding) (learner : Learner) (list : List (List Literal)) (budget : ℕ) → IsEncoding e → IsBlocking e learner
    → length (clauses_of learner) ≡ budget → list ≡ clauses_of learner → IsSpent (system_in e) (task_in e).pairs (task_in e).set budget list
spent_is e learner list budget enc blocking count is =
    let tried : Tried (task_in e) e.marked.now (clauses_of learner) = λ k within. elim (cases_Bool (get_or learner.learnt.items k false)) [
      | inl learnt ↦ inr (subst (λ n. IsLearnt n (take k (clauses_of learner)) (get_or (clauses_of learner) k [])) blocking.variables (blocking.sound.known.each k within learnt))
      | inr given ↦ inl (blocking.blocked k within given)
    ] in
    subst (IsSpent (system_in e) (task_in e).pairs (task_in e).set budget) (sym is) record {
      count = count;
      marked = e.marked.now;
      are_marked = enc.marked;
      tried = subst (λ (T : TaskData). Tried T e.marked.now (clauses_of learner)) (as_whole e enc) tried;
    }

-- no bits are left
pub nothing_is : (e : Encoding) (learner : Learner) → IsEncoding e → IsBlocking e learner
    → ((v : ℕ → Bool) → SolvesGiven v (clauses_of learner) learner.learnt.items → ⊥)
    → HasNoInterpretation (task_of (system_in e) (task_in e).pairs (task_in e).set)
nothing_is e learner enc blocking unsolved =
    subst HasNoInterpretation (as_whole e enc)
    (nothing (task_in e) e.marked.now (clauses_of learner) learner.learnt.items enc.task.typed enc.marked blocking.blocked unsolved)
