-- What the search by guesses keeps, and what it ends with.
use Rattle.std.proofs.Common.{◌≡◌, ◌↔◌, ℕ, suc, ◌+◌, ◌<◌, inl, inr, Bool, false, List, [], ◌∷◌, ◌++◌, length, get_or, take, Some, slice_get, All, Contains, refl, ap, sym, subst, ◌∙◌, arith}
use Rattle.std.specs.Global.{Vec}
use Rattle.std.specs.List.{flat_map}
use Rattle.std.proofs.lemmas.Bool.{cases_Bool}
use Rattle.wh_terms.specs.Rules.{RewriteRule}
use Rattle.wh_pairs.specs.PairData.{PairData}
use Rattle.wh_pairs.proofs.MemberLemmas.{at_head, behind}
use Rattle.wh_pairs.proofs.SetLemmas.{all_from_members}
use Rattle.wh_reduction_pairs.specs.TaskData.{TaskData}
use Rattle.wh_poly.specs.Polynomials.{zero_poly}
use Rattle.wh_polycheck.specs.Marks.{Mark}
use Rattle.wh_polycheck.specs.Covering.{HaveTypedSides}
use Rattle.wh_terms.specs.Typing.{Symbols}
use Rattle.wh_order.specs.TreeSides.{HasTypedCalls}
use Rattle.wh_sat_trail.specs.declared.literal.Literal.{Literal}
use Rattle.wh_sat_trail.specs.Assignment.{AllBelow}
use Rattle.wh_sat.specs.Learning.{IsLearnt}
use Rattle.wh_sat.specs.Solving.{Solves, SolvesGiven}
use Rattle.wh_sat.specs.State.{Extends, Sound, clauses_of, variables_of}
use Rattle.wh_sat.specs.declared.learner.Learner.{Learner}
use Rattle.wh_sat.proofs.Clashing.{at_place}
use Rattle.wh_poly_guesses.specs.Conditions as g
use Rattle.wh_poly_guesses.specs.Conditions.{IsCondition}
use Rattle.wh_poly_guesses.specs.Found.{task_of}
use Rattle.wh_poly_guesses.proofs.NodeLemmas.{whole_is}
use Rattle.wh_poly_blocking.specs.Literals.{literals_on}
use Rattle.wh_poly_blocking.proofs.BlockingLemmas.{given_extends, given_push}
use Rattle.wh_poly_blocking.proofs.EncodingLemmas.{uses_within, via}
use Rattle.wh_poly_blocking.proofs.LiteralLemmas.{IsAmong, literals_are}
use Rattle.wh_order_space.specs.Space.{HasNoOrder}
use Rattle.wh_order_space.specs.Bits.{bit_count}
use Rattle.wh_find_order.specs.Answers.{IsSpent}
use Rattle.wh_find_order.specs.Tried.{Condition, proper, line, Uses, IsOfSet, IsBitOf, FailsUnder, IsBlocked, Tried}
use Rattle.wh_find_order.specs.Encodings.{system_in, task_in, scopes_for, bits_for, IsEncoding, IsBlocking, ShutsOut}
use Rattle.wh_find_order.specs.declared.encoding.Encoding.{Encoding}
use Rattle.wh_find_order.proofs.BitLemmas.{first_within}
use Rattle.wh_find_order.proofs.NothingLemmas.{nothing}

-- the arguments of both sides of each pair are typed
pub typed_calls : (S : Symbols) (rules : List RewriteRule) (pairs : List PairData) → HaveTypedSides S rules pairs → (p : PairData)
    → Contains pairs p → HasTypedCalls S rules p
typed_calls S rules pairs typed p found =
    let left : Mark = record { symbol = p.left_fun; polynomial = zero_poly } in
    let right : Mark = record { symbol = p.right_fun; polynomial = zero_poly } in
    let sides = typed (left ∷ right ∷ []) p found (left, at_head (right ∷ []) left, refl)
    (right, behind (right ∷ []) left right (at_head [] right), refl) in
    record { left = sides.left_typed; right = sides.right_typed }

-- the numbers of what is used in a condition
abbrev pub AreUsed : Encoding → Condition → List ℕ → Type 0
AreUsed e c ns = (n : ℕ) → Contains ns n ↔ Uses (task_in e) e.marked.now c n

used_within : (e : Encoding) (c : Condition) (n : ℕ) → IsOfSet (task_in e) e.marked.now c → Uses (task_in e) e.marked.now c n → n < length (scopes_for e)
used_within e (proper m) n within used = omega (arith, within, used)
used_within e (line c) n is used = uses_within (task_in e) e.marked.now c n used

pub symbol_used : (e : Encoding) (n : ℕ) → AreUsed e (proper n) (n ∷ [])
symbol_used e n m = (
  λ (k, within, is).
      let first : k ≡ 0 = omega (arith, within) in
      sym is ∙ ap (λ i. get_or (n ∷ []) i m) first,
  λ same. (0, omega arith, sym same),
)

pub line_used : (e : Encoding) (k : ℕ) (c : g.Condition) (ns : Vec ℕ) → IsEncoding e → IsCondition (task_in e) k c
    → slice_get e.numbers.items k ≡ Some ns → AreUsed e (line c) ns.items
line_used e k c ns enc is at n = enc.numbers k c ns is at n

module _ (e : Encoding) (enc : IsEncoding e) (c : Condition) (ns : List ℕ) (of : IsOfSet (task_in e) e.marked.now c) (used : AreUsed e c ns) where
  -- the bit is one of what has the condition's numbers
  among : (x : ℕ) → IsAmong e.first_bits.items ns x ↔ IsBitOf (task_in e) e.marked.now c x
  among x = (
    λ h.
        let here = (used h.0).0 h.1 in
        let within = used_within e c h.0 of here in
        let low = enc.firsts h.0 (omega (arith, within)) in
        let high = enc.firsts (suc h.0) (omega (arith, within)) in
        (h.0, here, omega (arith, low, h.2), omega (arith, high, h.3)),
    λ h.
        let within = used_within e c h.0 of h.1 in
        let low = enc.firsts h.0 (omega (arith, within)) in
        let high = enc.firsts (suc h.0) (omega (arith, within)) in
        (h.0, (used h.0).1 h.1, omega (arith, low, h.2), omega (arith, high, h.3)),
  )

  -- the numbers have first bits
  pub numbers_within : All (λ n. n + 1 < length e.first_bits.items) ns
  numbers_within = all_from_members (λ n. n + 1 < length e.first_bits.items) ns (λ n found.
      let within = used_within e c n of ((used n).0 found) in
      omega (arith, within, enc.count))

  -- the clause of a condition that fails is blocked
  pub clause_blocked : (v : ℕ → Bool) (clauses : List (List Literal)) → Solves v clauses → FailsUnder (task_in e) e.marked.now v c
      → IsBlocked (task_in e) e.marked.now clauses (flat_map (literals_on v e.first_bits.items) ns)
  clause_blocked v clauses solves fails = record {
    guess = v;
    allowed = solves;
    condition = c;
    of_set = of;
    fails = fails;
    literals = λ l. via (literals_are v e.first_bits.items ns l)
        (λ h. ((among l.variable).0 h.0, h.1), λ h. ((among l.variable).1 h.0, h.1));
  }

  -- and its variables are bits
  pub clause_below : (v : ℕ → Bool) → AllBelow (bit_count (bits_for e) (scopes_for e)) (flat_map (literals_on v e.first_bits.items) ns)
  clause_below v i d within =
      let clause = flat_map (literals_on v e.first_bits.items) ns in
      let l = get_or clause i d in
      let among_numbers = ((literals_are v e.first_bits.items ns l).0 (at_place clause i d within)).0 in
      let bit = (among l.variable).0 among_numbers in
      omega (arith, bit.3, first_within (bits_for e) (scopes_for e) (suc bit.0))

-- a clause with just these literals shuts out the guess
pub shuts_out : (e : Encoding) (v : ℕ → Bool) (c : Condition) (ns : List ℕ) (clause : List Literal) → IsEncoding e → IsOfSet (task_in e) e.marked.now c
    → AreUsed e c ns → FailsUnder (task_in e) e.marked.now v c → clause ≡ flat_map (literals_on v e.first_bits.items) ns → ShutsOut e v clause
shuts_out e v c ns clause enc of used fails is = record {
  below = subst (AllBelow (bit_count (bits_for e) (scopes_for e))) (sym is) (clause_below e enc c ns of used v);
  blocked = λ earlier solves. subst (IsBlocked (task_in e) e.marked.now earlier) (sym is) (clause_blocked e enc c ns of used v earlier solves fails);
}

-- a blocked clause is given
pub blocking_given : (e : Encoding) (before after : Learner) (clause : List Literal) → IsBlocking e before → Sound after → variables_of after ≡ variables_of before
    → clauses_of after ≡ clauses_of before ++ clause ∷ [] → after.learnt.items ≡ before.learnt.items ++ false ∷ []
    → IsBlocked (task_in e) e.marked.now (clauses_of before) clause → IsBlocking e after
blocking_given e before after clause blocking sound variables clauses learnt blocked = record {
  sound = sound;
  variables = variables ∙ blocking.variables;
  blocked = given_push (IsBlocked (task_in e) e.marked.now)
      (clauses_of before) (clauses_of after) before.learnt.items after.learnt.items clause clauses learnt blocking.sound.known.marked blocking.blocked blocked;
}

-- clauses are learnt
pub blocking_extends : (e : Encoding) (before after : Learner) → IsBlocking e before → Sound after → Extends before after → IsBlocking e after
blocking_extends e before after blocking sound extends = record {
  sound = sound;
  variables = extends.variables ∙ blocking.variables;
  blocked = given_extends (IsBlocked (task_in e) e.marked.now)
      (clauses_of before) (clauses_of after) before.learnt.items after.learnt.items extends.clauses extends.earlier blocking.sound.known.marked sound.known.marked
      extends.later blocking.blocked;
}

-- no clause is there
pub blocking_begun : (e : Encoding) (learner : Learner) → Sound learner → variables_of learner ≡ bit_count (bits_for e) (scopes_for e) → clauses_of learner ≡ []
    → IsBlocking e learner
blocking_begun e learner sound variables none = record {
  sound = sound;
  variables = variables;
  blocked = λ k within given. absurd (omega (arith, within, ap length none));
}

-- where the task is that of its system with all rules to be covered, so is what is said of it
as_whole : (e : Encoding) → IsEncoding e → task_in e ≡ task_of (system_in e) (task_in e).pairs (task_in e).set
as_whole e enc = whole_is e.task enc.task.whole

-- as many clauses as the budget
pub spent_is : (e : Encoding) (learner : Learner) (list : List (List Literal)) (budget : ℕ) → IsEncoding e → IsBlocking e learner
    → length (clauses_of learner) ≡ budget → list ≡ clauses_of learner → IsSpent (system_in e) (task_in e).pairs (task_in e).set budget list
spent_is e learner list budget enc blocking count is =
    let tried : Tried (task_in e) e.marked.now (clauses_of learner) = λ k within. elim (cases_Bool (get_or learner.learnt.items k false)) [
      | inl learnt ↦ inr (subst (λ n. IsLearnt n (take k (clauses_of learner)) (get_or (clauses_of learner) k [])) blocking.variables (blocking.sound.known.each k within learnt))
      | inr given ↦ inl (blocking.blocked k within given)
    ] in
    subst (IsSpent (system_in e) (task_in e).pairs (task_in e).set budget) (sym is) record {
      count = count;
      marked = e.marked.now;
      are_marked = enc.marked;
      tried = subst (λ (T : TaskData). Tried T e.marked.now (clauses_of learner)) (as_whole e enc) tried;
    }

-- no bits are left
pub nothing_is : (e : Encoding) (learner : Learner) → IsEncoding e → IsBlocking e learner
    → ((v : ℕ → Bool) → SolvesGiven v (clauses_of learner) learner.learnt.items → ⊥)
    → HasNoOrder (task_of (system_in e) (task_in e).pairs (task_in e).set)
nothing_is e learner enc blocking unsolved =
    let T = task_in e in
    subst HasNoOrder (as_whole e enc)
    (nothing T e.marked.now (clauses_of learner) learner.learnt.items (λ r found. enc.made.rules.each r found)
    (typed_calls T.symbols T.rules T.pairs enc.task.typed.typed) enc.marked blocking.blocked unsolved)

-- another search shows that there is none
pub nothing_told : (e : Encoding) → IsEncoding e → HasNoOrder (task_in e) → HasNoOrder (task_of (system_in e) (task_in e).pairs (task_in e).set)
nothing_told e enc none = subst HasNoOrder (as_whole e enc) none
