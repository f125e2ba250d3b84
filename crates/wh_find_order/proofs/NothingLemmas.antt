-- Where no bits make all blocked clauses true, no order that is tried lets a pair go: the bits of one that does make each of them true.
use Rattle.std.proofs.Common.{◌≡◌, inl, inr, ℕ, ◌<◌, Bool, true, false, not, List, [], map, length, get_or, take, Contains, refl, ap, sym, subst, ◌∙◌, arith}
use Rattle.std.proofs.lemmas.List.{length-map}
use Rattle.wh_terms.specs.Rules.{RewriteRule, IsWellMade}
use Rattle.wh_pairs.specs.PairData.{PairData}
use Rattle.wh_pairs.specs.Marked.{AreMarked}
use Rattle.wh_pairs.proofs.ByPlace.{contains_at}
use Rattle.wh_reduction_pairs.specs.TaskData.{TaskData}
use Rattle.wh_order_node.specs.Filterings.{FilteringData, MarkFilter}
use Rattle.wh_order.specs.TreeSides.{HasTypedCalls}
use Rattle.wh_proof.proofs.InterpretationLemmas.{marked_one}
use Rattle.wh_poly_covering.proofs.Walks.{some_at}
use Rattle.wh_sat_trail.specs.declared.literal.Literal.{Literal}
use Rattle.wh_sat.specs.Learning.{Has}
use Rattle.wh_sat.specs.Solving.{SolvesGiven, clause_true, literal_true}
use Rattle.wh_sat.proofs.Assuring.{cases_bool, all_false}
use Rattle.wh_poly_guesses.specs.Conditions as g
use Rattle.wh_poly_guesses.specs.Conditions.{covers_rule, covers_pair, some_strictly, IsCondition, of_rule, of_pair, of_set}
use Rattle.wh_order_space.specs.Space.{IsOfSpace, Meets, LetsGo, HasNoOrder}
use Rattle.wh_order_space.specs.Bits.{IsWritten}
use Rattle.wh_find_order.specs.Tried.{Condition, proper, line, IsOfSet, IsBitOf, FailsUnder, IsBlocked}
use Rattle.wh_find_order.proofs.SpaceLemmas.{all_filters, filters_long, count_is, order_written, order_filters, filter_moved, one_filter}
use Rattle.wh_find_order.proofs.Locality.{meets_moved}
use Rattle.wh_poly_blocking.proofs.NothingLemmas.{opposed, told}

-- a literal that is false tells the value of its variable

module _ (T : TaskData) (marked : List ℕ) where
  -- bits that make a blocked clause false agree with its guess on all that is used in its condition
  bits_alike : (earlier : List (List Literal)) (clause : List Literal) (blocked : IsBlocked T marked earlier clause) (v : ℕ → Bool)
      → clause_true v clause ≡ false → (x : ℕ) → IsBitOf T marked blocked.condition x → v x ≡ blocked.guess x
  bits_alike earlier clause blocked v wrong x of =
      let l : Literal = record { variable = x; positive = not (blocked.guess x) } in
      let false_there : literal_true blocked.guess l ≡ false = opposed (blocked.guess x) in
      let has : Has clause l = (blocked.literals l).1 (of, false_there) in
      let false_here : literal_true v l ≡ false =
      subst (λ l. literal_true v l ≡ false) (has.is l) (all_false v clause has.place l wrong has.within) in
      told l.positive (v x) (blocked.guess x) false_here false_there

  -- an order that lets a pair go meets all conditions
  lets_meet : (D : FilteringData) (n : ℕ) → IsOfSpace T D → LetsGo T D n → (k : ℕ) (c : g.Condition) → IsCondition T k c → Meets T D c
  lets_meet D n of lets k (covers_rule r) (of_rule j m r' at there) =
      let found = contains_at T.covered k m at in (of.narrow.of_rules m r found there, lets.rules m r found there)
  lets_meet D n of lets k (covers_pair p) (of_pair i m p' at there) =
      let found = contains_at T.set i m at in (of.narrow.of_pairs m p found there, lets.pairs m p found there)
  lets_meet D n of lets k some_strictly is =
      (n, lets.pair, lets.in_set, lets.is, (of.narrow.of_pairs n lets.pair lets.in_set lets.is, lets.strictly))

  module _ (made : (r : RewriteRule) → Contains T.rules r → IsWellMade T.symbols r)
      (typed : (p : PairData) → Contains T.pairs p → HasTypedCalls T.symbols T.rules p)
      (v : ℕ → Bool) (D : FilteringData) (n : ℕ) (of : IsOfSpace T D) (lets : LetsGo T D n) (here : IsWritten T marked v D) where
    -- a condition that fails under bits does not fail where these agree with the order's on what is used in it
    never_fails : (guess : ℕ → Bool) (c : Condition) → IsOfSet T marked c → FailsUnder T marked guess c
        → ((x : ℕ) → IsBitOf T marked c x → v x ≡ guess x) → ⊥
    never_fails guess (proper m) within fails alike =
        let marks_long : length D.marks ≡ length marked = sym (length-map D.marks (λ (m : MarkFilter). m.symbol)) ∙ ap length here.marks in
        let low : m < length (all_filters D) = omega (arith, within, filters_long D, here.count, marks_long, count_is T marked) in
        let (w, at) = some_at (all_filters D) m low in
        fails w (filter_moved T marked v guess m (λ x low high. alike x (m, refl, low, high)) w (here.each m w at))
    never_fails guess (line c) (k, is) (E, there, fails) alike =
        fails (meets_moved T marked made typed D E (order_filters T marked D of here.marks) there.count here.marks there.marks k c is
        (λ m w u uses at also.
        one_filter T marked guess m w u
        (filter_moved T marked v guess m (λ x low high. alike x (m, uses, low, high)) w (here.each m w at)) (there.each m u also))
        (lets_meet D n of lets k c is))

    blocked_true : (earlier : List (List Literal)) (clause : List Literal) → IsBlocked T marked earlier clause → clause_true v clause ≡ true
    blocked_true earlier clause blocked = elim (cases_bool (clause_true v clause)) [
      | inl right ↦ right
      | inr wrong ↦ absurd (never_fails blocked.guess blocked.condition blocked.of_set blocked.fails (bits_alike earlier clause blocked v wrong))
    ]

-- clauses of which those that were given are blocked, and which no bits solve
pub nothing : (T : TaskData) (marked : List ℕ) (clauses : List (List Literal)) (learnt : List Bool)
    → ((r : RewriteRule) → Contains T.rules r → IsWellMade T.symbols r)
    → ((p : PairData) → Contains T.pairs p → HasTypedCalls T.symbols T.rules p) → AreMarked T.pairs T.set marked
    → ((k : ℕ) → k < length clauses → get_or learnt k false ≡ false → IsBlocked T marked (take k clauses) (get_or clauses k []))
    → ((v : ℕ → Bool) → SolvesGiven v clauses learnt → ⊥)
    → HasNoOrder T
nothing T marked clauses learnt made typed are blocked unsolved D of n lets =
    let same : map (λ m. m.symbol) D.marks ≡ marked = marked_one T.pairs T.set (map (λ m. m.symbol) D.marks) marked of.filters.marked are in
    let (v, here) = order_written T marked D of same in
    unsolved v (λ k below given.
    blocked_true T marked made typed v D n of lets here (take k clauses) (get_or clauses k []) (blocked k below given))
