use Rattle.std.proofs.Common.{rules, ◌≡◌, ℕ, ◌<◌, List, All, sum_by, length, map, get_or, arith, ap, sym, subst, ◌∙◌}
use Rattle.std.proofs.lemmas.List.{length-map}
use Rattle.std.proofs.lemmas.List.Elements.{All-contains}
use Rattle.wh_sat_trail.specs.declared.literal.Literal.{Literal}
use Rattle.wh_sat.specs.Solving.{clause_true}
use Rattle.wh_terms.specs.Rules.{RewriteRule}
use Rattle.wh_terms.specs.Erase.{rewrite_rules, rewrite_rule}
use Rattle.wh_pairs.proofs.SetLemmas.{all_from_members}
use Rattle.wh_reduction_pairs.specs.TaskView.{task_data}
use Rattle.wh_pairs.specs.PairData.{pair_data}
use Rattle.wh_pairs.specs.declared.pair.Pair.{Pair}
use Rattle.wh_poly_blocking.specs.Sizes.{bits_in}
use Rattle.wh_circuit.specs.State.{gates_of}
use Rattle.wh_circuit.specs.Gates.{Means}
use Rattle.wh_sat_trail.specs.Assignment.{AllBelow}
use Rattle.wh_circuit.specs.declared.circuit.Circuit.{Circuit}
use Rattle.wh_poly_flat.specs.Flat.{IsListed, all_occurrences, rule_occurrences_at}
use Rattle.wh_find_flat.specs.Numbers.{AreInputs, Asks}
use Rattle.wh_find_flat.specs.Ready.{AreGreater, PairHolds, RuleHolds}
use Rattle.wh_find_flat.proofs.Growth.{builds_grown}
use Rattle.wh_find_flat.proofs.Whole.{fits_variables, greater_own, many_occurrences, whole}
use Rattle.wh_find_flat.proofs.formula.circuit_of.Goals as goal

within_set : (pairs : List Pair) (set : List ℕ) → All (λ n. n < length pairs) set → (k : ℕ) → k < length set → get_or set k 0 < length (map pair_data pairs)
within_set pairs set w k less = let a = w k 0 less in let b = length-map pairs pair_data in omega (arith, a, b)

pub or-requires-clause-own : goal.or-requires-clause-own
or-requires-clause-own c =
    let own = greater_own c.args.bits.now.sizes.items (length c.fun_names.result.now) c.args.marked.now (map pair_data c.args.task.now.pairs.now) c.args.task.now.set.now
    (gates_of c.require_pairs.new.circuit) c.in_ok-greater.greater.items (within_set c.args.task.now.pairs.now c.args.task.now.set.now c.requires.within)
    c.in_ok-greater.ensures.greater in
    subst (λ (ls : List Literal). AllBelow (length (gates_of c.require_pairs.new.circuit)) ls) (sym c.deref.ensures.value) own

-- the rules as the system has them
same_rules : (a b : Circuit) (sizes : List ℕ) (xs rules : List RewriteRule) (listed : List ℕ) → xs ≡ rules
    → Asks a b (λ v. (k : ℕ) → k < length listed → RuleHolds sizes xs listed v k)
    → Asks a b (λ v. (k : ℕ) → k < length listed → RuleHolds sizes rules listed v k)
same_rules a b sizes xs rules listed e h = subst (λ rs. Asks a b (λ v. (k : ℕ) → k < length listed → RuleHolds sizes rs listed v k)) e h

pub require_rules-requires-clause-within : goal.require_rules-requires-clause-within
require_rules-requires-clause-within c =
    let listed : List ℕ = c.args.task.now.covered.now in
    let count = ap (λ (l : List RewriteRule). length l) c.rules.ensures in
    all_from_members (λ n. n < length c.rules.result.now) listed (λ n found.
    let below = All-contains (λ n. n < length (task_data c.args.task.now).rules) listed n c.requires.listed found in
    omega (arith, below, count, length-map c.rules.result.now rewrite_rule))

pub require_rules-requires-clause-ready : goal.require_rules-requires-clause-ready
require_rules-requires-clause-ready c r is =
    c.requires.rules r (subst (λ (l : List RewriteRule). IsListed l c.args.task.now.covered.now r) c.rules.ensures is)

pub require_rules-requires-clause-room : goal.require_rules-requires-clause-room
require_rules-requires-clause-room c =
    let T = task_data c.args.task.now in
    let sum = ap (λ (l : List RewriteRule). sum_by (rule_occurrences_at l) T.covered) c.rules.ensures in
    omega (arith, sum, c.requires.few, c.requires.bits, c.in_ok-circuit.ensures.count, c.count.ensures)

pub require_pairs-requires-clause-room : goal.require_pairs-requires-clause-room
require_pairs-requires-clause-room c =
    let T = task_data c.args.task.now in
    let sum = ap (λ (l : List RewriteRule). sum_by (rule_occurrences_at l) T.covered) c.rules.ensures in
    omega (arith, sum, c.requires.few, c.requires.bits, c.in_ok-circuit.ensures.count, c.count.ensures, c.in_ok-require_rules.ensures.few)

pub returns : goal.returns
returns c =
    let T = task_data c.args.task.now in
    let pairs : List Pair = c.args.task.now.pairs.now in
    let ps = map pair_data pairs in
    let set : List ℕ = c.args.task.now.set.now in
    let marked : List ℕ = c.args.marked.now in
    let sizes = c.args.bits.now.sizes.items in
    let c0 = c.in_ok-circuit.circuit in
    let c1 = c.require_rules.new.circuit in
    let c2 = c.require_pairs.new.circuit in
    let c3 = c.or.new.self in
    let c4 = c.require.new.self in
    let n : length c.fun_names.result.now ≡ length T.symbols.funs = ap length c.fun_names.ensures ∙ c.is_well_made.ensures.symbols_named in
    let within = within_set pairs set c.requires.within in
    let a = same_rules c0 c1 sizes (rewrite_rules c.rules.result.now) T.rules T.covered c.rules.ensures c.in_ok-require_rules.ensures.asks in
    let b = subst (λ n. Asks c1 c2 (λ v. (k : ℕ) → k < length set → PairHolds sizes n marked ps set v k)) n c.in_ok-greater.ensures.asks in
    let g = subst (λ n. AreGreater sizes n marked ps set (gates_of c2) c.in_ok-greater.greater.items) n c.in_ok-greater.ensures.greater in
    let built = builds_grown 1 1 c2 c3 c.in_ok-some.ensures.grows (omega arith) in
    let means = subst (λ (ls : List Literal). Means (gates_of c3) c.in_ok-some.some (λ v. clause_true v ls)) c.deref.ensures.value c.in_ok-some.ensures.means in
    let inputs = subst (λ k. AreInputs k (gates_of c0)) c.count.ensures c.in_ok-circuit.ensures.inputs in
    let many = many_occurrences T c.requires.listed c.requires.rules within in
    let count = c.in_ok-circuit.ensures.count in
    let bits = c.count.ensures in
    let room = c.requires.bits in
    let f1 = c.in_ok-require_rules.ensures.few in
    let f2 = c.in_ok-greater.ensures.few in
    let f3 = built.few in
    let f4 = ap length c.require.ensures.gates in
    let rules_sum = ap (λ (l : List RewriteRule). sum_by (rule_occurrences_at l) T.covered) c.rules.ensures in
    let two = c.requires.some in
    record {
      circuit = whole sizes T marked within (bits_in sizes) c0 c1 c2 c3 c4 c.in_ok-greater.greater.items c.in_ok-some.some inputs
          c.in_ok-circuit.ensures.required a b g built means c.in_ok-require.ensures.gates c.in_ok-require.ensures.required;
      few = fits_variables T.covered (length (gates_of c4)) (all_occurrences T)
          (λ one. omega (arith, many, count, bits, room, f1, f2, f3, f4, rules_sum, one, two)) (omega (arith, many, count, bits, room, f1, f2, f3, f4, rules_sum, two));
    }
