use Rattle.std.proofs.Common.{◌≡◌, ◌+◌, ◌<◌, ℕ, List, Some, length, All, slice_get, refl, sym, subst, ◌∙◌, arith}
use Rattle.std.proofs.lemmas.Option.{slice_get_read}
use Rattle.wh_sat_trail.specs.Assignment.{AllBelow}
use Rattle.wh_sat.specs.State.{clauses_of}
use Rattle.wh_poly_blocking.specs.Bits.{bit_count}
use Rattle.wh_poly_blocking.specs.Encodings.{task_in, scopes_for}
use Rattle.wh_poly_blocking.specs.Sizes.{value_of}
use Rattle.wh_poly_blocking.specs.Tried.{IsBlocked}
use Rattle.wh_poly_blocking.proofs.EncodingLemmas.{condition_within}
use Rattle.wh_poly_blocking.proofs.LiteralLemmas.{clause_same}
use Rattle.wh_poly_blocking.proofs.SearchLemmas.{blocking_given, clause_below, clause_blocked, numbers_within}
use Rattle.wh_poly_blocking.proofs.blocking.block.Goals as goal

pub index-numbers-requires : goal.index-numbers-requires
index-numbers-requires c =
    let e = c.args.encoding.now in
    omega (arith, condition_within (task_in e) c.args.number c.requires.fails.0 c.requires.fails.1, c.requires.encoding.conditions, e.numbers.ok.0)

pub clause_of-requires : goal.clause_of-requires
clause_of-requires c =
    let e = c.args.encoding.now in
    let ns = c.index-numbers.result.now in
    let k = c.args.number in
    let within : k < length e.numbers.items =
    omega (arith, condition_within (task_in e) k c.requires.fails.0 c.requires.fails.1, c.requires.encoding.conditions) in
    let at : slice_get e.numbers.items k ≡ Some ns = slice_get_read e.numbers.items (length e.numbers.items) k ns refl within c.index-numbers.ensures in
    subst (λ (l : List ℕ). All (λ n. n + 1 < length l) c.deref-3.result.now) (sym c.deref-2.ensures.value)
    (subst (All (λ n. n + 1 < length e.first_bits.items)) (sym c.deref-3.ensures.value) (numbers_within e c.requires.encoding k c.requires.fails.0 ns c.requires.fails.1 at))

pub give-requires-clause-below : goal.give-requires-clause-below
give-requires-clause-below c =
    let e = c.args.encoding.now in
    let ns = c.index-numbers.result.now in
    let k = c.args.number in
    let within : k < length e.numbers.items =
    omega (arith, condition_within (task_in e) k c.requires.fails.0 c.requires.fails.1, c.requires.encoding.conditions) in
    let at : slice_get e.numbers.items k ≡ Some ns = slice_get_read e.numbers.items (length e.numbers.items) k ns refl within c.index-numbers.ensures in
    let values = c.args.written.now.values.items in
    let same = c.in_ok-clause.ensures
    ∙ clause_same c.deref.result.now values c.deref-2.result.now e.first_bits.items c.deref-3.result.now ns.items c.deref.ensures.value c.deref-2.ensures.value c.deref-3.ensures.value in
    subst (λ (n : ℕ). AllBelow n c.in_ok-clause.clause) (sym c.requires.blocking.variables)
    (subst (AllBelow (bit_count (scopes_for e))) (sym same) (clause_below e (value_of values) ns k c.requires.fails.0 c.requires.encoding c.requires.fails.1 at))

pub returns-clause-blocking : goal.returns-clause-blocking
returns-clause-blocking c =
    let e = c.args.encoding.now in
    let ns = c.index-numbers.result.now in
    let k = c.args.number in
    let within : k < length e.numbers.items =
    omega (arith, condition_within (task_in e) k c.requires.fails.0 c.requires.fails.1, c.requires.encoding.conditions) in
    let at : slice_get e.numbers.items k ≡ Some ns = slice_get_read e.numbers.items (length e.numbers.items) k ns refl within c.index-numbers.ensures in
    let values = c.args.written.now.values.items in
    let same = c.in_ok-clause.ensures
    ∙ clause_same c.deref.result.now values c.deref-2.result.now e.first_bits.items c.deref-3.result.now ns.items c.deref.ensures.value c.deref-2.ensures.value c.deref-3.ensures.value in
    let before = c.args.learner.now in
    let g = c.in_ok-give.ensures in
    blocking_given e before c.give.new.self c.in_ok-clause.clause c.requires.blocking g.sound g.variables g.clauses g.given
    (subst (IsBlocked (task_in e) e.marked.now (clauses_of before)) (sym same)
    (clause_blocked e c.args.written.now (clauses_of before) ns k c.requires.encoding c.requires.written c.requires.solves c.requires.fails at))
