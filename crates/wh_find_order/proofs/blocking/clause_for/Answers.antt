use Rattle.std.proofs.Common.{◌≡◌, ◌+◌, ◌<◌, ℕ, List, [], ◌∷◌, Some, length, All, slice_get, refl, ap, sym, subst, ◌∙◌, arith}
use Rattle.std.specs.List.{flat_map}
use Rattle.std.proofs.lemmas.Option.{slice_get_read}
use Rattle.wh_sat_trail.specs.declared.literal.Literal.{Literal}
use Rattle.wh_poly_blocking.specs.Literals.{literals_on}
use Rattle.wh_poly_blocking.specs.Sizes.{value_of}
use Rattle.wh_poly_blocking.proofs.EncodingLemmas.{condition_within}
use Rattle.wh_poly_blocking.proofs.LiteralLemmas.{clause_same}
use Rattle.wh_poly_guesses.proofs.OkLemmas.{ok_as}
use Rattle.wh_find_order.specs.Encodings.{task_in, ShutsOut}
use Rattle.wh_find_order.specs.Tried.{proper, line}
use Rattle.wh_find_order.proofs.SearchLemmas.{numbers_within, symbol_used, line_used, shuts_out}
use Rattle.wh_find_order.proofs.blocking.clause_for.Goals as goal

pub index-requires : goal.index-requires
index-requires c =
    let e = c.args.encoding.now in
    let failed = rw c.in-Line.is at c.requires.fails in
    omega (arith, condition_within (task_in e) c.in-Line.number failed.0 failed.1, c.requires.encoding.conditions, e.numbers.ok.0)

pub clause_of-requires-in-Line : goal.clause_of-requires-in-Line
clause_of-requires-in-Line c =
    let e = c.args.encoding.now in
    let k = c.in-Line.number in
    let ns = c.index.result.now in
    let failed = rw c.in-Line.is at c.requires.fails in
    let within : k < length e.numbers.items = omega (arith, condition_within (task_in e) k failed.0 failed.1, c.requires.encoding.conditions) in
    let at : slice_get e.numbers.items k ≡ Some ns = slice_get_read e.numbers.items (length e.numbers.items) k ns refl within c.index.ensures in
    subst (λ (l : List ℕ). All (λ n. n + 1 < length l) c.deref-in-Line-2.result.now) (sym c.deref-in-Line.ensures.value)
    (subst (All (λ n. n + 1 < length e.first_bits.items)) (sym c.deref-in-Line-2.ensures.value)
    (numbers_within e c.requires.encoding (line failed.0) ns.items (k, failed.1) (line_used e k failed.0 ns c.requires.encoding failed.1 at)))

pub returns-in-Symbol : goal.returns-in-Symbol
returns-in-Symbol c =
    let e = c.args.encoding.now in
    let v = value_of c.args.values.now in
    let n = c.in-Symbol.number in
    let failed = rw c.in-Symbol.is at c.requires.fails in
    ok_as c.clause_of.result (λ (clause : List Literal). clause ≡ flat_map (literals_on v c.deref.result.now) (n ∷ [])) (ShutsOut e v)
    (λ clause is. shuts_out e v (proper n) (n ∷ []) clause c.requires.encoding failed.0 (symbol_used e n) failed.1
    (is ∙ ap (λ (l : List ℕ). flat_map (literals_on v l) (n ∷ [])) c.deref.ensures.value)) c.clause_of.ensures

pub returns-in-Line : goal.returns-in-Line
returns-in-Line c =
    let e = c.args.encoding.now in
    let values = c.args.values.now in
    let k = c.in-Line.number in
    let ns = c.index.result.now in
    let firsts = c.deref-in-Line.result.now in
    let numbers = c.deref-in-Line-2.result.now in
    let failed = rw c.in-Line.is at c.requires.fails in
    let within : k < length e.numbers.items = omega (arith, condition_within (task_in e) k failed.0 failed.1, c.requires.encoding.conditions) in
    let at : slice_get e.numbers.items k ≡ Some ns = slice_get_read e.numbers.items (length e.numbers.items) k ns refl within c.index.ensures in
    ok_as c.clause_of-in-Line.result (λ (clause : List Literal). clause ≡ flat_map (literals_on (value_of values) firsts) numbers) (ShutsOut e (value_of values))
    (λ clause is. shuts_out e (value_of values) (line failed.0) ns.items clause c.requires.encoding (k, failed.1)
    (line_used e k failed.0 ns c.requires.encoding failed.1 at) failed.2
    (is ∙ clause_same values values firsts e.first_bits.items numbers ns.items refl c.deref-in-Line.ensures.value c.deref-in-Line-2.ensures.value))
    c.clause_of-in-Line.ensures
