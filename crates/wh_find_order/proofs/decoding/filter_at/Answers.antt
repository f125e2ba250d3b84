use Rattle.std.proofs.Common.{◌≡◌, true, List, None, Some, get_or, subst, sym, ◌∙◌, arith, rules, tests}
use Rattle.std.proofs.lemmas.List.{get_or_default}
use Rattle.wh_types.specs.Erase.{tys}
use Rattle.wh_types.specs.declared.simple_type.SimpleType.{SimpleType}
use Rattle.wh_pairs.proofs.ByPlace.{read}
use Rattle.wh_order_inference.specs.Said.{written_filter}
use Rattle.wh_order_inference.specs.declared.filter.Filter.{Filter}
use Rattle.wh_poly_blocking.specs.Sizes.{value_of}
use Rattle.wh_order_lines.proofs.Matched.{matched_some, matched_none}
use Rattle.wh_order_space.specs.Bits.{filter_by}
use Rattle.wh_find_order.specs.Encodings.{PicksSort}
use Rattle.wh_find_order.proofs.BitLemmas.{places_of_filter}
use Rattle.wh_find_order.proofs.DecodingLemmas.{scopes_count, looked_few, too_great, none_written, not_a_sort, is_written}
use Rattle.wh_find_order.proofs.decoding.filter_at.Goals as goal

pub index-requires : goal.index-requires
index-requires c = omega (arith, c.requires.within, c.requires.encoding.count, scopes_count c.args.encoding.now c.requires.encoding)

pub overflow_add-places-2 : goal.overflow_add-places-2
overflow_add-places-2 c =
    let e = c.args.encoding.now in
    let enc = c.requires.encoding in
    let n = c.args.number in
    let scope = c.index-scope.result.now in
    let at = read e.scopes.items n scope c.requires.within c.index-scope.ensures in
    let from_is : c.index.result.now ≡ get_or e.first_bits.items n 0 =
    c.index.ensures ∙ get_or_default e.first_bits.items n _ 0 (omega (arith, c.requires.within, enc.count, scopes_count e enc)) in
    omega (arith, looked_few e enc n scope at c.index.result.now c.len-places.result from_is c.len-places.ensures)

pub number_by-requires-clause-bits : goal.number_by-requires-clause-bits
number_by-requires-clause-bits c = omega (arith, c.requires.encoding.short, c.requires.encoding.precedence)

pub number_by-requires-clause-few : goal.number_by-requires-clause-few
number_by-requires-clause-few c =
    let e = c.args.encoding.now in
    let enc = c.requires.encoding in
    let n = c.args.number in
    let scope = c.index-scope.result.now in
    let at = read e.scopes.items n scope c.requires.within c.index-scope.ensures in
    let from_is : c.index.result.now ≡ get_or e.first_bits.items n 0 =
    c.index.ensures ∙ get_or_default e.first_bits.items n _ 0 (omega (arith, c.requires.within, enc.count, scopes_count e enc)) in
    omega (arith, looked_few e enc n scope at c.index.result.now c.len-places.result from_is c.len-places.ensures)

pub filter_by-requires-clause-bits : goal.filter_by-requires-clause-bits
filter_by-requires-clause-bits c = omega (arith, c.requires.encoding.short, c.requires.encoding.precedence)

pub filter_by-requires-clause-few : goal.filter_by-requires-clause-few
filter_by-requires-clause-few c =
    let e = c.args.encoding.now in
    let enc = c.requires.encoding in
    let n = c.args.number in
    let scope = c.index-scope.result.now in
    let at = read e.scopes.items n scope c.requires.within c.index-scope.ensures in
    let from_is : c.index.result.now ≡ get_or e.first_bits.items n 0 =
    c.index.ensures ∙ get_or_default e.first_bits.items n _ 0 (omega (arith, c.requires.within, enc.count, scopes_count e enc)) in
    omega (arith, looked_few e enc n scope at c.index.result.now c.len-places.result from_is c.len-places.ensures)

pub picks_sort-requires : goal.picks_sort-requires
picks_sort-requires c =
    let e = c.args.encoding.now in
    let v = value_of c.args.values.now in
    let bits = e.precedence_bits in
    let from = c.index.result.now in
    let places = c.len-places.result in
    let filter = c.in-Some.filter in
    let is = matched_some c.in_ok-filter.field-0 filter (filter_by v bits from places ≡ None)
    (λ (f : Filter). filter_by v bits from places ≡ Some (written_filter f)) c.in-Some.is c.in_ok-filter.ensures in
    places_of_filter v bits from places (written_filter filter) is

pub returns-then-number_by-len : goal.returns-then-number_by-len
returns-then-number_by-len c =
    let e = c.args.encoding.now in
    let enc = c.requires.encoding in
    let n = c.args.number in
    let scope = c.index-scope.result.now in
    let at = read e.scopes.items n scope c.requires.within c.index-scope.ensures in
    let from_is : c.index.result.now ≡ get_or e.first_bits.items n 0 =
    c.index.ensures ∙ get_or_default e.first_bits.items n _ 0 (omega (arith, c.requires.within, enc.count, scopes_count e enc)) in
    too_great e enc n scope at c.index.result.now c.len-places.result from_is c.len-places.ensures (value_of c.args.values.now)
    (omega (arith, c.number_by.ensures, e.scopes.ok.0))

pub returns-in_default : goal.returns-in_default
returns-in_default c =
    let e = c.args.encoding.now in
    let enc = c.requires.encoding in
    let n = c.args.number in
    let v = value_of c.args.values.now in
    let bits = e.precedence_bits in
    let from = c.index.result.now in
    let places = c.len-places.result in
    let scope = c.index-scope.result.now in
    let at = read e.scopes.items n scope c.requires.within c.index-scope.ensures in
    let from_is : from ≡ get_or e.first_bits.items n 0 =
    c.index.ensures ∙ get_or_default e.first_bits.items n _ 0 (omega (arith, c.requires.within, enc.count, scopes_count e enc)) in
    let none = matched_none c.in_ok-filter.field-0 (filter_by v bits from places ≡ None)
    (λ (f : Filter). filter_by v bits from places ≡ Some (written_filter f)) c.in_default.is c.in_ok-filter.ensures in
    none_written e enc n scope at from places from_is c.len-places.ensures v none

pub returns-then-not-picks_sort : goal.returns-then-not-picks_sort
returns-then-not-picks_sort c =
    let e = c.args.encoding.now in
    let enc = c.requires.encoding in
    let n = c.args.number in
    let v = value_of c.args.values.now in
    let bits = e.precedence_bits in
    let from = c.index.result.now in
    let places = c.len-places.result in
    let scope = c.index-scope.result.now in
    let filter = c.in-Some.filter in
    let at = read e.scopes.items n scope c.requires.within c.index-scope.ensures in
    let from_is : from ≡ get_or e.first_bits.items n 0 =
    c.index.ensures ∙ get_or_default e.first_bits.items n _ 0 (omega (arith, c.requires.within, enc.count, scopes_count e enc)) in
    let is = matched_some c.in_ok-filter.field-0 filter (filter_by v bits from places ≡ None)
    (λ (f : Filter). filter_by v bits from places ≡ Some (written_filter f)) c.in-Some.is c.in_ok-filter.ensures in
    not_a_sort e enc n scope at from places from_is c.len-places.ensures v (written_filter filter) is
    (λ sorted. absurd (
    let told = c.picks_sort.ensures.1 (subst (λ (l : List SimpleType). PicksSort (tys l) (written_filter filter)) (sym c.deref.ensures.value) sorted) in
    cc (told, c.if-not-picks_sort.true)
    ))

pub returns : goal.returns
returns c =
    let e = c.args.encoding.now in
    let enc = c.requires.encoding in
    let n = c.args.number in
    let v = value_of c.args.values.now in
    let bits = e.precedence_bits in
    let from = c.index.result.now in
    let places = c.len-places.result in
    let scope = c.index-scope.result.now in
    let filter = c.in-Some.filter in
    let at = read e.scopes.items n scope c.requires.within c.index-scope.ensures in
    let from_is : from ≡ get_or e.first_bits.items n 0 =
    c.index.ensures ∙ get_or_default e.first_bits.items n _ 0 (omega (arith, c.requires.within, enc.count, scopes_count e enc)) in
    let is = matched_some c.in_ok-filter.field-0 filter (filter_by v bits from places ≡ None)
    (λ (f : Filter). filter_by v bits from places ≡ Some (written_filter f)) c.in-Some.is c.in_ok-filter.ensures in
    let told : c.picks_sort.result ≡ true = search (rules, tests) in
    is_written e enc n scope at from places from_is c.len-places.ensures v (written_filter filter) is
    (subst (λ (l : List SimpleType). PicksSort (tys l) (written_filter filter)) c.deref.ensures.value (c.picks_sort.ensures.0 told)) (omega (arith, c.number_by.ensures, e.scopes.ok.0))
