use Rattle.std.proofs.Common.{◌≡◌, ◌<◌, ℕ, length, get_or, ap, ◌∙◌, arith}
use Rattle.std.proofs.lemmas.List.{get_or_read}
use Rattle.wh_find_order.specs.Encodings.{scopes_for}
use Rattle.wh_find_order.proofs.DecodingLemmas.{scopes_count}
use Rattle.wh_find_order.proofs.SearchLemmas.{blocking_begun}
use Rattle.wh_find_order.proofs.blocking.learner_for.Goals as goal

pub index-variables-requires : goal.index-variables-requires
index-variables-requires c =
    let e = c.args.encoding.now in
    omega (arith, scopes_count e c.requires, c.requires.count, c.len.ensures, e.first_bits.ok.0, e.scopes.ok.0)

pub returns-clause-blocking : goal.returns-clause-blocking
returns-clause-blocking c =
    let e = c.args.encoding.now in
    let firsts = e.first_bits.items in
    let made = c.in_ok-learner.ensures in
    let all : c.len.result ≡ length (scopes_for e) = omega (arith, c.len.ensures, e.scopes.ok.0, scopes_count e c.requires) in
    let within : c.len.result < length firsts = omega (arith, all, c.requires.count) in
    let here = get_or_read firsts c.len.result c.index-variables.result.now within c.index-variables.ensures 0 in
    blocking_begun e c.in_ok-learner.learner made.sound
    (made.variables ∙ here ∙ ap (λ (n : ℕ). get_or firsts n 0) all ∙ c.requires.firsts (length (scopes_for e)) (omega arith))
    (made.clauses ∙ c.new-clauses.ensures)
