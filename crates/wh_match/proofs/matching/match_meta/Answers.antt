use Rattle.std.proofs.Common.{get_or, subst, refl, sym, ◌∙◌, arith, ne_eqb}
use Rattle.std.proofs.lemmas.List.Elements.{Contains-get_or}
use Rattle.wh_terms.specs.Tree.{Tms, meta}
use Rattle.wh_terms.specs.Erase.{tm, tms}
use Rattle.wh_match.specs.MatchSearch.{Answers}
use Rattle.wh_terms.proofs.BodyLemmas.{count-tms}
use Rattle.wh_match.proofs.MatchLemmas.{known_answer, other_arity, no_body, new_match}
use Rattle.wh_match.proofs.matching.match_meta.Goals as goal

pub returns-in_ok-is_placed : goal.returns-in_ok-is_placed
returns-in_ok-is_placed c =
    let args : Tms = tms c.args.seat.now.args.now in
    known_answer c.args.seat.now.depth c.args.variable args (tm c.args.term.now) (tm c.in-Some.known.now.body) c.in-Some.known.now.arity c.args.found.now c.in_ok-is_placed.field-0
    c.requires.below c.in-Some.ensures.0 c.in-Some.ensures.1 (omega (arith, c.in_ok-arity.ensures, count-tms c.args.seat.now.args.now)) c.in_ok-is_placed.ensures

pub returns-else-known-arity : goal.returns-else-known-arity
returns-else-known-arity c =
    let args : Tms = tms c.args.seat.now.args.now in
    subst (Answers c.args.seat.now.depth (meta c.args.variable args) (tm c.args.term.now) c.args.found.now c.args.found.now)
    (sym (ne_eqb c.in-Some.known.now.arity c.in_ok-arity.arity c.if-known-arity.false))
    (other_arity c.args.seat.now.depth c.args.variable args (tm c.args.term.now) (tm c.in-Some.known.now.body) c.in-Some.known.now.arity c.args.found.now c.args.found.now
    c.in-Some.ensures.0 c.in-Some.ensures.1 (λ same. c.if-known-arity.false (omega (arith, c.in_ok-arity.ensures, count-tms c.args.seat.now.args.now))))

pub returns-in_default-2 : goal.returns-in_default-2
returns-in_default-2 c =
    no_body c.args.seat.now.depth c.args.variable (tms c.args.seat.now.args.now) (tm c.args.term.now) c.args.found.now c.args.found.now c.requires.below
    (rw c.in_default-2.is at c.in_ok-body.ensures)

pub push-requires : goal.push-requires
push-requires c = λ i d within same. (rw c.in_default.is at c.body_for.ensures) (get_or c.args.found.now i d, Contains-get_or c.args.found.now i d within, same)

pub returns : goal.returns
returns c =
    new_match c.args.seat.now.depth c.args.variable (tms c.args.seat.now.args.now) (tm c.args.term.now) c.args.found.now c.push.new.self _ c.requires.below c.requires.distinct
    (rw c.in_default.is at c.body_for.ensures) (rw c.in_ok-push.was at c.push.ensures.ok) refl (c.in_ok-arity.ensures ∙ sym (count-tms c.args.seat.now.args.now))
    (rw c.in-Some-2.is at c.in_ok-body.ensures)
