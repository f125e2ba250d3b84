use Rattle.std.proofs.Common.{◌≡◌, subst, subst₂, sym, ap, ◌∙◌, rules}
use Rattle.std.specs.Prelude.{IfOk, ◌==◌}
use Rattle.wh_types.specs.Erase.{ty}
use Rattle.wh_terms.specs.Tree.{lam, meta, app}
use Rattle.wh_terms.specs.Erase.{tm, tms}
use Rattle.wh_match.specs.MatchSearch.{Answers}
use Rattle.wh_terms.specs.Pattern.{AllBoundBelow, Distinct, IsPatternUnder}
use Rattle.wh_terms.proofs.TermLemmas.{tm_of_meta}
use Rattle.wh_terms.proofs.Results.{IfOk-map}
use Rattle.wh_match.proofs.MatchLemmas.{bound_answer, fun_answer, lam_answer, app_answer}
use Rattle.wh_match.proofs.matching.+match_under.Goals as goal

pub match_meta-requires-clause-below : goal.match_meta-requires-clause-below
match_meta-requires-clause-below t c =
    let here = subst (IsPatternUnder c.args.depth) (tm_of_meta c.args.pattern.now c.in-Meta-default.variable c.in-Meta-default.args c.in-Meta-default.is-0) c.requires in
    subst (λ xs. AllBoundBelow c.args.depth (tms xs)) (sym c.as_slice.ensures) here.0

pub match_meta-requires-clause-distinct : goal.match_meta-requires-clause-distinct
match_meta-requires-clause-distinct t c =
    let here = subst (IsPatternUnder c.args.depth) (tm_of_meta c.args.pattern.now c.in-Meta-default.variable c.in-Meta-default.args c.in-Meta-default.is-0) c.requires in
    subst (λ xs. Distinct (tms xs)) (sym c.as_slice.ensures) here.1

pub returns-in-Meta-default : goal.returns-in-Meta-default
returns-in-Meta-default t c =
    subst (λ p. IfOk c.match_meta.result (Answers c.args.depth p (tm c.args.term.now) c.args.found.now c.match_meta.new.found))
    (ap (λ xs. meta c.in-Meta-default.variable (tms xs)) c.as_slice.ensures
    ∙ sym (tm_of_meta c.args.pattern.now c.in-Meta-default.variable c.in-Meta-default.args c.in-Meta-default.is-0))
    c.match_meta.ensures

pub returns-else-not-branch : goal.returns-else-not-branch
returns-else-not-branch t c =
    let pattern : tm c.args.pattern.now ≡ app (tm c.deref-in-App-App.result.now) (tm c.deref-in-App-App-3.result.now) = search rules in
    let term : tm c.args.term.now ≡ app (tm c.deref-in-App-App-2.result.now) (tm c.deref-in-App-App-4.result.now) = search rules in
    let first = rw c.if-not-branch.false at c.in_ok-match_under-in-App-App.ensures in
    IfOk-map (Answers c.args.depth (tm c.deref-in-App-App-3.result.now) (tm c.deref-in-App-App-4.result.now) c.match_under-in-App-App.new.found c.match_under-in-App-App-2.new.found)
    (Answers c.args.depth (tm c.args.pattern.now) (tm c.args.term.now) c.args.found.now c.match_under-in-App-App-2.new.found)
    c.match_under-in-App-App-2.result
    (λ r second. subst₂ (λ p t. Answers c.args.depth p t c.args.found.now c.match_under-in-App-App-2.new.found r) (sym pattern) (sym term)
    (app_answer c.args.depth (tm c.deref-in-App-App.result.now) (tm c.deref-in-App-App-3.result.now) (tm c.deref-in-App-App-2.result.now) (tm c.deref-in-App-App-4.result.now) c.args.found.now c.match_under-in-App-App.new.found c.match_under-in-App-App-2.new.found r first second))
    c.match_under-in-App-App-2.ensures

pub returns-in-Bound-Bound : goal.returns-in-Bound-Bound
returns-in-Bound-Bound t c =
    subst₂ (λ p u. Answers c.args.depth p u c.args.found.now c.args.found.now (c.in-Bound-Bound.number == c.in-Bound-Bound.other))
    (sym (ap tm c.in-Bound-Bound.is-0)) (sym (ap tm c.in-Bound-Bound.is-1))
    (bound_answer c.args.depth c.in-Bound-Bound.number c.in-Bound-Bound.other c.args.found.now)

pub returns-in-Fun-Fun : goal.returns-in-Fun-Fun
returns-in-Fun-Fun t c =
    subst₂ (λ p u. Answers c.args.depth p u c.args.found.now c.args.found.now (c.in-Fun-Fun.symbol == c.in-Fun-Fun.other))
    (sym (ap tm c.in-Fun-Fun.is-0)) (sym (ap tm c.in-Fun-Fun.is-1))
    (fun_answer c.args.depth c.in-Fun-Fun.symbol c.in-Fun-Fun.other c.args.found.now)

pub returns-in_ok-sum-in-Lam-Lam : goal.returns-in_ok-sum-in-Lam-Lam
returns-in_ok-sum-in-Lam-Lam t c =
    let kinds : ty c.in-Lam-Lam.kind ≡ ty c.in-Lam-Lam.other_kind = search rules in
    let pattern : tm c.args.pattern.now ≡ lam (ty c.in-Lam-Lam.kind) (tm c.deref.result.now) = search rules in
    let term : tm c.args.term.now ≡ lam (ty c.in-Lam-Lam.other_kind) (tm c.deref-in-Lam-Lam.result.now) = search rules in
    IfOk-map (Answers c.in_ok-sum-in-Lam-Lam.field-0 (tm c.deref.result.now) (tm c.deref-in-Lam-Lam.result.now) c.args.found.now c.match_under.new.found)
    (Answers c.args.depth (tm c.args.pattern.now) (tm c.args.term.now) c.args.found.now c.match_under.new.found)
    c.match_under.result
    (λ r found. subst₂ (λ p u. Answers c.args.depth p u c.args.found.now c.match_under.new.found r) (sym pattern)
    (sym (term ∙ ap (λ a. lam a (tm c.deref-in-Lam-Lam.result.now)) (sym kinds)))
    (lam_answer c.args.depth c.in_ok-sum-in-Lam-Lam.field-0 (ty c.in-Lam-Lam.kind) (tm c.deref.result.now) (tm c.deref-in-Lam-Lam.result.now) c.args.found.now
    c.match_under.new.found r c.in_ok-sum-in-Lam-Lam.ensures found))
    c.match_under.ensures
