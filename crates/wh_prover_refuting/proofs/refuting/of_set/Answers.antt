use Rattle.std.proofs.Common.{◌<◌, false, get_or, length, map, All, ap, refl, sym, subst, arith}
use Rattle.std.proofs.lemmas.List.{length-map}
use Rattle.std.proofs.Common.{ℕ}
use Rattle.wh_pairs.specs.PairData.{pair_data}
use Rattle.wh_system.specs.SystemView.{system_data}
use Rattle.wh_prover_refuting.proofs.Verdicts.{no_model}
use Rattle.wh_prover_refuting.proofs.refuting.of_set.Goals as goal

pub unreachable-requires : goal.unreachable-requires
unreachable-requires c =
    let f = c.in_ok-formula.formula in
    let is = rw c.in-Sat.is at c.in_ok-listed.ensures in
    let within = subst (λ (m : ℕ). All (λ (k : ℕ). k < m) c.args.set) (sym (length-map c.args.pairs.now pair_data)) c.requires.set in
    no_model (system_data c.args.system.now).rules (map pair_data c.args.pairs.now) c.args.set f.variables f.clauses
    (λ v. get_or c.in-Sat.field-0.items v false) within c.requires.none c.in_ok-formula.ensures.formula is.2

pub confirm-requires-clause-few : goal.confirm-requires-clause-few
confirm-requires-clause-few c =
    let is = rw c.in-Unsat.is at c.in_ok-listed.ensures in
    omega (arith, is.1.count, c.requires.tries, c.if-as_slice-gt-MOST_CLAUSES.false, ap (λ cs. length cs) c.as_slice.ensures)

pub confirm-requires-clause-hints : goal.confirm-requires-clause-hints
confirm-requires-clause-hints c = λ e h.
    let is = rw c.in-Unsat.is at c.in_ok-listed.ensures in
    is.1.hints e h

pub confirm-requires-clause-good : goal.confirm-requires-clause-good
confirm-requires-clause-good c = let is = rw c.in-Unsat.is at c.in_ok-listed.ensures in is.1.refutes

pub returns-in-Unsat : goal.returns-in-Unsat
returns-in-Unsat c =
    let is = rw c.in-Unsat.is at c.in_ok-listed.ensures in (
      refl,
      record {
        variables = c.in_ok-formula.formula.variables;
        clauses = c.in_ok-formula.formula.clauses;
        formula = c.in_ok-formula.ensures.formula;
        list = c.in-Unsat.list;
        refutes = is.1.refutes;
      },
    )
