use Rattle.std.proofs.Common.{List, Option, IsSomeAnd, map, sym, subst}
use Rattle.std.proofs.lemmas.Option.{MatchOption-at_some}
use Rattle.wh_system.specs.SystemView.{system_data}
use Rattle.wh_pairs.specs.Views.{pairs_data}
use Rattle.wh_subterm.specs.SubtermRows.{chosen}
use Rattle.wh_intern.specs.TableTrees.{trees}
use Rattle.wh_intern.specs.declared.sides.Sides.{Sides}
use Rattle.wh_cert.specs.Said.{said_arg}
use Rattle.wh_intern_pairs.specs.NumberedSides.{AreSides}
use Rattle.wh_intern_pairs.specs.Numberings.{IsNumbering}
use Rattle.wh_intern_pairs.specs.declared.numbered.Numbered.{Numbered}
use Rattle.wh_checker.proofs.GoLemmas.{subterm_fault}
use Rattle.wh_checker.proofs.node.reduced.Goals as goal

pub returns-in-Err-clause-reduced : goal.returns-in-Err-clause-reduced
returns-in-Err-clause-reduced c =
    let d = system_data c.args.system.now in
    let ps = pairs_data c.args.pairs.now in
    let says = MatchOption-at_some _ _ c.in-Some.choices c.in-Some.is c.in_ok-choices.ensures in
    let made = c.in-Some-numbered.made in
    let numbering = subst (λ (o : Option Numbered). IsSomeAnd o (λ n. IsNumbering n ps)) c.in-Some-numbered.is c.in_ok-once.ensures in
    let are = subst (λ (l : List Sides). AreSides (trees made.table) l ps) (sym c.as_slice-sides.ensures) numbering in
    subterm_fault d ps c.args.set.now (map said_arg c.args.args.now) (map chosen c.in-Some.choices) c.args.drop.now c.in-Err.fault
    c.is_well_made.ensures.fun_names_distinct says (c.in-Err.ensures ps are)
