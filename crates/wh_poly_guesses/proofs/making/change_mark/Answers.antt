use Rattle.std.proofs.Common.{◌<◌, length, refl, ap, sym, subst, ◌∙◌, arith}
use Rattle.std.proofs.lemmas.List.{get_or_default}
use Rattle.std.proofs.lemmas.List.Elements.{All-set}
use Rattle.wh_types.specs.Erase.{tys}
use Rattle.wh_system.specs.SystemView.{system_data}
use Rattle.wh_polycheck.specs.Marks.{marked_types}
use Rattle.wh_poly_guesses.specs.Guesses.{IsReadMark}
use Rattle.wh_poly_guesses.specs.Reads.{IsMarkBy}
use Rattle.wh_poly_guesses.proofs.ReadLemmas.{read_as, map_set_same, set_here, set_others}
use Rattle.wh_poly_guesses.proofs.making.change_mark.Goals as goal

pub returns-clause-symbols : goal.returns-clause-symbols
returns-clause-symbols c =
    map_set_same (λ m. m.symbol) c.args.marks.now c.args.i c.index-marks-i-2.result _ c.index-marks-i-2.is (ap (λ m. m.symbol) (sym c.index-marks-i-2.is))

pub returns-clause-read : goal.returns-clause-read
returns-clause-read c =
    let d = system_data c.args.system.now in
    let marks = c.args.marks.now in
    let within : c.args.i < length marks = omega arith in
    let same = get_or_default marks c.args.i c.index-marks-i.result c.index-marks-i-2.result within in
    let scope = ap tys c.deref.ensures.value ∙ c.in_ok-scope.ensures ∙ ap (λ m. marked_types d.symbols d.rules m.symbol) same in
    let has = read_as _ _ c.args.coefficients.now c.args.coefficients.now _ c.in_ok-poly.ensures scope refl in
    All-set (IsReadMark d.symbols d.rules) marks c.args.i _ has.of_space c.requires

pub returns-clause-here : goal.returns-clause-here
returns-clause-here c m at =
    let d = system_data c.args.system.now in
    let marks = c.args.marks.now in
    let within : c.args.i < length marks = omega arith in
    let same = get_or_default marks c.args.i c.index-marks-i.result c.index-marks-i-2.result within in
    let scope = ap tys c.deref.ensures.value ∙ c.in_ok-scope.ensures ∙ ap (λ m. marked_types d.symbols d.rules m.symbol) same in
    subst (IsMarkBy d.symbols d.rules c.args.coefficients.now) (set_here marks c.args.i _ m at) (read_as _ _ c.args.coefficients.now c.args.coefficients.now _ c.in_ok-poly.ensures scope refl)

pub returns-clause-others : goal.returns-clause-others
returns-clause-others c j apart = set_others c.args.marks.now c.args.i _ j apart
