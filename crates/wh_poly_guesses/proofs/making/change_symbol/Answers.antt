use Rattle.std.proofs.Common.{◌<◌, length, refl, ap, sym, subst, ◌∙◌, arith}
use Rattle.std.proofs.lemmas.List.{get_or_default}
use Rattle.std.proofs.lemmas.List.Elements.{All-set}
use Rattle.wh_types.specs.Erase.{ty, tys}
use Rattle.wh_types.specs.Ty.{arguments}
use Rattle.wh_poly_guesses.specs.Guesses.{IsReadSymbol}
use Rattle.wh_poly_guesses.specs.Reads.{IsReadBy}
use Rattle.wh_poly_guesses.proofs.ReadLemmas.{read_as, map_set_same, set_here, set_others}
use Rattle.wh_poly_guesses.proofs.making.change_symbol.Goals as goal

pub returns-clause-kinds : goal.returns-clause-kinds
returns-clause-kinds c =
    map_set_same (λ s. ty s.kind) c.args.symbols.now c.args.f c.index-symbols-f-2.result _ c.index-symbols-f-2.is (ap (λ s. ty s.kind) (sym c.index-symbols-f-2.is))

pub returns-clause-read : goal.returns-clause-read
returns-clause-read c =
    let symbols = c.args.symbols.now in
    let within : c.args.f < length symbols = omega arith in
    let same = get_or_default symbols c.args.f c.index-symbols-f.result c.index-symbols-f-2.result within in
    let scope = ap tys c.deref.ensures.value ∙ c.in_ok-scope.ensures ∙ ap (λ s. arguments (ty s.kind)) same in
    let has = read_as _ _ c.args.coefficients.now c.args.coefficients.now _ c.in_ok-poly.ensures scope refl in
    All-set IsReadSymbol symbols c.args.f _ has.of_space c.requires

pub returns-clause-here : goal.returns-clause-here
returns-clause-here c s at =
    let symbols = c.args.symbols.now in
    let within : c.args.f < length symbols = omega arith in
    let same = get_or_default symbols c.args.f c.index-symbols-f.result c.index-symbols-f-2.result within in
    let scope = ap tys c.deref.ensures.value ∙ c.in_ok-scope.ensures ∙ ap (λ s. arguments (ty s.kind)) same in
    subst (IsReadBy c.args.coefficients.now) (set_here symbols c.args.f _ s at) (read_as _ _ c.args.coefficients.now c.args.coefficients.now _ c.in_ok-poly.ensures scope refl)

pub returns-clause-others : goal.returns-clause-others
returns-clause-others c i apart = set_others c.args.symbols.now c.args.f _ i apart
