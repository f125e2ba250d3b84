use Rattle.std.proofs.Common.{◌≡◌, true, List, [], ◌∷◌, length, refl, ap, ◌∙◌, sym, eqb-true, arith}
use Rattle.std.specs.Prelude.{◌==◌}
use Rattle.wh_terms.specs.Tree.{meta, none}
use Rattle.wh_terms.specs.Erase.{tms}
use Rattle.wh_terms.specs.declared.term.Term.{Term}
use Rattle.wh_terms.proofs.TermLemmas.{tm_of_meta}
use Rattle.wh_order_demands.proofs.plan.alone.Goals as goal

none_alone : (ts : List Term) → length ts ≡ 0 → tms ts ≡ none
none_alone [] e = refl
none_alone (t ∷ ts) e = absurd (omega (arith, e))

pub returns-then-is_empty : goal.returns-then-is_empty
returns-then-is_empty c =
    let test : (length c.as_slice.result.now == 0) ≡ true = sym c.is_empty.ensures ∙ c.if-is_empty.true in
    let empty : length c.in-Meta.items ≡ 0 = ap length (sym c.as_slice.ensures) ∙ eqb-true (length c.as_slice.result.now) 0 test in
    tm_of_meta c.args.t.now c.in-Meta.meta c.in-Meta.items c.in-Meta.is ∙ ap (meta c.in-Meta.meta) (none_alone c.in-Meta.items empty)
