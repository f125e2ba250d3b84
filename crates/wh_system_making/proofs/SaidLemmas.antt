-- The system that parts say, from what they are resolved to.
use Rattle.std.proofs.Common.{◌≡◌, ℕ, List, length, ◌∙◌}
use Rattle.wh_types.specs.Erase.{tys}
use Rattle.wh_terms.specs.Erase.{rewrite_rules}
use Rattle.wh_system_parts.specs.Parts.{RParts}
use Rattle.wh_system_making.specs.Says.{Says}
use Rattle.wh_system_making.specs.RulesPassed.{IsResolution}
use Rattle.wh_system_making.specs.declared.resolution.Resolution.{Resolution}

pub says_it : (p : RParts) (done : Resolution) (sorts funs : List (List ℕ)) (metas : List (List (List ℕ))) (n : ℕ) → IsResolution p done → sorts ≡ done.sorts → funs ≡ done.funs.names
    → metas ≡ done.rules.meta_names.items → n ≡ length p.sorts
    → Says p (record { sort_names = sorts; fun_names = funs; symbols = record { sorts = n; funs = tys done.funs.kinds }; rules = rewrite_rules done.rules.rules.items; meta_names = metas })
says_it p done sorts funs metas n is s f m many =
    record { sort_names = s ∙ is.sorts; fun_names = f ∙ is.funs; sorts = many; funs = λ r. is.kinds; rules = is.rules.rules; meta_names = m ∙ is.rules.names }
