-- Which terms raw trees stand for over a system, by the tests of names and types.
use Rattle.std.proofs.Common.{◌≡◌, ℕ, List, [], Option, Some, None, refl, sym, ◌∙◌, subst}
use Rattle.wh_types.specs.Ty.{Ty}
use Rattle.wh_terms.specs.Tree.{Tm}
use Rattle.wh_terms.specs.Typing.{Symbols, Declared, Typed}
use Rattle.wh_text.specs.RawTree.{RTy, RTm}
use Rattle.wh_system_parts.specs.declared.fault.SystemFault.{SystemFault}
use Rattle.wh_system_parts.specs.Faults.{first_fault}
use Rattle.wh_system_parts.specs.Naming.{Scope, meant, type_meant}
use Rattle.wh_system_parts.specs.Tests.{naming_tests, sorts_of_type}
use Rattle.wh_system_parts.proofs.OptionParts.{some_same, none_some}
use Rattle.wh_system.specs.Systems.{SystemData}
use Rattle.wh_system.specs.WellMade.{IsWellMadeSystem}
use Rattle.wh_system_making.specs.Resolve.{term_scope, Means}
use Rattle.wh_system_making.proofs.KindMade.{IsScope, symbols_of, made}
use Rattle.wh_system_making.proofs.TypedPassed.{typed_passes, sorts_passed}

abbrev symbols : ℕ → List Ty → Symbols
symbols n kinds = record { sorts = n; funs = kinds }

abbrev names : List (List ℕ) → List (List ℕ) → List Ty → List (List ℕ) → List Declared → Scope
names sorts funs kinds metas declared = record { sorts = sorts; funs = funs; kinds = kinds; metas = metas; declared = declared }

pub system_symbols : (d : SystemData) → IsWellMadeSystem d → symbols_of (term_scope d) ≡ d.symbols
system_symbols d w = λ i. symbols (w.sorts_named i) d.symbols.funs

pub system_scope : (d : SystemData) → IsWellMadeSystem d → IsScope (term_scope d)
system_scope d w = record { metas_declared = refl; funs_declared = w.symbols_named }

-- names of the system without meta-variables
same_scope : (d : SystemData) (s : Scope) → s.sorts ≡ d.sort_names → s.funs ≡ d.fun_names → s.kinds ≡ d.symbols.funs → s.metas ≡ [] → s.declared ≡ [] → s ≡ term_scope d
same_scope d s a b c e f = λ i. names (a i) (b i) (c i) (e i) (f i)

-- where no test fails the tree is typed
means : (d : SystemData) → IsWellMadeSystem d → (u : RTm) (t : Tm) → first_fault (naming_tests (term_scope d) [] u) ≡ None → meant (term_scope d) [] u ≡ Some t → Means d u t
means d w u t passed e =
    let m = made (term_scope d) (system_scope d w) u [] [] refl (record { none_fails = passed }) in
    let same : m.tree ≡ t = some_same (sym m.is_meant ∙ e) in
    record {
      named = e;
      typed = (m.kind, subst (λ S. Typed S [] [] t m.kind) (system_symbols d w) (subst (λ v. Typed (symbols_of (term_scope d)) [] [] v m.kind) same m.typed));
    }

pub means_where_passed : (d : SystemData) → IsWellMadeSystem d → (s : Scope) (u : RTm) (t : Tm) → s.sorts ≡ d.sort_names → s.funs ≡ d.fun_names → s.kinds ≡ d.symbols.funs → s.metas ≡ [] → s.declared ≡ []
    → first_fault (naming_tests s [] u) ≡ None → meant s [] u ≡ Some t → Means d u t
means_where_passed d w s u t a b c e f passed is =
    let same = same_scope d s a b c e f in
    means d w u t (subst (λ s. first_fault (naming_tests s [] u) ≡ None) same passed) (subst (λ s. meant s [] u ≡ Some t) same is)

-- where a test fails no typed tree is meant
pub means_none : (d : SystemData) → IsWellMadeSystem d → (s : Scope) (u : RTm) (fault : SystemFault) → s.sorts ≡ d.sort_names → s.funs ≡ d.fun_names → s.kinds ≡ d.symbols.funs → s.metas ≡ []
    → s.declared ≡ [] → first_fault (naming_tests s [] u) ≡ Some fault → (t : Tm) → Means d u t → ⊥
means_none d w s u fault a b c e f failed t m =
    let same = same_scope d s a b c e f in
    let typed = subst (λ S. Typed S [] [] t m.typed.0) (sym (system_symbols d w)) m.typed.1 in
    let passes = typed_passes (term_scope d) u [] [] refl t m.typed.0 m.named typed in
    none_some (sym passes.passed.none_fails ∙ subst (λ s. first_fault (naming_tests s [] u) ≡ Some fault) same failed)

-- and where a sort is not there no type is meant
pub type_none : (sorts : List (List ℕ)) (a : RTy) (fault : SystemFault) → first_fault (sorts_of_type sorts a) ≡ Some fault → type_meant sorts a ≡ None
type_none sorts a fault failed = go (type_meant sorts a) refl
  where
    go : (o : Option Ty) → type_meant sorts a ≡ o → type_meant sorts a ≡ None
    go None e = e
    go (Some b) e = absurd (none_some (sym (sorts_passed sorts a b e).none_fails ∙ failed))
