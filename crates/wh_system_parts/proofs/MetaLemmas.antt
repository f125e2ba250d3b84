-- The declarations of a rule's meta-variables, one after another.
use Rattle.std.proofs.Common.{◌≡◌, ℕ, ◌+◌, ◌<◌, List, [], ◌∷◌, ◌++◌, map, length, drop, get_or, Some, None, unwrap_or, refl, ap, sym, ◌∙◌}
use Rattle.std.proofs.lemmas.List.{map-append}
use Rattle.wh_types.specs.Ty.{sort}
use Rattle.wh_types.specs.Erase.{ty, tys}
use Rattle.wh_types.specs.declared.simple_type.SimpleType.{SimpleType}
use Rattle.wh_terms.specs.Typing.{Declared}
use Rattle.wh_terms.specs.Erase.{declared_meta, declared_metas}
use Rattle.wh_terms.specs.declared.rule.MetaDecl.{MetaDecl}
use Rattle.wh_text.specs.Erase.{rty, rtys}
use Rattle.wh_text.specs.declared.raw.RawType.{RawType}
use Rattle.wh_system_parts.specs.declared.fault.SystemFault.{SystemFault}
use Rattle.wh_system_parts.specs.declared.parts.RawMeta.{RawMeta}
use Rattle.wh_system_parts.specs.Parts.{RMeta}
use Rattle.wh_system_parts.specs.Erase.{rmeta}
use Rattle.wh_system_parts.specs.Faults.{first_fault}
use Rattle.wh_system_parts.specs.Naming.{type_meant}
use Rattle.wh_system_parts.specs.Declarations.{tests_of_meta}
use Rattle.wh_system_parts.specs.RuleTests.{type_of_raw, types_of_raw, declared_by}
use Rattle.wh_system_parts.specs.Tests.{meta_tests, type_tests, types_tests}
use Rattle.wh_system_parts.proofs.RawTypes.{types_next}
use Rattle.wh_system_parts.proofs.DeclarationLemmas.{map_next}
use Rattle.wh_system_parts.proofs.FaultLemmas.{fault_after, fault_in_first}

-- the types of its arguments

pub typed_next : (S : List (List ℕ)) (xs : List RawType) (i : ℕ) (a : RawType) → i < length xs → a ≡ get_or xs i a → first_fault (type_tests S (rty a)) ≡ None
    → first_fault (types_tests S (rtys (drop i xs))) ≡ first_fault (types_tests S (rtys (drop (i + 1) xs)))
typed_next S xs i a within e passed =
    ap (λ us. first_fault (types_tests S us)) (types_next xs i a within e)
    ∙ fault_after (type_tests S (rty a)) (types_tests S (rtys (drop (i + 1) xs))) passed

pub typed_fails : (S : List (List ℕ)) (xs : List RawType) (i : ℕ) (a : RawType) (f : SystemFault) → i < length xs → a ≡ get_or xs i a
    → first_fault (type_tests S (rty a)) ≡ Some f → first_fault (types_tests S (rtys (drop i xs))) ≡ Some f
typed_fails S xs i a f within e failed =
    ap (λ us. first_fault (types_tests S us)) (types_next xs i a within e)
    ∙ fault_in_first (type_tests S (rty a)) (types_tests S (rtys (drop (i + 1) xs))) f failed

-- one meta-variable

meta-split : (S F before : List (List ℕ)) (m : RMeta) (rest : List RMeta)
    → meta_tests S F before (m ∷ rest) ≡ tests_of_meta S F before m ++ meta_tests S F (before ++ m.name.name ∷ []) rest
meta-split S F before m rest = refl

pub meta_next : (S F : List (List ℕ)) (xs : List RawMeta) (i : ℕ) (m : RawMeta) (table after : List (List ℕ)) → i < length xs → m ≡ get_or xs i m
    → first_fault (tests_of_meta S F table (rmeta m)) ≡ None → after ≡ table ++ m.name.name ∷ []
    → first_fault (meta_tests S F table (map rmeta (drop i xs))) ≡ first_fault (meta_tests S F after (map rmeta (drop (i + 1) xs)))
meta_next S F xs i m table after within e passed joined =
    let rest = map rmeta (drop (i + 1) xs) in
    ap (λ ms. first_fault (meta_tests S F table ms)) (map_next rmeta xs i m within e)
    ∙ ap first_fault (meta-split S F table (rmeta m) rest)
    ∙ fault_after (tests_of_meta S F table (rmeta m)) (meta_tests S F (table ++ m.name.name ∷ []) rest) passed
    ∙ ap (λ t. first_fault (meta_tests S F t rest)) (sym joined)

pub meta_fails : (S F : List (List ℕ)) (xs : List RawMeta) (i : ℕ) (m : RawMeta) (table : List (List ℕ)) (fault : SystemFault) → i < length xs → m ≡ get_or xs i m
    → first_fault (tests_of_meta S F table (rmeta m)) ≡ Some fault → first_fault (meta_tests S F table (map rmeta (drop i xs))) ≡ Some fault
meta_fails S F xs i m table fault within e failed =
    let rest = map rmeta (drop (i + 1) xs) in
    ap (λ ms. first_fault (meta_tests S F table ms)) (map_next rmeta xs i m within e)
    ∙ ap first_fault (meta-split S F table (rmeta m) rest)
    ∙ fault_in_first (tests_of_meta S F table (rmeta m)) (meta_tests S F (table ++ m.name.name ∷ []) rest) fault failed

pub declared_as : (S : List (List ℕ)) (m : RMeta) (args : List SimpleType) (last : SimpleType) → types_of_raw S m.args ≡ tys args → type_meant S m.out ≡ Some (ty last)
    → ◌≡◌ {A = Declared} (record { args = tys args; out = ty last }) (declared_by S m)
declared_as S m args last same is =
    let out : ty last ≡ type_of_raw S m.out = sym (ap (λ o. unwrap_or o (sort 0)) is) in
    λ i. record { args = sym same i; out = out i }

pub declared_joined : (ds after : List MetaDecl) (d : MetaDecl) (made : Declared) → declared_meta d ≡ made → after ≡ ds ++ d ∷ []
    → declared_metas after ≡ declared_metas ds ++ made ∷ []
declared_joined ds after d made is joined =
    ap declared_metas joined ∙ map-append declared_meta ds (d ∷ []) ∙ ap (λ m. declared_metas ds ++ m ∷ []) is
