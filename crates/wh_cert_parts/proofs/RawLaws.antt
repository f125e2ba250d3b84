-- What raw trees that are put together stand for.
use Rattle.std.proofs.Common.{◌≡◌, ℕ, suc, List, [], ◌∷◌, ◌++◌, length, refl, ap, ◌∙◌}
use Rattle.wh_text.specs.RawTree.{raw_type, RTys, more_types, RTms, more}
use Rattle.wh_text.specs.Erase.{rty, rtys, rtm, rtms}
use Rattle.wh_text.specs.declared.raw.RawType.{RawType, roll-RawType, out-roll-RawType}
use Rattle.wh_text.specs.declared.raw.RawTerm.{RawTerm}
use Rattle.wh_text.proofs.RawLemmas.{rty_parts}
use Rattle.wh_cert.specs.TermLimits.{type_count, term_count}
use Rattle.wh_cert_parts.specs.TypeMachine.{add_type}
use Rattle.wh_cert_parts.specs.TermMachine.{add_term}

pub functional_type : (args : List RawType) (sort : List ℕ) → rty (roll-RawType (record { args = args; sort = sort; at = 0 })) ≡ raw_type (rtys args) sort 0
functional_type args sort =
    rw (rty_parts (roll-RawType (record { args = args; sort = sort; at = 0 })), out-roll-RawType (record { args = args; sort = sort; at = 0 })) refl

rtys_push : (as_are : List RawType) (a : RawType) → rtys (as_are ++ a ∷ []) ≡ add_type (rtys as_are) (rty a)
rtys_push [] a = refl
rtys_push (b ∷ bs) a = ap (λ (cs : RTys). more_types (rty b) cs) (rtys_push bs a)

pub rtys_grow : (old new : List RawType) (a : RawType) → new ≡ old ++ a ∷ [] → rtys new ≡ add_type (rtys old) (rty a)
rtys_grow old new a e = ap rtys e ∙ rtys_push old a

pub rtys_count : (old : List RawType) → type_count (rtys old) ≡ length old
rtys_count [] = refl
rtys_count (a ∷ rest) = ap suc (rtys_count rest)

rtms_push : (ts : List RawTerm) (t : RawTerm) → rtms (ts ++ t ∷ []) ≡ add_term (rtms ts) (rtm t)
rtms_push [] t = refl
rtms_push (u ∷ us) t = ap (λ (vs : RTms). more (rtm u) vs) (rtms_push us t)

pub rtms_grow : (old new : List RawTerm) (t : RawTerm) → new ≡ old ++ t ∷ [] → rtms new ≡ add_term (rtms old) (rtm t)
rtms_grow old new t e = ap rtms e ∙ rtms_push old t

pub rtms_count : (old : List RawTerm) → term_count (rtms old) ≡ length old
rtms_count [] = refl
rtms_count (t ∷ rest) = ap suc (rtms_count rest)
