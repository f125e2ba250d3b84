-- The types of symbols that are read in order.
use Rattle.std.proofs.Common.{ℕ, ◌≡◌, ◌+◌, ◌<◌, List, [], ◌∷◌, ◌++◌, length, map, take, get_or, sym, ◌∙◌}
use Rattle.wh_types.specs.Erase.{ty, tys}
use Rattle.wh_types.specs.declared.simple_type.SimpleType.{SimpleType}
use Rattle.wh_hopoly.specs.Evaluation.{Interpretation}
use Rattle.wh_hopoly.specs.Erase.{interpretation, interpretations}
use Rattle.wh_hopoly.specs.declared.expression.Symbol.{Symbol}
use Rattle.wh_pairs.proofs.ListLemmas.{map-map}
use Rattle.wh_polycheck.proofs.Pushes.{mapped_push}

-- one more
pub kinds_next : (made longer : List Symbol) (kinds : List SimpleType) (i : ℕ) (s : Symbol) (x : SimpleType)
    → map (λ (r : Interpretation). r.kind) (interpretations made) ≡ tys (take i kinds) → longer ≡ made ++ s ∷ [] → ty s.kind ≡ ty x → i < length kinds
    → x ≡ get_or kinds i x → map (λ (r : Interpretation). r.kind) (interpretations longer) ≡ tys (take (i + 1) kinds)
kinds_next made longer kinds i s x same pushed equal within is =
    map-map (λ (r : Interpretation). r.kind) interpretation longer
    ∙ mapped_push (λ (r : Symbol). ty r.kind) ty made longer kinds i s x
    (sym (map-map (λ (r : Interpretation). r.kind) interpretation made) ∙ same) pushed equal within is
