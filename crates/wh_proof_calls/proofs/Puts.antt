-- Meta-terms in which bodies are put for meta-variables and terms for loose variables, and the calls that are computable then.
use Rattle.std.proofs.Common.{◌≡◌, ℕ, List, Some, slice_get, map}
use Rattle.wh_types.specs.Ty.{Ty}
use Rattle.wh_terms.specs.Tree.{Tm, free, fun, spine}
use Rattle.wh_terms.specs.Substitution.{act}
use Rattle.wh_terms.specs.Typing.{Symbols}
use Rattle.wh_terms.specs.Value.{Body}
use Rattle.wh_terms.proofs.ValueForm.{value}
use Rattle.wh_step_laws.specs.Computable.{Computable, ComputableList}
use Rattle.wh_step_laws.proofs.Fundamental.{PutsComputable}
use Rattle.wh_order_extended.specs.Kinds.{arrows}
use Rattle.wh_pairs.specs.Calls.{Call}

-- the value of t under g, with the terms σ for its loose variables
abbrev pub inst : (ℕ → Body) → (ℕ → Tm) → Tm → Tm
inst g σ t = act σ free (value g t)

-- each instance of the call is computable whose arguments are, whatever computable terms stand for the binders around it
abbrev pub IsComputableCall : Symbols → (ℕ → ℕ) → (Tm → Tm → Type 0) → (ℕ → Body) → Call → Type 0
IsComputableCall S rank R g c = (τ : ℕ → Tm) → PutsComputable S rank R c.binders τ → (cs : List Ty) (b : Ty) → slice_get S.funs c.symbol ≡ Some (arrows cs b)
    → ComputableList S rank R cs (map (inst g τ) c.arguments) → Computable S rank R b (spine (fun c.symbol) (map (inst g τ) c.arguments))
