-- A cause that a `?` carries on.
use Rattle.std.proofs.Common.{◌≡◌, Result, Ok, Err, sym, subst}
use Rattle.std.specs.Prelude.{IsErrAnd}
use Rattle.wh_types.specs.declared.want.Or.{Or}
use Rattle.wh_types.specs.declared.want.Or.TheVariants.{NoMemory, Because}
use Rattle.wh_types.specs.Outcome.{MatchOr, IfBecause}

pub carried : {T U E : Type 0} (r : Result U (Or E)) (e : Or E) (M : T → Type 0) (P Q : E → Type 0) → IsErrAnd r (λ f. f ≡ e) → MatchOr {T = T} (Err e) M P → ((x : E) → P x → Q x) → IfBecause r Q
carried (Ok x) e M P Q err told weaker = absurd err
carried {U = U} (Err f) NoMemory M P Q err told weaker = subst (λ f. IfBecause {T = U} (Err f) Q) (sym err) tt
carried {U = U} (Err f) (Because x) M P Q err told weaker = subst (λ f. IfBecause {T = U} (Err f) Q) (sym err) (weaker x told)
