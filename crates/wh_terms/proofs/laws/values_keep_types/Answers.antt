-- The value is the one that the function gives, which is typed.
use Rattle.std.proofs.Common.{sym, subst}
use Rattle.wh_terms.specs.Typing.{Typed}
use Rattle.wh_terms.proofs.ValueLaws.{value_is}
use Rattle.wh_terms.proofs.ValueTyping.{typed-value}
use Rattle.wh_terms.proofs.laws.values_keep_types.Goals as goal

pub returns : goal.returns
returns c S M N Γ g m v a typed bodies value =
    let is = value_is value in
    subst (λ w. Typed S N Γ w a) (sym is.1) (typed-value g typed bodies)
