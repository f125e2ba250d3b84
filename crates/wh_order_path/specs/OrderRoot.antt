-- The path order as a relation at the root of steps: instances of an inference at a symbol.
use Rattle.std.specs.Prelude.{ℕ, ◌≡◌, List, []}
use Rattle.wh_types.specs.Ty.{Ty, sort}
use Rattle.wh_terms.specs.Tree.{Tm, bound, fun, spine}
use Rattle.wh_terms.specs.Substitution.{act}
use Rattle.wh_terms.specs.Typing.{Symbols, Declared, Typed}
use Rattle.wh_terms.specs.Value.{Body, Value}
use Rattle.wh_terms.specs.StepOver.{AreFreeTerms}
use Rattle.wh_order_extended.specs.Kinds.{AreCounted}
use Rattle.wh_order_inference.specs.Inferences.{Inference}
use Rattle.wh_order_path.specs.Order.{Above}

-- U and V are instances of two trees `left` and `right` of the one sort, `left` is above `right`, and no binder was
-- passed: terms stand for the free variables, and the bodies for the meta-variables. That `left` is above `right` is
-- kept by no substitution; so the instances are what is related, and of the bodies no type is asked (ours)
pub record OrderRoot (F : Symbols) (prec : ℕ → ℕ) (U V : Tm) : Type 0 where
  pub metas : List Declared
  pub bodies : ℕ → Body
  pub frees : ℕ → Ty → Tm
  pub left : Tm
  pub right : Tm
  pub inference : Inference
  pub symbol : ℕ
  pub given : List Tm
  pub headed : left ≡ spine (fun symbol) given
  pub counted : AreCounted metas bodies
  pub terms : AreFreeTerms frees
  pub typed_left : Typed F metas [] left (sort 0)
  pub typed_right : Typed F metas [] right (sort 0)
  pub above : Above F prec metas left [] right inference
  pub is_left : Value bodies (act bound frees left) U
  pub is_right : Value bodies (act bound frees right) V
