-- Without rules nothing but beta steps, every symbol is computable, and so every well-typed term is bounded.
use Rattle.std.proofs.Common.{ℕ, List, [], arith}
use Rattle.wh_types.specs.Ty.{Ty}
use Rattle.wh_terms.specs.Tree.{Tm}
use Rattle.wh_terms.specs.Typing.{Symbols, Typed}
use Rattle.wh_terms.specs.Rules.{RewriteRule, AreWellMade}
use Rattle.wh_terms.specs.StepOver.{StepOver}
use Rattle.wh_terms.proofs.TypingLaws.{typed_loose, typed_term}
use Rattle.wh_step.specs.Reduction.{Bounded}
use Rattle.wh_step.proofs.Instances.{Instance, instance_of}
use Rattle.wh_step_laws.specs.Ends.{Ends}
use Rattle.wh_step_laws.specs.RootRelations.{KnowsSorts}
use Rattle.wh_step_laws.proofs.Fundamental.{ComputableSymbols, typed-computable, candidate, typed-known}
use Rattle.wh_step_laws.proofs.Symbols.{HasNoRoot, still_computable}
use Rattle.wh_step_laws.proofs.SystemSteps.{instances_root, raw_ends-bounded}
use Rattle.wh_step_laws.proofs.Wider.{over_sorts, typed-wider, known_sorts}

-- where the symbols are computable, each well-typed term is bounded
pub symbols-bounded : {S : Symbols} {rules : List RewriteRule} → AreWellMade S rules → (rank : ℕ → ℕ) → KnowsSorts S → ComputableSymbols S rank (StepOver (Instance rules)) → (t : Tm) (a : Ty) → Typed S [] [] t a → Bounded rules t
symbols-bounded {S = S} {rules = rules} w rank known c t a p =
    let root = instances_root S rules w in
    let ends : Ends (StepOver (Instance rules)) t =
    (candidate root rank a (typed-known known (λ i b e. absurd (cc)) p)).ends t (typed-computable root rank known c p) in
    raw_ends-bounded w t (typed_loose p, typed_term t p) ends

no_rules : (S : Symbols) → AreWellMade S []
no_rules S = record {
  each = λ r (k, h, e). absurd (omega arith);
  even = λ r s (k, h, e) d q. absurd (omega arith);
}

no_root : (f : ℕ) → HasNoRoot (Instance []) f
no_root f t u (instance_of r g (k, h, e) x y d q) n = absurd (omega arith)

known_bounded : (S : Symbols) → KnowsSorts S → (t : Tm) (a : Ty) → Typed S [] [] t a → Bounded [] t
known_bounded S known t a p =
    let rank : ℕ → ℕ = λ s. 0 in
    symbols-bounded (no_rules S) rank known (λ f b e. still_computable (instances_root S [] (no_rules S)) rank known f b e (no_root f)) t a p

pub typed-bounded : (S : Symbols) (t : Tm) (a : Ty) → Typed S [] [] t a → Bounded [] t
typed-bounded S t a p = let (n, h, known) = known_sorts S in known_bounded (over_sorts n S) known t a (typed-wider n h p)
