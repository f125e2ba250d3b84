-- Every typed term over a signature with one sort ends by steps of the order and of beta.
use Rattle.std.proofs.Common.{◌≡◌, ℕ, zero, suc, ◌≤◌, ◌+◌, List, [], ◌∷◌, length, map, refl, ap, ap₂, ◌∙◌, sym, subst, Some, slice_get, arith}
use Rattle.wh_types.specs.Ty.{Ty, arguments}
use Rattle.wh_terms.specs.Tree.{Tm, meta, tms_of, spine}
use Rattle.wh_terms.specs.Typing.{Symbols, Declared, Typed, AllTyped, typed_none, typed_more}
use Rattle.wh_terms.specs.StepOver.{StepOver}
use Rattle.wh_terms.proofs.TypingLaws.{typed_one, some_one}
use Rattle.wh_step_laws.specs.Ends.{Ends}
use Rattle.wh_step_laws.specs.RootRelations.{KnowsSorts}
use Rattle.wh_step_laws.specs.Computable.{Computable, ComputableList}
use Rattle.wh_step_laws.proofs.SystemComputable.{computable-typed, known_type}
use Rattle.wh_order_extended.specs.Filtered.{HasOneSort}
use Rattle.wh_order_path.specs.Heads.{nearest, abstracted}
use Rattle.wh_order_path.proofs.OrderSteps.{inst, Root}
use Rattle.wh_order_extended.specs.Kinds.{arrows}
use Rattle.wh_order_extended.proofs.TypeLists.{computable-spine, list-typed}
use Rattle.wh_order_path.proofs.Symbols.{good_many, MetasGood, order_ends}
use Rattle.wh_order_path.proofs.Roots.{meta_steps, abstraction_type}
use Rattle.wh_order_path.proofs.RootTyping.{root_is, terms_in, meta_declared}

types_one : {S : Symbols} {M : List Declared} {Γ : List Ty} (ts : List Tm) (cs ds : List Ty) → AllTyped S M Γ (tms_of ts) cs → AllTyped S M Γ (tms_of ts) ds → cs ≡ ds
types_one [] [] [] typed_none typed_none = refl
types_one [] [] (d ∷ ds) p q = elim q [ ]
types_one [] (c ∷ cs) ds p q = elim p [ ]
types_one (t ∷ ts) [] ds p q = elim p [ ]
types_one (t ∷ ts) (c ∷ cs) [] p q = elim q [ ]
types_one (t ∷ ts) (c ∷ cs) (d ∷ ds) (typed_more p ps) (typed_more q qs) = ap₂ (λ c cs. c ∷ cs) (typed_one p q) (types_one ts cs ds ps qs)

most_of : List Ty → ℕ
most_of [] = 0
most_of (a ∷ l) = length (arguments a) + most_of l

at_most : (l : List Ty) (f : ℕ) (b : Ty) → slice_get l f ≡ Some b → length (arguments b) ≤ most_of l
unfolding most_of
at_most [] f b e = absurd (cc)
at_most (a ∷ l) zero b e = subst (λ c. length (arguments c) ≤ length (arguments a) + most_of l) (some_one e) (omega arith)
at_most (a ∷ l) (suc f) b e = omega (arith, at_most l f b e)

module _ (F : Symbols) (prec : ℕ → ℕ) (known : KnowsSorts F) (one_sort : HasOneSort F) where
  metas_good : MetasGood F prec (root_is F prec) known (most_of F.funs) (at_most F.funs)
  metas_good M g φ z cs ds b us len counted q rs good k p c =
      let (dd, slot, ps, out) = meta_declared F prec q in
      let (dc, slot', args, shape) = abstraction_type cs z k p in
      let one : dc ≡ dd = some_one (sym slot' ∙ slot) in
      let same : ds ≡ dd.args = types_one us ds dd.args rs ps in
      let good' : ComputableList F (λ s. 0) (StepOver (Root F prec)) dd.args (map (inst g φ) us) = subst (λ l. ComputableList F (λ s. 0) (StepOver (Root F prec)) l (map (inst g φ) us)) same good in
      let whole = computable-spine F (λ s. 0) (StepOver (Root F prec)) dd.args b (inst g φ (abstracted cs (meta z (nearest (length cs))))) (map (inst g φ) us)
      (subst (λ k. Computable F (λ s. 0) (StepOver (Root F prec)) k (inst g φ (abstracted cs (meta z (nearest (length cs)))))) (shape ∙ ap₂ arrows (sym args ∙ ap (λ d. d.args) one) (ap (λ d. d.out) one ∙ sym out)) c) good' in
      good_many F prec (root_is F prec) known (most_of F.funs) (at_most F.funs) b (known_type known (computable-typed F (λ s. 0) (StepOver (Root F prec)) b (spine (inst g φ (abstracted cs (meta z (nearest (length cs))))) (map (inst g φ) us)) whole)) whole
      (meta_steps g φ cs z k us counted len (terms_in F prec (map (inst g φ) us) dd.args (list-typed F (λ s. 0) (StepOver (Root F prec)) dd.args (map (inst g φ) us) good')) p)

  -- the path order with beta ends
  pub path_order_ends : (t : Tm) (a : Ty) → Typed F [] [] t a → Ends (StepOver (Root F prec)) t
  path_order_ends t a p = order_ends F prec (root_is F prec) known (most_of F.funs) (at_most F.funs) metas_good one_sort t a p
