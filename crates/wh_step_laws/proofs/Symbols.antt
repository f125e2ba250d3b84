-- Computable symbols: what is accessible in a computable term, and symbols without steps at the root.
use Rattle.std.proofs.Common.{◌≡◌, ℕ, zero, suc, ◌<◌, List, [], ◌∷◌, ◌++◌, ◌⊎◌, inl, inr, Some, slice_get, refl, ap, sym, ◌∙◌, subst, append-nil, append_assoc, arith, eq-or-lt_of_le}
use Rattle.std.specs.List.{AllByRecursion}
use Rattle.wh_types.specs.Ty.{Ty, sort, ◌⇒◌, arguments, SortsBelow}
use Rattle.wh_terms.specs.Tree.{Tm, fun, app, spine, head}
use Rattle.wh_terms.specs.Typing.{Symbols, Typed, typed_fun, typed_app}
use Rattle.wh_terms.specs.StepOver.{StepOver}
use Rattle.wh_terms.proofs.TypingLaws.{some_one}
use Rattle.wh_terms.proofs.StepOver.{over-typed}
use Rattle.wh_step_laws.specs.Ends.{Ends, ends, StepsIn, step_here, step_there}
use Rattle.wh_step_laws.specs.Ranks.{RanksBelow, PlaceHas, IsAccessibleIn}
use Rattle.wh_step_laws.specs.RootRelations.{IsRoot, KnowsSorts}
use Rattle.wh_step_laws.specs.Computable.{ComputableAt, computable_at, ComputableBelow, Computable, ComputableList}
use Rattle.wh_step_laws.specs.Spines.{ArgumentStep, FrontStep}
use Rattle.wh_step_laws.proofs.EndsLaws.{ends-list}
use Rattle.wh_step_laws.proofs.RankLaws.{below_computable, computable-sort}
use Rattle.wh_step_laws.proofs.Candidates.{head-spine}
use Rattle.wh_step_laws.proofs.Fundamental.{candidate, takes-computable}
use Rattle.wh_step_laws.proofs.Spines.{spine_one, spine-append, symbol_step}

-- an argument of a sort of equal rank is computable exactly where the family for that rank has it
pub equal_rank : (S : Symbols) (rank : ℕ → ℕ) (R : Tm → Tm → Type 0) (r s : ℕ) → rank r ≡ rank s → Computable S rank R (sort r) ≡ ComputableAt S rank R (ComputableBelow S rank R (rank s)) r
equal_rank S rank R r s e = computable-sort S rank R r ∙ ap {B = Tm → Type 0} (λ k. ComputableAt S rank R (ComputableBelow S rank R k) r) e

-- arguments at accessible places are computable, with what the family says of them
accessible_at : (S : Symbols) (rank : ℕ → ℕ) (R : Tm → Tm → Type 0) (s : ℕ) (f i : ℕ) (a : Ty) (ts : List Tm) (t u : Tm) → ComputableAt S rank R (ComputableBelow S rank R (rank s)) s t → t ≡ spine (fun f) ts
    → PlaceHas S f i a → IsAccessibleIn rank s a → slice_get ts i ≡ Some u → Computable S rank R a u
accessible_at S rank R s f i (sort r) ts t u (computable_at p h k l) e place acc at = by_rank (eq-or-lt_of_le acc)
  where
    by_rank : (rank r ≡ rank s) ⊎ (rank r < rank s) → Computable S rank R (sort r) u
    by_rank (inl same) = subst (λ P. P u) (sym (equal_rank S rank R r s same)) (k f i r ts u e place same at)
    by_rank (inr less) = subst (λ P. P u) (below_computable S rank R (rank s) (sort r) less) (l f i (sort r) ts u e place less at)
accessible_at S rank R s f i (a ⇒ b) ts t u (computable_at p h k l) e place acc at =
    subst (λ P. P u) (below_computable S rank R (rank s) (a ⇒ b) acc) (l f i (a ⇒ b) ts u e place acc at)

-- arguments at accessible places of computable terms are computable
pub accessible_computable : (S : Symbols) (rank : ℕ → ℕ) (R : Tm → Tm → Type 0) (s : ℕ) (f i : ℕ) (a : Ty) (ts : List Tm) (u : Tm) → Computable S rank R (sort s) (spine (fun f) ts)
    → PlaceHas S f i a → IsAccessibleIn rank s a → slice_get ts i ≡ Some u → Computable S rank R a u
accessible_computable S rank R s f i a ts u c place acc at =
    accessible_at S rank R s f i a ts (spine (fun f) ts) u (subst (λ P. P (spine (fun f) ts)) (computable-sort S rank R s) c) refl place acc at

-- a term of a sort is computable if it is typed, its reducts are computable, and what is accessible in it is
pub sort_computable : (S : Symbols) (rank : ℕ → ℕ) (R : Tm → Tm → Type 0) (s : ℕ) (t : Tm) → Typed S [] [] t (sort s) → ((u : Tm) → R t u → Computable S rank R (sort s) u)
    → ((f i : ℕ) (a : Ty) (ts : List Tm) (u : Tm) → t ≡ spine (fun f) ts → PlaceHas S f i a → IsAccessibleIn rank s a → slice_get ts i ≡ Some u → Computable S rank R a u) → Computable S rank R (sort s) t
sort_computable S rank R s t p h k =
    subst (λ P. P t) (sym (computable-sort S rank R s)) (computable_at p
    (λ u r. subst (λ P. P u) (computable-sort S rank R s) (h u r))
    (λ f i r ts u e place same at. subst (λ P. P u) (equal_rank S rank R r s same) (k f i (sort r) ts u e place (omega arith) at))
    (λ f i a ts u e place low at. subst (λ P. P u) (sym (below_computable S rank R (rank s) a low)) (k f i a ts u e place (low_accessible a low) at)))
  where
    low_accessible : (a : Ty) → RanksBelow rank (rank s) a → IsAccessibleIn rank s a
    low_accessible (sort r) low = omega arith
    low_accessible (a ⇒ b) low = low

pub list_at : (S : Symbols) (rank : ℕ → ℕ) (R : Tm → Tm → Type 0) (cs : List Ty) (ts : List Tm) (i : ℕ) (a : Ty) (u : Tm) → ComputableList S rank R cs ts → slice_get cs i ≡ Some a → slice_get ts i ≡ Some u → Computable S rank R a u
list_at S rank R [] ts i a u h e d = absurd (cc)
list_at S rank R (c ∷ cs) [] i a u h e d = absurd (cc)
list_at S rank R (c ∷ cs) (t ∷ ts) zero a u h e d =
    subst (λ a. Computable S rank R a u) (some_one e) (subst (Computable S rank R c) (some_one d) h.1)
list_at S rank R (c ∷ cs) (t ∷ ts) (suc i) a u h e d = list_at S rank R cs ts i a u h.2 e d

pub list_ends : {S : Symbols} {R : Tm → Tm → Type 0} → IsRoot S R → (rank : ℕ → ℕ) (cs : List Ty) (ts : List Tm) → ComputableList S rank (StepOver R) cs ts → AllByRecursion (Ends (StepOver R)) ts
list_ends root rank [] [] h = tt
list_ends root rank [] (t ∷ ts) h = absurd h
list_ends root rank (c ∷ cs) [] h = absurd h
list_ends root rank (c ∷ cs) (t ∷ ts) h = ((candidate root rank c h.0).ends t h.1, list_ends root rank cs ts h.2)

pub list_step : {S : Symbols} {R : Tm → Tm → Type 0} {ts us : List Tm} → IsRoot S R → (rank : ℕ → ℕ) (cs : List Ty) → ComputableList S rank (StepOver R) cs ts → StepsIn (StepOver R) ts us → ComputableList S rank (StepOver R) cs us
list_step root rank [] h (step_here s) = absurd h
list_step root rank [] h (step_there s) = absurd h
list_step root rank (c ∷ cs) h (step_here {a = t} {b = u} s) = (h.0, (candidate root rank c h.0).step t u h.1 s, h.2)
list_step root rank (c ∷ cs) h (step_there s) = (h.0, h.1, list_step root rank cs h.2 s)

pub list_more : (S : Symbols) (rank : ℕ → ℕ) (R : Tm → Tm → Type 0) (cs : List Ty) (ts : List Tm) (a : Ty) (u : Tm) → ComputableList S rank R cs ts → SortsBelow S.sorts a → Computable S rank R a u
    → ComputableList S rank R (cs ++ a ∷ []) (ts ++ u ∷ [])
list_more S rank R [] [] a u h k c = (k, c, tt)
list_more S rank R [] (t ∷ ts) a u h k c = absurd h
list_more S rank R (d ∷ cs) [] a u h k c = absurd h
list_more S rank R (d ∷ cs) (t ∷ ts) a u h k c = (h.0, h.1, list_more S rank R cs ts a u h.2 k c)

-- R relates nothing that the symbol f heads
abbrev pub HasNoRoot : (Tm → Tm → Type 0) → ℕ → Type 0
HasNoRoot R f = (t u : Tm) → R t u → head t ≡ fun f → ⊥

-- The symbol with all its arguments: by induction on these, one of which steps at a time.
pub still_at_sort : {S : Symbols} {R : Tm → Tm → Type 0} → IsRoot S R → (rank : ℕ → ℕ) (f s : ℕ) (b : Ty) → slice_get S.funs f ≡ Some b → HasNoRoot R f → (ts : List Tm) → Typed S [] [] (spine (fun f) ts) (sort s)
    → ComputableList S rank (StepOver R) (arguments b) ts → Ends (StepsIn (StepOver R)) ts → Computable S rank (StepOver R) (sort s) (spine (fun f) ts)
still_at_sort {S = S} {R = R} root rank f s b e none ts p h (ends k) =
    sort_computable S rank (StepOver R) s (spine (fun f) ts) p (λ v r. reduct v r (λ us m q. still_at_sort root rank f s b e none us q (list_step root rank (arguments b) h m) (k us m)) (symbol_step f ts r)) argument
  where
    reduct : (v : Tm) → StepOver R (spine (fun f) ts) v → ((us : List Tm) → StepsIn (StepOver R) ts us → Typed S [] [] (spine (fun f) us) (sort s) → Computable S rank (StepOver R) (sort s) (spine (fun f) us))
        → ArgumentStep (StepOver R) (fun f) ts v ⊎ FrontStep R (fun f) ts v → Computable S rank (StepOver R) (sort s) v
    reduct v r again (inl (us, m, d)) =
        subst (Computable S rank (StepOver R) (sort s)) (sym d) (again us m (subst (λ v. Typed S [] [] v (sort s)) d (over-typed S root.typed [] (sort s) r p)))
    reduct v r again (inr (us, ws, w, c, i, d)) = absurd (none (spine (fun f) us) w i (head-spine (fun f) us))

    argument : (g i : ℕ) (a : Ty) (us : List Tm) (u : Tm) → spine (fun f) ts ≡ spine (fun g) us → PlaceHas S g i a → IsAccessibleIn rank s a → slice_get us i ≡ Some u → Computable S rank (StepOver R) a u
    argument g i a us u d (c, q, o) acc at =
        let (same, list) = spine_one f g ts us d in
        let one : b ≡ c = some_one (sym e ∙ ap (slice_get S.funs) same ∙ q) in
        list_at S rank (StepOver R) (arguments b) ts i a u h (ap (λ c. slice_get (arguments c) i) one ∙ o) (ap (λ l. slice_get l i) list ∙ at)

-- The symbol with its first arguments: by recursion on the type that is left.
still_at : {S : Symbols} {R : Tm → Tm → Type 0} → IsRoot S R → (rank : ℕ → ℕ) (f : ℕ) (b : Ty) → slice_get S.funs f ≡ Some b → HasNoRoot R f → (a : Ty) → SortsBelow S.sorts a → (cs : List Ty) → arguments b ≡ cs ++ arguments a
    → (ts : List Tm) → Typed S [] [] (spine (fun f) ts) a → ComputableList S rank (StepOver R) cs ts → Computable S rank (StepOver R) a (spine (fun f) ts)
still_at {S = S} {R = R} root rank f b e none (sort s) known cs d ts p h =
    let all : ComputableList S rank (StepOver R) (arguments b) ts = subst (λ cs. ComputableList S rank (StepOver R) cs ts) (sym (append-nil cs) ∙ sym d) h in
    still_at_sort root rank f s b e none ts p all (ends-list ts (list_ends root rank (arguments b) ts all))
still_at {S = S} {R = R} root rank f b e none (c ⇒ a) known cs d ts p h =
    takes-computable S rank (StepOver R) c a (spine (fun f) ts) (
      p,
      λ u q.
          let more : Typed S [] [] (app (spine (fun f) ts) u) a = typed_app p ((candidate root rank c known.0).typed u q) in
          let back : spine (fun f) (ts ++ u ∷ []) ≡ app (spine (fun f) ts) u = spine-append (fun f) ts (u ∷ []) in
          subst (Computable S rank (StepOver R) a) back
          (still_at root rank f b e none a known.1 (cs ++ c ∷ []) (d ∙ sym (append_assoc cs (c ∷ []) (arguments a))) (ts ++ u ∷ []) (subst (λ v. Typed S [] [] v a) (sym back) more)
          (list_more S rank (StepOver R) cs ts c u h known.0 q)),
    )

-- a symbol without steps at the root is computable
pub still_computable : {S : Symbols} {R : Tm → Tm → Type 0} → IsRoot S R → (rank : ℕ → ℕ) → KnowsSorts S → (f : ℕ) (b : Ty) → slice_get S.funs f ≡ Some b → HasNoRoot R f → Computable S rank (StepOver R) b (fun f)
still_computable root rank known f b e none = still_at root rank f b e none b (known f b e) [] refl [] (typed_fun e) tt
