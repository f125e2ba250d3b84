-- Computable terms: the four laws at every type, abstractions, and that computable symbols make every typed term computable.
use Rattle.std.proofs.Common.{◌≡◌, ℕ, zero, suc, List, [], ◌∷◌, Some, slice_get, sym, subst}
use Rattle.wh_types.specs.Ty.{Ty, sort, ◌⇒◌, SortsBelow}
use Rattle.wh_terms.specs.Tree.{Tm, bound, free, fun, lam}
use Rattle.wh_terms.specs.Substitution.{up, up_free, act, cons, opened}
use Rattle.wh_terms.specs.Typing.{Symbols, Typed, typed_bound, typed_free, typed_fun, typed_meta, typed_lam, typed_app}
use Rattle.wh_terms.specs.StepOver.{StepOver}
use Rattle.wh_terms.proofs.ActLaws.{act-id, opened-act}
use Rattle.wh_terms.proofs.TypingLaws.{some_one, typed-act, fits-free}
use Rattle.wh_step_laws.specs.RootRelations.{IsRoot, KnowsSorts}
use Rattle.wh_step_laws.specs.Computable.{Computable, ComputableBelow}
use Rattle.wh_step_laws.proofs.RankLaws.{Takes, computable-arrow, computable-sort}
use Rattle.wh_step_laws.proofs.Candidates.{Candidate, at_candidate, arrow_candidate, takes_abstraction, candidate_free}

-- computability is a candidate at each type
pub candidate : {S : Symbols} {R : Tm → Tm → Type 0} → IsRoot S R → (rank : ℕ → ℕ) (a : Ty) → SortsBelow S.sorts a → Candidate S (StepOver R) a (Computable S rank (StepOver R) a)
candidate {S = S} {R = R} root rank (sort s) known =
    subst (λ P. Candidate S (StepOver R) (sort s) P) (sym (computable-sort S rank (StepOver R) s)) (at_candidate S rank (StepOver R) (ComputableBelow S rank (StepOver R) (rank s)) s)
candidate {S = S} {R = R} root rank (a ⇒ b) known =
    subst (λ P. Candidate S (StepOver R) (a ⇒ b) P) (sym (computable-arrow S rank (StepOver R) a b))
    (arrow_candidate root known.0 (candidate root rank a known.0) (candidate root rank b known.1))

pub computable-takes : (S : Symbols) (rank : ℕ → ℕ) (R : Tm → Tm → Type 0) (a b : Ty) (t : Tm) → Computable S rank R (a ⇒ b) t → Takes S a b (Computable S rank R a) (Computable S rank R b) t
computable-takes S rank R a b t c = subst (λ P. P t) (computable-arrow S rank R a b) c

pub takes-computable : (S : Symbols) (rank : ℕ → ℕ) (R : Tm → Tm → Type 0) (a b : Ty) (t : Tm) → Takes S a b (Computable S rank R a) (Computable S rank R b) t → Computable S rank R (a ⇒ b) t
takes-computable S rank R a b t c = subst (λ P. P t) (sym (computable-arrow S rank R a b)) c

pub abstraction_computable : {S : Symbols} {R : Tm → Tm → Type 0} → IsRoot S R → (rank : ℕ → ℕ) (a b : Ty) → SortsBelow S.sorts a → SortsBelow S.sorts b → (t : Tm) → Typed S [] [] (lam a t) (a ⇒ b)
    → ((u : Tm) → Computable S rank (StepOver R) a u → Computable S rank (StepOver R) b (opened u t)) → Computable S rank (StepOver R) (a ⇒ b) (lam a t)
abstraction_computable {S = S} {R = R} root rank a b known k t p h = takes-computable S rank (StepOver R) a b (lam a t) (takes_abstraction root known (candidate root rank a known) (candidate root rank b k) t p h)

-- the sorts of the types of the loose variables are sorts of S
abbrev pub KnownTypes : Symbols → List Ty → Type 0
KnownTypes S Γ = (i : ℕ) (a : Ty) → slice_get Γ i ≡ Some a → SortsBelow S.sorts a

pub known_more : (S : Symbols) (Γ : List Ty) (a : Ty) → SortsBelow S.sorts a → KnownTypes S Γ → KnownTypes S (a ∷ Γ)
known_more S Γ a known h zero b e = subst (λ c. SortsBelow S.sorts c) (some_one e) known
known_more S Γ a known h (suc i) b e = h i b e

pub typed-known : {S : Symbols} {Γ : List Ty} {t : Tm} {a : Ty} → KnowsSorts S → KnownTypes S Γ → Typed S [] Γ t a → SortsBelow S.sorts a
typed-known k h (typed_bound {i = i} {a = a} e) = h i a e
typed-known k h (typed_free s) = s
typed-known k h (typed_fun {f = f} {a = a} e) = k f a e
typed-known k h (typed_meta e ts o) = absurd (cc)
typed-known {S = S} k h (typed_lam {Γ = Γ} {a = a} s p) = (s, typed-known k (known_more S Γ a s h) p)
typed-known k h (typed_app p q) = (typed-known k h p).1

-- what is put for the loose variables is computable
abbrev pub PutsComputable : Symbols → (ℕ → ℕ) → (Tm → Tm → Type 0) → List Ty → (ℕ → Tm) → Type 0
PutsComputable S rank R Γ σ = (i : ℕ) (a : Ty) → slice_get Γ i ≡ Some a → Computable S rank R a (σ i)

pub puts_more : (S : Symbols) (rank : ℕ → ℕ) (R : Tm → Tm → Type 0) (Γ : List Ty) (a : Ty) (u : Tm) (σ : ℕ → Tm) → Computable S rank R a u → PutsComputable S rank R Γ σ → PutsComputable S rank R (a ∷ Γ) (cons u σ)
unfolding cons
puts_more S rank R Γ a u σ c h zero b e = subst (λ b. Computable S rank R b u) (some_one e) c
puts_more S rank R Γ a u σ c h (suc i) b e = h i b e

-- the symbols of S are computable
abbrev pub ComputableSymbols : Symbols → (ℕ → ℕ) → (Tm → Tm → Type 0) → Type 0
ComputableSymbols S rank R = (f : ℕ) (a : Ty) → slice_get S.funs f ≡ Some a → Computable S rank R a (fun f)

-- where the symbols are computable a typed tree with computable terms for its loose variables is
pub fundamental : {S : Symbols} {R : Tm → Tm → Type 0} {Γ : List Ty} {t : Tm} {a : Ty} → IsRoot S R → (rank : ℕ → ℕ) → KnowsSorts S → ComputableSymbols S rank (StepOver R)
    → (σ : ℕ → Tm) → KnownTypes S Γ → PutsComputable S rank (StepOver R) Γ σ → Typed S [] Γ t a → Computable S rank (StepOver R) a (act σ free t)
unfolding act
fundamental root rank k c σ known h (typed_bound {i = i} {a = a} e) = h i a e
fundamental root rank k c σ known h (typed_free {x = x} {a = a} s) = candidate_free root (candidate root rank a s) s x
fundamental root rank k c σ known h (typed_fun {f = f} {a = a} e) = c f a e
fundamental root rank k c σ known h (typed_meta e ts o) = absurd (cc)
fundamental {S = S} {R = R} root rank k c σ known h (typed_lam {Γ = Γ} {a = a} {b = b} {t = t} s p) =
    let more : KnownTypes S (a ∷ Γ) = known_more S Γ a s known in
    let typed : Typed S [] [] (act σ free (lam a t)) (a ⇒ b) = typed-act [] σ free (λ i d e. (candidate root rank d (known i d e)).typed (σ i) (h i d e)) (fits-free []) (typed_lam s p) in
    abstraction_computable root rank a b s (typed-known k more p) (act (up σ) (up_free free) t) typed
    (λ u q. subst (λ v. Computable S rank (StepOver R) b v) (sym (opened-act u σ free t)) (fundamental root rank k c (cons u σ) more (puts_more S rank (StepOver R) Γ a u σ q h) p))
fundamental {S = S} {R = R} root rank k c σ known h (typed_app {a = a} {b = b} {t = t} {u = u} p q) =
    (computable-takes S rank (StepOver R) a b (act σ free t) (fundamental root rank k c σ known h p)).1 (act σ free u) (fundamental root rank k c σ known h q)

-- where the symbols are computable each well-typed term is
pub typed-computable : {S : Symbols} {R : Tm → Tm → Type 0} {t : Tm} {a : Ty} → IsRoot S R → (rank : ℕ → ℕ) → KnowsSorts S → ComputableSymbols S rank (StepOver R) → Typed S [] [] t a → Computable S rank (StepOver R) a t
typed-computable {S = S} {R = R} {t = t} {a = a} root rank k c p =
    subst (λ v. Computable S rank (StepOver R) a v) (act-id t) (fundamental root rank k c bound (λ i b e. absurd (cc)) (λ i b e. absurd (cc)) p)
