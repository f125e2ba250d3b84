-- Sequences of steps and direct subterms: those that begin with a reduction, and with an argument of a spine.
use Rattle.std.proofs.Common.{◌≡◌, ℕ, zero, suc, ◌<◌, ◌≤◌, List, [], ◌∷◌, inl, inr, length, Some, slice_get, subst, arith}
use Rattle.wh_types.specs.Ty.{Ty}
use Rattle.wh_terms.specs.Tree.{Tm, app, spine}
use Rattle.wh_terms.specs.Typing.{Symbols, Typed}
use Rattle.wh_terms.specs.Rules.{RewriteRule, AreWellMade}
use Rattle.wh_terms.proofs.TypingLaws.{some_one, typed_loose, typed_term}
use Rattle.wh_step.specs.Step.{Step}
use Rattle.wh_step.specs.Reduction.{Walk, last_of, Bounded}
use Rattle.wh_step_laws.specs.Ends.{Longest}
use Rattle.wh_step_laws.specs.DirectSubterms.{function_part, argument_part, StepOrPart}
use Rattle.wh_step_laws.proofs.SystemSteps.{bounded-parts}
use Rattle.wh_law_computability.specs.ByNumbers.{NoLonger}

-- a sequence from t that is at least as long as m, or longer
abbrev pub AsLong : (Tm → Tm → Type 0) → Tm → List Tm → Type 0
AsLong R t m = (o : List Tm) × Walk (StepOrPart R) t o × (length m ≤ length o)

abbrev pub Longer : (Tm → Tm → Type 0) → Tm → List Tm → Type 0
Longer R t m = (o : List Tm) × Walk (StepOrPart R) t o × (length m < length o)

-- a sequence from what a reduction leads to, with the reduction before it
steps_first : {R : Tm → Tm → Type 0} (t : Tm) (l m : List Tm) → Walk R t l → Walk (StepOrPart R) (last_of t l) m → AsLong R t m
steps_first t [] m w v = (m, v, omega arith)
steps_first t (u ∷ l) m w v = let (o, x, le) = steps_first u l m w.1 v in (u ∷ o, (inl w.0, x), omega arith)

-- a sequence from the head of a spine is one from the spine
head_first : {R : Tm → Tm → Type 0} (h : Tm) (ts m : List Tm) → Walk (StepOrPart R) h m → AsLong R (spine h ts) m
head_first h [] m w = (m, w, omega arith)
head_first h (t ∷ ts) m w =
    let (o, x, le) = head_first (app h t) ts (h ∷ m) (inr function_part, w) in
    (o, x, omega arith)

-- one from an argument of a spine is shorter than one from the spine
argument_first : {R : Tm → Tm → Type 0} (h : Tm) (ts : List Tm) (i : ℕ) (u : Tm) (m : List Tm) → slice_get ts i ≡ Some u
    → Walk (StepOrPart R) u m → Longer R (spine h ts) m
argument_first h [] i u m e w = absurd (cc)
argument_first {R = R} h (t ∷ ts) zero u m e w =
    let v : Walk (StepOrPart R) t m = subst (λ x. Walk (StepOrPart R) x m) (some_one (sym_some e)) w in
    let (o, x, le) = head_first (app h t) ts (t ∷ m) (inr argument_part, v) in
    (o, x, omega arith)
  where
    sym_some : Some t ≡ Some u → Some u ≡ Some t
    sym_some d = cc
argument_first h (t ∷ ts) (suc i) u m e w = argument_first (app h t) ts i u m e w

-- an argument that a term reduces to has shorter sequences
pub argument_shorter : {rules : List RewriteRule} (t h : Tm) (l ts : List Tm) (i n : ℕ) (u : Tm) → Walk (Step rules) t l
    → last_of t l ≡ spine h ts → slice_get ts i ≡ Some u → NoLonger rules n t → (m : List Tm) → Walk (StepOrPart (Step rules)) u m
    → length m < n
argument_shorter {rules = rules} t h l ts i n u w e at best m v =
    let (o, x, less) = argument_first h ts i u m at v in
    let (k, y, le) = steps_first t l o w (subst (λ z. Walk (StepOrPart (Step rules)) z o) (back e) x) in
    let h = best k y in
    omega arith
  where
    back : last_of t l ≡ spine h ts → spine h ts ≡ last_of t l
    back d = cc

-- a bounded term has a bound on its sequences
pub some_bound : {S : Symbols} {rules : List RewriteRule} → AreWellMade S rules → (t : Tm) (a : Ty) → Typed S [] [] t a → Bounded rules t
    → (n : ℕ) × NoLonger rules n t
some_bound {rules = rules} made t a p b =
    let best : Longest (StepOrPart (Step rules)) t = bounded-parts made t (typed_loose p, typed_term t p) b in
    (length best.walk, best.longest)
