-- The longest sequence of steps and direct subterms: it is one number, and it is smaller from a proper part.
use Rattle.std.proofs.Common.{◌≡◌, ℕ, ◌<◌, List, [], ◌∷◌, inl, inr, length, refl, arith}
use Rattle.wh_terms.specs.Tree.{Tm, app}
use Rattle.wh_terms.specs.Value.{Body}
use Rattle.wh_terms.specs.Typing.{Symbols}
use Rattle.wh_terms.specs.Rules.{RewriteRule, AreWellMade}
use Rattle.wh_terms.proofs.ValueForm.{value}
use Rattle.wh_step.specs.Step.{Step}
use Rattle.wh_step.specs.Reduction.{Walk, Bounded}
use Rattle.wh_step_laws.specs.Ends.{Longest}
use Rattle.wh_step_laws.specs.DirectSubterms.{function_part, argument_part, StepOrPart}
use Rattle.wh_step_laws.proofs.SystemSteps.{IsShutTerm, shut-step, bounded-parts}
use Rattle.wh_subterm.specs.ProperParts.{Argument, last, front, Part, argument, deeper}
use Rattle.wh_law_projection.specs.LongestSequences.{IsLongestFrom}

-- each sequence from u is shorter than one from t
abbrev pub Deeper : (Tm → Tm → Type 0) → Tm → Tm → Type 0
Deeper R t u = (l : List Tm) → Walk R u l → (m : List Tm) × Walk R t m × (length l < length m)

pub deeper_one : {R : Tm → Tm → Type 0} (t u : Tm) → R t u → Deeper R t u
deeper_one t u r l w = (u ∷ l, (r, w), omega arith)

deeper_join : {R : Tm → Tm → Type 0} (t u v : Tm) → Deeper R t u → Deeper R u v → Deeper R t v
deeper_join t u v h k l w =
    let (m, x, less) = k l w in
    let (o, y, more) = h m x in
    (o, y, omega arith)

-- the values of the parts of a meta-term are deeper than its own value

argument_deeper : {R : Tm → Tm → Type 0} {u t : Tm} (g : ℕ → Body) → Argument u t → Deeper (StepOrPart R) (value g t) (value g u)
unfolding value
argument_deeper g (last {t = t} {u = u}) = deeper_one (value g (app t u)) (value g u) (inr argument_part)
argument_deeper g (front {t = t} {u = u} {v = v} at) =
    deeper_join (value g (app t v)) (value g t) (value g u) (deeper_one (value g (app t v)) (value g t) (inr function_part))
    (argument_deeper g at)

pub part_deeper : {R : Tm → Tm → Type 0} {u t : Tm} (g : ℕ → Body) → Part u t → Deeper (StepOrPart R) (value g t) (value g u)
part_deeper g (argument headed at) = argument_deeper g at
part_deeper g (deeper {t = t} {u = u} {v = v} headed at part) =
    deeper_join (value g t) (value g v) (value g u) (argument_deeper g at) (part_deeper g part)

argument_shut : {u t : Tm} (g : ℕ → Body) → Argument u t → IsShutTerm (value g t) → IsShutTerm (value g u)
unfolding value
argument_shut g last (l, p) = (l.1, p.1)
argument_shut g (front at) (l, p) = argument_shut g at (l.0, p.0)

pub part_shut : {u t : Tm} (g : ℕ → Body) → Part u t → IsShutTerm (value g t) → IsShutTerm (value g u)
part_shut g (argument headed at) c = argument_shut g at c
part_shut g (deeper headed at part) c = part_shut g part (argument_shut g at c)

-- a longest sequence from a bounded term
pub longest_from : {S : Symbols} {rules : List RewriteRule} → AreWellMade S rules → (t : Tm) → IsShutTerm t → Bounded rules t
    → (n : ℕ) × IsLongestFrom rules t n
longest_from {rules = rules} made t c b =
    let best : Longest (StepOrPart (Step rules)) t = bounded-parts made t c b in
    (length best.walk, record { sequence = best.walk; walked = best.walked; long = refl; longest = best.longest })

pub longest_one : {rules : List RewriteRule} (t : Tm) (n m : ℕ) → IsLongestFrom rules t n → IsLongestFrom rules t m → n ≡ m
longest_one t n m a b =
    let h = b.longest a.sequence a.walked in
    let k = a.longest b.sequence b.walked in
    let e = a.long in
    let d = b.long in
    omega arith

-- a reduction is a sequence of steps and direct subterms
steps_alone : (rules : List RewriteRule) (t : Tm) (l : List Tm) → Walk (Step rules) t l → Walk (StepOrPart (Step rules)) t l
steps_alone rules t [] w = tt
steps_alone rules t (u ∷ l) w = (inl w.0, steps_alone rules u l w.1)

-- what is deeper has a longest sequence, a shorter one
pub deeper_length : {S : Symbols} {rules : List RewriteRule} → AreWellMade S rules → (t u : Tm) (n : ℕ) → IsShutTerm u
    → Deeper (StepOrPart (Step rules)) t u → IsLongestFrom rules t n → (m : ℕ) × IsLongestFrom rules u m × (m < n)
deeper_length {rules = rules} made t u n c deep best =
    let (m, is) = longest_from made u c bound in
    let (o, w, less) = deep is.sequence is.walked in
    let h = best.longest o w in
    let e = is.long in
    (m, is, omega arith)
  where
    bound : Bounded rules u
    bound = (n, λ l w. let (o, v, less) = deep l (steps_alone rules u l w) in let h = best.longest o v in omega arith)

-- so has what the term steps to
pub step_length : {S : Symbols} {rules : List RewriteRule} → AreWellMade S rules → (t u : Tm) (n : ℕ) → IsShutTerm t → Step rules t u
    → IsLongestFrom rules t n → (m : ℕ) × IsLongestFrom rules u m × (m < n)
step_length made t u n c s best = deeper_length made t u n (shut-step made t u c s) (deeper_one t u (inl s)) best
