-- The term that a text gives: there is one at most, and it stays well typed as it reduces.
use Rattle.std.proofs.Common.{◌≡◌, ℕ, List, [], ◌∷◌, Option, Some, None, Result, Ok, Err, IfOk, refl, sym, ◌∙◌, subst}
use Rattle.std.specs.declared.alloc.AllocError.{AllocError}
use Rattle.wh_types.specs.Ty.{Ty}
use Rattle.wh_terms.specs.Tree.{Tm}
use Rattle.wh_terms.specs.Measures.{Fits}
use Rattle.wh_terms.specs.Sight.{LooseBelow, IsTerm}
use Rattle.wh_terms.specs.Erase.{tm}
use Rattle.wh_terms.specs.declared.term.Term.{Term}
use Rattle.wh_terms.specs.Typing.{Symbols, Typed, WellTyped}
use Rattle.wh_terms.specs.Rules.{RewriteRule, AreWellMade}
use Rattle.wh_terms.proofs.StepOver.{over-typed}
use Rattle.wh_terms.proofs.TypingLaws.{typed_loose, typed_term}
use Rattle.wh_text.specs.RawTree.{RTm}
use Rattle.wh_step.specs.Reduction.{Walk, last_of}
use Rattle.wh_step.proofs.Instances.{instances_typed}
use Rattle.wh_step.proofs.RawStep.{step_raw}
use Rattle.wh_step_outermost.specs.Leftmost.{Leftmost, LeadsTo}
use Rattle.wh_step_outermost.proofs.FirstSteps.{leftmost_step}
use Rattle.wh_cert_term.specs.TermText.{IsTermText}
use Rattle.wh_cert_term.proofs.ReadLaws.{one_text}
use Rattle.wh_system.specs.Systems.{SystemData}
use Rattle.wh_system_making.specs.Resolve.{Means, TellsMeant}
use Rattle.wh_step_outermost.specs.Reducing.{Reduces}
use Rattle.wh_step_outermost.specs.declared.reducing.End.{End}
use Rattle.wh_top_reducing.specs.Telling.{Gives, GivesNone, TellsOf, reduced_text}

pub gives_meant : (d : SystemData) (bytes : List ℕ) (raw : RTm) (t : Tm) → IsTermText raw bytes → Gives d bytes t → Means d raw t
gives_meant d bytes raw t text g = subst (λ (r : RTm). Means d r t) (one_text bytes g.raw raw g.text text) g.means

pub one_meant : (d : SystemData) (raw : RTm) (t u : Tm) → Means d raw t → Means d raw u → t ≡ u
one_meant d raw t u m n = let same : Some t ≡ Some u = sym m.named ∙ n.named in cc

-- where there is none

pub nothing_read : (d : SystemData) (bytes : List ℕ) → ((r : RTm) → IsTermText r bytes → ⊥) → GivesNone d bytes
nothing_read d bytes none t g = none g.raw g.text

pub nothing_meant : (d : SystemData) (bytes : List ℕ) (raw : RTm) → IsTermText raw bytes → ((t : Tm) → Means d raw t → ⊥) → GivesNone d bytes
nothing_meant d bytes raw text none t g = none t (gives_meant d bytes raw t text g)

pub too_big : (d : SystemData) (bytes : List ℕ) (raw : RTm) (u : Tm) → IsTermText raw bytes → Means d raw u → (Fits u → ⊥) → GivesNone d bytes
too_big d bytes raw u text means big t g = big (subst Fits (one_meant d raw t u (gives_meant d bytes raw t text g) means) g.fits)

-- the same of what the names were looked up as
pub none_fits : (d : SystemData) (bytes : List ℕ) (raw : RTm) (answer : Option Term) → IsTermText raw bytes → TellsMeant d raw answer
    → ((u : Term) → answer ≡ Some u → Fits (tm u) → ⊥) → GivesNone d bytes
none_fits d bytes raw None text none big = nothing_meant d bytes raw text none
none_fits d bytes raw (Some u) text means big = too_big d bytes raw (tm u) text means (big u refl)

-- a term that is too big is none that fits
pub unfit : (meant : Option Term) (t : Term) → meant ≡ Some t → (Fits (tm t) → ⊥) → (u : Term) → meant ≡ Some u → Fits (tm u) → ⊥
unfit meant t is big u same fits = let one : t ≡ u = let e : Some t ≡ Some u = sym is ∙ same in cc in big (subst (λ (x : Term). Fits (tm x)) (sym one) fits)

-- there is one

pub given : (d : SystemData) (bytes : List ℕ) (raw : RTm) (t : Tm) → IsTermText raw bytes → Means d raw t → Fits t → Gives d bytes t
given d bytes raw t text means fits = record { raw = raw; text = text; means = means; fits = fits }

pub given_some : (d : SystemData) (bytes : List ℕ) (raw : RTm) (meant : Option Term) (t : Term) → IsTermText raw bytes → TellsMeant d raw meant
    → meant ≡ Some t → Fits (tm t) → Gives d bytes (tm t)
given_some d bytes raw meant t text means is fits =
    given d bytes raw (tm t) text (subst (TellsMeant d raw) is means) fits

pub one_given : (d : SystemData) (bytes : List ℕ) (t u : Tm) → Gives d bytes t → Gives d bytes u → t ≡ u
one_given d bytes t u g h = one_meant d g.raw t u g.means (gives_meant d bytes g.raw u g.text h)

-- steps keep types

walk_typed : (S : Symbols) (rules : List RewriteRule) → AreWellMade S rules → (a : Ty) (t : Tm) (l : List Tm) → Walk (Leftmost rules) t l → Typed S [] [] t a → Typed S [] [] (last_of t l) a
walk_typed S rules w a t [] walk typed = typed
walk_typed S rules w a t (u ∷ l) walk typed = walk_typed S rules w a u l walk.1 (over-typed S (instances_typed S rules w) [] a (step_raw S w (leftmost_step walk.0)) typed)

pub leads_typed : (S : Symbols) (rules : List RewriteRule) → AreWellMade S rules → (t u : Tm) (n : ℕ) → LeadsTo rules t n u → WellTyped S t → WellTyped S u
leads_typed S rules w t u n leads (a, typed) = (a, subst (λ (s : Tm). Typed S [] [] s a) leads.last (walk_typed S rules w a t leads.results leads.steps typed))

pub reduces_typed : (d : SystemData) (t u : Tm) (asked n : ℕ) (e : End) → AreWellMade d.symbols d.rules → Reduces d.rules t asked n u e → WellTyped d.symbols t
    → WellTyped d.symbols u
reduces_typed d t u asked n e well reduces typed = leads_typed d.symbols d.rules well t u n reduces.steps typed

-- what a reduction asks of a term
pub well_typed_shut : (S : Symbols) (t : Tm) → WellTyped S t → LooseBelow 0 t
well_typed_shut S t (a, typed) = typed_loose typed

pub well_typed_term : (S : Symbols) (t : Tm) → WellTyped S t → IsTerm t
well_typed_term S t (a, typed) = typed_term t typed

-- its lines tell of it
pub tells_of : (d : SystemData) (t u : Tm) (asked n : ℕ) (e : End) (r : Result (List ℕ) AllocError) → Reduces d.rules t asked n u e
    → IfOk r (λ text. text ≡ reduced_text d n u e) → IfOk r (TellsOf d t asked)
tells_of d t u asked n e (Ok text) reduces is = record { steps = n; last = u; end = e; reduces = reduces; text_is = is }
tells_of d t u asked n e (Err x) reduces is = tt
