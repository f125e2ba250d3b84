-- One step from an entry: what it leads to is tried and listed.
use Rattle.std.proofs.Common.{◌≡◌, ℕ, ◌<◌, List, length, get_or, Option, Some, slice_get, refl, subst, arith}
use Rattle.std.proofs.lemmas.Option.{slice_get_read, slice_get_within}
use Rattle.wh_terms.specs.Tree.{Tm}
use Rattle.wh_terms.specs.Typing.{WellTyped}
use Rattle.wh_terms.specs.Measures.{Fits}
use Rattle.wh_terms.specs.Erase.{tm}
use Rattle.wh_terms.specs.Rules.{AreWellMade}
use Rattle.wh_terms.specs.declared.term.Term.{Term}
use Rattle.wh_terms.specs.declared.path.Step as taken
use Rattle.wh_step.specs.Replay.{StepAt}
use Rattle.wh_step.proofs.Places.{step_at-step}
use Rattle.wh_step.proofs.RootLaws.{step_one}
use Rattle.wh_system.specs.Systems.{SystemData}
use Rattle.wh_loop_starts.specs.Starts.{IsStart}
use Rattle.wh_loop_starts.specs.Space.{InSpace, Reached, HoldsInstanceOf}
use Rattle.wh_loop_steps.specs.Reducts.{IsReduct, HasNoReduct}
use Rattle.wh_loop_reached.specs.Listing.{tree, IsEntry, IsLinked, IsListing, IsListed, Takes}
use Rattle.wh_find_loop.specs.Searching.{IsTried, HasNoInstance, TriesOn, AreStarts}
use Rattle.wh_loop_reached.specs.declared.listing.Entry.{Entry}
use Rattle.wh_loop_reached.specs.declared.listing.Origin.{Origin}
use Rattle.wh_loop_reached.specs.declared.listing.Listing.{Listing}
use Rattle.wh_loop_reached.proofs.ListingLemmas.{extends_none, same_at}
use Rattle.wh_find_loop.proofs.SpaceLemmas.{start_one, path_space, path_start, typed_next, reached_next}

module _ (d : SystemData) where
  -- the starts

  pub start_low : (starts : List Term) (k n : ℕ) (t : Tm) → AreStarts d starts → Reached d.rules k n t → n < length starts
  start_low starts k n t all (j, few, path) =
      let (s, (r, e, is), space) = path_start path in
      let low : n < length d.rules = slice_get_within d.rules n r e in
      omega (arith, low, all.count)

  pub start_is : (starts : List Term) (n : ℕ) (start : Term) → AreStarts d starts → n < length starts → start ≡ get_or starts n start → IsStart d.rules n (tm start)
  start_is starts n start all low is = (all.each n start (slice_get_read starts (length starts) n start refl low is)).0

  pub start_fits : (k n : ℕ) (start t : Tm) → IsStart d.rules n start → Reached d.rules k n t → Fits start
  start_fits k n start t is (j, few, path) = let (s, first, space) = path_start path in subst Fits (start_one d.rules n s start first is) space.fits

  pub entry_space : (level : ℕ) (e : Entry) → IsEntry d level e → InSpace (tree e)
  entry_space level e entry = path_space entry.reached.2

  -- what the step leads to

  pub reduct_space : (s : taken.Step) (t u : Tm) → IsReduct d.rules s t u → InSpace u
  reduct_space s t u (step, fits, small) = record { fits = fits; small = small }

  pub reduct_typed : (s : taken.Step) (t u : Tm) → AreWellMade d.symbols d.rules → IsReduct d.rules s t u → WellTyped d.symbols t → WellTyped d.symbols u
  reduct_typed s t u made (step, fits, small) typed = typed_next d.symbols d.rules t u made (step_at-step step) typed

  pub tries_nothing : (level at : ℕ) (s : taken.Step) (old : Listing) (e : Entry) → IsListing d level old → slice_get old.entries.items at ≡ Some e → HasNoReduct d.rules s (tree e) → TriesOn d level at s old old
  tries_nothing level at s old e listing here nothing = record {
    listing = listing;
    extends = extends_none old.entries.items;
    one_more = omega arith;
    tried = λ x there u step space. absurd (nothing u (subst (λ y. StepAt d.rules s.rule s.path (tree y) u) (same_at old.entries.items at x e there here) step, space.fits, space.small));
  }

  pub next_entry : (low level : ℕ) (s : taken.Step) (e : Entry) (u : Term) (o : Option Origin) (start : Tm) → AreWellMade d.symbols d.rules → IsEntry d low e → e.level < level → IsReduct d.rules s (tree e) (tm u) → IsStart d.rules e.visit.start start
      → (HoldsInstanceOf d.symbols start (tm u) → ⊥) → IsEntry d level (record { visit = record { start = e.visit.start; term = u }; level = level; origin = o })
  next_entry low level s e u o start made entry less reduct is none = record {
    low = omega arith;
    reached = reached_next d.rules e.visit.start e.level level (tree e) (tm u) entry.reached less (step_at-step reduct.0) (reduct_space s (tree e) (tm u) reduct);
    typed = reduct_typed s (tree e) (tm u) made reduct entry.typed;
    no_instance = λ t first other holds. none (subst (λ q. HoldsInstanceOf d.symbols q (tm u)) (start_one d.rules e.visit.start t start first is) holds);
  }

  pub next_linked : (level at : ℕ) (s : taken.Step) (entries : List Entry) (e : Entry) (u : Term) → slice_get entries at ≡ Some e → e.level < level → IsReduct d.rules s (tree e) (tm u)
      → IsLinked d.rules entries (record { visit = record { start = e.visit.start; term = u }; level = level; origin = Some (record { parent = at; step = s }) })
  next_linked level at s entries e u here less (step, fits, small) = (e, here, record { same_start = refl; higher = less; step = step; fits = fits })

  pub tries_next : (level at : ℕ) (s : taken.Step) (old new : Listing) (e : Entry) (u start : Tm) → AreWellMade d.symbols d.rules → slice_get old.entries.items at ≡ Some e → IsReduct d.rules s (tree e) u → IsStart d.rules e.visit.start start
      → (HoldsInstanceOf d.symbols start u → ⊥) → Takes d level old (record { start = e.visit.start; term = u }) new → TriesOn d level at s old new
  tries_next level at s old new e u start made here reduct is none takes = record {
    listing = takes.listing;
    extends = takes.extends;
    one_more = takes.one_more;
    tried = λ x there.
        let same : e ≡ x = same_at old.entries.items at e x here there in
        subst (λ y. IsTried d new.entries.items y.visit.start (tree y) s) same (λ v step space.
        let one : u ≡ v = step_one d.symbols made reduct.0 step in
        subst (λ w. IsListed new.entries.items e.visit.start w × HasNoInstance d e.visit.start w) one (
          takes.listed,
          λ t first holds. none (subst (λ q. HoldsInstanceOf d.symbols q u) (start_one d.rules e.visit.start t start first is) holds),
        ));
  }
