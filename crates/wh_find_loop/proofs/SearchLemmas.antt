-- From one step to the next, from one entry to the next, and from one level to the next.
use Rattle.std.proofs.Common.{◌≡◌, ℕ, suc, ◌+◌, ◌<◌, ◌≤◌, inl, inr, List, [], ◌∷◌, ◌++◌, length, map, Option, Some, slice_get, refl, ap, sym, ◌∙◌, subst, arith}
use Rattle.std.specs.Prelude.{All, AllPairs}
use Rattle.std.proofs.lemmas.List.{length-map}
use Rattle.std.proofs.lemmas.List.Elements.{All-push, All-weaker, All-contains, All-nil, All-same, All-map}
use Rattle.std.proofs.lemmas.Option.{slice_get_within}
use Rattle.wh_terms.specs.Tree.{Tm}
use Rattle.wh_terms.specs.Typing.{WellTyped}
use Rattle.wh_terms.specs.Measures.{Fits, size}
use Rattle.wh_terms.specs.Erase.{tm}
use Rattle.wh_terms.specs.declared.term.Term.{Term}
use Rattle.wh_terms.specs.declared.path.Step as taken
use Rattle.wh_step.specs.Step.{Step}
use Rattle.wh_step.proofs.Places.{step-step_at}
use Rattle.wh_system.specs.Systems.{SystemData}
use Rattle.wh_cert.specs.Written.{Cert}
use Rattle.wh_loop_starts.specs.Starts.{IsStart}
use Rattle.wh_loop_starts.specs.Space.{InSpace, Path, at_start, further, HasNoLoop}
use Rattle.wh_loop_starts.specs.Found.{IsLoopCertificate}
use Rattle.wh_loop_reached.specs.Arrivals.{arrival, HoldsNoInstance}
use Rattle.wh_find_loop.specs.Answers.{IsReached, ReachesFewer, AreVisited}
use Rattle.wh_loop_steps.specs.StepLists.{ListsAllSteps}
use Rattle.wh_loop_reached.specs.Listing.{tree, arrival_of, arrivals, IsEntry, IsListed, IsListing, Extends, IsLinked, Takes}
use Rattle.wh_find_loop.specs.Searching.{IsTried, IsDone, AreDone, AreBelow, TriesOn, GoesOn, IsComplete, GoesThrough, HasNoInstance, AreStarts, TakesStart}
use Rattle.wh_loop_reached.specs.declared.visit.Visit.{Visit}
use Rattle.wh_loop_reached.specs.declared.listing.Entry.{Entry}
use Rattle.wh_loop_reached.specs.declared.listing.Origin.{Origin}
use Rattle.wh_loop_reached.specs.declared.listing.Listing.{Listing}
use Rattle.wh_loop_reached.proofs.ListLemmas.{no_longer, no_some}
use Rattle.wh_loop_reached.proofs.ListingLemmas.{at_listed, listed_longer, extends_none, extends_more, at_longer, at_shorter, same_at, all_here}
use Rattle.wh_find_loop.proofs.SpaceLemmas.{start_one}
use Rattle.wh_loop_steps.proofs.CandidateLemmas.{below_or_at}

-- the empty list
pub empty_listing : {d : SystemData} (l : Listing) → length l.marks ≡ 16384 → l.entries.items ≡ [] → IsListing d 0 l
empty_listing {d = d} l keys none =
    let back = sym none in
    record {
      each = subst (All (IsEntry d 0)) back (All-nil (IsEntry d 0));
      linked = All-same (IsLinked d.rules l.entries.items) l.entries.items [] none (All-nil (IsLinked d.rules l.entries.items));
      distinct = subst (λ es. AllPairs (λ a b. a ≡ b → ⊥) (arrivals es)) back (λ i j x less within. absurd (omega arith));
      marked = λ i e here. absurd (no_some e (subst (λ es. slice_get es i ≡ Some e) none here));
      keys = keys;
    }

module _ (d : SystemData) where
  tried_longer : (old new : List Entry) (n : ℕ) (t : Tm) (s : taken.Step) → Extends old new → IsTried d old n t s → IsTried d new n t s
  tried_longer old new n t s more h u step space = let (listed, none) = h u step space in (listed_longer old new n u more listed, none)

  pub done_longer : (old new : List Entry) (m : ℕ) → Extends old new → m ≤ length old → AreDone d old m → AreDone d new m
  done_longer old new m more within done i e low here u step space =
      let (listed, none) = done i e low (at_shorter old new i e more (omega arith) here) u step space in
      (listed_longer old new e.visit.start u more listed, none)

  pub below_longer : (level at : ℕ) (old new : List Entry) → Extends old new → at < length old → AreBelow level (at + 1) old → AreBelow level (at + 1) new
  below_longer level at old new more within below i e low here = below i e low (at_shorter old new i e more (omega arith) here)

  -- some steps from an entry are tried
  pub record Trying (level visited at : ℕ) (old : List Entry) (l : Listing) (steps : List taken.Step) : Type 0 where
    pub listing : IsListing d level l
    pub extends : Extends old l.entries.items
    pub fewer : length l.entries.items < visited
    pub tried : (e : Entry) → slice_get old at ≡ Some e → All (IsTried d l.entries.items e.visit.start (tree e)) steps

  pub trying_none : (level visited at : ℕ) (l : Listing) → IsListing d level l → length l.entries.items < visited → Trying level visited at l.entries.items l []
  trying_none level visited at l listing fewer = record { listing = listing; extends = extends_none l.entries.items; fewer = fewer; tried = λ e here. All-nil (IsTried d l.entries.items e.visit.start (tree e)) }

  pub trying_next : (level visited at : ℕ) (old : List Entry) (l new : Listing) (steps : List taken.Step) (s : taken.Step) → Trying level visited at old l steps → TriesOn d level at s l new → length new.entries.items < visited
      → Trying level visited at old new (steps ++ s ∷ [])
  trying_next level visited at old l new steps s before next fewer = record {
    listing = next.listing;
    extends = extends_more old l.entries.items new.entries.items before.extends next.extends;
    fewer = fewer;
    tried = λ e here.
        let P = IsTried d l.entries.items e.visit.start (tree e) in
        let Q = IsTried d new.entries.items e.visit.start (tree e) in
        All-push Q steps s (All-weaker P Q (λ q h. tried_longer l.entries.items new.entries.items e.visit.start (tree e) q next.extends h) steps (before.tried e here))
        (next.tried e (at_longer old l.entries.items at e before.extends here));
  }

  pub trying_all : (level visited at : ℕ) (old : List Entry) (l : Listing) (steps all : List taken.Step) (e : Entry) → Trying level visited at old l steps → steps ≡ all → ListsAllSteps d.rules (tree e) all → slice_get old at ≡ Some e
      → AreDone d old at → GoesOn d level visited (at + 1) old l
  trying_all level visited at old l steps all e before is lists here done = record {
    listing = before.listing;
    extends = before.extends;
    done = λ i x low there. elim (below_or_at i at low) [
      | inl early ↦ done_longer old l.entries.items at before.extends (omega (arith, slice_get_within old at e here)) done i x early there
      | inr last ↦
          let same : e ≡ x = same_at l.entries.items at e x (at_longer old l.entries.items at e before.extends here) (subst (λ k. slice_get l.entries.items k ≡ Some x) last there) in
          subst (IsDone d l.entries.items) same (λ u step space.
          let (k, path, placed) = step-step_at step in
          let tried = All-contains (IsTried d l.entries.items e.visit.start (tree e)) all (record { rule = k; path = path }) (subst (All (IsTried d l.entries.items e.visit.start (tree e))) is (before.tried e here)) (lists k path u placed) in
          tried u placed space)
    ];
    fewer = before.fewer;
  }

  -- entry by entry

  pub goes_none : (level visited m : ℕ) (l : Listing) → IsListing d level l → AreDone d l.entries.items m → length l.entries.items < visited → GoesOn d level visited m l.entries.items l
  goes_none level visited m l listing done fewer = record { listing = listing; extends = extends_none l.entries.items; done = done; fewer = fewer }

  pub goes_next : (level visited m n : ℕ) (old : List Entry) (l new : Listing) → GoesOn d level visited m old l → GoesOn d level visited n l.entries.items new → GoesOn d level visited n old new
  goes_next level visited m n old l new before next = record {
    listing = next.listing;
    extends = extends_more old l.entries.items new.entries.items before.extends next.extends;
    done = next.done;
    fewer = next.fewer;
  }

  -- level by level

  higher_entry : (low level : ℕ) → low ≤ level → (e : Entry) → IsEntry d low e → IsEntry d level e
  higher_entry low level le e entry = let small : e.level ≤ low = entry.low in record { low = omega arith; reached = entry.reached; typed = entry.typed; no_instance = entry.no_instance }

  pub higher_listing : (low level : ℕ) (l : Listing) → low ≤ level → IsListing d low l → IsListing d level l
  higher_listing low level l le listing = record {
    each = All-weaker (IsEntry d low) (IsEntry d level) (higher_entry low level le) l.entries.items listing.each;
    linked = listing.linked;
    distinct = listing.distinct;
    marked = listing.marked;
    keys = listing.keys;
  }

  pub below_next : (level : ℕ) (l : Listing) → IsListing d level l → AreBelow (level + 1) (length l.entries.items) l.entries.items
  below_next level l listing i e low here = let entry = all_here (IsEntry d level) l.entries.items i e listing.each here in let small : e.level ≤ level = entry.low in omega arith

  pub higher_certificate : (low level : ℕ) (c : Cert) → low ≤ level → IsLoopCertificate d low c → IsLoopCertificate d level c
  higher_certificate low level c le h =
      let s = h.searched in
      let few : length h.claim.steps ≤ low = s.few in
      record { fits = h.fits; claim = h.claim; says = h.says; valid = h.valid; searched = record { start = s.start; few = omega arith; for_variables = s.for_variables } }

  last_step : {n j : ℕ} {u : Tm} (k : ℕ) → Path d.rules n j u → j ≡ suc k → (t : Tm) × Path d.rules n k t × Step d.rules t u × InSpace u
  last_step k (at_start start space) e = absurd (omega arith)
  last_step {n = n} k (further {k = m} {t = t} path step space) e = let same : m ≡ k = omega arith in (t, subst (λ i. Path d.rules n i t) same path, step, space)

  -- what the last step of a path leads to
  after_path : (level visited : ℕ) (old new : Listing) (n k : ℕ) (t u : Tm) → IsComplete d level old.entries.items → GoesOn d (level + 1) visited (length old.entries.items) old.entries.items new → k ≤ level → Path d.rules n k t → Step d.rules t u
      → InSpace u → IsListed new.entries.items n u × HasNoInstance d n u
  after_path level visited old new n k t u complete goes le path step space =
      let (i, (e, here, is)) = at_listed old.entries.items (record { start = n; term = t }) (complete n k t le path) in
      let same_start : e.visit.start ≡ n = ap (λ a. a.start) is in
      let same_term : tree e ≡ t = ap (λ a. a.term) is in
      subst (λ m. IsListed new.entries.items m u × HasNoInstance d m u) same_start
      (goes.done i e (slice_get_within old.entries.items i e here) (at_longer old.entries.items new.entries.items i e goes.extends here) u (subst (λ w. Step d.rules w u) (sym same_term) step) space)

  complete_next : (level visited : ℕ) (old new : Listing) → IsComplete d level old.entries.items → GoesOn d (level + 1) visited (length old.entries.items) old.entries.items new → {n k : ℕ} {t : Tm} → k ≤ level + 1 → Path d.rules n k t
      → IsListed new.entries.items n t
  complete_next level visited old new complete goes {n = n} {k = k} {t = t} le (at_start start space) =
      listed_longer old.entries.items new.entries.items n t goes.extends (complete n 0 t (omega arith) (at_start start space))
  complete_next level visited old new complete goes {n = n} le (further {k = k} {t = t} {u = u} path step space) = (after_path level visited old new n k t u complete goes (omega arith) path step space).0

  pub through_next : (level visited : ℕ) (old new : Listing) → GoesThrough d level visited old → GoesOn d (level + 1) visited (length old.entries.items) old.entries.items new → GoesThrough d (level + 1) visited new
  through_next level visited old new before goes = record {
    listing = goes.listing;
    complete = λ n k t le path. complete_next level visited old new before.complete goes le path;
    no_loop = λ n s u (start, (k, few, path), holds).
        let (t, way, step, space) = last_step k path refl in
        (after_path level visited old new n k t u before.complete goes (omega arith) way step space).1 s start holds;
    fewer = goes.fewer;
  }

  no_loop_at_once : HasNoLoop d 0
  no_loop_at_once n s u (start, (k, few, path), holds) = absurd (omega arith)

  pub through_none : (visited : ℕ) (l : Listing) → IsListing d 0 l → IsComplete d 0 l.entries.items → length l.entries.items < visited → GoesThrough d 0 visited l
  through_none visited l listing complete fewer = record { listing = listing; complete = complete; no_loop = no_loop_at_once; fewer = fewer }

  -- the starts

  -- the starts of the first rules are listed
  pub record Starting (visited m : ℕ) (l : Listing) : Type 0 where
    pub listing : IsListing d 0 l
    pub fewer : length l.entries.items < visited
    pub listed : (n : ℕ) (t : Tm) → n < m → IsStart d.rules n t → InSpace t → IsListed l.entries.items n t

  pub starting_none : (visited : ℕ) (l : Listing) → length l.marks ≡ 16384 → l.entries.items ≡ [] → 0 < visited → Starting visited 0 l
  starting_none visited l keys none some = record {
    listing = empty_listing l keys none;
    fewer = omega (arith, ap length none);
    listed = λ n t low. absurd (omega arith);
  }

  pub starting_next : (visited m : ℕ) (start : Tm) (l new : Listing) → Starting visited m l → IsStart d.rules m start → TakesStart d m start l.entries.items new → length new.entries.items < visited → Starting visited (m + 1) new
  starting_next visited m start l new before is takes fewer = record {
    listing = takes.listing;
    fewer = fewer;
    listed = λ n t low first space. elim (below_or_at n m low) [
      | inl early ↦ listed_longer l.entries.items new.entries.items n t takes.extends (before.listed n t early first space)
      | inr last ↦
          let same : start ≡ t = start_one d.rules m start t is (subst (λ k. IsStart d.rules k t) last first) in
          subst (λ k. IsListed new.entries.items k t) (sym last) (subst (IsListed new.entries.items m) same (takes.listed (subst InSpace (sym same) space)))
    ];
  }

  complete_starts : (starts : List Term) (visited m : ℕ) (l : Listing) → AreStarts d starts → length starts ≤ m → Starting visited m l → {n k : ℕ} {t : Tm} → k ≤ 0 → Path d.rules n k t → IsListed l.entries.items n t
  complete_starts starts visited m l all le before {n = n} {t = t} few (at_start (r, e, is) space) =
      let low : n < length d.rules = slice_get_within d.rules n r e in
      before.listed n t (omega (arith, low, all.count)) (r, e, is) space
  complete_starts starts visited m l all le before few (further path step space) = absurd (omega arith)

  pub starting_all : (starts : List Term) (visited m : ℕ) (l : Listing) → AreStarts d starts → length starts ≤ m → Starting visited m l → IsComplete d 0 l.entries.items
  starting_all starts visited m l all le before n k t few path = complete_starts starts visited m l all le before few path

  pub takes_no_start : (n : ℕ) (t : Tm) (l : Listing) → IsListing d 0 l → (Fits t → size t ≤ 2048 → ⊥) → TakesStart d n t l.entries.items l
  takes_no_start n t l listing outside = record { listing = listing; extends = extends_none l.entries.items; one_more = omega arith; listed = λ space. absurd (outside space.fits space.small) }

  pub start_entry : (n : ℕ) (u : Term) (o : Option Origin) → IsStart d.rules n (tm u) → WellTyped d.symbols (tm u) → Fits (tm u) → size (tm u) ≤ 2048 → IsEntry d 0 (record { visit = record { start = n; term = u }; level = 0; origin = o })
  start_entry n u o start typed fits small = record {
    low = omega arith;
    reached = (0, omega arith, at_start start (record { fits = fits; small = small }));
    typed = typed;
    no_instance = λ s first other holds. other (start_one d.rules n (tm u) s start first);
  }

  pub takes_start : (n : ℕ) (t : Tm) (u : Term) (old new : Listing) → tm u ≡ t → Takes d 0 old (record { start = n; term = tm u }) new → TakesStart d n t old.entries.items new
  takes_start n t u old new is takes = record {
    listing = takes.listing;
    extends = takes.extends;
    one_more = takes.one_more;
    listed = λ space. subst (IsListed new.entries.items n) is takes.listed;
  }

  -- the answers

  pub reaches_fewer : (depth visited : ℕ) (l : Listing) → GoesThrough d depth visited l → ReachesFewer d.rules depth visited
  reaches_fewer depth visited l through list reached =
      let few = no_longer list (arrivals l.entries.items) reached.distinct (λ a has.
      let (k, le, path) = All-contains (IsReached d.rules depth) list a reached.each has in
      through.complete a.start k a.term le path) in
      omega (arith, few, length-map l.entries.items arrival_of, through.fewer)

  map_visits : (entries : List Entry) → map arrival (map (λ e. e.visit) entries) ≡ arrivals entries
  map_visits [] = refl
  map_visits (e ∷ entries) = ap (λ l. arrival e.visit ∷ l) (map_visits entries)

  reached_by : (depth : ℕ) (e : Entry) → IsEntry d depth e → IsReached d.rules depth (arrival_of e)
  reached_by depth e entry = let (k, le, path) = entry.reached in let small : e.level ≤ depth = entry.low in (k, omega arith, path)

  pub all_visited : (depth visited : ℕ) (l : Listing) (visits : List Visit) → IsListing d depth l → length l.entries.items ≡ visited → visits ≡ map (λ e. e.visit) l.entries.items → AreVisited d depth visited (map arrival visits)
  all_visited depth visited l visits listing count is =
      subst (AreVisited d depth visited) (sym (ap (map arrival) is ∙ map_visits l.entries.items))
      (record {
        count = length-map l.entries.items arrival_of ∙ count;
        reached = record {
          each = All-map (IsReached d.rules depth) arrival_of l.entries.items (All-weaker (IsEntry d depth) (λ e. IsReached d.rules depth (arrival_of e)) (reached_by depth) l.entries.items listing.each);
          distinct = listing.distinct;
        };
        no_instance = All-map (HoldsNoInstance d) arrival_of l.entries.items (All-weaker (IsEntry d depth) (λ e. HoldsNoInstance d (arrival_of e)) (λ e entry. entry.no_instance) l.entries.items listing.each);
      })
