-- The list of the terms that were reached, as it grows.
use Rattle.std.proofs.Common.{◌≡◌, ℕ, ◌+◌, ◌<◌, ◌≤◌, inl, inr, List, [], ◌∷◌, ◌++◌, length, take, get_or, Option, Some, None, slice_get, refl, ap, ap₂, sym, ◌∙◌, subst, arith, Bool, false}
use Rattle.std.specs.Prelude.{All, AllPairs, Contains, IsTrue, ◌↔◌}
use Rattle.std.proofs.lemmas.List.{append-nil, append_assoc, map-append, length_push, length-append, take_more}
use Rattle.std.proofs.lemmas.List.Elements.{All-push, All-weaker, All-contains, Contains-append_left, Contains-push, Contains-push_cases, Contains-get_or}
use Rattle.std.proofs.lemmas.Bool.{false≢true}
use Rattle.std.proofs.lemmas.Option.{slice_get_within, slice_get_read, slice_get_cases}
use Rattle.std.proofs.lemmas.List.Quantifiers.{all_pairs_push}
use Rattle.wh_terms.specs.Tree.{Tm}
use Rattle.wh_terms.specs.Measures.{Fits}
use Rattle.wh_terms.specs.Rules.{RewriteRule}
use Rattle.wh_terms.specs.declared.path.Step as taken
use Rattle.wh_step.specs.Replay.{StepAt, Replays}
use Rattle.wh_system.specs.Systems.{SystemData}
use Rattle.wh_loop_starts.specs.Starts.{IsStart}
use Rattle.wh_loop_reached.specs.Arrivals.{Arrival}
use Rattle.wh_loop_steps.specs.Tables.{HasNumber, KeepsNumbers}
use Rattle.wh_loop_reached.specs.Marks.{key_of}
use Rattle.wh_loop_reached.specs.Listing.{tree, arrival_of, arrivals, IsListed, ListsAt, IsEntry, StepsFrom, LinkedBy, IsLinked, AreAllLinked, AreMarked, IsListing, Extends, Takes, LeadTo}
use Rattle.wh_loop_reached.specs.declared.listing.Entry.{Entry}
use Rattle.wh_loop_reached.specs.declared.listing.Origin.{Origin}
use Rattle.wh_loop_reached.specs.declared.listing.Listing.{Listing}
use Rattle.wh_loop_reached.proofs.ListLemmas.{one_some, get_front, get_push, contains_at, at_contains, at_map, at_map_back}

-- what is listed, by its number

pub listed_at : (entries : List Entry) (i : ℕ) (a : Arrival) → ListsAt entries i a → Contains (arrivals entries) a
listed_at entries i a (e, here, is) = contains_at (arrivals entries) i a (at_map arrival_of entries i e here ∙ ap Some is)

pub at_listed : (entries : List Entry) (a : Arrival) → Contains (arrivals entries) a → (i : ℕ) × ListsAt entries i a
at_listed entries a has =
    let (i, here) = at_contains (arrivals entries) a has in
    (i, at_map_back arrival_of entries i a here)

pub lists_at_told : (entries : List Entry) (i n : ℕ) (e : Entry) (t : Tm) (r : Bool) → slice_get entries i ≡ Some e → e.visit.start ≡ n → (IsTrue r ↔ (tree e ≡ t)) → IsTrue r ↔ ListsAt entries i (record { start = n; term = t })
lists_at_told entries i n e t r here start told = (
  λ yes. (e, here, ap₂ (λ s u. record { start = s; term = u }) start (told.0 yes)),
  λ (x, there, is). told.1 (ap tree (one_some e x (sym here ∙ there)) ∙ ap (λ a. a.term) is),
)

pub lists_other : (entries : List Entry) (i n : ℕ) (e : Entry) (t : Tm) (r : Bool) → slice_get entries i ≡ Some e → (e.visit.start ≡ n → ⊥) → (IsTrue r → ⊥) → IsTrue r ↔ ListsAt entries i (record { start = n; term = t })
lists_other entries i n e t r here other never = (
  λ yes. absurd (never yes),
  λ (x, there, is). absurd (other (ap (λ y. y.visit.start) (one_some e x (sym here ∙ there)) ∙ ap (λ a. a.start) is)),
)

pub lists_past : (entries : List Entry) (i : ℕ) (a : Arrival) → length entries ≤ i → IsTrue false ↔ ListsAt entries i a
lists_past entries i a past = (
  λ yes. absurd (false≢true yes),
  λ (x, there, is). let within : i < length entries = slice_get_within entries i x there in absurd (omega arith),
)

-- one number more is looked at
pub none_among_next : (entries : List Entry) (numbers : List ℕ) (i n : ℕ) (a : Arrival) → i < length numbers → n ≡ get_or numbers i n → ((k : ℕ) → Contains (take i numbers) k → ListsAt entries k a → ⊥) → (ListsAt entries n a → ⊥)
    → (k : ℕ) → Contains (take (i + 1) numbers) k → ListsAt entries k a → ⊥
none_among_next entries numbers i n a within is before here k has lists =
    elim (Contains-push_cases (take i numbers) n k (subst (λ l. Contains l k) (take_more numbers i n within ∙ ap (λ m. take i numbers ++ m ∷ []) (sym is)) has)) [
      | inl early ↦ before k early lists
      | inr last ↦ here (subst (λ m. ListsAt entries m a) (sym last) lists)
    ]

-- every number of a listed term stands in the row of its key
pub number_of_listed : (rows : List (List ℕ)) (row : List ℕ) (entries : List Entry) (n : ℕ) (t : Tm) → AreMarked rows entries → slice_get rows (key_of t) ≡ Some row → IsListed entries n t
    → (i : ℕ) × Contains row i × ListsAt entries i (record { start = n; term = t })
number_of_listed rows row entries n t marked here has =
    let (i, (e, at, is)) = at_listed entries (record { start = n; term = t }) has in
    let same : tree e ≡ t = ap (λ a. a.term) is in
    let (other, there, inside) = marked i e at in
    let one : other ≡ row = one_some other row (sym there ∙ ap (λ u. slice_get rows (key_of u)) same ∙ here) in
    (i, subst (λ r. Contains r i) one inside, (e, at, is))

-- a longer list

pub extends_none : (old : List Entry) → Extends old old
extends_none old = ([], sym (append-nil old))

pub extends_more : (a b c : List Entry) → Extends a b → Extends b c → Extends a c
extends_more a b c (r, e) (s, d) = (r ++ s, d ∙ ap (λ l. l ++ s) e ∙ append_assoc a r s)

pub extends_push : (old new : List Entry) (e : Entry) → new ≡ old ++ e ∷ [] → Extends old new
extends_push old new e is = (e ∷ [], is)

pub at_longer : (old new : List Entry) (i : ℕ) (e : Entry) → Extends old new → slice_get old i ≡ Some e → slice_get new i ≡ Some e
at_longer old new i e (rest, is) here = subst (λ l. slice_get l i ≡ Some e) (sym is) (get_front old rest i e here)

pub listed_longer : (old new : List Entry) (n : ℕ) (t : Tm) → Extends old new → IsListed old n t → IsListed new n t
listed_longer old new n t (rest, is) has =
    subst (λ l. IsListed l n t) (sym is)
    (subst (λ l. Contains l (record { start = n; term = t })) (sym (map-append arrival_of old rest)) (Contains-append_left (arrivals old) (arrivals rest) (record { start = n; term = t }) has))

pub longer : (old new : List Entry) → Extends old new → length old ≤ length new
longer old new (rest, is) = omega (arith, ap length is, length-append old rest)

linked_longer : (rules : List RewriteRule) (old new : List Entry) (e : Entry) (o : Option Origin) → Extends old new → LinkedBy rules old e o → LinkedBy rules new e o
linked_longer rules old new e None more h = h
linked_longer rules old new e (Some o) more (p, here, steps) = (p, at_longer old new o.parent p more here, steps)

-- one entry more

push_linked : (rules : List RewriteRule) (old : List Entry) (e : Entry) → AreAllLinked rules old → IsLinked rules old e → AreAllLinked rules (old ++ e ∷ [])
push_linked rules old e all h =
    let new = old ++ e ∷ [] in
    let more : Extends old new = extends_push old new e refl in
    All-push (IsLinked rules new) old e (All-weaker (IsLinked rules old) (IsLinked rules new) (λ x k. linked_longer rules old new x x.origin more k) old all) (linked_longer rules old new e e.origin more h)

push_distinct : (old : List Entry) (e : Entry) → AllPairs (λ a b. a ≡ b → ⊥) (arrivals old) → (Contains (arrivals old) (arrival_of e) → ⊥) → AllPairs (λ a b. a ≡ b → ⊥) (arrivals (old ++ e ∷ []))
push_distinct old e apart new =
    subst (AllPairs (λ a b. a ≡ b → ⊥)) (sym (map-append arrival_of old (e ∷ [])))
    (all_pairs_push (λ a b. a ≡ b → ⊥) (arrivals old) (arrival_of e) apart (λ k d within same. new (subst (Contains (arrivals old)) same (Contains-get_or (arrivals old) k d within))))

push_marked : (rows rows' : List (List ℕ)) (old : List Entry) (e : Entry) → AreMarked rows old → KeepsNumbers rows rows' → HasNumber rows' (key_of (tree e)) (length old) → AreMarked rows' (old ++ e ∷ [])
push_marked rows rows' old e marked kept added i x here = elim (get_push old e i x here) [
  | inl before ↦ kept (key_of (tree x)) i (marked i x before)
  | inr (last, is) ↦ subst (λ y. HasNumber rows' (key_of (tree y)) i) (sym is) (subst (HasNumber rows' (key_of (tree e))) (sym last) added)
]

pub takes_new : (d : SystemData) (level : ℕ) (old new : Listing) (e : Entry) → IsListing d level old → IsEntry d level e → IsLinked d.rules old.entries.items e → (Contains (arrivals old.entries.items) (arrival_of e) → ⊥)
    → new.entries.items ≡ old.entries.items ++ e ∷ [] → length new.marks ≡ 16384 → KeepsNumbers old.marks new.marks → HasNumber new.marks (key_of (tree e)) (length old.entries.items) → Takes d level old (arrival_of e) new
takes_new d level old new e listing entry linked unlisted is keys kept added =
    let xs = old.entries.items in
    let back = sym is in
    record {
      listing = record {
        each = subst (All (IsEntry d level)) back (All-push (IsEntry d level) xs e listing.each entry);
        linked = subst (AreAllLinked d.rules) back (push_linked d.rules xs e listing.linked linked);
        distinct = subst (λ l. AllPairs (λ a b. a ≡ b → ⊥) (arrivals l)) back (push_distinct xs e listing.distinct unlisted);
        marked = subst (AreMarked new.marks) back (push_marked old.marks new.marks xs e listing.marked kept added);
        keys = keys;
      };
      extends = extends_push xs new.entries.items e is;
      listed = subst (λ l. Contains (arrivals l) (arrival_of e)) back (subst (λ l. Contains l (arrival_of e)) (sym (map-append arrival_of xs (e ∷ []))) (Contains-push (arrivals xs) (arrival_of e)));
      one_more = omega (arith, ap length is, length_push xs e);
    }

pub takes_old : (d : SystemData) (level : ℕ) (l : Listing) (a : Arrival) → IsListing d level l → Contains (arrivals l.entries.items) a → Takes d level l a l
takes_old d level l a listing has = record { listing = listing; extends = extends_none l.entries.items; listed = has; one_more = omega arith }

-- the steps to an entry

pub lead_start : (rules : List RewriteRule) (e : Entry) (steps : List taken.Step) → steps ≡ [] → IsStart rules e.visit.start (tree e) → LeadTo rules e steps
lead_start rules e steps none start = record { start = tree e; is_start = start; replays = subst (λ l. Replays rules l (tree e) (tree e)) (sym none) refl; few = omega (arith, ap length none) }

replays-snoc : (rules : List RewriteRule) (steps : List taken.Step) (s : taken.Step) (t u v : Tm) → Replays rules steps t u → StepAt rules s.rule s.path u v → Fits v → Replays rules (steps ++ s ∷ []) t v
replays-snoc rules [] s t u v e step fits = (v, subst (λ w. StepAt rules s.rule s.path w v) (sym e) step, fits, refl)
replays-snoc rules (r ∷ steps) s t u v (w, first, small, rest) step fits = (w, first, small, replays-snoc rules steps s w u v rest step fits)

pub replays_push : (rules : List RewriteRule) (steps more : List taken.Step) (s : taken.Step) (t u v : Tm) → more ≡ steps ++ s ∷ [] → Replays rules steps t u → StepAt rules s.rule s.path u v → Fits v → Replays rules more t v
replays_push rules steps more s t u v is before step fits = subst (λ l. Replays rules l t v) (sym is) (replays-snoc rules steps s t u v before step fits)

pub lead_next : (rules : List RewriteRule) (p e : Entry) (s : taken.Step) (steps more : List taken.Step) → StepsFrom rules p s e → LeadTo rules p steps → more ≡ steps ++ s ∷ [] → LeadTo rules e more
lead_next rules p e s steps more from lead is =
    let higher : p.level < e.level = from.higher in
    let few : length steps ≤ p.level = lead.few in
    record {
      start = lead.start;
      is_start = subst (λ n. IsStart rules n lead.start) from.same_start lead.is_start;
      replays = replays_push rules steps more s lead.start (tree p) (tree e) is lead.replays from.step from.fits;
      few = omega (arith, ap length is, length_push steps s);
    }

-- the entry at a place

pub here_at : (entries : List Entry) (at : ℕ) (e : Entry) → at < length entries → e ≡ get_or entries at e → slice_get entries at ≡ Some e
here_at entries at e within is = slice_get_read entries (length entries) at e refl within is

pub all_here : (P : Entry → Type 0) (entries : List Entry) (at : ℕ) (e : Entry) → All P entries → slice_get entries at ≡ Some e → P e
all_here P entries at e all here = All-contains P entries e all (contains_at entries at e here)

pub at_shorter : (old new : List Entry) (i : ℕ) (e : Entry) → Extends old new → i < length old → slice_get new i ≡ Some e → slice_get old i ≡ Some e
at_shorter old new i e more within here = elim (slice_get_cases old i).1 [
  | inl (x, inside, there, read) ↦ there ∙ ap Some (one_some x e (sym (at_longer old new i x more there) ∙ here))
  | inr (past, none) ↦ absurd (omega arith)
]

pub same_at : (entries : List Entry) (at : ℕ) (e x : Entry) → slice_get entries at ≡ Some e → slice_get entries at ≡ Some x → e ≡ x
same_at entries at e x here there = one_some e x (sym here ∙ there)
