-- A reader that keeps nothing of the lines before: what a byte does to what it stands for.
use Rattle.std.proofs.Common.{◌≡◌, ℕ, suc, ◌+◌, ◌-◌, ◌^◌, ◌<◌, List, [], ◌∷◌, ◌++◌, length, take, drop, Option, Some, None, Result, Ok, Err, OnOk, IfOk, true, false, refl, sym, ap, ◌∙◌, subst, arith}
use Rattle.std.specs.Global.{Box}
use Rattle.std.specs.Option.{option_map, option_to_list}
use Rattle.std.proofs.Math.Seq.{take-length}
use Rattle.std.proofs.lemmas.List.{length-append, take-append-le, take-append-drop, take_at, take_all}
use Rattle.wh_types.specs.declared.want.Or.{Or}
use Rattle.wh_types.specs.declared.want.Or.TheVariants.{NoMemory, Because}
use Rattle.wh_types.specs.Outcome.{IfBecause}
use Rattle.wh_text.specs.declared.raw.RawType.{RawType}
use Rattle.wh_cert.specs.Written.{Cert, yes, no}
use Rattle.wh_cert.specs.Items as items
use Rattle.wh_cert.specs.Items.{yes_head}
use Rattle.wh_cert.specs.Said.{said_item}
use Rattle.wh_cert.specs.CertText.{Begins, CertText, FaultAt}
use Rattle.wh_cert.specs.declared.certificate.CertSyntax.{CertSyntax}
use Rattle.wh_cert.specs.declared.item.Item.{Item}
use Rattle.wh_cert_text.specs.ReadEnd.{IsEnd}
use Rattle.wh_cert_machines.specs.LineMachine as m
use Rattle.wh_cert_machines.specs.LineMachine.{Standing, unread, stands, stands_yes, wrong, standing_after, standing_after_yes, run, start, take_byte}
use Rattle.wh_cert_machines.specs.YesMachine as y
use Rattle.wh_cert_machines.specs.LineViews.{line_place, place_of as no_place_of, putting}
use Rattle.wh_cert_machines.specs.YesViews.{yes_place, place_of, naming}
use Rattle.wh_cert_text.specs.Handing.{TakesNo, TakesYes, handed_no, handed_yes, handed, wanted}
use Rattle.wh_cert_text.specs.Feeding.{OnWant, ranks_of, IsPairsLine, Tracks, TracksYes, StopsAt, Stand, StandsFor, Refuses, Led, StageKept, HeadKnown, yes_ended, no_ended, has_ended}
use Rattle.wh_cert_text.specs.ItemsRead.{ItemsIn}
use Rattle.wh_cert_letters.specs.declared.letters.Letters.{Letters}
use Rattle.wh_cert_machines.specs.declared.line_reader.NoLine.{NoLine}
use Rattle.wh_cert_machines.specs.declared.line_reader.LinePlace.{LinePlace}
use Rattle.wh_cert_machines.specs.declared.line_reader.LinePlace.TheVariants as no_place
use Rattle.wh_cert_machines.specs.declared.yes_line.YesPlace.{YesPlace}
use Rattle.wh_cert_machines.specs.declared.yes_line.YesPlace.TheVariants as place
use Rattle.wh_cert_machines.specs.declared.yes_line.YesLine.{YesLine}
use Rattle.wh_cert_text.specs.declared.items_out.Taken.TheVariants.{On, Wrong}
use Rattle.wh_cert_machines.specs.declared.progress.YesItems.{YesItems}
use Rattle.wh_cert_text.specs.declared.cert_reader.CertReader.{CertReader}
use Rattle.wh_cert_machines.specs.declared.progress.Progress.{Progress}
use Rattle.wh_cert_machines.specs.declared.progress.Progress.TheVariants.{Unread, Yes, No, Refused, Lost}
use Rattle.wh_cert_text.proofs.Ended.{run_append, run_wrong}
use Rattle.wh_cert_text.proofs.YesSound.{first, second, third, stage, LineNext, lead_kept}
use Rattle.wh_cert_text.proofs.YesReached.{end_found}
use Rattle.wh_cert_text.proofs.Reached.{Good, reached_at, reached_yes}
use Rattle.wh_cert_text.proofs.Whole.{Stops, goes_begins, begins_goes, stopped_at, ended_early, text_run, text_found}
use Rattle.wh_cert_text.proofs.ItemsWhole.{item_next, all_items}

pub is_wrong : (s : Standing) → Stops s → s ≡ wrong
is_wrong unread h = absurd h
is_wrong (stands k q) h = absurd h
is_wrong (stands_yes k q) h = absurd h
is_wrong wrong h = refl

stops : (s : Standing) → s ≡ wrong → Stops s
stops s e = subst Stops (sym e) tt

pub next_run : (p : List ℕ) (b : ℕ) → run start (p ++ b ∷ []) ≡ take_byte (run start p) b
next_run p b = run_append start p (b ∷ [])

pub longer : (p : List ℕ) (b : ℕ) → length (p ++ b ∷ []) ≡ length p + 1
longer p b = length-append p (b ∷ [])

-- one byte of a NO certificate

pub no_goes : (h : m.Past) (l : Box NoLine) (s : m.LineStep) (out : Option Item) → TakesNo l.value s (On out) → Tracks (No l) (standing_after h s) × (option_map said_item out ≡ handed_no s)
no_goes h l (m.on q) None t = ((h, ap (stands h) (sym t)), refl)
no_goes h l (m.on q) (Some i) t = absurd t
no_goes h l (m.gives i q) None t = absurd t
no_goes h l (m.gives i q) (Some out) t = ((m.gather h i, ap (stands (m.gather h i)) (sym t.0)), ap Some t.1)
no_goes h l m.refused out t = absurd t

-- one byte of a YES certificate

pub yes_goes : (h : y.Past) (old : YesItems) (l : YesItems) (s : y.LineStep) (out : Option Item) → wanted h ≡ old.wanted
    → (IsPairsLine (yes_place old.line) → ranks_of h ≡ old.ranks) → StageKept (yes_place old.line) s → TakesYes h old l s (On out)
    → TracksYes l (standing_after_yes h s) × (option_map said_item out ≡ handed_yes h s)
yes_goes (y.so_far version ranks pairs nodes k) old l (y.on q) None same known kept t = (
  (y.so_far version ranks pairs nodes k, sym t.2, sym t.3, (λ line. known (kept (subst IsPairsLine t.0 line)) ∙ sym t.1), ap (stands_yes (y.so_far version ranks pairs nodes k)) (sym t.0)),
  refl,
)
yes_goes h old l (y.on q) (Some i) same known kept t = absurd t
yes_goes (y.so_far version ranks pairs nodes k) old l (y.gives (y.version_item v) q) None same known kept t = (
  (y.so_far v ranks pairs nodes k, sym t.1.1, sym t.1.2, (λ line. absurd (kept (subst IsPairsLine t.0 line))), ap (stands_yes (y.so_far v ranks pairs nodes k)) (sym t.0)),
  refl,
)
yes_goes h old l (y.gives (y.version_item v) q) (Some i) same known kept t = absurd t.1
yes_goes (y.so_far version ranks pairs nodes k) old l (y.gives (y.ranks_item xs) q) None same known kept t = (
  (y.so_far version xs pairs nodes k, sym t.1.1, sym t.1.2, (λ line. sym t.1.0), ap (stands_yes (y.so_far version xs pairs nodes k)) (sym t.0)),
  refl,
)
yes_goes h old l (y.gives (y.ranks_item xs) q) (Some i) same known kept t = absurd t.1
yes_goes h old l (y.gives (y.pairs_item n) q) None same known kept t = absurd t.1
yes_goes (y.so_far version ranks pairs nodes k) old l (y.gives (y.pairs_item n) q) (Some out) same known kept t = (
  (y.so_far version ranks n nodes 1, sym t.1.1, sym t.1.2, (λ line. absurd (kept.1 (subst IsPairsLine t.0 line))), ap (stands_yes (y.so_far version ranks n nodes 1)) (sym t.0)),
  ap Some (t.1.0 ∙ ap (λ (xs : List ℕ). yes_head version xs n) (sym (known kept.0))),
)
yes_goes h old l (y.gives (y.node_item x) q) None same known kept t = absurd t.1
yes_goes (y.so_far version ranks pairs nodes k) old l (y.gives (y.node_item x) q) (Some out) same known kept t = (
  (y.gather (y.so_far version ranks pairs nodes k) (y.node_item x), sym t.1.2, sym t.1.3, (λ line. absurd (kept (subst IsPairsLine t.0 line))), ap (stands_yes (y.gather (y.so_far version ranks pairs nodes k) (y.node_item x))) (sym t.0)),
  ap Some t.1.0,
)
yes_goes h old l (y.gives y.end_item q) None same known kept t = absurd t.1
yes_goes (y.so_far version ranks pairs nodes k) old l (y.gives y.end_item q) (Some out) same known kept t = (
  (y.so_far version ranks pairs nodes k, sym t.1.2, sym t.1.3, (λ line. absurd (kept (subst IsPairsLine t.0 line))), ap (stands_yes (y.so_far version ranks pairs nodes k)) (sym t.0)),
  ap Some t.1.0,
)
yes_goes h old l y.refused out same known kept t = absurd t

pub yes_stops : (h : y.Past) (old new : YesItems) (s : y.LineStep) → TakesYes h old new s Wrong → standing_after_yes h s ≡ wrong
yes_stops h old new (y.on q) t = absurd t
yes_stops h old new (y.gives i q) t = absurd t
yes_stops h old new y.refused t = refl

-- the line of the number of pairs is the second stage

in_second : (p : y.Place) → IsPairsLine p → stage p ≡ second
in_second (y.word w y.to_pairs) line = refl
in_second (y.number_wanted y.of_pairs) line = refl
in_second (y.number y.of_pairs n) line = refl
in_second p line = absurd line

listed_not : (of : y.Listed) → stage (y.listed of []) ≡ second → ⊥
listed_not y.of_ranks e = absurd cc
listed_not (y.of_block left parts) e = absurd cc
listed_not (y.of_drop args) e = absurd cc
listed_not y.of_usable e = absurd cc
listed_not (y.of_poly usable funs marks rules pairs) e = absurd cc
listed_not (y.of_order funs marks rules pairs) e = absurd cc

of_second : (p : y.Place) → stage p ≡ second → IsPairsLine p
of_second (y.word w y.to_version) e = absurd cc
of_second (y.word w (y.to_list of)) e = absurd (listed_not of e)
of_second (y.word w y.to_pairs) e = tt
of_second (y.word w y.to_done) e = absurd cc
of_second (y.word w y.to_alone) e = absurd cc
of_second (y.word w y.to_blocks) e = absurd cc
of_second (y.word w y.to_subterm) e = absurd cc
of_second (y.word w (y.to_name args)) e = absurd cc
of_second (y.word w y.to_poly) e = absurd cc
of_second (y.word w (y.to_line usable x)) e = absurd cc
of_second (y.word w y.to_order) e = absurd cc
of_second (y.word w (y.to_order_line x)) e = absurd cc
of_second (y.word w y.to_finish) e = absurd cc
of_second y.version_wanted e = absurd cc
of_second (y.listed of xs) e = absurd (listed_not of e)
of_second (y.number_wanted y.of_pairs) e = tt
of_second (y.number_wanted y.of_blocks) e = absurd cc
of_second (y.number_wanted (y.of_place args name)) e = absurd cc
of_second (y.number_wanted (y.of_list of xs)) e = absurd (listed_not of e)
of_second (y.number y.of_pairs n) e = tt
of_second (y.number y.of_blocks n) e = absurd cc
of_second (y.number (y.of_place args name) n) e = absurd cc
of_second (y.number (y.of_list of xs) n) e = absurd (listed_not of e)
of_second y.front e = absurd cc
of_second (y.arg_front args) e = absurd cc
of_second (y.name_wanted args) e = absurd cc
of_second (y.letters args xs) e = absurd cc
of_second (y.poly_lines usable x k) e = absurd cc
of_second (y.order_lines x k) e = absurd cc
of_second y.finished e = absurd cc

not_first : (q : y.Place) → stage q ≡ first → IsPairsLine q → ⊥
not_first q e line = (let both = sym (in_second q line) ∙ e in absurd cc)

not_third : (q : y.Place) → stage q ≡ third → IsPairsLine q → ⊥
not_third q e line = (let both = sym (in_second q line) ∙ e in absurd cc)

stage_kept : (v w : _) (n : ℕ) (p : y.Place) (s : y.LineStep) (f : List ℕ → List ℕ) → LineNext v w n s (stage p) f → StageKept p s
stage_kept u w n p (y.on q) f next = λ line. of_second p (sym next.0 ∙ in_second q line)
stage_kept u w n p (y.gives (y.version_item v) q) f next = not_first q next.1
stage_kept u w n p (y.gives (y.ranks_item xs) q) f next = tt
stage_kept u w n p (y.gives (y.pairs_item k) q) f next = (of_second p (sym next.0), not_third q next.1)
stage_kept u w n p (y.gives (y.node_item x) q) f next = not_third q next.1
stage_kept u w n p (y.gives y.end_item q) f next = not_third q next.1
stage_kept u w n p y.refused f next = tt

pub stage_kept_at : (p : List ℕ) (h : y.Past) (q : y.Place) (b : ℕ) → run start p ≡ stands_yes h q → StageKept q (y.step (y.version_of h) (y.wants h) q b)
stage_kept_at p h q b e =
    let g = reached_yes p h q e in
    stage_kept (y.version_of h) (y.wants h) (suc g.since) q (y.step (y.version_of h) (y.wants h) q b) (λ r. g.line (b ∷ r)) (lead_kept (y.version_of h) (y.wants h) g.since q b g.place g.right g.line g.reads)

-- where the reader stands

pub tracks_goes : (at : Progress) (s : Standing) → Tracks at s → s ≡ wrong → ⊥
tracks_goes Unread s t e = (let other = sym t ∙ e in absurd cc)
tracks_goes (Yes l) s t e = (let other = sym t.4 ∙ e in absurd cc)
tracks_goes (No l) s t e = (let other = sym t.1 ∙ e in absurd cc)
tracks_goes Refused s t e = t
tracks_goes Lost s t e = t

pub stand_of : (at : Progress) (n : ℕ) (p : List ℕ) → n ≡ length p → Tracks at (run start p) → Stand at n p
stand_of Unread n p e t = (e, t)
stand_of (Yes l) n p e t = (e, t)
stand_of (No l) n p e t = (e, t)
stand_of Refused n p e t = absurd t
stand_of Lost n p e t = absurd t

-- where the reader stood before the byte, by the bytes so far
pub record Known (old mid new : CertReader) (b : ℕ) (r : Result (Option Item) (Or CertSyntax)) (p : List ℕ) : Type 0 where
  pub s : Standing
  pub counted : old.taken ≡ length p
  pub same : mid.taken ≡ old.taken
  pub here : run start p ≡ s
  pub goes : s ≡ wrong → ⊥
  pub led : Led s mid new b r

on_at : (old mid new : CertReader) (b : ℕ) (x : Option Item) (p : List ℕ) → Known old mid new b (Ok x) p → length p < 2 ^ 32 - 1
    → StandsFor new (p ++ b ∷ []) × Begins (p ++ b ∷ [])
on_at old mid new b x p k short =
    let there : run start (p ++ b ∷ []) ≡ take_byte k.s b = next_run p b ∙ ap (λ (s : Standing). take_byte s b) k.here in
    let tracks : Tracks new.at (run start (p ++ b ∷ [])) = subst (Tracks new.at) (sym there) k.led.1 in (
      stand_of new.at new.taken (p ++ b ∷ []) (omega (arith, k.led.0, k.same, k.counted, longer p b)) tracks,
      goes_begins (p ++ b ∷ []) (omega (arith, longer p b, short)) (λ h. tracks_goes new.at (run start (p ++ b ∷ [])) tracks (is_wrong _ h)),
    )

front_is : (p : List ℕ) (b : ℕ) → take (length p) (p ++ b ∷ []) ≡ p
front_is p b = take_at p (b ∷ []) (length p) refl

whole_is : (p : List ℕ) (b : ℕ) → take (length p + 1) (p ++ b ∷ []) ≡ p ++ b ∷ []
whole_is p b = take_all (length p + 1) (p ++ b ∷ []) (omega (arith, longer p b))

-- the byte is the first wrong one
stops_here : (p : List ℕ) (b : ℕ) → (run start p ≡ wrong → ⊥) → take_byte (run start p) b ≡ wrong → StopsAt (p ++ b ∷ []) (length p)
stops_here p b goes e = (
  omega (arith, longer p b),
  λ h. goes (ap (run start) (sym (front_is p b)) ∙ h),
  ap (run start) (whole_is p b) ∙ next_run p b ∙ e,
)

-- a wrong byte stays the first one
stops_still : (p : List ℕ) (b n : ℕ) → StopsAt p n → StopsAt (p ++ b ∷ []) n
stops_still p b n (within, goes, stop) = (
  omega (arith, within, longer p b),
  λ h. goes (ap (run start) (sym (take-append-le n p (b ∷ []) (omega (arith, within)))) ∙ h),
  ap (run start) (take-append-le (n + 1) p (b ∷ []) (omega (arith, within))) ∙ stop,
)

pub fault_of : (p : List ℕ) (n : ℕ) → length p < 2 ^ 32 → StopsAt p n → FaultAt p n
fault_of p n short (within, goes, stop) = stopped_at p n short within (λ h. goes (is_wrong _ h)) (stops _ stop)

-- past a wrong byte nothing is right
still_wrong : (p : List ℕ) (n : ℕ) → StopsAt p n → run start p ≡ wrong
still_wrong p n (within, goes, stop) =
    ap (run start) (sym (take-append-drop (n + 1) p)) ∙ run_append start (take (n + 1) p) (drop (n + 1) p)
    ∙ ap (λ (s : Standing). run s (drop (n + 1) p)) stop ∙ run_wrong (drop (n + 1) p)

pub begins_none : (p : List ℕ) (n : ℕ) → StopsAt p n → Begins p → ⊥
begins_none p n stop begins = begins_goes p begins (stops _ (still_wrong p n stop))

pub stop_said : (new : CertReader) (p : List ℕ) (e n : ℕ) → new.at ≡ Refused → new.taken ≡ n → e ≡ n → length p < 2 ^ 32 → StopsAt p n
    → StandsFor new p × FaultAt p e × (Begins p → ⊥)
stop_said new p e n is taken place short stop = (
  subst (λ (at : Progress). Stand at new.taken p) (sym is) (subst (StopsAt p) (sym taken) stop),
  fault_of p e short (subst (StopsAt p) (sym place) stop),
  begins_none p n stop,
)

stops_at : (old mid new : CertReader) (b : ℕ) (e : CertSyntax) (p : List ℕ) → Known old mid new b (Err (Because e)) p → length p < 2 ^ 32 - 1
    → StandsFor new (p ++ b ∷ []) × FaultAt (p ++ b ∷ []) e.at × (Begins (p ++ b ∷ []) → ⊥)
stops_at old mid new b e p k short =
    let here : StopsAt (p ++ b ∷ []) (length p) =
    stops_here p b (λ h. k.goes (sym k.here ∙ h)) (ap (λ (s : Standing). take_byte s b) k.here ∙ k.led.3) in
    stop_said new (p ++ b ∷ []) e.at (length p) k.led.2 (omega (arith, k.led.1, k.same, k.counted)) (omega (arith, k.led.0, k.same, k.counted)) (omega (arith, longer p b, short)) here

end_here : (s u : Standing) (c : Cert) → s ≡ u → IsEnd s c → IsEnd u c
end_here s u (no t steps at puts) e h = sym e ∙ h
end_here s u (yes version ranks pairs nodes) e h = sym e ∙ h

lost_at : (old mid new : CertReader) (b : ℕ) (p : List ℕ) → Known old mid new b (Err NoMemory) p → length p < 2 ^ 32 - 1 → StandsFor new p × Begins p
lost_at old mid new b p k short =
    let begins : Begins p = goes_begins p (omega (arith, short)) (λ h. k.goes (sym k.here ∙ is_wrong _ h)) in (
      subst (λ (at : Progress). Stand at new.taken p) (sym k.led.1) (
        omega (arith, k.led.0, k.same, k.counted),
        begins,
        λ c t. k.led.2 c (end_here (run start p) k.s c k.here (text_run p c t)),
      ),
      begins,
    )

pub led_on : (r : Result (Option Item) (Or CertSyntax)) (old mid new : CertReader) (b : ℕ) → ((p : List ℕ) → StandsFor old p → Known old mid new b r p)
    → OnOk r ((p : List ℕ) → StandsFor old p → length p < 2 ^ 32 - 1 → StandsFor new (p ++ b ∷ []) × Begins (p ++ b ∷ []))
led_on (Ok x) old mid new b k = λ p h short. on_at old mid new b x p (k p h) short
led_on (Err x) old mid new b k = tt

pub led_stops : (r : Result (Option Item) (Or CertSyntax)) (old mid new : CertReader) (b : ℕ) → ((p : List ℕ) → StandsFor old p → Known old mid new b r p)
    → IfBecause r (λ e. (p : List ℕ) → StandsFor old p → length p < 2 ^ 32 - 1 → StandsFor new (p ++ b ∷ []) × FaultAt (p ++ b ∷ []) e.at × (Begins (p ++ b ∷ []) → ⊥))
led_stops (Ok x) old mid new b k = tt
led_stops (Err NoMemory) old mid new b k = tt
led_stops (Err (Because e)) old mid new b k = λ p h short. stops_at old mid new b e p (k p h) short

pub led_lost : (r : Result (Option Item) (Or CertSyntax)) (old mid new : CertReader) (b : ℕ) → ((p : List ℕ) → StandsFor old p → Known old mid new b r p)
    → OnWant r ((p : List ℕ) → StandsFor old p → length p < 2 ^ 32 - 1 → StandsFor new p × Begins p)
led_lost (Ok x) old mid new b k = tt
led_lost (Err NoMemory) old mid new b k = λ p h short. lost_at old mid new b p (k p h) short
led_lost (Err (Because e)) old mid new b k = tt

-- where it stood, by what it keeps
pub unread_known : (old mid new : CertReader) (b : ℕ) (r : Result (Option Item) (Or CertSyntax)) → old.at ≡ Unread → mid.taken ≡ old.taken → Led unread mid new b r
    → (p : List ℕ) → StandsFor old p → Known old mid new b r p
unread_known old mid new b r was same led p h =
    let t : (old.taken ≡ length p) × (run start p ≡ unread) = subst (λ (at : Progress). Stand at old.taken p) was h in
    record { s = unread; counted = t.0; same = same; here = t.1; goes = λ e. absurd cc; led = led }

pub no_known : (old mid new : CertReader) (b : ℕ) (r : Result (Option Item) (Or CertSyntax)) (l : Box NoLine) → old.at ≡ No l → mid.taken ≡ old.taken
    → ((h : m.Past) → Led (stands h (line_place l.value)) mid new b r) → (p : List ℕ) → StandsFor old p → Known old mid new b r p
no_known old mid new b r l was same led p h =
    let t : (old.taken ≡ length p) × Tracks (No l) (run start p) = subst (λ (at : Progress). Stand at old.taken p) was h in
    record { s = stands t.1.0 (line_place l.value); counted = t.0; same = same; here = t.1.1; goes = λ e. absurd cc; led = led t.1.0 }

pub yes_known : (old mid new : CertReader) (b : ℕ) (r : Result (Option Item) (Or CertSyntax)) (l : Box YesItems) → old.at ≡ Yes l → mid.taken ≡ old.taken
    → ((h : y.Past) → wanted h ≡ l.value.wanted → y.version_of h ≡ l.value.version → HeadKnown h l.value b → Led (stands_yes h (yes_place l.value.line)) mid new b r)
    → (p : List ℕ) → StandsFor old p → Known old mid new b r p
yes_known old mid new b r l was same led p h =
    let t : (old.taken ≡ length p) × Tracks (Yes l) (run start p) = subst (λ (at : Progress). Stand at old.taken p) was h in
    let u = t.1 in
    let known : HeadKnown u.0 l.value b = (u.3, stage_kept_at p u.0 (yes_place l.value.line) b u.4) in
    record { s = stands_yes u.0 (yes_place l.value.line); counted = t.0; same = same; here = u.4; goes = λ e. absurd cc; led = led u.0 u.1 u.2 known }

-- the bytes are refused for good
refused_still : (old new : CertReader) (b n : ℕ) → old.at ≡ Refused → new.at ≡ Refused → new.taken ≡ old.taken → n ≡ old.taken → (p : List ℕ) → StandsFor old p
    → length p < 2 ^ 32 - 1 → StandsFor new (p ++ b ∷ []) × FaultAt (p ++ b ∷ []) n × (Begins (p ++ b ∷ []) → ⊥)
refused_still old new b n was is same place p h short =
    let before : StopsAt p old.taken = subst (λ (at : Progress). Stand at old.taken p) was h in
    stop_said new (p ++ b ∷ []) n old.taken is same place (omega (arith, longer p b, short)) (stops_still p b old.taken before)

pub refuses_says : (r : Result (Option Item) (Or CertSyntax)) (old mid new : CertReader) (b : ℕ) → old.at ≡ Refused → mid.taken ≡ old.taken → Refuses mid new r
    → IfBecause r (λ e. (p : List ℕ) → StandsFor old p → length p < 2 ^ 32 - 1 → StandsFor new (p ++ b ∷ []) × FaultAt (p ++ b ∷ []) e.at × (Begins (p ++ b ∷ []) → ⊥))
refuses_says (Ok x) old mid new b was same h = tt
refuses_says (Err NoMemory) old mid new b was same h = tt
refuses_says (Err (Because e)) old mid new b was same h = refused_still old new b e.at was h.2 (h.1 ∙ same) (h.0 ∙ same)

-- the end

place_ended : (k : YesPlace) (l : YesLine) → yes_ended k ≡ true → place_of k l ≡ y.finished
place_ended place.Finished l e = refl
place_ended k l e = absurd cc

naming_goes : (o : Option Letters) (f : List ℕ → y.Place) → ((xs : List ℕ) → f xs ≡ y.finished → ⊥) → naming o f ≡ y.finished → ⊥
naming_goes None f not e = absurd cc
naming_goes (Some name) f not e = not name e

ended_place : (k : YesPlace) (l : YesLine) → yes_ended k ≡ false → place_of k l ≡ y.finished → ⊥
ended_place (place.Word o i) l e f = absurd cc
ended_place place.VersionWanted l e f = absurd cc
ended_place (place.Listed of) l e f = absurd cc
ended_place (place.NumberWanted of) l e f = absurd cc
ended_place (place.Number of n) l e f = absurd cc
ended_place place.Front l e f = absurd cc
ended_place place.ArgFront l e f = absurd cc
ended_place place.NameWanted l e f = absurd cc
ended_place place.Name l e f = naming_goes l.name _ (λ xs g. absurd cc) f
ended_place place.ArgPlaceWanted l e f = naming_goes l.name _ (λ xs g. absurd cc) f
ended_place (place.ArgPlace n) l e f = naming_goes l.name _ (λ xs g. absurd cc) f
ended_place place.Lines l e f = absurd cc
ended_place place.OrderLines l e f = absurd cc
ended_place place.Finished l e f = absurd cc

no_place_ended : (k : LinePlace) (l : NoLine) → no_ended k ≡ true → no_place_of k l ≡ m.finished
no_place_ended no_place.Finished l e = refl
no_place_ended k l e = absurd cc

nowhere_near : (o : Option RawType) (n : ℕ) (l : NoLine) → putting n o l ≡ m.finished → ⊥
nowhere_near None n l e = absurd cc
nowhere_near (Some a) n l e = absurd cc

no_ended_place : (k : LinePlace) (l : NoLine) → no_ended k ≡ false → no_place_of k l ≡ m.finished → ⊥
no_ended_place (no_place.Word o i) l e f = absurd cc
no_ended_place no_place.Term l e f = absurd cc
no_ended_place no_place.Line l e f = absurd cc
no_ended_place no_place.Rule l e f = absurd cc
no_ended_place (no_place.RuleNumber n) l e f = absurd cc
no_ended_place (no_place.StepPath rule) l e f = absurd cc
no_ended_place no_place.AtPath l e f = absurd cc
no_ended_place no_place.LaterLine l e f = absurd cc
no_ended_place no_place.PutVariable l e f = absurd cc
no_ended_place (no_place.PutNumber n) l e f = absurd cc
no_ended_place (no_place.PutType n) l e f = absurd cc
no_ended_place (no_place.PutTerm n) l e f = nowhere_near l.kind n l f
no_ended_place no_place.Finished l e f = absurd cc

placed_behind : (n : ℕ) (h : m.Past) (f : List ℕ → List ℕ) → Good n h m.finished f → (c : Cert) × IsEnd (stands h m.finished) c
placed_behind n m.nothing f g = (let both = g.staged in absurd cc)
placed_behind n (m.begun t steps) f g = (let both = g.staged in absurd cc)
placed_behind n (m.placed t steps path puts) f g = (no t steps path puts, refl)

no_end : (p : List ℕ) (h : m.Past) → run start p ≡ stands h m.finished → (c : Cert) × IsEnd (run start p) c
no_end p h e =
    let w = placed_behind (length p) h (λ r. p ++ r) (reached_at p h m.finished e) in
    (w.0, end_here (stands h m.finished) (run start p) w.0 (sym e) w.1)

yes_end : (p : List ℕ) (h : y.Past) → run start p ≡ stands_yes h y.finished → (c : Cert) × IsEnd (run start p) c
yes_end p (y.so_far version ranks pairs nodes k) e =
    let none = end_found (length p) version ranks pairs nodes k (λ r. p ++ r) (reached_yes p (y.so_far version ranks pairs nodes k) y.finished e) in
    (yes version ranks pairs nodes, e ∙ ap (λ (j : ℕ). stands_yes (y.so_far version ranks pairs nodes j) y.finished) none.1)

whole_said : (p : List ℕ) → length p < 2 ^ 32 → (c : Cert) × IsEnd (run start p) c → (c : Cert) × CertText p c × ((is : List items.Item) → ItemsIn p is → is ≡ items.items c)
whole_said p short (c, e) =
    let t : CertText p c = text_found p c short e in
    (c, t, λ is h. all_items p c is t h)

pub finish_whole : (at : Progress) (n : ℕ) (p : List ℕ) → has_ended at ≡ true → Stand at n p → length p < 2 ^ 32
    → (c : Cert) × CertText p c × ((is : List items.Item) → ItemsIn p is → is ≡ items.items c)
finish_whole (Yes l) n p ended h short =
    let t : Tracks (Yes l) (run start p) = h.1 in
    whole_said p short (yes_end p t.0 (t.4 ∙ ap (stands_yes t.0) (place_ended l.value.line.place l.value.line ended)))
finish_whole (No l) n p ended h short =
    let t : Tracks (No l) (run start p) = h.1 in
    whole_said p short (no_end p t.0 (t.1 ∙ ap (stands t.0) (no_place_ended l.value.place l.value ended)))
finish_whole Unread n p ended h short = absurd cc
finish_whole Refused n p ended h short = absurd cc
finish_whole Lost n p ended h short = absurd cc

early_said : (p : List ℕ) (n : ℕ) (s : Standing) → length p < 2 ^ 32 → n ≡ length p → run start p ≡ s → (s ≡ wrong → ⊥) → ((c : Cert) → IsEnd s c → ⊥) → FaultAt p n
early_said p n s short same here goes early =
    subst (FaultAt p) (sym same) (ended_early p short (λ h. goes (sym here ∙ is_wrong _ h)) (λ c e. early c (end_here (run start p) s c here e)))

unread_early : (c : Cert) → IsEnd unread c → ⊥
unread_early (no t steps at puts) e = absurd cc
unread_early (yes version ranks pairs nodes) e = absurd cc

stands_early : (h : m.Past) (q : m.LinePlace) (c : Cert) → (q ≡ m.finished → ⊥) → IsEnd (stands h q) c → ⊥
stands_early h q (no t steps at puts) not e = not cc
stands_early h q (yes version ranks pairs nodes) not e = absurd cc

yes_early : (h : y.Past) (q : y.Place) (c : Cert) → (q ≡ y.finished → ⊥) → IsEnd (stands_yes h q) c → ⊥
yes_early h q (no t steps at puts) not e = absurd cc
yes_early h q (yes version ranks pairs nodes) not e = not cc

lost_fault : (p : List ℕ) (n : ℕ) → Stand Lost n p → FaultAt p n
lost_fault p n (same, begins, none) =
    record {
      no_text = none;
      place = record {
        within = omega (arith, same);
        begins = subst Begins (sym (ap (λ (k : ℕ). take k p) same ∙ take-length p)) begins;
        longest = λ k within h. omega (arith, same, within);
      };
    }

pub finish_fault : (at : Progress) (n : ℕ) (p : List ℕ) → has_ended at ≡ false → Stand at n p → length p < 2 ^ 32 → FaultAt p n
finish_fault Unread n p ended h short = early_said p n unread short h.0 h.1 (λ e. absurd cc) unread_early
finish_fault (Yes l) n p ended h short =
    let t : Tracks (Yes l) (run start p) = h.1 in
    early_said p n (stands_yes t.0 (yes_place l.value.line)) short h.0 t.4 (λ e. absurd cc) (λ c e. yes_early t.0 (yes_place l.value.line) c (ended_place l.value.line.place l.value.line ended) e)
finish_fault (No l) n p ended h short =
    let t : Tracks (No l) (run start p) = h.1 in
    early_said p n (stands t.0 (line_place l.value)) short h.0 t.1 (λ e. absurd cc) (λ c e. stands_early t.0 (line_place l.value) c (no_ended_place l.value.place l.value ended) e)
finish_fault Refused n p ended h short = fault_of p n short h
finish_fault Lost n p ended h short = lost_fault p n h

-- the item that a byte hands out
item_at : (old mid new : CertReader) (b : ℕ) (out : Option Item) (p : List ℕ) (is : List items.Item) → Known old mid new b (Ok out) p → length p < 2 ^ 32 - 1
    → ItemsIn p is → ItemsIn (p ++ b ∷ []) (is ++ option_to_list (option_map said_item out))
item_at old mid new b out p is k short h =
    let begins : Begins (p ++ b ∷ []) = (on_at old mid new b out p k short).1 in
    subst (λ (v : Option items.Item). ItemsIn (p ++ b ∷ []) (is ++ option_to_list v))
    (ap (λ (s : Standing). handed s b) k.here ∙ sym k.led.2)
    (item_next p b is begins h)

pub led_item : (r : Result (Option Item) (Or CertSyntax)) (old mid new : CertReader) (b : ℕ) → ((p : List ℕ) → StandsFor old p → Known old mid new b r p)
    → IfOk r (λ out. (p : List ℕ) (is : List items.Item) → StandsFor old p → length p < 2 ^ 32 - 1 → ItemsIn p is → ItemsIn (p ++ b ∷ []) (is ++ option_to_list (option_map said_item out)))
led_item (Ok out) old mid new b k = λ p is h short has. item_at old mid new b out p is (k p h) short has
led_item (Err x) old mid new b k = tt
