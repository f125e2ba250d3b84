-- Several bytes at once: what each does to what stands so far.
use Rattle.std.proofs.Common.{◌≡◌, ℕ, Bool, nat_lt, ◌+◌, ◌^◌, ◌<◌, ◌≤◌, List, [], ◌∷◌, ◌++◌, length, take, get_or, Option, Some, None, Result, Ok, Err, refl, sym, ap, ◌∙◌, subst, arith, append_assoc, append-nil}
use Rattle.std.specs.Global.{Box}
use Rattle.std.specs.Option.{option_map, option_to_list}
use Rattle.std.proofs.Math.Seq.{take-append-add}
use Rattle.std.proofs.lemmas.List.{length-append, length-take-le, take_all, take_more, take-append-le}
use Rattle.wh_types.specs.declared.want.Or.{Or}
use Rattle.wh_types.specs.declared.want.Or.TheVariants.{NoMemory, Because}
use Rattle.wh_cert.specs.Items.{Item}
use Rattle.wh_cert.specs.Said.{said_item}
use Rattle.wh_cert.specs.CertText.{Begins}
use Rattle.wh_cert.specs.declared.item.Item as code
use Rattle.wh_cert.specs.declared.certificate.CertSyntax.{CertSyntax}
use Rattle.wh_cert_text.specs.ItemsRead.{ItemsIn}
use Rattle.wh_cert_machines.specs.LineMachine as m
use Rattle.wh_cert_machines.specs.LineMachine.{Standing, unread, stands, stands_yes, wrong, standing_after, standing_after_yes, run, start, take_byte, line_step}
use Rattle.wh_cert_machines.specs.YesMachine as y
use Rattle.wh_cert_machines.specs.LineViews.{line_place}
use Rattle.wh_cert_machines.specs.YesViews.{yes_place}
use Rattle.wh_cert_text.specs.Handing.{GivesYes, TakesYes, handed, handed_no, no_item, wanted}
use Rattle.wh_cert_text.specs.Feeding.{Led, Stand, StandsFor, StopsAt, Tracks, TracksNo, TracksYes}
use Rattle.wh_cert_text.specs.Portions.{Adds, HasFed, HasRun, RefusesSome}
use Rattle.wh_cert_machines.specs.declared.line_reader.NoLine.{NoLine}
use Rattle.wh_cert_machines.specs.declared.progress.YesItems.{YesItems}
use Rattle.wh_cert_machines.specs.declared.yes_line.YesLine.{YesLine}
use Rattle.wh_cert_text.specs.declared.items_out.Taken.{Taken}
use Rattle.wh_cert_text.specs.declared.items_out.Taken.TheVariants.{On, Wrong}
use Rattle.wh_cert_text.specs.declared.items_out.Stretch.TheVariants as stretch
use Rattle.wh_cert_text.specs.declared.cert_reader.CertReader.{CertReader}
use Rattle.wh_cert_text.specs.declared.cert_reader.Portion.{Portion}
use Rattle.wh_cert_machines.specs.declared.progress.Progress.{Progress}
use Rattle.wh_cert_machines.specs.declared.progress.Progress.TheVariants.{Unread, Yes, No, Refused}
use Rattle.wh_cert_text.proofs.Whole.{goes_begins}
use Rattle.wh_cert_text.proofs.ItemsWhole.{item_next}
use Rattle.wh_cert_text.proofs.CertReaderCode.{is_wrong, longer, next_run, stage_kept_at, stand_of, stop_said, tracks_goes, yes_goes, yes_stops}

-- no wrong place is where T says that the bytes led
abbrev pub Goes : (Standing → Type 0) → Type 0
Goes T = (s : Standing) → T s → s ≡ wrong → ⊥

pub no_goes_on : (l : NoLine) → Goes (TracksNo l)
no_goes_on l s t e = (let other = sym t.1 ∙ e in absurd cc)

pub yes_goes_on : (l : YesItems) → Goes (TracksYes l)
yes_goes_on l s t e = (let other = sym t.4 ∙ e in absurd cc)

-- behind the first k of the bytes T holds, and they add no item
abbrev pub SoFar : (Standing → Type 0) → List ℕ → List ℕ → ℕ → Type 0
SoFar T p bytes k = T (run start (p ++ take k bytes)) × Adds p (take k bytes) []

pub at_first : (T : Standing → Type 0) (p bytes : List ℕ) → T (run start p) → SoFar T p bytes 0
at_first T p bytes t = (
  subst (λ (v : List ℕ). T (run start v)) (sym (append-nil p)) t,
  λ is h. subst (λ (v : List ℕ). ItemsIn v (is ++ [])) (sym (append-nil p)) (subst (ItemsIn p) (sym (append-nil is)) h),
)

pub at_last : (T : Standing → Type 0) (p bytes : List ℕ) → SoFar T p bytes (length bytes) → HasRun T p bytes stretch.On
at_last T p bytes so_far = subst (λ (v : List ℕ). T (run start (p ++ v)) × Adds p v []) (take_all (length bytes) bytes (omega arith)) so_far

up_to : (p bytes : List ℕ) (k : ℕ) → k < length bytes → p ++ take (k + 1) bytes ≡ (p ++ take k bytes) ++ get_or bytes k 0 ∷ []
up_to p bytes k below = ap (λ (v : List ℕ). p ++ v) (take_more bytes k 0 below) ∙ sym (append_assoc p (take k bytes) (get_or bytes k 0 ∷ []))

-- one byte more, by which it goes on to where U holds
pub one_more : (T U : Standing → Type 0) (p bytes : List ℕ) (k : ℕ) (s : Standing) (out : Option Item) → Goes U → k < length bytes
    → length p + length bytes < 2 ^ 32 → SoFar T p bytes k → run start (p ++ take k bytes) ≡ s → U (take_byte s (get_or bytes k 0))
    → handed s (get_or bytes k 0) ≡ out → U (run start (p ++ take (k + 1) bytes)) × Adds p (take (k + 1) bytes) (option_to_list out)
one_more T U p bytes k s out goes below short so_far here next hands =
    let q = p ++ take k bytes in
    let b = get_or bytes k 0 in
    let there : run start (q ++ b ∷ []) ≡ take_byte s b = next_run q b ∙ ap (λ (u : Standing). take_byte u b) here in
    let u : U (run start (q ++ b ∷ [])) = subst U (sym there) next in
    let begins : Begins (q ++ b ∷ []) =
    goes_begins (q ++ b ∷ []) (omega (arith, longer q b, length-append p (take k bytes), length-take-le k bytes (omega (arith, below)), below, short))
    (λ h. goes (run start (q ++ b ∷ [])) u (is_wrong _ h)) in
    let same = up_to p bytes k below in (
      subst (λ (v : List ℕ). U (run start v)) (sym same) u,
      λ is h. subst (λ (v : List ℕ). ItemsIn v (is ++ option_to_list out)) (sym same)
          (subst (λ (v : Option Item). ItemsIn (q ++ b ∷ []) (is ++ option_to_list v)) (ap (λ (v : Standing). handed v b) here ∙ hands)
          (item_next q b is begins (subst (ItemsIn q) (append-nil is) (so_far.1 is h)))),
    )

-- one byte more, which is wrong
pub wrong_there : (T : Standing → Type 0) (p bytes : List ℕ) (k : ℕ) (s : Standing) → Goes T → k < length bytes → SoFar T p bytes k
    → run start (p ++ take k bytes) ≡ s → take_byte s (get_or bytes k 0) ≡ wrong → StopsAt (p ++ bytes) (length p + k)
wrong_there T p bytes k s goes below so_far here stops = (
  omega (arith, below, length-append p bytes),
  λ e. goes (run start (p ++ take k bytes)) so_far.0 (ap (run start) (sym (take-append-add p bytes k)) ∙ e),
  ap (run start) (ap (λ (n : ℕ). take n (p ++ bytes)) (omega arith) ∙ take-append-add p bytes (k + 1) ∙ up_to p bytes k below) ∙ next_run (p ++ take k bytes) (get_or bytes k 0)
      ∙ ap (λ (u : Standing). take_byte u (get_or bytes k 0)) here ∙ stops,
)

-- a byte of a NO certificate
pub no_on : (p bytes : List ℕ) (k : ℕ) (l new : NoLine) → k < length bytes → length p + length bytes < 2 ^ 32
    → m.on (line_place new) ≡ line_step (line_place l) (get_or bytes k 0) → SoFar (TracksNo l) p bytes k → SoFar (TracksNo new) p bytes (k + 1)
no_on p bytes k l new below short e so_far =
    let (h, here) = so_far.0 in
    one_more (TracksNo l) (TracksNo new) p bytes k (stands h (line_place l)) None (no_goes_on new) below short so_far here
    (h, ap (standing_after h) (sym e)) (ap handed_no (sym e))

pub no_whole : (p bytes : List ℕ) (k : ℕ) (l new : NoLine) (i : m.Item) (out : code.Item) → k < length bytes → length p + length bytes < 2 ^ 32
    → m.gives i (line_place new) ≡ line_step (line_place l) (get_or bytes k 0) → said_item out ≡ no_item i → SoFar (TracksNo l) p bytes k
    → HasRun (TracksNo new) p bytes (stretch.Whole (k + 1) out)
no_whole p bytes k l new i out below short e said so_far =
    let (h, here) = so_far.0 in
    one_more (TracksNo l) (TracksNo new) p bytes k (stands h (line_place l)) (Some (said_item out)) (no_goes_on new) below short so_far here
    (m.gather h i, ap (standing_after h) (sym e)) (ap handed_no (sym e) ∙ ap Some (sym said))

pub no_wrong : (p bytes : List ℕ) (k : ℕ) (l new : NoLine) → k < length bytes → m.refused ≡ line_step (line_place l) (get_or bytes k 0)
    → SoFar (TracksNo l) p bytes k → HasRun (TracksNo new) p bytes (stretch.Wrong k)
no_wrong p bytes k l new below e so_far =
    let (h, here) = so_far.0 in
    wrong_there (TracksNo l) p bytes k (stands h (line_place l)) (no_goes_on l) below so_far here (ap (standing_after h) (sym e))

-- a byte of a YES certificate
abbrev pub Takes : YesItems → YesItems → ℕ → Taken → Type 0
Takes l new b taken =
    (h : y.Past) → wanted h ≡ l.wanted → y.version_of h ≡ l.version
    → TakesYes h l new (y.step (y.version_of h) (y.wants h) (yes_place l.line) b) taken

wants_is : (h : y.Past) (k : ℕ) → wanted h ≡ k → y.wants h ≡ nat_lt 0 k
wants_is (y.so_far version ranks pairs nodes n) k e = ap (λ (j : ℕ). nat_lt 0 j) e

-- as the code asks the machine
same_step : (h : y.Past) (l : YesItems) (b : ℕ) → wanted h ≡ l.wanted → y.version_of h ≡ l.version
    → y.step l.version (nat_lt 0 l.wanted) (yes_place l.line) b ≡ y.step (y.version_of h) (y.wants h) (yes_place l.line) b
same_step h l b same version =
    ap (λ (v : ℕ). y.step v (nat_lt 0 l.wanted) (yes_place l.line) b) (sym version)
    ∙ ap (λ (w : Bool). y.step (y.version_of h) w (yes_place l.line) b) (sym (wants_is h l.wanted same))

pub takes_on : (l : YesItems) (line : YesLine) (b : ℕ) → y.on (yes_place line) ≡ y.step l.version (nat_lt 0 l.wanted) (yes_place l.line) b
    → Takes l (record l { line = line }) b (On None)
takes_on l line b e = λ h same version.
    subst (λ (s : y.LineStep). TakesYes h l (record l { line = line }) s (On None)) (e ∙ same_step h l b same version) (refl, refl, sym same, sym version)

-- an item that the lines give is handed out behind the byte
same_ranks : (h : y.Past) (l new : YesItems) (line : YesLine) (i : y.Item) (out : Option code.Item) → GivesYes h (record l { line = line }) new i out
    → GivesYes h l new i out
same_ranks h l new line (y.version_item v) None t = t
same_ranks h l new line (y.version_item v) (Some x) t = t
same_ranks h l new line (y.ranks_item xs) None t = t
same_ranks h l new line (y.ranks_item xs) (Some x) t = t
same_ranks h l new line (y.pairs_item n) None t = t
same_ranks h l new line (y.pairs_item n) (Some x) t = t
same_ranks h l new line (y.node_item x) None t = t
same_ranks h l new line (y.node_item x) (Some z) t = t
same_ranks h l new line y.end_item None t = t
same_ranks h l new line y.end_item (Some x) t = t

pub takes_item : (l new : YesItems) (line : YesLine) (b : ℕ) (i : y.Item) (out : Option code.Item)
    → y.gives i (yes_place line) ≡ y.step l.version (nat_lt 0 l.wanted) (yes_place l.line) b → new.line ≡ line
    → ((h : y.Past) → wanted h ≡ l.wanted → y.version_of h ≡ l.version → GivesYes h (record l { line = line }) new i out)
    → Takes l new b (On out)
takes_item l new line b i out e there gives = λ h same version.
    subst (λ (s : y.LineStep). TakesYes h l new s (On out)) (e ∙ same_step h l b same version)
    (ap yes_place there, same_ranks h l new line i out (gives h same version))

pub takes_wrong : (l new : YesItems) (b : ℕ) → y.refused ≡ y.step l.version (nat_lt 0 l.wanted) (yes_place l.line) b → Takes l new b Wrong
takes_wrong l new b e = λ h same version. subst (λ (s : y.LineStep). TakesYes h l new s Wrong) (e ∙ same_step h l b same version) tt

yes_on_to : (p bytes : List ℕ) (k : ℕ) (l new : YesItems) (out : Option code.Item) → k < length bytes → length p + length bytes < 2 ^ 32
    → Takes l new (get_or bytes k 0) (On out) → SoFar (TracksYes l) p bytes k
    → TracksYes new (run start (p ++ take (k + 1) bytes)) × Adds p (take (k + 1) bytes) (option_to_list (option_map said_item out))
yes_on_to p bytes k l new out below short takes so_far =
    let t = so_far.0 in
    let b = get_or bytes k 0 in
    let both = yes_goes t.0 l new (y.step (y.version_of t.0) (y.wants t.0) (yes_place l.line) b) out t.1 t.3
    (stage_kept_at (p ++ take k bytes) t.0 (yes_place l.line) b t.4) (takes t.0 t.1 t.2) in
    one_more (TracksYes l) (TracksYes new) p bytes k (stands_yes t.0 (yes_place l.line)) (option_map said_item out) (yes_goes_on new) below short so_far t.4
    both.0 (sym both.1)

pub yes_on : (p bytes : List ℕ) (k : ℕ) (l new : YesItems) → k < length bytes → length p + length bytes < 2 ^ 32
    → Takes l new (get_or bytes k 0) (On None) → SoFar (TracksYes l) p bytes k → SoFar (TracksYes new) p bytes (k + 1)
yes_on p bytes k l new below short takes so_far = yes_on_to p bytes k l new None below short takes so_far

pub yes_whole : (p bytes : List ℕ) (k : ℕ) (l new : YesItems) (out : code.Item) → k < length bytes → length p + length bytes < 2 ^ 32
    → Takes l new (get_or bytes k 0) (On (Some out)) → SoFar (TracksYes l) p bytes k → HasRun (TracksYes new) p bytes (stretch.Whole (k + 1) out)
yes_whole p bytes k l new out below short takes so_far = yes_on_to p bytes k l new (Some out) below short takes so_far

pub yes_wrong : (p bytes : List ℕ) (k : ℕ) (l new : YesItems) → k < length bytes → Takes l new (get_or bytes k 0) Wrong
    → SoFar (TracksYes l) p bytes k → HasRun (TracksYes new) p bytes (stretch.Wrong k)
yes_wrong p bytes k l new below takes so_far =
    let t = so_far.0 in
    wrong_there (TracksYes l) p bytes k (stands_yes t.0 (yes_place l.line)) (yes_goes_on l) below so_far t.4
    (yes_stops t.0 l new (y.step (y.version_of t.0) (y.wants t.0) (yes_place l.line) (get_or bytes k 0)) (takes t.0 t.1 t.2))

-- the reader that goes on by what the lines did
fed_on : (p q : List ℕ) (more : List Item) (new : CertReader) → new.taken ≡ length p + length q → length p + length q < 2 ^ 32
    → Tracks new.at (run start (p ++ q)) → StandsFor new (p ++ q) × Begins (p ++ q)
fed_on p q more new taken short tracks = (
  stand_of new.at new.taken (p ++ q) (omega (arith, taken, length-append p q)) tracks,
  goes_begins (p ++ q) (omega (arith, short, length-append p q)) (λ h. tracks_goes new.at (run start (p ++ q)) tracks (is_wrong _ h)),
)

pub fed_all : (p bytes : List ℕ) (new : CertReader) → new.taken ≡ length p + length bytes → length p + length bytes < 2 ^ 32
    → HasRun (Tracks new.at) p bytes stretch.On → HasFed p bytes new (Ok (record { taken = length bytes; item = None }))
fed_all p bytes new taken short ran =
    let all = take_all (length bytes) bytes (omega arith) in
    let both = fed_on p bytes [] new taken short ran.0 in (
      subst (λ (v : List ℕ). StandsFor new (p ++ v)) (sym all) both.0,
      subst (λ (v : List ℕ). Begins (p ++ v)) (sym all) both.1,
      subst (λ (v : List ℕ). Adds p v []) (sym all) ran.1,
    )

pub fed_whole : (p bytes : List ℕ) (n : ℕ) (out : code.Item) (new : CertReader) → n ≤ length bytes → new.taken ≡ length p + n
    → length p + length bytes < 2 ^ 32 → HasRun (Tracks new.at) p bytes (stretch.Whole n out)
    → HasFed p bytes new (Ok (record { taken = n; item = Some out }))
fed_whole p bytes n out new within taken short ran =
    let long = length-take-le n bytes within in
    let both = fed_on p (take n bytes) [] new (omega (arith, taken, long)) (omega (arith, long, within, short)) ran.0 in
    (both.0, both.1, ran.1)

pub fed_wrong : (p bytes : List ℕ) (n : ℕ) (e : CertSyntax) (new : CertReader) (T : Standing → Type 0) → new.at ≡ Refused
    → new.taken ≡ length p + n → e.at ≡ length p + n → length p + length bytes < 2 ^ 32 → HasRun T p bytes (stretch.Wrong n)
    → HasFed p bytes new (Err (Because e))
fed_wrong p bytes n e new T is taken place short ran =
    stop_said new (p ++ bytes) e.at (length p + n) is taken place (omega (arith, short, length-append p bytes)) ran

-- the first byte of all
first_of : (p bytes : List ℕ) (s : Standing) → run start p ≡ s → SoFar (λ (u : Standing). u ≡ s) p bytes 0
first_of p bytes s here = at_first (λ (u : Standing). u ≡ s) p bytes here

unread_goes : Goes (λ (u : Standing). u ≡ unread)
unread_goes s t e = (let other = sym t ∙ e in absurd cc)

pub begun_ok : (p bytes : List ℕ) (old new : CertReader) (out : Option code.Item) → 0 < length bytes → old.taken ≡ length p → run start p ≡ unread
    → length p + length bytes < 2 ^ 32 → Led unread old new (get_or bytes 0 0) (Ok out)
    → HasFed p bytes new (Ok (record { taken = 1; item = out }))
begun_ok p bytes old new out below same here short led =
    let so_far = first_of p bytes unread here in
    let ran = one_more (λ (u : Standing). u ≡ unread) (Tracks new.at) p bytes 0 unread (option_map said_item out) (tracks_goes new.at) below short so_far
    so_far.0 led.1 (sym led.2) in
    let long = length-take-le 1 bytes (omega (arith, below)) in
    let both = fed_on p (take 1 bytes) [] new (omega (arith, led.0, same, long)) (omega (arith, long, below, short)) ran.0 in
    (both.0, both.1, ran.1)

pub begun_err : (p bytes : List ℕ) (old new : CertReader) (e : Or CertSyntax) → 0 < length bytes → old.taken ≡ length p → run start p ≡ unread
    → length p + length bytes < 2 ^ 32 → Led unread old new (get_or bytes 0 0) (Err e) → HasFed p bytes new (Err e)
begun_err p bytes old new NoMemory below same here short led = tt
begun_err p bytes old new (Because e) below same here short led =
    let so_far = first_of p bytes unread here in
    let stop = wrong_there (λ (u : Standing). u ≡ unread) p bytes 0 unread unread_goes below so_far so_far.0 led.3 in
    stop_said new (p ++ bytes) e.at (length p + 0) led.2 (omega (arith, led.1, same)) (omega (arith, led.0, same)) (omega (arith, short, length-append p bytes)) stop

-- bytes behind a wrong one
stops_more : (q r : List ℕ) (n : ℕ) → StopsAt q n → StopsAt (q ++ r) n
stops_more q r n (within, goes, stop) = (
  omega (arith, within, length-append q r),
  λ h. goes (ap (run start) (sym (take-append-le n q r (omega (arith, within)))) ∙ h),
  ap (run start) (take-append-le (n + 1) q r (omega (arith, within))) ∙ stop,
)

pub refused_some : (p bytes : List ℕ) (old mid new : CertReader) (r : Result Portion (Or CertSyntax)) → old.at ≡ Refused → mid.taken ≡ old.taken
    → RefusesSome mid new r → StandsFor old p → length p + length bytes < 2 ^ 32 → HasFed p bytes new r
refused_some p bytes old mid new (Ok x) was same h stood short = absurd h
refused_some p bytes old mid new (Err NoMemory) was same h stood short = absurd h
refused_some p bytes old mid new (Err (Because e)) was same h stood short =
    let before : StopsAt p old.taken = subst (λ (at : Progress). Stand at old.taken p) was stood in
    stop_said new (p ++ bytes) e.at old.taken h.2 (h.1 ∙ same) (h.0 ∙ same) (omega (arith, short, length-append p bytes)) (stops_more p bytes old.taken before)

-- where it stood, by what it keeps
pub was_unread : (p : List ℕ) (old : CertReader) → old.at ≡ Unread → StandsFor old p → (old.taken ≡ length p) × (run start p ≡ unread)
was_unread p old was h = subst (λ (at : Progress). Stand at old.taken p) was h

pub was_yes : (p : List ℕ) (old : CertReader) (l : Box YesItems) → old.at ≡ Yes l → StandsFor old p
    → (old.taken ≡ length p) × TracksYes l.value (run start p)
was_yes p old l was h = subst (λ (at : Progress). Stand at old.taken p) was h

pub was_no : (p : List ℕ) (old : CertReader) (l : Box NoLine) → old.at ≡ No l → StandsFor old p
    → (old.taken ≡ length p) × TracksNo l.value (run start p)
was_no p old l was h = subst (λ (at : Progress). Stand at old.taken p) was h
