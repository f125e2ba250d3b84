-- For which bytes a reader stands that keeps nothing of the lines before the present ones.
use Rattle.std.specs.Prelude.{ℕ, ◌≡◌, ◌+◌, ◌<◌, Bool, true, false, List, length, take, Option, Result, Ok, Err}
use Rattle.std.specs.Option.{option_map}
use Rattle.wh_types.specs.declared.want.Or.{Or}
use Rattle.wh_types.specs.declared.want.Or.TheVariants.{NoMemory, Because}
use Rattle.wh_cert.specs.Written.{Cert}
use Rattle.wh_cert.specs.Said.{said_item}
use Rattle.wh_cert.specs.CertText.{Begins, CertText}
use Rattle.wh_cert.specs.declared.certificate.CertSyntax.{CertSyntax}
use Rattle.wh_cert.specs.declared.item.Item.{Item}
use Rattle.wh_cert_text.specs.ReadEnd.{IsEnd}
use Rattle.wh_cert_machines.specs.LineMachine as m
use Rattle.wh_cert_machines.specs.LineMachine.{Standing, unread, stands, stands_yes, wrong, run, start, take_byte}
use Rattle.wh_cert_machines.specs.YesMachine as y
use Rattle.wh_cert_machines.specs.LineViews.{line_place}
use Rattle.wh_cert_machines.specs.YesViews.{yes_place}
use Rattle.wh_cert_text.specs.Handing.{handed, wanted}
use Rattle.wh_cert_machines.specs.declared.line_reader.LinePlace.{LinePlace}
use Rattle.wh_cert_machines.specs.declared.line_reader.LinePlace.TheVariants as no_place
use Rattle.wh_cert_machines.specs.declared.yes_line.YesPlace.{YesPlace}
use Rattle.wh_cert_machines.specs.declared.yes_line.YesPlace.TheVariants as place
use Rattle.wh_cert_machines.specs.declared.progress.YesItems.{YesItems}
use Rattle.wh_cert_machines.specs.declared.line_reader.NoLine.{NoLine}
use Rattle.wh_cert_text.specs.declared.cert_reader.CertReader.{CertReader}
use Rattle.wh_cert_machines.specs.declared.progress.Progress.{Progress}
use Rattle.wh_cert_machines.specs.declared.progress.Progress.TheVariants.{Unread, Yes, No, Refused, Lost}

-- P, where there was no memory
abbrev pub OnWant : {T E : Type 0} → Result T (Or E) → Type 0 → Type 0
OnWant (Err NoMemory) P = P
OnWant _ P = Unit {0}

abbrev pub ranks_of : y.Past → List ℕ
ranks_of (y.so_far version ranks pairs nodes k) = ranks

-- in the line of the number of pairs, which comes behind that of the ranks
abbrev pub IsPairsLine : y.Place → Type 0
IsPairsLine (y.word w y.to_pairs) = Unit {0}
IsPairsLine (y.number_wanted y.of_pairs) = Unit {0}
IsPairsLine (y.number y.of_pairs n) = Unit {0}
IsPairsLine _ = ⊥

-- the bytes led where these lines stand; nothing is known of the items before but how many nodes are wanted, the
-- version, and the ranks until they are handed out
abbrev pub TracksYes : YesItems → Standing → Type 0
TracksYes l s =
    (h : y.Past) × (wanted h ≡ l.wanted) × (y.version_of h ≡ l.version)
    × (IsPairsLine (yes_place l.line) → ranks_of h ≡ l.ranks) × (s ≡ stands_yes h (yes_place l.line))

abbrev pub TracksNo : NoLine → Standing → Type 0
TracksNo l s = (h : m.Past) × (s ≡ stands h (line_place l))

abbrev pub Tracks : Progress → Standing → Type 0
Tracks Unread s = s ≡ unread
Tracks (Yes l) s = TracksYes l.value s
Tracks (No l) s = TracksNo l.value s
Tracks Refused s = ⊥
Tracks Lost s = ⊥

-- the byte behind the first n is the first wrong one
abbrev pub StopsAt : List ℕ → ℕ → Type 0
StopsAt p n = (n < length p) × (run start (take n p) ≡ wrong → ⊥) × (run start (take (n + 1) p) ≡ wrong)

abbrev pub Stand : Progress → ℕ → List ℕ → Type 0
Stand Refused n p = StopsAt p n
Stand Lost n p = (n ≡ length p) × Begins p × ((c : Cert) → CertText p c → ⊥)
Stand at n p = (n ≡ length p) × Tracks at (run start p)

-- the reader stands for these bytes
abbrev pub StandsFor : CertReader → List ℕ → Type 0
StandsFor r p = Stand r.at r.taken p

-- all of a certificate was read
abbrev pub yes_ended : YesPlace → Bool
yes_ended place.Finished = true
yes_ended _ = false

abbrev pub no_ended : LinePlace → Bool
no_ended no_place.Finished = true
no_ended _ = false

abbrev pub has_ended : Progress → Bool
has_ended (Yes l) = yes_ended l.value.line.place
has_ended (No l) = no_ended l.value.place
has_ended _ = false

-- the reader refuses the byte behind those that it took
abbrev pub Refuses : CertReader → CertReader → Result (Option Item) (Or CertSyntax) → Type 0
Refuses old new (Err (Because e)) = (e.at ≡ old.taken) × (new.taken ≡ old.taken) × (new.at ≡ Refused)
Refuses old new _ = ⊥

-- what a byte did where the bytes before it led to s
abbrev pub Led : Standing → CertReader → CertReader → ℕ → Result (Option Item) (Or CertSyntax) → Type 0
Led s old new b (Ok out) = (new.taken ≡ old.taken + 1) × Tracks new.at (take_byte s b) × (option_map said_item out ≡ handed s b)
Led s old new b (Err NoMemory) = (new.taken ≡ old.taken) × (new.at ≡ Lost) × ((c : Cert) → IsEnd s c → ⊥)
Led s old new b (Err (Because e)) = (e.at ≡ old.taken) × (new.taken ≡ old.taken) × (new.at ≡ Refused) × (take_byte s b ≡ wrong)

-- a byte leads into the line of the number of pairs from that of the ranks, or from a place in it
abbrev pub StageKept : y.Place → y.LineStep → Type 0
StageKept p (y.on q) = IsPairsLine q → IsPairsLine p
StageKept p (y.gives (y.version_item v) q) = IsPairsLine q → ⊥
StageKept p (y.gives (y.ranks_item xs) q) = Unit {0}
StageKept p (y.gives (y.pairs_item n) q) = IsPairsLine p × (IsPairsLine q → ⊥)
StageKept p (y.gives i q) = IsPairsLine q → ⊥
StageKept p y.refused = Unit {0}

-- the ranks are known where the number of pairs is read, before and behind the byte
abbrev pub HeadKnown : y.Past → YesItems → ℕ → Type 0
HeadKnown h l b =
    (IsPairsLine (yes_place l.line) → ranks_of h ≡ l.ranks)
    × StageKept (yes_place l.line) (y.step (y.version_of h) (y.wants h) (yes_place l.line) b)
