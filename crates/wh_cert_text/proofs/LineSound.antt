-- What the reader of certificates has read is spelled: each step keeps what a place has read, and that it is within the limits.
use Rattle.std.proofs.Common.{◌≡◌, ℕ, suc, ◌+◌, ◌-◌, ◌*◌, ◌<◌, ◌≤◌, Bool, true, cond, ◌==◌, List, [], ◌∷◌, ◌++◌, length, Option, Some, None, codes, refl, sym, ap, ◌∙◌, subst, arith, append_assoc, length-append}
use Rattle.std.specs.List.{All}
use Rattle.std.proofs.lemmas.Bool.{eqb-true, cond_both}
use Rattle.std.proofs.lemmas.List.Elements.{All-nil, All-push}
use Rattle.std.specs.Fmt.{decimal}
use Rattle.wh_terms.specs.Places.{IsPath}
use Rattle.wh_text.specs.Chars.{is_digit}
use Rattle.wh_text.specs.RawTree.{RTy}
use Rattle.wh_text.specs.Spelling.{put_part, put_term}
use Rattle.wh_cert_letters.specs.Digits.{goes_on}
use Rattle.wh_cert_letters.proofs.NamesAndNumbers.{first_digit_spelled, first_digit_small, goes_on_true, next_digit_spelled}
use Rattle.wh_cert.specs.TermLimits.{TypeFits, TermFits}
use Rattle.wh_cert_parts.specs.TypeMachine.{outside, type_wanted, TypeStep, goes, type_ended, no_type, type_step}
use Rattle.wh_cert_parts.specs.TermMachine as m
use Rattle.wh_cert_parts.proofs.TypeLaws.{type_seen, GoodTypes, GoodTypePlace, TypeNext, type_kept}
use Rattle.wh_cert_parts.proofs.TermSound.{seen, GoodStack, GoodPlace, Next, step_kept}
use Rattle.wh_cert.specs.Written.{no}
use Rattle.wh_cert.specs.Text.{put_path, put_rule, put_step, put_steps, put_put, put_puts}
use Rattle.wh_cert.specs.Limits.{RuleFits, StepFits, PutFits, PartsFit, PathsWithin, CountsWithin}
use Rattle.wh_cert_machines.specs.LineMachine.{Item, head_item, step_item, at_item, put_item, end_item, Behind, to_term, to_rule, to_path, to_at, to_put, to_finish, LinePlace, word, in_term, line, rule_wanted, rule_number, step_path, at_path, later_line, put_percent, put_number, put_type, put_term as placing, finished, LineStep, on, gives, refused, spelling, behind, word_on, path_step, term_line, put_line, type_line, step_ended, at_ended, line_step, Past, nothing, begun, placed}

-- the parts of a certificate come in three stages: the term, the steps, what is put

pub data Stage : Type 0 where
  first second third : Stage

abbrev pub word_stage : Behind → Stage
word_stage to_term = first
word_stage to_put = third
word_stage to_finish = third
word_stage _ = second

abbrev pub stage : LinePlace → Stage
stage (word w o) = word_stage o
stage (in_term fs k) = first
stage line = second
stage rule_wanted = second
stage (rule_number n) = second
stage (step_path rule path) = second
stage (at_path path) = second
stage _ = third

abbrev pub past_stage : Past → Stage
past_stage nothing = first
past_stage (begun t steps) = second
past_stage (placed t steps at puts) = third

abbrev pub item_from : Item → Stage
item_from (head_item t) = first
item_from (step_item s) = second
item_from (at_item at) = second
item_from _ = third

abbrev pub item_to : Item → Stage
item_to (head_item t) = second
item_to (step_item s) = second
item_to _ = third

-- what was read of the present line, with r behind it

abbrev pub before_word : Behind → List ℕ → List ℕ
before_word (to_path None) r = codes "step " ++ r
before_word (to_path (Some n)) r = codes "step " ++ (decimal n ++ r)
before_word _ r = r

abbrev pub lead : LinePlace → List ℕ → List ℕ
lead (in_term fs k) r = codes "NO 1" ++ (10 ∷ (codes "term " ++ seen fs k r))
lead rule_wanted r = codes "step " ++ r
lead (rule_number n) r = codes "step " ++ (decimal n ++ r)
lead (step_path rule path) r = codes "step " ++ put_rule rule (32 ∷ 47 ∷ put_path path r)
lead (at_path path) r = codes "at /" ++ put_path path r
lead put_percent r = codes "put %" ++ r
lead (put_number n) r = codes "put %" ++ (decimal n ++ r)
lead (put_type n fs k) r = codes "put %" ++ (decimal n ++ (58 ∷ type_seen fs k r))
lead (placing n a fs k) r = codes "put %" ++ (decimal n ++ (58 ∷ put_part a (32 ∷ seen fs k r)))
lead finished r = codes "end" ++ (10 ∷ r)
lead _ r = r

-- the place has read f of the present line
abbrev pub PlaceReads : LinePlace → (List ℕ → List ℕ) → Type 0
PlaceReads (word w o) f = (v : List ℕ) × (v ++ w ≡ spelling o) × ((r : List ℕ) → before_word o (v ++ r) ≡ f r)
PlaceReads p f = (r : List ℕ) → lead p r ≡ f r

-- what the items spell

abbrev pub item_text : Item → List ℕ → List ℕ
item_text (head_item t) r = codes "NO 1" ++ (10 ∷ (codes "term " ++ put_term t (10 ∷ r)))
item_text (step_item s) r = put_step s r
item_text (at_item at) r = codes "at /" ++ put_path at (10 ∷ r)
item_text (put_item p) r = put_put p r
item_text end_item r = r

abbrev pub past_text : Past → List ℕ → List ℕ
past_text nothing r = r
past_text (begun t steps) r = codes "NO 1" ++ (10 ∷ (codes "term " ++ put_term t (10 ∷ put_steps steps r)))
past_text (placed t steps at puts) r =
    codes "NO 1" ++ (10 ∷ (codes "term " ++ put_term t (10 ∷ put_steps steps (codes "at /" ++ put_path at (10 ∷ put_puts puts r)))))

-- the limits, where n bytes were read

abbrev pub GoodBehind : Behind → Type 0
GoodBehind (to_path rule) = RuleFits rule
GoodBehind _ = Unit {0}

abbrev pub GoodLine : ℕ → LinePlace → Type 0
GoodLine n (word [] o) = ⊥
GoodLine n (word (x ∷ w) o) = GoodBehind o
GoodLine n (in_term fs k) = GoodStack fs × GoodPlace fs k
GoodLine n (rule_number k) = k ≤ 65535
GoodLine n (step_path rule path) = RuleFits rule × IsPath path × (length path ≤ n)
GoodLine n (at_path path) = IsPath path × (length path ≤ n)
GoodLine n (put_number k) = k ≤ 65535
GoodLine n (put_type k fs tk) = (k ≤ 65535) × GoodTypes fs × GoodTypePlace fs tk
GoodLine n (placing k a fs tk) = (k ≤ 65535) × TypeFits 0 a × GoodStack fs × GoodPlace fs tk
GoodLine n _ = Unit {0}

abbrev pub ItemFits : Item → Type 0
ItemFits (head_item t) = TermFits 0 t
ItemFits (step_item s) = StepFits s
ItemFits (at_item at) = IsPath at
ItemFits (put_item p) = PutFits p
ItemFits end_item = Unit {0}

abbrev pub ItemWithin : ℕ → Item → Type 0
ItemWithin n (step_item s) = length s.path ≤ n
ItemWithin n (at_item at) = length at ≤ n
ItemWithin n _ = Unit {0}

abbrev pub PastFits : Past → Type 0
PastFits nothing = Unit {0}
PastFits (begun t steps) = TermFits 0 t × All StepFits steps
PastFits (placed t steps at puts) = PartsFit (no t steps at puts)

abbrev pub PastWithin : ℕ → Past → Type 0
PastWithin n nothing = Unit {0}
PastWithin n (begun t steps) = (length steps < n) × PathsWithin n steps
PastWithin n (placed t steps at puts) = CountsWithin n (no t steps at puts)

-- after n bytes the step leads on in this stage, or gives an item of it, and has read f of the line
abbrev pub LineNext : ℕ → LineStep → Stage → (List ℕ → List ℕ) → Type 0
LineNext n (on p) s f = (stage p ≡ s) × GoodLine n p × PlaceReads p f
LineNext n (gives i p) s f = (item_from i ≡ s) × (stage p ≡ item_to i) × ItemFits i × ItemWithin n i × GoodLine n p × ((g : List ℕ → List ℕ) × PlaceReads p g × ((r : List ℕ) → item_text i (g r) ≡ f r))
LineNext n refused s f = Unit {0}

if_byte : (n b c : ℕ) (s o : LineStep) (st : Stage) (f : List ℕ → List ℕ) → LineNext n s st (λ r. f (c ∷ r)) → LineNext n o st (λ r. f (b ∷ r)) → LineNext n (cond (b == c) s o) st (λ r. f (b ∷ r))
if_byte n b c s o st f so other =
    cond_both (b == c) s o (λ t. LineNext n t st (λ r. f (b ∷ r)))
    (λ e. subst (λ (x : ℕ). LineNext n s st (λ r. f (x ∷ r))) (sym (eqb-true b c e)) so)
    (λ e. other)

if_so : (n : ℕ) (t : Bool) (s o : LineStep) (st : Stage) (f : List ℕ → List ℕ) → (t ≡ true → LineNext n s st f) → LineNext n o st f → LineNext n (cond t s o) st f
if_so n t s o st f so other = cond_both t s o (λ u. LineNext n u st f) so (λ e. other)

reads_same : (p : LinePlace) (f g : List ℕ → List ℕ) → ((r : List ℕ) → f r ≡ g r) → PlaceReads p f → PlaceReads p g
reads_same (word w o) f g same (v, is, reads) = (v, is, λ r. reads r ∙ same r)
reads_same p f g same reads = λ r. reads r ∙ same r

next_same : (n : ℕ) (s : LineStep) (st : Stage) (f g : List ℕ → List ℕ) → ((r : List ℕ) → f r ≡ g r) → LineNext n s st f → LineNext n s st g
next_same n (on p) st f g same h = (h.0, h.1, reads_same p f g same h.2)
next_same n (gives i p) st f g same h = (h.0, h.1, h.2, h.3, h.4, (h.5.0, h.5.1, λ r. h.5.2 r ∙ same r))
next_same n refused st f g same h = tt

-- fixed words

pub empty_path : IsPath []
empty_path = All-nil (λ (e : ℕ). e < 2)

behind_kept : (n : ℕ) (o : Behind) → GoodBehind o → LineNext n (behind o) (word_stage o) (λ r. before_word o (spelling o ++ r))
behind_kept n to_term g = (refl, (tt, tt), λ r. refl)
behind_kept n to_rule g = (refl, tt, λ r. refl)
behind_kept n (to_path None) g = (refl, (tt, empty_path, omega arith), λ r. refl)
behind_kept n (to_path (Some k)) g = (refl, (g, empty_path, omega arith), λ r. refl)
behind_kept n to_at g = (refl, (empty_path, omega arith), λ r. refl)
behind_kept n to_put g = (refl, tt, λ r. refl)
behind_kept n to_finish g = (refl, refl, tt, tt, tt, ((λ (r : List ℕ). codes "end" ++ (10 ∷ r)), (λ r. refl), (λ r. refl)))

word_kept : (n : ℕ) (x : ℕ) (w : List ℕ) (o : Behind) (v : List ℕ) (f : List ℕ → List ℕ) → GoodBehind o → v ++ x ∷ w ≡ spelling o → ((r : List ℕ) → before_word o (v ++ r) ≡ f r) → LineNext n (word_on w o) (word_stage o) (λ r. f (x ∷ r))
word_kept n x [] o v f g is reads =
    next_same n (behind o) (word_stage o) (λ r. before_word o (spelling o ++ r)) (λ r. f (x ∷ r))
    (λ r. ap (λ (s : List ℕ). before_word o (s ++ r)) (sym is) ∙ ap (before_word o) (append_assoc v (x ∷ []) r) ∙ reads (x ∷ r))
    (behind_kept n o g)
word_kept n x (y ∷ w) o v f g is reads =
    (refl, g, (v ++ x ∷ [], append_assoc v (x ∷ []) (y ∷ w) ∙ is, λ r. ap (before_word o) (append_assoc v (x ∷ []) r) ∙ reads (x ∷ r)))

-- paths

put_path_add : (path : List ℕ) (d : ℕ) (r : List ℕ) → put_path (path ++ d ∷ []) r ≡ put_path path ((48 + d) ∷ r)
put_path_add [] d r = refl
put_path_add (c ∷ path) d r = ap (λ (s : List ℕ). (48 + c) ∷ s) (put_path_add path d r)

longer : (n : ℕ) (path : List ℕ) (d : ℕ) → length path ≤ n → length (path ++ d ∷ []) ≤ suc n
longer n path d h = omega (arith, length-append path (d ∷ []))

is_path_add : (path : List ℕ) (d : ℕ) → IsPath path → d < 2 → IsPath (path ++ d ∷ [])
is_path_add path d h low = All-push (λ (e : ℕ). e < 2) path d h low

step_path_kept : (n : ℕ) (rule : Option ℕ) (path : List ℕ) (b : ℕ) → RuleFits rule → IsPath path → length path ≤ n → LineNext (suc n) (path_step (step_path rule) (step_ended rule) path b) second (λ r. lead (step_path rule path) (b ∷ r))
step_path_kept n rule path b fits is short =
    let more : (d : ℕ) (r : List ℕ) → lead (step_path rule (path ++ d ∷ [])) r ≡ lead (step_path rule path) ((48 + d) ∷ r) = λ d r. ap (λ (s : List ℕ). codes "step " ++ put_rule rule (32 ∷ 47 ∷ s)) (put_path_add path d r) in
    if_byte (suc n) b 48 (on (step_path rule (path ++ 0 ∷ []))) _ second (lead (step_path rule path)) (refl, (fits, is_path_add path 0 is (omega arith), longer n path 0 short), more 0)
    (if_byte (suc n) b 49 (on (step_path rule (path ++ 1 ∷ []))) _ second (lead (step_path rule path)) (refl, (fits, is_path_add path 1 is (omega arith), longer n path 1 short), more 1)
    (if_byte (suc n) b 10 (step_ended rule path) refused second (lead (step_path rule path)) (refl, refl, record { rule = fits; path = is }, omega arith, tt, ((λ (r : List ℕ). r), (λ r. refl), (λ r. refl))) tt))

at_path_kept : (n : ℕ) (path : List ℕ) (b : ℕ) → IsPath path → length path ≤ n → LineNext (suc n) (path_step at_path at_ended path b) second (λ r. lead (at_path path) (b ∷ r))
at_path_kept n path b is short =
    let more : (d : ℕ) (r : List ℕ) → lead (at_path (path ++ d ∷ [])) r ≡ lead (at_path path) ((48 + d) ∷ r) = λ d r. ap (λ (s : List ℕ). codes "at /" ++ s) (put_path_add path d r) in
    if_byte (suc n) b 48 (on (at_path (path ++ 0 ∷ []))) _ second (lead (at_path path)) (refl, (is_path_add path 0 is (omega arith), longer n path 0 short), more 0)
    (if_byte (suc n) b 49 (on (at_path (path ++ 1 ∷ []))) _ second (lead (at_path path)) (refl, (is_path_add path 1 is (omega arith), longer n path 1 short), more 1)
    (if_byte (suc n) b 10 (at_ended path) refused second (lead (at_path path)) (refl, refl, is, omega arith, tt, ((λ (r : List ℕ). r), (λ r. refl), (λ r. refl))) tt))

-- terms and types inside lines

term_line_kept : (n : ℕ) (s : m.State) (g : List ℕ → List ℕ) → Next s g → LineNext n (term_line s) first (λ r. codes "NO 1" ++ (10 ∷ (codes "term " ++ g r)))
term_line_kept n (m.at fs k) g h =
    (refl, (h.0, h.1), λ r. ap (λ (s : List ℕ). codes "NO 1" ++ (10 ∷ (codes "term " ++ s))) (h.2 r))
term_line_kept n (m.whole t) g h =
    (refl, refl, h.0, tt, tt, ((λ (r : List ℕ). r), (λ r. refl), (λ r. ap (λ (s : List ℕ). codes "NO 1" ++ (10 ∷ (codes "term " ++ s))) (h.1 r))))
term_line_kept n m.failed g h = tt

put_line_kept : (n k : ℕ) (a : RTy) (s : m.State) (g : List ℕ → List ℕ) → k ≤ 65535 → TypeFits 0 a → Next s g → LineNext n (put_line k a s) third (λ r. codes "put %" ++ (decimal k ++ (58 ∷ put_part a (32 ∷ g r))))
put_line_kept n k a (m.at fs tk) g small fits h =
    (refl, (small, fits, h.0, h.1), λ r. ap (λ (s : List ℕ). codes "put %" ++ (decimal k ++ (58 ∷ put_part a (32 ∷ s)))) (h.2 r))
put_line_kept n k a (m.whole t) g small fits h =
    (refl, refl, record { number = small; kind = fits; term = h.0 }, tt, tt, ((λ (r : List ℕ). r), (λ r. refl), (λ r. ap (λ (s : List ℕ). codes "put %" ++ (decimal k ++ (58 ∷ put_part a (32 ∷ s)))) (h.1 r))))
put_line_kept n k a m.failed g small fits h = tt

type_line_kept : (n k : ℕ) (s : TypeStep) (g : List ℕ → List ℕ) → k ≤ 65535 → TypeNext s g → LineNext n (type_line k s) third (λ r. codes "put %" ++ (decimal k ++ (58 ∷ g r)))
type_line_kept n k (goes fs tk) g small h =
    (refl, (small, h.0, h.1), λ r. ap (λ (s : List ℕ). codes "put %" ++ (decimal k ++ (58 ∷ s))) (h.2 r))
type_line_kept n k (type_ended a b) g small h =
    next_same n (type_line k (type_ended a b)) third (λ r. codes "put %" ++ (decimal k ++ (58 ∷ put_part a (b ∷ r)))) (λ r. codes "put %" ++ (decimal k ++ (58 ∷ g r)))
    (λ r. ap (λ (s : List ℕ). codes "put %" ++ (decimal k ++ (58 ∷ s))) (h.1 r))
    (if_byte n b 32 (on (placing k a m.base m.wanted)) refused third (λ r. codes "put %" ++ (decimal k ++ (58 ∷ put_part a r)))
    (refl, (small, h.0, tt, tt), λ r. refl)
    tt)
type_line_kept n k no_type g small h = tt

-- numbers inside lines

first_digit_kept : (n : ℕ) (k : ℕ → LinePlace) (b : ℕ) (other : LineStep) (st : Stage) (f : List ℕ → List ℕ) → ((j : ℕ) → j ≤ 65535 → LineNext n (on (k j)) st (λ r. f (decimal j ++ r))) → LineNext n other st (λ r. f (b ∷ r)) → LineNext n (cond (is_digit b) (on (k (b - 48))) other) st (λ r. f (b ∷ r))
first_digit_kept n k b other st f good rest =
    if_so n (is_digit b) (on (k (b - 48))) other st (λ r. f (b ∷ r))
    (λ e. next_same n (on (k (b - 48))) st (λ r. f (decimal (b - 48) ++ r)) (λ r. f (b ∷ r)) (λ r. ap f (first_digit_spelled b r e)) (good (b - 48) (first_digit_small b e)))
    rest

digits_kept : (n : ℕ) (k : ℕ → LinePlace) (j b : ℕ) (other : LineStep) (st : Stage) (f : List ℕ → List ℕ) → ((i : ℕ) → i ≤ 65535 → LineNext n (on (k i)) st (λ r. f (decimal i ++ r))) → LineNext n other st (λ r. f (decimal j ++ b ∷ r)) → LineNext n (cond (goes_on j b) (on (k (10 * j + (b - 48)))) other) st (λ r. f (decimal j ++ b ∷ r))
digits_kept n k j b other st f good rest =
    if_so n (goes_on j b) (on (k (10 * j + (b - 48)))) other st (λ r. f (decimal j ++ b ∷ r))
    (λ e. let is = goes_on_true j b e in next_same n (on (k (10 * j + (b - 48)))) st (λ r. f (decimal (10 * j + (b - 48)) ++ r)) (λ r. f (decimal j ++ b ∷ r)) (λ r. ap f (next_digit_spelled j b r e)) (good (10 * j + (b - 48)) is.fits))
    rest

-- each step of a line

pub lead_kept : (n : ℕ) (p : LinePlace) (b : ℕ) → GoodLine n p → (f : List ℕ → List ℕ) → PlaceReads p f → LineNext (suc n) (line_step p b) (stage p) (λ r. f (b ∷ r))
lead_kept n (word [] o) b g f reads = absurd g
lead_kept n (word (x ∷ w) o) b g f (v, is, reads) =
    if_byte (suc n) b x (word_on w o) refused (word_stage o) f (word_kept (suc n) x w o v f g is reads) tt
lead_kept n (in_term fs k) b g f reads =
    next_same (suc n) (term_line (m.step fs k b)) first (λ r. lead (in_term fs k) (b ∷ r)) (λ r. f (b ∷ r)) (λ r. reads (b ∷ r))
    (term_line_kept (suc n) (m.step fs k b) (λ r. seen fs k (b ∷ r)) (step_kept fs k b g.0 g.1))
lead_kept n line b g f reads =
    next_same (suc n) (line_step line b) second (λ r. b ∷ r) (λ r. f (b ∷ r)) (λ r. reads (b ∷ r))
    (if_byte (suc n) b 115 (on (word (codes "tep ") to_rule)) _ second (λ r. r) (refl, tt, (115 ∷ [], refl, λ r. refl))
    (if_byte (suc n) b 97 (on (word (codes "t /") to_at)) refused second (λ r. r) (refl, tt, (97 ∷ [], refl, λ r. refl)) tt))
lead_kept n rule_wanted b g f reads =
    next_same (suc n) (line_step rule_wanted b) second (λ r. lead rule_wanted (b ∷ r)) (λ r. f (b ∷ r)) (λ r. reads (b ∷ r))
    (first_digit_kept (suc n) rule_number b _ second (lead rule_wanted) (λ j small. (refl, small, λ r. refl))
    (if_byte (suc n) b 98 (on (word (codes "eta /") (to_path None))) refused second (lead rule_wanted) (refl, tt, (98 ∷ [], refl, λ r. refl)) tt))
lead_kept n (rule_number k) b g f reads =
    next_same (suc n) (line_step (rule_number k) b) second (λ r. lead (rule_number k) (b ∷ r)) (λ r. f (b ∷ r)) (λ r. reads (b ∷ r))
    (digits_kept (suc n) rule_number k b _ second (lead rule_wanted) (λ j small. (refl, small, λ r. refl))
    (if_byte (suc n) b 32 (on (word (codes "/") (to_path (Some k)))) refused second (lead (rule_number k)) (refl, g, (32 ∷ [], refl, λ r. refl)) tt))
lead_kept n (step_path rule path) b g f reads =
    next_same (suc n) (line_step (step_path rule path) b) second (λ r. lead (step_path rule path) (b ∷ r)) (λ r. f (b ∷ r)) (λ r. reads (b ∷ r))
    (step_path_kept n rule path b g.0 g.1 g.2)
lead_kept n (at_path path) b g f reads =
    next_same (suc n) (line_step (at_path path) b) second (λ r. lead (at_path path) (b ∷ r)) (λ r. f (b ∷ r)) (λ r. reads (b ∷ r))
    (at_path_kept n path b g.0 g.1)
lead_kept n later_line b g f reads =
    next_same (suc n) (line_step later_line b) third (λ r. b ∷ r) (λ r. f (b ∷ r)) (λ r. reads (b ∷ r))
    (if_byte (suc n) b 112 (on (word (codes "ut %") to_put)) _ third (λ r. r) (refl, tt, (112 ∷ [], refl, λ r. refl))
    (if_byte (suc n) b 101 (on (word (codes "nd" ++ (10 ∷ [])) to_finish)) refused third (λ r. r) (refl, tt, (101 ∷ [], refl, λ r. refl)) tt))
lead_kept n put_percent b g f reads =
    next_same (suc n) (line_step put_percent b) third (λ r. lead put_percent (b ∷ r)) (λ r. f (b ∷ r)) (λ r. reads (b ∷ r))
    (first_digit_kept (suc n) put_number b refused third (lead put_percent) (λ j small. (refl, small, λ r. refl)) tt)
lead_kept n (put_number k) b g f reads =
    next_same (suc n) (line_step (put_number k) b) third (λ r. lead (put_number k) (b ∷ r)) (λ r. f (b ∷ r)) (λ r. reads (b ∷ r))
    (digits_kept (suc n) put_number k b _ third (lead put_percent) (λ j small. (refl, small, λ r. refl))
    (if_byte (suc n) b 58 (on (put_type k outside type_wanted)) refused third (lead (put_number k)) (refl, (g, tt, tt), λ r. refl) tt))
lead_kept n (put_type k fs tk) b g f reads =
    next_same (suc n) (type_line k (type_step fs tk b)) third (λ r. lead (put_type k fs tk) (b ∷ r)) (λ r. f (b ∷ r)) (λ r. reads (b ∷ r))
    (type_line_kept (suc n) k (type_step fs tk b) (λ r. type_seen fs tk (b ∷ r)) g.0 (type_kept fs tk b g.1 g.2))
lead_kept n (placing k a fs tk) b g f reads =
    next_same (suc n) (put_line k a (m.step fs tk b)) third (λ r. lead (placing k a fs tk) (b ∷ r)) (λ r. f (b ∷ r)) (λ r. reads (b ∷ r))
    (put_line_kept (suc n) k a (m.step fs tk b) (λ r. seen fs tk (b ∷ r)) g.0 g.1 (step_kept fs tk b g.2 g.3))
lead_kept n finished b g f reads = tt
