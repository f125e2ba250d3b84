-- A reader of certificates, byte by byte, as a function: the lines of a NO certificate with the items that they give,
-- and where the bytes of a certificate of either kind lead. The lines of a YES certificate are told in YesMachine. It
-- mirrors the code; the laws of wh_cert_text tie it to the text.
use Rattle.std.specs.Prelude.{ℕ, ◌+◌, ◌-◌, ◌*◌, ◌==◌, cond, List, [], ◌∷◌, ◌++◌, Option, Some, None, codes}
use Rattle.wh_terms.specs.declared.path.Step as taken
use Rattle.wh_text.specs.Chars.{line_feed, space, is_digit}
use Rattle.wh_text.specs.RawTree.{RTy, RTm}
use Rattle.wh_cert_letters.specs.Digits.{goes_on}
use Rattle.wh_cert_parts.specs.TypeMachine.{TypeStack, outside, TypePlace, type_wanted, TypeStep, goes, type_ended, no_type, type_step}
use Rattle.wh_cert_parts.specs.TermMachine as m
use Rattle.wh_cert.specs.Written.{Put}
use Rattle.wh_cert_machines.specs.YesMachine as y

-- what a line gives
pub data Item : Type 0 where
  head_item : (t : RTm) → Item
  step_item : (s : taken.Step) → Item
  at_item : (at : List ℕ) → Item
  put_item : (p : Put) → Item
  end_item : Item

-- what stands behind a fixed word
pub data Behind : Type 0 where
  to_term to_rule : Behind
  to_path : (rule : Option ℕ) → Behind
  to_at to_put to_finish : Behind

-- the place in the present line: what is left of a fixed word; a part of the first term; the front of a line of a step
-- or of `at`; behind `step `; a rule's number; a path of a step, or of `at`; the front of a later line; behind `put %`;
-- a variable's number; a part of its type; a part of its term; behind all
pub data LinePlace : Type 0 where
  word : (rest : List ℕ) (behind : Behind) → LinePlace
  in_term : (fs : m.Stack) (k : m.Place) → LinePlace
  line rule_wanted : LinePlace
  rule_number : (n : ℕ) → LinePlace
  step_path : (rule : Option ℕ) (path : List ℕ) → LinePlace
  at_path : (path : List ℕ) → LinePlace
  later_line put_percent : LinePlace
  put_number : (n : ℕ) → LinePlace
  put_type : (n : ℕ) (fs : TypeStack) (k : TypePlace) → LinePlace
  put_term : (n : ℕ) (a : RTy) (fs : m.Stack) (k : m.Place) → LinePlace
  finished : LinePlace

-- where a byte leads: on; on, with an item; nowhere
pub data LineStep : Type 0 where
  on : (p : LinePlace) → LineStep
  gives : (i : Item) (p : LinePlace) → LineStep
  refused : LineStep

-- the fixed word whose end leads there
abbrev pub spelling : Behind → List ℕ
spelling to_term = codes "NO 1" ++ (line_feed ∷ codes "term ")
spelling to_rule = codes "step "
spelling (to_path None) = codes "beta /"
spelling (to_path (Some n)) = codes " /"
spelling to_at = codes "at /"
spelling to_put = codes "put %"
spelling to_finish = codes "end" ++ (line_feed ∷ [])

abbrev pub behind : Behind → LineStep
behind to_term = on (in_term m.base m.wanted)
behind to_rule = on rule_wanted
behind (to_path rule) = on (step_path rule [])
behind to_at = on (at_path [])
behind to_put = on put_percent
behind to_finish = gives end_item finished

-- a byte of a fixed word was read, and this is left
abbrev pub word_on : List ℕ → Behind → LineStep
word_on [] o = behind o
word_on (x ∷ w) o = on (word (x ∷ w) o)

-- where a byte leads in a path: the path goes on, or ends and does what is said
abbrev pub path_step : (List ℕ → LinePlace) → (List ℕ → LineStep) → List ℕ → ℕ → LineStep
path_step more ended path b =
    cond (b == 48) (on (more (path ++ 0 ∷ []))) (cond (b == 49) (on (more (path ++ 1 ∷ []))) (cond (b == line_feed) (ended path) refused))

abbrev pub term_line : m.State → LineStep
term_line (m.at fs k) = on (in_term fs k)
term_line (m.whole t) = gives (head_item t) line
term_line m.failed = refused

abbrev pub put_line : ℕ → RTy → m.State → LineStep
put_line n a (m.at fs k) = on (put_term n a fs k)
put_line n a (m.whole t) = gives (put_item (record { number = n; kind = a; term = t })) later_line
put_line n a m.failed = refused

abbrev pub type_line : ℕ → TypeStep → LineStep
type_line n (goes fs k) = on (put_type n fs k)
type_line n (type_ended a b) = cond (b == space) (on (put_term n a m.base m.wanted)) refused
type_line n no_type = refused

abbrev pub step_ended : Option ℕ → List ℕ → LineStep
step_ended rule path = gives (step_item (record { rule = rule; path = path })) line

abbrev pub at_ended : List ℕ → LineStep
at_ended path = gives (at_item path) later_line

abbrev pub line_step : LinePlace → ℕ → LineStep
line_step (word [] o) b = refused
line_step (word (x ∷ w) o) b = cond (b == x) (word_on w o) refused
line_step (in_term fs k) b = term_line (m.step fs k b)
line_step line b =
    cond (b == 115) (on (word (codes "tep ") to_rule)) (cond (b == 97) (on (word (codes "t /") to_at)) refused)
line_step rule_wanted b =
    cond (is_digit b) (on (rule_number (b - 48))) (cond (b == 98) (on (word (codes "eta /") (to_path None))) refused)
line_step (rule_number n) b =
    cond (goes_on n b) (on (rule_number (10 * n + (b - 48)))) (cond (b == space) (on (word (codes "/") (to_path (Some n)))) refused)
line_step (step_path rule path) b = path_step (step_path rule) (step_ended rule) path b
line_step (at_path path) b = path_step at_path at_ended path b
line_step later_line b =
    cond (b == 112) (on (word (codes "ut %") to_put)) (cond (b == 101) (on (word (codes "nd" ++ (line_feed ∷ [])) to_finish)) refused)
line_step put_percent b = cond (is_digit b) (on (put_number (b - 48))) refused
line_step (put_number n) b =
    cond (goes_on n b) (on (put_number (10 * n + (b - 48)))) (cond (b == 58) (on (put_type n outside type_wanted)) refused)
line_step (put_type n fs k) b = type_line n (type_step fs k b)
line_step (put_term n a fs k) b = put_line n a (m.step fs k b)
line_step finished b = refused

-- the items so far, as parts of a NO certificate: none; a term and steps; these with a place and what is put
pub data Past : Type 0 where
  nothing : Past
  begun : (t : RTm) (steps : List taken.Step) → Past
  placed : (t : RTm) (steps : List taken.Step) (at : List ℕ) (puts : List Put) → Past

-- the items and one more; one that does not fit is passed over
abbrev pub gather : Past → Item → Past
gather nothing (head_item t) = begun t []
gather (begun t steps) (step_item s) = begun t (steps ++ s ∷ [])
gather (begun t steps) (at_item at) = placed t steps at []
gather (placed t steps at puts) (put_item p) = placed t steps at (puts ++ p ∷ [])
gather h i = h

-- before all bytes; before a byte of a NO certificate, of a YES certificate; past all hope of a certificate
pub data Standing : Type 0 where
  unread : Standing
  stands : (h : Past) (p : LinePlace) → Standing
  stands_yes : (h : y.Past) (p : y.Place) → Standing
  wrong : Standing

abbrev pub standing_after : Past → LineStep → Standing
standing_after h (on p) = stands h p
standing_after h (gives i p) = stands (gather h i) p
standing_after h refused = wrong

abbrev pub standing_after_yes : y.Past → y.LineStep → Standing
standing_after_yes h (y.on p) = stands_yes h p
standing_after_yes h (y.gives i p) = stands_yes (y.gather h i) p
standing_after_yes h y.refused = wrong

-- the first byte tells YES from NO
abbrev pub first_byte : ℕ → Standing
first_byte b =
    cond (b == 89) (stands_yes y.nothing (y.word (codes "ES ") y.to_version))
    (cond (b == 78) (stands nothing (word (codes "O 1" ++ (line_feed ∷ codes "term ")) to_term)) wrong)

abbrev pub take_byte : Standing → ℕ → Standing
take_byte unread b = first_byte b
take_byte (stands h p) b = standing_after h (line_step p b)
take_byte (stands_yes h p) b = standing_after_yes h (y.step (y.version_of h) (y.wants h) p b)
take_byte wrong b = wrong

-- where the bytes lead
abbrev pub run : Standing → List ℕ → Standing
run s [] = s
run s (b ∷ r) = run (take_byte s b) r

abbrev pub start : Standing
start = unread
