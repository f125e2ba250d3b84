-- The place of the instance, and what is put for variables, one line after another.
use Rattle.std.proofs.Common.{◌≡◌, ◌≢◌, ℕ, ◌+◌, ◌<◌, ◌≤◌, ◌^◌, List, [], ◌∷◌, ◌++◌, length, map, take, Some, All, AllPairs, Result, Ok, Err, append_assoc, refl, sym, ap, ◌∙◌, subst, arith}
use Rattle.std.specs.Prelude.{slice_get}
use Rattle.std.proofs.lemmas.List.{length-append, length-map, length-take-le, take_all}
use Rattle.wh_types.specs.Limits.{greatest_number}
use Rattle.wh_types.specs.Outcome.{MatchOr}
use Rattle.wh_types.specs.declared.want.Or.{Or}
use Rattle.wh_types.specs.declared.want.Or.TheVariants.{NoMemory, Because}
use Rattle.wh_terms.specs.Erase.{tm}
use Rattle.wh_terms.specs.Measures.{Fits}
use Rattle.wh_terms.specs.Sight.{IsTerm, LooseBelow}
use Rattle.wh_terms.specs.Rules.{AreWellMade}
use Rattle.wh_terms.specs.declared.path.Step as taken
use Rattle.wh_terms.specs.declared.subst.SubstEntry.{SubstEntry}
use Rattle.wh_text.specs.RawTree.{RTm}
use Rattle.wh_system.specs.Systems.{SystemData}
use Rattle.wh_system_making.specs.TablesOf.{AreTablesOf}
use Rattle.wh_pairs.specs.PairData.{PairData}
use Rattle.wh_cert.specs.Written as w
use Rattle.wh_cert.specs.Written.{Cert, yes, no}
use Rattle.wh_cert.specs.Limits.{IsCert}
use Rattle.wh_cert.specs.Items.{Item, at, put, end}
use Rattle.wh_no.specs.Entry.{entry_put, entry_puts}
use Rattle.wh_no.specs.Unused.{first_unused}
use Rattle.wh_no.specs.Valid.{IsBelow, HoldsInstance}
use Rattle.wh_no.specs.Faults.{IsTermFor, Arrive, AreRight, AreRightTo, IsPutFault, IsPlaceFault, IsFirstFault}
use Rattle.wh_no.specs.declared.check.AcceptedNo.{AcceptedNo}
use Rattle.wh_no.specs.declared.fault.NoFault.{NoFault}
use Rattle.wh_no.specs.declared.fault.NoFault.TheVariants.{NoStep}
use Rattle.wh_no.proofs.CheckLemmas.{term_shut, term_plain, last_fits, last_shut, values_shut, valid_claim, valid_no_unbounded, put_fault, place_fault}
use Rattle.wh_no.proofs.NumberLemmas.{unused_low}
use Rattle.wh_no.proofs.PutLemmas.{says_length}
use Rattle.wh_checker.specs.declared.checking.Accepted.TheVariants as answer
use Rattle.wh_checker_walk.specs.Walking.{Leads, CanCome, CanStand, AtSteps, AtPuts, StepsCome, PutsCome, IsRefused, IsWhole}
use Rattle.wh_checker_walk.specs.declared.puts.Puts.{Puts}
use Rattle.wh_checker_walk.specs.declared.steps.Steps.{Steps}
use Rattle.wh_checker_walk.proofs.LeftItems.{no_steps, more_puts, no_puts}
use Rattle.wh_checker_walk.proofs.StepLists.{got_between}

-- where an item can come, the walk stands
pub stands : (d : SystemData) (k : Steps) (i : Item) → CanCome (AtSteps d k) i → CanStand (AtSteps d k)
stands d k i (c, rest, cert, stand) = (c, i ∷ rest, cert, stand)

-- all steps are gone over
all_gone : (d : SystemData) (k : Steps) (raw : RTm) (steps : List taken.Step) (path : List ℕ) (puts : List w.Put) (rest : List Item)
    (come : StepsCome d k raw steps path puts rest) → k.waiting.items ≡ [] → come.left ≡ [] → steps ≡ come.gone
all_gone d k raw steps path puts rest come empty none =
    come.all ∙ ap (λ l. come.gone ++ (l ++ come.left)) empty ∙ ap (λ l. come.gone ++ l) none ∙ append_nil come.gone
  where
    append_nil : (l : List taken.Step) → l ++ [] ≡ l
    append_nil [] = refl
    append_nil (s ∷ l) = ap (λ r. s ∷ r) (append_nil l)

pub puts_begun : (d : SystemData) (old k : Steps) (new : Puts) (way : List ℕ)
    → ((c : Cert) (rest : List Item) → IsCert c → AtSteps d old c rest → AtSteps d k c rest) → k.waiting.items ≡ [] → k.taken ≢ 0
    → new.steps.value ≡ k → new.at ≡ way → new.entries.items ≡ []
    → Leads (AtSteps d old) (at way) (AtPuts d new)
puts_begun d old k new way on empty some same_steps place none = λ c rest cert stand.
    go c rest (on c (at way ∷ rest) cert stand)
  where
    go : (c : Cert) (rest : List Item) → AtSteps d k c (at way ∷ rest) → AtPuts d new c rest
    go (yes version ranks pairs lines) rest stand = absurd stand
    go (no raw steps path puts) rest stand =
        let (over, same, tail) = no_steps way rest stand.left path puts stand.rest_is in
        let gone = all_gone d k raw steps path puts (at way ∷ rest) stand empty over in
        let count = stand.count in
        let long = ap (λ (l : List taken.Step). length l) gone in
        let leads = subst (λ l. Arrive d.rules l (tm k.term) (tm k.last)) (sym gone)
        (record { some_step = omega (arith, count, some); replays = stand.leads }) in
        record {
          tables = subst (λ (s : Steps). AreTablesOf d s.names) (sym same_steps) stand.tables;
          term = subst (λ (s : Steps). IsTermFor d raw (tm s.term)) (sym same_steps) stand.term;
          arrive = subst (λ (s : Steps). Arrive d.rules steps (tm s.term) (tm s.last)) (sym same_steps) leads;
          count = ap (λ (s : Steps). s.taken) same_steps ∙ count ∙ sym long;
          place = place ∙ same;
          gone = [];
          left = puts;
          all = refl;
          rest_is = tail;
          entries = ap (λ es. length es) none;
          right =
              subst (λ es. AreRightTo d puts 0 (entry_puts es)) (sym none) (record {
                stand = record { says = tt; over = λ i q within. absurd (omega (arith, within)); increasing = λ i j q before within. absurd (omega (arith, within)) };
                each = λ j less. absurd (omega (arith, less));
              });
        }

pub no_step : (d : SystemData) (old k : Steps) (way : List ℕ)
    → ((c : Cert) (rest : List Item) → IsCert c → AtSteps d old c rest → AtSteps d k c rest) → k.waiting.items ≡ [] → k.taken ≡ 0
    → Leads (AtSteps d old) (at way) (IsRefused d NoStep)
no_step d old k way on empty zero_is = λ c rest cert stand. go c rest (on c (at way ∷ rest) cert stand)
  where
    go : (c : Cert) (rest : List Item) → AtSteps d k c (at way ∷ rest) → IsFirstFault d c NoStep
    go (yes version ranks pairs lines) rest stand = absurd stand
    go (no raw steps path puts) rest stand =
        let (over, same, tail) = no_steps way rest stand.left path puts stand.rest_is in
        let gone = all_gone d k raw steps path puts (at way ∷ rest) stand empty over in
        (tm k.term, stand.term, ap (λ (l : List taken.Step). length l) gone ∙ sym stand.count ∙ zero_is)

-- one line more

pub puts_tables : (d : SystemData) (k : Puts) (i : Item) → CanCome (AtPuts d k) i → AreTablesOf d k.steps.value.names
puts_tables d k i (no raw steps path puts, rest, cert, stand) = stand.tables
puts_tables d k i (yes version ranks pairs lines, rest, cert, stand) = absurd stand

pub puts_few : (d : SystemData) (k : Puts) (p : w.Put) → CanCome (AtPuts d k) (put p) → length k.entries.items < 2 ^ 32
puts_few d k p (no raw steps path puts, rest, cert, stand) =
    let (others, is, tail) = more_puts p rest stand.left stand.rest_is in
    let few : length puts ≤ 2 ^ 32 = cert.counts.3 in
    let long = ap (λ (l : List w.Put). length l) stand.all ∙ length-append stand.gone stand.left in
    let more = ap (λ (l : List w.Put). length l) is in
    let count = stand.entries in
    omega (arith, few, long, more, count)
puts_few d k p (yes version ranks pairs lines, rest, cert, stand) = absurd stand

-- the line is the next of all
record IsNextLine (d : SystemData) (k : Puts) (puts : List w.Put) (p : w.Put) (n : ℕ) (gone : List w.Put) (rest : List Item) : Type 0 where
  pub others : List w.Put
  pub all : puts ≡ (gone ++ p ∷ []) ++ others
  pub tail : rest ≡ map put others ++ end ∷ []
  pub here : slice_get puts n ≡ Some p
  pub right : AreRightTo d puts n (entry_puts k.entries.items)

next_line : (d : SystemData) (k : Puts) (raw : RTm) (steps : List taken.Step) (path : List ℕ) (puts : List w.Put) (p : w.Put) (n : ℕ)
    (rest : List Item) → n ≡ length k.entries.items → (come : PutsCome d k raw steps path puts (put p ∷ rest))
    → IsNextLine d k puts p n come.gone rest
next_line d k raw steps path puts p n rest number come =
    let (others, is, tail) = more_puts p rest come.left come.rest_is in
    let split : puts ≡ come.gone ++ p ∷ others = come.all ∙ ap (λ l. come.gone ++ l) is in
    record {
      others = others;
      all = split ∙ sym (append_assoc come.gone (p ∷ []) others);
      tail = tail;
      here =
          subst (λ m. slice_get puts m ≡ Some p) (sym (number ∙ come.entries))
          (subst (λ l. slice_get l (length come.gone) ≡ Some p) (sym split) (got_between come.gone others p));
      right = subst (λ m. AreRightTo d puts m (entry_puts k.entries.items)) (sym (number ∙ come.entries)) come.right;
    }

-- what the line number n does, of all lines of which it is the next
abbrev pub Adds : SystemData → Puts → Puts → w.Put → ℕ → Result (Unit {0}) (Or NoFault) → Type 0
Adds d k after p n r =
    (lines : List w.Put) → slice_get lines n ≡ Some p → AreRightTo d lines n (entry_puts k.entries.items)
    → MatchOr r (λ _. AreRightTo d lines (n + 1) (entry_puts after.entries.items)) (IsPutFault d lines)

-- as many entries as right lines
as_many : (d : SystemData) (lines : List w.Put) (n : ℕ) (es : List SubstEntry) → n ≤ length lines → AreRightTo d lines n (entry_puts es) → length es ≡ n
as_many d lines n es within right =
    let said = says_length d (take n lines) (entry_puts es) right.stand.says in
    sym (length-map es entry_put) ∙ sym said ∙ length-take-le n lines within

pub puts_on : (d : SystemData) (k after : Puts) (p : w.Put) (n : ℕ) (r : Result (Unit {0}) (Or NoFault)) → n ≡ length k.entries.items
    → after.steps.value ≡ k.steps.value → after.at ≡ k.at → Adds d k after p n r
    → MatchOr r (λ _. Leads (AtPuts d k) (put p) (AtPuts d after)) (λ f. Leads (AtPuts d k) (put p) (IsRefused d f))
puts_on d k after p n (Err NoMemory) number same_steps place adds = tt
puts_on d k after p n (Err (Because f)) number same_steps place adds = λ c rest cert stand. go c rest stand
  where
    go : (c : Cert) (rest : List Item) → AtPuts d k c (put p ∷ rest) → IsFirstFault d c f
    go (yes version ranks pairs lines) rest stand = absurd stand
    go (no raw steps path puts) rest stand =
        let next = next_line d k raw steps path puts p n rest number stand in
        put_fault d raw (tm k.steps.value.term) (tm k.steps.value.last) steps path puts f stand.term stand.arrive (adds puts next.here next.right)
puts_on d k after p n (Ok u) number same_steps place adds = λ c rest cert stand. go c rest stand
  where
    go : (c : Cert) (rest : List Item) → AtPuts d k c (put p ∷ rest) → AtPuts d after c rest
    go (yes version ranks pairs lines) rest stand = absurd stand
    go (no raw steps path puts) rest stand =
        let next = next_line d k raw steps path puts p n rest number stand in
        let right = adds puts next.here next.right in
        let gone = stand.gone ++ p ∷ [] in
        let longer : length gone ≡ length stand.gone + 1 = length-append stand.gone (p ∷ []) in
        let long = ap (λ (l : List w.Put). length l) next.all ∙ length-append gone next.others in
        let count : n + 1 ≡ length gone = ap (λ m. m + 1) (number ∙ stand.entries) ∙ sym longer in
        let right' = subst (λ m. AreRightTo d puts m (entry_puts after.entries.items)) count right in
        record {
          tables = subst (λ (s : Steps). AreTablesOf d s.names) (sym same_steps) stand.tables;
          term = subst (λ (s : Steps). IsTermFor d raw (tm s.term)) (sym same_steps) stand.term;
          arrive = subst (λ (s : Steps). Arrive d.rules steps (tm s.term) (tm s.last)) (sym same_steps) stand.arrive;
          count = ap (λ (s : Steps). s.taken) same_steps ∙ stand.count;
          place = place ∙ stand.place;
          gone = gone;
          left = next.others;
          all = next.all;
          rest_is = next.tail;
          entries = as_many d puts (length gone) after.entries.items (omega (arith, long)) right';
          right = right';
        }

-- at the end

-- what is known of the terms and of the entries
pub record AtLast (k : Puts) : Type 0 where
  pub plain : IsTerm (tm k.steps.value.term)
  pub low : first_unused (tm k.steps.value.term) ≤ greatest_number + 1
  pub shut : All (λ e. LooseBelow 0 (tm e.value)) k.entries.items
  pub increasing : AllPairs IsBelow (entry_puts k.entries.items)
  pub fits : Fits (tm k.steps.value.last)
  pub closed : LooseBelow 0 (tm k.steps.value.last)

pub at_last : (d : SystemData) (k : Puts) (i : Item) → AreWellMade d.symbols d.rules → CanCome (AtPuts d k) i → AtLast k
at_last d k i made (no raw steps path puts, rest, cert, stand) =
    let t = tm k.steps.value.term in
    let u = tm k.steps.value.last in
    record {
      plain = term_plain d raw t stand.term;
      low = unused_low _ raw t cert.parts.0 stand.term.means.named;
      shut = values_shut d (take (length stand.gone) puts) k.entries.items stand.right.stand;
      increasing = stand.right.stand.increasing;
      fits = last_fits d.rules steps t u stand.arrive;
      closed = last_shut d.symbols d.rules steps t u made stand.arrive (term_shut d raw t stand.term);
    }
at_last d k i made (yes version ranks pairs lines, rest, cert, stand) = absurd stand

-- all lines are right
right_all : (d : SystemData) (k : Puts) (raw : RTm) (steps : List taken.Step) (path : List ℕ) (puts : List w.Put) (rest : List Item)
    (come : PutsCome d k raw steps path puts rest) → come.left ≡ [] → AreRight d puts (entry_puts k.entries.items)
right_all d k raw steps path puts rest come none =
    let long = ap (λ (l : List w.Put). length l) come.all ∙ length-append come.gone come.left in
    let over = ap (λ (l : List w.Put). length l) none in
    subst (λ l. AreRight d l (entry_puts k.entries.items)) (take_all (length come.gone) puts (omega (arith, long, over))) come.right.stand

pub puts_whole : (d : SystemData) (ps : List PairData) (k : Puts) (a : AcceptedNo) → AreWellMade d.symbols d.rules → a.steps ≡ k.steps.value.taken
    → HoldsInstance (tm k.steps.value.term) (entry_puts k.entries.items) k.at (tm k.steps.value.last) → Leads (AtPuts d k) end (IsWhole d ps (answer.No a))
puts_whole d ps k a made number holds = λ c rest cert stand. go c rest stand
  where
    go : (c : Cert) (rest : List Item) → AtPuts d k c (end ∷ rest) → IsWhole d ps (answer.No a) c rest
    go (yes version ranks pairs lines) rest stand = absurd stand
    go (no raw steps path puts) rest stand =
        let t = tm k.steps.value.term in
        let u = tm k.steps.value.last in
        let es = entry_puts k.entries.items in
        let (over, tail) = no_puts rest stand.left stand.rest_is in
        let right = right_all d k raw steps path puts (end ∷ rest) stand over in
        let instance = subst (λ way. HoldsInstance t es way u) stand.place holds in
        let (claim, says, valid) = valid_claim d raw t u steps path puts es stand.term stand.arrive right instance in (
          tail,
          record {
            accepted = (claim, says, valid, number ∙ stand.count ∙ ap length (sym says.steps));
            small = tt;
            meaning =
                (t, stand.term.means, valid_no_unbounded d raw steps path puts made (claim, says, valid) t stand.term.means);
          },
        )

pub puts_not_whole : (d : SystemData) (k : Puts) (f : NoFault) → IsPlaceFault (tm k.steps.value.term) (entry_puts k.entries.items) k.at (tm k.steps.value.last) f
    → Leads (AtPuts d k) end (IsRefused d f)
puts_not_whole d k f fault = λ c rest cert stand. go c rest stand
  where
    go : (c : Cert) (rest : List Item) → AtPuts d k c (end ∷ rest) → IsFirstFault d c f
    go (yes version ranks pairs lines) rest stand = absurd stand
    go (no raw steps path puts) rest stand =
        let t = tm k.steps.value.term in
        let u = tm k.steps.value.last in
        let es = entry_puts k.entries.items in
        let (over, tail) = no_puts rest stand.left stand.rest_is in
        let right = right_all d k raw steps path puts (end ∷ rest) stand over in
        place_fault d raw t u steps path puts es f stand.term stand.arrive right
        (subst (λ way. IsPlaceFault t es way u f) stand.place fault)
