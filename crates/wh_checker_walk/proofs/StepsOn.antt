-- The steps of a certificate, one after another.
use Rattle.std.proofs.Common.{◌≡◌, ℕ, ◌+◌, ◌<◌, ◌^◌, List, [], ◌∷◌, ◌++◌, length, append_assoc, sym, ap, ◌∙◌, subst, arith}
use Rattle.std.proofs.lemmas.List.{length-append}
use Rattle.wh_terms.specs.Erase.{tm}
use Rattle.wh_terms.specs.Measures.{Fits}
use Rattle.wh_terms.specs.Sight.{IsTerm, LooseBelow}
use Rattle.wh_terms.specs.Rules.{AreWellMade}
use Rattle.wh_terms.specs.declared.path.Step as taken
use Rattle.wh_text.specs.RawTree.{RTm}
use Rattle.wh_step.specs.Replay.{Replays}
use Rattle.wh_step.specs.Reducts.{FailsAt, TooBigAt}
use Rattle.wh_system.specs.Systems.{SystemData}
use Rattle.wh_system_making.specs.TablesOf.{AreTablesOf}
use Rattle.wh_cert.specs.Written as w
use Rattle.wh_cert.specs.Written.{Cert, yes, no}
use Rattle.wh_cert.specs.Items.{Item, no_head, step}
use Rattle.wh_no.specs.Faults.{IsTermFor, IsTermFault, IsFirstFault}
use Rattle.wh_no.specs.declared.fault.NoFault.{NoFault}
use Rattle.wh_no.specs.declared.fault.NoFault.TheVariants.{NotATerm, NoStep, StepFails, TooBig, BadPut, NoInstance}
use Rattle.wh_no.proofs.CheckLemmas.{term_shut, term_plain}
use Rattle.wh_checker_walk.specs.Walking.{Leads, Stays, CanStand, HasNothing, AtSteps, IsRefused}
use Rattle.wh_checker_walk.specs.declared.steps.Steps.{Steps}
use Rattle.wh_checker_walk.proofs.LeftItems.{first_no, more_steps}
use Rattle.wh_checker_walk.proofs.StepLists.{replays_then, replays_fit, replays_shut, replays_plain, fails_before, fails_behind, big_before, big_behind}

-- behind the term

pub steps_begun : (d : SystemData) (k : Steps) (raw : RTm) → AreTablesOf d k.names → IsTermFor d raw (tm k.term) → tm k.last ≡ tm k.term
    → k.taken ≡ 0 → k.waiting.items ≡ [] → Leads HasNothing (no_head raw) (AtSteps d k)
steps_begun d k raw tables term same none empty = λ c rest cert e.
    let (steps, path, puts, is, tail) = first_no raw c rest e in
    subst (λ x. AtSteps d k x rest) (sym is) (record {
      tables = tables;
      term = term;
      gone = [];
      left = steps;
      all = sym (ap (λ l. l ++ steps) empty);
      rest_is = tail;
      count = none;
      leads = sym same;
    })

no_term : (d : SystemData) (raw : RTm) (steps : List taken.Step) (path : List ℕ) (puts : List w.Put) (f : NoFault) → IsTermFault d raw f
    → IsFirstFault d (no raw steps path puts) f
no_term d raw steps path puts NotATerm fault = fault
no_term d raw steps path puts NoStep fault = absurd fault
no_term d raw steps path puts (StepFails i) fault = absurd fault
no_term d raw steps path puts (TooBig i) fault = absurd fault
no_term d raw steps path puts (BadPut i) fault = absurd fault
no_term d raw steps path puts NoInstance fault = absurd fault

pub steps_unbegun : (d : SystemData) (raw : RTm) (f : NoFault) → IsTermFault d raw f → Leads HasNothing (no_head raw) (IsRefused d f)
steps_unbegun d raw f fault = λ c rest cert e.
    let (steps, path, puts, is, tail) = first_no raw c rest e in
    subst (λ x. IsFirstFault d x f) (sym is) (no_term d raw steps path puts f fault)

-- what is known of the last term, and how many steps there are

pub record AtStep (k : Steps) : Type 0 where
  pub fits : Fits (tm k.last)
  pub shut : LooseBelow 0 (tm k.last)
  pub plain : IsTerm (tm k.last)
  pub few : k.taken + length k.waiting.items < 2 ^ 32

pub at_step : (d : SystemData) (k : Steps) → AreWellMade d.symbols d.rules → CanStand (AtSteps d k) → AtStep k
at_step d k made (no raw steps path puts, rest, cert, stand) =
    let t = tm k.term in
    let u = tm k.last in
    let few : length steps < 2 ^ 32 = cert.counts.0 in
    let long : length steps ≡ length stand.gone + length (k.waiting.items ++ stand.left) =
    ap (λ (l : List taken.Step). length l) stand.all ∙ length-append stand.gone (k.waiting.items ++ stand.left) in
    let tail = length-append k.waiting.items stand.left in
    record {
      fits = replays_fit d.rules stand.gone t u stand.leads stand.term.fits;
      shut = replays_shut d.symbols d.rules stand.gone t u made stand.leads (term_shut d raw t stand.term);
      plain = replays_plain d.symbols d.rules stand.gone t u made stand.leads (term_plain d raw t stand.term);
      few = omega (arith, few, long, tail, stand.count);
    }
at_step d k made (yes version ranks pairs lines, rest, cert, stand) = absurd stand

-- one step more waits

pub steps_pushed : (d : SystemData) (k after : Steps) (s : taken.Step) → after.names ≡ k.names → after.term ≡ k.term → after.last ≡ k.last
    → after.taken ≡ k.taken → after.waiting.items ≡ k.waiting.items ++ s ∷ [] → Leads (AtSteps d k) (step s) (AtSteps d after)
steps_pushed d k after s names term last number waiting = λ c rest cert stand. go c rest stand
  where
    go : (c : Cert) (rest : List Item) → AtSteps d k c (step s ∷ rest) → AtSteps d after c rest
    go (yes version ranks pairs lines) rest stand = absurd stand
    go (no raw steps path puts) rest stand =
        let (others, is, tail) = more_steps s rest stand.left path puts stand.rest_is in
        record {
          tables = subst (AreTablesOf d) (sym names) stand.tables;
          term = subst (λ t. IsTermFor d raw (tm t)) (sym term) stand.term;
          gone = stand.gone;
          left = others;
          all =
              stand.all ∙ ap (λ l. stand.gone ++ l) (ap (λ l. k.waiting.items ++ l) is ∙ sym (append_assoc k.waiting.items (s ∷ []) others)
              ∙ ap (λ l. l ++ others) (sym waiting));
          rest_is = tail;
          count = number ∙ stand.count;
          leads =
              subst (λ t. Replays d.rules stand.gone (tm t) (tm after.last)) (sym term)
              (subst (λ t. Replays d.rules stand.gone (tm k.term) (tm t)) (sym last) stand.leads);
        }

-- those that wait are gone over

pub steps_gone_over : (d : SystemData) (k after : Steps) → after.names ≡ k.names → after.term ≡ k.term
    → after.taken ≡ k.taken + length k.waiting.items → after.waiting.items ≡ []
    → Replays d.rules k.waiting.items (tm k.last) (tm after.last) → Stays (AtSteps d k) (AtSteps d after)
steps_gone_over d k after names term number empty on = λ c rest cert stand. go c rest stand
  where
    go : (c : Cert) (rest : List Item) → AtSteps d k c rest → AtSteps d after c rest
    go (yes version ranks pairs lines) rest stand = absurd stand
    go (no raw steps path puts) rest stand =
        let longer = length-append stand.gone k.waiting.items in
        let count = stand.count in
        record {
          tables = subst (AreTablesOf d) (sym names) stand.tables;
          term = subst (λ t. IsTermFor d raw (tm t)) (sym term) stand.term;
          gone = stand.gone ++ k.waiting.items;
          left = stand.left;
          all =
              stand.all ∙ sym (append_assoc stand.gone k.waiting.items stand.left)
              ∙ ap (λ l. (stand.gone ++ k.waiting.items) ++ (l ++ stand.left)) (sym empty);
          rest_is = stand.rest_is;
          count = omega (arith, number, longer, count);
          leads =
              subst (λ t. Replays d.rules (stand.gone ++ k.waiting.items) (tm t) (tm after.last)) (sym term)
              (replays_then d.rules stand.gone k.waiting.items (tm k.term) (tm k.last) (tm after.last) stand.leads on);
        }

pub step_fails : (d : SystemData) (k : Steps) (i n : ℕ) → n ≡ k.taken + i → FailsAt d.rules k.waiting.items (tm k.last) i
    → Stays (AtSteps d k) (IsRefused d (StepFails n))
step_fails d k i n is f = λ c rest cert stand. go c rest stand
  where
    go : (c : Cert) (rest : List Item) → AtSteps d k c rest → IsFirstFault d c (StepFails n)
    go (yes version ranks pairs lines) rest stand = absurd stand
    go (no raw steps path puts) rest stand =
        let place : n ≡ length stand.gone + i = is ∙ ap (λ m. m + i) stand.count in
        let behind = fails_behind d.rules stand.gone (k.waiting.items ++ stand.left) (tm k.term) (tm k.last) i n place stand.leads
        (fails_before d.rules k.waiting.items stand.left (tm k.last) i f) in
        (tm k.term, stand.term, subst (λ l. FailsAt d.rules l (tm k.term) n) (sym stand.all) behind)

pub step_too_big : (d : SystemData) (k : Steps) (i n : ℕ) → n ≡ k.taken + i → TooBigAt d.rules k.waiting.items (tm k.last) i
    → Stays (AtSteps d k) (IsRefused d (TooBig n))
step_too_big d k i n is f = λ c rest cert stand. go c rest stand
  where
    go : (c : Cert) (rest : List Item) → AtSteps d k c rest → IsFirstFault d c (TooBig n)
    go (yes version ranks pairs lines) rest stand = absurd stand
    go (no raw steps path puts) rest stand =
        let place : n ≡ length stand.gone + i = is ∙ ap (λ m. m + i) stand.count in
        let behind = big_behind d.rules stand.gone (k.waiting.items ++ stand.left) (tm k.term) (tm k.last) i n place stand.leads
        (big_before d.rules k.waiting.items stand.left (tm k.last) i f) in
        (tm k.term, stand.term, subst (λ l. TooBigAt d.rules l (tm k.term) n) (sym stand.all) behind)
