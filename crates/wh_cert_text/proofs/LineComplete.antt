-- The reader of certificates reads each text.
use Rattle.std.proofs.Common.{◌≡◌, ℕ, zero, suc, ◌+◌, ◌-◌, ◌*◌, ◌<◌, cond, List, [], ◌∷◌, ◌++◌, Option, Some, None, codes, refl, sym, ap, ◌∙◌, arith, append_assoc, append-nil}
use Rattle.std.specs.List.{All}
use Rattle.std.proofs.lemmas.Bool.{cond-true}
use Rattle.std.proofs.lemmas.List.Elements.{All-head, All-tail}
use Rattle.wh_terms.specs.Places.{IsPath}
use Rattle.wh_terms.specs.declared.path.Step as taken
use Rattle.wh_text.specs.Chars.{is_digit}
use Rattle.wh_text.specs.RawTree.{RTy, RTm}
use Rattle.wh_text.specs.Spelling.{put_part, put_term}
use Rattle.wh_cert_letters.specs.Digits.{goes_on}
use Rattle.wh_cert_letters.proofs.NamesAndNumbers.{ReadsNumbers, number_run, is_digit_48, goes_on_48}
use Rattle.wh_cert.specs.TermLimits.{TermFits}
use Rattle.wh_cert_parts.specs.TypeMachine.{outside, type_wanted, TypeStep, goes, type_ended, no_type, type_step}
use Rattle.wh_cert_parts.specs.TermMachine as m
use Rattle.wh_cert_parts.proofs.TypeLaws.{TypeScan, in_type, type_read, no_scan, type_scan, type_run}
use Rattle.wh_cert_parts.proofs.TermComplete.{Scan, still, read, stuck, scan, term_run}
use Rattle.wh_cert.specs.Written.{Put, Cert, yes, no}
use Rattle.wh_cert.specs.Text.{put_path, put_rule, put_step, put_steps, put_put, put_puts, text}
use Rattle.wh_cert.specs.Limits.{RuleFits, StepFits, PutFits, PartsFit}
use Rattle.wh_cert_machines.specs.LineMachine.{head_item, step_item, at_item, put_item, LinePlace, in_term, line, rule_wanted, rule_number, step_path, at_path, later_line, put_percent, put_number, put_type, put_term as placing, LineStep, on, term_line, put_line, type_line, Past, nothing, begun, placed, gather, Standing, stands, wrong, standing_after, run, start}
use Rattle.wh_cert_text.specs.ReadEnd.{IsEnd}
use Rattle.wh_cert_text.proofs.Ended.{run_wrong}
use Rattle.wh_cert_text.proofs.YesComplete.{yes_run}

-- the same through the readers of terms and types

abbrev pub head_scan : Past → Scan → Standing
head_scan h (still fs k) = stands h (in_term fs k)
head_scan h (read t r) = run (stands (gather h (head_item t)) line) r
head_scan h stuck = wrong

pub lift_head : (h : Past) (s : m.State) (p : List ℕ) → run (standing_after h (term_line s)) p ≡ head_scan h (scan s p)
lift_head h (m.whole t) p = refl
lift_head h m.failed p = run_wrong p
lift_head h (m.at fs k) [] = refl
lift_head h (m.at fs k) (b ∷ p) = lift_head h (m.step fs k b) p

abbrev pub put_scan : Past → ℕ → RTy → Scan → Standing
put_scan h n a (still fs k) = stands h (placing n a fs k)
put_scan h n a (read t r) = run (stands (gather h (put_item (record { number = n; kind = a; term = t }))) later_line) r
put_scan h n a stuck = wrong

pub lift_put : (h : Past) (n : ℕ) (a : RTy) (s : m.State) (p : List ℕ) → run (standing_after h (put_line n a s)) p ≡ put_scan h n a (scan s p)
lift_put h n a (m.whole t) p = refl
lift_put h n a m.failed p = run_wrong p
lift_put h n a (m.at fs k) [] = refl
lift_put h n a (m.at fs k) (b ∷ p) = lift_put h n a (m.step fs k b) p

abbrev pub kind_scan : Past → ℕ → TypeScan → Standing
kind_scan h n (in_type fs k) = stands h (put_type n fs k)
kind_scan h n (type_read a []) = wrong
kind_scan h n (type_read a (b ∷ r)) = run (standing_after h (type_line n (type_ended a b))) r
kind_scan h n no_scan = wrong

pub lift_kind : (h : Past) (n : ℕ) (s : TypeStep) (p : List ℕ) → run (standing_after h (type_line n s)) p ≡ kind_scan h n (type_scan s p)
lift_kind h n (type_ended a b) p = refl
lift_kind h n no_type p = run_wrong p
lift_kind h n (goes fs k) [] = refl
lift_kind h n (goes fs k) (b ∷ p) = lift_kind h n (type_step fs k b) p

-- numbers

reads_numbers : (h : Past) (first : LinePlace) (k : ℕ → LinePlace) (other : ℕ → LineStep) (rest : ℕ → ℕ → LineStep) → ((d : ℕ) (r : List ℕ) → run (stands h first) (d ∷ r) ≡ run (standing_after h (cond (is_digit d) (on (k (d - 48))) (other d))) r) → ((n b : ℕ) (r : List ℕ) → run (stands h (k n)) (b ∷ r) ≡ run (standing_after h (cond (goes_on n b) (on (k (10 * n + (b - 48)))) (rest n b))) r) → ReadsNumbers (λ (r : List ℕ). run (stands h first) r) (λ (n : ℕ) (r : List ℕ). run (stands h (k n)) r)
reads_numbers h first k other rest starts more = record {
  starts = λ d r low. starts (48 + d) r ∙ ap (λ (s : LineStep). run (standing_after h s) r) (cond-true (is_digit (48 + d)) (on (k (48 + d - 48))) (other (48 + d)) (is_digit_48 d low)) ∙ ap (λ (n : ℕ). run (stands h (k n)) r) (omega arith);
  goes = λ n d r some below fits. more n (48 + d) r ∙ ap (λ (s : LineStep). run (standing_after h s) r) (cond-true (goes_on n (48 + d)) (on (k (10 * n + (48 + d - 48)))) (rest n (48 + d)) (goes_on_48 n d some below fits)) ∙ ap (λ (i : ℕ). run (stands h (k i)) r) (omega arith);
}

reads_rules : (h : Past) → ReadsNumbers (λ (r : List ℕ). run (stands h rule_wanted) r) (λ (n : ℕ) (r : List ℕ). run (stands h (rule_number n)) r)
reads_rules h = reads_numbers h rule_wanted rule_number _ _ (λ d r. refl) (λ n b r. refl)

reads_puts : (h : Past) → ReadsNumbers (λ (r : List ℕ). run (stands h put_percent) r) (λ (n : ℕ) (r : List ℕ). run (stands h (put_number n)) r)
reads_puts h = reads_numbers h put_percent put_number _ _ (λ d r. refl) (λ n b r. refl)

-- paths

step_path_run : (h : Past) (rule : Option ℕ) (done path r : List ℕ) → IsPath path → run (stands h (step_path rule done)) (put_path path (10 ∷ r)) ≡ run (stands (gather h (step_item (record { rule = rule; path = done ++ path }))) line) r
step_path_run h rule done [] r is =
    ap (λ (w : List ℕ). run (stands (gather h (step_item (record { rule = rule; path = w }))) line) r) (sym (append-nil done))
step_path_run h rule done (zero ∷ path) r is =
    step_path_run h rule (done ++ 0 ∷ []) path r (All-tail (λ (e : ℕ). e < 2) 0 path is)
    ∙ ap (λ (w : List ℕ). run (stands (gather h (step_item (record { rule = rule; path = w }))) line) r) (append_assoc done (0 ∷ []) path)
step_path_run h rule done (suc zero ∷ path) r is =
    step_path_run h rule (done ++ 1 ∷ []) path r (All-tail (λ (e : ℕ). e < 2) 1 path is)
    ∙ ap (λ (w : List ℕ). run (stands (gather h (step_item (record { rule = rule; path = w }))) line) r) (append_assoc done (1 ∷ []) path)
step_path_run h rule done (suc (suc d) ∷ path) r is =
    let low : suc (suc d) < 2 = All-head (λ (e : ℕ). e < 2) (suc (suc d)) path is in
    absurd (omega arith)

pub at_path_run : (h : Past) (done path r : List ℕ) → IsPath path → run (stands h (at_path done)) (put_path path (10 ∷ r)) ≡ run (stands (gather h (at_item (done ++ path))) later_line) r
at_path_run h done [] r is =
    ap (λ (w : List ℕ). run (stands (gather h (at_item w)) later_line) r) (sym (append-nil done))
at_path_run h done (zero ∷ path) r is =
    at_path_run h (done ++ 0 ∷ []) path r (All-tail (λ (e : ℕ). e < 2) 0 path is)
    ∙ ap (λ (w : List ℕ). run (stands (gather h (at_item w)) later_line) r) (append_assoc done (0 ∷ []) path)
at_path_run h done (suc zero ∷ path) r is =
    at_path_run h (done ++ 1 ∷ []) path r (All-tail (λ (e : ℕ). e < 2) 1 path is)
    ∙ ap (λ (w : List ℕ). run (stands (gather h (at_item w)) later_line) r) (append_assoc done (1 ∷ []) path)
at_path_run h done (suc (suc d) ∷ path) r is =
    let low : suc (suc d) < 2 = All-head (λ (e : ℕ). e < 2) (suc (suc d)) path is in
    absurd (omega arith)

-- lines

pub head_run : (t : RTm) (r : List ℕ) → TermFits 0 t → run start (codes "NO 1" ++ (10 ∷ (codes "term " ++ put_term t (10 ∷ r)))) ≡ run (stands (begun t []) line) r
head_run t r f =
    lift_head nothing (m.at m.base m.wanted) (put_term t (10 ∷ r)) ∙ ap (head_scan nothing) (term_run m.base t (10 ∷ r) f refl)

rule_run : (h : Past) (rule : Option ℕ) (r : List ℕ) → RuleFits rule → run (stands h line) (codes "step " ++ put_rule rule (32 ∷ 47 ∷ r)) ≡ run (stands h (step_path rule [])) r
rule_run h None r f = refl
rule_run h (Some k) r f = number_run _ _ (reads_rules h) k (32 ∷ 47 ∷ r) f

pub step_run : (h : Past) (s : taken.Step) (r : List ℕ) → StepFits s → run (stands h line) (put_step s r) ≡ run (stands (gather h (step_item s)) line) r
step_run h s r f =
    rule_run h s.rule (put_path s.path (10 ∷ r)) f.rule ∙ step_path_run h s.rule [] s.path r f.path

steps_run : (t : RTm) (done steps : List taken.Step) (r : List ℕ) → All StepFits steps → run (stands (begun t done) line) (put_steps steps r) ≡ run (stands (begun t (done ++ steps)) line) r
steps_run t done [] r f = ap (λ (w : List taken.Step). run (stands (begun t w) line) r) (sym (append-nil done))
steps_run t done (s ∷ steps) r f =
    step_run (begun t done) s (put_steps steps r) (All-head StepFits s steps f)
    ∙ steps_run t (done ++ s ∷ []) steps r (All-tail StepFits s steps f)
    ∙ ap (λ (w : List taken.Step). run (stands (begun t w) line) r) (append_assoc done (s ∷ []) steps)

pub put_run : (h : Past) (p : Put) (r : List ℕ) → PutFits p → run (stands h later_line) (put_put p r) ≡ run (stands (gather h (put_item p)) later_line) r
put_run h p r f =
    number_run _ _ (reads_puts h) p.number (58 ∷ put_part p.kind (32 ∷ put_term p.term (10 ∷ r))) f.number
    ∙ lift_kind h p.number (goes outside type_wanted) (put_part p.kind (32 ∷ put_term p.term (10 ∷ r)))
    ∙ ap (kind_scan h p.number) (type_run outside p.kind 32 (put_term p.term (10 ∷ r)) f.kind refl)
    ∙ lift_put h p.number p.kind (m.at m.base m.wanted) (put_term p.term (10 ∷ r))
    ∙ ap (put_scan h p.number p.kind) (term_run m.base p.term (10 ∷ r) f.term refl)

puts_run : (t : RTm) (steps : List taken.Step) (at : List ℕ) (done puts : List Put) (r : List ℕ) → All PutFits puts → run (stands (placed t steps at done) later_line) (put_puts puts r) ≡ run (stands (placed t steps at (done ++ puts)) later_line) r
puts_run t steps at done [] r f =
    ap (λ (w : List Put). run (stands (placed t steps at w) later_line) r) (sym (append-nil done))
puts_run t steps at done (p ∷ puts) r f =
    put_run (placed t steps at done) p (put_puts puts r) (All-head PutFits p puts f)
    ∙ puts_run t steps at (done ++ p ∷ []) puts r (All-tail PutFits p puts f)
    ∙ ap (λ (w : List Put). run (stands (placed t steps at w) later_line) r) (append_assoc done (p ∷ []) puts)

pub cert_run : (c : Cert) → PartsFit c → IsEnd (run start (text c)) c
cert_run (no t steps at puts) f =
    let ending : List ℕ = codes "end" ++ (10 ∷ []) in
    let later : List ℕ = put_puts puts ending in
    head_run t (put_steps steps (codes "at /" ++ put_path at (10 ∷ later))) f.0
    ∙ steps_run t [] steps (codes "at /" ++ put_path at (10 ∷ later)) f.1
    ∙ at_path_run (begun t steps) [] at later f.2
    ∙ puts_run t steps at [] puts ending f.3
cert_run (yes version ranks pairs nodes) f =
    yes_run version ranks pairs nodes (codes "end" ++ (10 ∷ [])) f.0 f.1 f.2 f.3 f.4 f.5
