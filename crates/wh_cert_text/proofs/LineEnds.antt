-- Every front of a certificate that the reader goes along can be ended within the limits.
use Rattle.std.proofs.Common.{◌≡◌, ℕ, suc, ◌≤◌, ◌==◌, List, [], ◌∷◌, ◌++◌, length, Option, Some, codes, refl, sym, ap, ◌∙◌, arith}
use Rattle.std.proofs.lemmas.Bool.{cond-true, eq-eqb}
use Rattle.wh_text.specs.RawTree.{RTy}
use Rattle.wh_cert_parts.specs.TypeMachine.{TypeStack, outside, TypePlace, type_wanted, goes}
use Rattle.wh_cert_parts.specs.TermMachine as m
use Rattle.wh_cert_parts.proofs.TypeLaws.{GoodTypePlace, type_ends}
use Rattle.wh_cert_parts.proofs.TermSound.{GoodPlace}
use Rattle.wh_cert_parts.proofs.TermComplete.{term_ends}
use Rattle.wh_cert.specs.Written.{no}
use Rattle.wh_cert_machines.specs.LineMachine.{Item, head_item, step_item, at_item, put_item, end_item, Behind, to_term, to_rule, to_path, to_at, to_put, to_finish, LinePlace, word, in_term, line, rule_wanted, rule_number, step_path, at_path, later_line, put_percent, put_number, put_type, put_term as placing, finished, LineStep, on, refused, behind, Past, nothing, begun, placed, gather, stands, standing_after, run}
use Rattle.wh_cert_text.proofs.LineSound.{first, second, third, word_stage, stage, past_stage, item_from, item_to, GoodLine, ItemWithin, PastWithin}
use Rattle.wh_cert_text.proofs.Ended.{ReachesEnd, ends_after}
use Rattle.wh_cert_text.proofs.Reached.{gather_stage, gather_within, past_wider}
use Rattle.wh_cert_text.proofs.LineComplete.{head_scan, lift_head, put_scan, lift_put, kind_scan, lift_kind}

-- the fronts of lines

later_ends : (n : ℕ) (h : Past) → third ≡ past_stage h → PastWithin n h → ReachesEnd n (stands h later_line)
later_ends n nothing s g = absurd cc
later_ends n (begun t steps) s g = absurd cc
later_ends n (placed t steps at puts) s g =
    record { tail = codes "end" ++ (10 ∷ []); c = no t steps at puts; ends = refl; within = g }

line_ends : (n : ℕ) (h : Past) → second ≡ past_stage h → PastWithin n h → ReachesEnd n (stands h line)
line_ends n nothing s g = absurd cc
line_ends n (begun t steps) s g =
    ends_after n (stands (begun t steps) line) (stands (placed t steps [] []) later_line) (λ r. codes "at /" ++ (10 ∷ r)) (λ r. refl)
    (later_ends n (placed t steps [] []) refl (g.0, g.1, omega arith, omega arith))
line_ends n (placed t steps at puts) s g = absurd cc

-- behind one more item

line_after : (n : ℕ) (h : Past) (i : Item) → item_from i ≡ past_stage h → item_to i ≡ second → ItemWithin (suc n) i → PastWithin n h → ReachesEnd (suc n) (stands (gather h i) line)
line_after n h i s to w g =
    line_ends (suc n) (gather h i) (sym to ∙ sym (gather_stage h i s)) (gather_within n h i g w)

later_after : (n : ℕ) (h : Past) (i : Item) → item_from i ≡ past_stage h → item_to i ≡ third → ItemWithin (suc n) i → PastWithin n h → ReachesEnd (suc n) (stands (gather h i) later_line)
later_after n h i s to w g =
    later_ends (suc n) (gather h i) (sym to ∙ sym (gather_stage h i s)) (gather_within n h i g w)

-- the places within a line

term_place_ends : (n : ℕ) (h : Past) (fs : m.Stack) (k : m.Place) → GoodPlace fs k → first ≡ past_stage h → PastWithin n h → ReachesEnd (suc n) (stands h (in_term fs k))
term_place_ends n h fs k p s g =
    let e = term_ends fs k p in
    ends_after (suc n) (stands h (in_term fs k)) (stands (gather h (head_item e.t)) line) e.tail
    (λ r. lift_head h (m.at fs k) (e.tail r) ∙ ap (head_scan h) (e.ends r))
    (line_after n h (head_item e.t) s refl tt g)

placing_ends : (n : ℕ) (h : Past) (i : ℕ) (a : RTy) (fs : m.Stack) (k : m.Place) → GoodPlace fs k → third ≡ past_stage h → PastWithin n h → ReachesEnd (suc n) (stands h (placing i a fs k))
placing_ends n h i a fs k p s g =
    let e = term_ends fs k p in
    ends_after (suc n) (stands h (placing i a fs k)) (stands (gather h (put_item (record { number = i; kind = a; term = e.t }))) later_line) e.tail
    (λ r. lift_put h i a (m.at fs k) (e.tail r) ∙ ap (put_scan h i a) (e.ends r))
    (later_after n h (put_item (record { number = i; kind = a; term = e.t })) s refl tt g)

kind_ends : (n : ℕ) (h : Past) (i : ℕ) (fs : TypeStack) (k : TypePlace) → GoodTypePlace fs k → third ≡ past_stage h → PastWithin n h → ReachesEnd (suc n) (stands h (put_type i fs k))
kind_ends n h i fs k p s g =
    let e = type_ends fs k p in
    ends_after (suc n) (stands h (put_type i fs k)) (stands h (placing i e.a m.base m.wanted)) (λ r. e.tail (32 ∷ r))
    (λ r. lift_kind h i (goes fs k) (e.tail (32 ∷ r)) ∙ ap (kind_scan h i) (e.ends 32 r refl))
    (placing_ends n h i e.a m.base m.wanted tt s g)

number_ends : (n : ℕ) (h : Past) (i : ℕ) → third ≡ past_stage h → PastWithin n h → ReachesEnd (suc n) (stands h (put_number i))
number_ends n h i s g =
    ends_after (suc n) (stands h (put_number i)) (stands h (put_type i outside type_wanted)) (λ r. 58 ∷ r) (λ r. refl) (kind_ends n h i outside type_wanted tt s g)

percent_ends : (n : ℕ) (h : Past) → third ≡ past_stage h → PastWithin n h → ReachesEnd (suc n) (stands h put_percent)
percent_ends n h s g =
    ends_after (suc n) (stands h put_percent) (stands h (put_number 0)) (λ r. 48 ∷ r) (λ r. refl) (number_ends n h 0 s g)

step_path_ends : (n : ℕ) (h : Past) (rule : Option ℕ) (path : List ℕ) → length path ≤ n → second ≡ past_stage h → PastWithin n h → ReachesEnd (suc n) (stands h (step_path rule path))
step_path_ends n h rule path short s g =
    ends_after (suc n) (stands h (step_path rule path)) (stands (gather h (step_item (record { rule = rule; path = path }))) line) (λ r. 10 ∷ r) (λ r. refl)
    (line_after n h (step_item (record { rule = rule; path = path })) s refl (omega arith) g)

at_path_ends : (n : ℕ) (h : Past) (path : List ℕ) → length path ≤ n → second ≡ past_stage h → PastWithin n h → ReachesEnd (suc n) (stands h (at_path path))
at_path_ends n h path short s g =
    ends_after (suc n) (stands h (at_path path)) (stands (gather h (at_item path)) later_line) (λ r. 10 ∷ r) (λ r. refl)
    (later_after n h (at_item path) s refl (omega arith) g)

rule_number_ends : (n : ℕ) (h : Past) (k : ℕ) → second ≡ past_stage h → PastWithin n h → ReachesEnd (suc n) (stands h (rule_number k))
rule_number_ends n h k s g =
    ends_after (suc n) (stands h (rule_number k)) (stands h (step_path (Some k) [])) (λ r. 32 ∷ 47 ∷ r) (λ r. refl) (step_path_ends n h (Some k) [] (omega arith) s g)

finished_ends : (n : ℕ) (h : Past) → third ≡ past_stage h → PastWithin n h → ReachesEnd n (stands h finished)
finished_ends n nothing s g = absurd cc
finished_ends n (begun t steps) s g = absurd cc
finished_ends n (placed t steps at puts) s g =
    record { tail = []; c = no t steps at puts; ends = refl; within = g }

-- fixed words

word_run : (h : Past) (x : ℕ) (w : List ℕ) (o : Behind) (r : List ℕ) → run (stands h (word (x ∷ w) o)) ((x ∷ w) ++ r) ≡ run (standing_after h (behind o)) r
word_run h x [] o r =
    ap (λ (s : LineStep). run (standing_after h s) r) (cond-true (x == x) (behind o) refused (eq-eqb x x refl))
word_run h x (y ∷ w) o r =
    ap (λ (s : LineStep). run (standing_after h s) ((y ∷ w) ++ r)) (cond-true (x == x) (on (word (y ∷ w) o)) refused (eq-eqb x x refl))
    ∙ word_run h y w o r

gather_end : (h : Past) → gather h end_item ≡ h
gather_end nothing = refl
gather_end (begun t steps) = refl
gather_end (placed t steps at puts) = refl

behind_ends : (n : ℕ) (h : Past) (o : Behind) → word_stage o ≡ past_stage h → PastWithin n h → ReachesEnd (suc n) (standing_after h (behind o))
behind_ends n h to_term s g = term_place_ends n h m.base m.wanted tt s g
behind_ends n h to_rule s g =
    ends_after (suc n) (stands h rule_wanted) (stands h (rule_number 0)) (λ r. 48 ∷ r) (λ r. refl) (rule_number_ends n h 0 s g)
behind_ends n h (to_path rule) s g = step_path_ends n h rule [] (omega arith) s g
behind_ends n h to_at s g = at_path_ends n h [] (omega arith) s g
behind_ends n h to_put s g = percent_ends n h s g
behind_ends n h to_finish s g =
    finished_ends (suc n) (gather h end_item) (s ∙ ap past_stage (sym (gather_end h))) (gather_within n h end_item g tt)

pub line_place_ends : (n : ℕ) (h : Past) (p : LinePlace) → GoodLine n p → stage p ≡ past_stage h → PastWithin n h → ReachesEnd (suc n) (stands h p)
line_place_ends n h (word [] o) p s g = absurd p
line_place_ends n h (word (x ∷ w) o) p s g =
    ends_after (suc n) (stands h (word (x ∷ w) o)) (standing_after h (behind o)) (λ r. (x ∷ w) ++ r) (λ r. word_run h x w o r) (behind_ends n h o s g)
line_place_ends n h (in_term fs k) p s g = term_place_ends n h fs k p.1 s g
line_place_ends n h line p s g = line_ends (suc n) h s (past_wider n h g)
line_place_ends n h rule_wanted p s g = behind_ends n h to_rule s g
line_place_ends n h (rule_number k) p s g = rule_number_ends n h k s g
line_place_ends n h (step_path rule path) p s g = step_path_ends n h rule path p.2 s g
line_place_ends n h (at_path path) p s g = at_path_ends n h path p.1 s g
line_place_ends n h later_line p s g = later_ends (suc n) h s (past_wider n h g)
line_place_ends n h put_percent p s g = percent_ends n h s g
line_place_ends n h (put_number k) p s g = number_ends n h k s g
line_place_ends n h (put_type k fs tk) p s g = kind_ends n h k fs tk p.2 s g
line_place_ends n h (placing k a fs tk) p s g = placing_ends n h k a fs tk p.3 s g
line_place_ends n h finished p s g = finished_ends (suc n) h s (past_wider n h g)
