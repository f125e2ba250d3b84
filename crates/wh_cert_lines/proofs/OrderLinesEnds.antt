-- Every front of lines of a node of a path order that is read goes on to the end of a line, within the limits.
use Rattle.std.proofs.Common.{◌≡◌, ℕ, suc, ◌+◌, ◌<◌, ◌≤◌, ◌==◌, List, [], ◌∷◌, ◌++◌, length, codes, refl, sym, ap, ◌∙◌, arith, length-append}
use Rattle.std.proofs.lemmas.Bool.{cond-true, eq-eqb}
use Rattle.std.proofs.lemmas.List.Elements.{All-nil, All-push}
use Rattle.std.specs.Fmt.{decimal}
use Rattle.wh_text.specs.Words.{IsWord}
use Rattle.wh_cert_letters.proofs.NamesAndNumbers.{first_letter}
use Rattle.wh_order_inference.specs.Inferences.{same_trees, Inference, infer, Inferences, no_parts, more_parts, entries, all_entries}
use Rattle.wh_order_inference.specs.InferenceText.{Form, alone, with_parts, with_place, form, sign, put_place, put_inference}
use Rattle.wh_order_inference.specs.InferenceLimits.{InferenceFits, PartsFit}
use Rattle.wh_order_inference.specs.FilterText.{WrittenFilter, keeps, picks, put_places, FilterFits}
use Rattle.wh_order_text.specs.FilterMachine as f
use Rattle.wh_order_text.specs.InferenceMachine as i
use Rattle.wh_order_text.specs.InferenceMachine.{Stack, outside, inside, level, add_part}
use Rattle.wh_order_text.proofs.InferenceSound.{seen, front, put_open, put_later, GoodStack, GoodPlace, sound}
use Rattle.wh_order_text.proofs.InferenceWhole.{long_inference}
use Rattle.wh_cert.specs.Written.{Filtering}
use Rattle.wh_cert.specs.Limits.{FilterWithin}
use Rattle.wh_cert_lines.specs.OrderLines.{Lines, LinesPlace, lines_front, name_wanted, name, in_filter, space_wanted, in_inference, add_named, add_shown}
use Rattle.wh_cert_lines.proofs.SectionsLaws.{TakesNamed}
use Rattle.wh_cert_lines.proofs.OrderLinesSound.{GoodLines, GoodLinesPlace, FilterRead, InferenceRead, lines_wider, filter_good, inference_good, long_places}
use Rattle.wh_cert_lines.proofs.OrderLinesComplete.{Reader, on_byte, filter_lift, inference_lift}

-- bytes that lead from a place of the reader of filters to the end of a line, and the filter that is then read
pub record FilterEnds (n : ℕ) (k : f.Place) : Type 0 where
  pub tail : List ℕ → List ℕ
  pub filter : WrittenFilter
  pub fits : FilterFits filter
  pub few : FilterWithin n filter
  pub ends : (r : List ℕ) → f.scan (f.goes k) (tail r) ≡ f.read filter (10 ∷ r)

word_ends : (n : ℕ) (w : f.Word) → FilterEnds n (f.behind_word w)
word_ends n f.keep_word = record { tail = λ r. 48 ∷ 10 ∷ r; filter = keeps 0 []; fits = (omega arith, All-nil (λ m. m ≤ 65535)); few = omega arith; ends = λ r. refl }
word_ends n f.pick_word = record { tail = λ r. 48 ∷ 10 ∷ r; filter = picks 0; fits = omega arith; few = tt; ends = λ r. refl }

rest_ends : (n x : ℕ) (xs : List ℕ) (w : f.Word) → FilterEnds n (f.word (x ∷ xs) w)
rest_ends n x [] w =
    let behind = word_ends n w in
    record { tail = λ r. x ∷ behind.tail r; filter = behind.filter; fits = behind.fits; few = behind.few; ends = λ r. ap (λ (s : f.Step). f.scan s (behind.tail r)) (cond-true (x == x) (f.goes (f.behind_word w)) f.nowhere (eq-eqb x x refl)) ∙ behind.ends r }
rest_ends n x (y ∷ xs) w =
    let behind = rest_ends n y xs w in
    record { tail = λ r. x ∷ behind.tail r; filter = behind.filter; fits = behind.fits; few = behind.few; ends = λ r. ap (λ (s : f.Step). f.scan s (behind.tail r)) (cond-true (x == x) (f.goes (f.word (y ∷ xs) w)) f.nowhere (eq-eqb x x refl)) ∙ behind.ends r }

-- one more place than was read is no more than the bytes that were
one_more : (n p m : ℕ) (ns s w : List ℕ) → codes "keep " ++ (decimal p ++ put_places ns (32 ∷ s)) ≡ w ++ [] → length w ≤ n → length (ns ++ m ∷ []) ≤ n
one_more n p m ns s w e short =
    omega (arith, long_places ns (32 ∷ s), length-append (decimal p) (put_places ns (32 ∷ s)), ap (λ (t : List ℕ). length t) e, length-append w [], length-append ns (m ∷ []), short)

filter_ends : (n : ℕ) (k : f.Place) → FilterRead n k → FilterEnds n k
filter_ends n f.wanted p = record { tail = λ r. codes "pick 0" ++ (10 ∷ r); filter = picks 0; fits = omega arith; few = tt; ends = λ r. refl }
filter_ends n (f.word [] w) p = absurd p.2
filter_ends n (f.word (x ∷ xs) w) p = rest_ends n x xs w
filter_ends n f.prec_wanted p = word_ends n f.keep_word
filter_ends n (f.prec m) p = record { tail = λ r. 10 ∷ r; filter = keeps m []; fits = (p.2.0, All-nil (λ o. o ≤ 65535)); few = omega arith; ends = λ r. refl }
filter_ends n (f.place_wanted q ns) p = record {
  tail = λ r. 48 ∷ 10 ∷ r;
  filter = keeps q (ns ++ 0 ∷ []);
  fits = (p.2.0, All-push (λ o. o ≤ 65535) ns 0 p.2.1 (omega arith));
  few = one_more n q 0 ns [] p.0 (p.2.2 []) p.1;
  ends = λ r. refl;
}
filter_ends n (f.place q ns m) p = record {
  tail = λ r. 10 ∷ r;
  filter = keeps q (ns ++ m ∷ []);
  fits = (p.2.0, All-push (λ o. o ≤ 65535) ns m p.2.1 p.2.2);
  few = one_more n q m ns (decimal m ++ []) p.0 (p.2.3 []) p.1;
  ends = λ r. refl;
}
filter_ends n f.pick_wanted p = word_ends n f.pick_word
filter_ends n (f.picked m) p = record { tail = λ r. 10 ∷ r; filter = picks m; fits = p.2.0; few = tt; ends = λ r. refl }

-- inferences

-- what closes the open parentheses behind an inference, and what is read then
abbrev closing : Stack → List ℕ → List ℕ
closing outside r = r
closing (inside l n is fs) r = 41 ∷ closing fs r

abbrev around : Stack → Inference → Inference
around outside j = j
around (inside l n is fs) j = around fs (infer l n (add_part is j))

closing_run : (fs : Stack) (j : Inference) (r : List ℕ) → i.scan (i.goes fs (i.behind j)) (closing fs (10 ∷ r)) ≡ i.read (around fs j) (10 ∷ r)
closing_run outside j r = refl
closing_run (inside l n is fs) j r = closing_run fs (infer l n (add_part is j)) r

-- how many inferences stand in the open ones, these included
abbrev opened : Stack → ℕ
opened outside = 0
opened (inside l n is fs) = suc (all_entries is + opened fs)

added : (is : Inferences) (j : Inference) → all_entries (add_part is j) ≡ all_entries is + entries j
added no_parts j = omega arith
added (more_parts h is) j = omega (arith, added is j)

around_entries : (fs : Stack) (j : Inference) → entries (around fs j) ≡ opened fs + entries j
around_entries outside j = omega arith
around_entries (inside l n is fs) j = omega (arith, around_entries fs (infer l n (add_part is j)), added is j)

-- each inference that was begun has a byte

long_place : (o : Form) (n : ℕ) (x : List ℕ) → length x ≤ length (put_place o n x)
long_place alone n x = omega arith
long_place with_parts n x = omega arith
long_place with_place n x = omega (arith, length-append (decimal n) x)

long_later : (k : ℕ) (is : Inferences) (r : List ℕ) → PartsFit k is → all_entries is + length r ≤ length (put_later is r)
long_later k no_parts r h = omega arith
long_later k (more_parts j is) r h = omega (arith, long_inference k j (44 ∷ put_later is r) h.0, long_later k is r h.1)

long_front : (fs : Stack) (r : List ℕ) → GoodStack fs → opened fs + length r ≤ length (front fs r)
long_front outside r g = omega arith
long_front (inside l n is fs) r g =
    omega (arith, long_front fs (put_open l n (put_later is r)) g.3, long_place (form l) n (40 ∷ put_later is r), long_later (suc (level fs)) is r g.2)

-- bytes that lead from a place of the reader of inferences to the end of a line, and the inference that is then read
pub record InferenceEnds (n : ℕ) (fs : Stack) (k : i.Place) : Type 0 where
  pub tail : List ℕ → List ℕ
  pub inference : Inference
  pub fits : InferenceFits 0 inference
  pub few : entries inference ≤ n
  pub ends : (r : List ℕ) → i.scan (i.goes fs k) (tail r) ≡ i.read inference (10 ∷ r)

-- where w leads behind an inference
ends_by : (n : ℕ) (fs : Stack) (k : i.Place) (w : List ℕ → List ℕ) (j : Inference) → GoodStack fs → GoodPlace fs k → opened fs + entries j ≤ n → ((r : List ℕ) → i.scan (i.goes fs k) (w r) ≡ i.scan (i.goes fs (i.behind j)) r) → InferenceEnds n fs k
ends_by n fs k w j stack place few leads =
    let ends : (r : List ℕ) → i.scan (i.goes fs k) (w (closing fs (10 ∷ r))) ≡ i.read (around fs j) (10 ∷ r) = λ r. leads (closing fs (10 ∷ r)) ∙ closing_run fs j r in
    let whole = sound (i.goes fs k) (w (closing fs (10 ∷ []))) (seen fs k) (around fs j) (10 ∷ []) (stack, place, λ r. refl) (ends []) in
    record { tail = λ r. w (closing fs (10 ∷ r)); inference = around fs j; fits = whole.0; few = omega (arith, around_entries fs j, few); ends = ends }

-- the bytes that were read
few_read : (n : ℕ) (fs : Stack) (s w : List ℕ) (m : ℕ) → GoodStack fs → front fs s ≡ w ++ [] → length w < n → m ≤ suc (length s) → opened fs + m ≤ n
few_read n fs s w m g e short few =
    omega (arith, long_front fs s g, ap (λ (t : List ℕ). length t) e, length-append w [], short, few)

inference_ends : (n : ℕ) (fs : Stack) (k : i.Place) → InferenceRead n fs k → InferenceEnds n fs k
inference_ends n fs i.wanted p =
    ends_by n fs i.wanted (λ r. 61 ∷ r) (infer same_trees 0 no_parts) p.2 p.3 (few_read n fs [] p.0 1 p.2 (p.4 []) p.1 (omega arith)) (λ r. refl)
inference_ends n fs (i.place_wanted l) p =
    ends_by n fs (i.place_wanted l) (λ r. 48 ∷ 40 ∷ 41 ∷ r) (infer l 0 no_parts) p.2 p.3 (few_read n fs (sign l ∷ []) p.0 1 p.2 (p.4 []) p.1 (omega arith)) (λ r. refl)
inference_ends n fs (i.placed l m) p =
    ends_by n fs (i.placed l m) (λ r. 40 ∷ 41 ∷ r) (infer l m no_parts) p.2 p.3 (few_read n fs (sign l ∷ (decimal m ++ [])) p.0 1 p.2 (p.4 []) p.1 (omega arith)) (λ r. refl)
inference_ends n fs (i.list_wanted l) p =
    ends_by n fs (i.list_wanted l) (λ r. 40 ∷ 41 ∷ r) (infer l 0 no_parts) p.2 p.3 (few_read n fs (sign l ∷ []) p.0 1 p.2 (p.4 []) p.1 (omega arith)) (λ r. refl)
inference_ends n fs (i.begun l m) p =
    ends_by n fs (i.begun l m) (λ r. 41 ∷ r) (infer l m no_parts) p.2 p.3 (few_read n fs (put_open l m []) p.0 1 p.2 (p.4 []) p.1 (omega arith)) (λ r. refl)
inference_ends n fs (i.behind j) p =
    ends_by n fs (i.behind j) (λ r. r) j p.2 p.3 (few_read n fs (put_inference j []) p.0 (entries j) p.2 (p.4 []) p.1 (omega (arith, long_inference (level fs) j [] p.3))) (λ r. refl)

-- bytes that lead from a place in lines to the end of a line, and the lines that were then read, whatever reads them
pub record LineEnds (n : ℕ) (x : Lines) (k : LinesPlace) : Type 1 where
  pub tail : List ℕ → List ℕ
  pub after : Lines
  pub good : GoodLines (suc n) after
  pub leads : (T : Type 0) (q : Reader T) (r : List ℕ) → q.at x k (tail r) ≡ q.at after lines_front r

-- a name has a filter behind it
named_ends : (n : ℕ) (x : Lines) (xs : List ℕ) → GoodLines n x → TakesNamed x → IsWord xs → LineEnds n x (name xs)
named_ends n x xs g t word =
    let item : Filtering = record { name = xs; filter = picks 0 } in
    let text : List ℕ → List ℕ = λ r. codes "pick 0" ++ (10 ∷ r) in
    record {
      tail = λ r. 32 ∷ text r;
      after = add_named x item;
      good = filter_good n x item t g (record { name = word; filter = omega arith }) tt;
      leads = λ T q r. on_byte q x (name xs) 32 x (in_filter xs f.wanted) (text r) refl ∙ sym (q.goes x (in_filter xs f.wanted) (text r)) ∙ filter_lift q x xs f.start (text r) (picks 0) r refl;
    }

pub line_ends : (n : ℕ) (x : Lines) (k : LinesPlace) → GoodLines n x → GoodLinesPlace n x k → LineEnds n x k
line_ends n x lines_front g p = record { tail = λ r. r; after = x; good = lines_wider n (suc n) x (omega arith) g; leads = λ T q r. refl }
line_ends n x name_wanted g p =
    let behind = named_ends n x (97 ∷ []) g p (first_letter 97 refl) in
    record { tail = λ r. 97 ∷ behind.tail r; after = behind.after; good = behind.good; leads = λ T q r. on_byte q x name_wanted 97 x (name (97 ∷ [])) (behind.tail r) refl ∙ behind.leads T q r }
line_ends n x (name xs) g p = named_ends n x xs g p.0 p.1
line_ends n x (in_filter xs k) g p =
    let behind = filter_ends n k p.2 in
    let item : Filtering = record { name = xs; filter = behind.filter } in
    record {
      tail = behind.tail;
      after = add_named x item;
      good = filter_good n x item p.0 g (record { name = p.1; filter = behind.fits }) behind.few;
      leads = λ T q r. sym (q.goes x (in_filter xs k) (behind.tail r)) ∙ filter_lift q x xs (f.goes k) (behind.tail r) behind.filter r (behind.ends r);
    }
line_ends n x space_wanted g p =
    let j : Inference = infer same_trees 0 no_parts in
    record {
      tail = λ r. 32 ∷ 61 ∷ 10 ∷ r;
      after = add_shown x j;
      good = inference_good n x j p.0 g (omega arith, (refl, refl), tt) (omega (arith, p.1));
      leads = λ T q r. on_byte q x space_wanted 32 x (in_inference i.outside i.wanted) (61 ∷ 10 ∷ r) refl ∙ sym (q.goes x (in_inference i.outside i.wanted) (61 ∷ 10 ∷ r)) ∙ inference_lift q x i.start (61 ∷ 10 ∷ r) j r refl;
    }
line_ends n x (in_inference fs k) g p =
    let behind = inference_ends n fs k p.1 in
    record {
      tail = behind.tail;
      after = add_shown x behind.inference;
      good = inference_good n x behind.inference p.0 g behind.fits behind.few;
      leads = λ T q r. sym (q.goes x (in_inference fs k) (behind.tail r)) ∙ inference_lift q x (i.goes fs k) (behind.tail r) behind.inference r (behind.ends r);
    }
