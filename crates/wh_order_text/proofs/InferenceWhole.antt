-- Where bytes lead the reader of inferences, and what follows of the texts of inferences.
use Rattle.std.proofs.Common.{◌≡◌, ℕ, suc, ◌+◌, ◌-◌, ◌≤◌, List, [], ◌∷◌, ◌++◌, length, refl, sym, ap, ◌∙◌, arith, append_assoc}
use Rattle.std.proofs.lemmas.List.{length-append}
use Rattle.std.proofs.Math.Nat.{max-le}
use Rattle.std.specs.Fmt.{decimal}
use Rattle.wh_order_inference.specs.Inferences.{Inference, infer, Inferences, no_parts, more_parts, entries, all_entries}
use Rattle.wh_order_inference.specs.InferenceText.{Form, alone, with_parts, with_place, form, sign, put_place, put_listed, put_inference, put_parts, put_more, of_inference}
use Rattle.wh_order_inference.specs.InferenceLimits.{FormFits, InferenceFits, PartsFit, depth, deepest}
use Rattle.wh_order_text.specs.InferenceMachine.{Stack, outside, Place, Step, goes, ended, nowhere, step, Scan, reading, read, failed, scan, start}
use Rattle.wh_order_text.specs.InferencesRead.{Led}
use Rattle.wh_order_text.proofs.InferenceSound.{Next, sound}
use Rattle.wh_order_text.proofs.InferenceRuns.{inference_run, place_ends}

-- bytes lead on from where those before led

goes_on : (s : Step) (p q : List ℕ) (fs : Stack) (k : Place) → scan s p ≡ reading fs k → scan s (p ++ q) ≡ scan (goes fs k) q
goes_on (ended i b) p q fs k e = absurd cc
goes_on nowhere p q fs k e = absurd cc
goes_on (goes gs h) [] q fs k e =
    let same : gs ≡ fs = cc in
    let also : h ≡ k = cc in
    ap (λ (o : Stack). scan (goes o h) q) same ∙ ap (λ (o : Place). scan (goes fs o) q) also
goes_on (goes gs h) (b ∷ p) q fs k e = goes_on (step gs h b) p q fs k e

failed_stays : (s : Step) (p q : List ℕ) → scan s p ≡ failed → scan s (p ++ q) ≡ failed
failed_stays (ended i b) p q e = absurd cc
failed_stays nowhere p q e = refl
failed_stays (goes fs k) [] q e = absurd cc
failed_stays (goes fs k) (b ∷ p) q e = failed_stays (step fs k b) p q e

start_good : Next start (λ r. r)
start_good = (tt, omega arith, λ r. refl)

-- a text is read
pub reads : (i : Inference) (b : ℕ) (r : List ℕ) → InferenceFits 0 i → scan start (put_inference i (b ∷ r)) ≡ read i (b ∷ r)
reads i b r fits = inference_run outside i (b ∷ r) fits

not_read : (i : Inference) (r : List ℕ) → failed ≡ read i r → ⊥
not_read i r e = absurd cc

led_by : (p : List ℕ) (o : Scan) → scan start p ≡ o → Led o p
led_by p (reading fs k) e =
    let ends = place_ends fs k in
    let tail : List ℕ = ends.tail (10 ∷ []) in
    let whole = sound start (p ++ tail) (λ r. r) ends.i (10 ∷ []) start_good (goes_on start p tail fs k e ∙ ends.ends 10 []) in
    (ends.i, tail, whole.0, sym whole.1)
led_by p (read i r) e =
    let whole = sound start p (λ r. r) i r start_good e in (whole.0, sym whole.1)
led_by p failed e = λ begins.
    let stuck : scan start (p ++ begins.1) ≡ failed = failed_stays start p begins.1 e in
    let through : scan start (p ++ begins.1) ≡ read begins.0 (10 ∷ []) = ap (scan start) begins.3 ∙ reads begins.0 10 [] begins.2 in
    not_read begins.0 (10 ∷ []) (sym stuck ∙ through)

pub led : (p : List ℕ) → Led (scan start p) p
led p = led_by p (scan start p) refl

-- the spelling with something behind it is the text and that

place_behind : (f : Form) (n : ℕ) (x s : List ℕ) → put_place f n (x ++ s) ≡ put_place f n x ++ s
place_behind alone n x s = refl
place_behind with_parts n x s = refl
place_behind with_place n x s = sym (append_assoc (decimal n) x s)

listed_behind : (f : Form) (x r s : List ℕ) → put_listed f (x ++ s) (r ++ s) ≡ put_listed f x r ++ s
listed_behind alone x r s = refl
listed_behind with_parts x r s = refl
listed_behind with_place x r s = refl

mutual
  pub put_behind : (i : Inference) (r s : List ℕ) → put_inference i (r ++ s) ≡ put_inference i r ++ s
  put_behind (infer l n is) r s =
      ap (λ (x : List ℕ). sign l ∷ put_place (form l) n (put_listed (form l) x (r ++ s))) (parts_behind is r s)
      ∙ ap (λ (x : List ℕ). sign l ∷ put_place (form l) n x) (listed_behind (form l) (put_parts is r) r s)
      ∙ ap (λ (x : List ℕ). sign l ∷ x) (place_behind (form l) n (put_listed (form l) (put_parts is r) r) s)

  parts_behind : (is : Inferences) (r s : List ℕ) → put_parts is (r ++ s) ≡ put_parts is r ++ s
  parts_behind no_parts r s = refl
  parts_behind (more_parts i is) r s = ap (put_inference i) (more_behind is r s) ∙ put_behind i (put_more is r) s

  more_behind : (is : Inferences) (r s : List ℕ) → put_more is (r ++ s) ≡ put_more is r ++ s
  more_behind no_parts r s = refl
  more_behind (more_parts i is) r s =
      ap (λ (x : List ℕ). 44 ∷ x) (ap (put_inference i) (more_behind is r s) ∙ put_behind i (put_more is r) s)

-- texts and inferences determine one another

same_reading : (i j : Inference) (b c : ℕ) (r s : List ℕ) → InferenceFits 0 i → InferenceFits 0 j → put_inference i (b ∷ r) ≡ put_inference j (c ∷ s) → read i (b ∷ r) ≡ read j (c ∷ s)
same_reading i j b c r s fits also e = sym (reads i b r fits) ∙ ap (scan start) e ∙ reads j c s also

pub one_inference : (i j : Inference) → InferenceFits 0 i → InferenceFits 0 j → of_inference i ≡ of_inference j → i ≡ j
one_inference i j fits also e =
    let same = same_reading i j 10 10 [] [] fits also (put_behind i [] (10 ∷ []) ∙ ap (λ (x : List ℕ). x ++ 10 ∷ []) e ∙ sym (put_behind j [] (10 ∷ []))) in
    cc

pub no_prefix : (i j : Inference) (more : List ℕ) → InferenceFits 0 i → InferenceFits 0 j → of_inference i ++ more ≡ of_inference j → more ≡ []
no_prefix i j [] fits also e = refl
no_prefix i j (b ∷ more) fits also e =
    let behind : put_inference i (b ∷ (more ++ 10 ∷ [])) ≡ put_inference j (10 ∷ []) =
    put_behind i [] (b ∷ (more ++ 10 ∷ [])) ∙ sym (append_assoc (of_inference i) (b ∷ more) (10 ∷ [])) ∙ ap (λ (x : List ℕ). x ++ 10 ∷ []) e ∙ sym (put_behind j [] (10 ∷ [])) in
    let same = same_reading i j b 10 (more ++ 10 ∷ []) [] fits also behind in
    let rest : more ++ 10 ∷ [] ≡ [] = cc in
    absurd (omega (arith, length-append more (10 ∷ []), ap (λ (x : List ℕ). length x) rest))

-- an inference for each byte at most

long_place : (f : Form) (n : ℕ) (x : List ℕ) → length x ≤ length (put_place f n x)
long_place alone n x = omega arith
long_place with_parts n x = omega arith
long_place with_place n x = omega (arith, length-append (decimal n) x)

long_listed : (f : Form) (n : ℕ) (is : Inferences) (x r : List ℕ) → FormFits f n is → all_entries is + length r ≤ length x → all_entries is + length r ≤ length (put_listed f x r)
long_listed alone n is x r fits long = omega (arith, ap all_entries fits.1)
long_listed with_parts n is x r fits long = omega (arith, long)
long_listed with_place n is x r fits long = omega (arith, long)

mutual
  pub long_inference : (k : ℕ) (i : Inference) (r : List ℕ) → InferenceFits k i → entries i + length r ≤ length (put_inference i r)
  long_inference k (infer l n is) r h =
      let listed : List ℕ = put_listed (form l) (put_parts is r) r in
      omega (arith, long_place (form l) n listed, long_listed (form l) n is (put_parts is r) r h.1 (long_parts (suc k) is r h.2))

  long_parts : (k : ℕ) (is : Inferences) (r : List ℕ) → PartsFit k is → all_entries is + length r ≤ length (put_parts is r)
  long_parts k no_parts r h = omega arith
  long_parts k (more_parts i is) r h = omega (arith, long_inference k i (put_more is r) h.0, long_more k is r h.1)

  long_more : (k : ℕ) (is : Inferences) (r : List ℕ) → PartsFit k is → all_entries is + length r ≤ length (put_more is r)
  long_more k no_parts r h = omega arith
  long_more k (more_parts i is) r h = omega (arith, long_inference k i (put_more is r) h.0, long_more k is r h.1)

pub entries_short : (i : Inference) → InferenceFits 0 i → entries i ≤ length (of_inference i)
entries_short i fits = omega (arith, long_inference 0 i [] fits)

-- an inference within the limits nests so deep

mutual
  depth_fits : (k : ℕ) (i : Inference) → InferenceFits k i → depth i ≤ 64 - k
  depth_fits k (infer l n is) h = omega (arith, h.0, deepest_fits (suc k) is h.2)

  deepest_fits : (k : ℕ) (is : Inferences) → PartsFit k is → deepest is ≤ 64 - k
  deepest_fits k no_parts h = omega arith
  deepest_fits k (more_parts i is) h = max-le (depth_fits k i h.0) (deepest_fits k is h.1)

pub depth_within : (i : Inference) → InferenceFits 0 i → depth i ≤ 64
depth_within i fits = depth_fits 0 i fits
