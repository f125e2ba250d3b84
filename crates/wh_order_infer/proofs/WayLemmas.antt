-- The ways to show a task, and the inferences that begin so.
use Rattle.std.proofs.Common.{◌≡◌, ℕ, zero, suc, ◌+◌, ◌<◌, ◌≤◌, inl, inr, true, List, [], ◌∷◌, length, drop, Option, Some, None, refl, ap, subst, sym, ◌∙◌, arith}
use Rattle.std.specs.Prelude.{◌^◌}
use Rattle.wh_terms.specs.Typing.{Symbols, Declared}
use Rattle.wh_order_inference.specs.Inferences.{Letter, same_trees, bodies, arguments, part, lower, first_less, spine_parts, body, variable, meta_part, infer, Inferences, no_parts, more_parts, entries, all_entries}
use Rattle.wh_order_path.specs.Heads.{arguments_of}
use Rattle.wh_order_path.specs.Verdict.{greater, Task, some_strict, tasks, verdict, verdicts}
use Rattle.wh_order_path.proofs.AskedTasks.{split, first_part}
use Rattle.wh_order_known.specs.Least.{IsLeast, own}
use Rattle.wh_order_known.specs.Ways.{strict_part, sharpened, IsShown, AreShown, tasks_by}
use Rattle.wh_order_infer.proofs.TaskLemmas.{AllAtLeast, is_arguments, strict_split, strict_first, strict_behind, claimed, both_none, joined, tasks_any, asked_pairs, place_within, stricter_good, weaker_good}
use Rattle.wh_order_path.proofs.SameTreeLaws.{none_some, some_none}

some_of : {A : Type 0} {a b : A} → Some a ≡ Some b → a ≡ b
some_of e = cc

-- tasks behind the first one made stricter
sharp_behind : (n : ℕ) (k : Task) (ks js : List Task) → sharpened (suc n) (k ∷ ks) ≡ Some js → (ls : List Task) × (sharpened n ks ≡ Some ls) × (k ∷ ls ≡ js)
sharp_behind n k ks js e = on (sharpened n ks) refl e
  where
    on : (o : Option (List Task)) → sharpened n ks ≡ o → elim o as (λ x. Option (List Task)) [ None ↦ None | Some ls ↦ Some (k ∷ ls) ] ≡ Some js
        → (ls : List Task) × (sharpened n ks ≡ Some ls) × (k ∷ ls ≡ js)
    on None d e = absurd (none_some e)
    on (Some ls) d e = (ls, d, some_of e)

sharp_within : (n : ℕ) (ks js : List Task) → sharpened n ks ≡ Some js → n < length ks
sharp_within zero [] js e = absurd (none_some e)
sharp_within (suc n) [] js e = absurd (none_some e)
sharp_within zero (k ∷ ks) js e = omega arith
sharp_within (suc n) (k ∷ ks) js e = let (ls, d, c) = sharp_behind n k ks js e in omega (arith, sharp_within n ks ls d)

-- the place that is written with a letter: none with `m`
abbrev pub place_by : Letter → ℕ → ℕ
place_by arguments m = 0
place_by l m = m

place_other : (l : Letter) (m : ℕ) → (l ≡ arguments → ⊥) → place_by l m ≡ m
place_other arguments m refuted = absurd (refuted refl)
place_other same_trees m refuted = refl
place_other bodies m refuted = refl
place_other part m refuted = refl
place_other lower m refuted = refl
place_other first_less m refuted = refl
place_other spine_parts m refuted = refl
place_other body m refuted = refl
place_other variable m refuted = refl
place_other meta_part m refuted = refl

module _ (F : Symbols) (prec : ℕ → ℕ) (M : List Declared) where
  sharp_complete : (ks : List Task) (is : Inferences) → AllAtLeast ks → verdicts F prec M ks is ≡ None → some_strict is ≡ true
      → (n : ℕ) × (js : List Task) × (sharpened n ks ≡ Some js) × (verdicts F prec M js is ≡ None)
  sharp_complete [] no_parts a e s = absurd (cc)
  sharp_complete [] (more_parts i is) a e s = absurd (some_none e)
  sharp_complete (k ∷ ks) no_parts a e s = absurd (some_none e)
  sharp_complete (k ∷ ks) (more_parts i is) a e s =
      let (here, rest) = first_part F prec M k ks i is e in
      elim (strict_split i is s) [
        | inl refuted ↦ (
          zero,
          claimed greater k ∷ ks,
          refl,
          both_none F prec M (verdict F prec M (claimed greater k) i) (verdicts F prec M ks is) (entries i) (stricter_good F prec M k i a.0 refuted here) rest,
        )
        | inr so ↦
            let (n, js, d, v) = sharp_complete ks is a.1 rest so in (
              suc n,
              k ∷ js,
              ap (λ o. elim o as (λ x. Option (List Task)) [ None ↦ None | Some ls ↦ Some (k ∷ ls) ]) d,
              both_none F prec M (verdict F prec M k i) (verdicts F prec M js is) (entries i) here v,
            )
      ]

  sharp_sound : (n : ℕ) (ks js : List Task) (is : Inferences) → sharpened n ks ≡ Some js → AllAtLeast ks → verdicts F prec M js is ≡ None
      → (verdicts F prec M ks is ≡ None) × (some_strict is ≡ true)
  sharp_sound zero [] js is e a v = absurd (none_some e)
  sharp_sound (suc n) [] js is e a v = absurd (none_some e)
  sharp_sound zero (k ∷ ks) js no_parts e a v = absurd (some_none (subst (λ ls. verdicts F prec M ls no_parts ≡ None) (sym (some_of e)) v))
  sharp_sound zero (k ∷ ks) js (more_parts i is) e a v =
      let (here, rest) = first_part F prec M (claimed greater k) ks i is (subst (λ ls. verdicts F prec M ls (more_parts i is) ≡ None) (sym (some_of e)) v) in
      let (good, refuted) = weaker_good F prec M k i a.0 here in
      (both_none F prec M (verdict F prec M k i) (verdicts F prec M ks is) (entries i) good rest, strict_first i is refuted)
  sharp_sound (suc n) (k ∷ ks) js no_parts e a v =
      let (ls, d, c) = sharp_behind n k ks js e in
      absurd (some_none (subst (λ ls. verdicts F prec M ls no_parts ≡ None) (sym c) v))
  sharp_sound (suc n) (k ∷ ks) js (more_parts i is) e a v =
      let (ls, d, c) = sharp_behind n k ks js e in
      let (here, rest) = first_part F prec M k ls i is (subst (λ ls. verdicts F prec M ls (more_parts i is) ≡ None) (sym c) v) in
      let (fine, so) = sharp_sound n ks ls is d a.1 rest in
      (both_none F prec M (verdict F prec M k i) (verdicts F prec M ks is) (entries i) here fine, strict_behind i is so)

  -- the ways by `m`, and those by other letters

  asked_sharp : (k : Task) (n : ℕ) (js : List Task) → tasks_by F prec M k arguments (suc n) ≡ Some js
      → (ks : List Task) × (tasks F prec M k arguments zero strict_part ≡ Some ks) × (sharpened n ks ≡ Some js)
  asked_sharp k n js e = on (tasks F prec M k arguments zero strict_part) refl e
    where
      on : (o : Option (List Task)) → tasks F prec M k arguments zero strict_part ≡ o → elim o as (λ x. Option (List Task)) [ None ↦ None | Some ks ↦ sharpened n ks ] ≡ Some js
          → (ks : List Task) × (tasks F prec M k arguments zero strict_part ≡ Some ks) × (sharpened n ks ≡ Some js)
      on None d e = absurd (none_some e)
      on (Some ks) d e = (ks, d, e)

  pub by_other : (k : Task) (l : Letter) (n : ℕ) → (l ≡ arguments → ⊥) → tasks_by F prec M k l n ≡ tasks F prec M k l n no_parts
  by_other k arguments n refuted = absurd (refuted refl)
  by_other k same_trees n refuted = refl
  by_other k bodies n refuted = refl
  by_other k part n refuted = refl
  by_other k lower n refuted = refl
  by_other k first_less n refuted = refl
  by_other k spine_parts n refuted = refl
  by_other k body n refuted = refl
  by_other k variable n refuted = refl
  by_other k meta_part n refuted = refl

  arguments_within : (k : Task) (n : ℕ) (js : List Task) → tasks_by F prec M k arguments n ≡ Some js → n ≤ length (arguments_of k.left)
  arguments_within k zero js e = omega arith
  arguments_within k (suc n) js e =
      let (ks, asked, d) = asked_sharp k n js e in
      omega (arith, sharp_within n ks js d, (asked_pairs F prec M k 0 strict_part ks asked).few)

  pub way_within : (k : Task) (l : Letter) (n : ℕ) (js : List Task) → tasks_by F prec M k l n ≡ Some js → n ≤ length (arguments_of k.left)
  way_within k l n js e = elim (is_arguments l) [
    | inl d ↦ arguments_within k n js (subst (λ x. tasks_by F prec M k x n ≡ Some js) d e)
    | inr refuted ↦ place_within F prec M k l n no_parts js (sym (by_other k l n refuted) ∙ e)
  ]

  -- each good inference begins by a way
  pub way_of : (k : Task) (l : Letter) (n : ℕ) (is : Inferences) → verdict F prec M k (infer l n is) ≡ None
      → (m : ℕ) × (ks : List Task) × (tasks_by F prec M k l m ≡ Some ks) × (verdicts F prec M ks is ≡ None)
  way_of k l n is good =
      let (ks, asked, fine) = split F prec M k l n is good in
      elim (is_arguments l) [
        | inl d ↦
            let p = asked_pairs F prec M k n is ks (subst (λ x. tasks F prec M k x n is ≡ Some ks) d asked) in
            let (m, js, e, v) = sharp_complete ks is p.each fine p.strict in (
              suc m,
              js,
              subst (λ x. tasks_by F prec M k x (suc m) ≡ Some js) (sym d)
                  (ap (λ o. elim o as (λ x. Option (List Task)) [ None ↦ None | Some ls ↦ sharpened m ls ]) (p.any strict_part refl) ∙ e),
              v,
            )
        | inr refuted ↦ (n, ks, by_other k l n refuted ∙ tasks_any F prec M k l n no_parts is refuted ∙ asked, fine)
      ]

  arguments_good : (k : Task) (m : ℕ) (js : List Task) (is : Inferences) → tasks_by F prec M k arguments m ≡ Some js → verdicts F prec M js is ≡ None
      → verdict F prec M k (infer arguments 0 is) ≡ None
  arguments_good k zero js is e v = absurd (none_some e)
  arguments_good k (suc m) js is e v =
      let (ks, asked, d) = asked_sharp k m js e in
      let p = asked_pairs F prec M k 0 strict_part ks asked in
      let (fine, so) = sharp_sound m ks js is d p.each v in
      joined F prec M k arguments 0 is ks (p.any is so) fine

  -- and what begins by a way is good
  pub good_by : (k : Task) (l : Letter) (m : ℕ) (js : List Task) (is : Inferences) → tasks_by F prec M k l m ≡ Some js → verdicts F prec M js is ≡ None
      → verdict F prec M k (infer l (place_by l m) is) ≡ None
  good_by k l m js is e v = elim (is_arguments l) [
    | inl d ↦
        subst (λ x. verdict F prec M k (infer x (place_by x m) is) ≡ None) (sym d)
        (arguments_good k m js is (subst (λ x. tasks_by F prec M k x m ≡ Some js) d e) v)
    | inr refuted ↦
        subst (λ n. verdict F prec M k (infer l n is) ≡ None) (sym (place_other l m refuted))
        (joined F prec M k l m is js (tasks_any F prec M k l m is no_parts refuted ∙ sym (by_other k l m refuted) ∙ e) v)
  ]

  -- numbers of entries

  pub shown_by : (d : ℕ) (k : Task) (c : ℕ) → IsShown F prec M (suc d) k c
      → (l : Letter) × (m : ℕ) × (b : ℕ) × (ks : List Task) × (tasks_by F prec M k l m ≡ Some ks) × AreShown F prec M d ks b × (c ≡ suc b)
  shown_by d k c (infer l n is, good, count) =
      let (m, ks, e, v) = way_of k l n is good.0 in
      (l, m, all_entries is, ks, e, (is, (v, omega (arith, good.1)), refl), omega (arith, count))

  pub none_shown : (k : Task) (c : ℕ) → IsShown F prec M zero k c → ⊥
  none_shown k c (infer l n is, good, count) = omega (arith, good.1)

  pub by_shown : (d : ℕ) (k : Task) (l : Letter) (m : ℕ) (b : ℕ) (ks : List Task) → tasks_by F prec M k l m ≡ Some ks → AreShown F prec M d ks b → IsShown F prec M (suc d) k (suc b)
  by_shown d k l m b ks e (is, good, count) = (infer l (place_by l m) is, (good_by k l m ks is e good.0, omega (arith, good.1)), omega (arith, count))

  -- sums

  pub shown_join : (d : ℕ) (k : Task) (ks : List Task) (a b : ℕ) → IsShown F prec M d k a → AreShown F prec M d ks b → AreShown F prec M d (k ∷ ks) (a + b)
  shown_join d k ks a b (i, good, count) (is, fine, all) = (
    more_parts i is,
    (both_none F prec M (verdict F prec M k i) (verdicts F prec M ks is) (entries i) good.0 fine.0, omega (arith, good.1, fine.1)),
    omega (arith, count, all),
  )

  pub shown_split : (d : ℕ) (k : Task) (ks : List Task) (c : ℕ) → AreShown F prec M d (k ∷ ks) c
      → (a : ℕ) × (b : ℕ) × IsShown F prec M d k a × AreShown F prec M d ks b × (c ≡ a + b)
  shown_split d k ks c (no_parts, good, count) = absurd (some_none good.0)
  shown_split d k ks c (more_parts i is, good, count) =
      let (here, rest) = first_part F prec M k ks i is good.0 in
      (entries i, all_entries is, (i, (here, omega (arith, good.1)), refl), (is, (rest, omega (arith, good.1)), refl), omega (arith, count))

  pub nothing_shown : (d : ℕ) → IsLeast own (AreShown F prec M d []) (Some 0)
  nothing_shown d = (omega arith, (no_parts, (refl, omega arith), refl), λ b h. omega arith)

  pub sum_none : (d : ℕ) (k : Task) (ks : List Task) → IsLeast own (IsShown F prec M d k) None → IsLeast own (AreShown F prec M d (k ∷ ks)) None
  sum_none d k ks h c shown = let (a, b, here, rest, e) = shown_split d k ks c shown in omega (arith, h a here, e)

  pub sum_over : (d : ℕ) (k : Task) (ks : List Task) (a b : ℕ) → IsLeast own (IsShown F prec M d k) (Some a) → IsLeast own (AreShown F prec M d ks) (Some b) → 2 ^ 32 ≤ a + b
      → IsLeast own (AreShown F prec M d (k ∷ ks)) None
  sum_over d k ks a b here rest over c shown = let (x, y, p, q, e) = shown_split d k ks c shown in omega (arith, here.2 x p, rest.2 y q, e, over)

  pub sum_some : (d : ℕ) (k : Task) (ks : List Task) (a b s : ℕ) → IsLeast own (IsShown F prec M d k) (Some a) → IsLeast own (AreShown F prec M d ks) (Some b) → s ≡ a + b → s < 2 ^ 32
      → IsLeast own (AreShown F prec M d (k ∷ ks)) (Some s)
  sum_some d k ks a b s here rest sum few = (
    few,
    subst (AreShown F prec M d (k ∷ ks)) (sym sum) (shown_join d k ks a b here.1 rest.1),
    λ c shown. let (x, y, p, q, e) = shown_split d k ks c shown in omega (arith, here.2 x p, rest.2 y q, e, sum),
  )

  -- what is too much behind is too much in all
  pub none_behind : (d : ℕ) (k : Task) (ks : List Task) → IsLeast own (AreShown F prec M d ks) None → IsLeast own (AreShown F prec M d (k ∷ ks)) None
  none_behind d k ks h c shown = let (a, b, here, rest, e) = shown_split d k ks c shown in omega (arith, h b rest, e)

  pub none_from : (d n : ℕ) (ks : List Task) → IsLeast own (AreShown F prec M d (drop n ks)) None → IsLeast own (AreShown F prec M d ks) None
  none_from d zero ks h = h
  none_from d (suc n) [] h = h
  none_from d (suc n) (k ∷ ks) h = none_behind d k ks (none_from d n ks h)
