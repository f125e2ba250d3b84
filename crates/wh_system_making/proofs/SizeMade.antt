-- Height, size and width of a side as it is read bound those of the tree that it stands for.
use Rattle.std.proofs.Common.{◌≡◌, ℕ, ◌+◌, ◌≤◌, max, List, refl, ap, ◌∙◌, subst, arith, le_trans, ◌≢◌}
use Rattle.std.proofs.lemmas.Bool.{eqb-false}
use Rattle.wh_terms.specs.Tree.{Tm, bound, free, fun, meta, lam, app, Tms, argument_count}
use Rattle.wh_terms.specs.Measures.{size, sizes, risen, height, heights, SpinesWithin, AllSpinesWithin}
use Rattle.wh_text.specs.RawTree.{Binder, RTm, named, numbered, free_variable, meta as raw_meta, lam as raw_lam, spine, RTms, none, more}
use Rattle.wh_system_parts.specs.Naming.{Scope}
use Rattle.wh_system_parts.specs.Tests.{raw_height, raw_heights, raw_size, raw_sizes, raw_spine_size, width_of_type, width_of_term, widths_of_terms, width_of_arguments, count_of, arguments_of}
use Rattle.wh_system_making.proofs.PassedLaws.{Passed, passed_first, passed_rest, passed_parts}
use Rattle.wh_system_making.proofs.StandsLaws.{Stands, by_binder, by_meta, by_fun, by_number, by_variable, by_application, by_lam, by_spine, AllStand, no_more, and_more, SpineStands, at_end, applied}

mutual
  pub size_made : {s : Scope} {bs : List Binder} {t : RTm} {u : Tm} → Stands s bs t u → size u ≡ raw_size t
  size_made (by_binder e) = refl
  size_made (by_meta e f) = refl
  size_made (by_fun e f g) = refl
  size_made (by_number e) = refl
  size_made by_variable = refl
  size_made (by_application e ts) = ap (λ n. 1 + n) (sizes_made ts)
  size_made (by_lam t) = ap (λ n. 1 + n) (size_made t)
  size_made (by_spine {h = h} {ts = ts} h_stands ts_stand) = spine_size ts_stand ∙ ap (λ n. n + raw_spine_size ts) (size_made h_stands)

  sizes_made : {s : Scope} {bs : List Binder} {ts : RTms} {us : Tms} → AllStand s bs ts us → sizes us ≡ raw_sizes ts
  sizes_made no_more = refl
  sizes_made (and_more {ts = ts} {u = u} t rest) = ap (λ n. size u + n) (sizes_made rest) ∙ ap (λ n. n + raw_sizes ts) (size_made t)

  spine_size : {s : Scope} {bs : List Binder} {u v : Tm} {ts : RTms} → SpineStands s bs u ts v → size v ≡ size u + raw_spine_size ts
  spine_size (at_end {u = u} {v = v} e) = let same : size u ≡ size v = ap size e in omega arith
  spine_size (applied {u = u} {v = v} {w = w} {t = t} {ts = ts} t_stands rest) =
      let here : size w ≡ raw_size t = size_made t_stands in
      let there : size v ≡ (1 + size u + size w) + raw_spine_size ts = spine_size rest in
      omega arith

-- how many arguments a tree has

spine_count : {s : Scope} {bs : List Binder} {u v : Tm} {ts : RTms} → SpineStands s bs u ts v → argument_count v ≡ argument_count u + count_of ts
spine_count (at_end {u = u} {v = v} e) = let same : argument_count u ≡ argument_count v = ap argument_count e in omega arith
spine_count (applied {u = u} {v = v} {ts = ts} t rest) =
    let there : argument_count v ≡ argument_count u + 1 + count_of ts = spine_count rest in omega arith

pub count_made : {s : Scope} {bs : List Binder} {t : RTm} {u : Tm} → Stands s bs t u → argument_count u ≡ arguments_of t
count_made (by_binder e) = refl
count_made (by_meta e f) = refl
count_made (by_fun e f g) = refl
count_made (by_number e) = refl
count_made by_variable = refl
count_made (by_application e ts) = refl
count_made (by_lam t) = refl
count_made (by_spine {h = h} {ts = ts} {u = u} {v = v} h_stands ts_stand) =
    spine_count ts_stand ∙ ap (λ n. n + count_of ts) (count_made h_stands)

-- what a front of a spine gives to its height

risen_within : (u : Tm) → risen u (height u) ≤ 1 + height u
risen_within (bound i) = omega arith
risen_within (free x a) = omega arith
risen_within (fun f) = omega arith
risen_within (meta z ts) = omega arith
risen_within (lam a t) = omega arith
risen_within (app t u) = let plain : (n : ℕ) → n ≤ 1 + n = λ n. omega arith in plain (height (app t u))

mutual
  pub height_made : {s : Scope} {bs : List Binder} {t : RTm} {u : Tm} → Stands s bs t u → height u ≤ raw_height t
  height_made (by_binder e) = omega arith
  height_made (by_meta e f) = omega arith
  height_made (by_fun e f g) = omega arith
  height_made (by_number e) = omega arith
  height_made by_variable = omega arith
  height_made (by_application e no_more) = omega arith
  height_made (by_application e (and_more {t = t} {ts = ts} {u = u} {us = us} t_stands rest)) =
      let here : height u ≤ raw_height t = height_made t_stands in
      let there : heights us ≤ raw_heights ts = heights_made rest in
      let larger : (a b c d : ℕ) → a ≤ c → b ≤ d → 1 + max a b ≤ 1 + max c d = λ a b c d p q. omega arith in
      larger (height u) (heights us) (raw_height t) (raw_heights ts) here there
  height_made (by_lam t) = let under = height_made t in omega arith
  height_made (by_spine {h = h} {ts = ts} {u = u} {v = v} h_stands ts_stand) =
      spine_height {n = raw_height (spine h ts 0)} ts_stand (le_trans (risen_within u) (let here : height u ≤ raw_height h = height_made h_stands in front (height u) (raw_height h) (raw_heights ts) here))
      (let here : height u ≤ raw_height h = height_made h_stands in whole (height u) (raw_height h) (raw_heights ts) here) (behind (raw_height h) (raw_heights ts))
    where
      front : (a b c : ℕ) → a ≤ b → 1 + a ≤ 1 + max b c
      front a b c l = omega arith

      whole : (a b c : ℕ) → a ≤ b → a ≤ 1 + max b c
      whole a b c l = omega arith

      behind : (b c : ℕ) → 1 + c ≤ 1 + max b c
      behind b c = omega arith

  heights_made : {s : Scope} {bs : List Binder} {ts : RTms} {us : Tms} → AllStand s bs ts us → heights us ≤ raw_heights ts
  heights_made no_more = omega arith
  heights_made (and_more {t = t} {ts = ts} {u = u} {us = us} t_stands rest) =
      let here : height u ≤ raw_height t = height_made t_stands in
      let there : heights us ≤ raw_heights ts = heights_made rest in
      let larger : (a b c d : ℕ) → a ≤ c → b ≤ d → max a b ≤ max c d = λ a b c d p q. omega arith in
      larger (height u) (heights us) (raw_height t) (raw_heights ts) here there

  spine_height : {s : Scope} {bs : List Binder} {u v : Tm} {ts : RTms} {n : ℕ} → SpineStands s bs u ts v → risen u (height u) ≤ n → height u ≤ n → 1 + raw_heights ts ≤ n → height v ≤ n
  spine_height {n = n} (at_end e) front whole rest = subst (λ v. height v ≤ n) e whole
  spine_height {n = n} (applied {u = u} {v = v} {w = w} {t = t} {ts = ts} t_stands more_stand) front whole rest =
      let here : height w ≤ raw_height t = height_made t_stands in
      let both : max (risen u (height u)) (1 + height w) ≤ n = least (risen u (height u)) (height w) (raw_height t) (raw_heights ts) here front rest in
      spine_height more_stand both both (later (raw_height t) (raw_heights ts) rest)
    where
      least : (a b c d : ℕ) → b ≤ c → a ≤ n → 1 + max c d ≤ n → max a (1 + b) ≤ n
      least a b c d l m o = omega arith

      later : (c d : ℕ) → 1 + max c d ≤ n → 1 + d ≤ n
      later c d o = omega arith

-- widths

arguments_within : (k : ℕ) (ts : RTms) → k ≤ 32 → Passed (width_of_arguments k ts) → k + count_of ts ≤ 32
arguments_within k none room p = omega arith
arguments_within k (more t ts) room p =
    let other : k ≡ 32 → ⊥ = eqb-false k 32 (passed_first p) in
    let there : (k + 1) + count_of ts ≤ 32 = arguments_within (k + 1) ts (omega arith) (passed_parts (width_of_term t) (width_of_arguments (k + 1) ts) (passed_rest p)).1 in
    omega arith

few_arguments : (t : RTm) → Passed (width_of_term t) → arguments_of t ≤ 32
few_arguments (named n at) p = omega arith
few_arguments (numbered k at) p = omega arith
few_arguments (free_variable k a at) p = omega arith
few_arguments (raw_meta n ts at) p = omega arith
few_arguments (raw_lam x a t at) p = omega arith
few_arguments (spine h ts at) p =
    let parts = passed_parts (width_of_term h) (width_of_arguments (arguments_of h) ts) p in
    arguments_within (arguments_of h) ts (few_arguments h parts.0) parts.1

mutual
  pub width_made : {s : Scope} {bs : List Binder} {t : RTm} {u : Tm} → Stands s bs t u → Passed (width_of_term t) → SpinesWithin 32 u
  width_made (by_binder e) p = tt
  width_made (by_meta e f) p = tt
  width_made (by_fun e f g) p = tt
  width_made (by_number e) p = tt
  width_made by_variable p = tt
  width_made (by_application e ts) p = widths_made ts p
  width_made (by_lam {a = a} {t = t} t_stands) p = width_made t_stands (passed_parts (width_of_type a) (width_of_term t) p).1
  width_made (by_spine {h = h} {ts = ts} h_stands ts_stand) p =
      let parts = passed_parts (width_of_term h) (width_of_arguments (arguments_of h) ts) p in
      spine_width (arguments_of h) ts_stand (count_made h_stands) (few_arguments h parts.0) (width_made h_stands parts.0) parts.1

  pub widths_made : {s : Scope} {bs : List Binder} {ts : RTms} {us : Tms} → AllStand s bs ts us → Passed (widths_of_terms ts) → AllSpinesWithin 32 us
  widths_made no_more p = tt
  widths_made (and_more {t = t} {ts = ts} t_stands rest) p =
      let parts = passed_parts (width_of_term t) (widths_of_terms ts) p in
      (width_made t_stands parts.0, widths_made rest parts.1)

  spine_width : {s : Scope} {bs : List Binder} {u v : Tm} {ts : RTms} (k : ℕ) → SpineStands s bs u ts v → argument_count u ≡ k → k ≤ 32 → SpinesWithin 32 u
      → Passed (width_of_arguments k ts) → SpinesWithin 32 v
  spine_width k (at_end e) counted room within p = subst (SpinesWithin 32) e within
  spine_width k (applied {u = u} {t = t} {ts = ts} t_stands rest) counted room within p =
      let parts = passed_parts (width_of_term t) (width_of_arguments (k + 1) ts) (passed_rest p) in
      let other : k ≢ 32 = eqb-false k 32 (passed_first p) in
      let wide : argument_count u + 1 ≤ 32 = omega arith in
      spine_width (k + 1) rest (ap (λ n. n + 1) counted) (omega arith) (wide, within, width_made t_stands parts.0) parts.1
