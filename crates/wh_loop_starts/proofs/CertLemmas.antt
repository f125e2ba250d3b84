-- The certificate of a loop is within the limits of its format, and says a valid claim.
use Rattle.std.proofs.Common.{◌≡◌, ◌≢◌, ◌⊎◌, inl, inr, ℕ, zero, suc, ◌+◌, ◌^◌, ◌<◌, ◌≤◌, List, [], ◌∷◌, length, map, get_or, Bool, true, false, Option, AllPairs, refl, ap, ap₂, sym, ◌∙◌, subst, arith, ⊎_elim}
use Rattle.std.specs.Prelude.{All, if◌then◌else◌, ◌==◌, ◌&&◌}
use Rattle.std.proofs.lemmas.List.{length-map}
use Rattle.std.proofs.lemmas.List.Elements.{All-nil, All-cons, All-head, All-tail, All-map}
use Rattle.std.proofs.lemmas.Option.{slice_get_within}
use Rattle.wh_types.specs.Ty.{Ty, same_ty, SortsBelow}
use Rattle.wh_terms.specs.Tree.{Tm, bound, free, fun, meta, lam, app, Tms, none, more}
use Rattle.wh_terms.specs.Measures.{size, sizes, Fits}
use Rattle.wh_terms.specs.Sight.{IsTerm, Lacks}
use Rattle.wh_terms.specs.Substitution.{act, acts, up, up_free, rename}
use Rattle.wh_terms.specs.Places.{IsPath}
use Rattle.wh_terms.specs.Typing.{Typed}
use Rattle.wh_terms.specs.Rules.{RewriteRule}
use Rattle.wh_terms.specs.declared.path.Step as taken
use Rattle.wh_terms.proofs.FreshLaws.{Above, AllAbove}
use Rattle.wh_terms.proofs.TypeTests.{variable-same, variable-equal, variable-other}
use Rattle.wh_terms.proofs.TypingLaws.{typed_term}
use Rattle.wh_step.specs.Replay.{StepAt, beta_here, rule_here, at_function, at_argument, at_body, Replays}
use Rattle.wh_step.proofs.Places.{replay-reduction}
use Rattle.wh_system.specs.Systems.{SystemData}
use Rattle.wh_system.specs.WellMade.{IsWellMadeSystem}
use Rattle.wh_system.specs.Canonical.{raw_of}
use Rattle.wh_system.specs.CanonicalView.{names_of_system}
use Rattle.wh_system_making.proofs.CanonicalBack.{typed_named, system_names, canonical_means}
use Rattle.wh_system_making.proofs.CanonicalNames.{type_back}
use Rattle.wh_cert.specs.TermLimits.{TermFits}
use Rattle.wh_cert.specs.Written.{no}
use Rattle.wh_cert.specs.Limits.{RuleFits, StepFits, PutFits, PathsWithin}
use Rattle.wh_no.specs.Claim.{Put, Claim, put_for}
use Rattle.wh_no.specs.Unused.{first_unused}
use Rattle.wh_no.specs.Valid.{IsPutOver, IsBelow, HoldsInstance}
use Rattle.wh_no.specs.Meaning.{SaysPut, SayPuts}
use Rattle.wh_no.proofs.UnusedNumbers.{unused-above}
use Rattle.wh_no.proofs.Loops.{reduction-walk, walk-above}
use Rattle.wh_loop_starts.specs.Starts.{IsSomeStart}
use Rattle.wh_loop_starts.specs.Found.{IsPutFor, IsLoopCertificate}
use Rattle.wh_loop_starts.specs.Lines.{line_of}
use Rattle.wh_loop_starts.specs.Meets.{Holds, IsReady}
use Rattle.wh_loop_starts.proofs.StartLemmas.{start_ready}
use Rattle.wh_loop_starts.proofs.FillLemmas.{fill, put_shut, holds_kind}
use Rattle.wh_loop_starts.proofs.TypesKept.{TypesHave, walk_types}
use Rattle.wh_loop_starts.proofs.SmallTypes.{IsSmallType, start_types, right_types}
use Rattle.wh_loop_starts.proofs.PlaceLemmas.{part_path}
use Rattle.wh_no.proofs.Reaching.{size-opened, variables-up, AreVariables, size_variable}
use Rattle.wh_loop_starts.proofs.PartLimits.{NumbersBelow, AllNumbersBelow, IsWithin, opened_part_within, value_within}
use Rattle.wh_loop_starts.proofs.CertRaw.{AreNamed, small_type_fits, term_fits}

-- lines say what they are made from

says_line : (d : SystemData) → IsWellMadeSystem d → (p : Put) → IsPutOver d.symbols p → SaysPut d (line_of d p) p
says_line d made p over = record {
  number = refl;
  kind = type_back d.sort_names p.kind made.sort_names_distinct (subst (λ k. SortsBelow k p.kind) (sym made.sorts_named) over.sorts_are_there);
  value = canonical_means d made p.value (p.kind, over.typed);
}

say_lines : (d : SystemData) → IsWellMadeSystem d → (puts : List Put) → All (IsPutOver d.symbols) puts → SayPuts d (map (line_of d) puts) puts
say_lines d made [] over = tt
say_lines d made (p ∷ puts) over = (says_line d made p (All-head (IsPutOver d.symbols) p puts over), say_lines d made puts (All-tail (IsPutOver d.symbols) p puts over))

-- steps fit

mutual
  unfolding act acts up_free rename

  size-act : (σ : ℕ → Tm) (t : Tm) → AreVariables σ → size (act σ free t) ≡ size t
  size-act σ (bound i) h = size_variable (σ i) (h i)
  size-act σ (free x a) h = refl
  size-act σ (fun f) h = refl
  size-act σ (meta z ts) h = ap (λ n. 1 + n) (sizes-acts σ ts h)
  size-act σ (lam a t) h = ap (λ n. 1 + n) (size-act (up σ) t (variables-up σ h))
  size-act σ (app t u) h = ap₂ (λ n m. 1 + n + m) (size-act σ t h) (size-act σ u h)

  sizes-acts : (σ : ℕ → Tm) (ts : Tms) → AreVariables σ → sizes (acts σ free ts) ≡ sizes ts
  sizes-acts σ none h = refl
  sizes-acts σ (more t ts) h = ap₂ (λ n m. n + m) (size-act σ t h) (sizes-acts σ ts h)

step_rule : {rules : List RewriteRule} {k : Option ℕ} {path : List ℕ} {t u : Tm} → length rules ≤ 1024 → StepAt rules k path t u → RuleFits k
step_rule few (beta_here e) = tt
step_rule {rules = rules} few (rule_here {k = k} r g at w l m) = let within : k < length rules = slice_get_within rules k r at in omega arith
step_rule few (at_function s) = step_rule few s
step_rule few (at_argument s) = step_rule few s
step_rule few (at_body x f g s) = step_rule few s

step_path : {rules : List RewriteRule} {k : Option ℕ} {path : List ℕ} {t u : Tm} → StepAt rules k path t u → IsPath path × (length path ≤ size t)
step_path (beta_here e) = (All-nil (λ d. d < 2), omega arith)
step_path (rule_here r g at w l m) = (All-nil (λ d. d < 2), omega arith)
step_path (at_function {path = path} s) = let (p, n) = step_path s in (All-cons (λ d. d < 2) 0 path (omega arith) p, omega arith)
step_path (at_argument {path = path} s) = let (p, n) = step_path s in (All-cons (λ d. d < 2) 1 path (omega arith) p, omega arith)
step_path (at_body {path = path} {a = a} {t = t} x f g s) =
    let (p, n) = step_path s in (All-cons (λ d. d < 2) 0 path (omega arith) p, omega (arith, size-opened x a t))

steps_fit : (rules : List RewriteRule) → length rules ≤ 1024 → (steps : List taken.Step) (t u : Tm) → Fits t → Replays rules steps t u → All StepFits steps × PathsWithin (2 ^ 32) steps
steps_fit rules few [] t u fits e = (All-nil StepFits, All-nil (λ s. length s.path ≤ 2 ^ 32))
steps_fit rules few (s ∷ steps) t u fits (v, at, small, rest) =
    let (path, short) = step_path at in
    let (here, within) = steps_fit rules few steps v u small rest in
    (All-cons StepFits s steps (record { rule = step_rule few at; path = path }) here, All-cons (λ s. length s.path ≤ 2 ^ 32) s steps (omega (arith, fits.small)) within)

last_fits : (rules : List RewriteRule) (steps : List taken.Step) (t u : Tm) → Fits t → Replays rules steps t u → Fits u
last_fits rules [] t u fits e = subst Fits e fits
last_fits rules (s ∷ steps) t u fits (v, at, small, rest) = last_fits rules steps v u small rest

-- numbers of variables

mutual
  above_numbers : (n : ℕ) (t : Tm) → Above n t → NumbersBelow n t
  above_numbers n (bound i) h = tt
  above_numbers n (free x a) h = below x (λ y l. h y l)
    where
      below : (y : ℕ) → ((z : ℕ) → n ≤ z → y ≢ z) → y < n
      below y k = let apart : n ≤ y → ⊥ = λ l. k y l refl in omega (arith, apart)
  above_numbers n (fun f) h = tt
  above_numbers n (meta z ts) h = all_above_numbers n ts h
  above_numbers n (lam a t) h = above_numbers n t h
  above_numbers n (app t u) h = (above_numbers n t (λ y l. (h y l).0), above_numbers n u (λ y l. (h y l).1))

  all_above_numbers : (n : ℕ) (ts : Tms) → AllAbove n ts → AllNumbersBelow n ts
  all_above_numbers n none h = tt
  all_above_numbers n (more t ts) h = (above_numbers n t (λ y l. (h y l).0), all_above_numbers n ts (λ y l. (h y l).1))

-- the variables of a tree

holds_unless : (x : ℕ) (a : Ty) (t : Tm) → IsTerm t → Holds x a t ⊎ Lacks x a t
holds_unless x a (free y b) p = go ((y == x) && same_ty b a) refl
  where
    go : (c : Bool) → ((y == x) && same_ty b a) ≡ c → Holds x a (free y b) ⊎ Lacks x a (free y b)
    go true e = inl (variable-equal x a y b e)
    go false e = inr (λ n k. let other = variable-same x a y b n k in absurd (cc))
holds_unless x a (lam b t) p = holds_unless x a t p
holds_unless x a (app t u) p =
    ⊎_elim (λ l. inl (inl l)) (λ no_left. ⊎_elim (λ r. inl (inr r)) (λ no_right. inr (no_left, no_right)) (holds_unless x a u p.1)) (holds_unless x a t p.0)
holds_unless x a (bound i) p = inr tt
holds_unless x a (fun f) p = inr tt
holds_unless x a (meta z ts) p = absurd p

put_holds : (t : Tm) (p : Put) → IsTerm t → IsPutFor t p → Holds p.number p.kind t
put_holds t p term h = ⊎_elim (λ k. k) (λ l. absurd (h l)) (holds_unless p.number p.kind t term)

holds_number : (n x : ℕ) (a : Ty) (t : Tm) → NumbersBelow n t → Holds x a t → x < n
holds_number n x a (free y b) h k = subst (λ z. z < n) k.0 h
holds_number n x a (lam b t) h k = holds_number n x a t h k
holds_number n x a (app t u) h k = ⊎_elim (holds_number n x a t h.0) (holds_number n x a u h.1) k
holds_number n x a (bound i) h k = absurd k
holds_number n x a (fun f) h k = absurd k
holds_number n x a (meta z ts) h k = absurd k

holds_type : (P : Ty → Type 0) (x : ℕ) (a : Ty) (t : Tm) → TypesHave P t → Holds x a t → P a
holds_type P x a (free y b) h k = subst P k.1 h
holds_type P x a (lam b t) h k = holds_type P x a t h.1 k
holds_type P x a (app t u) h k = ⊎_elim (holds_type P x a t h.0) (holds_type P x a u h.1) k
holds_type P x a (bound i) h k = absurd k
holds_type P x a (fun f) h k = absurd k
holds_type P x a (meta z ts) h k = absurd k

-- puts with increasing numbers

tail_rising : (q : Put) (puts : List Put) → AllPairs IsBelow (q ∷ puts) → AllPairs IsBelow puts
tail_rising q puts rising i j d l m = rising (suc i) (suc j) d (omega arith) (omega arith)

head_below : (q : Put) (puts : List Put) → AllPairs IsBelow (q ∷ puts) → All (λ p. q.number < p.number) puts
head_below q puts rising k d l = rising 0 (suc k) d (omega arith) (omega arith)

put_here : (puts : List Put) → AllPairs IsBelow puts → All (λ p. put_for puts p.number p.kind ≡ p.value) puts
put_here [] rising k d l = absurd (omega arith)
put_here (q ∷ puts) rising zero d l = ap (λ t. if t then q.value else put_for puts q.number q.kind) (variable-same q.number q.kind q.number q.kind refl refl)
put_here (q ∷ puts) rising (suc k) d l =
    let p = get_or puts k d in
    let below : q.number < p.number = rising 0 (suc k) d (omega arith) (omega arith) in
    ap (λ t. if t then q.value else put_for puts p.number p.kind) (variable-other p.number p.kind q.number q.kind (λ e f. omega arith)) ∙ put_here puts (tail_rising q puts rising) k d (omega arith)

few_puts : (puts : List Put) (m n : ℕ) → m ≤ n → AllPairs IsBelow puts → All (λ p. p.number < n) puts → All (λ p. m ≤ p.number) puts → length puts + m ≤ n
few_puts [] m n l rising h k = omega arith
few_puts (q ∷ puts) m n l rising h k =
    let low : q.number < n = All-head (λ p. p.number < n) q puts h in
    let high : m ≤ q.number = All-head (λ p. m ≤ p.number) q puts k in
    let rest = few_puts puts (q.number + 1) n (omega arith) (tail_rising q puts rising) (All-tail (λ p. p.number < n) q puts h) (λ i d b. let less = head_below q puts rising i d b in omega arith) in
    omega arith

-- the limits of the first and of the last term

start_within : (d : SystemData) → IsWellMadeSystem d → (s : Tm) → IsSomeStart d.rules s → Fits s → first_unused s ≤ 32 → (m : ℕ) → 32 ≤ m → IsWithin m 200 s
start_within d made s (n, (r, at, is)) fits few m high = record {
  low = fits.low;
  narrow = fits.narrow;
  numbered = above_numbers m s (λ y l. unused-above s y (omega arith));
  small = subst (TypesHave IsSmallType) (sym is) (start_types d n r made at);
}

last_within : (d : SystemData) → IsWellMadeSystem d → (steps : List taken.Step) (s u : Tm) → Fits s → TypesHave IsSmallType s → first_unused s ≤ 32 → Replays d.rules steps s u → IsWithin 232 200 u
last_within d made steps s u fits small few replays =
    let (l, r, counted, ends) = replay-reduction steps s u replays in
    let walk = reduction-walk d.symbols made.rules s l r in
    let last = last_fits d.rules steps s u fits replays in
    let above = walk-above d.symbols made.rules 232 s l walk (λ y h. unused-above s y (omega arith)) in record {
      low = last.low;
      narrow = last.narrow;
      numbered = above_numbers 232 u (subst (Above 232) ends above);
      small = subst (TypesHave IsSmallType) ends (walk_types d.symbols made.rules (right_types d made) s l walk small);
    }

-- what is put is within limits

put_within : (d : SystemData) (s u : Tm) (r : IsReady d.symbols s) (puts : List Put) (at : List ℕ) → All (IsPutOver d.symbols) puts → AllPairs IsBelow puts → HoldsInstance s puts at u → IsWithin 232 200 u
    → (p : Put) → put_for puts p.number p.kind ≡ p.value → Holds p.number p.kind s → IsWithin 232 200 p.value
put_within d s u r puts at over rising holds w p here o =
    let term = typed_term s r.typed.1 in
    let φ : ℕ → Tm = λ x. put_for puts x (r.kinds x) in
    let part = opened_part_within 232 200 (first_unused s) at u (act bound (put_for puts) s) holds (omega (arith, r.low)) w in
    let filling = fill r.kinds (put_for puts) s r.has_kinds term (put_shut d.symbols puts over) in
    let value = value_within 232 200 p.number p.kind φ s o (subst (IsWithin 232 200) filling part) in
    let kind = holds_kind r.kinds p.number p.kind s r.has_kinds o in
    subst (IsWithin 232 200) (ap (put_for puts p.number) (sym kind) ∙ here) value

system_named : (d : SystemData) → IsWellMadeSystem d → AreNamed (names_of_system d)
system_named d made = record { sorts = made.sort_names_spelled; funs = made.fun_names_spelled }

term_here : (d : SystemData) → IsWellMadeSystem d → (t : Tm) (a : Ty) → Typed d.symbols [] [] t a → IsWithin 232 200 t → TermFits 0 (raw_of (names_of_system d) t)
term_here d made t a typed w = term_fits (names_of_system d) (system_named d made) 232 t (omega arith) (typed_named (names_of_system d) (system_names d made) typed) (typed_term t typed) w

put_fits : (d : SystemData) → IsWellMadeSystem d → (s : Tm) → IsWithin 32 200 s → (p : Put) → IsPutOver d.symbols p → Holds p.number p.kind s → IsWithin 232 200 p.value → PutFits (line_of d p)
put_fits d made s w p over o value = record {
  number = omega (arith, holds_number 32 p.number p.kind s w.numbered o);
  kind = small_type_fits d.sort_names made.sort_names_spelled p.kind (subst (λ k. SortsBelow k p.kind) (sym made.sorts_named) over.sorts_are_there) (holds_type IsSmallType p.number p.kind s w.small o);
  term = term_here d made p.value p.kind over.typed value;
}

-- the certificate
pub loop_certificate : (d : SystemData) → IsWellMadeSystem d → (s last : Tm) (steps : List taken.Step) (at : List ℕ) (puts : List Put) → IsSomeStart d.rules s → Fits s → 0 < length steps → Replays d.rules steps s last
    → All (IsPutOver d.symbols) puts → AllPairs IsBelow puts → All (IsPutFor s) puts → HoldsInstance s puts at last
    → (depth : ℕ) → length steps ≤ depth → depth < 2 ^ 32 → IsLoopCertificate d depth (no (raw_of (names_of_system d) s) steps at (map (line_of d) puts))
loop_certificate d made s last steps at puts start fits some replays over rising for_variables holds depth few shallow = record {
  fits = record {
    parts = (term_here d made s r.typed.0 r.typed.1 start_low, fitting.0, places.0, All-map PutFits (line_of d) puts each_fits);
    counts = (omega arith, fitting.1, omega (arith, places.1, last_small.small), omega (arith, length-map puts (line_of d), count));
  };
  claim = claim;
  says = record { term = canonical_means d made s r.typed; steps = refl; at = refl; puts = say_lines d made puts over };
  valid = record { typed = r.typed; fits = fits; some_step = some; last = last; replays = replays; puts = over; increasing = rising; instance = holds };
  searched = record { start = start; few = few; for_variables = for_variables };
}
  where
    r : IsReady d.symbols s
    r = start_ready d s made start

    claim : Claim
    claim = record { term = s; steps = steps; at = at; puts = puts }

    here : IsWithin 32 200 s
    here = start_within d made s start fits r.low 32 (omega arith)

    start_low : IsWithin 232 200 s
    start_low = start_within d made s start fits r.low 232 (omega arith)

    last_small : Fits last
    last_small = last_fits d.rules steps s last fits replays

    fitting : All StepFits steps × PathsWithin (2 ^ 32) steps
    fitting = steps_fit d.rules made.rules_within steps s last fits replays

    places : IsPath at × (length at ≤ size last)
    places = part_path s last puts at holds

    there : IsWithin 232 200 last
    there = last_within d made steps s last fits here.small r.low replays

    each_holds : All (λ p. Holds p.number p.kind s) puts
    each_holds k e l = put_holds s (get_or puts k e) (typed_term s r.typed.1) (for_variables k e l)

    each_fits : All (λ p. PutFits (line_of d p)) puts
    each_fits k e l =
        let p = get_or puts k e in
        put_fits d made s here p (over k e l) (each_holds k e l) (put_within d s last r puts at over rising holds there p (put_here puts rising k e l) (each_holds k e l))

    count : length puts + 0 ≤ 32
    count = few_puts puts 0 32 (omega arith) rising (λ k e l. holds_number 32 (get_or puts k e).number (get_or puts k e).kind s here.numbered (each_holds k e l)) (λ k e l. omega arith)
