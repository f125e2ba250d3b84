-- Matching, part by part: what each case of the search for a match says.
use Rattle.std.proofs.Common.{◌≡◌, ◌≢◌, ℕ, zero, suc, ◌+◌, ◌⊎◌, inl, inr, List, [], ◌∷◌, ◌++◌, get_or, Bool, true, false, subst, refl, ap, ap₂, sym, ◌∙◌, arith, add-zero, eq-eqb, eqb-true}
use Rattle.std.specs.Prelude.{if◌then◌else◌, ◌==◌, ◌↔◌, IsTrue, Contains}
use Rattle.std.proofs.lemmas.List.Elements.{All-push, Contains-append_left, Contains-push, Contains-push_cases, Contains-get_or}
use Rattle.std.proofs.lemmas.List.Quantifiers.{all_pairs_push}
use Rattle.wh_types.specs.Ty.{Ty}
use Rattle.wh_terms.specs.Tree.{Tm, bound, free, fun, meta, lam, app, Tms, none, more, count}
use Rattle.wh_terms.specs.Erase.{tm}
use Rattle.wh_terms.specs.Substitution.{act}
use Rattle.wh_terms.specs.Sight.{LooseBelow, IsTerm, Occurs, OccursIn}
use Rattle.wh_terms.specs.Pattern.{AllBoundBelow, Distinct, IsPattern}
use Rattle.wh_terms.specs.Value.{Body, parameters}
use Rattle.wh_terms.specs.Entries.{bodies, Lists, Covers, CoversAll}
use Rattle.wh_terms.specs.Under.{moved}
use Rattle.wh_terms.specs.Valued.{valued, all_valued, HasArities}
use Rattle.wh_match.specs.Matching.{AreForOthers, IsInRange, IsMatch, HasNoMatch}
use Rattle.wh_match.specs.MatchSearch.{placed, HasValue, Agrees, IsLeastMatch, Answers}
use Rattle.wh_terms.specs.declared.subst.MetaBody.{MetaBody}
use Rattle.wh_terms.proofs.ValueForm.{value}
use Rattle.wh_terms.proofs.ValueSight.{pattern_loose, pattern_term}
use Rattle.wh_terms.proofs.ValuedLaws.{value_of_valued, valued_of_value, arities_of_value, fits-arities, valued_is, covered_arities}
use Rattle.wh_match.proofs.SeatLemmas.{placed-act, placed_one}
use Rattle.wh_match.proofs.RangeLemmas.{placed_in_range}

-- only the listed bodies matter

mutual
  pub valued_agree : (k : ℕ) (s : List MetaBody) (g : ℕ → Body) (p : Tm) → Covers s p → Agrees s g → valued k g p ≡ valued k (bodies s) p
  valued_agree k s g (bound i) covers agrees = refl
  valued_agree k s g (free x a) covers agrees = refl
  valued_agree k s g (fun f) covers agrees = refl
  valued_agree k s g (meta z ts) covers agrees =
      ap₂ (λ us b. act (parameters us (moved k)) free b) (all_valued_agree k s g ts covers.2 agrees) (ap (λ b. b.tree) (agrees z covers.0))
  valued_agree k s g (lam a t) covers agrees = ap (lam a) (valued_agree (k + 1) s g t covers agrees)
  valued_agree k s g (app t u) covers agrees = ap₂ app (valued_agree k s g t covers.0 agrees) (valued_agree k s g u covers.1 agrees)

  all_valued_agree : (k : ℕ) (s : List MetaBody) (g : ℕ → Body) (ts : Tms) → CoversAll s ts → Agrees s g → all_valued k g ts ≡ all_valued k (bodies s) ts
  all_valued_agree k s g none covers agrees = refl
  all_valued_agree k s g (more t ts) covers agrees = ap₂ more (valued_agree k s g t covers.0 agrees) (all_valued_agree k s g ts covers.1 agrees)

mutual
  pub covers_grown : (old new : List MetaBody) (p : Tm) → Agrees old (bodies new) → ((z : ℕ) → Lists old z → Lists new z) → Covers old p → Covers new p
  covers_grown old new (bound i) kept grown covers = tt
  covers_grown old new (free x a) kept grown covers = tt
  covers_grown old new (fun f) kept grown covers = tt
  covers_grown old new (meta z ts) kept grown covers =
      (grown z covers.0, ap (λ b. b.arity) (kept z covers.0) ∙ covers.1, all_covers_grown old new ts kept grown covers.2)
  covers_grown old new (lam a t) kept grown covers = covers_grown old new t kept grown covers
  covers_grown old new (app t u) kept grown covers = (covers_grown old new t kept grown covers.0, covers_grown old new u kept grown covers.1)

  all_covers_grown : (old new : List MetaBody) (ts : Tms) → Agrees old (bodies new) → ((z : ℕ) → Lists old z → Lists new z) → CoversAll old ts → CoversAll new ts
  all_covers_grown old new none kept grown covers = tt
  all_covers_grown old new (more t ts) kept grown covers = (covers_grown old new t kept grown covers.0, all_covers_grown old new ts kept grown covers.1)

mutual
  pub covers_listed : (s : List MetaBody) (p : Tm) (z : ℕ) → Covers s p → Occurs z p → Lists s z
  covers_listed s (bound i) z covers occurs = absurd occurs
  covers_listed s (free x a) z covers occurs = absurd occurs
  covers_listed s (fun f) z covers occurs = absurd occurs
  covers_listed s (meta y ts) z covers (inl same) = subst (Lists s) same covers.0
  covers_listed s (meta y ts) z covers (inr occurs) = all_covers_listed s ts z covers.2 occurs
  covers_listed s (lam a t) z covers occurs = covers_listed s t z covers occurs
  covers_listed s (app t u) z covers (inl occurs) = covers_listed s t z covers.0 occurs
  covers_listed s (app t u) z covers (inr occurs) = covers_listed s u z covers.1 occurs

  all_covers_listed : (s : List MetaBody) (ts : Tms) (z : ℕ) → CoversAll s ts → OccursIn z ts → Lists s z
  all_covers_listed s none z covers occurs = absurd occurs
  all_covers_listed s (more t ts) z covers (inl occurs) = covers_listed s t z covers.0 occurs
  all_covers_listed s (more t ts) z covers (inr occurs) = all_covers_listed s ts z covers.1 occurs

-- a symbol or variable

abbrev pub IsPlain : Tm → Type 0
IsPlain (bound i) = Unit {0}
IsPlain (free x a) = Unit {0}
IsPlain (fun f) = Unit {0}
IsPlain _ = ⊥

plain_valued : (k : ℕ) (g : ℕ → Body) (p : Tm) → IsPlain p → valued k g p ≡ p
plain_valued k g (bound i) plain = refl
plain_valued k g (free x a) plain = refl
plain_valued k g (fun f) plain = refl
plain_valued k g (meta z ts) plain = absurd plain
plain_valued k g (lam a t) plain = absurd plain
plain_valued k g (app t u) plain = absurd plain

plain_covered : (s : List MetaBody) (p : Tm) → IsPlain p → Covers s p
plain_covered s (bound i) plain = tt
plain_covered s (free x a) plain = tt
plain_covered s (fun f) plain = tt
plain_covered s (meta z ts) plain = absurd plain
plain_covered s (lam a t) plain = absurd plain
plain_covered s (app t u) plain = absurd plain

pub plain_match : (k : ℕ) (p t : Tm) (s : List MetaBody) → IsPlain p → p ≡ t → IsLeastMatch k p t s s
plain_match k p t s plain same = record {
  value = sym same ∙ sym (plain_valued k (bodies s) p plain);
  covers = plain_covered s p plain;
  kept = λ z listed. refl;
  grown = λ z listed. listed;
  added = λ z listed. inl listed;
  once = λ apart. apart;
  in_range = λ old room below. old;
  least = λ g agrees value. agrees;
}

pub plain_answer : (k : ℕ) (p t : Tm) (s : List MetaBody) (r : Bool) → IsPlain p → IsTrue r ↔ (p ≡ t) → Answers k p t s s r
plain_answer k p t s true plain same = plain_match k p t s plain (same.0 refl)
plain_answer k p t s false plain same = λ g agrees value. let yes : false ≡ true = same.1 (sym (value.1 ∙ plain_valued k g p plain)) in absurd (cc)

pub bound_answer : (k i j : ℕ) (s : List MetaBody) → Answers k (bound i) (bound j) s s (i == j)
bound_answer k i j s = plain_answer k (bound i) (bound j) s (i == j) tt (λ yes. ap bound (eqb-true i j yes), λ same. eq-eqb i j (cc same))

pub fun_answer : (k f g : ℕ) (s : List MetaBody) → Answers k (fun f) (fun g) s s (f == g)
fun_answer k f g s = plain_answer k (fun f) (fun g) s (f == g) tt (λ yes. ap fun (eqb-true f g yes), λ same. eq-eqb f g (cc same))

-- an abstraction

pub lam_answer : (k deeper : ℕ) (a : Ty) (p t : Tm) (old new : List MetaBody) (r : Bool) → deeper ≡ k + 1 → Answers deeper p t old new r
    → Answers k (lam a p) (lam a t) old new r
lam_answer k deeper a p t old new true one found =
    let found' = rw one at found in record {
      value = ap (lam a) found'.value;
      covers = found'.covers;
      kept = found'.kept;
      grown = found'.grown;
      added = found'.added;
      once = found'.once;
      in_range = λ old room below. found'.in_range old (omega arith) below;
      least = λ g agrees value. found'.least g agrees (value.0, cc (value.1));
    }
lam_answer k deeper a p t old new false one none_here =
    let none_here' = rw one at none_here in λ g agrees value. none_here' g agrees (value.0, cc (value.1))

-- an application

pub app_match : (k : ℕ) (p q t u : Tm) (old middle new : List MetaBody) → IsLeastMatch k p t old middle → IsLeastMatch k q u middle new
    → IsLeastMatch k (app p q) (app t u) old new
app_match k p q t u old middle new first second = record {
  value = ap₂ app (first.value ∙ sym (valued_agree k middle (bodies new) p first.covers second.kept)) second.value;
  covers = (covers_grown middle new p second.kept second.grown first.covers, second.covers);
  kept = λ z listed. second.kept z (first.grown z listed) ∙ first.kept z listed;
  grown = λ z listed. second.grown z (first.grown z listed);
  added = λ z listed. joined z (second.added z listed);
  once = λ apart. second.once (first.once apart);
  in_range = λ ranges room below. second.in_range (first.in_range ranges (omega arith) below.0) (omega arith) below.1;
  least = λ g agrees value. second.least g (first.least g agrees (value.0.0, cc (value.1))) (value.0.1, cc (value.1));
}
  where
    earlier : (z : ℕ) → Lists old z ⊎ Occurs z p → Lists old z ⊎ (Occurs z p ⊎ Occurs z q)
    earlier z (inl listed) = inl listed
    earlier z (inr occurs) = inr (inl occurs)

    joined : (z : ℕ) → Lists middle z ⊎ Occurs z q → Lists old z ⊎ (Occurs z p ⊎ Occurs z q)
    joined z (inl listed) = earlier z (first.added z listed)
    joined z (inr occurs) = inr (inr occurs)

pub app_answer : (k : ℕ) (p q t u : Tm) (old middle new : List MetaBody) (r : Bool) → IsLeastMatch k p t old middle → Answers k q u middle new r
    → Answers k (app p q) (app t u) old new r
app_answer k p q t u old middle new true first second = app_match k p q t u old middle new first second
app_answer k p q t u old middle new false first none_here =
    λ g agrees value. none_here g (first.least g agrees (value.0.0, cc (value.1))) (value.0.1, cc (value.1))

pub app_none : (k : ℕ) (p q t u : Tm) (old middle new : List MetaBody) → Answers k p t old middle false → Answers k (app p q) (app t u) old new false
app_none k p q t u old middle new none_here = λ g agrees value. none_here g agrees (value.0.0, cc (value.1))

-- a meta-variable with bound variables as its arguments

bound_valued : (k m : ℕ) (g : ℕ → Body) (ts : Tms) → AllBoundBelow k ts → all_valued m g ts ≡ ts
bound_valued k m g none all = refl
bound_valued k m g (more (bound i) ts) all = ap (more (bound i)) (bound_valued k m g ts all.1)
bound_valued k m g (more (free x a) ts) all = absurd all
bound_valued k m g (more (fun f) ts) all = absurd all
bound_valued k m g (more (meta z us) ts) all = absurd all
bound_valued k m g (more (lam a t) ts) all = absurd all
bound_valued k m g (more (app t u) ts) all = absurd all

bound_covered : (k : ℕ) (s : List MetaBody) (ts : Tms) → AllBoundBelow k ts → CoversAll s ts
bound_covered k s none all = tt
bound_covered k s (more (bound i) ts) all = (tt, bound_covered k s ts all.1)
bound_covered k s (more (free x a) ts) all = absurd all
bound_covered k s (more (fun f) ts) all = absurd all
bound_covered k s (more (meta z us) ts) all = absurd all
bound_covered k s (more (lam a t) ts) all = absurd all
bound_covered k s (more (app t u) ts) all = absurd all

-- the value of such a meta-application is the body, placed
meta_valued : (k z : ℕ) (g : ℕ → Body) (ts : Tms) → AllBoundBelow k ts → valued k g (meta z ts) ≡ placed ts k 0 (g z).tree
meta_valued k z g ts all = ap (λ us. act (parameters us (moved k)) free (g z).tree) (bound_valued k k g ts all) ∙ sym (placed-act k ts (g z).tree all)

pub known_match : (k z : ℕ) (ts : Tms) (t b : Tm) (n : ℕ) (s : List MetaBody) → AllBoundBelow k ts → Lists s z
    → bodies s z ≡ record { arity = n; tree = b } → n ≡ count ts → placed ts k 0 b ≡ t → IsLeastMatch k (meta z ts) t s s
known_match k z ts t b n s all listed known counted same = record {
  value = sym same ∙ ap (placed ts k 0) (ap (λ c. c.tree) (sym known)) ∙ sym (meta_valued k z (bodies s) ts all);
  covers = (listed, ap (λ c. c.arity) known ∙ counted, bound_covered k s ts all);
  kept = λ y l. refl;
  grown = λ y l. l;
  added = λ y l. inl l;
  once = λ apart. apart;
  in_range = λ old room below. old;
  least = λ g agrees value. agrees;
}

pub known_answer : (k z : ℕ) (ts : Tms) (t b : Tm) (n : ℕ) (s : List MetaBody) (r : Bool) → AllBoundBelow k ts → Lists s z
    → bodies s z ≡ record { arity = n; tree = b } → n ≡ count ts → IsTrue r ↔ (placed ts k 0 b ≡ t) → Answers k (meta z ts) t s s r
known_answer k z ts t b n s true all listed known counted same = known_match k z ts t b n s all listed known counted (same.0 refl)
known_answer k z ts t b n s false all listed known counted same =
    λ g agrees value.
    let tree : b ≡ (g z).tree = sym (ap (λ c. c.tree) (agrees z listed ∙ known)) in
    let yes : false ≡ true = same.1 (ap (placed ts k 0) tree ∙ sym (value.1 ∙ meta_valued k z g ts all)) in
    absurd (cc)

pub other_arity : (k z : ℕ) (ts : Tms) (t b : Tm) (n : ℕ) (s new : List MetaBody) → Lists s z
    → bodies s z ≡ record { arity = n; tree = b } → n ≢ count ts → Answers k (meta z ts) t s new false
other_arity k z ts t b n s new listed known other =
    λ g agrees value. other (sym (ap (λ c. c.arity) (agrees z listed ∙ known)) ∙ value.0.0)

pub no_body : (k z : ℕ) (ts : Tms) (t : Tm) (s new : List MetaBody) → AllBoundBelow k ts → ((b : Tm) → placed ts k 0 b ≢ t) → Answers k (meta z ts) t s new false
no_body k z ts t s new all none_here = λ g agrees value. none_here (g z).tree (sym (value.1 ∙ meta_valued k z g ts all))

-- a new entry

lists_cases : (b : MetaBody) (s : List MetaBody) (y : ℕ) → Lists (b ∷ s) y → (b.meta ≡ y) ⊎ Lists s y
lists_cases b s y (c, (zero, within, at), same) = inl (ap (λ d. d.meta) at ∙ same)
lists_cases b s y (c, (suc i, within, at), same) = inr (c, (i, omega arith, at), same)

lists_none : (y : ℕ) → Lists [] y → ⊥
lists_none y (c, (i, within, at), same) = omega arith

pub lists_head : (b : MetaBody) (s : List MetaBody) (y : ℕ) → b.meta ≡ y → Lists (b ∷ s) y
lists_head b s y same = (b, (0, omega arith, refl), same)

lists_tail : (b : MetaBody) (s : List MetaBody) (y : ℕ) → Lists s y → Lists (b ∷ s) y
lists_tail b s y (c, (i, within, at), same) = (c, (suc i, omega arith, at), same)

pub lists_old : (s : List MetaBody) (e : MetaBody) (y : ℕ) → Lists s y → Lists (s ++ e ∷ []) y
lists_old s e y (c, contains, same) = (c, Contains-append_left s (e ∷ []) c contains, same)

pub lists_new : (s : List MetaBody) (e : MetaBody) (y : ℕ) → e.meta ≡ y → Lists (s ++ e ∷ []) y
lists_new s e y same = (e, Contains-push s e, same)

pub lists_push_cases : (s : List MetaBody) (e : MetaBody) (y : ℕ) → Lists (s ++ e ∷ []) y → Lists s y ⊎ (e.meta ≡ y)
lists_push_cases s e y (c, contains, same) = go (Contains-push_cases s e c contains)
  where
    go : Contains s c ⊎ (e ≡ c) → Lists s y ⊎ (e.meta ≡ y)
    go (inl there) = inl (c, there, same)
    go (inr is) = inr (ap (λ d. d.meta) is ∙ same)

bodies_old : (s : List MetaBody) (e : MetaBody) (y : ℕ) → Lists s y → bodies (s ++ e ∷ []) y ≡ bodies s y
bodies_old [] e y listed = absurd (lists_none y listed)
bodies_old (b ∷ s) e y listed = go (b.meta == y) refl (lists_cases b s y listed) (λ there. bodies_old s e y there)
  where
    go : (r : Bool) → (b.meta == y) ≡ r → (b.meta ≡ y) ⊎ Lists s y → (Lists s y → bodies (s ++ e ∷ []) y ≡ bodies s y)
        → (if r then record { arity = b.arity; tree = tm b.body } else bodies (s ++ e ∷ []) y) ≡ (if r then record { arity = b.arity; tree = tm b.body } else bodies s y)
    go true at cases rest = refl
    go false at (inl same) rest = absurd (let yes = eq-eqb b.meta y same in cc)
    go false at (inr there) rest = rest there

bodies_new : (s : List MetaBody) (e : MetaBody) (y : ℕ) → (Lists s y → ⊥) → e.meta ≡ y → bodies (s ++ e ∷ []) y ≡ record { arity = e.arity; tree = tm e.body }
bodies_new [] e y unlisted same =
    ap (λ r. if r then record { arity = e.arity; tree = tm e.body } else bodies [] y) (eq-eqb e.meta y same)
bodies_new (b ∷ s) e y unlisted same = go (b.meta == y) refl (bodies_new s e y (λ listed. unlisted (lists_tail b s y listed)) same)
  where
    go : (r : Bool) → (b.meta == y) ≡ r → bodies (s ++ e ∷ []) y ≡ record { arity = e.arity; tree = tm e.body }
        → (if r then record { arity = b.arity; tree = tm b.body } else bodies (s ++ e ∷ []) y) ≡ record { arity = e.arity; tree = tm e.body }
    go true at rest = absurd (unlisted (lists_head b s y (eqb-true b.meta y at)))
    go false at rest = rest

pub new_match : (k z : ℕ) (ts : Tms) (t : Tm) (s new : List MetaBody) (e : MetaBody) → AllBoundBelow k ts → Distinct ts → (Lists s z → ⊥)
    → new ≡ s ++ e ∷ [] → e.meta ≡ z → e.arity ≡ count ts → placed ts k 0 (tm e.body) ≡ t → IsLeastMatch k (meta z ts) t s new
new_match k z ts t s new e all distinct unlisted pushed named counted same = rw pushed (record {
  value = sym same ∙ ap (placed ts k 0) (ap (λ c. c.tree) (sym known)) ∙ sym (meta_valued k z (bodies (s ++ e ∷ [])) ts all);
  covers = (lists_new s e z named, ap (λ c. c.arity) known ∙ counted, bound_covered k (s ++ e ∷ []) ts all);
  kept = λ y listed. bodies_old s e y listed;
  grown = λ y listed. lists_old s e y listed;
  added = λ y listed. added y (lists_push_cases s e y listed);
  once = λ apart. all_pairs_push AreForOthers s e apart (λ i d within at. unlisted (get_or s i d, Contains-get_or s i d within, at ∙ named));
  in_range = λ ranges room below. All-push IsInRange s e ranges (placed_in_range k ts (tm e.body) t all distinct same room below);
  least = λ g agrees value y listed. least g agrees value y (lists_push_cases s e y listed);
})
  where
    known : bodies (s ++ e ∷ []) z ≡ record { arity = e.arity; tree = tm e.body }
    known = bodies_new s e z unlisted named

    added : (y : ℕ) → Lists s y ⊎ (e.meta ≡ y) → Lists s y ⊎ ((z ≡ y) ⊎ OccursIn y ts)
    added y (inl listed) = inl listed
    added y (inr at) = inr (inl (sym named ∙ at))

    made : ℕ → Tm → Body
    made n b = record { arity = n; tree = b }

    least : (g : ℕ → Body) → Agrees s g → HasValue k g (meta z ts) t → (y : ℕ) → Lists s y ⊎ (e.meta ≡ y) → g y ≡ bodies (s ++ e ∷ []) y
    least g agrees value y (inl listed) = agrees y listed ∙ sym (bodies_old s e y listed)
    least g agrees value y (inr at) =
        let tree : (g z).tree ≡ tm e.body = placed_one k 0 ts (g z).tree (tm e.body) all distinct (sym (value.1 ∙ meta_valued k z g ts all) ∙ sym same) in
        let arity : (g z).arity ≡ e.arity = value.0.0 ∙ sym counted in
        let body : g z ≡ bodies (s ++ e ∷ []) z = ap₂ made arity tree ∙ sym known in
        subst (λ x. g x ≡ bodies (s ++ e ∷ []) x) (sym named ∙ at) body

-- the whole search

pub match_is : (p t : Tm) (s : List MetaBody) → IsPattern p → IsLeastMatch 0 p t [] s → IsMatch p t s
match_is p t s pattern found = record {
  value = value_of_valued (bodies s) p t arities found.value;
  only = λ g value z occurs. found.least g (λ y listed. absurd (lists_none y listed)) (arities_of_value g p t value, valued_of_value g p t value) z (covers_listed s p z found.covers occurs);
  listed = λ z. (λ listed. from_nothing z (found.added z listed), covers_listed s p z found.covers);
  once = found.once (λ i j d before within. absurd (omega arith));
  whole = λ shut term z occurs. record {
    shut = subst (λ n. LooseBelow n (bodies s z).tree) (add-zero (bodies s z).arity) (pattern_loose 0 0 (bodies s) p pattern (fits-arities (bodies s) p arities) (subst (LooseBelow 0) is shut) z occurs);
    term = pattern_term 0 (bodies s) p pattern (subst IsTerm is term) z occurs;
  };
  in_range = λ range. found.in_range (λ i d within. absurd (omega arith)) (omega (arith, range.nested)) range.numbered;
}
  where
    arities : HasArities (bodies s) p
    arities = covered_arities s p found.covers

    is : t ≡ value (bodies s) p
    is = found.value ∙ valued_is 0 (bodies s) p arities

    from_nothing : (z : ℕ) → Lists [] z ⊎ Occurs z p → Occurs z p
    from_nothing z (inl listed) = absurd (lists_none z listed)
    from_nothing z (inr occurs) = occurs

pub no_match : (p t : Tm) (new : List MetaBody) → Answers 0 p t [] new false → HasNoMatch p t
no_match p t new none_here = λ g value. none_here g (λ y listed. absurd (lists_none y listed)) (arities_of_value g p t value, valued_of_value g p t value)
