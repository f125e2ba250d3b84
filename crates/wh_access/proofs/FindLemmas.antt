-- From the demands in the tables to ranks under which rules are passing.
use Rattle.std.proofs.Common.{◌≡◌, ℕ, suc, ◌+◌, ◌<◌, ◌≤◌, ◌↔◌, ◌⊎◌, inl, inr, Bool, true, false, eqb, List, [], ◌∷◌, length, get_or, Option, Some, None, slice_get, All, refl, ap, sym, ◌∙◌, subst, arith, zero-add, add-zero}
use Rattle.std.proofs.lemmas.List.{get_or_default}
use Rattle.std.proofs.lemmas.List.Elements.{All-nil, All-cons, All-head, All-tail, All-append, All-map, All-contains, All-weaker}
use Rattle.std.proofs.lemmas.Option.{slice_get-get_or, slice_get_within, get_or_from_slice_get}
use Rattle.wh_types.specs.Ty.{Ty, sort, ◌⇒◌, arguments, result_sort, SortsBelow}
use Rattle.wh_terms.specs.Tree.{Tm, head, argument_count}
use Rattle.wh_terms.specs.Typing.{Symbols, Declared, Typed, typed_bound, typed_free, typed_fun, typed_meta, typed_lam, typed_app}
use Rattle.wh_terms.specs.Rules.{RewriteRule}
use Rattle.wh_step_laws.specs.Ranks.{rank_of, RanksBelow, IsAccessibleIn}
use Rattle.wh_system.specs.Systems.{SystemData}
use Rattle.wh_system.specs.WellMade.{IsTypeOver, IsWellMadeSystem}
use Rattle.wh_access.specs.Readings.{Place, Reading, symbol_of, behind, within_argument, readings, readings_of_left, first_way, way_to}
use Rattle.wh_access.specs.Passing.{AllRead, Passing}
use Rattle.wh_access.specs.Demands.{Demand, HasSort, Asks, IsAskedFor, IsDemand, Leads, LeadsStrictly}
use Rattle.wh_access.specs.Found.{IsCause, IsCycleIn, HasDemands, MeetTold}
use Rattle.wh_access.specs.Tables.{InTables, Grows, SortsWithin, LeadsBelow, LeadsStrictlyBelow}
use Rattle.wh_access.specs.declared.find.NoRanks.{NoRanks}
use Rattle.wh_access.specs.declared.find.NoRanks.TheVariants.{Unread, Cycle}
use Rattle.wh_access.specs.declared.demands.Demands.{Demands}
use Rattle.wh_access.proofs.DemandLaws.{Meets}
use Rattle.wh_access.proofs.SourceLemmas.{cycle_as}
use Rattle.wh_access.proofs.PlaceLemmas.{argument_below, result_below}

-- what the rules before number i demand
abbrev pub AskedBefore : Symbols → List RewriteRule → ℕ → Demand → Type 0
AskedBefore S rules i d = (j : ℕ) × (j < i) × ((r : RewriteRule) × (slice_get rules j ≡ Some r) × ((z : ℕ) × IsAskedFor S r z d))

cases : (j i : ℕ) → j < i + 1 → (j < i) ⊎ (j ≡ i)
cases j i h = grind arith

pub asked_rule : (S : Symbols) (rules : List RewriteRule) (i : ℕ) (r : RewriteRule) (old new : Demands) (d : Demand) → d.from < 256 → d.to < 256 → slice_get rules i ≡ Some r
    → (InTables old d ↔ AskedBefore S rules i d) → Grows old new (λ d. (z : ℕ) × IsAskedFor S r z d) → InTables new d ↔ AskedBefore S rules (i + 1) d
asked_rule S rules i r old new d from to here before grows = (
  λ told. elim ((grows d from to).0 told) [
    | inl o ↦ let asked = before.0 o in (asked.0, omega (arith, asked.1), asked.2)
    | inr a ↦ (i, omega arith, (r, here, a))
  ],
  λ (j, low, (q, at, a)). elim (cases j i low) [
    | inl less ↦ (grows d from to).1 (inl (before.1 (j, less, (q, at, a))))
    | inr same ↦ let one : q ≡ r = cc (at, here, ap (slice_get rules) same) in (grows d from to).1 (inr (subst (λ q. (z : ℕ) × IsAskedFor S q z d) one a))
  ],
)

pub asked_all : (S : Symbols) (rules : List RewriteRule) (n : ℕ) (d : Demand) → length rules ≡ n → AskedBefore S rules n d ↔ IsDemand S rules d
asked_all S rules n d count = (
  λ (j, low, (r, at, a)). (r, (j, slice_get_within rules j r at, get_or_from_slice_get rules j r r at), a),
  λ (r, (j, within, e), a). (j, omega (arith, within), (r, slice_get-get_or rules j r within ∙ ap Some e, a)),
)

-- the sorts of a well-made system

more_sorts : (m n : ℕ) (a : Ty) → m ≤ n → SortsBelow m a → SortsBelow n a
more_sorts m n (sort s) h below = omega arith
more_sorts m n (a ⇒ b) h below = (more_sorts m n a h below.0, more_sorts m n b h below.1)

pub sorts_known : (d : SystemData) → IsWellMadeSystem d → SortsWithin d.symbols.sorts d.symbols
sorts_known d made f b e =
    (All-contains (IsTypeOver d.symbols.sorts) d.symbols.funs b made.symbol_types (f, slice_get_within d.symbols.funs f b e, get_or_from_slice_get d.symbols.funs f b b e)).sorts_are_there

pub sorts_few : (d : SystemData) → IsWellMadeSystem d → SortsWithin 256 d.symbols
sorts_few d made f b e = more_sorts d.symbols.sorts 256 b made.sorts_within (sorts_known d made f b e)

-- each place on the way of a reading has a type

abbrev pub HasType : Symbols → Place → Type 0
HasType S p = (a b : Ty) × (slice_get S.funs p.symbol ≡ Some b) × (slice_get (arguments b) p.index ≡ Some a)

abbrev pub AllHaveTypes : Symbols → List Place → Type 0
AllHaveTypes S = All (HasType S)

-- the type of a spine is what its symbol's type leaves after its arguments
spine_type : {S : Symbols} {M : List Declared} {Γ : List Ty} {t : Tm} {c : Ty} (f : ℕ) → Typed S M Γ t c → symbol_of (head t) ≡ Some f
    → (b : Ty) × (slice_get S.funs f ≡ Some b) × ((i : ℕ) → slice_get (arguments b) (argument_count t + i) ≡ slice_get (arguments c) i)
spine_type f (typed_bound e) symbol = absurd (cc)
spine_type f (typed_free e) symbol = absurd (cc)
spine_type {S = S} {c = c} f (typed_fun {f = g} e) symbol = let same : g ≡ f = cc in (c, subst (λ g. slice_get S.funs g ≡ Some c) same e, λ i. ap (slice_get (arguments c)) (zero-add i))
spine_type f (typed_meta e ts out) symbol = absurd (cc)
spine_type f (typed_lam s t) symbol = absurd (cc)
spine_type f (typed_app {a = a} {b = c} {t = t} p q) symbol =
    let front = spine_type f p symbol in
    (front.0, front.1, λ i. ap (slice_get (arguments front.0)) (shifted (argument_count t) i) ∙ front.2 (suc i))
  where
    shifted : (n i : ℕ) → n + 1 + i ≡ n + suc i
    shifted n i = omega arith

-- the place after a typed spine
pub place_type : {S : Symbols} {M : List Declared} {Γ : List Ty} {t : Tm} {a c : Ty} (f : ℕ) → Typed S M Γ t (a ⇒ c) → symbol_of (head t) ≡ Some f → HasType S (record { symbol = f; index = argument_count t })
place_type {t = t} {a = a} f p symbol =
    let found = spine_type f p symbol in
    (a, found.0, found.1, ap (slice_get (arguments found.0)) (sym (add-zero (argument_count t))) ∙ found.2 0)

typed_within : (S : Symbols) (f : Option ℕ) (i : ℕ) (rs : List Reading) → ((g : ℕ) → f ≡ Some g → HasType S (record { symbol = g; index = i })) → All (λ r. AllHaveTypes S r.way) rs → All (λ r. AllHaveTypes S r.way) (within_argument f i rs)
typed_within S None i rs here all = All-nil (λ r. AllHaveTypes S r.way)
typed_within S (Some f) i rs here all =
    let p : Place = record { symbol = f; index = i } in
    All-map (λ r. AllHaveTypes S r.way) (behind p) rs (All-weaker (λ r. AllHaveTypes S r.way) (λ r. AllHaveTypes S (p ∷ r.way)) (λ r. All-cons (HasType S) p r.way (here f refl)) rs all)

typed_readings : {S : Symbols} {M : List Declared} {Γ : List Ty} {t : Tm} {c : Ty} → Typed S M Γ t c → All (λ r. AllHaveTypes S r.way) (readings t)
typed_readings {S = S} (typed_bound e) = All-nil (λ r. AllHaveTypes S r.way)
typed_readings {S = S} (typed_free e) = All-nil (λ r. AllHaveTypes S r.way)
typed_readings {S = S} (typed_fun e) = All-nil (λ r. AllHaveTypes S r.way)
typed_readings {S = S} (typed_meta {z = z} e ts out) = All-cons (λ r. AllHaveTypes S r.way) (record { meta = z; way = [] }) [] (All-nil (HasType S)) (All-nil (λ r. AllHaveTypes S r.way))
typed_readings (typed_lam s t) = typed_readings t
typed_readings {S = S} (typed_app {t = t} {u = u} p q) =
    All-append (λ r. AllHaveTypes S r.way) (readings t) (within_argument (symbol_of (head t)) (argument_count t) (readings u)) (typed_readings p)
    (typed_within S (symbol_of (head t)) (argument_count t) (readings u) (λ g e. place_type g p e) (typed_readings q))

typed_left : {S : Symbols} {M : List Declared} {Γ : List Ty} {t : Tm} {c : Ty} → Typed S M Γ t c → All (λ r. AllHaveTypes S r.way) (readings_of_left t)
typed_left {S = S} (typed_bound e) = All-nil (λ r. AllHaveTypes S r.way)
typed_left {S = S} (typed_free e) = All-nil (λ r. AllHaveTypes S r.way)
typed_left {S = S} (typed_fun e) = All-nil (λ r. AllHaveTypes S r.way)
typed_left {S = S} (typed_meta e ts out) = All-nil (λ r. AllHaveTypes S r.way)
typed_left {S = S} (typed_lam s t) = All-nil (λ r. AllHaveTypes S r.way)
typed_left {S = S} (typed_app {t = t} {u = u} p q) = All-append (λ r. AllHaveTypes S r.way) (readings_of_left t) (readings u) (typed_left p) (typed_readings q)

way_among : (Q : List Place → Type 0) (z : ℕ) (rs : List Reading) (way : List Place) → All (λ r. Q r.way) rs → way_to z rs ≡ Some way → Q way
way_among Q z [] way all e = absurd (cc)
way_among Q z (r ∷ rs) way all e = go (eqb r.meta z) (λ later. way_among Q z rs way (All-tail (λ r. Q r.way) r rs all) later) e
  where
    go : (b : Bool) → (way_to z rs ≡ Some way → Q way) → first_way b r.way (way_to z rs) ≡ Some way → Q way
    go true rest e = let same : r.way ≡ way = cc in subst Q same (All-head (λ r. Q r.way) r rs all)
    go false rest e = rest e

-- a place whose demands are met is accessible

ranks_below_from : (rank : ℕ → ℕ) (n : ℕ) (a : Ty) → ((s : ℕ) → HasSort s a → rank s < n) → RanksBelow rank n a
ranks_below_from rank n (sort s) h = h s refl
ranks_below_from rank n (a ⇒ b) h = (ranks_below_from rank n a (λ s o. h s (inl o)), ranks_below_from rank n b (λ s o. h s (inr o)))

accessible_from : (rank : ℕ → ℕ) (a : Ty) (t : ℕ) → ((d : Demand) → Asks a t d → Meets rank d) → IsAccessibleIn rank t a
accessible_from rank (sort r) t h = (h (record { from = r; to = t; strict = false }) (refl, refl, refl)).0
accessible_from rank (a ⇒ b) t h = ranks_below_from rank (rank t) (a ⇒ b) (λ s o. (h (record { from = s; to = t; strict = true }) (o, refl, refl)).1 refl)

-- the sorts of a demand are there

pub sort_below : (n s : ℕ) (a : Ty) → HasSort s a → SortsBelow n a → s < n
sort_below n s (sort r) here below = subst (λ s. s < n) here below
sort_below n s (a ⇒ b) (inl here) below = sort_below n s a here below.0
sort_below n s (a ⇒ b) (inr here) below = sort_below n s b here below.1

asks_below : (n : ℕ) (a : Ty) (t : ℕ) (d : Demand) → Asks a t d → SortsBelow n a → t < n → (d.from < n) × (d.to < n)
asks_below n (sort r) t d asks below small = (subst (λ s. s < n) (sym asks.0) below, subst (λ s. s < n) (sym asks.1) small)
asks_below n (a ⇒ b) t d asks below small = (sort_below n d.from (a ⇒ b) asks.0 below, subst (λ s. s < n) (sym asks.1) small)

-- rules are passing where each meta-variable is read and each demand is met
pub passing_from : (d : SystemData) (rank : ℕ → ℕ) → IsWellMadeSystem d → AllRead d.rules
    → ((e : Demand) → e.from < d.symbols.sorts → e.to < d.symbols.sorts → IsDemand d.symbols d.rules e → Meets rank e) → Passing d.symbols rank d.rules
passing_from d rank made read met r listed z used =
    let S = d.symbols in
    let found = read r listed z used in
    let way = found.0 in
    let types = way_among (AllHaveTypes S) z (readings_of_left r.left) way (typed_left (made.rules.each r listed).typed.1) found.1 in (
      way,
      found.1,
      λ k p0 within.
          let p = get_or way k p0 in
          let type = types k p0 within in
          let below = sorts_known d made p.symbol type.1 type.2 in (
            type.0,
            type.1,
            type.2,
            type.3,
            accessible_from rank type.0 (result_sort type.1) (λ e asks.
                let small = asks_below S.sorts type.0 (result_sort type.1) e asks (argument_below S.sorts type.1 p.index type.0 below type.3) (result_below S.sorts type.1 below) in
                met e small.0 small.1 (r, listed, (z, (used, (way, found.1, (p, (k, within, get_or_default way k p p0 within), (type.0, type.1, type.2, type.3, asks))))))),
          ),
    )

-- what is in the tables is what is demanded

pub told_met : (d : SystemData) (demands : Demands) (ranks : List ℕ) → d.symbols.sorts ≤ 256 → HasDemands d demands → MeetTold demands d.symbols.sorts ranks
    → (e : Demand) → e.from < d.symbols.sorts → e.to < d.symbols.sorts → IsDemand d.symbols d.rules e → Meets (rank_of ranks) e
told_met d demands ranks few all met e from to demanded =
    let told = (all e (omega arith) (omega arith)).1 demanded in
    (met.weak e.from e.to from to (e.strict, told), λ yes. met.strict e.from e.to from to (subst (λ b. InTables demands (record { from = e.from; to = e.to; strict = b })) yes told))

pub cause_of : (d : SystemData) (demands : Demands) (e : NoRanks) → d.symbols.sorts ≤ 256 → HasDemands d demands → AllRead d.rules → IsCycleIn demands d.symbols.sorts e → IsCause d e
cause_of d demands (Unread i z) few all read cycle = absurd cycle
cause_of d demands (Cycle sorts) few all read cycle =
    let n : ℕ = d.symbols.sorts in (
      read,
      cycle_as (LeadsBelow demands n) (LeadsStrictlyBelow demands n) (Leads d.symbols d.rules) (LeadsStrictly d.symbols d.rules)
          (λ s t leads. (leads.2.0, (all (record { from = s; to = t; strict = leads.2.0 }) (omega (arith, leads.0)) (omega (arith, leads.1))).0 leads.2.1))
          (λ s t leads. (all (record { from = s; to = t; strict = true }) (omega (arith, leads.0)) (omega (arith, leads.1))).0 leads.2)
          sorts cycle,
    )
