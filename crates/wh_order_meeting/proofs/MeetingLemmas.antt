-- Circuits of demands.
use Rattle.std.proofs.Common.{◌≡◌, ℕ, zero, suc, ◌+◌, ◌<◌, ◌&&◌, ◌||◌, ◌⊎◌, inl, inr, Bool, true, false, List, [], ◌∷◌, ◌++◌, length, take, refl, ap, ap₂, ◌∙◌, sym, subst, Option, Some, None, Result, Ok, Err, IfOk, IfSome, Box, Global, slice_get, get_or, arith}
use Rattle.std.specs.declared.alloc.AllocError.{AllocError}
use Rattle.std.proofs.lemmas.Bool.{cases_eq}
use Rattle.std.specs.Prelude.{not}
use Rattle.wh_sat_trail.specs.declared.literal.Literal.{Literal}
use Rattle.wh_sat.specs.Solving.{Solves, literal_true, clause_true}
use Rattle.wh_circuit.specs.declared.circuit.Circuit.{Circuit}
use Rattle.wh_circuit.specs.declared.circuit.Gate.{Gate}
use Rattle.wh_circuit.specs.Gates.{Agrees, Extends, IsWire, Means, Ordered}
use Rattle.wh_circuit.specs.State.{Grows, gates_of, required_of}
use Rattle.wh_circuit.specs.Values.{all_true}
use Rattle.wh_circuit.proofs.Carrying.{values_exist_law}
use Rattle.wh_circuit.proofs.Gating.{at_last, slice_get_front}
use Rattle.wh_circuit.proofs.Growing.{extends_then, means_later, means_same}
use Rattle.wh_order_demands.specs.declared.demand.Demand.{Demand}
use Rattle.wh_order_demands.specs.declared.demand.Demand.TheVariants.{Always, Never, Bit, NoBit, Both, Either, Both', Either'}
use Rattle.wh_order_demands.specs.Demands.{holds}
use Rattle.wh_order_meeting.specs.declared.meeting.Meeting.{Meeting}
use Rattle.wh_order_meeting.specs.declared.meeting.Meeting.TheVariants as meeting
use Rattle.wh_order_meeting.specs.Meeting.{AreInputs, AreNumbered, IsMeeting, IsSolved, IsNamed, Joins, IsJoined, IsBuilt, IsWireAt, or_zero, values_by}
use Rattle.wh_order_demands.proofs.PartLemmas.{at_left, below_at}

-- where there is a place, what stands there
pub input_is : (places : List (Option ℕ)) (x k : ℕ) → slice_get places x ≡ Some (Some k) → or_zero (get_or places x None) ≡ k
input_is [] x k e = absurd (cc)
input_is (o ∷ places) zero k e = ap or_zero (one_of e)
  where
    one_of : {A : Type 0} {a b : A} → Some a ≡ Some b → a ≡ b
    one_of e = cc
input_is (o ∷ places) (suc x) k e = input_is places x k e

-- bits that agree where they have inputs meet the same demands
pub holds_alike : (places : List (Option ℕ)) (v w : ℕ → Bool) → ((x k : ℕ) → slice_get places x ≡ Some (Some k) → v x ≡ w x) → (d : Demand) → IsNamed places d
    → holds v d ≡ holds w d
holds_alike places v w same Always b = refl
holds_alike places v w same Never b = refl
holds_alike places v w same (Bit x) (k, at) = same x k at
holds_alike places v w same (NoBit x) (k, at) = ap not (same x k at)
holds_alike places v w same (Both' p d q e) b = ap₂ (λ x y. x && y) (holds_alike places v w same d b.0) (holds_alike places v w same e b.1)
holds_alike places v w same (Either' p d q e) b = ap₂ (λ x y. x || y) (holds_alike places v w same d b.0) (holds_alike places v w same e b.1)

-- one more bit, with an input or without
last_at : (places : List (Option ℕ)) (o : Option ℕ) (y k : ℕ) → slice_get (places ++ o ∷ []) y ≡ Some (Some k)
    → (slice_get places y ≡ Some (Some k)) ⊎ ((y ≡ length places) × (o ≡ Some k))
last_at [] o zero k e = inr (refl, one_of e)
  where
    one_of : {A : Type 0} {a b : A} → Some a ≡ Some b → a ≡ b
    one_of e = cc
last_at [] o (suc y) k e = absurd (cc)
last_at (p ∷ places) o zero k e = inl e
last_at (p ∷ places) o (suc y) k e = elim (last_at places o y k e) [ inl h ↦ inl h | inr h ↦ inr (ap suc h.0, h.1) ]

pub numbered_none : AreNumbered [] []
numbered_none x k e = absurd (cc)

pub numbered_without : (places : List (Option ℕ)) (bits : List ℕ) → AreNumbered places bits → AreNumbered (places ++ None ∷ []) bits
numbered_without places bits before x k e = elim (last_at places None x k e) [
  | inl h ↦ before x k h
  | inr h ↦ absurd (none_some k h.1)
]
  where
    none_some : (k : ℕ) → None ≡ Some k → ⊥
    none_some k e = cc

pub numbered_with : (places : List (Option ℕ)) (bits : List ℕ) (x n : ℕ) → x ≡ length places → n ≡ length bits → AreNumbered places bits
    → AreNumbered (places ++ Some n ∷ []) (bits ++ x ∷ [])
numbered_with places bits x n place input before y k e = elim (last_at places (Some n) y k e) [
  | inl h ↦ at_left bits (x ∷ []) k y (before y k h)
  | inr h ↦
      let here : k ≡ length bits = sym (one_of h.1) ∙ input in
      let bit : y ≡ x = h.0 ∙ sym place in
      subst (λ k. slice_get (bits ++ x ∷ []) k ≡ Some y) (sym here) (subst (λ z. slice_get (bits ++ x ∷ []) (length bits) ≡ Some z) (sym bit) (last_there bits x))
]
  where
    one_of : {A : Type 0} {a b : A} → Some a ≡ Some b → a ≡ b
    one_of e = cc

    last_there : (xs : List ℕ) (x : ℕ) → slice_get (xs ++ x ∷ []) (length xs) ≡ Some x
    last_there [] x = refl
    last_there (y ∷ xs) x = last_there xs x

pub numbered_as : (places : List (Option ℕ)) (bits : List ℕ) (new : List (Option ℕ)) (all : List ℕ) (x n : ℕ) → new ≡ places ++ Some n ∷ [] → all ≡ bits ++ x ∷ []
    → x ≡ length places → n ≡ length bits → AreNumbered places bits → AreNumbered new all
numbered_as places bits new all x n made also place input before =
    subst (λ l. AreNumbered l all) (sym made) (subst (λ l. AreNumbered (places ++ Some n ∷ []) l) (sym also) (numbered_with places bits x n place input before))

-- an input joins
pub input_more : (n : ℕ) (gates : List Gate) (g : Gate) → length gates ≡ n → g.is_input ≡ true → AreInputs n gates → AreInputs (n + 1) (gates ++ g ∷ [])
input_more n gates g long is before k less = elim (cases_eq k n) [
  | inl e ↦ (g, subst (λ k. slice_get (gates ++ g ∷ []) k ≡ Some g) (long ∙ sym e) (at_last gates g), is)
  | inr ne ↦ let (h, at, i) = before k (omega (arith, less, ne)) in (h, at_left gates (g ∷ []) k h at, i)
]

-- where the wire is required and the formula has no model, no values make the wire true
pub solved_never : (before after : Circuit) (wire : Literal) (clauses : List (List Literal)) → gates_of after ≡ gates_of before
    → required_of after ≡ required_of before ++ wire ∷ [] → Ordered (gates_of after)
    → ((v : ℕ → Bool) → Agrees (gates_of after) v → all_true v (required_of after) ≡ true → Solves v clauses) → ((v : ℕ → Bool) → Solves v clauses → ⊥)
    → IsSolved before wire meeting.Never
solved_never before after wire clauses same asked ordered complete never first = (
  subst Ordered same ordered,
  λ v agrees is. never v (complete v (subst (λ g. Agrees g v) (sym same) agrees) (ap (all_true v) (asked ∙ ap (λ l. l ++ wire ∷ []) first) ∙ ap (λ b. b && true) is)),
)

-- so no bits meet the demand
pub met_never : (places : List (Option ℕ)) (bits : List ℕ) (count : ℕ) (d : Demand) (before after : Circuit) (wire : Literal) (r : Result Meeting AllocError)
    → AreNumbered places bits → count ≡ length bits → AreInputs count (gates_of before) → required_of before ≡ []
    → IsBuilt places d before after (Some wire) → IfOk r (IsSolved after wire) → IfOk r (IsMeeting d)
met_never places bits count d before after wire (Err e) are long inputs first built solved = tt
met_never places bits count d before after wire (Ok meeting.Open) are long inputs first built solved = tt
met_never places bits count d before after wire (Ok (meeting.Bits values)) are long inputs first built solved = tt
met_never places bits count d before after wire (Ok meeting.Never) are long inputs first (named, joins) solved = λ v met.
    let (ordered, never) = solved (joins.required ∙ first) in
    let u : ℕ → Bool = λ k. v (get_or bits k 0) in
    let (w, carries) = values_exist_law (gates_of after) u ordered in
    let alike : (x k : ℕ) → slice_get places x ≡ Some (Some k) → values_by places w x ≡ v x = λ x k at. (
    let there : slice_get bits k ≡ Some x = are x k at in
    let (g, here, input) = inputs k (omega (arith, long, below_at bits k x there)) in
    ap w (input_is places x k at)
    ∙ carries.inputs k g (slice_get_front (length (gates_of before)) (gates_of after) k g (subst (λ l. slice_get l k ≡ Some g) (sym joins.gates.kept) here)) input
    ∙ ap v (bit_is bits k x there)) in
    never w carries.agrees (joins.means.is w carries.agrees ∙ holds_alike places (values_by places w) v alike d named ∙ met)
  where
    bit_is : (xs : List ℕ) (k x : ℕ) → slice_get xs k ≡ Some x → get_or xs k 0 ≡ x
    bit_is [] k x e = absurd (cc)
    bit_is (y ∷ xs) zero x e = cc
    bit_is (y ∷ xs) (suc k) x e = bit_is xs k x e

-- after one wire another is made
pub joins_after : (a b c : Circuit) (l m : Literal) (f g : (ℕ → Bool) → Bool) → Joins a b l f → Joins b c m g → Joins a c m g
joins_after a b c l m f g p q = record {
  many = p.many + q.many;
  gates = extends_then p.many q.many (p.many + q.many) (gates_of a) (gates_of b) (gates_of c) p.gates q.gates (omega arith);
  required = q.required ∙ p.required;
  means = q.means;
}

pub joins_two : (a b c e : Circuit) (l m w : Literal) (f g h : (ℕ → Bool) → Bool) (op : Bool → Bool → Bool) → Joins a b l f → Joins b c m g
    → Joins c e w (λ v. op (literal_true v l) (literal_true v m)) → ((v : ℕ → Bool) → h v ≡ op (f v) (g v)) → Joins a e w h
joins_two a b c e l m w f g h op p q r is = record {
  many = p.many + q.many + r.many;
  gates = extends_then (p.many + q.many) r.many (p.many + q.many + r.many) (gates_of a) (gates_of c) (gates_of e)
      (extends_then p.many q.many (p.many + q.many) (gates_of a) (gates_of b) (gates_of c) p.gates q.gates (omega arith)) r.gates (omega arith);
  required = r.required ∙ q.required ∙ p.required;
  means = means_same (gates_of e) w (λ v. op (literal_true v l) (literal_true v m)) h (λ v agrees.
      ap₂ op
      ((means_later r.many (gates_of c) (gates_of e) l f r.gates (means_later q.many (gates_of b) (gates_of c) l f q.gates p.means)).is v agrees)
      ((means_later r.many (gates_of c) (gates_of e) m g r.gates q.means).is v agrees) ∙ sym (is v)) r.means;
}

-- where a call of the circuit made a gate
pub joins_grown : (n : ℕ) (a b : Circuit) (w : Literal) (f g : (ℕ → Bool) → Bool) → Grows n a b → Means (gates_of b) w f
    → ((v : ℕ → Bool) → f v ≡ g v) → Joins a b w g
joins_grown n a b w f g grows means is = record {
  many = n;
  gates = grows.gates;
  required = grows.required;
  means = means_same (gates_of b) w f g (λ v agrees. is v) means;
}

pub joins_nothing : (a : Circuit) (w : Literal) (f : (ℕ → Bool) → Bool) → Means (gates_of a) w f → Joins a a w f
joins_nothing a w f means = record { many = 0; gates = same (gates_of a); required = refl; means = means }
  where
    same : (gates : List Gate) → Extends 0 gates gates
    same gates = record { kept = whole gates; more = omega arith; few = omega arith; made = λ k g l at. absurd (omega (arith, l, within gates k g at)) }
      where
        whole : (l : List Gate) → take (length l) l ≡ l
        whole [] = refl
        whole (g ∷ l) = ap (λ l. g ∷ l) (whole l)

        within : (l : List Gate) (k : ℕ) (g : Gate) → slice_get l k ≡ Some g → k < length l
        within [] k g e = absurd (cc)
        within (h ∷ l) zero g e = omega arith
        within (h ∷ l) (suc k) g e = omega (arith, within l k g e)

and_end : (a b : Bool) → (a && (b && true)) ≡ (a && b)
and_end true true = refl
and_end true false = refl
and_end false b = refl

or_end : (a b : Bool) → (a || (b || false)) ≡ (a || b)
or_end true b = refl
or_end false true = refl
or_end false false = refl

-- a gate of two wires
pub both_joined : (n : ℕ) (a b : Circuit) (w l m : Literal) → Grows n a b → Means (gates_of b) w (λ v. all_true v (l ∷ m ∷ []))
    → Joins a b w (λ v. literal_true v l && literal_true v m)
both_joined n a b w l m grows means =
    joins_grown n a b w (λ v. all_true v (l ∷ m ∷ [])) (λ v. literal_true v l && literal_true v m) grows means (λ v. and_end (literal_true v l) (literal_true v m))

pub either_joined : (n : ℕ) (a b : Circuit) (w l m : Literal) → Grows n a b → Means (gates_of b) w (λ v. clause_true v (l ∷ m ∷ []))
    → Joins a b w (λ v. literal_true v l || literal_true v m)
either_joined n a b w l m grows means =
    joins_grown n a b w (λ v. clause_true v (l ∷ m ∷ [])) (λ v. literal_true v l || literal_true v m) grows means (λ v. or_end (literal_true v l) (literal_true v m))

-- what is built for a demand, by its form
module _ (places : List (Option ℕ)) (d : Demand) where
  pub always_built : (a b : Circuit) (r : Result (Option Literal) AllocError) → d ≡ Always → IfOk r (IsJoined a b (λ v. true)) → IfOk r (IsBuilt places d a b)
  always_built a b (Ok None) e joins = tt
  always_built a b (Err f) e joins = tt
  always_built a b (Ok (Some w)) e joins = subst (λ d. IsBuilt places d a b (Some w)) (sym e) (tt, joins)

  pub never_built : (a b : Circuit) (r : Result (Option Literal) AllocError) → d ≡ Never → IfOk r (IsJoined a b (λ v. false)) → IfOk r (IsBuilt places d a b)
  never_built a b (Ok None) e joins = tt
  never_built a b (Err f) e joins = tt
  never_built a b (Ok (Some w)) e joins = subst (λ d. IsBuilt places d a b (Some w)) (sym e) (tt, joins)

  -- the value of an input is that of its bit
  by_input : (v : ℕ → Bool) (x k : ℕ) → slice_get places x ≡ Some (Some k) → v k ≡ values_by places v x
  by_input v x k at = ap v (sym (input_is places x k at))

  pub bit_built : (a : Circuit) (x : ℕ) (o : Option Literal) → d ≡ Bit x → IfSome o (IsWire (gates_of a)) → IsWireAt x places true o → IsBuilt places d a a o
  bit_built a x None e own at = tt
  bit_built a x (Some w) e own (k, at, is) =
      subst (λ d. IsBuilt places d a a (Some w)) (sym e) (
        (k, at),
        joins_nothing a w (λ v. values_by places v x) (record { own = own; is = λ v agrees. ap (literal_true v) is ∙ by_input v x k at }),
      )

  pub no_bit_built : (a : Circuit) (x : ℕ) (o : Option Literal) → d ≡ NoBit x → IfSome o (IsWire (gates_of a)) → IsWireAt x places false o → IsBuilt places d a a o
  no_bit_built a x None e own at = tt
  no_bit_built a x (Some w) e own (k, at, is) =
      subst (λ d. IsBuilt places d a a (Some w)) (sym e) (
        (k, at),
        joins_nothing a w (λ v. not (values_by places v x))
            (record { own = own; is = λ v agrees. ap (literal_true v) is ∙ negative (v k) ∙ ap not (by_input v x k at) }),
      )
    where
      negative : (b : Bool) → literal_true (λ n. b) (record { variable = k; positive = false }) ≡ not b
      negative true = refl
      negative false = refl

  pub both_built : (x y : Box Demand Global) (a b c e : Circuit) (l m : Literal) (r : Result (Option Literal) AllocError) → d ≡ Both x y
      → IsBuilt places x.value a b (Some l) → IsBuilt places y.value b c (Some m) → IfOk r (IsJoined c e (λ v. literal_true v l && literal_true v m)) → IfOk r (IsBuilt places d a e)
  both_built x y a b c e l m (Ok None) same p q j = tt
  both_built x y a b c e l m (Err f) same p q j = tt
  both_built x y a b c e l m (Ok (Some w)) same p q j =
      subst (λ d. IsBuilt places d a e (Some w)) (sym same) (
        (p.0, q.0),
        joins_two a b c e l m w (λ v. holds (values_by places v) x.value) (λ v. holds (values_by places v) y.value)
            (λ v. holds (values_by places v) x.value && holds (values_by places v) y.value) (λ a b. a && b) p.1 q.1 j (λ v. refl),
      )

  pub either_built : (x y : Box Demand Global) (a b c e : Circuit) (l m : Literal) (r : Result (Option Literal) AllocError) → d ≡ Either x y
      → IsBuilt places x.value a b (Some l) → IsBuilt places y.value b c (Some m) → IfOk r (IsJoined c e (λ v. literal_true v l || literal_true v m)) → IfOk r (IsBuilt places d a e)
  either_built x y a b c e l m (Ok None) same p q j = tt
  either_built x y a b c e l m (Err f) same p q j = tt
  either_built x y a b c e l m (Ok (Some w)) same p q j =
      subst (λ d. IsBuilt places d a e (Some w)) (sym same) (
        (p.0, q.0),
        joins_two a b c e l m w (λ v. holds (values_by places v) x.value) (λ v. holds (values_by places v) y.value)
            (λ v. holds (values_by places v) x.value || holds (values_by places v) y.value) (λ a b. a || b) p.1 q.1 j (λ v. refl),
      )

  -- what is built later has a wire
  pub built_wire : (a b : Circuit) (w : Literal) → IsBuilt places d a b (Some w) → IsWire (gates_of b) w
  built_wire a b w (named, joins) = joins.means.own

  pub built_wire_later : (x : Demand) (a b c : Circuit) (w m : Literal) → IsBuilt places d a b (Some w) → IsBuilt places x b c (Some m) → IsWire (gates_of c) w
  built_wire_later x a b c w m (named, joins) (also, more) = omega (arith, joins.means.own, more.gates.more)
