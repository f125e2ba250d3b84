-- The first reading of a meta-variable in joined lists of readings.
use Rattle.std.proofs.Common.{◌≡◌, ℕ, Bool, true, false, eqb, List, [], ◌∷◌, ◌++◌, map, Option, Some, None, option_map, is_some, IsTrue, ◌↔◌, refl, ap, sym, ◌∙◌, subst}
use Rattle.std.proofs.lemmas.List.Elements.{All-cons, All-head, All-tail}
use Rattle.wh_terms.specs.Tree.{Tm, app, head, argument_count}
use Rattle.wh_terms.specs.Typing.{Symbols}
use Rattle.wh_step_laws.specs.Ranks.{IsAccessible}
use Rattle.wh_access.specs.Readings.{Place, Reading, behind, symbol_of, within_argument, readings, readings_of_left, first_way, way_to}
use Rattle.wh_access.specs.Answered.{TellsOpen}

first-or : (b : Bool) (w : List Place) (o : Option (List Place)) (v : List Place) → first_way b w o ≡ Some v → (p : Option (List Place)) → (o ≡ Some v → p ≡ Some v) → first_way b w p ≡ Some v
first-or true w o v e p h = e
first-or false w o v e p h = h e

first-none : (b : Bool) (w : List Place) (o p : Option (List Place)) → first_way b w o ≡ None → (o ≡ None → p ≡ first_way b w p) × (o ≡ None)
first-none true w o p e = absurd (cc)
first-none false w o p e = (λ _. refl, e)

-- what is read in front counts first
pub way_in_front : (z : ℕ) (xs ys : List Reading) (v : List Place) → way_to z xs ≡ Some v → way_to z (xs ++ ys) ≡ Some v
way_in_front z [] ys v e = absurd (cc)
way_in_front z (x ∷ xs) ys v e = first-or (eqb x.meta z) x.way (way_to z xs) v e (way_to z (xs ++ ys)) (way_in_front z xs ys v)

-- and what comes after counts where nothing is read in front
pub way_after : (z : ℕ) (xs ys : List Reading) → way_to z xs ≡ None → way_to z (xs ++ ys) ≡ way_to z ys
way_after z [] ys e = refl
way_after z (x ∷ xs) ys e =
    let parts = first-none (eqb x.meta z) x.way (way_to z xs) (way_to z (xs ++ ys)) e in
    sym (parts.0 parts.1) ∙ way_after z xs ys parts.1

first-map : (p : Place) (b : Bool) (w : List Place) (o q : Option (List Place)) → q ≡ option_map (λ v. p ∷ v) o → first_way b (p ∷ w) q ≡ option_map (λ v. p ∷ v) (first_way b w o)
first-map p true w o q e = refl
first-map p false w o q e = e

-- a place that is passed before all readings stands before each way
pub way_behind : (z : ℕ) (p : Place) (xs : List Reading) → way_to z (map (behind p) xs) ≡ option_map (λ v. p ∷ v) (way_to z xs)
way_behind z p [] = refl
way_behind z p (x ∷ xs) = first-map p (eqb x.meta z) x.way (way_to z xs) (way_to z (map (behind p) xs)) (way_behind z p xs)

-- the answer stands where it is the front that is read
pub open_front : (S : Symbols) (rank : ℕ → ℕ) (z : ℕ) (xs ys : List Reading) (o : Option Bool) → is_some o ≡ true → TellsOpen S rank z xs o → TellsOpen S rank z (xs ++ ys) o
open_front S rank z xs ys None here told = absurd (cc)
open_front S rank z xs ys (Some b) here (way, e, decides) = (way, way_in_front z xs ys way e, decides)

pub open_rest : (S : Symbols) (rank : ℕ → ℕ) (z : ℕ) (xs ys : List Reading) (o r : Option Bool) → is_some o ≡ false → TellsOpen S rank z xs o → TellsOpen S rank z ys r → TellsOpen S rank z (xs ++ ys) r
open_rest S rank z xs ys (Some b) r gone told later = absurd (cc)
open_rest S rank z xs ys None None gone told later = way_after z xs ys told ∙ later
open_rest S rank z xs ys None (Some b) gone told (way, e, decides) = (way, way_after z xs ys told ∙ e, decides)

-- nothing is read within an argument in which there is nothing to read, nor within an argument of what is no symbol
pub open_nothing : (S : Symbols) (rank : ℕ → ℕ) (z : ℕ) (f : Option ℕ) (i : ℕ) (xs : List Reading) → way_to z xs ≡ None → TellsOpen S rank z (within_argument f i xs) None
open_nothing S rank z None i xs e = refl
open_nothing S rank z (Some f) i xs e = way_behind z (record { symbol = f; index = i }) xs ∙ ap (option_map (λ v. record { symbol = f; index = i } ∷ v)) e

-- what is read within an argument of a symbol is read on a way of accessible places if this place is accessible and the
-- others are
pub open_within : (S : Symbols) (rank : ℕ → ℕ) (z f i : ℕ) (xs : List Reading) (b c : Bool) → TellsOpen S rank z xs (Some b)
    → (IsTrue c ↔ (IsTrue b × IsAccessible S rank f i)) → TellsOpen S rank z (within_argument (Some f) i xs) (Some c)
open_within S rank z f i xs b c (way, e, decides) here =
    let p : Place = record { symbol = f; index = i } in
    let P : Place → Type 0 = λ p. IsAccessible S rank p.symbol p.index in (
      p ∷ way,
      way_behind z p xs ∙ ap (option_map (λ v. p ∷ v)) e,
      (
        λ yes. All-cons P p way (here.0 yes).1 (decides.0 (here.0 yes).0),
        λ all. here.1 (decides.1 (All-tail P p way all), All-head P p way all),
      ),
    )

-- the same for the parts of an application

pub in_front : (S : Symbols) (rank : ℕ → ℕ) (z : ℕ) (p t u : Tm) (o : Option Bool) → p ≡ app t u → is_some o ≡ true → TellsOpen S rank z (readings t) o → TellsOpen S rank z (readings p) o
in_front S rank z p t u o e here told =
    subst (λ p. TellsOpen S rank z (readings p) o) (sym e)
    (open_front S rank z (readings t) (within_argument (symbol_of (head t)) (argument_count t) (readings u)) o here told)

pub in_nothing : (S : Symbols) (rank : ℕ → ℕ) (z : ℕ) (p t u : Tm) (o : Option Bool) → p ≡ app t u → is_some o ≡ false → TellsOpen S rank z (readings t) o → way_to z (readings u) ≡ None → way_to z (readings p) ≡ None
in_nothing S rank z p t u o e gone told later =
    ap (λ p. way_to z (readings p)) e
    ∙ open_rest S rank z (readings t) (within_argument (symbol_of (head t)) (argument_count t) (readings u)) o None gone told (open_nothing S rank z (symbol_of (head t)) (argument_count t) (readings u) later)

pub in_no_symbol : (S : Symbols) (rank : ℕ → ℕ) (z : ℕ) (p t u : Tm) (o : Option Bool) → p ≡ app t u → is_some o ≡ false → TellsOpen S rank z (readings t) o → symbol_of (head t) ≡ None → way_to z (readings p) ≡ None
in_no_symbol S rank z p t u o e gone told none =
    ap (λ p. way_to z (readings p)) e
    ∙ open_rest S rank z (readings t) (within_argument (symbol_of (head t)) (argument_count t) (readings u)) o None gone told (ap (λ f. way_to z (within_argument f (argument_count t) (readings u))) none)

pub in_argument : (S : Symbols) (rank : ℕ → ℕ) (z : ℕ) (p t u : Tm) (o : Option Bool) (f i : ℕ) (b c : Bool) → p ≡ app t u → is_some o ≡ false → TellsOpen S rank z (readings t) o
    → symbol_of (head t) ≡ Some f → i ≡ argument_count t → TellsOpen S rank z (readings u) (Some b) → (IsTrue c ↔ (IsTrue b × IsAccessible S rank f i)) → TellsOpen S rank z (readings p) (Some c)
in_argument S rank z p t u o f i b c e gone told symbol index later decides =
    subst (λ p. TellsOpen S rank z (readings p) (Some c)) (sym e)
    (open_rest S rank z (readings t) (within_argument (symbol_of (head t)) (argument_count t) (readings u)) o (Some c) gone told
    (subst (λ f. TellsOpen S rank z (within_argument f (argument_count t) (readings u)) (Some c)) (sym symbol)
    (subst (λ i. TellsOpen S rank z (within_argument (Some f) i (readings u)) (Some c)) index (open_within S rank z f i (readings u) b c later decides))))

-- and for a left side and its last argument

pub left_in_front : (S : Symbols) (rank : ℕ → ℕ) (z : ℕ) (p t u : Tm) (o : Option Bool) → p ≡ app t u → is_some o ≡ true → TellsOpen S rank z (readings_of_left t) o → TellsOpen S rank z (readings_of_left p) o
left_in_front S rank z p t u o e here told =
    subst (λ p. TellsOpen S rank z (readings_of_left p) o) (sym e) (open_front S rank z (readings_of_left t) (readings u) o here told)

pub left_in_last : (S : Symbols) (rank : ℕ → ℕ) (z : ℕ) (p t u : Tm) (o r : Option Bool) → p ≡ app t u → is_some o ≡ false → TellsOpen S rank z (readings_of_left t) o → TellsOpen S rank z (readings u) r → TellsOpen S rank z (readings_of_left p) r
left_in_last S rank z p t u o r e gone told later =
    subst (λ p. TellsOpen S rank z (readings_of_left p) r) (sym e) (open_rest S rank z (readings_of_left t) (readings u) o r gone told later)
