-- Up to four words ask for a hunt as each of them says.
use Rattle.std.proofs.Common.{
  ◌≡◌,
  ℕ,
  ◌<◌,
  ◌≤◌,
  Bool,
  true,
  false,
  List,
  [],
  ◌∷◌,
  Option,
  None,
  Some,
  MatchOption,
  length,
  map,
  slice_index_or,
  sym,
  subst,
  arith,
}
use Rattle.std.specs.Prelude.{codes}
use Rattle.wh_hunt_words.specs.Words.{AsksHunt, AsksPlainly, AsksWithWork}
use Rattle.wh_hunt_words.specs.declared.words.Hunt.{Hunt}

-- a list of three
pub three : {A : Type 0} (f : A → List ℕ) (xs : List A) (a b c : A) (r s t : List ℕ) → 3 ≤ length xs → length xs < 4
    → a ≡ slice_index_or xs 0 a → b ≡ slice_index_or xs 1 b → c ≡ slice_index_or xs 2 c
    → r ≡ f a → s ≡ f b → t ≡ f c → map f xs ≡ r ∷ s ∷ t ∷ []
three f [] a b c r s t least most p q o i j k = absurd (omega (arith, least))
three f (x ∷ []) a b c r s t least most p q o i j k = absurd (omega (arith, least))
three f (x ∷ y ∷ []) a b c r s t least most p q o i j k = absurd (omega (arith, least))
three f (x ∷ y ∷ z ∷ []) a b c r s t least most p q o i j k = cc
three f (x ∷ y ∷ z ∷ w ∷ ws) a b c r s t least most p q o i j k = absurd (omega (arith, most))

-- a list of one
pub one : {A : Type 0} (f : A → List ℕ) (xs : List A) (a : A) (r : List ℕ) → 1 ≤ length xs → length xs < 2
    → a ≡ slice_index_or xs 0 a → r ≡ f a → map f xs ≡ r ∷ []
one f [] a r least most p i = absurd (omega (arith, least))
one f (x ∷ []) a r least most p i = cc
one f (x ∷ y ∷ ys) a r least most p i = absurd (omega (arith, most))

-- a list of two
pub two : {A : Type 0} (f : A → List ℕ) (xs : List A) (a b : A) (r s : List ℕ) → 2 ≤ length xs → length xs < 3
    → a ≡ slice_index_or xs 0 a → b ≡ slice_index_or xs 1 b → r ≡ f a → s ≡ f b → map f xs ≡ r ∷ s ∷ []
two f [] a b r s least most p q i j = absurd (omega (arith, least))
two f (x ∷ []) a b r s least most p q i j = absurd (omega (arith, least))
two f (x ∷ y ∷ []) a b r s least most p q i j = cc
two f (x ∷ y ∷ z ∷ zs) a b r s least most p q i j = absurd (omega (arith, most))

-- a list of four
pub four : {A : Type 0} (f : A → List ℕ) (xs : List A) (a b c d : A) (r s t u : List ℕ) → 4 ≤ length xs → length xs < 5
    → a ≡ slice_index_or xs 0 a → b ≡ slice_index_or xs 1 b → c ≡ slice_index_or xs 2 c → d ≡ slice_index_or xs 3 d
    → r ≡ f a → s ≡ f b → t ≡ f c → u ≡ f d → map f xs ≡ r ∷ s ∷ t ∷ u ∷ []
four f [] a b c d r s t u least most o p q v i j k l = absurd (omega (arith, least))
four f (x ∷ []) a b c d r s t u least most o p q v i j k l = absurd (omega (arith, least))
four f (x ∷ y ∷ []) a b c d r s t u least most o p q v i j k l = absurd (omega (arith, least))
four f (x ∷ y ∷ z ∷ []) a b c d r s t u least most o p q v i j k l = absurd (omega (arith, least))
four f (x ∷ y ∷ z ∷ w ∷ []) a b c d r s t u least most o p q v i j k l = cc
four f (x ∷ y ∷ z ∷ w ∷ v' ∷ ws) a b c d r s t u least most o p q v i j k l = absurd (omega (arith, most))

-- what is found is what the words ask for
abbrev pub IsAsked : List (List ℕ) → Option Hunt → Type 0
IsAsked words found = MatchOption found ((file : List ℕ) (n : ℕ) (counts : Bool) → AsksHunt words file n counts → ⊥)
    (λ hunt. AsksHunt words hunt.file.now hunt.work hunt.counts)

same_words : (words ws : List (List ℕ)) (found : Option Hunt) → words ≡ ws → IsAsked ws found → IsAsked words found
same_words words ws found is h = subst (λ x. IsAsked x found) (sym is) h

pub asks_one : (words : List (List ℕ)) (r : List ℕ) (found : Option Hunt) → words ≡ r ∷ []
    → MatchOption found ((file : List ℕ) (n : ℕ) → AsksPlainly r file n → ⊥) (λ hunt. AsksPlainly r hunt.file.now hunt.work × (hunt.counts ≡ false))
    → IsAsked words found
asks_one words r None is h = same_words words (r ∷ []) None is (λ file n counts asks. h file n asks.0)
asks_one words r (Some hunt) is h = same_words words (r ∷ []) (Some hunt) is h

pub asks_two : (words : List (List ℕ)) (r last : List ℕ) (found : Option Hunt) → words ≡ r ∷ last ∷ [] → last ≡ codes "--stats"
    → MatchOption found ((file : List ℕ) (n : ℕ) → AsksPlainly r file n → ⊥) (λ hunt. AsksPlainly r hunt.file.now hunt.work × (hunt.counts ≡ true))
    → IsAsked words found
asks_two words r last None is stats h = same_words words (r ∷ last ∷ []) None is (λ file n counts asks. h file n asks.0)
asks_two words r last (Some hunt) is stats h = same_words words (r ∷ last ∷ []) (Some hunt) is (h.0, (stats, h.1))

pub asks_three : (words : List (List ℕ)) (r s t : List ℕ) (found : Option Hunt) → words ≡ r ∷ s ∷ t ∷ []
    → MatchOption found ((file : List ℕ) (n : ℕ) → AsksWithWork r s t file n → ⊥)
    (λ hunt. AsksWithWork r s t hunt.file.now hunt.work × (hunt.counts ≡ false))
    → IsAsked words found
asks_three words r s t None is h = same_words words (r ∷ s ∷ t ∷ []) None is (λ file n counts asks. h file n asks.0)
asks_three words r s t (Some hunt) is h = same_words words (r ∷ s ∷ t ∷ []) (Some hunt) is h

pub asks_four : (words : List (List ℕ)) (r s t last : List ℕ) (found : Option Hunt) → words ≡ r ∷ s ∷ t ∷ last ∷ [] → last ≡ codes "--stats"
    → MatchOption found ((file : List ℕ) (n : ℕ) → AsksWithWork r s t file n → ⊥)
    (λ hunt. AsksWithWork r s t hunt.file.now hunt.work × (hunt.counts ≡ true))
    → IsAsked words found
asks_four words r s t last None is stats h = same_words words (r ∷ s ∷ t ∷ last ∷ []) None is (λ file n counts asks. h file n asks.0)
asks_four words r s t last (Some hunt) is stats h = same_words words (r ∷ s ∷ t ∷ last ∷ []) (Some hunt) is (h.0, (stats, h.1))
