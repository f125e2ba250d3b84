-- Which files words name.
use Rattle.std.proofs.Common.{ℕ, ◌≡◌, ◌+◌, ◌<◌, ◌↔◌, ◌⊎◌, inl, inr, List, [], ◌∷◌, ◌++◌, length, get_or, take, drop, ◌-◌, ◌≤◌, ap₂, refl, sym, ap, ◌∙◌, subst, arith, All, map}
use Rattle.std.specs.Prelude.{codes}
use Rattle.std.proofs.Math.Seq.{get_or-append_seam}
use Rattle.std.proofs.lemmas.List.{map_more, take_all, drop_more, length-append, length-map, map-append, take-append-drop}
use Rattle.wh_explain_words.specs.Asked.{Asked, explain, explain_by, lint, graph, Asks, IsName, Name}

-- the list that a loop has come to place i of
pub at_turn : {A : Type 0} (f : A → List ℕ) (xs : List A) (i : ℕ) (x : A) → i < length xs → x ≡ get_or xs i x
    → map f xs ≡ map f (take i xs) ++ f x ∷ map f (drop (i + 1) xs)
at_turn f xs i x small is =
    ap (map f) (sym (take-append-drop i xs)) ∙ map-append f (take i xs) (drop i xs)
    ∙ ap (λ ys. map f (take i xs) ++ map f ys) (drop_more xs i x small)
    ∙ ap (λ y. map f (take i xs) ++ f y ∷ map f (drop (i + 1) xs)) (sym is)

pub next_turn : {A : Type 0} (f : A → List ℕ) (xs : List A) (i : ℕ) (x : A) → i < length xs → x ≡ get_or xs i x
    → map f (take (i + 1) xs) ≡ map f (take i xs) ++ f x ∷ []
next_turn f xs i x small is = map_more f xs i x small ∙ ap (λ y. map f (take i xs) ++ f y ∷ []) (sym is)

pub name_among : (front : List (List ℕ)) (word : List ℕ) (back words : List (List ℕ)) → words ≡ front ++ word ∷ back → All IsName words
    → IsName word
name_among front word back words is all =
    subst IsName (rw is (get_or-append_seam front word back word)) (all (length front) word (rw (is, length-append) (omega arith)))

first_name : (word : List ℕ) (words : List (List ℕ)) → All IsName (word ∷ words) → IsName word
first_name word words all = all 0 word (omega arith)

-- the word that ends the options is no name
dashes_first : (names words : List (List ℕ)) → words ≡ codes "--" ∷ names → All IsName words → ⊥
dashes_first names words is all = first_name (codes "--") names (subst (All IsName) is all) refl

tails : (a b : List ℕ) (xs ys : List (List ℕ)) → a ∷ xs ≡ b ∷ ys → xs ≡ ys
tails a b xs ys e = cc

-- all words behind it are names of files
pub named_behind : (rest words : List (List ℕ)) → words ≡ codes "--" ∷ rest → (files : List (List ℕ)) → Name words files ↔ (files ≡ rest)
named_behind rest words is files = (to, λ e. inr (is ∙ ap (λ ys. codes "--" ∷ ys) (sym e)))
  where
    to : Name words files → files ≡ rest
    to (inl (same, all)) = absurd (dashes_first rest files (sym same ∙ is) all)
    to (inr e) = sym (tails (codes "--") (codes "--") rest files (sym is ∙ e))

-- words that are names name themselves
pub named_alone : (words : List (List ℕ)) → All IsName words → (files : List (List ℕ)) → Name words files ↔ (files ≡ words)
named_alone words all files = (to, λ e. inl (sym e, subst (All IsName) (sym e) all))
  where
    to : Name words files → files ≡ words
    to (inl (same, names)) = sym same
    to (inr e) = absurd (dashes_first files words e all)

-- no words but these two kinds name files
pub named_none : (words : List (List ℕ)) → (All IsName words → ⊥) → ((names : List (List ℕ)) → words ≡ codes "--" ∷ names → ⊥)
    → (names : List (List ℕ)) → Name words names → ⊥
named_none words some plain names (inl (same, all)) = some (subst (All IsName) (sym same) all)
named_none words some plain names (inr e) = plain names e

-- a list by its first member
pub first_word : {A : Type 0} (f : A → List ℕ) (xs : List A) (x : A) (word : List ℕ) → 1 ≤ length xs → x ≡ get_or xs 0 x → word ≡ f x
    → map f xs ≡ word ∷ map f (take (length xs - 1) (drop 1 xs))
first_word f [] x word some is same = absurd (omega arith)
first_word f (y ∷ ys) x word some is same =
    let first : f y ≡ word = ap f (sym is) ∙ sym same in
    let rest : take (length (y ∷ ys) - 1) ys ≡ ys = take_all (length (y ∷ ys) - 1) ys (omega arith) in
    ap₂ (λ w ws. w ∷ map f ws) first (sym rest)

-- by its only one
pub one_word : {A : Type 0} (f : A → List ℕ) (xs : List A) (x : A) (word : List ℕ) → length xs ≡ 1 → x ≡ get_or xs 0 x → word ≡ f x
    → map f xs ≡ word ∷ []
one_word f [] x word one is same = absurd (omega arith)
one_word f (y ∷ []) x word one is same = ap (λ w. w ∷ []) (ap f (sym is) ∙ sym same)
one_word f (y ∷ z ∷ zs) x word one is same = absurd (omega arith)

-- by its two
pub two_words : {A : Type 0} (f : A → List ℕ) (xs : List A) (x y : A) (word other : List ℕ) → length xs ≡ 2 → x ≡ get_or xs 0 x
    → y ≡ get_or xs 1 y → word ≡ f x → other ≡ f y → map f xs ≡ word ∷ other ∷ []
two_words f [] x y word other two first second is same = absurd (omega arith)
two_words f (a ∷ []) x y word other two first second is same = absurd (omega arith)
two_words f (a ∷ b ∷ []) x y word other two first second is same =
    ap₂ (λ v w. v ∷ w ∷ []) (ap f (sym first) ∙ sym is) (ap f (sym second) ∙ sym same)
two_words f (a ∷ b ∷ c ∷ cs) x y word other two first second is same = absurd (omega arith)

-- words behind an option name no files with it
lint_names_none : (rest names words : List (List ℕ)) → words ≡ codes "--lint" ∷ rest → Name words names → ⊥
lint_names_none rest names words is (inl (same, all)) = first_name (codes "--lint") rest (subst (All IsName) (sym same ∙ is) all) refl
lint_names_none rest names words is (inr e) = cc

graph_names_none : (rest names words : List (List ℕ)) → words ≡ codes "--graph" ∷ rest → Name words names → ⊥
graph_names_none rest names words is (inl (same, all)) = first_name (codes "--graph") rest (subst (All IsName) (sym same ∙ is) all) refl
graph_names_none rest names words is (inr e) = cc

-- what is asked for behind an option asks for one file
pub lint_asks : (rest words : List (List ℕ)) → words ≡ codes "--lint" ∷ rest → ((file : List ℕ) → Name rest (file ∷ []) → ⊥) → (asked : Asked)
    → Asks words asked → ⊥
lint_asks rest words is none (explain file) asks = lint_names_none rest _ words is asks
lint_asks rest words is none (explain_by file cert) asks = lint_names_none rest _ words is asks
lint_asks rest words is none (lint file) (behind, e, name) =
    none file (subst (λ ws. Name ws (file ∷ [])) (tails (codes "--lint") (codes "--lint") behind rest (sym e ∙ is)) name)
lint_asks rest words is none (graph file) (behind, e, name) = cc

pub graph_asks : (rest words : List (List ℕ)) → words ≡ codes "--graph" ∷ rest → ((file : List ℕ) → Name rest (file ∷ []) → ⊥) → (asked : Asked)
    → Asks words asked → ⊥
graph_asks rest words is none (explain file) asks = graph_names_none rest _ words is asks
graph_asks rest words is none (explain_by file cert) asks = graph_names_none rest _ words is asks
graph_asks rest words is none (lint file) (behind, e, name) = cc
graph_asks rest words is none (graph file) (behind, e, name) =
    none file (subst (λ ws. Name ws (file ∷ [])) (tails (codes "--graph") (codes "--graph") behind rest (sym e ∙ is)) name)

-- neither one file nor two
pub few_none : (words files : List (List ℕ)) → ((other : List (List ℕ)) → Name words other ↔ (other ≡ files)) → (length files ≡ 1 → ⊥)
    → (length files ≡ 2 → ⊥) → (names : List (List ℕ)) → Name words names → (length names ≡ 1) ⊎ (length names ≡ 2) → ⊥
few_none words files are one two names name (inl n) = one (ap length (sym ((are names).0 name)) ∙ n)
few_none words files are one two names name (inr n) = two (ap length (sym ((are names).0 name)) ∙ n)

-- words that name other than one file name no one
pub no_one : {A : Type 0} (f : A → List ℕ) (words : List (List ℕ)) (xs : List A) → ((other : List (List ℕ)) → Name words other ↔ (other ≡ map f xs))
    → (length xs ≡ 1 → ⊥) → (file : List ℕ) → Name words (file ∷ []) → ⊥
no_one f words xs are one file name = one (sym (length-map xs f) ∙ sym (ap length ((are (file ∷ [])).0 name)))
