-- What words say, told from the first word: each of them in one way.
use Rattle.std.proofs.Common.{ℕ, ◌≡◌, List, [], ◌∷◌, ◌++◌, All, map, codes, get_or, refl, sym, ap, ◌∙◌, subst, arith}
use Rattle.std.specs.Fmt.{decimal}
use Rattle.wh_top_words.specs.Words.{Setting, tries, depth, visited, steps, option_of, Item, alone, set, IsFilled, IsPlain, Say, say_none, say_rest, say_alone, say_joined, say_apart}

option_is_not_plain : (s : Setting) → IsPlain (option_of s) → ⊥
option_is_not_plain tries plain = plain refl
option_is_not_plain depth plain = plain refl
option_is_not_plain visited plain = plain refl
option_is_not_plain steps plain = plain refl

joined_is_not_plain : (s : Setting) (number : List ℕ) → IsPlain (option_of s ++ 61 ∷ number) → ⊥
joined_is_not_plain tries number plain = plain refl
joined_is_not_plain depth number plain = plain refl
joined_is_not_plain visited number plain = plain refl
joined_is_not_plain steps number plain = plain refl

end_is_no_option : (s : Setting) → codes "--" ≡ option_of s → ⊥
end_is_no_option tries e = cc
end_is_no_option depth e = cc
end_is_no_option visited e = cc
end_is_no_option steps e = cc

end_is_not_joined : (s : Setting) (number : List ℕ) → codes "--" ≡ option_of s ++ 61 ∷ number → ⊥
end_is_not_joined tries number e = cc
end_is_not_joined depth number e = cc
end_is_not_joined visited number e = cc
end_is_not_joined steps number e = cc

-- the byte that tells the options apart
third : List ℕ → ℕ
third word = get_or word 2 0

mark : Setting → ℕ
mark tries = 116
mark depth = 100
mark visited = 118
mark steps = 115

mark_is_injective : (s t : Setting) → mark s ≡ mark t → s ≡ t
unfolding mark
mark_is_injective tries tries e = refl
mark_is_injective tries depth e = absurd (omega arith)
mark_is_injective tries visited e = absurd (omega arith)
mark_is_injective tries steps e = absurd (omega arith)
mark_is_injective depth tries e = absurd (omega arith)
mark_is_injective depth depth e = refl
mark_is_injective depth visited e = absurd (omega arith)
mark_is_injective depth steps e = absurd (omega arith)
mark_is_injective visited tries e = absurd (omega arith)
mark_is_injective visited depth e = absurd (omega arith)
mark_is_injective visited visited e = refl
mark_is_injective visited steps e = absurd (omega arith)
mark_is_injective steps tries e = absurd (omega arith)
mark_is_injective steps depth e = absurd (omega arith)
mark_is_injective steps visited e = absurd (omega arith)
mark_is_injective steps steps e = refl

third-option : (s : Setting) → third (option_of s) ≡ mark s
unfolding third mark
third-option tries = refl
third-option depth = refl
third-option visited = refl
third-option steps = refl

third-joined : (s : Setting) (number : List ℕ) → third (option_of s ++ 61 ∷ number) ≡ mark s
unfolding third mark
third-joined tries number = refl
third-joined depth number = refl
third-joined visited number = refl
third-joined steps number = refl

same_option : (s t : Setting) → option_of s ≡ option_of t → s ≡ t
same_option s t e = mark_is_injective s t (sym (third-option s) ∙ ap third e ∙ third-option t)

same_number : (s : Setting) (a b : List ℕ) → option_of s ++ 61 ∷ a ≡ option_of s ++ 61 ∷ b → a ≡ b
same_number tries a b e = cc
same_number depth a b e = cc
same_number visited a b e = cc
same_number steps a b e = cc

same_joined : (s t : Setting) (a b : List ℕ) → option_of s ++ 61 ∷ a ≡ option_of t ++ 61 ∷ b → (s ≡ t) × (a ≡ b)
same_joined s t a b e =
    let same = mark_is_injective s t (sym (third-joined s a) ∙ ap third e ∙ third-joined t b) in
    (same, same_number t a b (subst (λ u. option_of u ++ 61 ∷ a ≡ option_of t ++ 61 ∷ b) same e))

no_number : (s : Setting) (number : List ℕ) → option_of s ≡ option_of s ++ 61 ∷ number → ⊥
no_number tries number e = cc
no_number depth number e = cc
no_number visited number e = cc
no_number steps number e = cc

option_is_not_joined : (s t : Setting) (number : List ℕ) → option_of s ≡ option_of t ++ 61 ∷ number → ⊥
option_is_not_joined s t number e =
    let same = mark_is_injective s t (sym (third-option s) ∙ ap third e ∙ third-joined t number) in
    no_number t number (subst (λ u. option_of u ≡ option_of t ++ 61 ∷ number) same e)

-- no words say nothing
pub from_none : {items : List Item} → Say [] items → items ≡ []
from_none say_none = refl

-- `--` says that all behind it stand by themselves
pub from_end : {word : List ℕ} {rest : List (List ℕ)} {items : List Item} → word ≡ codes "--" → Say (word ∷ rest) items
    → All IsFilled rest × (items ≡ map alone rest)
from_end e (say_rest filled) = (filled, refl)
from_end e (say_alone plain said) = absurd (subst IsPlain e plain refl)
from_end e (say_joined {s} {n} said) = absurd (end_is_not_joined s (decimal n) (sym e))
from_end e (say_apart {s} said) = absurd (end_is_no_option s (sym e))

-- a plain word stands by itself
pub from_plain : {word : List ℕ} {rest : List (List ℕ)} {items : List Item} → IsPlain word → Say (word ∷ rest) items
    → (more : List Item) × Say rest more × (items ≡ alone word ∷ more)
from_plain plain (say_rest filled) = absurd (plain refl)
from_plain plain (say_alone {items = more} also said) = (more, said, refl)
from_plain plain (say_joined {s} {n} said) = absurd (joined_is_not_plain s (decimal n) plain)
from_plain plain (say_apart {s} said) = absurd (option_is_not_plain s plain)

-- an option with `=` sets the number behind that
pub from_joined : {word : List ℕ} {rest : List (List ℕ)} {items : List Item} (s : Setting) (number : List ℕ) → word ≡ option_of s ++ 61 ∷ number
    → Say (word ∷ rest) items → (n : ℕ) × (more : List Item) × (decimal n ≡ number) × Say rest more × (items ≡ set s n ∷ more)
from_joined s number e (say_rest filled) = absurd (end_is_not_joined s number e)
from_joined s number e (say_alone plain said) = absurd (joined_is_not_plain s number (subst IsPlain e plain))
from_joined s number e (say_joined {s = t} {n} {items = more} said) =
    let same = same_joined t s (decimal n) number e in
    (n, more, same.1, said, ap (λ u. set u n ∷ more) same.0)
from_joined s number e (say_apart {s = t} said) = absurd (option_is_not_joined t s number e)

-- an option alone sets the number that the next word spells
pub from_apart : {word : List ℕ} {rest : List (List ℕ)} {items : List Item} (s : Setting) → word ≡ option_of s → Say (word ∷ rest) items
    → (n : ℕ) × (left : List (List ℕ)) × (more : List Item) × (rest ≡ decimal n ∷ left) × Say left more × (items ≡ set s n ∷ more)
from_apart s e (say_rest filled) = absurd (end_is_no_option s e)
from_apart s e (say_alone plain said) = absurd (option_is_not_plain s (subst IsPlain e plain))
from_apart s e (say_joined {s = t} {n} said) = absurd (option_is_not_joined s t (decimal n) (sym e))
from_apart s e (say_apart {s = t} {n} {words = left} {items = more} said) = (n, left, more, refl, said, ap (λ u. set u n ∷ more) (same_option t s e))
