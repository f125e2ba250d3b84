-- One more item that the words say.
use Rattle.std.proofs.Common.{ℕ, ◌≡◌, List, [], ◌∷◌, ◌++◌, All, map, codes, sym, ap, ◌∙◌, subst, append_assoc}
use Rattle.std.specs.Fmt.{decimal}
use Rattle.std.proofs.lemmas.Fmt.{decimal_injective}
use Rattle.std.proofs.lemmas.List.{append-nil}
use Rattle.wh_top_words.specs.Words.{Setting, option_of, Item, alone, set, IsFilled, IsPlain, Say, say_none, say_rest, say_alone, say_joined, say_apart}
use Rattle.wh_top_words.specs.Kept.{Fits, Within, Follows}
use Rattle.wh_top_words.proofs.Among.{room_for_number, within_is_long}
use Rattle.wh_top_words.proofs.Saying.{from_none, from_end, from_plain, from_joined, from_apart}

-- the first word behind says the item, if anything that can be kept, and then what the rest says
record Says (items : List Item) (words : List (List ℕ)) (item : Item) (rest : List (List ℕ)) : Type 0 where
  says : (more : List Item) → Say rest more → Say words (item ∷ more)
  all : (found : List Item) → Say words found → Fits (items ++ found) → (more : List Item) × Say rest more × (found ≡ item ∷ more)

longer : {all words rest : List (List ℕ)} {items : List Item} {item : Item} → Follows all items words → Says items words item rest
    → Follows all (items ++ item ∷ []) rest
longer {items = items} {item} f s = record {
  says = λ more said. rw append_assoc (f.says (item ∷ more) (s.says more said));
  all = λ found said fits.
      let first = f.all found said fits in
      let then = s.all first.0 first.1 (subst Fits first.2 fits) in
      (then.0, then.1, first.2 ∙ ap (λ is. items ++ is) then.2 ∙ sym (append_assoc items (item ∷ []) then.0));
}

pub follows_plain : {all rest : List (List ℕ)} {items : List Item} {word : List ℕ} → IsPlain word → Follows all items (word ∷ rest)
    → Follows all (items ++ alone word ∷ []) rest
follows_plain plain f = longer f (record {
  says = λ more said. say_alone plain said;
  all = λ found said fits. from_plain plain said;
})

one_number : (s : Setting) (m n : ℕ) (items more : List Item) → Fits (items ++ set s m ∷ more) → Within s n → decimal m ≡ decimal n → m ≡ n
one_number s m n items more fits within e =
    let here = (room_for_number s m items more fits).1 in
    decimal_injective m n (within_is_long s m here) (within_is_long s n within) e

pub follows_joined : {all rest : List (List ℕ)} {items : List Item} {word : List ℕ} (s : Setting) (n : ℕ)
    → word ≡ option_of s ++ 61 ∷ decimal n → Within s n → Follows all items (word ∷ rest) → Follows all (items ++ set s n ∷ []) rest
follows_joined {rest = rest} {items} {word} s n is within f = longer f (record {
  says = λ more said. rw is (say_joined said);
  all = λ found said fits.
      let q = from_joined s (decimal n) is said in
      let here : Fits (items ++ set s q.0 ∷ q.1) = subst (λ (is : List Item). Fits (items ++ is)) q.4 fits in
      (q.1, q.3, q.4 ∙ ap (λ m. set s m ∷ q.1) (one_number s q.0 n items q.1 here within q.2));
})

pub follows_apart : {all rest : List (List ℕ)} {items : List Item} {word number : List ℕ} (s : Setting) (n : ℕ)
    → word ≡ option_of s → number ≡ decimal n → Within s n → Follows all items (word ∷ number ∷ rest) → Follows all (items ++ set s n ∷ []) rest
follows_apart {rest = rest} {items} {word} {number} s n is spelled within f = longer f (record {
  says = λ more said. rw (is, spelled) (say_apart said);
  all = λ found said fits.
      let q = from_apart s is said in
      let m = q.0 in
      let here : Fits (items ++ set s m ∷ q.2) = subst (λ (is : List Item). Fits (items ++ is)) q.5 fits in
      let one : m ≡ n = one_number s m n items q.2 here within (cc q.3) in
      let left : q.1 ≡ rest = cc q.3 in
      (q.2, subst (λ words. Say words q.2) left q.4, q.5 ∙ ap (λ k. set s k ∷ q.2) one);
})

pub follows_end : {all rest : List (List ℕ)} {items : List Item} {word : List ℕ} → word ≡ codes "--" → All IsFilled rest
    → Follows all items (word ∷ rest) → Follows all (items ++ map alone rest) []
follows_end {rest = rest} {items} is filled f = record {
  says = λ more said. rw (from_none said, append-nil) (f.says (map alone rest) (rw is (say_rest filled)));
  all = λ found said fits.
      let first = f.all found said fits in
      let then = from_end is first.1 in
      ([], say_none, first.2 ∙ ap (λ is. items ++ is) then.1 ∙ sym (append-nil (items ++ map alone rest)));
}
