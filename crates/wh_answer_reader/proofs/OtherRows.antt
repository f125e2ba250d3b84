-- No other row has such words.
use Rattle.std.proofs.Common.{ℕ, ◌≡◌, ◌≢◌, ◌<◌, ◌^◌, ◌++◌, List, [], ◌∷◌, length, true, false, codes, sym, subst, arith}
use Rattle.std.proofs.lemmas.List.{length-map}
use Rattle.std.specs.Borrow.{Bor}
use Rattle.std.specs.Fmt.{decimal}
use Rattle.wh_text.specs.Words.{IsWord}
use Rattle.wh_answer.specs.declared.report.NamedRejection.{NamedRejection}
use Rattle.wh_answer.specs.declared.report.NamedRejection.TheVariants as row
use Rattle.wh_answer.specs.Stands.{RowStands}
use Rattle.wh_answer.specs.Words.{at_node, row_words}
use Rattle.wh_answer_reader.specs.Seen.{seen}
use Rattle.wh_answer.proofs.Spelled.{word_no_mark}
use Rattle.wh_answer_reader.proofs.Spelled.{number_no_word, number_no_marked}

pub no_number_row : (r : NamedRejection) (k a : ℕ) (word : List ℕ) → RowStands r → a < 2 ^ 32 → word ≢ codes "loops" → word ≢ codes "not-partition" → word ≢ codes "not-decreasing" → row_words r ≡ at_node k (word ∷ decimal a ∷ []) → ⊥
no_number_row (row.NoProjection j f) k a word h s l p d e = let q : decimal a ≡ f = cc in number_no_word a f s h.1 q
no_number_row (row.BadArgument j f) k a word h s l p d e = let q : decimal a ≡ f = cc in number_no_word a f s h.1 q
no_number_row (row.BadPolynomial j f false) k a word h s l p d e = let q : decimal a ≡ f = cc in number_no_word a f s h.1 q
no_number_row (row.BadPolynomial j f true) k a word h s l p d e = let q : decimal a ≡ f ++ codes "#" = cc in number_no_marked a f s h.1 q
no_number_row (row.BadFilter j f false) k a word h s l p d e = let q : decimal a ≡ f = cc in number_no_word a f s h.1 q
no_number_row (row.BadFilter j f true) k a word h s l p d e = let q : decimal a ≡ f ++ codes "#" = cc in number_no_marked a f s h.1 q
no_number_row r k a word h s l p d e = grind arith

pub no_symbol_row : (r : NamedRejection) (k : ℕ) (word f : List ℕ) → RowStands r → IsWord f → word ≢ codes "no-projection" → word ≢ codes "bad-argument" → word ≢ codes "bad-polynomial" → word ≢ codes "bad-filter" → row_words r ≡ at_node k (word ∷ f ∷ []) → ⊥
no_symbol_row (row.Loops j a) k word f h s l p d b e = let q : decimal a ≡ f = cc in number_no_word a f h.1 s q
no_symbol_row (row.NotPartition j a) k word f h s l p d b e = let q : decimal a ≡ f = cc in number_no_word a f h.1 s q
no_symbol_row (row.NotDecreasing j a) k word f h s l p d b e = let q : decimal a ≡ f = cc in number_no_word a f h.1 s q
no_symbol_row r k word f h s l p d b e = grind arith

pub no_marked_row : (r : NamedRejection) (k : ℕ) (word f : List ℕ) → RowStands r → IsWord f → word ≢ codes "bad-polynomial"
    → word ≢ codes "bad-filter" → row_words r ≡ at_node k (word ∷ (f ++ codes "#") ∷ []) → ⊥
no_marked_row (row.Loops j a) k word f h s d b e = let q : decimal a ≡ f ++ codes "#" = cc in number_no_marked a f h.1 s q
no_marked_row (row.NotPartition j a) k word f h s d b e = let q : decimal a ≡ f ++ codes "#" = cc in number_no_marked a f h.1 s q
no_marked_row (row.NotDecreasing j a) k word f h s d b e = let q : decimal a ≡ f ++ codes "#" = cc in number_no_marked a f h.1 s q
no_marked_row (row.NoProjection j v) k word f h s d b e = let q : v ≡ f ++ codes "#" = cc in word_no_mark v f h.1 q
no_marked_row (row.BadArgument j v) k word f h s d b e = let q : v ≡ f ++ codes "#" = cc in word_no_mark v f h.1 q
no_marked_row r k word f h s d b e = grind arith

-- a row of a node has one to four words behind the number of the node
short_words : (r : NamedRejection) (number : List ℕ) (rest : List (List ℕ)) → row_words r ≡ codes "node" ∷ number ∷ rest
    → length rest < 1 → ⊥
short_words r number [] e few = grind arith
short_words r number (x ∷ xs) e few = omega (arith, few)

long_words : (r : NamedRejection) (number : List ℕ) (rest : List (List ℕ)) → row_words r ≡ codes "node" ∷ number ∷ rest
    → 4 < length rest → ⊥
long_words r number [] e many = omega (arith, many)
long_words r number (a ∷ []) e many = omega (arith, many)
long_words r number (a ∷ b ∷ []) e many = omega (arith, many)
long_words r number (a ∷ b ∷ d ∷ []) e many = omega (arith, many)
long_words r number (a ∷ b ∷ d ∷ f ∷ []) e many = omega (arith, many)
long_words r number (a ∷ b ∷ d ∷ f ∷ g ∷ rest) e many = grind arith

pub no_short_row : (r : NamedRejection) (number : List ℕ) (rest : List (Bor (List ℕ))) → row_words r ≡ codes "node" ∷ number ∷ seen rest
    → length rest < 1 → ⊥
no_short_row r number rest e few =
    short_words r number (seen rest) e (subst (λ n. n < 1) (sym (length-map rest (λ (w : Bor (List ℕ)). w.now))) few)

pub no_long_row : (r : NamedRejection) (number : List ℕ) (rest : List (Bor (List ℕ))) → row_words r ≡ codes "node" ∷ number ∷ seen rest
    → 4 < length rest → ⊥
no_long_row r number rest e many =
    long_words r number (seen rest) e (subst (λ n. 4 < n) (sym (length-map rest (λ (w : Bor (List ℕ)). w.now))) many)
