-- A letter of the grammar is one kind of token, and a token is one letter.
use Rattle.std.proofs.Common.{◌≡◌, ℕ, List, Bool, true, false, Option, None, Some, refl, ap, ◌∙◌, codes, if◌then◌else◌, bytes_eq}
use Rattle.std.proofs.lemmas.Slice.Eq.{bytes_eq-Decides}
use Rattle.wh_text.specs.Tokens.{Kind, name, keyword, dollar, percent, sign}
use Rattle.wh_read.specs.Lexemes.{Lexeme, a_name, a_dollar, a_percent, key_sort, key_fun, key_rule, backslash, colon, dot, semicolon, comma, open_paren, close_paren, open_bracket, close_bracket, open_brace, close_brace, thin_arrow, thick_arrow, lexeme}

-- the kind of the token that a letter is
abbrev pub kind_of : Lexeme → Kind
kind_of (a_name bs) = name bs
kind_of (a_dollar n) = dollar n
kind_of (a_percent n) = percent n
kind_of key_sort = keyword (codes "sort")
kind_of key_fun = keyword (codes "fun")
kind_of key_rule = keyword (codes "rule")
kind_of backslash = sign (codes "\\")
kind_of colon = sign (codes ":")
kind_of dot = sign (codes ".")
kind_of semicolon = sign (codes ";")
kind_of comma = sign (codes ",")
kind_of open_paren = sign (codes "(")
kind_of close_paren = sign (codes ")")
kind_of open_bracket = sign (codes "[")
kind_of close_bracket = sign (codes "]")
kind_of open_brace = sign (codes "{")
kind_of close_brace = sign (codes "}")
kind_of thin_arrow = sign (codes "->")
kind_of thick_arrow = sign (codes "=>")

pub lexeme_kind : (l : Lexeme) → lexeme (kind_of l) ≡ Some l
lexeme_kind (a_name bs) = refl
lexeme_kind (a_dollar n) = refl
lexeme_kind (a_percent n) = refl
lexeme_kind key_sort = refl
lexeme_kind key_fun = refl
lexeme_kind key_rule = refl
lexeme_kind backslash = refl
lexeme_kind colon = refl
lexeme_kind dot = refl
lexeme_kind semicolon = refl
lexeme_kind comma = refl
lexeme_kind open_paren = refl
lexeme_kind close_paren = refl
lexeme_kind open_bracket = refl
lexeme_kind close_bracket = refl
lexeme_kind open_brace = refl
lexeme_kind close_brace = refl
lexeme_kind thin_arrow = refl
lexeme_kind thick_arrow = refl

-- the token k is of the kind of the letter, where it is one
abbrev pub Is : Kind → Option Lexeme → Type 0
Is k None = Unit {0}
Is k (Some l) = k ≡ kind_of l

pub bytes_same : (xs ys : List ℕ) → bytes_eq xs ys ≡ true → xs ≡ ys
bytes_same xs ys e = (bytes_eq-Decides xs ys).0 e

-- one test of the chain
tested : (make : List ℕ → Kind) (xs ys : List ℕ) (l : Lexeme) (rest : Option Lexeme) → make ys ≡ kind_of l → Is (make xs) rest → Is (make xs) (if bytes_eq xs ys then Some l else rest)
tested make xs ys l rest h i = cond_is (bytes_eq xs ys) (λ e. ap make (bytes_same xs ys e) ∙ h)
  where
    cond_is : (b : Bool) → (b ≡ true → make xs ≡ kind_of l) → Is (make xs) (if b then Some l else rest)
    cond_is true h = h refl
    cond_is false h = i

pub kind_lexeme : (k : Kind) → Is k (lexeme k)
kind_lexeme (name bs) = refl
kind_lexeme (dollar n) = refl
kind_lexeme (percent n) = refl
kind_lexeme (keyword bs) =
    let test = tested keyword bs in
    test _ _ _ refl (test _ _ _ refl (test _ _ _ refl tt))
kind_lexeme (sign bs) =
    let test = tested sign bs in
    test _ _ _ refl (test _ _ _ refl (test _ _ _ refl (test _ _ _ refl (test _ _ _ refl (test _ _ _ refl (test _ _ _ refl
    (test _ _ _ refl (test _ _ _ refl (test _ _ _ refl (test _ _ _ refl (test _ _ _ refl (test _ _ _ refl tt))))))))))))
