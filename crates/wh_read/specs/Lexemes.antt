-- The letters of the grammar: what a token is, its bytes looked up.
use Rattle.std.specs.Prelude.{ℕ, List, codes, Option, None, Some, if◌then◌else◌, bytes_eq}
use Rattle.wh_text.specs.Tokens.{Kind, name, keyword, dollar, percent, sign}

pub data Lexeme : Type 0 where
  a_name : (bytes : List ℕ) → Lexeme
  a_dollar a_percent : (n : ℕ) → Lexeme
  key_sort key_fun key_rule : Lexeme
  backslash colon dot semicolon comma : Lexeme
  open_paren close_paren open_bracket close_bracket open_brace close_brace : Lexeme
  thin_arrow thick_arrow : Lexeme

-- the keyword that the bytes spell
abbrev pub keyword_lexeme : List ℕ → Option Lexeme
keyword_lexeme bs =
    if bytes_eq bs (codes "sort") then Some key_sort else if bytes_eq bs (codes "fun") then Some key_fun else
    if bytes_eq bs (codes "rule") then Some key_rule else None

-- the sign that the bytes spell
abbrev pub sign_lexeme : List ℕ → Option Lexeme
sign_lexeme bs =
    if bytes_eq bs (codes "\\") then Some backslash else if bytes_eq bs (codes ":") then Some colon else
    if bytes_eq bs (codes ".") then Some dot else if bytes_eq bs (codes ";") then Some semicolon else
    if bytes_eq bs (codes ",") then Some comma else if bytes_eq bs (codes "(") then Some open_paren else
    if bytes_eq bs (codes ")") then Some close_paren else if bytes_eq bs (codes "[") then Some open_bracket else
    if bytes_eq bs (codes "]") then Some close_bracket else if bytes_eq bs (codes "{") then Some open_brace else
    if bytes_eq bs (codes "}") then Some close_brace else if bytes_eq bs (codes "->") then Some thin_arrow else
    if bytes_eq bs (codes "=>") then Some thick_arrow else None

-- the letter that a token is; None where the grammar has no such token
abbrev pub lexeme : Kind → Option Lexeme
lexeme (name bs) = Some (a_name bs)
lexeme (keyword bs) = keyword_lexeme bs
lexeme (dollar n) = Some (a_dollar n)
lexeme (percent n) = Some (a_percent n)
lexeme (sign bs) = sign_lexeme bs
