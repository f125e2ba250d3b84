-- Classes of bytes in texts (space, digits, parts of names), and runs of bytes of one class.
use Rattle.std.specs.Prelude.{ℕ, ◌≡◌, ◌==◌, ◌&&◌, ◌||◌, not, nat_le, Bool, true, false, List, [], ◌∷◌}

-- the byte that ends a line, and the one that parts fields
abbrev pub line_feed : ℕ
line_feed = 10

abbrev pub space : ℕ
space = 32

-- space, tab, carriage return, line feed
abbrev pub is_space : ℕ → Bool
is_space b = (b == space) || ((b == 9) || ((b == 13) || (b == line_feed)))

-- an ASCII digit
abbrev pub is_digit : ℕ → Bool
is_digit b = nat_le 48 b && nat_le b 57

-- an ASCII letter or an underscore: what a name begins with
abbrev pub is_start : ℕ → Bool
is_start b = (nat_le 65 b && nat_le b 90) || ((nat_le 97 b && nat_le b 122) || (b == 95))

-- what a name goes on with: these, digits and the apostrophe
abbrev pub is_part : ℕ → Bool
is_part b = is_start b || (is_digit b || (b == 39))

-- what a comment goes on with: all but a line feed
abbrev pub is_comment : ℕ → Bool
is_comment b = not (b == line_feed)

-- the signs of one byte: \ : . ; , ( ) [ ] { }
abbrev pub is_sign : ℕ → Bool
is_sign b = (b == 92) || ((b == 58) || ((b == 46) ||
    ((b == 59) || ((b == 44) || ((b == 40) || ((b == 41) || ((b == 91) || ((b == 93) || ((b == 123) || (b == 125))))))))))

-- each byte passes the test
abbrev pub AllPass : (ℕ → Bool) → List ℕ → Type 0
AllPass test [] = Unit {0}
AllPass test (b ∷ bs) = (test b ≡ true) × AllPass test bs

-- no byte that passes the test comes next
abbrev pub Stops : (ℕ → Bool) → List ℕ → Type 0
Stops test [] = Unit {0}
Stops test (b ∷ bs) = test b ≡ false
