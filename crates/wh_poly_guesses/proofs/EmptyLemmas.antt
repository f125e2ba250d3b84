-- A list of which a test has told that it is empty.
use Rattle.std.proofs.Common.{◌≡◌, ℕ, ◌==◌, Bool, true, List, [], ◌∷◌, length, sym, ◌∙◌, arith}
use Rattle.std.proofs.lemmas.Bool.Decides.{nat_tests}

pub empty_list : (l m : List ℕ) (told : Bool) → l ≡ m → told ≡ (length l == 0) → told ≡ true → m ≡ []
empty_list [] m told same is t = sym same
empty_list (x ∷ l) m told same is t =
    let e : (length (x ∷ l) == 0) ≡ true = sym is ∙ t in
    let z : length (x ∷ l) ≡ 0 = grind (arith, nat_tests, e) in
    absurd (omega (arith, z))
