-- The first of the items that are left of a certificate.
use Rattle.std.proofs.Common.{◌≡◌, ℕ, List, [], ◌∷◌, ◌++◌, map, refl, ap}
use Rattle.wh_terms.specs.declared.path.Step as taken
use Rattle.wh_text.specs.RawTree.{RTm}
use Rattle.wh_cert.specs.Written as w
use Rattle.wh_cert.specs.Written.{Cert, yes, no}
use Rattle.wh_cert.specs.Items.{Item, yes_head, node, no_head, step, at, put, end, items}
use Rattle.wh_checker_walk.specs.Walking.{behind_steps}

-- the first of all

pub first_yes : (version : ℕ) (ranks : List ℕ) (pairs : ℕ) (c : Cert) (rest : List Item) → yes_head version ranks pairs ∷ rest ≡ items c
    → (lines : List w.Node) × (c ≡ yes version ranks pairs lines) × (rest ≡ map node lines ++ end ∷ [])
first_yes version ranks pairs (yes v r p lines) rest e =
    let f : yes_head version ranks pairs ∷ rest ≡ yes_head v r p ∷ (map node lines ++ end ∷ []) = e in
    let one : version ≡ v = cc in
    let two : ranks ≡ r = cc in
    let three : pairs ≡ p = cc in
    let tail : rest ≡ map node lines ++ end ∷ [] = cc in
    let same : yes v r p lines ≡ yes version ranks pairs lines = cc in
    (lines, same, tail)
first_yes version ranks pairs (no t steps path puts) rest e =
    let f : yes_head version ranks pairs ∷ rest ≡ no_head t ∷ (map step steps ++ behind_steps path puts) = e in absurd (cc)

pub first_no : (t : RTm) (c : Cert) (rest : List Item) → no_head t ∷ rest ≡ items c
    → (steps : List taken.Step) × (path : List ℕ) × (puts : List w.Put) × (c ≡ no t steps path puts)
    × (rest ≡ map step steps ++ behind_steps path puts)
first_no t (yes v r p lines) rest e =
    let f : no_head t ∷ rest ≡ yes_head v r p ∷ (map node lines ++ end ∷ []) = e in absurd (cc)
first_no t (no u steps path puts) rest e =
    let f : no_head t ∷ rest ≡ no_head u ∷ (map step steps ++ behind_steps path puts) = e in
    let one : t ≡ u = cc in
    let tail : rest ≡ map step steps ++ behind_steps path puts = cc in
    let same : no u steps path puts ≡ no t steps path puts = cc in
    (steps, path, puts, same, tail)

-- a node, or the end

pub more_nodes : (x : w.Node) (rest : List Item) (left : List w.Node) → node x ∷ rest ≡ map node left ++ end ∷ []
    → (others : List w.Node) × (left ≡ x ∷ others) × (rest ≡ map node others ++ end ∷ [])
more_nodes x rest [] e = let f : node x ∷ rest ≡ end ∷ [] = e in absurd (cc)
more_nodes x rest (y ∷ others) e =
    let f : node x ∷ rest ≡ node y ∷ (map node others ++ end ∷ []) = e in
    let one : y ≡ x = cc in
    let tail : rest ≡ map node others ++ end ∷ [] = cc in
    (others, ap (λ z. z ∷ others) one, tail)

pub no_nodes : (rest : List Item) (left : List w.Node) → end ∷ rest ≡ map node left ++ end ∷ [] → (left ≡ []) × (rest ≡ [])
no_nodes rest [] e = let f : end ∷ rest ≡ end ∷ [] = e in let tail : rest ≡ [] = cc in (refl, tail)
no_nodes rest (y ∷ others) e = let f : end ∷ rest ≡ node y ∷ (map node others ++ end ∷ []) = e in absurd (cc)

-- a step, or the place

pub more_steps : (s : taken.Step) (rest : List Item) (left : List taken.Step) (path : List ℕ) (puts : List w.Put)
    → step s ∷ rest ≡ map step left ++ behind_steps path puts
    → (others : List taken.Step) × (left ≡ s ∷ others) × (rest ≡ map step others ++ behind_steps path puts)
more_steps s rest [] path puts e = let f : step s ∷ rest ≡ at path ∷ (map put puts ++ end ∷ []) = e in absurd (cc)
more_steps s rest (y ∷ others) path puts e =
    let f : step s ∷ rest ≡ step y ∷ (map step others ++ behind_steps path puts) = e in
    let one : y ≡ s = cc in
    let tail : rest ≡ map step others ++ behind_steps path puts = cc in
    (others, ap (λ z. z ∷ others) one, tail)

pub no_steps : (way : List ℕ) (rest : List Item) (left : List taken.Step) (path : List ℕ) (puts : List w.Put)
    → at way ∷ rest ≡ map step left ++ behind_steps path puts → (left ≡ []) × (way ≡ path) × (rest ≡ map put puts ++ end ∷ [])
no_steps way rest [] path puts e =
    let f : at way ∷ rest ≡ at path ∷ (map put puts ++ end ∷ []) = e in
    let one : way ≡ path = cc in
    let tail : rest ≡ map put puts ++ end ∷ [] = cc in
    (refl, one, tail)
no_steps way rest (y ∷ others) path puts e =
    let f : at way ∷ rest ≡ step y ∷ (map step others ++ behind_steps path puts) = e in absurd (cc)

-- a line of what is put, or the end

pub more_puts : (p : w.Put) (rest : List Item) (left : List w.Put) → put p ∷ rest ≡ map put left ++ end ∷ []
    → (others : List w.Put) × (left ≡ p ∷ others) × (rest ≡ map put others ++ end ∷ [])
more_puts p rest [] e = let f : put p ∷ rest ≡ end ∷ [] = e in absurd (cc)
more_puts p rest (y ∷ others) e =
    let f : put p ∷ rest ≡ put y ∷ (map put others ++ end ∷ []) = e in
    let one : y ≡ p = cc in
    let tail : rest ≡ map put others ++ end ∷ [] = cc in
    (others, ap (λ z. z ∷ others) one, tail)

pub no_puts : (rest : List Item) (left : List w.Put) → end ∷ rest ≡ map put left ++ end ∷ [] → (left ≡ []) × (rest ≡ [])
no_puts rest [] e = let f : end ∷ rest ≡ end ∷ [] = e in let tail : rest ≡ [] = cc in (refl, tail)
no_puts rest (y ∷ others) e = let f : end ∷ rest ≡ put y ∷ (map put others ++ end ∷ []) = e in absurd (cc)
