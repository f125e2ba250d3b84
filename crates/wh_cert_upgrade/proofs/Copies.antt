-- A list that is copied item by item keeps pace with the one that it follows.
use Rattle.std.proofs.Common.{◌≡◌, ℕ, ◌+◌, ◌<◌, ◌≤◌, List, [], ◌∷◌, ◌++◌, length, take, get_or, map, refl, sym, ap, ◌∙◌}
use Rattle.std.proofs.lemmas.List.{map_push, map_more, take_all}
use Rattle.wh_text.specs.Erase.{rty, rtm}
use Rattle.wh_text.specs.declared.raw.RawType.{RawType}
use Rattle.wh_text.specs.declared.raw.RawTerm.{RawTerm}
use Rattle.wh_order_inference.specs.Said.{inference}
use Rattle.wh_order_inference.specs.declared.inference.Inference.{Inference}
use Rattle.wh_cert.specs.Written as w
use Rattle.wh_cert.specs.Said.{said_put, said_interp, said_node}
use Rattle.wh_cert.specs.declared.certificate.Put.{Put}
use Rattle.wh_cert.specs.declared.certificate.Node.{Node}
use Rattle.wh_cert.specs.declared.poly_node.Interp.{Interp}
use Rattle.wh_cert_upgrade.specs.Upgraded.{upgraded_node}

-- whatever is said of an item: g of those that are copied, f of the copies
joins : {X Y : Type 0} (f g : X → Y) (xs old new : List X) (i : ℕ) (x r : X) → map f old ≡ map g (take i xs) → new ≡ old ++ r ∷ [] → f r ≡ g x → i < length xs → x ≡ get_or xs i x
    → map f new ≡ map g (take (i + 1) xs)
joins {X} {Y} f g xs old new i x r same is equal within here =
    ap (map f) is ∙ map_push f old r
    ∙ ap (λ (ys : List Y). ys ++ f r ∷ []) same
    ∙ ap (λ (y : Y). map g (take i xs) ++ y ∷ []) (equal ∙ ap g here)
    ∙ sym (map_more g xs i x within)

ends : {X Y : Type 0} (f g : X → Y) (xs copies : List X) (i : ℕ) → map f copies ≡ map g (take i xs) → length xs ≤ i → map f copies ≡ map g xs
ends f g xs copies i same past = same ∙ ap (map g) (take_all i xs past)

pub types_join : (xs old new : List RawType) (i : ℕ) (x r : RawType) → map rty old ≡ map rty (take i xs) → new ≡ old ++ r ∷ [] → rty r ≡ rty x → i < length xs → x ≡ get_or xs i x → map rty new ≡ map rty (take (i + 1) xs)
types_join = joins rty rty

pub types_end : (xs copies : List RawType) (i : ℕ) → map rty copies ≡ map rty (take i xs) → length xs ≤ i → map rty copies ≡ map rty xs
types_end = ends rty rty

pub terms_join : (xs old new : List RawTerm) (i : ℕ) (x r : RawTerm) → map rtm old ≡ map rtm (take i xs) → new ≡ old ++ r ∷ [] → rtm r ≡ rtm x → i < length xs → x ≡ get_or xs i x → map rtm new ≡ map rtm (take (i + 1) xs)
terms_join = joins rtm rtm

pub terms_end : (xs copies : List RawTerm) (i : ℕ) → map rtm copies ≡ map rtm (take i xs) → length xs ≤ i → map rtm copies ≡ map rtm xs
terms_end = ends rtm rtm

pub inferences_join : (xs old new : List Inference) (i : ℕ) (x r : Inference) → map inference old ≡ map inference (take i xs) → new ≡ old ++ r ∷ [] → inference r ≡ inference x → i < length xs → x ≡ get_or xs i x → map inference new ≡ map inference (take (i + 1) xs)
inferences_join = joins inference inference

pub inferences_end : (xs copies : List Inference) (i : ℕ) → map inference copies ≡ map inference (take i xs) → length xs ≤ i → map inference copies ≡ map inference xs
inferences_end = ends inference inference

pub puts_join : (xs old new : List Put) (i : ℕ) (x r : Put) → map said_put old ≡ map said_put (take i xs) → new ≡ old ++ r ∷ [] → said_put r ≡ said_put x → i < length xs → x ≡ get_or xs i x → map said_put new ≡ map said_put (take (i + 1) xs)
puts_join = joins said_put said_put

pub puts_end : (xs copies : List Put) (i : ℕ) → map said_put copies ≡ map said_put (take i xs) → length xs ≤ i → map said_put copies ≡ map said_put xs
puts_end = ends said_put said_put

pub interps_join : (xs old new : List Interp) (i : ℕ) (x r : Interp) → map said_interp old ≡ map said_interp (take i xs) → new ≡ old ++ r ∷ [] → said_interp r ≡ said_interp x → i < length xs → x ≡ get_or xs i x → map said_interp new ≡ map said_interp (take (i + 1) xs)
interps_join = joins said_interp said_interp

pub interps_end : (xs copies : List Interp) (i : ℕ) → map said_interp copies ≡ map said_interp (take i xs) → length xs ≤ i → map said_interp copies ≡ map said_interp xs
interps_end = ends said_interp said_interp

pub nodes_join : (xs old new : List Node) (i : ℕ) (x r : Node) → map said_node old ≡ map said_node (take i xs) → new ≡ old ++ r ∷ [] → said_node r ≡ said_node x → i < length xs → x ≡ get_or xs i x → map said_node new ≡ map said_node (take (i + 1) xs)
nodes_join = joins said_node said_node

pub nodes_end : (xs copies : List Node) (i : ℕ) → map said_node copies ≡ map said_node (take i xs) → length xs ≤ i → map said_node copies ≡ map said_node xs
nodes_end = ends said_node said_node

-- nodes of the second version

abbrev pub upgraded_said : ℕ → Node → w.Node
upgraded_said rules x = upgraded_node rules (said_node x)

maps_join : (rules : ℕ) (xs : List Node) → map (upgraded_said rules) xs ≡ map (upgraded_node rules) (map said_node xs)
maps_join rules [] = refl
maps_join rules (x ∷ xs) = ap (λ (ys : List w.Node). upgraded_said rules x ∷ ys) (maps_join rules xs)

pub upgraded_joins : (rules : ℕ) (xs old new : List Node) (i : ℕ) (x r : Node) → map said_node old ≡ map (upgraded_said rules) (take i xs) → new ≡ old ++ r ∷ [] → said_node r ≡ upgraded_node rules (said_node x) → i < length xs → x ≡ get_or xs i x
    → map said_node new ≡ map (upgraded_said rules) (take (i + 1) xs)
upgraded_joins rules = joins said_node (upgraded_said rules)

pub upgraded_end : (rules : ℕ) (xs copies : List Node) (i : ℕ) → map said_node copies ≡ map (upgraded_said rules) (take i xs) → length xs ≤ i → map said_node copies ≡ map (upgraded_node rules) (map said_node xs)
upgraded_end rules xs copies i same past = ends said_node (upgraded_said rules) xs copies i same past ∙ maps_join rules xs
