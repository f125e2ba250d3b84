-- The test of the version of nodes, and the certificate of them.
use Rattle.std.proofs.Common.{◌≡◌, ℕ, ◌+◌, ◌<◌, ◌≤◌, List, [], ◌∷◌, ◌++◌, length, map, take, get_or, All, sym, ap, subst, ◌∙◌}
use Rattle.std.proofs.lemmas.List.{take_all, take_more}
use Rattle.std.proofs.lemmas.List.Elements.{All-nil, All-cons, All-head, All-tail, All-push, All-get_or, All-map}
use Rattle.wh_cert.specs.Written as w
use Rattle.wh_cert.specs.Limits.{IsOfVersion}
use Rattle.wh_cert.specs.Said.{said_node}
use Rattle.wh_cert.specs.declared.certificate.Node as code
use Rattle.wh_cert_upgrade.specs.Upgraded.{upgraded_node}
use Rattle.wh_cert_versions.specs.Certificates.{IsFirst, IsCertificateOf, first, second}

-- the test of all nodes

pub first_more : (xs : List code.Node) (i : ℕ) (x : code.Node) → All IsFirst (take i xs) → IsFirst x → i < length xs → x ≡ get_or xs i x
    → All IsFirst (take (i + 1) xs)
first_more xs i x all one within here =
    subst (All IsFirst) (sym (take_more xs i x within ∙ ap (λ y. take i xs ++ y ∷ []) (sym here))) (All-push IsFirst (take i xs) x all one)

pub first_all : (xs : List code.Node) (i : ℕ) → All IsFirst (take i xs) → length xs ≤ i → All IsFirst xs
first_all xs i all past = subst (All IsFirst) (take_all i xs past) all

pub one_not_first : (xs : List code.Node) (i : ℕ) (x : code.Node) → (IsFirst x → ⊥) → i < length xs → x ≡ get_or xs i x → All IsFirst xs → ⊥
one_not_first xs i x other within here all = other (subst IsFirst (sym here) (All-get_or IsFirst xs i x within all))

-- the certificate

all_said : (xs : List code.Node) → All IsFirst xs → All (IsOfVersion 1) (map said_node xs)
all_said xs all = All-map (IsOfVersion 1) said_node xs all

all_unsaid : (xs : List code.Node) → All (IsOfVersion 1) (map said_node xs) → All IsFirst xs
all_unsaid [] all = All-nil IsFirst
all_unsaid (x ∷ xs) all =
    All-cons IsFirst x xs (All-head (IsOfVersion 1) (said_node x) (map said_node xs) all) (all_unsaid xs (All-tail (IsOfVersion 1) (said_node x) (map said_node xs) all))

pub certificate_first : (rules : ℕ) (ranks : List ℕ) (pairs : ℕ) (nodes : List code.Node) → All IsFirst nodes
    → IsCertificateOf rules ranks pairs (map said_node nodes) (w.yes 1 ranks pairs (map said_node nodes))
certificate_first rules ranks pairs nodes all = first (all_said nodes all)

pub certificate_second : (rules : ℕ) (ranks : List ℕ) (pairs : ℕ) (nodes made : List code.Node) → (All IsFirst nodes → ⊥)
    → map said_node made ≡ map (upgraded_node rules) (map said_node nodes)
    → IsCertificateOf rules ranks pairs (map said_node nodes) (w.yes 2 ranks pairs (map said_node made))
certificate_second rules ranks pairs nodes made other same =
    subst (λ (lines : List w.Node). IsCertificateOf rules ranks pairs (map said_node nodes) (w.yes 2 ranks pairs lines)) (sym same)
    (second (λ all. other (all_unsaid nodes all)))
