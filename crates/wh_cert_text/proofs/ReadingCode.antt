-- A certificate that is read as its bytes come: what its items make of it, and what some bytes more do.
use Rattle.std.proofs.Common.{◌≡◌, ℕ, List, [], ◌∷◌, ◌++◌, length, map, take, Ok, Err, refl, sym, ap, ◌∙◌, subst, arith, append_assoc}
use Rattle.std.proofs.lemmas.List.{append-nil, take_all}
use Rattle.std.proofs.lemmas.List.Sums.{fold-append}
use Rattle.std.specs.Option.{option_map, option_to_list}
use Rattle.wh_types.specs.declared.want.Or.{Or}
use Rattle.wh_types.specs.declared.want.Or.TheVariants.{NoMemory, Because}
use Rattle.wh_terms.specs.declared.path.Step as taken
use Rattle.wh_text.specs.RawTree.{RTm}
use Rattle.wh_cert.specs.Written.{Cert, Node, Put, yes, no}
use Rattle.wh_cert.specs.CertText.{Begins, CertText}
use Rattle.wh_cert.specs.Items.{Item, node, step, at, put, end, items}
use Rattle.wh_cert.specs.Said.{said_item}
use Rattle.wh_cert.specs.declared.certificate.CertSyntax.{CertSyntax}
use Rattle.wh_cert_text.specs.Gathering.{HaveRead, blank, with_item, with_items}
use Rattle.wh_cert_text.specs.ItemsRead.{ItemsIn}
use Rattle.wh_cert_text.specs.Portions.{HasFed}
use Rattle.wh_cert_text.specs.declared.cert_reader.CertReader.{CertReader}
use Rattle.wh_cert_text.specs.declared.cert_reader.Portion.{Portion}

-- the items of a certificate make it

nodes_make : (version : ℕ) (ranks : List ℕ) (pairs : ℕ) (xs ys : List Node)
    → with_items (yes version ranks pairs xs) (map node ys ++ end ∷ []) ≡ yes version ranks pairs (xs ++ ys)
nodes_make version ranks pairs xs [] = ap (yes version ranks pairs) (sym (append-nil xs))
nodes_make version ranks pairs xs (y ∷ ys) =
    nodes_make version ranks pairs (xs ++ y ∷ []) ys ∙ ap (yes version ranks pairs) (append_assoc xs (y ∷ []) ys)

puts_make : (t : RTm) (steps : List taken.Step) (path : List ℕ) (xs ys : List Put)
    → with_items (no t steps path xs) (map put ys ++ end ∷ []) ≡ no t steps path (xs ++ ys)
puts_make t steps path xs [] = ap (no t steps path) (sym (append-nil xs))
puts_make t steps path xs (y ∷ ys) =
    puts_make t steps path (xs ++ y ∷ []) ys ∙ ap (no t steps path) (append_assoc xs (y ∷ []) ys)

steps_make : (t : RTm) (path : List ℕ) (xs ys : List taken.Step) (puts : List Put)
    → with_items (no t xs [] []) (map step ys ++ at path ∷ (map put puts ++ end ∷ [])) ≡ no t (xs ++ ys) path puts
steps_make t path xs [] puts =
    puts_make t xs path [] puts ∙ ap (λ (v : List taken.Step). no t v path puts) (sym (append-nil xs))
steps_make t path xs (y ∷ ys) puts =
    steps_make t path (xs ++ y ∷ []) ys puts ∙ ap (λ (v : List taken.Step). no t v path puts) (append_assoc xs (y ∷ []) ys)

items_make : (c : Cert) → with_items blank (items c) ≡ c
items_make (yes version ranks pairs nodes) = nodes_make version ranks pairs [] nodes
items_make (no t steps path puts) = steps_make t path [] steps puts

-- what begins a beginning is one
pub begins_less : (p q : List ℕ) → Begins (p ++ q) → Begins p
begins_less p q (c, r, text) = (c, q ++ r, subst (λ b. CertText b c) (append_assoc p q r) text)

-- a text begins itself
pub begins_itself : (p : List ℕ) (c : Cert) → CertText p c → Begins p
begins_itself p c text = (c, [], subst (λ b. CertText b c) (sym (append-nil p)) text)

-- the reader took some bytes, and the item that they end was added; or they are refused
pub read_more : (old new : CertReader) (c e : Cert) (p bytes : List ℕ) (portion : Portion) → HaveRead old c p → HasFed p bytes new (Ok portion)
    → e ≡ with_items c (option_to_list (option_map said_item portion.item)) → HaveRead new e (p ++ take portion.taken bytes)
read_more old new c e p bytes portion has fed told =
    let more = option_to_list (option_map said_item portion.item) in
    record {
      read = fed.0;
      kept = λ begins.
          let (is, found, made) = has.kept (begins_less p (take portion.taken bytes) begins) in
          (is ++ more, fed.2 is found, told ∙ ap (λ (d : Cert). with_items d more) made ∙ sym (fold-append with_item blank is more));
    }

pub read_refused : (new : CertReader) (c : Cert) (p bytes : List ℕ) (f : Or CertSyntax) → (f ≡ NoMemory → ⊥) → HasFed p bytes new (Err f)
    → HaveRead new c (p ++ take (length bytes) bytes)
read_refused new c p bytes NoMemory not fed = absurd (not refl)
read_refused new c p bytes (Because e) not fed =
    subst (λ (v : List ℕ). HaveRead new c (p ++ v)) (sym (take_all (length bytes) bytes (omega arith)))
    (record { read = fed.0; kept = λ begins. absurd (fed.2 begins) })

-- all bytes have come, and they are a text: it is that of the certificate with all its items
pub text_of_kept : (r : CertReader) (d : Cert) (p : List ℕ) → HaveRead r d p
    → (c : Cert) × CertText p c × ((is : List Item) → ItemsIn p is → is ≡ items c) → CertText p d
text_of_kept r d p has (c, text, all) =
    let (is, found, made) = has.kept (begins_itself p c text) in
    subst (CertText p) (sym (made ∙ ap (with_items blank) (all is found) ∙ items_make c)) text
