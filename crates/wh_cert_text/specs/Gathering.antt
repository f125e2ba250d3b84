-- What is known of a certificate whose items come one by one (ours).
use Rattle.std.specs.Prelude.{ℕ, ◌≡◌, List, [], ◌∷◌, ◌++◌, Result, Ok, Err}
use Rattle.std.specs.List.{fold}
use Rattle.wh_cert.specs.Written.{Cert, yes, no}
use Rattle.wh_cert.specs.Items.{Item, yes_head, node, no_head, step, at, put}
use Rattle.wh_cert.specs.Said.{said}
use Rattle.wh_cert.specs.CertText.{Begins, CertText, FaultAt}
use Rattle.wh_cert.specs.declared.certificate.CertSyntax.{CertSyntax}
use Rattle.wh_cert.specs.declared.certificate.Certificate.{Certificate}
use Rattle.wh_cert_text.specs.ItemsRead.{ItemsIn}
use Rattle.wh_cert_text.specs.Feeding.{StandsFor}
use Rattle.wh_cert_text.specs.declared.cert_reader.CertReader.{CertReader}
use Rattle.wh_cert_text.specs.declared.reading.Reading.{Reading}

-- what stands for a certificate before its first item
abbrev pub blank : Cert
blank = yes 0 [] 0 []

-- a certificate with one item more, as far as its items are known; an item of the other kind adds nothing
abbrev pub with_item : Cert → Item → Cert
with_item c (yes_head version ranks pairs) = yes version ranks pairs []
with_item c (no_head t) = no t [] [] []
with_item (yes version ranks pairs nodes) (node x) = yes version ranks pairs (nodes ++ x ∷ [])
with_item (no t steps path puts) (step s) = no t (steps ++ s ∷ []) path puts
with_item (no t steps path puts) (at place) = no t steps place puts
with_item (no t steps path puts) (put p) = no t steps path (puts ++ p ∷ [])
with_item c i = c

-- a certificate with these items more
abbrev pub with_items : Cert → List Item → Cert
with_items c is = fold with_item c is

-- the reader stands for the bytes; while they begin the text of a certificate, c has the items that stand whole in them
pub record HaveRead (r : CertReader) (c : Cert) (bytes : List ℕ) : Type 0 where
  pub read : StandsFor r bytes
  pub kept : Begins bytes → (is : List Item) × ItemsIn bytes is × (c ≡ with_items blank is)

abbrev pub HasRead : Reading → List ℕ → Type 0
HasRead reading bytes = HaveRead reading.reader (said reading.certificate) bytes

-- what the bytes are read as: the certificate whose text they are, or how many of them begin such a text
abbrev pub ReadsAs : List ℕ → Result Certificate CertSyntax → Type 0
ReadsAs bytes (Ok certificate) = CertText bytes (said certificate)
ReadsAs bytes (Err fault) = FaultAt bytes fault.at
