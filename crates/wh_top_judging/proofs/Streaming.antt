-- Judging a certificate byte by byte.
use Rattle.std.proofs.Common.{◌≡◌, ℕ, List, [], ◌∷◌, ◌++◌, length, take, Option, Some, None, Result, Ok, Err, IfOk, OnOk, refl, sym, subst, ◌∙◌, arith, append_assoc}
use Rattle.std.proofs.lemmas.List.{append-nil, take_all}
use Rattle.std.specs.Option.{option_map, option_to_list}
use Rattle.wh_system.specs.Systems.{SystemData}
use Rattle.wh_pairs.specs.PairData.{PairData}
use Rattle.wh_cert.specs.Written.{Cert, yes, no}
use Rattle.wh_cert.specs.CertText.{Begins, CertText}
use Rattle.wh_cert.specs.Items.{Item, items}
use Rattle.wh_cert_text.specs.ItemsRead.{ItemsIn}
use Rattle.wh_cert_text.specs.Feeding as reader
use Rattle.wh_cert_text.specs.Portions.{Adds, HasFed}
use Rattle.wh_cert_text.specs.declared.cert_reader.Portion.{Portion}
use Rattle.wh_types.specs.declared.want.Or.{Or}
use Rattle.wh_types.specs.declared.want.Or.TheVariants.{NoMemory, Because}
use Rattle.wh_cert.specs.declared.certificate.CertSyntax.{CertSyntax}
use Rattle.wh_cert.specs.declared.item.Item as code
use Rattle.wh_cert.specs.Said.{said_item}
use Rattle.wh_cert_text.specs.declared.cert_reader.CertReader.{CertReader}
use Rattle.wh_checker_walk.specs.declared.walk.Walk.{Walk}
use Rattle.wh_checker_walk.specs.Walking.{Accepts}
use Rattle.wh_checker_walk.specs.Standing as walk
use Rattle.wh_checker.specs.declared.checking.AcceptedYes as checked
use Rattle.wh_checker.specs.declared.checking.Accepted.TheVariants as answer
use Rattle.wh_checker.specs.declared.rejected.Rejected.{Rejected as Row}
use Rattle.wh_checker.specs.declared.rejected.Rejected.TheVariants as row
use Rattle.wh_answer.specs.declared.report.Report.{Report}
use Rattle.wh_answer.specs.declared.report.Report.TheVariants.{Yes, Rejected}
use Rattle.wh_answer.specs.declared.report.NamedRejection.TheVariants.{Syntax}
use Rattle.wh_top_judging.specs.Outcomes.{Judged, Told, Weighed}
use Rattle.wh_top_naming.specs.Rows.{named_row}
use Rattle.wh_top_judging.specs.Streamed.{HaveComeTo}

-- what begins a beginning is one
pub begins_less : (p q : List ℕ) → Begins (p ++ q) → Begins p
begins_less p q (c, r, text) = (c, q ++ r, subst (λ b. CertText b c) (append_assoc p q r) text)

-- a text begins itself
pub begins_itself : (p : List ℕ) (c : Cert) → CertText p c → Begins p
begins_itself p c text = (c, [], subst (λ b. CertText b c) (sym (append-nil p)) text)

-- the item that a byte ends is the next
pub is_next : (d : SystemData) (ps : List PairData) (w : Walk) (q : List ℕ) (is : List Item) (i : Item) → walk.StandsFor d ps w is
    → Begins q → ItemsIn q (is ++ i ∷ []) → walk.IsNext d ps w i
is_next d ps w q is i stands (c, r, text) whole =
    let front = (whole c r text).front in
    (is, (whole c r text).rest, c, text.fits, stands, front ∙ append_assoc is (i ∷ []) (whole c r text).rest)

-- bytes that add items which the walk has taken; and bytes that are wrong
pub come_more : (d : SystemData) (ps : List PairData) (r s : CertReader) (w v : Walk) (p q : List ℕ) (more : List Item) → HaveComeTo d ps r w p
    → reader.StandsFor s (p ++ q) → Adds p q more
    → ((is : List Item) → walk.StandsFor d ps w is → walk.StandsFor d ps v (is ++ more)) → HaveComeTo d ps s v (p ++ q)
come_more d ps r s w v p q more come stands adds on = record {
  read = stands;
  walked = λ begins.
      let so_far = come.walked (begins_less p q begins) in
      (so_far.0 ++ more, adds so_far.0 so_far.1, on so_far.0 so_far.2);
}

pub come_wrong : (d : SystemData) (ps : List PairData) (s : CertReader) (w : Walk) (q : List ℕ) → reader.StandsFor s q → (Begins q → ⊥)
    → HaveComeTo d ps s w q
come_wrong d ps s w q stands wrong = record { read = stands; walked = λ begins. absurd (wrong begins) }

-- the reader took some bytes: they end no item, or one, which is the next that the walk takes; or they are refused
pub come_none : (d : SystemData) (ps : List PairData) (old new : CertReader) (w : Walk) (p bytes : List ℕ) (portion : Portion)
    → HaveComeTo d ps old w p → HasFed p bytes new (Ok portion) → portion.item ≡ None → HaveComeTo d ps new w (p ++ take portion.taken bytes)
come_none d ps old new w p bytes portion come fed none =
    come_more d ps old new w w p (take portion.taken bytes) (option_to_list (option_map said_item portion.item)) come fed.0 fed.2
    (λ is h. subst (λ (item : Option code.Item). walk.StandsFor d ps w (is ++ option_to_list (option_map said_item item))) (sym none)
    (subst (walk.StandsFor d ps w) (sym (append-nil is)) h))

pub next_item : (d : SystemData) (ps : List PairData) (old new : CertReader) (w : Walk) (p bytes : List ℕ) (portion : Portion) (i : code.Item)
    → HaveComeTo d ps old w p → HasFed p bytes new (Ok portion) → portion.item ≡ Some i → walk.IsNext d ps w (said_item i)
next_item d ps old new w p bytes portion i come fed some =
    let q = take portion.taken bytes in
    let so_far = come.walked (begins_less p q fed.1) in
    is_next d ps w (p ++ q) so_far.0 (said_item i) so_far.2 fed.1
    (subst (λ (item : Option code.Item). ItemsIn (p ++ q) (so_far.0 ++ option_to_list (option_map said_item item))) some (fed.2 so_far.0 so_far.1))

pub come_some : (d : SystemData) (ps : List PairData) (old new : CertReader) (w v : Walk) (p bytes : List ℕ) (portion : Portion) (i : code.Item)
    → HaveComeTo d ps old w p → HasFed p bytes new (Ok portion) → portion.item ≡ Some i
    → ((is : List Item) → walk.StandsFor d ps w is → walk.StandsFor d ps v (is ++ said_item i ∷ []))
    → HaveComeTo d ps new v (p ++ take portion.taken bytes)
come_some d ps old new w v p bytes portion i come fed some on =
    come_more d ps old new w v p (take portion.taken bytes) (option_to_list (option_map said_item portion.item)) come fed.0 fed.2
    (λ is h. subst (λ (item : Option code.Item). walk.StandsFor d ps v (is ++ option_to_list (option_map said_item item))) (sym some) (on is h))

pub come_refused : (d : SystemData) (ps : List PairData) (new : CertReader) (w : Walk) (p bytes : List ℕ) (f : Or CertSyntax) → (f ≡ NoMemory → ⊥)
    → HasFed p bytes new (Err f) → HaveComeTo d ps new w (p ++ take (length bytes) bytes)
come_refused d ps new w p bytes NoMemory not fed = absurd (not refl)
come_refused d ps new w p bytes (Because e) not fed =
    subst (λ (v : List ℕ). HaveComeTo d ps new w (p ++ v)) (sym (take_all (length bytes) bytes (omega arith)))
    (come_wrong d ps new w (p ++ bytes) fed.0 fed.2)

-- before the first byte
pub come_nowhere : (d : SystemData) (ps : List PairData) (r : CertReader) (w : Walk) → reader.StandsFor r [] → ItemsIn [] []
    → walk.StandsFor d ps w [] → HaveComeTo d ps r w []
come_nowhere d ps r w stands none at_start = record { read = stands; walked = λ begins. ([], none, at_start) }

-- all bytes have come, and they are a text: the walk stands for all items of its certificate
pub come_whole : (d : SystemData) (ps : List PairData) (r : CertReader) (w : Walk) (p : List ℕ) → HaveComeTo d ps r w p
    → (c : Cert) × CertText p c × ((is : List Item) → ItemsIn p is → is ≡ items c)
    → (c : Cert) × CertText p c × walk.StandsFor d ps w (items c)
come_whole d ps r w p come (c, text, all) =
    let so_far = come.walked (begins_itself p c text) in
    (c, text, subst (walk.StandsFor d ps w) (all so_far.0 so_far.1) so_far.2)

-- the answer of a check is that of a certificate of its kind
pub yes_weighed : (d : SystemData) (ps : List PairData) (c : Cert) (a : checked.AcceptedYes) → Accepts d ps c (answer.Yes a) → Weighed d ps c Yes
yes_weighed d ps (yes version ranks pairs nodes) a h = (tt, h.accepted.0, h.small)
yes_weighed d ps (no raw steps at puts) a h = absurd h.accepted

-- no condition is named like a text that is none
pub never_syntax : (d : SystemData) (r : Row) (at : ℕ) → Syntax at ≡ named_row d r → ⊥
never_syntax d row.RankCount at e = absurd cc
never_syntax d (row.Inaccessible r z) at e = absurd cc
never_syntax d (row.PairCount n) at e = absurd cc
never_syntax d (row.NotEmpty k) at e = absurd cc
never_syntax d (row.NotOne k) at e = absurd cc
never_syntax d (row.Loops k a) at e = absurd cc
never_syntax d (row.FewBlocks k) at e = absurd cc
never_syntax d (row.NotPartition k a) at e = absurd cc
never_syntax d (row.BackEdge k a b) at e = absurd cc
never_syntax d (row.BadArgs k) at e = absurd cc
never_syntax d (row.NoProjection k f) at e = absurd cc
never_syntax d (row.BadArgument k f) at e = absurd cc
never_syntax d (row.BadDrop k) at e = absurd cc
never_syntax d (row.NotDecreasing k a) at e = absurd cc
never_syntax d (row.BadUsable k) at e = absurd cc
never_syntax d (row.BadSymbols k) at e = absurd cc
never_syntax d (row.BadPolynomial k f marked) at e = absurd cc
never_syntax d (row.BadLines k) at e = absurd cc
never_syntax d (row.NotClosedRule k r) at e = absurd cc
never_syntax d (row.NotClosedPair k a) at e = absurd cc
never_syntax d (row.BadMoveRule k r i) at e = absurd cc
never_syntax d (row.OverSpentRule k r i) at e = absurd cc
never_syntax d (row.NotCoveredRule k r j) at e = absurd cc
never_syntax d (row.BadMovePair k a i) at e = absurd cc
never_syntax d (row.OverSpentPair k a i) at e = absurd cc
never_syntax d (row.NotCoveredPair k a j) at e = absurd cc
never_syntax d (row.BadFilter k f marked) at e = absurd cc
never_syntax d (row.TooWideRule k r) at e = absurd cc
never_syntax d (row.TooWidePair k a) at e = absurd cc
never_syntax d (row.BadInferenceRule k r i) at e = absurd cc
never_syntax d (row.BadInferencePair k a i) at e = absurd cc
never_syntax d (row.NotStrict k a) at e = absurd cc
never_syntax d row.NotATerm at e = absurd cc
never_syntax d row.NoStep at e = absurd cc
never_syntax d (row.StepFails i) at e = absurd cc
never_syntax d (row.TooBig i) at e = absurd cc
never_syntax d (row.BadPut i) at e = absurd cc
never_syntax d row.NoInstance at e = absurd cc

-- what the check answers on the certificate of a text is what it answers on the text
pub text_judged : (d : SystemData) (ps : List PairData) (bytes : List ℕ) (c : Cert) (o : Report) → CertText bytes c → Weighed d ps c o
    → Judged d ps bytes o
text_judged d ps bytes c (Rejected (Syntax at)) text (r, first, e) = absurd (never_syntax d r at e)
text_judged d ps bytes c o text w = (c, text, w)

-- the file as far as it was read
pub record JudgedSoFar (d : SystemData) (ps : List PairData) (r : CertReader) (w : Walk) (given : ℕ) (held : Option (List ℕ)) (bytes : List ℕ)
    : Type 0 where
  pub come : HaveComeTo d ps r w bytes
  pub counted : given ≡ length bytes
  pub front : Told held (λ file. bytes ≡ take given file)

pub on_ok : {T E : Type 0} (r : Result T E) (P Q : Type 0) → OnOk r P → (P → Q) → OnOk r Q
on_ok (Ok x) P Q p on = on p
on_ok (Err e) P Q p on = tt

pub said_ok : {T E : Type 0} (r : Result T E) (P Q : T → Type 0) → IfOk r P → ((x : T) → P x → Q x) → IfOk r Q
said_ok (Ok x) P Q p on = on x p
said_ok (Err e) P Q p on = tt
