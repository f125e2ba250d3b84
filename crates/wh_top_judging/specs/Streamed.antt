-- How far the judging of a certificate has come whose bytes come one by one (ours).
use Rattle.std.specs.Prelude.{ℕ, List, Option}
use Rattle.wh_types.specs.Limits.{certificate_limit}
use Rattle.wh_system.specs.Systems.{SystemData}
use Rattle.wh_pairs.specs.PairData.{PairData}
use Rattle.wh_cert.specs.CertText.{Begins}
use Rattle.wh_cert.specs.Items.{Item}
use Rattle.wh_cert_text.specs.ItemsRead.{ItemsIn}
use Rattle.wh_cert_text.specs.declared.cert_reader.CertReader.{CertReader}
use Rattle.wh_cert_text.specs.Feeding as reader
use Rattle.wh_checker_walk.specs.declared.walk.Walk.{Walk}
use Rattle.wh_checker_walk.specs.Standing as walk
use Rattle.wh_answer.specs.declared.report.Report.{Report}
use Rattle.wh_top_judging.specs.declared.streamed.Judge.{Judge}
use Rattle.wh_top_judging.specs.Outcomes.{AreWithin, Judged, Told}

-- the reader stands for the bytes; while they begin the text of a certificate, the walk stands for their items
pub record HaveComeTo (d : SystemData) (ps : List PairData) (r : CertReader) (w : Walk) (bytes : List ℕ) : Type 0 where
  pub read : reader.StandsFor r bytes
  pub walked : Begins bytes → (is : List Item) × ItemsIn bytes is × walk.StandsFor d ps w is

abbrev pub HasComeTo : SystemData → List PairData → Judge → List ℕ → Type 0
HasComeTo d ps judge bytes = HaveComeTo d ps judge.reader judge.walk bytes

-- the report says what the bytes of the certificate's file, within their limit, come to
abbrev pub IsJudgedIn : Option (List ℕ) → SystemData → List PairData → Report → Type 0
IsJudgedIn held d ps o = (bytes : List ℕ) × Told held (AreWithin certificate_limit bytes) × Judged d ps bytes o
