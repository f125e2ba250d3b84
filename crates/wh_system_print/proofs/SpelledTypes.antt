-- The canonical spelling of a type is cut into tokens that spell a type that says it.
use Rattle.std.proofs.Common.{◌≡◌, ℕ, ◌+◌, ◌<◌, List, length, refl, ap, ◌∙◌}
use Rattle.wh_text.specs.Words.{IsName}
use Rattle.wh_text.specs.RawTree.{RTy, raw_type, RTys, no_types, more_types}
use Rattle.wh_text.specs.Spelling as S
use Rattle.wh_read.specs.Written.{WType, only, arrow, WAtype, sort_name, type_in}
use Rattle.wh_read.specs.Spelled as W
use Rattle.wh_read.specs.Nesting.{TypeFits, AtypeFits}
use Rattle.wh_read.specs.Raw.{with_argument, said_type, said_atype}
use Rattle.wh_system_making.specs.Unplaced.{unplaced_type}
use Rattle.wh_system_print.specs.Sound.{IsSpelledType, IsSpelledPart, AreSpelledParts}
use Rattle.wh_system_print.specs.Cutting.{Cutting, NoPart}
use Rattle.wh_system_print.proofs.Pieces.{cutting_then, any_then, cutting_any, sign_cut, thin_arrow_cut, name_cut}

-- within j open parentheses, the type that is written for a at the place
pub record TypeWritten (j : ℕ) (a : RTy) (at : ℕ) : Type 0 where
  pub end : ℕ
  pub written : WType
  pub fits : TypeFits j written
  pub says : unplaced_type (said_type written) ≡ unplaced_type a
  pub cut : Cutting NoPart at end (S.put_type a) (W.put_type written)

-- what is written for it as a part of something else
pub record PartWritten (j : ℕ) (a : RTy) (at : ℕ) : Type 0 where
  pub end : ℕ
  pub written : WAtype
  pub fits : AtypeFits j written
  pub says : unplaced_type (said_atype written) ≡ unplaced_type a
  pub cut : Cutting NoPart at end (S.put_part a) (W.put_atype written)

unplaced_type-with_argument : (a b : RTy) → unplaced_type (with_argument a b) ≡ with_argument (unplaced_type a) (unplaced_type b)
unplaced_type-with_argument a (raw_type args sort i) = refl

sort_written : (j : ℕ) (sort : List ℕ) (i : ℕ) → IsName sort → (at : ℕ) → PartWritten j (raw_type no_types sort i) at
sort_written j sort i is at =
    record { end = at + length sort; written = sort_name sort at; fits = tt; says = refl; cut = name_cut sort at is }

-- an argument, its arrow and what it gives
arrow_written : (j : ℕ) (a : RTy) (rest : RTys) (sort : List ℕ) (i at : ℕ)
    → (p : PartWritten j a at) → TypeWritten j (raw_type rest sort i) (p.end + 2) → TypeWritten j (raw_type (more_types a rest) sort i) at
arrow_written j a rest sort i at p t =
    let behind = any_then (thin_arrow_cut p.end) t.cut in
    record {
      end = t.end;
      written = arrow p.written p.end t.written;
      fits = (p.fits, t.fits);
      says = unplaced_type-with_argument (said_atype p.written) (said_type t.written)
          ∙ ap (λ (b : RTy). with_argument b (unplaced_type (said_type t.written))) p.says
          ∙ ap (with_argument (unplaced_type a)) t.says;
      cut = cutting_then p.cut behind (λ r good. refl);
    }

-- a functional type in parentheses
parenthesised : (j : ℕ) (a : RTy) (rest : RTys) (sort : List ℕ) (i at : ℕ)
    → j < 16 → TypeWritten (j + 1) (raw_type (more_types a rest) sort i) (at + 1) → PartWritten j (raw_type (more_types a rest) sort i) at
parenthesised j a rest sort i at room t =
    let closes = cutting_then t.cut (sign_cut 41 t.end refl) (λ r good. refl) in
    let opens = any_then (sign_cut 40 at refl) closes in
    record {
      end = t.end + 1;
      written = type_in at t.written t.end;
      fits = (room, t.fits);
      says = t.says;
      cut = cutting_any opens;
    }

mutual
  pub part_written : (j : ℕ) (a : RTy) → IsSpelledPart j a → (at : ℕ) → PartWritten j a at
  part_written j (raw_type no_types sort i) is at = sort_written j sort i is at
  part_written j (raw_type (more_types a rest) sort i) is at =
      let p = part_written (j + 1) a is.1 (at + 1) in
      parenthesised j a rest sort i at is.0 (arrow_written (j + 1) a rest sort i (at + 1) p (arguments_written (j + 1) rest sort i is.2 is.3 (p.end + 2)))

  arguments_written : (j : ℕ) (args : RTys) (sort : List ℕ) (i : ℕ) → AreSpelledParts j args → IsName sort → (at : ℕ) → TypeWritten j (raw_type args sort i) at
  arguments_written j no_types sort i are is at =
      let s = sort_written j sort i is at in
      record { end = s.end; written = only s.written; fits = s.fits; says = s.says; cut = s.cut }
  arguments_written j (more_types a rest) sort i are is at =
      let p = part_written j a are.0 at in
      arrow_written j a rest sort i at p (arguments_written j rest sort i are.1 is (p.end + 2))

pub type_written : (j : ℕ) (a : RTy) → IsSpelledType j a → (at : ℕ) → TypeWritten j a at
type_written j (raw_type args sort i) is at = arguments_written j args sort i is.0 is.1 at
