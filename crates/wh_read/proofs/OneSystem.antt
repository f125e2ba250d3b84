-- A text says one system, or is refused for one reason at one place.
use Rattle.std.proofs.Common.{◌≡◌, ℕ, inl, inr, List, Option, None, Some, length, map, refl, sym, ap, subst, ◌∙◌}
use Rattle.wh_text.specs.Tokens.{Token, Ending, whole, bad_byte, bad_number, name_too_long, Cuts}
use Rattle.wh_text.specs.Erase.{ending}
use Rattle.wh_text.specs.Pieces.{HasFault}
use Rattle.wh_text.specs.declared.token.TextFault.{TextFault}
use Rattle.wh_text.specs.declared.token.TextFault.TheVariants.{BadByte, BadNumber, NameTooLong}
use Rattle.wh_text.proofs.OneCut.{one_cut}
use Rattle.wh_system_parts.specs.Parts.{RParts}
use Rattle.wh_system_parts.specs.RuleTests.{refusal}
use Rattle.wh_system_parts.specs.declared.fault.SystemFault.{SystemFault}
use Rattle.wh_system.specs.Systems.{SystemData}
use Rattle.wh_system_making.specs.Says.{Says}
use Rattle.wh_system_making.proofs.SystemMade.{one_system}
use Rattle.wh_read.specs.Spelled.{Placed, placed}
use Rattle.wh_read.specs.Parsing.{Parses}
use Rattle.wh_read.specs.SyntaxFaults.{place_in, HasSyntaxFault}
use Rattle.wh_read.specs.declared.fault.SyntaxFault.{SyntaxFault}
use Rattle.wh_read.specs.declared.fault.SyntaxFault.TheVariants.{Syntax, TooMany}
use Rattle.wh_read.specs.declared.reasons.Refused.{Refused}
use Rattle.wh_read.specs.Reading.{Reads, BadSyntax, BadParts, Refuses, text_refused, syntax_refused, system_refused}
use Rattle.wh_read.proofs.OneReading.{one_parse, no_syntax_fault, not_too_deep, one_syntax_fault, one_deep_fault, syntax_or_deep}

-- tokens
same_cut : (bytes : List ℕ) (ts us : List Token) → Cuts 0 bytes ts whole → Cuts 0 bytes us whole → ts ≡ us
same_cut bytes ts us a b = (one_cut 0 bytes ts us whole whole a b).0

abbrev IsWhole : Ending → Type 0
IsWhole whole = Unit {0}
IsWhole e = ⊥

not_whole : (f : TextFault) → IsWhole (ending f) → ⊥
not_whole (BadByte at) h = h
not_whole (BadNumber at) h = h
not_whole (NameTooLong at) h = h

whole_or_fault : (bytes : List ℕ) (ts : List Token) (f : TextFault) → Cuts 0 bytes ts whole → HasFault bytes f → ⊥
whole_or_fault bytes ts f a b = not_whole f (subst IsWhole (one_cut 0 bytes ts b.0 whole (ending f) a b.1).1 tt)

abbrev fault_in : Ending → TextFault
fault_in (bad_byte at) = BadByte at
fault_in (bad_number at) = BadNumber at
fault_in (name_too_long at) = NameTooLong at
fault_in whole = BadByte 0

fault_back : (f : TextFault) → fault_in (ending f) ≡ f
fault_back (BadByte at) = refl
fault_back (BadNumber at) = refl
fault_back (NameTooLong at) = refl

one_text_fault : (bytes : List ℕ) (f g : TextFault) → HasFault bytes f → HasFault bytes g → f ≡ g
one_text_fault bytes f g a b = sym (fault_back f) ∙ ap fault_in (one_cut 0 bytes a.0 b.0 (ending f) (ending g) a.1 b.1).1 ∙ fault_back g

-- the grammar
parses_or_fault : (ts : List Placed) (size : ℕ) (p : RParts) (f : SyntaxFault) → Parses ts p → HasSyntaxFault ts size f → ⊥
parses_or_fault ts size p (Syntax at) a b = no_syntax_fault ts p b.0 a b.1
parses_or_fault ts size p (TooMany at) a b = not_too_deep ts p b.0 a b.1

one_fault : (ts : List Placed) (size : ℕ) (f g : SyntaxFault) → HasSyntaxFault ts size f → HasSyntaxFault ts size g → f ≡ g
one_fault ts size (Syntax at) (Syntax to) a b = ap Syntax (a.2 ∙ ap (λ (n : ℕ). place_in ts n size) (one_syntax_fault ts a.0 b.0 a.1 b.1) ∙ sym b.2)
one_fault ts size (Syntax at) (TooMany to) a b = absurd (syntax_or_deep ts a.0 b.0 a.1 b.1)
one_fault ts size (TooMany at) (Syntax to) a b = absurd (syntax_or_deep ts b.0 a.0 b.1 a.1)
one_fault ts size (TooMany at) (TooMany to) a b = ap TooMany (a.2 ∙ ap (λ (n : ℕ). place_in ts n size) (one_deep_fault ts a.0 b.0 a.1 b.1) ∙ sym b.2)

-- tests of systems
abbrev IsNone : Option SystemFault → Type 0
IsNone None = Unit {0}
IsNone (Some f) = ⊥

passes_or_fails : (p : RParts) (f : SystemFault) → refusal p ≡ None → refusal p ≡ Some f → ⊥
passes_or_fails p f a b = subst IsNone (sym a ∙ b) tt

abbrev fault_of : SystemFault → Option SystemFault → SystemFault
fault_of d (Some f) = f
fault_of d None = d

one_system_fault : (p : RParts) (f g : SystemFault) → refusal p ≡ Some f → refusal p ≡ Some g → f ≡ g
one_system_fault p f g a b = ap (fault_of f) (sym a ∙ b)

same_parts : (bytes : List ℕ) (ts us : List Token) (p q : RParts) → Cuts 0 bytes ts whole → Cuts 0 bytes us whole → Parses (map placed ts) p → Parses (map placed us) q → p ≡ q
same_parts bytes ts us p q a b f g = one_parse (map placed ts) p q f (subst (λ (vs : List Token). Parses (map placed vs) q) (sym (same_cut bytes ts us a b)) g)

-- readings
pub one_reading : (bytes : List ℕ) (d e : SystemData) → Reads bytes d → Reads bytes e → d ≡ e
one_reading bytes d e a b =
    one_system a.parts d e a.says (subst (λ (p : RParts). Says p e) (sym (same_parts bytes a.tokens b.tokens a.parts b.parts a.cut b.cut a.parses b.parses)) b.says)

pub read_or_refused : (bytes : List ℕ) (d : SystemData) (refused : Refused) → Reads bytes d → Refuses bytes refused → ⊥
read_or_refused bytes d refused a (inl b) = whole_or_fault bytes a.tokens b.fault a.cut b.has
read_or_refused bytes d refused a (inr (inl b)) =
    parses_or_fault (map placed b.tokens) (length bytes) a.parts b.fault (subst (λ (ts : List Token). Parses (map placed ts) a.parts) (same_cut bytes a.tokens b.tokens a.cut b.cut) a.parses) b.has
read_or_refused bytes d refused a (inr (inr b)) =
    passes_or_fails b.parts b.fault (subst (λ (p : RParts). refusal p ≡ None) (same_parts bytes a.tokens b.tokens a.parts b.parts a.cut b.cut a.parses b.parses) a.passes) b.has

syntax_or_parts : (bytes : List ℕ) (refused other : Refused) → BadSyntax bytes refused → BadParts bytes other → ⊥
syntax_or_parts bytes refused other a b =
    parses_or_fault (map placed a.tokens) (length bytes) b.parts a.fault (subst (λ (ts : List Token). Parses (map placed ts) b.parts) (same_cut bytes b.tokens a.tokens b.cut a.cut) b.parses) a.has

pub one_refusal : (bytes : List ℕ) (refused other : Refused) → Refuses bytes refused → Refuses bytes other → refused ≡ other
one_refusal bytes x y (inl a) (inl b) = a.is ∙ ap text_refused (one_text_fault bytes a.fault b.fault a.has b.has) ∙ sym b.is
one_refusal bytes x y (inl a) (inr (inl b)) = absurd (whole_or_fault bytes b.tokens a.fault b.cut a.has)
one_refusal bytes x y (inl a) (inr (inr b)) = absurd (whole_or_fault bytes b.tokens a.fault b.cut a.has)
one_refusal bytes x y (inr (inl a)) (inl b) = absurd (whole_or_fault bytes a.tokens b.fault a.cut b.has)
one_refusal bytes x y (inr (inl a)) (inr (inl b)) =
    a.is ∙ ap syntax_refused (one_fault (map placed a.tokens) (length bytes) a.fault b.fault a.has (subst (λ (ts : List Token). HasSyntaxFault (map placed ts) (length bytes) b.fault) (same_cut bytes b.tokens a.tokens b.cut a.cut) b.has)) ∙ sym b.is
one_refusal bytes x y (inr (inl a)) (inr (inr b)) = absurd (syntax_or_parts bytes x y a b)
one_refusal bytes x y (inr (inr a)) (inl b) = absurd (whole_or_fault bytes a.tokens b.fault a.cut b.has)
one_refusal bytes x y (inr (inr a)) (inr (inl b)) = absurd (syntax_or_parts bytes y x b a)
one_refusal bytes x y (inr (inr a)) (inr (inr b)) =
    a.is ∙ ap system_refused (one_system_fault a.parts a.fault b.fault a.has (subst (λ (p : RParts). refusal p ≡ Some b.fault) (same_parts bytes b.tokens a.tokens b.parts a.parts b.cut a.cut b.parses a.parses) b.has)) ∙ sym b.is
