-- The search for what is put for a variable, among entries with increasing numbers.
use Rattle.std.proofs.Common.{◌≡◌, ℕ, zero, suc, ◌+◌, ◌<◌, ◌≤◌, List, [], ◌∷◌, length, Option, Some, None, option_map, AllPairs, refl, ap, sym, ◌∙◌, subst, subst₂, arith, ⊎_elim}
use Rattle.std.specs.Prelude.{if◌then◌else◌, slice_get}
use Rattle.std.proofs.lemmas.List.{length-map}
use Rattle.std.proofs.lemmas.Bool.{cases_lt}
use Rattle.std.proofs.lemmas.Option.{slice_get-map, slice_get_within, get_or_from_slice_get}
use Rattle.wh_types.specs.Ty.{Ty}
use Rattle.wh_types.specs.Erase.{ty}
use Rattle.wh_terms.specs.Tree.{free}
use Rattle.wh_terms.proofs.TypingLaws.{some_one}
use Rattle.wh_terms.proofs.TypeTests.{variable-same, variable-other}
use Rattle.wh_terms.specs.Erase.{tm}
use Rattle.wh_terms.specs.declared.subst.SubstEntry.{SubstEntry}
use Rattle.wh_no.specs.Entry.{entry_put, entry_puts}
use Rattle.wh_no.specs.Claim.{Put, put_for}
use Rattle.wh_no.specs.Valid.{IsBelow}
use Rattle.wh_no.proofs.PutLemmas.{IsAboveLast}

-- no put for another number is looked at
passed : (p : Put) (puts : List Put) (x : ℕ) (a : Ty) → (p.number ≡ x → p.kind ≡ a → ⊥) → put_for (p ∷ puts) x a ≡ put_for puts x a
passed p puts x a other = ap (λ t. if t then p.value else put_for puts x a) (variable-other x a p.number p.kind other)

pub none_for : (puts : List Put) (x : ℕ) (a : Ty) → ((k : ℕ) (p : Put) → slice_get puts k ≡ Some p → p.number ≡ x → p.kind ≡ a → ⊥) → put_for puts x a ≡ free x a
none_for [] x a h = refl
none_for (p ∷ puts) x a h = passed p puts x a (h 0 p refl) ∙ none_for puts x a (λ k. h (suc k))

pub some_for : (puts : List Put) (k : ℕ) (p : Put) (x : ℕ) (a : Ty) → slice_get puts k ≡ Some p → p.number ≡ x → p.kind ≡ a → ((j : ℕ) (q : Put) → j < k → slice_get puts j ≡ Some q → q.number < x) → put_for puts x a ≡ p.value
some_for [] k p x a e n c h = absurd (cc)
some_for (q ∷ puts) zero p x a e n c h =
    let same = some_one e in
    ap (λ t. if t then q.value else put_for puts x a) (variable-same x a q.number q.kind (ap (λ r. r.number) same ∙ n) (ap (λ r. r.kind) same ∙ c)) ∙ ap (λ r. r.value) same
some_for (q ∷ puts) (suc k) p x a e n c h = passed q puts x a (λ d f. let l : q.number < x = h 0 q (omega arith) refl in omega arith) ∙ some_for puts k p x a e n c (λ j r b. h (suc j) r (omega arith))

-- over entries

entry_of : (o : Option SubstEntry) (p : Put) → option_map entry_put o ≡ Some p → (e : SubstEntry) × (o ≡ Some e) × (entry_put e ≡ p)
entry_of None p e = absurd (cc)
entry_of (Some d) p e = (d, refl, some_one e)

entry_at : (es : List SubstEntry) (k : ℕ) (p : Put) → slice_get (entry_puts es) k ≡ Some p → (e : SubstEntry) × (slice_get es k ≡ Some e) × (entry_put e ≡ p)
entry_at es k p at = entry_of (slice_get es k) p (sym (slice_get-map entry_put es k) ∙ at)

put_at : (es : List SubstEntry) (k : ℕ) (e : SubstEntry) → slice_get es k ≡ Some e → slice_get (entry_puts es) k ≡ Some (entry_put e)
put_at es k e at = slice_get-map entry_put es k ∙ ap (option_map entry_put) at

rises : (es : List SubstEntry) (i j : ℕ) (d e : SubstEntry) → AllPairs IsBelow (entry_puts es) → i < j → slice_get es i ≡ Some d → slice_get es j ≡ Some e → d.number < e.number
rises es i j d e rising before at there =
    let low = get_or_from_slice_get (entry_puts es) i (entry_put d) (entry_put d) (put_at es i d at) in
    let high = get_or_from_slice_get (entry_puts es) j (entry_put e) (entry_put d) (put_at es j e there) in
    subst₂ IsBelow low high (rising i j (entry_put d) before (slice_get_within (entry_puts es) j (entry_put e) (put_at es j e there)))

pub lower : (es : List SubstEntry) (x m : ℕ) (d : SubstEntry) → AllPairs IsBelow (entry_puts es) → slice_get es m ≡ Some d → d.number < x
    → (i : ℕ) (e : SubstEntry) → i < m + 1 → slice_get es i ≡ Some e → e.number < x
lower es x m d rising at below i e within there =
    ⊎_elim
    (λ before. let l : e.number < d.number = rises es i m e d rising before there at in omega arith)
    (λ here. let same : m ≡ i = omega arith in subst (λ f. f.number < x) (some_one (sym at ∙ ap (slice_get es) same ∙ there)) below)
    (cases_lt i m)

pub upper : (es : List SubstEntry) (x m : ℕ) (d : SubstEntry) → AllPairs IsBelow (entry_puts es) → slice_get es m ≡ Some d → x ≤ d.number
    → (i : ℕ) (e : SubstEntry) → m ≤ i → slice_get es i ≡ Some e → x ≤ e.number
upper es x m d rising at above i e within there =
    ⊎_elim
    (λ behind. let l : d.number < e.number = rises es m i d e rising behind at there in omega arith)
    (λ here. let same : m ≡ i = omega arith in subst (λ f. x ≤ f.number) (some_one (sym at ∙ ap (slice_get es) same ∙ there)) above)
    (cases_lt m i)

-- the entries before r have smaller numbers
abbrev pub AllBefore : List SubstEntry → ℕ → ℕ → Type 0
AllBefore es x r = (i : ℕ) (e : SubstEntry) → i < r → slice_get es i ≡ Some e → e.number < x

abbrev pub AllFrom : List SubstEntry → ℕ → ℕ → Type 0
AllFrom es x r = (i : ℕ) (e : SubstEntry) → r ≤ i → slice_get es i ≡ Some e → x ≤ e.number

pub entry_found : (es : List SubstEntry) (x : ℕ) (a : Ty) (r : ℕ) (e : SubstEntry) → AllBefore es x r → slice_get es r ≡ Some e → e.number ≡ x → ty e.kind ≡ a → put_for (entry_puts es) x a ≡ tm e.value
entry_found es x a r e before at n c =
    some_for (entry_puts es) r (entry_put e) x a (put_at es r e at) n c
    (λ j q within there. let (d, here, same) = entry_at es j q there in subst (λ p. p.number < x) same (before j d within here))

item_at : (es : List SubstEntry) (i : ℕ) → i < length es → (e : SubstEntry) × (slice_get es i ≡ Some e)
item_at [] i within = absurd (omega arith)
item_at (e ∷ es) zero within = (e, refl)
item_at (e ∷ es) (suc i) within = item_at es i (omega arith)

-- nothing is put where the entry at r, if there is one, is for another variable
pub no_entry : (es : List SubstEntry) (x : ℕ) (a : Ty) (r : ℕ) → AllPairs IsBelow (entry_puts es) → AllBefore es x r → AllFrom es x r
    → ((e : SubstEntry) → slice_get es r ≡ Some e → e.number ≡ x → ty e.kind ≡ a → ⊥) → put_for (entry_puts es) x a ≡ free x a
no_entry es x a r rising before from other = none_for (entry_puts es) x a apart
  where
    apart : (k : ℕ) (p : Put) → slice_get (entry_puts es) k ≡ Some p → p.number ≡ x → p.kind ≡ a → ⊥
    apart k p at n c =
        let (e, here, same) = entry_at es k p at in
        let number : e.number ≡ x = ap (λ q. q.number) same ∙ n in
        ⊎_elim
        (λ low. let l : e.number < x = before k e low here in omega arith)
        (λ high. ⊎_elim
        (λ behind. let (d, there) = item_at es r (omega (arith, slice_get_within es k e here)) in
        let l : d.number < e.number = rises es r k d e rising behind there here in
        let f : x ≤ d.number = from r d (omega arith) there in omega arith)
        (λ there. let equal : k ≡ r = omega arith in other e (sym (ap (slice_get es) equal) ∙ here) number (ap (λ q. q.kind) same ∙ c))
        (cases_lt r k))
        (cases_lt k r)

-- the number n is above that of the last entry, said of entries and of puts

abbrev pub IsAboveLastEntry : List SubstEntry → ℕ → Type 0
IsAboveLastEntry es n = (k : ℕ) (e : SubstEntry) → k + 1 ≡ length es → slice_get es k ≡ Some e → e.number < n

pub above_puts : (es : List SubstEntry) (n : ℕ) → IsAboveLastEntry es n → IsAboveLast (entry_puts es) n
above_puts es n h k p last at = let (e, there, same) = entry_at es k p at in subst (λ q. q.number < n) same (h k e (last ∙ length-map es entry_put) there)

pub above_entries : (es : List SubstEntry) (n : ℕ) → IsAboveLast (entry_puts es) n → IsAboveLastEntry es n
above_entries es n h k e last at = h k (entry_put e) (last ∙ sym (length-map es entry_put)) (put_at es k e at)
