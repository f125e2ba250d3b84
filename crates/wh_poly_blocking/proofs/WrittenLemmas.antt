-- Guesses that bits write.
use Rattle.std.proofs.Common.{◌≡◌, ℕ, ◌<◌, Bool, List, length, map, ap, sym, subst, ◌∙◌, arith}
use Rattle.std.specs.Global.{Vec}
use Rattle.std.proofs.lemmas.List.{length-map}
use Rattle.wh_poly_guesses.specs.Coefficients.{HaveCoefficients}
use Rattle.wh_poly_guesses.specs.Tasks.{IsGuessOf, guess_data}
use Rattle.wh_poly_blocking.specs.Encodings.{task_in, scopes_for, IsEncoding, IsWritten}
use Rattle.wh_poly_blocking.specs.Sizes.{bits_in, lists_of, value_of}
use Rattle.wh_poly_blocking.specs.declared.encoding.Encoding.{Encoding}
use Rattle.wh_poly_blocking.specs.declared.guessing.WrittenGuess.{WrittenGuess}
use Rattle.wh_poly_blocking.proofs.EncodingLemmas.{bits_total, lists_are, lists_long}

-- the bits are few
pub lists_room : (e : Encoding) (sizes : List ℕ) → IsEncoding e → sizes ≡ e.sizes.items → bits_in sizes < 4294967296
lists_room e sizes enc is = omega (arith, enc.few, bits_total (scopes_for e) sizes (is ∙ enc.sizes))

pub written_is : (e : Encoding) (w : WrittenGuess) (values : List Bool) (sizes : List ℕ) (lists : List (Vec ℕ)) → IsEncoding e
    → values ≡ w.values.items → sizes ≡ e.sizes.items → lists ≡ w.lists.items
    → map (λ l. l.items) w.lists.items ≡ lists_of (value_of values) 0 sizes
    → IsGuessOf e.task w.guess → map (λ m. m.symbol) w.guess.marks.items ≡ e.marked.now
    → HaveCoefficients (task_in e) (map (λ l. l.items) lists) (guess_data w.guess)
    → IsWritten e w
written_is e w values sizes lists enc values_are sizes_are lists_is by guess marks coefficients = record {
  guess = guess;
  marks = marks;
  lists = lists_are (scopes_for e) sizes (value_of w.values.items) (map (λ l. l.items) w.lists.items) (sizes_are ∙ enc.sizes)
      (by ∙ ap (λ (l : List Bool). lists_of (value_of l) 0 sizes) values_are);
  coefficients = subst (λ (l : List (Vec ℕ)). HaveCoefficients (task_in e) (map (λ l. l.items) l) (guess_data w.guess)) lists_is coefficients;
}

-- the lists of two guesses are equally many
pub written_long : (e : Encoding) (w : WrittenGuess) (values : List Bool) (sizes : List ℕ) (new : List (Vec ℕ)) → IsEncoding e → IsWritten e w → sizes ≡ e.sizes.items
    → map (λ l. l.items) new ≡ lists_of (value_of values) 0 sizes → length w.lists.items ≡ length new
written_long e w values sizes new enc written sizes_are by =
    let old : length w.lists.items ≡ length (scopes_for e) = sym (length-map w.lists.items (λ (l : Vec ℕ). l.items)) ∙ ap length written.lists ∙ lists_long (value_of w.values.items) 0 (scopes_for e) in
    let next = lists_are (scopes_for e) sizes (value_of values) (map (λ l. l.items) new) (sizes_are ∙ enc.sizes) by in
    old ∙ sym (sym (length-map new (λ (l : Vec ℕ). l.items)) ∙ ap length next ∙ lists_long (value_of values) 0 (scopes_for e))
