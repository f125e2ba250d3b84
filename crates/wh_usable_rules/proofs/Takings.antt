-- Rules that are taken, and what their right sides call.
use Rattle.std.proofs.Common.{◌≡◌, ℕ, zero, suc, ◌+◌, ◌<◌, inl, inr, Bool, true, false, List, [], ◌∷◌, length, Some, slice_get, refl, ap, ap₂, sym, subst, if◌then◌else◌, ◌∙◌, arith}
use Rattle.std.proofs.lemmas.Option.{slice_get_within}
use Rattle.wh_terms.specs.Tree.{fun, head}
use Rattle.wh_terms.specs.Rules.{RewriteRule}
use Rattle.wh_pairs.proofs.ByPlace.{same_or_below, some_one}
use Rattle.wh_usable.specs.Closed.{HasSymbol}
use Rattle.wh_usable_rules.specs.Tables.{Says, Enters}
use Rattle.wh_usable_rules.specs.Called.{Reaches, from, by_rule}
use Rattle.wh_usable_rules.specs.Taken.{IsFollowed, Takes, IsPass, open_in}

module _ (rules : List RewriteRule) where
  pub takes_none : (called taken : List Bool) → Takes rules called taken called taken
  takes_none called taken = record {
    called_length = refl;
    taken_length = refl;
    called_kept = λ f says. says;
    called_only = λ f says. from f says;
    taken_kept = λ n says. says;
    taken_only = λ n says. inl says;
  }

  pub reaches_on : (P Q : ℕ → Type 0) → ((g : ℕ) → P g → Reaches rules Q g) → {f : ℕ} → Reaches rules P f → Reaches rules Q f
  reaches_on P Q on (from f p) = on f p
  reaches_on P Q on (by_rule n r g f at heads called has) = by_rule n r g f at heads (reaches_on P Q on called) has

  followed_on : (called now : List Bool) (n : ℕ) → length now ≡ length called → ((f : ℕ) → Says called f → Says now f)
      → IsFollowed rules called n → IsFollowed rules now n
  followed_on called now n same kept is = record {
    rule = is.rule;
    there = is.there;
    symbol = is.symbol;
    heads = is.heads;
    is_called = kept is.symbol is.is_called;
    calls = λ f has within. kept f (is.calls f has (omega (arith, within, same)));
  }

  pub takes_on : (c t c1 t1 c2 t2 : List Bool) → Takes rules c t c1 t1 → Takes rules c1 t1 c2 t2 → Takes rules c t c2 t2
  takes_on c t c1 t1 c2 t2 first second = record {
    called_length = second.called_length ∙ first.called_length;
    taken_length = second.taken_length ∙ first.taken_length;
    called_kept = λ f says. second.called_kept f (first.called_kept f says);
    called_only = λ f says. reaches_on (Says c1) (Says c) first.called_only (second.called_only f says);
    taken_kept = λ n says. second.taken_kept n (first.taken_kept n says);
    taken_only = λ n says. elim (second.taken_only n says) [
      | inr followed ↦ inr followed
      | inl there ↦ elim (first.taken_only n there) [
        | inl before ↦ inl before
        | inr followed ↦ inr (followed_on c1 c2 n second.called_length second.called_kept followed)
      ]
    ];
  }

  -- a rule of a symbol that is called is taken
  pub takes_one : (c t c1 t1 : List Bool) (i g : ℕ) (r : RewriteRule) → slice_get rules i ≡ Some r → head r.left ≡ fun g → Says c g
      → Enters (λ n. n ≡ i) t t1 → Enters (λ f. HasSymbol f r.right) c c1 → Takes rules c t c1 t1
  takes_one c t c1 t1 i g r at heads says taken enters =
      let kept : (f : ℕ) → Says c f → Says c1 f = λ f there. (enters.each f (slice_get_within c f true there)).1 (inl there) in
      record {
        called_length = enters.same_length;
        taken_length = taken.same_length;
        called_kept = kept;
        called_only = λ f now.
            let within = slice_get_within c1 f true now in
            elim ((enters.each f (omega (arith, within, enters.same_length))).0 now) [
              | inl there ↦ from f there
              | inr has ↦ by_rule i r g f at heads (from g says) has
            ];
        taken_kept = λ n there. (taken.each n (slice_get_within t n true there)).1 (inl there);
        taken_only = λ n now.
            let within = slice_get_within t1 n true now in
            elim ((taken.each n (omega (arith, within, taken.same_length))).0 now) [
              | inl there ↦ inl there
              | inr same ↦
                  inr (record {
                    rule = r;
                    there = subst (λ k. slice_get rules k ≡ Some r) (sym same) at;
                    symbol = g;
                    heads = heads;
                    is_called = kept g says;
                    calls = λ f has within. (enters.each f (omega (arith, within, enters.same_length))).1 (inr has);
                  })
            ];
      }

  -- passes over the rules before a place

  pub pass_first : (c t : List Bool) → IsPass rules c t c t 0 false
  pass_first c t = record {
    takes = takes_none c t;
    no_more = omega arith;
    fewer = λ e. cc;
    ended = λ e n r f less. absurd (omega (arith, less));
  }

  pub pass_taken : (c t c1 t1 c2 t2 : List Bool) (i : ℕ) (some : Bool) → IsPass rules c t c1 t1 i some → Takes rules c1 t1 c2 t2
      → open_in t2 < open_in t1 → IsPass rules c t c2 t2 (i + 1) true
  pass_taken c t c1 t1 c2 t2 i some pass takes less =
      let before = pass.no_more in
      record {
        takes = takes_on c t c1 t1 c2 t2 pass.takes takes;
        no_more = omega (arith, less, before);
        fewer = λ e. omega (arith, less, before);
        ended = λ e. cc;
      }

  -- the rule at the place is taken already, or no rule of a symbol that is called
  pub pass_left : (c t c1 t1 : List Bool) (i : ℕ) (some : Bool) (r : RewriteRule) → slice_get rules i ≡ Some r
      → ((f : ℕ) → head r.left ≡ fun f → Says c1 f → Says t1 i) → IsPass rules c t c1 t1 i some → IsPass rules c t c1 t1 (i + 1) some
  pass_left c t c1 t1 i some r at settled pass = record {
    takes = pass.takes;
    no_more = pass.no_more;
    fewer = pass.fewer;
    ended = λ e n q f less there heads says. elim (same_or_below n i less) [
      | inr below ↦ pass.ended e n q f below there heads says
      | inl same ↦
          let is : q ≡ r = some_one (subst (λ k. slice_get rules k ≡ Some q) same there) at in
          subst (Says t1) (sym same) (settled f (subst (λ (x : RewriteRule). head x.left ≡ fun f) is heads) says)
    ];
  }

-- one place less is open

same_bool : (a b : Bool) → (a ≡ true → b ≡ true) → (b ≡ true → a ≡ true) → a ≡ b
same_bool true b to back = sym (to refl)
same_bool false true to back = back refl
same_bool false false to back = refl

first_said : (a b : Bool) (xs ys : List Bool) → (Says (a ∷ xs) 0 → Says (b ∷ ys) 0) → a ≡ true → b ≡ true
first_said a b xs ys to e = let said : Some b ≡ Some true = to (ap Some e) in cc

all_alike : (xs ys : List Bool) → length xs ≡ length ys → ((n : ℕ) → n < length ys → (Says xs n → Says ys n) × (Says ys n → Says xs n)) → open_in xs ≡ open_in ys
all_alike [] [] same each = refl
all_alike [] (y ∷ ys) same each = absurd (omega (arith, same))
all_alike (x ∷ xs) [] same each = absurd (omega (arith, same))
all_alike (x ∷ xs) (y ∷ ys) same each =
    let (to, back) = each 0 (omega arith) in
    let first : x ≡ y = same_bool x y (first_said x y xs ys to) (first_said y x ys xs back) in
    let rest = all_alike xs ys (omega (arith, same)) (λ n within. each (suc n) (omega (arith, within))) in
    ap₂ (λ (b : Bool) k. (if b then 0 else 1) + k) first rest

not_said : (b : Bool) (t : List Bool) → (Says (b ∷ t) 0 → ⊥) → b ≡ false
not_said true t not = absurd (not refl)
not_said false t not = refl

pub fewer_open : (t t1 : List Bool) (i : ℕ) → i < length t → (Says t i → ⊥) → Enters (λ n. n ≡ i) t t1 → open_in t1 < open_in t
fewer_open [] t1 i within not enters = absurd (omega (arith, within))
fewer_open (b ∷ t) [] i within not enters = absurd (omega (arith, enters.same_length))
fewer_open (b ∷ t) (b1 ∷ t1) zero within not enters =
    let was : b ≡ false = not_said b t not in
    let said : Some b1 ≡ Some true = (enters.each 0 (omega arith)).1 (inr refl) in
    let now : b1 ≡ true = cc in
    let rest = all_alike t1 t (omega (arith, enters.same_length)) (λ n below.
    let each = enters.each (suc n) (omega (arith, below)) in (
      λ says. elim (each.0 says) [ inl there ↦ there | inr same ↦ absurd (omega (arith, same)) ],
      λ says. each.1 (inl says),
    )) in
    let less : open_in (b1 ∷ t1) ≡ 0 + open_in t1 = ap (λ (x : Bool). open_in (x ∷ t1)) now in
    let more : open_in (b ∷ t) ≡ 1 + open_in t = ap (λ (x : Bool). open_in (x ∷ t)) was in
    omega (arith, rest, less, more)
fewer_open (b ∷ t) (b1 ∷ t1) (suc i) within not enters =
    let each = enters.each 0 (omega arith) in
    let first : b1 ≡ b = same_bool b1 b
    (first_said b1 b t1 t (λ says. elim (each.0 says) [ inl there ↦ there | inr same ↦ absurd (omega (arith, same)) ]))
    (first_said b b1 t t1 (λ says. each.1 (inl says))) in
    let rest = fewer_open t t1 i (omega (arith, within)) not (record {
      same_length = omega (arith, enters.same_length);
      each = λ n below.
          let next = enters.each (suc n) (omega (arith, below)) in (
            λ says. elim (next.0 says) [ inl there ↦ inl there | inr same ↦ inr (omega (arith, same)) ],
            λ h. next.1 (elim h [ inl there ↦ inl there | inr same ↦ inr (omega (arith, same)) ]),
          );
    }) in
    let kept : open_in (b1 ∷ t1) ≡ (if b then 0 else 1) + open_in t1 = ap (λ (x : Bool). open_in (x ∷ t1)) first in
    omega (arith, rest, kept)
