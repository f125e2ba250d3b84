-- Zero or more steps, and one or more steps, one after another and under functions.
use Rattle.std.proofs.Common.{◌≡◌, subst}
use Rattle.wh_order_extended.specs.Many.{Many, stay, go, Plus}

pub many_both : {A : Type 0} {R : A → A → Type 0} {a b c : A} → Many R a b → Many R b c → Many R a c
many_both stay n = n
many_both (go r m) n = go r (many_both m n)

pub many_one : {A : Type 0} {R : A → A → Type 0} {a b : A} → R a b → Many R a b
many_one r = go r stay

pub many_equal : {A : Type 0} {R : A → A → Type 0} {a b : A} → a ≡ b → Many R a b
many_equal {R = R} {a = a} e = subst (λ b. Many R a b) e stay

pub many_map : {A B : Type 0} {R : A → A → Type 0} {Q : B → B → Type 0} (f : A → B) → ((a b : A) → R a b → Q (f a) (f b)) → {a b : A} → Many R a b → Many Q (f a) (f b)
many_map f h stay = stay
many_map f h (go {a = a} {b = b} r m) = go (h a b r) (many_map f h m)

pub plus_many : {A : Type 0} {R : A → A → Type 0} {a b : A} → Plus R a b → Many R a b
plus_many p = go p.first p.others

pub plus_after : {A : Type 0} {R : A → A → Type 0} {a b c : A} → Many R a b → Plus R b c → Plus R a c
plus_after stay p = p
plus_after (go {b = b} r m) p = record { next = b; first = r; others = many_both m (plus_many p) }

pub plus_before : {A : Type 0} {R : A → A → Type 0} {a b c : A} → Plus R a b → Many R b c → Plus R a c
plus_before p m = record { next = p.next; first = p.first; others = many_both p.others m }

pub plus_map : {A B : Type 0} {R : A → A → Type 0} {Q : B → B → Type 0} (f : A → B) → ((a b : A) → R a b → Q (f a) (f b)) → {a b : A} → Plus R a b → Plus Q (f a) (f b)
plus_map f h {a = a} p = record { next = f p.next; first = h a p.next p.first; others = many_map f h p.others }
