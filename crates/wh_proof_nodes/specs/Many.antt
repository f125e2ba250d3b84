-- Zero or more steps of a relation.

-- `Many R a b`: zero or more steps of R lead from a to b (Kop 2012)
pub data Many {A : Type 0} (R : A → A → Type 0) : A → A → Type 0 where
  stay : {a : A} → Many R a a
  go : {a b c : A} → R a b → Many R b c → Many R a c
