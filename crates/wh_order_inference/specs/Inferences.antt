-- Inferences of the path order, as trees of letters.
use Rattle.std.specs.Prelude.{ℕ, ◌+◌}

-- the letters, in the order `=`, `l`, `m`, `s`, `p`, `x`, `a`, `b`, `v`, `z`: the same trees; two abstractions, by
-- their bodies; two spines with one head that is no symbol, by their arguments; an argument on the left; a symbol of
-- lower precedence on the right; one of equal precedence, by the first arguments that differ; a spine on the right that
-- no symbol heads; an abstraction on the right; a variable on the right whose binder was passed; a meta-variable on the
-- right that an argument on the left is (after Kop 2012, Blanqui, Jouannaud and Rubio 2015; the letters are ours)
pub data Letter : Type 0 where
  same_trees bodies arguments part lower first_less spine_parts body variable meta_part : Letter

-- an inference: a letter, a place where it has one, else 0, and an inference for each of its parts
mutual
  pub data Inference : Type 0 where
    infer : (letter : Letter) (place : ℕ) (parts : Inferences) → Inference

  pub data Inferences : Type 0 where
    no_parts : Inferences
    more_parts : (i : Inference) (is : Inferences) → Inferences

abbrev pub letter_of : Inference → Letter
letter_of (infer l n is) = l

abbrev pub count_parts : Inferences → ℕ
count_parts no_parts = 0
count_parts (more_parts i is) = 1 + count_parts is

-- how many inferences there are in it, itself included
abbrev mutual
  pub entries : Inference → ℕ
  entries (infer l n is) = 1 + all_entries is

  pub all_entries : Inferences → ℕ
  all_entries no_parts = 0
  all_entries (more_parts i is) = entries i + all_entries is
