-- Paths along which a flow can grow, as a breadth-first search finds them.
use Rattle.std.specs.Prelude.{ℕ, suc, ◌≡◌, ◌<◌, ◌≤◌, ◌+◌, Bool, true, false, IsTrue, Option, None, Some, IsSome, MatchOption, ◌⊎◌, ◌++◌, slice_set, List, [], ◌∷◌, length, map, slice_index, slice_index_or, All}
use Rattle.wh_hopoly.specs.Moves.{Transfer}
use Rattle.wh_poly.specs.declared.polynomial.Monomial.{Monomial}
use Rattle.wh_hopoly.specs.Erase.{transfers}
use Rattle.wh_poly_moves.specs.declared.flow.Flow.{Flow}
use Rattle.wh_poly_moves.specs.declared.search.Link.{Link}
use Rattle.wh_poly_moves.specs.declared.search.Step.{Step}
use Rattle.wh_poly_moves.specs.declared.search.Path.{Path}
use Rattle.wh_poly_moves.specs.declared.search.Search.{Search}
use Rattle.wh_poly_moves.specs.Flows.{CanGive, move_at}

-- the right monomial of the step p, or 0 where there is none (ours)
abbrev pub target : List Step → ℕ → ℕ
target ss p = slice_index (map (λ s. s.target) ss) p

-- how the search got there (ours)
abbrev pub link : List Step → ℕ → Option Link
link ss p = slice_index_or (map (λ s. s.link) ss) p None

-- the step to whose monomial the left monomial i could give, where it is marked (ours)
abbrev pub mark : List (Option ℕ) → ℕ → Option ℕ
mark givers i = slice_index_or givers i None

-- the search has got to the right monomial j (ours)
abbrev pub IsReached : List Bool → ℕ → Type 0
IsReached reached j = IsTrue (slice_index_or reached j false)

-- to how many right monomials the search has not got (ours)
abbrev pub unreached : List Bool → ℕ
unreached [] = 0
unreached (true ∷ bs) = unreached bs
unreached (false ∷ bs) = suc (unreached bs)

-- a move that brings something to the monomial of the step p, from a left monomial that could give to that of an
-- earlier step (ours)
pub record IsLink (left right : List Monomial) (ms : List Transfer) (ss : List Step) (p : ℕ) (l : Link) : Type 0 where
  pub here : l.through < length ms
  pub brings : (move_at ms l.through).to ≡ target ss p
  pub some : 0 < (move_at ms l.through).amount
  pub before : l.towards < p
  pub gives : CanGive left right (move_at ms l.through).from (target ss l.towards)

-- each step has such a move, but for the first (ours)
abbrev pub IsStep : List Monomial → List Monomial → List Transfer → List Step → ℕ → Type 0
IsStep left right ms ss p = MatchOption (link ss p) (p ≡ 0) (IsLink left right ms ss p)

-- steps to different right monomials (ours)
pub record AreSteps (left right : List Monomial) (ms : List Transfer) (ss : List Step) : Type 0 where
  pub here : (p : ℕ) → p < length ss → target ss p < length right
  pub linked : (p : ℕ) → p < length ss → IsStep left right ms ss p
  pub apart : (p q : ℕ) → p < length ss → q < length ss → target ss p ≡ target ss q → p ≡ q

-- the left monomial has something free, and could give to the right monomial (ours)
pub record GivesTo (left right : List Monomial) (flow : Flow) (j i : ℕ) : Type 0 where
  pub gives : CanGive left right i j
  pub free : 0 < slice_index flow.free.items i

-- steps from the root to a right monomial, to which a left one can give that has something free (ours)
pub record IsPath (left right : List Monomial) (flow : Flow) (root : ℕ) (path : Path) : Type 0 where
  pub steps : AreSteps left right (transfers flow.moves.items) path.steps.items
  pub root_is : target path.steps.items 0 ≡ root
  pub here : path.at < length path.steps.items
  pub giver : GivesTo left right flow (target path.steps.items path.at) path.giver

-- the left monomial i could give to that of the step p, but has nothing free (ours)
pub record IsSpent (left right : List Monomial) (flow : Flow) (ss : List Step) (i p : ℕ) : Type 0 where
  pub here : p < length ss
  pub gives : CanGive left right i (target ss p)
  pub spent : slice_index flow.free.items i ≡ 0

-- what a search keeps, by its lists (ours)
pub record AreFound (left right : List Monomial) (flow : Flow) (ss : List Step) (reached : List Bool)
    (givers : List (Option ℕ)) : Type 0 where
  pub begun : 0 < length ss
  pub steps : AreSteps left right (transfers flow.moves.items) ss
  pub reached_long : length reached ≡ length right
  pub givers_long : length givers ≡ length left
  pub marked : (p : ℕ) → p < length ss → IsReached reached (target ss p)
  pub known : (j : ℕ) → IsReached reached j → (p : ℕ) × (p < length ss) × (target ss p ≡ j)
  pub counted : unreached reached + length ss ≡ length right
  pub spent : (i : ℕ) → MatchOption (mark givers i) (Unit {0}) (IsSpent left right flow ss i)

-- what a search keeps (ours)
abbrev pub IsSearch : List Monomial → List Monomial → Flow → Search → Type 0
IsSearch left right flow search = AreFound left right flow search.steps.items search.reached.items search.givers.items

-- the search has got to each right monomial that gets something from a marked left one (ours)
abbrev pub HasReached : Flow → Search → Type 0
HasReached flow search =
    All (λ m. IsSome (mark search.givers.items m.from) → 0 < m.amount → IsReached search.reached.items m.to) (transfers flow.moves.items)

-- all that could give to the right monomial j are marked (ours)
abbrev pub AllMarked : List Monomial → List Monomial → ℕ → Search → Type 0
AllMarked left right j search = (i : ℕ) → CanGive left right i j → IsSome (mark search.givers.items i)

-- marks have joined at most (ours)
pub record HasMarked (old new : Search) : Type 0 where
  pub steps : new.steps.items ≡ old.steps.items
  pub reached : new.reached.items ≡ old.reached.items
  pub kept : (i : ℕ) → IsSome (mark old.givers.items i) → IsSome (mark new.givers.items i)

-- steps have joined at most (ours)
pub record HasStepped (old new : Search) : Type 0 where
  pub givers : new.givers.items ≡ old.givers.items
  pub long : length old.steps.items ≤ length new.steps.items
  pub kept : (p : ℕ) → p < length old.steps.items → target new.steps.items p ≡ target old.steps.items p

-- the search has got to the right monomial of the move at a place, by that move, if its left one is marked and the
-- search was not there (ours)
pub record ReachesBy (through : ℕ) (m : Transfer) (old new : Search) : Type 0 where
  pub givers : new.givers.items ≡ old.givers.items
  pub done : IsSome (mark old.givers.items m.from) → IsReached new.reached.items m.to
  pub change : (new.steps.items ≡ old.steps.items × (new.reached.items ≡ old.reached.items))
      ⊎ ((towards : ℕ) × (mark old.givers.items m.from ≡ Some towards) × (slice_index_or old.reached.items m.to false ≡ false)
      × (new.reached.items ≡ slice_set old.reached.items m.to true)
      × (new.steps.items ≡ old.steps.items ++ record { target = m.to; link = Some (record { through = through; towards = towards }) } ∷ []))
