-- The answers of the search for loops.
use Rattle.std.specs.Prelude.{ℕ, ◌≡◌, ◌≢◌, ◌<◌, List, length, map, All, AllPairs}
use Rattle.wh_terms.specs.Rules.{RewriteRule}
use Rattle.wh_system.specs.Systems.{SystemData}
use Rattle.wh_cert.specs.Said.{said_no}
use Rattle.wh_loop_starts.specs.Space.{Reached, HasNoLoop}
use Rattle.wh_loop_starts.specs.Found.{IsLoopCertificate}
use Rattle.wh_find_loop.specs.declared.answer.LoopSearch.{LoopSearch}
use Rattle.wh_find_loop.specs.declared.answer.LoopSearch.TheVariants.{Found, Nothing, Full}
use Rattle.wh_loop_reached.specs.Arrivals.{Arrival, arrival, HoldsNoInstance}

-- the term of the arrival is reached in at most `depth` steps
abbrev pub IsReached : List RewriteRule → ℕ → Arrival → Type 0
IsReached rules depth a = Reached rules depth a.start a.term

-- the arrivals are reached, and no two are the same (ours)
pub record AreReached (rules : List RewriteRule) (depth : ℕ) (list : List Arrival) : Type 0 where
  pub each : All (IsReached rules depth) list
  pub distinct : AllPairs (λ a b. a ≢ b) list

-- `visited` arrivals are listed; each is a start itself, or holds no instance of its start (ours)
pub record AreVisited (d : SystemData) (depth visited : ℕ) (list : List Arrival) : Type 0 where
  pub count : length list ≡ visited
  pub reached : AreReached d.rules depth list
  pub no_instance : All (HoldsNoInstance d) list

-- fewer arrivals than that can be listed
abbrev pub ReachesFewer : List RewriteRule → ℕ → ℕ → Type 0
ReachesFewer rules depth visited = (list : List Arrival) → AreReached rules depth list → length list < visited

-- the certificate of a loop; that there is no loop, and that fewer terms are reached than may be; or as many as may be,
-- none of which ends a loop (ours)
abbrev pub IsAnswer : SystemData → ℕ → ℕ → LoopSearch → Type 0
IsAnswer d depth visited (Found c) = IsLoopCertificate d depth (said_no c)
IsAnswer d depth visited Nothing = HasNoLoop d depth × ReachesFewer d.rules depth visited
IsAnswer d depth visited (Full visits) = AreVisited d depth visited (map arrival visits)
