-- What the prover answers: a certificate of termination or of a loop that is valid, or why it gives up.
use Rattle.std.specs.Prelude.{ℕ, ◌≡◌, ◌<◌, ◌⊎◌, List, length, map, All}
use Rattle.wh_system.specs.Systems.{SystemData}
use Rattle.wh_pairs.specs.PairData.{PairData}
use Rattle.wh_access.specs.Passing.{IsPassing}
use Rattle.wh_access.specs.Found.{IsCause}
use Rattle.wh_cert.specs.Limits.{IsCert}
use Rattle.wh_cert.specs.Said.{said}
use Rattle.wh_cert.specs.Written.{Cert, yes, no}
use Rattle.wh_sat_trail.specs.declared.literal.Literal.{Literal}
use Rattle.wh_find_subterm.specs.Found.{IsSpent}
use Rattle.wh_poly_guesses.specs.Conditions.{HasNoInterpretation}
use Rattle.wh_poly_guesses.specs.Found.{task_of}
use Rattle.wh_poly_blocking.specs.Answers as tried
use Rattle.wh_interpreting.specs.Lists.{ListsEnd}
use Rattle.wh_order_space.specs.Space.{HasNoOrder}
use Rattle.wh_find_order.specs.Answers as ordered
use Rattle.wh_loop_starts.specs.Space.{HasNoLoop}
use Rattle.wh_loop_starts.specs.Found.{IsLoopCertificate}
use Rattle.wh_loop_reached.specs.Arrivals.{Arrival, arrival}
use Rattle.wh_find_loop.specs.Answers.{AreVisited, ReachesFewer}
use Rattle.wh_proof.specs.Valid.{IsValidCert, IsSmallCert}
use Rattle.wh_prover.specs.Searched.{IsSearched}
use Rattle.wh_prover.specs.Versions.{IsOfLeastVersion}
use Rattle.wh_prover.specs.Arriving.{Ended, HasNoProjection}
use Rattle.wh_prover.specs.declared.answer.Answer.{Answer}
use Rattle.wh_prover.specs.declared.answer.Answer.TheVariants.{Yes, No, Maybe}
use Rattle.wh_prover.specs.declared.answer.Options.{Options}
use Rattle.wh_prover.specs.declared.answer.Cause.{Cause}
use Rattle.wh_prover.specs.declared.answer.Cause.TheVariants.{NoRanks, Stuck, Spent, Full}
use Rattle.wh_prover.specs.declared.answer.Finder.TheVariants.{Subterm, Poly, Order}

-- a certificate of termination
abbrev pub IsYes : Cert → Type 0
IsYes (yes version ranks pairs lines) = Unit {0}
IsYes (no t steps at puts) = ⊥

-- each of its nodes of interpretations and of path orders is of the space that is searched
abbrev pub IsSearchedCert : SystemData → Cert → Type 0
IsSearchedCert d (yes version ranks pairs lines) = All (IsSearched d) lines
IsSearchedCert d (no t steps at puts) = ⊥

-- a certificate of termination that is valid, within the limits of its format, small, and of the space that is searched
pub record IsProof (d : SystemData) (ps : List PairData) (c : Cert) : Type 0 where
  pub yes : IsYes c
  pub fits : IsCert c
  pub valid : IsValidCert d ps c
  pub small : IsSmallCert d ps c
  pub searched : IsSearchedCert d c
  pub version : IsOfLeastVersion d c

-- there are ranks under which the system is passing
abbrev pub HasRanks : SystemData → Type 0
HasRanks d = (ranks : List ℕ) × (length ranks ≡ d.symbols.sorts) × IsPassing d ranks

-- no projection, no interpretation that covers all rules and no path order of the spaces lets a pair go of a knot that
-- the search comes to, under some ranks; so clauses may be learnt at all; and this became of the search for
-- interpretations that cover the least closed list (ours)
pub record IsStuck (d : SystemData) (ps : List PairData) (tries : ℕ) (set : List ℕ) : Type 0 where
  pub ranks : HasRanks d
  pub searched : 0 < tries
  pub ended : Ended d ps set
  pub no_projection : HasNoProjection d.rules ps set
  pub no_interpretation : HasNoInterpretation (task_of d ps set)
  pub lists : ListsEnd d ps set tries
  pub no_order : HasNoOrder (task_of d ps set)

-- the search for a projection of a knot that the search comes to learnt as many clauses as it may, which are shown
-- (ours)
pub record IsSpentOn (d : SystemData) (ps : List PairData) (tries : ℕ) (set : List ℕ) (list : List (List Literal)) : Type 0 where
  pub ranks : HasRanks d
  pub ended : Ended d ps set
  pub spent : IsSpent d.rules ps set tries list

-- no projection lets a pair go of a knot that the search comes to, the search for interpretations that cover all rules
-- made as many clauses as it may, which are shown, and this became of the one that covers the least closed list (ours)
pub record IsTriedOn (d : SystemData) (ps : List PairData) (tries : ℕ) (set : List ℕ) (list : List (List Literal)) : Type 0 where
  pub ranks : HasRanks d
  pub searched : 0 < tries
  pub ended : Ended d ps set
  pub no_projection : HasNoProjection d.rules ps set
  pub spent : tried.IsSpent d ps set tries list
  pub lists : ListsEnd d ps set tries

-- no projection and no interpretation that covers all rules lets a pair go of a knot that the search comes to, the
-- search for path orders made as many clauses as it may, which are shown, and this became of the search for
-- interpretations that cover the least closed list (ours)
pub record AreOrdersTriedOn (d : SystemData) (ps : List PairData) (tries : ℕ) (set : List ℕ) (list : List (List Literal)) : Type 0 where
  pub ranks : HasRanks d
  pub searched : 0 < tries
  pub ended : Ended d ps set
  pub no_projection : HasNoProjection d.rules ps set
  pub no_interpretation : HasNoInterpretation (task_of d ps set)
  pub lists : ListsEnd d ps set tries
  pub spent : ordered.IsSpent d ps set tries list

-- why there is no proof of termination: there are no ranks; nothing lets a pair of a set go; or a search for what does
-- was given up (ours)
abbrev pub HasNoProof : SystemData → List PairData → ℕ → Cause → Type 0
HasNoProof d ps tries (NoRanks cause) = IsCause d cause
HasNoProof d ps tries (Stuck set) = IsStuck d ps tries set
HasNoProof d ps tries (Spent Subterm set list) = IsSpentOn d ps tries set list
HasNoProof d ps tries (Spent Poly set list) = IsTriedOn d ps tries set list
HasNoProof d ps tries (Spent Order set list) = AreOrdersTriedOn d ps tries set list
HasNoProof d ps tries (Full visits) = ⊥

-- no loop was found: there is none of at most the given number of steps, and fewer terms are reached than may be kept
-- (ours)
pub record HasNoLoops (d : SystemData) (o : Options) : Type 0 where
  pub none : HasNoLoop d o.depth
  pub all : ReachesFewer d.rules o.depth o.visited

-- as many terms were reached as may be kept; each is a start itself, or holds no instance of its start (ours)
abbrev pub IsFull : SystemData → Options → List Arrival → Type 0
IsFull d o list = AreVisited d o.depth o.visited list

abbrev pub FoundNoLoop : SystemData → Options → Type 0
FoundNoLoop d o = HasNoLoops d o ⊎ ((list : List Arrival) × IsFull d o list)

-- why the search gave up: there are no ranks; it ended on a set of which nothing lets a pair go, and there are no
-- loops; the search for what lets one go was given up; or it ended on such a set, and the search for loops is full,
-- which outweighs only that (ours)
abbrev pub IsReason : SystemData → List PairData → Options → Cause → Type 0
IsReason d ps o (NoRanks cause) = IsCause d cause × FoundNoLoop d o
IsReason d ps o (Stuck set) = IsStuck d ps o.tries set × HasNoLoops d o
IsReason d ps o (Spent Subterm set list) = IsSpentOn d ps o.tries set list × FoundNoLoop d o
IsReason d ps o (Spent Poly set list) = IsTriedOn d ps o.tries set list × FoundNoLoop d o
IsReason d ps o (Spent Order set list) = AreOrdersTriedOn d ps o.tries set list × FoundNoLoop d o
IsReason d ps o (Full visits) = ((set : List ℕ) × IsStuck d ps o.tries set) × IsFull d o (map arrival visits)

-- a certificate of a loop
abbrev pub IsNo : Cert → Type 0
IsNo (yes version ranks pairs lines) = ⊥
IsNo (no t steps at puts) = Unit {0}

-- a certificate of non-termination that is valid, within the limits of its format, and of the space that was searched
pub record IsLoopProof (d : SystemData) (depth : ℕ) (c : Cert) : Type 0 where
  pub no : IsNo c
  pub loops : IsLoopCertificate d depth c

-- the answer is a proof, a loop, or a reason for there being neither
abbrev pub IsAnswer : SystemData → List PairData → Options → Answer → Type 0
IsAnswer d ps o (Yes certificate) = IsProof d ps (said certificate)
IsAnswer d ps o (No certificate) = IsLoopProof d o.depth (said certificate)
IsAnswer d ps o (Maybe cause) = IsReason d ps o cause
