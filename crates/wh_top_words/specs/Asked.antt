-- The request of a command of the program.
use Rattle.wh_top_words.specs.Words.{Bounds, Request, check, prove, show, gen, reduce, upgrade, refute}
use Rattle.wh_top_words.specs.declared.words.Command.{Command}
use Rattle.wh_top_words.specs.declared.words.Command.TheVariants.{Check, Prove, Show, Gen, Reduce, Upgrade, Refute}
use Rattle.wh_top_words.specs.declared.words.Limits.{Limits}

abbrev pub bounds_of : Limits → Bounds
bounds_of l = record { tries = l.tries; depth = l.depth; visited = l.visited }

abbrev pub request : Command → Request
request (Check file cert) = check file.now cert.now
request (Prove file limits) = prove file.now (bounds_of limits)
request (Show file) = show file.now
request (Gen n) = gen n
request (Reduce file term steps) = reduce file.now term.now steps
request (Upgrade file cert) = upgrade file.now cert.now
request (Refute file tries) = refute file.now tries
