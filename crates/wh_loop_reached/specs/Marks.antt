-- A number for each tree, by which most trees that differ are told apart at once.
use Rattle.std.specs.Prelude.{ℕ, ◌+◌, ◌*◌, ◌/◌, ◌%◌}
use Rattle.wh_terms.specs.Tree.{Tm, bound, free, fun, meta, lam, app}

-- a number below 1,000,003 in which the order of the steps that lead to it counts (ours)
abbrev pub mixed : ℕ → ℕ
mixed h = (h + h / 61) % 1000003

-- the mark of a tree: equal trees have equal ones (ours)
abbrev pub mark : Tm → ℕ
mark (bound i) = i
mark (free x a) = x + 1
mark (fun f) = f + 2
mark (meta z ts) = z + 3
mark (lam a t) = mixed (3 * mark t + 5)
mark (app t u) = mixed (31 * mark t + 17 * mark u + 7)

-- the row of a tree, where its number is listed
abbrev pub key_of : Tm → ℕ
key_of t = mark t % 16384
