use Rattle.std.proofs.Common.{ℕ, ◌<◌, List, slice_index_or}
use Rattle.zj_block.proofs.lists.place.Given as goal

-- each entry so far has a smaller number
abbrev pub invariant-loop-i : goal.invariant-loop-i
invariant-loop-i l = (k : ℕ) (d : ℕ × List ℕ) → k < l.i → (slice_index_or l.entries k d).0 < l.number
