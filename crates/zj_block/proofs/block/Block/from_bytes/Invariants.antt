use Rattle.std.proofs.Common.{◌≡◌, ℕ, ◌<◌, length, slice_index}
use Rattle.zj_block.specs.Block.{words_of}
use Rattle.zj_block.proofs.block.Block.from_bytes.Given as goal

-- the words read so far are those of the bytes
abbrev pub invariant-loop-i : goal.invariant-loop-i
invariant-loop-i l = (length l.word-items ≡ 64) × ((k : ℕ) → k < l.i → slice_index l.word-items k ≡ slice_index (words_of l.bytes) k)
