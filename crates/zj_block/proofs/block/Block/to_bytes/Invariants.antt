use Rattle.std.proofs.Common.{◌≡◌, ℕ, ◌*◌, ◌<◌, length, slice_index}
use Rattle.zj_block.specs.Block.{bytes_of}
use Rattle.zj_block.proofs.block.Block.to_bytes.Given as goal

-- the bytes written so far are those of the words
abbrev pub invariant-loop-i : goal.invariant-loop-i
invariant-loop-i l = (length l.out ≡ 512) × ((m : ℕ) → m < 8 * l.i → slice_index l.out m ≡ slice_index (bytes_of l.word-items) m)
