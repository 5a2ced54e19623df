use Rattle.std.proofs.Common.{◌≡◌, ◌⊎◌, ℕ, ◌+◌, ◌-◌, ◌<◌, ◌≤◌, max, length, slice_index}
use Rattle.zj_layout.specs.Node.{byte_in}
use Rattle.zj_inode.proofs.files.with_range.Given as goal

abbrev pub invariant-loop-k : goal.invariant-loop-k
invariant-loop-k l = record {
  many : length l.out ≡ 512;
  up : l.k ≤ max l.end (max l.at l.first);
  from : max l.at l.first ≤ l.k;
  inside : (i : ℕ) → i < 512 → l.at ≤ l.first + i → l.first + i < l.k → slice_index l.out i ≡ slice_index l.bytes (l.first + i - l.at);
  outside : (i : ℕ) → i < 512 → (l.first + i < l.at) ⊎ (l.k ≤ l.first + i) → slice_index l.out i ≡ byte_in l.was i;
}
