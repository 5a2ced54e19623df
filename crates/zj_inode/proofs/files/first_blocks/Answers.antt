-- One number more is copied.
use Rattle.std.proofs.Common.{◌≡◌, ℕ, ◌+◌, ◌<◌, List, length, set, sym, ap, ◌∙◌, arith, slice_index}
use Rattle.std.proofs.lemmas.List.{length-set, get_or-set_same, get_or-set_other}
use native.Mathlib.Decide.{ℕ_discrete}
use Rattle.zj_inode.proofs.files.first_blocks.Goals as goal

one_first : (first blocks : List ℕ) (j : ℕ) → j < length first → ((k : ℕ) → k < j → slice_index first k ≡ slice_index blocks k) → (k : ℕ) → k < j + 1 → Dec (k ≡ j) → slice_index (set first j (slice_index blocks j)) k ≡ slice_index blocks k
one_first first blocks j room h k lt (yes e) = ap (slice_index (set first j (slice_index blocks j))) e ∙ get_or-set_same first j (slice_index blocks j) 0 room ∙ ap (slice_index blocks) (sym e)
one_first first blocks j room h k lt (no ne) = get_or-set_other first j k (slice_index blocks j) 0 ne ∙ h k (omega arith)

pub loop-j-preserved : goal.loop-j-preserved
loop-j-preserved c =
    let first = c.loop-j.first in
    let blocks = c.args.blocks.now in
    let j = c.loop-j.j in
    record {
      many = length-set first j (slice_index blocks j) ∙ c.loop-j.invariant.many;
      first = λ k lt. one_first first blocks j (omega (arith, c.loop-j.invariant.many, c.requires)) c.loop-j.invariant.first k lt (ℕ_discrete k j);
      zeros = λ k le. get_or-set_other first j k (slice_index blocks j) 0 (λ e. omega arith) ∙ c.loop-j.invariant.zeros k (omega arith);
    }
