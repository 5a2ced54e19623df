use Rattle.std.proofs.Common.{◌≡◌, ◌<◌, ℕ}
use Rattle.std.specs.Prelude.{IfSome, nat_lt, slice_get}
use Rattle.zj_mount.proofs.gathering.chooses_same.Given as goal

abbrev pub invariant-loop-i : goal.invariant-loop-i
invariant-loop-i l = (k : ℕ) → k < l.i → IfSome (slice_get l.records k) (λ r. nat_lt r.number l.guess ≡ nat_lt r.number l.kept)
