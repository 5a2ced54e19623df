-- A piece that was written, and a slot whose gate is written behind its body.
use Rattle.std.proofs.Common.{◌≡◌, ℕ, ◌+◌, ◌≤◌, List, [], ◌∷◌, length, take, drop, ap, ◌∙◌, arith}
use Rattle.std.specs.List.{slice_range}
use Rattle.std.proofs.lemmas.Grind.{common_steps}
use Rattle.zj_dev.specs.Disk.{replaced}
use Rattle.zj_dev.proofs.DiskLaws.{replaced_there}

-- the piece, by the place where it ends
pub at-replaced : (bytes : List ℕ) (at : ℕ) (piece : List ℕ) (to : ℕ) → at + length piece ≤ length bytes → to ≡ at + length piece
    → slice_range (replaced bytes at piece) at to ≡ piece
at-replaced bytes at piece to within e = ap (λ (k : ℕ). slice_range (replaced bytes at piece) at k) e ∙ replaced_there bytes at piece within

-- a slot whose gate is written behind its body
pub gate_last : (bytes slot : List ℕ) → 1 ≤ length slot → length slot ≤ length bytes → replaced (replaced bytes 1 (drop 1 slot)) 0 (take 1 slot) ≡ replaced bytes 0 slot
gate_last [] slot some within = absurd (omega arith)
gate_last (b ∷ bytes) [] some within = absurd (omega arith)
gate_last (b ∷ bytes) (s ∷ slot) some within = grind (arith, common_steps)
