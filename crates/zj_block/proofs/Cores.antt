-- Numbers for each core.
use Rattle.std.proofs.Common.{ℕ, replicate, refl, inl, inr, arith}
use Rattle.std.proofs.lemmas.Bool.{cases_lt}
use Rattle.std.proofs.lemmas.List.{get_or-replicate, get_or_past}
use Rattle.zj_block.specs.Numbers.{IsBounds, zero_bounds}

-- 64 zeros fit
pub IsBounds-zero : IsBounds zero_bounds
unfolding zero_bounds
IsBounds-zero = record {
  many = refl;
  fits = λ i. elim (cases_lt i 64) [
    | inl below ↦ rw (get_or-replicate {A = ℕ} 64 i 0 0 below) (omega arith)
    | inr above ↦ rw (get_or_past {X = ℕ} (replicate 64 0) i 0 above) (omega arith)
  ];
}
