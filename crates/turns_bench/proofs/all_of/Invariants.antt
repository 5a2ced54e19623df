use Rattle.std.proofs.Common.{◌≡◌, ℕ, All}
use Rattle.zj_turns.specs.Passes.{dealt, fresh}
use Rattle.turns_bench.proofs.all_of.Given as goal

abbrev pub invariant-loop : goal.invariant-loop
invariant-loop l = record {
  left : (k : ℕ) × (l.passes ≡ dealt l.fn.cache.table l.fn.cache.cores k);
  all : All (λ p. p ≡ fresh l.fn.cache.table p.core) l.all.items;
}
