use Rattle.std.proofs.Common.{◌≡◌, None}
use Rattle.zj_core.specs.Core.{IsOf}
use Rattle.core_cases.proofs.call_many.Given as goal

abbrev pub invariant-loop : goal.invariant-loop
invariant-loop l = IsOf l.cache l.core × (l.core.begun ≡ None)
