use Rattle.std.proofs.Common.{◌≡◌, ◌+◌, ◌-◌, ◌++◌, reverse}
use Rattle.std.specs.Vec.{vec_capacity, vec_len}
use Rattle.zj_turns.specs.Passes.{dealt}
use Rattle.zj_session.specs.Playing.{journals_of}
use Rattle.zj_session.specs.Starting.{AreFresh}
use Rattle.zj_session.proofs.starting.make_cores.Given as goal

abbrev pub invariant-loop-core : goal.invariant-loop-core
invariant-loop-core g l = record {
  passes : l.passes ≡ dealt l.fn.cache.table l.fn.cache.cores (l.fn.cache.cores - l._core);
  made : vec_len l.cores ≡ l._core;
  left : vec_len l.waiting + l._core ≡ l.fn.cache.cores;
  room : vec_capacity l.cores ≡ vec_capacity l.fn.cores;
  fresh : AreFresh l.fn.cache l.fn.sizes l.cores.items;
  journals : journals_of l.cores.items ++ reverse l.waiting.items ≡ reverse l.fn.waiting.items;
}
