use Rattle.std.proofs.Common.{◌≡◌, length, map, take}
use Rattle.zj_cli.proofs.phase.Phase.new.Given as goal

abbrev pub invariant-loop-place : goal.invariant-loop-place
invariant-loop-place l = record {
  many : length l.spans ≡ 65;
  froms : map (λ s. s.from) (take l.place l.spans) ≡ take l.place l.from;
  tos : map (λ s. s.to) (take l.place l.spans) ≡ take l.place l.to;
}
