use Rattle.std.proofs.Common.{◌≡◌, ℕ, ◌+◌, ◌<◌, List, length, set, take, Some, None, [], ◌∷◌, ◌++◌, sym, ap, ◌∙◌, arith}
use Rattle.std.proofs.lemmas.List.{take_more_set, length-set}
use Rattle.std.proofs.lemmas.List.Elements.{All-push, All-same}
use Rattle.std.proofs.lemmas.List.FromFn.{map-range_with_len_more}
use Rattle.zj_block.specs.declared.numbers.Tail.{Tail}
use Rattle.zj_home.specs.Super.{IsTail, tail_in, tail_fault}
use Rattle.zj_home.proofs.FaultLemmas.{none_more, some_first, tail_sound}
use Rattle.zj_home.proofs.slot.read_tails.Goals as goal

pub returns-in-Some-clause-err : goal.returns-in-Some-clause-err
returns-in-Some-clause-err c =
    let f = λ (core : ℕ). tail_fault c.args.slot c.args.sizes.now core (tail_in c.args.head.now c.args.slot core) in
    let here : f c.loop-core.core ≡ Some c.in-Some.fault = rw (← c.u64_in.ensures, ← c.u64_in-in-loop-core.ensures) (sym c.in-Some.ensures.fault) in
    some_first f c.args.sizes.now.cores c.loop-core.core c.in-Some.fault (omega arith) c.loop-core.invariant.none here

pub loop-core-preserved : goal.loop-core-preserved
loop-core-preserved c =
    let head = c.args.head.now in
    let slot = c.args.slot in
    let n = c.loop-core.core in
    let f = λ (core : ℕ). tail_fault slot c.args.sizes.now core (tail_in head slot core) in
    let here : f n ≡ None = rw (← c.u64_in.ensures, ← c.u64_in-in-loop-core.ensures) (sym c.in_default.ensures.fault) in
    let is : c.put.new.self ≡ set c.loop-core.tails n (tail_in head slot n) = rw (← c.u64_in.ensures, ← c.u64_in-in-loop-core.ensures) (rw c.unwrap.ensures at c.put.ensures.put) in
    let below : n < length c.loop-core.tails = omega (arith, c.loop-core.invariant.many, c.cores-core-end.ensures.limits.most_cores) in
    record {
      none = none_more f n c.loop-core.invariant.none here;
      read = ap (take (n + 1)) is ∙ take_more_set c.loop-core.tails n (tail_in head slot n) below ∙ ap (λ (ts : List Tail). ts ++ tail_in head slot n ∷ []) c.loop-core.invariant.read ∙ sym (map-range_with_len_more (λ (core : ℕ). tail_in head slot core) 0 n n (omega arith));
      sound = All-same (IsTail c.args.sizes.now) (take (n + 1) c.put.new.self) (take n c.loop-core.tails ++ tail_in head slot n ∷ [])
          (ap (take (n + 1)) is ∙ take_more_set c.loop-core.tails n (tail_in head slot n) below)
          (All-push (IsTail c.args.sizes.now) (take n c.loop-core.tails) (tail_in head slot n) c.loop-core.invariant.sound (tail_sound slot n c.args.sizes.now (tail_in head slot n) here));
      many = ap length is ∙ length-set c.loop-core.tails n (tail_in head slot n) ∙ c.loop-core.invariant.many;
    }
