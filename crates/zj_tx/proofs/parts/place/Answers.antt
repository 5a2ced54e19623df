use Rattle.std.proofs.Common.{rules, of_calls, ltb, ltb-true, ltb-false, get_or, arith}
use Rattle.std.proofs.lemmas.Fn.{always_returns_same}
use Rattle.std.proofs.lemmas.List.Sorted.{IsPartitionedBy-ltb}
use Rattle.zj_tx.specs.declared.part.Part.{Part}
use Rattle.zj_tx.proofs.PartLists.{ascending_order}
use Rattle.zj_tx.proofs.parts.place.Goals as goal

pub returns : goal.returns
returns c =
    let point = c.partition_point.ensures.partitioned (λ (p : Part). ltb p.block.0 c.args.block) (always_returns_same _ _ _ (λ a r f k. search (rules, of_calls)))
    (IsPartitionedBy-ltb (λ (p : Part). p.block.0) c.args.parts.now c.args.block (ascending_order 0 c.args.parts.now c.requires)) in
    record {
      within = c.partition_point.ensures.bound;
      smaller = λ k d lt. ltb-true (get_or c.args.parts.now k d).block.0 c.args.block (point.0 k d (omega arith) lt);
      not_smaller = λ d lt. ltb-false (get_or c.args.parts.now c.partition_point.result d).block.0 c.args.block (point.1 c.partition_point.result d (omega arith) lt);
    }
