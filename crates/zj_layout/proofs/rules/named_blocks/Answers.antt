use Rattle.std.proofs.Common.{◌+◌, ◌<◌, take, refl, sym, subst, ◌∙◌, arith, below_more}
use Rattle.std.proofs.lemmas.Grind.{common_steps}
use Rattle.zj_layout.specs.Faults.{FailsAt}
use Rattle.zj_layout.specs.Image.{image_of}
use Rattle.zj_layout.specs.Rules.{Rule2}
use Rattle.zj_layout.specs.Node.{blocks_needed}
use Rattle.zj_layout.specs.Read.{MarksNamed, MarksApart, Repeats}
use Rattle.zj_layout.proofs.Ruled.{named_none, named_more, apart_here, rule2_fails, rule2_holds, written_back}
use Rattle.zj_layout.proofs.rules.named_blocks.Goals as goal

pub loop-number-init : goal.loop-number-init
loop-number-init c = record {
  named = named_none c.args.sizes.now (image_of c.args.sizes.now c.args.blocks.now) c.in_ok-named.named.items (grind (arith, common_steps));
  apart = λ k lt. absurd (omega arith);
}

pub returns-then-not-mark_apart-clause-fault : goal.returns-then-not-mark_apart-clause-fault
returns-then-not-mark_apart-clause-fault c =
    let sizes = c.args.sizes.now in
    let repeats : Repeats c.loop-number.named.items (take (blocks_needed c.node_of-node.result) c.node_of-node.result.blocks) = subst (λ xs. Repeats xs (take (blocks_needed c.node_of-node.result) c.node_of-node.result.blocks)) c.deref_mut.ensures.value (subst (Repeats c.deref_mut.result.now) c.numbers.ensures (c.if-not-mark_apart.ensures.no refl)) in
    (refl, subst (λ b. FailsAt (Rule2 sizes (image_of sizes c.args.blocks.now)) b) (sym c.node_block.ensures.value) (rule2_fails sizes c.args.blocks.now c.requires c.loop-number.number c.node_of-node.result (omega (arith, c.nodes-number-end.ensures.value)) c.node_of-node.ensures c.loop-number.named.items c.loop-number.invariant.named c.loop-number.invariant.apart repeats))

pub loop-number-preserved : goal.loop-number-preserved
loop-number-preserved c =
    let sizes = c.args.sizes.now in
    let lt : c.loop-number.number < sizes.nodes = omega (arith, c.nodes-number-end.ensures.value) in
    let apart : MarksApart c.loop-number.named.items c.mark_apart.new.marks (take (blocks_needed c.node_of-node.result) c.node_of-node.result.blocks) = subst (λ xs. MarksApart xs c.mark_apart.new.marks (take (blocks_needed c.node_of-node.result) c.node_of-node.result.blocks)) c.deref_mut.ensures.value (subst (MarksApart c.deref_mut.result.now c.mark_apart.new.marks) c.numbers.ensures (c.if-not-mark_apart.ensures.yes refl)) in
    record {
      named = subst (MarksNamed sizes (image_of sizes c.args.blocks.now) (c.loop-number.number + 1)) (sym (written_back c.mark_apart.new.marks c.loop-number.named.items c.loop-number.named.len (apart.many ∙ sym c.loop-number.named.ok.0))) (named_more sizes c.args.blocks.now c.requires c.loop-number.number c.node_of-node.result lt c.node_of-node.ensures c.loop-number.named.items c.mark_apart.new.marks c.loop-number.invariant.named apart);
      apart = below_more _ _ c.loop-number.invariant.apart (apart_here sizes c.args.blocks.now c.requires c.loop-number.number c.node_of-node.result lt c.node_of-node.ensures c.loop-number.named.items c.mark_apart.new.marks c.loop-number.invariant.named apart);
    }

pub returns-clause-once : goal.returns-clause-once
returns-clause-once c = rule2_holds c.args.sizes.now (image_of c.args.sizes.now c.args.blocks.now) (λ k lt. c.loop-number.invariant.apart k (omega (arith, c.nodes-number-end.ensures.value)))
