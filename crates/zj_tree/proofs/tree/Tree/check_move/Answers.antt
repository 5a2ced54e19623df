use Rattle.std.proofs.Common.{◌<◌, length, sym, ap, ◌∙◌, arith}
use Rattle.zj_tree.specs.declared.call.Refusal.TheVariants.{Inside}
use Rattle.zj_tree.specs.Path.{same_path}
use Rattle.zj_tree.specs.Apply.{refuse_if}
use Rattle.zj_tree.proofs.EntryLemmas.{paths_same}
use Rattle.zj_tree.proofs.BeginLemmas.{no_both}
use Rattle.zj_tree.proofs.RefusalLemmas.{can_move, something_there, differs}
use Rattle.zj_tree.proofs.tree.Tree.check_move.Goals as goal

pub blocks_renamed-requires : goal.blocks_renamed-requires
blocks_renamed-requires c =
    let t = c.args.self.now in
    let from = c.args.from.now in
    let to = c.args.to.now in
    let some = differs (length from) 0 c.requires.below_root in
    let below : 0 < length from = omega arith in
    can_move t.limits t.tree from to c.requires.tree (something_there t.tree from c.requires.there) below
    (λ e. no_both (same_path from to) ((paths_same from to).1 e) c.requires.other)
    (record {
      outside = sym (c.in_ok-refuse_if.ensures ∙ ap (λ b. refuse_if b Inside) c.is_inside.ensures);
      parent_there = sym c.in_ok-check_parent.ensures;
      replaces = sym c.in_ok-check_replacing.ensures;
    })
