use Rattle.std.proofs.Common.{sym, ◌∙◌, ap, length, [], arith}
use Rattle.std.specs.FinMap as map_of
use Rattle.zj_tree.proofs.KeptLemmas.{Shows, shown_within, shown_entries, kept_change, entries_removed}
use Rattle.zj_tree.proofs.WithinLemmas.{removed_within}
use Rattle.zj_tree.specs.declared.content.Content.TheVariants.{Dir}
use Rattle.zj_tree.proofs.tree.Tree.remove.Goals as goal

pub remove-requires : goal.remove-requires
remove-requires c =
    let a = c.self.inside in
    let s : Shows c.args.self.now a.entries.items a.blocks a.nodes a.room a.version = record { is = c.self.view_is; kept = c.self.invariant } in
    omega (arith, ap length (shown_entries s), c.place_at-place.ensures.in_range, a.entries.ok.0)

pub overflow_cast-self : goal.overflow_cast-self
overflow_cast-self c =
    let a = c.self.inside in
    let t = c.args.self.now in
    let s : Shows t a.entries.items a.blocks a.nodes a.room a.version = record { is = c.self.view_is; kept = c.self.invariant } in
    omega (arith, c.blocks_without-blocks.ensures.used, (removed_within t.limits t.tree c.args.path.now (shown_within s)).blocks, c.self.invariant.room_fits, ap (λ x. x.limits.room) c.self.view_is)

pub invariant_of-self : goal.invariant_of-self
invariant_of-self c =
    let a = c.self.inside in
    let t = c.args.self.now in
    let s : Shows t a.entries.items a.blocks a.nodes a.room a.version = record { is = c.self.view_is; kept = c.self.invariant } in
    let news = entries_removed s c.args.path.now c.place_at-place.result ([], Dir) c.place_at-place.ensures ∙ sym c.remove.ensures.items in
    (kept_change s (map_of.remove t.tree c.args.path.now) c.remove.new.self.items c.blocks_without-blocks.result news c.blocks_without-blocks.ensures.is_tree c.blocks_without-blocks.ensures.used (removed_within t.limits t.tree c.args.path.now (shown_within s))).0

pub returns-clause-tree : goal.returns-clause-tree
returns-clause-tree c =
    let a = c.self.inside in
    let t = c.args.self.now in
    let s : Shows t a.entries.items a.blocks a.nodes a.room a.version = record { is = c.self.view_is; kept = c.self.invariant } in
    let news = entries_removed s c.args.path.now c.place_at-place.result ([], Dir) c.place_at-place.ensures ∙ sym c.remove.ensures.items in
    (kept_change s (map_of.remove t.tree c.args.path.now) c.remove.new.self.items c.blocks_without-blocks.result news c.blocks_without-blocks.ensures.is_tree c.blocks_without-blocks.ensures.used (removed_within t.limits t.tree c.args.path.now (shown_within s))).1
