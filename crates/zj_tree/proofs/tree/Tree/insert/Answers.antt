use Rattle.std.proofs.Common.{ℕ, List, length, insert, sym, ap, ◌∙◌, arith}
use Rattle.std.specs.FinMap as map_of
use Rattle.zj_tree.specs.StoredTree.{LimitedTree}
use Rattle.zj_tree.proofs.OrderLemmas.{entries_kept}
use Rattle.zj_tree.proofs.KeptLemmas.{Shows, shown_within, kept_change, entries_inserted}
use Rattle.zj_tree.proofs.WithinLemmas.{inserted_within}
use Rattle.zj_tree.proofs.tree.Tree.insert.Goals as goal

pub insert-requires : goal.insert-requires
insert-requires c =
    let count = ap (λ (t : LimitedTree). length (map_of.entries t.tree)) c.self.view_is in
    omega (arith, count, ap length (entries_kept c.self.inside.entries.items c.self.invariant.sorted), c.place_of-at.ensures.in_range, c.self.inside.entries.ok.0)

pub invariant_of-self-2 : goal.invariant_of-self-2
invariant_of-self-2 c =
    let a = c.self.inside in
    let t = c.args.self.now in
    let s : Shows t a.entries.items a.blocks a.nodes a.room a.version = record { is = c.self.view_is; kept = c.self.invariant } in
    let news = entries_inserted s c.args.path.now c.as_slice.result.now c.args.content c.place_of-at.result c.as_slice.ensures.value c.place_of-at.ensures
    ∙ sym (c.in_ok-insert.ensures.items ∙ ap (λ (p : List (List ℕ)). insert a.entries.items c.place_of-at.result (p, c.args.content)) c.in_ok-path.ensures) in
    (kept_change s (map_of.insert t.tree c.args.path.now c.args.content) c.insert.new.self.items c.blocks_with-blocks.result news c.blocks_with-blocks.ensures.is_tree c.blocks_with-blocks.ensures.used
    (inserted_within t.limits t.tree c.args.path.now c.args.content (shown_within s) c.requires.nodes c.requires.room c.requires.size)).0

pub returns-clause-ok : goal.returns-clause-ok
returns-clause-ok c =
    let a = c.self.inside in
    let t = c.args.self.now in
    let s : Shows t a.entries.items a.blocks a.nodes a.room a.version = record { is = c.self.view_is; kept = c.self.invariant } in
    let news = entries_inserted s c.args.path.now c.as_slice.result.now c.args.content c.place_of-at.result c.as_slice.ensures.value c.place_of-at.ensures
    ∙ sym (c.in_ok-insert.ensures.items ∙ ap (λ (p : List (List ℕ)). insert a.entries.items c.place_of-at.result (p, c.args.content)) c.in_ok-path.ensures) in
    (kept_change s (map_of.insert t.tree c.args.path.now c.args.content) c.insert.new.self.items c.blocks_with-blocks.result news c.blocks_with-blocks.ensures.is_tree c.blocks_with-blocks.ensures.used
    (inserted_within t.limits t.tree c.args.path.now c.args.content (shown_within s) c.requires.nodes c.requires.room c.requires.size)).1
