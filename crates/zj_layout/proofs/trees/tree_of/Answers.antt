use Rattle.std.proofs.Common.{◌≡◌, sym, ap, subst}
use Rattle.zj_tree.specs.Tree.{FileTree}
use Rattle.zj_tree.specs.Apply.{Limits}
use Rattle.zj_tree.specs.Laws.{IsWithin}
use Rattle.zj_tree.specs.StoredTree.{LimitedTree}
use Rattle.zj_layout.specs.Shows.{Shows, limits_of}
use Rattle.std.specs.FinMap as map_of
use Rattle.zj_layout.proofs.Gathered.{shown_once, shown_is_tree, shown_describes, shown_within, shown_shows}
use Rattle.zj_layout.proofs.trees.tree_of.Goals as goal

pub from_entries-requires-clause-once : goal.from_entries-requires-clause-once
from_entries-requires-clause-once c = shown_once c.args.sizes.now c.args.blocks.now c.nodes.ensures.limits c.requires.sound c.args.found.items c.requires.found c.requires.all c.in_ok-entries.entries.items c.in_ok-entries.ensures

pub from_entries-requires-clause-tree : goal.from_entries-requires-clause-tree
from_entries-requires-clause-tree c = shown_is_tree c.args.sizes.now c.args.blocks.now c.nodes.ensures.limits c.requires.sound c.args.found.items c.requires.found c.requires.all c.in_ok-entries.entries.items c.in_ok-entries.ensures

pub from_entries-requires-clause-blocks : goal.from_entries-requires-clause-blocks
from_entries-requires-clause-blocks c =
    c.used_blocks-used.ensures (map_of.from_entries c.in_ok-entries.entries.items)
    (shown_describes c.args.sizes.now c.args.blocks.now c.nodes.ensures.limits c.requires.sound c.args.found.items c.requires.found c.requires.all c.in_ok-entries.entries.items c.in_ok-entries.ensures)

pub from_entries-requires-clause-within : goal.from_entries-requires-clause-within
from_entries-requires-clause-within c =
    let is : limits_of c.args.sizes.now ≡ record { nodes = c.nodes.result; room = c.room.result; version = c.version.result } = (λ i. record { nodes = sym c.nodes.ensures.value i; room = sym c.room.ensures.value i; version = sym c.version.ensures.value i }) in
    subst (λ (l : Limits). IsWithin l (map_of.from_entries c.in_ok-entries.entries.items)) is
    (shown_within c.args.sizes.now c.args.blocks.now c.nodes.ensures.limits c.requires.sound c.args.found.items c.requires.found c.requires.all c.in_ok-entries.entries.items c.in_ok-entries.ensures c.requires.nodes)

pub returns-clause-shows : goal.returns-clause-shows
returns-clause-shows c =
    subst (λ (t : FileTree). Shows c.args.sizes.now c.args.blocks.now t) (sym (ap (λ (t : LimitedTree). t.tree) c.from_entries.ensures))
    (shown_shows c.args.sizes.now c.args.blocks.now c.nodes.ensures.limits c.requires.sound c.args.found.items c.requires.found c.requires.all c.in_ok-entries.entries.items c.in_ok-entries.ensures c.requires.nodes.many c.len-len.ensures.contents)
