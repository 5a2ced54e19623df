-- An entry that is removed and its node that is freed, in every possible state.
use Rattle.std.proofs.Common.{◌≡◌, ◌≢◌, ◌⊎◌, inl, inr, ℕ, ◌-◌, ◌<◌, [], ◌∷◌, ◌++◌, Some, sym, ap, ◌∙◌, subst, arith, slice_index}
use Rattle.std.specs.Option.{unwrap_or}
use Rattle.zj_block.specs.Lists.{Entries}
use Rattle.zj_block.specs.Sizes.{Numbers}
use Rattle.zj_tree.specs.declared.call.Call.{Call}
use Rattle.zj_tree.specs.declared.call.Reply.TheVariants as replies
use Rattle.zj_layout.specs.declared.fields.Kind.TheVariants.{File, Dir}
use Rattle.zj_layout.specs.declared.fields.Link.{Link}
use Rattle.zj_layout.specs.declared.fields.Node.{Node}
use Rattle.zj_layout.specs.Node.{blocks_needed}
use Rattle.zj_layout.specs.Image.{Image, image_of, free_node, node_of, count_of, number_of, item_block, map_block, node_block}
use Rattle.zj_layout.specs.Stored.{IsStored}
use Rattle.zj_layout.proofs.Changed.{still_stored}
use Rattle.zj_layout.proofs.Counted.{parent_more}
use Rattle.zj_layout.proofs.Follow.{Path', Name'}
use Rattle.zj_layout.proofs.Sound.{link_place}
use Rattle.zj_changes.specs.Holds.{Answers, Unlinks}
use Rattle.zj_changes.specs.Resized.{FreesNode}
use Rattle.zj_changes.proofs.Removed.{removal}
use Rattle.zj_changes.proofs.Resized.{resized}
use Rattle.zj_dirs.specs.Changing.{IsRemoveBlock, Removes, of_node, of_entry, of_last, map_of_last}
use Rattle.zj_dirs.specs.Possible.{Always}
use Rattle.zj_inode.specs.declared.finding.Target.{Target}
use Rattle.zj_inode.specs.declared.stopped.Stopped.{Stopped}
use Rattle.zj_inode.specs.Answering.{CallStops}
use Rattle.zj_inode.specs.Finding.{IsTarget}
use Rattle.zj_inode.specs.Footprint.{Foot, on_the_way, found, removed, map_of_freed, FreesOf, HasEntry, IsPathOf, LeadsToDir, Removes as RemovesPath, RemovesEntry, RemovesNode, size_of}
use Rattle.zj_inode.specs.Removing.{DetachStops, IsLeafNode, IsReleaseBlock}
use Rattle.zj_inode.proofs.Foots.{last_more, some_names, step_way}
use Rattle.zj_inode.proofs.Steps.{stops_more}
use Rattle.zj_inode.proofs.Targets.{target_leads, target_node}

-- the link of the entry
abbrev pub link_of : Name' → Target → Link
link_of name target = record { node = target.number; name = name }

module _ (image : Image) (front : Path') (name : Name') (target : Target) (at : IsTarget image front name target) where
  pub place_within : target.place < (node_of image target.dir).size
  place_within = (link_place image target.dir target.place (link_of name target) at.entry.stands).0.within

  -- a node without entries isn't the directory of its own entry
  pub leaf_apart : IsLeafNode target.node → target.number ≢ target.dir
  leaf_apart (inl file) e = clash (sym file ∙ ap (λ (n : Node). n.kind) (sym (target_node image front name target at)) ∙ ap (λ i. (node_of image i).kind) e ∙ at.directory)
    where
      clash : File ≡ Dir → ⊥
      clash z = cc
  leaf_apart (inr none) e =
      let size = ap (λ (n : Node). n.size) (target_node image front name target at) ∙ none in
      absurd (omega (arith, size, ap (λ i. (node_of image i).size) e, place_within))

module _ (sizes : Numbers) (old between : Image) (s : IsStored sizes old) (front : Path') (name : Name') (target : Target) (at : IsTarget old front name target) (leaf : IsLeafNode target.node) (r : Removes sizes old between target.dir target.place) where
  pub between_stored : IsStored sizes between
  between_stored = still_stored sizes old between s target.dir
      (resized sizes old between s target.dir (record { kind = Dir; size = r.size; blocks = r.blocks }) (removal sizes old between s target.dir r.size target.place r.blocks r.is))

  same : between.node target.number ≡ old.node target.number
  same = r.is.others target.number (leaf_apart old front name target at leaf)

  pub node_still : between.node target.number ≡ Some target.node
  node_still = same ∙ at.is

  pub release_same : (block : ℕ) → IsReleaseBlock sizes between target.number block → IsReleaseBlock sizes old target.number block
  release_same block h = subst (λ (n : Node). ((j : ℕ) × (j < blocks_needed n) × (block ≡ map_block (slice_index n.blocks j))) ⊎ (block ≡ node_block sizes target.number)) (ap (λ o. unwrap_or o free_node) same) h

  pub unlinks : (new : Image) → FreesNode between new target.number → Unlinks sizes old new target.dir target.place target.number
  unlinks new frees = record { between = between; size = r.size; blocks = r.blocks; removes = r.is; frees = frees }

-- ---- what is needed is in the footprint

module _ (sizes : Numbers) (image : Image) (front : Path') (name : Name') (target : Target) (at : IsTarget image front name target) (call : Call) (of : IsPathOf call (front ++ name ∷ [])) (removes : RemovesPath call (front ++ name ∷ [])) (gone : RemovesNode call (node_of image target.number)) where
  abbrev path : Path'
  path = front ++ name ∷ []

  has_entry : HasEntry image path target.dir target.place
  has_entry = record {
    below = some_names front name;
    leads = subst (λ q. LeadsToDir image q target.dir) (sym (parent_more front name)) (record { leads = at.leads; directory = at.directory });
    link = link_of name target;
    stands = at.entry.stands;
    name = sym (last_more front name);
  }

  removes_entry : RemovesEntry image call target.dir target.place
  unfolding has_entry
  removes_entry = record { path = path; removes = removes; entry = has_entry; gone = gone }

  pub remove_foot : (block : ℕ) → IsRemoveBlock sizes image target.dir target.place block → Foot sizes image call block
  remove_foot block (of_node e) = on_the_way path of (step_way sizes image front name target.dir block at.leads (inl e))
  remove_foot block (of_entry e) = removed target.dir target.place removes_entry (inl e)
  remove_foot block (of_last last is e) = let place : last ≡ size_of image target.dir - 1 = omega (arith, is) in removed target.dir target.place removes_entry (inr (e ∙ ap (item_block image target.dir) place))
  remove_foot block (map_of_last last is alone e) = let place : last ≡ size_of image target.dir - 1 = omega (arith, is) in map_of_freed (item_block image target.dir last) (inr (record {
    dir = target.dir;
    place = target.place;
    entry = removes_entry;
    alone = omega (arith, is, alone);
    last = ap (item_block image target.dir) place;
  })) e

  pub detach_foot : ((j : ℕ) → j < count_of image target.number → FreesOf image call (number_of image target.number j)) → (block : ℕ) → IsRemoveBlock sizes image target.dir target.place block ⊎ IsReleaseBlock sizes image target.number block
      → Foot sizes image call block
  detach_foot frees block (inl h) = remove_foot block h
  detach_foot frees block (inr (inl (j, lt, e))) = map_of_freed (number_of image target.number j) (inl (frees j lt)) e
  detach_foot frees block (inr (inr e)) = found path target.number of (target_leads image front name target at) e

pub detach_stops : (sizes : Numbers) (blocks : Entries) (front : Path') (name : Name') (target : Target) (call : Call) → Always sizes blocks (λ image. IsTarget image front name target) → IsPathOf call (front ++ name ∷ []) → RemovesPath call (front ++ name ∷ []) → Always sizes blocks (λ image. RemovesNode call (node_of image target.number))
    → Always sizes blocks (λ image. (j : ℕ) → j < count_of image target.number → FreesOf image call (number_of image target.number j)) → (s : Stopped) → DetachStops sizes blocks target s → CallStops sizes blocks call s
detach_stops sizes blocks front name target call at of removes gone frees s h =
    stops_more sizes blocks (λ image b. IsRemoveBlock sizes image target.dir target.place b ⊎ IsReleaseBlock sizes image target.number b) (λ image b. Foot sizes image call b)
    (λ state tree r. ⊥) (λ state tree r. Answers sizes call (replies.Refused r) tree state)
    (λ state tree p b w. detach_foot sizes (image_of sizes state) front name target (at state tree p) call of removes (gone state tree p) (frees state tree p) b w) (λ state tree p r no_. absurd no_) s h
