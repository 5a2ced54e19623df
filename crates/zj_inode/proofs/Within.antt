-- The blocks that a call may take are blocks of the image.
use Rattle.std.proofs.Common.{◌≡◌, inl, inr, ℕ, ◌-◌, ◌/◌, ◌<◌, List, Some, sym, subst, arith}
use Rattle.zj_block.specs.Sizes.{Numbers, IsInLimits}
use Rattle.zj_tree.specs.declared.call.Call.{Call}
use Rattle.zj_tree.specs.declared.call.Call.TheVariants as calls
use Rattle.zj_tree.specs.Tree.{FileTree}
use Rattle.zj_layout.specs.Graph.{follow}
use Rattle.zj_layout.specs.Image.{State, Image, image_of, graph_of, node_of, node_block, map_block, item_block, count_of, number_of}
use Rattle.zj_layout.specs.Node.{per_block}
use Rattle.zj_layout.specs.Shows.{Shows}
use Rattle.zj_layout.proofs.Changed.{item_within}
use Rattle.zj_layout.proofs.Fresh.{past_node}
use Rattle.zj_layout.proofs.Live.{led_live}
use Rattle.zj_layout.proofs.Sound.{link_place, none_count}
use Rattle.zj_dirs.specs.Walking.{IsStepBlock}
use Rattle.zj_dirs.proofs.Walks.{possible_stored, possible_rooted}
use Rattle.zj_inode.specs.Footprint.{Foot, the_root, on_the_way, found, listed, in_range, last_of_parent, removed, free_node, map_of_freed, map_of_new, new, FreesOf, RemovesEntry, Shrinks, size_of}
use Rattle.zj_inode.specs.Laws.{FootprintIsWithin}
use native.Mathlib.Decide.{dec_lt}

module _ (sizes : Numbers) (state : State) (tree : FileTree) (shows : Shows sizes state tree) where
  abbrev im : Image
  im = image_of sizes state

  limits : IsInLimits sizes
  limits = shows.shape.limits

  node_within : (node : ℕ) → node < sizes.nodes → node_block sizes node < sizes.blocks
  node_within node lt = omega (arith, limits.whole_nodes, limits.some_data)

  root_within : node_block sizes 0 < sizes.blocks
  root_within = omega (arith, limits.some_data)

  map_within : (block : ℕ) → block < sizes.blocks → map_block block < sizes.blocks
  map_within block lt = omega arith

  -- what a path leads to is a node of the image
  led_within : (path : List (List ℕ)) (node : ℕ) → follow (graph_of im) 0 path ≡ Some node → node < sizes.nodes
  led_within path node leads =
      let rooted = possible_rooted sizes state tree shows in
      rooted.within node (led_live sizes.nodes (graph_of im) rooted path node leads)

  -- what a node names is a block of the image
  number_within : (node j : ℕ) → j < count_of im node → number_of im node j < sizes.blocks
  number_within node j lt = by (dec_lt node sizes.nodes)
    where
      by : Dec (node < sizes.nodes) → number_of im node j < sizes.blocks
      by (yes below) = (((possible_stored sizes state tree shows).placed node below).in_data j lt).1
      by (no past) = absurd (omega (arith, lt, none_count im node (past_node sizes state node (omega arith))))

  item_at : (node k : ℕ) → k < size_of im node → item_block im node k < sizes.blocks
  item_at node k lt = number_within node (k / per_block (node_of im node).kind) (item_within im node k lt)

  last_at : (node k : ℕ) → k < size_of im node → item_block im node (size_of im node - 1) < sizes.blocks
  last_at node k lt = item_at node (size_of im node - 1) (omega arith)

  step_within : (dir : ℕ) (name : List ℕ) (block : ℕ) → dir < sizes.nodes → IsStepBlock sizes im dir name block → block < sizes.blocks
  step_within dir name block below (inl e) = subst (λ b. b < sizes.blocks) (sym e) (node_within dir below)
  step_within dir name block below (inr s) = subst (λ b. b < sizes.blocks) s.is (item_at dir s.place s.has.within)

  entry_within : (call : Call) (dir place : ℕ) → RemovesEntry im call dir place → place < size_of im dir
  entry_within call dir place r = (link_place im dir place r.entry.link r.entry.stands).0.within

  freed_within : (call : Call) (block : ℕ) → FreesOf im call block → block < sizes.blocks
  freed_within (calls.Unlink path) block (node, j, leads, lt, e) = subst (λ b. b < sizes.blocks) e (number_within node j lt)
  freed_within (calls.Rename from to) block (node, j, leads, lt, e) = subst (λ b. b < sizes.blocks) e (number_within node j lt)
  freed_within (calls.Truncate path size) block (node, j, leads, low, lt, e) = subst (λ b. b < sizes.blocks) e (number_within node j lt)
  freed_within (calls.Mkdir path) block f = absurd f
  freed_within (calls.Create path) block f = absurd f
  freed_within (calls.Write path at bytes) block f = absurd f
  freed_within (calls.Read path at count) block f = absurd f
  freed_within (calls.Rmdir path) block f = absurd f
  freed_within (calls.List path) block f = absurd f
  freed_within (calls.Stat path) block f = absurd f
  freed_within (calls.Fsync path) block f = absurd f

  shrunk_within : (call : Call) (block : ℕ) → Shrinks im call block → block < sizes.blocks
  shrunk_within call block s = subst (λ b. b < sizes.blocks) (sym s.last) (last_at s.dir s.place (entry_within call s.dir s.place s.entry))

  foot_within : (call : Call) (block : ℕ) → Foot sizes im call block → block < sizes.blocks
  foot_within call block (the_root e) = subst (λ b. b < sizes.blocks) (sym e) root_within
  foot_within call block (on_the_way path of w) = step_within w.dir w.name block (led_within _ w.dir w.leads) w.needs
  foot_within call block (found path node of leads e) = subst (λ b. b < sizes.blocks) (sym e) (node_within node (led_within path node leads))
  foot_within call block (listed path dir place is leads has e) = subst (λ b. b < sizes.blocks) (sym e) (item_at dir place has.within)
  foot_within call block (in_range path node k of leads low high has e) = subst (λ b. b < sizes.blocks) (sym e) (number_within node (k / per_block (node_of im node).kind) has)
  foot_within call block (last_of_parent path dir adds entry room some e) = subst (λ b. b < sizes.blocks) (sym e) (last_at dir 0 some)
  foot_within call block (removed dir place r (inl e)) = subst (λ b. b < sizes.blocks) (sym e) (item_at dir place (entry_within call dir place r))
  foot_within call block (removed dir place r (inr e)) = subst (λ b. b < sizes.blocks) (sym e) (last_at dir place (entry_within call dir place r))
  foot_within call block (free_node path dir k makes adds room lt e none) = omega (arith, limits.some_data)
  foot_within call block (map_of_freed freed (inl f) e) = subst (λ b. b < sizes.blocks) (sym e) (map_within freed (freed_within call freed f))
  foot_within call block (map_of_freed freed (inr s) e) = subst (λ b. b < sizes.blocks) (sym e) (map_within freed (shrunk_within call freed s))
  foot_within call block (map_of_new count needs lt few) = omega (arith, limits.some_data)
  foot_within call block (new count needs is_free lt few) = lt

pub footprint_is_within : FootprintIsWithin
footprint_is_within sizes state tree call block shows foot = foot_within sizes state tree shows call block foot
