-- A file that is cut, and blocks that a node names and that are freed.
use Rattle.std.proofs.Common.{◌≡◌, ◌≢◌, ◌⊎◌, inl, inr, ℕ, ◌+◌, ◌-◌, ◌/◌, ◌<◌, ◌≤◌, true, ◌&&◌, leb, ltb, List, length, Some, refl, sym, ap, ◌∙◌, subst, arith, slice_index}
use Rattle.std.specs.FinMap as map_of
use Rattle.std.specs.Option.{unwrap_or}
use native.Mathlib.Decide.{dec_lt}
use Rattle.zj_block.specs.Lists.{Entries, AreContents}
use Rattle.zj_block.specs.Sizes.{Numbers, first_data}
use Rattle.zj_tree.specs.declared.call.Call.{Call}
use Rattle.zj_tree.specs.declared.call.Call.TheVariants.{Truncate}
use Rattle.zj_tree.specs.declared.call.Refusal.TheVariants.{PastEnd}
use Rattle.zj_tree.specs.declared.call.Reply.TheVariants.{Done, Refused}
use Rattle.zj_layout.specs.declared.fields.Kind.TheVariants.{File, Dir}
use Rattle.zj_layout.specs.declared.fields.Node.{Node}
use Rattle.zj_layout.specs.Node.{blocks_needed, is_node, per_block}
use Rattle.zj_layout.specs.Image.{Image, image_of, is_data, free_node, node_of, count_of, number_of}
use Rattle.zj_layout.specs.Shows.{Changes, put_blocks}
use Rattle.zj_layout.specs.Stored.{IsStored}
use Rattle.zj_layout.proofs.Follow.{none_some}
use Rattle.zj_changes.specs.Resized.{FreesBlocks}
use Rattle.zj_changes.specs.Tables.{SetsNode}
use Rattle.zj_changes.specs.Holds.{Answers}
use Rattle.zj_changes.specs.Walk.{LeadsToNoFile}
use Rattle.zj_changes.proofs.WriteReplies.{truncate_no_file, truncate_past_end, truncate_done}
use Rattle.zj_changes.proofs.Built.{cut_file}
use Rattle.zj_dirs.specs.declared.answers.Halt.{Halt}
use Rattle.zj_dirs.specs.Possible.{AllTaken, Always, Halts, KeepsContents, Turns}
use Rattle.zj_dirs.proofs.Nodes.{named_number, node_from}
use Rattle.zj_inode.specs.declared.finding.Located.{Located}
use Rattle.zj_inode.specs.declared.stopped.Stopped.{Stopped}
use Rattle.zj_inode.specs.declared.stopped.Stopped.TheVariants as stopped
use Rattle.zj_inode.specs.Answering.{Builds, CallStops, stopped_at}
use Rattle.zj_inode.specs.Files.{Cuts, IsTruncateBlock}
use Rattle.zj_inode.specs.Finding.{FileStops, IsAt, IsWayBlock}
use Rattle.zj_inode.specs.Footprint.{Foot, map_of_freed, found as found_node}
use Rattle.zj_inode.specs.Performs.{IsRefused, Looks}
use Rattle.zj_inode.proofs.Foots.{way_foot}
use Rattle.zj_inode.proofs.Makes.{shape_after}
use Rattle.zj_inode.proofs.Steps.{fresh_kept, fresh_turns, kind_at, same_image, size_at, stops_at, stops_more}

-- a node that the image has, by its number
module _ (sizes : Numbers) (old : Image) (s : IsStored sizes old) (number : ℕ) (node : Node) (is : old.node number ≡ Some node) where
  pub node_is : node_of old number ≡ node
  node_is = ap (λ o. unwrap_or o free_node) is

  pub node_within : number < sizes.nodes
  node_within = by (dec_lt number sizes.nodes)
    where
      by : Dec (number < sizes.nodes) → number < sizes.nodes
      by (yes lt) = lt
      by (no past) = absurd (none_some (sym (s.none number (omega arith)) ∙ is))

  pub number_is : (j : ℕ) → number_of old number j ≡ slice_index node.blocks j
  number_is j = ap (λ (n : Node). slice_index n.blocks j) node_is

  pub count_is : count_of old number ≡ blocks_needed node
  count_is = ap blocks_needed node_is

  -- a block that it names is one of the image's
  pub block_below : (j : ℕ) → j < blocks_needed node → slice_index node.blocks j < sizes.blocks
  block_below j lt = subst (λ b. b < sizes.blocks) (number_is j) ((s.placed number node_within).in_data j (omega (arith, count_is))).1

  -- and one for data
  pub named_is_data : (j : ℕ) → j < blocks_needed node → is_data sizes (slice_index node.blocks j) ≡ true
  named_is_data j lt =
      let range = (s.placed number node_within).in_data j (omega (arith, count_is)) in
      both (first_data sizes) (slice_index node.blocks j) sizes.blocks (subst (λ b. first_data sizes ≤ b) (number_is j) range.0) (subst (λ b. b < sizes.blocks) (number_is j) range.1)
    where
      both : (a b c : ℕ) → a ≤ b → b < c → (leb a b && ltb b c) ≡ true
      both a b c h k = grind arith

  pub file_count : node.kind ≡ File → count_of old number ≡ (node.size + 511) / 512
  file_count kind = count_is ∙ ap (λ k. (node.size + (per_block k - 1)) / per_block k) kind

  -- a file isn't the root
  pub not_root : node.kind ≡ File → number ≢ 0
  not_root kind e = clash (sym kind ∙ ap (λ (n : Node). n.kind) (sym node_is) ∙ (s.placed number node_within).root e)
    where
      clash : File ≡ Dir → ⊥
      clash z = cc

  pub cut_by : (mid new : Image) (size : ℕ) (blocks : List ℕ) → node.kind ≡ File → size ≤ node.size → ((j : ℕ) → j < (size + 511) / 512 → slice_index blocks j ≡ slice_index node.blocks j)
      → FreesBlocks old mid number ((size + 511) / 512) ((node.size + 511) / 512) → (number < sizes.nodes → SetsNode sizes mid new number (record { kind = File; size = size; blocks = blocks })) → Cuts sizes old new number size
  cut_by mid new size blocks kind fewer first freed set = (
    blocks,
    cut_file sizes old mid new number size blocks s node_within (not_root kind) (ap (λ (n : Node). n.kind) node_is ∙ kind) (omega (arith, fewer, ap (λ (n : Node). n.size) node_is))
        (λ j lt. first j lt ∙ sym (number_is j)) (subst (FreesBlocks old mid number ((size + 511) / 512)) (sym (file_count kind)) freed) (set node_within),
  )

-- a file's node with fewer blocks
pub cut_node : (node : Node) (size : ℕ) (blocks : List ℕ) → length node.blocks ≡ 12 → length blocks ≡ 12 → is_node node ≡ true → node.kind ≡ File → node.size ≤ 6144 → size ≤ node.size
    → ((j : ℕ) → j < (size + 511) / 512 → slice_index blocks j ≡ slice_index node.blocks j) → ((j : ℕ) → (size + 511) / 512 ≤ j → slice_index blocks j ≡ 0)
    → is_node (record { kind = File; size = size; blocks = blocks }) ≡ true
cut_node node size blocks many many' is kind few fewer first rest = node_from (record { kind = File; size = size; blocks = blocks }) many' (omega (arith, few, fewer)) (omega (arith, few, fewer))
    (λ j lt z. named_number node many (omega (arith, count, few)) is j (omega (arith, count, fewer, lt)) (sym (first j lt) ∙ z))
    rest
  where
    count : blocks_needed node ≡ (node.size + 511) / 512
    count = ap (λ k. (node.size + (per_block k - 1)) / per_block k) kind

-- blocks that are freed one by one
pub record FreesTo (sizes : Numbers) (found : Entries) (before after : Changes) (number low high : ℕ) : Type 0 where
  pub turns : Turns sizes found before after (λ old new. FreesBlocks old new number low high)
  pub taken : AllTaken found before → AllTaken found after
  pub kept : KeepsContents found before after
  pub few : map_of.len after ≤ map_of.len before + high

-- ---- truncate

module _ (sizes : Numbers) (found : Entries) (path : List (List ℕ)) (size : ℕ) where
  abbrev call : Call
  call = Truncate path size

  -- the path leads to no file
  pub no_file_stops : (s : Stopped) → FileStops sizes found path s → CallStops sizes found call s
  no_file_stops = stops_more sizes found (λ image block. IsWayBlock sizes image path block) (λ image block. Foot sizes image call block) (λ state tree r. LeadsToNoFile (image_of sizes state) path r) (λ state tree r. Answers sizes call (Refused r) tree state)
      (λ state tree p b h. way_foot sizes (image_of sizes state) call path (0, refl) b h) (λ state tree p r h. truncate_no_file sizes state tree p.shows path size r h)

  module _ (file : Located) (at : Always sizes found (λ image. IsAt image path file)) (is : file.node.kind ≡ File) where
    pub past_end : file.node.size < size → CallStops sizes found call (stopped.Refused PastEnd)
    past_end past state tree p =
        let a = at state tree p in
        let image = image_of sizes state in
        truncate_past_end sizes state tree p.shows path size file.number a.leads (kind_at image path file a File is) (omega (arith, size_at image path file a, past))

    -- a block that cutting it needs
    cut_foot : (image : Image) → IsAt image path file → (block : ℕ) → IsTruncateBlock sizes image file.number size block → Foot sizes image call block
    cut_foot image a block (inl (j, le, lt, e)) = map_of_freed (number_of image file.number j) (inl (file.number, j, record { leads = a.leads; is_file = kind_at image path file a File is }, le, lt, refl)) e
    cut_foot image a block (inr e) = found_node path file.number (0, refl) a.leads e

    module _ (built : Changes) (fresh : built ≡ map_of.empty) where
      pub cut_stops : (h : Halt) → Halts sizes found built (λ image block. IsTruncateBlock sizes image file.number size block) h → CallStops sizes found call (stopped_at h)
      cut_stops = stops_at sizes found built (λ image block. IsTruncateBlock sizes image file.number size block) (λ image block. Foot sizes image call block) (λ state tree r. Answers sizes call (Refused r) tree state)
          (fresh_kept sizes found built fresh)
          (λ state tree p b h. cut_foot (image_of sizes state) (at state tree p) b (subst (λ i. IsTruncateBlock sizes i file.number size b) (same_image sizes found built fresh state) h))

      pub cut_done : (after : Changes) → AreContents (map_of.entries after) → Turns sizes found built after (λ old new. Cuts sizes old new file.number size) → Builds sizes found after call Done
      cut_done after contents turns = record {
        each = λ state tree p.
            let cuts = fresh_turns sizes found built fresh after (λ old new. Cuts sizes old new file.number size) turns state tree p in
            truncate_done sizes state tree p.shows path size file.number cuts.0 (put_blocks state after) (at state tree p).leads (shape_after sizes state after p.shows.shape contents) cuts.1;
        quiet = loud;
      }
        where
          loud : IsRefused Done ⊎ Looks call → after ≡ map_of.empty
          loud (inl no_) = absurd no_
          loud (inr no_) = absurd no_
