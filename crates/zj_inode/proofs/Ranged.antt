-- Bytes of a file, read block by block.
use Rattle.std.proofs.Common.{◌≡◌, ℕ, ◌+◌, ◌-◌, ◌*◌, ◌/◌, ◌%◌, ◌<◌, ◌≤◌, min, max, true, ◌&&◌, ltb, leb, cond, List, [], length, Some, sym, ap, ◌∙◌, arith, slice_index}
use Rattle.std.specs.Option.{unwrap_or}
use native.Mathlib.Decide.{dec_lt}
use Rattle.zj_block.specs.Lists.{Entries, content_under}
use Rattle.zj_block.specs.Sizes.{Numbers, first_data}
use Rattle.zj_tree.specs.Tree.{FileTree}
use Rattle.zj_layout.specs.declared.fields.Kind.TheVariants.{File}
use Rattle.zj_layout.specs.declared.fields.Node.{Node}
use Rattle.zj_layout.specs.Node.{byte_in, per_block}
use Rattle.zj_layout.specs.Image.{State, Image, image_of, block_at, is_data, free_node, node_of, item_block, byte_at_place}
use Rattle.zj_layout.proofs.Changed.{item_within}
use Rattle.zj_layout.proofs.Follow.{none_some}
use Rattle.zj_layout.proofs.Fresh.{past_node}
use Rattle.zj_dirs.specs.Possible.{IsPossible, Always}
use Rattle.zj_dirs.proofs.Seen.{seen_block}
use Rattle.zj_dirs.proofs.Walks.{possible_stored}

module _ (sizes : Numbers) (found : Entries) (state : State) (tree : FileTree) (p : IsPossible sizes found state tree) (file : ℕ) (node : Node) (is : (image_of sizes state).node file ≡ Some node) (kind : node.kind ≡ File) where
  abbrev im : Image
  im = image_of sizes state

  the_node : node_of im file ≡ node
  the_node = ap (λ o. unwrap_or o free_node) is

  pub block_is : (k : ℕ) → item_block im file k ≡ slice_index node.blocks (k / 512)
  block_is k = ap (λ (n : Node). slice_index n.blocks (k / per_block n.kind)) the_node ∙ ap (λ t. slice_index node.blocks (k / per_block t)) kind

  pub size_is : (node_of im file).size ≡ node.size
  size_is = ap (λ (n : Node). n.size) the_node

  -- the file is one of the image's nodes
  pub file_within : file < sizes.nodes
  file_within = by (dec_lt file sizes.nodes)
    where
      by : Dec (file < sizes.nodes) → file < sizes.nodes
      by (yes lt) = lt
      by (no past) = absurd (none_some (sym (past_node sizes state file (omega arith)) ∙ is))

  for_data : (k : ℕ) → file < sizes.nodes → k < node.size → is_data sizes (item_block im file k) ≡ true
  for_data k below lt =
      let range = ((possible_stored sizes state tree p.shows).placed file below).in_data (k / per_block (node_of im file).kind) (item_within im file k (omega (arith, size_is))) in
      both (first_data sizes) (item_block im file k) sizes.blocks range.0 range.1
    where
      both : (a b c : ℕ) → a ≤ b → b < c → (leb a b && ltb b c) ≡ true
      both a b c h l = grind arith

  -- a byte in a block that was taken is the file's
  pub byte_seen : (k : ℕ) (content : List ℕ) → file < sizes.nodes → k < node.size → content_under found (slice_index node.blocks (k / 512)) ≡ Some content → byte_at_place im file k ≡ byte_in content (k % 512)
  byte_seen k content below lt h =
      ap (λ c. byte_in c (k % 512)) (ap (λ b. cond b (block_at state (item_block im file k)) []) (for_data k below lt) ∙ seen_block sizes found state tree p (item_block im file k) content (ap (content_under found) (block_is k) ∙ h))

-- the bytes of a file from a place up to another, as far as its first blocks
pub record ReadsTo (sizes : Numbers) (found : Entries) (file from to : ℕ) (bytes : List ℕ) (count : ℕ) : Type 0 where
  pub long : length bytes ≡ min to (512 * count) - from
  pub each : (k : ℕ) → k < length bytes → Always sizes found (λ image. slice_index bytes k ≡ byte_at_place image file (from + k))

pub reads_none : (sizes : Numbers) (found : Entries) (file from to : ℕ) (bytes : List ℕ) → bytes ≡ [] → ReadsTo sizes found file from to bytes (from / 512)
reads_none sizes found file from to bytes is = record {
  long = ap length is ∙ (omega arith);
  each = λ k lt. absurd (omega (arith, ap length is));
}

pub reads_more : (sizes : Numbers) (found : Entries) (file from to low high : ℕ) (old new : List ℕ) (count : ℕ) (content : List ℕ) → ReadsTo sizes found file from to old count
    → from / 512 ≤ count → 512 * count < to → low ≡ max from (512 * count) - 512 * count → high ≡ min to (512 * count + 512) - 512 * count
    → length new ≡ length old + (high - low) → ((k : ℕ) → k < length old → slice_index new k ≡ slice_index old k) → ((k : ℕ) → k < high - low → slice_index new (length old + k) ≡ byte_in content (low + k))
    → ((k : ℕ) → k / 512 ≡ count → k < to → Always sizes found (λ image. byte_at_place image file k ≡ byte_in content (k % 512)))
    → ReadsTo sizes found file from to new (count + 1)
reads_more sizes found file from to low high old new count content r above below is_low is_high long before added seen = record {
  long = omega (arith, long, r.long);
  each = λ k lt. by k lt (dec_lt k (length old));
}
  where
    by : (k : ℕ) → k < length new → Dec (k < length old) → Always sizes found (λ image. slice_index new k ≡ byte_at_place image file (from + k))
    by k lt (yes less) state tree p = before k less ∙ r.each k less state tree p
    by k lt (no past) state tree p =
        let behind : length old + (k - length old) ≡ k = omega arith in
        let place : from + k ≡ 512 * count + (low + (k - length old)) = omega (arith, r.long) in
        let within : low + (k - length old) < 512 = omega (arith, r.long, long) in
        ap (slice_index new) (sym behind) ∙ added (k - length old) (omega (arith, long))
        ∙ ap (byte_in content) (omega (arith, place, within))
        ∙ sym (seen (from + k) (omega (arith, place, within)) (omega (arith, r.long, long)) state tree p)
