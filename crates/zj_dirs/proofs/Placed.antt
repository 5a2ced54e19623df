-- The steps that add an entry together add it.
use Rattle.std.proofs.Common.{◌≡◌, ◌≢◌, inl, inr, ℕ, ◌+◌, ◌-◌, ◌/◌, ◌%◌, ◌<◌, ◌≤◌, true, cond, ◌&&◌, ◌||◌, ltb, leb, lt-ltb, List, length, set, Some, refl, sym, ap, ◌∙◌, subst, arith, slice_index}
use Rattle.std.specs.Option.{unwrap_or}
use Rattle.std.proofs.lemmas.List.{get_or-set_same, get_or-set_other}
use native.Mathlib.Decide.{dec_lt}
use Rattle.zj_block.specs.Sizes.{Numbers, first_data}
use Rattle.zj_layout.specs.declared.fields.Kind.TheVariants.{Dir}
use Rattle.zj_layout.specs.declared.fields.Node.{Node}
use Rattle.zj_layout.specs.declared.fields.Link.{Link}
use Rattle.zj_layout.specs.Node.{link_in, per_block}
use Rattle.zj_layout.specs.Image.{Image, is_data, free_node, node_of, count_of, is_named}
use Rattle.zj_layout.specs.Stored.{IsStored}
use Rattle.zj_changes.specs.Entry.{WasFree}
use Rattle.zj_changes.specs.Tables.{SetsNode, SetsMap, SetsLink, SetsContent}
use Rattle.zj_changes.proofs.Resized.{named_used}
use Rattle.zj_block.specs.Block.{zero_content}
use Rattle.zj_dirs.specs.Changing.{Places}
use Rattle.zj_dirs.specs.Looking.{IsLowestBlock}
use Rattle.zj_dirs.proofs.Looks.{dir_within}

module _ (sizes : Numbers) (old : Image) (s : IsStored sizes old) (dir : ℕ) (node : Node) (link : Link) (is : old.node dir ≡ Some node) (is_dir : node.kind ≡ Dir) (few : node.size < 192) where
  the_node : node_of old dir ≡ node
  the_node = ap (λ o. unwrap_or o free_node) is

  directory : (node_of old dir).kind ≡ Dir
  directory = ap (λ (n : Node). n.kind) the_node ∙ is_dir

  pub below : dir < sizes.nodes
  below = dir_within sizes old s dir directory

  old_count : count_of old dir ≡ (node.size + 15) / 16
  old_count = ap (λ k. ((node_of old dir).size + (per_block k - 1)) / per_block k) directory ∙ ap (λ (n : Node). (n.size + 15) / 16) the_node

  -- the last block, where it has room, is one for data
  pub last_data : node.size % 16 ≢ 0 → is_data sizes (slice_index node.blocks (node.size / 16)) ≡ true
  last_data room =
      let range = (s.placed dir below).in_data (node.size / 16) (omega (arith, old_count)) in
      let at : slice_index (node_of old dir).blocks (node.size / 16) ≡ slice_index node.blocks (node.size / 16) = ap (λ (n : Node). slice_index n.blocks (node.size / 16)) the_node in
      both (first_data sizes) (slice_index node.blocks (node.size / 16)) sizes.blocks (subst (λ b. first_data sizes ≤ b) at range.0) (subst (λ b. b < sizes.blocks) at range.1)
    where
      both : (a b c : ℕ) → a ≤ b → b < c → (leb a b && ltb b c) ≡ true
      both a b c h k = grind arith

  pub added_in_last : (mid new : Image) → node.size % 16 ≢ 0 → SetsLink sizes old mid (slice_index node.blocks (node.size / 16)) (node.size % 16) link
      → SetsNode sizes mid new dir (record { kind = Dir; size = node.size + 1; blocks = node.blocks }) → Places sizes old new dir link
  added_in_last mid new room a b = record {
    appends = record {
      size = node.size;
      blocks = node.blocks;
      block = slice_index node.blocks (node.size / 16);
      is = record {
        within = below;
        directory = directory;
        size_is = ap (λ (n : Node). n.size) the_node;
        fits = few;
        node = b.here;
        others = λ i ne. b.others i ne ∙ a.node i;
        same_blocks = λ j lt. ap (λ (n : Node). slice_index n.blocks j) (sym the_node);
        block_is = refl;
        status = inl room;
        content = λ k ne. b.content k ∙ a.others k ne;
        stands = ap (λ c. link_in c (node.size % 16)) (b.content _) ∙ a.here;
        before = λ j lt. ap (λ c. link_in c j) (b.content _) ∙ a.rest j (omega (arith, lt));
        marked = b.map _ ∙ a.map _ ∙ in_use;
        map = λ k ne. b.map k ∙ a.map k;
      };
    };
    lowest = λ full. absurd (room (sym full_size ∙ full));
    zeros = λ full. absurd (room (sym full_size ∙ full));
  }
    where
      full_size : (node_of old dir).size % 16 ≡ node.size % 16
      full_size = ap (λ (n : Node). n.size % 16) the_node

      in_use : old.map (slice_index node.blocks (node.size / 16)) ≡ 1
      in_use = ap (λ (n : Node). old.map (slice_index n.blocks (node.size / 16))) (sym the_node) ∙ named_used sizes old s dir (node.size / 16) below (omega (arith, old_count))

  -- the lowest free block is one for data
  pub new_block : (x : ℕ) → IsLowestBlock sizes old (Some x) → WasFree sizes old x
  new_block x h = record { free = h.1; above = by (dec_lt x (first_data sizes)); below = h.0 }
    where
      by : Dec (x < first_data sizes) → first_data sizes ≤ x
      by (no away) = omega arith
      by (yes lt) =
          let used : old.map x ≡ 1 = s.map x h.0 ∙ ap (λ b. cond (b || is_named sizes.nodes old x) 1 0) (lt-ltb x (first_data sizes) lt) in
          absurd (omega (arith, used, h.1))

  pub added_in_new : (x : ℕ) (content : List ℕ) (first second new : Image) → length node.blocks ≡ 12 → node.size % 16 ≡ 0 → IsLowestBlock sizes old (Some x) → SetsContent sizes old first x content → link_in content 0 ≡ Some link → ((j : ℕ) → j ≢ 0 → link_in content j ≡ link_in zero_content j) → SetsMap sizes first second x 1
      → SetsNode sizes second new dir (record { kind = Dir; size = node.size + 1; blocks = set node.blocks (node.size / 16) x }) → Places sizes old new dir link
  added_in_new x content first second new many full lowest a here rest b c = record {
    appends = record {
      size = node.size;
      blocks = set node.blocks (node.size / 16) x;
      block = x;
      is = record {
        within = below;
        directory = directory;
        size_is = ap (λ (n : Node). n.size) the_node;
        fits = few;
        node = c.here;
        others = λ i ne. c.others i ne ∙ b.node i ∙ a.node i;
        same_blocks = λ j lt. get_or-set_other node.blocks (node.size / 16) j x 0 (λ e. omega (arith, old_count, lt, e, full)) ∙ ap (λ (n : Node). slice_index n.blocks j) (sym the_node);
        block_is = get_or-set_same node.blocks (node.size / 16) x 0 (omega (arith, many, few));
        status = inr (full, new_block x lowest);
        content = λ k ne. c.content k ∙ b.content k ∙ a.others k ne;
        stands = ap (λ y. link_in y (node.size % 16)) (c.content x ∙ b.content x) ∙ ap (link_in (first.content x)) full ∙ ap (λ y. link_in y 0) a.here ∙ here;
        before = λ j lt. absurd (omega (arith, full, lt));
        marked = c.map x ∙ b.here;
        map = λ k ne. c.map k ∙ b.others k ne ∙ a.map k;
      };
    };
    lowest = λ _. lowest;
    zeros = λ _ j ne. ap (λ y. link_in y j) (c.content x ∙ b.content x ∙ a.here) ∙ rest j ne;
  }

-- a block that was free is one for data
pub free_data : (sizes : Numbers) (old : Image) (x : ℕ) → WasFree sizes old x → is_data sizes x ≡ true
free_data sizes old x f = both (first_data sizes) x sizes.blocks f.above f.below
  where
    both : (a b c : ℕ) → a ≤ b → b < c → (leb a b && ltb b c) ≡ true
    both a b c h k = grind arith
