-- A file that is written, from its path.
use Rattle.std.proofs.Common.{◌≡◌, ◌≢◌, ◌⊎◌, inl, inr, ℕ, ◌+◌, ◌*◌, ◌/◌, ◌<◌, ◌≤◌, max, Bool, true, false, cond, eqb, List, length, refl, sym, ap, ◌∙◌, subst, arith, slice_index}
use Rattle.std.specs.FinMap as map_of
use Rattle.zj_block.specs.Lists.{Entries, AreContents}
use Rattle.zj_block.specs.Sizes.{Numbers}
use Rattle.zj_tree.specs.Apply.{longest_file, most_bytes}
use Rattle.zj_tree.specs.Tree.{FileTree}
use Rattle.zj_tree.specs.declared.call.Call.{Call}
use Rattle.zj_tree.specs.declared.call.Call.TheVariants.{Write}
use Rattle.zj_tree.specs.declared.call.Refusal.{Refusal}
use Rattle.zj_tree.specs.declared.call.Refusal.TheVariants.{NoSpace, PastEnd, TooBig}
use Rattle.zj_tree.specs.declared.call.Reply.TheVariants.{Refused}
use Rattle.zj_layout.specs.declared.fields.Kind.TheVariants.{File}
use Rattle.zj_layout.specs.Node.{byte_in, is_node, blocks_needed}
use Rattle.zj_layout.specs.Image.{State, Image, image_of, node_of, node_block}
use Rattle.zj_layout.specs.Shows.{Changes, put_blocks}
use Rattle.zj_changes.specs.Holds.{Answers}
use Rattle.zj_changes.specs.Tables.{SetsNode}
use Rattle.zj_changes.specs.Walk.{LeadsToNoFile}
use Rattle.zj_changes.proofs.WriteReplies.{write_no_file, write_past_end, write_too_big, write_no_space}
use Rattle.zj_changes.proofs.Written.{range_written}
use Rattle.zj_dirs.specs.declared.answers.Halt.{Halt}
use Rattle.zj_dirs.specs.Possible.{Always, Halts, IsPossible, KeepsContents, Turns}
use Rattle.zj_dirs.proofs.Nodes.{node_from}
use Rattle.zj_dirs.proofs.Walks.{possible_stored}
use Rattle.zj_inode.specs.declared.finding.Located.{Located}
use Rattle.zj_inode.specs.declared.stopped.Stopped.{Stopped}
use Rattle.zj_inode.specs.declared.stopped.Stopped.TheVariants as stopped
use Rattle.zj_inode.specs.Answering.{CallStops, stopped_at}
use Rattle.zj_inode.specs.Files.{HasWritten, IsWriteBlock, of_range, of_map, of_new, LacksSpace, OverwritesIn, Overwrites, WriteStops, WritesFirst, blocks_more, blocks_up_to}
use Rattle.zj_inode.specs.Finding.{FileStops, IsAt, IsWayBlock}
use Rattle.zj_inode.specs.Footprint.{Foot, LeadsToFile, NeedsBlocks, in_range, map_of_new, new, found as found_node}
use Rattle.zj_inode.proofs.Cuts.{node_within, not_root}
use Rattle.zj_inode.proofs.Foots.{way_foot}
use Rattle.zj_inode.proofs.Makes.{shape_after}
use Rattle.zj_inode.proofs.Steps.{fresh_kept, fresh_then_kept, fresh_turns, kind_at, same_image, size_at, stops_after, stops_at, stops_more}

-- the blocks of the file and the written ones are all that its bytes need
pub all_blocks : (size at count : ℕ) → at ≤ size → max ((size + 511) / 512) (blocks_up_to at count) ≡ (max size (at + count) + 511) / 512
all_blocks size at count le = by (eqb count 0) refl
  where
    by : (b : Bool) → eqb count 0 ≡ b → max ((size + 511) / 512) (blocks_up_to at count) ≡ (max size (at + count) + 511) / 512
    by true e = let none : count ≡ 0 = zero_is count 0 e in let q = ap (λ b. cond b (at / 512) ((at + count + 511) / 512)) e in omega (arith, q, none, le)
      where
        zero_is : (a b : ℕ) → eqb a b ≡ true → a ≡ b
        zero_is a b h = grind arith
    by false e = let q = ap (λ b. cond b (at / 512) ((at + count + 511) / 512)) e in omega (arith, q, le)

-- all bytes stand in the written blocks
pub all_bytes : (at count : ℕ) → (count ≡ 0) ⊎ (at + count ≤ 512 * blocks_up_to at count)
all_bytes at count = by (eqb count 0) refl
  where
    by : (b : Bool) → eqb count 0 ≡ b → (count ≡ 0) ⊎ (at + count ≤ 512 * blocks_up_to at count)
    by true e = inl (zero_is count 0 e)
      where
        zero_is : (a b : ℕ) → eqb a b ≡ true → a ≡ b
        zero_is a b h = grind arith
    by false e = let q = ap (λ b. cond b (at / 512) ((at + count + 511) / 512)) e in inr (omega (arith, q))

-- the node of a file that is written
pub written_node : (size at count : ℕ) (blocks : List ℕ) → length blocks ≡ 12 → at ≤ size → size ≤ 6144 → at + count ≤ 6144 → ((k : ℕ) → k < max ((size + 511) / 512) (blocks_up_to at count) → slice_index blocks k ≢ 0)
    → ((k : ℕ) → max ((size + 511) / 512) (blocks_up_to at count) ≤ k → slice_index blocks k ≡ 0) → is_node (record { kind = File; size = max size (at + count); blocks = blocks }) ≡ true
written_node size at count blocks many le few fits some rest =
    let all = all_blocks size at count le in
    node_from (record { kind = File; size = max size (at + count); blocks = blocks }) many (omega (arith, few, fits)) (omega (arith, few, fits))
    (λ j lt. some j (omega (arith, all, lt))) (λ j more. rest j (omega (arith, all, more)))

module _ (sizes : Numbers) (found : Entries) (path : List (List ℕ)) (at : ℕ) (bytes : List ℕ) where
  abbrev call : Call
  call = Write path at bytes

  abbrev to : ℕ
  to = at + length bytes

  -- the path leads to no file
  pub no_file_stops : (s : Stopped) → FileStops sizes found path s → CallStops sizes found call s
  no_file_stops = stops_more sizes found (λ image block. IsWayBlock sizes image path block) (λ image block. Foot sizes image call block) (λ state tree r. LeadsToNoFile (image_of sizes state) path r) (λ state tree r. Answers sizes call (Refused r) tree state)
      (λ state tree p b h. way_foot sizes (image_of sizes state) call path (0, refl) b h) (λ state tree p r h. write_no_file sizes state tree p.shows path at bytes r h)

  module _ (file : Located) (is_at : Always sizes found (λ image. IsAt image path file)) (is : file.node.kind ≡ File) where
    kind_is : (state : State) (tree : FileTree) → IsPossible sizes found state tree → (node_of (image_of sizes state) file.number).kind ≡ File
    kind_is state tree p = kind_at (image_of sizes state) path file (is_at state tree p) File is

    size_is : (state : State) (tree : FileTree) → IsPossible sizes found state tree → (node_of (image_of sizes state) file.number).size ≡ file.node.size
    size_is state tree p = size_at (image_of sizes state) path file (is_at state tree p)

    pub past_end : file.node.size < at → CallStops sizes found call (stopped.Refused PastEnd)
    past_end past state tree p = write_past_end sizes state tree p.shows path at bytes file.number (is_at state tree p).leads (kind_is state tree p) (omega (arith, size_is state tree p, past))

    module _ (within : at ≤ file.node.size) where
      pub too_many : most_bytes < length bytes → CallStops sizes found call (stopped.Refused TooBig)
      too_many many state tree p = write_too_big sizes state tree p.shows path at bytes file.number (is_at state tree p).leads (kind_is state tree p) (omega (arith, size_is state tree p, within)) (inl many)

      pub too_long : 6144 < to → CallStops sizes found call (stopped.Refused TooBig)
      too_long long state tree p =
          write_too_big sizes state tree p.shows path at bytes file.number (is_at state tree p).leads (kind_is state tree p) (omega (arith, size_is state tree p, within))
          (inr (omega (arith, long, ap longest_file p.shows.shape.limits.one_version)))

      to_file : (image : Image) → IsAt image path file → LeadsToFile image path file.number
      to_file image a = record { leads = a.leads; is_file = kind_at image path file a File is }

      needs : (image : Image) → IsAt image path file → to ≤ 6144 → NeedsBlocks image call (blocks_more image file.number to)
      needs image a fits = (file.number, to_file image a, omega (arith, size_at image path file a, within), fits, refl)

      -- a block that writing needs
      write_foot : (image : Image) → IsAt image path file → to ≤ 6144 → (block : ℕ) → IsWriteBlock sizes image file.number at to block → Foot sizes image call block
      write_foot image a fits block (of_range k le lt there e) = in_range path file.number k (0, refl) (to_file image a) le lt there e
      write_foot image a fits block (of_map lt few) = map_of_new (blocks_more image file.number to) (needs image a fits) lt few
      write_foot image a fits block (of_new free lt few) = new (blocks_more image file.number to) (needs image a fits) free lt few

      module _ (built : Changes) (fresh : built ≡ map_of.empty) (few : length bytes ≤ most_bytes) (fits : to ≤ 6144) where
        cause : (state : State) (tree : FileTree) → IsPossible sizes found state tree → (r : Refusal) → (r ≡ NoSpace) × LacksSpace sizes (image_of sizes state) file.number to → Answers sizes call (Refused r) tree state
        cause state tree p r (e, l) =
            subst (λ x. Answers sizes call (Refused x) tree state) (sym e)
            (write_no_space sizes state tree p.shows path at bytes file.number (is_at state tree p).leads (kind_is state tree p) (omega (arith, size_is state tree p, within)) few
            (omega (arith, fits, ap longest_file p.shows.shape.limits.one_version)) l.free l.among l.few)

        pub blocks_stop : (s : Stopped) → WriteStops sizes found built file.number at to s → CallStops sizes found call s
        blocks_stop = stops_after sizes found built (λ image block. IsWriteBlock sizes image file.number at to block) (λ image block. Foot sizes image call block)
            (λ state tree r. (r ≡ NoSpace) × LacksSpace sizes (image_of sizes state) file.number to) (λ state tree r. Answers sizes call (Refused r) tree state)
            (fresh_kept sizes found built fresh)
            (λ state tree p b h. write_foot (image_of sizes state) (is_at state tree p) fits b (subst (λ i. IsWriteBlock sizes i file.number at to b) (same_image sizes found built fresh state) h))
            (λ state tree p r h. cause state tree p r (h.0, subst (λ i. LacksSpace sizes i file.number to) (same_image sizes found built fresh state) h.1))

        module _ (mid : Changes) (kept : KeepsContents found built mid) where
          pub node_stop : (h : Halt) → Halts sizes found mid (λ image block. block ≡ node_block sizes file.number) h → CallStops sizes found call (stopped_at h)
          node_stop = stops_at sizes found mid (λ image block. block ≡ node_block sizes file.number) (λ image block. Foot sizes image call block) (λ state tree r. Answers sizes call (Refused r) tree state)
              (fresh_then_kept sizes found built fresh mid kept) (λ state tree p b e. found_node path file.number (0, refl) (is_at state tree p).leads e)

          module _ (blocks : List ℕ) (w : WritesFirst sizes found built mid file.number at (blocks_needed file.node) bytes blocks (blocks_up_to at (length bytes))) (short : file.node.size ≤ 6144) where
            pub overwrites : (after : Changes) → KeepsContents found mid after → AreContents (map_of.entries after) → Turns sizes found mid after (λ old new. file.number < sizes.nodes → SetsNode sizes old new file.number (record { kind = File; size = max file.node.size to; blocks = blocks }))
                → Overwrites sizes found after path at bytes blocks
            overwrites after kept' contents sets = record {
              each = λ state tree p. one state tree p;
              seen = λ k le lt e. w.seen k le lt (kept' _ e);
            }
              where
                one : (state : State) (tree : FileTree) → IsPossible sizes found state tree → OverwritesIn sizes state (put_blocks state after) path at bytes blocks
                one state tree p =
                    let old = image_of sizes state in
                    let middle = image_of sizes (put_blocks state mid) in
                    let s = possible_stored sizes state tree p.shows in
                    let a = fresh_turns sizes found built fresh mid (λ o n. HasWritten sizes o n file.number at bytes blocks (blocks_up_to at (length bytes))) w.turns state tree p in
                    let size = size_is state tree p in
                    let below = node_below state tree p in
                    let same_size : max file.node.size to ≡ max (node_of old file.number).size to = ap (λ n. max n to) (sym size) in
                    let all = all_blocks file.node.size at (length bytes) within in
                    let node = subst (λ n. SetsNode sizes middle (image_of sizes (put_blocks state after)) file.number (record { kind = File; size = n; blocks = blocks })) same_size (sets state tree p below) in
                    record {
                      shape = shape_after sizes state after p.shows.shape contents;
                      file = file.number;
                      leads = (is_at state tree p).leads;
                      writes = range_written sizes old s file.number at bytes below (kind_is state tree p) (omega (arith, size, within)) middle blocks (blocks_up_to at (length bytes)) a.writes (image_of sizes (put_blocks state after))
                          (not_root sizes old s file.number file.node (is_at state tree p).is is) (omega (arith, size, short, fits)) (all_bytes at (length bytes)) (omega (arith, all, size)) node;
                      zeros = λ j i le lt less behind. ap (λ c. byte_in c i) (node.content _) ∙ a.zeros j i le lt less behind;
                    }
                  where
                    node_below : (state : State) (tree : FileTree) → IsPossible sizes found state tree → file.number < sizes.nodes
                    node_below state tree p = node_within sizes (image_of sizes state) (possible_stored sizes state tree p.shows) file.number file.node (is_at state tree p).is
