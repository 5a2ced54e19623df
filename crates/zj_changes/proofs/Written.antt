-- Bytes that code writes into a file block by block, and then its node.
use Rattle.std.proofs.Common.{◌≡◌, ◌≢◌, ◌⊎◌, inl, inr, ℕ, ◌+◌, ◌-◌, ◌*◌, ◌/◌, ◌%◌, ◌<◌, ◌≤◌, max, true, false, List, length, set, refl, sym, ap, ◌∙◌, subst, arith, slice_index}
use Rattle.std.proofs.lemmas.List.{get_or-set_same, get_or-set_other}
use native.Mathlib.Decide.{ℕ_discrete, dec_lt}
use Rattle.zj_block.specs.Sizes.{Numbers}
use Rattle.zj_layout.specs.declared.fields.Kind.TheVariants.{File}
use Rattle.zj_layout.specs.Node.{byte_in, per_block}
use Rattle.zj_layout.specs.Image.{Image, node_of, count_of, number_of, byte_at_place, names_block}
use Rattle.zj_layout.specs.Stored.{IsStored}
use Rattle.zj_layout.proofs.Changed.{names_at}
use Rattle.zj_changes.specs.Tables.{SetsNode, SetsContent, SetsMap}
use Rattle.zj_changes.specs.Entry.{WasFree}
use Rattle.zj_changes.specs.Resized.{PutsBytes, WritesBlocks, WritesRange}
use Rattle.zj_changes.proofs.Resized.{named_used}

module _ (sizes : Numbers) (old : Image) (s : IsStored sizes old) (file at : ℕ) (bytes : List ℕ) (below : file < sizes.nodes) (is : (node_of old file).kind ≡ File) (within : at ≤ (node_of old file).size) where
  had : count_of old file ≡ ((node_of old file).size + 511) / 512
  had = ap (λ k. ((node_of old file).size + (per_block k - 1)) / per_block k) is

  place_of : (k : ℕ) → byte_at_place old file k ≡ byte_in (old.content (number_of old file (k / 512))) (k % 512)
  place_of k = ap (λ t. byte_in (old.content (number_of old file (k / per_block t))) (k % 512)) is

  -- before the first block
  pub none_written : WritesBlocks sizes old old file at bytes (node_of old file).blocks (at / 512)
  none_written = record {
    node = λ number. refl;
    kept = λ j lt. refl;
    grown = λ j le lt. absurd (omega (arith, had, within));
    grown_apart = λ j k le le' lt lt' e. absurd (omega (arith, had, within));
    content = λ block used ne. refl;
    taken = λ j le lt. absurd (omega (arith, had, within));
    map = λ block ne. refl;
    free = λ block e. e;
    inside = λ k lt less. absurd (omega arith);
    outside = λ k lt side. sym (place_of k);
  }

  module _ (between : Image) (blocks : List ℕ) (count : ℕ) (a : WritesBlocks sizes old between file at bytes blocks count) where
    -- a byte of another block, where one block has a new content
    elsewhere : (new : Image) (block : ℕ) → ((other : ℕ) → other ≢ block → new.content other ≡ between.content other) → (b i : ℕ) → b ≢ block → byte_in (new.content b) i ≡ byte_in (between.content b) i
    elsewhere new block others b i ne = ap (λ c. byte_in c i) (others b ne)

    -- a block that the file names is written over
    pub old_block_written : (new : Image) (content : List ℕ) → count < count_of old file → at / 512 ≤ count → PutsBytes (between.content (number_of old file count)) content (512 * count) at bytes → SetsContent sizes between new (number_of old file count) content
        → WritesBlocks sizes old new file at bytes blocks (count + 1)
    old_block_written new content lt from put b = record {
      node = λ number. b.node number ∙ a.node number;
      kept = a.kept;
      grown = λ j le less. absurd (omega arith);
      grown_apart = λ j k le le' less less' e. absurd (omega arith);
      content = λ block used ne. b.others block (λ e. not_named block ne e) ∙ a.content block used ne;
      taken = λ j le less. absurd (omega arith);
      map = λ block ne. b.map block ∙ a.map block (λ j le less. absurd (omega arith));
      free = λ block e. a.free block (sym (b.map block) ∙ e);
      inside = λ k less up. inside k less up (ℕ_discrete ((at + k) / 512) count);
      outside = λ k less side. outside k less side (ℕ_discrete (k / 512) count);
    }
      where
        not_named : (block : ℕ) → names_block old block file ≡ false → block ≢ number_of old file count
        not_named block ne e = clash (sym (names_at old block file count lt (sym e)) ∙ ne)
          where
            clash : true ≡ false → ⊥
            clash z = cc

        -- another block of the file is another
        other_block : (j : ℕ) → j < count_of old file → j ≢ count → slice_index blocks j ≢ number_of old file count
        other_block j less ne e = ne (s.apart file j file count less lt (sym (a.kept j less) ∙ e)).1

        here : (i : ℕ) → byte_in (new.content (slice_index blocks count)) i ≡ byte_in content i
        here i = ap (λ c. byte_in c i) (ap new.content (a.kept count lt) ∙ b.here)

        inside : (k : ℕ) → k < length bytes → (at + k) / 512 < count + 1 → Dec ((at + k) / 512 ≡ count) → byte_in (new.content (slice_index blocks ((at + k) / 512))) ((at + k) % 512) ≡ slice_index bytes k
        inside k less up (no ne) = elsewhere new (number_of old file count) b.others (slice_index blocks ((at + k) / 512)) ((at + k) % 512) (other_block ((at + k) / 512) (omega arith) ne) ∙ a.inside k less (omega arith)
        inside k less up (yes e) =
            let place : 512 * count + (at + k) % 512 ≡ at + k = omega arith in
            let behind : 512 * count + (at + k) % 512 - at ≡ k = omega arith in
            ap (λ j. byte_in (new.content (slice_index blocks j)) ((at + k) % 512)) e ∙ here ((at + k) % 512)
            ∙ put.inside ((at + k) % 512) (omega arith) (omega (arith, place)) (omega (arith, place)) ∙ ap (slice_index bytes) behind

        outside : (k : ℕ) → k < (node_of old file).size → (k < at) ⊎ (at + length bytes ≤ k) → Dec (k / 512 ≡ count) → byte_in (new.content (slice_index blocks (k / 512))) (k % 512) ≡ byte_at_place old file k
        outside k less side (no ne) = elsewhere new (number_of old file count) b.others (slice_index blocks (k / 512)) (k % 512) (other_block (k / 512) (omega (arith, had)) ne) ∙ a.outside k less side
        outside k less side (yes e) =
            let place : 512 * count + k % 512 ≡ k = omega arith in
            ap (λ j. byte_in (new.content (slice_index blocks j)) (k % 512)) e ∙ here (k % 512)
            ∙ put.outside (k % 512) (omega arith) (subst (λ m. (m < at) ⊎ (at + length bytes ≤ m)) (sym place) side)
            ∙ ap (λ c. byte_in c (k % 512)) (ap between.content (sym (a.kept count lt)))
            ∙ ap (λ j. byte_in (between.content (slice_index blocks j)) (k % 512)) (sym e) ∙ a.outside k less side

    -- a block that is free is taken and written
    pub new_block_written : (second new : Image) (block : ℕ) (was content : List ℕ) → count_of old file ≤ count → count < length blocks → WasFree sizes between block → PutsBytes was content (512 * count) at bytes
        → SetsMap sizes between second block 1 → SetsContent sizes second new block content → WritesBlocks sizes old new file at bytes (set blocks count block) (count + 1)
    new_block_written second new block was content past room free put b c = record {
      node = λ number. c.node number ∙ b.node number ∙ a.node number;
      kept = λ j lt. before j (omega arith) ∙ a.kept j lt;
      grown = λ j le lt. grown j le lt (ℕ_discrete j count);
      grown_apart = λ j k le le' lt lt' e. apart j k le le' lt lt' e (ℕ_discrete j count) (ℕ_discrete k count);
      content = λ x used ne. c.others x (λ e. in_use (sym used ∙ ap old.map e ∙ a.free block free.free)) ∙ b.content x ∙ a.content x used ne;
      taken = λ j le lt. c.map _ ∙ taken j le lt (ℕ_discrete j count);
      map = λ x ne. c.map x ∙ b.others x (λ e. ne count past (omega arith) (at_count ∙ sym e)) ∙ a.map x (λ j le lt e. ne j le (omega arith) (before j (omega arith) ∙ e));
      free = λ x e. still_free x e (ℕ_discrete x block);
      inside = λ k less up. inside k less up (ℕ_discrete ((at + k) / 512) count);
      outside = λ k less side.
          ap (λ n. byte_in (new.content n) (k % 512)) (before (k / 512) (omega (arith, had)))
          ∙ ap (λ n. byte_in n (k % 512)) (c.others _ (not_kept (k / 512) (omega (arith, had))) ∙ b.content _)
          ∙ a.outside k less side;
    }
      where
        in_use : ◌≡◌ {A = ℕ} 1 0 → ⊥
        in_use e = omega arith

        before : (j : ℕ) → j ≢ count → slice_index (set blocks count block) j ≡ slice_index blocks j
        before j ne = get_or-set_other blocks count j block 0 ne

        at_count : slice_index (set blocks count block) count ≡ block
        at_count = get_or-set_same blocks count block 0 room

        was_free : WasFree sizes old block
        was_free = record { free = a.free block free.free; above = free.above; below = free.below }

        -- the block is none that the file had, and none that it has taken
        not_kept : (j : ℕ) → j < count_of old file → slice_index blocks j ≢ block
        not_kept j lt e = in_use (sym (named_used sizes old s file j below lt) ∙ ap old.map (sym (a.kept j lt) ∙ e) ∙ was_free.free)

        not_taken : (j : ℕ) → count_of old file ≤ j → j < count → slice_index blocks j ≢ block
        not_taken j le lt e = in_use (sym (a.taken j le lt) ∙ ap between.map e ∙ free.free)

        grown : (j : ℕ) → count_of old file ≤ j → j < count + 1 → Dec (j ≡ count) → WasFree sizes old (slice_index (set blocks count block) j)
        grown j le lt (yes e) = subst (WasFree sizes old) (sym (ap (slice_index (set blocks count block)) e ∙ at_count)) was_free
        grown j le lt (no ne) = subst (WasFree sizes old) (sym (before j ne)) (a.grown j le (omega arith))

        apart : (j k : ℕ) → count_of old file ≤ j → count_of old file ≤ k → j < count + 1 → k < count + 1 → slice_index (set blocks count block) j ≡ slice_index (set blocks count block) k → Dec (j ≡ count) → Dec (k ≡ count) → j ≡ k
        apart j k le le' lt lt' e (yes p) (yes q) = p ∙ sym q
        apart j k le le' lt lt' e (yes p) (no q) = absurd (not_taken k le' (omega arith) (sym (before k q) ∙ sym e ∙ ap (slice_index (set blocks count block)) p ∙ at_count))
        apart j k le le' lt lt' e (no p) (yes q) = absurd (not_taken j le (omega arith) (sym (before j p) ∙ e ∙ ap (slice_index (set blocks count block)) q ∙ at_count))
        apart j k le le' lt lt' e (no p) (no q) = a.grown_apart j k le le' (omega arith) (omega arith) (sym (before j p) ∙ e ∙ before k q)

        taken : (j : ℕ) → count_of old file ≤ j → j < count + 1 → Dec (j ≡ count) → second.map (slice_index (set blocks count block) j) ≡ 1
        taken j le lt (yes e) = ap second.map (ap (slice_index (set blocks count block)) e ∙ at_count) ∙ b.here
        taken j le lt (no ne) = ap second.map (before j ne) ∙ b.others _ (not_taken j le (omega arith)) ∙ a.taken j le (omega arith)

        still_free : (x : ℕ) → new.map x ≡ 0 → Dec (x ≡ block) → old.map x ≡ 0
        still_free x e (yes same) = absurd (in_use (sym b.here ∙ ap second.map (sym same) ∙ sym (c.map x) ∙ e))
        still_free x e (no ne) = a.free x (sym (b.others x ne) ∙ sym (c.map x) ∙ e)

        not_before : (j : ℕ) → j < count → Dec (j < count_of old file) → slice_index blocks j ≢ block
        not_before j lt (yes had_it) = not_kept j had_it
        not_before j lt (no new_one) = not_taken j (omega arith) lt

        inside : (k : ℕ) → k < length bytes → (at + k) / 512 < count + 1 → Dec ((at + k) / 512 ≡ count) → byte_in (new.content (slice_index (set blocks count block) ((at + k) / 512))) ((at + k) % 512) ≡ slice_index bytes k
        inside k less up (no ne) =
            ap (λ n. byte_in (new.content n) ((at + k) % 512)) (before ((at + k) / 512) ne)
            ∙ ap (λ n. byte_in n ((at + k) % 512)) (c.others _ (not_before ((at + k) / 512) (omega arith) (dec_lt ((at + k) / 512) (count_of old file))) ∙ b.content _)
            ∙ a.inside k less (omega arith)
        inside k less up (yes e) =
            let place : 512 * count + (at + k) % 512 ≡ at + k = omega arith in
            let behind : 512 * count + (at + k) % 512 - at ≡ k = omega arith in
            ap (λ j. byte_in (new.content (slice_index (set blocks count block) j)) ((at + k) % 512)) e
            ∙ ap (λ n. byte_in (new.content n) ((at + k) % 512)) at_count ∙ ap (λ n. byte_in n ((at + k) % 512)) c.here
            ∙ put.inside ((at + k) % 512) (omega arith) (omega (arith, place)) (omega (arith, place)) ∙ ap (slice_index bytes) behind

    -- all blocks are written, and then the node
    pub range_written : (new : Image) → file ≢ 0 → max (node_of old file).size (at + length bytes) ≤ 6144 → (length bytes ≡ 0) ⊎ (at + length bytes ≤ 512 * count) → count ≤ (max (node_of old file).size (at + length bytes) + 511) / 512
        → SetsNode sizes between new file (record { kind = File; size = max (node_of old file).size (at + length bytes); blocks = blocks }) → WritesRange sizes old new file at bytes blocks
    range_written new not_root few all no_more b = record {
      was_file = is;
      at_most = within;
      resizes = record {
        within = below;
        here = b.here;
        others = λ i ne. b.others i ne ∙ a.node i;
        few = few;
        root = λ z. absurd (not_root z);
        kept = λ j lt less. a.kept j less;
        grown = λ j lt le. a.grown j le (up j lt le all);
        grown_apart = λ j k hj hk le le' e. a.grown_apart j k le le' (up j hj le all) (up k hk le' all) e;
        entries = λ e place lt. absurd cc;
        content = λ block used ne. b.content block ∙ a.content block used ne;
        taken = λ j lt le. b.map _ ∙ a.taken j le (up j lt le all);
        freed = λ j le lt. absurd (omega (arith, had));
        map = λ block new_ones old_ones. b.map block ∙ a.map block (λ j le lt. new_ones j (omega (arith, no_more)) le);
      };
      inside = λ k lt. ap (λ c. byte_in c ((at + k) % 512)) (b.content _) ∙ a.inside k lt (covered k lt all);
      outside = λ k lt side. ap (λ c. byte_in c (k % 512)) (b.content _) ∙ a.outside k lt side;
    }
      where
        up : (j : ℕ) → j < (max (node_of old file).size (at + length bytes) + 511) / 512 → count_of old file ≤ j → (length bytes ≡ 0) ⊎ (at + length bytes ≤ 512 * count) → j < count
        up j lt le (inl none) = absurd (omega (arith, had, within, none))
        up j lt le (inr some) = omega (arith, had, within, some)

        covered : (k : ℕ) → k < length bytes → (length bytes ≡ 0) ⊎ (at + length bytes ≤ 512 * count) → (at + k) / 512 < count
        covered k lt (inl none) = absurd (omega arith)
        covered k lt (inr some) = omega arith
