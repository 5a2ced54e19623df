-- Changes that code makes table by table: an entry that is replaced, and blocks that are freed, one by one.
use Rattle.std.proofs.Common.{◌≡◌, ◌≢◌, ℕ, ◌+◌, ◌-◌, ◌/◌, ◌%◌, ◌<◌, ◌≤◌, List, refl, sym, ap, ◌∙◌, subst, arith, slice_index}
use native.Mathlib.Decide.{ℕ_discrete}
use Rattle.zj_block.specs.Sizes.{Numbers}
use Rattle.zj_layout.specs.declared.fields.Kind.TheVariants.{File, Dir}
use Rattle.zj_layout.specs.declared.fields.Link.{Link}
use Rattle.zj_layout.specs.Node.{per_block, most_items}
use Rattle.zj_layout.specs.Image.{Image, node_of, count_of, number_of, item_block}
use Rattle.zj_layout.specs.Stored.{IsStored}
use Rattle.zj_changes.specs.Tables.{SetsNode, SetsMap, SetsLink}
use Rattle.zj_changes.specs.Resized.{ReplacesEntry, FreesBlocks, FreesNode, zero_node, CutsFile}

-- an entry that is put over another
pub replaced_by : (sizes : Numbers) (old new : Image) (dir place : ℕ) (link : Link) → dir < sizes.nodes → (node_of old dir).kind ≡ Dir → place < (node_of old dir).size → SetsLink sizes old new (item_block old dir place) (place % 16) link → ReplacesEntry sizes old new dir place link
replaced_by sizes old new dir place link below is lt a = record {
  within = below;
  directory = is;
  hole = lt;
  node = a.node;
  content = a.others;
  stands = a.here;
  rest = λ j l ne. a.rest j ne;
  map = a.map;
}

-- ---- blocks that are freed, one by one

pub none_freed : (old : Image) (number low : ℕ) → FreesBlocks old old number low low
none_freed old number low = record { freed = λ j le lt. absurd (omega arith); map = λ block ne. refl; node = λ other. refl; content = λ block. refl }

pub one_more_freed : (sizes : Numbers) (old between new : Image) (number low high : ℕ) → low ≤ high → FreesBlocks old between number low high → SetsMap sizes between new (number_of old number high) 0 → FreesBlocks old new number low (high + 1)
one_more_freed sizes old between new number low high order a b = record {
  freed = λ j le lt. freed j le lt (ℕ_discrete j high) (ℕ_discrete (number_of old number j) (number_of old number high));
  map = λ block ne. b.others block (λ e. ne high order (omega arith) (sym e)) ∙ a.map block (λ j le lt. ne j le (omega arith));
  node = λ other. b.node other ∙ a.node other;
  content = λ block. b.content block ∙ a.content block;
}
  where
    freed : (j : ℕ) → low ≤ j → j < high + 1 → Dec (j ≡ high) → Dec (number_of old number j ≡ number_of old number high) → new.map (number_of old number j) ≡ 0
    freed j le lt d (yes e) = ap new.map e ∙ b.here
    freed j le lt (yes e) (no ne) = absurd (ne (ap (number_of old number) e))
    freed j le lt (no away) (no ne) = b.others (number_of old number j) ne ∙ a.freed j le (omega arith)

-- all its blocks, and then the node
pub freed_node : (sizes : Numbers) (old between new : Image) (number : ℕ) → FreesBlocks old between number 0 (count_of old number) → SetsNode sizes between new number zero_node → FreesNode old new number
freed_node sizes old between new number a b = record {
  here = b.here;
  others = λ i ne. b.others i ne ∙ a.node i;
  content = λ block. b.content block ∙ a.content block;
  freed = λ j lt. b.map _ ∙ a.freed j (omega arith) lt;
  map = λ block ne. b.map block ∙ a.map block (λ j le lt. ne j lt);
}

-- the last blocks of a file, and then its node with the first ones
pub cut_file : (sizes : Numbers) (old between new : Image) (file size : ℕ) (blocks : List ℕ) → IsStored sizes old → file < sizes.nodes → file ≢ 0 → (node_of old file).kind ≡ File → size ≤ (node_of old file).size
    → ((j : ℕ) → j < (size + 511) / 512 → slice_index blocks j ≡ number_of old file j) → FreesBlocks old between file ((size + 511) / 512) (count_of old file)
    → SetsNode sizes between new file (record { kind = File; size = size; blocks = blocks }) → CutsFile sizes old new file size blocks
cut_file sizes old between new file size blocks s below not_root is fewer kept a b = record {
  was_file = is;
  fewer = fewer;
  resizes = record {
    within = below;
    here = b.here;
    others = λ i ne. b.others i ne ∙ a.node i;
    few = omega (arith, fewer, few);
    root = λ z. absurd (not_root z);
    kept = λ j lt less. kept j lt;
    grown = λ j lt le. absurd (omega (arith, old_count, fewer));
    grown_apart = λ j k hj hk le le' e. absurd (omega (arith, old_count, fewer));
    entries = λ e place lt. absurd cc;
    content = λ block used ne. b.content block ∙ a.content block;
    taken = λ j lt le. absurd (omega (arith, old_count, fewer));
    freed = λ j le lt. b.map _ ∙ a.freed j le lt;
    map = λ block new_ones old_ones. b.map block ∙ a.map block (λ j le lt. old_ones j le lt);
  };
  content = λ j lt. b.content _ ∙ a.content _;
}
  where
    few : (node_of old file).size ≤ 6144
    few = subst (λ k. (node_of old file).size ≤ most_items k) is (s.placed file below).few

    old_count : count_of old file ≡ ((node_of old file).size + 511) / 512
    old_count = ap (λ k. ((node_of old file).size + (per_block k - 1)) / per_block k) is
