-- The bytes of a file, block by block.
use Rattle.std.proofs.Common.{◌≡◌, ◌⊎◌, inl, inr, ℕ, ◌+◌, ◌-◌, ◌*◌, ◌/◌, ◌%◌, ◌<◌, ◌≤◌, min, ◌&&◌, cond, eqb, lt-ltb, Bool, true, false, List, [], ◌++◌, length, map, take, Some, refl, sym, ap, ◌∙◌, subst, arith, slice_index, get_or}
use Rattle.std.specs.List.{range_with_len}
use Rattle.std.specs.Option.{unwrap_or}
use Rattle.std.proofs.lemmas.Bool.{cases_lt, le-leb}
use Rattle.std.proofs.lemmas.List.{length-append, length-take-le, get_or-take, get_or_append_left, get_or-append_right}
use Rattle.std.proofs.lemmas.List.FromFn.{fill_by_all, length-map-range_with_len}
use Rattle.zj_block.specs.Block.{bytes_of}
use Rattle.zj_block.specs.Sizes.{Numbers, first_data}
use Rattle.zj_tree.specs.declared.content.Content.{Content}
use Rattle.zj_tree.specs.Changed as changed
use Rattle.zj_tree.specs.Apply.{Limits, longest_file}
use Rattle.zj_layout.specs.declared.fields.Kind.{Kind}
use Rattle.zj_layout.specs.declared.fields.Kind.TheVariants.{Free, File, Dir}
use Rattle.zj_layout.specs.declared.fields.Link.{Link}
use Rattle.zj_layout.specs.Graph.{content_of}
use Rattle.zj_layout.specs.declared.fields.Node.{Node}
use Rattle.zj_layout.specs.Node.{byte_in, per_block, blocks_needed, most_items}
use Rattle.zj_layout.specs.Image.{State, block_at, Image, image_of, free_node, node_of, number_of, byte_at_place, link_or_none, held, graph_of}
use Rattle.zj_layout.specs.Read.{HasNodes}
use Rattle.zj_layout.specs.Shows.{limits_of}
use Rattle.zj_layout.proofs.Follow.{some_is, none_some}

-- the first bytes of a file, of so many blocks
pub record HasBytes (im : Image) (file count : ℕ) (bytes : List ℕ) : Type 0 where
  pub many : length bytes ≡ min (512 * count) (node_of im file).size
  pub each : (k : ℕ) → k < length bytes → get_or bytes k 0 ≡ byte_at_place im file k

pub bytes_none : (im : Image) (file : ℕ) (bytes : List ℕ) → bytes ≡ [] → HasBytes im file 0 bytes
bytes_none im file bytes e = record { many = ap length e ∙ omega arith; each = λ k lt. absurd (omega (arith, ap (λ (xs : List ℕ). length xs) e)) }

module _ (sizes : Numbers) (s : State) (nodes : HasNodes sizes s) (file : ℕ) (within : file < sizes.nodes) (kind : (node_of (image_of sizes s) file).kind ≡ File) (node : Node) (is : (image_of sizes s).node file ≡ Some node) where
  abbrev im : Image
  im = image_of sizes s

  the_node : node_of im file ≡ node
  the_node = ap (λ o. unwrap_or o free_node) is

  kind_is : node.kind ≡ File
  kind_is = ap (λ (n : Node). n.kind) (sym the_node) ∙ kind

  size_is : (node_of im file).size ≡ node.size
  size_is = ap (λ (n : Node). n.size) the_node

  pub count_is : blocks_needed node ≡ (node.size + 511) / 512
  count_is = ap (λ k. (node.size + (per_block k - 1)) / per_block k) kind_is

  -- a number of the file is that of a block for data
  pub number_within : (j : ℕ) → j < blocks_needed node → (first_data sizes ≤ number_of im file j) × (number_of im file j < sizes.blocks)
  number_within j lt = (nodes.each file within).in_data j (subst (λ n. j < blocks_needed n) (sym the_node) lt)

  content_is : (j : ℕ) → j < blocks_needed node → im.content (number_of im file j) ≡ block_at s (number_of im file j)
  content_is j lt =
      let n = number_within j lt in
      (λ i. cond (le-leb (first_data sizes) (number_of im file j) n.0 i && lt-ltb (number_of im file j) sizes.blocks n.1 i) (block_at s (number_of im file j)) [])

  byte_is : (j k : ℕ) → j < blocks_needed node → k / 512 ≡ j → byte_at_place im file k ≡ slice_index (bytes_of (block_at s (number_of im file j))) (k - 512 * j)
  unfolding byte_in
  byte_is j k lt e =
      let at : k % 512 ≡ k - 512 * j = omega arith in
      ap (λ d. byte_in (im.content (number_of im file (k / per_block d))) (k % 512)) kind
      ∙ ap (λ i. byte_in (im.content (number_of im file i)) (k % 512)) e
      ∙ ap (λ c. byte_in c (k % 512)) (content_is j lt)
      ∙ ap (byte_in (block_at s (number_of im file j))) at

  -- one block more
  pub bytes_more : (j number : ℕ) (bytes content new : List ℕ) → j < blocks_needed node → number ≡ number_of im file j → content ≡ bytes_of (block_at s number) → length content ≡ 512 → HasBytes im file j bytes → new ≡ bytes ++ take (min (node.size - 512 * j) 512) content → HasBytes im file (j + 1) new
  bytes_more j number bytes content new lt number_is content_is' long h e =
      let len = min (node.size - 512 * j) 512 in
      let few : len ≤ length content = omega arith in
      let part = length-take-le len content few in
      let before : 512 * j < node.size = omega (arith, count_is) in
      let old : length bytes ≡ 512 * j = omega (arith, h.many, size_is) in
      let all : length new ≡ 512 * j + len = ap length e ∙ length-append bytes (take len content) ∙ omega arith in
      record {
        many = omega (arith, all, size_is);
        each = λ k l. ap (λ xs. get_or xs k 0) e ∙ by k (omega (arith, all)) old (cases_lt k (512 * j));
      }
    where
      by : (k : ℕ) → k < 512 * j + min (node.size - 512 * j) 512 → length bytes ≡ 512 * j → (k < 512 * j) ⊎ (512 * j ≤ k) → get_or (bytes ++ take (min (node.size - 512 * j) 512) content) k 0 ≡ byte_at_place im file k
      by k l old (inl below) = get_or_append_left bytes (take (min (node.size - 512 * j) 512) content) 0 k (omega arith) ∙ h.each k (omega arith)
      by k l old (inr above) =
          let place : k - length bytes ≡ k - 512 * j = omega arith in
          let quotient : k / 512 ≡ j = omega arith in
          get_or-append_right bytes (take (min (node.size - 512 * j) 512) content) (length bytes) k 0 refl (omega arith)
          ∙ get_or-take (min (node.size - 512 * j) 512) content (k - length bytes) 0 (omega arith)
          ∙ ap (λ i. get_or content i 0) place
          ∙ ap (λ xs. get_or xs (k - 512 * j) 0) (content_is' ∙ ap (λ b. bytes_of (block_at s b)) number_is)
          ∙ sym (byte_is j k lt quotient)

  pub bytes_all : (count : ℕ) (bytes : List ℕ) → blocks_needed node ≤ count → HasBytes im file count bytes → bytes ≡ map (byte_at_place im file) (range_with_len 0 (node_of im file).size)
  bytes_all count bytes le h =
      let long : length bytes ≡ (node_of im file).size = omega (arith, h.many, size_is, count_is) in
      fill_by_all (byte_at_place im file) bytes (node_of im file).size 0 long (λ k lt. h.each k (omega arith))

  -- the number that is read there
  pub number_at : (j : ℕ) → j < blocks_needed node → slice_index (take (blocks_needed node) node.blocks) j ≡ number_of im file j
  number_at j lt = get_or-take (blocks_needed node) node.blocks j 0 lt ∙ ap (λ (n : Node). slice_index n.blocks j) (sym the_node)

-- ---- how long a file is

file_short : (kind : Kind) (size : ℕ) (byte : ℕ → ℕ) (link : ℕ → Link) (c : Content) → size ≤ most_items kind → content_of (held kind size byte link) ≡ Some c → length (changed.bytes_of (Some c)) ≤ 6144
file_short Free size byte link c few h = absurd (none_some h)
file_short Dir size byte link c few h = subst (λ x. length (changed.bytes_of (Some x)) ≤ 6144) (some_is h) (omega arith)
file_short File size byte link c few h = subst (λ x. length (changed.bytes_of (Some x)) ≤ 6144) (some_is h) (omega (arith, few, length-map-range_with_len byte 0 size))

longest : (version n : ℕ) → n ≤ 6144 → n ≤ longest_file version
longest version n le = by (eqb version 1)
  where
    by : (b : Bool) → n ≤ cond b 6144 71680
    by true = le
    by false = omega (arith, le)

-- A file that a node shows isn't longer than a file may be.
pub shows_short : (sizes : Numbers) (s : State) → HasNodes sizes s → (number : ℕ) → number < sizes.nodes → (c : Content) → content_of (graph_of (image_of sizes s) number) ≡ Some c → (limits : Limits) → limits ≡ limits_of sizes → length (changed.bytes_of (Some c)) ≤ longest_file limits.version
shows_short sizes s nodes number lt c h limits is =
    let im = image_of sizes s in
    longest limits.version (length (changed.bytes_of (Some c))) (file_short (node_of im number).kind (node_of im number).size (byte_at_place im number) (link_or_none im number) c (nodes.each number lt).few h)
