-- The steps that remove an entry together remove it.
use Rattle.std.proofs.Common.{◌≡◌, inl, inr, ℕ, ◌+◌, ◌-◌, ◌/◌, ◌%◌, ◌<◌, ◌≤◌, true, ◌&&◌, ltb, leb, Some, refl, sym, ap, ◌∙◌, subst, arith, slice_index}
use Rattle.std.specs.Option.{unwrap_or}
use Rattle.zj_block.specs.Sizes.{Numbers, first_data}
use Rattle.zj_layout.specs.declared.fields.Kind.TheVariants.{Dir}
use Rattle.zj_layout.specs.declared.fields.Node.{Node}
use Rattle.zj_layout.specs.declared.fields.Link.{Link}
use Rattle.zj_layout.specs.Node.{link_in, per_block}
use Rattle.zj_layout.specs.Image.{Image, is_data, map_block, free_node, node_of, number_of, item_block, entry_at, count_of}
use Rattle.zj_layout.specs.Stored.{IsStored}
use Rattle.zj_changes.specs.Tables.{SetsLink}
use Rattle.zj_dirs.specs.Changing.{CutsLast, FillsHole, IsCutBlock, IsRemoveBlock, of_node, map_of_last, Removes}
use Rattle.zj_dirs.proofs.Looks.{dir_within}

module _ (sizes : Numbers) (old : Image) (s : IsStored sizes old) (dir : ℕ) (node : Node) (is : old.node dir ≡ Some node) (is_dir : node.kind ≡ Dir) where
  the_node : node_of old dir ≡ node
  the_node = ap (λ o. unwrap_or o free_node) is

  directory : (node_of old dir).kind ≡ Dir
  directory = ap (λ (n : Node). n.kind) the_node ∙ is_dir

  pub within : dir < sizes.nodes
  within = dir_within sizes old s dir directory

  count : count_of old dir ≡ (node.size + 15) / 16
  count = ap (λ k. ((node_of old dir).size + (per_block k - 1)) / per_block k) directory ∙ ap (λ (n : Node). (n.size + 15) / 16) the_node

  number_is : (j : ℕ) → number_of old dir j ≡ slice_index node.blocks j
  number_is j = ap (λ (n : Node). slice_index n.blocks j) the_node

  pub item_is : (place : ℕ) → item_block old dir place ≡ slice_index node.blocks (place / 16)
  item_is place = ap (λ (n : Node). slice_index n.blocks (place / per_block n.kind)) the_node ∙ ap (λ k. slice_index node.blocks (place / per_block k)) is_dir

  -- the block of an entry is one for data
  pub block_within : (place : ℕ) → place < node.size → (first_data sizes ≤ slice_index node.blocks (place / 16)) × (slice_index node.blocks (place / 16) < sizes.blocks)
  block_within place lt =
      let range = (s.placed dir within).in_data (place / 16) (omega (arith, count)) in
      (subst (λ b. first_data sizes ≤ b) (number_is (place / 16)) range.0, subst (λ b. b < sizes.blocks) (number_is (place / 16)) range.1)

  pub block_data : (place : ℕ) → place < node.size → is_data sizes (slice_index node.blocks (place / 16)) ≡ true
  block_data place lt = let range = block_within place lt in both (first_data sizes) (slice_index node.blocks (place / 16)) sizes.blocks range.0 range.1
    where
      both : (a b c : ℕ) → a ≤ b → b < c → (leb a b && ltb b c) ≡ true
      both a b c h k = grind arith

  -- the last entry, put at the place of another, fills the hole
  pub filled : (mid : Image) (place last : ℕ) (link : Link) → entry_at old dir last ≡ Some link → SetsLink sizes old mid (slice_index node.blocks (place / 16)) (place % 16) link → FillsHole old mid dir place last
  filled mid place last link at a = record {
    filled = λ lt. ap (λ b. link_in (mid.content b) (place % 16)) (item_is place) ∙ a.here ∙ sym at;
    rest = λ j ne. ap (λ b. link_in (mid.content b) j) (item_is place) ∙ a.rest j ne ∙ ap (λ b. link_in (old.content b) j) (sym (item_is place));
    content = λ b ne. a.others b (λ e. ne (e ∙ sym (item_is place)));
    node = a.node;
    map = a.map;
  }

  -- where the entry is the last one, there is no hole
  pub no_hole : (place last : ℕ) → place ≡ last → FillsHole old old dir place last
  no_hole place last e = record {
    filled = λ lt. absurd (omega arith);
    rest = λ j ne. refl;
    content = λ b ne. refl;
    node = λ i. refl;
    map = λ b. refl;
  }

  pub removed : (mid new : Image) (place : ℕ) → place < node.size → FillsHole old mid dir place (node.size - 1) → CutsLast mid new dir (node.size - 1) node → Removes sizes old new dir place
  removed mid new place lt a b = record {
    size = node.size - 1;
    blocks = b.blocks;
    is = record {
      within = within;
      directory = directory;
      size_is = ap (λ (n : Node). n.size) the_node ∙ omega arith;
      hole = omega arith;
      node = b.here;
      others = λ i ne. b.others i ne ∙ a.node i;
      same_blocks = λ j less. b.same_blocks j less ∙ sym (number_is j);
      content = λ k ne. b.content k ∙ a.content k ne;
      filled = λ less. ap (λ c. link_in c (place % 16)) (b.content _) ∙ a.filled less;
      rest = λ j less ne. ap (λ c. link_in c j) (b.content _) ∙ a.rest j ne;
      freed = λ alone. ap new.map (number_is ((node.size - 1) / 16)) ∙ b.freed alone;
      map = λ k ne. b.map k (λ alone e. ne alone (e ∙ sym (number_is ((node.size - 1) / 16)))) ∙ a.map k;
    };
    named_no_longer = b.named_no_longer;
  }

  pub size_of : node.size ≡ (node_of old dir).size
  size_of = ap (λ (n : Node). n.size) (sym the_node)

  -- a block that cutting the last entry off needs is one that the removal needs
  pub cut_due : (place block : ℕ) → 0 < node.size → IsCutBlock sizes dir (node.size - 1) node block → IsRemoveBlock sizes old dir place block
  cut_due place block some (inl e) = of_node e
  cut_due place block some (inr e) = map_of_last (node.size - 1) (omega (arith, size_of)) e.0 (e.1 ∙ ap map_block (sym (item_is (node.size - 1))))
