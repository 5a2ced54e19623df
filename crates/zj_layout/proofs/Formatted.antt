-- The blocks of a new image show the root alone.
use Rattle.std.proofs.Common.{◌≡◌, ◌≢◌, ◌⊎◌, inl, inr, ℕ, zero, suc, ◌+◌, ◌*◌, ◌/◌, ◌%◌, ◌<◌, ◌≤◌, false, ◌||◌, cond, ltb, leb, lt-ltb, Some, None, IsSome, refl, sym, ap, ◌∙◌, subst, arith}
use Rattle.std.specs.Option.{unwrap_or}
use mathlib.Core.Path.{fun_ext}
use native.Mathlib.Decide.{ℕ_discrete}
use Rattle.zj_block.specs.Block.{u32_at, zero_content}
use Rattle.zj_block.specs.Sizes.{Numbers, IsInLimits, first_data, map_blocks}
use Rattle.zj_block.proofs.Views.{u32_at-zero}
use Rattle.zj_tree.specs.Tree.{root_alone}
use Rattle.zj_layout.specs.declared.fields.Kind.{Kind}
use Rattle.zj_layout.specs.declared.fields.Kind.TheVariants.{Free, Dir}
use Rattle.zj_layout.specs.declared.fields.Node.{Node}
use Rattle.zj_layout.specs.Graph.{Nothing, Describes, IsRooted}
use Rattle.zj_layout.specs.Node.{node_in, byte_in, blocks_needed, most_items}
use Rattle.zj_layout.specs.Image.{State, Image, block_at, image_of, node_block, map_block, free_node, node_of, count_of, byte_at_place, link_or_none, held, graph_of, is_named}
use Rattle.zj_layout.specs.Rules.{HasPlace}
use Rattle.zj_layout.specs.Stored.{IsStored}
use Rattle.zj_layout.specs.Shows.{IsState, Shows}
use Rattle.zj_layout.specs.Format.{IsMadeMap, IsMadeRoot, made_byte}
use Rattle.zj_layout.proofs.Changed.{not_true, named_from, none_holds}
use Rattle.zj_layout.proofs.Sound.{sound_from}
use Rattle.zj_layout.proofs.Fresh.{fresh, empty_of, empty_held, past_node}
use Rattle.zj_layout.proofs.Kept.{node_here, same_map}
use Rattle.zj_layout.proofs.Root.{root_graph, root_rooted, root_describes}

-- a place of a block of zeros has a free node
pub zero_node : (j : ℕ) → node_in zero_content j ≡ Some (fresh Free)
zero_node j = node_here zero_content j (fresh Free) refl (u32_at-zero (64 * j)) (u32_at-zero (64 * j + 4)) (same_map (λ k. u32_at zero_content (64 * j + 8 + 4 * k)) (λ k. 0) 12 (λ k lt. u32_at-zero (64 * j + 8 + 4 * k))) (u32_at-zero (64 * j + 56)) (u32_at-zero (64 * j + 60))

abbrev kind_made : ℕ → Kind
kind_made zero = Dir
kind_made (suc n) = Free

no_blocks : (n : ℕ) → blocks_needed (fresh (kind_made n)) ≡ 0
no_blocks zero = refl
no_blocks (suc n) = refl

module _ (sizes : Numbers) (s : State) (shape : IsState sizes s)
    (maps : (k : ℕ) → k < map_blocks sizes → IsMadeMap sizes k (block_at s k))
    (root : IsMadeRoot (block_at s (map_blocks sizes)))
    (others : (k : ℕ) → map_blocks sizes < k → block_at s k ≡ zero_content) where
  abbrev im : Image
  im = image_of sizes s

  limits : IsInLimits sizes
  limits = shape.limits

  past : (n : ℕ) → sizes.nodes ≤ n → im.node n ≡ None
  past n le = past_node sizes s n le

  in_block : (n : ℕ) → Dec (n / 8 ≡ 0) → node_in (block_at s (node_block sizes n)) (n % 8) ≡ Some (fresh (kind_made n))
  in_block n (yes first) =
      let e : node_block sizes n ≡ map_blocks sizes = omega arith in
      ap (λ b. node_in (block_at s b) (n % 8)) e ∙ by n first
    where
      by : (n : ℕ) → n / 8 ≡ 0 → node_in (block_at s (map_blocks sizes)) (n % 8) ≡ Some (fresh (kind_made n))
      by zero first = root.root
      by (suc n) first = root.others (suc n % 8) (omega arith) ∙ zero_node (suc n % 8)
  in_block n (no later) =
      ap (λ c. node_in c (n % 8)) (others (node_block sizes n) (omega arith)) ∙ zero_node (n % 8) ∙ by n later
    where
      by : (n : ℕ) → n / 8 ≢ 0 → Some (fresh Free) ≡ Some (fresh (kind_made n))
      by zero later = absurd (later (omega arith))
      by (suc n) later = refl

  node_is : (n : ℕ) → n < sizes.nodes → im.node n ≡ Some (fresh (kind_made n))
  node_is n lt = ap (λ x. cond x (node_in (block_at s (node_block sizes n)) (n % 8)) None) (lt-ltb n sizes.nodes lt) ∙ in_block n (ℕ_discrete (n / 8) 0)

  the_node : (n : ℕ) → n < sizes.nodes → node_of im n ≡ fresh (kind_made n)
  the_node n lt = ap (λ o. unwrap_or o free_node) (node_is n lt)

  no_count : (n : ℕ) → n < sizes.nodes → count_of im n ≡ 0
  no_count n lt = ap blocks_needed (the_node n lt) ∙ no_blocks n

  cases : (n : ℕ) → (n < sizes.nodes) ⊎ (sizes.nodes ≤ n)
  cases n = grind arith

  none_named : (n j : ℕ) → j < count_of im n → ⊥
  none_named n j lt = by (cases n)
    where
      by : (n < sizes.nodes) ⊎ (sizes.nodes ≤ n) → ⊥
      by (inl below) = omega (arith, no_count n below)
      by (inr above) = omega (arith, ap (λ o. blocks_needed (unwrap_or o free_node)) (past n above))

  no_place : (dir place : ℕ) → HasPlace im dir place → ⊥
  no_place dir place h = by (cases dir)
    where
      by : (dir < sizes.nodes) ⊎ (sizes.nodes ≤ dir) → ⊥
      by (inl below) = omega (arith, h.within, ap (λ (x : Node). x.size) (the_node dir below))
      by (inr above) = omega (arith, h.within, ap (λ o. (unwrap_or o free_node).size) (past dir above))

  not_named : (b : ℕ) → is_named sizes.nodes im b ≡ false
  not_named b = not_true (is_named sizes.nodes im b) (λ h. let n = named_from sizes.nodes im b h in none_named n.0 n.2.j n.2.within)

  map_is : (b : ℕ) → b < sizes.blocks → im.map b ≡ cond (ltb b (first_data sizes) || is_named sizes.nodes im b) 1 0
  map_is b lt =
      let in_map : map_block b < map_blocks sizes = omega arith in
      let place : 512 * (b / 512) + b % 512 ≡ b = omega arith in
      ap (λ x. cond x (byte_in (block_at s (map_block b)) (b % 512)) 0) (lt-ltb b sizes.blocks lt)
      ∙ (maps (map_block b) in_map).each (b % 512) (omega arith)
      ∙ ap (λ k. cond (made_byte sizes k) 1 0) place
      ∙ (λ t. cond (ltb b (first_data sizes) || above t) 1 0)
    where
      above : leb sizes.blocks b ≡ is_named sizes.nodes im b
      above = no_le sizes.blocks b lt ∙ sym (not_named b)
        where
          no_le : (m n : ℕ) → n < m → leb m n ≡ false
          no_le m n h = grind arith

  stored : IsStored sizes im
  stored = record {
    none = past;
    placed = λ n lt. record {
      some = subst IsSome (sym (node_is n lt)) refl;
      few = subst (λ (x : Node). x.size ≤ most_items x.kind) (sym (the_node n lt)) (omega arith);
      in_data = λ j h. absurd (none_named n j h);
      root = λ z. ap (λ (x : Node). x.kind) (the_node n lt) ∙ ap kind_made z;
    };
    apart = λ n j o k hj hk e. absurd (none_named n j hj);
    entry = λ dir place h. absurd (no_place dir place h);
    map = map_is;
  }

  holds : (n : ℕ) → graph_of im n ≡ root_graph n
  holds n = by (cases n)
    where
      fits : (n : ℕ) → empty_of (kind_made n) ≡ root_graph n
      fits zero = refl
      fits (suc n) = refl

      nothing : (n : ℕ) → 0 < n → Nothing ≡ root_graph n
      nothing zero lt = absurd (omega arith)
      nothing (suc n) lt = refl

      by : (n < sizes.nodes) ⊎ (sizes.nodes ≤ n) → graph_of im n ≡ root_graph n
      by (inl below) = ap (λ (x : Node). held x.kind x.size (byte_at_place im n) (link_or_none im n)) (the_node n below) ∙ empty_held (kind_made n) (byte_at_place im n) (link_or_none im n) ∙ fits n
      by (inr above) = none_holds im n (past n above) ∙ nothing n (omega (arith, limits.least_nodes))

  pub made_shows_root : Shows sizes s root_alone
  made_shows_root =
      let same : graph_of im ≡ root_graph = fun_ext holds in
      record {
        shape = shape;
        sound = sound_from sizes im past stored (subst (IsRooted sizes.nodes) (sym same) (root_rooted sizes.nodes (omega (arith, limits.least_nodes))));
        describes = subst (λ g. Describes g root_alone) (sym same) root_describes;
      }
