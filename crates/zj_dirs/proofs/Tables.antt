-- One new block of a state changes one table of its image.
use Rattle.std.proofs.Common.{◌≡◌, ◌≢◌, ℕ, ◌%◌, ◌<◌, ◌≤◌, Bool, true, false, cond, ◌&&◌, ltb, leb, lt-ltb, ltb-true, List, [], Some, None, refl, sym, ap, ◌∙◌, arith}
use native.Mathlib.Decide.{ℕ_discrete, dec_lt}
use Rattle.zj_block.specs.Sizes.{Numbers, first_data, map_blocks, IsInLimits}
use Rattle.zj_layout.specs.declared.fields.Node.{Node}
use Rattle.zj_layout.specs.Node.{node_in, byte_in}
use Rattle.zj_layout.specs.Image.{State, block_at, node_block, map_block, is_data, image_of}
use Rattle.zj_changes.specs.Tables.{SetsNode, SetsContent, SetsMap}

-- two states that have the same blocks but for one
pub record Apart (sizes : Numbers) (s s' : State) (block : ℕ) (content : List ℕ) : Type 0 where
  pub here : block_at s' block ≡ content
  pub others : (other : ℕ) → other < sizes.blocks → other ≢ block → block_at s' other ≡ block_at s other

leb-le : (a b : ℕ) → leb a b ≡ true → a ≤ b
leb-le a b h = grind arith

module _ (sizes : Numbers) (limits : IsInLimits sizes) (s s' : State) (block : ℕ) (c : List ℕ) (a : Apart sizes s s' block c) where
  in_nodes : (k : ℕ) → k < sizes.nodes → node_block sizes k < first_data sizes
  in_nodes k lt = omega (arith, limits.whole_nodes)

  in_map : (b : ℕ) → b < sizes.blocks → map_block b < map_blocks sizes
  in_map b lt = omega arith

  data_above : (b : ℕ) → is_data sizes b ≡ true → (first_data sizes ≤ b) × (b < sizes.blocks)
  data_above b h = by (leb (first_data sizes) b) refl (ltb b sizes.blocks) refl h
    where
      by : (x : Bool) → leb (first_data sizes) b ≡ x → (y : Bool) → ltb b sizes.blocks ≡ y → (x && y) ≡ true → (first_data sizes ≤ b) × (b < sizes.blocks)
      by true p true q h = (leb-le _ _ p, ltb-true _ _ q)
      by true p false q h = absurd cc
      by false p y q h = absurd cc

  same_node : (k : ℕ) → node_block sizes k ≢ block → (image_of sizes s').node k ≡ (image_of sizes s).node k
  same_node k ne = by (ltb k sizes.nodes) refl
    where
      by : (x : Bool) → ltb k sizes.nodes ≡ x → cond x (node_in (block_at s' (node_block sizes k)) (k % 8)) None ≡ cond x (node_in (block_at s (node_block sizes k)) (k % 8)) None
      by true e = ap (λ b. node_in b (k % 8)) (a.others (node_block sizes k) (omega (arith, in_nodes k (ltb-true k sizes.nodes e), limits.some_data)) ne)
      by false e = refl

  same_content : (b : ℕ) → (is_data sizes b ≡ true → b ≢ block) → (image_of sizes s').content b ≡ (image_of sizes s).content b
  same_content b ne = by (is_data sizes b) refl
    where
      by : (x : Bool) → is_data sizes b ≡ x → cond x (block_at s' b) [] ≡ cond x (block_at s b) []
      by true e = a.others b (data_above b e).1 (ne e)
      by false e = refl

  same_map : (b : ℕ) → (b < sizes.blocks → map_block b ≢ block) → (image_of sizes s').map b ≡ (image_of sizes s).map b
  same_map b ne = by (ltb b sizes.blocks) refl
    where
      by : (x : Bool) → ltb b sizes.blocks ≡ x → cond x (byte_in (block_at s' (map_block b)) (b % 512)) 0 ≡ cond x (byte_in (block_at s (map_block b)) (b % 512)) 0
      by true e =
          let lt = ltb-true b sizes.blocks e in
          ap (λ x. byte_in x (b % 512)) (a.others (map_block b) (omega (arith, in_map b lt, limits.some_data)) (ne lt))
      by false e = refl

  -- a block of nodes in which one node is new
  pub sets_node : (i : ℕ) (node : Node) → i < sizes.nodes → block ≡ node_block sizes i → node_in c (i % 8) ≡ Some node → ((j : ℕ) → j < 8 → j ≢ i % 8 → node_in c j ≡ node_in (block_at s block) j) → SetsNode sizes (image_of sizes s) (image_of sizes s') i node
  sets_node i node lt at is rest = record {
    here = ap (λ x. cond x (node_in (block_at s' (node_block sizes i)) (i % 8)) None) (lt-ltb i sizes.nodes lt) ∙ ap (λ b. node_in (block_at s' b) (i % 8)) (sym at) ∙ ap (λ b. node_in b (i % 8)) a.here ∙ is;
    others = λ k ne. other k ne (ℕ_discrete (node_block sizes k) block);
    content = λ b. same_content b (λ h e. omega (arith, (data_above b h).0, in_nodes i lt, e, at));
    map = λ b. same_map b (λ l e. omega (arith, in_map b l, e, at));
  }
    where
      other : (k : ℕ) → k ≢ i → Dec (node_block sizes k ≡ block) → (image_of sizes s').node k ≡ (image_of sizes s).node k
      other k ne (no apart) = same_node k apart
      other k ne (yes same) =
          let slot : k % 8 ≢ i % 8 = λ e. ne (omega (arith, e, same, at)) in
          let e : node_in (block_at s' (node_block sizes k)) (k % 8) ≡ node_in (block_at s (node_block sizes k)) (k % 8) =
          ap (λ b. node_in (block_at s' b) (k % 8)) same ∙ ap (λ b. node_in b (k % 8)) a.here ∙ rest (k % 8) (omega arith) slot ∙ ap (λ b. node_in (block_at s b) (k % 8)) (sym same) in
          ap (λ x. cond (ltb k sizes.nodes) x None) e

  -- a new data block
  pub sets_content : is_data sizes block ≡ true → SetsContent sizes (image_of sizes s) (image_of sizes s') block c
  sets_content is = record {
    here = ap (λ x. cond x (block_at s' block) []) is ∙ a.here;
    others = λ b ne. same_content b (λ h. ne);
    node = λ k. by k (dec_lt k sizes.nodes);
    map = λ b. same_map b (λ l e. omega (arith, in_map b l, e, (data_above block is).0));
  }
    where
      past : (k : ℕ) → sizes.nodes ≤ k → ltb k sizes.nodes ≡ false
      past k le = no_lt k sizes.nodes le
        where
          no_lt : (i k : ℕ) → k ≤ i → ltb i k ≡ false
          no_lt i k le = grind arith

      by : (k : ℕ) → Dec (k < sizes.nodes) → (image_of sizes s').node k ≡ (image_of sizes s).node k
      by k (yes lt) = same_node k (λ e. omega (arith, in_nodes k lt, e, (data_above block is).0))
      by k (no h) =
          let e = past k (omega arith) in
          ap (λ x. cond x (node_in (block_at s' (node_block sizes k)) (k % 8)) None) e ∙ sym (ap (λ x. cond x (node_in (block_at s (node_block sizes k)) (k % 8)) None) e)

  -- a block of the map in which one byte is new
  pub sets_map : (b value : ℕ) → b < sizes.blocks → block ≡ map_block b → byte_in c (b % 512) ≡ value → ((j : ℕ) → j < 512 → j ≢ b % 512 → byte_in c j ≡ byte_in (block_at s block) j) → SetsMap sizes (image_of sizes s) (image_of sizes s') b value
  sets_map b value lt at is rest = record {
    here = ap (λ x. cond x (byte_in (block_at s' (map_block b)) (b % 512)) 0) (lt-ltb b sizes.blocks lt) ∙ ap (λ k. byte_in (block_at s' k) (b % 512)) (sym at) ∙ ap (λ x. byte_in x (b % 512)) a.here ∙ is;
    others = λ k ne. other k ne (ℕ_discrete (map_block k) block);
    node = λ k. same_node k (λ e. omega (arith, in_map b lt, e, at));
    content = λ k. same_content k (λ h e. omega (arith, (data_above k h).0, in_map b lt, e, at));
  }
    where
      other : (k : ℕ) → k ≢ b → Dec (map_block k ≡ block) → (image_of sizes s').map k ≡ (image_of sizes s).map k
      other k ne (no apart) = same_map k (λ l. apart)
      other k ne (yes same) =
          let slot : k % 512 ≢ b % 512 = λ e. ne (omega (arith, e, same, at)) in
          let e : byte_in (block_at s' (map_block k)) (k % 512) ≡ byte_in (block_at s (map_block k)) (k % 512) =
          ap (λ x. byte_in (block_at s' x) (k % 512)) same ∙ ap (λ x. byte_in x (k % 512)) a.here ∙ rest (k % 512) (omega arith) slot ∙ ap (λ x. byte_in (block_at s x) (k % 512)) (sym same) in
          ap (λ x. cond (ltb k sizes.blocks) x 0) e
