-- A new node, and that no node stands past the last.
use Rattle.std.proofs.Common.{◌≡◌, ℕ, ◌%◌, ◌≤◌, false, cond, ltb, [], replicate, slice_index_or, None, refl, ap, arith}
use Rattle.zj_block.specs.Block.{zero_content}
use Rattle.zj_block.specs.Sizes.{Numbers}
use Rattle.zj_layout.specs.declared.fields.Kind.{Kind}
use Rattle.zj_layout.specs.declared.fields.Kind.TheVariants.{Free, File, Dir}
use Rattle.zj_layout.specs.declared.fields.Node.{Node}
use Rattle.zj_layout.specs.declared.fields.Link.{Link}
use Rattle.zj_layout.specs.Graph.{Holding}
use Rattle.zj_layout.specs.Node.{node_in}
use Rattle.zj_layout.specs.Image.{State, image_of, node_block, held}

-- a new node has no items and names no block
abbrev pub fresh : Kind → Node
fresh kind = record { kind = kind; size = 0; blocks = replicate 12 0 }

abbrev pub empty_of : Kind → Holding
empty_of kind = held kind 0 (λ k. 0) (λ k. record { node = 0; name = [] })

pub empty_held : (kind : Kind) (byte : ℕ → ℕ) (link : ℕ → Link) → held kind 0 byte link ≡ empty_of kind
empty_held Free byte link = refl
empty_held File byte link = refl
empty_held Dir byte link = refl

-- no node stands past the last
pub past_node : (sizes : Numbers) (s : State) (i : ℕ) → sizes.nodes ≤ i → (image_of sizes s).node i ≡ None
past_node sizes s i le = ap (λ b. cond b (node_in (slice_index_or s (node_block sizes i) zero_content) (i % 8)) None) (no_lt i sizes.nodes le)
  where
    no_lt : (i k : ℕ) → k ≤ i → ltb i k ≡ false
    no_lt i k le = grind arith
