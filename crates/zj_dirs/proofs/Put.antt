-- One more change of a block, in a state with changes put in.
use Rattle.std.proofs.Common.{◌≡◌, ◌≢◌, ℕ, ◌<◌, true, false, cond, List, length, Some, refl, sym, ap, ◌∙◌, arith}
use Rattle.std.specs.declared.cmp.Ordering.{Ordering}
use Rattle.std.specs.declared.cmp.Ordering.TheVariants.{Less, Equal, Greater}
use Rattle.std.specs.Option.{unwrap_or}
use Rattle.std.specs.Ordering.{eq_by_cmp, is_eq, nat_cmp}
use Rattle.std.specs.Cmp.{nat_cmp_total}
use Rattle.std.specs.FinMap as map_of
use Rattle.std.specs.FinMap.{get-insert, nat_cmp-IsAntisymmetric}
use Rattle.std.proofs.lemmas.Cmp.{tied_itself}
use Rattle.std.proofs.lemmas.List.FromFn.{get_or-map-range_with_len, length-map-range_with_len}
use Rattle.zj_block.specs.Block.{zero_content}
use Rattle.zj_block.specs.Sizes.{Numbers}
use Rattle.zj_layout.specs.Image.{State, block_at}
use Rattle.zj_layout.specs.Shows.{Changes, put_blocks}
use Rattle.zj_dirs.proofs.Tables.{Apart}

-- a block of a state with changes
pub block_put : (s : State) (w : Changes) (b : ℕ) → b < length s → block_at (put_blocks s w) b ≡ unwrap_or (map_of.get w b) (block_at s b)
unfolding put_blocks
block_put s w b lt = get_or-map-range_with_len (λ k. unwrap_or (map_of.get w k) (block_at s k)) 0 (length s) b b zero_content lt (omega arith)

pub length_put : (s : State) (w : Changes) → length (put_blocks s w) ≡ length s
unfolding put_blocks
length_put s w = length-map-range_with_len (λ k. unwrap_or (map_of.get w k) (block_at s k)) 0 (length s)

pub same_key : (a b : ℕ) → a ≡ b → eq_by_cmp nat_cmp a b ≡ true
same_key a b e = ap (λ x. eq_by_cmp nat_cmp a x) (sym e) ∙ ap is_eq (tied_itself nat_cmp_total a)

pub other_key : (a b : ℕ) → a ≢ b → eq_by_cmp nat_cmp a b ≡ false
other_key a b ne = by (nat_cmp a b) refl
  where
    by : (r : Ordering) → nat_cmp a b ≡ r → is_eq r ≡ false
    by Less e = refl
    by Equal e = absurd (ne (nat_cmp-IsAntisymmetric a b e))
    by Greater e = refl

-- with one more change, that block alone is another
pub one_more : (sizes : Numbers) (s : State) (w : Changes) (b : ℕ) (c : List ℕ) → length s ≡ sizes.blocks → b < sizes.blocks → Apart sizes (put_blocks s w) (put_blocks s (map_of.insert w b c)) b c
one_more sizes s w b c len lt = record {
  here = block_put s (map_of.insert w b c) b (omega arith) ∙ ap (λ o. unwrap_or o (block_at s b)) (get-insert nat_cmp_total w b c b ∙ ap (λ x. cond x (Some c) (map_of.get w b)) (same_key b b refl));
  others = λ k below ne.
      block_put s (map_of.insert w b c) k (omega arith) ∙ ap (λ o. unwrap_or o (block_at s k)) (get-insert nat_cmp_total w b c k ∙ ap (λ x. cond x (Some c) (map_of.get w k)) (other_key k b ne))
      ∙ sym (block_put s w k (omega arith));
}

-- keys that tie are one
pub same_number : (a b : ℕ) → eq_by_cmp nat_cmp a b ≡ true → a ≡ b
same_number a b h = by (nat_cmp a b) refl h
  where
    by : (r : Ordering) → nat_cmp a b ≡ r → is_eq r ≡ true → a ≡ b
    by Less e q = absurd cc
    by Equal e q = nat_cmp-IsAntisymmetric a b e
    by Greater e q = absurd cc
