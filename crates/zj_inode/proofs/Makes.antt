-- A free node that is taken, and its entry.
use Rattle.std.proofs.Common.{◌≡◌, ◌≢◌, ℕ, suc, ◌/◌, ◌%◌, ◌<◌, Bool, true, false, cond, List, [], ◌∷◌, length, Option, Some, None, refl, sym, ap, ◌∙◌, subst, arith, slice_index}
use Rattle.std.specs.FinMap as map_of
use Rattle.std.specs.FinMap.{get-entries, find}
use Rattle.std.specs.Ordering.{nat_cmp, eq_by_cmp}
use Rattle.std.specs.Option.{unwrap_or}
use Rattle.std.proofs.lemmas.List.{get_or_default}
use Rattle.zj_block.specs.Block.{IsContent, zero_content}
use Rattle.zj_block.specs.Lists.{Entries, AreContents}
use Rattle.zj_block.specs.Sizes.{Numbers}
use Rattle.zj_layout.specs.declared.fields.Kind.{Kind}
use Rattle.zj_layout.specs.declared.fields.Kind.TheVariants.{Free, Dir}
use Rattle.zj_layout.specs.declared.fields.Node.{Node}
use Rattle.zj_layout.specs.Image.{State, Image, block_at, free_node, node_of, node_block}
use Rattle.zj_layout.specs.Stored.{IsStored}
use Rattle.zj_layout.specs.Shows.{IsState, Changes, put_blocks}
use Rattle.zj_layout.proofs.Changed.{still_stored}
use Rattle.zj_layout.proofs.Follow.{some_is}
use Rattle.zj_changes.specs.Holds.{MakesEntry}
use Rattle.zj_changes.specs.Entry.{Appends}
use Rattle.zj_changes.proofs.Made.{took}
use Rattle.zj_dirs.specs.Changing.{NeedsBlock, IsPlaceBlock, of_node, of_last, of_map, of_new, map_of_new}
use Rattle.zj_dirs.specs.Looking.{IsLowestBlock, IsLowestNode, IsNodeSearch}
use Rattle.zj_dirs.proofs.Put.{block_put, length_put}
use Rattle.zj_inode.specs.Making.{TakesNode}

-- the block of the lowest free node is the last one that the search looks at
pub node_search : (sizes : Numbers) (image : Image) (number block : ℕ) → sizes.nodes % 8 ≡ 0 → IsLowestNode sizes image (Some number) → block ≡ node_block sizes number → IsNodeSearch sizes image block
node_search sizes image number block whole lowest e = (number / 8, omega (arith, whole, lowest.0), e, λ lower lt. lowest.2 lower (omega (arith, lt)))

module _ (sizes : Numbers) (old mid : Image) (s : IsStored sizes old) (kind : Kind) (number : ℕ) (some_nodes : 0 < sizes.nodes) (t : TakesNode sizes old mid kind number) where
  was_free : (node_of old number).kind ≡ Free
  was_free = t.lowest.1

  not_root : number ≢ 0
  not_root e = clash (sym ((s.placed 0 some_nodes).root refl) ∙ ap (λ i. (node_of old i).kind) (sym e) ∙ was_free)
    where
      clash : Dir ≡ Free → ⊥
      clash z = cc

  pub taken_stored : IsStored sizes mid
  taken_stored = still_stored sizes old mid s number (took sizes old mid s number kind t.lowest.0 not_root was_free t.takes)

  module _ (dir : ℕ) (is_dir : (node_of old dir).kind ≡ Dir) where
    apart : dir ≢ number
    apart e = clash (sym is_dir ∙ ap (λ i. (node_of old i).kind) e ∙ was_free)
      where
        clash : Dir ≡ Free → ⊥
        clash z = cc

    pub dir_same : node_of mid dir ≡ node_of old dir
    dir_same = ap (λ o. unwrap_or o free_node) (t.takes.others dir apart)

    pub dir_still : (node_of mid dir).kind ≡ Dir
    dir_still = ap (λ (n : Node). n.kind) dir_same ∙ is_dir

    pub filled_same : NeedsBlock mid dir → NeedsBlock old dir
    filled_same h = subst (λ (n : Node). (n.size < 192) × (n.size % 16 ≡ 0)) dir_same h

    pub lowest_same : (o : Option ℕ) → IsLowestBlock sizes mid o → IsLowestBlock sizes old o
    lowest_same (Some b) h = (h.0, sym (t.takes.map b) ∙ h.1, λ lower lt z. h.2 lower lt (t.takes.map lower ∙ z))
    lowest_same None h = λ b lt z. h b lt (t.takes.map b ∙ z)

    -- a block that the entry needs then is one that it needed before
    pub place_same : (block : ℕ) → IsPlaceBlock sizes mid dir block → IsPlaceBlock sizes old dir block
    place_same block (of_node e) = of_node e
    place_same block (of_last room e) = of_last (subst (λ (n : Node). (n.size < 192) × (n.size % 16 ≢ 0)) dir_same room) (e ∙ ap (λ (n : Node). slice_index n.blocks (n.size / 16)) dir_same)
    place_same block (of_map filled h) = of_map (filled_same filled) (h.0, λ lower lt z. h.1 lower lt (t.takes.map lower ∙ z))
    place_same block (of_new filled h) = of_new (filled_same filled) (lowest_same (Some block) h)
    place_same block (map_of_new x filled h e) = map_of_new x (filled_same filled) (lowest_same (Some x) h) e

  pub makes_entry : (new : Image) (dir : ℕ) (name : List ℕ) → Appends sizes mid new dir (record { node = number; name = name }) → MakesEntry sizes old new dir (record { node = number; name = name }) kind
  makes_entry new dir name a = record { within = t.lowest.0; was_free = was_free; between = mid; takes = t.takes; appends = a }

-- ---- new contents leave a state one

found_content : (es : Entries) (b : ℕ) (c : List ℕ) → AreContents es → find nat_cmp b es ≡ Some c → IsContent c
found_content [] b c h e = absurd cc
found_content (x ∷ es) b c h e = by (found_content es b c (λ k d lt. h (suc k) d (omega arith))) (eq_by_cmp nat_cmp b x.0) e
  where
    by : (find nat_cmp b es ≡ Some c → IsContent c) → (t : Bool) → cond t (Some x.1) (find nat_cmp b es) ≡ Some c → IsContent c
    by rest true q = subst IsContent (some_is q) (h 0 x (omega arith))
    by rest false q = rest q

pub shape_after : (sizes : Numbers) (s : State) (w : Changes) → IsState sizes s → AreContents (map_of.entries w) → IsState sizes (put_blocks s w)
shape_after sizes s w shape contents = record {
  limits = shape.limits;
  many = length_put s w ∙ shape.many;
  contents = λ k d lt. let below : k < length s = omega (arith, length_put s w) in subst IsContent (sym (get_or_default (put_blocks s w) k d zero_content lt ∙ block_put s w k below)) (by k below (map_of.get w k) refl);
}
  where
    by : (k : ℕ) → k < length s → (o : Option (List ℕ)) → map_of.get w k ≡ o → IsContent (unwrap_or o (block_at s k))
    by k below None e = shape.contents k zero_content below
    by k below (Some c) e = found_content (map_of.entries w) k c contents (sym (get-entries w k) ∙ e)
