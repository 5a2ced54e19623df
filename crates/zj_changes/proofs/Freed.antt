-- A node that is freed, a file that has other bytes, and a directory with one entry more, as changes of what nodes hold.
use Rattle.std.proofs.Common.{◌≡◌, ◌≢◌, ◌⊎◌, inl, inr, ℕ, ◌/◌, ◌%◌, ◌<◌, List, [], ◌∷◌, ◌++◌, map, length, Option, Some, None, refl, sym, ap, ◌∙◌, subst, arith, slice_index, slice_get}
use Rattle.std.specs.List.{range_with_len}
use Rattle.std.proofs.lemmas.Grind.{same_number_lists}
use Rattle.std.proofs.lemmas.List.FromFn.{get_or-map-range_with_len, length-map-range_with_len}
use Rattle.std.proofs.lemmas.Option.{slice_get_within}
use Rattle.zj_block.specs.Sizes.{Numbers}
use Rattle.zj_layout.specs.declared.fields.Kind.TheVariants.{File}
use Rattle.zj_layout.specs.declared.fields.Node.{Node}
use Rattle.zj_layout.specs.declared.fields.Link.{Link}
use Rattle.zj_layout.specs.Graph.{Nothing, Bytes, links_of, content_of, named, step, HasNames}
use Rattle.zj_changes.specs.Dropped.{ChangesBytes}
use Rattle.zj_changes.specs.Steps.{SetsStep, SetsHolding}
use Rattle.zj_layout.specs.Node.{byte_in}
use Rattle.zj_layout.specs.Image.{Image, node_of, link_or_none, byte_at_place, held, graph_of}
use Rattle.zj_layout.specs.Stored.{IsStored}
use Rattle.zj_changes.specs.Entry.{AppendsEntry}
use Rattle.zj_changes.specs.Resized.{Resizes, FreesNode, zero_node, SetsBytes}
use Rattle.zj_layout.proofs.Follow.{some_is, named_none}
use Rattle.zj_layout.proofs.Live.{at_more, at_old}
use Rattle.zj_layout.proofs.Changed.{map_agree, others_hold, over}
use Rattle.zj_changes.proofs.Entry.{holds_more, changes}
use Rattle.zj_changes.proofs.Resized.{new_node, resized}
use Rattle.zj_changes.proofs.Edits.{EditsLinks, edits_step}
use Rattle.zj_changes.proofs.Removed.{dir_content}

-- ---- a node that is freed

module _ (sizes : Numbers) (old new : Image) (s : IsStored sizes old) (number : ℕ) (lt : number < sizes.nodes) (not_root : number ≢ 0) (a : FreesNode old new number) where
  pub freeing : Resizes sizes old new number zero_node
  freeing = record {
    within = lt;
    here = a.here;
    others = a.others;
    few = omega arith;
    root = λ z. absurd (not_root z);
    kept = λ j h less. absurd (omega arith);
    grown = λ j h le. absurd (omega arith);
    grown_apart = λ j k hj hk le le' e. absurd (omega arith);
    entries = λ is place h. absurd (omega arith);
    content = λ b m ne. a.content b;
    taken = λ j h le. absurd (omega arith);
    freed = λ j le h. a.freed j h;
    map = λ b new_ones old_ones. a.map b (λ j h. old_ones j (omega arith) h);
  }

  pub freed_holding : links_of (graph_of old number) ≡ [] → SetsHolding (graph_of old) (graph_of new) number Nothing
  freed_holding empty = record {
    was = empty;
    now = ap (λ n. held n.kind n.size (byte_at_place new number) (link_or_none new number)) (new_node sizes old new s number zero_node freeing);
    leaf = refl;
    others = others_hold sizes old new s number (resized sizes old new s number zero_node freeing);
  }

-- ---- a file that has other bytes

-- the bytes of a file
abbrev pub bytes_in : Image → ℕ → List ℕ
bytes_in image file = map (byte_at_place image file) (range_with_len 0 (node_of image file).size)

pub file_holds : (image : Image) (file : ℕ) → (node_of image file).kind ≡ File → graph_of image file ≡ Bytes (bytes_in image file)
file_holds image file is = ap (λ k. held k (node_of image file).size (byte_at_place image file) (link_or_none image file)) is

listed : (xs : List ℕ) → map (slice_index xs) (range_with_len 0 (length xs)) ≡ xs
listed xs =
    let len = length-map-range_with_len (slice_index xs) 0 (length xs) in
    same_number_lists (map (slice_index xs) (range_with_len 0 (length xs))) xs len (λ k lt. get_or-map-range_with_len (slice_index xs) 0 (length xs) k k 0 (omega (arith, len)) (omega arith))

pub bytes_changed : (sizes : Numbers) (old new : Image) → IsStored sizes old → (file : ℕ) (blocks bytes : List ℕ) → SetsBytes sizes old new file blocks bytes → ChangesBytes (graph_of old) (graph_of new) file (bytes_in old file) bytes
bytes_changed sizes old new s file blocks bytes a = record {
  was = file_holds old file a.was_file;
  now =
      ap (over new.content) (new_node sizes old new s file node a.resizes)
      ∙ ap Bytes (map_agree (λ k. byte_in (new.content (slice_index blocks (k / 512))) (k % 512)) (slice_index bytes) 0 (length bytes) (λ k le lt. a.each k (omega arith)) ∙ listed bytes);
  others = others_hold sizes old new s file (resized sizes old new s file node a.resizes);
}
  where
    node : Node
    node = record { kind = File; size = length bytes; blocks = blocks }

-- ---- a directory with one entry more

at_end : (xs : List Link) (l : Link) → slice_get (xs ++ l ∷ []) (length xs) ≡ Some l
at_end [] l = refl
at_end (x ∷ xs) l = at_end xs l

pub appended_links : (xs : List Link) (l : Link) → named l.name xs ≡ None → EditsLinks xs (xs ++ l ∷ []) l.name (Some l)
appended_links xs l absent = record {
  hole = length xs;
  place = length xs;
  from = λ k. k;
  only = λ j m h is. absurd (named_none xs l.name j m absent h is);
  hole_name = λ m h. absurd (omega (arith, slice_get_within xs (length xs) m h));
  link_name = λ m e. ap (λ (x : Link). x.name) (sym (some_is e));
  comes = λ k m h. by k m (at_more xs l m k h);
  once = λ j k m o hj hk e. e;
  goes = λ j m h ne. (j, at_old xs l m j h);
  stands = λ m e. at_end xs l ∙ e;
}
  where
    by : (k : ℕ) (m : Link) → (slice_get xs k ≡ Some m) ⊎ ((k ≡ length xs) × (m ≡ l)) → ((slice_get xs k ≡ Some m) × (k ≢ length xs)) ⊎ ((k ≡ length xs) × (◌≡◌ {A = Option Link} (Some l) (Some m)))
    by k m (inl h) = inl (h, λ e. omega (arith, slice_get_within xs k m h, e))
    by k m (inr h) = inr (h.0, ap (λ (x : Link). Some x) (sym h.1))

-- the new entry's name leads to its node
pub append_step : (sizes : Numbers) (old new : Image) (s : IsStored sizes old) (dir size : ℕ) (blocks : List ℕ) (x : ℕ) (link : Link) → AppendsEntry sizes old new dir size blocks x link
    → HasNames (graph_of old) → step (graph_of old) dir link.name ≡ None → SetsStep (graph_of old) (graph_of new) dir link.name (Some link.node)
append_step sizes old new s dir size blocks x link a names absent =
    let more = holds_more sizes old new s dir size blocks x link a in
    edits_step (graph_of old) (graph_of new) dir link.name (Some link) names
    (subst (λ h. EditsLinks (links_of (graph_of old dir)) (links_of h) link.name (Some link)) (sym more) (appended_links (links_of (graph_of old dir)) link absent))
    (ap content_of more ∙ sym (dir_content old dir a.directory))
    (others_hold sizes old new s dir (changes sizes old new s dir size blocks x link a))
