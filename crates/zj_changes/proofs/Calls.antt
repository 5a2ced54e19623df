-- What a call leaves: tables that hold the tree after it.
use Rattle.std.proofs.Common.{◌≡◌, ◌≢◌, ℕ, ◌<◌, List, [], ◌∷◌, ◌++◌, length, Some, None, refl, sym, ap, ◌∙◌, arith, subst, take}
use Rattle.std.specs.FinMap as map_of
use Rattle.std.specs.Option.{option_and_then}
use Rattle.zj_changes.proofs.Begins.{begins_itself}
use Rattle.zj_block.specs.Sizes.{Numbers}
use Rattle.zj_tree.specs.declared.content.Content.TheVariants as contents
use Rattle.zj_tree.specs.declared.call.Call.TheVariants.{Write, Truncate}
use Rattle.zj_tree.specs.Bytes.{overwritten}
use Rattle.zj_tree.specs.Changed.{bytes_of, bytes_at, changed}
use Rattle.zj_tree.specs.Tree.{FileTree}
use Rattle.zj_layout.specs.declared.fields.Kind.TheVariants.{File, Dir}
use Rattle.zj_layout.specs.declared.fields.Link.{Link}
use Rattle.zj_layout.specs.Graph.{Holding, Nothing, links_of, link_at, named, step, follow}
use Rattle.zj_changes.specs.Moved.{Begins, MovesEntry}
use Rattle.zj_changes.specs.Dropped.{DropsLeaf, ChangesBytes}
use Rattle.zj_changes.specs.Steps.{SetsStep, SetsHolding}
use Rattle.zj_layout.specs.Image.{State, Image, image_of, node_of, graph_of}
use Rattle.zj_layout.specs.Stored.{IsStored}
use Rattle.zj_layout.specs.Shows.{Shows, IsState}
use Rattle.zj_changes.specs.Resized.{zero_node, SetsBytes, WritesRange, CutsFile}
use Rattle.zj_changes.specs.Holds.{HoldsTree, Unlinks, Renames, RenamesOver}
use Rattle.zj_layout.proofs.Follow.{Path', Name', some_is, none_some, named_entry, follow_more, one_path}
use Rattle.zj_layout.proofs.Changed.{still_stored}
use Rattle.zj_layout.proofs.Sound.{stored, rooted, sound_from}
use Rattle.zj_layout.proofs.Fresh.{past_node}
use Rattle.zj_changes.proofs.Entry.{changes}
use Rattle.zj_changes.proofs.Resized.{resized}
use Rattle.zj_changes.proofs.Edits.{drops, moves, replaces}
use Rattle.zj_changes.proofs.Removed.{removal, removal_step, replacement, replacement_step, replacement_other}
use Rattle.zj_changes.proofs.Freed.{freeing, freed_holding, bytes_in, bytes_changed, append_step}
use Rattle.zj_changes.proofs.Dropped.{dropped_rooted, describes_dropped, bytes_rooted, describes_bytes}
use Rattle.zj_changes.proofs.Ranges.{written, cut}
use Rattle.zj_changes.proofs.Walk.{file_at}
use Rattle.zj_changes.proofs.Moved.{moved_rooted, describes_renamed}
use Rattle.zj_tree.specs.Changed.{renamed}

-- ---- states and tables

pub shows_holds : (sizes : Numbers) (s : State) (t : FileTree) → Shows sizes s t → HoldsTree sizes (image_of sizes s) t
shows_holds sizes s t shows = record {
  stored = stored sizes (image_of sizes s) (past_node sizes s) shows.sound.laid_out;
  rooted = rooted sizes (image_of sizes s) (past_node sizes s) (omega (arith, shows.shape.limits.least_nodes)) shows.sound;
  describes = shows.describes;
}

pub holds_shows : (sizes : Numbers) (s : State) (t : FileTree) → IsState sizes s → HoldsTree sizes (image_of sizes s) t → Shows sizes s t
holds_shows sizes s t shape h = record { shape = shape; sound = sound_from sizes (image_of sizes s) (past_node sizes s) h.stored h.rooted; describes = h.describes }

-- where a name leads from a directory, by the entry
module _ (sizes : Numbers) (old new : Image) (t : FileTree) (h : HoldsTree sizes old t) where
  abbrev g : ℕ → Holding
  g = graph_of old

  pub entry_step : (dir place : ℕ) (link : Link) → link_at g dir place ≡ Some link → step g dir link.name ≡ Some link.node
  entry_step dir place link there = named_entry (links_of (g dir)) (h.rooted.names.each dir) place link there

  -- what an entry leads to is a node and isn't the root
  below : (dir node : ℕ) (name : Name') → step g dir name ≡ Some node → node < sizes.nodes
  below dir node name s = h.rooted.within node (h.rooted.target dir node name s).1

  -- a node with entries isn't one without
  not_leaf : (dir leaf node : ℕ) (name : Name') → step g dir name ≡ Some node → links_of (g leaf) ≡ [] → leaf ≢ dir
  not_leaf dir leaf node name s empty e = none_some (sym (ap (named name) empty) ∙ ap (λ k. step g k name) e ∙ s)

  -- ---- unlink and rmdir

  pub entry_removed : (p : Path') (dir place : ℕ) (link : Link) → follow g 0 p ≡ Some dir → link_at g dir place ≡ Some link → links_of (g link.node) ≡ []
      → Unlinks sizes old new dir place link.node → HoldsTree sizes new (map_of.remove t (p ++ link.name ∷ []))
  entry_removed p dir place link to_dir there empty a = record {
    stored = still_stored sizes a.between new st link.node (resized sizes a.between new st link.node zero_node (freeing sizes a.between new st link.node lt root a.frees));
    rooted = dropped_rooted sizes.nodes g (graph_of new) h.rooted dir link.name link.node leaf p to_dir;
    describes = describes_dropped sizes.nodes g (graph_of new) h.rooted dir link.name link.node leaf p to_dir t h.describes;
  }
    where
      st : IsStored sizes a.between
      st = still_stored sizes old a.between h.stored dir (resized sizes old a.between h.stored dir (record { kind = Dir; size = a.size; blocks = a.blocks }) (removal sizes old a.between h.stored dir a.size place a.blocks a.removes))

      was : step g dir link.name ≡ Some link.node
      was = entry_step dir place link there

      lt : link.node < sizes.nodes
      lt = below dir link.node link.name was

      root : link.node ≢ 0
      root = (h.rooted.target dir link.node link.name was).0

      one : SetsStep g (graph_of a.between) dir link.name None
      one = removal_step sizes old a.between h.stored dir a.size place a.blocks a.removes h.rooted.names link there

      two : SetsHolding (graph_of a.between) (graph_of new) link.node Nothing
      two = freed_holding sizes a.between new st link.node lt root a.frees (one.links link.node (not_leaf dir link.node link.node link.name was empty) ∙ empty)

      leaf : DropsLeaf g (graph_of new) dir link.name link.node
      leaf = drops g (graph_of a.between) (graph_of new) dir link.name link.node was empty one two

  -- ---- rename where the new name is absent

  pub entry_moved : (p : Path') (dp place : ℕ) (from : Link) (q : Path') (dq : ℕ) (to : Name') → follow g 0 p ≡ Some dp → link_at g dp place ≡ Some from → follow g 0 q ≡ Some dq → step g dq to ≡ None
      → (Begins (q ++ to ∷ []) (p ++ from.name ∷ []) → ⊥) → Renames sizes old new dp place dq (record { node = from.node; name = to })
      → HoldsTree sizes new (renamed t (p ++ from.name ∷ []) (q ++ to ∷ []))
  entry_moved p dp place from q dq to to_dp there to_dq absent not_inside a = record {
    stored = still_stored sizes a.between new st dq (changes sizes a.between new st dq a.appends.size a.appends.blocks a.appends.block link a.appends.is);
    rooted = moved_rooted sizes.nodes g (graph_of new) h.rooted p from.name dp q to dq from.node to_dp to_dq entry not_inside;
    describes = describes_renamed sizes.nodes g (graph_of new) h.rooted p from.name dp q to dq from.node to_dp to_dq entry not_inside t h.describes;
  }
    where
      link : Link
      link = record { node = from.node; name = to }

      st : IsStored sizes a.between
      st = still_stored sizes old a.between h.stored dp (resized sizes old a.between h.stored dp (record { kind = Dir; size = a.size; blocks = a.blocks }) (removal sizes old a.between h.stored dp a.size place a.blocks a.removes))

      was : step g dp from.name ≡ Some from.node
      was = entry_step dp place from there

      one : SetsStep g (graph_of a.between) dp from.name None
      one = removal_step sizes old a.between h.stored dp a.size place a.blocks a.removes h.rooted.names from there

      differ : dq ≡ dp → to ≡ from.name → ⊥
      differ d n = none_some (sym absent ∙ ap (λ k. step g k to) d ∙ ap (step g dp) n ∙ was)

      two : SetsStep (graph_of a.between) (graph_of new) dq to (Some from.node)
      two = append_step sizes a.between new st dq a.appends.size a.appends.blocks a.appends.block link a.appends.is one.names (one.others dq to differ ∙ absent)

      entry : MovesEntry g (graph_of new) dp from.name dq to from.node
      entry = moves g (graph_of a.between) (graph_of new) dp from.name dq to from.node was absent one two

  -- ---- rename onto a file or an empty directory

  pub entry_moved_over : (p : Path') (dp place : ℕ) (from : Link) (q : Path') (dq to_place : ℕ) (over : Link) → follow g 0 p ≡ Some dp → link_at g dp place ≡ Some from → follow g 0 q ≡ Some dq → link_at g dq to_place ≡ Some over
      → links_of (g over.node) ≡ [] → (Begins (q ++ over.name ∷ []) (p ++ from.name ∷ []) → ⊥)
      → RenamesOver sizes old new dp place dq to_place (record { node = from.node; name = over.name }) over.node
      → HoldsTree sizes new (renamed t (p ++ from.name ∷ []) (q ++ over.name ∷ []))
  entry_moved_over p dp place from q dq to_place over to_dp there to_dq at_new empty not_inside a = record {
    stored = still_stored sizes a.second new st_second over.node (resized sizes a.second new st_second over.node zero_node (freeing sizes a.second new st_second over.node lt root a.frees));
    rooted = moved_rooted sizes.nodes g (graph_of new) h.rooted p from.name dp q over.name dq from.node to_dp to_dq entry not_inside;
    describes = describes_renamed sizes.nodes g (graph_of new) h.rooted p from.name dp q over.name dq from.node to_dp to_dq entry not_inside t h.describes;
  }
    where
      link : Link
      link = record { node = from.node; name = over.name }

      was : step g dp from.name ≡ Some from.node
      was = entry_step dp place from there

      was_over : step g dq over.name ≡ Some over.node
      was_over = entry_step dq to_place over at_new

      apart : from.node ≢ over.node
      apart e = not_inside (begins_itself (q ++ over.name ∷ []) (p ++ from.name ∷ []) (one_path sizes.nodes g h.rooted (q ++ over.name ∷ []) (p ++ from.name ∷ []) over.node
          (follow_more g 0 q over.name ∙ ap (option_and_then (λ d. step g d over.name)) to_dq ∙ was_over)
          (follow_more g 0 p from.name ∙ ap (option_and_then (λ d. step g d from.name)) to_dp ∙ was ∙ ap (λ (k : ℕ). Some k) e)))

      lt : over.node < sizes.nodes
      lt = below dq over.node over.name was_over

      root : over.node ≢ 0
      root = (h.rooted.target dq over.node over.name was_over).0

      st_first : IsStored sizes a.first
      st_first = still_stored sizes old a.first h.stored dq (resized sizes old a.first h.stored dq (node_of old dq) (replacement sizes old a.first h.stored dq to_place link a.replaces))

      one : SetsStep g (graph_of a.first) dq over.name (Some from.node)
      one = replacement_step sizes old a.first h.stored dq to_place link a.replaces h.rooted.names over at_new refl

      there_still : link_at (graph_of a.first) dp place ≡ Some from
      there_still = replacement_other sizes old a.first h.stored dq to_place link a.replaces dp place from there (λ d e. apart (ap (λ (x : Link). x.node) (some_is (sym there ∙ ap (λ k. link_at g k place) d ∙ ap (link_at g dq) e ∙ at_new))))

      st_second : IsStored sizes a.second
      st_second = still_stored sizes a.first a.second st_first dp (resized sizes a.first a.second st_first dp (record { kind = Dir; size = a.size; blocks = a.blocks }) (removal sizes a.first a.second st_first dp a.size place a.blocks a.removes))

      two : SetsStep (graph_of a.first) (graph_of a.second) dp from.name None
      two = removal_step sizes a.first a.second st_first dp a.size place a.blocks a.removes one.names from there_still

      three : SetsHolding (graph_of a.second) (graph_of new) over.node Nothing
      three = freed_holding sizes a.second new st_second over.node lt root a.frees
          (two.links over.node (not_leaf dp over.node from.node from.name was empty) ∙ one.links over.node (not_leaf dq over.node over.node over.name was_over empty) ∙ empty)

      entry : MovesEntry g (graph_of new) dp from.name dq over.name from.node
      entry = replaces g (graph_of a.first) (graph_of a.second) (graph_of new) dp from.name dq over.name from.node over.node was was_over apart empty one two three

  -- ---- write and truncate

  pub bytes_replaced : (p : Path') (file : ℕ) (blocks bytes : List ℕ) → follow g 0 p ≡ Some file → SetsBytes sizes old new file blocks bytes → HoldsTree sizes new (map_of.insert t p (contents.File bytes))
  bytes_replaced p file blocks bytes to_file a = record {
    stored = still_stored sizes old new h.stored file (resized sizes old new h.stored file (record { kind = File; size = length bytes; blocks = blocks }) a.resizes);
    rooted = bytes_rooted sizes.nodes g (graph_of new) h.rooted file (bytes_in old file) bytes changed;
    describes = describes_bytes sizes.nodes g (graph_of new) h.rooted file (bytes_in old file) bytes changed t p h.describes to_file;
  }
    where
      changed : ChangesBytes g (graph_of new) file (bytes_in old file) bytes
      changed = bytes_changed sizes old new h.stored file blocks bytes a

  -- the bytes of a file, by its path
  bytes_there : (p : Path') (file : ℕ) → follow g 0 p ≡ Some file → (node_of old file).kind ≡ File → bytes_at t p ≡ bytes_in old file
  bytes_there p file leads is = ap bytes_of (file_at old t h.describes p file leads is)

  pub range_overwritten : (p : Path') (file at : ℕ) (bytes blocks : List ℕ) → follow g 0 p ≡ Some file → WritesRange sizes old new file at bytes blocks → HoldsTree sizes new (changed (Write p at bytes) t)
  range_overwritten p file at bytes blocks leads a =
      subst (λ (x : List ℕ). HoldsTree sizes new (map_of.insert t p (contents.File (overwritten x at bytes)))) (sym (bytes_there p file leads a.was_file))
      (bytes_replaced p file blocks (overwritten (bytes_in old file) at bytes) leads (written sizes old new file at bytes blocks a))

  pub file_truncated : (p : Path') (file size : ℕ) (blocks : List ℕ) → follow g 0 p ≡ Some file → CutsFile sizes old new file size blocks → HoldsTree sizes new (changed (Truncate p size) t)
  file_truncated p file size blocks leads a =
      subst (λ (x : List ℕ). HoldsTree sizes new (map_of.insert t p (contents.File (take size x)))) (sym (bytes_there p file leads a.was_file))
      (bytes_replaced p file blocks (take size (bytes_in old file)) leads (cut sizes old new file size blocks a))
