-- What a change of the tables makes of the tree that they hold.
use Rattle.std.specs.Prelude.{◌≡◌, ◌≢◌, ℕ, List, [], ◌∷◌, ◌++◌, Some, None, ◌↔◌}
use Rattle.std.specs.FinMap as map_of
use Rattle.zj_block.specs.Sizes.{Numbers}
use Rattle.zj_tree.specs.declared.content.Content.{Content}
use Rattle.zj_tree.specs.declared.content.Content.TheVariants as contents
use Rattle.zj_tree.specs.declared.call.Call.TheVariants.{Write, Truncate}
use Rattle.zj_tree.specs.Tree.{FileTree}
use Rattle.zj_tree.specs.Changed.{renamed, changed}
use Rattle.zj_layout.specs.declared.fields.Kind.{Kind}
use Rattle.zj_layout.specs.declared.fields.Node.{Node}
use Rattle.zj_layout.specs.declared.fields.Link.{Link}
use Rattle.zj_layout.specs.Graph.{links_of, link_at, step, follow}
use Rattle.zj_layout.specs.Image.{State, Image, image_of, graph_of}
use Rattle.zj_layout.specs.Shows.{Shows, IsState}
use Rattle.zj_layout.specs.Stored.{IsStored}
use Rattle.zj_changes.specs.Moved.{Begins, IsMoved}
use Rattle.zj_changes.specs.Resized.{Resizes, SetsBytes, WritesRange, CutsFile}
use Rattle.zj_changes.specs.Holds.{HoldsTree, empty_content, MakesEntry, Unlinks, Renames, RenamesOver}

-- Blocks show a tree exactly where their tables hold it.
abbrev pub ShownIsHeld : Type 0
ShownIsHeld = (sizes : Numbers) (state : State) (tree : FileTree) → IsState sizes state → Shows sizes state tree ↔ HoldsTree sizes (image_of sizes state) tree

-- A node that has more or fewer blocks leaves the tables fitting each other, and all other nodes hold what they held.
abbrev pub ResizedKeepsOthers : Type 0
ResizedKeepsOthers = (sizes : Numbers) (old new : Image) (number : ℕ) (node : Node) → IsStored sizes old → Resizes sizes old new number node →
    IsStored sizes new × ((other : ℕ) → other ≢ number → graph_of new other ≡ graph_of old other)

-- A new node's entry in a directory that lacks the name is a new path of the tree: an empty directory or file.
abbrev pub MadeIsInserted : Type 0
MadeIsInserted = (sizes : Numbers) (old new : Image) (tree : FileTree) (path : List (List ℕ)) (dir : ℕ) (link : Link) (kind : Kind) (content : Content) →
    HoldsTree sizes old tree → follow (graph_of old) 0 path ≡ Some dir → step (graph_of old) dir link.name ≡ None → empty_content kind ≡ Some content → MakesEntry sizes old new dir link kind →
    HoldsTree sizes new (map_of.insert tree (path ++ link.name ∷ []) content)

-- An entry that is removed, with its node, is a path that is gone from the tree.
abbrev pub UnlinkedIsRemoved : Type 0
UnlinkedIsRemoved = (sizes : Numbers) (old new : Image) (tree : FileTree) (path : List (List ℕ)) (dir place : ℕ) (link : Link) →
    HoldsTree sizes old tree → follow (graph_of old) 0 path ≡ Some dir → link_at (graph_of old) dir place ≡ Some link → links_of (graph_of old link.node) ≡ [] → Unlinks sizes old new dir place link.node →
    HoldsTree sizes new (map_of.remove tree (path ++ link.name ∷ []))

-- A file's new bytes are those of its path in the tree.
abbrev pub BytesAreReplaced : Type 0
BytesAreReplaced = (sizes : Numbers) (old new : Image) (tree : FileTree) (path : List (List ℕ)) (file : ℕ) (blocks bytes : List ℕ) →
    HoldsTree sizes old tree → follow (graph_of old) 0 path ≡ Some file → SetsBytes sizes old new file blocks bytes →
    HoldsTree sizes new (map_of.insert tree path (contents.File bytes))

-- A range that is written into a file is a write of the tree.
abbrev pub RangeIsOverwritten : Type 0
RangeIsOverwritten = (sizes : Numbers) (old new : Image) (tree : FileTree) (path : List (List ℕ)) (file at : ℕ) (bytes blocks : List ℕ) →
    HoldsTree sizes old tree → follow (graph_of old) 0 path ≡ Some file → WritesRange sizes old new file at bytes blocks →
    HoldsTree sizes new (changed (Write path at bytes) tree)

-- A file that is cut is one of the tree that is truncated.
abbrev pub CutIsTruncated : Type 0
CutIsTruncated = (sizes : Numbers) (old new : Image) (tree : FileTree) (path : List (List ℕ)) (file size : ℕ) (blocks : List ℕ) →
    HoldsTree sizes old tree → follow (graph_of old) 0 path ≡ Some file → CutsFile sizes old new file size blocks →
    HoldsTree sizes new (changed (Truncate path size) tree)

-- An entry that moves to a name that leads nowhere is a rename of the tree.
abbrev pub MovedIsRenamed : Type 0
MovedIsRenamed = (sizes : Numbers) (old new : Image) (tree : FileTree) (path : List (List ℕ)) (dir place : ℕ) (link : Link) (to_path : List (List ℕ)) (to_dir : ℕ) (name : List ℕ) →
    HoldsTree sizes old tree → follow (graph_of old) 0 path ≡ Some dir → link_at (graph_of old) dir place ≡ Some link → follow (graph_of old) 0 to_path ≡ Some to_dir → step (graph_of old) to_dir name ≡ None →
    (Begins (to_path ++ name ∷ []) (path ++ link.name ∷ []) → ⊥) → Renames sizes old new dir place to_dir (record { node = link.node; name = name }) →
    HoldsTree sizes new (renamed tree (path ++ link.name ∷ []) (to_path ++ name ∷ []))

-- So is one that moves onto the entry of a node without entries of its own.
abbrev pub MovedOverIsRenamed : Type 0
MovedOverIsRenamed = (sizes : Numbers) (old new : Image) (tree : FileTree) (path : List (List ℕ)) (dir place : ℕ) (link : Link) (to_path : List (List ℕ)) (to_dir to_place : ℕ) (over : Link) →
    HoldsTree sizes old tree → follow (graph_of old) 0 path ≡ Some dir → link_at (graph_of old) dir place ≡ Some link → follow (graph_of old) 0 to_path ≡ Some to_dir → link_at (graph_of old) to_dir to_place ≡ Some over →
    links_of (graph_of old over.node) ≡ [] → (Begins (to_path ++ over.name ∷ []) (path ++ link.name ∷ []) → ⊥) → RenamesOver sizes old new dir place to_dir to_place (record { node = link.node; name = over.name }) over.node →
    HoldsTree sizes new (renamed tree (path ++ link.name ∷ []) (to_path ++ over.name ∷ []))

-- A renamed tree has below the new path what was below the old one, nothing below the old one, and all else as it was.
abbrev pub RenamedByPaths : Type 0
RenamedByPaths = (tree : FileTree) (from to : List (List ℕ)) → (Begins to from → ⊥) → ((rest : List (List ℕ)) → rest ≢ [] → map_of.get tree (to ++ rest) ≡ None) → IsMoved tree (renamed tree from to) from to
