-- Tables that hold a tree, and what calls do to them.
use Rattle.std.specs.Prelude.{◌≡◌, ◌≢◌, ℕ, ◌<◌, List, [], ◌∷◌, ◌++◌, length, replicate, Option, Some, None}
use Rattle.zj_block.specs.Sizes.{Numbers}
use Rattle.zj_tree.specs.Tree.{FileTree}
use Rattle.zj_tree.specs.declared.content.Content.{Content}
use Rattle.zj_tree.specs.declared.content.Content.TheVariants as contents
use Rattle.zj_layout.specs.declared.fields.Kind.{Kind}
use Rattle.zj_layout.specs.declared.fields.Kind.TheVariants as kinds
use Rattle.zj_layout.specs.declared.fields.Node.{Node}
use Rattle.zj_layout.specs.declared.fields.Link.{Link}
use Rattle.zj_tree.specs.declared.call.Reply.{Reply}
use Rattle.zj_tree.specs.declared.call.Call.{Call}
use Rattle.zj_tree.specs.declared.call.Call.TheVariants as calls
use Rattle.zj_tree.specs.Apply.{apply}
use Rattle.zj_layout.specs.Shows.{Shows, limits_of}
use Rattle.zj_layout.specs.Graph.{step, follow, IsRooted, Describes}
use Rattle.zj_layout.specs.Image.{State, Image, node_of, graph_of}
use Rattle.zj_layout.specs.Stored.{IsStored}
use Rattle.zj_changes.specs.Moved.{Begins}
use Rattle.zj_changes.specs.Tables.{SetsNode}
use Rattle.zj_changes.specs.Entry.{Appends}
use Rattle.zj_changes.specs.Resized.{RemovesEntry, ReplacesEntry, FreesNode}

-- The tables fit each other, the entries hang together, and they are the tree's.
pub record HoldsTree (sizes : Numbers) (image : Image) (tree : FileTree) : Type 0 where
  pub stored : IsStored sizes image
  pub rooted : IsRooted sizes.nodes (graph_of image)
  pub describes : Describes (graph_of image) tree

-- an empty node of a kind: it has no items and names no block
abbrev pub empty_node : Kind → Node
empty_node kind = record { kind = kind; size = 0; blocks = replicate 12 0 }

-- what a path shows that leads to an empty node
abbrev pub empty_content : Kind → Option Content
empty_content kinds.Free = None
empty_content kinds.File = Some (contents.File [])
empty_content kinds.Dir = Some contents.Dir

-- A free node becomes an empty one of a kind, and then an entry for it is added.
pub record MakesEntry (sizes : Numbers) (old new : Image) (dir : ℕ) (link : Link) (kind : Kind) : Type 0 where
  pub within : link.node < sizes.nodes
  pub was_free : (node_of old link.node).kind ≡ kinds.Free
  pub between : Image
  pub takes : SetsNode sizes old between link.node (empty_node kind)
  pub appends : Appends sizes between new dir link

-- An entry is removed, and then its node is freed.
pub record Unlinks (sizes : Numbers) (old new : Image) (dir place node : ℕ) : Type 0 where
  pub between : Image
  pub size : ℕ
  pub blocks : List ℕ
  pub removes : RemovesEntry sizes old between dir size place blocks
  pub frees : FreesNode between new node

-- An entry is removed, and then one for its node is added.
pub record Renames (sizes : Numbers) (old new : Image) (from_dir place to_dir : ℕ) (link : Link) : Type 0 where
  pub between : Image
  pub size : ℕ
  pub blocks : List ℕ
  pub removes : RemovesEntry sizes old between from_dir size place blocks
  pub appends : Appends sizes between new to_dir link

-- The node is put into the other entry, then its own is removed, and the node that the other one led to is freed.
pub record RenamesOver (sizes : Numbers) (old new : Image) (from_dir place to_dir to_place : ℕ) (link : Link) (leaf : ℕ) : Type 0 where
  pub first : Image
  pub replaces : ReplacesEntry sizes old first to_dir to_place link
  pub second : Image
  pub size : ℕ
  pub blocks : List ℕ
  pub removes : RemovesEntry sizes first second from_dir size place blocks
  pub frees : FreesNode second new leaf

-- the call that makes an empty directory, or an empty file
abbrev pub making : Kind → List (List ℕ) → Call
making kinds.Dir path = calls.Mkdir path
making _ path = calls.Create path

-- In one state the reply is the plain service's, and another state shows the tree that it leaves.
pub record Answers (sizes : Numbers) (call : Call) (reply : Reply) (tree : FileTree) (after : State) : Type 0 where
  pub replies : (apply (limits_of sizes) call tree).0 ≡ reply
  pub leaves : Shows sizes after (apply (limits_of sizes) call tree).1

-- What may be renamed onto what: a file onto a file, a directory onto an empty one.
pub data Matches (image : Image) (from onto : ℕ) : Type 0 where
  files : (node_of image from).kind ≡ kinds.File → (node_of image onto).kind ≡ kinds.File → Matches image from onto
  directories : (node_of image from).kind ≡ kinds.Dir → (node_of image onto).kind ≡ kinds.Dir → (node_of image onto).size ≡ 0 → Matches image from onto

-- A node may get another path: it is another, and not below the node where that is a directory.
pub record MayMove (image : Image) (node : ℕ) (from to : List (List ℕ)) : Type 0 where
  pub leads : follow (graph_of image) 0 from ≡ Some node
  pub below_root : 0 < length from
  pub apart : from ≢ to
  pub outside : (node_of image node).kind ≡ kinds.Dir → Begins to from → ⊥

-- An entry would go from one directory into another that lacks the name.
pub record GoesInto (image : Image) (from to : List (List ℕ)) (dir to_dir : ℕ) : Type 0 where
  pub front : List (List ℕ)
  pub name : List ℕ
  pub from_is : from ≡ front ++ name ∷ []
  pub leads : follow (graph_of image) 0 front ≡ Some dir
  pub to_front : List (List ℕ)
  pub to_name : List ℕ
  pub to_is : to ≡ to_front ++ to_name ∷ []
  pub to_leads : follow (graph_of image) 0 to_front ≡ Some to_dir
  pub directory : (node_of image to_dir).kind ≡ kinds.Dir
  pub absent : step (graph_of image) to_dir to_name ≡ None
  pub apart : dir ≢ to_dir
