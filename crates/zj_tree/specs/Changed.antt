-- The trees that calls make.
use Rattle.std.specs.Prelude.{ℕ, List, [], ◌++◌, length, take, drop, map, Option, Some, if◌then◌else◌}
use Rattle.std.specs.FinMap as map_of
use Rattle.zj_tree.specs.declared.content.Content.{Content}
use Rattle.zj_tree.specs.declared.content.Content.TheVariants.{Dir, File}
use Rattle.zj_tree.specs.declared.call.Call.{Call}
use Rattle.zj_tree.specs.declared.call.Call.TheVariants as calls
use Rattle.zj_tree.specs.Bytes.{overwritten}
use Rattle.zj_tree.specs.Path.{same_path, begins_with}
use Rattle.zj_tree.specs.Tree.{FileTree, content_at}

-- the bytes of a file, none where no file is
abbrev pub bytes_of : Option Content → List ℕ
bytes_of (Some (File bytes)) = bytes
bytes_of _ = []

-- the bytes of the file at a path
abbrev pub bytes_at : FileTree → List (List ℕ) → List ℕ
bytes_at tree path = bytes_of (content_at tree path)

-- the path of an entry once what begins with `from` begins with `to`
abbrev pub moved : List (List ℕ) → List (List ℕ) → List (List ℕ) → List (List ℕ)
moved from to path = if begins_with path from then to ++ drop (length from) path else path

-- What `to` was is gone, and every path that begins with `from` begins with `to` instead.
abbrev pub renamed : FileTree → List (List ℕ) → List (List ℕ) → FileTree
renamed tree from to = map_of.from_entries (map (λ (entry : List (List ℕ) × Content). (moved from to entry.0, entry.1)) (map_of.entries (map_of.remove tree to)))

-- The tree that a call makes where nothing refuses it.
abbrev pub changed : Call → FileTree → FileTree
changed (calls.Mkdir path) tree = map_of.insert tree path Dir
changed (calls.Create path) tree = map_of.insert tree path (File [])
changed (calls.Write path at bytes) tree = map_of.insert tree path (File (overwritten (bytes_at tree path) at bytes))
changed (calls.Truncate path size) tree = map_of.insert tree path (File (take size (bytes_at tree path)))
changed (calls.Unlink path) tree = map_of.remove tree path
changed (calls.Rmdir path) tree = map_of.remove tree path
changed (calls.Rename from to) tree = if same_path from to then tree else renamed tree from to
changed (calls.Read path at count) tree = tree
changed (calls.List path) tree = tree
changed (calls.Stat path) tree = tree
changed (calls.Fsync path) tree = tree
