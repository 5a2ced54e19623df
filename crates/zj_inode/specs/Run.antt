-- The plain service's run of calls, and histories that serve calls.
use Rattle.std.specs.Prelude.{◌≡◌, ℕ, List, [], ◌∷◌, if◌then◌else◌, length, map, slice_get, Some}
use Rattle.std.specs.List.{fold}
use Rattle.zj_block.specs.Lists.{Entries}
use Rattle.zj_block.specs.Sizes.{Numbers}
use Rattle.zj_history.specs.Cut.{is_within}
use Rattle.zj_history.specs.Operation.{Operation}
use Rattle.zj_history.specs.Transactions.{Bounds}
use Rattle.zj_tree.specs.declared.call.Call.{Call}
use Rattle.zj_tree.specs.declared.call.Reply.{Reply}
use Rattle.zj_tree.specs.Apply.{Limits, apply}
use Rattle.zj_tree.specs.Tree.{FileTree}
use Rattle.zj_inode.specs.Performs.{Performs}

-- the service's replies to calls in turn, from a tree on, and the tree that it leaves
abbrev pub replies_from : Limits → FileTree → List Call → List Reply
replies_from limits tree [] = []
replies_from limits tree (call ∷ calls) = (apply limits call tree).0 ∷ replies_from limits (apply limits call tree).1 calls

abbrev pub tree_after : Limits → FileTree → List Call → FileTree
tree_after limits tree calls = fold (λ tree call. (apply limits call tree).1) tree calls

-- the contents that an operation found, each under the number of its block
abbrev pub contents_found : Operation → Entries
contents_found o = map (λ f. (f.block, f.content)) o.found

-- A history serves calls: it has an operation for each, in turn, which performs the call with the reply in its place.
pub record IsServed (sizes : Numbers) (history : List Operation) (calls : List Call) (replies : List Reply) : Type 0 where
  pub all_called : length calls ≡ length history
  pub all_replied : length replies ≡ length history
  pub each : (k : ℕ) (o : Operation) (call : Call) (reply : Reply) → slice_get history k ≡ Some o → slice_get calls k ≡ Some call → slice_get replies k ≡ Some reply → Performs sizes (contents_found o) o.written call reply

-- of things that are given for each operation of a history in turn, those of the operations that are within bounds
abbrev pub chosen : {X : Type 0} → List Operation → Bounds → List X → List X
chosen [] bounds xs = []
chosen (o ∷ os) bounds [] = []
chosen (o ∷ os) bounds (x ∷ xs) = if is_within bounds o then x ∷ chosen os bounds xs else chosen os bounds xs
