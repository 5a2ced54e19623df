-- Several cores over one cache, between two lines: each knows of no core but its own, and one history has what all did.
use Rattle.std.specs.Prelude.{◌≡◌, ◌≢◌, ℕ, true, List, length, Option, Some, None, slice_get}
use Rattle.std.specs.List.{All, AllPairs}
use Rattle.std.specs.FinMap as finmap
use Rattle.std.specs.Option.{option_map}
use Rattle.zj_history.specs.Operation.{Operation}
use Rattle.zj_layout.specs.Shows.{ShowsSome}
use Rattle.zj_turns.specs.CacheHistory.{IsCacheHistory, operations_on}
use Rattle.zj_turns.specs.Views.{Hold, alone}
use Rattle.zj_turns.specs.Passes.{CacheParameters, IsLoadedAfter, holds, mine}
use Rattle.zj_core.specs.Handle.{entries_held, root_block}
use Rattle.zj_core.specs.Core.{CoreState, IsOf, IsSteady}
use Rattle.zj_session.specs.Played.{AreBlocksOf, OpenHandle, Played, handle_after, is_in}

-- The cores are of one cache and differ, each is at hand, and each knows of no core but its own.
pub record AreTogether {D : Type 0} (cache : CacheParameters) (cores : List (CoreState D)) : Type 0 where
  pub of : All (λ c. IsOf cache c) cores
  pub alone : All (λ c. c.pass.view ≡ alone c.pass.view c.pass.core) cores
  pub apart : AllPairs (λ c d. c.pass.core ≢ d.pass.core) cores

-- The history has the operations of each core, in order, and left in each block that a core has loaded what it loaded.
pub record HasHistory {D : Type 0} (cache : CacheParameters) (cores : List (CoreState D)) (history : List Operation) : Type 0 where
  pub legal : IsCacheHistory (ShowsSome cache.sizes) cache.cores cache.start history
  pub operations : (i : ℕ) (c : CoreState D) → slice_get cores i ≡ Some c → operations_on i history ≡ (mine c.pass).operations
  pub loaded : (i b : ℕ) (c : CoreState D) (h : Hold) → slice_get cores i ≡ Some c → finmap.get (mine c.pass).held b ≡ Some h → IsLoadedAfter cache.start history b h

-- Cores that serve calls: core i is at place i, each rests between two calls, no two hold the root's block, and one history has
-- what all did.
pub record IsService {D : Type 0} (cache : CacheParameters) (cores : List (CoreState D)) (history : List Operation) : Type 0 where
  pub together : AreTogether cache cores
  pub many : length cores ≡ cache.cores
  pub as_sizes : cache.cores ≡ cache.sizes.cores
  pub numbered : (i : ℕ) (c : CoreState D) → slice_get cores i ≡ Some c → c.pass.core ≡ i
  pub steady : All IsSteady cores
  pub one_root : (i j : ℕ) (c d : CoreState D) → slice_get cores i ≡ Some c → slice_get cores j ≡ Some d → holds c.pass (root_block cache.sizes) ≡ true → holds d.pass (root_block cache.sizes) ≡ true → i ≡ j
  pub has : HasHistory cache cores history

-- A core has the handle that is told: its call is begun, and the blocks that it has are those that the core holds.
pub record IsTold {D : Type 0} (c : CoreState D) (handle : Option OpenHandle) : Type 0 where
  pub begun : c.begun ≡ option_map (λ h. h.call) handle
  pub blocks : List ℕ
  pub held : (b : ℕ) → holds c.pass b ≡ is_in b blocks
  pub its : AreBlocksOf c.sizes (entries_held (mine c.pass)) handle blocks

-- Cores that serve calls, and have the handles and the history that the lines so far and their answers tell. No handle is told of a
-- core that isn't there.
pub record IsServing {D : Type 0} (cache : CacheParameters) (cores : List (CoreState D)) (played : List Played) (history : List Operation) : Type 0 where
  pub service : IsService cache cores history
  pub told : (i : ℕ) (c : CoreState D) → slice_get cores i ≡ Some c → IsTold c (handle_after played i)
  pub absent : (i : ℕ) → slice_get cores i ≡ None → handle_after played i ≡ None
