-- One core that meets all others, and parts from them.
use Rattle.std.specs.Prelude.{◌≢◌, Bool, List, [], ◌∷◌, map}
use Rattle.std.specs.List.{All, AllPairs}
use Rattle.zj_turns.specs.Views.{joined, without}
use Rattle.zj_turns.specs.Passes.{IsPeer, PassState, with_away, with_view}
use Rattle.zj_core.specs.Core.{CoreState}

-- the passes of cores
abbrev pub passes_of : {D : Type 0} → List (CoreState D) → List PassState
passes_of cores = map (λ c. c.pass) cores

-- a pass that took in what others know of their cores, one after the other
abbrev pub gathered : PassState → List PassState → PassState
gathered p [] = p
gathered p (q ∷ later) = gathered (with_view p (joined p.view q.view)) later

-- a pass that gave others back what is known of their cores, one after the other
abbrev pub released : PassState → List PassState → PassState
released p [] = p
released p (q ∷ later) = released (with_view p (without p.view q.core)) later

-- a core whose pass is away in another, or not
abbrev pub core_away : {D : Type 0} → Bool → CoreState D → CoreState D
core_away away c = record c { pass = with_away c.pass away }

-- The others are passes of the same cache, of cores that differ from this pass's and from one another, and know of no core but
-- their own. They are at hand; or they are away in this pass, which has all that they know.
pub record ArePeers (p : PassState) (others : List PassState) (away : Bool) : Type 0 where
  pub each : All (λ q. IsPeer p q away) others
  pub apart : AllPairs (λ q r. q.core ≢ r.core) others
