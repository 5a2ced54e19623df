-- What is so of histories by their cores, and of what a load answers.
use Rattle.std.specs.Prelude.{◌≡◌, ◌≢◌, ◌↔◌, ℕ, ◌<◌, List, [], ◌∷◌, ◌++◌, length, Option, IsNone}
use Rattle.std.specs.List.{All}
use Rattle.zj_block.specs.declared.numbers.Writer.{Writer}
use Rattle.zj_history.specs.Operation.{Operation}
use Rattle.zj_history.specs.State.{BlockState}
use Rattle.zj_history.specs.Legal.{IsLegal}
use Rattle.zj_turns.specs.CacheHistory.{operations_on}
use Rattle.zj_turns.specs.Views.{View, Has, found_of, loaded_as, seal_of, stamp_in}
use Rattle.zj_turns.specs.Passes.{HasOperations}

-- A legal history is told by the operations of each core: there are not two with the same ones.
abbrev pub ToldByCores : Type 0
ToldByCores = (start : BlockState) (cores : ℕ) (one other : List Operation)
    → IsLegal start one → IsLegal start other → All (λ o. o.core < cores) one → All (λ o. o.core < cores) other
    → ((core : ℕ) → core < cores → operations_on core one ≡ operations_on core other) → one ≡ other

-- Where one core has one operation more and the others have the same ones, the later of two legal histories is the earlier one
-- with that operation behind it. So its ticket is the length of the earlier one.
abbrev pub GrowsByOne : Type 0
GrowsByOne = (start : BlockState) (cores core : ℕ) (history later : List Operation) (o : Operation)
    → IsLegal start history → IsLegal start later → All (λ p. p.core < cores) history → All (λ p. p.core < cores) later
    → o.core ≡ core → core < cores → operations_on core later ≡ operations_on core history ++ o ∷ []
    → ((other : ℕ) → other < cores → other ≢ core → operations_on other later ≡ operations_on other history) → later ≡ history ++ o ∷ []

-- What a pass knows that has met every core is one history: there are not two legal ones of the cache's cores with the operations
-- of each core as it knows them.
abbrev pub OneHistory : Type 0
OneHistory = (start : BlockState) (cores : ℕ) (v : View) (one other : List Operation) → ((core : ℕ) → core < cores → Has v core)
    → IsLegal start one → IsLegal start other → All (λ o. o.core < cores) one → All (λ o. o.core < cores) other
    → HasOperations v one → HasOperations v other → one ≡ other

-- A block that was loaded was found with that content and that writer, and its words have that stamp.
abbrev pub LoadedIsFound : Type 0
LoadedIsFound = (block stamp : ℕ) (content : List ℕ) (writer : Option Writer) → length content ≡ 64 → IsNone writer ↔ (stamp ≡ 0)
    → (found_of block (loaded_as (content ++ seal_of stamp writer)) ≡ record { block = block; content = content; writer = writer })
    × (stamp_in (content ++ seal_of stamp writer) ≡ stamp)
