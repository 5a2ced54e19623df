-- What the running transaction of a core would be sealed as: the frozen record of its operations, with no more blocks than a record has.
use Rattle.std.proofs.Common.{◌≡◌, ℕ, ◌+◌, ◌<◌, ◌≤◌, List, [], ◌∷◌, length, get_or, Some, slice_get, refl, sym, ap, ◌∙◌, subst, arith}
use Rattle.std.proofs.lemmas.Option.{slice_get-get_or}
use Rattle.zj_block.specs.Sizes.{Numbers}
use Rattle.zj_block.specs.declared.numbers.Writer.{Writer}
use Rattle.zj_history.specs.Operation.{Operation}
use Rattle.zj_history.specs.Transactions.{operations_of}
use Rattle.zj_tx.specs.Frozen.{IsFrozen}
use Rattle.zj_tx.specs.Laws.{SealedIsFrozen}
use Rattle.zj_tx.specs.Record.{Record, record_of}
use Rattle.zj_tx.specs.Running.{FindsCores, IsSealed, Keeps, Transaction, recorded_bound}
use Rattle.zj_turns.specs.CacheHistory.{operations_on}
use Rattle.zj_turns.specs.Passes.{CacheParameters, mine}
use Rattle.zj_core.specs.Core.{CoreState, IsOf, IsSteady, operations_running}
use Rattle.zj_session.specs.Logging.{FitsRecord}
use Rattle.zj_session.specs.Service.{IsService}
use Rattle.zj_session.proofs.Lists.{at_all}
use Rattle.zj_session.proofs.LogNumbers.{finds_cores, own_of}
use Rattle.zj_session.proofs.Round.{listed}

-- ---- a record for a transaction

pub bounds_now : (t : Transaction) → (bounds : List ℕ) × (length bounds ≡ t.cores) × ((i n : ℕ) → slice_get bounds i ≡ Some n → n ≡ recorded_bound t.core t.follows i)
bounds_now t = listed (λ i n. n ≡ recorded_bound t.core t.follows i) t.cores (λ i low. (recorded_bound t.core t.follows i, refl))

abbrev pub sealed_as : Transaction → Record
sealed_as t = record_of t.number (bounds_now t).0 t.parts

pub is_sealed : (t : Transaction) → IsSealed t (sealed_as t)
is_sealed t = record {
  number = refl;
  cores = (bounds_now t).1;
  bounds = λ i low. (bounds_now t).2 i (get_or (bounds_now t).0 i 0) (slice_get-get_or (bounds_now t).0 i 0 (let many = (bounds_now t).1 in omega (arith, low, many)));
  parts = refl;
}

-- ---- the running transaction of a core that serves calls

module _ {D : Type 0} (sealed_frozen : SealedIsFrozen) (cache : CacheParameters) (cores : List (CoreState D)) (history : List Operation) (service : IsService cache cores history) (at : ℕ) (core : CoreState D) (there : slice_get cores at ≡ Some core) where
  pub of_cache : IsOf cache core
  of_cache = at_all (λ (c : CoreState D). IsOf cache c) cores service.together.of at core there

  pub is_steady : IsSteady core
  is_steady = at_all IsSteady cores service.steady at core there

  pub on_core : core.pass.core ≡ at
  on_core = service.numbered at core there

  abbrev running : Writer
  running = record { core = at; number = core.running.number }

  is_running : operations_running core ≡ operations_of history running
  is_running = ap (λ (l : List Operation). operations_of l (record { core = core.pass.core; number = core.running.number })) (sym (service.has.operations at core there))
      ∙ ap (λ c. operations_of (operations_on at history) (record { core = c; number = core.running.number })) on_core
      ∙ own_of at core.running.number history

  pub running_keeps : Keeps (operations_of history running) core.running
  running_keeps = subst (λ (l : List Operation). Keeps l core.running) is_running is_steady.runs.keeps

  -- what it is sealed as is its frozen record
  pub running_frozen : (r : Record) → IsSealed core.running r → IsFrozen history running r
  running_frozen r is = sealed_frozen history running core.running r (is_steady.runs.core ∙ on_core) refl
      (subst (λ n. FindsCores n history) (service.as_sizes ∙ ap (λ (n : Numbers). n.cores) of_cache.sizes ∙ sym is_steady.runs.cores) (finds_cores cache.start cache.cores history service.has.legal.legal service.has.legal.cores_fit))
      running_keeps is

  pub fits_record : FitsRecord history running
  fits_record = record {
    sealed_now = sealed_as core.running;
    ascending = is_steady.runs.ascending;
    frozen = running_frozen (sealed_as core.running) (is_sealed core.running);
    few = is_steady.runs.blocks;
  }
