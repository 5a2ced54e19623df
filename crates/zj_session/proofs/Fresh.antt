-- Cores of which nothing has happened serve calls.
use Rattle.std.proofs.Common.{◌≡◌, ◌≢◌, ℕ, ◌<◌, true, true≢false, is_some, List, [], ◌∷◌, length, ◌≤◌, option_map, IfSome, All, Some, slice_get, sym, ap, ◌∙◌, subst, arith, length-append}
use Rattle.std.specs.Ordering.{nat_cmp}
use Rattle.std.specs.FinMap as finmap
use Rattle.std.proofs.lemmas.List.Elements.{All-nil}
use Rattle.std.proofs.lemmas.Option.{slice_get-map}
use Rattle.std.proofs.Math.Seq.{take-nil}
use Rattle.zj_block.specs.declared.sizes.TheConstants.{MAX_RECORD_BLOCKS}
use Rattle.zj_block.specs.Sizes.{Numbers}
use Rattle.zj_history.specs.Operation.{Operation}
use Rattle.zj_history.specs.State.{BlockState, after}
use Rattle.zj_history.specs.Legal.{IsLegal}
use Rattle.zj_layout.specs.Shows.{ShowsSome}
use Rattle.zj_layout.proofs.Follow.{none_some}
use Rattle.zj_turns.specs.CacheHistory.{IsCacheHistory}
use Rattle.zj_turns.specs.Views.{Hold, Known, alone, blank}
use Rattle.zj_turns.specs.Passes.{CacheParameters, IsMadeWith, PassState, holds, mine}
use Rattle.zj_turns.proofs.Lone.{lone_alone, lone_is}
use Rattle.zj_core.specs.Core.{CoreState, IsOf, IsReadyToCommit, IsSteady, Runs}
use Rattle.zj_area.specs.Journal.{AreaView}
use Rattle.zj_history.specs.Transactions.{operations_of}
use Rattle.zj_tx.specs.Frozen.{image_in}
use Rattle.zj_tx.specs.Record.{Ascends}
use Rattle.zj_tx.specs.Running.{Keeps, Transaction}
use Rattle.zj_tx.proofs.FrozenLemmas.{nothing_kept}
use Rattle.zj_mount.specs.Recovered.{Restored}
use Rattle.zj_session.specs.Playing.{AreJournals, AreResting, journals_of}
use Rattle.zj_session.specs.Service.{AreTogether, HasHistory, IsService}
use Rattle.zj_session.specs.Starting.{AreFresh, IsFresh}
use Rattle.zj_session.proofs.Cores.{idle_all}
use Rattle.zj_session.proofs.Lists.{all_at, pairs_at}

-- one core
module _ {D : Type 0} (cache : CacheParameters) (sizes : Numbers) (i : ℕ) (c : CoreState D) (fresh : IsFresh cache sizes i c) where
  pub is_blank : mine c.pass ≡ blank
  is_blank = lone_is cache.table i blank c.pass fresh.pass

  pub core_is : c.pass.core ≡ i
  core_is = ap (λ (p : PassState). p.core) fresh.pass

  pub holds_none : (b : ℕ) (h : Hold) → finmap.get (mine c.pass).held b ≡ Some h → ⊥
  holds_none b h at = none_some (sym (ap (λ (k : Known). finmap.get k.held b) is_blank ∙ finmap.get-empty {X = Hold} nat_cmp b) ∙ at)

  pub free : (b : ℕ) → holds c.pass b ≡ true → ⊥
  free b held = true≢false (sym held ∙ ap (λ (k : Known). is_some (finmap.get k.held b)) is_blank ∙ ap is_some (finmap.get-empty {X = Hold} nat_cmp b))

  pub fresh_of : cache.sizes ≡ sizes → length cache.start ≡ sizes.blocks → IsOf cache c
  fresh_of same many = record {
    active = record { table = ap (λ (p : PassState). p.table) fresh.pass; not_away = ap (λ (p : PassState). p.away) fresh.pass };
    sizes = same ∙ sym fresh.sizes_are;
    many = many ∙ ap (λ (n : Numbers). n.blocks) (sym fresh.sizes_are);
  }

  pub fresh_alone : c.pass.view ≡ alone c.pass.view c.pass.core
  fresh_alone = lone_alone cache.table i blank c.pass fresh.pass

  -- with its own journal, which is ready
  module _ (own : (c.area.core ≡ i) × (c.area.sizes ≡ sizes) × IsReadyToCommit c.area) where
    runs : Runs c
    runs = record {
      core = ap (λ (t : Transaction). t.core) fresh.running ∙ sym core_is;
      cores = ap (λ (t : Transaction). t.cores) fresh.running ∙ ap (λ (n : Numbers). n.cores) (sym fresh.sizes_are);
      keeps = subst (λ (x : List Operation × Transaction). Keeps (operations_of x.0 (record { core = c.pass.core; number = x.1.number })) x.1)
          (λ j. ((sym is_blank j).operations, sym fresh.running j)) (nothing_kept i sizes.cores c.area.end.number);
      none_later = subst (All (λ (o : Operation). (o.core ≡ c.pass.core) × (o.number ≤ c.running.number))) (ap (λ (k : Known). k.operations) (sym is_blank)) (All-nil (λ (o : Operation). (o.core ≡ c.pass.core) × (o.number ≤ c.running.number)));
      ascending = subst (λ (t : Transaction). Ascends 0 t.parts) (sym fresh.running) tt;
      blocks = subst (λ (t : Transaction). length t.parts ≤ MAX_RECORD_BLOCKS) (sym fresh.running) (omega arith);
      within = λ block some. absurd (true≢false (sym some ∙ ap (λ (t : Transaction). is_some (image_in t.parts block)) fresh.running));
      number = λ _. ap (λ (t : Transaction). t.number) fresh.running;
      fits = λ _ some. absurd (some (ap (λ (t : Transaction). t.handles) fresh.running));
      over = λ _. ap (λ (t : Transaction). t.handles) fresh.running;
    }

    pub fresh_steady : IsSteady c
    fresh_steady = record {
      may = λ some. absurd (true≢false (sym some ∙ ap is_some fresh.idle));
      runs = runs;
      journal = record { core = own.0 ∙ sym core_is; sizes_are = own.1 ∙ sym fresh.sizes_are; ready = own.2.ready; empty = own.2.empty };
      clear = ap (λ (k : Known). k.drawn) is_blank;
      read = λ b h at. absurd (holds_none b h at);
      idle = λ _. ap (λ (k : Known). k.held) is_blank;
      root = λ b held. absurd (free b held);
      possible = λ b held. absurd (free b held);
    }

-- the journal of a core at its place
pub area_at : {D : Type 0} (cores : List (CoreState D)) (i : ℕ) (c : CoreState D) → slice_get cores i ≡ Some c → slice_get (journals_of cores) i ≡ Some c.area
area_at {D} cores i c at = slice_get-map (λ (d : CoreState D). d.area) cores i ∙ ap (option_map (λ (d : CoreState D). d.area)) at

pub own_at : {D : Type 0} (cores : List (CoreState D)) (sizes : Numbers) → AreJournals sizes (journals_of cores) → (i : ℕ) (c : CoreState D) → slice_get cores i ≡ Some c → (c.area.core ≡ i) × (c.area.sizes ≡ sizes) × IsReadyToCommit c.area
own_at {D} cores sizes own i c at = subst (λ o. IfSome o (λ (area : AreaView D). (area.core ≡ i) × (area.sizes ≡ sizes) × IsReadyToCommit area)) (area_at cores i c at) (own i)

-- a history without operations
none_legal : (start : BlockState) → IsLegal start []
none_legal start = record { each = λ before later o is. absurd (let long = ap length is ∙ length-append before (o ∷ later) in omega arith) }

none_history : (Passes : BlockState → Type 0) (cores : ℕ) (start : BlockState) → Passes start → IsCacheHistory Passes cores start []
none_history Passes cores start passes = record {
  legal = none_legal start;
  cores_fit = All-nil (λ (o : Operation). o.core < cores);
  numbers_fit = All-nil (λ (o : Operation). o.number < 18446744073709551615);
  passes = λ i. subst (λ h. Passes (after start h)) (sym (take-nil {A = Operation} i)) passes;
}

-- all of them
module _ {D : Type 0} (cache : CacheParameters) (sizes : Numbers) (cores : List (CoreState D)) (fresh : AreFresh cache sizes cores) (same : cache.sizes ≡ sizes) (many : length cache.start ≡ sizes.blocks) where
  pub fresh_together : AreTogether cache cores
  fresh_together = record {
    of = all_at (IsOf cache) cores (λ i c at. fresh_of cache sizes i c (fresh i c at) same many);
    alone = all_at (λ (c : CoreState D). c.pass.view ≡ alone c.pass.view c.pass.core) cores (λ i c at. fresh_alone cache sizes i c (fresh i c at));
    apart = pairs_at (λ (c d : CoreState D). c.pass.core ≢ d.pass.core) cores (λ i j c d below here there is.
        let one = core_is cache sizes i c (fresh i c here) in let other = core_is cache sizes j d (fresh j d there) in omega arith);
  }

  pub fresh_rest : AreResting cache cores
  fresh_rest = record { together = fresh_together; idle = idle_all cache sizes cores fresh }

  fresh_has : ShowsSome cache.sizes cache.start → HasHistory cache cores []
  fresh_has shows = record {
    legal = none_history (ShowsSome cache.sizes) cache.cores cache.start shows;
    operations = λ i c at. sym (ap (λ (k : Known). k.operations) (is_blank cache sizes i c (fresh i c at)));
    loaded = λ i b c h at held. absurd (holds_none cache sizes i c (fresh i c at) b h held);
  }

  pub fresh_service : ShowsSome cache.sizes cache.start → length cores ≡ cache.cores → cache.cores ≡ cache.sizes.cores → AreJournals sizes (journals_of cores) → IsService cache cores []
  fresh_service shows all as_sizes own = record {
    together = fresh_together;
    many = all;
    as_sizes = as_sizes;
    numbered = λ i c at. core_is cache sizes i c (fresh i c at);
    steady = all_at IsSteady cores (λ i c at. fresh_steady cache sizes i c (fresh i c at) (own_at cores sizes own i c at));
    one_root = λ i j c d here there one other. absurd (free cache sizes i c (fresh i c here) _ one);
    has = fresh_has shows;
  }

-- a cache that is made with the sizes and the blocks that were recovered
module _ (cache : CacheParameters) (r : Restored) (sizes : Numbers) (made : IsMadeWith cache r.sizes.cores r.sizes r.blocks) (shows : ShowsSome r.sizes r.blocks) (is : sizes ≡ r.sizes) where
  pub made_sizes : cache.sizes ≡ sizes
  made_sizes = made.sizes_are ∙ sym is

  pub made_many : length cache.start ≡ sizes.blocks
  made_many = ap length made.start_is ∙ shows.1.shape.many ∙ ap (λ (n : Numbers). n.blocks) (sym is)

  pub made_shows : ShowsSome cache.sizes cache.start
  made_shows = subst (λ s. ShowsSome s cache.start) (sym made.sizes_are) (subst (λ b. ShowsSome r.sizes b) (sym made.start_is) shows)
