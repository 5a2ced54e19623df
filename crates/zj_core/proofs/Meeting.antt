-- Cores that meet and part: each keeps what it knows of itself.
use Rattle.std.proofs.Common.{◌≡◌, ◌≢◌, Bool, List, ℕ, Option, sym, ap, ◌∙◌, subst}
use Rattle.std.specs.Option.{unwrap_or}
use Rattle.std.specs.FinMap as finmap
use Rattle.zj_block.specs.Lists.{Entries}
use Rattle.zj_block.specs.Sizes.{Numbers}
use Rattle.zj_area.specs.Journal.{AreaView}
use Rattle.zj_tx.specs.Running.{HasNoted, Transaction}
use Rattle.zj_turns.specs.Views.{Known, View, blank, joined, known_in, without}
use Rattle.zj_turns.specs.Passes.{IsPeer, PassState, mine, with_away, with_view}
use Rattle.zj_turns.proofs.Maps.{get_else, get_left}
use Rattle.zj_core.specs.declared.steps.Handle.{Handle}
use Rattle.zj_core.specs.Core.{IsCore, noted_by, taken_by}
use Rattle.zj_core.specs.Handle.{HasTaken, content_held, writers_held}
use Rattle.zj_core.proofs.Running.{journal_on, may_on, runs_on, shown}

-- a pass of the same core that knows the same of it
module _ (p q : PassState) (core : q.core ≡ p.core) (same : finmap.get q.view.known q.core ≡ finmap.get p.view.known p.core) where
  mine_same : mine q ≡ mine p
  mine_same = ap (λ (o : Option Known). unwrap_or o blank) same

  taken_same : (sizes : Numbers) (found : Entries) (follows : List ℕ) → HasTaken sizes p found follows → HasTaken sizes q found follows
  taken_same sizes found follows has = record {
    known = (has.known.0, same ∙ has.known.1);
    clear = ap (λ (k : Known). k.drawn) mine_same ∙ has.clear;
    read = λ b h at. has.read b h (ap (λ (k : Known). finmap.get k.held b) (sym mine_same) ∙ at);
    same = λ b. has.same b ∙ ap (λ (k : Known). content_held k b) (sym mine_same);
    begun = has.begun;
    noted = subst (λ (k : Known). HasNoted follows (writers_held k)) (sym mine_same) has.noted;
  }

  core_same : {D : Type 0} (area : AreaView D) (sizes : Numbers) (handle : Option Handle) (running : Transaction) → IsCore (shown p area sizes handle running) handle → IsCore (shown q area sizes handle running) handle
  core_same area sizes handle running keeps =
      let operations = ap (λ (k : Known). k.operations) mine_same in
      record {
        has = taken_same sizes (taken_by handle) (noted_by handle) keeps.has;
        may = λ some. may_on p q area sizes handle handle running core operations (keeps.may some);
        runs = runs_on p q area sizes handle handle running core operations keeps.runs;
        journal = journal_on p q area sizes handle handle running running core keeps.journal;
      }

-- passes that are peers, under other names
peers : (p q p' q' : PassState) (away : Bool) → p ≡ p' → q ≡ q' → IsPeer p' q' away → IsPeer p q away
peers p q p' q' away a b peer = subst (λ (y : PassState × PassState). IsPeer y.0 y.1 away) (λ i. (sym a i, sym b i)) peer

module _ {D : Type 0} (p q r : PassState) (area : AreaView D) (sizes : Numbers) (handle : Option Handle) (running : Transaction) (keeps : IsCore (shown p area sizes handle running) handle) (p' q' : PassState) (away : Bool) (a : p ≡ p') (b : q ≡ q') (peer : IsPeer p' q' away) where
  other_core : q.core ≢ p.core
  other_core = (peers p q p' q' away a b peer).apart

  other_own : q.view.own ≢ p.core
  other_own e = other_core (sym (ap (λ (v : View). v.own) (peers p q p' q' away a b peer).alone) ∙ e)

  pub core_meets : r ≡ with_view p (joined p.view q.view) → IsCore (shown r area sizes handle running) handle
  core_meets is = core_same p r
      (ap (λ (x : PassState). x.core) is)
      (ap (λ (x : PassState). finmap.get x.view.known x.core) is ∙ get_else p.view.known q.view.own p.core (known_in q.view q.view.own) (λ e. other_own (sym e)))
      area sizes handle running keeps

  pub core_parts : r ≡ with_view p (without p.view q.core) → IsCore (shown r area sizes handle running) handle
  core_parts is = core_same p r
      (ap (λ (x : PassState). x.core) is)
      (ap (λ (x : PassState). finmap.get x.view.known x.core) is ∙ get_left p.view.known q.core p.core (λ e. other_core (sym e)))
      area sizes handle running keeps

pub core_moves : {D : Type 0} (p r : PassState) (area : AreaView D) (sizes : Numbers) (handle : Option Handle) (running : Transaction) (away : Bool) → IsCore (shown p area sizes handle running) handle → r ≡ with_away p away → IsCore (shown r area sizes handle running) handle
core_moves p r area sizes handle running away keeps is = core_same p r (ap (λ (x : PassState). x.core) is) (ap (λ (x : PassState). finmap.get x.view.known x.core) is) area sizes handle running keeps
