-- Whatever a line is answered, the cores go on, and the answer is right.
use Rattle.std.proofs.Common.{◌≡◌, inl, inr, ℕ, true, false, true≢false, is_some, List, [], ◌∷◌, ◌++◌, length, Option, Some, None, IsSome, slice_get, option_map, refl, sym, ap, ◌∙◌, subst}
use Rattle.std.specs.Ordering.{nat_cmp}
use Rattle.std.specs.FinMap as finmap
use Rattle.zj_dev.specs.Disk.{DiskView}
use Rattle.zj_dev.specs.declared.device.Device.TheVariants as devices
use Rattle.zj_history.specs.Operation.{Operation}
use Rattle.zj_history.specs.State.{after}
use Rattle.zj_layout.proofs.Follow.{none_some, some_is}
use Rattle.zj_script.specs.declared.line.Act.{Act}
use Rattle.zj_script.specs.declared.line.Act.TheVariants as acts
use Rattle.zj_script.specs.declared.answer.Form.{Form}
use Rattle.zj_script.specs.declared.answer.Form.TheVariants as forms
use Rattle.zj_script.specs.declared.answer.SyncForm.TheVariants as syncs
use Rattle.zj_tree.specs.declared.call.Call.{Call}
use Rattle.zj_tree.specs.declared.call.Reply.{Reply}
use Rattle.zj_turns.specs.Views.{Hold, Known}
use Rattle.zj_turns.specs.Passes.{CacheParameters, PassState, holds, mine}
use Rattle.zj_core.specs.Core.{CoreState, IsSteady}
use Rattle.zj_core.specs.Handle.{entries_held, root_block}
use Rattle.zj_core.specs.Committing.{Seals}
use Rattle.zj_core.specs.Steps.{emptied}
use Rattle.zj_tx.specs.Record.{Record}
use Rattle.zj_core.proofs.Knowing.{mine_now}
use Rattle.zj_session.specs.Answering.{Does, DoesIdle, DoesOpen, met_all}
use Rattle.zj_session.specs.Laws.{AnswersAreRight}
use Rattle.zj_session.specs.Played.{AreBlocksOf, IsHeldBy, IsRight, OpenHandle, Played, Says, blocks_of, handle_after, handle_behind, has_ticket, is_out_of_order, is_stopped, is_unbegun, takes_blocks}
use Rattle.zj_session.specs.Service.{IsServing, IsTold}
use Rattle.zj_session.proofs.Contents.{none_its}
use Rattle.zj_session.proofs.Growing.{done_same}
use Rattle.zj_session.proofs.Outcomes.{IsOutcome, busy_told, drawn_busy, drawn_done, drawn_grows, drawn_history, drawn_none, drawn_says, full_busy, missed, missed_after, no_root_after, ready_busy, ready_says, right_order, right_suited, taken_busy, taken_says}
use Rattle.zj_session.proofs.Roots.{none_taken, not_stopped, not_true}
use Rattle.zj_session.proofs.Serving.{GoesOn, is_serving, made_there, parted, parted_holds}
use Rattle.zj_session.proofs.Steps.{before, goes_empty, goes_full, goes_same, goes_taken, grows_none, handle, met, none_open, nothing_there, sizes_are, some_open, told}
use Rattle.zj_session.proofs.Views.{met_mine}

module _ {D : Type 0} (view : D → DiskView) (cache : CacheParameters) (old : List (CoreState D)) (played : List Played) (history : List Operation) (serving : IsServing cache old played history)
    (at : ℕ) (core gone : CoreState D) (at_place : slice_get old at ≡ Some core) (steady : IsSteady (parted core gone)) where
  abbrev Out : Act → Form → Type 0
  Out act form = IsOutcome cache old played history at core gone act form

  abbrev known : PassState
  known = before cache old played history serving at core gone at_place

  abbrev own : Option OpenHandle
  own = handle cache old played history serving at core gone at_place

  same_mine : mine known ≡ mine core.pass
  same_mine = met_mine old at known (met cache old played history serving at core gone at_place) core at_place

  was_told : core.begun ≡ option_map (λ h. h.call) own
  was_told = (told cache old played history serving at core gone at_place).begun

  abbrev IsRightNow : List Operation → Act → Form → Type 0
  IsRightNow later act form = IsRight core.sizes (after cache.start history) later (length history) (handle_after played) at act form

  abbrev own_told : IsTold core own
  own_told = told cache old played history serving at core gone at_place

  same_its : (next : Option OpenHandle) → next ≡ own → AreBlocksOf core.sizes (entries_held (mine core.pass)) next own_told.blocks
  same_its next is = subst (λ o. AreBlocksOf core.sizes (entries_held (mine core.pass)) o own_told.blocks) (sym is) own_told.its

  -- the core stays as it was
  stays : (act : Act) (form : Form) → has_ticket form ≡ false → handle_behind own act form ≡ own → gone ≡ met_all at old core → IsRightNow history act form → Out act form
  stays act form none behind is right = record {
    later = history;
    goes = goes_same cache old played history serving at core gone at_place (handle_behind own act form) (ap (λ (c : CoreState D). c.sizes) is)
        (ap (λ (c : CoreState D). mine c.pass) is ∙ same_mine)
        (ap (λ (c : CoreState D). c.begun) is ∙ was_told ∙ ap (option_map (λ (h : OpenHandle). h.call)) (sym behind))
        (same_its (handle_behind own act form) behind);
    grows = grows_none history form none;
    right = right;
  }

  -- an act that doesn't suit the core
  unsuited : (act : Act) → is_out_of_order own act ≡ true → handle_behind own act forms.Order ≡ own → gone ≡ met_all at old core → Out act forms.Order
  unsuited act apart behind is = stays act forms.Order refl behind is (right_order core.sizes (after cache.start history) history (length history) (handle_after played) at act apart)

  -- ---- no handle is open

  module _ (none : core.begun ≡ None) where
    shut : own ≡ None
    shut = none_open cache old played history serving at core gone at_place none

    call_drew : (call : Call) (ticket : ℕ) (reply : Reply) → DoesIdle view cache (met_all at old core) gone (acts.Call call) (forms.Drew ticket reply) → Out (acts.Call call) (forms.Drew ticket reply)
    call_drew call ticket reply d =
        let later = drawn_history cache old played history serving at core gone at_place core.running.number ticket reply call d.1 in
        record {
          later = later;
          goes = goes_empty cache old played history serving at core gone at_place own later (ap (λ (c : CoreState D). c.sizes) d.3)
              (drawn_done cache old played history serving at core gone at_place core.running.number ticket reply call d.1)
              (drawn_none cache old played history serving at core gone at_place core.running.number ticket reply call d.1)
              (ap (λ (c : CoreState D). c.begun) d.3 ∙ was_told)
              (ap is_stopped shut)
              (ap blocks_of shut);
          grows = drawn_grows cache old played history serving at core gone at_place core.running.number ticket reply call d.1;
          right = right_suited core.sizes (after cache.start history) later (length history) (handle_after played) at (acts.Call call) (forms.Drew ticket reply)
              (ap (λ o. is_out_of_order o (acts.Call call)) shut)
              (drawn_says cache old played history serving at core gone at_place core.running.number ticket reply call d.1 (acts.Call call) refl (λ h is. absurd (none_some (sym shut ∙ is))))
              (λ block holder _ _ held. absurd (drawn_busy cache old played history serving at core gone at_place core.running.number ticket reply call d.1 block holder held));
        }

    call_busy : (call : Call) (block holder : ℕ) → DoesIdle view cache (met_all at old core) gone (acts.Call call) (forms.Busy block holder) → Out (acts.Call call) (forms.Busy block holder)
    call_busy call block holder d = stays (acts.Call call) (forms.Busy block holder) refl refl d.1
        (right_suited core.sizes (after cache.start history) history (length history) (handle_after played) at (acts.Call call) (forms.Busy block holder)
        (ap (λ o. is_out_of_order o (acts.Call call)) shut)
        (refl, held)
        (λ other another _ _ told. busy_told cache old played history serving at core gone at_place block holder held other another told))
      where
        held : IsHeldBy core.sizes (handle_after played) at block holder
        held = missed_after cache old played history serving at core gone at_place call block holder d.0.middle d.0.taken d.0.cause

    -- the call has no room
    call_full : (call : Call) (have more : ℕ) → DoesIdle view cache (met_all at old core) gone (acts.Call call) (forms.TxFull have more) → Out (acts.Call call) (forms.TxFull have more)
    call_full call have more d = stays (acts.Call call) (forms.TxFull have more) refl refl d.1
        (right_suited core.sizes (after cache.start history) history (length history) (handle_after played) at (acts.Call call) (forms.TxFull have more)
        (ap (λ o. is_out_of_order o (acts.Call call)) shut)
        refl
        (λ block holder _ _ held. absurd (full_busy cache old played history serving at core gone at_place d.0.middle d.0.taken d.0.cause.root block holder held)))

    -- no handle is begun
    unbegun : (act : Act) (form : Form) → has_ticket form ≡ false → handle_behind own act form ≡ own → is_out_of_order own act ≡ false → gone ≡ met_all at old core
        → Says core.sizes (after cache.start history) history (length history) (handle_after played) at act form → (takes_blocks act ≡ true → is_unbegun form ≡ false → ⊥) → Out act form
    unbegun act form none behind suited is says apart = stays act form none behind is
        (right_suited core.sizes (after cache.start history) history (length history) (handle_after played) at act form suited says (λ block holder takes begun _. absurd (apart takes begun)))

    suits : (act : Act) → is_out_of_order None act ≡ false → is_out_of_order own act ≡ false
    suits act is = ap (λ o. is_out_of_order o act) shut ∙ is

    is_own : (failed : ℕ) → failed ≡ (met_all at old core).pass.core → failed ≡ at
    is_own failed is = is ∙ (met cache old played history serving at core gone at_place).core

    -- ---- a commit

    -- it changes nothing but the transaction that runs, and the journal
    committed : (form : Form) → has_ticket form ≡ false → handle_behind own acts.Commit form ≡ own → ((c : CoreState D) × (gone ≡ record (met_all at old core) { area = c.area; running = c.running }))
        → Says core.sizes (after cache.start history) history (length history) (handle_after played) at acts.Commit form → Out acts.Commit form
    committed form none behind changes says = record {
      later = history;
      goes = goes_same cache old played history serving at core gone at_place (handle_behind own acts.Commit form) (ap (λ (c : CoreState D). c.sizes) changes.1)
          (ap (λ (c : CoreState D). mine c.pass) changes.1 ∙ same_mine)
          (ap (λ (c : CoreState D). c.begun) changes.1 ∙ was_told ∙ ap (option_map (λ (h : OpenHandle). h.call)) (sym behind))
          (same_its (handle_behind own acts.Commit form) behind);
      grows = grows_none history form none;
      right = right_suited core.sizes (after cache.start history) history (length history) (handle_after played) at acts.Commit form
          (suits acts.Commit refl) says (λ _ _ takes _ _. absurd (true≢false (sym takes)));
    }

    sealed_next : (r : Record) → Seals view (met_all at old core) gone r → (c : CoreState D) × (gone ≡ record (met_all at old core) { area = c.area; running = c.running })
    sealed_next r seals = (gone, seals.next ∙ ap (λ t. record (met_all at old core) { area = gone.area; running = t }) (sym (ap (λ (c : CoreState D). c.running) seals.next)))

    begin_begun : (call : Call) → DoesIdle view cache (met_all at old core) gone (acts.Begin call) forms.Begun → Out (acts.Begin call) forms.Begun
    begin_begun call d = record {
      later = history;
      goes = goes_same cache old played history serving at core gone at_place (Some (record { call = call; taken = []; stopped = false })) (ap (λ (c : CoreState D). c.sizes) d.1)
          (ap (λ (c : CoreState D). mine c.pass) d.1 ∙ same_mine)
          (ap (λ (c : CoreState D). c.begun) d.1)
          (subst (λ l. AreBlocksOf core.sizes (entries_held (mine core.pass)) (Some (record { call = call; taken = []; stopped = false })) l) (sym (own_told.its.only (ap is_stopped shut) ∙ ap blocks_of shut))
          (none_its core.sizes (entries_held (mine core.pass)) (Some (record { call = call; taken = []; stopped = false })) refl refl));
      grows = grows_none history forms.Begun refl;
      right = right_suited core.sizes (after cache.start history) history (length history) (handle_after played) at (acts.Begin call) forms.Begun
          (ap (λ o. is_out_of_order o (acts.Begin call)) shut)
          ((call, refl), shut)
          (λ _ _ takes _ _. absurd (true≢false (sym takes)));
    }

    idle : (act : Act) (form : Form) → DoesIdle view cache (met_all at old core) gone act form → Out act form
    idle (acts.Call call) (forms.Drew ticket reply) d = call_drew call ticket reply d
    idle (acts.Call call) (forms.Busy block holder) d = call_busy call block holder d
    idle (acts.Call call) (forms.TxFull have more) d = call_full call have more d
    idle (acts.Call call) (forms.Full need free) d = unbegun (acts.Call call) (forms.Full need free) refl refl (suits (acts.Call call) refl) d.1 refl (λ _ begun. true≢false begun)
    idle (acts.Call call) (forms.Sync (syncs.Failed failed)) d = unbegun (acts.Call call) (forms.Sync (syncs.Failed failed)) refl refl (suits (acts.Call call) refl) d.1 (is_own failed d.0.1, inl refl) (λ _ begun. true≢false begun)
    idle (acts.Begin call) forms.Begun d = begin_begun call d
    idle (acts.Begin call) (forms.Full need free) d = unbegun (acts.Begin call) (forms.Full need free) refl refl (suits (acts.Begin call) refl) d.1 refl (λ _ begun. true≢false begun)
    idle (acts.Begin call) (forms.Sync (syncs.Failed failed)) d = unbegun (acts.Begin call) (forms.Sync (syncs.Failed failed)) refl refl (suits (acts.Begin call) refl) d.1 (is_own failed d.0.1, inl refl) (λ _ begun. true≢false begun)
    idle (acts.Call call) form d = absurd d.0
    idle (acts.Begin call) form d = absurd d.0
    idle acts.Commit (forms.Committed number) d = committed (forms.Committed number) refl refl (sealed_next d.1.sealed_as d.1.seals) refl
    idle acts.Commit forms.Empty d = committed forms.Empty refl refl (met_all at old core, d.2) refl
    idle acts.Commit (forms.Sync (syncs.Failed failed)) d = committed (forms.Sync (syncs.Failed failed)) refl refl (met_all at old core, d.2) (is_own failed d.1, inr refl)
    idle acts.Commit (forms.Sync (syncs.Fault device)) d = committed (forms.Sync (syncs.Fault device)) refl refl (sealed_next d.1.sealed_as d.1.seals)
        (d.0 ∙ ap (λ n. devices.Journal n) (met cache old played history serving at core gone at_place).core, refl)
    idle acts.Take forms.Order d = unsuited acts.Take (ap (λ o. is_out_of_order o acts.Take) shut) (subst (λ o. handle_behind o acts.Take forms.Order ≡ o) (sym shut) refl) d
    idle acts.Stop forms.Order d = unsuited acts.Stop (ap (λ o. is_out_of_order o acts.Stop) shut) refl d
    idle acts.Drop forms.Order d = unsuited acts.Drop (ap (λ o. is_out_of_order o acts.Drop) shut) refl d
    idle act form d = absurd d

  -- ---- a handle is open

  module _ (call : Call) (some : core.begun ≡ Some call) where
    opened : (h : OpenHandle) × (own ≡ Some h) × (h.call ≡ call)
    opened = some_open cache old played history serving at core gone at_place call some

    its_call : (h : OpenHandle) → own ≡ Some h → h.call ≡ call
    its_call h is = ap (λ (h : OpenHandle). h.call) (some_is (sym is ∙ opened.1)) ∙ opened.2

    abbrev Opens : Act → Form → Type 0
    Opens act form = DoesOpen cache (met_all at old core) gone call act form → Out act form

    take_took : (block : ℕ) → Opens acts.Take (forms.Took block)
    take_took block d = record {
      later = history;
      goes = subst (λ o. GoesOn cache old at core gone (handle_behind o acts.Take (forms.Took block)) history) (sym opened.1)
          (goes_taken cache old played history serving at core gone at_place steady call block d.0 opened.0 opened.1
          (ap (λ (c : CoreState D). c.sizes) d.1)
          (ap (λ (c : CoreState D). c.begun) d.1 ∙ some ∙ ap Some (sym opened.2)));
      grows = grows_none history (forms.Took block) refl;
      right = right_suited core.sizes (after cache.start history) history (length history) (handle_after played) at acts.Take (forms.Took block)
          (ap (λ o. is_out_of_order o acts.Take) opened.1)
          (refl, taken_says cache old played history serving at core gone at_place call block d.0 opened.0 opened.1 opened.2)
          (λ other holder _ _ held. absurd (taken_busy cache old played history serving at core gone at_place call block d.0 other holder held));
    }

    take_ready : Opens acts.Take forms.Ready
    take_ready d = stays acts.Take forms.Ready refl (subst (λ o. handle_behind o acts.Take forms.Ready ≡ o) (sym opened.1) refl) d.1
        (right_suited core.sizes (after cache.start history) history (length history) (handle_after played) at acts.Take forms.Ready
        (ap (λ o. is_out_of_order o acts.Take) opened.1)
        (refl, ready_says cache old played history serving at core gone at_place call d.0 opened.0 opened.1 opened.2)
        (λ block holder _ _ held. absurd (ready_busy cache old played history serving at core gone at_place call d.0 block holder held)))

    take_busy : (block holder : ℕ) → Opens acts.Take (forms.Busy block holder)
    take_busy block holder d = stays acts.Take (forms.Busy block holder) refl (subst (λ o. handle_behind o acts.Take (forms.Busy block holder) ≡ o) (sym opened.1) refl) d.1
        (right_suited core.sizes (after cache.start history) history (length history) (handle_after played) at acts.Take (forms.Busy block holder)
        (ap (λ o. is_out_of_order o acts.Take) opened.1)
        (refl, held)
        (λ other another _ _ told. busy_told cache old played history serving at core gone at_place block holder held other another told))
      where
        held : IsHeldBy core.sizes (handle_after played) at block holder
        held = missed cache old played history serving at core gone at_place call block holder d.0

    stop_drew : (ticket : ℕ) (reply : Reply) → Opens acts.Stop (forms.Drew ticket reply)
    stop_drew ticket reply d =
        let later = drawn_history cache old played history serving at core gone at_place core.running.number ticket reply call d.0 in
        record {
          later = later;
          goes = goes_empty cache old played history serving at core gone at_place None later (ap (λ (c : CoreState D). c.sizes) d.2)
              (drawn_done cache old played history serving at core gone at_place core.running.number ticket reply call d.0)
              (drawn_none cache old played history serving at core gone at_place core.running.number ticket reply call d.0)
              (ap (λ (c : CoreState D). c.begun) d.2)
              refl
              refl;
          grows = drawn_grows cache old played history serving at core gone at_place core.running.number ticket reply call d.0;
          right = right_suited core.sizes (after cache.start history) later (length history) (handle_after played) at acts.Stop (forms.Drew ticket reply)
              (ap (λ o. is_out_of_order o acts.Stop) opened.1)
              (drawn_says cache old played history serving at core gone at_place core.running.number ticket reply call d.0 acts.Stop (sym was_told ∙ some) its_call)
              (λ block holder _ _ held. absurd (drawn_busy cache old played history serving at core gone at_place core.running.number ticket reply call d.0 block holder held));
        }

    module _ (block holder : ℕ) (d : DoesOpen cache (met_all at old core) gone call acts.Stop (forms.Busy block holder)) where
      held_by : IsHeldBy core.sizes (handle_after played) at block holder
      held_by = missed_after cache old played history serving at core gone at_place call block holder gone.pass d.0 d.2

      -- nothing was taken in fact
      took_none : (b : ℕ) → holds gone.pass b ≡ false
      took_none b = not_true (holds gone.pass b) (λ held. true≢false (sym (has_root held) ∙ no_root))
        where
          has_root : holds gone.pass b ≡ true → holds gone.pass (root_block core.sizes) ≡ true
          has_root held = subst (λ s. holds gone.pass (root_block s) ≡ true) (ap (λ (c : CoreState D). c.sizes) d.3)
              (sym (parted_holds old at core gone at_place (root_block gone.sizes)) ∙ steady.root b (parted_holds old at core gone at_place b ∙ held))

          no_root : holds gone.pass (root_block core.sizes) ≡ false
          no_root = no_root_after cache old played history serving at core gone at_place call block holder gone.pass d.0 d.2

      stop_busy : Out acts.Stop (forms.Busy block holder)
      stop_busy = record {
        later = history;
        goes = goes_empty cache old played history serving at core gone at_place own history (ap (λ (c : CoreState D). c.sizes) d.3)
            (done_same cache old history serving.service at core at_place (mine gone.pass) (d.0.more.operations ∙ ap (λ (k : Known). k.operations) same_mine)
            (λ b h held. absurd (nothing_there (finmap.get (mine gone.pass).held b) h (took_none b) held)))
            took_none
            (ap (λ (c : CoreState D). c.begun) d.3 ∙ was_told)
            (not_stopped own (root_block core.sizes) held_by.not_own)
            (none_taken cache old played history serving core.sizes (sizes_are cache old played history serving at core gone at_place) at core at_place held_by.not_own);
        grows = grows_none history (forms.Busy block holder) refl;
        right = right_suited core.sizes (after cache.start history) history (length history) (handle_after played) at acts.Stop (forms.Busy block holder)
            (ap (λ o. is_out_of_order o acts.Stop) opened.1)
            (refl, held_by)
            (λ other another _ _ told. busy_told cache old played history serving at core gone at_place block holder held_by other another told);
      }

    stop_full : (have more : ℕ) → Opens acts.Stop (forms.TxFull have more)
    stop_full have more d = record {
      later = history;
      goes = subst (λ o. GoesOn cache old at core gone (handle_behind o acts.Stop (forms.TxFull have more)) history) (sym opened.1)
          (goes_full cache old played history serving at core gone at_place steady call d.0 d.1 d.2.root opened.0 opened.1 opened.2
          (ap (λ (c : CoreState D). c.sizes) d.3)
          (ap (λ (c : CoreState D). c.begun) d.3 ∙ some ∙ ap Some (sym opened.2)));
      grows = grows_none history (forms.TxFull have more) refl;
      right = right_suited core.sizes (after cache.start history) history (length history) (handle_after played) at acts.Stop (forms.TxFull have more)
          (ap (λ o. is_out_of_order o acts.Stop) opened.1)
          refl
          (λ block holder _ _ held. absurd (full_busy cache old played history serving at core gone at_place gone.pass d.0 d.2.root block holder held));
    }

    drop_dropped : Opens acts.Drop forms.Dropped
    drop_dropped d =
        let empty : mine gone.pass ≡ emptied (mine known) = ap (λ (c : CoreState D). mine c.pass) d ∙ mine_now known (emptied (mine known)) in
        let none : (b : ℕ) → finmap.get (mine gone.pass).held b ≡ None = λ b. ap (λ (k : Known). finmap.get k.held b) empty ∙ finmap.get-empty {X = Hold} nat_cmp b in
        record {
          later = history;
          goes = goes_empty cache old played history serving at core gone at_place None history (ap (λ (c : CoreState D). c.sizes) d)
              (done_same cache old history serving.service at core at_place (mine gone.pass) (ap (λ (k : Known). k.operations) empty ∙ ap (λ (k : Known). k.operations) same_mine)
              (λ b h held. absurd (none_some (sym (none b) ∙ held))))
              (λ b. ap is_some (none b))
              (ap (λ (c : CoreState D). c.begun) d)
              refl
              refl;
          grows = grows_none history forms.Dropped refl;
          right = right_suited core.sizes (after cache.start history) history (length history) (handle_after played) at acts.Drop forms.Dropped
              (ap (λ o. is_out_of_order o acts.Drop) opened.1)
              (refl, subst IsSome (sym opened.1) refl)
              (λ _ _ takes _ _. absurd (true≢false (sym takes)));
        }

    with_handle : (act : Act) (form : Form) → Opens act form
    with_handle acts.Take (forms.Took block) d = take_took block d
    with_handle acts.Take forms.Ready d = take_ready d
    with_handle acts.Take (forms.Busy block holder) d = take_busy block holder d
    with_handle acts.Stop (forms.Drew ticket reply) d = stop_drew ticket reply d
    with_handle acts.Stop (forms.Busy block holder) d = stop_busy block holder d
    with_handle acts.Stop (forms.TxFull have more) d = stop_full have more d
    with_handle acts.Drop forms.Dropped d = drop_dropped d
    with_handle (acts.Call other) forms.Order d = unsuited (acts.Call other) (ap (λ o. is_out_of_order o (acts.Call other)) opened.1) refl d
    with_handle (acts.Begin other) forms.Order d = unsuited (acts.Begin other) (ap (λ o. is_out_of_order o (acts.Begin other)) opened.1) refl d
    with_handle acts.Commit forms.Order d = unsuited acts.Commit (ap (λ o. is_out_of_order o acts.Commit) opened.1) refl d
    with_handle act form d = absurd d

  does_right : (begun : Option Call) → core.begun ≡ begun → (act : Act) (form : Form) → Does view cache (met_all at old core) gone begun act form → Out act form
  does_right None is act form d = idle is act form d
  does_right (Some call) is act form d = with_handle call is act form d

pub answers_are_right : (D : Type 0) → AnswersAreRight D
answers_are_right D view cache old new played history at line form core serving on there steady answered =
    let was = answered.core in
    let gone = answered.after in
    let at_place = answered.at_place in
    let rests : IsSteady (parted was gone) = subst (IsSteady {D = D}) (some_is (sym there ∙ ap (λ cores. slice_get cores at) answered.cores ∙ made_there old at was gone at_place)) steady in
    let out = does_right view cache old played history serving at was gone at_place rests was.begun refl line.act form answered.does in (
      out.later,
      subst (λ cores. IsServing cache cores (played ++ (line, form) ∷ []) out.later) (sym answered.cores) (is_serving cache old played history serving at was gone at_place line form on out.later out.goes rests),
      out.grows,
      subst (λ sizes. IsRight sizes (after cache.start history) out.later (length history) (handle_after played) at line.act form) (sym (sizes_are cache old played history serving at was gone at_place)) out.right,
    )
