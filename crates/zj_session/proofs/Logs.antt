-- The journals of cores go on to keep what their cores sealed, and what an answer says of the transactions is right.
use Rattle.std.proofs.Common.{◌≡◌, ◌≢◌, ℕ, true, false, cond, List, [], ◌∷◌, ◌++◌, length, Option, Some, None, IsSome, IsSomeAnd, slice_get, append-nil, refl, sym, ap, ◌∙◌, subst}
use Rattle.std.specs.FinMap as finmap
use Rattle.zj_block.specs.declared.numbers.Writer.{Writer}
use Rattle.zj_history.specs.Operation.{Operation}
use Rattle.zj_history.specs.State.{after}
use Rattle.zj_history.specs.Transactions.{operations_of}
use Rattle.zj_script.specs.declared.line.Act.{Act}
use Rattle.zj_script.specs.declared.line.Act.TheVariants as acts
use Rattle.zj_script.specs.declared.answer.Form.{Form}
use Rattle.zj_script.specs.declared.answer.Form.TheVariants as forms
use Rattle.zj_script.specs.declared.answer.SyncForm.TheVariants as syncs
use Rattle.zj_layout.proofs.Follow.{none_some, some_is}
use Rattle.zj_tree.specs.declared.call.Call.{Call}
use Rattle.zj_tree.specs.declared.call.Reply.{Reply}
use Rattle.zj_closure.specs.Found.{Journals}
use Rattle.zj_tx.specs.Laws.{FrozenStays, OneRecord, SealedIsFrozen}
use Rattle.zj_tx.specs.Running.{Transaction}
use Rattle.zj_turns.specs.CacheHistory.{operations_on}
use Rattle.zj_turns.specs.Views.{Known}
use Rattle.zj_turns.specs.Passes.{mine}
use Rattle.zj_core.specs.Core.{CoreState, IsSteady, Performed}
use Rattle.zj_core.specs.Steps.{with_operation}
use Rattle.zj_core.proofs.Knowing.{mine_is, mine_now}
use Rattle.zj_session.specs.Answering.{Does, DoesIdle, DoesOpen, IsUnbegun}
use Rattle.zj_session.specs.Crashes.{AreLogged, StandAsTold}
use Rattle.zj_session.specs.Laws.{GrowsWith, LogsAreRight}
use Rattle.zj_session.specs.Logging.{FitsRecord, IsRightOfLog, failed_after, is_committed, is_fault, running_after, tail_at}
use Rattle.zj_session.specs.Played.{OpenHandle, handle_after, has_ticket, is_out_of_order}
use Rattle.zj_session.specs.Service.{HasHistory, IsService}
use Rattle.zj_session.proofs.Sealing.{fits_record}
use Rattle.zj_session.proofs.Lists.{at_all, at_seam, mapped_none, mapped_some}
use Rattle.zj_session.proofs.LogNumbers.{is_last_on}
use Rattle.zj_session.proofs.LogKeeps.{empty_from, one_from}
use Rattle.zj_session.proofs.LogGrows.{LogCase, Logs, committed, drew, failed_to, met, new, next, next_there, none_running, own_operations, quiet, running_told, same_mine, some_running, steady, told}
use Rattle.zj_session.proofs.LogSays.{IsWholly, Right, Says, handle, middle_read, number_told, overfull, right_apart, right_begun, right_commit, right_failed, right_full, right_other, sound_told}

-- ---- by acts and answers

module _ {D : Type 0} (case : LogCase D) where
  open case use {sealed_frozen, view, cache, history, later, at, core, gone, serving, at_place}

  abbrev Out : Act → Form → Type 0
  Out act form = Logs case form × Right case act form

  -- nothing was done that is logged
  same_history : (form : Form) → has_ticket form ≡ false → GrowsWith history later form → later ≡ history
  same_history form none grows = grows.later_is ∙ ap (λ l. history ++ l) (empty_from grows.more (grows.count ∙ ap (λ t. cond t 1 0) none)) ∙ append-nil history

  abbrev IsSame : Type 0
  IsSame = (gone.area ≡ core.area) × (gone.sizes ≡ core.sizes) × (gone.running ≡ core.running)

  same_as : (c : CoreState D) → gone ≡ c → (gone.area ≡ c.area) × (gone.sizes ≡ c.sizes) × (gone.running ≡ c.running)
  same_as c is = (ap (λ (x : CoreState D). x.area) is, ap (λ (x : CoreState D). x.sizes) is, ap (λ (x : CoreState D). x.running) is)

  calm : (form : Form) → is_committed form ≡ false → is_fault form ≡ false → has_ticket form ≡ false → GrowsWith history later form → IsSame → Logs case form
  calm form no_commit no_fault none grows same = quiet case form no_commit no_fault (same_history form none grows) same.0 same.1 same.2

  -- an operation was added
  module _ (now : HasHistory cache (new case) later) (ticket : ℕ) (reply : Reply) (call : Call) (done : Performed cache core.sizes core.running.number (met case).pass gone.pass call (record { ticket = ticket; reply = reply }))
      (grows : GrowsWith history later (forms.Drew ticket reply)) where
    added : (o : Operation) × (grows.more ≡ o ∷ [])
    added = one_from grows.more grows.count

    later_is : later ≡ history ++ added.0 ∷ []
    later_is = grows.later_is ∙ ap (λ l. history ++ l) added.1

    on_then : operations_on at (history ++ added.0 ∷ []) ≡ operations_on at history ++ done.operation ∷ []
    on_then = ap (operations_on at) (sym later_is) ∙ now.operations at (next case) (next_there case) ∙ ap (λ (k : Known). k.operations) (mine_now core.pass (mine gone.pass))
        ∙ ap (λ (k : Known). k.operations) (mine_is (met case).pass gone.pass (with_operation (mine (met case).pass) done.operation) done.pass)
        ∙ ap (λ (k : Known). k.operations ++ done.operation ∷ []) (same_mine case)
        ∙ ap (λ (l : List Operation). l ++ done.operation ∷ []) (sym (own_operations case))

    last_added : (added.0.core ≡ at) × (added.0 ≡ done.operation)
    last_added = is_last_on at history added.0 done.operation on_then

    added_number : added.0.number ≡ core.running.number
    added_number = ap (λ (o : Operation). o.number) last_added.1 ∙ done.number_is

    ticket_is : ticket ≡ length history
    ticket_is = sym done.ticket ∙ sym (ap (λ (o : Operation). o.ticket) last_added.1) ∙ (now.legal.legal.each history [] added.0 later_is).ticket

    pub drawn : gone.area ≡ core.area → gone.sizes ≡ core.sizes → gone.running.number ≡ core.running.number → Logs case (forms.Drew ticket reply)
    drawn area sizes number = drew case (forms.Drew ticket reply) refl refl added.0 later_is last_added.0 added_number area sizes number

    pub drawn_says : (act : Act) → core.area.failed ≡ false → gone.running.number ≡ core.running.number → FitsRecord later (record { core = at; number = gone.running.number }) → Says case act (forms.Drew ticket reply)
    drawn_says act sound number fits = (
      sound_told case sound,
      subst (λ x. IsSomeAnd x (λ (o : Operation). (o.number ≡ (told case).number) × FitsRecord (history ++ o ∷ []) (told case)))
          (sym (ap (slice_get later) ticket_is ∙ ap (λ l. slice_get l (length history)) later_is ∙ at_seam history added.0)) (
            added_number ∙ number_told case sound,
            subst (λ (x : List Operation × Writer). FitsRecord x.0 x.1) (λ i. (later_is i, (ap (λ n. record { core = at; number = n }) number ∙ running_told case sound) i)) fits,
          ),
    )

  unbegun : (act : Act) (form : Form) → IsUnbegun (met case) form → gone ≡ met case → GrowsWith history later form → Out act form
  unbegun act (forms.Sync (syncs.Failed c)) cause is grows = (calm (forms.Sync (syncs.Failed c)) refl refl refl grows (same_as (met case) is), right_failed case act c cause.0 cause.1)
  unbegun act (forms.Full need free) cause is grows = (calm (forms.Full need free) refl refl refl grows (same_as (met case) is), right_full case act need free cause)
  unbegun act form cause is grows = absurd cause

  module _ (now : IsService cache (new case) later) where
    gone_read : IsWholly (mine gone.pass)
    gone_read b h there = (at_all IsSteady (new case) now.steady at (next case) (next_there case)).read b h (ap (λ (k : Known). finmap.get k.held b) (mine_now core.pass (mine gone.pass)) ∙ there)

    fits : FitsRecord later (record { core = at; number = gone.running.number })
    fits = fits_record sealed_frozen cache (new case) later now at (next case) (next_there case)

    -- no handle is open
    module _ (none : core.begun ≡ None) where
      shut : (handle case) ≡ None
      shut = mapped_none (λ (h : OpenHandle). h.call) (handle case) (sym (serving.told at core at_place).begun ∙ none)

      unsuited : (act : Act) → is_out_of_order (handle case) act ≡ true → gone ≡ met case → GrowsWith history later forms.Order → Says case act forms.Order → Out act forms.Order
      unsuited act apart is grows says = (calm forms.Order refl refl refl grows (same_as (met case) is), right_apart case act forms.Order apart says)

      idle : (act : Act) (form : Form) → DoesIdle view cache (met case) gone act form → GrowsWith history later form → Out act form
      idle (acts.Call call) (forms.Drew ticket reply) d grows = (
        drawn now.has ticket reply call d.1 grows (ap (λ (c : CoreState D). c.area) d.3) (ap (λ (c : CoreState D). c.sizes) d.3) (ap (λ (t : Transaction). t.number) d.2),
        right_begun case (acts.Call call) (forms.Drew ticket reply) d.0 (drawn_says now.has ticket reply call d.1 grows (acts.Call call) d.0.sound (ap (λ (t : Transaction). t.number) d.2) fits),
      )
      idle (acts.Call call) (forms.Busy block holder) d grows = (calm (forms.Busy block holder) refl refl refl grows (same_as (met case) d.1), right_begun case (acts.Call call) (forms.Busy block holder) d.0.may tt)
      idle (acts.Call call) (forms.TxFull have more) d grows = (
        calm (forms.TxFull have more) refl refl refl grows (same_as (met case) d.1),
        right_begun case (acts.Call call) (forms.TxFull have more) d.0.may (
          sound_told case d.0.may.sound,
          overfull case d.0.middle d.0.taken call d.0.foot have more d.0.cause (middle_read cache (met case) call have more d.0) (λ h is. absurd (none_some (sym shut ∙ is))) d.0.may.sound (acts.Call call) refl,
        ),
      )
      idle (acts.Call call) form d grows = unbegun (acts.Call call) form d.0 d.1 grows
      idle (acts.Begin call) forms.Begun d grows = (calm forms.Begun refl refl refl grows (same_as (record (met case) { begun = Some call }) d.1), right_begun case (acts.Begin call) forms.Begun d.0 (sound_told case d.0.sound))
      idle (acts.Begin call) form d grows = unbegun (acts.Begin call) form d.0 d.1 grows
      idle acts.Commit (forms.Committed number) d grows = (
        committed case number d.1 (same_history (forms.Committed number) refl grows),
        right_commit case (forms.Committed number) d.1.seals.sound (sound_told case d.1.seals.sound, d.0 ∙ number_told case d.1.seals.sound, subst (λ t. operations_of history t ≢ []) (running_told case d.1.seals.sound) (some_running case d.1.seals.some)),
      )
      idle acts.Commit forms.Empty d grows = (
        calm forms.Empty refl refl refl grows (same_as (met case) d.2),
        right_commit case forms.Empty d.0 (sound_told case d.0, ap (operations_of history) (sym (running_told case d.0)) ∙ none_running case d.1),
      )
      idle acts.Commit (forms.Sync (syncs.Failed c)) d grows = (calm (forms.Sync (syncs.Failed c)) refl refl refl grows (same_as (met case) d.2), right_failed case acts.Commit c d.0 d.1)
      idle acts.Commit (forms.Sync (syncs.Fault device)) d grows = (
        failed_to case (forms.Sync (syncs.Fault device)) refl d.1 (same_history (forms.Sync (syncs.Fault device)) refl grows),
        right_commit case (forms.Sync (syncs.Fault device)) d.1.seals.sound (sound_told case d.1.seals.sound, subst (λ t. operations_of history t ≢ []) (running_told case d.1.seals.sound) (some_running case d.1.seals.some)),
      )
      idle acts.Take forms.Order d grows = unsuited acts.Take (ap (λ o. is_out_of_order o acts.Take) shut) d grows tt
      idle acts.Stop forms.Order d grows = unsuited acts.Stop (ap (λ o. is_out_of_order o acts.Stop) shut) d grows tt
      idle acts.Drop forms.Order d grows = unsuited acts.Drop (ap (λ o. is_out_of_order o acts.Drop) shut) d grows tt
      idle act form d grows = absurd d

    -- a handle is open
    module _ (call : Call) (some : core.begun ≡ Some call) where
      opened : (h : OpenHandle) × (handle case ≡ Some h) × (h.call ≡ call)
      opened = mapped_some (λ (h : OpenHandle). h.call) (handle case) call (sym (serving.told at core at_place).begun ∙ some)

      sound : core.area.failed ≡ false
      sound = ((steady case).may (subst IsSome (sym some) refl)).sound

      held : (act : Act) → is_out_of_order (handle case) act ≡ true → gone ≡ met case → GrowsWith history later forms.Order → Says case act forms.Order → Out act forms.Order
      held act apart is grows says = (calm forms.Order refl refl refl grows (same_as (met case) is), right_apart case act forms.Order apart says)

      open_does : (act : Act) (form : Form) → DoesOpen cache (met case) gone call act form → GrowsWith history later form → Out act form
      open_does acts.Take (forms.Took block) d grows = (calm (forms.Took block) refl refl refl grows (same_as (record (met case) { pass = gone.pass }) d.1), right_other case acts.Take (forms.Took block) refl refl tt)
      open_does acts.Take forms.Ready d grows = (calm forms.Ready refl refl refl grows (same_as (met case) d.1), right_other case acts.Take forms.Ready refl refl tt)
      open_does acts.Take (forms.Busy block holder) d grows = (calm (forms.Busy block holder) refl refl refl grows (same_as (met case) d.1), right_other case acts.Take (forms.Busy block holder) refl refl tt)
      open_does acts.Stop (forms.Drew ticket reply) d grows = (
        drawn now.has ticket reply call d.0 grows (ap (λ (c : CoreState D). c.area) d.2) (ap (λ (c : CoreState D). c.sizes) d.2) (ap (λ (t : Transaction). t.number) d.1),
        right_other case acts.Stop (forms.Drew ticket reply) refl refl (drawn_says now.has ticket reply call d.0 grows acts.Stop sound (ap (λ (t : Transaction). t.number) d.1) fits),
      )
      open_does acts.Stop (forms.Busy block holder) d grows = (calm (forms.Busy block holder) refl refl refl grows (same_as (record (met case) { pass = gone.pass }) d.3), right_other case acts.Stop (forms.Busy block holder) refl refl tt)
      open_does acts.Stop (forms.TxFull have more) d grows = (
        calm (forms.TxFull have more) refl refl refl grows (same_as (record (met case) { pass = gone.pass }) d.3),
        right_other case acts.Stop (forms.TxFull have more) refl refl (sound_told case sound, overfull case gone.pass d.0 call d.1 have more d.2 gone_read (λ h is. ap (λ (o : OpenHandle). o.call) (some_is (sym is ∙ opened.1)) ∙ opened.2) sound acts.Stop (sym (serving.told at core at_place).begun ∙ some)),
      )
      open_does acts.Drop forms.Dropped d grows = (calm forms.Dropped refl refl refl grows (ap (λ (c : CoreState D). c.area) d, ap (λ (c : CoreState D). c.sizes) d, ap (λ (c : CoreState D). c.running) d), right_other case acts.Drop forms.Dropped refl refl tt)
      open_does (acts.Call other) forms.Order d grows = held (acts.Call other) (ap (λ o. is_out_of_order o (acts.Call other)) opened.1) d grows tt
      open_does (acts.Begin other) forms.Order d grows = held (acts.Begin other) (ap (λ o. is_out_of_order o (acts.Begin other)) opened.1) d grows tt
      open_does acts.Commit forms.Order d grows = held acts.Commit (ap (λ o. is_out_of_order o acts.Commit) opened.1) d grows tt
      open_does act form d grows = absurd d

    does : (begun : Option Call) → core.begun ≡ begun → (act : Act) (form : Form) → Does view cache (met case) gone begun act form → GrowsWith history later form → Out act form
    does None none act form d grows = idle none act form d grows
    does (Some call) some act form d grows = open_does call some act form d grows

pub logs_are_right : FrozenStays → OneRecord → SealedIsFrozen → (D : Type 0) → LogsAreRight D
logs_are_right stays one sealed_frozen D view cache from tails standing old _ played history later sealed at line form _ serving logged stand on _ _ answered now grows =
    let case : LogCase D = record {
      stays = stays;
      one = one;
      sealed_frozen = sealed_frozen;
      view = view;
      cache = cache;
      from = from;
      tails = tails;
      standing = standing;
      old = old;
      played = played;
      history = history;
      later = later;
      sealed = sealed;
      at = at;
      line = line;
      core = answered.core;
      gone = answered.after;
      serving = serving;
      logged = logged;
      stand = stand;
      on = on;
      at_place = answered.at_place;
    } in
    let out = does case (subst (λ (cores : List (CoreState D)). IsService cache cores later) answered.cores now.service) answered.core.begun refl line.act form answered.does grows in
    subst (λ (cores : List (CoreState D)). (then_sealed : Journals) × AreLogged view from tails cores later then_sealed × StandAsTold standing (played ++ (line, form) ∷ []) cores
    × IsRightOfLog cache.sizes (tail_at tails at) (after cache.start history) history later (running_after standing played at) (failed_after standing played at) (handle_after played at) line.act form)
    (sym answered.cores) (out.0.0, out.0.1, out.0.2, out.1)
