-- What an answer says of the transaction that runs on its core is right.
use Rattle.std.proofs.Common.{◌≡◌, ◌≢◌, ◌⊎◌, ⊎_elim, ℕ, ◌+◌, ◌==◌, ◌||◌, Bool, true, false, true≢false, cond, is_some, List, length, get_or, Option, Some, None, IfSome, slice_get, refl, sym, ap, ◌∙◌, subst, arith}
use Rattle.std.specs.FinMap as finmap
use Rattle.std.proofs.lemmas.Option.{slice_get-get_or}
use Rattle.zj_block.specs.Sizes.{Numbers}
use Rattle.zj_block.specs.declared.numbers.Tail.{Tail}
use Rattle.zj_history.specs.State.{after}
use Rattle.zj_history.specs.Transactions.{operations_of}
use Rattle.zj_layout.proofs.Follow.{none_some, some_is}
use Rattle.zj_script.specs.declared.line.Act.{Act}
use Rattle.zj_script.specs.declared.line.Act.TheVariants as acts
use Rattle.zj_script.specs.declared.answer.Form.{Form}
use Rattle.zj_script.specs.declared.answer.Form.TheVariants as forms
use Rattle.zj_script.specs.declared.answer.SyncForm.TheVariants as syncs
use Rattle.zj_tree.specs.declared.call.Call.{Call}
use Rattle.zj_dirs.specs.Possible.{Always}
use Rattle.zj_inode.specs.Footprint.{Foot}
use Rattle.zj_inode.specs.Performs.{Performs}
use Rattle.zj_area.specs.Journal.{fullness}
use Rattle.zj_area.specs.declared.area.Full.{Full}
use Rattle.zj_tx.specs.Frozen.{IsFrozen}
use Rattle.zj_tx.specs.Record.{Record, record_of}
use Rattle.zj_tx.specs.Running.{IsSealed, recorded_bound}
use Rattle.zj_turns.specs.Views.{Hold, Known}
use Rattle.zj_turns.specs.Passes.{CacheParameters, IsLoadedAfter, PassState, holds, mine}
use Rattle.zj_core.specs.Core.{CoreState, HasNoRoom, IsBeginCause, IsHeldUp, MayBegin}
use Rattle.zj_core.specs.declared.fault.BeginFault.TheVariants as begins
use Rattle.zj_core.specs.declared.fault.StopFault.TheVariants as stops
use Rattle.zj_core.specs.Handle.{IsRead, TakesFor, entries_held, root_block}
use Rattle.zj_core.specs.Steps.{TakesMore}
use Rattle.zj_core.proofs.Needing.{held_more, held_under, performs_same}
use Rattle.zj_session.specs.Logging.{AreSealed, IsFull, IsOverfull, IsRightOfLog, SaysOfLog, end_behind, is_commit, tail_at}
use Rattle.zj_session.specs.Played.{AreBlocksOf, OpenHandle, begins_handle, blocks_of, call_made, contents_in, handle_after, is_in, is_out_of_order, is_stopped}
use Rattle.zj_session.specs.Service.{IsTold}
use Rattle.zj_session.proofs.Contents.{blocks_found, blocks_held, blocks_left, held_in, same_contents}
use Rattle.zj_session.proofs.Growing.{done_taken}
use Rattle.zj_session.proofs.Sealing.{is_sealed, sealed_as}
use Rattle.zj_session.proofs.LogKeeps.{rested, same_sealed}
use Rattle.zj_session.proofs.LogGrows.{LogCase, failed, failed_told, frozen_now, has, log, met, no_handles, none_running, records, running_told, same_mine, steady, told, was_of}

-- each block that a core holds was loaded whole
abbrev pub IsWholly : Known → Type 0
IsWholly k = (b : ℕ) (h : Hold) → finmap.get k.held b ≡ Some h → IsRead h

-- What a call that has no room took on its way was loaded whole.
pub middle_read : {D : Type 0} (cache : CacheParameters) (c : CoreState D) (call : Call) (have more : ℕ) (held_up : IsHeldUp cache c call (stops.TxFull have more)) → IsWholly (mine held_up.middle)
middle_read cache c call have more held_up = held_up.cause.read

module _ {D : Type 0} (case : LogCase D) where
  open case use {one, cache, tails, old, played, history, later, sealed, at, core, serving, stand, at_place}

  -- ---- what an answer says

  abbrev pub handle : Option OpenHandle
  handle = handle_after played at

  abbrev pub Says : Act → Form → Type 0
  Says act form = SaysOfLog cache.sizes (tail_at tails at) (after cache.start history) history later (told case) (failed case) handle act form

  abbrev pub Right : Act → Form → Type 0
  Right act form = IsRightOfLog cache.sizes (tail_at tails at) (after cache.start history) history later (told case) (failed case) handle act form

  pub sound_told : core.area.failed ≡ false → failed case ≡ false
  sound_told sound = failed_told case ∙ sound

  module _ (sound : core.area.failed ≡ false) where
    pub number_told : core.running.number ≡ (told case).number
    number_told = (stand at core at_place).number sound

    own_end : end_behind cache.sizes (tail_at tails at) (records case) ≡ core.area.end
    own_end = ap (λ t. end_behind cache.sizes t (records case)) (sym (log case).tail) ∙ ap (λ n. end_behind n core.area.tail (records case)) ((was_of case).sizes ∙ sym (steady case).journal.sizes_are) ∙ sym ((log case).keeps.end sound)

    own_sealed : AreSealed cache.sizes at (tail_at tails at) history (records case)
    own_sealed = subst (λ t. AreSealed cache.sizes at t history (records case)) (log case).tail (subst (λ n. AreSealed n at core.area.tail history (records case)) (sym (was_of case).sizes) (log case).sealed)

    own_fullness : fullness core.area.sizes core.area.tail core.area.end ≡ fullness cache.sizes (tail_at tails at) (end_behind cache.sizes (tail_at tails at) (records case))
    own_fullness = ap (λ n. fullness n core.area.tail core.area.end) ((steady case).journal.sizes_are ∙ sym (was_of case).sizes) ∙ ap (λ t. fullness cache.sizes t core.area.end) (log case).tail ∙ ap (fullness cache.sizes (tail_at tails at)) (sym own_end)

    -- the journal is told to be full where it is
    is_full : (need free : ℕ) → core.running.handles ≡ 0 → fullness core.area.sizes core.area.tail core.area.end ≡ Some (record { need = need; free = free }) → IsFull cache.sizes (tail_at tails at) history (told case) need free
    is_full need free none lacks = record {
      none = ap (operations_of history) (sym (running_told case sound)) ∙ none_running case none;
      records = records case;
      sealed = own_sealed;
      all = sym number_told ∙ (log case).number ∙ ap (λ (t : Tail). t.number + length (records case)) (log case).tail;
      lacks = sym own_fullness ∙ lacks;
    }

    full_is : (need free : ℕ) → IsFull cache.sizes (tail_at tails at) history (told case) need free → (core.running.handles ≡ 0) × (fullness core.area.sizes core.area.tail core.area.end ≡ Some (record { need = need; free = free }))
    full_is need free f =
        let many : length (records case) ≡ length f.records = (let a = (log case).number in let b = number_told in let c = f.all in let t = ap (λ (x : Tail). x.number) (log case).tail in omega (arith, a, b, c, t)) in (
          no_handles case (ap (operations_of history) (running_told case sound) ∙ f.none),
          own_fullness ∙ ap (λ rs. fullness cache.sizes (tail_at tails at) (end_behind cache.sizes (tail_at tails at) rs)) (same_sealed one cache.sizes at (tail_at tails at) history (records case) f.records own_sealed f.sealed many) ∙ f.lacks,
        )

  -- an act that doesn't suit the core, and one that neither begins a handle nor commits
  pub right_apart : (act : Act) (form : Form) → is_out_of_order handle act ≡ true → Says act form → Right act form
  right_apart act form apart says = record {
    says = says;
    failing = λ suits does fails. absurd (true≢false (sym apart ∙ suits));
    full = λ suits begins sound need free is. absurd (true≢false (sym apart ∙ suits));
  }

  pub right_other : (act : Act) (form : Form) → begins_handle act ≡ false → is_commit act ≡ false → Says act form → Right act form
  right_other act form no_begin no_commit says = record {
    says = says;
    failing = λ suits does fails. absurd (true≢false (sym does ∙ ap (λ b. b || is_commit act) no_begin ∙ no_commit));
    full = λ suits begins sound need free is. absurd (true≢false (sym begins ∙ no_begin));
  }

  -- one that may begin a handle
  pub right_begun : (act : Act) (form : Form) → MayBegin (met case) → Says act form → Right act form
  right_begun act form may says = record {
    says = says;
    failing = λ suits does fails. absurd (true≢false (sym fails ∙ sound_told may.sound));
    full = λ suits begins sound need free is. let f = full_is may.sound need free is in absurd (none_some (sym (may.fits f.0) ∙ f.1));
  }

  pub right_commit : (form : Form) → core.area.failed ≡ false → Says acts.Commit form → Right acts.Commit form
  right_commit form sound says = record {
    says = says;
    failing = λ suits does fails. absurd (true≢false (sym fails ∙ sound_told sound));
    full = λ suits begins sound need free is. absurd (true≢false (sym begins));
  }

  pub right_failed : (act : Act) (c : ℕ) → core.area.failed ≡ true → c ≡ (met case).pass.core → Right act (forms.Sync (syncs.Failed c))
  right_failed act c fails is = record {
    says = failed_told case ∙ fails;
    failing = λ _ _ _. ap (λ n. forms.Sync (syncs.Failed n)) (is ∙ (has case).core);
    full = λ _ _ sound need free _. absurd (true≢false (sym fails ∙ sym (failed_told case) ∙ sound));
  }

  pub right_full : (act : Act) (need free : ℕ) → IsBeginCause (met case) (begins.JournalFull need free) → Right act (forms.Full need free)
  right_full act need free cause = record {
    says = (sound_told cause.0, is_full cause.0 need free cause.2 cause.3);
    failing = λ _ _ fails. absurd (true≢false (sym fails ∙ sound_told cause.0));
    full = λ _ _ _ other_need other_free is. ap (λ (w : Full). forms.Full w.need w.free) (some_is (sym cause.3 ∙ (full_is cause.0 other_need other_free is).1));
  }

  -- ---- a transaction that would have too many blocks

  module _ (p : PassState) (took : TakesMore cache (met case).pass p) (call : Call) (foot : TakesFor core.sizes (met case).pass p call) (have more : ℕ) (lacks : HasNoRoom core.sizes p core.running call have more) (read : IsWholly (mine p))
      (same_call : (h : OpenHandle) → handle ≡ Some h → h.call ≡ call) where
    -- what was taken on the way is as the history left it
    left_so : (b : ℕ) (h : Hold) → finmap.get (mine p).held b ≡ Some h → IsLoadedAfter cache.start history b h
    left_so b h held = ⊎_elim
        (λ same. serving.service.has.loaded at b core h at_place (ap (λ (k : Known). finmap.get k.held b) (sym (same_mine case) ∙ ap mine (sym same)) ∙ held))
        (λ knows. (done_taken cache old history serving.service at core at_place (met case).pass (has case) p (mine p) took.only knows took.more.operations
        (took.more.drawn ∙ ap (λ (k : Known). k.drawn) (same_mine case) ∙ (steady case).clear) read).own_loaded b h held)
        took.knows

    abbrev blocks : List ℕ
    blocks = blocks_held p

    own_told : IsTold core handle
    own_told = serving.told at core at_place

    kept : (b : ℕ) → holds (met case).pass b ≡ true → holds p b ≡ true
    kept b held = by (finmap.get (mine (met case).pass).held b) refl held
      where
        by : (o : Option Hold) → finmap.get (mine (met case).pass).held b ≡ o → is_some o ≡ true → holds p b ≡ true
        by None is some = absurd (true≢false (sym some))
        by (Some hold) is some = ap is_some (took.more.kept b hold is)

    was_held : (b : ℕ) → holds (met case).pass b ≡ is_in b own_told.blocks
    was_held b = ap (λ (k : Known). finmap.contains_key k.held b) (same_mine case) ∙ own_told.held b

    -- the blocks that the handle had before it has still
    its_before : AreBlocksOf core.sizes (entries_held (mine p)) handle own_told.blocks
    its_before = blocks_found core.sizes (entries_held (mine (met case).pass)) (entries_held (mine p)) handle own_told.blocks
        (λ b c is. held_under (mine p) b ∙ held_more (mine (met case).pass) (mine p) took.more b c (sym (held_under (mine (met case).pass) b) ∙ is))
        (subst (λ (k : Known). AreBlocksOf core.sizes (entries_held k) handle own_told.blocks) (sym (same_mine case)) own_told.its)

    -- its call may take each that was not taken one by one
    its : AreBlocksOf core.sizes (entries_held (mine p)) (Some (record { call = call; taken = blocks_of handle; stopped = true })) blocks
    its = record {
      only = λ is. absurd (true≢false is);
      taken = λ b has. sym (held_in p b) ∙ kept b (was_held b ∙ its_before.taken b has);
      root = λ _. sym (held_in p (root_block core.sizes)) ∙ lacks.root;
      foot = λ b there without. its_foot b (held_in p b ∙ there) without (holds (met case).pass b) refl;
    }
      where
        of_handle : (b : ℕ) (o : Option OpenHandle) → handle ≡ o → IfSome o (λ h. Always core.sizes (entries_held (mine p)) (λ image. Foot core.sizes image h.call b)) → is_in b own_told.blocks ≡ true
            → Always core.sizes (entries_held (mine p)) (λ image. Foot core.sizes image call b)
        of_handle b None is none there = absurd (true≢false (sym there ∙ ap (is_in b) (own_told.its.only (ap is_stopped is) ∙ ap blocks_of is)))
        of_handle b (Some h) is always there = subst (λ (c : Call). Always core.sizes (entries_held (mine p)) (λ image. Foot core.sizes image c b)) (same_call h is) always

        its_foot : (b : ℕ) → holds p b ≡ true → is_in b (blocks_of handle) ≡ false → (t : Bool) → holds (met case).pass b ≡ t → Always core.sizes (entries_held (mine p)) (λ image. Foot core.sizes image call b)
        its_foot b held without false was = foot b held was
        its_foot b held without true was = of_handle b handle refl (its_before.foot b (sym (was_held b) ∙ was) without) (sym (was_held b) ∙ was)

    performed : Performs core.sizes (contents_in (after cache.start history) blocks) lacks.written call lacks.reply
    performed = performs_same core.sizes (entries_held (mine p)) (contents_in (after cache.start history) blocks) (same_contents cache.start history p blocks (held_in p) left_so) lacks.written call lacks.reply lacks.performs

    pub overfull : core.area.failed ≡ false → (act : Act) → call_made act handle ≡ Some call → IsOverfull cache.sizes (after cache.start history) history (told case) handle act have more
    overfull sound act made = record {
      sealed_now = sealed_as core.running;
      ascending = (steady case).runs.ascending;
      frozen = subst (λ t. IsFrozen history t (sealed_as core.running)) (running_told case sound) (frozen_now case (sealed_as core.running) (is_sealed core.running));
      have_is = lacks.have_is;
      call = call;
      call_is = made;
      blocks = blocks;
      its = subst (λ (n : Numbers). AreBlocksOf n (contents_in (after cache.start history) blocks) (Some (record { call = call; taken = blocks_of handle; stopped = true })) blocks) (sym (was_of case).sizes)
          (blocks_left cache.start history p blocks (held_in p) left_so core.sizes (Some (record { call = call; taken = blocks_of handle; stopped = true })) its);
      reply = lacks.reply;
      written = lacks.written;
      performs = subst (λ n. Performs n (contents_in (after cache.start history) blocks) lacks.written call lacks.reply) (sym (was_of case).sizes) performed;
      more_is = lacks.more_is;
      past = lacks.past;
    }
