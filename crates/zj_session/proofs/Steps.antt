-- What the core at a place becomes: it is as it was, or holds nothing any more, or has taken a block.
use Rattle.std.proofs.Common.{◌≡◌, ◌⊎◌, inl, inr, ⊎_elim, ℕ, ◌==◌, Bool, true, false, true≢false, cond, ◌||◌, eq-eqb, ne_eqb, is_some, List, [], ◌∷◌, ◌++◌, Option, Some, None, slice_get, option_map, append-nil, refl, sym, ap, ◌∙◌, subst}
use Rattle.std.specs.FinMap as finmap
use Rattle.std.proofs.lemmas.List.Folds.{list_any-append}
use mathlib.Core.Logic.{dite}
use native.Mathlib.Decide.{ℕ_discrete}
use Rattle.zj_history.specs.Operation.{Operation}
use Rattle.zj_layout.proofs.Follow.{none_some}
use Rattle.zj_script.specs.declared.answer.Form.{Form}
use Rattle.zj_tree.specs.declared.call.Call.{Call}
use Rattle.zj_turns.specs.Views.{Hold, Known}
use Rattle.zj_turns.specs.Passes.{CacheParameters, IsLoadedAfter, PassState, holds, mine}
use Rattle.zj_block.specs.Sizes.{Numbers}
use Rattle.zj_dirs.specs.Possible.{Always}
use Rattle.zj_inode.specs.Footprint.{Foot}
use Rattle.zj_core.specs.Core.{CoreState, HasNoRoom, IsOf, IsSteady, TakesNext}
use Rattle.zj_core.specs.Handle.{IsRead, TakesFor, entries_held, root_block}
use Rattle.zj_core.specs.Steps.{Knows, TakesMore}
use Rattle.zj_core.proofs.Needing.{held_more, held_under}
use Rattle.zj_session.specs.Answering.{met_all}
use Rattle.zj_session.specs.Laws.{GrowsWith}
use Rattle.zj_session.specs.Played.{AreBlocksOf, OpenHandle, Played, blocks_of, handle_after, has_block, has_ticket, is_in, is_stopped}
use Rattle.zj_session.specs.Service.{IsServing, IsTold}
use Rattle.zj_session.proofs.Contents.{blocks_found, blocks_held, held_in, none_its}
use Rattle.zj_session.proofs.Growing.{HasDone, done_same, done_taken}
use Rattle.zj_session.proofs.Lists.{at_all, mapped_none, mapped_some}
use Rattle.zj_session.proofs.Roots.{free_of_all, not_true}
use Rattle.zj_session.proofs.Serving.{GoesOn, parted, parted_mine}
use Rattle.zj_session.proofs.Views.{HasMet, has_met, met_holds, met_mine}

-- a map without a key has nothing there
pub nothing_there : {X : Type 0} (o : Option X) (x : X) → is_some o ≡ false → o ≡ Some x → ⊥
nothing_there None x none is = none_some is
nothing_there (Some y) x none is = true≢false none

-- no operation was added
pub grows_none : (history : List Operation) (form : Form) → has_ticket form ≡ false → GrowsWith history history form
grows_none history form none = record {
  more = [];
  later_is = sym (append-nil history);
  count = ap (λ t. cond t 1 0) (sym none);
}

-- what is in a list or at its end
in_more : (one other last : Bool) → (one ≡ true → other ≡ true) → (one || last) ≡ true → (other || last) ≡ true
in_more true other last step is = ap (λ t. t || last) (step refl)
in_more false true last step is = refl
in_more false false last step is = is

in_front : (one last : Bool) → (one || last) ≡ true → last ≡ false → one ≡ true
in_front true last is none = refl
in_front false last is none = absurd (true≢false (sym is ∙ none))

not_in : (one last : Bool) → (one || last) ≡ false → (one ≡ false) × (last ≡ false)
not_in true last is = absurd (true≢false is)
not_in false last is = (refl, is)

module _ {D : Type 0} (cache : CacheParameters) (old : List (CoreState D)) (played : List Played) (history : List Operation) (serving : IsServing cache old played history)
    (at : ℕ) (core gone : CoreState D) (at_place : slice_get old at ≡ Some core) where
  -- what the core knows that has met all
  abbrev pub before : PassState
  before = (met_all at old core).pass

  abbrev pub handle : Option OpenHandle
  handle = handle_after played at

  pub met : HasMet old at before
  met = has_met cache old history serving.service at core at_place

  pub told : IsTold core handle
  told = serving.told at core at_place

  pub sizes_are : cache.sizes ≡ core.sizes
  sizes_are = (at_all (λ (c : CoreState D). IsOf cache c) old serving.service.together.of at core at_place).sizes

  -- whether a handle is open
  pub none_open : core.begun ≡ None → handle ≡ None
  none_open none = mapped_none (λ (h : OpenHandle). h.call) handle (sym told.begun ∙ none)

  pub some_open : (call : Call) → core.begun ≡ Some call → (h : OpenHandle) × (handle ≡ Some h) × (h.call ≡ call)
  some_open call some = mapped_some (λ (h : OpenHandle). h.call) handle call (sym told.begun ∙ some)

  -- what is held before are the blocks of the handle
  pub before_told : (b : ℕ) → holds before b ≡ is_in b told.blocks
  before_told b = met_holds old at before met core at_place b ∙ told.held b

  pub before_its : AreBlocksOf core.sizes (entries_held (mine before)) handle told.blocks
  before_its = subst (λ (k : Known). AreBlocksOf core.sizes (entries_held k) handle told.blocks) (sym (met_mine old at before met core at_place)) told.its

  pub before_loaded : (b : ℕ) (h : Hold) → finmap.get (mine before).held b ≡ Some h → IsLoadedAfter cache.start history b h
  before_loaded b h held = serving.service.has.loaded at b core h at_place (ap (λ (k : Known). finmap.get k.held b) (sym (met_mine old at before met core at_place)) ∙ held)

  -- it is as it was
  pub goes_same : (next : Option OpenHandle) → gone.sizes ≡ core.sizes → mine gone.pass ≡ mine core.pass → gone.begun ≡ option_map (λ h. h.call) next
      → AreBlocksOf core.sizes (entries_held (mine core.pass)) next told.blocks → GoesOn cache old at core gone next history
  goes_same next sizes same begun its = record {
    sizes = sizes;
    done = done_same cache old history serving.service at core at_place (mine gone.pass) (ap (λ (k : Known). k.operations) same) (λ b h held. ap (λ (k : Known). finmap.get k.held b) (sym same) ∙ held);
    root = λ held. inl (ap (λ (k : Known). finmap.contains_key k.held (root_block cache.sizes)) (sym same) ∙ held);
    told = record {
      begun = begun;
      blocks = told.blocks;
      held = λ b. ap (λ (k : Known). finmap.contains_key k.held b) same ∙ told.held b;
      its = subst (λ (x : Numbers × Known). AreBlocksOf x.0 (entries_held x.1) next told.blocks) (λ i. (sym sizes i, sym same i)) its;
    };
  }

  -- it holds nothing any more
  pub goes_empty : (next : Option OpenHandle) (later : List Operation) → gone.sizes ≡ core.sizes → HasDone cache old at (mine gone.pass) later → ((b : ℕ) → holds gone.pass b ≡ false)
      → gone.begun ≡ option_map (λ h. h.call) next → is_stopped next ≡ false → blocks_of next ≡ [] → GoesOn cache old at core gone next later
  goes_empty next later sizes done none begun not_stopped blocks = record {
    sizes = sizes;
    done = done;
    root = λ held. absurd (true≢false (sym held ∙ none (root_block cache.sizes)));
    told = record {
      begun = begun;
      blocks = [];
      held = none;
      its = none_its gone.sizes (entries_held (mine gone.pass)) next not_stopped blocks;
    };
  }

  -- it has taken blocks
  module _ (steady : IsSteady (parted core gone)) (takes : TakesMore cache before gone.pass) where
    is_clear : (mine gone.pass).drawn ≡ false
    is_clear = ap (λ (k : Known). k.drawn) (sym (parted_mine old at core gone at_place)) ∙ steady.clear

    is_read : (b : ℕ) (hold : Hold) → finmap.get (mine gone.pass).held b ≡ Some hold → IsRead hold
    is_read b hold held = steady.read b hold (ap (λ (k : Known). finmap.get k.held b) (parted_mine old at core gone at_place) ∙ held)

    kept : (b : ℕ) → holds before b ≡ true → holds gone.pass b ≡ true
    kept b held = by (finmap.get (mine before).held b) refl held
      where
        by : (o : Option Hold) → finmap.get (mine before).held b ≡ o → is_some o ≡ true → holds gone.pass b ≡ true
        by None is some = absurd (true≢false (sym some))
        by (Some hold) is some = ap is_some (takes.more.kept b hold is)

    -- the blocks that it had before it has still, and its call may take those of them that weren't taken one by one
    its_before : AreBlocksOf core.sizes (entries_held (mine gone.pass)) handle told.blocks
    its_before = blocks_found core.sizes (entries_held (mine before)) (entries_held (mine gone.pass)) handle told.blocks
        (λ b c is. held_under (mine gone.pass) b ∙ held_more (mine before) (mine gone.pass) takes.more b c (sym (held_under (mine before) b) ∙ is))
        before_its

    took_done : (gone.pass ≡ before) ⊎ Knows cache gone.pass → HasDone cache old at (mine gone.pass) history
    took_done (inl same) =
        let own : mine gone.pass ≡ mine core.pass = ap mine same ∙ met_mine old at before met core at_place in
        done_same cache old history serving.service at core at_place (mine gone.pass) (ap (λ (k : Known). k.operations) own) (λ b h held. ap (λ (k : Known). finmap.get k.held b) (sym own) ∙ held)
    took_done (inr knows) = done_taken cache old history serving.service at core at_place before met gone.pass (mine gone.pass) takes.only knows takes.more.operations is_clear is_read

    now_root : holds gone.pass (root_block cache.sizes) ≡ true → (holds core.pass (root_block cache.sizes) ≡ true) ⊎ ((i : ℕ) (c : CoreState D) → slice_get old i ≡ Some c → holds c.pass (root_block cache.sizes) ≡ false)
    now_root held = by (holds before (root_block cache.sizes)) refl
      where
        by : (t : Bool) → holds before (root_block cache.sizes) ≡ t → (holds core.pass (root_block cache.sizes) ≡ true) ⊎ ((i : ℕ) (c : CoreState D) → slice_get old i ≡ Some c → holds c.pass (root_block cache.sizes) ≡ false)
        by true was = inl (sym (met_holds old at before met core at_place (root_block cache.sizes)) ∙ was)
        by false free = inr (free_of_all cache old played history serving core.sizes sizes_are at before met (root_block cache.sizes) (takes.free (root_block cache.sizes) held free))

    -- so it goes on with a handle that has these blocks
    pub goes_with : (next : Option OpenHandle) (blocks : List ℕ) → gone.sizes ≡ core.sizes → gone.begun ≡ option_map (λ h. h.call) next → ((b : ℕ) → holds gone.pass b ≡ is_in b blocks)
        → AreBlocksOf core.sizes (entries_held (mine gone.pass)) next blocks → GoesOn cache old at core gone next history
    goes_with next blocks sizes begun held its = record {
      sizes = sizes;
      done = took_done takes.knows;
      root = now_root;
      told = record {
        begun = begun;
        blocks = blocks;
        held = held;
        its = subst (λ (s : Numbers). AreBlocksOf s (entries_held (mine gone.pass)) next blocks) (sym sizes) its;
      };
    }

  -- it has taken the next block
  module _ (steady : IsSteady (parted core gone)) (call : Call) (block : ℕ) (takes : TakesNext cache core.sizes before gone.pass call block) (h : OpenHandle) (open_is : handle ≡ Some h) where
    abbrev blocks_now : List ℕ
    blocks_now = told.blocks ++ block ∷ []

    both_in : (b : ℕ) (blocks : List ℕ) → is_in b (blocks ++ block ∷ []) ≡ (is_in b blocks || is_in b (block ∷ []))
    both_in b blocks = list_any-append (λ t. t == b) blocks (block ∷ [])

    now_held : (b : ℕ) → holds gone.pass b ≡ is_in b blocks_now
    now_held b = by (holds before b) refl ∙ ap (λ t. t || is_in b (block ∷ [])) (before_told b) ∙ sym (both_in b told.blocks)
      where
        by : (t : Bool) → holds before b ≡ t → holds gone.pass b ≡ (holds before b || is_in b (block ∷ []))
        by true held = kept steady takes.takes b held ∙ ap (λ t. t || is_in b (block ∷ [])) (sym held)
        by false free = dite (ℕ_discrete block b)
            (λ same. subst (λ n. holds gone.pass n ≡ true) same takes.held ∙ sym (ap (λ t. holds before b || (t || false)) (eq-eqb block b same) ∙ ap (λ t. t || true) free))
            (λ apart. not_true (holds gone.pass b) (λ held. ⊎_elim (λ same. apart (sym same)) (λ was. true≢false (sym was ∙ free)) (takes.only b held))
            ∙ sym (ap (λ t. holds before b || (t || false)) (ne_eqb block b apart) ∙ ap (λ t. t || false) free))

    abbrev next : OpenHandle
    next = record { call = h.call; taken = h.taken ++ block ∷ []; stopped = h.stopped }

    its : AreBlocksOf core.sizes (entries_held (mine before)) (Some h) told.blocks
    its = subst (λ o. AreBlocksOf core.sizes (entries_held (mine before)) o told.blocks) open_is before_its

    its_now : AreBlocksOf core.sizes (entries_held (mine gone.pass)) (Some next) blocks_now
    its_now =
        let had = subst (λ o. AreBlocksOf core.sizes (entries_held (mine gone.pass)) o told.blocks) open_is (its_before steady takes.takes) in
        record {
          only = λ not_stopped. ap (λ l. l ++ block ∷ []) (had.only not_stopped);
          taken = λ b has. both_in b told.blocks ∙ in_more (is_in b h.taken) (is_in b told.blocks) (is_in b (block ∷ [])) (had.taken b) (sym (both_in b h.taken) ∙ has);
          root = λ stopped. both_in (root_block core.sizes) told.blocks ∙ ap (λ t. t || is_in (root_block core.sizes) (block ∷ [])) (had.root stopped);
          foot = λ b there without.
              let apart = not_in (is_in b h.taken) (is_in b (block ∷ [])) (sym (both_in b h.taken) ∙ without) in
              had.foot b (in_front (is_in b told.blocks) (is_in b (block ∷ [])) (sym (both_in b told.blocks) ∙ there) apart.1) apart.0;
        }

    pub goes_taken : gone.sizes ≡ core.sizes → gone.begun ≡ Some h.call → GoesOn cache old at core gone (Some next) history
    goes_taken sizes begun = goes_with steady takes.takes (Some next) blocks_now sizes begun now_held its_now

  -- it has taken all that its call needs, and found no room
  module _ (steady : IsSteady (parted core gone)) (call : Call) (takes : TakesMore cache before gone.pass) (foot : TakesFor core.sizes before gone.pass call) (root : holds gone.pass (root_block core.sizes) ≡ true)
      (h : OpenHandle) (open_is : handle ≡ Some h) (call_is : h.call ≡ call) where
    abbrev stopped : OpenHandle
    stopped = record { call = h.call; taken = h.taken; stopped = true }

    its_all : AreBlocksOf core.sizes (entries_held (mine gone.pass)) (Some stopped) (blocks_held gone.pass)
    its_all =
        let had = subst (λ o. AreBlocksOf core.sizes (entries_held (mine gone.pass)) o told.blocks) open_is (its_before steady takes) in
        record {
          only = λ is. absurd (true≢false is);
          taken = λ b has. sym (held_in gone.pass b) ∙ kept steady takes b (before_told b ∙ had.taken b has);
          root = λ _. sym (held_in gone.pass (root_block core.sizes)) ∙ root;
          foot = λ b there without. its_foot had b (held_in gone.pass b ∙ there) without (holds before b) refl;
        }
      where
        its_foot : AreBlocksOf core.sizes (entries_held (mine gone.pass)) (Some h) told.blocks → (b : ℕ) → holds gone.pass b ≡ true → has_block (Some h) b ≡ false → (t : Bool) → holds before b ≡ t
            → Always core.sizes (entries_held (mine gone.pass)) (λ image. Foot core.sizes image h.call b)
        its_foot had b held without true was = had.foot b (sym (before_told b) ∙ was) without
        its_foot had b held without false was = subst (λ (c : Call). Always core.sizes (entries_held (mine gone.pass)) (λ image. Foot core.sizes image c b)) (sym call_is) (foot b held was)

    pub goes_full : gone.sizes ≡ core.sizes → gone.begun ≡ Some h.call → GoesOn cache old at core gone (Some stopped) history
    goes_full sizes begun = goes_with steady takes (Some stopped) (blocks_held gone.pass) sizes begun (held_in gone.pass) its_all
