-- Answers that are right, and cores that go on, by what the answer says.
use Rattle.std.proofs.Common.{◌≡◌, ◌⊎◌, inl, inr, ⊎_elim, ℕ, Bool, true, false, true≢false, is_some, List, [], ◌∷◌, ◌++◌, length, Option, Some, None, IfSome, IsSome, IsSomeAnd, slice_get, refl, sym, ap, ◌∙◌, subst}
use Rattle.std.specs.Ordering.{nat_cmp}
use Rattle.std.specs.FinMap as finmap
use Rattle.zj_block.specs.Lists.{Entries, content_under}
use Rattle.zj_block.specs.Sizes.{Numbers}
use Rattle.zj_dirs.specs.Possible.{Always}
use Rattle.zj_inode.specs.Footprint.{Foot}
use Rattle.zj_inode.specs.Run.{contents_found}
use Rattle.zj_history.specs.Operation.{Operation}
use Rattle.zj_history.specs.State.{BlockState, after}
use Rattle.zj_script.specs.declared.line.Act.{Act}
use Rattle.zj_script.specs.declared.answer.Form.{Form}
use Rattle.zj_script.specs.declared.answer.Form.TheVariants as forms
use Rattle.zj_tree.specs.declared.call.Call.{Call}
use Rattle.zj_tree.specs.declared.call.Reply.{Reply}
use Rattle.zj_turns.specs.Views.{Hold, Known}
use Rattle.zj_turns.specs.Passes.{CacheParameters, PassState, holds, mine}
use Rattle.zj_core.specs.Core.{CoreState, IsTakeCause, NeedsNoMore, Performed, TakesNext}
use Rattle.zj_core.specs.declared.fault.TakeFault.TheVariants as takes
use Rattle.zj_core.specs.Handle.{IsDue, IsPerformed, entries_held, root_block}
use Rattle.zj_core.specs.Steps.{IsFree, TakesMore, with_operation}
use Rattle.zj_core.proofs.Knowing.{mine_is}
use Rattle.zj_core.proofs.Needing.{held_under}
use Rattle.zj_session.specs.Laws.{GrowsWith}
use Rattle.zj_session.specs.Played.{AreBlocksOf, IsDrawn, IsHeldBy, IsRight, OnItsBlocks, OpenHandle, Played, Says, blocks_of, call_made, contents_in, handle_after, handle_behind, has_block, has_root, is_in, is_out_of_order, is_stopped, is_unbegun, takes_blocks}
use Rattle.zj_session.specs.Service.{IsServing, IsTold}
use Rattle.zj_session.proofs.Contents.{always_found, blocks_left, content_there, held_there, next_due, no_more_performed}
use Rattle.zj_session.proofs.Growing.{HasDone, done_drawn, ticket_next, told_more, told_place}
use Rattle.zj_session.proofs.Roots.{busy_of, excluded, is_held_by, none_held, not_holding, root_told, same_busy, then_free}
use Rattle.zj_session.proofs.Serving.{GoesOn}
use Rattle.zj_session.proofs.Steps.{before, before_its, before_loaded, before_told, handle, met, sizes_are, told}
use Rattle.zj_session.proofs.Views.{HasMet, core_then, met_holds, others_then}

-- A line was answered: the core at its place goes on, with one history, and the answer is right.
pub record IsOutcome {D : Type 0} (cache : CacheParameters) (old : List (CoreState D)) (played : List Played) (history : List Operation) (at : ℕ) (core gone : CoreState D) (act : Act) (form : Form) : Type 0 where
  pub later : List Operation
  pub goes : GoesOn cache old at core gone (handle_behind (handle_after played at) act form) later
  pub grows : GrowsWith history later form
  pub right : IsRight core.sizes (after cache.start history) later (length history) (handle_after played) at act form

module _ (sizes : Numbers) (state : BlockState) (later : List Operation) (next : ℕ) (handles : ℕ → Option OpenHandle) (at : ℕ) where
  -- an act that suits its core
  pub right_suited : (act : Act) (form : Form) → is_out_of_order (handles at) act ≡ false → Says sizes state later next handles at act form
      → ((block holder : ℕ) → takes_blocks act ≡ true → is_unbegun form ≡ false → IsHeldBy sizes handles at block holder → form ≡ forms.Busy block holder) → IsRight sizes state later next handles at act form
  right_suited act form suited says busy = record {
    says = says;
    order = λ unsuited. absurd (true≢false (sym unsuited ∙ suited));
    busy = λ block holder _ takes begun held. busy block holder takes begun held;
  }

  -- an act that doesn't
  pub right_order : (act : Act) → is_out_of_order (handles at) act ≡ true → IsRight sizes state later next handles at act forms.Order
  right_order act unsuited = record {
    says = unsuited;
    order = λ _. refl;
    busy = λ block holder suited takes begun held. absurd (true≢false (sym unsuited ∙ suited));
  }

module _ {D : Type 0} (cache : CacheParameters) (old : List (CoreState D)) (played : List Played) (history : List Operation) (serving : IsServing cache old played history)
    (at : ℕ) (core gone : CoreState D) (at_place : slice_get old at ≡ Some core) where
  abbrev known : PassState
  known = before cache old played history serving at core gone at_place

  abbrev own : Option OpenHandle
  own = handle cache old played history serving at core gone at_place

  has_met : HasMet old at known
  has_met = met cache old played history serving at core gone at_place

  same_sizes : cache.sizes ≡ core.sizes
  same_sizes = sizes_are cache old played history serving at core gone at_place

  abbrev own_told : IsTold core own
  own_told = told cache old played history serving at core gone at_place

  -- what the handle has is held
  own_held : (b : ℕ) → holds known b ≡ is_in b own_told.blocks
  own_held = before_told cache old played history serving at core gone at_place

  own_has : (b : ℕ) → has_block own b ≡ true → holds known b ≡ true
  own_has b has = own_held b ∙ own_told.its.taken b has

  own_root : holds known (root_block core.sizes) ≡ has_root core.sizes own
  own_root = met_holds old at known has_met core at_place (root_block core.sizes) ∙ root_told core own own_told

  own_free : has_root core.sizes own ≡ false → holds known (root_block core.sizes) ≡ false
  own_free without = own_root ∙ without

  -- and its call may take what it has, but hasn't taken one by one
  own_foot : (call : Call) → ((h : OpenHandle) → own ≡ Some h → h.call ≡ call) → (b : ℕ) → holds known b ≡ true → has_block own b ≡ false → Always core.sizes (entries_held (mine known)) (λ image. Foot core.sizes image call b)
  own_foot call its b held without = by own refl (before_its cache old played history serving at core gone at_place)
    where
      by : (o : Option OpenHandle) → own ≡ o → AreBlocksOf core.sizes (entries_held (mine known)) own own_told.blocks → Always core.sizes (entries_held (mine known)) (λ image. Foot core.sizes image call b)
      by None is blocks = absurd (true≢false (sym held ∙ own_held b ∙ ap (is_in b) (blocks.only (ap is_stopped is) ∙ ap blocks_of is)))
      by (Some h) is blocks =
          subst (λ (c : Call). Always core.sizes (entries_held (mine known)) (λ image. Foot core.sizes image c b)) (its h is)
          (subst (λ o. IfSome o (λ (h : OpenHandle). Always core.sizes (entries_held (mine known)) (λ image. Foot core.sizes image h.call b))) is (blocks.foot b (sym (own_held b) ∙ held) without))

  -- one core has the root's block, and that is told
  pub busy_told : (block holder : ℕ) → IsHeldBy core.sizes (handle_after played) at block holder → (other another : ℕ) → IsHeldBy core.sizes (handle_after played) at other another → busy_of block holder ≡ busy_of other another
  busy_told block holder held other another held' = same_busy cache old played history serving core.sizes same_sizes at block holder other another held held'

  -- the root's block isn't free where another core is told to have it
  not_free : (block holder : ℕ) → IsHeldBy core.sizes (handle_after played) at block holder → IsFree known (root_block core.sizes) → ⊥
  not_free block holder held free = excluded cache old played history serving core.sizes same_sizes at known has_met holder held.theirs free

  -- ---- a call was performed

  module _ (number ticket : ℕ) (reply : Reply) (call : Call) (done : Performed cache core.sizes number known gone.pass call (record { ticket = ticket; reply = reply })) where
    of_core : done.operation.core ≡ at
    of_core = done.core ∙ has_met.core

    pub drawn_history : List Operation
    drawn_history = done.knows.history

    more : drawn_history ≡ history ++ done.operation ∷ []
    unfolding drawn_history
    more = told_more cache old history serving.service at core at_place known has_met gone.pass (with_operation (mine known) done.operation) done.pass done.knows done.operation of_core refl

    pub drawn_done : HasDone cache old at (mine gone.pass) drawn_history
    unfolding drawn_history
    drawn_done = subst (λ k. HasDone cache old at k done.knows.history) (sym (mine_is known gone.pass (with_operation (mine known) done.operation) done.pass))
        (done_drawn cache old history serving.service at core at_place known has_met gone.pass (with_operation (mine known) done.operation) done.pass done.knows done.operation of_core refl refl)

    pub drawn_none : (b : ℕ) → holds gone.pass b ≡ false
    drawn_none b = ap (λ (k : Known). finmap.contains_key k.held b) (mine_is known gone.pass (with_operation (mine known) done.operation) done.pass) ∙ ap is_some (finmap.get-empty {X = Hold} nat_cmp b)

    pub drawn_grows : GrowsWith history drawn_history (forms.Drew ticket reply)
    drawn_grows = record { more = done.operation ∷ []; later_is = more; count = refl }

    is_next : ticket ≡ length history
    is_next = sym done.ticket ∙ ticket_next cache old history serving.service at core at_place known has_met gone.pass (with_operation (mine known) done.operation) done.pass done.knows done.operation of_core refl

    pub drawn_says : (act : Act) → call_made act own ≡ Some call → ((h : OpenHandle) → own ≡ Some h → h.call ≡ call) → IsDrawn core.sizes drawn_history (length history) at own act ticket reply
    unfolding drawn_history
    drawn_says act made its = record {
      operation = done.operation;
      call = call;
      at_place = ap (slice_get done.knows.history) is_next ∙ told_place cache old history serving.service at core at_place known has_met gone.pass (with_operation (mine known) done.operation) done.pass done.knows done.operation of_core refl;
      ticket_is = is_next;
      core_is = of_core;
      call_is = made;
      performs = done.performs;
      root = done.root;
      taken = λ b has. let c = content_there known b (own_has b has) in subst IsSome (sym (done.kept b c.0 c.1)) refl;
      foot = λ b found without. by b found without (holds known b) refl;
    }
      where
        by : (b : ℕ) → IsSome (content_under (contents_found done.operation) b) → has_block own b ≡ false → (t : Bool) → holds known b ≡ t → Always core.sizes (contents_found done.operation) (λ image. Foot core.sizes image call b)
        by b found without true held = always_found core.sizes (entries_held (mine known)) (contents_found done.operation) (λ n c is. done.kept n c (sym (held_under (mine known) n) ∙ is)) (λ image. Foot core.sizes image call b) (own_foot call its b held without)
        by b found without false free = done.foot b found free

    pub drawn_busy : (block holder : ℕ) → IsHeldBy core.sizes (handle_after played) at block holder → ⊥
    drawn_busy block holder held = not_free block holder held (done.free (root_block core.sizes) done.root (own_free held.not_own))

  -- ---- a block was taken, or none is needed

  abbrev left : Entries
  left = contents_in (after cache.start history) own_told.blocks

  -- what is so of the contents of its blocks
  on_its : (call : Call) (P : Entries → Call → Type 0) → P left call → (h : OpenHandle) → own ≡ Some h → h.call ≡ call → OnItsBlocks core.sizes (after cache.start history) own P
  on_its call P there h open_is call_is =
      subst (λ o. IsSomeAnd o (λ (h : OpenHandle). (blocks : List ℕ) × AreBlocksOf core.sizes (contents_in (after cache.start history) blocks) own blocks × P (contents_in (after cache.start history) blocks) h.call)) (sym open_is) (
        own_told.blocks,
        blocks_left cache.start history known own_told.blocks own_held (before_loaded cache old played history serving at core gone at_place) core.sizes own (before_its cache old played history serving at core gone at_place),
        subst (P left) (sym call_is) there,
      )

  pub taken_says : (call : Call) (block : ℕ) → TakesNext cache core.sizes known gone.pass call block → (h : OpenHandle) → own ≡ Some h → h.call ≡ call
      → OnItsBlocks core.sizes (after cache.start history) own (λ found call. IsDue core.sizes found call block)
  taken_says call block took = on_its call (λ found call. IsDue core.sizes found call block)
      (next_due cache.start history known own_told.blocks own_held (before_loaded cache old played history serving at core gone at_place) core.sizes call block took.needs)

  pub taken_busy : (call : Call) (taken : ℕ) → TakesNext cache core.sizes known gone.pass call taken → (block holder : ℕ) → IsHeldBy core.sizes (handle_after played) at block holder → ⊥
  taken_busy call taken took block holder held =
      let free = own_free held.not_own in
      not_free block holder held (took.takes.free (root_block core.sizes) (subst (λ b. holds gone.pass b ≡ true) (took.needs.first (none_held known (root_block core.sizes) free)) took.held) free)

  pub ready_says : (call : Call) → NeedsNoMore core.sizes known call → (h : OpenHandle) → own ≡ Some h → h.call ≡ call
      → OnItsBlocks core.sizes (after cache.start history) own (λ found call. IsPerformed core.sizes found call)
  ready_says call ready = on_its call (λ found call. IsPerformed core.sizes found call)
      (no_more_performed cache.start history known own_told.blocks own_held (before_loaded cache old played history serving at core gone at_place) core.sizes call ready)

  pub ready_busy : (call : Call) → NeedsNoMore core.sizes known call → (block holder : ℕ) → IsHeldBy core.sizes (handle_after played) at block holder → ⊥
  ready_busy call ready block holder held = true≢false (sym (held_there known (root_block core.sizes) ready.root) ∙ own_free held.not_own)

  -- ---- another core has the root's block

  root_before : (m : PassState) → TakesMore cache known m → holds m (root_block core.sizes) ≡ true → (holds core.pass (root_block core.sizes) ≡ true) ⊎ IsFree known (root_block core.sizes)
  root_before m took held = by (holds known (root_block core.sizes)) refl
    where
      by : (t : Bool) → holds known (root_block core.sizes) ≡ t → (holds core.pass (root_block core.sizes) ≡ true) ⊎ IsFree known (root_block core.sizes)
      by true was = inl (sym (met_holds old at known has_met core at_place (root_block core.sizes)) ∙ was)
      by false free = inr (took.free (root_block core.sizes) held free)

  -- where the core has it in the end, no other one had it
  pub full_busy : (m : PassState) → TakesMore cache known m → holds m (root_block core.sizes) ≡ true → (block holder : ℕ) → IsHeldBy core.sizes (handle_after played) at block holder → ⊥
  full_busy m took root block holder held = ⊎_elim
      (λ own. true≢false (sym own ∙ not_holding cache old played history serving core.sizes same_sizes at core at_place held.not_own))
      (λ free. not_free block holder held free)
      (root_before m took root)

  module _ (call : Call) (block holder : ℕ) where
    pub missed : IsTakeCause cache core.sizes known call (takes.Busy block holder) → IsHeldBy core.sizes (handle_after played) at block holder
    missed cause = is_held_by cache old played history serving core.sizes same_sizes at known has_met core at_place known has_met.core (λ i c _ there. has_met.each i c there)
        (λ held. inl (sym (met_holds old at known has_met core at_place (root_block core.sizes)) ∙ held)) call block holder cause

    pub missed_after : (m : PassState) → TakesMore cache known m → IsTakeCause cache core.sizes m call (takes.Busy block holder) → IsHeldBy core.sizes (handle_after played) at block holder
    missed_after m took cause = is_held_by cache old played history serving core.sizes same_sizes at known has_met core at_place m (core_then old at known has_met m (mine m) took.only) (others_then old at known has_met m (mine m) took.only)
        (root_before m took) call block holder cause

    -- and then it has none itself
    pub no_root_after : (m : PassState) → TakesMore cache known m → IsTakeCause cache core.sizes m call (takes.Busy block holder) → holds m (root_block core.sizes) ≡ false
    no_root_after m took cause = then_free cache old played history serving core.sizes same_sizes at known has_met core at_place m (core_then old at known has_met m (mine m) took.only) (others_then old at known has_met m (mine m) took.only)
        (root_before m took) call block holder cause
