-- Which core has the root's block: no two have it, one that holds any block does, and it is taken only where no other one has it.
use Rattle.std.proofs.Common.{◌≡◌, ◌≢◌, ◌⊎◌, inl, inr, ⊎_elim, ℕ, ◌<◌, Bool, true, false, true≢false, ◌||◌, eq-eqb, List, [], ◌∷◌, get_or, take, is_some, Option, Some, None, slice_get, option_map, refl, sym, ap, ◌∙◌, subst}
use Rattle.std.specs.FinMap as finmap
use Rattle.std.proofs.lemmas.Option.{slice_get-get_or}
use Rattle.zj_block.specs.Lists.{content_under}
use Rattle.zj_block.specs.Sizes.{Numbers}
use Rattle.zj_history.specs.Operation.{Operation}
use Rattle.zj_script.specs.declared.answer.Form.{Form}
use Rattle.zj_script.specs.declared.answer.Form.TheVariants as forms
use Rattle.zj_tree.specs.declared.call.Call.{Call}
use Rattle.zj_turns.specs.Passes.{CacheParameters, PassState, holds, mine}
use Rattle.zj_turns.specs.Views.{Hold}
use Rattle.zj_core.proofs.Needing.{held_under}
use Rattle.zj_core.specs.declared.fault.TakeFault.TheVariants as takes
use Rattle.zj_core.specs.Core.{CoreState, IsOf, IsSteady, IsTakeCause}
use Rattle.zj_core.specs.Handle.{entries_held, root_block}
use Rattle.zj_core.specs.Steps.{IsFree}
use Rattle.zj_session.specs.Played.{IsHeldBy, OpenHandle, Played, blocks_of, handle_after, has_block, has_root, is_in, is_stopped}
use Rattle.zj_session.specs.Service.{IsServing, IsTold}
use Rattle.zj_session.proofs.Lists.{at_all}
use Rattle.zj_session.proofs.Views.{HasMet}

-- what isn't true is false
pub not_true : (t : Bool) → (t ≡ true → ⊥) → t ≡ false
not_true true never = absurd (never refl)
not_true false never = refl

-- a core is at a place, or none is
pub there_or_not : {X : Type 0} (o : Option X) → (o ≡ None) ⊎ ((x : X) × (o ≡ Some x))
there_or_not None = inl refl
there_or_not (Some x) = inr (x, refl)

-- blocks that hold no block are none
none_in : (blocks : List ℕ) → ((b : ℕ) → is_in b blocks ≡ true → ⊥) → blocks ≡ []
none_in [] never = refl
none_in (x ∷ blocks) never = absurd (never x (ap (λ t. t || is_in x blocks) (eq-eqb x x refl)))

-- what a pass doesn't hold is under no number of its entries
pub none_held : (p : PassState) (b : ℕ) → holds p b ≡ false → content_under (entries_held (mine p)) b ≡ None
none_held p b free = held_under (mine p) b ∙ by (finmap.get (mine p).held b) free
  where
    by : (o : Option Hold) → is_some o ≡ false → option_map (λ (h : Hold). take 64 h.loaded) o ≡ None
    by None none = refl
    by (Some h) some = absurd (true≢false some)

-- a core holds the root's block where it is told so
pub root_told : {D : Type 0} (c : CoreState D) (handle : Option OpenHandle) → IsTold c handle → holds c.pass (root_block c.sizes) ≡ has_root c.sizes handle
root_told c handle told = told.held (root_block c.sizes) ∙ by (is_stopped handle) refl
  where
    by : (t : Bool) → is_stopped handle ≡ t → is_in (root_block c.sizes) told.blocks ≡ (t || has_block handle (root_block c.sizes))
    by true is = told.its.root is
    by false is = ap (is_in (root_block c.sizes)) (told.its.only is)

-- a handle that has not the root's block was never stopped in vain
pub not_stopped : (handle : Option OpenHandle) (root : ℕ) → (is_stopped handle || has_block handle root) ≡ false → is_stopped handle ≡ false
not_stopped handle root none = by (is_stopped handle) none
  where
    by : (t : Bool) → (t || has_block handle root) ≡ false → t ≡ false
    by true is = absurd (true≢false is)
    by false is = refl

-- the answer that another core has a block
abbrev pub busy_of : ℕ → ℕ → Form
busy_of block holder = forms.Busy block holder

module _ {D : Type 0} (cache : CacheParameters) (old : List (CoreState D)) (played : List Played) (history : List Operation) (serving : IsServing cache old played history) (sizes : Numbers) (sizes_are : cache.sizes ≡ sizes) where
  sizes_of : (i : ℕ) (c : CoreState D) → slice_get old i ≡ Some c → c.sizes ≡ sizes
  sizes_of i c there = sym (at_all (λ (c : CoreState D). IsOf cache c) old serving.service.together.of i c there).sizes ∙ sizes_are

  -- a core that holds any block holds the root's
  pub holds_root : (i : ℕ) (c : CoreState D) → slice_get old i ≡ Some c → (b : ℕ) → holds c.pass b ≡ true → holds c.pass (root_block sizes) ≡ true
  holds_root i c there b held = subst (λ s. holds c.pass (root_block s) ≡ true) (sizes_of i c there) ((at_all IsSteady old serving.service.steady i c there).root b held)

  -- no two hold it
  pub one_root : (i j : ℕ) (c d : CoreState D) → slice_get old i ≡ Some c → slice_get old j ≡ Some d → holds c.pass (root_block sizes) ≡ true → holds d.pass (root_block sizes) ≡ true → i ≡ j
  one_root i j c d here there one other = serving.service.one_root i j c d here there (subst (λ s. holds c.pass (root_block s) ≡ true) (sym sizes_are) one) (subst (λ s. holds d.pass (root_block s) ≡ true) (sym sizes_are) other)

  -- a core holds it where its handle is told to have it
  pub root_is : (i : ℕ) (c : CoreState D) → slice_get old i ≡ Some c → holds c.pass (root_block sizes) ≡ has_root sizes (handle_after played i)
  root_is i c there = subst (λ s. holds c.pass (root_block s) ≡ has_root s (handle_after played i)) (sizes_of i c there) (root_told c (handle_after played i) (serving.told i c there))

  -- a handle that is told to have the root's block is of a core that holds it
  pub told_root : (i : ℕ) → has_root sizes (handle_after played i) ≡ true → (c : CoreState D) × (slice_get old i ≡ Some c) × (holds c.pass (root_block sizes) ≡ true)
  told_root i has = ⊎_elim
      (λ none. absurd (true≢false (sym has ∙ ap (has_root sizes) (serving.absent i none))))
      (λ (r : (c : CoreState D) × (slice_get old i ≡ Some c)). (r.0, r.1, root_is i r.0 r.1 ∙ has))
      (there_or_not (slice_get old i))

  -- a core whose handle has it not holds it not, and its handle has taken none
  pub not_holding : (i : ℕ) (c : CoreState D) → slice_get old i ≡ Some c → has_root sizes (handle_after played i) ≡ false → holds c.pass (root_block sizes) ≡ false
  not_holding i c there without = root_is i c there ∙ without

  pub none_taken : (i : ℕ) (c : CoreState D) → slice_get old i ≡ Some c → has_root sizes (handle_after played i) ≡ false → blocks_of (handle_after played i) ≡ []
  none_taken i c there without = none_in (blocks_of (handle_after played i)) (λ b taken. true≢false (sym (holds_root i c there b ((serving.told i c there).held b ∙ (serving.told i c there).its.taken b taken)) ∙ not_holding i c there without))

  -- two that have the root's block are one
  pub same_busy : (at block holder other another : ℕ) → IsHeldBy sizes (handle_after played) at block holder → IsHeldBy sizes (handle_after played) at other another → busy_of block holder ≡ busy_of other another
  same_busy at block holder other another one two =
      let c = told_root holder one.theirs in
      let d = told_root another two.theirs in
      let blocks : block ≡ other = one.root ∙ sym two.root in
      let holders : holder ≡ another = one_root holder another c.0 d.0 c.1 d.1 c.2 d.2 in
      λ i. busy_of (blocks i) (holders i)

  module _ (at : ℕ) (g : PassState) (met : HasMet old at g) where
    -- a block that is free no core holds
    pub free_of_all : (b : ℕ) → IsFree g b → (i : ℕ) (c : CoreState D) → slice_get old i ≡ Some c → holds c.pass b ≡ false
    free_of_all b free i c there = free i (mine c.pass) (met.each i c there)

    -- where another core has the root's block it isn't free
    pub excluded : (holder : ℕ) → has_root sizes (handle_after played holder) ≡ true → IsFree g (root_block sizes) → ⊥
    excluded holder has free = let r = told_root holder has in true≢false (sym r.2 ∙ free_of_all (root_block sizes) free holder r.0 r.1)

    -- A core that misses a block, on the way of a call, misses the root's: another one has that, and it has none.
    module _ (core : CoreState D) (at_place : slice_get old at ≡ Some core) (m : PassState) (core_is : m.core ≡ at)
        (knows : (i : ℕ) (c : CoreState D) → i ≢ at → slice_get old i ≡ Some c → finmap.get m.view.known i ≡ Some (mine c.pass))
        (took : holds m (root_block sizes) ≡ true → (holds core.pass (root_block sizes) ≡ true) ⊎ IsFree g (root_block sizes))
        (call : Call) (block holder : ℕ) (cause : IsTakeCause cache sizes m call (takes.Busy block holder)) where
      apart : holder ≢ at
      apart same = cause.1.1 (same ∙ sym core_is)

      holding : CoreState D
      holding = get_or old holder core

      held_there : slice_get old holder ≡ Some holding
      unfolding holding
      held_there = slice_get-get_or old holder core (subst (λ n. holder < n) (sym serving.service.many) cause.1.2)

      theirs : holds holding.pass block ≡ true
      theirs = cause.1.3 (mine holding.pass) (knows holder holding apart held_there)

      their_root : holds holding.pass (root_block sizes) ≡ true
      their_root = holds_root holder holding held_there block theirs

      pub own_free : holds core.pass (root_block sizes) ≡ false
      own_free = not_true (holds core.pass (root_block sizes)) (λ own. apart (one_root holder at holding core held_there at_place their_root own))

      pub then_free : holds m (root_block sizes) ≡ false
      then_free = not_true (holds m (root_block sizes)) (λ own. ⊎_elim
          (λ before. true≢false (sym before ∙ own_free))
          (λ free. true≢false (sym their_root ∙ free_of_all (root_block sizes) free holder holding held_there))
          (took own))

      pub is_held_by : IsHeldBy sizes (handle_after played) at block holder
      is_held_by = record {
        root = cause.0.first (none_held m (root_block sizes) then_free);
        other = apart;
        theirs = sym (root_is holder holding held_there) ∙ their_root;
        not_own = sym (root_is at core at_place) ∙ own_free;
      }
