-- Cores that serve calls go on to serve them, where the one at a place went on as it may.
use Rattle.std.proofs.Common.{◌≡◌, ◌≢◌, ◌⊎◌, ⊎_elim, ℕ, true, false, true≢false, List, [], ◌∷◌, ◌++◌, Option, Some, slice_get, slice_set, refl, sym, ap, ◌∙◌, subst, arith}
use Rattle.std.specs.FinMap as finmap
use Rattle.std.proofs.lemmas.List.{length-set}
use mathlib.Core.Logic.{dite}
use native.Mathlib.Decide.{ℕ_discrete}
use Rattle.zj_block.specs.Sizes.{Numbers}
use Rattle.zj_history.specs.Operation.{Operation}
use Rattle.zj_layout.proofs.Follow.{none_some, some_is}
use Rattle.zj_script.specs.declared.line.Line.{Line}
use Rattle.zj_script.specs.declared.answer.Form.{Form}
use Rattle.zj_turns.specs.CacheHistory.{operations_on}
use Rattle.zj_turns.specs.Views.{Known, View, alone, blank, knowing}
use Rattle.zj_turns.specs.Passes.{CacheParameters, IsLoadedAfter, holds, mine, now_knowing}
use Rattle.zj_turns.proofs.Again.{insert_again}
use Rattle.zj_core.specs.Core.{CoreState, IsOf, IsSteady}
use Rattle.zj_core.specs.Handle.{entries_held, root_block}
use Rattle.zj_core.proofs.Knowing.{mine_now}
use Rattle.zj_session.specs.Played.{AreBlocksOf, OpenHandle, Played, handle_after, handle_behind}
use Rattle.zj_session.specs.Service.{AreTogether, HasHistory, IsService, IsServing, IsTold}
use Rattle.zj_session.proofs.Growing.{HasDone}
use Rattle.zj_session.proofs.Handles.{handle_else, handle_here}
use Rattle.zj_session.proofs.Lists.{all_at, at_all, pairs_at, set_else, set_here}

-- The core at a place goes on: its sizes stay, one history has what all did, it has the root's block only where it had it or no other
-- one has, and this handle is told of it.
pub record GoesOn {D : Type 0} (cache : CacheParameters) (old : List (CoreState D)) (at : ℕ) (core after : CoreState D) (handle : Option OpenHandle) (later : List Operation) : Type 0 where
  pub sizes : after.sizes ≡ core.sizes
  pub done : HasDone cache old at (mine after.pass) later
  pub root : holds after.pass (root_block cache.sizes) ≡ true → (holds core.pass (root_block cache.sizes) ≡ true) ⊎ ((i : ℕ) (c : CoreState D) → slice_get old i ≡ Some c → holds c.pass (root_block cache.sizes) ≡ false)
  pub told : IsTold after handle

-- a core that parted from all others
abbrev pub parted : {D : Type 0} → CoreState D → CoreState D → CoreState D
parted core after = record after { pass = now_knowing core.pass (mine after.pass) }

module _ {D : Type 0} (old : List (CoreState D)) (at : ℕ) (core after : CoreState D) (at_place : slice_get old at ≡ Some core) where
  -- the cores with the one that went on
  abbrev pub gone_on : List (CoreState D)
  gone_on = slice_set old at (parted core after)

  pub made_there : slice_get gone_on at ≡ Some (parted core after)
  made_there = set_here old at core (parted core after) at_place

  -- what is so of the core that went on, and of all others
  pub of_each : (P : ℕ → CoreState D → Type 0) → P at (parted core after) → ((i : ℕ) (c : CoreState D) → i ≢ at → slice_get old i ≡ Some c → P i c) → (i : ℕ) (c : CoreState D) → slice_get gone_on i ≡ Some c → P i c
  of_each P own others i c there = dite (ℕ_discrete i at)
      (λ same. subst (λ n. P n c) (sym same) (subst (P at) (some_is (sym made_there ∙ ap (slice_get gone_on) (sym same) ∙ there)) own))
      (λ apart. others i c apart (sym (set_else old at i (parted core after) apart) ∙ there))

  pub parted_mine : mine (parted core after).pass ≡ mine after.pass
  parted_mine = mine_now core.pass (mine after.pass)

  pub parted_holds : (b : ℕ) → holds (parted core after).pass b ≡ holds after.pass b
  parted_holds b = ap (λ (k : Known). finmap.contains_key k.held b) parted_mine

module _ {D : Type 0} (cache : CacheParameters) (old : List (CoreState D)) (history : List Operation) (serving : IsService cache old history)
    (at : ℕ) (core after : CoreState D) (at_place : slice_get old at ≡ Some core) (handle : Option OpenHandle) (later : List Operation)
    (goes : GoesOn cache old at core after handle later) (steady : IsSteady (parted core after)) where
  abbrev new : List (CoreState D)
  new = gone_on old at core after at_place

  abbrev root : ℕ
  root = root_block cache.sizes

  was_of : IsOf cache core
  was_of = at_all (λ (c : CoreState D). IsOf cache c) old serving.together.of at core at_place

  made_of : IsOf cache (parted core after)
  made_of = record {
    active = record { table = was_of.active.table; not_away = was_of.active.not_away };
    sizes = was_of.sizes ∙ sym goes.sizes;
    many = was_of.many ∙ ap (λ (s : Numbers). s.blocks) (sym goes.sizes);
  }

  made_alone : (parted core after).pass.view ≡ alone (parted core after).pass.view core.pass.core
  made_alone =
      let was : core.pass.view ≡ alone core.pass.view core.pass.core = at_all (λ (c : CoreState D). c.pass.view ≡ alone c.pass.view c.pass.core) old serving.together.alone at core at_place in
      ap (λ (v : View). knowing v core.pass.core (mine after.pass)) was
      ∙ ap (λ m. record { own = core.pass.core; known = m; past = blank }) (insert_again finmap.empty core.pass.core (mine core.pass) (mine after.pass))
      ∙ ap (λ (k : Known). record { own = core.pass.core; known = finmap.insert finmap.empty core.pass.core k; past = blank }) (sym (parted_mine old at core after at_place))

  numbered : (i : ℕ) (c : CoreState D) → slice_get new i ≡ Some c → c.pass.core ≡ i
  numbered = of_each old at core after at_place (λ i c. c.pass.core ≡ i) (serving.numbered at core at_place) (λ i c apart there. serving.numbered i c there)

  together : AreTogether cache new
  together = record {
    of = all_at (λ (c : CoreState D). IsOf cache c) new (of_each old at core after at_place (λ _ c. IsOf cache c) made_of (λ i c _ there. at_all (λ (c : CoreState D). IsOf cache c) old serving.together.of i c there));
    alone = all_at (λ (c : CoreState D). c.pass.view ≡ alone c.pass.view c.pass.core) new (of_each old at core after at_place (λ _ c. c.pass.view ≡ alone c.pass.view c.pass.core) made_alone
        (λ i c _ there. at_all (λ (c : CoreState D). c.pass.view ≡ alone c.pass.view c.pass.core) old serving.together.alone i c there));
    apart = pairs_at (λ (c d : CoreState D). c.pass.core ≢ d.pass.core) new (λ i j c d lower here there same. let a = numbered i c here in let b = numbered j d there in omega arith);
  }

  -- no two hold the root's block
  own_root : (j : ℕ) (d : CoreState D) → j ≢ at → slice_get old j ≡ Some d → holds (parted core after).pass root ≡ true → holds d.pass root ≡ true → ⊥
  own_root j d apart there own other = ⊎_elim
      (λ had. apart (serving.one_root j at d core there at_place other had))
      (λ free. true≢false (sym other ∙ free j d there))
      (goes.root (sym (parted_holds old at core after at_place root) ∙ own))

  one_root : (i j : ℕ) (c d : CoreState D) → slice_get new i ≡ Some c → slice_get new j ≡ Some d → holds c.pass root ≡ true → holds d.pass root ≡ true → i ≡ j
  one_root i j c d here there =
      of_each old at core after at_place (λ i c. holds c.pass root ≡ true → holds d.pass root ≡ true → i ≡ j)
      (of_each old at core after at_place (λ j d. holds (parted core after).pass root ≡ true → holds d.pass root ≡ true → at ≡ j) (λ own other. refl) (λ j d apart there own other. absurd (own_root j d apart there own other)) j d there)
      (λ i c apart here. of_each old at core after at_place (λ j d. holds c.pass root ≡ true → holds d.pass root ≡ true → i ≡ j)
      (λ other own. absurd (own_root i c apart here own other))
      (λ j d _ there one other. serving.one_root i j c d here there one other) j d there)
      i c here

  has : HasHistory cache new later
  has = record {
    legal = goes.done.legal;
    operations = of_each old at core after at_place (λ i c. operations_on i later ≡ (mine c.pass).operations)
        (goes.done.own ∙ ap (λ (k : Known). k.operations) (sym (parted_mine old at core after at_place)))
        goes.done.else;
    loaded = λ i b c h there. of_each old at core after at_place (λ i c. finmap.get (mine c.pass).held b ≡ Some h → IsLoadedAfter cache.start later b h)
        (λ held. goes.done.own_loaded b h (ap (λ (k : Known). finmap.get k.held b) (sym (parted_mine old at core after at_place)) ∙ held))
        (λ i c apart there held. goes.done.else_loaded i b c h apart there held)
        i c there;
  }

  pub is_service : IsService cache new later
  is_service = record {
    together = together;
    many = length-set old at (parted core after) ∙ serving.many;
    as_sizes = serving.as_sizes;
    numbered = numbered;
    steady = all_at IsSteady new (of_each old at core after at_place (λ _ c. IsSteady c) steady (λ i c _ there. at_all IsSteady old serving.steady i c there));
    one_root = one_root;
    has = has;
  }

-- and they have the handles that are told
pub is_serving : {D : Type 0} (cache : CacheParameters) (old : List (CoreState D)) (played : List Played) (history : List Operation) (serving : IsServing cache old played history)
    (at : ℕ) (core after : CoreState D) (at_place : slice_get old at ≡ Some core) (line : Line) (form : Form) (on : line.core ≡ Some at) (later : List Operation)
    → GoesOn cache old at core after (handle_behind (handle_after played at) line.act form) later → IsSteady (parted core after)
    → IsServing cache (slice_set old at (parted core after)) (played ++ (line, form) ∷ []) later
is_serving {D} cache old played history serving at core after at_place line form on later goes steady = record {
  service = is_service cache old history serving.service at core after at_place (handle_behind (handle_after played at) line.act form) later goes steady;
  told = of_each old at core after at_place (λ i c. IsTold c (handle_after (played ++ (line, form) ∷ []) i))
      (subst (IsTold (parted core after)) (sym (handle_here played line form at on)) (record {
        begun = goes.told.begun;
        blocks = goes.told.blocks;
        held = λ b. parted_holds old at core after at_place b ∙ goes.told.held b;
        its = subst (λ (k : Known). AreBlocksOf after.sizes (entries_held k) (handle_behind (handle_after played at) line.act form) goes.told.blocks) (sym (parted_mine old at core after at_place)) goes.told.its;
      }))
      (λ i c apart there. subst (IsTold c) (sym (handle_else played line form at on i apart)) (serving.told i c there));
  absent = λ i none. dite (ℕ_discrete i at)
      (λ same. absurd (none_some (sym none ∙ ap (slice_get (slice_set old at (parted core after))) same ∙ made_there old at core after at_place)))
      (λ apart. handle_else played line form at on i apart ∙ serving.absent i (sym (set_else old at i (parted core after) apart) ∙ none));
}
