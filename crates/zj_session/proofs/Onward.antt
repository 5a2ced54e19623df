-- What stays behind a line: the cores are together, and each has a draw less at most.
use Rattle.std.proofs.Common.{◌≡◌, ◌≢◌, ⊎_elim, ℕ, zero, suc, ◌+◌, ◌<◌, ◌≤◌, List, [], ◌∷◌, ◌++◌, length, map, get_or, take, drop, Option, Some, None, slice_get, slice_set, add-one, AllPairs, refl, sym, ap, ◌∙◌, subst, arith}
use Rattle.std.proofs.lemmas.List.{length-append}
use Rattle.std.proofs.lemmas.Option.{get_or_from_slice_get, slice_get_within}
use Rattle.std.specs.FinMap as finmap
use mathlib.Core.Logic.{dite}
use native.Mathlib.Decide.{ℕ_discrete}
use Rattle.zj_block.specs.Sizes.{Numbers}
use Rattle.zj_dev.specs.Disk.{DiskView}
use Rattle.zj_history.specs.Operation.{Operation}
use Rattle.zj_layout.proofs.Follow.{none_some, some_is}
use Rattle.zj_script.specs.declared.line.Act.{Act}
use Rattle.zj_script.specs.declared.line.Act.TheVariants as acts
use Rattle.zj_script.specs.declared.answer.Form.{Form}
use Rattle.zj_script.specs.declared.answer.Form.TheVariants as forms
use Rattle.zj_script.specs.declared.answer.SyncForm.TheVariants as syncs
use Rattle.zj_tree.specs.declared.call.Call.{Call}
use Rattle.zj_tx.specs.Record.{Record}
use Rattle.zj_turns.specs.Views.{Known, View, alone, blank, known_in, knowing}
use Rattle.zj_turns.specs.Passes.{CacheParameters, PassState, left_of, mine, now_knowing}
use Rattle.zj_turns.proofs.Again.{insert_again, known_after}
use Rattle.zj_core.specs.Committing.{Seals}
use Rattle.zj_core.specs.Core.{CoreState, IsOf}
use Rattle.zj_core.specs.Steps.{emptied, with_operation}
use Rattle.zj_core.proofs.Knowing.{active_now, mine_is, mine_now}
use Rattle.zj_session.specs.Answering.{Does, DoesIdle, DoesOpen, IsAnswered, IsLeftOff, met_all, without_handle}
use Rattle.zj_session.specs.Service.{AreTogether}
use Rattle.zj_session.proofs.Lists.{all_at, at_all, pairs_at, set_else, set_here}
use Rattle.zj_session.proofs.Together.{mine_met}

-- ---- lists

module _ {X : Type 0} where
  pub at_pairs : (R : X → X → Type 0) (xs : List X) → AllPairs R xs → (i j : ℕ) (x y : X) → i < j → slice_get xs i ≡ Some x → slice_get xs j ≡ Some y → R x y
  at_pairs R xs all i j x y lower here there =
      subst (λ z. R z y) (get_or_from_slice_get xs i x x here)
      (subst (λ z. R (get_or xs i x) z) (get_or_from_slice_get xs j y x there) (all i j x lower (slice_get_within xs j y there)))

  -- a list at a place that it has
  pub split_there : (xs : List X) (i : ℕ) (x : X) → slice_get xs i ≡ Some x → xs ≡ take i xs ++ x ∷ drop (suc i) xs
  split_there [] i x at = absurd (none_some at)
  split_there (z ∷ xs) zero x at = ap (λ w. w ∷ xs) (some_is at)
  split_there (z ∷ xs) (suc i) x at = ap (λ l. z ∷ l) (split_there xs i x at)

  -- what is so of a place that was changed, and of all others
  pub each_set : (xs : List X) (i : ℕ) (x y : X) → slice_get xs i ≡ Some x → (P : ℕ → X → Type 0) → P i y → ((j : ℕ) (z : X) → slice_get xs j ≡ Some z → P j z) → (j : ℕ) (z : X) → slice_get (slice_set xs i y) j ≡ Some z → P j z
  each_set xs i x y at P own others j z there = dite (ℕ_discrete j i)
      (λ same. subst (λ n. P n z) (sym same) (subst (P i) (some_is (sym (set_here xs i x y at) ∙ ap (slice_get (slice_set xs i y)) (sym same) ∙ there)) own))
      (λ apart. others j z (sym (set_else xs i j y apart) ∙ there))

-- a mapped list stays where the value at the changed place does
pub map_set : {X Y : Type 0} (f : X → Y) (xs : List X) (i : ℕ) (x y : X) → slice_get xs i ≡ Some x → f y ≡ f x → map f (slice_set xs i y) ≡ map f xs
map_set f [] i x y at same = refl
map_set f (z ∷ xs) zero x y at same = ap (λ w. w ∷ map f xs) (same ∙ ap f (sym (some_is at)))
map_set f (z ∷ xs) (suc i) x y at same = ap (λ l. f z ∷ l) (map_set f xs i x y at same)

-- ---- a core that goes on

-- It has its sizes still, and knows something else of itself.
pub record WentOn {D : Type 0} (old new : CoreState D) : Type 0 where
  pub known : Known
  pub pass : new.pass ≡ now_knowing old.pass known
  pub sizes : new.sizes ≡ old.sizes

-- it knows of no core but its own
abbrev pub IsLone : PassState → Type 0
IsLone p = p.view ≡ alone p.view p.core

lone_knowing : (v : View) (c : ℕ) (k : Known) → v ≡ alone v c → knowing v c k ≡ alone (knowing v c k) c
lone_knowing v c k lone =
    ap (λ w. knowing w c k) lone
    ∙ ap (λ m. record { own = c; known = m; past = blank }) (insert_again finmap.empty c (known_in v c) k)
    ∙ ap (λ (x : Known). record { own = c; known = finmap.insert finmap.empty c x; past = blank }) (sym (known_after v c k))

module _ {D : Type 0} (old new : CoreState D) (went : WentOn old new) where
  pub went_of : (cache : CacheParameters) → IsOf cache old → IsOf cache new
  went_of cache of = record {
    active = active_now cache old.pass new.pass went.known went.pass of.active;
    sizes = of.sizes ∙ sym went.sizes;
    many = of.many ∙ ap (λ (s : Numbers). s.blocks) (sym went.sizes);
  }

  pub went_lone : IsLone old.pass → IsLone new.pass
  went_lone lone = subst IsLone (sym went.pass) (lone_knowing old.pass.view old.pass.core went.known lone)

  pub went_core : new.pass.core ≡ old.pass.core
  went_core = ap (λ (p : PassState). p.core) went.pass

module _ {D : Type 0} (cache : CacheParameters) (old : List (CoreState D)) (at : ℕ) (core new : CoreState D) (there : slice_get old at ≡ Some core) (went : WentOn core new) (together : AreTogether cache old) where
  abbrev all : List (CoreState D)
  all = slice_set old at new

  abbrev Lone : CoreState D → Type 0
  Lone c = IsLone c.pass

  abbrev Apart : CoreState D → CoreState D → Type 0
  Apart c d = c.pass.core ≢ d.pass.core

  was : (i : ℕ) (c : CoreState D) → slice_get all i ≡ Some c → (b : CoreState D) × (slice_get old i ≡ Some b) × (c.pass.core ≡ b.pass.core)
  was = each_set old at core new there (λ i c. (b : CoreState D) × (slice_get old i ≡ Some b) × (c.pass.core ≡ b.pass.core))
      (core, there, went_core core new went)
      (λ i c here. (c, here, refl))

  -- the cores are together still where the one at a place went on
  pub together_set : AreTogether cache all
  together_set = record {
    of = all_at (IsOf cache) all (each_set old at core new there (λ _ c. IsOf cache c)
        (went_of core new went cache (at_all (IsOf cache) old together.of at core there))
        (λ i c here. at_all (IsOf cache) old together.of i c here));
    alone = all_at Lone all (each_set old at core new there (λ _ c. Lone c)
        (went_lone core new went (at_all Lone old together.alone at core there))
        (λ i c here. at_all Lone old together.alone i c here));
    apart = pairs_at Apart all (λ i j c d lower here below same.
        let a = was i c here in
        let b = was j d below in
        at_pairs Apart old together.apart i j a.0 b.0 lower a.1 b.1 (sym a.2 ∙ same ∙ b.2));
  }

-- ---- what an act does

-- It leaves its core its sizes, and that has one operation more at most.
pub record ChangesLittle {D : Type 0} (old new : CoreState D) : Type 0 where
  pub sizes : new.sizes ≡ old.sizes
  pub few : length (mine new.pass).operations ≤ length (mine old.pass).operations + 1

module _ {D : Type 0} (view : D → DiskView) (cache : CacheParameters) (old new : CoreState D) where
  little : new.sizes ≡ old.sizes → (mine new.pass).operations ≡ (mine old.pass).operations → ChangesLittle old new
  little sizes same = record { sizes = sizes; few = let counts = ap (length {A = Operation}) same in omega arith }

  same_core : new ≡ old → ChangesLittle old new
  same_core is = little (ap (λ (c : CoreState D). c.sizes) is) (ap (λ (c : CoreState D). (mine c.pass).operations) is)

  sealed : (r : Record) → Seals view old new r → ChangesLittle old new
  sealed r seals = little (ap (λ (c : CoreState D). c.sizes) seals.next) (ap (λ (c : CoreState D). (mine c.pass).operations) seals.next)

  one_more : (operation : Operation) → new.sizes ≡ old.sizes → new.pass ≡ now_knowing old.pass (with_operation (mine old.pass) operation) → ChangesLittle old new
  one_more operation sizes is = record {
    sizes = sizes;
    few =
        let counts = ap (λ (k : Known). length k.operations) (mine_is old.pass new.pass (with_operation (mine old.pass) operation) is) in
        let more = length-append (mine old.pass).operations (operation ∷ []) in
        omega arith;
  }

  idle_little : (act : Act) (form : Form) → DoesIdle view cache old new act form → ChangesLittle old new
  idle_little (acts.Call call) (forms.Drew ticket reply) d = one_more d.1.operation (ap (λ (c : CoreState D). c.sizes) d.3) d.1.pass
  idle_little (acts.Call call) (forms.Busy block holder) d = same_core d.1
  idle_little (acts.Call call) (forms.TxFull have more) d = same_core d.1
  idle_little (acts.Call call) form d = same_core d.1
  idle_little (acts.Begin call) forms.Begun d = little (ap (λ (c : CoreState D). c.sizes) d.1) (ap (λ (c : CoreState D). (mine c.pass).operations) d.1)
  idle_little (acts.Begin call) form d = same_core d.1
  idle_little acts.Commit (forms.Committed number) d = sealed d.1.sealed_as d.1.seals
  idle_little acts.Commit forms.Empty d = same_core d.2
  idle_little acts.Commit (forms.Sync (syncs.Failed core)) d = same_core d.2
  idle_little acts.Commit (forms.Sync (syncs.Fault device)) d = sealed d.1.sealed_as d.1.seals
  idle_little acts.Take forms.Order d = same_core d
  idle_little acts.Stop forms.Order d = same_core d
  idle_little acts.Drop forms.Order d = same_core d
  idle_little act form d = absurd d

  open_little : (begun : Call) (act : Act) (form : Form) → DoesOpen cache old new begun act form → ChangesLittle old new
  open_little begun acts.Take (forms.Took block) d = little (ap (λ (c : CoreState D). c.sizes) d.1) d.0.takes.more.operations
  open_little begun acts.Take forms.Ready d = same_core d.1
  open_little begun acts.Take (forms.Busy block holder) d = same_core d.1
  open_little begun acts.Stop (forms.Drew ticket reply) d = one_more d.0.operation (ap (λ (c : CoreState D). c.sizes) d.2) d.0.pass
  open_little begun acts.Stop (forms.Busy block holder) d = little (ap (λ (c : CoreState D). c.sizes) d.3) d.0.more.operations
  open_little begun acts.Stop (forms.TxFull have more) d = little (ap (λ (c : CoreState D). c.sizes) d.3) d.0.more.operations
  open_little begun acts.Drop forms.Dropped d = little (ap (λ (c : CoreState D). c.sizes) d)
      (ap (λ (c : CoreState D). (mine c.pass).operations) d ∙ ap (λ (k : Known). k.operations) (mine_now old.pass (emptied (mine old.pass))))
  open_little begun (acts.Call call) forms.Order d = same_core d
  open_little begun (acts.Begin call) forms.Order d = same_core d
  open_little begun acts.Commit forms.Order d = same_core d
  open_little begun act form d = absurd d

  does_little : (begun : Option Call) (act : Act) (form : Form) → Does view cache old new begun act form → ChangesLittle old new
  does_little None act form d = idle_little act form d
  does_little (Some call) act form d = open_little call act form d

-- ---- a line

-- the draws that each core has left
abbrev pub HaveLeft : {D : Type 0} → ℕ → List (CoreState D) → Type 0
HaveLeft {D} n cores = (i : ℕ) (c : CoreState D) → slice_get cores i ≡ Some c → n ≤ left_of c.pass

module _ {D : Type 0} (view : D → DiskView) (cache : CacheParameters) (old new : List (CoreState D)) (at : ℕ) (act : Act) (form : Form) (together : AreTogether cache old) (answered : IsAnswered view cache old new at act form) where
  abbrev core : CoreState D
  core = answered.core

  abbrev gone : CoreState D
  gone = record answered.after { pass = now_knowing core.pass (mine answered.after.pass) }

  split : AreTogether cache (take at old ++ core ∷ drop (at + 1) old)
  split = subst (AreTogether cache) (split_there old at core answered.at_place ∙ ap (λ n. take at old ++ core ∷ drop n old) (sym (add-one at))) together

  met_same : mine (met_all at old core).pass ≡ mine core.pass
  met_same = mine_met cache (take at old) (drop (at + 1) old) core split

  changes : ChangesLittle (met_all at old core) answered.after
  changes = does_little view cache (met_all at old core) answered.after core.begun act form answered.does

  went : WentOn core gone
  went = record { known = mine answered.after.pass; pass = refl; sizes = changes.sizes }

  pub answered_together : AreTogether cache new
  answered_together = subst (AreTogether cache) (sym answered.cores) (together_set cache old at core gone answered.at_place went together)

  few : length (mine gone.pass).operations ≤ length (mine core.pass).operations + 1
  few =
      let now = ap (λ (k : Known). length k.operations) (mine_now core.pass (mine answered.after.pass)) in
      let was = ap (λ (k : Known). length k.operations) met_same in
      let more = changes.few in
      omega arith

  pub answered_left : (n : ℕ) → HaveLeft (n + 1) old → HaveLeft n new
  answered_left n left = subst (HaveLeft n) (sym answered.cores)
      (each_set old at core gone answered.at_place (λ _ c. n ≤ left_of c.pass)
      (let most = few in let own = left at core answered.at_place in omega arith)
      (λ i c here. let its = left i c here in omega arith))

-- ---- a line that ran out of memory

pub went_off : {D : Type 0} (core : CoreState D) → WentOn core (without_handle core)
went_off core = record { known = emptied (mine core.pass); pass = refl; sizes = refl }

module _ {D : Type 0} (cache : CacheParameters) (old new : List (CoreState D)) (at : ℕ) (off : IsLeftOff old new at) where
  pub off_together : AreTogether cache old → AreTogether cache new
  off_together together = ⊎_elim
      (λ same. subst (AreTogether cache) (sym same) together)
      (λ dropped. subst (AreTogether cache) (sym dropped.2) (together_set cache old at dropped.0 (without_handle dropped.0) dropped.1 (went_off dropped.0) together))
      off
