-- What storing leaves: each block that is held, as it was loaded.
use Rattle.std.proofs.Common.{◌≡◌, ℕ, zero, suc, ◌-◌, ◌<◌, Bool, true, false, cond, is_some, List, [], ◌∷◌, length, drop, refl, sym, ap, ◌∙◌, arith, Some, None, Option}
use Rattle.std.specs.Prelude.{slice_get}
use Rattle.std.specs.Option.{unwrap_or}
use Rattle.std.specs.Ordering.{nat_cmp, eq_by_cmp}
use Rattle.std.specs.FinMap as finmap
use Rattle.std.proofs.Math.Seq.{drop-cons}
use Rattle.std.proofs.lemmas.Option.{get_or_from_slice_get, slice_get_within}
use mathlib.Core.Logic.{dite}
use native.Mathlib.Decide.{ℕ_discrete}
use Rattle.zj_block.specs.Lists.{Entries}
use Rattle.zj_turns.specs.Views.{Hold, Known, holding, hold_in, stored_as, taken}
use Rattle.zj_turns.specs.Passes.{PassState, hold_of, mine, now_knowing}
use Rattle.zj_turns.proofs.Maps.{get_here, get_else, tied, untied}
use Rattle.zj_core.specs.Steps.{stored_into}
use Rattle.zj_core.proofs.Knowing.{next_step}

-- the entries from a place on
pub drop_one : (entries : Entries) (i b : ℕ) (c : List ℕ) → 0 < i → slice_get entries (i - 1) ≡ Some (b, c) → drop (i - 1) entries ≡ (b, c) ∷ drop i entries
drop_one entries i b c some at =
    let within : i - 1 < length entries = slice_get_within entries (i - 1) (b, c) at in
    let next : suc (i - 1) ≡ i = omega arith in
    drop-cons entries (i - 1) (b, c) within ∙ ap (λ (e : ℕ × List ℕ). e ∷ drop (suc (i - 1)) entries) (get_or_from_slice_get entries (i - 1) (b, c) (b, c) at) ∙ ap (λ n. (b, c) ∷ drop n entries) next

pub drop_none : (entries : Entries) → drop (length entries) entries ≡ []
drop_none [] = refl
drop_none (e ∷ entries) = drop_none entries

-- a block after a content was stored or not
abbrev pub stored_at : Option Hold → Option (List ℕ) → Option Hold
stored_at o None = o
stored_at o (Some c) = Some (stored_as (unwrap_or o taken).loaded c)

loaded_at : (o : Option Hold) (c : Option (List ℕ)) → (unwrap_or (stored_at o c) taken).loaded ≡ (unwrap_or o taken).loaded
loaded_at o None = refl
loaded_at o (Some c) = refl

there_at : (o : Option Hold) (c : Option (List ℕ)) → is_some o ≡ true → is_some (stored_at o c) ≡ true
there_at o None there = there
there_at o (Some c) there = refl

module _ (k : Known) where
  pub stored_drawn : (es : Entries) → (stored_into k es).drawn ≡ k.drawn
  stored_drawn [] = refl
  stored_drawn (e ∷ es) = stored_drawn es

  pub stored_operations : (es : Entries) → (stored_into k es).operations ≡ k.operations
  stored_operations [] = refl
  stored_operations (e ∷ es) = stored_operations es

  -- how each block is held
  pub stored_get : (es : Entries) (b : ℕ) → finmap.get (stored_into k es).held b ≡ stored_at (finmap.get k.held b) (finmap.find nat_cmp b es)
  stored_get [] b = refl
  stored_get (e ∷ es) b = dite (ℕ_discrete b e.0)
      (λ is. ap (finmap.get (stored_into k (e ∷ es)).held) is
      ∙ get_here (stored_into k es).held e.0 (stored_as (hold_in (stored_into k es) e.0).loaded e.1)
      ∙ ap (λ (l : List ℕ). Some (stored_as l e.1)) (ap (λ (o : Option Hold). (unwrap_or o taken).loaded) (stored_get es e.0) ∙ loaded_at (finmap.get k.held e.0) (finmap.find nat_cmp e.0 es))
      ∙ ap (λ n. stored_at (finmap.get k.held n) (Some e.1)) (sym is)
      ∙ ap (λ t. stored_at (finmap.get k.held b) (cond t (Some e.1) (finmap.find nat_cmp b es))) (sym (tied b e.0 is)))
      (λ no. get_else (stored_into k es).held e.0 b (stored_as (hold_in (stored_into k es) e.0).loaded e.1) no
      ∙ stored_get es b
      ∙ ap (λ t. stored_at (finmap.get k.held b) (cond t (Some e.1) (finmap.find nat_cmp b es))) (sym (untied b e.0 no)))

  pub stored_loaded : (es : Entries) (b : ℕ) → (hold_in (stored_into k es) b).loaded ≡ (hold_in k b).loaded
  stored_loaded es b = ap (λ (o : Option Hold). (unwrap_or o taken).loaded) (stored_get es b) ∙ loaded_at (finmap.get k.held b) (finmap.find nat_cmp b es)

  pub stored_there : (es : Entries) (b : ℕ) → finmap.contains_key k.held b ≡ true → finmap.contains_key (stored_into k es).held b ≡ true
  stored_there es b there = ap is_some (stored_get es b) ∙ there_at (finmap.get k.held b) (finmap.find nat_cmp b es) there

-- a block that is held was loaded
pub loaded_held : (k : Known) (b : ℕ) → ((h : Hold) → finmap.get k.held b ≡ Some h → length h.loaded ≡ 67) → finmap.contains_key k.held b ≡ true → length (hold_in k b).loaded ≡ 67
loaded_held k b read there = by (finmap.get k.held b) read there
  where
    by : (o : Option Hold) → ((h : Hold) → o ≡ Some h → length h.loaded ≡ 67) → is_some o ≡ true → length (unwrap_or o taken).loaded ≡ 67
    by None r t = absurd (cc)
    by (Some h) r t = r h refl

-- one more entry of a map is one of its blocks
pub entry_there : (m : finmap.FinMap nat_cmp (List ℕ)) (i b : ℕ) (c : List ℕ) → slice_get (finmap.entries m) i ≡ Some (b, c) → finmap.contains_key m b ≡ true
entry_there m i b c at = ap is_some (finmap.get-entries m b) ∙ there (finmap.entries m) i at
  where
    there : (es : Entries) (i : ℕ) → slice_get es i ≡ Some (b, c) → is_some (finmap.find nat_cmp b es) ≡ true
    there [] i at = absurd (cc)
    there (e ∷ es) zero at = ap (λ t. is_some (cond t (Some e.1) (finmap.find nat_cmp b es))) (tied b e.0 (sym (ap (λ (o : Option (ℕ × List ℕ)). (unwrap_or o (b, c)).0) at)))
    there (e ∷ es) (suc i) at = by (eq_by_cmp nat_cmp b e.0) (there es i at)
      where
        by : (t : Bool) → is_some (finmap.find nat_cmp b es) ≡ true → is_some (cond t (Some e.1) (finmap.find nat_cmp b es)) ≡ true
        by true there = refl
        by false there = there

-- one content more is stored
pub stores_one : (p q r : PassState) (entries : Entries) (i b : ℕ) (c : List ℕ) → q ≡ now_knowing p (stored_into (mine p) (drop i entries)) → 0 < i → slice_get entries (i - 1) ≡ Some (b, c)
    → r ≡ now_knowing q (holding (mine q) b (stored_as (hold_of q b).loaded c)) → r ≡ now_knowing p (stored_into (mine p) (drop (i - 1) entries))
stores_one p q r entries i b c is some at next =
    next_step (λ x. holding x b (stored_as (hold_in x b).loaded c)) p q r (stored_into (mine p) (drop i entries)) is next
    ∙ ap (λ es. now_knowing p (stored_into (mine p) es)) (sym (drop_one entries i b c some at))
