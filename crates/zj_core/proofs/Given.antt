-- Giving back: each block that is given is held no more, and while any is held, what was drawn for stays so.
use Rattle.std.proofs.Common.{◌≡◌, ◌≢◌, ◌⊎◌, inl, inr, ℕ, zero, suc, ◌-◌, ◌<◌, Bool, true, false, cond, not, eqb, ◌==◌, ne_eqb, eq-eqb, is_some, true≢false, List, [], ◌∷◌, length, get_or, drop, refl, sym, ap, ◌∙◌, subst, arith, Some, None, Option}
use Rattle.std.specs.Prelude.{slice_get, find}
use Rattle.std.specs.Option.{option_map, unwrap_or}
use Rattle.std.specs.Ordering.{nat_cmp}
use Rattle.std.specs.FinMap as finmap
use mathlib.Core.Logic.{dite}
use native.Mathlib.Decide.{ℕ_discrete}
use Rattle.zj_block.specs.Lists.{AreApart, Entries, content_under}
use Rattle.zj_turns.specs.Views.{Hold, Known, giving, hold_in, taken}
use Rattle.zj_turns.specs.Passes.{PassState, mine, now_knowing}
use Rattle.zj_turns.proofs.Maps.{get_gone, get_left, some_there}
use Rattle.zj_core.specs.Steps.{given_back}
use Rattle.zj_core.proofs.Knowing.{next_step}
use Rattle.zj_core.proofs.Stored.{drop_one}

-- what is held of a block that was given or not
abbrev given_at : Option Hold → Bool → Option Hold
given_at o t = cond t None o

-- an entry has the number
abbrev is_under : Entries → ℕ → Bool
is_under es b = is_some (content_under es b)

under_head : (e : ℕ × List ℕ) (es : Entries) (b : ℕ) → e.0 ≡ b → is_under (e ∷ es) b ≡ true
under_head e es b is = ap (λ t. is_some (option_map (λ (e : ℕ × List ℕ). e.1) (cond t (Some e) (find (λ (e : ℕ × List ℕ). eqb e.0 b) es)))) (eq-eqb e.0 b is)

under_tail : (e : ℕ × List ℕ) (es : Entries) (b : ℕ) → e.0 ≢ b → is_under (e ∷ es) b ≡ is_under es b
under_tail e es b other = ap (λ t. is_some (option_map (λ (e : ℕ × List ℕ). e.1) (cond t (Some e) (find (λ (e : ℕ × List ℕ). eqb e.0 b) es)))) (ne_eqb e.0 b other)

module _ (k : Known) where
  pub given_get : (es : Entries) (b : ℕ) → finmap.get (given_back k es).held b ≡ given_at (finmap.get k.held b) (is_under es b)
  given_get [] b = refl
  given_get (e ∷ es) b = dite (ℕ_discrete b e.0)
      (λ is. ap (finmap.get (given_back k (e ∷ es)).held) is ∙ get_gone (given_back k es).held e.0 ∙ ap (given_at (finmap.get k.held b)) (sym (under_head e es b (sym is))))
      (λ differs. get_left (given_back k es).held e.0 b differs ∙ given_get es b ∙ ap (given_at (finmap.get k.held b)) (sym (under_tail e es b (λ is. differs (sym is)))))

  pub given_operations : (es : Entries) → (given_back k es).operations ≡ k.operations
  given_operations [] = refl
  given_operations (e ∷ es) = given_operations es

  pub given_ticket : (es : Entries) → (given_back k es).ticket ≡ k.ticket
  given_ticket [] = refl
  given_ticket (e ∷ es) = given_ticket es

  pub given_number : (es : Entries) → (given_back k es).number ≡ k.number
  given_number [] = refl
  given_number (e ∷ es) = given_number es

  -- while a block is held, what was drawn for stays so
  pub given_drawn : (es : Entries) (b : ℕ) → finmap.contains_key (given_back k es).held b ≡ true → (given_back k es).drawn ≡ k.drawn
  given_drawn [] b there = refl
  given_drawn (e ∷ es) b there =
      let left : finmap.FinMap nat_cmp Hold = finmap.remove (given_back k es).held e.0 in
      ap (λ t. cond t false (given_back k es).drawn) (not_true (finmap.len left == 0) (some_there left b there))
      ∙ given_drawn es b (stays (given_back k es).held e.0 b there)
    where
      not_true : (t : Bool) → not t ≡ true → t ≡ false
      not_true true is = absurd (true≢false (sym is))
      not_true false is = refl

      stays : (m : finmap.FinMap nat_cmp Hold) (a b : ℕ) → finmap.contains_key (finmap.remove m a) b ≡ true → finmap.contains_key m b ≡ true
      stays m a b there = dite (ℕ_discrete b a)
          (λ is. absurd (true≢false (sym there ∙ ap (λ n. finmap.contains_key (finmap.remove m a) n) is ∙ ap is_some (get_gone m a))))
          (λ differs. ap is_some (sym (get_left m a b differs)) ∙ there)

  -- a block that is not given yet is held as before
  pub given_keeps : (es : Entries) (b : ℕ) → is_under es b ≡ false → finmap.get (given_back k es).held b ≡ finmap.get k.held b
  given_keeps es b other = given_get es b ∙ ap (given_at (finmap.get k.held b)) other

  -- after all are given nothing is drawn for
  pub given_clear : (es : Entries) → es ≢ [] → (given_back k es).held ≡ finmap.empty → (given_back k es).drawn ≡ false
  given_clear [] some empty = absurd (some refl)
  given_clear (e ∷ es) some empty = ap (λ m. cond (finmap.len m == 0) false (given_back k es).drawn) empty ∙ ap (λ n. cond (n == 0) false (given_back k es).drawn) (finmap.len-empty nat_cmp Hold)

-- the entries behind a place have other numbers
pub later_apart : (es : Entries) (i b : ℕ) (c : List ℕ) → AreApart es → slice_get es i ≡ Some (b, c) → is_under (drop (suc i) es) b ≡ false
later_apart es i b c apart at = by es i apart at
  where
    none_under : (es : Entries) → ((j : ℕ) (d : ℕ × List ℕ) → j < length es → b ≢ (get_or es j d).0) → is_under es b ≡ false
    none_under [] others = refl
    none_under (e ∷ es) others = under_tail e es b (λ is. others 0 e (omega arith) (sym is)) ∙ none_under es (λ j d lt. others (suc j) d (omega arith))

    by : (es : Entries) (i : ℕ) → AreApart es → slice_get es i ≡ Some (b, c) → is_under (drop (suc i) es) b ≡ false
    by [] i apart at = refl
    by (e ∷ es) zero apart at = none_under es (λ j d lt is. apart 0 (suc j) d (omega arith) (omega arith) (ap (λ (o : Option (ℕ × List ℕ)). (unwrap_or o (b, c)).0) at ∙ is))
    by (e ∷ es) (suc i) apart at = by es i (λ j l d lt inside. apart (suc j) (suc l) d (omega arith) (omega arith)) at

-- the entry at a place is one
pub entry_under : (es : Entries) (i b : ℕ) (c : List ℕ) → slice_get es i ≡ Some (b, c) → content_under es b ≢ None
entry_under es i b c at none = true≢false (sym (there es i at) ∙ ap is_some none)
  where
    there : (es : Entries) (i : ℕ) → slice_get es i ≡ Some (b, c) → is_under es b ≡ true
    there [] i at = absurd (cc)
    there (e ∷ es) zero at = under_head e es b (ap (λ (o : Option (ℕ × List ℕ)). (unwrap_or o (b, c)).0) at)
    there (e ∷ es) (suc i) at = dite (ℕ_discrete e.0 b)
        (λ is. under_head e es b is)
        (λ other. under_tail e es b other ∙ there es i at)

-- one block more is given: what is asked of it holds
module _ (k : Known) (es : Entries) (i b : ℕ) (c : List ℕ) (apart : AreApart es) (some : 0 < i) (at : slice_get es (i - 1) ≡ Some (b, c)) where
  other : is_under (drop i es) b ≡ false
  other = let next : suc (i - 1) ≡ i = omega arith in subst (λ n. is_under (drop n es) b ≡ false) next (later_apart es (i - 1) b c apart at)

  pub give_held : finmap.contains_key k.held b ≡ true → finmap.contains_key (given_back k (drop i es)).held b ≡ true
  give_held there = ap is_some (given_keeps k (drop i es) b other) ∙ there

  pub give_done : finmap.contains_key k.held b ≡ true → (k.drawn ≡ true) ⊎ ((h : Hold) → finmap.get k.held b ≡ Some h → h.stored ≡ [])
      → ((hold_in (given_back k (drop i es)) b).stored ≡ []) ⊎ ((given_back k (drop i es)).drawn ≡ true)
  give_done there (inl drawn) = inr (given_drawn k (drop i es) b (give_held there) ∙ drawn)
  give_done there (inr unstored) = inl (ap (λ (o : Option Hold). (unwrap_or o taken).stored) (given_keeps k (drop i es) b other) ∙ by (finmap.get k.held b) unstored)
    where
      by : (o : Option Hold) → ((h : Hold) → o ≡ Some h → h.stored ≡ []) → (unwrap_or o taken).stored ≡ []
      by None u = refl
      by (Some h) u = u h refl

pub gives_one : (p q r : PassState) (es : Entries) (i b : ℕ) (c : List ℕ) → q ≡ now_knowing p (given_back (mine p) (drop i es)) → 0 < i → slice_get es (i - 1) ≡ Some (b, c)
    → r ≡ now_knowing q (giving (mine q) b) → r ≡ now_knowing p (given_back (mine p) (drop (i - 1) es))
gives_one p q r es i b c is some at next =
    next_step (λ x. giving x b) p q r (given_back (mine p) (drop i es)) is next
    ∙ ap (λ l. now_knowing p (given_back (mine p) l)) (sym (drop_one es i b c some at))
