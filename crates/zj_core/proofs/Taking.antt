-- One block that a pass takes and loads.
use Rattle.std.proofs.Common.{◌≡◌, ◌≢◌, ◌⊎◌, inl, inr, ⊎_elim, ℕ, ◌==◌, Bool, true, false, true≢false, cond, eqb, eq-eqb, ne_eqb, is_some, List, [], ◌∷◌, ◌++◌, length, length-append, take, Option, Some, None, IsSome, refl, sym, ap, ◌∙◌, subst, arith}
use Rattle.std.specs.Option.{option_map}
use Rattle.std.specs.Prelude.{◌↔◌, IfNone, IfSome, IsNone, slice_get}
use Rattle.std.specs.Ordering.{nat_cmp}
use Rattle.std.specs.FinMap as finmap
use Rattle.std.proofs.Math.Seq.{take-append_seam}
use mathlib.Core.Logic.{dite}
use native.Mathlib.Decide.{ℕ_discrete}
use Rattle.zj_block.specs.Lists.{Entries, content_under}
use Rattle.zj_block.specs.Sizes.{Numbers}
use Rattle.zj_block.specs.declared.numbers.Writer.{Writer}
use Rattle.zj_layout.specs.Shows.{ShowsSome}
use Rattle.zj_turns.specs.Views.{Hold, Known, hold_in, holding, giving, loaded_as, seal_of, taken as just_taken}
use Rattle.zj_turns.specs.Passes.{CacheParameters, PassState, SomeStateAgrees, hold_of, holds, mine, now_knowing}
use Rattle.zj_turns.specs.Laws.{LoadedIsFound}
use Rattle.zj_turns.proofs.Maps.{get_here, get_else}
use Rattle.zj_turns.proofs.Again.{insert_again, remove_new}
use Rattle.zj_core.proofs.Knowing.{has_now, knowing_again, knowing_same, mine_now}
use Rattle.zj_tx.specs.Running.{HasNoted, IsNoted}
use Rattle.zj_core.specs.Handle.{HasTaken, IsPartOfSome, IsRead, content_held, root_block, writers_held}
use Rattle.zj_core.specs.Steps.{IsFree, Knows, TakesMore}
use Rattle.zj_core.proofs.Noting.{noted_more}
use Rattle.zj_history.specs.Operation.{FoundBlock}

pub holding_again : (k : Known) (b : ℕ) (h h' : Hold) → holding (holding k b h) b h' ≡ holding k b h'
holding_again k b h h' = ap (λ m. record { operations = k.operations; held = m; drawn = k.drawn; ticket = k.ticket; number = k.number }) (insert_again k.held b h h')

-- what is not under a number is not held
pub not_held : (sizes : Numbers) (p : PassState) (found : Entries) {follows : List ℕ} → HasTaken sizes p found follows → (b : ℕ) → content_under found b ≡ None → finmap.get (mine p).held b ≡ None
not_held sizes p found has b none = by (finmap.get (mine p).held b) (sym (has.same b) ∙ none)
  where
    by : (o : Option Hold) → option_map (λ (h : Hold). take 64 h.loaded) o ≡ None → o ≡ None
    by None e = refl
    by (Some h) e = absurd cc

length_seal : (content : List ℕ) (stamp : ℕ) (writer : Option Writer) → length content ≡ 64 → length (content ++ seal_of stamp writer) ≡ 67
length_seal content stamp None e = let l = length-append content (0 ∷ 0 ∷ stamp ∷ []) in omega arith
length_seal content stamp (Some w) e = let l = length-append content (w.core ∷ w.number ∷ stamp ∷ []) in omega arith

take_content : (content : List ℕ) (stamp : ℕ) (writer : Option Writer) → length content ≡ 64 → take 64 (content ++ seal_of stamp writer) ≡ content
take_content content stamp writer e = ap (λ n. take n (content ++ seal_of stamp writer)) (sym e) ∙ take-append_seam content (seal_of stamp writer)

-- a pass that took a block and loaded it, in two steps
pub two_steps : (p q r : PassState) (b : ℕ) (words : List ℕ) → q ≡ now_knowing p (holding (mine p) b just_taken) → r ≡ now_knowing q (holding (mine q) b (loaded_as words)) → r ≡ now_knowing p (holding (mine p) b (loaded_as words))
two_steps p q r b words first second =
    let k : Known = holding (mine p) b just_taken in
    second ∙ ap (λ (x : PassState). now_knowing x (holding (mine x) b (loaded_as words))) first
    ∙ ap (λ (x : Known). now_knowing (now_knowing p k) (holding x b (loaded_as words))) (mine_now p k)
    ∙ knowing_again p k (holding k b (loaded_as words))
    ∙ ap (now_knowing p) (holding_again (mine p) b just_taken (loaded_as words))

-- just taken
pub taken_held : (p q : PassState) (b : ℕ) → q ≡ now_knowing p (holding (mine p) b just_taken) → holds q b ≡ true
taken_held p q b e = ap (λ (x : PassState). holds x b) e ∙ ap (λ (k : Known). finmap.contains_key k.held b) (mine_now p (holding (mine p) b just_taken)) ∙ ap is_some (get_here (mine p).held b just_taken)

pub taken_unstored : (p q : PassState) (b : ℕ) → q ≡ now_knowing p (holding (mine p) b just_taken) → (hold_of q b).stored ≡ []
taken_unstored p q b e = ap (λ (x : PassState). (hold_of x b).stored) e ∙ ap (λ (k : Known). (hold_in k b).stored) (mine_now p (holding (mine p) b just_taken))
    ∙ ap (λ (o : Option Hold). (Rattle.std.specs.Option.unwrap_or o just_taken).stored) (get_here (mine p).held b just_taken)

pub taken_clear : (p q : PassState) (b : ℕ) → q ≡ now_knowing p (holding (mine p) b just_taken) → (mine p).drawn ≡ false → (mine q).drawn ≡ false
taken_clear p q b e clear = ap (λ (x : PassState). (mine x).drawn) e ∙ ap (λ (k : Known). k.drawn) (mine_now p (holding (mine p) b just_taken)) ∙ clear

module _ (sizes : Numbers) (p r : PassState) (found found' : Entries) (b : ℕ) (content : List ℕ) (stamp : ℕ) (writer : Option Writer)
    {follows : List ℕ} (has : HasTaken sizes p found follows) (fresh : content_under found b ≡ None) (long : length content ≡ 64)
    (is : r ≡ now_knowing p (holding (mine p) b (loaded_as (content ++ seal_of stamp writer)))) where
  abbrev words : List ℕ
  words = content ++ seal_of stamp writer

  pub mine_is : mine r ≡ holding (mine p) b (loaded_as words)
  mine_is = ap mine is ∙ mine_now p (holding (mine p) b (loaded_as words))

  get_block : finmap.get (mine r).held b ≡ Some (loaded_as words)
  get_block = ap (λ (k : Known). finmap.get k.held b) mine_is ∙ get_here (mine p).held b (loaded_as words)

  get_other : (c : ℕ) → c ≢ b → finmap.get (mine r).held c ≡ finmap.get (mine p).held c
  get_other c apart = ap (λ (k : Known). finmap.get k.held c) mine_is ∙ get_else (mine p).held b c (loaded_as words) apart

  pub is_held : holds r b ≡ true
  is_held = ap is_some get_block

  pub held_only : (c : ℕ) → holds r c ≡ true → (c ≡ b) ⊎ (holds p c ≡ true)
  held_only c h = dite (ℕ_discrete c b) (λ same. inl same) (λ apart. inr (ap is_some (sym (get_other c apart)) ∙ h))

  pub unstored : (hold_of r b).stored ≡ []
  unstored = ap (λ (o : Option Hold). (Rattle.std.specs.Option.unwrap_or o just_taken).stored) get_block

  -- its last writer was noted
  pub noted_now : LoadedIsFound → IsNone writer ↔ (stamp ≡ 0) → (follows' : List ℕ) → IfSome writer (IsNoted follows follows') → IfNone writer (follows' ≡ follows) → HasNoted follows' (writers_held (mine r))
  noted_now law told follows' some none = subst (λ (k : Known). HasNoted follows' (writers_held k)) (sym mine_is)
      (noted_more follows follows' (mine p) b words writer has.noted (not_held sizes p found has b fresh) (ap (λ (f : FoundBlock). f.writer) (law b stamp content writer long told).0) some none)

  -- given back at once all is as it was
  pub undone : (s : PassState) → s ≡ now_knowing r (giving (mine r) b) → s ≡ p
  undone s e =
      e ∙ ap (now_knowing r) given ∙ ap (λ (x : PassState). now_knowing x (mine p)) is ∙ knowing_again p (holding (mine p) b (loaded_as words)) (mine p) ∙ knowing_same p has.known
    where
      gone : finmap.remove (finmap.insert (mine p).held b (loaded_as words)) b ≡ (mine p).held
      gone = remove_new (mine p).held b (loaded_as words) (not_held sizes p found has b fresh)

      either : (t : Bool) → cond t false (mine p).drawn ≡ (mine p).drawn
      either true = sym has.clear
      either false = refl

      given : giving (mine r) b ≡ mine p
      given = ap (λ (k : Known). giving k b) mine_is
          ∙ ap (λ m. record { operations = (mine p).operations; held = m; drawn = cond (finmap.len m == 0) false (mine p).drawn; ticket = (mine p).ticket; number = (mine p).number }) gone
          ∙ ap (λ d. record { operations = (mine p).operations; held = (mine p).held; drawn = d; ticket = (mine p).ticket; number = (mine p).number }) (either (finmap.len (mine p).held == 0))

  pub takes_more : (cache : CacheParameters) → IsFree p b → Knows cache r → TakesMore cache p r
  takes_more cache free knows = record {
    more = record {
      operations = ap (λ (k : Known). k.operations) mine_is;
      drawn = ap (λ (k : Known). k.drawn) mine_is;
      ticket = ap (λ (k : Known). k.ticket) mine_is;
      number = ap (λ (k : Known). k.number) mine_is;
      kept = λ c h e. get_other c (λ same. absurd (let none = sym (not_held sizes p found has b fresh) ∙ ap (finmap.get (mine p).held) (sym same) ∙ e in cc)) ∙ e;
    };
    only = is ∙ ap (now_knowing p) (sym mine_is);
    free = λ c here before. ⊎_elim (λ same. subst (IsFree p) (sym same) free) (λ there. absurd (true≢false (sym there ∙ before))) (held_only c here);
    knows = inr knows;
  }

  module _ (under : (k : ℕ) → content_under found' k ≡ cond (eqb b k) (Some content) (content_under found k)) where
    under_block : content_under found' b ≡ Some content
    under_block = under b ∙ ap (λ t. cond t (Some content) (content_under found b)) (eq-eqb b b refl)

    under_other : (c : ℕ) → c ≢ b → content_under found' c ≡ content_under found c
    under_other c apart = under c ∙ ap (λ t. cond t (Some content) (content_under found c)) (ne_eqb b c (λ same. apart (sym same)))

    same_now : (c : ℕ) → content_under found' c ≡ content_held (mine r) c
    same_now c = dite (ℕ_discrete c b)
        (λ same. ap (content_under found') same ∙ under_block ∙ ap Some (sym (take_content content stamp writer long)) ∙ ap (option_map (λ (h : Hold). take 64 h.loaded)) (sym get_block) ∙ ap (content_held (mine r)) (sym same))
        (λ apart. under_other c apart ∙ has.same c ∙ ap (option_map (λ (h : Hold). take 64 h.loaded)) (sym (get_other c apart)))

    read_now : (c : ℕ) (h : Hold) → finmap.get (mine r).held c ≡ Some h → IsRead h
    read_now c h e = dite (ℕ_discrete c b)
        (λ same. subst IsRead (let it : Some (loaded_as words) ≡ Some h = sym get_block ∙ ap (finmap.get (mine r).held) (sym same) ∙ e in some_is (loaded_as words) h it) (record { loaded = length_seal content stamp writer long; stored = refl }))
        (λ apart. has.read c h (sym (get_other c apart) ∙ e))
      where
        some_is : (x y : Hold) → Some x ≡ Some y → x ≡ y
        some_is x y e = ap (λ (o : Option Hold). Rattle.std.specs.Option.unwrap_or o x) e

    root_now : (content_under found (root_block sizes) ≡ None → b ≡ root_block sizes) → IsSome (content_under found' (root_block sizes))
    root_now first = dite (ℕ_discrete (root_block sizes) b)
        (λ same. subst IsSome (sym (ap (content_under found') same ∙ under_block)) refl)
        (λ apart. subst IsSome (sym (under_other (root_block sizes) apart)) (there (content_under found (root_block sizes)) refl apart))
      where
        there : (o : Option (List ℕ)) → content_under found (root_block sizes) ≡ o → root_block sizes ≢ b → IsSome o
        there None e apart = absurd (apart (sym (first e)))
        there (Some x) e apart = refl

    part_now : SomeStateAgrees (ShowsSome sizes) (mine r) → IsPartOfSome sizes found'
    part_now some = record {
      state = some.state;
      tree = some.passes.0;
      possible = record { shows = some.passes.1; agrees = λ c x e. agrees c x (finmap.get (mine r).held c) refl (sym (same_now c) ∙ e) };
    }
      where
        agrees : (c : ℕ) (x : List ℕ) (o : Option Hold) → finmap.get (mine r).held c ≡ o → option_map (λ (h : Hold). take 64 h.loaded) o ≡ Some x → slice_get some.state c ≡ Some x
        agrees c x None e q = absurd cc
        agrees c x (Some h) e q = some.agrees c h e (read_now c h e).loaded ∙ q

    pub has_more : (content_under found (root_block sizes) ≡ None → b ≡ root_block sizes) → SomeStateAgrees (ShowsSome sizes) (mine r) → (follows' : List ℕ) → HasNoted follows' (writers_held (mine r)) → HasTaken sizes r found' follows'
    has_more first some follows' noted = record {
      known = has_now p r (holding (mine p) b (loaded_as words)) is;
      clear = ap (λ (k : Known). k.drawn) mine_is ∙ has.clear;
      read = read_now;
      same = same_now;
      begun = inr (root_now first, part_now some);
      noted = noted;
    }
