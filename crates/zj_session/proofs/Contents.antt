-- The contents of the blocks that a core holds are those that the history so far left in the blocks that its handle is told to have taken.
use Rattle.std.proofs.Common.{◌≡◌, ℕ, ◌==◌, Bool, true, false, true≢false, cond, ◌||◌, eqb-true, is_some, List, [], ◌∷◌, map, take, find, option_map, Option, Some, None, IfSome, IsSome, refl, sym, ap, ◌∙◌, subst}
use Rattle.std.specs.FinMap as finmap
use Rattle.std.proofs.lemmas.Option.{get_or_from_slice_get}
use Rattle.zj_block.specs.Lists.{Entries, content_under}
use Rattle.zj_block.specs.Sizes.{Numbers}
use Rattle.zj_history.specs.Operation.{Operation}
use Rattle.zj_history.specs.State.{BlockState, after}
use Rattle.zj_dirs.specs.Possible.{Always}
use Rattle.zj_inode.specs.Footprint.{Foot}
use Rattle.zj_layout.specs.Image.{Image}
use Rattle.zj_layout.proofs.Follow.{none_some}
use Rattle.zj_tree.specs.declared.call.Call.{Call}
use Rattle.zj_turns.specs.CacheHistory.{content}
use Rattle.zj_turns.specs.Views.{Hold}
use Rattle.zj_turns.specs.Passes.{IsLoadedAfter, PassState, holds, mine}
use Rattle.zj_core.specs.Core.{NeedsNoMore}
use Rattle.zj_core.specs.Handle.{IsDue, IsPerformed, NeedsNext, content_held, entries_held, root_block}
use Rattle.zj_core.proofs.Needing.{always_same, held_under, performs_same}
use Rattle.zj_session.specs.Played.{AreBlocksOf, OpenHandle, blocks_of, contents_in, is_in, is_stopped}

contents_under : (state : BlockState) (blocks : List ℕ) (b : ℕ) → content_under (contents_in state blocks) b ≡ cond (is_in b blocks) (Some (content state b)) None
contents_under state [] b = refl
contents_under state (x ∷ blocks) b = by (x == b) refl (contents_under state blocks b)
  where
    by : (t : Bool) → (x == b) ≡ t → content_under (contents_in state blocks) b ≡ cond (is_in b blocks) (Some (content state b)) None
        → option_map (λ (e : ℕ × List ℕ). e.1) (cond t (Some (x, content state x)) (find (λ (e : ℕ × List ℕ). e.0 == b) (contents_in state blocks))) ≡ cond (t || is_in b blocks) (Some (content state b)) None
    by true is rest = ap (λ n. Some (content state n)) (eqb-true x b is)
    by false is rest = rest

-- ---- the blocks that are held

entries_in : (es : Entries) (b : ℕ) → is_in b (map (λ e. e.0) es) ≡ is_some (content_under es b)
entries_in [] b = refl
entries_in (e ∷ es) b = by (e.0 == b) (entries_in es b)
  where
    by : (t : Bool) → is_in b (map (λ e. e.0) es) ≡ is_some (content_under es b)
        → (t || is_in b (map (λ e. e.0) es)) ≡ is_some (option_map (λ (e : ℕ × List ℕ). e.1) (cond t (Some e) (find (λ (e : ℕ × List ℕ). e.0 == b) es)))
    by true rest = refl
    by false rest = rest

abbrev pub blocks_held : PassState → List ℕ
blocks_held p = map (λ e. e.0) (entries_held (mine p))

pub held_in : (p : PassState) (b : ℕ) → holds p b ≡ is_in b (blocks_held p)
held_in p b = by (finmap.get (mine p).held b) ∙ sym (entries_in (entries_held (mine p)) b ∙ ap is_some (held_under (mine p) b))
  where
    by : (o : Option Hold) → is_some o ≡ is_some (option_map (λ (h : Hold). take 64 h.loaded) o)
    by None = refl
    by (Some h) = refl

-- ---- blocks found with these contents, and more

-- contents are found in another list, too
abbrev pub AreFound : Entries → Entries → Type 0
AreFound found other = (b : ℕ) (c : List ℕ) → content_under found b ≡ Some c → content_under other b ≡ Some c

pub always_found : (sizes : Numbers) (found other : Entries) → AreFound found other → (P : Image → Type 0) → Always sizes found P → Always sizes other P
always_found sizes found other more P always state tree possible = always state tree (record { shows = possible.shows; agrees = λ b c e. possible.agrees b c (more b c e) })

if_some : {X : Type 0} (P Q : X → Type 0) (o : Option X) → ((x : X) → P x → Q x) → IfSome o P → IfSome o Q
if_some P Q None step holds = tt
if_some P Q (Some x) step holds = step x holds

pub blocks_found : (sizes : Numbers) (found other : Entries) (handle : Option OpenHandle) (blocks : List ℕ) → AreFound found other → AreBlocksOf sizes found handle blocks → AreBlocksOf sizes other handle blocks
blocks_found sizes found other handle blocks more its = record {
  only = its.only;
  taken = its.taken;
  root = its.root;
  foot = λ b there without. if_some (λ (h : OpenHandle). Always sizes found (λ image. Foot sizes image h.call b)) (λ (h : OpenHandle). Always sizes other (λ image. Foot sizes image h.call b)) handle
      (λ h always. always_found sizes found other more (λ image. Foot sizes image h.call b) always)
      (its.foot b there without);
}

-- a handle that has taken no block has none
pub none_its : (sizes : Numbers) (found : Entries) (handle : Option OpenHandle) → is_stopped handle ≡ false → blocks_of handle ≡ [] → AreBlocksOf sizes found handle []
none_its sizes found handle not_stopped none = record {
  only = λ _. sym none;
  taken = λ b has. absurd (true≢false (sym has ∙ ap (is_in b) none));
  root = λ stopped. absurd (true≢false (sym stopped ∙ not_stopped));
  foot = λ b there. absurd (true≢false (sym there));
}

module _ (start : BlockState) (history : List Operation) (p : PassState) (blocks : List ℕ) (told : (b : ℕ) → holds p b ≡ is_in b blocks)
    (loaded : (b : ℕ) (h : Hold) → finmap.get (mine p).held b ≡ Some h → IsLoadedAfter start history b h) where
  pub same_contents : (b : ℕ) → content_under (contents_in (after start history) blocks) b ≡ content_under (entries_held (mine p)) b
  same_contents b = contents_under (after start history) blocks b ∙ by (finmap.get (mine p).held b) refl ∙ sym (held_under (mine p) b)
    where
      by : (o : Option Hold) → finmap.get (mine p).held b ≡ o → cond (is_in b blocks) (Some (content (after start history) b)) None ≡ content_held (mine p) b
      by None is = ap (λ t. cond t (Some (content (after start history) b)) None) (sym (told b) ∙ ap is_some is) ∙ sym (ap (option_map (λ (h : Hold). take 64 h.loaded)) is)
      by (Some h) is = ap (λ t. cond t (Some (content (after start history) b)) None) (sym (told b) ∙ ap is_some is)
          ∙ ap Some (get_or_from_slice_get (after start history) b (take 64 h.loaded) [] (loaded b h is).found.content)
          ∙ sym (ap (option_map (λ (h : Hold). take 64 h.loaded)) is)

  none_under : (b : ℕ) → holds p b ≡ false → content_under (contents_in (after start history) blocks) b ≡ None
  none_under b free = contents_under (after start history) blocks b ∙ ap (λ t. cond t (Some (content (after start history) b)) None) (sym (told b) ∙ free)

  free_of : (b : ℕ) → content_under (contents_in (after start history) blocks) b ≡ None → holds p b ≡ false
  free_of b none = by (is_in b blocks) (told b) (sym (contents_under (after start history) blocks b) ∙ none)
    where
      by : (t : Bool) → holds p b ≡ t → cond t (Some (content (after start history) b)) None ≡ None → holds p b ≡ false
      by true is some = absurd (none_some (sym some))
      by false is none = is

  -- the blocks of a handle are its blocks as the history left them
  pub blocks_left : (sizes : Numbers) (handle : Option OpenHandle) → AreBlocksOf sizes (entries_held (mine p)) handle blocks → AreBlocksOf sizes (contents_in (after start history) blocks) handle blocks
  blocks_left sizes handle = blocks_found sizes (entries_held (mine p)) (contents_in (after start history) blocks) handle blocks (λ b c is. same_contents b ∙ is)

  -- a block that is needed next is due, and where none is needed the call is performed
  pub next_due : (sizes : Numbers) (call : Call) (block : ℕ) → NeedsNext sizes p call block → IsDue sizes (contents_in (after start history) blocks) call block
  next_due sizes call block next = record {
    fresh = same_contents block ∙ next.fresh;
    foot = always_same sizes (entries_held (mine p)) (contents_in (after start history) blocks) same_contents (λ image. Foot sizes image call block) next.foot;
    first = λ none. next.first (sym (same_contents (root_block sizes)) ∙ none);
    within = next.within;
  }

  pub no_more_performed : (sizes : Numbers) (call : Call) → NeedsNoMore sizes p call → IsPerformed sizes (contents_in (after start history) blocks) call
  no_more_performed sizes call done = record {
    root = subst IsSome (sym (same_contents (root_block sizes))) done.root;
    reply = done.reply;
    written = done.written;
    performs = performs_same sizes (entries_held (mine p)) (contents_in (after start history) blocks) same_contents done.written call done.reply done.performs;
  }

-- what is held has a content, and the other way
pub content_there : (p : PassState) (b : ℕ) → holds p b ≡ true → (c : List ℕ) × (content_held (mine p) b ≡ Some c)
content_there p b held = by (finmap.get (mine p).held b) refl
  where
    by : (o : Option Hold) → finmap.get (mine p).held b ≡ o → (c : List ℕ) × (content_held (mine p) b ≡ Some c)
    by None is = absurd (true≢false (sym held ∙ ap is_some is))
    by (Some h) is = (take 64 h.loaded, ap (option_map (λ (h : Hold). take 64 h.loaded)) is)

pub held_there : (p : PassState) (b : ℕ) → IsSome (content_under (entries_held (mine p)) b) → holds p b ≡ true
held_there p b some = by (finmap.get (mine p).held b) refl (subst IsSome (held_under (mine p) b) some)
  where
    by : (o : Option Hold) → finmap.get (mine p).held b ≡ o → IsSome (content_held (mine p) b) → holds p b ≡ true
    by None is there = absurd (true≢false (sym there ∙ ap (λ o. is_some (option_map (λ (h : Hold). take 64 h.loaded) o)) is))
    by (Some h) is there = ap is_some is
