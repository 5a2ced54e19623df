-- From the first reason that counts to the answer, in a state that shows a tree.
use Rattle.std.proofs.Common.{◌≡◌, ◌≢◌, ℕ, ◌+◌, ◌≤◌, Bool, true, false, eqb, ltb, List, ◌∷◌, length, Option, Some, None, sym, ap, ◌∙◌, subst, arith, IsSome, refl}
use Rattle.std.proofs.lemmas.List.FromFn.{length-map-range_with_len}
use Rattle.zj_block.specs.Sizes.{Numbers, room}
use Rattle.zj_tree.specs.declared.content.Content.{Content}
use Rattle.zj_tree.specs.declared.call.Call.{Call}
use Rattle.zj_tree.specs.declared.call.Refusal.{Refusal}
use Rattle.zj_tree.specs.declared.call.Reply.{Reply}
use Rattle.zj_tree.specs.declared.call.Reply.TheVariants.{Refused}
use Rattle.zj_tree.specs.Tree.{FileTree, entry_count, used}
use Rattle.zj_tree.specs.Changed.{changed}
use Rattle.zj_tree.specs.Apply.{refuse_if, first_refusal, reasons, nothing, resolve, answer, outcome}
use Rattle.zj_layout.specs.declared.fields.Kind.TheVariants.{Dir}
use Rattle.zj_layout.specs.Graph.{links_of, content_of, follow}
use Rattle.zj_layout.specs.Image.{State, Image, image_of, node_of, byte_at_place, link_or_none, held, graph_of}
use Rattle.zj_layout.specs.Shows.{Shows, IsState, limits_of}
use Rattle.zj_layout.proofs.Follow.{Path'}
use Rattle.zj_layout.proofs.Live.{led_live}
use Rattle.zj_layout.proofs.Counted.{entries_counted}
use Rattle.zj_layout.proofs.Room.{free_blocks, used_and_free}
use Rattle.zj_changes.specs.Holds.{HoldsTree, Answers}
use Rattle.zj_changes.proofs.Calls.{shows_holds}
use Rattle.zj_changes.proofs.Walk.{resolve_node}

-- ---- reasons

-- a reason that doesn't count, and one that does
pub skip : (o : Option Refusal) (rest : List (Option Refusal)) → o ≡ None → first_refusal (o ∷ rest) ≡ first_refusal rest
skip o rest e = ap (λ x. first_refusal (x ∷ rest)) e

pub tell : (o : Option Refusal) (rest : List (Option Refusal)) (refusal : Refusal) → o ≡ Some refusal → first_refusal (o ∷ rest) ≡ Some refusal
tell o rest refusal e = ap (λ x. first_refusal (x ∷ rest)) e

-- a test that fails, and one that holds
pub passes : (b : Bool) (refusal : Refusal) → b ≡ false → refuse_if b refusal ≡ None
passes b refusal e = ap (λ x. refuse_if x refusal) e

pub counts : (b : Bool) (refusal : Refusal) → b ≡ true → refuse_if b refusal ≡ Some refusal
counts b refusal e = ap (λ x. refuse_if x refusal) e

pub no_lt : (i k : ℕ) → k ≤ i → ltb i k ≡ false
no_lt i k le = grind arith

pub differ : (a b : ℕ) → a ≢ b → eqb a b ≡ false
differ a b ne = grind arith

-- ---- answers

-- a directory has as many entries as its node says
pub dir_length : (image : Image) (dir : ℕ) → (node_of image dir).kind ≡ Dir → length (links_of (graph_of image dir)) ≡ (node_of image dir).size
dir_length image dir is =
    ap (λ k. length (links_of (held k (node_of image dir).size (byte_at_place image dir) (link_or_none image dir)))) is
    ∙ length-map-range_with_len (link_or_none image dir) 0 (node_of image dir).size

-- the tree's blocks and the free ones are all for data
pub blocks_split : (sizes : Numbers) (s : State) (t : FileTree) → IsState sizes s → (h : HoldsTree sizes (image_of sizes s) t) → used t + free_blocks sizes (image_of sizes s) h.stored ≡ room sizes
blocks_split sizes s t shape h = used_and_free sizes (image_of sizes s) h.stored t h.rooted h.describes (omega (arith, shape.limits.some_data))

module _ (sizes : Numbers) (s : State) (t : FileTree) (shows : Shows sizes s t) where
  abbrev image : Image
  image = image_of sizes s

  pub holds : HoldsTree sizes image t
  holds = shows_holds sizes s t shows

  -- a call that is refused
  pub refused : (call : Call) (refusal : Refusal) → first_refusal (reasons (limits_of sizes) call t) ≡ Some refusal → Answers sizes call (Refused refusal) t s
  refused call refusal e = record {
    replies = ap (λ o. (outcome t o (answer call t, changed call t)).0) e;
    leaves = subst (Shows sizes s) (sym (ap (λ o. (outcome t o (answer call t, changed call t)).1) e)) shows;
  }

  -- a call that is not
  pub served : (s' : State) (call : Call) (reply : Reply) → first_refusal (reasons (limits_of sizes) call t) ≡ None → answer call t ≡ reply → Shows sizes s' (changed call t) → Answers sizes call reply t s'
  served s' call reply e is after = record {
    replies = ap (λ o. (outcome t o (answer call t, changed call t)).0) e ∙ is;
    leaves = subst (Shows sizes s') (sym (ap (λ o. (outcome t o (answer call t, changed call t)).1) e)) after;
  }

  -- a path that leads somewhere is found
  pub found : (path : Path') (node : ℕ) → follow (graph_of image) 0 path ≡ Some node → nothing (resolve t path) ≡ None
  found path node leads = by (content_of (graph_of image node)) refl (led_live sizes.nodes (graph_of image) holds.rooted path node leads)
    where
      by : (o : Option Content) → content_of (graph_of image node) ≡ o → IsSome o → nothing (resolve t path) ≡ None
      by None e live = absurd cc
      by (Some c) e live = ap nothing (resolve_node image t holds.describes path node c leads e)

  -- how many entries a directory has
  pub count_at : (path : Path') (dir : ℕ) → follow (graph_of image) 0 path ≡ Some dir → (node_of image dir).kind ≡ Dir → entry_count t path ≡ (node_of image dir).size
  count_at path dir leads is = entries_counted sizes.nodes (graph_of image) holds.rooted t holds.describes path dir leads ∙ dir_length image dir is

-- what tables hold that are those of a state has room
pub fits : (sizes : Numbers) (s : State) (t : FileTree) → Shows sizes s t → used t ≤ room sizes
fits sizes s t shows = omega (arith, blocks_split sizes s t shows.shape (shows_holds sizes s t shows))
