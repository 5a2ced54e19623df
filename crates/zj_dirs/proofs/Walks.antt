-- Walking over taken blocks is walking in every possible state.
use Rattle.std.proofs.Common.{◌≡◌, ℕ, suc, ◌+◌, ◌<◌, ◌≤◌, List, [], ◌∷◌, ◌++◌, length, take, drop, Option, Some, None, refl, sym, ap, ◌∙◌, subst, arith, get_or}
use Rattle.std.specs.FinMap as map_of
use Rattle.std.specs.FinMap.{get-empty}
use Rattle.std.specs.Ordering.{nat_cmp}
use Rattle.std.specs.Option.{option_and_then, unwrap_or}
use Rattle.std.proofs.lemmas.List.{take_all, take_more, take-append-drop}
use Rattle.std.proofs.lemmas.List.FromFn.{fill_by_all}
use Rattle.std.proofs.lemmas.Option.{slice_get-get_or}
use Rattle.std.proofs.Math.Seq.{drop-cons}
use Rattle.zj_block.specs.Block.{zero_content}
use Rattle.zj_block.specs.Lists.{Entries, content_under}
use Rattle.zj_block.specs.Sizes.{Numbers}
use Rattle.zj_block.specs.declared.numbers.BlockNo.{BlockNo}
use Rattle.zj_tree.specs.Tree.{FileTree}
use Rattle.zj_layout.specs.declared.fields.Kind.TheVariants.{Free, Dir}
use Rattle.zj_layout.specs.declared.fields.Node.{Node}
use Rattle.zj_layout.specs.Graph.{Graph, follow, step, IsLive, IsRooted}
use Rattle.zj_layout.specs.Image.{State, block_at, Image, image_of, graph_of, free_node, node_of, held, byte_at_place, link_or_none}
use Rattle.zj_layout.specs.Stored.{IsStored}
use Rattle.zj_layout.specs.Shows.{Shows, put_blocks}
use Rattle.zj_layout.proofs.Follow.{follow_more}
use Rattle.zj_layout.proofs.Fresh.{past_node}
use Rattle.zj_layout.proofs.Live.{led_live, not_live}
use Rattle.zj_layout.proofs.Sound.{stored, rooted}
use Rattle.zj_dirs.specs.declared.answers.Entry.{Entry}
use Rattle.zj_dirs.specs.declared.answers.Stop.{Stop}
use Rattle.zj_dirs.specs.declared.answers.Stop.TheVariants.{Need}
use Rattle.zj_dirs.specs.Looking.{IsEntry}
use Rattle.zj_dirs.specs.Possible.{IsPossible, Always, Made, Stops}
use Rattle.zj_dirs.specs.Walking.{IsStepBlock, IsOnTheWay, StandsOnTheWay, StepSays}
use Rattle.zj_dirs.specs.declared.answers.Step.TheVariants.{NotFound}
use Rattle.zj_dirs.proofs.Looks.{overlaid_nothing}

-- ---- with nothing written, the made state is the possible one

pub put_nothing : (s : State) → put_blocks s map_of.empty ≡ s
unfolding put_blocks
put_nothing s = sym (fill_by_all (λ b. unwrap_or (map_of.get (map_of.empty {R = nat_cmp}) b) (block_at s b)) s (length s) zero_content refl (λ k lt. sym (ap (λ o. unwrap_or o (block_at s k)) (get-empty nat_cmp k))))

pub made_always : (sizes : Numbers) (found : Entries) (P : Image → Type 0) → Made sizes found map_of.empty P → Always sizes found P
made_always sizes found P h state tree p = subst (λ s. P (image_of sizes s)) (put_nothing state) (h state tree p)

pub always_made : (sizes : Numbers) (found : Entries) (P : Image → Type 0) → Always sizes found P → Made sizes found map_of.empty P
always_made sizes found P h state tree p = subst (λ s. P (image_of sizes s)) (sym (put_nothing state)) (h state tree p)

-- ---- a possible state is stored, and its entries hang together

pub possible_stored : (sizes : Numbers) (state : State) (tree : FileTree) → Shows sizes state tree → IsStored sizes (image_of sizes state)
possible_stored sizes state tree shows = stored sizes (image_of sizes state) (past_node sizes state) shows.sound.laid_out

pub possible_rooted : (sizes : Numbers) (state : State) (tree : FileTree) → Shows sizes state tree → IsRooted sizes.nodes (graph_of (image_of sizes state))
possible_rooted sizes state tree shows = rooted sizes (image_of sizes state) (past_node sizes state) (omega (arith, shows.shape.limits.least_nodes)) shows.sound

-- a node that a path leads to isn't free
pub leads_live : (sizes : Numbers) (found : Entries) (state : State) (tree : FileTree) → IsPossible sizes found state tree → (path : List (List ℕ)) (i : ℕ) → follow (graph_of (image_of sizes state)) 0 path ≡ Some i → IsLive (graph_of (image_of sizes state) i)
leads_live sizes found state tree p path i h = led_live sizes.nodes (graph_of (image_of sizes state)) (possible_rooted sizes state tree p.shows) path i h

-- a node that isn't free is one of the image's
pub live_within : (sizes : Numbers) (found : Entries) (state : State) (tree : FileTree) → IsPossible sizes found state tree → (i : ℕ) → IsLive (graph_of (image_of sizes state) i) → i < sizes.nodes
live_within sizes found state tree p i live = (possible_rooted sizes state tree p.shows).within i live

-- ---- what a node's kind says of a step

module _ (sizes : Numbers) (state : State) (i : ℕ) (node : Node) (is : (image_of sizes state).node i ≡ Some node) where
  abbrev im : Image
  im = image_of sizes state

  pub the_kind : (node_of im i).kind ≡ node.kind
  the_kind = ap (λ o. (unwrap_or o free_node).kind) is

  pub free_dead : IsLive (graph_of im i) → node.kind ≡ Free → ⊥
  free_dead live e = not_live (subst IsLive (ap (λ k. held k (node_of im i).size (byte_at_place im i) (link_or_none im i)) (the_kind ∙ e)) live)

  pub step_absent : (name : List ℕ) (o : Option Entry) → node.kind ≡ Dir → o ≡ None → IsEntry im i name o → StepSays im i name NotFound
  step_absent name o e is_none h = (the_kind ∙ e, subst (IsEntry im i name) is_none h)

  pub step_found : (name : List ℕ) (o : Option Entry) (entry : Entry) → o ≡ Some entry → IsEntry im i name o → step (graph_of im) i name ≡ Some entry.node
  step_found name o entry is_some h = leads (subst (IsEntry im i name) is_some h)
    where
      leads : IsEntry im i name (Some entry) → step (graph_of im) i name ≡ Some entry.node
      leads q = q.leads

-- ---- a walk, one name at a time

pub follow_rest : (g : Graph) (path : List (List ℕ)) (k i j : ℕ) (name : List ℕ) → k < length path → name ≡ get_or path k name → follow g 0 (take k path) ≡ Some i → step g i name ≡ Some j → follow g 0 (take (k + 1) path) ≡ Some j
follow_rest g path k i j name lt is leads next =
    ap (follow g 0) (take_more path k name lt) ∙ ap (λ n. follow g 0 (take k path ++ n ∷ [])) (sym is)
    ∙ follow_more g 0 (take k path) name ∙ ap (option_and_then (λ d. step g d name)) leads ∙ next

pub follow_all : (g : Graph) (path : List (List ℕ)) (k i : ℕ) → length path ≤ k → follow g 0 (take k path) ≡ Some i → follow g 0 path ≡ Some i
follow_all g path k i le h = ap (follow g 0) (sym (take_all k path le)) ∙ h

pub stands_before : (image : Image) (path : List (List ℕ)) (k i : ℕ) (name : List ℕ) → k < length path → name ≡ get_or path k name → follow (graph_of image) 0 (take k path) ≡ Some i → StandsOnTheWay image path name i
stands_before image path k i name lt is leads = record {
  front = take k path;
  rest = drop (suc k) path;
  path_is = sym (take-append-drop k path) ∙ ap (λ r. take k path ++ r) (drop-cons path k name lt) ∙ ap (λ n. take k path ++ n ∷ drop (suc k) path) (sym is);
  leads = leads;
}

-- where a step stops, its block is on the way of the path
pub step_needs : (sizes : Numbers) (found : Entries) (path : List (List ℕ)) (k i : ℕ) (name : List ℕ) (stop : Stop) (block : BlockNo) → stop ≡ Need block → k < length path → name ≡ get_or path k name → Always sizes found (λ image. follow (graph_of image) 0 (take k path) ≡ Some i)
    → Stops sizes found map_of.empty (λ image b. IsStepBlock sizes image i name b) stop → (content_under found block.0 ≡ None) × Always sizes found (λ image. IsOnTheWay sizes image path block.0)
step_needs sizes found path k i name stop block e lt is leads h =
    let r : Stops sizes found map_of.empty (λ image b. IsStepBlock sizes image i name b) (Need block) = subst (Stops sizes found map_of.empty (λ image b. IsStepBlock sizes image i name b)) e h in (
      sym (overlaid_nothing found block.0) ∙ r.0,
      λ state tree p. record {
        depth = k;
        name = name;
        next = slice_get-get_or path k name lt ∙ ap (λ x. Some x) (sym is);
        dir = i;
        leads = leads state tree p;
        needs = made_always sizes found (λ image. IsStepBlock sizes image i name block.0) r.1 state tree p;
      },
    )
