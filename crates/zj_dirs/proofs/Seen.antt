-- What a block says of a possible state with new contents put in.
use Rattle.std.proofs.Common.{◌≡◌, ◌≢◌, ℕ, ◌%◌, ◌<◌, Bool, true, false, cond, ◌&&◌, ltb, leb, lt-ltb, ltb-true, List, [], Option, Some, None, IsSome, IsTrue, ◌↔◌, refl, sym, ap, ◌∙◌, subst, arith}
use Rattle.std.specs.FinMap as map_of
use Rattle.std.specs.Option.{option_or, unwrap_or}
use Rattle.zj_block.specs.Lists.{Entries, content_under}
use Rattle.zj_block.specs.Sizes.{Numbers, first_data}
use Rattle.zj_tree.specs.Tree.{FileTree}
use Rattle.zj_layout.specs.declared.fields.Node.{Node}
use Rattle.zj_layout.specs.Node.{node_in, byte_in, link_in}
use Rattle.zj_layout.specs.declared.fields.Kind.TheVariants as kinds
use Rattle.zj_layout.specs.Image.{State, block_at, Image, image_of, node_block, map_block, is_data, free_node, node_of}
use Rattle.zj_layout.specs.Stored.{IsStored}
use Rattle.zj_layout.specs.Shows.{Changes, put_blocks}
use Rattle.zj_dirs.specs.Possible.{IsPossible, overlaid}
use Rattle.zj_dirs.specs.Trimming.{WasFoundFree}
use Rattle.zj_layout.proofs.Follow.{some_is}
use Rattle.zj_dirs.proofs.Put.{block_put, one_more}
use Rattle.std.proofs.lemmas.Option.{get_or_from_slice_get}
use Rattle.zj_block.specs.Block.{zero_content}
use Rattle.zj_layout.specs.declared.fields.Link.{Link}
use Rattle.zj_changes.specs.Tables.{SetsNode, SetsContent, SetsMap, SetsLink}
use Rattle.zj_dirs.proofs.Tables.{Apart, sets_node, sets_content, sets_map}

pub some_differs : {A : Type 0} {o : Option A} → IsSome o → o ≡ None → ⊥
some_differs h e = cc

-- a taken block is the state's
pub seen_block : (sizes : Numbers) (found : Entries) (state : State) (tree : FileTree) → IsPossible sizes found state tree → (block : ℕ) (content : List ℕ) → content_under found block ≡ Some content → block_at state block ≡ content
seen_block sizes found state tree p block content h = get_or_from_slice_get state block content zero_content (p.agrees block content h)

module _ (sizes : Numbers) (found : Entries) (written : Changes) (state : State) (tree : FileTree) (p : IsPossible sizes found state tree) where
  abbrev made : Image
  made = image_of sizes (put_blocks state written)

  -- a block that is seen is the made state's
  pub seen_made : (block : ℕ) (content : List ℕ) → block < sizes.blocks → overlaid found written block ≡ Some content → block_at (put_blocks state written) block ≡ content
  seen_made block content lt h = block_put state written block (omega (arith, p.shows.shape.many)) ∙ by (map_of.get written block) h
    where
      by : (o : Option (List ℕ)) → option_or o (content_under found block) ≡ Some content → unwrap_or o (block_at state block) ≡ content
      by (Some c) e = some_is e
      by None e = seen_block sizes found state tree p block content e

  pub made_node : (number : ℕ) (content : List ℕ) → number < sizes.nodes → overlaid found written (node_block sizes number) ≡ Some content → made.node number ≡ node_in content (number % 8)
  made_node number content lt h =
      let limits = p.shows.shape.limits in
      ap (λ x. cond x (node_in (block_at (put_blocks state written) (node_block sizes number)) (number % 8)) None) (lt-ltb number sizes.nodes lt)
      ∙ ap (λ c. node_in c (number % 8)) (seen_made (node_block sizes number) content (omega (arith, limits.whole_nodes, limits.some_data)) h)

  pub made_map : (block : ℕ) (content : List ℕ) → block < sizes.blocks → overlaid found written (map_block block) ≡ Some content → made.map block ≡ byte_in content (block % 512)
  made_map block content lt h =
      ap (λ x. cond x (byte_in (block_at (put_blocks state written) (map_block block)) (block % 512)) 0) (lt-ltb block sizes.blocks lt)
      ∙ ap (λ c. byte_in c (block % 512)) (seen_made (map_block block) content (omega arith) h)

  pub made_content : (block : ℕ) (content : List ℕ) → is_data sizes block ≡ true → block < sizes.blocks → overlaid found written block ≡ Some content → made.content block ≡ content
  made_content block content is lt h = ap (λ x. cond x (block_at (put_blocks state written) block) []) is ∙ seen_made block content lt h

  -- a node that reads as none is in no made state
  pub made_odd : IsStored sizes made → (number : ℕ) (content : List ℕ) → number < sizes.nodes → overlaid found written (node_block sizes number) ≡ Some content → node_in content (number % 8) ≡ None → ⊥
  made_odd s number content lt h none = some_differs (s.placed number lt).some (made_node number content lt h ∙ none)

  pub made_kind : (number : ℕ) (content : List ℕ) (node : Node) → number < sizes.nodes → overlaid found written (node_block sizes number) ≡ Some content → node_in content (number % 8) ≡ Some node → node_of made number ≡ node
  made_kind number content node lt h e = ap (λ o. unwrap_or o free_node) (made_node number content lt h ∙ e)

  module _ (s : IsStored sizes made) (number : ℕ) (content : List ℕ) (lt : number < sizes.nodes) (here : overlaid found written (node_block sizes number) ≡ Some content)
      (free : Bool) (tells : (node : Node) → node_in content (number % 8) ≡ Some node → IsTrue free ↔ (node.kind ≡ kinds.Free)) where
    -- a node that is told to be free is, in the made state
    pub seen_free : free ≡ true → (node_of made number).kind ≡ kinds.Free
    seen_free is = by (node_in content (number % 8)) refl
      where
        by : (o : Option Node) → node_in content (number % 8) ≡ o → (node_of made number).kind ≡ kinds.Free
        by None e = absurd (made_odd s number content lt here e)
        by (Some node) e = ap (λ (n : Node). n.kind) (made_kind number content node lt here e) ∙ (tells node e).0 is

    -- and one that isn't, is not
    pub seen_used : free ≡ false → (node_of made number).kind ≢ kinds.Free
    seen_used is_not kind = by (node_in content (number % 8)) refl
      where
        clash : true ≡ false → ⊥
        clash e = cc

        by : (o : Option Node) → node_in content (number % 8) ≡ o → ⊥
        by None e = made_odd s number content lt here e
        by (Some node) e = clash (sym ((tells node e).1 (ap (λ (n : Node). n.kind) (sym (made_kind number content node lt here e)) ∙ kind)) ∙ is_not)

  -- ---- one more new content

  module _ (after : Changes) (block : ℕ) (new : List ℕ) (is : after ≡ map_of.insert written block new) (lt : block < sizes.blocks) where
    apart : Apart sizes (put_blocks state written) (put_blocks state after) block new
    apart = subst (λ w. Apart sizes (put_blocks state written) (put_blocks state w) block new) (sym is) (one_more sizes state written block new p.shows.shape.many lt)

    pub turns_node : (number : ℕ) (node : Node) (content : List ℕ) → number < sizes.nodes → block ≡ node_block sizes number → overlaid found written block ≡ Some content → node_in new (number % 8) ≡ Some node
        → ((j : ℕ) → j ≢ number % 8 → node_in new j ≡ node_in content j) → SetsNode sizes made (image_of sizes (put_blocks state after)) number node
    turns_node number node content below at seen here rest =
        sets_node sizes p.shows.shape.limits (put_blocks state written) (put_blocks state after) block new apart number node below at here
        (λ j less ne. rest j ne ∙ ap (λ c. node_in c j) (sym (seen_made block content lt seen)))

    pub turns_map : (b value : ℕ) (content : List ℕ) → b < sizes.blocks → block ≡ map_block b → overlaid found written block ≡ Some content → byte_in new (b % 512) ≡ value
        → ((j : ℕ) → j ≢ b % 512 → byte_in new j ≡ byte_in content j) → SetsMap sizes made (image_of sizes (put_blocks state after)) b value
    turns_map b value content below at seen here rest =
        sets_map sizes p.shows.shape.limits (put_blocks state written) (put_blocks state after) block new apart b value below at here
        (λ j less ne. rest j ne ∙ ap (λ c. byte_in c j) (sym (seen_made block content lt seen)))

    pub turns_content : is_data sizes block ≡ true → SetsContent sizes made (image_of sizes (put_blocks state after)) block new
    turns_content for_data = sets_content sizes p.shows.shape.limits (put_blocks state written) (put_blocks state after) block new apart for_data

    pub turns_link : (place : ℕ) (link : Link) (content : List ℕ) → is_data sizes block ≡ true → overlaid found written block ≡ Some content → link_in new place ≡ Some link
        → ((j : ℕ) → j ≢ place → link_in new j ≡ link_in content j) → SetsLink sizes made (image_of sizes (put_blocks state after)) block place link
    turns_link place link content for_data seen here rest =
        let s = turns_content for_data in
        record {
          here = ap (λ c. link_in c place) s.here ∙ here;
          rest = λ j ne. ap (λ c. link_in c j) s.here ∙ rest j ne ∙ ap (λ c. link_in c j) (sym (made_content block content for_data lt seen));
          others = s.others;
          node = s.node;
          map = s.map;
        }

-- a block for data is one of the image's
pub data_below : (sizes : Numbers) (block : ℕ) → is_data sizes block ≡ true → block < sizes.blocks
data_below sizes block h = by (leb (first_data sizes) block) (ltb block sizes.blocks) refl h
  where
    by : (a b : Bool) → ltb block sizes.blocks ≡ b → (a && b) ≡ true → block < sizes.blocks
    by true true e h = ltb-true block sizes.blocks e
    by true false e h = absurd cc
    by false b e h = absurd cc

-- a block that is free in the map as it was found is free in a possible state
pub free_as_found : (sizes : Numbers) (found : Entries) (state : State) (tree : FileTree) → IsPossible sizes found state tree → (block : ℕ) → WasFoundFree found block → block < sizes.blocks → (image_of sizes state).map block ≡ 0
free_as_found sizes found state tree p block f lt =
    ap (λ x. cond x (byte_in (block_at state (map_block block)) (block % 512)) 0) (lt-ltb block sizes.blocks lt)
    ∙ ap (λ c. byte_in c (block % 512)) (seen_block sizes found state tree p (map_block block) f.map f.has) ∙ f.free
