-- What the steps of a call need is in its footprint.
use Rattle.std.proofs.Common.{◌≡◌, ◌≢◌, inl, inr, ℕ, zero, suc, ◌+◌, ◌-◌, ◌*◌, ◌/◌, ◌%◌, ◌<◌, ◌≤◌, Bool, false, cond, eqb, eq-eqb, [], ◌∷◌, ◌++◌, length, Some, None, refl, sym, ap, ◌∙◌, subst, arith, get_or}
use Rattle.std.specs.List.{range_with_len, count_by, fold}
use Rattle.std.proofs.lemmas.List.{length-append, take-append-le}
use Rattle.std.proofs.lemmas.Option.{slice_get-get_or, slice_get_within}
use Rattle.std.proofs.Math.Seq.{get_or-append_seam, take-append_seam}
use Rattle.zj_block.specs.Sizes.{Numbers}
use Rattle.zj_tree.specs.declared.call.Call.{Call}
use Rattle.zj_tree.specs.Path.{last_name}
use Rattle.zj_layout.specs.declared.fields.Kind.{Kind}
use Rattle.zj_layout.specs.declared.fields.Kind.TheVariants.{Free, File, Dir}
use Rattle.zj_layout.specs.Graph.{follow, step}
use Rattle.zj_layout.specs.Node.{per_block}
use Rattle.zj_layout.specs.Image.{Image, graph_of, node_of, number_of, item_block}
use Rattle.zj_layout.proofs.Counted.{parent_more}
use Rattle.zj_layout.proofs.Follow.{Path', Name'}
use Rattle.zj_layout.proofs.Live.{at_old}
use Rattle.zj_changes.proofs.Answering.{differ}
use Rattle.zj_changes.specs.Holds.{making}
use Rattle.zj_dirs.specs.Changing.{IsPlaceBlock, of_node, of_last, of_map, of_new, map_of_new as map_of_placed}
use Rattle.zj_dirs.specs.Looking.{IsNodeSearch}
use Rattle.zj_dirs.specs.Walking.{IsOnTheWay, IsStepBlock}
use Rattle.zj_inode.specs.Finding.{IsWayBlock}
use Rattle.zj_inode.specs.Footprint.{Foot, on_the_way, found, last_of_parent, free_node, map_of_new, new, AddsEntry, LeadsToDir, IsPathOf, NeedsBlocks, free_below, one_more, size_of}

-- ---- the way to the node of a path, and to the entry of its last name

module _ (sizes : Numbers) (image : Image) (call : Call) (path : Path') (of : IsPathOf call path) where
  pub way_foot : (block : ℕ) → IsWayBlock sizes image path block → Foot sizes image call block
  way_foot block (inl on_way) = on_the_way path of on_way
  way_foot block (inr (node, leads, e)) = found path node of leads e

pub last_more : (front : Path') (name : Name') → last_name (front ++ name ∷ []) ≡ name
last_more front name =
    let short : length (front ++ name ∷ []) - 1 ≡ length front = omega (arith, length-append front (name ∷ [])) in
    ap (λ n. get_or (front ++ name ∷ []) n []) short ∙ get_or-append_seam front name [] []

pub some_names : (front : Path') (name : Name') → 0 < length (front ++ name ∷ [])
some_names front name = omega (arith, length-append front (name ∷ []))

module _ (sizes : Numbers) (image : Image) (front : Path') (name : Name') where
  longer : (block : ℕ) → IsOnTheWay sizes image front block → IsOnTheWay sizes image (front ++ name ∷ []) block
  longer block w = record {
    depth = w.depth;
    name = w.name;
    next = at_old front name w.name w.depth w.next;
    dir = w.dir;
    leads = ap (follow (graph_of image) 0) (take-append-le w.depth front (name ∷ []) (omega (arith, slice_get_within front w.depth w.name w.next))) ∙ w.leads;
    needs = w.needs;
  }

  pub step_way : (dir block : ℕ) → follow (graph_of image) 0 front ≡ Some dir → IsStepBlock sizes image dir name block → IsOnTheWay sizes image (front ++ name ∷ []) block
  step_way dir block leads needs = record {
    depth = length front;
    name = name;
    next = slice_get-get_or (front ++ name ∷ []) (length front) [] (omega (arith, length-append front (name ∷ []))) ∙ ap (λ (x : Name'). Some x) (get_or-append_seam front name [] []);
    dir = dir;
    leads = ap (follow (graph_of image) 0) (take-append_seam front (name ∷ [])) ∙ leads;
    needs = needs;
  }

  -- a walk to the directory of the last name
  pub front_way : (block : ℕ) → IsWayBlock sizes image front block → IsOnTheWay sizes image (front ++ name ∷ []) block
  front_way block (inl w) = longer block w
  front_way block (inr (node, leads, e)) = step_way node block leads (inl e)

-- ---- free blocks

none_from : (p : ℕ → Bool) (a n more : ℕ) → ((k : ℕ) → a ≤ k → k < a + n → p k ≡ false) → fold (λ m k. m + cond (p k) 1 0) more (range_with_len a n) ≡ more
none_from p a zero more h = refl
none_from p a (suc n) more h =
    let none : more + cond false 1 0 ≡ more = omega arith in
    ap (λ b. fold (λ m k. m + cond (p k) 1 0) (more + cond b 1 0) (range_with_len (a + 1) n)) (h a (omega arith) (omega arith))
    ∙ ap (λ m. fold (λ m k. m + cond (p k) 1 0) m (range_with_len (a + 1) n)) none
    ∙ none_from p (a + 1) n more (λ k le lt. h k (omega arith) (omega arith))

none_counted : (p : ℕ → Bool) (n : ℕ) → ((k : ℕ) → k < n → p k ≡ false) → count_by p (range_with_len 0 n) ≡ 0
none_counted p n h = none_from p 0 n 0 (λ k le lt. h k (omega arith))

pub none_below : (image : Image) (n : ℕ) → ((lower : ℕ) → lower < n → image.map lower ≢ 0) → free_below image n < 1
none_below image n used = omega (arith, none_counted (λ b. eqb (image.map b) 0) n (λ k lt. differ (image.map k) 0 (used k lt)))

-- ---- a new node and its entry

making_path : (kind : Kind) (path : Path') → IsPathOf (making kind path) path
making_path Free path = (0, refl)
making_path File path = (0, refl)
making_path Dir path = (0, refl)

module _ (sizes : Numbers) (image : Image) (kind : Kind) (front : Path') (name : Name') where
  abbrev path : Path'
  path = front ++ name ∷ []

  -- a block on the way to the directory, and one that is needed to search it
  pub make_front_foot : (block : ℕ) → IsWayBlock sizes image front block → Foot sizes image (making kind path) block
  make_front_foot block w = on_the_way path (making_path kind path) (front_way sizes image front name block w)

  pub make_step_foot : (dir block : ℕ) → follow (graph_of image) 0 front ≡ Some dir → IsStepBlock sizes image dir name block → Foot sizes image (making kind path) block
  make_step_foot dir block leads needs = on_the_way path (making_path kind path) (step_way sizes image front name dir block leads needs)

  module _ (dir : ℕ) (leads : follow (graph_of image) 0 front ≡ Some dir) (is_dir : (node_of image dir).kind ≡ Dir) (absent : step (graph_of image) dir name ≡ None) where
    pub adds_entry : AddsEntry image path dir
    adds_entry = record {
      below = some_names front name;
      leads = subst (λ q. LeadsToDir image q dir) (sym (parent_more front name)) (record { leads = leads; directory = is_dir });
      absent = ap (step (graph_of image) dir) (last_more front name) ∙ absent;
    }

    pub make_node_foot : (block : ℕ) → size_of image dir < 192 → IsNodeSearch sizes image block → Foot sizes image (making kind path) block
    make_node_foot block few (k, lt, e, none) = by kind
      where
        by : (k : Kind) → Foot sizes image (making k path) block
        by Free = free_node path dir k refl adds_entry few lt e none
        by File = free_node path dir k refl adds_entry few lt e none
        by Dir = free_node path dir k refl adds_entry few lt e none

    needs_one : size_of image dir < 192 → size_of image dir % 16 ≡ 0 → NeedsBlocks image (making kind path) 1
    needs_one few whole = by kind
      where
        one : 1 ≡ one_more (size_of image dir)
        one = sym (ap (λ b. cond b 1 0) (eq-eqb (size_of image dir % 16) 0 whole))

        by : (k : Kind) → NeedsBlocks image (making k path) 1
        by Free = (path, dir, refl, adds_entry, few, one)
        by File = (path, dir, refl, adds_entry, few, one)
        by Dir = (path, dir, refl, adds_entry, few, one)

    last_foot : (block : ℕ) → size_of image dir < 192 → size_of image dir % 16 ≢ 0 → block ≡ number_of image dir (size_of image dir / 16) → Foot sizes image (making kind path) block
    last_foot block few room e = by kind
      where
        at : item_block image dir (size_of image dir - 1) ≡ number_of image dir (size_of image dir / 16)
        at = ap (λ k. number_of image dir ((size_of image dir - 1) / per_block k)) is_dir ∙ ap (number_of image dir) (omega (arith, room))

        by : (k : Kind) → Foot sizes image (making k path) block
        by Free = last_of_parent path dir refl adds_entry few (omega (arith, room)) (e ∙ sym at)
        by File = last_of_parent path dir refl adds_entry few (omega (arith, room)) (e ∙ sym at)
        by Dir = last_of_parent path dir refl adds_entry few (omega (arith, room)) (e ∙ sym at)

    pub make_place_foot : (block : ℕ) → IsPlaceBlock sizes image dir block → Foot sizes image (making kind path) block
    make_place_foot block (of_node e) = make_step_foot dir block leads (inl e)
    make_place_foot block (of_last (few, room) e) = last_foot block few room e
    make_place_foot block (of_map (few, whole) (lt, none)) = map_of_new 1 (needs_one few whole) lt (none_below image (512 * block) none)
    make_place_foot block (of_new (few, whole) lowest) = new 1 (needs_one few whole) lowest.1 lowest.0 (none_below image block lowest.2)
    make_place_foot block (map_of_placed x (few, whole) lowest e) =
        map_of_new 1 (needs_one few whole) (omega (arith, e, lowest.0)) (none_below image (512 * block) (λ lower lt. lowest.2 lower (omega (arith, e, lt))))
