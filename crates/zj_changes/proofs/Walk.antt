-- What a walk says of the tree that the tables hold: what stands at a path, or why nothing is found.
use Rattle.std.proofs.Common.{◌≡◌, ℕ, zero, suc, ◌+◌, Bool, true, false, cond, ◌||◌, List, [], ◌∷◌, ◌++◌, length, take, Option, Some, None, Ok, Err, refl, sym, ap, ◌∙◌, arith}
use Rattle.std.specs.List.{range_with_len, list_any}
use Rattle.std.specs.Option.{option_and_then, ok_or}
use Rattle.zj_tree.specs.declared.content.Content.{Content}
use Rattle.zj_tree.specs.declared.content.Content.TheVariants as contents
use Rattle.zj_tree.specs.declared.call.Refusal.{Refusal}
use Rattle.zj_tree.specs.declared.call.Refusal.TheVariants.{NotDir, NotFound}
use Rattle.zj_tree.specs.Tree.{FileTree, content_at}
use Rattle.zj_tree.specs.Apply.{is_file, is_behind_file, resolve, nothing, no_directory, no_file}
use Rattle.zj_layout.specs.declared.fields.Kind.TheVariants.{File, Dir}
use Rattle.zj_layout.specs.Graph.{Holding, Nothing, Bytes, Links, Graph, content_of, step, follow, Describes}
use Rattle.zj_layout.specs.Image.{Image, node_of, graph_of}
use Rattle.zj_layout.proofs.Follow.{Path', Name', some_is, none_some, follow_join}
use Rattle.zj_changes.specs.Walk.{Stops, behind_file, no_entry, LeadsToNoDirectory, no_way_to_directory, at_file, LeadsToNoFile, no_way_to_file, at_directory}
use Rattle.zj_changes.proofs.Removed.{dir_content}
use Rattle.zj_changes.proofs.Freed.{bytes_in, file_holds}

any_shift : (p : ℕ → Bool) (a n : ℕ) → list_any p (range_with_len (a + 1) n) ≡ list_any (λ k. p (suc k)) (range_with_len a n)
any_shift p a zero = refl
any_shift p a (suc n) =
    let e : a + 1 ≡ suc a = omega arith in
    let rest = any_shift p (a + 1) n in
    λ i. p (e i) || rest i

any_same : (p q : ℕ → Bool) (xs : List ℕ) → ((n : ℕ) → p n ≡ q n) → list_any p xs ≡ list_any q xs
any_same p q [] e = refl
any_same p q (x ∷ xs) e = let here = e x in let rest = any_same p q xs e in λ i. here i || rest i

-- whether a path leads to a file, and whether one on the way does, from a node on
abbrev file_there : Graph → ℕ → Path' → Bool
file_there g i path = is_file (option_and_then (λ j. content_of (g j)) (follow g i path))

abbrev file_before : Graph → ℕ → Path' → Bool
file_before g i path = list_any (λ n. file_there g i (take n path)) (range_with_len 0 (length path))

-- behind a step that leads nowhere there is no file
none_behind : (g : Graph) (i : ℕ) (name : Name') (path : Path') (a n : ℕ) → step g i name ≡ None → list_any (λ k. file_there g i (name ∷ take k path)) (range_with_len a n) ≡ false
none_behind g i name path a zero e = refl
none_behind g i name path a (suc n) e =
    let here : file_there g i (name ∷ take a path) ≡ false = ap (λ o. is_file (option_and_then (λ j. content_of (g j)) (option_and_then (λ next. follow g next (take a path)) o))) e in
    let rest = none_behind g i name path (a + 1) n e in
    λ k. here k || rest k

-- the files on a longer way
one_step : (g : Graph) (i : ℕ) (name : Name') (path : Path') → file_before g i (name ∷ path) ≡ (is_file (content_of (g i)) || list_any (λ n. file_there g i (name ∷ take n path)) (range_with_len 0 (length path)))
one_step g i name path = ap (λ b. is_file (content_of (g i)) || b) (any_shift (λ n. file_there g i (take n (name ∷ path))) 0 (length path))

-- a node that leads on is no file
leads_on : (g : Graph) (i : ℕ) (name : Name') (o : Option ℕ) (j : ℕ) → step g i name ≡ o → o ≡ Some j → is_file (content_of (g i)) ≡ false
leads_on g i name o j s e = by (g i) refl
  where
    by : (h : Holding) → g i ≡ h → is_file (content_of h) ≡ false
    by Nothing k = refl
    by (Bytes bytes) k = absurd (none_some (sym (ap (λ h. step (λ n. h) i name) k) ∙ s ∙ e))
    by (Links links) k = refl

or_second : (a b : Bool) → b ≡ true → (a || b) ≡ true
or_second true b e = refl
or_second false b e = e

module _ (g : Graph) (name : Name') (rest : Path') where
  -- no file stands on the way to a directory that lacks the next name
  none_before : (front : Path') (i dir : ℕ) → follow g i front ≡ Some dir → content_of (g dir) ≡ Some contents.Dir → step g dir name ≡ None → file_before g i (front ++ name ∷ rest) ≡ false
  none_before [] i dir leads is absent =
      one_step g i name rest ∙ (λ k. is_file ((ap (λ d. content_of (g d)) (some_is leads) ∙ is) k) || none_behind g i name rest 0 (length rest) (ap (λ d. step g d name) (some_is leads) ∙ absent) k)
  none_before (a ∷ front) i dir leads is absent = by (λ j to. none_before front j dir to is absent) (step g i a) refl leads
    where
      by : ((j : ℕ) → follow g j front ≡ Some dir → file_before g j (front ++ name ∷ rest) ≡ false) → (o : Option ℕ) → step g i a ≡ o → option_and_then (λ next. follow g next front) o ≡ Some dir → file_before g i (a ∷ front ++ name ∷ rest) ≡ false
      by go None s to = absurd (none_some to)
      by go (Some j) s to =
          one_step g i a (front ++ name ∷ rest)
          ∙ (λ k. leads_on g i a (Some j) j s refl k || list_any (λ n. is_file (option_and_then (λ d. content_of (g d)) (option_and_then (λ next. follow g next (take n (front ++ name ∷ rest))) (s k)))) (range_with_len 0 (length (front ++ name ∷ rest))))
          ∙ go j to

  -- a file on the way is one
  one_before : (front : Path') (i file : ℕ) → follow g i front ≡ Some file → is_file (content_of (g file)) ≡ true → file_before g i (front ++ name ∷ rest) ≡ true
  one_before [] i file leads is = ap (λ b. b || list_any (λ n. file_there g i (take n (name ∷ rest))) (range_with_len 1 (length rest))) (ap (λ d. is_file (content_of (g d))) (some_is leads) ∙ is)
  one_before (a ∷ front) i file leads is = by (λ j to. one_before front j file to is) (step g i a) refl leads
    where
      by : ((j : ℕ) → follow g j front ≡ Some file → file_before g j (front ++ name ∷ rest) ≡ true) → (o : Option ℕ) → step g i a ≡ o → option_and_then (λ next. follow g next front) o ≡ Some file → file_before g i (a ∷ front ++ name ∷ rest) ≡ true
      by go None s to = absurd (none_some to)
      by go (Some j) s to =
          one_step g i a (front ++ name ∷ rest)
          ∙ or_second (is_file (content_of (g i))) _ (ap (λ o. list_any (λ n. is_file (option_and_then (λ d. content_of (g d)) (option_and_then (λ next. follow g next (take n (front ++ name ∷ rest))) o))) (range_with_len 0 (length (front ++ name ∷ rest)))) s ∙ go j to)

-- a step from a node without entries leads nowhere
no_step : (g : Graph) (front : Path') (name : Name') (rest : Path') (i : ℕ) → follow g 0 front ≡ Some i → step g i name ≡ None → follow g 0 (front ++ name ∷ rest) ≡ None
no_step g front name rest i leads absent = follow_join g 0 front (name ∷ rest) ∙ ap (option_and_then (λ j. follow g j (name ∷ rest))) leads ∙ ap (option_and_then (λ j. follow g j rest)) absent

module _ (image : Image) (t : FileTree) (d : Describes (graph_of image) t) where
  abbrev g : Graph
  g = graph_of image

  -- what stands at a path that leads to a node
  pub node_at : (path : Path') (node : ℕ) → follow g 0 path ≡ Some node → content_at t path ≡ content_of (g node)
  node_at path node leads = d.each path ∙ ap (option_and_then (λ i. content_of (g i))) leads

  -- what stands at a path that leads nowhere
  pub nothing_at : (path : Path') → follow g 0 path ≡ None → content_at t path ≡ None
  nothing_at path leads = d.each path ∙ ap (option_and_then (λ i. content_of (g i))) leads

  pub directory_at : (path : Path') (dir : ℕ) → follow g 0 path ≡ Some dir → (node_of image dir).kind ≡ Dir → content_at t path ≡ Some contents.Dir
  directory_at path dir leads is = node_at path dir leads ∙ dir_content image dir is

  pub file_at : (path : Path') (file : ℕ) → follow g 0 path ≡ Some file → (node_of image file).kind ≡ File → content_at t path ≡ Some (contents.File (bytes_in image file))
  file_at path file leads is = node_at path file leads ∙ ap content_of (file_holds image file is)

  resolved : (path : Path') (c : Content) → content_at t path ≡ Some c → resolve t path ≡ Ok c
  resolved path c there = ap (λ o. ok_or o (cond (is_behind_file t path) NotDir NotFound)) there

  pub resolve_node : (path : Path') (node : ℕ) (c : Content) → follow g 0 path ≡ Some node → content_of (g node) ≡ Some c → resolve t path ≡ Ok c
  resolve_node path node c leads is = resolved path c (node_at path node leads ∙ is)

  pub resolve_directory : (path : Path') (dir : ℕ) → follow g 0 path ≡ Some dir → (node_of image dir).kind ≡ Dir → resolve t path ≡ Ok contents.Dir
  resolve_directory path dir leads is = resolved path contents.Dir (directory_at path dir leads is)

  pub resolve_file : (path : Path') (file : ℕ) → follow g 0 path ≡ Some file → (node_of image file).kind ≡ File → resolve t path ≡ Ok (contents.File (bytes_in image file))
  resolve_file path file leads is = resolved path (contents.File (bytes_in image file)) (file_at path file leads is)

  behind_is : (path : Path') → is_behind_file t path ≡ file_before g 0 path
  behind_is path = any_same _ _ (range_with_len 0 (length path)) (λ n. ap is_file (d.each (take n path)))

  unresolved : (path : Path') (b : Bool) → follow g 0 path ≡ None → file_before g 0 path ≡ b → resolve t path ≡ Err (cond b NotDir NotFound)
  unresolved path b leads is = λ i. ok_or (nothing_at path leads i) (cond ((behind_is path ∙ is) i) NotDir NotFound)

  -- why a walk that stops finds nothing
  pub resolve_stops : (path : Path') (refusal : Refusal) → Stops image path refusal → resolve t path ≡ Err refusal
  resolve_stops path refusal (behind_file front name rest file is leads kind told) =
      ap (resolve t) is
      ∙ unresolved (front ++ name ∷ rest) true (no_step g front name rest file leads (ap (λ h. step (λ n. h) file name) (file_holds image file kind)))
      (one_before g name rest front 0 file leads (ap (λ h. is_file (content_of h)) (file_holds image file kind)))
      ∙ ap (λ (r : Refusal). Err r) (sym told)
  resolve_stops path refusal (no_entry front name rest dir is leads kind absent told) =
      ap (resolve t) is
      ∙ unresolved (front ++ name ∷ rest) false (no_step g front name rest dir leads absent) (none_before g name rest front 0 dir leads (dir_content image dir kind) absent)
      ∙ ap (λ (r : Refusal). Err r) (sym told)

  pub nothing_is : (path : Path') (refusal : Refusal) → Stops image path refusal → nothing (resolve t path) ≡ Some refusal
  nothing_is path refusal stops = ap nothing (resolve_stops path refusal stops)

  pub no_directory_is : (path : Path') (refusal : Refusal) → LeadsToNoDirectory image path refusal → no_directory (resolve t path) ≡ Some refusal
  no_directory_is path refusal (no_way_to_directory s) = ap no_directory (resolve_stops path refusal s)
  no_directory_is path refusal (at_file file leads kind told) = ap no_directory (resolve_file path file leads kind) ∙ ap (λ (r : Refusal). Some r) (sym told)

  pub no_file_is : (path : Path') (refusal : Refusal) → LeadsToNoFile image path refusal → no_file (resolve t path) ≡ Some refusal
  no_file_is path refusal (no_way_to_file s) = ap no_file (resolve_stops path refusal s)
  no_file_is path refusal (at_directory dir leads kind told) = ap no_file (resolve_directory path dir leads kind) ∙ ap (λ (r : Refusal). Some r) (sym told)
