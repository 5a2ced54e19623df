-- A tree with one leaf less, and one with other bytes in a file.
use Rattle.std.proofs.Common.{◌≡◌, ◌≢◌, ◌⊎◌, inl, inr, ℕ, Bool, true, false, cond, List, [], ◌∷◌, ◌++◌, length, Option, Some, None, IsSome, refl, sym, ap, ◌∙◌, subst, arith}
use Rattle.std.specs.Option.{option_and_then}
use Rattle.std.specs.Ordering.{eq_by_cmp}
use Rattle.std.specs.FinMap as map_of
use Rattle.std.specs.FinMap.{get-insert, get-remove}
use Rattle.std.proofs.lemmas.List.{length-append}
use native.Mathlib.Decide.{ℕ_discrete}
use Rattle.zj_tree.specs.declared.content.Content.{Content}
use Rattle.zj_tree.specs.declared.content.Content.TheVariants as contents
use Rattle.zj_tree.specs.Tree.{FileTree, content_at, path_cmp}
use Rattle.zj_layout.specs.Graph.{Graph, links_of, content_of, named, step, follow, shown_at, Describes, IsLive, AreApart, IsRooted}
use Rattle.zj_changes.specs.Moved.{Begins}
use Rattle.zj_changes.specs.Dropped.{DropsLeaf, ChangesBytes}
use Rattle.zj_layout.proofs.Follow.{Path', Name', some_is, none_some, follow_more, one_path}
use Rattle.zj_layout.proofs.Live.{paths_total, tie, no_tie}
use Rattle.zj_changes.proofs.Begins.{begins, nil_right, same_step, past_leaf, past_none, same_walk}

pub dead : (o : Option Content) → o ≡ None → IsSome o → ⊥
dead o e live = cc

module _ (n : ℕ) (g g' : Graph) (r : IsRooted n g) (dir : ℕ) (name : Name') (leaf : ℕ) (m : DropsLeaf g g' dir name leaf) (p : Path') (to_dir : follow g 0 p ≡ Some dir) where
  abbrev path : Path'
  path = p ++ name ∷ []

  to_leaf : follow g 0 path ≡ Some leaf
  to_leaf = follow_more g 0 p name ∙ ap (option_and_then (λ d. step g d name)) to_dir ∙ m.was

  -- a walk that doesn't come by the entry
  outside : (x : Path') → (Begins x path → ⊥) → follow g' 0 x ≡ follow g 0 x
  outside x away = same_walk g g' 0 (length x) x (omega arith) (λ x' c rest d e w. m.others d c
      (λ same is. away (rest, e ∙ ap (λ y. y ++ rest) (λ t. one_path n g r x' p dir (w ∙ ap (λ (k : ℕ). Some k) same) to_dir t ++ is t ∷ []))))

  -- nothing is there now
  none_there : follow g' 0 path ≡ None
  none_there =
      let stays = outside p (λ b. omega (arith, ap length b.1, length-append path b.0, length-append p (name ∷ []))) ∙ to_dir in
      follow_more g' 0 p name ∙ ap (option_and_then (λ d. step g' d name)) stays ∙ m.gone

  -- each path to another node leads there still
  other_path : (x : Path') (k : ℕ) → k ≢ leaf → follow g 0 x ≡ Some k → follow g' 0 x ≡ Some k
  other_path x k ne h = by (begins x path)
    where
      by : Begins x path ⊎ (Begins x path → ⊥) → follow g' 0 x ≡ Some k
      by (inr away) = outside x away ∙ h
      by (inl b) = cases (past_leaf g path b.0 leaf to_leaf m.empty)
        where
          cases : (b.0 ≡ []) ⊎ (follow g 0 (path ++ b.0) ≡ None) → follow g' 0 x ≡ Some k
          cases (inl e) = absurd (ne (some_is (sym h ∙ ap (follow g 0) (b.1 ∙ ap (λ y. path ++ y) e ∙ nil_right path) ∙ to_leaf)))
          cases (inr e) = absurd (none_some (sym e ∙ ap (follow g 0) (sym b.1) ∙ h))

  not_root : leaf ≢ 0
  not_root = (r.target dir leaf name m.was).0

  live_before : (k : ℕ) → IsLive (g' k) → (k ≢ leaf) × IsLive (g k)
  live_before k live =
      let ne : k ≢ leaf = λ e. dead (content_of (g' leaf)) m.freed (subst (λ x. IsLive (g' x)) e live) in
      (ne, subst IsSome (m.shows k ne) live)

  live_after : (k : ℕ) → k ≢ leaf → IsLive (g k) → IsLive (g' k)
  live_after k ne live = subst IsSome (sym (m.shows k ne)) live

  -- a step of the new graph was one, and doesn't lead to the leaf
  old_step : (d k : ℕ) (c : Name') → step g' d c ≡ Some k → (step g d c ≡ Some k) × (k ≢ leaf)
  old_step d k c h = by (same_step d dir c name)
    where
      by : ((d ≡ dir) × (c ≡ name)) ⊎ (d ≡ dir → c ≢ name) → (step g d c ≡ Some k) × (k ≢ leaf)
      by (inl e) = absurd (none_some (sym m.gone ∙ ap (step g' dir) (sym e.1) ∙ ap (λ x. step g' x c) (sym e.0) ∙ h))
      by (inr ne) =
          let was = sym (m.others d c ne) ∙ h in
          (was, λ e. let one = r.once d dir k c name was (m.was ∙ ap (λ (x : ℕ). Some x) (sym e)) in ne one.0 one.1)

  pub dropped_rooted : IsRooted n g'
  dropped_rooted = record {
    root = m.shows 0 (λ e. not_root (sym e)) ∙ r.root;
    within = λ k live. r.within k (live_before k live).1;
    names = m.names;
    target = λ d k c h. let s = old_step d k c h in let t = r.target d k c s.0 in (t.0, live_after k s.1 t.1);
    once = λ d e k b c hb hc. r.once d e k b c (old_step d k b hb).0 (old_step e k c hc).0;
    reached = λ k live. let before = live_before k live in let path = r.reached k before.1 in (path.0, other_path path.0 k before.0 path.1);
  }

  -- the tree without the leaf
  pub describes_dropped : (t : FileTree) → Describes g t → Describes g' (map_of.remove t path)
  describes_dropped t d = record { each = λ q. get-remove paths_total t path q ∙ by q (eq_by_cmp path_cmp q path) refl (begins q path) }
    where
      nothing : (q : Path') → Begins q path → follow g' 0 q ≡ None
      nothing q b = ap (follow g' 0) b.1 ∙ past_none g' path b.0 none_there

      shown : (q : Path') → q ≢ path → (o : Option ℕ) → follow g 0 q ≡ o → option_and_then (λ i. content_of (g i)) o ≡ option_and_then (λ i. content_of (g' i)) o
      shown q ne None e = refl
      shown q ne (Some k) e = sym (m.shows k (λ same. ne (one_path n g r q path leaf (e ∙ ap (λ (x : ℕ). Some x) same) to_leaf)))

      by : (q : Path') (b : Bool) → eq_by_cmp path_cmp q path ≡ b → Begins q path ⊎ (Begins q path → ⊥) → cond b None (content_at t q) ≡ shown_at g' q
      by q true e h = sym (ap (shown_at g') (tie q path e) ∙ ap (option_and_then (λ i. content_of (g' i))) none_there)
      by q false e (inr away) = d.each q ∙ shown q (no_tie q path e) (follow g 0 q) refl ∙ ap (option_and_then (λ i. content_of (g' i))) (sym (outside q away))
      by q false e (inl b) = cases (past_leaf g path b.0 leaf to_leaf m.empty)
        where
          cases : (b.0 ≡ []) ⊎ (follow g 0 (path ++ b.0) ≡ None) → content_at t q ≡ shown_at g' q
          cases (inl z) = absurd (no_tie q path e (b.1 ∙ ap (λ y. path ++ y) z ∙ nil_right path))
          cases (inr z) = d.each q ∙ ap (option_and_then (λ i. content_of (g i))) (ap (follow g 0) b.1 ∙ z) ∙ sym (ap (option_and_then (λ i. content_of (g' i))) (nothing q b))

-- ---- other bytes

module _ (n : ℕ) (g g' : Graph) (r : IsRooted n g) (file : ℕ) (before after : List ℕ) (m : ChangesBytes g g' file before after) where
  links_same : (k : ℕ) → links_of (g' k) ≡ links_of (g k)
  links_same k = by (ℕ_discrete k file)
    where
      by : Dec (k ≡ file) → links_of (g' k) ≡ links_of (g k)
      by (yes e) = ap (λ x. links_of (g' x)) e ∙ ap links_of m.now ∙ sym (ap (λ x. links_of (g x)) e ∙ ap links_of m.was)
      by (no ne) = ap links_of (m.others k ne)

  step_same : (k : ℕ) (c : Name') → step g' k c ≡ step g k c
  step_same k c = ap (named c) (links_same k)

  follow_same : (x : Path') → follow g' 0 x ≡ follow g 0 x
  follow_same x = same_walk g g' 0 (length x) x (omega arith) (λ x' c rest d e w. step_same d c)

  file_after : content_of (g' file) ≡ Some (contents.File after)
  file_after = ap content_of m.now

  file_before : content_of (g file) ≡ Some (contents.File before)
  file_before = ap content_of m.was

  live_same : (k : ℕ) → (IsLive (g' k) → IsLive (g k)) × (IsLive (g k) → IsLive (g' k))
  live_same k = by (ℕ_discrete k file)
    where
      by : Dec (k ≡ file) → (IsLive (g' k) → IsLive (g k)) × (IsLive (g k) → IsLive (g' k))
      by (yes e) = (
        (λ h. subst (λ x. IsLive (g x)) (sym e) (subst IsSome (sym file_before) refl)),
        (λ h. subst (λ x. IsLive (g' x)) (sym e) (subst IsSome (sym file_after) refl)),
      )
      by (no ne) = ((λ h. subst IsLive (m.others k ne) h), (λ h. subst IsLive (sym (m.others k ne)) h))

  root_not : 0 ≢ file
  root_not e = differ (sym r.root ∙ ap (λ x. content_of (g x)) e ∙ file_before)
    where
      differ : ◌≡◌ {A = Option Content} (Some contents.Dir) (Some (contents.File before)) → ⊥
      differ e = cc

  pub bytes_rooted : IsRooted n g'
  bytes_rooted = record {
    root = ap content_of (m.others 0 root_not) ∙ r.root;
    within = λ k live. r.within k ((live_same k).0 live);
    names = record { each = λ d. subst (λ l. AreApart l) (sym (links_same d)) (r.names.each d) };
    target = λ d k c h. let t = r.target d k c (sym (step_same d c) ∙ h) in (t.0, (live_same k).1 t.1);
    once = λ d e k b c hb hc. r.once d e k b c (sym (step_same d b) ∙ hb) (sym (step_same e c) ∙ hc);
    reached = λ k live. let path = r.reached k ((live_same k).0 live) in (path.0, follow_same path.0 ∙ path.1);
  }

  -- the tree with the new bytes
  pub describes_bytes : (t : FileTree) (p : Path') → Describes g t → follow g 0 p ≡ Some file → Describes g' (map_of.insert t p (contents.File after))
  describes_bytes t p d leads = record { each = λ q. get-insert paths_total t p (contents.File after) q ∙ by q (eq_by_cmp path_cmp q p) refl }
    where
      shown : (q : Path') → q ≢ p → (o : Option ℕ) → follow g 0 q ≡ o → option_and_then (λ i. content_of (g i)) o ≡ option_and_then (λ i. content_of (g' i)) o
      shown q ne None e = refl
      shown q ne (Some k) e = sym (ap content_of (m.others k (λ same. ne (one_path n g r q p file (e ∙ ap (λ (x : ℕ). Some x) same) leads))))

      by : (q : Path') (b : Bool) → eq_by_cmp path_cmp q p ≡ b → cond b (Some (contents.File after)) (content_at t q) ≡ shown_at g' q
      by q true e = sym (ap (shown_at g') (tie q p e) ∙ ap (option_and_then (λ i. content_of (g' i))) (follow_same p ∙ leads) ∙ file_after)
      by q false e = d.each q ∙ shown q (no_tie q p e) (follow g 0 q) refl ∙ ap (option_and_then (λ i. content_of (g' i))) (sym (follow_same q))
