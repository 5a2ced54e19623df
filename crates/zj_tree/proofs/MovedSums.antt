-- How many blocks a tree takes up once what stood at a path stands at another.
use Rattle.std.proofs.Common.{◌≡◌, ◌≢◌, ℕ, suc, ◌+◌, ◌-◌, ◌<◌, ◌≤◌, Bool, true, false, cond, T, [], ◌∷◌, map, length, get_or, Option, Some, None, MatchOption, IsSome, is_some, sum_by, refl, sym, ap, ◌∙◌, subst, arith}
use Rattle.std.specs.Ordering.{is_eq, eq_by_cmp}
use Rattle.std.specs.FinMap.{entries, entries_sorted, entries-insert, find, put, is_sorted, get-from_entries, from_entries}
use Rattle.std.specs.FinMap as map_of
use Rattle.std.proofs.lemmas.List.Sums.{sum_by-cons}
use Rattle.zj_tree.specs.declared.content.Content.{Content}
use Rattle.zj_tree.specs.declared.content.Content.TheVariants.{Dir}
use Rattle.zj_tree.specs.Path.{parent, begins_with}
use Rattle.zj_tree.specs.Tree.{FileTree, path_cmp, content_at, is_in, entry_count, directory_blocks, content_blocks, used}
use Rattle.zj_tree.specs.Changed.{moved, renamed}
use Rattle.zj_tree.specs.Moved.{CanMove}
use Rattle.zj_tree.proofs.OrderLemmas.{Entries, paths_total, content_found, T_first, T_second}
use Rattle.zj_tree.proofs.SumLemmas.{sum_put, sum_same, sum_over_keys}
use Rattle.zj_tree.proofs.RootLemmas.{count, blocks_by, used_among}
use Rattle.zj_tree.proofs.EntryLemmas.{Path', in_parent, in_one, in_no_other, new_count, one_more}
use Rattle.zj_tree.proofs.EditLemmas.{Entry', none_below, reinserted, removed_nothing, gone}
use Rattle.zj_tree.proofs.RemoveLemmas.{used_without}
use Rattle.std.proofs.lemmas.Cmp.{tied_itself}
use Rattle.std.proofs.lemmas.List.{append-nil, length-take}
use Rattle.zj_tree.proofs.BeginLemmas.{not_false, no_both, tests_alike, take_begins, begins_itself, begins_take, begins_short, moved_once, moved_no, moved_itself, in_moved}
use Rattle.zj_tree.proofs.MovedLemmas.{moved_entry, found_moved, key_stands, some_from, some_to, at_left, not_in_to, key_not_in_to}

-- a sum over moved entries, where none begins with the new path
module _ (from to : Path') (f : Entry' → ℕ) where
  pub sum_moved : (es : Entries) → T (is_sorted path_cmp es) → ((i : ℕ) (d : Entry') → i < length es → begins_with (get_or es i d).0 to ≡ false) →
      sum_by f (entries (from_entries {R = path_cmp} (map (moved_entry from to) es))) ≡ sum_by (λ e. f (moved_entry from to e)) es
  sum_moved [] sorted apart = ap (λ xs. sum_by f xs) empty_entries
    where
      nil_of : (xs : Entries) → length xs ≡ 0 → xs ≡ []
      nil_of [] e = refl
      nil_of (x ∷ xs) e = absurd (omega arith)

      empty_entries : entries (map_of.empty {X = Content} {R = path_cmp}) ≡ []
      empty_entries = nil_of _ (sym (map_of.len-entries (map_of.empty {X = Content} {R = path_cmp})) ∙ map_of.len-empty path_cmp Content)
  sum_moved (e ∷ es) sorted apart =
      let rest = map (moved_entry from to) es in
      let k = moved from to e.0 in
      let none : find path_cmp k (entries (from_entries {R = path_cmp} rest)) ≡ None =
      sym (content_found (from_entries rest) k)
      ∙ get-from_entries paths_total rest k
      ∙ found_moved from to es k e.0 (λ i d lt. tests_alike k (moved from to (get_or es i d).0) e.0 (get_or es i d).0
      (moved_once from to e.0 (get_or es i d).0 (apart 0 e (omega arith)) (apart (suc i) d (omega arith)))
      (λ same. ap (moved from to) same))
      ∙ none_below e.0 es (T_first _ _ sorted) in
      ap (λ xs. sum_by f xs) (entries-insert paths_total (from_entries rest) k e.1)
      ∙ sum_put path_cmp f k e.1 (entries (from_entries rest)) none
      ∙ ap (λ n. n + f (k, e.1)) (sum_moved es (T_second _ _ sorted) (λ i d lt. apart (suc i) d (omega arith)))
      ∙ swap_add _ _
      ∙ sym (sum_by-cons (λ x. f (moved_entry from to x)) e es)
    where
      swap_add : (a b : ℕ) → a + b ≡ b + a
      swap_add a b = omega arith

-- counts with one entry more
abbrev with_entry : (Path' → ℕ) → Path' → Path' → ℕ
with_entry counts path dir = counts dir + cond (is_in dir path) 1 0

module _ (tree : FileTree) (counts : Path' → ℕ) (path : Path') (below : 0 < length path) (there : content_at tree (parent path) ≡ Some Dir) where
  -- one entry more adds blocks to its directory
  entry_more : sum_by (blocks_by (with_entry counts path)) (entries tree) + directory_blocks (counts (parent path)) ≡ sum_by (blocks_by counts) (entries tree) + directory_blocks (counts (parent path) + 1)
  entry_more = one_more (entries tree) (entries_sorted tree) (parent path) Dir (sym (content_found tree (parent path)) ∙ there) counts (with_entry counts path)
      (λ dir other. ap (λ b. counts dir + cond b 1 0) (in_no_other dir path other) ∙ plus_none (counts dir))
      (ap (λ b. counts (parent path) + cond b 1 0) (in_parent path below))
    where
      plus_none : (n : ℕ) → n + 0 ≡ n
      plus_none n = omega arith

module _ (tree : FileTree) (from to : Path') (m : CanMove tree from to) (content : Content) (stands : content_at tree from ≡ Some content) where
  -- the tree without what stood at `to`
  abbrev rest : FileTree
  rest = map_of.remove tree to

  -- and without what moves
  abbrev others : Entries
  others = entries (map_of.remove rest from)

  -- the counts of entries, but for the one that moves
  abbrev still : Path' → ℕ
  still = count others

  not_to : from ≢ to
  not_to e = no_both (begins_with to from) (subst (λ y. begins_with y from ≡ true) (append-nil from ∙ e) (begins_itself from [])) m.outside

  at_from : content_at rest from ≡ Some content
  at_from = at_left tree from to m from not_to ∙ stands

  none_from : find path_cmp from others ≡ None
  none_from = sym (content_found (map_of.remove rest from) from) ∙ gone rest from

  entries_are : entries rest ≡ put path_cmp from content others
  entries_are = ap entries (sym (reinserted rest from content at_from)) ∙ entries-insert paths_total (map_of.remove rest from) from content

  count_rest : (dir : Path') → count (entries rest) dir ≡ with_entry still from dir
  count_rest dir = ap (λ xs. count xs dir) entries_are ∙ new_count others from content none_from dir

  -- another entry that is left
  other_key : (i : ℕ) (d : Entry') → i < length others → (begins_with (get_or others i d).0 to ≡ false) × ((get_or others i d).0 ≢ from)
  other_key i d lt =
      let k = (get_or others i d).0 in
      let was = left_of k (subst IsSome (sym (key_stands (map_of.remove rest from) i d lt)) refl) in
      (not_in_to tree from to m k was.0, was.1)
    where
      left_of : (q : Path') → IsSome (content_at (map_of.remove rest from) q) → IsSome (content_at rest q) × (q ≢ from)
      left_of q some = by (eq_by_cmp path_cmp q from) refl (subst IsSome (map_of.get-remove paths_total rest from q) some)
        where
          by : (b : Bool) → eq_by_cmp path_cmp q from ≡ b → IsSome (cond b None (content_at rest q)) → IsSome (content_at rest q) × (q ≢ from)
          by true e s = absurd cc
          by false e s = (s, λ same. no_both (eq_by_cmp path_cmp q from) (ap is_eq (ap (path_cmp q) (sym same) ∙ tied_itself paths_total q)) e)

  parent_apart : begins_with (parent to) from ≡ false
  parent_apart = not_false _ (λ h. no_both (begins_with to from) (take_begins to from (length to - 1) h) m.outside)

  parent_short : begins_with (parent to) to ≡ false
  parent_short = not_false _ (λ h. omega (arith, begins_short (parent to) to h, length-take (length to - 1) to, some_to tree from to m))

  -- `to` lies in a directory that moved as it does before
  lies_alike : (dir : Path') → begins_with dir to ≡ false → is_in (moved from to dir) to ≡ is_in dir to
  lies_alike dir apart = by (is_in (moved from to dir) to) (is_in dir to) refl refl
    where
      stays : moved from to (parent to) ≡ parent to
      stays = moved_no from to (parent to) parent_apart

      by : (a b : Bool) → is_in (moved from to dir) to ≡ a → is_in dir to ≡ b → is_in (moved from to dir) to ≡ is_in dir to
      by true true s t = s ∙ sym t
      by false false s t = s ∙ sym t
      by true false s t =
          let up : parent to ≡ dir = moved_once from to (parent to) dir parent_short apart (stays ∙ (in_one (moved from to dir) to s).1) in
          absurd (no_both (is_in dir to) (subst (λ d. is_in d to ≡ true) up (in_parent to (some_to tree from to m))) t)
      by false true s t =
          let up : parent to ≡ moved from to dir = sym stays ∙ ap (moved from to) (in_one dir to t).1 in
          absurd (no_both (is_in (moved from to dir) to) (subst (λ d. is_in d to ≡ true) up (in_parent to (some_to tree from to m))) s)

  -- how many entries a directory has once it moved
  count_renamed : (dir : Path') → begins_with dir to ≡ false → count (entries (renamed tree from to)) (moved from to dir) ≡ with_entry still to dir
  count_renamed dir apart =
      let there = λ (p : Path'). cond (is_in (moved from to dir) p) 1 0 in
      let after = λ (e : Entry'). there (moved from to e.0) in
      sum_over_keys there (entries (renamed tree from to))
      ∙ sum_moved from to (λ e. there e.0) (entries rest) (entries_sorted rest) (key_not_in_to tree from to m)
      ∙ ap (λ xs. sum_by after xs) entries_are
      ∙ sum_put path_cmp after from content others none_from
      ∙ (λ i. same_others i + one i)
      ∙ ap (λ n. n + cond (is_in dir to) 1 0) (sym (sum_over_keys (λ (p : Path'). cond (is_in dir p) 1 0) others))
    where
      same_others : sum_by (λ (e : Entry'). cond (is_in (moved from to dir) (moved from to e.0)) 1 0) others ≡ sum_by (λ (e : Entry'). cond (is_in dir e.0) 1 0) others
      same_others = sum_same (λ (e : Entry'). cond (is_in dir e.0) 1 0) (λ (e : Entry'). cond (is_in (moved from to dir) (moved from to e.0)) 1 0) others (λ i d lt.
          ap (λ b. cond b 1 0) (in_moved from to dir (get_or others i d).0 (some_from tree from to m) (some_to tree from to m) apart (other_key i d lt).0 (other_key i d lt).1))

      one : ◌≡◌ {A = ℕ} (cond (is_in (moved from to dir) (moved from to from)) 1 0) (cond (is_in dir to) 1 0)
      one = ap (λ b. cond b 1 0) (ap (is_in (moved from to dir)) (moved_itself from to) ∙ lies_alike dir apart)

  used_renamed : used (renamed tree from to) ≡ sum_by (blocks_by (with_entry still to)) (entries rest)
  used_renamed =
      let f = blocks_by (count (entries (renamed tree from to))) in
      used_among (renamed tree from to)
      ∙ sum_moved from to f (entries rest) (entries_sorted rest) (key_not_in_to tree from to m)
      ∙ sum_same (blocks_by (with_entry still to)) (λ e. f (moved_entry from to e)) (entries rest) (λ i d lt.
      ap (λ n. directory_blocks n + content_blocks (get_or (entries rest) i d).1) (count_renamed (get_or (entries rest) i d).0 (key_not_in_to tree from to m i d lt)))

  used_rest : used rest ≡ sum_by (blocks_by (with_entry still from)) (entries rest)
  used_rest = used_among rest ∙ ap (λ n. sum_by (blocks_by n) (entries rest)) (λ i dir. count_rest dir i)

  dir_to : content_at rest (parent to) ≡ Some Dir
  dir_to = at_left tree from to m (parent to) (λ e. no_both (begins_with (parent to) to) (subst (λ y. begins_with (parent to) y ≡ true) e (subst (λ y. begins_with y (parent to) ≡ true) (append-nil (parent to)) (begins_itself (parent to) []))) parent_short) ∙ m.directory

  dir_from : content_at rest (parent from) ≡ Some Dir
  dir_from =
      at_left tree from to m (parent from) (λ e. no_both (begins_with from to) (subst (λ y. begins_with from y ≡ true) e (begins_take from (length from - 1))) m.not_above)
      ∙ m.is_tree.prefixes from (length from - 1) m.there (omega (arith, some_from tree from to m))

  -- the directory that an entry leaves takes up less, and the one that it goes to more
  pub used_moves : used (renamed tree from to) + directory_blocks (still (parent to)) + directory_blocks (still (parent from) + 1) ≡ used rest + directory_blocks (still (parent from)) + directory_blocks (still (parent to) + 1)
  used_moves = omega (arith, entry_more rest still from (some_from tree from to m) dir_from, entry_more rest still to (some_to tree from to m) dir_to, used_renamed, used_rest)

  -- ---- by the counts of entries as they were

  abbrev is_there : ℕ
  is_there = cond (is_some (content_at tree to)) 1 0

  tree_counts : (dir : Path') → entry_count tree dir ≡ with_entry still from dir + cond (is_in dir to) is_there 0
  tree_counts dir = by (content_at tree to) refl
    where
      none_more : (b : Bool) → ◌≡◌ {A = ℕ} 0 (cond b 0 0)
      none_more true = refl
      none_more false = refl

      by : (o : Option Content) → content_at tree to ≡ o → entry_count tree dir ≡ with_entry still from dir + cond (is_in dir to) (cond (is_some o) 1 0) 0
      by None e = ap (λ x. entry_count x dir) (sym (removed_nothing tree to e)) ∙ count_rest dir ∙ omega (arith, none_more (is_in dir to))
      by (Some c) e =
          ap (λ x. entry_count x dir) (sym (reinserted tree to c e))
          ∙ ap (λ xs. count xs dir) (entries-insert paths_total rest to c)
          ∙ new_count (entries rest) to c (sym (content_found rest to) ∙ gone tree to) dir
          ∙ ap (λ n. n + cond (is_in dir to) 1 0) (count_rest dir)

  in_from : is_in (parent from) from ≡ true
  in_from = in_parent from (some_from tree from to m)

  in_to : is_in (parent to) to ≡ true
  in_to = in_parent to (some_to tree from to m)

  -- what the content that is replaced took up
  freed_rest : (freed : ℕ) → MatchOption (content_at tree to) (freed ≡ 0) (λ c. freed ≡ content_blocks c) →
      used rest + freed + directory_blocks (entry_count tree (parent to)) ≡ used tree + directory_blocks (entry_count tree (parent to) - is_there)
  freed_rest freed is_freed = by (content_at tree to) refl is_freed
    where
      less_none : (n : ℕ) → n - 0 ≡ n
      less_none n = omega arith

      by : (o : Option Content) → content_at tree to ≡ o → MatchOption o (freed ≡ 0) (λ c. freed ≡ content_blocks c) →
          used rest + freed + directory_blocks (entry_count tree (parent to)) ≡ used tree + directory_blocks (entry_count tree (parent to) - cond (is_some o) 1 0)
      by None e none = omega (arith, ap used (removed_nothing tree to e), ap directory_blocks (less_none (entry_count tree (parent to))), none)
      by (Some c) e is = omega (arith, (used_without tree to c (entry_count tree (parent to)) m.is_tree (some_to tree from to m) m.empty e refl).1, is)

  -- within one directory
  pub within_one : (freed : ℕ) → MatchOption (content_at tree to) (freed ≡ 0) (λ c. freed ≡ content_blocks c) → parent from ≡ parent to →
      used (renamed tree from to) + directory_blocks (entry_count tree (parent to)) + freed ≡ used tree + directory_blocks (entry_count tree (parent to) - is_there)
  within_one freed is_freed same =
      let alike : still (parent from) ≡ still (parent to) = ap still same in
      let back = ap directory_blocks alike in
      let more = ap (λ n. directory_blocks (n + 1)) alike in
      omega (arith, used_moves, freed_rest freed is_freed, back, more)

  -- from one directory into another
  pub between_two : (freed : ℕ) → MatchOption (content_at tree to) (freed ≡ 0) (λ c. freed ≡ content_blocks c) → parent from ≢ parent to →
      used (renamed tree from to) + (directory_blocks (entry_count tree (parent from)) + directory_blocks (entry_count tree (parent to))) + freed ≡ used tree + (directory_blocks (entry_count tree (parent from) - 1) + directory_blocks (entry_count tree (parent to) + 1 - is_there))
  between_two freed is_freed other =
      let from_count : entry_count tree (parent from) ≡ still (parent from) + 1 = tree_counts (parent from) ∙ (λ i. still (parent from) + cond (in_from i) 1 0 + cond (in_no_other (parent from) to other i) is_there 0) ∙ plus_none (still (parent from) + 1) in
      let to_count : entry_count tree (parent to) ≡ still (parent to) + is_there = tree_counts (parent to) ∙ (λ i. still (parent to) + cond (in_no_other (parent to) from (λ e. other (sym e)) i) 1 0 + cond (in_to i) is_there 0) ∙ ap (λ n. n + is_there) (plus_none (still (parent to))) in
      regroup _ _ _ _ is_there _ _ _ used_moves (freed_rest freed is_freed) from_count to_count (few (is_some (content_at tree to)))
    where
      plus_none : (n : ℕ) → n + 0 ≡ n
      plus_none n = omega arith

      few : (b : Bool) → cond b 1 0 ≤ 1
      few true = omega arith
      few false = omega arith

      regroup : (u r a s there lost won : ℕ) (t : ℕ) → u + directory_blocks s + directory_blocks (a + 1) ≡ r + directory_blocks a + directory_blocks (s + 1) → r + freed + directory_blocks won ≡ t + directory_blocks (won - there) → lost ≡ a + 1 → won ≡ s + there → there ≤ 1
          → u + (directory_blocks lost + directory_blocks won) + freed ≡ t + (directory_blocks (lost - 1) + directory_blocks (won + 1 - there))
      regroup u r a s there lost won t law gone lost_is won_is le =
          let one = ap directory_blocks lost_is in
          let less : directory_blocks (lost - 1) ≡ directory_blocks a = ap directory_blocks (omega arith) in
          let before : directory_blocks (won - there) ≡ directory_blocks s = ap directory_blocks (omega arith) in
          let after : directory_blocks (won + 1 - there) ≡ directory_blocks (s + 1) = ap directory_blocks (omega arith) in
          add_up _ _ _ _ _ _ _ _ _ _ _ _ law gone one less before after
        where
          add_up : (u r t ds da1 da ds1 dl dw dl1 dwt dw1 : ℕ) → u + ds + da1 ≡ r + da + ds1 → r + freed + dw ≡ t + dwt → dl ≡ da1 → dl1 ≡ da → dwt ≡ ds → dw1 ≡ ds1 → u + (dl + dw) + freed ≡ t + (dl1 + dw1)
          add_up u r t ds da1 da ds1 dl dw dl1 dwt dw1 law gone one less before after = omega arith

  -- the entries that are there are counted
  pub counted : (1 ≤ entry_count tree (parent from)) × (is_there ≤ entry_count tree (parent to))
  counted = (
    omega (arith, tree_counts (parent from), ap (λ b. still (parent from) + cond b 1 0) in_from),
    omega (arith, tree_counts (parent to), ap (λ b. cond b is_there 0) in_to),
  )
