-- The tree in which what stood at a path stands at another.
use Rattle.std.proofs.Common.{◌≡◌, ◌≢◌, ◌⊎◌, inl, inr, ℕ, suc, ◌+◌, ◌-◌, ◌<◌, ◌≤◌, Bool, true, false, cond, [], ◌∷◌, ◌++◌, map, length, get_or, take, drop, Some, None, IsSome, IsTrue, refl, sym, ap, ◌∙◌, subst, arith, eq-or-lt_of_le}
use Rattle.std.specs.Ordering.{is_eq, eq_by_cmp}
use Rattle.std.specs.FinMap.{entries, entries_sorted, find, get-remove, get-from_entries}
use Rattle.std.specs.FinMap as map_of
use Rattle.std.specs.List.{list_all}
use Rattle.std.proofs.lemmas.Cmp.{tied_itself}
use Rattle.std.proofs.lemmas.Bool.{cases_lt}
use Rattle.std.proofs.lemmas.List.{take-take, length-take, length-append, take-append-le, take_all}
use Rattle.std.proofs.Math.Seq.{take-append-add}
use Rattle.zj_tree.specs.declared.content.Content.{Content}
use Rattle.zj_tree.specs.declared.content.Content.TheVariants.{Dir}
use Rattle.zj_tree.specs.Name.{is_name}
use Rattle.zj_tree.specs.Path.{has_names, parent, begins_with}
use Rattle.zj_tree.specs.Tree.{FileTree, IsTree, path_cmp, content_at}
use Rattle.zj_tree.specs.Changed.{moved, renamed}
use Rattle.zj_tree.specs.Moved.{CanMove}
use Rattle.zj_tree.proofs.NameLemmas.{both_pass, first_passes, second_passes}
use Rattle.zj_tree.proofs.OrderLemmas.{Entries, paths_total, content_found, find_at}
use Rattle.zj_tree.proofs.EntryLemmas.{Path', tie, paths_same}
use Rattle.zj_tree.proofs.EditLemmas.{Entry'}
use Rattle.zj_tree.proofs.RemoveLemmas.{nothing_below}
use Rattle.zj_tree.proofs.BeginLemmas.{begins_itself, begins_split, begins_short, take_begins, not_false, no_both, below_moved, other_stays, none_left}

-- an entry at the path where it is once `from` is called `to`
abbrev pub moved_entry : Path' → Path' → Entry' → Entry'
moved_entry from to e = (moved from to e.0, e.1)

-- ---- what is found among moved entries

module _ (from to : Path') where
  pub found_moved : (es : Entries) (q q' : Path') → ((i : ℕ) (d : Entry') → i < length es → eq_by_cmp path_cmp q (moved from to (get_or es i d).0) ≡ eq_by_cmp path_cmp q' (get_or es i d).0) → find path_cmp q (map (moved_entry from to) es) ≡ find path_cmp q' es
  found_moved [] q q' same = refl
  found_moved (e ∷ es) q q' same = λ i. cond (same 0 e (omega arith) i) (Some e.1) (found_moved es q q' (λ j d lt. same (suc j) d (omega arith)) i)

  pub none_moved : (es : Entries) (q : Path') → ((i : ℕ) (d : Entry') → i < length es → eq_by_cmp path_cmp q (moved from to (get_or es i d).0) ≡ false) → find path_cmp q (map (moved_entry from to) es) ≡ None
  none_moved [] q other = refl
  none_moved (e ∷ es) q other = ap (λ b. cond b (Some e.1) (find path_cmp q (map (moved_entry from to) es))) (other 0 e (omega arith)) ∙ none_moved es q (λ j d lt. other (suc j) d (omega arith))

-- names of a path that goes on
pub names_append : (p q : Path') → IsTrue (has_names p) → IsTrue (has_names q) → IsTrue (has_names (p ++ q))
names_append [] q a b = b
names_append (x ∷ p) q a b = both_pass _ _ (first_passes (is_name x) (list_all is_name p) a) (names_append p q (second_passes (is_name x) (list_all is_name p) a) b)

pub names_behind : (p q : Path') → IsTrue (has_names (p ++ q)) → IsTrue (has_names q)
names_behind [] q a = a
names_behind (x ∷ p) q a = names_behind p q (second_passes (is_name x) (list_all is_name (p ++ q)) a)

-- an entry of a tree stands at its path
pub key_stands : (tree : FileTree) (i : ℕ) (d : Entry') → i < length (entries tree) → content_at tree (get_or (entries tree) i d).0 ≡ Some (get_or (entries tree) i d).1
key_stands tree i d lt = content_found tree (get_or (entries tree) i d).0 ∙ find_at path_cmp paths_total (entries tree) (get_or (entries tree) i d).0 i d (entries_sorted tree) lt (tied_itself paths_total (get_or (entries tree) i d).0)

clash_none : (c : Content) → Some c ≡ None → ⊥
clash_none c x = cc

module _ (tree : FileTree) (from to : Path') (m : CanMove tree from to) where
  -- ---- no entry is where others go

  pub some_from : 0 < length from
  some_from = by from m.outside
    where
      by : (f : Path') → begins_with to f ≡ false → 0 < length f
      by [] h = absurd (no_both (begins_with to []) (begins_itself [] to) h)
      by (x ∷ xs) h = omega arith

  pub some_to : 0 < length to
  some_to = by to m.not_above
    where
      by : (f : Path') → begins_with from f ≡ false → 0 < length f
      by [] h = absurd (no_both (begins_with from []) (begins_itself [] from) h)
      by (x ∷ xs) h = omega arith

  -- without what stands at `to`
  abbrev pub left : FileTree
  left = map_of.remove tree to

  pub at_left : (q : Path') → q ≢ to → content_at left q ≡ content_at tree q
  at_left q other = get-remove paths_total tree to q ∙ by (eq_by_cmp path_cmp q to) refl
    where
      by : (b : Bool) → eq_by_cmp path_cmp q to ≡ b → cond b None (content_at tree q) ≡ content_at tree q
      by true e = absurd (other (tie q to e))
      by false e = refl

  pub left_was : (q : Path') → IsSome (content_at left q) → IsSome (content_at tree q) × (q ≢ to)
  left_was q some = by (eq_by_cmp path_cmp q to) refl (subst IsSome (get-remove paths_total tree to q) some)
    where
      same_tests : q ≡ to → eq_by_cmp path_cmp q to ≡ true
      same_tests e = ap is_eq (ap (path_cmp q) (sym e) ∙ tied_itself paths_total q)

      by : (b : Bool) → eq_by_cmp path_cmp q to ≡ b → IsSome (cond b None (content_at tree q)) → IsSome (content_at tree q) × (q ≢ to)
      by true e s = absurd cc
      by false e s = (s, λ same. no_both (eq_by_cmp path_cmp q to) (same_tests same) e)

  -- no path that is left begins with `to`
  pub not_in_to : (q : Path') → IsSome (content_at left q) → begins_with q to ≡ false
  not_in_to q some = not_false (begins_with q to) (λ begins. by begins (eq-or-lt_of_le (begins_short q to begins)))
    where
      front : begins_with q to ≡ true → take (length to) q ≡ to
      front begins = sym ((paths_same to (take (length to) q)).0 begins)

      by : begins_with q to ≡ true → (length to ≡ length q) ⊎ (length to < length q) → ⊥
      by begins (inl e) = (left_was q some).1 (sym (take_all (length to) q (omega arith)) ∙ front begins)
      by begins (inr lt) = nothing_below tree to q (length to) m.is_tree m.empty (left_was q some).0 lt (front begins)

  pub key_not_in_to : (i : ℕ) (d : Entry') → i < length (entries left) → begins_with (get_or (entries left) i d).0 to ≡ false
  key_not_in_to i d lt = not_in_to (get_or (entries left) i d).0 (subst IsSome (sym (key_stands left i d lt)) refl)

  -- ---- what stands where

  pub at_renamed : (q : Path') → content_at (renamed tree from to) q ≡ find path_cmp q (map (moved_entry from to) (entries left))
  at_renamed q = get-from_entries paths_total (map (moved_entry from to) (entries left)) q

  pub at_new : (x : Path') → content_at (renamed tree from to) (to ++ x) ≡ content_at tree (from ++ x)
  at_new x =
      at_renamed (to ++ x)
      ∙ found_moved from to (entries left) (to ++ x) (from ++ x) (λ i d lt. below_moved from to x (get_or (entries left) i d).0 (key_not_in_to i d lt))
      ∙ sym (content_found left (from ++ x))
      ∙ at_left (from ++ x) (λ e. no_both (begins_with to from) (subst (λ y. begins_with y from ≡ true) e (begins_itself from x)) m.outside)

  pub at_old : (q : Path') → begins_with q to ≡ false → begins_with q from ≡ true → content_at (renamed tree from to) q ≡ None
  at_old q no_to begins = at_renamed q ∙ none_moved from to (entries left) q (λ i d lt. none_left from to q (get_or (entries left) i d).0 no_to begins)

  pub at_other : (q : Path') → begins_with q to ≡ false → begins_with q from ≡ false → content_at (renamed tree from to) q ≡ content_at tree q
  at_other q no_to no_from =
      at_renamed q
      ∙ found_moved from to (entries left) q q (λ i d lt. other_stays from to q (get_or (entries left) i d).0 no_to no_from)
      ∙ sym (content_found left q)
      ∙ at_left q (λ e. no_both (begins_with q to) (subst (λ y. begins_with q y ≡ true) e (subst (λ y. begins_with y q ≡ true) (append_none q) (begins_itself q []))) no_to)
    where
      append_none : (p : Path') → p ++ [] ≡ p
      append_none [] = refl
      append_none (x ∷ xs) = ap (λ ys. x ∷ ys) (append_none xs)

  -- ---- a tree again

  -- the directories on the way to `to` stay
  on_the_way : (n : ℕ) → n < length to → content_at (renamed tree from to) (take n to) ≡ Some Dir
  on_the_way n lt =
      at_other (take n to)
      (not_false _ (λ h. omega (arith, begins_short (take n to) to h, length-take n to)))
      (not_false _ (λ h. no_both (begins_with to from) (take_begins to from n h) m.outside))
      ∙ cases (eq-or-lt_of_le (omega arith))
    where
      cases : (n ≡ length to - 1) ⊎ (n < length to - 1) → content_at tree (take n to) ≡ Some Dir
      cases (inl e) = ap (λ k. content_at tree (take k to)) e ∙ m.directory
      cases (inr less) =
          let short : length (parent to) ≡ length to - 1 = omega (arith, length-take (length to - 1) to) in
          ap (content_at tree) (sym (take-take n (length to - 1) to (omega arith))) ∙ m.is_tree.prefixes (parent to) n (subst IsSome (sym m.directory) refl) (omega arith)

  pub renamed_is_tree : IsTrue (has_names to) → IsTree (renamed tree from to)
  renamed_is_tree named = record {
    root = at_other [] (not_false _ (λ h. omega (arith, begins_short [] to h, some_to))) (not_false _ (λ h. omega (arith, begins_short [] from h, some_from))) ∙ m.is_tree.root;
    prefixes = λ q n some lt. up q n some lt (begins_with q to) (begins_with q from) refl refl;
    names = λ q some. name q some (begins_with q to) (begins_with q from) refl refl;
  }
    where
      nothing : IsSome {T = Content} None → ⊥
      nothing x = cc

      below : (q : Path') → begins_with q to ≡ true → q ≡ to ++ drop (length to) q
      below q h = begins_split q to h

      up : (q : Path') (n : ℕ) → IsSome (content_at (renamed tree from to) q) → n < length q → (a b : Bool) → begins_with q to ≡ a → begins_with q from ≡ b → content_at (renamed tree from to) (take n q) ≡ Some Dir
      up q n some lt true b s t =
          let x = drop (length to) q in
          let is = below q s in
          let there : IsSome (content_at tree (from ++ x)) = subst IsSome (ap (content_at (renamed tree from to)) is ∙ at_new x) some in
          let lt' : n < length (to ++ x) = subst (λ y. n < length y) is lt in
          ap (λ y. content_at (renamed tree from to) (take n y)) is ∙ cases x there lt' (cases_lt n (length to))
        where
          cases : (x : Path') → IsSome (content_at tree (from ++ x)) → n < length (to ++ x) → (n < length to) ⊎ (length to ≤ n) → content_at (renamed tree from to) (take n (to ++ x)) ≡ Some Dir
          cases x there lt' (inl less) = ap (content_at (renamed tree from to)) (take-append-le n to x (omega arith)) ∙ on_the_way n less
          cases x there lt' (inr more) =
              let k = n - length to in
              let n_is : n ≡ length to + k = omega arith in
              let shorter : length from + k < length (from ++ x) = omega (arith, length-append from x, length-append to x) in
              ap (λ j. content_at (renamed tree from to) (take j (to ++ x))) n_is
              ∙ ap (content_at (renamed tree from to)) (take-append-add to x k)
              ∙ at_new (take k x)
              ∙ ap (content_at tree) (sym (take-append-add from x k))
              ∙ m.is_tree.prefixes (from ++ x) (length from + k) there shorter
      up q n some lt false true s t = absurd (nothing (subst IsSome (at_old q s t) some))
      up q n some lt false false s t =
          at_other (take n q) (not_false _ (λ h. no_both (begins_with q to) (take_begins q to n h) s)) (not_false _ (λ h. no_both (begins_with q from) (take_begins q from n h) t))
          ∙ m.is_tree.prefixes q n (subst IsSome (at_other q s t) some) lt

      name : (q : Path') → IsSome (content_at (renamed tree from to) q) → (a b : Bool) → begins_with q to ≡ a → begins_with q from ≡ b → IsTrue (has_names q)
      name q some true b s t =
          let x = drop (length to) q in
          let is = below q s in
          let there : IsSome (content_at tree (from ++ x)) = subst IsSome (ap (content_at (renamed tree from to)) is ∙ at_new x) some in
          subst (λ y. IsTrue (has_names y)) (sym is) (names_append to x named (names_behind from x (m.is_tree.names (from ++ x) there)))
      name q some false true s t = absurd (nothing (subst IsSome (at_old q s t) some))
      name q some false false s t = m.is_tree.names q (subst IsSome (at_other q s t) some)
