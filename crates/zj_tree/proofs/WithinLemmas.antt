-- Trees within limits, after a change.
use Rattle.std.proofs.Common.{◌≡◌, ◌≢◌, ℕ, ◌+◌, ◌-◌, ◌≤◌, ◌<◌, Bool, true, false, cond, eqb, zero, suc, List, [], ◌∷◌, map, get_or, length, take, drop, ◌++◌, Some, None, is_some, refl, sym, ap, ◌∙◌, subst, arith, length-take}
use Rattle.std.specs.Ordering.{eq_by_cmp}
use Rattle.std.specs.FinMap.{insert, entries, from_entries, get-from_entries, contains_key, len, len-entries, len-insert, len-remove, get-insert, get-remove}
use Rattle.std.specs.declared.cmp.Ordering.TheVariants.{Equal}
use Rattle.std.specs.FinMap as map_of
use Rattle.std.proofs.lemmas.List.{length-append, length-drop, length-map}
use Rattle.zj_tree.specs.declared.content.Content.{Content}
use Rattle.zj_tree.specs.declared.content.Content.TheVariants.{Dir, File}
use Rattle.zj_tree.specs.Bytes.{overwritten}
use Rattle.zj_tree.specs.Changed.{bytes_of, renamed}
use Rattle.zj_tree.specs.Tree.{FileTree, path_cmp, content_at, node_count, used, blocks_for}
use Rattle.zj_tree.specs.Apply.{Limits, longest_file}
use Rattle.zj_tree.specs.Laws.{IsWithin}
use Rattle.zj_tree.proofs.OrderLemmas.{Entries, paths_total}
use Rattle.zj_tree.proofs.SumLemmas.{find_place}
use Rattle.zj_tree.proofs.EditLemmas.{Entry'}
use Rattle.zj_tree.proofs.MovedLemmas.{moved_entry, key_stands}
use Rattle.zj_tree.proofs.RemoveLemmas.{used_replaced, used_removed_less}

-- no file is longer than this
pub longest : (version : ℕ) → longest_file version ≤ 71680
longest version = by (eqb version 1)
  where
    by : (b : Bool) → cond b 6144 71680 ≤ 71680
    by true = omega arith
    by false = omega arith

-- how long bytes are that others were put over
pub length-overwritten : (old : List ℕ) (at : ℕ) (new : List ℕ) → at ≤ length old → length (overwritten old at new) ≡ at + length new + (length old - (at + length new))
length-overwritten old at new le = omega (arith, length-append (take at old ++ new) (drop (at + length new) old), length-append (take at old) new, length-take at old, length-drop (at + length new) old)

module _ (limits : Limits) (tree : FileTree) (path : List (List ℕ)) where
  -- the files of a tree with an entry are short, where the entry is
  short_files : (content : Content) → IsWithin limits tree → length (bytes_of (Some content)) ≤ longest_file limits.version → (q : List (List ℕ)) (bytes : List ℕ) → content_at (insert tree path content) q ≡ Some (File bytes) → length bytes ≤ longest_file limits.version
  short_files content within short q bytes there = by (eq_by_cmp path_cmp q path) (sym (get-insert paths_total tree path content q) ∙ there)
    where
      by : (b : Bool) → cond b (Some content) (content_at tree q) ≡ Some (File bytes) → length bytes ≤ longest_file limits.version
      by true e = subst (λ o. length (bytes_of o) ≤ longest_file limits.version) e short
      by false e = within.files q bytes e

  -- a new entry
  pub inserted_within : (content : Content) → IsWithin limits tree → node_count tree ≢ limits.nodes → used (insert tree path content) ≤ limits.room → length (bytes_of (Some content)) ≤ longest_file limits.version → IsWithin limits (insert tree path content)
  inserted_within content within left room short = record {
    nodes = more (contains_key tree path) (len-insert paths_total tree path content);
    blocks = room;
    files = short_files content within short;
  }
    where
      more : (b : Bool) → len (insert tree path content) ≡ cond b (len tree) (len tree + 1) → node_count (insert tree path content) ≤ limits.nodes
      more true e = omega (arith, within.nodes)
      more false e = omega (arith, within.nodes)

  -- other content at a path that is there
  pub replaced_within : (content old : Content) → content_at tree path ≡ Some old → IsWithin limits tree → used (insert tree path content) ≤ limits.room → length (bytes_of (Some content)) ≤ longest_file limits.version → IsWithin limits (insert tree path content)
  replaced_within content old there within room short = record {
    nodes = same (contains_key tree path) (ap is_some there) (len-insert paths_total tree path content);
    blocks = room;
    files = short_files content within short;
  }
    where
      same : (b : Bool) → b ≡ true → len (insert tree path content) ≡ cond b (len tree) (len tree + 1) → node_count (insert tree path content) ≤ limits.nodes
      same true t e = omega (arith, within.nodes)
      same false t e = absurd cc

  -- fewer bytes of a file
  pub truncated_within : (old : List ℕ) (size : ℕ) → content_at tree path ≡ Some (File old) → IsWithin limits tree → IsWithin limits (insert tree path (File (take size old)))
  truncated_within old size there within =
      let short : length (take size old) ≤ length old = omega (arith, length-take size old) in
      let fewer : blocks_for (length (take size old)) 512 ≤ blocks_for (length old) 512 = omega arith in
      let law = used_replaced tree path (File (take size old)) (File old) there in
      let file = within.files path old there in
      replaced_within (File (take size old)) (File old) there within (omega (arith, within.blocks)) (omega arith)

  -- an entry less
  pub removed_within : IsWithin limits tree → IsWithin limits (map_of.remove tree path)
  removed_within within = record {
    nodes = fewer (contains_key tree path) (len-remove paths_total tree path);
    blocks = omega (arith, used_removed_less tree path, within.blocks);
    files = λ q bytes there. within.files q bytes (was q bytes (eq_by_cmp path_cmp q path) (sym (get-remove paths_total tree path q) ∙ there));
  }
    where
      fewer : (b : Bool) → len (map_of.remove tree path) ≡ cond b (len tree - 1) (len tree) → node_count (map_of.remove tree path) ≤ limits.nodes
      fewer true e = omega (arith, within.nodes)
      fewer false e = omega (arith, within.nodes)

      was : (q : List (List ℕ)) (bytes : List ℕ) (b : Bool) → cond b None (content_at tree q) ≡ Some (File bytes) → content_at tree q ≡ Some (File bytes)
      was q bytes true e = absurd cc
      was q bytes false e = e

  -- bytes put over others
  pub written_within : (old : List ℕ) (at : ℕ) (bytes : List ℕ) → content_at tree path ≡ Some (File old) → at ≤ length old → at + length bytes ≤ longest_file limits.version → used (insert tree path (File (overwritten old at bytes))) ≤ limits.room → IsWithin limits tree → IsWithin limits (insert tree path (File (overwritten old at bytes)))
  written_within old at bytes there le short room within =
      let file = within.files path old there in
      let long = length-overwritten old at bytes le in
      replaced_within (File (overwritten old at bytes)) (File old) there within room (fits (length (overwritten old at bytes)) (at + length bytes) (length old) (longest_file limits.version) long short file)
    where
      fits : (n end old most : ℕ) → n ≡ end + (old - end) → end ≤ most → old ≤ most → n ≤ most
      fits n end old most e a b = omega arith

-- what stood at a path stands at another
pub renamed_within : (limits : Limits) (tree : FileTree) (from to : List (List ℕ)) → IsWithin limits tree → used (renamed tree from to) ≤ limits.room → IsWithin limits (renamed tree from to)
renamed_within limits tree from to within room = record {
  nodes = omega (arith, few (map (moved_entry from to) (entries (map_of.remove tree to))), length-map (entries (map_of.remove tree to)) (moved_entry from to), len-entries (map_of.remove tree to), (removed_within limits tree to within).nodes);
  blocks = room;
  files = λ q bytes there. file q bytes (find_place path_cmp q (File bytes) (map (moved_entry from to) (entries (map_of.remove tree to))) (sym (get-from_entries paths_total (map (moved_entry from to) (entries (map_of.remove tree to))) q) ∙ there));
}
  where
    few : (es : Entries) → len (from_entries {R = path_cmp} es) ≤ length es
    few [] = omega (arith, map_of.len-empty path_cmp Content)
    few (e ∷ es) = by (contains_key (from_entries es) e.0) (len-insert paths_total (from_entries es) e.0 e.1) (few es)
      where
        by : (b : Bool) → len (insert (from_entries {R = path_cmp} es) e.0 e.1) ≡ cond b (len (from_entries {R = path_cmp} es)) (len (from_entries {R = path_cmp} es) + 1) → len (from_entries {R = path_cmp} es) ≤ length es → len (insert (from_entries {R = path_cmp} es) e.0 e.1) ≤ suc (length es)
        by true is le = omega arith
        by false is le = omega arith

    moved_content : (es : Entries) (i : ℕ) (d : Entry') → i < length es → (get_or (map (moved_entry from to) es) i (moved_entry from to d)).1 ≡ (get_or es i d).1
    moved_content [] i d lt = absurd (omega arith)
    moved_content (e ∷ es) zero d lt = refl
    moved_content (e ∷ es) (suc i) d lt = moved_content es i d (omega arith)

    file : (q : List (List ℕ)) (bytes : List ℕ) → (i : ℕ) × (i < length (map (moved_entry from to) (entries (map_of.remove tree to)))) × ((d : Entry') → (path_cmp q (get_or (map (moved_entry from to) (entries (map_of.remove tree to))) i d).0 ≡ Equal) × ((get_or (map (moved_entry from to) (entries (map_of.remove tree to))) i d).1 ≡ File bytes)) → length bytes ≤ longest_file limits.version
    file q bytes place =
        let d : Entry' = ([], Dir) in
        let lt : place.0 < length (entries (map_of.remove tree to)) = omega (arith, place.1, length-map (entries (map_of.remove tree to)) (moved_entry from to)) in
        let is : (get_or (entries (map_of.remove tree to)) place.0 d).1 ≡ File bytes = sym (moved_content (entries (map_of.remove tree to)) place.0 d lt) ∙ (place.2 (moved_entry from to d)).1 in
        (removed_within limits tree to within).files (get_or (entries (map_of.remove tree to)) place.0 d).0 bytes (key_stands (map_of.remove tree to) place.0 d lt ∙ ap Some is)
