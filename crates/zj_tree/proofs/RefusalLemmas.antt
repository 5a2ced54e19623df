-- What it means that no reason counts against a call.
use Rattle.std.proofs.Common.{◌≡◌, ◌≢◌, ℕ, ◌+◌, ◌<◌, ◌≤◌, ◌||◌, ◌&&◌, ◌-◌, ◌⊎◌, inl, inr, eq-or-lt_of_le, take, Bool, true, false, cond, eqb, eqb-true, eq-eqb, ltb, ltb-false, List, [], ◌∷◌, length, Option, Some, None, Result, Ok, Err, OnOk, IsSome, is_some, ap, subst, ◌∙◌, arith, refl, sym}
use Rattle.std.specs.Option.{ok_or}
use Rattle.std.specs.Result.{result_err}
use Rattle.std.specs.FinMap.{insert}
use Rattle.zj_tree.specs.Laws.{IsWithin}
use Rattle.zj_tree.specs.declared.content.Content.{Content}
use Rattle.zj_tree.specs.declared.content.Content.TheVariants.{Dir, File}
use Rattle.zj_tree.specs.declared.call.Refusal.{Refusal}
use Rattle.zj_tree.specs.declared.call.Refusal.TheVariants.{NotDir, NotFound, Exists, Inside, NotEmpty, DirFull, NoNodes, NoSpace, TooBig, PastEnd}
use Rattle.zj_tree.specs.declared.call.Call.TheVariants as calls
use Rattle.zj_tree.specs.Bytes.{overwritten}
use Rattle.zj_tree.specs.Changed.{bytes_of, bytes_at, renamed}
use Rattle.zj_tree.specs.Path.{parent, same_path, begins_with}
use Rattle.zj_tree.specs.Tree.{FileTree, IsTree, content_at, entry_count, node_count, used}
use Rattle.zj_tree.specs.Apply.{Limits, refuse_if, first_refusal, is_behind_file, resolve, nothing, no_directory, no_file, past_end, longest_file, most_bytes, is_directory, no_replacing, adds_entry, new_entry_reasons, move_reasons, reasons, Fits}
use Rattle.std.proofs.lemmas.List.{take-take, length-take, take_all}
use Rattle.zj_tree.specs.Moved.{CanMove}
use Rattle.zj_tree.proofs.EntryLemmas.{no_children, paths_same}
use Rattle.zj_tree.proofs.RemoveLemmas.{nothing_below}
use Rattle.zj_tree.proofs.BeginLemmas.{begins_short, not_false, no_both}

-- where no refusal counts, the first doesn't, and none of the others does
pub none_first : (a : Option Refusal) (rest : List (Option Refusal)) → first_refusal (a ∷ rest) ≡ None → (a ≡ None) × (first_refusal rest ≡ None)
none_first None rest h = (refl, h)
none_first (Some r) rest h = absurd cc

pub not_refused : (b : Bool) (r : Refusal) → refuse_if b r ≡ None → b ≡ false
not_refused false r h = refl
not_refused true r h = absurd cc

-- where no reason counts against a directory, one stands there
pub directory_there : (tree : FileTree) (path : List (List ℕ)) → no_directory (resolve tree path) ≡ None → content_at tree path ≡ Some Dir
directory_there tree path h = by (content_at tree path) h
  where
    by : (o : Option Content) → no_directory (ok_or o (cond (is_behind_file tree path) NotDir NotFound)) ≡ None → o ≡ Some Dir
    by (Some Dir) n = refl
    by (Some (File bytes)) n = absurd cc
    by None n = absurd cc

nothing_there : (o : Option Content) → is_some o ≡ false → o ≡ None
nothing_there None e = refl
nothing_there (Some c) e = absurd cc

-- what is known of a new entry that nothing refuses
pub record IsAllowed (limits : Limits) (tree : FileTree) (path : List (List ℕ)) (grown : FileTree) : Type 0 where
  pub directory : content_at tree (parent path) ≡ Some Dir
  pub absent : content_at tree path ≡ None
  pub few : entry_count tree (parent path) ≢ 192
  pub nodes : node_count tree ≢ limits.nodes
  pub room : used grown ≤ limits.room

-- tests that fail tell numbers apart
pub differs : (a b : ℕ) → eqb a b ≡ false → a ≢ b
differs a b e same = let t : eqb a b ≡ true = eq-eqb a b same in cc

pub allowed : (limits : Limits) (tree : FileTree) (path : List (List ℕ)) (grown : FileTree) → first_refusal (new_entry_reasons limits tree path grown) ≡ None → IsAllowed limits tree path grown
allowed limits tree path grown h =
    let after_root = none_first (refuse_if (eqb (length path) 0) Exists) _ h in
    let after_parent = none_first (no_directory (resolve tree (parent path))) _ after_root.1 in
    let after_taken = none_first (refuse_if (is_some (content_at tree path)) Exists) _ after_parent.1 in
    let after_full = none_first (refuse_if (eqb (entry_count tree (parent path)) 192) DirFull) _ after_taken.1 in
    let after_nodes = none_first (refuse_if (eqb (node_count tree) limits.nodes) NoNodes) _ after_full.1 in
    let after_room = none_first (refuse_if (ltb limits.room (used grown)) NoSpace) [] after_nodes.1 in
    record {
      directory = directory_there tree (parent path) after_parent.0;
      absent = nothing_there _ (not_refused _ _ after_taken.0);
      few = differs _ _ (not_refused _ _ after_full.0);
      nodes = differs _ _ (not_refused _ _ after_nodes.0);
      room = ltb-false _ _ (not_refused _ _ after_room.0);
    }

-- a new entry that nothing refuses fits
pub fits : (limits : Limits) (tree : FileTree) (path : List (List ℕ)) (content : Content) {T : Type 0} (r : Result T Refusal) → IsWithin limits tree → result_err r ≡ first_refusal (new_entry_reasons limits tree path (insert tree path content)) → OnOk r (Fits limits tree path content)
fits limits tree path content (Err refusal) within is = tt
fits limits tree path content (Ok x) within is =
    let new = allowed limits tree path (insert tree path content) (sym is) in
    record {
      absent = new.absent;
      directory = new.directory;
      nodes = let apart = new.nodes in omega (arith, within.nodes);
      room = new.room;
    }

-- where no reason counts against a file, one stands there
pub file_there : (tree : FileTree) (path : List (List ℕ)) → no_file (resolve tree path) ≡ None → content_at tree path ≡ Some (File (bytes_at tree path))
file_there tree path h = by (content_at tree path) h
  where
    by : (o : Option Content) → no_file (ok_or o (cond (is_behind_file tree path) NotDir NotFound)) ≡ None → o ≡ Some (File (bytes_of o))
    by (Some Dir) n = absurd cc
    by (Some (File bytes)) n = refl
    by None n = absurd cc

-- where no reason counts against a path, something stands there
pub something_there : (tree : FileTree) (path : List (List ℕ)) → nothing (resolve tree path) ≡ None → IsSome (content_at tree path)
something_there tree path h = by (content_at tree path) h
  where
    by : (o : Option Content) → nothing (ok_or o (cond (is_behind_file tree path) NotDir NotFound)) ≡ None → IsSome o
    by (Some c) n = refl
    by None n = absurd cc

-- what is known of a write that nothing refuses
pub record CanWrite (limits : Limits) (tree : FileTree) (path : List (List ℕ)) (at : ℕ) (bytes : List ℕ) : Type 0 where
  pub file : content_at tree path ≡ Some (File (bytes_at tree path))
  pub within : at ≤ length (bytes_at tree path)
  pub size : at + length bytes ≤ longest_file limits.version
  pub room : used (insert tree path (File (overwritten (bytes_at tree path) at bytes))) ≤ limits.room

second_false : (a b : Bool) → (a || b) ≡ false → b ≡ false
second_false true b h = absurd cc
second_false false b h = h

pub can_write : (limits : Limits) (tree : FileTree) (path : List (List ℕ)) (at : ℕ) (bytes : List ℕ) → first_refusal (reasons limits (calls.Write path at bytes) tree) ≡ None → CanWrite limits tree path at bytes
can_write limits tree path at bytes h =
    let grown = insert tree path (File (overwritten (bytes_at tree path) at bytes)) in
    let big = ltb most_bytes (length bytes) || ltb (longest_file limits.version) (at + length bytes) in
    let after_file = none_first (no_file (resolve tree path)) (past_end tree path at ∷ refuse_if big TooBig ∷ refuse_if (ltb limits.room (used grown)) NoSpace ∷ []) h in
    let after_end = none_first (past_end tree path at) (refuse_if big TooBig ∷ refuse_if (ltb limits.room (used grown)) NoSpace ∷ []) after_file.1 in
    let after_big = none_first (refuse_if big TooBig) (refuse_if (ltb limits.room (used grown)) NoSpace ∷ []) after_end.1 in
    let after_room = none_first (refuse_if (ltb limits.room (used grown)) NoSpace) [] after_big.1 in
    record {
      file = file_there tree path after_file.0;
      within = ltb-false (length (bytes_at tree path)) at (not_refused (ltb (length (bytes_at tree path)) at) PastEnd after_end.0);
      size = ltb-false _ _ (second_false (ltb most_bytes (length bytes)) _ (not_refused big TooBig after_big.0));
      room = ltb-false limits.room (used grown) (not_refused (ltb limits.room (used grown)) NoSpace after_room.0);
    }

-- what is known of a truncation that nothing refuses
pub can_truncate : (limits : Limits) (tree : FileTree) (path : List (List ℕ)) (size : ℕ) → first_refusal (reasons limits (calls.Truncate path size) tree) ≡ None → content_at tree path ≡ Some (File (bytes_at tree path))
can_truncate limits tree path size h = file_there tree path (none_first (no_file (resolve tree path)) (past_end tree path size ∷ []) h).0

-- what is known of an entry that can be removed
pub record CanRemove (tree : FileTree) (path : List (List ℕ)) : Type 0 where
  pub there : IsSome (content_at tree path)
  pub below_root : 0 < length path
  pub empty : entry_count tree path ≡ 0

pub can_unlink : (limits : Limits) (tree : FileTree) (path : List (List ℕ)) → IsTree tree → first_refusal (reasons limits (calls.Unlink path) tree) ≡ None → CanRemove tree path
can_unlink limits tree path t h =
    let file = file_there tree path (none_first (no_file (resolve tree path)) [] h).0 in
    record {
      there = subst IsSome (sym file) refl;
      below_root = some path file;
      empty = no_children tree path t (λ e. clash (sym file ∙ e));
    }
  where
    clash : {bytes : List ℕ} → ◌≡◌ {A = Option Content} (Some (File bytes)) (Some Dir) → ⊥
    clash x = cc

    some : (p : List (List ℕ)) → content_at tree p ≡ Some (File (bytes_at tree p)) → 0 < length p
    some [] e = absurd (clash (sym e ∙ t.root))
    some (x ∷ xs) e = omega arith

pub can_rmdir : (limits : Limits) (tree : FileTree) (path : List (List ℕ)) → first_refusal (reasons limits (calls.Rmdir path) tree) ≡ None → CanRemove tree path
can_rmdir limits tree path h =
    let rest = refuse_if (eqb (length path) 0) Inside ∷ refuse_if (ltb 0 (entry_count tree path)) NotEmpty ∷ [] in
    let after_dir = none_first (no_directory (resolve tree path)) rest h in
    let after_root = none_first (refuse_if (eqb (length path) 0) Inside) (refuse_if (ltb 0 (entry_count tree path)) NotEmpty ∷ []) after_dir.1 in
    let after_full = none_first (refuse_if (ltb 0 (entry_count tree path)) NotEmpty) [] after_root.1 in
    let not_root = differs (length path) 0 (not_refused _ Inside after_root.0) in
    record {
      there = subst IsSome (sym (directory_there tree path after_dir.0)) refl;
      below_root = omega arith;
      empty = let none = ltb-false 0 (entry_count tree path) (not_refused _ NotEmpty after_full.0) in omega arith;
    }

-- ---- renames

-- what is known of a path that can get another, of whose reasons those before the room don't count
pub record CanRename (limits : Limits) (tree : FileTree) (from to : List (List ℕ)) : Type 0 where
  pub outside : refuse_if (is_directory (content_at tree from) && begins_with to from) Inside ≡ None
  pub parent_there : cond (eqb (length to) 0) None (no_directory (resolve tree (parent to))) ≡ None
  pub replaces : no_replacing (content_at tree from) (content_at tree to) (entry_count tree to) ≡ None

pub can_move : (limits : Limits) (tree : FileTree) (from to : List (List ℕ)) → IsTree tree → IsSome (content_at tree from) → 0 < length from → from ≢ to → CanRename limits tree from to → CanMove tree from to
can_move limits tree from to t there below other c = record {
  is_tree = t;
  there = there;
  outside = outside;
  not_above = not_false (begins_with from to) (λ h. above h (eq-or-lt_of_le (begins_short from to h)));
  directory = directory;
  empty = empty;
}
  where
    some_dir : {b : List ℕ} → ◌≡◌ {A = Option Content} (Some (File b)) (Some Dir) → ⊥
    some_dir x = cc

    none_dir : ◌≡◌ {A = Option Content} None (Some Dir) → ⊥
    none_dir x = cc

    -- nothing lies below the new path
    by_content : (f o : Option Content) → content_at tree to ≡ o → IsSome f → no_replacing f o (entry_count tree to) ≡ None → entry_count tree to ≡ 0
    by_content f None e s r = no_children tree to t (λ x. none_dir (sym e ∙ x))
    by_content f (Some (File b)) e s r = no_children tree to t (λ x. some_dir (sym e ∙ x))
    by_content (Some (File a)) (Some Dir) e s r = absurd cc
    by_content (Some Dir) (Some Dir) e s r = let zero_entries = ltb-false 0 (entry_count tree to) (not_refused _ NotEmpty r) in omega arith
    by_content None (Some Dir) e s r = absurd cc

    empty : entry_count tree to ≡ 0
    empty = by_content (content_at tree from) (content_at tree to) refl there c.replaces

    not_root : to ≢ []
    not_root e = nothing_below tree to from 0 t empty there below (sym e)

    directory : content_at tree (parent to) ≡ Some Dir
    directory = by to (λ e. not_root e) c.parent_there
      where
        by : (q : List (List ℕ)) → q ≢ [] → cond (eqb (length q) 0) None (no_directory (resolve tree (parent q))) ≡ None → content_at tree (parent q) ≡ Some Dir
        by [] some h = absurd (some refl)
        by (x ∷ q) some h =
            let longer : eqb (length (x ∷ q)) 0 ≡ false = not_false _ (λ e. let zero_length = eqb-true (length (x ∷ q)) 0 e in omega arith) in
            directory_there tree (parent (x ∷ q)) (subst (λ b. cond b None (no_directory (resolve tree (parent (x ∷ q)))) ≡ None) longer h)

    -- a directory stands at each proper front of the new path
    front_is_dir : (n : ℕ) → n < length to → content_at tree (take n to) ≡ Some Dir
    front_is_dir n lt = cases (eq-or-lt_of_le (omega arith))
      where
        cases : (n ≡ length to - 1) ⊎ (n < length to - 1) → content_at tree (take n to) ≡ Some Dir
        cases (inl e) = ap (λ k. content_at tree (take k to)) e ∙ directory
        cases (inr less) =
            let short : length (parent to) ≡ length to - 1 = omega (arith, length-take (length to - 1) to) in
            ap (content_at tree) (sym (take-take n (length to - 1) to (omega arith))) ∙ t.prefixes (parent to) n (subst IsSome (sym directory) refl) (omega arith)

    outside : begins_with to from ≡ false
    outside = not_false (begins_with to from) (λ h. inside h (eq-or-lt_of_le (begins_short to from h)))
      where
        front : begins_with to from ≡ true → take (length from) to ≡ from
        front h = sym ((paths_same from (take (length from) to)).0 h)

        refused : (o : Option Content) (b : Bool) → o ≡ Some Dir → b ≡ true → refuse_if (is_directory o && b) Inside ≡ None → ⊥
        refused (Some Dir) true e s r = cc
        refused (Some Dir) false e s r = cc
        refused (Some (File x)) b e s r = cc
        refused None b e s r = cc

        inside : begins_with to from ≡ true → (length from ≡ length to) ⊎ (length from < length to) → ⊥
        inside h (inl e) = other (sym (front h) ∙ take_all (length from) to (omega arith))
        inside h (inr lt) = refused (content_at tree from) (begins_with to from) (ap (content_at tree) (sym (front h)) ∙ front_is_dir (length from) lt) h c.outside

    above : begins_with from to ≡ true → (length to ≡ length from) ⊎ (length to < length from) → ⊥
    above h (inl e) = other (sym (take_all (length to) from (omega arith)) ∙ sym ((paths_same to (take (length to) from)).0 h))
    above h (inr lt) = nothing_below tree to from (length to) t empty there lt (sym ((paths_same to (take (length to) from)).0 h))

-- what is known of a rename that nothing refuses
pub can_rename : (limits : Limits) (tree : FileTree) (from to : List (List ℕ)) → same_path from to ≡ false → first_refusal (reasons limits (calls.Rename from to) tree) ≡ None
    → (IsTree tree → CanMove tree from to) × (used (renamed tree from to) ≤ limits.room)
can_rename limits tree from to other h =
    let moves = move_reasons limits tree from to in
    let chosen : first_refusal (nothing (resolve tree from) ∷ refuse_if (eqb (length from) 0) Inside ∷ moves) ≡ None = subst (λ b. first_refusal (nothing (resolve tree from) ∷ refuse_if (eqb (length from) 0) Inside ∷ cond b [] moves) ≡ None) other h in
    let full = refuse_if (adds_entry tree from to && eqb (entry_count tree (parent to)) 192) DirFull in
    let large = refuse_if (ltb limits.room (used (renamed tree from to))) NoSpace in
    let inside = refuse_if (is_directory (content_at tree from) && begins_with to from) Inside in
    let up = cond (eqb (length to) 0) None (no_directory (resolve tree (parent to))) in
    let over = no_replacing (content_at tree from) (content_at tree to) (entry_count tree to) in
    let after_there = none_first (nothing (resolve tree from)) (refuse_if (eqb (length from) 0) Inside ∷ moves) chosen in
    let after_root = none_first (refuse_if (eqb (length from) 0) Inside) moves after_there.1 in
    let after_inside = none_first inside (up ∷ over ∷ full ∷ large ∷ []) after_root.1 in
    let after_up = none_first up (over ∷ full ∷ large ∷ []) after_inside.1 in
    let after_over = none_first over (full ∷ large ∷ []) after_up.1 in
    let after_full = none_first full (large ∷ []) after_over.1 in
    let after_large = none_first large [] after_full.1 in
    let not_root = differs (length from) 0 (not_refused _ Inside after_root.0) in (
      λ t. can_move limits tree from to t (something_there tree from after_there.0) (omega arith) (λ e. no_both (same_path from to) ((paths_same from to).1 e) other) (record { outside = after_inside.0; parent_there = after_up.0; replaces = after_over.0 }),
      ltb-false limits.room (used (renamed tree from to)) (not_refused _ NoSpace after_large.0),
    )
