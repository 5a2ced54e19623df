-- The tree after a rename: every path that began with the one begins with the other.
use Rattle.std.proofs.Common.{◌≡◌, ◌≢◌, ◌⊎◌, inl, inr, ℕ, zero, suc, Bool, true, false, cond, List, [], ◌∷◌, ◌++◌, length, map, drop, Some, None, refl, sym, ap, ◌∙◌, subst, slice_get}
use Rattle.std.specs.Ordering.{eq_by_cmp, is_eq}
use Rattle.std.specs.FinMap.{find, entries, get-entries, get-from_entries, get-remove}
use Rattle.std.specs.FinMap as map_of
use Rattle.std.proofs.lemmas.Cmp.{tied_itself}
use Rattle.std.proofs.lemmas.List.{append_cancel_left}
use Rattle.std.proofs.Math.Seq.{drop-append_seam}
use Rattle.std.proofs.lemmas.Slice.Eq.{bytes_eq-Decides, starts_is}
use Rattle.zj_tree.specs.declared.content.Content.{Content}
use Rattle.zj_tree.specs.Path.{begins_with}
use Rattle.zj_tree.specs.Tree.{FileTree, content_at, path_cmp}
use Rattle.zj_tree.specs.Changed.{moved, renamed}
use Rattle.zj_changes.specs.Moved.{Begins, IsMoved}
use Rattle.zj_layout.proofs.Follow.{Path', some_is, none_some}
use Rattle.zj_layout.proofs.Live.{paths_total, tie, no_tie}
use Rattle.zj_changes.proofs.Begins.{begins, begins_itself, nil_right}
use Rattle.zj_layout.proofs.Changed.{not_true}

abbrev Entry' : Type 0
Entry' = Path' × Content

itself : (q : Path') → eq_by_cmp path_cmp q q ≡ true
itself q = ap is_eq (tied_itself paths_total q)

same : (p q : Path') → p ≡ q → eq_by_cmp path_cmp p q ≡ true
same p q e = subst (λ x. eq_by_cmp path_cmp p x ≡ true) e (itself p)

other : (p q : Path') → p ≢ q → eq_by_cmp path_cmp p q ≡ false
other p q ne = not_true _ (λ h. ne (tie p q h))

-- an entry of a tree is found
member : (es : List Entry') (k : ℕ) (e : Entry') → slice_get es k ≡ Some e → find path_cmp e.0 es ≢ None
member [] k e h none = none_some h
member (x ∷ es) zero e h none =
    let at : x ≡ e = some_is h in
    let yes : eq_by_cmp path_cmp e.0 x.0 ≡ true = same e.0 x.0 (ap (λ (y : Entry'). y.0) (sym at)) in
    none_some (sym none ∙ ap (λ b. cond b (Some x.1) (find path_cmp e.0 es)) yes)
member (x ∷ es) (suc k) e h none = by (member es k e h) (eq_by_cmp path_cmp e.0 x.0) none
  where
    by : find path_cmp e.0 es ≢ None → (b : Bool) → cond b (Some x.1) (find path_cmp e.0 es) ≡ None → ⊥
    by rest true n = none_some (sym n)
    by rest false n = rest n

-- ---- entries under another path

module _ (ren : Path' → Path') where
  abbrev kept : List Entry' → List Entry'
  kept es = map (λ (e : Entry'). (ren e.0, e.1)) es

  -- the one entry that has the path now had the other before
  found_kept : (x y : Path') (es : List Entry') → ((k : ℕ) (e : Entry') → slice_get es k ≡ Some e → (ren e.0 ≡ x → e.0 ≡ y) × (e.0 ≡ y → ren e.0 ≡ x)) → find path_cmp x (kept es) ≡ find path_cmp y es
  found_kept x y [] h = refl
  found_kept x y (e ∷ es) h = by (found_kept x y es (λ k f at. h (suc k) f at)) (h 0 e refl) (eq_by_cmp path_cmp y e.0) refl
    where
      by : find path_cmp x (kept es) ≡ find path_cmp y es → (ren e.0 ≡ x → e.0 ≡ y) × (e.0 ≡ y → ren e.0 ≡ x) → (c : Bool) → eq_by_cmp path_cmp y e.0 ≡ c
          → find path_cmp x (kept (e ∷ es)) ≡ cond c (Some e.1) (find path_cmp y es)
      by rest here true ec = ap (λ t. cond t (Some e.1) (find path_cmp x (kept es))) (same x (ren e.0) (sym (here.1 (sym (tie y e.0 ec)))))
      by rest here false ec = ap (λ t. cond t (Some e.1) (find path_cmp x (kept es))) (other x (ren e.0) (λ t. no_tie y e.0 ec (sym (here.0 (sym t))))) ∙ rest

  -- no entry has the path now
  none_kept : (x : Path') (es : List Entry') → ((k : ℕ) (e : Entry') → slice_get es k ≡ Some e → ren e.0 ≢ x) → find path_cmp x (kept es) ≡ None
  none_kept x [] h = refl
  none_kept x (e ∷ es) h =
      ap (λ t. cond t (Some e.1) (find path_cmp x (kept es))) (other x (ren e.0) (λ t. h 0 e refl (sym t))) ∙ none_kept x es (λ k f at. h (suc k) f at)

-- ---- the test of a rename

pub begins_true : (x from : Path') → Begins x from → begins_with x from ≡ true
begins_true x from h = (starts_is bytes_eq-Decides x from (begins_with x from) refl).1 h.0 h.1

pub begins_false : (x from : Path') → (Begins x from → ⊥) → begins_with x from ≡ false
begins_false x from away = not_true _ (λ h. away (drop (length from) x, (starts_is bytes_eq-Decides x from (begins_with x from) refl).0 h))

moved_in : (from to rest : Path') → moved from to (from ++ rest) ≡ to ++ rest
moved_in from to rest =
    ap (λ b. cond b (to ++ drop (length from) (from ++ rest)) (from ++ rest)) (begins_true (from ++ rest) from (rest, refl)) ∙ ap (λ y. to ++ y) (drop-append_seam from rest)

moved_out : (from to x : Path') → (Begins x from → ⊥) → moved from to x ≡ x
moved_out from to x away = ap (λ b. cond b (to ++ drop (length from) x) x) (begins_false x from away)

module _ (t : FileTree) (from to : Path') (not_inside : Begins to from → ⊥) (below : (rest : Path') → rest ≢ [] → content_at t (to ++ rest) ≡ None) where
  abbrev left : FileTree
  left = map_of.remove t to

  at_left : (x : Path') → x ≢ to → content_at left x ≡ content_at t x
  at_left x ne = get-remove paths_total t to x ∙ ap (λ b. cond b None (content_at t x)) (other x to ne)

  at_to : content_at left to ≡ None
  at_to = get-remove paths_total t to to ∙ ap (λ b. cond b None (content_at t to)) (itself to)

  -- no entry that is left begins with the new path
  none_below : (k : ℕ) (e : Entry') → slice_get (entries left) k ≡ Some e → Begins e.0 to → ⊥
  none_below k e at h = by h.0 refl
    where
      gone : (x : Path') → e.0 ≡ x → content_at left x ≡ None → ⊥
      gone x is none = member (entries left) k e at (sym (get-entries left e.0) ∙ ap (content_at left) is ∙ none)

      by : (r : Path') → h.0 ≡ r → ⊥
      by [] z = gone to (h.1 ∙ ap (λ y. to ++ y) z ∙ nil_right to) at_to
      by (a ∷ r) z = gone (to ++ a ∷ r) (h.1 ∙ ap (λ y. to ++ y) z) (at_left (to ++ a ∷ r) (λ e. longer e) ∙ below (a ∷ r) (λ q. cc))
        where
          longer : to ++ a ∷ r ≡ to → ⊥
          longer e = nothing (append_cancel_left to (a ∷ r) [] (e ∙ sym (nil_right to)))
            where
              nothing : (a ∷ r) ≡ [] → ⊥
              nothing e = cc

  at_moved : (x : Path') → content_at (renamed t from to) x ≡ find path_cmp x (kept (moved from to) (entries left))
  at_moved x = get-from_entries paths_total (kept (moved from to) (entries left)) x

  pub is_moved : IsMoved t (renamed t from to) from to
  is_moved = record {
    there = λ rest.
        at_moved (to ++ rest) ∙ found_kept (moved from to) (to ++ rest) (from ++ rest) (entries left) (λ k e at. (there rest k e at, λ is. ap (moved from to) is ∙ moved_in from to rest)) ∙ sym (get-entries left (from ++ rest))
        ∙ at_left (from ++ rest) (λ e. not_inside (rest, sym e));
    gone = λ rest away. at_moved (from ++ rest) ∙ none_kept (moved from to) (from ++ rest) (entries left) (λ k e at is. gone rest away e is (begins e.0 from));
    others = λ x not_from not_to.
        at_moved x ∙ found_kept (moved from to) x x (entries left) (λ k e at. (other_one x not_to e, λ is. ap (moved from to) is ∙ moved_out from to x not_from)) ∙ sym (get-entries left x)
        ∙ at_left x (λ e. not_to (begins_itself x to e));
  }
    where
      there : (rest : Path') (k : ℕ) (e : Entry') → slice_get (entries left) k ≡ Some e → moved from to e.0 ≡ to ++ rest → e.0 ≡ from ++ rest
      there rest k e at is = by (begins e.0 from)
        where
          by : Begins e.0 from ⊎ (Begins e.0 from → ⊥) → e.0 ≡ from ++ rest
          by (inl h) = h.1 ∙ ap (λ y. from ++ y) (append_cancel_left to h.0 rest (sym (moved_in from to h.0) ∙ ap (moved from to) (sym h.1) ∙ is))
          by (inr away) = absurd (none_below k e at (rest, sym (moved_out from to e.0 away) ∙ is))

      gone : (rest : Path') → (Begins (from ++ rest) to → ⊥) → (e : Entry') → moved from to e.0 ≡ from ++ rest → Begins e.0 from ⊎ (Begins e.0 from → ⊥) → ⊥
      gone rest away e is (inl h) = away (h.0, sym is ∙ ap (moved from to) h.1 ∙ moved_in from to h.0)
      gone rest away e is (inr out) = out (rest, sym (moved_out from to e.0 out) ∙ is)

      other_one : (x : Path') → (Begins x to → ⊥) → (e : Entry') → moved from to e.0 ≡ x → e.0 ≡ x
      other_one x not_to e is = by (begins e.0 from)
        where
          by : Begins e.0 from ⊎ (Begins e.0 from → ⊥) → e.0 ≡ x
          by (inl h) = absurd (not_to (h.0, sym is ∙ ap (moved from to) h.1 ∙ moved_in from to h.0))
          by (inr out) = sym (moved_out from to e.0 out) ∙ is
