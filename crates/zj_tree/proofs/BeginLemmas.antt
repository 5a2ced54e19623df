-- Paths that begin with others, and where they are once these have moved.
use Rattle.std.proofs.Common.{◌≡◌, ◌≢◌, ℕ, ◌+◌, ◌-◌, ◌<◌, ◌≤◌, Bool, true, false, cond, [], ◌∷◌, ◌++◌, length, take, drop, refl, sym, ap, ◌∙◌, subst, arith, append_assoc}
use Rattle.std.specs.Ordering.{is_eq, eq_by_cmp}
use Rattle.std.proofs.lemmas.Cmp.{tied_itself}
use Rattle.std.proofs.lemmas.List.{take-append-drop, length-append, append_cancel_left, append-nil}
use Rattle.std.proofs.Math.Seq.{drop-append_seam, take-append_seam, take-append-add}
use Rattle.zj_tree.specs.Path.{parent, begins_with}
use Rattle.zj_tree.specs.Tree.{path_cmp, is_in}
use Rattle.zj_tree.specs.Changed.{moved}
use Rattle.zj_tree.proofs.OrderLemmas.{paths_total}
use Rattle.zj_tree.proofs.EntryLemmas.{Path', tie, paths_same, in_parent, in_one}

-- ---- what begins with a path

pub begins_itself : (f x : Path') → begins_with (f ++ x) f ≡ true
begins_itself f x = (paths_same f (take (length f) (f ++ x))).1 (sym (take-append_seam f x))

pub begins_split : (p f : Path') → begins_with p f ≡ true → p ≡ f ++ drop (length f) p
begins_split p f h = sym (take-append-drop (length f) p) ∙ ap (λ x. x ++ drop (length f) p) (sym ((paths_same f (take (length f) p)).0 h))

pub begins_short : (p f : Path') → begins_with p f ≡ true → length f ≤ length p
begins_short p f h = omega (arith, ap length (begins_split p f h), length-append f (drop (length f) p))

-- what begins with a longer path begins with a shorter one
pub begins_longer : (p q f : Path') → begins_with p q ≡ true → begins_with q f ≡ true → begins_with p f ≡ true
begins_longer p q f a b =
    let is : p ≡ f ++ (drop (length f) q ++ drop (length q) p) = begins_split p q a ∙ ap (λ x. x ++ drop (length q) p) (begins_split q f b) ∙ append_assoc f (drop (length f) q) (drop (length q) p) in
    subst (λ x. begins_with x f ≡ true) (sym is) (begins_itself f (drop (length f) q ++ drop (length q) p))

pub begins_take : (p : Path') (n : ℕ) → begins_with p (take n p) ≡ true
begins_take p n = subst (λ x. begins_with x (take n p) ≡ true) (take-append-drop n p) (begins_itself (take n p) (drop n p))

-- a front of a path that begins with another
pub take_begins : (p f : Path') (n : ℕ) → begins_with (take n p) f ≡ true → begins_with p f ≡ true
take_begins p f n h = begins_longer p (take n p) f (begins_take p n) h

pub not_false : (b : Bool) → (b ≡ true → ⊥) → b ≡ false
not_false true h = absurd (h refl)
not_false false h = refl

pub no_both : (b : Bool) → b ≡ true → b ≡ false → ⊥
no_both b s t = clash (sym s ∙ t)
  where
    clash : true ≡ false → ⊥
    clash x = cc

-- the parent of a path that goes on behind another
pub parent_of_join : (f x : Path') → 0 < length x → parent (f ++ x) ≡ f ++ parent x
parent_of_join f x some =
    let n : length (f ++ x) - 1 ≡ length f + (length x - 1) = omega (arith, length-append f x) in
    ap (λ k. take k (f ++ x)) n ∙ take-append-add f x (length x - 1)

-- ---- tests of equal paths

pub tests_alike : (p q p' q' : Path') → (p ≡ q → p' ≡ q') → (p' ≡ q' → p ≡ q) → eq_by_cmp path_cmp p q ≡ eq_by_cmp path_cmp p' q'
tests_alike p q p' q' go back = by (eq_by_cmp path_cmp p q) (eq_by_cmp path_cmp p' q') refl refl
  where
    same : (a b : Path') → a ≡ b → eq_by_cmp path_cmp a b ≡ true
    same a b e = ap (λ r. is_eq r) (ap (path_cmp a) (sym e) ∙ tied_itself paths_total a)

    by : (a b : Bool) → eq_by_cmp path_cmp p q ≡ a → eq_by_cmp path_cmp p' q' ≡ b → eq_by_cmp path_cmp p q ≡ eq_by_cmp path_cmp p' q'
    by true b s t = s ∙ sym (same p' q' (go (tie p q s)))
    by false true s t = absurd (no_both (eq_by_cmp path_cmp p q) (same p q (back (tie p' q' t))) s)
    by false false s t = s ∙ sym t

pub no_test : (p q : Path') → p ≢ q → eq_by_cmp path_cmp p q ≡ false
no_test p q other = not_false (eq_by_cmp path_cmp p q) (λ t. other (tie p q t))

-- ---- where paths are once `from` is called `to`

module _ (from to : Path') where
  pub moved_yes : (p : Path') → begins_with p from ≡ true → moved from to p ≡ to ++ drop (length from) p
  moved_yes p h = ap (λ b. cond b (to ++ drop (length from) p) p) h

  pub moved_no : (p : Path') → begins_with p from ≡ false → moved from to p ≡ p
  moved_no p h = ap (λ b. cond b (to ++ drop (length from) p) p) h

  pub moved_join : (x : Path') → moved from to (from ++ x) ≡ to ++ x
  moved_join x = moved_yes (from ++ x) (begins_itself from x) ∙ ap (λ y. to ++ y) (drop-append_seam from x)

  pub moved_itself : moved from to from ≡ to
  moved_itself = ap (moved from to) (sym (append-nil from)) ∙ moved_join [] ∙ append-nil to

  -- of paths that don't begin with `to`, no two get the same
  pub moved_once : (p q : Path') → begins_with p to ≡ false → begins_with q to ≡ false → moved from to p ≡ moved from to q → p ≡ q
  moved_once p q no_p no_q e = by (begins_with p from) (begins_with q from) refl refl
    where
      by : (a b : Bool) → begins_with p from ≡ a → begins_with q from ≡ b → p ≡ q
      by true true s t =
          let rest = append_cancel_left to (drop (length from) p) (drop (length from) q) (sym (moved_yes p s) ∙ e ∙ moved_yes q t) in
          begins_split p from s ∙ ap (λ x. from ++ x) rest ∙ sym (begins_split q from t)
      by true false s t = absurd (no_both (begins_with q to) (subst (λ x. begins_with x to ≡ true) (sym (moved_yes p s) ∙ e ∙ moved_no q t) (begins_itself to (drop (length from) p))) no_q)
      by false true s t = absurd (no_both (begins_with p to) (subst (λ x. begins_with x to ≡ true) (sym (moved_yes q t) ∙ sym e ∙ moved_no p s) (begins_itself to (drop (length from) q))) no_p)
      by false false s t = sym (moved_no p s) ∙ e ∙ moved_no q t

  -- a path below `to` is one below `from` that moved
  pub below_moved : (x k : Path') → begins_with k to ≡ false → eq_by_cmp path_cmp (to ++ x) (moved from to k) ≡ eq_by_cmp path_cmp (from ++ x) k
  below_moved x k apart = tests_alike (to ++ x) (moved from to k) (from ++ x) k go (λ e. sym (moved_join x) ∙ ap (moved from to) e)
    where
      go : to ++ x ≡ moved from to k → from ++ x ≡ k
      go e = by (begins_with k from) refl
        where
          by : (b : Bool) → begins_with k from ≡ b → from ++ x ≡ k
          by true t = ap (λ y. from ++ y) (append_cancel_left to x (drop (length from) k) (e ∙ moved_yes k t)) ∙ sym (begins_split k from t)
          by false t = absurd (no_both (begins_with k to) (subst (λ y. begins_with y to ≡ true) (e ∙ moved_no k t) (begins_itself to x)) apart)

  -- others stay
  pub other_stays : (q k : Path') → begins_with q to ≡ false → begins_with q from ≡ false → eq_by_cmp path_cmp q (moved from to k) ≡ eq_by_cmp path_cmp q k
  other_stays q k no_to no_from = by (begins_with k from) refl
    where
      by : (b : Bool) → begins_with k from ≡ b → eq_by_cmp path_cmp q (moved from to k) ≡ eq_by_cmp path_cmp q k
      by true t =
          no_test q (moved from to k) (λ e. no_both (begins_with q to) (subst (λ y. begins_with y to ≡ true) (sym (e ∙ moved_yes k t)) (begins_itself to (drop (length from) k))) no_to)
          ∙ sym (no_test q k (λ e. no_both (begins_with q from) (subst (λ y. begins_with y from ≡ true) (sym e) t) no_from))
      by false t = ap (eq_by_cmp path_cmp q) (moved_no k t)

  -- and nothing is where paths were that moved
  pub none_left : (q k : Path') → begins_with q to ≡ false → begins_with q from ≡ true → eq_by_cmp path_cmp q (moved from to k) ≡ false
  none_left q k no_to begins = by (begins_with k from) refl
    where
      by : (b : Bool) → begins_with k from ≡ b → eq_by_cmp path_cmp q (moved from to k) ≡ false
      by true t = no_test q (moved from to k) (λ e. no_both (begins_with q to) (subst (λ y. begins_with y to ≡ true) (sym (e ∙ moved_yes k t)) (begins_itself to (drop (length from) k))) no_to)
      by false t = no_test q (moved from to k) (λ e. no_both (begins_with k from) (subst (λ y. begins_with y from ≡ true) (e ∙ moved_no k t) begins) t)

  -- ---- what lies in what

  -- the directory of a path that moved is where its directory moved, but for `from` itself
  pub parent_moved : (p : Path') → 0 < length p → p ≢ from → parent (moved from to p) ≡ moved from to (parent p)
  parent_moved p some other = by (begins_with p from) refl
    where
      by : (b : Bool) → begins_with p from ≡ b → parent (moved from to p) ≡ moved from to (parent p)
      by true t =
          let x = drop (length from) p in
          let is = begins_split p from t in
          let more : 0 < length x = longer x (λ e. other (is ∙ ap (λ y. from ++ y) e ∙ append-nil from)) in
          ap parent (moved_yes p t) ∙ parent_of_join to x more ∙ sym (moved_join (parent x)) ∙ ap (moved from to) (sym (ap parent is ∙ parent_of_join from x more))
        where
          longer : (y : Path') → (y ≡ [] → ⊥) → 0 < length y
          longer [] full = absurd (full refl)
          longer (z ∷ zs) full = omega arith
      by false t = ap parent (moved_no p t) ∙ sym (moved_no (parent p) (not_false (begins_with (parent p) from) (λ s. no_both (begins_with p from) (take_begins p from (length p - 1) s) t)))

  pub length_moved : (p : Path') → 0 < length from → 0 < length to → (0 < length p → 0 < length (moved from to p)) × (0 < length (moved from to p) → 0 < length p)
  length_moved p some_from some_to = by (begins_with p from) refl
    where
      by : (b : Bool) → begins_with p from ≡ b → (0 < length p → 0 < length (moved from to p)) × (0 < length (moved from to p) → 0 < length p)
      by true t = (λ h. subst (λ y. 0 < length y) (sym (moved_yes p t)) (omega (arith, length-append to (drop (length from) p))), λ h. omega (arith, begins_short p from t))
      by false t = (subst (λ y. 0 < length y) (sym (moved_no p t)), subst (λ y. 0 < length y) (moved_no p t))

  -- a path that moved lies in a directory that moved as before, but for `from` itself
  pub in_moved : (dir p : Path') → 0 < length from → 0 < length to → begins_with dir to ≡ false → begins_with p to ≡ false → p ≢ from → is_in (moved from to dir) (moved from to p) ≡ is_in dir p
  in_moved dir p some_from some_to no_dir no_p other = by (is_in (moved from to dir) (moved from to p)) (is_in dir p) refl refl
    where
      long : (0 < length p → 0 < length (moved from to p)) × (0 < length (moved from to p) → 0 < length p)
      long = length_moved p some_from some_to

      no_parent : begins_with (parent p) to ≡ false
      no_parent = not_false (begins_with (parent p) to) (λ s. no_both (begins_with p to) (take_begins p to (length p - 1) s) no_p)

      by : (a b : Bool) → is_in (moved from to dir) (moved from to p) ≡ a → is_in dir p ≡ b → is_in (moved from to dir) (moved from to p) ≡ is_in dir p
      by true true s t = s ∙ sym t
      by false false s t = s ∙ sym t
      by true false s t =
          let lies = in_one (moved from to dir) (moved from to p) s in
          let some = long.1 lies.0 in
          let up : parent p ≡ dir = moved_once (parent p) dir no_parent no_dir (sym (parent_moved p some other) ∙ lies.1) in
          absurd (no_both (is_in dir p) (subst (λ d. is_in d p ≡ true) up (in_parent p some)) t)
      by false true s t =
          let lies = in_one dir p t in
          let up : parent (moved from to p) ≡ moved from to dir = parent_moved p lies.0 other ∙ ap (moved from to) lies.1 in
          absurd (no_both (is_in (moved from to dir) (moved from to p)) (subst (λ d. is_in d (moved from to p) ≡ true) up (in_parent (moved from to p) (long.0 lies.0))) s)
