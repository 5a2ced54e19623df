-- Where paths lead once an entry has moved: those that began with the new path lead where the old one led, and so on.
use Rattle.std.proofs.Common.{◌≡◌, ◌≢◌, ◌⊎◌, inl, inr, ℕ, [], ◌∷◌, ◌++◌, length, Option, Some, None, IsSome, refl, sym, ap, ◌∙◌, subst, arith, append_assoc}
use Rattle.std.specs.Option.{option_and_then}
use Rattle.std.proofs.lemmas.List.{length-append}
use Rattle.zj_tree.specs.declared.content.Content.{Content}
use Rattle.zj_tree.specs.Tree.{FileTree, content_at}
use Rattle.zj_layout.specs.Graph.{Graph, content_of, step, follow, shown_at, Describes, IsLive, IsRooted}
use Rattle.zj_changes.specs.Moved.{Begins, MovesEntry, IsMoved}
use Rattle.zj_layout.proofs.Follow.{Path', Name', some_is, none_some, follow_join, follow_more, one_path}
use Rattle.zj_changes.proofs.Begins.{begins, begins_itself, nil_right, same_step, past_leaf, past_none, same_walk}
use Rattle.zj_tree.specs.Changed.{renamed}
use Rattle.zj_changes.proofs.Dropped.{dead}
use Rattle.zj_changes.proofs.Renamed.{is_moved}

module _ (n : ℕ) (g g' : Graph) (r : IsRooted n g) (pp : Path') (a : Name') (dp : ℕ) (qq : Path') (b : Name') (dq : ℕ) (i : ℕ)
    (to_dp : follow g 0 pp ≡ Some dp) (to_dq : follow g 0 qq ≡ Some dq) (m : MovesEntry g g' dp a dq b i)
    (not_inside : Begins (qq ++ b ∷ []) (pp ++ a ∷ []) → ⊥) where
  abbrev p : Path'
  p = pp ++ a ∷ []

  abbrev q : Path'
  q = qq ++ b ∷ []

  to_i : follow g 0 p ≡ Some i
  to_i = follow_more g 0 pp a ∙ ap (option_and_then (λ d. step g d a)) to_dp ∙ m.was

  -- a walk that comes by neither entry
  pub outside : (x : Path') → (Begins x p → ⊥) → (Begins x q → ⊥) → follow g' 0 x ≡ follow g 0 x
  outside x no_p no_q = same_walk g g' 0 (length x) x (omega arith) (λ x' c rest d e w. m.others d c
      (λ same name. no_p (rest, e ∙ ap (λ y. y ++ rest) (λ t. one_path n g r x' pp dp (w ∙ ap (λ (k : ℕ). Some k) same) to_dp t ++ name t ∷ [])))
      (λ same name. no_q (rest, e ∙ ap (λ y. y ++ rest) (λ t. one_path n g r x' qq dq (w ∙ ap (λ (k : ℕ). Some k) same) to_dq t ++ name t ∷ []))))

  -- a walk from the node that moved
  pub inside : (x : Path') → follow g' i x ≡ follow g i x
  inside x = same_walk g g' i (length x) x (omega arith) (λ x' c rest d e w.
      let there : follow g 0 (p ++ x') ≡ Some d = follow_join g 0 p x' ∙ ap (option_and_then (λ j. follow g j x')) to_i ∙ w in
      m.others d c
      (λ same name. omega (arith, ap length (one_path n g r (p ++ x') pp dp (there ∙ ap (λ (k : ℕ). Some k) same) to_dp), length-append p x', length-append pp (a ∷ [])))
      (λ same name. not_inside (x' ++ c ∷ [], ap (λ y. y ++ b ∷ []) (sym (one_path n g r (p ++ x') qq dq (there ∙ ap (λ (k : ℕ). Some k) same) to_dq)) ∙ append_assoc p x' (b ∷ []) ∙ ap (λ k. p ++ (x' ++ k ∷ [])) (sym name))))

  dq_stays : follow g' 0 qq ≡ Some dq
  dq_stays = outside qq
      (λ e. not_inside (e.0 ++ b ∷ [], ap (λ y. y ++ b ∷ []) e.1 ∙ append_assoc p e.0 (b ∷ [])))
      (λ e. omega (arith, ap length e.1, length-append q e.0, length-append qq (b ∷ [])))
      ∙ to_dq

  -- a path that begins with the new one leads where the same path below the old one led
  pub new_path : (x : Path') → follow g' 0 (q ++ x) ≡ follow g 0 (p ++ x)
  new_path x =
      follow_join g' 0 q x ∙ ap (option_and_then (λ j. follow g' j x)) (follow_more g' 0 qq b ∙ ap (option_and_then (λ d. step g' d b)) dq_stays ∙ m.now)
      ∙ inside x ∙ sym (follow_join g 0 p x ∙ ap (option_and_then (λ j. follow g j x)) to_i)

  -- a path that begins with the old one leads nowhere, unless it begins with the new one
  pub old_path : (x : Path') → (Begins p q → ⊥) → follow g' 0 (p ++ x) ≡ None
  old_path x apart =
      follow_join g' 0 p x ∙ ap (option_and_then (λ j. follow g' j x)) (follow_more g' 0 pp a ∙ ap (option_and_then (λ d. step g' d a)) dp_stays ∙ m.gone)
    where
      dp_stays : follow g' 0 pp ≡ Some dp
      dp_stays = outside pp
          (λ e. omega (arith, ap length e.1, length-append p e.0, length-append pp (a ∷ [])))
          (λ e. apart (e.0 ++ a ∷ [], ap (λ y. y ++ a ∷ []) e.1 ∙ append_assoc q e.0 (a ∷ [])))
          ∙ to_dp

  -- ---- where the paths of both graphs lead

  to_dir_is : follow g 0 q ≡ step g dq b
  to_dir_is = follow_more g 0 qq b ∙ ap (option_and_then (λ d. step g d b)) to_dq

  not_same : p ≢ q
  not_same e = not_inside (begins_itself q p (sym e))

  -- the new path is no longer than the way to the old one
  not_above : Begins p q → ⊥
  not_above h = by (step g dq b) refl
    where
      by : (o : Option ℕ) → step g dq b ≡ o → ⊥
      by None e = none_some (sym (past_none g q h.0 (to_dir_is ∙ e)) ∙ ap (follow g 0) (sym h.1) ∙ to_i)
      by (Some j) e = cases (past_leaf g q h.0 j (to_dir_is ∙ e) (m.replaced j e).0)
        where
          cases : (h.0 ≡ []) ⊎ (follow g 0 (q ++ h.0) ≡ None) → ⊥
          cases (inl z) = not_same (h.1 ∙ ap (λ y. q ++ y) z ∙ nil_right q)
          cases (inr z) = none_some (sym z ∙ ap (follow g 0) (sym h.1) ∙ to_i)

  -- a node to which an old path leads that doesn't begin with the new one isn't replaced
  not_replaced : (x : Path') (k : ℕ) → (Begins x q → ⊥) → follow g 0 x ≡ Some k → step g dq b ≢ Some k
  not_replaced x k away h e = away (begins_itself x q (one_path n g r x q k h (to_dir_is ∙ e)))

  below_apart : (x : Path') → Begins (p ++ x) q → ⊥
  below_apart x h = by (step g dq b) refl (begins p q)
    where
      by : (o : Option ℕ) → step g dq b ≡ o → Begins p q ⊎ (Begins p q → ⊥) → ⊥
      by o e (inl k) = not_above k
      by o e (inr k) = not_inside (shorter p x q h k)
        where
          -- of two paths that begin one path, one begins with the other
          shorter : (p x q : Path') → Begins (p ++ x) q → (Begins p q → ⊥) → Begins q p
          shorter [] x q h k = (q, refl)
          shorter (a ∷ p) x [] h k = absurd (k (a ∷ p, refl))
          shorter (a ∷ p) x (c ∷ q) h k =
              let same : a ≡ c = cc in
              let rest : p ++ x ≡ q ++ h.0 = cc in
              let s = shorter p x q (h.0, rest) (λ t. k (t.0, λ i. same i ∷ t.1 i)) in
              (s.0, λ i. sym same i ∷ s.1 i)

  -- a path that began with the new one led at most to the node that is replaced
  at_new : (x : Path') (k : ℕ) → Begins x q → follow g 0 x ≡ Some k → step g dq b ≡ Some k
  at_new x k h w = by (step g dq b) refl
    where
      by : (o : Option ℕ) → step g dq b ≡ o → step g dq b ≡ Some k
      by None e = absurd (none_some (sym (past_none g q h.0 (to_dir_is ∙ e)) ∙ ap (follow g 0) (sym h.1) ∙ w))
      by (Some j) e = cases (past_leaf g q h.0 j (to_dir_is ∙ e) (m.replaced j e).0)
        where
          cases : (h.0 ≡ []) ⊎ (follow g 0 (q ++ h.0) ≡ None) → step g dq b ≡ Some k
          cases (inl z) = sym to_dir_is ∙ sym (ap (follow g 0) (h.1 ∙ ap (λ y. q ++ y) z ∙ nil_right q)) ∙ w
          cases (inr z) = absurd (none_some (sym z ∙ ap (follow g 0) (sym h.1) ∙ w))

  live_before : (k : ℕ) → IsLive (g' k) → (step g dq b ≢ Some k) × IsLive (g k)
  live_before k live =
      let ne : step g dq b ≢ Some k = λ e. dead (content_of (g' k)) (m.replaced k e).1 live in
      (ne, subst IsSome (m.shows k ne) live)

  live_after : (k : ℕ) → step g dq b ≢ Some k → IsLive (g k) → IsLive (g' k)
  live_after k ne live = subst IsSome (sym (m.shows k ne)) live

  record WasStep (d k : ℕ) (c : Name') : Type 0 where
    was : step g d c ≡ Some k
    not_from : d ≡ dp → c ≢ a
    not_to : d ≡ dq → c ≢ b

  abbrev IsNew : ℕ → ℕ → Name' → Type 0
  IsNew d k c = (d ≡ dq) × (c ≡ b) × (k ≡ i)

  -- a step of the new graph is the new one or was one
  which : (d k : ℕ) (c : Name') → step g' d c ≡ Some k → WasStep d k c ⊎ IsNew d k c
  which d k c h = by (same_step d dq c b) (same_step d dp c a)
    where
      by : ((d ≡ dq) × (c ≡ b)) ⊎ (d ≡ dq → c ≢ b) → ((d ≡ dp) × (c ≡ a)) ⊎ (d ≡ dp → c ≢ a) → WasStep d k c ⊎ IsNew d k c
      by (inl e) f = inr (e.0, e.1, some_is (sym h ∙ ap (step g' d) e.1 ∙ ap (λ x. step g' x b) e.0 ∙ m.now))
      by (inr ne) (inl f) = absurd (none_some (sym m.gone ∙ sym (ap (step g' d) f.1 ∙ ap (λ x. step g' x a) f.0) ∙ h))
      by (inr ne) (inr nf) = inl (record { was = sym (m.others d c nf ne) ∙ h; not_from = nf; not_to = ne })

  -- the node that moved isn't replaced
  moved_stays : step g dq b ≢ Some i
  moved_stays e = not_same (one_path n g r p q i to_i (to_dir_is ∙ e))

  no_other : (d k : ℕ) (c : Name') → WasStep d k c → step g dq b ≢ Some k
  no_other d k c w e = let one = r.once d dq k c b w.was e in w.not_to one.0 one.1

  pub moved_rooted : IsRooted n g'
  moved_rooted = record {
    root = m.shows 0 (λ e. (r.target dq 0 b e).0 refl) ∙ r.root;
    within = λ k live. r.within k (live_before k live).1;
    names = m.names;
    target = λ d k c h. target d k c (which d k c h);
    once = λ d e k x y hx hy. once d e k x y (which d k x hx) (which e k y hy);
    reached = λ k live. let before = live_before k live in let path = r.reached k before.1 in reached k before.0 path.0 path.1 (begins path.0 p) (begins path.0 q);
  }
    where
      target : (d k : ℕ) (c : Name') → WasStep d k c ⊎ IsNew d k c → (k ≢ 0) × IsLive (g' k)
      target d k c (inl w) = let t = r.target d k c w.was in (t.0, live_after k (no_other d k c w) t.1)
      target d k c (inr w) = subst (λ x. (x ≢ 0) × IsLive (g' x)) (sym w.2) (let t = r.target dp i a m.was in (t.0, live_after i moved_stays t.1))

      not_it : (d k : ℕ) (c : Name') → WasStep d k c → k ≢ i
      not_it d k c w e = let one = r.once d dp k c a w.was (m.was ∙ ap (λ (x : ℕ). Some x) (sym e)) in w.not_from one.0 one.1

      once : (d e k : ℕ) (x y : Name') → WasStep d k x ⊎ IsNew d k x → WasStep e k y ⊎ IsNew e k y → (d ≡ e) × (x ≡ y)
      once d e k x y (inl v) (inl w) = r.once d e k x y v.was w.was
      once d e k x y (inl v) (inr w) = absurd (not_it d k x v w.2)
      once d e k x y (inr v) (inl w) = absurd (not_it e k y w v.2)
      once d e k x y (inr v) (inr w) = (v.0 ∙ sym w.0, v.1 ∙ sym w.1)

      reached : (k : ℕ) → step g dq b ≢ Some k → (x : Path') → follow g 0 x ≡ Some k → Begins x p ⊎ (Begins x p → ⊥) → Begins x q ⊎ (Begins x q → ⊥) → (path : Path') × (follow g' 0 path ≡ Some k)
      reached k ne x h (inl s) t = (q ++ s.0, new_path s.0 ∙ ap (follow g 0) (sym s.1) ∙ h)
      reached k ne x h (inr s) (inl t) = absurd (ne (at_new x k t h))
      reached k ne x h (inr s) (inr t) = (x, outside x s t ∙ h)

  abbrev before : Option ℕ → Option Content
  before o = option_and_then (λ k. content_of (g k)) o

  abbrev after : Option ℕ → Option Content
  after o = option_and_then (λ k. content_of (g' k)) o

  -- the tree in which every path that began with the old one begins with the new one
  pub describes_moved : (t t' : FileTree) → Describes g t → IsMoved t t' p q → Describes g' t'
  describes_moved t t' d v = record { each = λ x. by x (begins x q) (begins x p) }
    where
      shown : (x : Path') → (Begins x q → ⊥) → (o : Option ℕ) → follow g 0 x ≡ o → before o ≡ after o
      shown x away None e = refl
      shown x away (Some k) e = sym (m.shows k (not_replaced x k away e))

      by : (x : Path') → Begins x q ⊎ (Begins x q → ⊥) → Begins x p ⊎ (Begins x p → ⊥) → content_at t' x ≡ shown_at g' x
      by x (inl s) h =
          ap (content_at t') s.1 ∙ v.there s.0 ∙ d.each (p ++ s.0) ∙ shown (p ++ s.0) (below_apart s.0) (follow g 0 (p ++ s.0)) refl
          ∙ ap after (sym (new_path s.0)) ∙ ap (shown_at g') (sym s.1)
      by x (inr s) (inl h) = ap (content_at t') h.1 ∙ v.gone h.0 (below_apart h.0) ∙ sym (ap after (ap (follow g' 0) h.1 ∙ old_path h.0 not_above))
      by x (inr s) (inr h) = v.others x h s ∙ d.each x ∙ shown x s (follow g 0 x) refl ∙ ap after (sym (outside x h s))

  -- nothing was below the new path
  pub nothing_below : (t : FileTree) → Describes g t → (rest : Path') → rest ≢ [] → content_at t (q ++ rest) ≡ None
  nothing_below t d rest some = d.each (q ++ rest) ∙ ap before (by (step g dq b) refl)
    where
      by : (o : Option ℕ) → step g dq b ≡ o → follow g 0 (q ++ rest) ≡ None
      by None e = past_none g q rest (to_dir_is ∙ e)
      by (Some j) e = cases (past_leaf g q rest j (to_dir_is ∙ e) (m.replaced j e).0)
        where
          cases : (rest ≡ []) ⊎ (follow g 0 (q ++ rest) ≡ None) → follow g 0 (q ++ rest) ≡ None
          cases (inl z) = absurd (some z)
          cases (inr z) = z

  pub describes_renamed : (t : FileTree) → Describes g t → Describes g' (renamed t p q)
  describes_renamed t d = describes_moved t (renamed t p q) d (is_moved t p q not_inside (nothing_below t d))
