-- A tree with one leaf more.
use Rattle.std.proofs.Common.{◌≡◌, ◌≢◌, ◌⊎◌, inl, inr, ℕ, zero, suc, ◌+◌, ◌<◌, ◌≤◌, Bool, true, false, cond, List, [], ◌∷◌, ◌++◌, length, Option, Some, None, IsSome, refl, sym, ap, ◌∙◌, subst, arith, slice_get}
use Rattle.std.specs.Option.{option_and_then, option_or}
use Rattle.std.specs.Ordering.{eq_by_cmp}
use Rattle.std.specs.FinMap as map_of
use Rattle.std.specs.FinMap.{get-insert}
use Rattle.std.proofs.lemmas.List.{length-append}
use Rattle.zj_tree.specs.declared.content.Content.{Content}
use Rattle.zj_tree.specs.Tree.{FileTree, content_at, path_cmp}
use Rattle.zj_layout.specs.declared.fields.Link.{Link}
use Rattle.zj_layout.specs.Graph.{Holding, Nothing, Links, Graph, links_of, content_of, named, step, follow, shown_at, Describes, IsLive, link_at, HasNames, IsRooted}
use Rattle.zj_changes.specs.Leaf.{AddsLeaf}
use Rattle.zj_layout.proofs.Follow.{Name', Path', some_is, none_some, Ends, ends, named_none, named_more, named_one, named_other, follow_more, one_path}
use Rattle.zj_layout.proofs.Live.{paths_total, tie, no_tie, same_path, same_node, same_name, not_live, at_more, led_live}

module _ (n : ℕ) (g g' : Graph) (r : IsRooted n g) (dir : ℕ) (es : List Link) (l : Link) (leaf : Holding) (a : AddsLeaf g g' dir es l leaf) (p : Path') (to_dir : follow g 0 p ≡ Some dir) (absent : named l.name es ≡ None) where
  abbrev path : Path'
  path = p ++ l.name ∷ []

  old_links : links_of (g dir) ≡ es
  old_links = ap links_of a.was

  apart : l.node ≢ dir
  apart e = let both : Nothing ≡ Links es = sym a.was_free ∙ ap g e ∙ a.was in cc

  free_links : links_of (g l.node) ≡ []
  free_links = ap links_of a.was_free

  leaf_links : links_of (g' l.node) ≡ []
  leaf_links = ap links_of a.added ∙ a.is_leaf.empty

  no_step : (i : ℕ) (b : Name') (h : Graph) → links_of (h i) ≡ [] → step h i b ≡ None
  no_step i b h e = ap (named b) e

  -- the new step
  new_step : step g' dir l.name ≡ Some l.node
  new_step = ap (λ x. named l.name (links_of x)) a.now ∙ named_more es l.name l ∙ ap (λ o. option_or o (named l.name (l ∷ []))) absent ∙ named_one l.name l refl

  or_none : (o : Option ℕ) → option_or o None ≡ o
  or_none None = refl
  or_none (Some x) = refl

  -- all other steps stay
  old_step : (i : ℕ) (b : Name') → (i ≡ dir → b ≢ l.name) → step g' i b ≡ step g i b
  old_step i b other = by (same_node i dir) (same_node i l.node)
    where
      by : (i ≡ dir) ⊎ (i ≢ dir) → (i ≡ l.node) ⊎ (i ≢ l.node) → step g' i b ≡ step g i b
      by (inl e) f =
          ap (λ x. step g' x b) e ∙ ap (λ x. named b (links_of x)) a.now ∙ named_more es b l ∙ ap (option_or (named b es)) (named_other b l (λ q. other e (sym q))) ∙ or_none (named b es)
          ∙ sym (ap (named b) old_links) ∙ ap (λ x. step g x b) (sym e)
      by (inr ne) (inl f) = ap (λ x. step g' x b) f ∙ no_step l.node b g' leaf_links ∙ sym (no_step l.node b g free_links) ∙ ap (λ x. step g x b) (sym f)
      by (inr ne) (inr nf) = ap (λ x. named b (links_of x)) (a.others i ne nf)

  -- before, no path leads there
  nothing_there : follow g 0 path ≡ None
  nothing_there = follow_more g 0 p l.name ∙ ap (option_and_then (λ j. step g j l.name)) to_dir ∙ ap (named l.name) old_links ∙ absent

  -- the new path leads to the new node, where the path to the directory still leads there
  leads : follow g' 0 p ≡ follow g 0 p → follow g' 0 path ≡ Some l.node
  leads stays = follow_more g' 0 p l.name ∙ ap (option_and_then (λ j. step g' j l.name)) (stays ∙ to_dir) ∙ new_step

  longer : (q : Path') (e : Ends q) → length q ≡ length e.front + 1
  longer q e = ap length e.is ∙ length-append e.front (e.name ∷ [])

  length_path : length path ≡ length p + 1
  length_path = length-append p (l.name ∷ [])

  not_itself : p ≢ path
  not_itself e = omega (arith, length_path, ap length e)

  after : (q : Path') (b : Name') → q ++ b ∷ [] ≢ path → (o : Option ℕ) → follow g 0 q ≡ o → option_and_then (λ j. step g' j b) o ≡ option_and_then (λ j. step g j b) o
  after q b ne None e = refl
  after q b ne (Some j) e = old_step j b (λ d c. ne (λ i. one_path n g r q p dir (e ∙ ap (λ (x : ℕ). Some x) d) to_dir i ++ c i ∷ []))

  behind : (q : Path') (b : Name') → follow g' 0 p ≡ follow g 0 p → q ≡ path → follow g' 0 (q ++ b ∷ []) ≡ follow g 0 (q ++ b ∷ [])
  behind q b stays e =
      follow_more g' 0 q b ∙ ap (option_and_then (λ j. step g' j b)) (ap (follow g' 0) e ∙ leads stays) ∙ no_step l.node b g' leaf_links
      ∙ sym (follow_more g 0 q b ∙ ap (option_and_then (λ j. step g j b)) (ap (follow g 0) e ∙ nothing_there))

  -- every other path leads where it led: those of at most k names
  stay : (k : ℕ) (q : Path') → length q ≤ k → q ≢ path → follow g' 0 q ≡ follow g 0 q
  stay zero q le ne = by (ends q)
    where
      by : (q ≡ []) ⊎ Ends q → follow g' 0 q ≡ follow g 0 q
      by (inl e) = ap (follow g' 0) e ∙ ap (follow g 0) (sym e)
      by (inr e) = absurd (omega (arith, longer q e))
  stay (suc k) q le ne = by (stay k) (ends q)
    where
      by : ((q : Path') → length q ≤ k → q ≢ path → follow g' 0 q ≡ follow g 0 q) → (q ≡ []) ⊎ Ends q → follow g' 0 q ≡ follow g 0 q
      by rest (inl e) = ap (follow g' 0) e ∙ ap (follow g 0) (sym e)
      by rest (inr e) = ap (follow g' 0) e.is ∙ cases (same_path e.front path) ∙ sym (ap (follow g 0) e.is)
        where
          cases : (e.front ≡ path) ⊎ (e.front ≢ path) → follow g' 0 (e.front ++ e.name ∷ []) ≡ follow g 0 (e.front ++ e.name ∷ [])
          cases (inl f) = behind e.front e.name (rest p (omega (arith, longer q e, ap length f, length_path)) not_itself) f
          cases (inr nf) =
              follow_more g' 0 e.front e.name ∙ ap (option_and_then (λ j. step g' j e.name)) (rest e.front (omega (arith, longer q e)) nf)
              ∙ after e.front e.name (λ f. ne (e.is ∙ f)) (follow g 0 e.front) refl ∙ sym (follow_more g 0 e.front e.name)

  pub others_stay : (q : Path') → q ≢ path → follow g' 0 q ≡ follow g 0 q
  others_stay q ne = stay (length q) q (omega arith) ne

  pub leads_there : follow g' 0 path ≡ Some l.node
  leads_there = leads (others_stay p not_itself)

  -- what was there shows what it showed
  same_content : (i : ℕ) → IsLive (g i) → content_of (g' i) ≡ content_of (g i)
  same_content i live = by (same_node i dir) (same_node i l.node)
    where
      by : (i ≡ dir) ⊎ (i ≢ dir) → (i ≡ l.node) ⊎ (i ≢ l.node) → content_of (g' i) ≡ content_of (g i)
      by (inl e) f = ap (λ x. content_of (g' x)) e ∙ ap content_of a.now ∙ sym (ap content_of a.was) ∙ ap (λ x. content_of (g x)) (sym e)
      by (inr ne) (inl f) = absurd (not_live (subst IsLive (ap g f ∙ a.was_free) live))
      by (inr ne) (inr nf) = ap content_of (a.others i ne nf)

  live_stays : (i : ℕ) → IsLive (g i) → IsLive (g' i)
  live_stays i live = subst IsSome (sym (same_content i live)) live

  -- an entry of the new graph is an entry of the old one, or the new one
  which : (d k : ℕ) (m : Link) → link_at g' d k ≡ Some m → (link_at g d k ≡ Some m) ⊎ ((d ≡ dir) × (k ≡ length es) × (m ≡ l))
  which d k m h = by (same_node d dir) (same_node d l.node)
    where
      by : (d ≡ dir) ⊎ (d ≢ dir) → (d ≡ l.node) ⊎ (d ≢ l.node) → (link_at g d k ≡ Some m) ⊎ ((d ≡ dir) × (k ≡ length es) × (m ≡ l))
      by (inl e) f = cases (at_more es l m k (ap (λ x. slice_get (links_of x) k) (sym a.now ∙ ap g' (sym e)) ∙ h))
        where
          cases : (slice_get es k ≡ Some m) ⊎ ((k ≡ length es) × (m ≡ l)) → (link_at g d k ≡ Some m) ⊎ ((d ≡ dir) × (k ≡ length es) × (m ≡ l))
          cases (inl o) = inl (ap (λ x. slice_get (links_of x) k) (ap g e ∙ a.was) ∙ o)
          cases (inr w) = inr (e, w.0, w.1)
      by (inr ne) (inl f) = absurd (none_some (sym (ap (λ xs. slice_get xs k) (ap (λ x. links_of (g' x)) f ∙ leaf_links)) ∙ h))
      by (inr ne) (inr nf) = inl (ap (λ x. slice_get (links_of x) k) (sym (a.others d ne nf)) ∙ h)

  -- no old step leads to the new node
  none_led : (d k : ℕ) (c : Name') → step g d c ≡ Some k → k ≢ l.node
  none_led d k c h e = not_live (subst IsLive (ap g e ∙ a.was_free) (r.target d k c h).1)

  -- a step of the new graph is one of the old graph, or the new one
  which_step : (d k : ℕ) (c : Name') → step g' d c ≡ Some k → (step g d c ≡ Some k) ⊎ ((d ≡ dir) × (c ≡ l.name) × (k ≡ l.node))
  which_step d k c h = by (same_node d dir) (same_name c l.name)
    where
      by : (d ≡ dir) ⊎ (d ≢ dir) → (c ≡ l.name) ⊎ (c ≢ l.name) → (step g d c ≡ Some k) ⊎ ((d ≡ dir) × (c ≡ l.name) × (k ≡ l.node))
      by (inl e) (inl f) = inr (e, f, some_is (sym h ∙ ap (λ x. step g' x c) e ∙ ap (step g' dir) f ∙ new_step))
      by (inl e) (inr nf) = inl (sym (old_step d c (λ _. nf)) ∙ h)
      by (inr ne) f = inl (sym (old_step d c (λ e. absurd (ne e))) ∙ h)

  -- no old entry of the directory has the new name
  new_name : (d k : ℕ) (m : Link) → link_at g d k ≡ Some m → d ≡ dir → m.name ≢ l.name
  new_name d k m h e = named_none es l.name k m absent (ap (λ x. slice_get x k) (sym (ap (λ x. links_of (g x)) e ∙ old_links)) ∙ h)

  new_live : IsLive (g' l.node)
  new_live = subst IsLive (sym a.added) a.is_leaf.live

  -- no name stands twice still
  still_names : HasNames g'
  still_names = record { each = λ d. record { each = λ j k x y hx hy e. names d j k x y e (which d j x hx) (which d k y hy) } }
    where
      names : (d j k : ℕ) (x y : Link) → x.name ≡ y.name → (link_at g d j ≡ Some x) ⊎ ((d ≡ dir) × (j ≡ length es) × (x ≡ l)) → (link_at g d k ≡ Some y) ⊎ ((d ≡ dir) × (k ≡ length es) × (y ≡ l)) → j ≡ k
      names d j k x y e (inl hx) (inl hy) = (r.names.each d).each j k x y hx hy e
      names d j k x y e (inl hx) (inr w) = absurd (new_name d j x hx w.0 (e ∙ ap (λ (z : Link). z.name) w.2))
      names d j k x y e (inr v) (inl hy) = absurd (new_name d k y hy v.0 (sym e ∙ ap (λ (z : Link). z.name) v.2))
      names d j k x y e (inr v) (inr w) = v.1 ∙ sym w.1

  -- the entries hang together still
  pub still_rooted : l.node < n → IsRooted n g'
  still_rooted fits = record {
    root = same_content 0 (subst IsSome (sym r.root) refl) ∙ r.root;
    within = λ i live. within i live (same_node i l.node) (same_node i dir);
    names = still_names;
    target = λ d k c h. target d k c (which_step d k c h);
    once = λ d e k b c hb hc. once d e k b c (which_step d k b hb) (which_step e k c hc);
    reached = λ i live. reached i live (same_node i l.node) (same_node i dir);
  }
    where
      root_live : IsLive (g dir)
      root_live = subst IsLive (sym a.was) refl

      was_live : (i : ℕ) → IsLive (g' i) → i ≢ l.node → (i ≡ dir) ⊎ (i ≢ dir) → IsLive (g i)
      was_live i live ne (inl e) = subst (λ x. IsLive (g x)) (sym e) root_live
      was_live i live ne (inr ned) = subst IsLive (a.others i ned ne) live

      within : (i : ℕ) → IsLive (g' i) → (i ≡ l.node) ⊎ (i ≢ l.node) → (i ≡ dir) ⊎ (i ≢ dir) → i < n
      within i live (inl e) d = subst (λ x. x < n) (sym e) fits
      within i live (inr ne) d = r.within i (was_live i live ne d)

      target : (d k : ℕ) (c : Name') → (step g d c ≡ Some k) ⊎ ((d ≡ dir) × (c ≡ l.name) × (k ≡ l.node)) → (k ≢ 0) × IsLive (g' k)
      target d k c (inl h) = let t = r.target d k c h in (t.0, live_stays k t.1)
      target d k c (inr w) = (
        (λ z. not_live (subst IsLive (ap g (sym z ∙ w.2) ∙ a.was_free) (subst IsSome (sym r.root) refl))),
        subst (λ x. IsLive (g' x)) (sym w.2) new_live,
      )

      once : (d e k : ℕ) (b c : Name') → (step g d b ≡ Some k) ⊎ ((d ≡ dir) × (b ≡ l.name) × (k ≡ l.node)) → (step g e c ≡ Some k) ⊎ ((e ≡ dir) × (c ≡ l.name) × (k ≡ l.node)) → (d ≡ e) × (b ≡ c)
      once d e k b c (inl hb) (inl hc) = r.once d e k b c hb hc
      once d e k b c (inl hb) (inr w) = absurd (none_led d k b hb w.2)
      once d e k b c (inr v) (inl hc) = absurd (none_led e k c hc v.2)
      once d e k b c (inr v) (inr w) = (v.0 ∙ sym w.0, v.1 ∙ sym w.1)

      reached : (i : ℕ) → IsLive (g' i) → (i ≡ l.node) ⊎ (i ≢ l.node) → (i ≡ dir) ⊎ (i ≢ dir) → (q : Path') × (follow g' 0 q ≡ Some i)
      reached i live (inl e) d = (path, leads_there ∙ ap (λ (x : ℕ). Some x) (sym e))
      reached i live (inr ne) d =
          let old = r.reached i (was_live i live ne d) in
          (old.0, others_stay old.0 (λ q. none_some (sym (ap (follow g 0) q ∙ nothing_there) ∙ old.1)) ∙ old.1)

  -- and they describe the tree with the leaf
  pub describes_leaf : (t : FileTree) (c : Content) → Describes g t → content_of leaf ≡ Some c → Describes g' (map_of.insert t path c)
  describes_leaf t c d is = record { each = λ q. get-insert paths_total t path c q ∙ by q (eq_by_cmp path_cmp q path) refl }
    where
      kept : (o : Option ℕ) → ((i : ℕ) → o ≡ Some i → IsLive (g i)) → option_and_then (λ i. content_of (g i)) o ≡ option_and_then (λ i. content_of (g' i)) o
      kept None live = refl
      kept (Some i) live = sym (same_content i (live i refl))

      by : (q : Path') (b : Bool) → eq_by_cmp path_cmp q path ≡ b → cond b (Some c) (content_at t q) ≡ shown_at g' q
      by q true e = sym (ap (shown_at g') (tie q path e) ∙ ap (option_and_then (λ i. content_of (g' i))) leads_there ∙ ap content_of a.added ∙ is)
      by q false e =
          d.each q ∙ kept (follow g 0 q) (λ i h. led_live n g r q i h)
          ∙ ap (option_and_then (λ i. content_of (g' i))) (sym (others_stay q (no_tie q path e)))
