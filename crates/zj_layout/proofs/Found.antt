-- A walk from the root finds each node that is reached.
use Rattle.std.proofs.Common.{◌≡◌, ◌≢◌, ◌⊎◌, inl, inr, ℕ, zero, suc, ◌+◌, ◌-◌, ◌<◌, ◌≤◌, Bool, true, false, List, [], ◌∷◌, ◌++◌, length, set, Some, refl, sym, ap, ◌∙◌, subst, arith, length-set}
use Rattle.std.specs.Option.{option_and_then}
use Rattle.std.proofs.lemmas.List.{get_or-set_same, get_or-set_other, length-append, get_or_append_left, get_or-append_right}
use Rattle.std.proofs.lemmas.Bool.{cases_lt}
use Rattle.std.proofs.lemmas.Option.{slice_get_within}
use native.Mathlib.Decide.{ℕ_discrete}
use Rattle.zj_layout.specs.declared.fields.Link.{Link}
use Rattle.zj_layout.specs.declared.links.Found.{Found}
use Rattle.zj_layout.specs.Graph.{Graph, links_of, link_at, step, follow, IsLive}
use Rattle.zj_block.specs.Sizes.{Numbers}
use Rattle.zj_layout.specs.Faults.{FailsAt}
use Rattle.zj_layout.specs.Image.{Image, graph_of, node_block}
use Rattle.zj_layout.specs.Rules.{Rule5}
use Rattle.zj_layout.specs.Linked.{MarksLed, MarksReached, IsLinked, FindsAll, no_found, found_at, ComesFrom, AreFound, MarksFound, IsClosed, Finds, Again, New}
use Rattle.zj_layout.specs.Read.{mark}
use Rattle.zj_layout.proofs.Follow.{Path', some_is, Ends, ends, named_stands, follow_more, last_step}
use Rattle.zj_layout.proofs.Total.{total_most, one_if, one_if_most, hits, total_hits}

-- where the entries of the nodes before a place lead was seen, and of the node there those before an entry
pub record ClosedTo (g : Graph) (found : List Found) (seen : List Bool) (at place : ℕ) : Type 0 where
  pub before : IsClosed g found seen at
  pub here : (p : ℕ) (l : Link) → p < place → link_at g (found_at found at).node p ≡ Some l → mark seen l.node ≡ true

-- what a walk knows on the way
pub record Walks (nodes : ℕ) (g : Graph) (found : List Found) (seen : List Bool) (at place dir more : ℕ) : Type 0 where
  pub found_are : AreFound nodes g found
  pub marks : MarksFound nodes found seen
  pub closed : ClosedTo g found seen at place
  pub at_is : at < length found
  pub dir_is : (found_at found at).node ≡ dir
  pub longer : more ≤ length found

module _ (nodes : ℕ) (g : Graph) (at place dir more : ℕ) (l : Link) (stands : link_at g dir place ≡ Some l) (within : l.node < nodes) (leads : step g dir l.name ≡ Some l.node) where
  still : (found : List Found) (seen : List Bool) → Walks nodes g found seen at place dir more → mark seen l.node ≡ true → Walks nodes g found seen at (place + 1) dir more
  still found seen w marked = record {
    found_are = w.found_are;
    marks = w.marks;
    closed = record { before = w.closed.before; here = λ p m lt h. by p m lt h (ℕ_discrete p place) };
    at_is = w.at_is;
    dir_is = w.dir_is;
    longer = w.longer;
  }
    where
      by : (p : ℕ) (m : Link) → p < place + 1 → link_at g (found_at found at).node p ≡ Some m → Dec (p ≡ place) → mark seen m.node ≡ true
      by p m lt h (yes same) =
          let e : Some m ≡ Some l = sym h ∙ (λ i. link_at g (w.dir_is i) (same i)) ∙ stands in
          ap (λ (x : Link). mark seen x.node) (some_is e) ∙ marked
      by p m lt h (no other) = w.closed.here p m (omega arith) h

  module _ (found : List Found) (seen : List Bool) (w : Walks nodes g found seen at place dir more) (free : mark seen l.node ≡ false) where
    abbrev new : Found
    new = record { node = l.node; path = (found_at found at).path ++ l.name ∷ [] }

    abbrev found' : List Found
    found' = found ++ new ∷ []

    abbrev seen' : List Bool
    seen' = set seen l.node true

    longer' : length found' ≡ length found + 1
    longer' = length-append found (new ∷ [])

    old : (k : ℕ) → k < length found → found_at found' k ≡ found_at found k
    old k lt = get_or_append_left found (new ∷ []) no_found k lt

    last : (k : ℕ) → k ≡ length found → found_at found' k ≡ new
    last k e =
        let z : k - length found ≡ 0 = omega arith in
        get_or-append_right found (new ∷ []) (length found) k no_found refl (omega arith) ∙ ap (λ j. found_at (new ∷ []) j) z

    stays : (n : ℕ) → mark seen n ≡ true → mark seen' n ≡ true
    stays n h = by (ℕ_discrete n l.node)
      where
        by : Dec (n ≡ l.node) → mark seen' n ≡ true
        by (yes same) = absurd (let e : mark seen n ≡ false = ap (mark seen) same ∙ free in cc)
        by (no other) = get_or-set_other seen l.node n true false other ∙ h

    marked : mark seen' l.node ≡ true
    marked = get_or-set_same seen l.node true false (omega (arith, w.marks.many))

    -- a place of the longer list is one of the old, or the last
    place_of : (k : ℕ) → k < length found' → (k < length found) ⊎ (k ≡ length found)
    place_of k lt = by (ℕ_discrete k (length found))
      where
        by : Dec (k ≡ length found) → (k < length found) ⊎ (k ≡ length found)
        by (yes e) = inr e
        by (no ne) = inl (omega (arith, longer'))

    are : AreFound nodes g found'
    are = record {
      some = omega (arith, longer');
      root = old 0 w.found_are.some ∙ w.found_are.root;
      within = λ k lt. in_nodes k (place_of k lt);
      leads = λ k lt. leads_to k (place_of k lt);
      apart = λ j k less lt. apart j k less (place_of k lt);
      comes = λ k some lt. comes k some (place_of k lt);
    }
      where
        in_nodes : (k : ℕ) → (k < length found) ⊎ (k ≡ length found) → (found_at found' k).node < nodes
        in_nodes k (inl lt) = subst (λ (f : Found). f.node < nodes) (sym (old k lt)) (w.found_are.within k lt)
        in_nodes k (inr e) = subst (λ (f : Found). f.node < nodes) (sym (last k e)) within

        leads_to : (k : ℕ) → (k < length found) ⊎ (k ≡ length found) → follow g 0 (found_at found' k).path ≡ Some (found_at found' k).node
        leads_to k (inl lt) = subst (λ (f : Found). follow g 0 f.path ≡ Some f.node) (sym (old k lt)) (w.found_are.leads k lt)
        leads_to k (inr e) =
            subst (λ (f : Found). follow g 0 f.path ≡ Some f.node) (sym (last k e))
            (follow_more g 0 (found_at found at).path l.name ∙ ap (option_and_then (λ d. step g d l.name)) (w.found_are.leads at w.at_is ∙ ap (λ (x : ℕ). Some x) w.dir_is) ∙ leads)

        apart : (j k : ℕ) → j < k → (k < length found) ⊎ (k ≡ length found) → (found_at found' j).node ≢ (found_at found' k).node
        apart j k less (inl lt) e = w.found_are.apart j k less lt (ap (λ (f : Found). f.node) (sym (old j (omega arith))) ∙ e ∙ ap (λ (f : Found). f.node) (old k lt))
        apart j k less (inr is) e =
            let below : j < length found = omega arith in
            let same : (found_at found j).node ≡ l.node = ap (λ (f : Found). f.node) (sym (old j below)) ∙ e ∙ ap (λ (f : Found). f.node) (last k is) in
            let seen_j = w.marks.all j below in
            let e' : mark seen (found_at found j).node ≡ false = ap (mark seen) same ∙ free in
            absurd cc

        comes : (k : ℕ) → 0 < k → (k < length found) ⊎ (k ≡ length found) → ComesFrom g found' k
        comes k some (inl lt) =
            let c = w.found_are.comes k some lt in
            record { from = c.from; earlier = c.earlier; name = c.name; path_is = ap (λ (f : Found). f.path) (old k lt) ∙ c.path_is ∙ ap (λ (f : Found). f.path ++ c.name ∷ []) (sym (old c.from (omega (arith, c.earlier)))) }
        comes k some (inr e) =
            record { from = at; earlier = omega (arith, w.at_is); name = l.name; path_is = ap (λ (f : Found). f.path) (last k e) ∙ ap (λ (f : Found). f.path ++ l.name ∷ []) (sym (old at w.at_is)) }

    marks' : MarksFound nodes found' seen'
    marks' = record {
      many = length-set seen l.node true ∙ w.marks.many;
      some = λ n h. some n h (ℕ_discrete n l.node);
      all = λ k lt. all k (place_of k lt);
    }
      where
        some : (n : ℕ) → mark seen' n ≡ true → Dec (n ≡ l.node) → (k : ℕ) × (k < length found') × ((found_at found' k).node ≡ n)
        some n h (yes same) = (length found, omega (arith, longer'), ap (λ (f : Found). f.node) (last (length found) refl) ∙ sym same)
        some n h (no other) =
            let r = w.marks.some n (sym (get_or-set_other seen l.node n true false other) ∙ h) in
            (r.0, omega (arith, r.1, longer'), ap (λ (f : Found). f.node) (old r.0 r.1) ∙ r.2)

        all : (k : ℕ) → (k < length found) ⊎ (k ≡ length found) → mark seen' (found_at found' k).node ≡ true
        all k (inl lt) = ap (λ (f : Found). mark seen' f.node) (old k lt) ∙ stays (found_at found k).node (w.marks.all k lt)
        all k (inr e) = ap (λ (f : Found). mark seen' f.node) (last k e) ∙ marked

    grown : Walks nodes g found' seen' at place dir more
    grown = record {
      found_are = are;
      marks = marks';
      closed = record {
        before = record { each = λ k p m lt h. stays m.node (w.closed.before.each k p m lt (ap (λ (f : Found). link_at g f.node p) (sym (old k (omega (arith, w.at_is)))) ∙ h)) };
        here = λ p m lt h. stays m.node (w.closed.here p m lt (ap (λ (f : Found). link_at g f.node p) (sym (old at w.at_is)) ∙ h));
      };
      at_is = omega (arith, longer', w.at_is);
      dir_is = ap (λ (f : Found). f.node) (old at w.at_is) ∙ w.dir_is;
      longer = omega (arith, longer', w.longer);
    }

  pub walks_more : (found : List Found) (seen : List Bool) (found' : List Found) (seen' : List Bool) → Walks nodes g found seen at place dir more → Finds at l found seen found' seen' → Walks nodes g found' seen' at (place + 1) dir more
  walks_more found seen found' seen' w (Again marked same_found same_seen) = subst (λ fs. Walks nodes g fs seen' at (place + 1) dir more) (sym same_found) (subst (λ ms. Walks nodes g found ms at (place + 1) dir more) (sym same_seen) (still found seen w marked))
  walks_more found seen found' seen' w (New free now_found now_seen) =
      let n : Found = record { node = l.node; path = (found_at found at).path ++ l.name ∷ [] } in
      subst (λ fs. Walks nodes g fs seen' at (place + 1) dir more) (sym now_found) (subst (λ ms. Walks nodes g (found ++ n ∷ []) ms at (place + 1) dir more) (sym now_seen) (still (found ++ n ∷ []) (set seen l.node true) (grown found seen w free) (marked found seen w free)))

pub closed_start : (g : Graph) (found : List Found) (seen : List Bool) (at : ℕ) → IsClosed g found seen at → ClosedTo g found seen at 0
closed_start g found seen at c = record { before = c; here = λ p l lt h. absurd (omega arith) }

pub closed_all : (g : Graph) (found : List Found) (seen : List Bool) (at place : ℕ) → length (links_of (g (found_at found at).node)) ≤ place → ClosedTo g found seen at place → IsClosed g found seen (at + 1)
closed_all g found seen at place all c = record { each = λ k p l lt h. by k p l lt h (ℕ_discrete k at) }
  where
    by : (k p : ℕ) (l : Link) → k < at + 1 → link_at g (found_at found k).node p ≡ Some l → Dec (k ≡ at) → mark seen l.node ≡ true
    by k p l lt h (yes same) =
        let here : link_at g (found_at found at).node p ≡ Some l = ap (λ j. link_at g (found_at found j).node p) (sym same) ∙ h in
        c.here p l (omega (arith, all, slice_get_within (links_of (g (found_at found at).node)) p l here)) here
    by k p l lt h (no other) = c.before.each k p l (omega arith) h

-- no more nodes are found than there are
pub found_few : (nodes : ℕ) (g : Graph) (found : List Found) → AreFound nodes g found → length found ≤ nodes
found_few nodes g found a =
    let count = total_hits (λ k. (found_at found k).node) (length found) nodes a.within (λ j k hj hk e. by j k hj hk e (ℕ_discrete j k)) in
    omega (arith, count, total_most (λ b. one_if (hits (λ k. (found_at found k).node) (length found) b)) nodes (λ b lt. one_if_most (hits (λ k. (found_at found k).node) (length found) b)))
  where
    by : (j k : ℕ) → j < length found → k < length found → (found_at found j).node ≡ (found_at found k).node → Dec (j ≡ k) → j ≡ k
    by j k hj hk e (yes same) = same
    by j k hj hk e (no other) = cases (cases_lt j k)
      where
        cases : (j < k) ⊎ (k ≤ j) → j ≡ k
        cases (inl less) = absurd (a.apart j k less hk e)
        cases (inr le) = absurd (a.apart k j (omega arith) hj (sym e))

-- what is reached was seen
pub reached_seen : (nodes : ℕ) (g : Graph) (found : List Found) (seen : List Bool) → AreFound nodes g found → MarksFound nodes found seen → IsClosed g found seen (length found) → (n : ℕ) (path : Path') → length path ≤ n → (i : ℕ) → follow g 0 path ≡ Some i → mark seen i ≡ true
reached_seen nodes g found seen a m c zero [] le i h = by (some_is h)
  where
    by : 0 ≡ i → mark seen i ≡ true
    by e = ap (mark seen) (sym e ∙ ap (λ (f : Found). f.node) (sym a.root)) ∙ m.all 0 a.some
reached_seen nodes g found seen a m c zero (x ∷ path) le i h = absurd (omega arith)
reached_seen nodes g found seen a m c (suc n) path le i h = by (λ p short d to. reached_seen nodes g found seen a m c n p short d to) (ends path)
  where
    by : ((p : Path') → length p ≤ n → (d : ℕ) → follow g 0 p ≡ Some d → mark seen d ≡ true) → (path ≡ []) ⊎ Ends path → mark seen i ≡ true
    by rest (inl e) = rest [] (omega arith) i (sym (ap (follow g 0) e) ∙ h)
    by rest (inr e) =
        let s = last_step g e.front e.name i (sym (ap (follow g 0) e.is) ∙ h) in
        let shorter : length e.front ≤ n = omega (arith, ap length e.is, length-append e.front (e.name ∷ [])) in
        let dir = m.some s.dir (rest e.front shorter s.dir s.to_dir) in
        let stands = named_stands (links_of (g s.dir)) e.name i s.last in
        ap (mark seen) (sym stands.node_is) ∙ c.each dir.0 stands.place stands.link dir.1 (ap (λ d. link_at g d stands.place) dir.2 ∙ stands.at)

pub marks_reached : (nodes : ℕ) (g : Graph) (found : List Found) (seen : List Bool) → AreFound nodes g found → MarksFound nodes found seen → IsClosed g found seen (length found) → MarksReached nodes g seen
marks_reached nodes g found seen a m c = record {
  many = m.many;
  some = λ n h. let r = m.some n h in ((found_at found r.0).path, a.leads r.0 r.1 ∙ ap (λ (x : ℕ). Some x) r.2);
  all = λ path n h. reached_seen nodes g found seen a m c (length path) path (omega arith) n h;
}

pub finds_all : (nodes : ℕ) (g : Graph) (found : List Found) (seen : List Bool) → MarksFound nodes found seen → MarksReached nodes g seen → FindsAll g found
finds_all nodes g found seen m r path n h = m.some n (r.all path n h)

-- ---- rule 5

-- what the marks of a node say
pub linked : (nodes : ℕ) (im : Image) (led again seen : List Bool) → MarksLed nodes (graph_of im) (λ d p. d < nodes) led again → MarksReached nodes (graph_of im) seen → ((d p : ℕ) (l : Link) → link_at (graph_of im) d p ≡ Some l → d < nodes)
    → (n : ℕ) → n < nodes → mark led n ≡ true → mark again n ≡ false → mark seen n ≡ true → IsLinked im n
linked nodes im led again seen m r within n lt a b c =
    let e = m.some n a in (
      record {
        dir = e.0;
        place = e.1;
        link = e.3.link;
        stands = e.3.stands;
        leads = e.3.leads;
        alone = λ d p l at is. m.once n lt b d p e.0 e.1 (within d p l at) e.2 (record { link = l; stands = at; leads = is }) e.3;
      },
      r.some n c,
    )

pub linked_marks : (nodes : ℕ) (im : Image) (led again seen : List Bool) → MarksLed nodes (graph_of im) (λ d p. d < nodes) led again → MarksReached nodes (graph_of im) seen → ((d p : ℕ) (l : Link) → link_at (graph_of im) d p ≡ Some l → d < nodes)
    → (n : ℕ) → n < nodes → IsLinked im n → (mark led n ≡ true) × (mark again n ≡ false) × (mark seen n ≡ true)
linked_marks nodes im led again seen m r within n lt h = (one (mark led n) refl, two (mark again n) refl, r.all h.1.0 n h.1.1)
  where
    one : (b : Bool) → mark led n ≡ b → b ≡ true
    one true e = refl
    one false e = absurd (m.none n lt e h.0.dir h.0.place (within h.0.dir h.0.place h.0.link h.0.stands) (record { link = h.0.link; stands = h.0.stands; leads = h.0.leads }))

    two : (b : Bool) → mark again n ≡ b → b ≡ false
    two false e = refl
    two true e =
        let t = m.two n e in
        let x = h.0.alone t.0 t.1 t.6.link t.6.stands t.6.leads in
        let y = h.0.alone t.2 t.3 t.7.link t.7.stands t.7.leads in
        absurd (t.8 (x.0 ∙ sym y.0, x.1 ∙ sym y.1))

pub rule5_fails : (sizes : Numbers) (im : Image) (n : ℕ) → n < sizes.nodes → n ≢ 0 → ((k : ℕ) → k < n → k ≢ 0 → IsLive (graph_of im k) → IsLinked im k) → IsLive (graph_of im n) → ¬ (IsLinked im n) → FailsAt (Rule5 sizes im) (node_block sizes n)
rule5_fails sizes im n lt ne before live fails = record {
  fails = λ h. fails (h n lt refl ne live);
  lowest = λ b below k within is k0 l. before k (omega arith) k0 l;
}
