-- Which nodes entries lead to, one entry after another.
use Rattle.std.proofs.Common.{◌≡◌, ◌≢◌, ◌⊎◌, inl, inr, ℕ, zero, suc, ◌+◌, ◌<◌, Bool, true, false, ◌||◌, List, length, set, replicate, Some, refl, sym, ap, ◌∙◌, subst, arith, slice_get, length-set}
use Rattle.std.proofs.lemmas.List.{get_or-set_same, get_or-set_other, length-replicate}
use Rattle.std.proofs.lemmas.Option.{slice_get_within}
use native.Mathlib.Decide.{ℕ_discrete}
use Rattle.zj_layout.specs.declared.fields.Link.{Link}
use Rattle.zj_layout.specs.Graph.{Graph, link_at, links_of}
use Rattle.zj_layout.specs.Linked.{LeadsTo, SamePlace, MarksLed}
use Rattle.zj_layout.specs.Read.{mark}
use Rattle.zj_layout.proofs.Follow.{some_is}
use Rattle.zj_layout.proofs.Total.{or_cases}

-- the entries of the directories before one, and of that one those before a place
abbrev pub Before : ℕ → ℕ → ℕ → ℕ → Type 0
Before dir place d p = (d < dir) ⊎ ((d ≡ dir) × (p < place))

pub marks_seen : (nodes : ℕ) (g : Graph) (Seen Seen' : ℕ → ℕ → Type 0) (led again : List Bool) → ((d p n : ℕ) → LeadsTo g n d p → Seen d p → Seen' d p) → ((d p n : ℕ) → LeadsTo g n d p → Seen' d p → Seen d p) → MarksLed nodes g Seen led again → MarksLed nodes g Seen' led again
marks_seen nodes g Seen Seen' led again to from m = record {
  led_many = m.led_many;
  again_many = m.again_many;
  some = λ n h. let r = m.some n h in (r.0, r.1, to r.0 r.1 n r.3 r.2, r.3);
  none = λ n lt h d p s l. m.none n lt h d p (from d p n l s) l;
  two = λ n h. let r = m.two n h in (r.0, r.1, r.2, r.3, to r.0 r.1 n r.6 r.4, to r.2 r.3 n r.7 r.5, r.6, r.7, r.8);
  once = λ n lt h d p d' p' s s' l l'. m.once n lt h d p d' p' (from d p n l s) (from d' p' n l' s') l l';
}

pub marks_none : (nodes : ℕ) (g : Graph) (led again : List Bool) → led ≡ replicate nodes false → again ≡ replicate nodes false → MarksLed nodes g (λ d p. d < 0) led again
marks_none nodes g led again a b = record {
  led_many = ap length a ∙ length-replicate nodes false;
  again_many = ap length b ∙ length-replicate nodes false;
  some = λ n h. absurd (unmarked n (ap (λ xs. mark xs n) (sym a) ∙ h));
  none = λ n lt h d p s l. omega arith;
  two = λ n h. absurd (unmarked n (ap (λ xs. mark xs n) (sym b) ∙ h));
  once = λ n lt h d p d' p' s s' l l'. absurd (omega arith);
}
  where
    zeros : (k n : ℕ) → mark (replicate k false) n ≡ false
    zeros zero n = refl
    zeros (suc k) zero = refl
    zeros (suc k) (suc n) = zeros k n

    unmarked : (n : ℕ) → mark (replicate nodes false) n ≡ true → ⊥
    unmarked n h = let z = zeros nodes n in cc

module _ (nodes : ℕ) (g : Graph) (dir place : ℕ) (l : Link) (at : link_at g dir place ≡ Some l) (within : l.node < nodes) (led again : List Bool) (m : MarksLed nodes g (Before dir place) led again) where
  abbrev led' : List Bool
  led' = set led l.node true

  abbrev again' : List Bool
  again' = set again l.node (mark again l.node || mark led l.node)

  here : LeadsTo g l.node dir place
  here = record { link = l; stands = at; leads = refl }

  grow : (d p : ℕ) → Before dir place d p → Before dir (place + 1) d p
  grow d p (inl lt) = inl lt
  grow d p (inr r) = inr (r.0, omega (arith, r.1))

  last : Before dir (place + 1) dir place
  last = inr (refl, omega arith)

  -- an entry that is seen now was seen, or is the new one
  shrink : (d p : ℕ) → Before dir (place + 1) d p → Before dir place d p ⊎ SamePlace d p dir place
  shrink d p (inl lt) = inl (inl lt)
  shrink d p (inr r) = by (ℕ_discrete p place)
    where
      by : Dec (p ≡ place) → Before dir place d p ⊎ SamePlace d p dir place
      by (yes same) = inr (r.0, same)
      by (no other) = inl (inr (r.0, omega (arith, r.1)))

  node_here : (n d p : ℕ) → SamePlace d p dir place → LeadsTo g n d p → n ≡ l.node
  node_here n d p same h =
      let e : Some h.link ≡ Some l = sym h.stands ∙ (λ i. link_at g (same.0 i) (same.1 i)) ∙ at in
      sym h.leads ∙ ap (λ (x : Link). x.node) (some_is e)

  not_before : (d p : ℕ) → Before dir place d p → SamePlace d p dir place → ⊥
  not_before d p (inl lt) same = omega (arith, same.0)
  not_before d p (inr r) same = omega (arith, r.1, same.1)

  -- at another node all is as it was
  old_led : (n : ℕ) → n ≢ l.node → mark led' n ≡ mark led n
  old_led n ne = get_or-set_other led l.node n true false ne

  old_again : (n : ℕ) → n ≢ l.node → mark again' n ≡ mark again n
  old_again n ne = get_or-set_other again l.node n (mark again l.node || mark led l.node) false ne

  new_again : mark again' l.node ≡ (mark again l.node || mark led l.node)
  new_again = get_or-set_same again l.node (mark again l.node || mark led l.node) false (omega (arith, m.again_many))

  new_led : mark led' l.node ≡ true
  new_led = get_or-set_same led l.node true false (omega (arith, m.led_many))

  off : (n d p : ℕ) → n ≢ l.node → LeadsTo g n d p → Before dir (place + 1) d p → Before dir place d p
  off n d p ne h s = by (shrink d p s)
    where
      by : Before dir place d p ⊎ SamePlace d p dir place → Before dir place d p
      by (inl b) = b
      by (inr same) = absurd (ne (node_here n d p same h))

  or_no_l : (a b : Bool) → (a || b) ≡ false → a ≡ false
  or_no_l true b h = absurd cc
  or_no_l false b h = refl

  or_no_r : (a b : Bool) → (a || b) ≡ false → b ≡ false
  or_no_r true b h = absurd cc
  or_no_r false b h = h

  pub marks_more : MarksLed nodes g (Before dir (place + 1)) led' again'
  marks_more = record {
    led_many = length-set led l.node true ∙ m.led_many;
    again_many = length-set again l.node (mark again l.node || mark led l.node) ∙ m.again_many;
    some = λ n h. some n h (ℕ_discrete n l.node);
    none = λ n lt h d p s x. none n lt h d p s x (ℕ_discrete n l.node);
    two = λ n h. two n h (ℕ_discrete n l.node);
    once = λ n lt h d p d' p' s s' x x'. once n lt h d p d' p' s s' x x' (ℕ_discrete n l.node);
  }
    where
      some : (n : ℕ) → mark led' n ≡ true → Dec (n ≡ l.node) → (d p : ℕ) × Before dir (place + 1) d p × LeadsTo g n d p
      some n h (yes same) = (dir, place, last, subst (λ x. LeadsTo g x dir place) (sym same) here)
      some n h (no ne) = let r = m.some n (sym (old_led n ne) ∙ h) in (r.0, r.1, grow r.0 r.1 r.2, r.3)

      none : (n : ℕ) → n < nodes → mark led' n ≡ false → (d p : ℕ) → Before dir (place + 1) d p → LeadsTo g n d p → Dec (n ≡ l.node) → ⊥
      none n lt h d p s x (yes same) = let t : mark led' n ≡ true = ap (mark led') same ∙ new_led in cc
      none n lt h d p s x (no ne) = m.none n lt (sym (old_led n ne) ∙ h) d p (off n d p ne x s) x

      Two : ℕ → Type 0
      Two n = (d p d' p' : ℕ) × Before dir (place + 1) d p × Before dir (place + 1) d' p' × LeadsTo g n d p × LeadsTo g n d' p' × (¬ (SamePlace d p d' p'))

      two : (n : ℕ) → mark again' n ≡ true → Dec (n ≡ l.node) → (d p d' p' : ℕ) × Before dir (place + 1) d p × Before dir (place + 1) d' p' × LeadsTo g n d p × LeadsTo g n d' p' × (¬ (SamePlace d p d' p'))
      two n h (no ne) = let r = m.two n (sym (old_again n ne) ∙ h) in (r.0, r.1, r.2, r.3, grow r.0 r.1 r.4, grow r.2 r.3 r.5, r.6, r.7, r.8)
      two n h (yes same) = by (or_cases _ _ (sym new_again ∙ sym (ap (mark again') same) ∙ h))
        where
          by : (mark again l.node ≡ true) ⊎ (mark led l.node ≡ true) → (d p d' p' : ℕ) × Before dir (place + 1) d p × Before dir (place + 1) d' p' × LeadsTo g n d p × LeadsTo g n d' p' × (¬ (SamePlace d p d' p'))
          by (inl e) = let r = m.two n (ap (mark again) same ∙ e) in (r.0, r.1, r.2, r.3, grow r.0 r.1 r.4, grow r.2 r.3 r.5, r.6, r.7, r.8)
          by (inr e) = let r = m.some n (ap (mark led) same ∙ e) in (r.0, r.1, dir, place, grow r.0 r.1 r.2, last, r.3, subst (λ x. LeadsTo g x dir place) (sym same) here, not_before r.0 r.1 r.2)

      once : (n : ℕ) → n < nodes → mark again' n ≡ false → (d p d' p' : ℕ) → Before dir (place + 1) d p → Before dir (place + 1) d' p' → LeadsTo g n d p → LeadsTo g n d' p' → Dec (n ≡ l.node) → SamePlace d p d' p'
      once n lt h d p d' p' s s' x x' (no ne) = m.once n lt (sym (old_again n ne) ∙ h) d p d' p' (off n d p ne x s) (off n d' p' ne x' s') x x'
      once n lt h d p d' p' s s' x x' (yes same) =
          let free : (mark again l.node || mark led l.node) ≡ false = sym new_again ∙ sym (ap (mark again') same) ∙ h in
          let unled : mark led n ≡ false = ap (mark led) same ∙ or_no_r _ _ free in
          by unled (shrink d p s) (shrink d' p' s')
        where
          by : mark led n ≡ false → Before dir place d p ⊎ SamePlace d p dir place → Before dir place d' p' ⊎ SamePlace d' p' dir place → SamePlace d p d' p'
          by unled (inl b) q = absurd (m.none n lt unled d p b x)
          by unled (inr e) (inl b) = absurd (m.none n lt unled d' p' b x')
          by unled (inr e) (inr f) = (e.0 ∙ sym f.0, e.1 ∙ sym f.1)

-- all entries of a directory were seen
pub marks_dir : (nodes : ℕ) (g : Graph) (dir place : ℕ) (led again : List Bool) → place ≡ length (links_of (g dir)) → MarksLed nodes g (Before dir place) led again → MarksLed nodes g (λ d p. d < dir + 1) led again
marks_dir nodes g dir place led again all m = marks_seen nodes g (Before dir place) (λ d p. d < dir + 1) led again (λ d p n x s. to d p s) (λ d p n x lt. from d p n x lt (ℕ_discrete d dir)) m
  where
    to : (d p : ℕ) → Before dir place d p → d < dir + 1
    to d p (inl lt) = omega arith
    to d p (inr r) = omega (arith, r.0)

    from : (d p n : ℕ) → LeadsTo g n d p → d < dir + 1 → Dec (d ≡ dir) → Before dir place d p
    from d p n x lt (yes same) =
        let stands : slice_get (links_of (g dir)) p ≡ Some x.link = ap (λ k. link_at g k p) (sym same) ∙ x.stands in
        inr (same, omega (arith, slice_get_within (links_of (g dir)) p x.link stands))
    from d p n x lt (no other) = inl (omega arith)

pub marks_start : (nodes : ℕ) (g : Graph) (dir : ℕ) (led again : List Bool) → MarksLed nodes g (λ d p. d < dir) led again → MarksLed nodes g (Before dir 0) led again
marks_start nodes g dir led again m = marks_seen nodes g (λ d p. d < dir) (Before dir 0) led again (λ d p n x lt. inl lt) (λ d p n x s. by d p s) m
  where
    by : (d p : ℕ) → Before dir 0 d p → d < dir
    by d p (inl lt) = lt
    by d p (inr r) = absurd (omega (arith, r.1))
