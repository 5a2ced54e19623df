-- Entries of a directory of which one is gone, new, or another: where its names lead.
use Rattle.std.proofs.Common.{◌≡◌, ◌≢◌, ◌⊎◌, inl, inr, ℕ, List, [], Option, Some, None, refl, sym, ap, ◌∙◌, subst, slice_get}
use Rattle.std.specs.Option.{option_map}
use native.Mathlib.Decide.{ℕ_discrete}
use Rattle.zj_layout.specs.declared.fields.Link.{Link}
use Rattle.zj_layout.specs.Graph.{Holding, Nothing, Graph, links_of, content_of, named, step, AreApart, HasNames}
use Rattle.zj_changes.specs.Moved.{MovesEntry}
use Rattle.zj_changes.specs.Dropped.{DropsLeaf}
use Rattle.zj_changes.specs.Steps.{SetsStep, SetsHolding}
use Rattle.zj_layout.proofs.Follow.{Name', some_is, none_some, named_stands, named_entry}
use Rattle.zj_layout.proofs.Named.{named_nowhere}

-- where each entry of a name stands in both lists, the name leads to the same node
pub same_named : (xs ys : List Link) (name : Name') → AreApart xs → AreApart ys
    → ((k : ℕ) (l : Link) → slice_get xs k ≡ Some l → l.name ≡ name → (j : ℕ) × (slice_get ys j ≡ Some l))
    → ((k : ℕ) (l : Link) → slice_get ys k ≡ Some l → l.name ≡ name → (j : ℕ) × (slice_get xs j ≡ Some l))
    → named name ys ≡ named name xs
same_named xs ys name ax ay there back = by (named name xs) refl (named name ys) refl
  where
    leads : (xs ys : List Link) → AreApart ys → ((k : ℕ) (l : Link) → slice_get xs k ≡ Some l → l.name ≡ name → (j : ℕ) × (slice_get ys j ≡ Some l)) → (i : ℕ) → named name xs ≡ Some i → named name ys ≡ Some i
    leads xs ys ay there i e =
        let s = named_stands xs name i e in
        let t = there s.place s.link s.at s.name_is in
        ap (λ n. named n ys) (sym s.name_is) ∙ named_entry ys ay t.0 s.link t.1 ∙ ap (λ (x : ℕ). Some x) s.node_is

    by : (o : Option ℕ) → named name xs ≡ o → (w : Option ℕ) → named name ys ≡ w → named name ys ≡ named name xs
    by (Some i) e w f = leads xs ys ay there i e ∙ sym e
    by None e None f = f ∙ sym e
    by None e (Some i) f = absurd (none_some (sym e ∙ leads ys xs ax back i f))

-- The entries are those that were there, in other places, but for the one of a name: it is gone or has come or is another.
pub record EditsLinks (xs ys : List Link) (name : Name') (link : Option Link) : Type 0 where
  pub hole : ℕ
  pub place : ℕ
  pub from : ℕ → ℕ
  pub only : (j : ℕ) (l : Link) → slice_get xs j ≡ Some l → l.name ≡ name → j ≡ hole
  pub hole_name : (l : Link) → slice_get xs hole ≡ Some l → l.name ≡ name
  pub link_name : (l : Link) → link ≡ Some l → l.name ≡ name
  pub comes : (k : ℕ) (l : Link) → slice_get ys k ≡ Some l → ((slice_get xs (from k) ≡ Some l) × (from k ≢ hole)) ⊎ ((k ≡ place) × (link ≡ Some l))
  pub once : (j k : ℕ) (l m : Link) → slice_get ys j ≡ Some l → slice_get ys k ≡ Some m → from j ≡ from k → j ≡ k
  pub goes : (j : ℕ) (l : Link) → slice_get xs j ≡ Some l → j ≢ hole → (k : ℕ) × (slice_get ys k ≡ Some l)
  pub stands : (l : Link) → link ≡ Some l → slice_get ys place ≡ Some l

module _ (xs ys : List Link) (name : Name') (link : Option Link) (apart : AreApart xs) (e : EditsLinks xs ys name link) where
  pub edited_apart : AreApart ys
  edited_apart = record { each = λ j k l m hl hm same. by j k l m hl hm same (e.comes j l hl) (e.comes k m hm) }
    where
      by : (j k : ℕ) (l m : Link) → slice_get ys j ≡ Some l → slice_get ys k ≡ Some m → l.name ≡ m.name
          → ((slice_get xs (e.from j) ≡ Some l) × (e.from j ≢ e.hole)) ⊎ ((j ≡ e.place) × (link ≡ Some l))
          → ((slice_get xs (e.from k) ≡ Some m) × (e.from k ≢ e.hole)) ⊎ ((k ≡ e.place) × (link ≡ Some m)) → j ≡ k
      by j k l m hl hm same (inl v) (inl w) = e.once j k l m hl hm (apart.each (e.from j) (e.from k) l m v.0 w.0 same)
      by j k l m hl hm same (inl v) (inr w) = absurd (v.1 (e.only (e.from j) l v.0 (same ∙ e.link_name m w.1)))
      by j k l m hl hm same (inr v) (inl w) = absurd (w.1 (e.only (e.from k) m w.0 (sym same ∙ e.link_name l v.1)))
      by j k l m hl hm same (inr v) (inr w) = v.0 ∙ sym w.0

  pub edited_here : named name ys ≡ option_map (λ (l : Link). l.node) link
  edited_here = by link refl
    where
      by : (o : Option Link) → link ≡ o → named name ys ≡ option_map (λ (l : Link). l.node) o
      by (Some l) w = ap (λ n. named n ys) (sym (e.link_name l w)) ∙ named_entry ys edited_apart e.place l (e.stands l w)
      by None w = named_nowhere ys name (λ k l h is. none k l h is (e.comes k l h))
        where
          none : (k : ℕ) (l : Link) → slice_get ys k ≡ Some l → l.name ≡ name → ((slice_get xs (e.from k) ≡ Some l) × (e.from k ≢ e.hole)) ⊎ ((k ≡ e.place) × (link ≡ Some l)) → ⊥
          none k l h is (inl v) = v.1 (e.only (e.from k) l v.0 is)
          none k l h is (inr v) = none_some (sym w ∙ v.1)

  pub edited_others : (another : Name') → another ≢ name → named another ys ≡ named another xs
  edited_others another ne = same_named xs ys another apart edited_apart there back
    where
      there : (k : ℕ) (l : Link) → slice_get xs k ≡ Some l → l.name ≡ another → (j : ℕ) × (slice_get ys j ≡ Some l)
      there k l h is = e.goes k l h (λ at. ne (sym is ∙ e.hole_name l (ap (slice_get xs) (sym at) ∙ h)))

      back : (k : ℕ) (l : Link) → slice_get ys k ≡ Some l → l.name ≡ another → (j : ℕ) × (slice_get xs j ≡ Some l)
      back k l h is = by (e.comes k l h)
        where
          by : ((slice_get xs (e.from k) ≡ Some l) × (e.from k ≢ e.hole)) ⊎ ((k ≡ e.place) × (link ≡ Some l)) → (j : ℕ) × (slice_get xs j ≡ Some l)
          by (inl v) = (e.from k, v.0)
          by (inr v) = absurd (ne (sym is ∙ e.link_name l v.1))

-- a directory with such entries sets one step
pub edits_step : (g g' : Graph) (dir : ℕ) (name : Name') (link : Option Link) → HasNames g → EditsLinks (links_of (g dir)) (links_of (g' dir)) name link
    → content_of (g' dir) ≡ content_of (g dir) → ((other : ℕ) → other ≢ dir → g' other ≡ g other) → SetsStep g g' dir name (option_map (λ (l : Link). l.node) link)
edits_step g g' dir name link names e same rest = record {
  here = edited_here (links_of (g dir)) (links_of (g' dir)) name link (names.each dir) e;
  others = λ other another ne. others other another ne (ℕ_discrete other dir);
  shows = λ node. shows node (ℕ_discrete node dir);
  names = record { each = λ d. apart d (ℕ_discrete d dir) };
  links = λ other ne. ap links_of (rest other ne);
}
  where
    others : (other : ℕ) (another : Name') → (other ≡ dir → another ≢ name) → Dec (other ≡ dir) → step g' other another ≡ step g other another
    others other another ne (yes is) =
        ap (λ x. step g' x another) is ∙ edited_others (links_of (g dir)) (links_of (g' dir)) name link (names.each dir) e another (ne is) ∙ ap (λ x. step g x another) (sym is)
    others other another ne (no away) = ap (λ h. named another (links_of h)) (rest other away)

    shows : (node : ℕ) → Dec (node ≡ dir) → content_of (g' node) ≡ content_of (g node)
    shows node (yes is) = ap (λ x. content_of (g' x)) is ∙ same ∙ ap (λ x. content_of (g x)) (sym is)
    shows node (no away) = ap content_of (rest node away)

    apart : (d : ℕ) → Dec (d ≡ dir) → AreApart (links_of (g' d))
    apart d (yes is) = subst (λ x. AreApart (links_of (g' x))) (sym is) (edited_apart (links_of (g dir)) (links_of (g' dir)) name link (names.each dir) e)
    apart d (no away) = subst (λ h. AreApart (links_of h)) (sym (rest d away)) (names.each d)

-- ---- a node without entries holds something else

module _ (g g' : Graph) (node : ℕ) (h : Holding) (s : SetsHolding g g' node h) where
  pub holding_links : (k : ℕ) → links_of (g' k) ≡ links_of (g k)
  holding_links k = by (ℕ_discrete k node)
    where
      by : Dec (k ≡ node) → links_of (g' k) ≡ links_of (g k)
      by (yes e) = ap (λ x. links_of (g' x)) e ∙ ap links_of s.now ∙ s.leaf ∙ sym s.was ∙ ap (λ x. links_of (g x)) (sym e)
      by (no ne) = ap links_of (s.others k ne)

  pub holding_step : (k : ℕ) (name : Name') → step g' k name ≡ step g k name
  holding_step k name = ap (named name) (holding_links k)

  pub holding_names : HasNames g → HasNames g'
  holding_names names = record { each = λ d. subst (λ l. AreApart l) (sym (holding_links d)) (names.each d) }

-- ---- what the calls are made of

-- a leaf is dropped by one step that leads nowhere, and the leaf that is free
pub drops : (g m g' : Graph) (dir : ℕ) (name : Name') (leaf : ℕ) → step g dir name ≡ Some leaf → links_of (g leaf) ≡ [] → SetsStep g m dir name None → SetsHolding m g' leaf Nothing → DropsLeaf g g' dir name leaf
drops g m g' dir name leaf was empty a b = record {
  was = was;
  gone = holding_step m g' leaf Nothing b dir name ∙ a.here;
  others = λ other another ne. holding_step m g' leaf Nothing b other another ∙ a.others other another ne;
  empty = empty;
  freed = ap content_of b.now;
  shows = λ other ne. ap content_of (b.others other ne) ∙ a.shows other;
  names = holding_names m g' leaf Nothing b a.names;
}

-- an entry moves to a name that led nowhere: one step leads nowhere, another to the node
pub moves : (g m g' : Graph) (dp : ℕ) (a : Name') (dq : ℕ) (b : Name') (node : ℕ) → step g dp a ≡ Some node → step g dq b ≡ None → SetsStep g m dp a None → SetsStep m g' dq b (Some node) → MovesEntry g g' dp a dq b node
moves g m g' dp a dq b node was absent x y = record {
  was = was;
  gone = y.others dp a (λ d n. differ d n) ∙ x.here;
  now = y.here;
  others = λ dir name ne nf. y.others dir name nf ∙ x.others dir name ne;
  replaced = λ other h. absurd (none_some (sym absent ∙ h));
  shows = λ other ne. y.shows other ∙ x.shows other;
  names = y.names;
}
  where
    differ : dp ≡ dq → a ≡ b → ⊥
    differ d n = none_some (sym absent ∙ ap (λ k. step g k b) (sym d) ∙ ap (step g dp) (sym n) ∙ was)

-- an entry moves onto a leaf: its name leads to the node, then the old one nowhere, and the leaf is free
pub replaces : (g m l g' : Graph) (dp : ℕ) (a : Name') (dq : ℕ) (b : Name') (node leaf : ℕ) → step g dp a ≡ Some node → step g dq b ≡ Some leaf → node ≢ leaf → links_of (g leaf) ≡ []
    → SetsStep g m dq b (Some node) → SetsStep m l dp a None → SetsHolding l g' leaf Nothing → MovesEntry g g' dp a dq b node
replaces g m l g' dp a dq b node leaf was there apart empty x y z = record {
  was = was;
  gone = holding_step l g' leaf Nothing z dp a ∙ y.here;
  now = holding_step l g' leaf Nothing z dq b ∙ y.others dq b (λ d n. differ (sym d) (sym n)) ∙ x.here;
  others = λ dir name ne nf. holding_step l g' leaf Nothing z dir name ∙ y.others dir name ne ∙ x.others dir name nf;
  replaced = λ other h. let same : other ≡ leaf = some_is (sym h ∙ there) in (ap (λ k. links_of (g k)) same ∙ empty, ap (λ k. content_of (g' k)) same ∙ ap content_of z.now);
  shows = λ other ne. ap content_of (z.others other (λ e. ne (there ∙ ap (λ (k : ℕ). Some k) (sym e)))) ∙ y.shows other ∙ x.shows other;
  names = holding_names l g' leaf Nothing z y.names;
}
  where
    differ : dp ≡ dq → a ≡ b → ⊥
    differ d n = apart (some_is (sym was ∙ ap (λ k. step g k a) d ∙ ap (step g dq) n ∙ there))
