-- Paths through a graph: how they join, and that no two of them lead to one node.
use Rattle.std.proofs.Common.{◌≡◌, ◌≢◌, ◌⊎◌, inl, inr, ℕ, zero, suc, ◌+◌, ◌≤◌, Bool, true, false, cond, List, [], ◌∷◌, ◌++◌, length, Option, Some, None, refl, sym, ap, ◌∙◌, arith, slice_get}
use Rattle.std.specs.List.{find}
use Rattle.std.specs.Option.{option_map, option_and_then, option_or}
use Rattle.std.specs.Str.{bytes_eq}
use Rattle.std.proofs.lemmas.Slice.Eq.{bytes_eq-Decides}
use Rattle.std.proofs.lemmas.List.{length-append}
use Rattle.zj_layout.specs.declared.fields.Link.{Link}
use Rattle.zj_layout.specs.Graph.{Graph, links_of, named, step, follow, IsLive, link_at, AreApart, IsRooted}

abbrev pub Name' : Type 0
Name' = List ℕ

abbrev pub Path' : Type 0
Path' = List (List ℕ)

pub some_is : {A : Type 0} {x y : A} → ◌≡◌ {A = Option A} (Some x) (Some y) → x ≡ y
some_is h = cc

pub none_some : {A : Type 0} {x : A} → ◌≡◌ {A = Option A} None (Some x) → ⊥
none_some h = cc

-- ---- entries by their names

-- the entry that has a name stands somewhere
pub record Stands (links : List Link) (name : List ℕ) (node : ℕ) : Type 0 where
  pub place : ℕ
  pub link : Link
  pub at : slice_get links place ≡ Some link
  pub name_is : link.name ≡ name
  pub node_is : link.node ≡ node

pub named_stands : (links : List Link) (name : Name') (node : ℕ) → named name links ≡ Some node → Stands links name node
named_stands [] name node h = absurd cc
named_stands (l ∷ links) name node h = by (λ k. named_stands links name node k) (bytes_eq l.name name) refl h
  where
    by : (named name links ≡ Some node → Stands links name node) → (b : Bool) → bytes_eq l.name name ≡ b → option_map (λ (m : Link). m.node) (cond b (Some l) (find (λ (m : Link). bytes_eq m.name name) links)) ≡ Some node → Stands (l ∷ links) name node
    by rest true e h = record { place = 0; link = l; at = refl; name_is = (bytes_eq-Decides l.name name).0 e; node_is = some_is h }
    by rest false e h = let r = rest h in record { place = suc r.place; link = r.link; at = r.at; name_is = r.name_is; node_is = r.node_is }

-- where no entry has the name, each has another
pub named_none : (links : List Link) (name : Name') (place : ℕ) (l : Link) → named name links ≡ None → slice_get links place ≡ Some l → l.name ≢ name
named_none [] name place l h at e = absurd cc
named_none (m ∷ links) name place l h at e = by (λ none k there. named_none links name k l none there e) (bytes_eq m.name name) refl h place at
  where
    by : (named name links ≡ None → (k : ℕ) → slice_get links k ≡ Some l → ⊥) → (b : Bool) → bytes_eq m.name name ≡ b → option_map (λ (x : Link). x.node) (cond b (Some m) (find (λ (x : Link). bytes_eq x.name name) links)) ≡ None → (place : ℕ) → slice_get (m ∷ links) place ≡ Some l → ⊥
    by rest true q h place at = cc
    by rest false q h zero at =
        let same : m.name ≡ name = ap (λ (x : Link). x.name) (some_is at) ∙ e in
        let yes : bytes_eq m.name name ≡ true = (bytes_eq-Decides m.name name).1 same in
        cc
    by rest false q h (suc place) at = rest h place at

-- an entry more
pub named_more : (links : List Link) (name : Name') (l : Link) → named name (links ++ l ∷ []) ≡ option_or (named name links) (named name (l ∷ []))
named_more [] name l = refl
named_more (m ∷ links) name l = by (named_more links name l) (bytes_eq m.name name)
  where
    by : named name (links ++ l ∷ []) ≡ option_or (named name links) (named name (l ∷ [])) → (b : Bool) → option_map (λ (x : Link). x.node) (cond b (Some m) (find (λ (x : Link). bytes_eq x.name name) (links ++ l ∷ []))) ≡ option_or (option_map (λ (x : Link). x.node) (cond b (Some m) (find (λ (x : Link). bytes_eq x.name name) links))) (named name (l ∷ []))
    by rest true = refl
    by rest false = rest

pub named_one : (name : Name') (l : Link) → l.name ≡ name → named name (l ∷ []) ≡ Some l.node
named_one name l e = ap (λ b. option_map (λ (x : Link). x.node) (cond b (Some l) None)) ((bytes_eq-Decides l.name name).1 e)

pub named_other : (name : Name') (l : Link) → l.name ≢ name → named name (l ∷ []) ≡ None
named_other name l ne = by (bytes_eq l.name name) refl
  where
    by : (b : Bool) → bytes_eq l.name name ≡ b → option_map (λ (x : Link). x.node) (cond b (Some l) None) ≡ None
    by true e = absurd (ne ((bytes_eq-Decides l.name name).0 e))
    by false e = refl

-- ---- paths

-- a path is empty or ends with a name
pub record Ends (path : Path') : Type 0 where
  pub front : Path'
  pub name : Name'
  pub is : path ≡ front ++ name ∷ []

pub ends : (path : Path') → (path ≡ []) ⊎ Ends path
ends [] = inl refl
ends (a ∷ path) = by (ends path)
  where
    by : (path ≡ []) ⊎ Ends path → (a ∷ path ≡ []) ⊎ Ends (a ∷ path)
    by (inl e) = inr (record { front = []; name = a; is = ap (λ (p : Path'). a ∷ p) e })
    by (inr e) = inr (record { front = a ∷ e.front; name = e.name; is = ap (λ (p : Path'). a ∷ p) e.is })

pub follow_join : (g : Graph) (i : ℕ) (p q : Path') → follow g i (p ++ q) ≡ option_and_then (λ j. follow g j q) (follow g i p)
follow_join g i [] q = refl
follow_join g i (a ∷ p) q = by (λ j. follow_join g j p q) (step g i a)
  where
    by : ((j : ℕ) → follow g j (p ++ q) ≡ option_and_then (λ k. follow g k q) (follow g j p)) → (o : Option ℕ) → option_and_then (λ j. follow g j (p ++ q)) o ≡ option_and_then (λ j. follow g j q) (option_and_then (λ j. follow g j p) o)
    by rest None = refl
    by rest (Some j) = rest j

one_step : (o : Option ℕ) → option_and_then (λ (j : ℕ). Some j) o ≡ o
one_step None = refl
one_step (Some j) = refl

-- a path with one more name
pub follow_more : (g : Graph) (i : ℕ) (p : Path') (a : Name') → follow g i (p ++ a ∷ []) ≡ option_and_then (λ j. step g j a) (follow g i p)
follow_more g i p a = follow_join g i p (a ∷ []) ∙ by (follow g i p)
  where
    by : (o : Option ℕ) → option_and_then (λ j. follow g j (a ∷ [])) o ≡ option_and_then (λ j. step g j a) o
    by None = refl
    by (Some j) = one_step (step g j a)

-- the last step of a path that leads somewhere
pub record LastStep (g : Graph) (p : Path') (a : Name') (i : ℕ) : Type 0 where
  pub dir : ℕ
  pub to_dir : follow g 0 p ≡ Some dir
  pub last : step g dir a ≡ Some i

pub last_step : (g : Graph) (p : Path') (a : Name') (i : ℕ) → follow g 0 (p ++ a ∷ []) ≡ Some i → LastStep g p a i
last_step g p a i h = by (follow g 0 p) refl (sym (follow_more g 0 p a) ∙ h)
  where
    by : (o : Option ℕ) → follow g 0 p ≡ o → option_and_then (λ j. step g j a) o ≡ Some i → LastStep g p a i
    by None e h = absurd (none_some h)
    by (Some j) e h = record { dir = j; to_dir = e; last = h }

-- ---- what hangs together

-- where names are apart, the name of an entry leads to its node
pub named_entry : (links : List Link) → AreApart links → (place : ℕ) (l : Link) → slice_get links place ≡ Some l → named l.name links ≡ Some l.node
named_entry links apart place l h = by (named l.name links) refl
  where
    by : (o : Option ℕ) → named l.name links ≡ o → named l.name links ≡ Some l.node
    by None e = absurd (named_none links l.name place l e h refl)
    by (Some i) e =
        let s = named_stands links l.name i e in
        let places = apart.each place s.place l s.link h s.at (sym s.name_is) in
        let same : l ≡ s.link = some_is (sym h ∙ ap (slice_get links) places ∙ s.at) in
        e ∙ ap (λ (x : ℕ). Some x) (sym s.node_is ∙ ap (λ (x : Link). x.node) (sym same))

-- each entry leads to a node that is not free and not the root
pub link_target : (n : ℕ) (g : Graph) → IsRooted n g → (d k : ℕ) (l : Link) → link_at g d k ≡ Some l → (l.node ≢ 0) × IsLive (g l.node)
link_target n g r d k l h = r.target d l.node l.name (named_entry (links_of (g d)) (r.names.each d) k l h)

-- no two entries lead to one node
pub link_once : (n : ℕ) (g : Graph) → IsRooted n g → (d j e k : ℕ) (l m : Link) → link_at g d j ≡ Some l → link_at g e k ≡ Some m → l.node ≡ m.node → (d ≡ e) × (j ≡ k)
link_once n g r d j e k l m hl hm same =
    let one = r.once d e l.node l.name m.name (named_entry (links_of (g d)) (r.names.each d) j l hl) (named_entry (links_of (g e)) (r.names.each e) k m hm ∙ ap (λ (x : ℕ). Some x) (sym same)) in
    (one.0, (r.names.each d).each j k l m hl (ap (λ x. slice_get (links_of (g x)) k) one.0 ∙ hm) one.1)

-- no two paths from the root lead to one node
pub one_path : (n : ℕ) (g : Graph) → IsRooted n g → (p q : Path') (i : ℕ) → follow g 0 p ≡ Some i → follow g 0 q ≡ Some i → p ≡ q
one_path n g r p q i h k = go (length p) p q i (omega arith) h k
  where
    to_root : (q : Path') (i : ℕ) → i ≡ 0 → follow g 0 q ≡ Some i → q ≡ []
    to_root q i z k = by (ends q)
      where
        by : (q ≡ []) ⊎ Ends q → q ≡ []
        by (inl e) = e
        by (inr e) =
            let s = last_step g e.front e.name i (sym (ap (follow g 0) e.is) ∙ k) in
            absurd ((r.target s.dir i e.name s.last).0 z)

    empty : (p : Path') (i : ℕ) → p ≡ [] → follow g 0 p ≡ Some i → i ≡ 0
    empty p i e h = some_is (sym h ∙ ap (follow g 0) e)

    longer : (p : Path') (e : Ends p) → length p ≡ length e.front + 1
    longer p e = ap length e.is ∙ length-append e.front (e.name ∷ [])

    go : (m : ℕ) (p q : Path') (i : ℕ) → length p ≤ m → follow g 0 p ≡ Some i → follow g 0 q ≡ Some i → p ≡ q
    go zero p q i le h k = by (ends p)
      where
        by : (p ≡ []) ⊎ Ends p → p ≡ q
        by (inl e) = e ∙ sym (to_root q i (empty p i e h) k)
        by (inr e) = absurd (omega (arith, longer p e))
    go (suc m) p q i le h k = by (go m) (ends p) (ends q)
      where
        by : ((p q : Path') (i : ℕ) → length p ≤ m → follow g 0 p ≡ Some i → follow g 0 q ≡ Some i → p ≡ q) → (p ≡ []) ⊎ Ends p → (q ≡ []) ⊎ Ends q → p ≡ q
        by rest (inl e) f = e ∙ sym (to_root q i (empty p i e h) k)
        by rest (inr e) (inl f) = to_root p i (empty q i f k) h ∙ sym f
        by rest (inr e) (inr f) =
            let s = last_step g e.front e.name i (sym (ap (follow g 0) e.is) ∙ h) in
            let t = last_step g f.front f.name i (sym (ap (follow g 0) f.is) ∙ k) in
            let o = r.once s.dir t.dir i e.name f.name s.last t.last in
            let fronts = rest e.front f.front s.dir (omega (arith, longer p e)) s.to_dir (t.to_dir ∙ ap (λ (x : ℕ). Some x) (sym o.0)) in
            e.is ∙ ap (λ (x : Path'). x ++ e.name ∷ []) fronts ∙ ap (λ (x : Name'). f.front ++ x ∷ []) o.1 ∙ sym f.is
