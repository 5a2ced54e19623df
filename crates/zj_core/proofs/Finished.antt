-- An operation of what is held and stored: what it found and wrote, that a tree is left, and what is known once all is given.
use Rattle.std.proofs.Common.{◌≡◌, ◌≢◌, ◌⊎◌, inl, inr, ℕ, Bool, true, false, T, ◌&&◌, cond, not, ◌==◌, ne_eqb, is_some, true≢false, List, [], ◌∷◌, ◌++◌, length, map, take, refl, sym, ap, ◌∙◌, subst, arith, Some, None, Option, IsSome}
use Rattle.std.specs.Prelude.{slice_get}
use Rattle.std.specs.Option.{option_map, unwrap_or}
use Rattle.std.specs.Ordering.{nat_cmp, eq_by_cmp, is_lt}
use Rattle.std.specs.Cmp.{nat_cmp_total}
use Rattle.std.specs.List.{All}
use Rattle.std.specs.FinMap as finmap
use Rattle.std.specs.FinMap.Entries.{below_all, same_entries}
use Rattle.std.proofs.lemmas.List.Elements.{All-cons, All-head, All-nil, All-tail}
use mathlib.Core.Logic.{dite}
use native.Mathlib.Decide.{ℕ_discrete}
use Rattle.zj_block.specs.Block.{IsContent}
use Rattle.zj_block.specs.Lists.{AreContents, Entries, content_under}
use Rattle.zj_block.specs.Sizes.{Numbers}
use Rattle.zj_history.specs.Operation.{Contents, FoundBlock, Operation}
use Rattle.zj_history.specs.State.{BlockState, put}
use Rattle.zj_tree.specs.Tree.{FileTree}
use Rattle.zj_layout.specs.Shows.{Shows, ShowsSome, put_blocks}
use Rattle.zj_layout.proofs.Follow.{none_some}
use Rattle.zj_dirs.specs.Possible.{IsPossible}
use Rattle.zj_inode.specs.Laws.{PutsAreOne}
use Rattle.zj_turns.specs.CacheHistory.{Agrees, operations_on}
use Rattle.zj_turns.specs.Views.{Has, Hold, IsUnwritten, Known, drawing, each, found_in, found_of, is_stored, operation_of, stored_as, taken, writer_in, written_in}
use Rattle.zj_turns.specs.Passes.{CacheParameters, IsLoadedAfter, KnowsHistory, PassState, mine, now_knowing}
use Rattle.zj_turns.proofs.Maps.{some_there, tied, untied}
use Rattle.zj_turns.proofs.Seats.{known_of, knowing_at}
use Rattle.zj_turns.proofs.States.{get-written_in}
use Rattle.zj_core.specs.Handle.{HasTaken, root_block}
use Rattle.zj_core.specs.Steps.{Draws, KeepsTree, given_back, stored_into, with_operation}
use Rattle.zj_core.proofs.Knowing.{has_now, mine_is, next_step, none_there, same_maps}
use Rattle.zj_core.proofs.Stored.{stored_at, stored_get, stored_operations, stored_there}
use Rattle.zj_core.proofs.Given.{given_clear, given_get, given_number, given_operations, given_ticket}

-- ---- what is held, block by block

module _ {X : Type 0} (f : Hold → X) where
  below_each : (k : ℕ) (es : List (ℕ × Hold)) → below_all nat_cmp k (each f es) ≡ below_all nat_cmp k es
  below_each k [] = refl
  below_each k (e ∷ es) = ap (λ t. is_lt (nat_cmp k e.0) && t) (below_each k es)

  sorted_each : (es : List (ℕ × Hold)) → finmap.is_sorted nat_cmp (each f es) ≡ finmap.is_sorted nat_cmp es
  sorted_each [] = refl
  sorted_each (e ∷ es) = λ i. below_each e.0 es i && sorted_each es i

  find_each : (es : List (ℕ × Hold)) (b : ℕ) → finmap.find nat_cmp b (each f es) ≡ option_map f (finmap.find nat_cmp b es)
  find_each [] b = refl
  find_each (e ∷ es) b = by (eq_by_cmp nat_cmp b e.0) (find_each es b)
    where
      by : (t : Bool) → finmap.find nat_cmp b (each f es) ≡ option_map f (finmap.find nat_cmp b es) → cond t (Some (f e.1)) (finmap.find nat_cmp b (each f es)) ≡ option_map f (cond t (Some e.1) (finmap.find nat_cmp b es))
      by true rest = refl
      by false rest = rest

  -- maps that say the same of each block say the same block by block
  each_same : (m n : finmap.FinMap nat_cmp Hold) → ((b : ℕ) → option_map f (finmap.get m b) ≡ option_map f (finmap.get n b)) → each f (finmap.entries m) ≡ each f (finmap.entries n)
  each_same m n is = same_entries nat_cmp nat_cmp_total finmap.nat_cmp-IsAntisymmetric (each f (finmap.entries m)) (each f (finmap.entries n))
      (subst T (sym (sorted_each (finmap.entries m))) (finmap.entries_sorted m)) (subst T (sym (sorted_each (finmap.entries n))) (finmap.entries_sorted n))
      (λ b. find_each (finmap.entries m) b ∙ ap (option_map f) (sym (finmap.get-entries m b)) ∙ is b ∙ ap (option_map f) (finmap.get-entries n b) ∙ sym (find_each (finmap.entries n) b))

abbrev found_word : ℕ × List ℕ → FoundBlock
found_word e = record { block = e.0; content = take 64 e.1; writer = writer_in e.1 }

found_each : (es : List (ℕ × Hold)) → map (λ e. found_of e.0 e.1) es ≡ map found_word (each (λ h. h.loaded) es)
found_each [] = refl
found_each (e ∷ es) = ap (λ l. found_of e.0 e.1 ∷ l) (found_each es)

-- blocks that were loaded alike were found alike
found_same : (m n : finmap.FinMap nat_cmp Hold) → ((b : ℕ) → option_map (λ h. h.loaded) (finmap.get m b) ≡ option_map (λ h. h.loaded) (finmap.get n b)) → found_in m ≡ found_in n
found_same m n is = found_each (finmap.entries m) ∙ ap (map found_word) (each_same (λ h. h.loaded) m n is) ∙ sym (found_each (finmap.entries n))

pub found_entries : (es : List (ℕ × Hold)) → map {B = ℕ × List ℕ} (λ (f : FoundBlock). (f.block, f.content)) (map (λ e. found_of e.0 e.1) es) ≡ map {B = ℕ × List ℕ} (λ e. (e.0, take 64 e.1.loaded)) es
found_entries [] = refl
found_entries (e ∷ es) = ap (λ l. (e.0, take 64 e.1.loaded) ∷ l) (found_entries es)

-- what is so of all entries is so of the one that is found
all_find : {X : Type 0} (P : ℕ × X → Type 0) (es : List (ℕ × X)) → All P es → (b : ℕ) (x : X) → finmap.find nat_cmp b es ≡ Some x → P (b, x)
all_find P [] all b x at = absurd (none_some at)
all_find {X} P (e ∷ es) all b x at = dite (ℕ_discrete b e.0)
    (λ is. let value : e.1 ≡ x = ap (λ (o : Option X). unwrap_or o x) (sym (ap (λ t. cond t (Some e.1) (finmap.find nat_cmp b es)) (tied b e.0 is)) ∙ at) in
    subst P (λ i. (sym is i, value i)) (All-head P e es all))
    (λ differs. all_find P es (All-tail P e es all) b x (sym (ap (λ t. cond t (Some e.1) (finmap.find nat_cmp b es)) (untied b e.0 differs)) ∙ at))

all_unmap : {X Y : Type 0} (P : Y → Type 0) (f : X → Y) (xs : List X) → All P (map f xs) → All (λ x. P (f x)) xs
all_unmap P f [] all = All-nil (λ x. P (f x))
all_unmap P f (x ∷ xs) all = All-cons (λ x. P (f x)) x xs (All-head P (f x) (map f xs) all) (all_unmap P f xs (All-tail P (f x) (map f xs) all))

-- ---- what was stored

content_long : (written : Contents) → AreContents (finmap.entries written) → (b : ℕ) (c : List ℕ) → finmap.get written b ≡ Some c → length c ≡ 64
content_long written contents b c at =
    let fits : IsContent c = all_find (λ (e : ℕ × List ℕ). IsContent e.1) (finmap.entries written) contents b c (sym (finmap.get-entries written b) ∙ at) in fits.many

module _ (k : Known) (written : Contents) where
  abbrev stored : Known
  stored = stored_into k (finmap.entries written)

  stored_here : (b : ℕ) → finmap.get stored.held b ≡ stored_at (finmap.get k.held b) (finmap.get written b)
  stored_here b = stored_get k (finmap.entries written) b ∙ ap (stored_at (finmap.get k.held b)) (sym (finmap.get-entries written b))

  -- the contents that were stored are the ones that are written
  stored_written : ((b : ℕ) (h : Hold) → finmap.get k.held b ≡ Some h → h.stored ≡ []) → AreContents (finmap.entries written) → written_in stored.held ≡ written
  stored_written unstored contents = same_maps (written_in stored.held) written (λ b.
      get-written_in stored.held b
      ∙ ap (λ (o : Option Hold). option_map (λ (h : Hold). h.stored) (cond (is_stored o) o None)) (stored_here b)
      ∙ by (finmap.get k.held b) (finmap.get written b) (unstored b) (content_long written contents b))
    where
      by : (o : Option Hold) (w : Option (List ℕ)) → ((h : Hold) → o ≡ Some h → h.stored ≡ []) → ((c : List ℕ) → w ≡ Some c → length c ≡ 64)
          → option_map (λ (h : Hold). h.stored) (cond (is_stored (stored_at o w)) (stored_at o w) None) ≡ w
      by None None u long = refl
      by (Some h) None u long = ap (λ (s : List ℕ). option_map (λ (h : Hold). h.stored) (cond (not (length s == 0)) (Some h) None)) (u h refl)
      by o (Some c) u long =
          ap (λ t. option_map (λ (h : Hold). h.stored) (cond (not t) (Some (stored_as (unwrap_or o taken).loaded c)) None))
          (ne_eqb (length c) 0 (λ none. let many : length c ≡ 64 = long c refl in omega arith))

  module _ (within : (b : ℕ) → finmap.contains_key written b ≡ true → finmap.contains_key k.held b ≡ true) where
    -- they were loaded as before
    stored_found : found_in stored.held ≡ found_in k.held
    stored_found = found_same stored.held k.held (λ b. ap (option_map (λ (h : Hold). h.loaded)) (stored_here b) ∙ by (finmap.get k.held b) (finmap.get written b) (within b))
      where
        by : (o : Option Hold) (w : Option (List ℕ)) → (is_some w ≡ true → is_some o ≡ true) → option_map (λ (h : Hold). h.loaded) (stored_at o w) ≡ option_map (λ (h : Hold). h.loaded) o
        by o None in_held = refl
        by (Some h) (Some c) in_held = refl
        by None (Some c) in_held = absurd (true≢false (sym (in_held refl)))

    -- a block that isn't held stays so
    stored_free : (b : ℕ) → finmap.get k.held b ≡ None → finmap.get stored.held b ≡ None
    stored_free b free = stored_here b ∙ by (finmap.get k.held b) (finmap.get written b) (within b) free
      where
        by : (o : Option Hold) (w : Option (List ℕ)) → (is_some w ≡ true → is_some o ≡ true) → o ≡ None → stored_at o w ≡ None
        by o None in_held free = free
        by o (Some c) in_held free = absurd (true≢false (sym (in_held refl) ∙ ap is_some free))

-- a block that was loaded whole is so after storing
pub read_stored : (k : Known) (es : Entries) → ((b : ℕ) (h : Hold) → finmap.get k.held b ≡ Some h → length h.loaded ≡ 67) → ((b : ℕ) → is_some (finmap.find nat_cmp b es) ≡ true → finmap.contains_key k.held b ≡ true)
    → (b : ℕ) (h : Hold) → finmap.get (stored_into k es).held b ≡ Some h → length h.loaded ≡ 67
read_stored k es read within b h at = by (finmap.get k.held b) (finmap.find nat_cmp b es) (read b) (within b) (sym (stored_get k es b) ∙ at)
  where
    by : (o : Option Hold) (w : Option (List ℕ)) → ((h : Hold) → o ≡ Some h → length h.loaded ≡ 67) → (is_some w ≡ true → is_some o ≡ true) → stored_at o w ≡ Some h → length h.loaded ≡ 67
    by o None r i at = r h at
    by None (Some c) r i at = absurd (true≢false (sym (i refl)))
    by (Some g) (Some c) r i at = sym (ap (λ (o : Option Hold). length (unwrap_or o g).loaded) at) ∙ r g refl

-- ---- what is known

-- One history has all that a pass knows, still where its core holds nothing any more and has the same operations.
pub knows_given : (P : BlockState → Type 0) (cores : ℕ) (start : BlockState) (q r : PassState) (k : Known) → KnowsHistory P cores start q.view → Has q.view q.core → r ≡ now_knowing q k → k.operations ≡ (mine q).operations → k.held ≡ finmap.empty
    → KnowsHistory P cores start r.view
knows_given P cores start q r k knows has is same empty = subst (λ (x : PassState). KnowsHistory P cores start x.view) (sym is) (record {
  history = knows.history;
  legal = knows.legal;
  operations = λ core j at. by_operations core j (knowing_at q.view q.core k core j at);
  loaded = λ core block j h at held unwritten long. by_loaded core block j h (knowing_at q.view q.core k core j at) held unwritten long;
})
  where
    by_operations : (core : ℕ) (j : Known) → ((core ≡ q.core) × (k ≡ j)) ⊎ ((core ≢ q.core) × (finmap.get q.view.known core ≡ Some j)) → operations_on core knows.history ≡ j.operations
    by_operations core j (inl here) =
        ap (λ n. operations_on n knows.history) here.0
        ∙ knows.operations q.core has.0 has.1
        ∙ ap (λ (x : Known). x.operations) (sym (known_of q.view q.core has.0 has.1))
        ∙ sym same
        ∙ ap (λ (x : Known). x.operations) here.1
    by_operations core j (inr there) = knows.operations core j there.1

    by_loaded : (core block : ℕ) (j : Known) (h : Hold) → ((core ≡ q.core) × (k ≡ j)) ⊎ ((core ≢ q.core) × (finmap.get q.view.known core ≡ Some j)) → finmap.get j.held block ≡ Some h → IsUnwritten j h → length h.loaded ≡ 67 → IsLoadedAfter start knows.history block h
    by_loaded core block j h (inl here) held unwritten long =
        absurd (none_some (sym (finmap.get-empty {X = Hold} nat_cmp block) ∙ ap (λ m. finmap.get m block) (sym empty) ∙ ap (λ (x : Known). finmap.get x.held block) here.1 ∙ held))
    by_loaded core block j h (inr there) held unwritten long = knows.loaded core block j h there.1 held unwritten long

-- ---- what was taken

module _ (sizes : Numbers) (p : PassState) (found : Entries) {follows : List ℕ} (has : HasTaken sizes p found follows) where
  -- a block that was taken is held, and no other
  pub taken_held : (b : ℕ) → content_under found b ≢ None → finmap.contains_key (mine p).held b ≡ true
  taken_held b some = by (finmap.get (mine p).held b) (λ none. some (has.same b ∙ none))
    where
      by : (o : Option Hold) → (option_map (λ (h : Hold). take 64 h.loaded) o ≢ None) → is_some o ≡ true
      by None is = absurd (is refl)
      by (Some h) is = refl

  untaken_free : (b : ℕ) → is_some (content_under found b) ≡ false → finmap.get (mine p).held b ≡ None
  untaken_free b none = by (finmap.get (mine p).held b) (sym (ap is_some (has.same b)) ∙ none)
    where
      by : (o : Option Hold) → is_some (option_map (λ (h : Hold). take 64 h.loaded) o) ≡ false → o ≡ None
      by None is = refl
      by (Some h) is = absurd (true≢false is)

  pub root_held : found ≢ [] → finmap.contains_key (mine p).held (root_block sizes) ≡ true
  root_held some = by has.begun
    where
      by : {P : Type 0} → (found ≡ []) ⊎ (IsSome (content_under found (root_block sizes)) × P) → finmap.contains_key (mine p).held (root_block sizes) ≡ true
      by (inl none) = absurd (some none)
      by (inr begun) = taken_held (root_block sizes) (λ none. true≢false (sym begun.0 ∙ ap is_some none))

  -- a state that has what was found is possible
  agrees_possible : (s : BlockState) (tree : FileTree) → Shows sizes s tree → Agrees s (found_in (mine p).held) → IsPossible sizes found s tree
  agrees_possible s tree shows agrees = record { shows = shows; agrees = λ b c at. by b c (finmap.get (mine p).held b) refl (sym (has.same b) ∙ at) }
    where
      by : (b : ℕ) (c : List ℕ) (o : Option Hold) → finmap.get (mine p).held b ≡ o → option_map (λ (h : Hold). take 64 h.loaded) o ≡ Some c → slice_get s b ≡ Some c
      by b c None e at = absurd (none_some at)
      by b c (Some h) e at =
          all_find (λ (e : ℕ × Hold). slice_get s e.0 ≡ Some (take 64 e.1.loaded)) (finmap.entries (mine p).held)
          (all_unmap (λ (f : FoundBlock). slice_get s f.block ≡ Some f.content) (λ (e : ℕ × Hold). found_of e.0 e.1) (finmap.entries (mine p).held) agrees)
          b h (sym (finmap.get-entries (mine p).held b) ∙ e)
          ∙ at

  module _ (written : Contents) (contents : AreContents (finmap.entries written)) (within : (b : ℕ) → finmap.contains_key written b ≡ true → content_under found b ≢ None) where
    in_held : (b : ℕ) → finmap.contains_key written b ≡ true → finmap.contains_key (mine p).held b ≡ true
    in_held b there = taken_held b (within b there)

    written_is : written_in (stored_into (mine p) (finmap.entries written)).held ≡ written
    written_is = stored_written (mine p) written (λ b h at. (has.read b h at).stored) contents

    -- each state that passes the test and has what was found passes it with what is written
    pub passes_written : KeepsTree sizes found written → PutsAreOne → (q : PassState) → q ≡ now_knowing p (stored_into (mine p) (finmap.entries written))
        → (s : BlockState) → ShowsSome sizes s → Agrees s (found_in (mine q).held) → ShowsSome sizes (put s (written_in (mine q).held))
    passes_written keeps one q is s shows agrees =
        let k : Known = stored_into (mine p) (finmap.entries written) in
        let own : mine q ≡ k = mine_is p q k is in
        let found_is : found_in (mine q).held ≡ found_in (mine p).held = ap (λ (x : Known). found_in x.held) own ∙ stored_found (mine p) written in_held in
        let put_is : put s (written_in (mine q).held) ≡ put_blocks s written = ap (λ (x : Known). put s (written_in x.held)) own ∙ ap (put s) written_is ∙ one s written in
        subst (ShowsSome sizes) (sym put_is) (keeps s shows.0 (agrees_possible s shows.0 shows.1 (subst (Agrees s) found_is agrees)))

    pub read_written : (q : PassState) → q ≡ now_knowing p (stored_into (mine p) (finmap.entries written)) → (b : ℕ) (h : Hold) → finmap.get (mine q).held b ≡ Some h → length h.loaded ≡ 67
    read_written q is b h at =
        let k : Known = stored_into (mine p) (finmap.entries written) in
        read_stored (mine p) (finmap.entries written) (λ b h at. (has.read b h at).loaded) (λ b there. in_held b (ap is_some (finmap.get-entries written b) ∙ there)) b h
        (sym (ap (λ (x : Known). finmap.get x.held b) (mine_is p q k is)) ∙ at)

    -- the operation that is drawn for what is held
    module _ (ticket number : ℕ) where
      abbrev pub drawn_operation : Operation
      drawn_operation = operation_of (stored_into (mine p) (finmap.entries written)) ticket p.core number

      abbrev pub drawn_known : Known
      drawn_known = drawing (stored_into (mine p) (finmap.entries written)) drawn_operation

      pub drawn_pass : (q r : PassState) → q ≡ now_knowing p (stored_into (mine p) (finmap.entries written)) → r ≡ now_knowing q (drawing (mine q) (operation_of (mine q) ticket q.core number)) → r ≡ now_knowing p drawn_known
      drawn_pass q r is next =
          next_step (λ x. drawing x (operation_of x ticket q.core number)) p q r (stored_into (mine p) (finmap.entries written)) is next
          ∙ ap (λ core. now_knowing p (drawing (stored_into (mine p) (finmap.entries written)) (operation_of (stored_into (mine p) (finmap.entries written)) ticket core number))) (ap (λ (x : PassState). x.core) is)

      pub drawn_held : (b : ℕ) → content_under found b ≢ None → finmap.contains_key drawn_known.held b ≡ true
      drawn_held b some = stored_there (mine p) (finmap.entries written) b (taken_held b some)

      pub drawn_done : found ≢ [] → drawn_known.drawn ≡ true
      drawn_done some = some_there (stored_into (mine p) (finmap.entries written)).held (root_block sizes) (stored_there (mine p) (finmap.entries written) (root_block sizes) (root_held some))

      none_held : (given_back drawn_known found).held ≡ finmap.empty
      none_held = none_there (given_back drawn_known found).held (λ b. given_get drawn_known found b ∙ by b (is_some (content_under found b)) refl)
        where
          by : (b : ℕ) (t : Bool) → is_some (content_under found b) ≡ t → cond t None (finmap.get drawn_known.held b) ≡ None
          by b true e = refl
          by b false e = stored_free (mine p) written in_held b (untaken_free b e)

      given_is : found ≢ [] → given_back drawn_known found ≡ with_operation (mine p) drawn_operation
      given_is some = λ i. record {
        operations = (given_operations drawn_known found ∙ ap (λ (l : List Operation). l ++ drawn_operation ∷ []) (stored_operations (mine p) (finmap.entries written))) i;
        held = none_held i;
        drawn = given_clear drawn_known found some none_held i;
        ticket = given_ticket drawn_known found i;
        number = given_number drawn_known found i;
      }

-- a pass that stored, drew and gave
pub draws : (cache : CacheParameters) (p : PassState) (found : Entries) {follows : List ℕ} (has : HasTaken cache.sizes p found follows) (written : Contents) (contents : AreContents (finmap.entries written))
    (within : (b : ℕ) → finmap.contains_key written b ≡ true → content_under found b ≢ None) → found ≢ [] → (ticket number : ℕ) (q r s : PassState)
    → q ≡ now_knowing p (stored_into (mine p) (finmap.entries written)) → r ≡ now_knowing q (drawing (mine q) (operation_of (mine q) ticket q.core number)) → s ≡ now_knowing r (given_back (mine r) found)
    → KnowsHistory (ShowsSome cache.sizes) cache.cores cache.start r.view → Draws cache p s written number ticket
draws cache p found has written contents within some ticket number q r s stores tickets gives knows =
    let o : Operation = drawn_operation cache.sizes p found has written contents within ticket number in
    let k : Known = drawn_known cache.sizes p found has written contents within ticket number in
    let drew : r ≡ now_knowing p k = drawn_pass cache.sizes p found has written contents within ticket number q r stores tickets in
    let own : mine r ≡ k = mine_is p r k drew in
    let empty : (given_back (mine r) found).held ≡ finmap.empty = ap (λ (x : Known). (given_back x found).held) own ∙ none_held cache.sizes p found has written contents within ticket number in
    record {
      operation = o;
      ticket_is = refl;
      core_is = refl;
      number_is = refl;
      found = stored_found (mine p) written (in_held cache.sizes p found has written contents within);
      written_is = written_is cache.sizes p found has written contents within;
      pass = next_step (λ x. given_back x found) p r s k drew gives ∙ ap (now_knowing p) (given_is cache.sizes p found has written contents within ticket number some);
      knows = knows_given (ShowsSome cache.sizes) cache.cores cache.start r s (given_back (mine r) found) knows (has_now p r k drew) gives (given_operations (mine r) found) empty;
    }
