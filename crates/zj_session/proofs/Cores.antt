-- Cores that are made of passes and journals one by one, and closed again.
use Rattle.std.proofs.Common.{◌≡◌, ℕ, zero, suc, ◌+◌, ◌-◌, ◌<◌, List, [], ◌∷◌, ◌++◌, length, reverse, Some, None, IfSome, slice_get, refl, sym, ap, ◌∙◌, subst, arith, ⊎_elim, append_assoc, length-append}
use Rattle.std.proofs.lemmas.List.{map-append, reverse-append, same_from_push}
use Rattle.zj_area.specs.Journal.{AreaView}
use Rattle.zj_block.specs.Sizes.{Numbers}
use Rattle.zj_tx.specs.Running.{empty_transaction}
use Rattle.zj_turns.specs.Passes.{CacheParameters, IsIdle, PassState, dealt, fresh, mine}
use Rattle.zj_turns.specs.Views.{Known, blank}
use Rattle.zj_turns.proofs.Lone.{fresh_idle, lone_is}
use Rattle.zj_core.specs.Core.{CoreState, IsReadyToCommit}
use Rattle.zj_session.specs.Playing.{AreIdle, AreJournals, journals_of}
use Rattle.zj_session.specs.Starting.{AreFresh, IsFresh}
use Rattle.zj_session.proofs.Lists.{all_at, at_end}

module _ {X : Type 0} where
  -- the last of a list goes behind one, or comes from the front of it
  pub turned : (xs ys ws vs : List X) (a : X) → ys ≡ xs ++ a ∷ [] → vs ≡ ws ++ a ∷ [] → xs ++ reverse vs ≡ ys ++ reverse ws
  turned xs ys ws vs a ys_is vs_is =
      ap (λ v. xs ++ reverse v) vs_is ∙ ap (λ r. xs ++ r) (reverse-append ws (a ∷ [])) ∙ sym (append_assoc xs (a ∷ []) (reverse ws)) ∙ ap (λ y. y ++ reverse ws) (sym ys_is)

  pub nil_right : (xs : List X) → xs ++ [] ≡ xs
  nil_right [] = refl
  nil_right (x ∷ xs) = ap (λ l. x ∷ l) (nil_right xs)

  pub none_long : (xs : List X) → length xs ≡ 0 → xs ≡ []
  none_long [] none = refl
  none_long (x ∷ xs) none = absurd (omega arith)

  -- what stands behind a list
  pub at_front : (xs ys zs : List X) (a : X) (n : ℕ) → length xs ≡ n → xs ++ (a ∷ ys) ≡ zs → slice_get zs n ≡ Some a
  at_front [] ys zs a n long is = ap (slice_get zs) (sym long) ∙ ap (λ l. slice_get l 0) (sym is)
  at_front (x ∷ xs) ys zs a zero long is = absurd (omega arith)
  at_front (x ∷ xs) ys zs a (suc n) long is = ap (λ l. slice_get l (suc n)) (sym is) ∙ at_front xs ys (xs ++ (a ∷ ys)) a n (omega arith) refl

-- passes that are dealt go to the cores from 0 on
module _ (cache : CacheParameters) (n core : ℕ) (low : core < n) where
  dealt_suc : dealt cache.table n (n - core) ≡ dealt cache.table n (n - (core + 1)) ++ fresh cache.table core ∷ []
  dealt_suc =
      let k : ℕ = n - (core + 1) in
      let at : n - core ≡ suc k = omega arith in
      let own : n - suc k ≡ core = omega arith in
      ap (dealt cache.table n) at ∙ ap (λ (c : ℕ). dealt cache.table n k ++ fresh cache.table c ∷ []) own

  pub dealt_some : (ps : List PassState) → ps ≡ dealt cache.table n (n - core) → ps ≡ [] → ⊥
  dealt_some ps is none =
      let e : [] ≡ dealt cache.table n (n - (core + 1)) ++ fresh cache.table core ∷ [] = sym none ∙ is ∙ dealt_suc in
      let long = ap length e ∙ length-append (dealt cache.table n (n - (core + 1))) (fresh cache.table core ∷ []) in
      omega arith

  pub dealt_out : (ps qs : List PassState) (p : PassState) → ps ≡ dealt cache.table n (n - core) → ps ≡ qs ++ p ∷ [] → (qs ≡ dealt cache.table n (n - (core + 1))) × (p ≡ fresh cache.table core)
  dealt_out ps qs p is out = same_from_push qs (dealt cache.table n (n - (core + 1))) p (fresh cache.table core) (sym out ∙ is ∙ dealt_suc)

pub idle_fresh : (cache : CacheParameters) (core : ℕ) (p : PassState) → p ≡ fresh cache.table core → IsIdle p.table p.core p
idle_fresh cache core p is = subst (λ (q : PassState). IsIdle q.table q.core q) (sym is) (fresh_idle cache.table core)

pub none_fresh : (cache : CacheParameters) (core : ℕ) (p : PassState) → p ≡ fresh cache.table core → (mine p).operations ≡ []
none_fresh cache core p is = ap (λ (k : Known). k.operations) (lone_is cache.table core blank p is)

pub idle_all : {D : Type 0} (cache : CacheParameters) (sizes : Numbers) (cores : List (CoreState D)) → AreFresh cache sizes cores → AreIdle cores
idle_all {D} cache sizes cores each = all_at (λ (c : CoreState D). c.begun ≡ None) cores (λ i c at. (each i c at).idle)

-- one core more, which is made of a pass that was dealt and a journal
module _ {D : Type 0} (cache : CacheParameters) (sizes : Numbers) (cores : List (CoreState D)) (n : ℕ) (long : length cores ≡ n) (c : CoreState D) (p : PassState) (a : AreaView D) (made : c ≡ record { pass = p; area = a; sizes = sizes; begun = None; running = empty_transaction p.core sizes.cores a.end.number }) where
  made_fresh : p ≡ fresh cache.table n → IsFresh cache sizes n c
  made_fresh own = record {
    pass = ap (λ (d : CoreState D). d.pass) made ∙ own;
    sizes_are = ap (λ (d : CoreState D). d.sizes) made;
    idle = ap (λ (d : CoreState D). d.begun) made;
    running = ap (λ (d : CoreState D). d.running) made ∙ (λ i. empty_transaction ((own i).core) sizes.cores (sym made i).area.end.number);
  }

  pub fresh_more : p ≡ fresh cache.table n → (later : List (CoreState D)) → later ≡ cores ++ c ∷ [] → AreFresh cache sizes cores → AreFresh cache sizes later
  fresh_more own later put each i d at = ⊎_elim
      (λ r. each i d r.1)
      (λ r. subst (λ (e : CoreState D). IsFresh cache sizes i e) r.1 (subst (λ j. IsFresh cache sizes j c) (sym (r.0 ∙ long)) (made_fresh own)))
      (at_end cores c i d (ap (λ (l : List (CoreState D)). slice_get l i) (sym put) ∙ at))

pub journals_long : {D : Type 0} (cs : List (CoreState D)) → length (journals_of cs) ≡ length cs
journals_long [] = refl
journals_long (c ∷ cs) = ap suc (journals_long cs)

-- journals are those of cores, and then those that wait, of which the last is the next core's
module _ {D : Type 0} (cores : List (CoreState D)) (rest waiting areas : List (AreaView D)) (a : AreaView D) (is : journals_of cores ++ reverse waiting ≡ areas) (out : waiting ≡ rest ++ a ∷ []) where
  next_out : journals_of cores ++ (a ∷ reverse rest) ≡ areas
  next_out = ap (λ r. journals_of cores ++ r) (sym (ap reverse out ∙ reverse-append rest (a ∷ []))) ∙ is

  pub own_journal : (sizes : Numbers) (n : ℕ) → length cores ≡ n → AreJournals sizes areas → (a.core ≡ n) × (a.sizes ≡ sizes) × IsReadyToCommit a
  own_journal sizes n long each =
      subst (λ o. IfSome o (λ (area : AreaView D). (area.core ≡ n) × (area.sizes ≡ sizes) × IsReadyToCommit area)) (at_front (journals_of cores) (reverse rest) areas a n (journals_long cores ∙ long) next_out) (each n)

  pub journals_more : (c : CoreState D) (p : PassState) (sizes : Numbers) → c ≡ record { pass = p; area = a; sizes = sizes; begun = None; running = empty_transaction p.core sizes.cores a.end.number } → (later : List (CoreState D)) → later ≡ cores ++ c ∷ [] → journals_of later ++ reverse rest ≡ areas
  journals_more c p sizes made later put =
      ap (λ (l : List (CoreState D)). journals_of l ++ reverse rest) put
      ∙ ap (λ l. l ++ reverse rest) (map-append (λ (d : CoreState D). d.area) cores (c ∷ [])) ∙ append_assoc (journals_of cores) (c.area ∷ []) (reverse rest)
      ∙ ap (λ (d : CoreState D). journals_of cores ++ (d.area ∷ reverse rest)) made ∙ next_out

module _ {D : Type 0} where
  -- one core is closed, and its journal goes behind others
  pub behind : (places later : List (AreaView D)) (left rest : List (CoreState D)) (c : CoreState D) (a : AreaView D) → a ≡ c.area → later ≡ places ++ a ∷ [] → left ≡ c ∷ rest
      → later ++ journals_of rest ≡ places ++ journals_of left
  behind places later left rest c a own put out =
      ap (λ l. l ++ journals_of rest) put ∙ append_assoc places (a ∷ []) (journals_of rest) ∙ ap (λ (b : AreaView D). places ++ (b ∷ journals_of rest)) own
      ∙ ap (λ (l : List (CoreState D)). places ++ journals_of l) (sym out)

  -- where no journal waits any more, all are of the cores
  pub all_made : (cores : List (CoreState D)) (left waiting areas : List (AreaView D)) → journals_of cores ++ reverse left ≡ reverse waiting → left ≡ [] → reverse waiting ≡ areas → journals_of cores ≡ areas
  all_made cores left waiting areas is none taken =
      sym (nil_right (journals_of cores)) ∙ ap (λ (l : List (AreaView D)). journals_of cores ++ reverse l) (sym none) ∙ is ∙ taken

  pub all_long : (cores : List (CoreState D)) (areas : List (AreaView D)) → journals_of cores ≡ areas → length cores ≡ length areas
  all_long cores areas is = sym (journals_long cores) ∙ ap length is
