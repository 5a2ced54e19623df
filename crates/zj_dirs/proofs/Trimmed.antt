-- Without the contents that come out as they were found, the same state is made.
use Rattle.std.proofs.Common.{◌≡◌, ◌≢◌, ◌⊎◌, inl, inr, ℕ, suc, ◌+◌, ◌%◌, ◌<◌, Bool, true, false, cond, eqb, eqb-true, List, [], ◌∷◌, length, Option, Some, None, IsSome, refl, sym, ap, ◌∙◌, subst, arith, slice_get}
use Rattle.std.specs.List.{find}
use Rattle.std.specs.Option.{option_map, unwrap_or}
use Rattle.std.specs.FinMap as map_of
use Rattle.std.specs.FinMap.{get-empty, get-insert}
use Rattle.std.specs.Cmp.{nat_cmp_total}
use Rattle.std.specs.Ordering.{nat_cmp, eq_by_cmp}
use native.Mathlib.Decide.{ℕ_discrete}
use Rattle.zj_block.specs.Lists.{Entries, content_under}
use Rattle.zj_block.specs.Sizes.{Numbers}
use Rattle.zj_tree.specs.Tree.{FileTree}
use Rattle.zj_layout.specs.Node.{byte_in}
use Rattle.zj_layout.specs.Image.{State, block_at, map_block}
use Rattle.zj_layout.specs.Shows.{Changes, put_blocks}
use Rattle.zj_layout.proofs.Changed.{map_agree}
use Rattle.zj_layout.proofs.Follow.{some_is, none_some}
use Rattle.zj_layout.proofs.Live.{same_name}
use Rattle.zj_dirs.specs.Possible.{IsPossible}
use Rattle.zj_dirs.specs.Trimming.{Counts, IsTrimmed, IsTrimmedAt, WasFoundFree}
use Rattle.zj_dirs.proofs.Put.{same_key, other_key}
use Rattle.zj_dirs.proofs.Seen.{seen_block}

pub trimmed_put : (found : Entries) (built before after : Changes) (b : ℕ) (c : List ℕ) → after ≡ map_of.insert before b c → map_of.get built b ≡ Some c → Counts found b c → IsTrimmedAt found built before after b
trimmed_put found built before after b c is new differs = record {
  others = λ other ne. at other ∙ ap (λ x. cond x (Some c) (map_of.get before other)) (other_key other b ne);
  only = λ content h. let same : content ≡ c = some_is (sym h ∙ here) in inr (new ∙ ap (λ (x : List ℕ). Some x) (sym same), subst (Counts found b) (sym same) differs);
  all = λ content h ne. here ∙ sym new ∙ h;
}
  where
    at : (k : ℕ) → map_of.get after k ≡ cond (eq_by_cmp nat_cmp k b) (Some c) (map_of.get before k)
    at k = ap (λ w. map_of.get w k) is ∙ get-insert nat_cmp_total before b c k

    here : map_of.get after b ≡ Some c
    here = at b ∙ ap (λ x. cond x (Some c) (map_of.get before b)) (same_key b b refl)

pub nothing_put : (w : Changes) (b : ℕ) (c : List ℕ) → w ≡ map_of.empty → map_of.get w b ≡ Some c → ⊥
nothing_put w b c e h = none_some (sym (ap (λ x. map_of.get x b) e ∙ get-empty nat_cmp b) ∙ h)

-- a block that was found stands somewhere in the list
pub found_place : (es : Entries) (b : ℕ) → IsSome (content_under es b) → (k : ℕ) × (f : List ℕ) × (slice_get es k ≡ Some (b, f))
found_place [] b h = absurd cc
found_place (e ∷ es) b h = by (found_place es b) (eqb e.0 b) refl h
  where
    by : (IsSome (content_under es b) → (k : ℕ) × (f : List ℕ) × (slice_get es k ≡ Some (b, f))) → (t : Bool) → eqb e.0 b ≡ t → IsSome (option_map (λ (x : ℕ × List ℕ). x.1) (cond t (Some e) (find (λ (x : ℕ × List ℕ). eqb x.0 b) es)))
        → (k : ℕ) × (f : List ℕ) × (slice_get (e ∷ es) k ≡ Some (b, f))
    by rest true q h = (0, e.1, λ i. Some (eqb-true e.0 b q i, e.1))
    by rest false q h = let r = rest h in (suc r.0, r.1, r.2)

-- what is known of the trimmed contents once some of the taken blocks were looked at
pub record TrimsFirst (found : Entries) (built written : Changes) (count : ℕ) : Type 0 where
  pub only : (b : ℕ) (c : List ℕ) → map_of.get written b ≡ Some c → (map_of.get built b ≡ Some c) × Counts found b c
  pub all : (k b : ℕ) (f c : List ℕ) → k < count → slice_get found k ≡ Some (b, f) → map_of.get built b ≡ Some c → Counts found b c → map_of.get written b ≡ Some c

pub trims_none : (found : Entries) (built written : Changes) → written ≡ map_of.empty → TrimsFirst found built written 0
trims_none found built written is = record {
  only = λ b c h. absurd (nothing_put written b c is h);
  all = λ k b f c lt. absurd (omega arith);
}

pub trims_past : (found : Entries) (built written : Changes) (i : ℕ) → TrimsFirst found built written i → slice_get found i ≡ None → TrimsFirst found built written (i + 1)
trims_past found built written i r past = record {
  only = r.only;
  all = λ k b f c lt at. r.all k b f c (before k (ℕ_discrete k i) lt (λ e. none_some (sym past ∙ ap (slice_get found) (sym e) ∙ at))) at;
}
  where
    before : (k : ℕ) → Dec (k ≡ i) → k < i + 1 → (k ≢ i) → k < i
    before k d lt ne = omega (arith, lt, ne)

pub trims_more : (found : Entries) (built before after : Changes) (i b : ℕ) (f : List ℕ) → TrimsFirst found built before i → slice_get found i ≡ Some (b, f) → IsTrimmedAt found built before after b → TrimsFirst found built after (i + 1)
trims_more found built before after i b f r at t = record {
  only = λ x c h. only x c h (ℕ_discrete x b);
  all = λ k x g c lt there new counts. all k x g c lt there new counts (ℕ_discrete x b) (ℕ_discrete k i);
}
  where
    cases : (x : ℕ) (c : List ℕ) → (map_of.get before x ≡ Some c) ⊎ ((map_of.get built x ≡ Some c) × Counts found x c) → (map_of.get built x ≡ Some c) × Counts found x c
    cases x c (inl h) = r.only x c h
    cases x c (inr h) = h

    only : (x : ℕ) (c : List ℕ) → map_of.get after x ≡ Some c → Dec (x ≡ b) → (map_of.get built x ≡ Some c) × Counts found x c
    only x c h (yes e) = subst (λ y. (map_of.get built y ≡ Some c) × Counts found y c) (sym e) (cases b c (t.only c (ap (map_of.get after) (sym e) ∙ h)))
    only x c h (no ne) = r.only x c (sym (t.others x ne) ∙ h)

    all : (k x : ℕ) (g c : List ℕ) → k < i + 1 → slice_get found k ≡ Some (x, g) → map_of.get built x ≡ Some c → Counts found x c → Dec (x ≡ b) → Dec (k ≡ i) → map_of.get after x ≡ Some c
    all k x g c lt there new counts (yes e) d = ap (map_of.get after) e ∙ t.all c (ap (map_of.get built) (sym e) ∙ new) (subst (λ y. Counts found y c) e counts)
    all k x g c lt there new counts (no ne) (no other) = t.others x ne ∙ r.all k x g c (omega (arith, lt, other)) there new counts
    all k x g c lt there new counts (no ne) (yes same) = absurd (ne (ap (λ (y : ℕ × List ℕ). y.0) (some_is (sym there ∙ ap (slice_get found) same ∙ at))))

module _ (sizes : Numbers) (found : Entries) (built after : Changes) (t : IsTrimmed found built after) where
  -- the same state is made
  pub same_made : (state : State) (tree : FileTree) → IsPossible sizes found state tree → put_blocks state after ≡ put_blocks state built
  unfolding put_blocks
  same_made state tree p = map_agree (λ b. unwrap_or (map_of.get after b) (block_at state b)) (λ b. unwrap_or (map_of.get built b) (block_at state b)) 0 (length state) (λ b le lt. by b (map_of.get after b) refl (map_of.get built b) refl)
    where
      kept : (b : ℕ) (c : List ℕ) → map_of.get after b ≡ None → map_of.get built b ≡ Some c → (o : Option (List ℕ)) → content_under found b ≡ o → block_at state b ≡ c
      kept b c e f None q = absurd (none_some (sym e ∙ t.all b c f (inl (λ z. none_some (sym q ∙ z)))))
      kept b c e f (Some x) q = cases (same_name x c)
        where
          cases : (x ≡ c) ⊎ (x ≢ c) → block_at state b ≡ c
          cases (inl same) = seen_block sizes found state tree p b x q ∙ same
          cases (inr ne) = absurd (none_some (sym e ∙ t.all b c f (inl (λ z. ne (some_is (sym q ∙ z))))))

      by : (b : ℕ) → (o : Option (List ℕ)) → map_of.get after b ≡ o → (w : Option (List ℕ)) → map_of.get built b ≡ w → unwrap_or (map_of.get after b) (block_at state b) ≡ unwrap_or (map_of.get built b) (block_at state b)
      by b (Some c) e w f = ap (λ x. unwrap_or x (block_at state b)) (e ∙ sym (t.only b c e).0)
      by b None e None f = ap (λ x. unwrap_or x (block_at state b)) (e ∙ sym f)
      by b None e (Some c) f = ap (λ x. unwrap_or x (block_at state b)) e ∙ kept b c e f (content_under found b) refl ∙ sym (ap (λ x. unwrap_or x (block_at state b)) f)

-- a block of which the map as it was found says otherwise, or whose block of the map was not taken, was not found free
pub found_free : (found : Entries) (block : ℕ) (map : List ℕ) → content_under found (map_block block) ≡ Some map → WasFoundFree found block → byte_in map (block % 512) ≡ 0
found_free found block map is f = ap (λ m. byte_in m (block % 512)) (some_is (sym is ∙ f.has)) ∙ f.free

pub not_taken_free : (found : Entries) (block : ℕ) → content_under found (map_block block) ≡ None → WasFoundFree found block → ⊥
not_taken_free found block is f = none_some (sym is ∙ f.has)
