-- The blocks that are held, as a list of those that were found.
use Rattle.std.proofs.Common.{◌≡◌, ◌≢◌, ℕ, zero, suc, ◌<◌, Bool, true, false, ◌&&◌, T, cond, is_some, List, [], ◌∷◌, length, get_or, map, Some, true≢false, refl, sym, ap, ◌∙◌, arith}
use Rattle.std.specs.declared.cmp.Ordering.{Ordering}
use Rattle.std.specs.declared.cmp.Ordering.TheVariants.{Less, Equal, Greater}
use Rattle.std.specs.List.{All, AllPairs, Any}
use Rattle.std.specs.Ordering.{nat_cmp, is_lt, is_eq}
use Rattle.std.specs.FinMap as finmap
use Rattle.std.specs.FinMap.Entries.{below_all}
use Rattle.std.proofs.lemmas.List.Elements.{All-map}
use mathlib.Core.Logic.{dite}
use native.Mathlib.Decide.{ℕ_discrete}
use Rattle.zj_history.specs.Operation.{FoundBlock}
use Rattle.zj_turns.specs.Views.{Hold, found_of, found_in}
use Rattle.zj_turns.proofs.Maps.{tied, untied}

first : (a b : Bool) → T (a && b) → T a
first true b h = tt
first false b h = h

second : (a b : Bool) → T (a && b) → T b
second true b h = h
second false b h = absurd h

less_apart : (a b : ℕ) (r : Ordering) → nat_cmp a b ≡ r → T (is_lt r) → a ≢ b
less_apart a b Less e h same = true≢false (sym (tied a b same) ∙ ap is_eq e)
less_apart a b Equal e h same = absurd h
less_apart a b Greater e h same = absurd h

below_apart : (k : ℕ) (es : List (ℕ × Hold)) (i : ℕ) (d : ℕ × Hold) → T (below_all nat_cmp k es) → i < length es → k ≢ (get_or es i d).0
below_apart k [] i d h lt = absurd (omega arith)
below_apart k (e ∷ es) zero d h lt = less_apart k e.0 (nat_cmp k e.0) refl (first _ _ h)
below_apart k (e ∷ es) (suc i) d h lt = below_apart k es i d (second _ _ h) (omega arith)

found_at : (es : List (ℕ × Hold)) (i : ℕ) (d : ℕ × Hold) → T (finmap.is_sorted nat_cmp es) → i < length es → finmap.find nat_cmp (get_or es i d).0 es ≡ Some (get_or es i d).1
found_at [] i d h lt = absurd (omega arith)
found_at (e ∷ es) zero d h lt = ap (λ t. cond t (Some e.1) (finmap.find nat_cmp e.0 es)) (tied e.0 e.0 refl)
found_at (e ∷ es) (suc i) d h lt =
    ap (λ t. cond t (Some e.1) (finmap.find nat_cmp (get_or es i d).0 es)) (untied (get_or es i d).0 e.0 (λ same. below_apart e.0 es i d (first _ _ h) (omega arith) (sym same)))
    ∙ found_at es i d (second _ _ h) (omega arith)

-- what is so of each block that is held is so of each that was found
pub all_found : (F : FoundBlock → Type 0) (m : finmap.FinMap nat_cmp Hold) → ((b : ℕ) (h : Hold) → finmap.get m b ≡ Some h → F (found_of b h)) → All F (found_in m)
all_found F m each = All-map F (λ e. found_of e.0 e.1) (finmap.entries m)
    (λ k d lt. each (get_or (finmap.entries m) k d).0 (get_or (finmap.entries m) k d).1 (finmap.get-entries m (get_or (finmap.entries m) k d).0 ∙ found_at (finmap.entries m) k d (finmap.entries_sorted m) lt))

below_found : (k : ℕ) (es : List (ℕ × Hold)) (j : ℕ) (d : FoundBlock) → T (below_all nat_cmp k es) → j < length (map (λ e. found_of e.0 e.1) es) → k ≢ (get_or (map (λ e. found_of e.0 e.1) es) j d).block
below_found k [] j d h lt = absurd (omega arith)
below_found k (e ∷ es) zero d h lt = less_apart k e.0 (nat_cmp k e.0) refl (first _ _ h)
below_found k (e ∷ es) (suc j) d h lt = below_found k es j d (second _ _ h) (omega arith)

pairs_apart : (es : List (ℕ × Hold)) → T (finmap.is_sorted nat_cmp es) → AllPairs (λ a b. a.block ≢ b.block) (map (λ e. found_of e.0 e.1) es)
pairs_apart [] h i j d lt inside = absurd (omega arith)
pairs_apart (e ∷ es) h i zero d lt inside = absurd (omega arith)
pairs_apart (e ∷ es) h zero (suc j) d lt inside = below_found e.0 es j d (first _ _ h) (omega arith)
pairs_apart (e ∷ es) h (suc i) (suc j) d lt inside = pairs_apart es (second _ _ h) i j d (omega arith) (omega arith)

-- no block was found twice
pub found_once : (m : finmap.FinMap nat_cmp Hold) → AllPairs (λ a b. a.block ≢ b.block) (found_in m)
found_once m = pairs_apart (finmap.entries m) (finmap.entries_sorted m)

any_at : (es : List (ℕ × Hold)) (b : ℕ) → is_some (finmap.find nat_cmp b es) ≡ true → Any (λ f. f.block ≡ b) (map (λ e. found_of e.0 e.1) es)
any_at [] b p = absurd (true≢false (sym p))
any_at (e ∷ es) b p = dite (ℕ_discrete b e.0)
    (λ is. (0, found_of e.0 e.1, omega arith, refl, sym is))
    (λ no. let rest = any_at es b (ap (λ t. is_some (cond t (Some e.1) (finmap.find nat_cmp b es))) (sym (untied b e.0 no)) ∙ p) in (suc rest.0, rest.1, omega (arith, rest.2), rest.3, rest.4))

-- a block that is held was found
pub any_found : (m : finmap.FinMap nat_cmp Hold) (b : ℕ) → is_some (finmap.get m b) ≡ true → Any (λ f. f.block ≡ b) (found_in m)
any_found m b p = any_at (finmap.entries m) b (ap is_some (sym (finmap.get-entries m b)) ∙ p)
