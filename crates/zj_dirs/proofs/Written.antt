-- One more written block.
use Rattle.std.proofs.Common.{◌≡◌, ℕ, ◌+◌, ◌≤◌, Bool, true, false, cond, List, Option, Some, None, IsSome, refl, sym, ap, ◌∙◌, subst, arith}
use Rattle.std.specs.Option.{option_or}
use Rattle.std.specs.FinMap as map_of
use Rattle.std.specs.FinMap.{get-insert, len-insert}
use Rattle.std.specs.Cmp.{nat_cmp_total}
use Rattle.std.specs.Ordering.{nat_cmp, eq_by_cmp}
use Rattle.zj_block.specs.Lists.{Entries, content_under}
use Rattle.zj_layout.specs.Shows.{Changes}
use Rattle.zj_dirs.specs.Possible.{AllTaken, overlaid}
use Rattle.zj_dirs.proofs.Put.{same_number}

-- a block that was seen before one more content was put is seen after it
pub still_seen : (found : Entries) (before after : Changes) (k : ℕ) (c : List ℕ) → after ≡ map_of.insert before k c → (b : ℕ) → overlaid found after b ≡ None → overlaid found before b ≡ None
still_seen found before after k c is b h = by (eq_by_cmp nat_cmp b k) (sym (ap (λ o. option_or o (content_under found b)) (ap (λ w. map_of.get w b) is ∙ get-insert nat_cmp_total before k c b)) ∙ h)
  where
    by : (x : Bool) → option_or (cond x (Some c) (map_of.get before b)) (content_under found b) ≡ None → overlaid found before b ≡ None
    by true e = absurd cc
    by false e = e

-- a content for a block that was seen is one for a block that was taken
pub taken_with : (found : Entries) (before after : Changes) (k : ℕ) (old c : List ℕ) → after ≡ map_of.insert before k c → overlaid found before k ≡ Some old → AllTaken found before → AllTaken found after
taken_with found before after k old c is seen all b h = by (eq_by_cmp nat_cmp b k) refl (subst IsSome (ap (λ w. map_of.get w b) is ∙ get-insert nat_cmp_total before k c b) h)
  where
    there : (o : Option (List ℕ)) → map_of.get before k ≡ o → option_or o (content_under found k) ≡ Some old → IsSome (content_under found k)
    there None e s = subst IsSome (sym s) refl
    there (Some x) e s = all k (subst IsSome (sym e) refl)

    by : (x : Bool) → eq_by_cmp nat_cmp b k ≡ x → IsSome (cond x (Some c) (map_of.get before b)) → IsSome (content_under found b)
    by true e h = subst (λ y. IsSome (content_under found y)) (sym (same_number b k e)) (there (map_of.get before k) refl seen)
    by false e h = all b h

-- where each written block was taken, what has no content was not taken
pub none_seen : (found : Entries) (written : Changes) (block : ℕ) → AllTaken found written → overlaid found written block ≡ None → content_under found block ≡ None
none_seen found written block all h = by (map_of.get written block) h
  where
    by : (o : Option (List ℕ)) → option_or o (content_under found block) ≡ None → content_under found block ≡ None
    by None e = e
    by (Some c) e = absurd cc

pub none_taken : (found : Entries) (written : Changes) (block : ℕ) → AllTaken found written → content_under found block ≡ None → overlaid found written block ≡ None
none_taken found written block all h = by (map_of.get written block) refl
  where
    dead : {o : Option (List ℕ)} → IsSome o → o ≡ None → ⊥
    dead s e = cc

    by : (o : Option (List ℕ)) → map_of.get written block ≡ o → overlaid found written block ≡ None
    by None e = ap (λ o. option_or o (content_under found block)) e ∙ h
    by (Some c) e = absurd (dead (all block (subst IsSome (sym e) refl)) h)

-- one more content makes at most one written block more
pub one_more : (before after : Changes) (k : ℕ) (c : List ℕ) → after ≡ map_of.insert before k c → map_of.len after ≤ map_of.len before + 1
one_more before after k c is = by (map_of.contains_key before k) (ap map_of.len is ∙ len-insert nat_cmp_total before k c)
  where
    by : (b : Bool) → map_of.len after ≡ cond b (map_of.len before) (map_of.len before + 1) → map_of.len after ≤ map_of.len before + 1
    by true e = omega (arith, e)
    by false e = omega (arith, e)
