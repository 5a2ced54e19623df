-- What is kept depends on how many records were found and on their bounds alone, and so not on their blocks.
use Rattle.std.proofs.Common.{◌≡◌, ◌⊎◌, inl, inr, ℕ, ◌+◌, ◌-◌, ◌<◌, ◌≤◌, List, [], length, map, Option, Some, None, refl, sym, ap, ◌∙◌, subst}
use Rattle.std.specs.Prelude.{slice_get, slice_index}
use Rattle.std.specs.Option.{option_map}
use Rattle.std.proofs.Math.ListN.{get_or-map}
use Rattle.std.proofs.lemmas.List.{length-map}
use Rattle.std.proofs.lemmas.Option.{slice_get-map, same_Some}
use Rattle.zj_block.specs.declared.numbers.Writer.{Writer}
use Rattle.zj_history.specs.Transactions.{Bounds}
use Rattle.zj_tx.specs.Record.{Record, bare}
use Rattle.zj_closure.specs.Found.{Journals, records_of, end_of, IsFoundAs, LeadsOut, missing, follows}
use Rattle.zj_closure.specs.Kept.{AreKept}
use Rattle.zj_closure.specs.Laws.{BareAreKept}

-- what was found in one was found in the other, with the same bounds
record AreLike (tails : Bounds) (one other : Journals) : Type 0 where
  ends : (core : ℕ) → end_of tails one core ≡ end_of tails other core
  same : (t : Writer) (r : Record) → IsFoundAs tails one t r → (s : Record) × IsFoundAs tails other t s × (s.bounds ≡ r.bounds)

leads_like : (tails : Bounds) (one other : Journals) → AreLike tails one other → (t : Writer) → LeadsOut tails one t → LeadsOut tails other t
leads_like tails one other like _ (missing t out) = missing t (subst (λ (n : ℕ). n ≤ t.number) (like.ends t.core) out)
leads_like tails one other like _ (follows t u f out) = follows t u (record { not_below = f.not_below; follows = by f.follows }) (leads_like tails one other like u out)
  where
    by : ((u.core ≡ t.core) × (u.number < t.number)) ⊎ ((r : Record) × IsFoundAs tails one t r × (u.number < slice_index r.bounds u.core))
        → ((u.core ≡ t.core) × (u.number < t.number)) ⊎ ((r : Record) × IsFoundAs tails other t r × (u.number < slice_index r.bounds u.core))
    by (inl e) = inl e
    by (inr e) = let s = like.same t e.0 e.1 in inr (s.0, s.1, subst (λ (b : List ℕ). u.number < slice_index b u.core) (sym s.2) e.2)

kept_like : (tails : Bounds) (one other : Journals) (kept : Bounds) → AreLike tails one other → AreLike tails other one → AreKept tails one kept → AreKept tails other kept
kept_like tails one other kept like back k = record {
  above_tails = k.above_tails;
  within_found = λ core. subst (λ (n : ℕ). kept core ≤ n) (like.ends core) (k.within_found core);
  keeps = λ t le lt out. k.keeps t le lt (leads_like tails other one back t out);
  drops = λ t le lt. leads_like tails one other like t (k.drops t le (subst (λ (n : ℕ). t.number < n) (sym (like.ends t.core)) lt));
}

-- ---- records without their blocks

pub bare_records : (found : Journals) (core : ℕ) → records_of (map (map bare) found) core ≡ map bare (records_of found core)
bare_records found core = get_or-map (map bare) found core []

bare_ends : (tails : Bounds) (found : Journals) (core : ℕ) → end_of tails (map (map bare) found) core ≡ end_of tails found core
bare_ends tails found core = ap (λ (n : ℕ). tails core + n) (ap length (bare_records found core) ∙ length-map (records_of found core) bare)

-- the record that a bare one is of
with_blocks : (o : Option Record) (r : Record) → option_map bare o ≡ Some r → (s : Record) × (o ≡ Some s) × (s.bounds ≡ r.bounds)
with_blocks None r e = absurd cc
with_blocks (Some s) r e = (s, refl, ap (λ (q : Record). q.bounds) (same_Some (bare s) r e))

bare_at : (found : Journals) (core n : ℕ) → slice_get (records_of (map (map bare) found) core) n ≡ option_map bare (slice_get (records_of found core) n)
bare_at found core n = ap (λ (rs : List Record). slice_get rs n) (bare_records found core) ∙ slice_get-map bare (records_of found core) n

pub bare_are_kept : BareAreKept
bare_are_kept tails found kept = kept_like tails (map (map bare) found) found kept (record {
  ends = bare_ends tails found;
  same = λ t r at.
      let s = with_blocks (slice_get (records_of found t.core) (t.number - tails t.core)) r (sym (bare_at found t.core (t.number - tails t.core)) ∙ at.at) in
      (s.0, record { from_tail = at.from_tail; at = s.1 }, s.2);
}) (record {
  ends = λ core. sym (bare_ends tails found core);
  same = λ t r at. (bare r, record { from_tail = at.from_tail; at = bare_at found t.core (t.number - tails t.core) ∙ ap (option_map bare) at.at }, refl);
})
