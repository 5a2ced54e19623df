-- A reading of the journals gathers what each holds, and two bounds may choose the same of it.
use Rattle.std.proofs.Common.{◌≡◌, ℕ, zero, suc, ◌+◌, ◌<◌, true, cond, List, [], ◌∷◌, ◌++◌, length, map, set, Some, refl, sym, ap, ◌∙◌, subst, arith, add-one}
use Rattle.std.specs.Prelude.{nat_lt, slice_get}
use Rattle.std.specs.List.{flat_map, range_with_len}
use Rattle.std.proofs.Math.ListN.{get_or-append}
use Rattle.std.proofs.lemmas.List.{get_or_push, length_push, length-map, map-append}
use Rattle.zj_history.specs.Transactions.{Bounds}
use Rattle.zj_home.specs.Super.{Super}
use Rattle.zj_tx.specs.declared.part.Part.{Part}
use Rattle.zj_tx.specs.Record.{Record, bare}
use Rattle.zj_area.specs.Journal.{JournalView}
use Rattle.zj_closure.specs.Found.{Journals, records_of, tail_of}
use Rattle.zj_closure.specs.Kept.{AreKept}
use Rattle.zj_closure.specs.Laws.{BareAreKept}
use Rattle.zj_closure.specs.Newest.{HasNewest, HasNewestOf}
use Rattle.zj_closure.specs.Recovered.{kept_records, records_below}
use Rattle.zj_closure.proofs.Bare.{bare_records}
use Rattle.zj_closure.proofs.NewestLemmas.{cores_next, records_more}
use Rattle.zj_mount.specs.Inspecting.{IsOnlyRead}
use Rattle.zj_mount.specs.Gathering.{ChooseSame, GathersBelow, GathersKept, GathersOne}
use Rattle.zj_mount.proofs.InspectLemmas.{FoundTo, seen_more}

-- ---- two bounds that choose the same

below_same : (guess kept : ℕ) (records : List Record) → ChooseSame guess kept (map bare records) → records_below guess records ≡ records_below kept records
below_same guess kept [] same = refl
below_same guess kept (r ∷ rs) same =
    ap (λ b. cond b (r ∷ records_below guess rs) (records_below guess rs)) (same 0)
    ∙ ap (λ l. cond (nat_lt r.number kept) (r ∷ l) l) (below_same guess kept rs (λ i. same (suc i)))

kept_same : (found : Journals) (guess kept : Bounds) → ((core : ℕ) → ChooseSame (guess core) (kept core) (map bare (records_of found core))) → kept_records found guess ≡ kept_records found kept
kept_same found guess kept same =
    let each : (λ core. records_below (guess core) (records_of found core)) ≡ (λ core. records_below (kept core) (records_of found core)) = λ i core. below_same (guess core) (kept core) (records_of found core) (same core) i in
    ap (λ (f : ℕ → List Record). flat_map f (range_with_len 0 (length found))) each

-- a guess that chose what is kept
pub settled : (super : Super) (journals : List JournalView) (guess kept : Bounds) (heads : Journals) (images : List Part) → length journals ≡ super.sizes.cores → BareAreKept → GathersBelow journals guess heads images
    → AreKept (tail_of super.tails) heads kept → ((core : ℕ) → ChooseSame (guess core) (kept core) (records_of heads core)) → GathersKept super journals heads kept images
settled super journals guess kept heads images cores law g is same = record {
  found = g.found;
  holds = record {
    many = g.many ∙ cores;
    holds = λ core below. g.holds core (omega (arith, below, cores));
    is_kept = law (tail_of super.tails) g.found kept (subst (λ (h : Journals). AreKept (tail_of super.tails) h kept) g.bared is);
  };
  many = ap length g.bared ∙ length-map g.found (map bare);
  counts = λ core. ap length (heads_are core) ∙ length-map (records_of g.found core) bare;
  newest = subst (HasNewest images) (kept_same g.found guess kept (λ core. subst (ChooseSame (guess core) (kept core)) (heads_are core) (same core))) g.newest;
}
  where
    heads_are : (core : ℕ) → records_of heads core ≡ map bare (records_of g.found core)
    heads_are core = ap (λ (h : Journals). records_of h core) g.bared ∙ bare_records g.found core

-- ---- one journal more

same_to : (f g : ℕ → List Record) (n : ℕ) → ((k : ℕ) → k < n → f k ≡ g k) → flat_map f (range_with_len 0 n) ≡ flat_map g (range_with_len 0 n)
same_to f g zero each = refl
same_to f g (suc n) each =
    ap (λ m. flat_map f (range_with_len 0 m)) (sym (add-one n)) ∙ cores_next f n
    ∙ ap (λ l. l ++ f n) (same_to f g n (λ k below. each k (omega (arith, below)))) ∙ ap (λ l. flat_map g (range_with_len 0 n) ++ l) (each n (omega arith))
    ∙ sym (cores_next g n) ∙ ap (λ m. flat_map g (range_with_len 0 m)) (add-one n)

kept_push : (found : Journals) (records : List Record) (bounds : Bounds) (core : ℕ) → length found ≡ core → kept_records (found ++ records ∷ []) bounds ≡ kept_records found bounds ++ records_below (bounds core) records
kept_push found records bounds core many =
    let longer : length (found ++ records ∷ []) ≡ core + 1 = length_push found records ∙ ap (λ n. n + 1) many in
    ap (λ m. flat_map now (range_with_len 0 m)) longer ∙ cores_next now core
    ∙ ap (λ l. l ++ now core) (same_to now old core (λ k below. ap (records_below (bounds k)) (get_or-append found (records ∷ []) [] k (omega (arith, below, many)))))
    ∙ ap (λ l. flat_map old (range_with_len 0 core) ++ l) (ap (records_below (bounds core)) (get_or_push found records [] core many))
    ∙ ap (λ m. flat_map old (range_with_len 0 m) ++ records_below (bounds core) records) (sym many)
  where
    now : ℕ → List Record
    now k = records_below (bounds k) (records_of (found ++ records ∷ []) k)

    old : ℕ → List Record
    old k = records_below (bounds k) (records_of found k)

newest_more : (mid new : List Part) (rs ss : List Record) → HasNewest mid rs → HasNewestOf mid new ss → HasNewest new (rs ++ ss)
newest_more mid new rs ss before more =
    let both = records_more [] mid new rs ss (record { images = before.newest; ascending = before.ascending }) more in
    record { newest = both.images; ascending = both.ascending }

-- what was gathered of the first journals, so many
pub record GatheredTo (old now : List JournalView) (bounds : Bounds) (heads : Journals) (images : List Part) (core : ℕ) : Type 0 where
  pub found : Journals
  pub so_far : FoundTo old now found core
  pub bared : heads ≡ map (map bare) found
  pub newest : HasNewest images (kept_records found bounds)

pub gathered_more : {J : Type 0} (view : J → JournalView) (old now : List J) (bounds : Bounds) (heads : Journals) (images more : List Part) (head : List Record) (core bound : ℕ) (a b : J) → core < length now → slice_get now core ≡ Some a
    → GatheredTo (map view old) (map view now) bounds heads images core → bound ≡ bounds core → IsOnlyRead (view a) (view b) → (view b).ready ≡ true → GathersOne (view a) bound images more head
    → GatheredTo (map view old) (map view (set now core b)) bounds (heads ++ head ∷ []) more (core + 1)
gathered_more view old now bounds heads images more head core bound a b below here g same reads ready one = record {
  found = g.found ++ one.records ∷ [];
  so_far = seen_more view old now g.found core a b below here g.so_far one.records reads ready one.holds;
  bared = ap (λ (h : Journals). h ++ head ∷ []) g.bared ∙ ap (λ (r : List Record). map (map bare) g.found ++ r ∷ []) one.bared ∙ sym (map-append (map bare) g.found (one.records ∷ []));
  newest = subst (HasNewest more) (sym (kept_push g.found one.records bounds core g.so_far.many))
      (newest_more images more (kept_records g.found bounds) (records_below (bounds core) one.records) g.newest (subst (λ (n : ℕ). HasNewestOf images more (records_below n one.records)) same one.added));
}
