-- One journal after the other is read.
use Rattle.std.proofs.Common.{◌≡◌, ◌≢◌, ℕ, zero, suc, ◌+◌, ◌<◌, ◌≤◌, List, [], ◌∷◌, ◌++◌, length, set, refl, sym, ap, subst, ◌∙◌, arith, inl, inr}
use Rattle.std.specs.Prelude.{Option, Some, None, IsSomeAnd, MatchOption, slice_get}
use Rattle.std.proofs.lemmas.Bool.{cases_eq}
use Rattle.std.proofs.lemmas.List.{length_push}
use Rattle.zj_dev.specs.Disk.{DiskView, OnlyReads}
use Rattle.zj_area.specs.Journal.{AreaView}
use Rattle.zj_mount.specs.declared.fault.MountFault.{MountFault}
use Rattle.zj_mount.specs.Scanning.{AreCounted, AreRead, AreReady, HoldsSome, IsAreaCause, IsNowReady, RestIfNone, RestsIfSettled, StopsAt}
use Rattle.zj_mount.proofs.OpenLemmas.{push_at, push_before}
use Rattle.zj_dev.proofs.DiskLaws.{reads_refl}

-- an element that was set
pub set_there : {X : Type 0} (xs : List X) (i : ℕ) (x : X) → i < length xs → slice_get (set xs i x) i ≡ Some x
set_there [] i x below = absurd (omega arith)
set_there (y ∷ ys) zero x below = refl
set_there (y ∷ ys) (suc i) x below = set_there ys i x (omega arith)

pub set_elsewhere : {X : Type 0} (xs : List X) (i k : ℕ) (x : X) → k ≢ i → slice_get (set xs i x) k ≡ slice_get xs k
set_elsewhere [] i k x other = refl
set_elsewhere (y ∷ ys) zero zero x other = absurd (other refl)
set_elsewhere (y ∷ ys) zero (suc k) x other = refl
set_elsewhere (y ∷ ys) (suc i) zero x other = refl
set_elsewhere (y ∷ ys) (suc i) (suc k) x other = set_elsewhere ys i k x (λ e. other (ap suc e))

module _ {D : Type 0} (view : D → DiskView) (old : List (AreaView D)) where
  -- what was read so far: the areas from a core on are as they were
  pub record ReadTo (now : List (AreaView D)) (counts : List ℕ) (core : ℕ) : Type 0 where
    pub read : AreRead view old now
    pub rest : (k : ℕ) → core ≤ k → slice_get now k ≡ slice_get old k
    pub many : length counts ≡ core
    pub counted : AreCounted view old counts core
    pub ready : AreReady old now core
    pub resting : RestIfNone view old now counts core

  pub read_none : ReadTo old [] 0
  read_none = record { read = λ core. none (slice_get old core); rest = λ k le. refl; many = refl; counted = λ core below. absurd (omega arith); ready = λ core below. absurd (omega arith); resting = λ core below. absurd (omega arith) }
    where
      none : (o : Option (AreaView D)) → MatchOption o (o ≡ None) (λ a. IsSomeAnd o (λ b. OnlyReads (view a.device) (view b.device)))
      none None = refl
      none (Some a) = reads_refl (view a.device)

  -- the area that is next
  pub next_is : (now : List (AreaView D)) (counts : List ℕ) (core : ℕ) (a : AreaView D) → slice_get now core ≡ Some a → ReadTo now counts core → slice_get old core ≡ Some a
  next_is now counts core a here so_far = sym (so_far.rest core (omega arith)) ∙ here

  -- was read
  pub read_here : (now : List (AreaView D)) (counts : List ℕ) (core : ℕ) (a b : AreaView D) → core < length now → slice_get now core ≡ Some a → ReadTo now counts core → OnlyReads (view a.device) (view b.device) → AreRead view old (set now core b)
  read_here now counts core a b below here so_far reads k =
      elim (cases_eq k core) [
        | inl e ↦
            let first = next_is now counts core a here so_far in
            let there : MatchOption (slice_get old core) (slice_get (set now core b) core ≡ None) (λ x. IsSomeAnd (slice_get (set now core b) core) (λ y. OnlyReads (view x.device) (view y.device))) =
            rw (first, set_there now core b below) reads in
            subst (λ (i : ℕ). MatchOption (slice_get old i) (slice_get (set now core b) i ≡ None) (λ x. IsSomeAnd (slice_get (set now core b) i) (λ y. OnlyReads (view x.device) (view y.device)))) (sym e) there
        | inr other ↦ rw (set_elsewhere now core k b other) (so_far.read k)
      ]

  -- and counted
  pub read_more : (now : List (AreaView D)) (counts : List ℕ) (core count : ℕ) (a b : AreaView D) → core < length now → slice_get now core ≡ Some a → ReadTo now counts core → OnlyReads (view a.device) (view b.device) → IsNowReady a b → HoldsSome view a count
      → (count ≡ 0 → RestsIfSettled view a b) → ReadTo (set now core b) (counts ++ count ∷ []) (core + 1)
  read_more now counts core count a b below here so_far reads ready holds rests = record {
    read = read_here now counts core a b below here so_far reads;
    rest = λ k le. set_elsewhere now core k b (λ e. omega (arith, e)) ∙ so_far.rest k (omega arith);
    many = omega (arith, length_push counts count, so_far.many);
    counted = λ k under.
        elim (cases_eq k core) [
          | inl e ↦
              let at : slice_get (counts ++ count ∷ []) core ≡ Some count = ap (slice_get (counts ++ count ∷ [])) (sym so_far.many) ∙ push_at counts count in
              let there : IsSomeAnd (slice_get old core) (λ x. IsSomeAnd (slice_get (counts ++ count ∷ []) core) (HoldsSome view x)) = rw (next_is now counts core a here so_far, at) holds in
              subst (λ (i : ℕ). IsSomeAnd (slice_get old i) (λ x. IsSomeAnd (slice_get (counts ++ count ∷ []) i) (HoldsSome view x))) (sym e) there
          | inr other ↦ rw (push_before counts count k (omega (arith, so_far.many))) (so_far.counted k (omega arith))
        ];
    ready = λ k under.
        elim (cases_eq k core) [
          | inl e ↦
              let there : IsSomeAnd (slice_get old core) (λ x. IsSomeAnd (slice_get (set now core b) core) (IsNowReady x)) = rw (next_is now counts core a here so_far, set_there now core b below) ready in
              subst (λ (i : ℕ). IsSomeAnd (slice_get old i) (λ x. IsSomeAnd (slice_get (set now core b) i) (IsNowReady x))) (sym e) there
          | inr other ↦ rw (set_elsewhere now core k b other) (so_far.ready k (omega arith))
        ];
    resting = λ k under.
        elim (cases_eq k core) [
          | inl e ↦
              let at : slice_get (counts ++ count ∷ []) core ≡ Some count = ap (slice_get (counts ++ count ∷ [])) (sym so_far.many) ∙ push_at counts count in
              let there : IsSomeAnd (slice_get old core) (λ x. IsSomeAnd (slice_get (set now core b) core) (λ y. IsSomeAnd (slice_get (counts ++ count ∷ []) core) (λ n. n ≡ 0 → RestsIfSettled view x y))) =
              rw (next_is now counts core a here so_far, set_there now core b below, at) rests in
              subst (λ (i : ℕ). IsSomeAnd (slice_get old i) (λ x. IsSomeAnd (slice_get (set now core b) i) (λ y. IsSomeAnd (slice_get (counts ++ count ∷ []) i) (λ n. n ≡ 0 → RestsIfSettled view x y)))) (sym e) there
          | inr other ↦ rw (set_elsewhere now core k b other, push_before counts count k (omega (arith, so_far.many))) (so_far.resting k (omega arith))
        ];
  }

  -- or not
  pub stops_here : (now : List (AreaView D)) (counts : List ℕ) (core : ℕ) (a b : AreaView D) (fault : MountFault) → core < length now → slice_get now core ≡ Some a → ReadTo now counts core → IsAreaCause view core a b fault → StopsAt view old (set now core b) counts fault
  stops_here now counts core a b fault below here so_far cause = record { core = core; counted = so_far.counted; here = rw (next_is now counts core a here so_far, set_there now core b below) cause }

  -- before it was
  pub stops_before : (now : List (AreaView D)) (counts : List ℕ) (core : ℕ) (a : AreaView D) (fault : MountFault) → slice_get now core ≡ Some a → ReadTo now counts core → IsAreaCause view core a a fault → StopsAt view old now counts fault
  stops_before now counts core a fault here so_far cause = record { core = core; counted = so_far.counted; here = rw (next_is now counts core a here so_far, here) cause }
