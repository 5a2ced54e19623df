-- The calls of a commit, one after the other: what a crash may leave at each moment.
use Rattle.std.proofs.Common.{◌≡◌, ℕ, ◌+◌, ◌-◌, List, subst, arith}
use Rattle.zj_dev.specs.Disk.{Continues, DiskView, EachImageSince, SameOutside, StaysSince, TearsSince}
use Rattle.zj_dev.proofs.DiskLaws.{each_then, same_outside_refl}
use Rattle.zj_area.specs.Moments.{TornByGate, TornByLay}

module _ (place len next : ℕ) (old : DiskView) where
  abbrev Lays : List ℕ → Type 0
  Lays image = TornByLay place len next old image

  -- the record is written
  pub lay_body : (d1 : DiskView) (count : ℕ) → count ≡ len - 1 → TearsSince (place + 1) count old d1 → EachImageSince old.calls d1 (TornByLay place len next old)
  lay_body d1 count many torn moment image from to may =
      let t = torn moment image from to may in
      record { before = t.0; middle = image; left = t.1; body = subst (λ (k : ℕ). SameOutside (place + 1) k t.0 image) many t.2; gate = same_outside_refl next 1 image }

  -- the gate of the next one is closed
  pub lay_gate : (d1 d2 : DiskView) (count : ℕ) → count ≡ len - 1 → Continues old d1 → TearsSince (place + 1) count old d1 → Continues d1 d2 → TearsSince next 1 d1 d2 → EachImageSince old.calls d2 (TornByLay place len next old)
  lay_gate d1 d2 count many on torn on2 gate =
      each_then old.calls d1 d2 Lays on2 (lay_body d1 count many torn)
      (λ moment image from to may.
      let middle = gate moment image from to may in
      let t = torn d1.calls middle.0 on.calls (omega arith) middle.1 in
      record { before = t.0; middle = middle.0; left = t.1; body = subst (λ (k : ℕ). SameOutside (place + 1) k t.0 middle.0) many t.2; gate = middle.2 })

  -- both are synced
  pub lay_sync : (d1 d2 d3 : DiskView) (count : ℕ) → count ≡ len - 1 → Continues old d1 → TearsSince (place + 1) count old d1 → Continues d1 d2 → TearsSince next 1 d1 d2 → Continues d2 d3 → StaysSince d2 d3
      → EachImageSince old.calls d3 (TornByLay place len next old)
  lay_sync d1 d2 d3 count many on torn on2 gate on3 stays =
      let before = lay_gate d1 d2 count many on torn on2 gate in
      each_then old.calls d2 d3 Lays on3 before (λ moment image from to may. before d2.calls image (omega (arith, on.calls, on2.calls)) (omega arith) (stays moment image from to may))

module _ (place : ℕ) (old : DiskView) where
  abbrev Opens : List ℕ → Type 0
  Opens image = TornByGate place old image

  -- the gate is opened
  pub open_gate : (d1 : DiskView) → TearsSince place 1 old d1 → EachImageSince old.calls d1 (TornByGate place old)
  open_gate d1 torn moment image from to may =
      let t = torn moment image from to may in
      record { before = t.0; left = t.1; gate = t.2 }

  -- and synced
  pub open_sync : (d1 d2 : DiskView) → Continues old d1 → TearsSince place 1 old d1 → Continues d1 d2 → StaysSince d1 d2 → EachImageSince old.calls d2 (TornByGate place old)
  open_sync d1 d2 on torn on2 stays =
      let before = open_gate d1 torn in
      each_then old.calls d1 d2 Opens on2 before (λ moment image from to may. before d1.calls image on.calls (omega arith) (stays moment image from to may))
