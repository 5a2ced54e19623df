-- What a crash leaves while a home is made.
use Rattle.std.proofs.Common.{◌≡◌, ℕ, ◌+◌, ◌*◌, ◌≤◌, true, List, [], ◌∷◌, length, take, drop, Option, Some, None, refl, sym, ap, ◌∙◌, arith, subst, inl, inr, length-drop}
use Rattle.std.specs.Prelude.{◌⊎◌, IfSome, Result, Ok}
use Rattle.std.specs.Option.{option_map}
use Rattle.zj_block.specs.Sizes.{Numbers, IsInLimits}
use Rattle.zj_dev.specs.Disk.{Continues, DiskView, IsDisk, IsSettled, LeadsTo, StaysSince, TearsSince, replaced}
use Rattle.zj_home.specs.Super.{home_length}
use Rattle.zj_home.specs.Made.{GoesFurther, HasNoLetters, HoldsBlocks, IsLaidOut, IsNoImage, IsShut, MakesOnly, first_super, slot_bytes}
use Rattle.zj_home.proofs.Gates.{closed_shut, letters_block, no_letters, shut_body, shut_image, shut_or_open}
use Rattle.zj_home.proofs.LaidOut.{laid_out, laid_out_home}
use Rattle.zj_dev.proofs.DiskLaws.{told_length, continues_trans, leads_synced, leads_then, leads_torn, leads_weaker}

-- the bytes with both gates closed
abbrev pub closed : List ℕ → List ℕ
closed bytes = replaced (replaced bytes 0 (0 ∷ [])) 4096 (0 ∷ [])

-- the bytes with the slot written, its gate last
abbrev pub slotted : List ℕ → List ℕ → List ℕ
slotted slot bytes = replaced (replaced bytes 1 (drop 1 slot)) 0 (take 1 slot)

-- the gates are shut, or the slot was put there whole
abbrev pub IsShutOr : Option (List ℕ) → List ℕ → List ℕ → Type 0
IsShutOr bytes slot image = IsShut image ⊎ (option_map (slotted slot) bytes ≡ Some image)

-- a slot with its gate has a byte
pub some_byte : (slot : List ℕ) → take 1 slot ≡ 1 ∷ [] → 1 ≤ length slot
some_byte [] open_gate = cc
some_byte (byte ∷ rest) open_gate = omega arith

-- one more block
pub letters_more : (first old new : DiskView) (b : ℕ) → GoesFurther first old → GoesFurther old new → LeadsTo HasNoLetters HasNoLetters first old → TearsSince (8192 + 512 * b) 512 old new → LeadsTo HasNoLetters HasNoLetters first new
letters_more first old new b before then letters torn =
    leads_then first old new before.continues then.continues (λ image h. h) letters
    (leads_torn old new (8192 + 512 * b) 512 torn (λ before image may same h. letters_block (8192 + 512 * b) 512 before image (omega arith) same h))

-- the open gate before a body that outlasts a crash
put_whole : (o m : Option (List ℕ)) (slot before image : List ℕ) → m ≡ option_map (λ bytes. replaced bytes 1 (drop 1 slot)) o → m ≡ Some before → take 1 slot ≡ 1 ∷ [] → image ≡ replaced before 0 (1 ∷ [])
    → option_map (slotted slot) o ≡ Some image
put_whole None m slot before image is told gate e = cc
put_whole (Some bytes) m slot before image is told gate e =
    let body : replaced bytes 1 (drop 1 slot) ≡ before = cc in
    rw (e, ← body, gate) refl

-- the write of the gate
pub gate_leads : (first mid new : DiskView) (slot : List ℕ) → IsSettled mid → mid.bytes ≡ option_map (λ bytes. replaced bytes 1 (drop 1 slot)) first.bytes → take 1 slot ≡ 1 ∷ [] → TearsSince 0 1 mid new
    → LeadsTo IsShut (IsShutOr first.bytes slot) mid new
gate_leads first mid new slot settled body gate torn =
    leads_torn mid new 0 1 torn (λ before image may same shut. elim (shut_or_open before image same shut) [
      | inl still ↦ inl still
      | inr whole ↦ inr (put_whole first.bytes mid.bytes slot before image body (settled before may) gate whole)
    ])

-- the write of the body
pub body_leads : (old new : DiskView) (count : ℕ) → count ≤ 4095 → TearsSince 1 count old new → LeadsTo IsShut IsShut old new
body_leads old new count few torn = leads_torn old new 1 count torn (λ before image may same shut. shut_body count before image few same shut)

-- with the slot or without it
pub or_shut : (old new : DiskView) (bytes : Option (List ℕ)) (slot : List ℕ) → LeadsTo IsShut IsShut old new → LeadsTo IsShut (IsShutOr bytes slot) old new
or_shut old new bytes slot shut = leads_weaker old new (λ image h. inl h) shut

-- the body, a sync, and the gate
pub slot_so_far : (first body mid new : DiskView) (slot front back : List ℕ) → front ≡ take 1 slot → back ≡ drop 1 slot → take 1 slot ≡ 1 ∷ [] → length slot ≤ 4096
    → Continues first body → TearsSince 1 (length back) first body → body.bytes ≡ option_map (λ bytes. replaced bytes 1 back) first.bytes
    → Continues body mid → StaysSince body mid → mid.bytes ≡ body.bytes → IsSettled mid
    → Continues mid new → TearsSince 0 (length front) mid new
    → LeadsTo IsShut (IsShutOr first.bytes slot) first new
slot_so_far first body mid new slot front back front_is back_is gate short one torn wrote two stays synced settled three opens =
    let n : length (drop 1 slot) ≤ 4095 = omega (arith, length-drop 1 slot) in
    let few : length back ≤ 4095 = omega (arith, n, ap length back_is) in
    let one_byte : length front ≡ 1 = ap length front_is ∙ ap length gate in
    let bytes : mid.bytes ≡ option_map (λ bytes. replaced bytes 1 (drop 1 slot)) first.bytes = synced ∙ wrote ∙ ap (λ (p : List ℕ). option_map (λ bytes. replaced bytes 1 p) first.bytes) back_is in
    let opened : TearsSince 0 1 mid new = subst (λ (k : ℕ). TearsSince 0 k mid new) one_byte opens in
    leads_then first mid new (continues_trans first body mid one two) three (λ image still. inl still)
    (leads_then first body mid one two (λ image h. h) (body_leads first body (length back) few torn) (leads_synced body mid stays))
    (gate_leads first mid new slot settled bytes gate opened)

-- once the gates were closed, and that outlasts a crash
settled_shut : (old new : DiskView) → IsDisk old → 8192 ≤ old.size → new.bytes ≡ option_map closed old.bytes → IsSettled new → (image : List ℕ) → new.may_leave new.calls image ≡ true → IsShut image
settled_shut old new is long closes settled image may = found old.bytes refl
  where
    nothing : {x : List ℕ} → Some x ≡ None → ⊥
    nothing e = cc

    within : {x y : List ℕ} → Some x ≡ Some y → x ≡ y
    within e = cc

    found : (o : Option (List ℕ)) → old.bytes ≡ o → IsShut image
    found None e = absurd (nothing (sym (settled image may) ∙ closes ∙ ap (option_map closed) e))
    found (Some bytes) e =
        let same : closed bytes ≡ image = within (sym (closes ∙ ap (option_map closed) e) ∙ settled image may) in
        let many = told_length old bytes is e in
        subst IsShut same (closed_shut bytes (omega (arith, many, long)))

-- an image with the slot put behind the closed gates
laid_image : (disk : DiskView) (shut : Option (List ℕ)) (slot : List ℕ) (blocks : List (List ℕ)) (size : ℕ) (image : List ℕ) → IsDisk disk → disk.size ≡ size → size ≡ 8192 + 512 * length blocks → 1 ≤ length slot → length slot ≤ 4096
    → IfSome disk.bytes (λ image. HoldsBlocks image blocks (length blocks)) → shut ≡ option_map closed disk.bytes → option_map (slotted slot) shut ≡ Some image → IsLaidOut slot blocks size image
laid_image disk shut slot blocks size image is same many some short holds closes ends =
    let done : Result (Unit {0}) ℕ = Ok tt in
    laid_out disk done shut (Some image) slot blocks size is same many some short holds closes (sym ends)

-- the slot, behind the closed gates
pub slot_leads : (first wrote shut new : DiskView) (slot : List ℕ) (blocks : List (List ℕ)) (size : ℕ) → IsDisk wrote → wrote.size ≡ size → size ≡ 8192 + 512 * length blocks → 1 ≤ length slot → length slot ≤ 4096
    → IfSome wrote.bytes (λ image. HoldsBlocks image blocks (length blocks)) → shut.bytes ≡ option_map closed wrote.bytes → IsSettled shut
    → Continues first shut → Continues shut new → LeadsTo HasNoLetters HasNoLetters first shut → LeadsTo IsShut (IsShutOr shut.bytes slot) shut new
    → LeadsTo HasNoLetters (λ image. IsNoImage image ⊎ IsLaidOut slot blocks size image) first new
slot_leads first wrote shut new slot blocks size is same many some short holds closes settled before then letters puts =
    leads_then first shut new before then (λ image none. inl (no_letters image none)) letters
    (λ left moment image from until may. elim (puts (settled_shut wrote shut is (omega (arith, same, many)) closes settled) moment image from until may) [
      | inl still ↦ inl (shut_image image still)
      | inr whole ↦ inr (laid_image wrote shut.bytes slot blocks size image is same many some short holds closes whole)
    ])

-- what has no letters is no image, at each moment
pub none_leads : (old new : DiskView) (H : List ℕ → Type 0) → LeadsTo HasNoLetters HasNoLetters old new → LeadsTo HasNoLetters (λ image. IsNoImage image ⊎ H image) old new
none_leads old new H letters = leads_weaker old new (λ image none. inl (no_letters image none)) letters

-- the image of a home
pub makes_only : (old new : DiskView) (n : Numbers) (blocks : List (List ℕ)) (slot : List ℕ) (size : ℕ) → slot ≡ slot_bytes (first_super n) → size ≡ home_length n → IsInLimits n
    → LeadsTo HasNoLetters (λ image. IsNoImage image ⊎ IsLaidOut slot blocks size image) old new → MakesOnly (first_super n) blocks old new
makes_only old new n blocks slot size same long is leads =
    leads_weaker old new (λ image h. elim h [
      | inl none ↦ inl none
      | inr laid ↦ inr (laid_out_home n blocks image is
          (subst (λ (z : ℕ). IsLaidOut (slot_bytes (first_super n)) blocks z image) long (subst (λ (s : List ℕ). IsLaidOut s blocks size image) same laid)))
    ]) leads
