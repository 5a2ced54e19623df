-- How the history of a disk in memory grows with each call, and that what it tells keeps the rules of a disk.
use Rattle.std.proofs.Common.{◌≡◌, ℕ, ◌+◌, ◌-◌, ◌^◌, ◌<◌, ◌≤◌, min, true, cond, ltb, List, [], ◌∷◌, ◌++◌, length, refl, sym, ap, subst, ◌∙◌, arith, Some}
use Rattle.std.specs.Prelude.{All}
use Rattle.std.proofs.lemmas.Bool.{cond-true, cond-false, lt-ltb, le-ltb, cond_both}
use Rattle.std.proofs.lemmas.List.Elements.{All-push}
use Rattle.zj_dev.specs.Disk.{AreBytes, replaced, SameOutside, IsDisk, GoesOn, LeavesAll, TearsOnly, Writes, FailsToWrite, Syncs}
use Rattle.zj_dev.specs.Medium.{Medium, at_rest, changed, medium_at, leaves, filled, fails_at, faults_until, told, IsHistory}
use Rattle.zj_dev.specs.declared.mem_disk.Extent.{Extent}
use Rattle.zj_dev.specs.declared.mem_disk.Change.{Change}
use Rattle.zj_dev.specs.declared.mem_disk.Change.TheVariants.{Wrote, Tore, Synced}
use Rattle.zj_dev.specs.declared.mem_disk.HistoryEntry.{HistoryEntry}
use Rattle.zj_dev.proofs.Images.{IsImage, is_image, is_left, image_bytes, pushed, comes_from, nothing_pending, agrees_itself, agrees_settled, filled_left, replaced_bytes}
use Rattle.zj_dev.proofs.DiskLaws.{length-replaced, replaced_outside}
use Rattle.zj_dev.proofs.Faults.{faults_until-same, no_fewer}

-- a change within a device of so many bytes
abbrev pub FitsIn : ℕ → Change → Type 0
FitsIn size (Wrote extent piece) = extent.at + length piece.items ≤ size
FitsIn size (Tore extent) = Unit {0}
FitsIn size Synced = Unit {0}

abbrev IsSized : ℕ → Medium → Type 0
IsSized size medium = (length medium.bytes ≡ size) × (length medium.settled ≡ size)

changed_size : (size : ℕ) (medium : Medium) (change : Change) → FitsIn size change → IsSized size medium → IsSized size (changed medium change)
changed_size size medium (Wrote extent piece) fits is = (length-replaced medium.bytes extent.at piece.items (omega (arith, fits, is.0)) ∙ is.0, is.1)
changed_size size medium (Tore extent) fits is = is
changed_size size medium Synced fits is = (is.0, is.0)

-- one more entry of the history
medium_at-push : (moment : ℕ) (medium : Medium) (history : List HistoryEntry) (entry : HistoryEntry) →
    medium_at moment medium (history ++ entry ∷ []) ≡ cond (ltb entry.call moment) (changed (medium_at moment medium history) entry.change) (medium_at moment medium history)
medium_at-push moment medium [] entry = refl
medium_at-push moment medium (e ∷ es) entry = medium_at-push moment (cond (ltb e.call moment) (changed medium e.change) medium) es entry

pub past_push : (moment : ℕ) (start : List ℕ) (history : List HistoryEntry) (entry : HistoryEntry) → moment ≤ entry.call →
    medium_at moment (at_rest start) (history ++ entry ∷ []) ≡ medium_at moment (at_rest start) history
past_push moment start history entry early =
    medium_at-push moment (at_rest start) history entry ∙
    cond-false (ltb entry.call moment) (changed (medium_at moment (at_rest start) history) entry.change) (medium_at moment (at_rest start) history) (le-ltb entry.call moment early)

later_push : (moment : ℕ) (start : List ℕ) (history : List HistoryEntry) (entry : HistoryEntry) → entry.call < moment →
    medium_at moment (at_rest start) (history ++ entry ∷ []) ≡ changed (medium_at moment (at_rest start) history) entry.change
later_push moment start history entry late =
    medium_at-push moment (at_rest start) history entry ∙
    cond-true (ltb entry.call moment) (changed (medium_at moment (at_rest start) history) entry.change) (medium_at moment (at_rest start) history) (lt-ltb entry.call moment late)

push_size : (start : List ℕ) (history : List HistoryEntry) (calls : ℕ) (now : Medium) (entry : HistoryEntry) → IsHistory start history calls now → FitsIn (length start) entry.change →
    (moment : ℕ) → IsSized (length start) (medium_at moment (at_rest start) (history ++ entry ∷ []))
push_size start history calls now entry is fits moment =
    let P : Medium → Type 0 = λ medium. IsSized (length start) medium in
    let was : IsSized (length start) (medium_at moment (at_rest start) history) = (is.size moment, is.settled_size moment) in
    subst P (sym (medium_at-push moment (at_rest start) history entry))
    (cond_both (ltb entry.call moment) (changed (medium_at moment (at_rest start) history) entry.change) (medium_at moment (at_rest start) history) P
    (λ e. changed_size (length start) (medium_at moment (at_rest start) history) entry.change fits was)
    (λ e. was))

-- what a device holds is sound by itself
pub record IsSound (size : ℕ) (now : Medium) : Type 0 where
  pub current : leaves now now.bytes ≡ true
  pub settled_bytes : AreBytes now.settled
  pub within : All (λ extent. extent.at + extent.count ≤ size) now.pending

-- The call changes what the disk holds.
pub grows : (start : List ℕ) (history next : List HistoryEntry) (calls : ℕ) (now : Medium) (entry : HistoryEntry) → IsHistory start history calls now →
    entry.call ≡ calls → FitsIn (length start) entry.change → IsSound (length start) (changed now entry.change) → next ≡ history ++ entry ∷ [] →
    IsHistory start next (calls + 1) (changed now entry.change)
grows start history next calls now entry is call fits sound next_is =
    let P : List HistoryEntry → Type 0 = λ h. IsHistory start h (calls + 1) (changed now entry.change) in
    subst P (sym next_is) (record {
      replay = λ moment late. later_push moment start history entry (omega arith) ∙ ap (λ (m : Medium). changed m entry.change) (is.replay moment (omega arith));
      size = λ moment. (push_size start history calls now entry is fits moment).0;
      settled_size = λ moment. (push_size start history calls now entry is fits moment).1;
      current = sound.current;
      settled_bytes = sound.settled_bytes;
      within = sound.within;
    })

-- The call leaves what the disk holds.
pub waits : (start : List ℕ) (history : List HistoryEntry) (calls later : ℕ) (now : Medium) → IsHistory start history calls now → calls ≤ later → IsHistory start history later now
waits start history calls later now is le = record {
  replay = λ moment late. is.replay moment (omega arith);
  size = is.size;
  settled_size = is.settled_size;
  current = is.current;
  settled_bytes = is.settled_bytes;
  within = is.within;
}

-- The history of a new disk is empty.
pub begins : (bytes : List ℕ) → AreBytes bytes → IsHistory bytes [] 0 (at_rest bytes)
begins bytes all = record {
  replay = λ moment late. refl;
  size = λ moment. refl;
  settled_size = λ moment. refl;
  current = is_left [] bytes bytes (agrees_itself bytes all);
  settled_bytes = all;
  within = λ k d l. absurd (omega arith);
}

pub size_is : (start : List ℕ) (history : List HistoryEntry) (calls : ℕ) (now : Medium) → IsHistory start history calls now → (length now.bytes ≡ length start) × (length now.settled ≡ length start)
size_is start history calls now is = (
  ap (λ (m : Medium). length m.bytes) (sym (is.replay calls (omega arith))) ∙ is.size calls,
  ap (λ (m : Medium). length m.settled) (sym (is.replay calls (omega arith))) ∙ is.settled_size calls,
)

leaves_now : (start : List ℕ) (history : List HistoryEntry) (calls : ℕ) (now : Medium) (image : List ℕ) → IsHistory start history calls now → leaves (medium_at calls (at_rest start) history) image ≡ leaves now image
leaves_now start history calls now image is = ap (λ (m : Medium). leaves m image) (is.replay calls (omega arith))

-- what the disk tells keeps the rules of a disk
pub is_disk : (start : List ℕ) (history : List HistoryEntry) (failing : List ℕ) (stop calls : ℕ) (now : Medium) → IsHistory start history calls now → calls < 2 ^ 64 → IsDisk (told start history failing stop calls now.bytes)
is_disk start history failing stop calls now is fits = record {
  current = leaves_now start history calls now now.bytes is ∙ is.current;
  filled = λ moment image le h.
      let m = medium_at moment (at_rest start) history in
      let i = is_image m.pending m.settled image h in
      let n = size_is start history calls now is in
      (i.size ∙ is.settled_size moment ∙ sym n.0, image_bytes m.pending m.settled image i);
  faults_now = λ _. refl;
  counted = fits;
}

-- One call more: what the disk told of earlier moments stays.
pub goes_on : (start : List ℕ) (history next : List HistoryEntry) (failing : List ℕ) (stop stop' calls calls' : ℕ) (now now' : Medium) →
    IsHistory start history calls now → IsHistory start next calls' now' → calls' ≡ min (calls + 1) (2 ^ 64 - 1) →
    ((moment : ℕ) → moment < calls' → medium_at moment (at_rest start) next ≡ medium_at moment (at_rest start) history) →
    ((k : ℕ) → k < calls → fails_at failing stop' k ≡ fails_at failing stop k) →
    GoesOn (told start history failing stop calls now.bytes) (told start next failing stop' calls' now'.bytes)
goes_on start history next failing stop stop' calls calls' now now' was is count past same = record {
  size = (size_is start next calls' now' is).0 ∙ sym (size_is start history calls now was).0;
  calls = count;
  no_fewer = subst (λ (n : ℕ). n ≤ faults_until (fails_at failing stop') calls') (faults_until-same (fails_at failing stop) (fails_at failing stop') calls same)
      (no_fewer (fails_at failing stop') calls calls' count);
  told = refl;
  images = λ moment image early. ap (λ (m : Medium). leaves m image) (past moment early);
  past = λ moment early. faults_until-same (fails_at failing stop) (fails_at failing stop') moment (λ k l. same k (omega arith));
  is_disk = is_disk start next failing stop' calls' now' is (omega arith);
}

-- A call that changes nothing.
pub leaves_all : (start : List ℕ) (history : List HistoryEntry) (failing : List ℕ) (stop stop' calls calls' : ℕ) (now : Medium) →
    IsHistory start history calls now → calls' ≡ min (calls + 1) (2 ^ 64 - 1) → calls ≤ calls' →
    ((k : ℕ) → k < calls → fails_at failing stop' k ≡ fails_at failing stop k) →
    LeavesAll (told start history failing stop calls now.bytes) (told start history failing stop' calls' now.bytes)
leaves_all start history failing stop stop' calls calls' now was count le same =
    let is = waits start history calls calls' now was le in
    record {
      goes_on = goes_on start history history failing stop stop' calls calls' now now was is count (λ moment early. refl) same;
      bytes = refl;
      images = λ image. leaves_now start history calls' now image is ∙ sym (leaves_now start history calls now image was);
    }

-- A write that changes nothing is a write that failed.
pub leaves_a_write : (at count : ℕ) (start : List ℕ) (history : List HistoryEntry) (failing : List ℕ) (stop stop' calls calls' : ℕ) (now : Medium) →
    IsHistory start history calls now → calls' ≡ min (calls + 1) (2 ^ 64 - 1) → calls ≤ calls' →
    ((k : ℕ) → k < calls → fails_at failing stop' k ≡ fails_at failing stop k) →
    FailsToWrite at count (told start history failing stop calls now.bytes) (told start history failing stop' calls' now.bytes)
leaves_a_write at count start history failing stop stop' calls calls' now was counted le same =
    let all = leaves_all start history failing stop stop' calls calls' now was counted le same in
    record {
      goes_on = all.goes_on;
      bytes = record { size = refl; before = refl; behind = refl };
      torn = λ image h. (image, sym (all.images image) ∙ h, record { size = refl; before = refl; behind = refl });
    }

-- With one more extent pending, each image comes from one of before.
tears_only : (start : List ℕ) (history next : List HistoryEntry) (failing : List ℕ) (stop stop' calls calls' : ℕ) (now : Medium) (bytes : List ℕ) (extent : Extent) →
    IsHistory start history calls now → extent.at + extent.count ≤ length start →
    IsHistory start next calls' (record { bytes = bytes; settled = now.settled; pending = now.pending ++ extent ∷ [] }) →
    TearsOnly extent.at extent.count (told start history failing stop calls now.bytes) (told start next failing stop' calls' bytes)
tears_only start history next failing stop stop' calls calls' now bytes extent was fits is = λ image h.
    let torn : Medium = record { bytes = bytes; settled = now.settled; pending = now.pending ++ extent ∷ [] } in
    let e = leaves_now start next calls' torn image is in
    let i = is_image (now.pending ++ extent ∷ []) now.settled image (sym e ∙ h) in
    let size = (size_is start history calls now was).1 in
    let from = comes_from now.pending extent now.settled image i was.settled_bytes (omega (arith, size)) in
    (from.0, leaves_now start history calls now from.0 was ∙ is_left now.pending now.settled from.0 from.1, from.2)

within_push : (size : ℕ) (extents : List Extent) (extent : Extent) → All (λ e. e.at + e.count ≤ size) extents → extent.at + extent.count ≤ size → All (λ e. e.at + e.count ≤ size) (extents ++ extent ∷ [])
within_push size extents extent all fits = All-push (λ e. e.at + e.count ≤ size) extents extent all fits

-- what a device holds after a change is sound
pub sound_wrote : (start : List ℕ) (history : List HistoryEntry) (calls : ℕ) (now : Medium) (extent : Extent) (piece : List ℕ) →
    IsHistory start history calls now → extent.count ≡ length piece → extent.at + extent.count ≤ length start → AreBytes piece →
    IsSound (length start) (record { bytes = replaced now.bytes extent.at piece; settled = now.settled; pending = now.pending ++ extent ∷ [] })
sound_wrote start history calls now extent piece is count fits all =
    let n = size_is start history calls now is in
    let was = is_image now.pending now.settled now.bytes is.current in
    let room : extent.at + length piece ≤ length now.bytes = omega (arith, n.0) in
    let same : SameOutside extent.at extent.count now.bytes (replaced now.bytes extent.at piece) =
    subst (λ (c : ℕ). SameOutside extent.at c now.bytes (replaced now.bytes extent.at piece)) (sym count) (replaced_outside now.bytes extent.at piece room) in
    record {
      current = is_left (now.pending ++ extent ∷ []) now.settled (replaced now.bytes extent.at piece)
          (pushed now.pending extent now.settled now.bytes (replaced now.bytes extent.at piece) was same
          (replaced_bytes now.bytes extent.at piece room (image_bytes now.pending now.settled now.bytes was) all));
      settled_bytes = is.settled_bytes;
      within = within_push (length start) now.pending extent is.within fits;
    }

pub sound_tore : (start : List ℕ) (history : List HistoryEntry) (calls : ℕ) (now : Medium) (extent : Extent) →
    IsHistory start history calls now → extent.at + extent.count ≤ length start →
    IsSound (length start) (record { bytes = now.bytes; settled = now.settled; pending = now.pending ++ extent ∷ [] })
sound_tore start history calls now extent is fits =
    let was = is_image now.pending now.settled now.bytes is.current in
    record {
      current = is_left (now.pending ++ extent ∷ []) now.settled now.bytes
          (pushed now.pending extent now.settled now.bytes now.bytes was (record { size = refl; before = refl; behind = refl }) (image_bytes now.pending now.settled now.bytes was));
      settled_bytes = is.settled_bytes;
      within = within_push (length start) now.pending extent is.within fits;
    }

pub sound_synced : (start : List ℕ) (history : List HistoryEntry) (calls : ℕ) (now : Medium) → IsHistory start history calls now → IsSound (length start) (at_rest now.bytes)
sound_synced start history calls now is =
    let all = image_bytes now.pending now.settled now.bytes (is_image now.pending now.settled now.bytes is.current) in
    record {
      current = is_left [] now.bytes now.bytes (agrees_itself now.bytes all);
      settled_bytes = all;
      within = λ k d l. absurd (omega arith);
    }

-- A write that was answered Ok.
pub writes : (start : List ℕ) (history next : List HistoryEntry) (failing : List ℕ) (stop calls calls' : ℕ) (now : Medium) (extent : Extent) (piece : List ℕ) →
    IsHistory start history calls now → extent.count ≡ length piece → extent.at + extent.count ≤ length start →
    IsHistory start next calls' (record { bytes = replaced now.bytes extent.at piece; settled = now.settled; pending = now.pending ++ extent ∷ [] }) →
    calls' ≡ min (calls + 1) (2 ^ 64 - 1) →
    ((moment : ℕ) → moment < calls' → medium_at moment (at_rest start) next ≡ medium_at moment (at_rest start) history) →
    Writes extent.at piece (told start history failing stop calls now.bytes) (told start next failing stop calls' (replaced now.bytes extent.at piece))
writes start history next failing stop calls calls' now extent piece was count fits is counted past =
    let after : Medium = record { bytes = replaced now.bytes extent.at piece; settled = now.settled; pending = now.pending ++ extent ∷ [] } in
    record {
      goes_on = goes_on start history next failing stop stop calls calls' now after was is counted past (λ k l. refl);
      bytes = refl;
      torn = subst (λ (c : ℕ). TearsOnly extent.at c (told start history failing stop calls now.bytes) (told start next failing stop calls' (replaced now.bytes extent.at piece))) count
          (tears_only start history next failing stop stop calls calls' now (replaced now.bytes extent.at piece) extent was fits is);
      any_bytes = λ before image h same all.
          let i = is_image now.pending now.settled before (sym (leaves_now start history calls now before was) ∙ h) in
          let here = subst (λ (c : ℕ). SameOutside extent.at c before image) (sym count) same in
          leaves_now start next calls' after image is ∙ is_left (now.pending ++ extent ∷ []) now.settled image (pushed now.pending extent now.settled before image i here all);
    }

-- A write that failed, and may have torn its range.
pub tears : (start : List ℕ) (history next : List HistoryEntry) (failing : List ℕ) (stop calls calls' : ℕ) (now : Medium) (extent : Extent) →
    IsHistory start history calls now → extent.at + extent.count ≤ length start →
    IsHistory start next calls' (record { bytes = now.bytes; settled = now.settled; pending = now.pending ++ extent ∷ [] }) →
    calls' ≡ min (calls + 1) (2 ^ 64 - 1) →
    ((moment : ℕ) → moment < calls' → medium_at moment (at_rest start) next ≡ medium_at moment (at_rest start) history) →
    FailsToWrite extent.at extent.count (told start history failing stop calls now.bytes) (told start next failing stop calls' now.bytes)
tears start history next failing stop calls calls' now extent was fits is counted past =
    let after : Medium = record { bytes = now.bytes; settled = now.settled; pending = now.pending ++ extent ∷ [] } in
    record {
      goes_on = goes_on start history next failing stop stop calls calls' now after was is counted past (λ k l. refl);
      bytes = record { size = refl; before = refl; behind = refl };
      torn = tears_only start history next failing stop stop calls calls' now now.bytes extent was fits is;
    }

-- A sync that was answered Ok.
pub syncs : (start : List ℕ) (history next : List HistoryEntry) (failing : List ℕ) (stop calls calls' : ℕ) (now : Medium) →
    IsHistory start history calls now → IsHistory start next calls' (at_rest now.bytes) → calls' ≡ min (calls + 1) (2 ^ 64 - 1) →
    ((moment : ℕ) → moment < calls' → medium_at moment (at_rest start) next ≡ medium_at moment (at_rest start) history) →
    Syncs (told start history failing stop calls now.bytes) (told start next failing stop calls' now.bytes)
syncs start history next failing stop calls calls' now was is counted past = record {
  goes_on = goes_on start history next failing stop stop calls calls' now (at_rest now.bytes) was is counted past (λ k l. refl);
  bytes = refl;
  only = λ image h.
      let i = is_image [] now.bytes image (sym (leaves_now start next calls' (at_rest now.bytes) image is) ∙ h) in
      ap Some (sym (nothing_pending now.bytes image i));
}

-- a new disk
pub fresh : (bytes start : List ℕ) (history : List HistoryEntry) (given settled : List ℕ) (pending : List Extent) → AreBytes bytes →
    start ≡ bytes → history ≡ [] → given ≡ bytes → settled ≡ bytes → pending ≡ [] → IsHistory start history 0 (record { bytes = given; settled = settled; pending = pending })
fresh bytes start history given settled pending all e1 e2 e3 e4 e5 = rw (e1, e2, e3, e4, e5) (begins bytes all)

pub fresh_only : (bytes start : List ℕ) (history : List HistoryEntry) (image : List ℕ) → start ≡ bytes → history ≡ [] →
    leaves (medium_at 0 (at_rest start) history) image ≡ true → image ≡ bytes
fresh_only bytes start history image e1 e2 h =
    let P : List ℕ → List HistoryEntry → Type 0 = λ s es. leaves (medium_at 0 (at_rest s) es) image ≡ true in
    let here : P bytes [] = subst (λ (es : List HistoryEntry). P bytes es) e2 (subst (λ (s : List ℕ). P s history) e1 h) in
    nothing_pending bytes image (is_image [] bytes image here)

-- A call that changes what the disk holds, with its entry at the end of the history.
pub recorded : (start : List ℕ) (history next : List HistoryEntry) (calls : ℕ) (now after : Medium) (entry : HistoryEntry) → IsHistory start history calls now →
    entry.call ≡ calls → FitsIn (length start) entry.change → changed now entry.change ≡ after → IsSound (length start) after → next ≡ history ++ entry ∷ [] →
    IsHistory start next (calls + 1) after
recorded start history next calls now after entry is call fits change_is sound next_is =
    subst (λ (m : Medium). IsHistory start next (calls + 1) m) change_is
    (grows start history next calls now entry is call fits (subst (λ (m : Medium). IsSound (length start) m) (sym change_is) sound) next_is)

-- An early call isn't the last that a count can tell.
pub counted : (calls : ℕ) → calls < 2 ^ 63 → calls + 1 ≡ min (calls + 1) (2 ^ 64 - 1)
counted calls early = omega arith

-- what a write leaves of the history
pub written_history : (start : List ℕ) (history next : List HistoryEntry) (calls : ℕ) (bytes settled after : List ℕ) (pending now_pending : List Extent) (extent : Extent) (piece : List ℕ) (entry : HistoryEntry) →
    IsHistory start history calls (record { bytes = bytes; settled = settled; pending = pending }) → entry.call ≡ calls →
    changed (record { bytes = bytes; settled = settled; pending = pending }) entry.change ≡ record { bytes = replaced bytes extent.at piece; settled = settled; pending = pending ++ extent ∷ [] } →
    FitsIn (length bytes) entry.change → extent.count ≡ length piece → extent.at + length piece ≤ length bytes → AreBytes piece →
    next ≡ history ++ entry ∷ [] → after ≡ replaced bytes extent.at piece → now_pending ≡ pending ++ extent ∷ [] →
    IsHistory start next (calls + 1) (record { bytes = after; settled = settled; pending = now_pending })
written_history start history next calls bytes settled after pending now_pending extent piece entry is call change_is fits count room all next_is after_is pending_is =
    let now : Medium = record { bytes = bytes; settled = settled; pending = pending } in
    let n : length bytes ≡ length start = (size_is start history calls now is).0 in
    let fits' : FitsIn (length start) entry.change = subst (λ (m : ℕ). FitsIn m entry.change) n fits in
    rw (after_is, pending_is)
    (recorded start history next calls now (record { bytes = replaced bytes extent.at piece; settled = settled; pending = pending ++ extent ∷ [] }) entry is call fits' change_is
    (sound_wrote start history calls now extent piece is count (omega arith) all) next_is)

-- the earlier moments are as they were
past_is : (start : List ℕ) (history next : List HistoryEntry) (calls : ℕ) (entry : HistoryEntry) → entry.call ≡ calls → next ≡ history ++ entry ∷ [] →
    (moment : ℕ) → moment < calls + 1 → medium_at moment (at_rest start) next ≡ medium_at moment (at_rest start) history
past_is start history next calls entry call next_is moment early =
    ap (λ (h : List HistoryEntry). medium_at moment (at_rest start) h) next_is ∙ past_push moment start history entry (omega arith)

-- what a write tells
pub writes_told : (start : List ℕ) (history next : List HistoryEntry) (failing : List ℕ) (stop calls : ℕ) (bytes settled after : List ℕ) (pending : List Extent) (extent : Extent) (piece : List ℕ) (entry : HistoryEntry) →
    IsHistory start history calls (record { bytes = bytes; settled = settled; pending = pending }) → entry.call ≡ calls →
    changed (record { bytes = bytes; settled = settled; pending = pending }) entry.change ≡ record { bytes = replaced bytes extent.at piece; settled = settled; pending = pending ++ extent ∷ [] } →
    FitsIn (length bytes) entry.change → extent.count ≡ length piece → extent.at + length piece ≤ length bytes → AreBytes piece →
    next ≡ history ++ entry ∷ [] → after ≡ replaced bytes extent.at piece → calls < 2 ^ 63 →
    Writes extent.at piece (told start history failing stop calls bytes) (told start next failing stop (calls + 1) after)
writes_told start history next failing stop calls bytes settled after pending extent piece entry is call change_is fits count room all next_is after_is early =
    let now : Medium = record { bytes = bytes; settled = settled; pending = pending } in
    let n : length bytes ≡ length start = (size_is start history calls now is).0 in
    let is' = written_history start history next calls bytes settled (replaced bytes extent.at piece) pending (pending ++ extent ∷ []) extent piece entry is call change_is fits count room all next_is refl refl in
    rw after_is (writes start history next failing stop calls (calls + 1) now extent piece is count (omega arith) is' (counted calls early) (past_is start history next calls entry call next_is))

-- what a write that failed leaves of the history
pub torn_history : (start : List ℕ) (history next : List HistoryEntry) (calls : ℕ) (bytes settled : List ℕ) (pending now_pending : List Extent) (extent : Extent) (entry : HistoryEntry) →
    IsHistory start history calls (record { bytes = bytes; settled = settled; pending = pending }) → entry.call ≡ calls →
    changed (record { bytes = bytes; settled = settled; pending = pending }) entry.change ≡ record { bytes = bytes; settled = settled; pending = pending ++ extent ∷ [] } →
    FitsIn (length start) entry.change → extent.at + extent.count ≤ length bytes →
    next ≡ history ++ entry ∷ [] → now_pending ≡ pending ++ extent ∷ [] →
    IsHistory start next (calls + 1) (record { bytes = bytes; settled = settled; pending = now_pending })
torn_history start history next calls bytes settled pending now_pending extent entry is call change_is fits room next_is pending_is =
    let now : Medium = record { bytes = bytes; settled = settled; pending = pending } in
    let n : length bytes ≡ length start = (size_is start history calls now is).0 in
    rw pending_is
    (recorded start history next calls now (record { bytes = bytes; settled = settled; pending = pending ++ extent ∷ [] }) entry is call fits change_is
    (sound_tore start history calls now extent is (omega arith)) next_is)

-- what a write that failed tells
pub tears_told : (start : List ℕ) (history next : List HistoryEntry) (failing : List ℕ) (stop calls : ℕ) (bytes settled : List ℕ) (pending : List Extent) (extent : Extent) (entry : HistoryEntry) →
    IsHistory start history calls (record { bytes = bytes; settled = settled; pending = pending }) → entry.call ≡ calls →
    changed (record { bytes = bytes; settled = settled; pending = pending }) entry.change ≡ record { bytes = bytes; settled = settled; pending = pending ++ extent ∷ [] } →
    FitsIn (length start) entry.change → extent.at + extent.count ≤ length bytes → next ≡ history ++ entry ∷ [] → calls < 2 ^ 63 →
    FailsToWrite extent.at extent.count (told start history failing stop calls bytes) (told start next failing stop (calls + 1) bytes)
tears_told start history next failing stop calls bytes settled pending extent entry is call change_is fits room next_is early =
    let now : Medium = record { bytes = bytes; settled = settled; pending = pending } in
    let n : length bytes ≡ length start = (size_is start history calls now is).0 in
    let is' = torn_history start history next calls bytes settled pending (pending ++ extent ∷ []) extent entry is call change_is fits room next_is refl in
    tears start history next failing stop calls (calls + 1) now extent is (omega arith) is' (counted calls early) (past_is start history next calls entry call next_is)

-- what a sync leaves of the history
pub synced_history : (start : List ℕ) (history next : List HistoryEntry) (calls : ℕ) (bytes settled after : List ℕ) (pending now_pending : List Extent) (entry : HistoryEntry) →
    IsHistory start history calls (record { bytes = bytes; settled = settled; pending = pending }) → entry.call ≡ calls → entry.change ≡ Synced →
    next ≡ history ++ entry ∷ [] → after ≡ bytes → now_pending ≡ [] →
    IsHistory start next (calls + 1) (record { bytes = bytes; settled = after; pending = now_pending })
synced_history start history next calls bytes settled after pending now_pending entry is call change_is next_is after_is pending_is =
    let now : Medium = record { bytes = bytes; settled = settled; pending = pending } in
    rw (after_is, pending_is)
    (recorded start history next calls now (at_rest bytes) entry is call (subst (λ (change : Change). FitsIn (length start) change) (sym change_is) tt)
    (ap (λ (change : Change). changed now change) change_is) (sound_synced start history calls now is) next_is)

-- what a sync tells
pub syncs_told : (start : List ℕ) (history next : List HistoryEntry) (failing : List ℕ) (stop calls : ℕ) (bytes settled : List ℕ) (pending : List Extent) (entry : HistoryEntry) →
    IsHistory start history calls (record { bytes = bytes; settled = settled; pending = pending }) → entry.call ≡ calls → entry.change ≡ Synced →
    next ≡ history ++ entry ∷ [] → calls < 2 ^ 63 →
    Syncs (told start history failing stop calls bytes) (told start next failing stop (calls + 1) bytes)
syncs_told start history next failing stop calls bytes settled pending entry is call change_is next_is early =
    let now : Medium = record { bytes = bytes; settled = settled; pending = pending } in
    let is' = synced_history start history next calls bytes settled bytes pending [] entry is call change_is next_is refl refl in
    syncs start history next failing stop calls (calls + 1) now is is' (counted calls early) (past_is start history next calls entry call next_is)

-- what a crash now may leave
pub left_now : (start : List ℕ) (history : List HistoryEntry) (calls : ℕ) (now : Medium) (image : List ℕ) → IsHistory start history calls now → IsImage now.pending now.settled image →
    leaves (medium_at calls (at_rest start) history) image ≡ true
left_now start history calls now image is h = leaves_now start history calls now image is ∙ is_left now.pending now.settled image h

pub lost_left : (start : List ℕ) (history : List HistoryEntry) (calls : ℕ) (now : Medium) → IsHistory start history calls now → leaves (medium_at calls (at_rest start) history) now.settled ≡ true
lost_left start history calls now is = left_now start history calls now now.settled is (agrees_settled now.pending now.settled is.settled_bytes)

pub whole_left : (start : List ℕ) (history : List HistoryEntry) (calls : ℕ) (now : Medium) → IsHistory start history calls now → leaves (medium_at calls (at_rest start) history) now.bytes ≡ true
whole_left start history calls now is = leaves_now start history calls now now.bytes is ∙ is.current

pub byte_left : (start : List ℕ) (history : List HistoryEntry) (calls : ℕ) (now : Medium) (byte : ℕ) → byte < 256 → IsHistory start history calls now →
    leaves (medium_at calls (at_rest start) history) (filled byte now.pending now.settled) ≡ true
byte_left start history calls now byte small is =
    let n = (size_is start history calls now is).1 in
    left_now start history calls now (filled byte now.pending now.settled) is
    (filled_left now.pending now.pending now.settled now.settled byte small
    (subst (λ (size : ℕ). All (λ extent. extent.at + extent.count ≤ size) now.pending) (sym n) is.within) (λ i h. h) (agrees_settled now.pending now.settled is.settled_bytes))

-- the extents lie within what is settled
pub within_settled : (start : List ℕ) (history : List HistoryEntry) (calls : ℕ) (now : Medium) → IsHistory start history calls now → All (λ extent. extent.at + extent.count ≤ length now.settled) now.pending
within_settled start history calls now is =
    subst (λ (size : ℕ). All (λ extent. extent.at + extent.count ≤ size) now.pending) (sym (size_is start history calls now is).1) is.within

-- what a crash leaves that loses what is pending, keeps it, or fills it with a byte
pub torn_left : (start : List ℕ) (history : List HistoryEntry) (calls : ℕ) (now : Medium) (image aim : List ℕ) → leaves (medium_at calls (at_rest start) history) aim ≡ true → image ≡ aim →
    leaves (medium_at calls (at_rest start) history) image ≡ true
torn_left start history calls now image aim h e = rw e h
