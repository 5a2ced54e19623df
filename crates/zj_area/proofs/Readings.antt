-- Records that stand in a journal: one at a place, and one list from a tail on.
use Rattle.std.proofs.Common.{◌≡◌, ℕ, ◌<◌, List, [], ◌∷◌, ◌++◌, length, drop, slice_index, refl, sym, ap, subst, ◌∙◌, arith}
use Rattle.std.specs.Prelude.{Option, Some, None, IfSome}
use Rattle.std.proofs.lemmas.List.{take-append-drop, append-nil}
use Rattle.zj_block.specs.Sizes.{Numbers}
use Rattle.zj_block.specs.declared.numbers.Tail.{Tail}
use Rattle.zj_dev.specs.Disk.{DiskView}
use Rattle.zj_tx.specs.Laws.{GateIsOpen, OneSpelling}
use Rattle.zj_tx.specs.Record.{Record, record_bytes}
use Rattle.zj_area.specs.Ring.{IsOpenAt, HasRecords, HasRecordAt, behind, len_of}
use Rattle.zj_area.specs.Reading.{IsBad, IsRecordCause, WasRead, WasSeen}
use Rattle.zj_area.specs.declared.fault.ScanFault.TheVariants as faults
use Rattle.zj_area.proofs.Parts.{first_byte, part_is}

-- what stands at a place begins the bytes there
begins : (n : Numbers) (core : ℕ) (image : List ℕ) (at : Tail) (r : Record) → HasRecordAt n core image at r → drop at.place image ≡ record_bytes r ++ drop (len_of r) (drop at.place image)
begins n core image at r stood =
    sym (take-append-drop (len_of r) (drop at.place image)) ∙ ap (λ (l : List ℕ). l ++ drop (len_of r) (drop at.place image)) (sym (part_is image at.place (len_of r)) ∙ stood.spelled)

-- one record stands at a place
pub same_at : OneSpelling → (n : Numbers) (core : ℕ) (image : List ℕ) (at other : Tail) (a b : Record) → at.place ≡ other.place → HasRecordAt n core image at a → HasRecordAt n core image other b → a ≡ b
same_at law n core image at other a b here first second =
    (law a b (drop (len_of a) (drop at.place image)) (drop (len_of b) (drop other.place image)) first.is_record second.is_record
    (sym (begins n core image at a first) ∙ ap (λ (p : ℕ). drop p image) here ∙ begins n core image other b second)).0

-- its gate is open
some_bytes : (bytes : List ℕ) → slice_index bytes 0 ≡ 1 → 0 < length bytes
some_bytes [] e = absurd (omega arith)
some_bytes (b ∷ bytes) e = omega arith

pub gate_at : GateIsOpen → (n : Numbers) (core : ℕ) (image : List ℕ) (at : Tail) (r : Record) → HasRecordAt n core image at r → IsOpenAt image at.place
gate_at law n core image at r stood =
    let some = some_bytes (record_bytes r) (law r) in
    sym (first_byte image at.place (record_bytes r) [] some (sym stood.spelled)) ∙ ap (λ (l : List ℕ). slice_index l 0) (append-nil (record_bytes r)) ∙ law r

-- ---- the record at the start, again

pub again : OneSpelling → GateIsOpen → (n : Numbers) (core : ℕ) (old new : DiskView) (due : Tail) (number : ℕ) → due.place ≡ 0 → WasSeen n core old due number → IsRecordCause n core old new due (faults.Damaged 8 number due.number)
again spelling gate n core old new due number here seen = told old.bytes seen.1
  where
    bad : (image : List ℕ) → WasRead n core number image → IsBad n core image due 8 number due.number
    bad image was = record {
      opens = ap (λ (p : ℕ). slice_index image p) here ∙ gate_at gate n core image (record { place = 0; number = number }) was.first was.stood;
      none = λ r stood.
          let same = same_at spelling n core image due (record { place = 0; number = number }) r was.first here stood was.stood in
          let numbers : r.number ≡ was.first.number = ap (λ (x : Record). x.number) same in
          omega (arith, numbers, stood.accepted.number, was.stood.accepted.number, seen.0);
      from = omega arith;
      to = omega arith;
      differ = λ e. omega (arith, e, seen.0);
    }

    told : (o : Option (List ℕ)) → IfSome o (WasRead n core number) → IfSome o (λ image. IsBad n core image due 8 number due.number)
    told None was = tt
    told (Some image) was = bad image was

-- ---- one reading

pub one_list : OneSpelling → GateIsOpen → (n : Numbers) (core : ℕ) (image : List ℕ) (records others : List Record) (tail end other : Tail)
    → HasRecords n core image tail records end → (IsOpenAt image end.place → ⊥) → HasRecords n core image tail others other → (IsOpenAt image other.place → ⊥) → (records ≡ others) × (end ≡ other)
one_list spelling gate n core image [] [] tail end other stand closed stand' closed' = (refl, sym stand ∙ stand')
one_list spelling gate n core image [] (r ∷ others) tail end other stand closed stand' closed' =
    absurd (closed (subst (λ (t : Tail). IsOpenAt image t.place) stand (gate_at gate n core image tail r stand'.0)))
one_list spelling gate n core image (r ∷ records) [] tail end other stand closed stand' closed' =
    absurd (closed' (subst (λ (t : Tail). IsOpenAt image t.place) stand' (gate_at gate n core image tail r stand.0)))
one_list spelling gate n core image (r ∷ records) (r' ∷ others) tail end other stand closed stand' closed' =
    let same : r ≡ r' = same_at spelling n core image tail tail r r' refl stand.0 stand'.0 in
    let rest' : HasRecords n core image (behind n tail r) others other = subst (λ (x : Record). HasRecords n core image (behind n tail x) others other) (sym same) stand'.1 in
    let both = one_list spelling gate n core image records others (behind n tail r) end other stand.1 closed rest' closed' in
    let lists = both.0 in
    (cc, both.1)

pub not_both : OneSpelling → GateIsOpen → (n : Numbers) (core : ℕ) (image : List ℕ) (records others : List Record) (tail end bad : Tail)
    → HasRecords n core image tail records end → (IsOpenAt image end.place → ⊥) → HasRecords n core image tail others bad → IsOpenAt image bad.place → ((r : Record) → HasRecordAt n core image bad r → ⊥) → ⊥
not_both spelling gate n core image [] [] tail end bad stand closed stand' opens none =
    closed (subst (λ (t : Tail). IsOpenAt image t.place) (sym stand' ∙ stand) opens)
not_both spelling gate n core image [] (r ∷ others) tail end bad stand closed stand' opens none =
    closed (subst (λ (t : Tail). IsOpenAt image t.place) stand (gate_at gate n core image tail r stand'.0))
not_both spelling gate n core image (r ∷ records) [] tail end bad stand closed stand' opens none =
    none r (subst (λ (t : Tail). HasRecordAt n core image t r) stand' stand.0)
not_both spelling gate n core image (r ∷ records) (r' ∷ others) tail end bad stand closed stand' opens none =
    let same : r ≡ r' = same_at spelling n core image tail tail r r' refl stand.0 stand'.0 in
    let rest' : HasRecords n core image (behind n tail r) others bad = subst (λ (x : Record). HasRecords n core image (behind n tail x) others bad) (sym same) stand'.1 in
    not_both spelling gate n core image records others (behind n tail r) end bad stand.1 closed rest' opens none

-- ---- one record more

pub stand_more : (n : Numbers) (core : ℕ) (image : List ℕ) (records : List Record) (tail end : Tail) (r : Record) → HasRecords n core image tail records end → HasRecordAt n core image end r → HasRecords n core image tail (records ++ r ∷ []) (behind n end r)
stand_more n core image [] tail end r stand stood =
    (subst (λ (t : Tail). HasRecordAt n core image t r) (sym stand) stood, ap (λ (t : Tail). behind n t r) stand)
stand_more n core image (first ∷ records) tail end r stand stood = (stand.0, stand_more n core image records (behind n tail first) end r stand.1 stood)
