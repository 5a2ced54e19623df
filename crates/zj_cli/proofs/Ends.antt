-- How a command ends that prints what is recovered of an image, by how it printed and how it closed.
use Rattle.std.proofs.Common.{◌≡◌, ◌⊎◌, ℕ, List, [], ◌++◌, Option, Some, sym, subst, inl, inr, append-nil}
use Rattle.std.specs.Prelude.{IfErr, IsErrAnd, MatchResult, OnErr, OnOk, Result, Ok, Err}
use Rattle.std.specs.Result.{result_and, result_err}
use Rattle.zj_dev.specs.Fault.{Rose}
use Rattle.zj_dev.specs.Stream.{Took}
use Rattle.zj_dev.specs.declared.device.Device.{Device}
use Rattle.zj_mount.specs.declared.fault.CloseFault.{CloseFault}
use Rattle.zj_cli.specs.declared.status.Fault.{Fault}
use Rattle.zj_cli.specs.declared.status.Fault.TheVariants as faults
use Rattle.zj_cli.specs.Check.{IsDeviceCause, IsDevicesCause, Prints, Spelling, Tells, TellingEnds}
use Rattle.zj_cli.specs.Outside.{IsUnwritten, Outside}

pub on_ok : {T E : Type 0} → (r : Result T E) {P Q : Type 0} → (P → Q) → OnOk r P → OnOk r Q
on_ok (Ok x) to is = to is
on_ok (Err e) to is = tt

pub if_err : {T E : Type 0} → (r : Result T E) {P Q : E → Type 0} → ((e : E) → P e → Q e) → IfErr r P → IfErr r Q
if_err (Ok x) to is = tt
if_err (Err e) to is = to e is

-- how closing went, told as the program's fault
abbrev pub IsTold : {T : Type 0} → Result T CloseFault → Result T Fault → Type 0
IsTold closed told = MatchResult closed (λ x. told ≡ Ok x) (λ e. IsErrAnd told (λ fault. fault ≡ faults.Device e.device))

pub told_quiet : {T : Type 0} → (Q : Type 0) (closed : Result T CloseFault) (told : Result T Fault) → IsTold closed told → OnOk closed Q → OnOk told Q
told_quiet Q (Ok x) told is quiet = subst (λ r. OnOk r Q) (sym is) quiet
told_quiet Q (Err e) (Ok x) is quiet = absurd is
told_quiet Q (Err e) (Err fault) is quiet = tt

-- a text that tells something was written in part
pub part_written : {T : Type 0} (Other : Fault → Type 0) (Told : List ℕ → Type 0) (written : Result T Fault) (old new : Option (List ℕ)) (f f' : ℕ) (text : List ℕ) → Told text
    → OnErr written ((front rest : List ℕ) × (front ++ rest ≡ text) × Took old new front) → IfErr written (λ fault. (fault ≡ faults.Output) × Rose f f')
    → IfErr written (λ fault. ((fault ≡ faults.Output) × ((front rest : List ℕ) × Told (front ++ rest) × Took old new front) × Rose f f') ⊎ Other fault)
part_written Other Told (Ok x) old new f f' text told part cause = tt
part_written Other Told (Err fault) old new f f' text told part cause = inl (cause.0, (part.0, part.1, subst Told (sym part.2) told, part.3), cause.1)

module _ (before after : Outside) where
  -- why closing failed
  abbrev pub FailsToClose : Fault → Type 0
  FailsToClose fault = (device : Device) × (fault ≡ faults.Device device) × IsDeviceCause before.names after.names before.shelf_faults after.shelf_faults device × Rose before.shelf_faults after.shelf_faults

  pub told_failed : {T : Type 0} → (closed : Result T CloseFault) (told : Result T Fault) → IsTold closed told
      → IfErr closed (λ e. IsDeviceCause before.names after.names before.shelf_faults after.shelf_faults e.device × Rose before.shelf_faults after.shelf_faults) → IfErr told FailsToClose
  told_failed (Ok x) told is failed = subst (λ r. IfErr r FailsToClose) (sym is) tt
  told_failed (Err e) (Ok x) is failed = absurd is
  told_failed (Err e) (Err fault) is failed = (e.device, is, failed.0, failed.1)

module _ (spelling : Spelling) (before after : Outside) where
  -- a fault that comes before anything is written
  pub ends_unwritten : (fault : Fault) → IsDevicesCause before.names after.names before.shelf_faults after.shelf_faults fault → IsUnwritten before after → TellingEnds spelling before after (Some fault)
  ends_unwritten (faults.Image fault) cause unwritten = (cause, unwritten)
  ends_unwritten (faults.Device device) cause unwritten = (cause, inl unwritten)
  ends_unwritten faults.Memory cause unwritten = unwritten
  ends_unwritten faults.Words cause unwritten = absurd cause
  ends_unwritten (faults.Script kind line column) cause unwritten = absurd cause
  ends_unwritten faults.Input cause unwritten = absurd cause
  ends_unwritten faults.Output cause unwritten = absurd cause

  -- why printing failed
  abbrev pub FailsToPrint : Fault → Type 0
  FailsToPrint fault = ((fault ≡ faults.Output) × ((rest : List ℕ) × Prints spelling before after rest) × Rose before.output_faults after.output_faults)
      ⊎ (IsDevicesCause before.names after.names before.shelf_faults after.shelf_faults fault × IsUnwritten before after)

  pub ends : {T U : Type 0} → (printed : Result T Fault) (closed : Result U Fault) → after.input_faults ≡ before.input_faults
      → OnOk printed (Prints spelling before after [] × (after.output_faults ≡ before.output_faults)) → IfErr printed FailsToPrint
      → OnOk closed (after.shelf_faults ≡ before.shelf_faults) → IfErr closed (FailsToClose before after)
      → TellingEnds spelling before after (result_err (result_and printed closed))
  ends (Ok x) (Ok y) input told failed quiet closing = (told.0, record { input = input; output = told.1; shelf = quiet })
  ends (Ok x) (Err fault) input told failed quiet closing = subst (λ (f : Fault). TellingEnds spelling before after (Some f)) (sym closing.1) (closing.2, inr (told.0, closing.3))
  ends (Err fault) closed input told (inl output) quiet closing = subst (λ (f : Fault). TellingEnds spelling before after (Some f)) (sym output.0) (output.1, output.2)
  ends (Err fault) closed input told (inr (cause, unwritten)) quiet closing = ends_unwritten fault cause unwritten

  -- all was printed
  pub prints : {T : Type 0} {Told : List ℕ → Type 0} (Q : Type 0) → (printed : Result T Fault) → ((text : List ℕ) → Told text → Tells spelling before.names text)
      → OnOk printed ((text : List ℕ) × Told text × Took before.held after.held text) → OnOk printed Q → OnOk printed (Prints spelling before after [] × Q)
  prints Q (Ok x) known told quiet = (record { written = told.0; text = subst (Tells spelling before.names) (sym (append-nil told.0)) (known told.0 told.1); took = told.2 }, quiet)
  prints Q (Err fault) known told quiet = tt

  -- a part of it was, or nothing
  pub fails_to_print : {Told : List ℕ → Type 0} {Reads : Fault → Type 0} {Same : Type 0} → ((text : List ℕ) → Told text → Tells spelling before.names text)
      → ((fault : Fault) → Reads fault → IsDevicesCause before.names after.names before.shelf_faults after.shelf_faults fault) → (Same → IsUnwritten before after)
      → (fault : Fault) → ((fault ≡ faults.Output) × ((front rest : List ℕ) × Told (front ++ rest) × Took before.held after.held front) × Rose before.output_faults after.output_faults) ⊎ (Reads fault × Same) → FailsToPrint fault
  fails_to_print known read same fault (inl output) = inl (output.0, (output.1.1, record { written = output.1.0; text = known (output.1.0 ++ output.1.1) output.1.2; took = output.1.3 }), output.2)
  fails_to_print known read same fault (inr early) = inr (read fault early.0, same early.1)
