-- What a crash leaves of several devices: of each an image of some moment of its own.
use Rattle.std.specs.Prelude.{◌≡◌, ℕ, ◌-◌, ◌^◌, ◌<◌, ◌≤◌, true, List, length, Some, IsSome, slice_get}
use Rattle.zj_dev.specs.Fault.{Rose}
use Rattle.zj_dev.specs.Disk.{DiskView}
use Rattle.zj_dev.specs.declared.span.Span.{Span}

-- The moment is one of a span, and a crash at it may leave these bytes on the device.
pub record LeavesIn (disk : DiskView) (span : Span) (moment : ℕ) (image : List ℕ) : Type 0 where
  pub not_before : span.from ≤ moment
  pub not_after : moment ≤ span.to
  pub left : disk.may_leave moment image ≡ true

-- A crash set of devices, each of which has a span: at each place a moment of that span, and an image that a crash at it may leave
-- on the device. The moments of different devices are chosen each by itself.
pub record IsCrashSet (disks : List DiskView) (spans : List Span) (moments : List ℕ) (images : List (List ℕ)) : Type 0 where
  pub all_spans : length spans ≡ length disks
  pub all_moments : length moments ≡ length disks
  pub all_images : length images ≡ length disks
  pub each : (place : ℕ) (disk : DiskView) (span : Span) (moment : ℕ) (image : List ℕ)
      → slice_get disks place ≡ Some disk → slice_get spans place ≡ Some span → slice_get moments place ≡ Some moment → slice_get images place ≡ Some image
      → LeavesIn disk span moment image

-- Nothing was written in a span: at each moment of it a crash leaves what it might leave at the first.
abbrev pub IsQuietIn : DiskView → Span → Type 0
IsQuietIn disk span = (moment : ℕ) (image : List ℕ) → span.from ≤ moment → moment ≤ span.to → disk.may_leave moment image ≡ disk.may_leave span.from image

-- A device that tells its bytes failed in a span: more of its calls had failed by the end than by the beginning. At the last moment that a
-- count of calls can tell the count stands still, so nothing is said of a span that ends there.
abbrev pub FailsIn : DiskView → Span → Type 0
FailsIn disk span = IsSome disk.bytes → span.to < 2 ^ 64 - 1 → Rose (disk.faults_at span.from) (disk.faults_at span.to)
