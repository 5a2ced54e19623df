-- What a disk is: the bytes that a read gives, what a crash may leave at each moment, and the count of faults.
use Rattle.std.specs.Prelude.{◌≡◌, ℕ, ◌+◌, ◌-◌, ◌^◌, ◌<◌, ◌≤◌, min, Bool, true, List, ◌++◌, length, take, drop, All, Option, Some, is_some, IsSome, IfSome, option_map}

-- What a disk tells of itself. A moment is a number of calls made. A disk may leave its bytes untold. What is said here of
-- images and of counts at earlier moments holds of it all the same, so it leaves no image and tells 0 faults of each moment.
pub record DiskView : Type 0 where
  -- how many bytes it has
  pub size : ℕ
  -- how many reads, writes and syncs were asked: the moment that it is
  pub calls : ℕ
  -- how many of them failed
  pub faults : ℕ
  -- what a read gives
  pub bytes : Option (List ℕ)
  -- whether a crash at a moment may leave these bytes on the device
  pub may_leave : ℕ → List ℕ → Bool
  -- how many calls had failed by a moment
  pub faults_at : ℕ → ℕ

-- each number is a byte
abbrev pub AreBytes : List ℕ → Type 0
AreBytes bytes = All (λ byte. byte < 256) bytes

-- the bytes with those from a place on replaced by a piece
abbrev pub replaced : List ℕ → ℕ → List ℕ → List ℕ
replaced bytes at piece = take at bytes ++ piece ++ drop (at + length piece) bytes

-- the same length, and the same bytes before a range and behind it
pub record SameOutside (at count : ℕ) (old new : List ℕ) : Type 0 where
  pub size : length new ≡ length old
  pub before : take at new ≡ take at old
  pub behind : drop (at + count) new ≡ drop (at + count) old

-- What holds of each disk that tells its bytes: a crash now may leave what a read gives, and what a crash may
-- leave fills the device. The count of calls is one of 64 bits.
pub record IsDisk (disk : DiskView) : Type 0 where
  pub current : IfSome disk.bytes (λ bytes. disk.may_leave disk.calls bytes ≡ true)
  pub filled : (moment : ℕ) (image : List ℕ) → moment ≤ disk.calls → disk.may_leave moment image ≡ true → (length image ≡ disk.size) × AreBytes image
  pub faults_now : IsSome disk.bytes → disk.faults_at disk.calls ≡ disk.faults
  pub counted : disk.calls < 2 ^ 64

-- One call more was made. Earlier moments stay as they were, and what was told is told.
pub record GoesOn (old new : DiskView) : Type 0 where
  pub size : new.size ≡ old.size
  pub calls : new.calls ≡ min (old.calls + 1) (2 ^ 64 - 1)
  pub no_fewer : old.faults ≤ new.faults
  pub told : is_some new.bytes ≡ is_some old.bytes
  pub images : (moment : ℕ) (image : List ℕ) → moment < new.calls → new.may_leave moment image ≡ old.may_leave moment image
  pub past : (moment : ℕ) → moment < new.calls → new.faults_at moment ≡ old.faults_at moment
  pub is_disk : IsDisk new

-- A call that leaves the device as it was, and what is pending on it.
pub record LeavesAll (old new : DiskView) : Type 0 where
  pub goes_on : GoesOn old new
  pub bytes : new.bytes ≡ old.bytes
  pub images : (image : List ℕ) → new.may_leave new.calls image ≡ old.may_leave old.calls image

-- Some calls were made, or none. What was told of earlier moments stays so, and of the first one: what a crash might leave
-- at it, and how many calls had failed by it.
pub record Continues (old new : DiskView) : Type 0 where
  pub size : new.size ≡ old.size
  pub calls : old.calls ≤ new.calls
  pub no_fewer : old.faults ≤ new.faults
  pub told : is_some new.bytes ≡ is_some old.bytes
  pub images : (moment : ℕ) (image : List ℕ) → moment < old.calls → new.may_leave moment image ≡ old.may_leave moment image
  pub here : (image : List ℕ) → old.calls < 2 ^ 64 - 1 → new.may_leave old.calls image ≡ old.may_leave old.calls image
  pub past : (moment : ℕ) → moment < old.calls → new.faults_at moment ≡ old.faults_at moment
  pub failed_here : old.calls < 2 ^ 64 - 1 → new.faults_at old.calls ≡ old.faults_at old.calls

-- Nothing was written and nothing synced: a read gives what it gave, and at each moment since a crash leaves what it
-- left at first.
pub record OnlyReads (old new : DiskView) : Type 0 where
  pub goes_on : Continues old new
  pub bytes : new.bytes ≡ old.bytes
  pub images : (moment : ℕ) (image : List ℕ) → old.calls ≤ moment → moment ≤ new.calls → new.may_leave moment image ≡ old.may_leave old.calls image

-- Whatever a crash leaves at a moment from that one on until now has this property.
abbrev pub EachImageSince : ℕ → DiskView → (List ℕ → Type 0) → Type 0
EachImageSince from disk P = (moment : ℕ) (image : List ℕ) → from ≤ moment → moment ≤ disk.calls → disk.may_leave moment image ≡ true → P image

-- If each image that a crash left at first has P, then each that it leaves at a moment since has Q.
abbrev pub LeadsTo : (List ℕ → Type 0) → (List ℕ → Type 0) → DiskView → DiskView → Type 0
LeadsTo P Q old new = ((image : List ℕ) → old.may_leave old.calls image ≡ true → P image) → EachImageSince old.calls new Q

-- Whatever a crash leaves at a moment since, it might leave at first.
abbrev pub StaysSince : DiskView → DiskView → Type 0
StaysSince old new = EachImageSince old.calls new (λ image. old.may_leave old.calls image ≡ true)

-- Whatever a crash leaves at a moment since is an image from the first, with any bytes in the range.
abbrev pub TearsSince : ℕ → ℕ → DiskView → DiskView → Type 0
TearsSince at count old new = EachImageSince old.calls new (λ image. (before : List ℕ) × (old.may_leave old.calls before ≡ true) × SameOutside at count before image)

-- Nothing is pending: a crash now leaves what a read gives, and nothing else.
abbrev pub IsSettled : DiskView → Type 0
IsSettled disk = (image : List ℕ) → disk.may_leave disk.calls image ≡ true → disk.bytes ≡ Some image

-- Each image now is an image from before, with any bytes in the range.
abbrev pub TearsOnly : ℕ → ℕ → DiskView → DiskView → Type 0
TearsOnly at count old new = (image : List ℕ) → new.may_leave new.calls image ≡ true →
    (before : List ℕ) × (old.may_leave old.calls before ≡ true) × SameOutside at count before image

-- A write that was answered Ok: a read gives the piece, and until the next sync a crash may leave any bytes there.
pub record Writes (at : ℕ) (piece : List ℕ) (old new : DiskView) : Type 0 where
  pub goes_on : GoesOn old new
  pub bytes : new.bytes ≡ option_map (λ bytes. replaced bytes at piece) old.bytes
  pub torn : TearsOnly at (length piece) old new
  pub any_bytes : (before image : List ℕ) → old.may_leave old.calls before ≡ true → SameOutside at (length piece) before image → AreBytes image → new.may_leave new.calls image ≡ true

-- A write that failed: the range may hold anything, for a read and after a crash.
pub record FailsToWrite (at count : ℕ) (old new : DiskView) : Type 0 where
  pub goes_on : GoesOn old new
  pub bytes : IfSome old.bytes (λ before. IfSome new.bytes (SameOutside at count before))
  pub torn : TearsOnly at count old new

-- A sync that was answered Ok: a crash leaves what a read gives, and nothing else.
pub record Syncs (old new : DiskView) : Type 0 where
  pub goes_on : GoesOn old new
  pub bytes : new.bytes ≡ old.bytes
  pub only : (image : List ℕ) → new.may_leave new.calls image ≡ true → new.bytes ≡ Some image

-- A sync that failed: a read gives what it gave, and a crash leaves nothing that it could not leave before. What was pending
-- may be pending still.
pub record FailsToSync (old new : DiskView) : Type 0 where
  pub goes_on : GoesOn old new
  pub bytes : new.bytes ≡ old.bytes
  pub images : (image : List ℕ) → new.may_leave new.calls image ≡ true → old.may_leave old.calls image ≡ true
