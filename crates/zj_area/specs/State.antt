-- How far an area is.
use Rattle.std.specs.Prelude.{Bool, true, false, Option, Some, None}
use Rattle.zj_block.specs.declared.numbers.Tail.{Tail}
use Rattle.zj_area.specs.declared.area.State.{State}
use Rattle.zj_area.specs.declared.area.State.TheVariants.{Unread, Ready, Laid, Failed}

-- its records were read
abbrev pub is_ready : State → Bool
is_ready Unread = false
is_ready Ready = true
is_ready (Laid next) = true
is_ready Failed = true

-- a commit has failed
abbrev pub has_failed : State → Bool
has_failed Failed = true
has_failed Unread = false
has_failed Ready = false
has_failed (Laid next) = false

-- where its end will be once the gate of the record that was laid is open
abbrev pub next_end : State → Option Tail
next_end (Laid next) = Some next
next_end Unread = None
next_end Ready = None
next_end Failed = None
