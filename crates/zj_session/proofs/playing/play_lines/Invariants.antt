use Rattle.std.proofs.Common.{◌-◌, length, take}
use Rattle.zj_session.proofs.Schedules.{IsPlaying}
use Rattle.zj_session.proofs.playing.play_lines.Given as goal

abbrev pub invariant-loop-line : goal.invariant-loop-line
invariant-loop-line g l = IsPlaying g.D.Disk.view l.fn.cache l.fn.cores l.cores (length l.fn.lines - l.line-index) (take l.line-index l.fn.lines) l.fn.out.answers l.out.answers
