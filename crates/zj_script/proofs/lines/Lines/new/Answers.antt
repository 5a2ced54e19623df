use Rattle.std.proofs.Common.{arith, length-take}
use Rattle.zj_script.proofs.lines.Lines.new.Goals as goal

pub slice_bounds-result-end : goal.slice_bounds-result-end
slice_bounds-result-end c = omega (arith, length-take 16777216 c.args.input.now)
