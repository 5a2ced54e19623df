use Rattle.std.proofs.Common.{◌≤◌, ◌-◌, ℕ, List, ◌++◌, length, take, arith, length-append, length-take}
use Rattle.zj_cli.specs.Play.{Reads}
use Rattle.zj_cli.proofs.StreamLemmas.{gave_more, on_err}
use Rattle.zj_cli.proofs.stream.read_whole.Goals as goal

pub returns-in_err-extend_from_slice-clause-err : goal.returns-in_err-extend_from_slice-clause-err
returns-in_err-extend_from_slice-clause-err g c =
    let bytes = c.loop-piece.bytes.items in
    let count = c.in_ok-count.count in
    let room : count ≤ 16777217 - length bytes = omega (arith, c.in_ok-count.ensures.count, length-take c.min-room.result c.loop-piece.piece, c.min-room.ensures, c.len-in-loop-piece.ensures) in
    let gave = gave_more _ _ _ bytes (take count c.read.new.into) c.loop-piece.invariant.gave c.in_ok-count.ensures.moved in
    let short : length (bytes ++ take count c.read.new.into) ≤ 16777217 =
    omega (arith, length-append bytes (take count c.read.new.into), length-take count c.read.new.into, room, c.loop-piece.invariant.limit) in
    let read : (read : List ℕ) × Reads (g.S.Source.left c.args.input.now) (g.S.Source.left c.read.new.self) read = (bytes ++ take count c.read.new.into, record { gave = gave; at_most = short }) in
    on_err _ _ read
