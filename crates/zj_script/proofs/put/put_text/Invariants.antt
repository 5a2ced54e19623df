use Rattle.std.proofs.Common.{◌≡◌, ◌++◌, ◌∷◌, take}
use Rattle.std.specs.List.{flat_map}
use Rattle.zj_script.specs.Text.{byte_text}
use Rattle.zj_script.proofs.put.put_text.Given as goal

abbrev pub invariant-loop-byte : goal.invariant-loop-byte
invariant-loop-byte l = l.out ≡ l.fn.out ++ 32 ∷ flat_map byte_text (take l.byte-index l.bytes)
