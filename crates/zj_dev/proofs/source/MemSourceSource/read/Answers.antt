use Rattle.std.proofs.Common.{◌≡◌, ℕ, ◌+◌, ◌-◌, ◌≤◌, List, ◌++◌, length, take, drop, Some, sym, ap, ◌∙◌, arith, take_at, drop-drop, take-append-drop, length-take, length-drop}
use Rattle.std.proofs.lemmas.Grind.{common_steps}
use Rattle.zj_dev.proofs.source.MemSourceSource.read.Goals as goal

-- the piece moved and what is left after it are what was left before
moved : (bytes into piece : List ℕ) (next n : ℕ) → n ≤ length bytes - next → piece ≡ take n (drop next bytes) → drop next bytes ≡ take n (piece ++ drop n into) ++ drop (next + n) bytes
moved bytes into piece next n fits is =
    let long : length piece ≡ n = ap length is ∙ omega (arith, length-take n (drop next bytes), length-drop next bytes) in
    sym (take-append-drop n (drop next bytes)) ∙ ap (λ xs. take n (drop next bytes) ++ xs) (drop-drop n next bytes) ∙ ap (λ xs. xs ++ drop (next + n) bytes) (sym is ∙ sym (take_at piece (drop n into) n long))

pub returns-clause-moved : goal.returns-clause-moved
returns-clause-moved c = ap Some (moved c.args.self.now.bytes.items c.args.into.now c.copy_from_slice.new.self c.args.self.now.next c.min-count.result (grind (arith, common_steps)) (grind (arith, common_steps)))
