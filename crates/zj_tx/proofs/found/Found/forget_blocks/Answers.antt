use Rattle.std.proofs.Common.{◌≡◌, ℕ, zero, suc, ◌+◌, ◌<◌, List, [], ◌∷◌, ◌++◌, length, map, take, drop, get_or, slice_set, refl, ap, ◌∙◌, arith}
use Rattle.zj_tx.specs.Record.{Record, bare}
use Rattle.zj_tx.proofs.found.Found.forget_blocks.Goals as goal

-- with the front of a list mapped, and the next one too
more_mapped : (xs : List Record) (k : ℕ) (x : Record) → k < length xs
    → slice_set (map bare (take k xs) ++ drop k xs) k (bare (get_or (map bare (take k xs) ++ drop k xs) k x)) ≡ map bare (take (suc k) xs) ++ drop (suc k) xs
more_mapped [] k x low = absurd (omega (arith, low))
more_mapped (y ∷ xs) zero x low = refl
more_mapped (y ∷ xs) (suc k) x low = ap (λ l. bare y ∷ l) (more_mapped xs k x (omega (arith, low)))

pub loop-sealed-preserved : goal.loop-sealed-preserved
loop-sealed-preserved c =
    let xs = c.deref_mut-sealed-items.result.now in
    let k = c.loop-sealed.sealed-index in
    let next : suc k ≡ k + 1 = omega arith in
    ap (slice_set c.loop-sealed.sealed-items k) c.forget_blocks.ensures
    ∙ ap (λ l. slice_set l k (bare (get_or l k c.sealed-item.result))) c.loop-sealed.invariant
    ∙ more_mapped xs k c.sealed-item.result c.loop-sealed-test.true
    ∙ ap (λ n. map bare (take n xs) ++ drop n xs) next
