use Rattle.std.proofs.Common.{◌≡◌, ℕ, ◌+◌, ◌<◌, Bool, true, false, cond, List, length, take, sym, ap, ◌∙◌, arith}
use Rattle.std.specs.Prelude.{slice_get, is_none}
use Rattle.std.specs.FinMap as map_of
use Rattle.std.specs.List.{count_by}
use Rattle.zj_tx.specs.Frozen.{image_in}
use Rattle.zj_tx.proofs.PartLists.{count_next, within_some, at_some, whole_front}
use Rattle.zj_tx.proofs.adding.count_new.Goals as goal
use Rattle.zj_tx.proofs.adding.count_new.Goals.{then-is_new, else-is_new}

-- one more, which is new or isn't
counted : (b : Bool) (n total : ℕ) → total ≡ n + cond b 1 0 → b ≡ true → n + 1 ≡ total
counted true n total e is = sym e
counted false n total e is = absurd cc

not_counted : (b : Bool) (n total : ℕ) → total ≡ n + cond b 1 0 → b ≡ false → n ≡ total
not_counted true n total e is = absurd cc
not_counted false n total e is = omega (arith, e)

pub loop-i-preserved : goal.loop-i-preserved
loop-i-preserved c =
    let es = map_of.entries c.args.written.now in
    let parts = c.args.blocks.now in
    let lt : c.loop-i.i < length es = omega (arith, c.loop-i-test.true, c.len-i-end.ensures.len, map_of.len-entries c.args.written.now) in
    let some = within_some es c.loop-i.i lt in
    let tells : c.is_new.result ≡ is_none (image_in parts some.0.0) = at_some (slice_get es c.loop-i.i) (λ (e : ℕ × List ℕ). c.is_new.result ≡ is_none (image_in parts e.0)) some.0 some.1 c.is_new.ensures in
    let next = count_next (λ (e : ℕ × List ℕ). is_none (image_in parts e.0)) es c.loop-i.i some.0 some.1 in
    let so_far = c.loop-i.invariant in
    elim c.if-is_new.branch [
      | then-is_new w ↦ w.count-is ∙ counted (is_none (image_in parts some.0.0)) c.loop-i.count (count_by (λ (e : ℕ × List ℕ). is_none (image_in parts e.0)) (take (c.loop-i.i + 1) es)) (next ∙ ap (λ n. n + cond (is_none (image_in parts some.0.0)) 1 0) (sym so_far)) (sym tells ∙ w.if-is_new.true)
      | else-is_new w ↦ w.count-is ∙ not_counted (is_none (image_in parts some.0.0)) c.loop-i.count (count_by (λ (e : ℕ × List ℕ). is_none (image_in parts e.0)) (take (c.loop-i.i + 1) es)) (next ∙ ap (λ n. n + cond (is_none (image_in parts some.0.0)) 1 0) (sym so_far)) (sym tells ∙ w.if-is_new.false)
    ]

pub returns : goal.returns
returns c =
    let es = map_of.entries c.args.written.now in
    let whole : take c.loop-i.i es ≡ es = whole_front es c.loop-i.i (omega (arith, c.loop-i-test.false, c.len-i-end.ensures.len, map_of.len-entries c.args.written.now)) in
    c.loop-i.invariant ∙ ap (λ (l : List (ℕ × List ℕ)). count_by (λ e. is_none (image_in c.args.blocks.now e.0)) l) whole
