use Rattle.std.specs.Prelude.{is_none}
use Rattle.std.specs.Vec.{vec_capacity, vec_len}
use Rattle.zj_tx.specs.Frozen.{Image, image_in}
use Rattle.std.proofs.Common.{◌≡◌, ◌≢◌, ℕ, ◌+◌, ◌<◌, ◌≤◌, cond, Option, Some, None, List, length, get_or, sym, subst, ◌∙◌, ap, arith}
use Rattle.std.proofs.lemmas.List.{get_or_default}
use Rattle.std.specs.List.{AllByRecursion}
use Rattle.zj_tx.specs.declared.part.Part.{Part}
use Rattle.zj_tx.specs.Parts.{IsPartPlace, IsPut}
use Rattle.zj_tx.specs.Record.{IsPart}
use Rattle.zj_tx.proofs.PartLists.{put_over, put_between, missing_at, parts-set, parts-insert}
use Rattle.zj_tx.proofs.parts.put.Goals as goal
use Rattle.zj_tx.proofs.parts.put.Goals.{else-at-len-via-then-at-len+else-index-part, else-at-len-via-else-at-len}

-- room for a block that is new
enough_for_new : (x : Option Image) (many capacity : ℕ) → x ≡ None → many + cond (is_none x) 1 0 ≤ capacity → many + 1 ≤ capacity
enough_for_new None many capacity e enough = enough
enough_for_new (Some y) many capacity e enough = absurd cc

pub returns-then-index-part-clause-ok : goal.returns-then-index-part-clause-ok
returns-then-index-part-clause-ok c =
    let old = c.args.parts.now.items in
    let at = c.place-at.result in
    let within : at < length old = omega (arith, ap length c.deref.ensures.value, c.if-at-len.true) in
    let place : IsPartPlace old c.args.part.block.0 at = subst (λ (ps : List Part). IsPartPlace ps c.args.part.block.0 at) c.deref.ensures.value c.place-at.ensures in
    put_over old c.args.part at c.requires place within (λ d.
    let read : get_or old at d ≡ c.index.result.now = get_or_default old at d c.index.result.now within ∙ sym c.index.ensures in
    ap (λ (p : Part). p.block.0) read ∙ c.if-index-part.true)

pub returns-then-index-part-clause-fit : goal.returns-then-index-part-clause-fit
returns-then-index-part-clause-fit c = λ all is. parts-set c.args.parts.now.items c.args.part c.place-at.result all is

pub returns-clause-ok : goal.returns-clause-ok
returns-clause-ok c =
    let old = c.args.parts.now.items in
    let at = c.place-at.result in
    let place : IsPartPlace old c.args.part.block.0 at = subst (λ (ps : List Part). IsPartPlace ps c.args.part.block.0 at) c.deref.ensures.value c.place-at.ensures in
    let other : (d : Part) → at < length old → (get_or old at d).block.0 ≢ c.args.part.block.0 = λ d within same. elim c.else-at-len.branch [
      | else-at-len-via-then-at-len+else-index-part w ↦
          let read : w.index.result.now ≡ get_or old at d = w.index.ensures ∙ get_or_default old at w.index.result.now d within in
          w.if-index-part.false (ap (λ (p : Part). p.block.0) read ∙ same)
      | else-at-len-via-else-at-len w ↦ omega (arith, within, ap length c.deref.ensures.value, w.if-at-len.false)
    ] in
    subst (λ (ps : List Part). IsPut old ps c.args.part) (sym c.in_ok-insert.ensures.items) (put_between old c.args.part at c.requires place other)

pub returns-clause-fit : goal.returns-clause-fit
returns-clause-fit c = λ all is. subst (AllByRecursion IsPart) (sym c.in_ok-insert.ensures.items) (parts-insert c.args.parts.now.items c.args.part c.place-at.result all is)

pub returns-in_err-insert-clause-room : goal.returns-in_err-insert-clause-room
returns-in_err-insert-clause-room c = λ enough.
    let old = c.args.parts.now.items in
    let at = c.place-at.result in
    let place : IsPartPlace old c.args.part.block.0 at = subst (λ (ps : List Part). IsPartPlace ps c.args.part.block.0 at) c.deref.ensures.value c.place-at.ensures in
    let none = missing_at old c.args.part.block.0 at c.requires place (λ d within same. elim c.else-at-len.branch [
      | else-at-len-via-then-at-len+else-index-part w ↦
          let read : w.index.result.now ≡ get_or old at d = w.index.ensures ∙ get_or_default old at w.index.result.now d within in
          w.if-index-part.false (ap (λ (p : Part). p.block.0) read ∙ same)
      | else-at-len-via-else-at-len w ↦ omega (arith, within, ap length c.deref.ensures.value, w.if-at-len.false)
    ]) in
    absurd (let full = c.in_err-insert.ensures.full in let many : length old ≡ vec_len c.args.parts.now = ap length (sym c.deref.ensures.value) ∙ c.deref.ensures.len in let more = enough_for_new (image_in old c.args.part.block.0) (length old) (vec_capacity c.args.parts.now) none enough in omega (arith, full, more, many))
