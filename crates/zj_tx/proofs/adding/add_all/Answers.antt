use Rattle.std.proofs.Common.{◌≡◌, ℕ, ◌+◌, ◌<◌, ◌≤◌, true, false, cond, List, length, take, sym, ap, ◌∙◌, arith}
use Rattle.std.specs.Prelude.{slice_get, is_none, is_ok}
use Rattle.std.specs.FinMap as map_of
use Rattle.std.specs.List.{count_by}
use Rattle.std.specs.Option.{option_or}
use Rattle.std.specs.Ordering.{nat_cmp}
use Rattle.std.specs.Vec.{vec_capacity}
use Rattle.zj_tx.specs.Frozen.{image_in}
use Rattle.zj_tx.specs.Running.{stamped}
use Rattle.zj_tx.specs.Parts.{IsPut}
use Rattle.zj_tx.proofs.PartLists.{put_next, put_many, no_room, within_some, at_some, whole_front}
use Rattle.zj_tx.proofs.adding.add_all.Goals as goal

pub loop-i-preserved : goal.loop-i-preserved
loop-i-preserved c =
    let es = map_of.entries c.args.written.now in
    let old = c.args.blocks.now.items in
    let mid = c.loop-i.blocks.items in
    let new = c.add_one.new.blocks.items in
    let lt : c.loop-i.i < length es = omega (arith, c.loop-i-test.true, c.len-i-end.ensures.len, map_of.len-entries c.args.written.now) in
    let some = within_some es c.loop-i.i lt in
    let put : IsPut mid new (record { block = record { 0 = some.0.0 }; stamp = c.args.stamp; image = some.0.1 }) =
    at_some (slice_get es c.loop-i.i) (λ (e : ℕ × List ℕ). IsPut mid new (record { block = record { 0 = e.0 }; stamp = c.args.stamp; image = e.1 })) some.0 some.1 c.in_ok-add_one.ensures.ok in
    record {
      images = put_next old mid new es c.loop-i.i some.0 c.args.stamp (map_of.entries_sorted c.args.written.now) some.1 put c.loop-i.invariant.images;
      ascending = put.ascending;
      many =
          put_many old mid new es c.loop-i.i some.0 c.args.stamp.0 (map_of.entries_sorted c.args.written.now) some.1 put.many c.loop-i.invariant.images c.loop-i.invariant.many;
      fit = λ all. c.add_one.ensures.fit (c.loop-i.invariant.fit all);
      capacity = let a = c.loop-i.invariant.capacity in let b = c.add_one.ensures.capacity in omega (arith, a, b);
    }

pub returns-in_err-add_one-clause-room : goal.returns-in_err-add_one-clause-room
returns-in_err-add_one-clause-room c = λ enough. absurd (
    let es = map_of.entries c.args.written.now in
    let old = c.args.blocks.now.items in
    let mid = c.loop-i.blocks.items in
    let lt : c.loop-i.i < length es = omega (arith, c.loop-i-test.true, c.len-i-end.ensures.len, map_of.len-entries c.args.written.now) in
    let some = within_some es c.loop-i.i lt in
    let allowed : length mid + cond (is_none (image_in mid some.0.0)) 1 0 ≤ vec_capacity c.loop-i.blocks → is_ok c.add_one.result ≡ true =
    at_some (slice_get es c.loop-i.i) (λ (e : ℕ × List ℕ). length mid + cond (is_none (image_in mid e.0)) 1 0 ≤ vec_capacity c.loop-i.blocks → is_ok c.add_one.result ≡ true) some.0 some.1 c.add_one.ensures.room in
    let refused : length mid + cond (is_none (image_in mid some.0.0)) 1 0 ≤ vec_capacity c.loop-i.blocks → ⊥ = λ h. let no : true ≡ false = sym (allowed h) ∙ ap is_ok c.in_err-add_one.was in cc in
    let grows = c.loop-i.invariant.capacity in
    no_room old mid es c.loop-i.i some.0 c.args.stamp.0 (vec_capacity c.loop-i.blocks) (map_of.entries_sorted c.args.written.now) some.1 c.loop-i.invariant.images c.loop-i.invariant.many refused (omega (arith, enough, grows)))

pub returns-clause-ok : goal.returns-clause-ok
returns-clause-ok c =
    let es = map_of.entries c.args.written.now in
    let old = c.args.blocks.now.items in
    let whole : take c.loop-i.i es ≡ es = whole_front es c.loop-i.i (omega (arith, c.loop-i-test.false, c.len-i-end.ensures.len, map_of.len-entries c.args.written.now)) in
    record {
      images = λ block. c.loop-i.invariant.images block
          ∙ ap (λ (l : List (ℕ × List ℕ)). option_or (stamped c.args.stamp.0 (map_of.find nat_cmp block l)) (image_in old block)) whole
          ∙ sym (ap (λ x. option_or (stamped c.args.stamp.0 x) (image_in old block)) (map_of.get-entries c.args.written.now block));
      ascending = c.loop-i.invariant.ascending;
      many = c.loop-i.invariant.many ∙ ap (λ (l : List (ℕ × List ℕ)). length old + count_by (λ e. is_none (image_in old e.0)) l) whole;
    }
