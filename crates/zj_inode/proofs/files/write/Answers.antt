-- What is left of the built contents, with the range's, performs the call.
use Rattle.std.proofs.Common.{◌≡◌, ℕ, ◌/◌, List, length, subst, ap, ◌∙◌, arith}
use Rattle.std.specs.FinMap as map_of
use Rattle.std.specs.FinMap.{len-empty}
use Rattle.std.specs.Ordering.{nat_cmp}
use Rattle.std.proofs.lemmas.Result.{IfOk-weaker}
use Rattle.zj_tree.specs.declared.call.Call.TheVariants.{Write}
use Rattle.zj_inode.specs.Answering.{CallStops}
use Rattle.zj_inode.specs.Files.{Overwrites, TrimsAround, blocks_up_to}
use Rattle.zj_inode.proofs.Around.{none_written, undone_whole, whole_in, write_performs}
use Rattle.zj_inode.proofs.Writes.{up_to_most}
use Rattle.zj_inode.proofs.files.write.Goals as goal

pub trim_around-requires-clause-all : goal.trim_around-requires-clause-all
trim_around-requires-clause-all c = c.overwrite.ensures.taken (none_written c.args.taken.now c.new-built.result c.new-built.ensures)

pub trim_around-requires-clause-ordered : goal.trim_around-requires-clause-ordered
trim_around-requires-clause-ordered c = let most = up_to_most c.args.at (length c.as_slice-bytes.result.now) in omega (arith, most.0, c.end_block-high.ensures)

pub trim_around-requires-clause-few : goal.trim_around-requires-clause-few
trim_around-requires-clause-few c = let most = up_to_most c.args.at (length c.as_slice-bytes.result.now) in omega (arith, most.1, c.end_block-high.ensures, c.in-Ok.ensures.fits)

trims : (c : goal.After-drop-built-inside-in-Ok) → TrimsAround c.args.taken.now c.overwrite.new.built c.in-Ok.blocks (c.args.at / 512) (blocks_up_to c.args.at (length c.args.bytes.now)) c.in_ok-trim_around-in-Ok.field-0
trims c =
    subst (λ n. TrimsAround c.args.taken.now c.overwrite.new.built c.in-Ok.blocks (c.args.at / 512) n c.in_ok-trim_around-in-Ok.field-0)
    (c.end_block-high.ensures ∙ ap (λ (bs : List ℕ). blocks_up_to c.args.at (length bs)) c.as_slice-bytes.ensures)
    c.in_ok-trim_around-in-Ok.ensures.trims

writes : (c : goal.After-drop-built-inside-in-Ok) → Overwrites c.args.sizes.now c.args.taken.now c.overwrite.new.built c.args.path.now c.args.at c.args.bytes.now c.in-Ok.blocks
writes c = subst (λ bs. Overwrites c.args.sizes.now c.args.taken.now c.overwrite.new.built c.args.path.now c.args.at bs c.in-Ok.blocks) c.as_slice-bytes.ensures c.in-Ok.ensures.done

pub returns-in-Ok-clause-says : goal.returns-in-Ok-clause-says
returns-in-Ok-clause-says c =
    write_performs c.args.sizes.now c.args.taken.now c.args.path.now c.args.at c.args.bytes.now c.overwrite.new.built c.in-Ok.blocks (writes c) c.in_ok-trim_around-in-Ok.field-0 (trims c)
    (c.overwrite.ensures.taken (none_written c.args.taken.now c.new-built.result c.new-built.ensures))

pub returns-in-Ok-clause-whole : goal.returns-in-Ok-clause-whole
returns-in-Ok-clause-whole c = λ state tree p file k leads le lt.
    whole_in c.args.sizes.now c.args.taken.now c.args.path.now c.args.at c.args.bytes.now c.overwrite.new.built c.in-Ok.blocks (writes c) c.in_ok-trim_around-in-Ok.field-0 (trims c) state tree p file k leads le lt

pub returns-clause-says : goal.returns-clause-says
returns-clause-says c =
    c.stop.ensures.says c.args.taken.now (Write c.args.path.now c.args.at c.args.bytes.now)
    (subst (λ bs. CallStops c.args.sizes.now c.args.taken.now (Write c.args.path.now c.args.at bs) c.in-Err.stopped) c.as_slice-bytes.ensures c.in-Err.ensures.stop)

pub returns-clause-whole : goal.returns-clause-whole
returns-clause-whole c = IfOk-weaker c.stop.result _ _ (λ o h. undone_whole c.args.sizes.now c.args.taken.now c.args.path.now c.args.at (length c.args.bytes.now) o h) c.stop.ensures.undone

pub returns-in-Ok-clause-few : goal.returns-in-Ok-clause-few
returns-in-Ok-clause-few c =
    let none : map_of.len c.new-built.result ≡ 0 = ap map_of.len c.new-built.ensures ∙ len-empty nat_cmp (List ℕ) in
    omega (arith, none, c.overwrite.ensures.few, c.in_ok-trim_around-in-Ok.ensures.few)
