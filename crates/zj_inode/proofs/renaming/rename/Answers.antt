-- Each answer of the code is the plain service's in every possible state.
use Rattle.std.proofs.Common.{◌≡◌, ◌≢◌, Bool, true, false, None, refl, sym, ◌∙◌, subst}
use Rattle.std.specs.FinMap as map_of
use Rattle.std.proofs.lemmas.Result.{err_from_is_err_and}
use Rattle.std.proofs.lemmas.Slice.Eq.{bytes_eq-Decides, slice_eq-Decides}
use Rattle.zj_block.specs.Lists.{AreContents}
use Rattle.zj_tree.specs.Path.{same_path}
use Rattle.zj_layout.specs.declared.fields.Kind.TheVariants.{Dir}
use Rattle.zj_layout.specs.Graph.{step}
use Rattle.zj_layout.specs.Image.{graph_of, node_of}
use Rattle.zj_layout.specs.Stored.{IsStored}
use Rattle.zj_layout.proofs.Follow.{Path'}
use Rattle.zj_dirs.specs.Looking.{StandsAt}
use Rattle.zj_dirs.specs.Possible.{Made}
use Rattle.zj_inode.specs.Finding.{IsEntryOf}
use Rattle.zj_inode.proofs.Renames.{dir_stops, inside_refused, moved_over, moved_to, moves, root_refused, root_stops, same_path_done, search_stops, to_directory, way_stops}
use Rattle.zj_inode.proofs.Steps.{always_stored, fresh_always, fresh_made}
use Rattle.zj_inode.proofs.renaming.rename.Goals.{in-Some-2+in_ok-move_over-in-Some-2, in-None+in_ok-move_to-in-None}
use Rattle.zj_inode.proofs.renaming.rename.Goals as goal

paths_differ : (p q : Path') (t : Bool) → t ≡ same_path p q → t ≡ false → p ≢ q
paths_differ p q t h e same = clash (sym e ∙ h ∙ (slice_eq-Decides bytes_eq-Decides p q (same_path p q) refl).1 same)
  where
    clash : false ≡ true → ⊥
    clash z = cc

paths_equal : (p q : Path') (t : Bool) → t ≡ same_path p q → t ≡ true → p ≡ q
paths_equal p q t h e = (slice_eq-Decides bytes_eq-Decides p q (same_path p q) refl).0 (sym h ∙ e)

not_true : (t : Bool) → t ≡ true → t ≡ false → ⊥
not_true t a b = cc

pub returns-in_default-clause-stop : goal.returns-in_default-clause-stop
returns-in_default-clause-stop c = root_refused c.args.sizes.now c.args.taken.now c.args.from.now c.args.to.now c.in_default.ensures.none

pub returns-in_err-old-clause-stop : goal.returns-in_err-old-clause-stop
returns-in_err-old-clause-stop c =
    let q = err_from_is_err_and c.from_residual.result c.from_residual.ensures.1 in
    rw (q.1, q.2) (way_stops c.args.sizes.now c.args.taken.now c.args.from.now c.args.to.now c.in-Some.front.now c.in-Some.name.now c.in-Some.ensures.some c.in_err-old.field-0.0 c.in_err-old.ensures.stop)

pub returns-then-eq-clause-done : goal.returns-then-eq-clause-done
returns-then-eq-clause-done c = same_path_done c.args.sizes.now c.args.taken.now c.args.from.now c.args.to.now c.in-Some.front.now c.in-Some.name.now c.in-Some.ensures.some c.in_ok-old.old c.in_ok-old.ensures.ok c.args.built.now c.requires.fresh (paths_equal c.args.from.now c.args.to.now c.eq.result c.eq.ensures c.if-eq.true)

pub returns-then-goes_inside-clause-stop : goal.returns-then-goes_inside-clause-stop
returns-then-goes_inside-clause-stop c = let both = c.goes_inside.ensures.0 c.if-goes_inside.true in inside_refused c.args.sizes.now c.args.taken.now c.args.from.now c.args.to.now c.in-Some.front.now c.in-Some.name.now c.in-Some.ensures.some c.in_ok-old.old c.in_ok-old.ensures.ok (paths_differ c.args.from.now c.args.to.now c.eq.result c.eq.ensures c.if-eq.false) both.0 both.1

pub returns-in_default-split-clause-stop : goal.returns-in_default-split-clause-stop
returns-in_default-split-clause-stop c = root_stops c.args.sizes.now c.args.taken.now c.args.from.now c.args.to.now c.in-Some.front.now c.in-Some.name.now c.in-Some.ensures.some c.in_ok-old.old c.in_ok-old.ensures.ok (paths_differ c.args.from.now c.args.to.now c.eq.result c.eq.ensures c.if-eq.false) (λ k b. not_true c.goes_inside.result (c.goes_inside.ensures.1 (k, b)) c.if-goes_inside.false) c.in_default-split.ensures.none c.onto_root.result c.onto_root.ensures.file c.onto_root.ensures.directory c.onto_root.ensures.free

pub returns-in_err-to_dir-clause-stop : goal.returns-in_err-to_dir-clause-stop
returns-in_err-to_dir-clause-stop c =
    let q = err_from_is_err_and c.from_residual-in_err-to_dir.result c.from_residual-in_err-to_dir.ensures.1 in
    rw (q.1, q.2) (dir_stops c.args.sizes.now c.args.taken.now c.args.from.now c.args.to.now c.in-Some.front.now c.in-Some.name.now c.in-Some.ensures.some c.in_ok-old.old c.in_ok-old.ensures.ok (paths_differ c.args.from.now c.args.to.now c.eq.result c.eq.ensures c.if-eq.false) (λ k b. not_true c.goes_inside.result (c.goes_inside.ensures.1 (k, b)) c.if-goes_inside.false) c.in-Some-split.to_front.now c.in-Some-split.to_name.now c.in-Some-split.ensures.some c.in_err-to_dir.field-0.0 c.in_err-to_dir.ensures.stop)

pub entry_of-requires-clause-stored : goal.entry_of-requires-clause-stored
entry_of-requires-clause-stored c = fresh_made c.args.sizes.now c.args.taken.now c.args.built.now c.requires.fresh (IsStored c.args.sizes.now) (always_stored c.args.sizes.now c.args.taken.now)

pub entry_of-requires-clause-directory : goal.entry_of-requires-clause-directory
entry_of-requires-clause-directory c = fresh_made c.args.sizes.now c.args.taken.now c.args.built.now c.requires.fresh (λ image. (node_of image c.in_ok-to_dir.to_dir.number).kind ≡ Dir)
    (to_directory c.args.sizes.now c.args.taken.now c.args.from.now c.args.to.now c.in-Some.front.now c.in-Some.name.now c.in-Some.ensures.some c.in_ok-old.old c.in_ok-old.ensures.ok (paths_differ c.args.from.now c.args.to.now c.eq.result c.eq.ensures c.if-eq.false) (λ k b. not_true c.goes_inside.result (c.goes_inside.ensures.1 (k, b)) c.if-goes_inside.false) c.in-Some-split.to_front.now c.in-Some-split.to_name.now c.in-Some-split.ensures.some c.in_ok-to_dir.to_dir c.in_ok-to_dir.ensures.ok c.in_ok-to_dir.ensures.directory)

pub returns-in_err-onto-clause-stop : goal.returns-in_err-onto-clause-stop
returns-in_err-onto-clause-stop c =
    let q = err_from_is_err_and c.from_residual-in_err-onto.result c.from_residual-in_err-onto.ensures.1 in
    rw (q.1, q.2) (search_stops c.args.sizes.now c.args.taken.now c.args.from.now c.args.to.now c.in-Some.front.now c.in-Some.name.now c.in-Some.ensures.some c.in_ok-old.old c.in_ok-old.ensures.ok (paths_differ c.args.from.now c.args.to.now c.eq.result c.eq.ensures c.if-eq.false) (λ k b. not_true c.goes_inside.result (c.goes_inside.ensures.1 (k, b)) c.if-goes_inside.false) c.in-Some-split.to_front.now c.in-Some-split.to_name.now c.in-Some-split.ensures.some c.in_ok-to_dir.to_dir c.in_ok-to_dir.ensures.ok c.in_ok-to_dir.ensures.directory c.args.built.now c.requires.fresh c.in_err-onto.field-0.0 c.in_err-onto.ensures.stop)

pub move_over-requires-clause-moves : goal.move_over-requires-clause-moves
move_over-requires-clause-moves c = (c.args.from.now, c.args.to.now, (moves c.args.sizes.now c.args.taken.now c.args.from.now c.args.to.now c.in-Some.front.now c.in-Some.name.now c.in-Some.ensures.some c.in_ok-old.old c.in_ok-old.ensures.ok (paths_differ c.args.from.now c.args.to.now c.eq.result c.eq.ensures c.if-eq.false) (λ k b. not_true c.goes_inside.result (c.goes_inside.ensures.1 (k, b)) c.if-goes_inside.false) c.in-Some-split.to_front.now c.in-Some-split.to_name.now c.in-Some-split.ensures.some c.in_ok-to_dir.to_dir c.in_ok-to_dir.ensures.ok c.in_ok-to_dir.ensures.directory))

pub move_over-requires-clause-node : goal.move_over-requires-clause-node
move_over-requires-clause-node c = λ state tree p. (c.in_ok-to_dir.ensures.ok state tree p).is

pub move_over-requires-clause-stands : goal.move_over-requires-clause-stands
move_over-requires-clause-stands c = (fresh_always c.args.sizes.now c.args.taken.now c.args.built.now c.requires.fresh (λ image. StandsAt image c.in_ok-to_dir.to_dir.number c.in-Some-split.to_name.now c.in-Some-2.onto.place c.in-Some-2.onto.node)
    (subst (λ o. Made c.args.sizes.now c.args.taken.now c.args.built.now (λ image. IsEntryOf image c.in_ok-to_dir.to_dir.number c.in-Some-split.to_name.now o)) c.in-Some-2.is c.in_ok-onto.ensures.ok))

pub returns-in_err-move_over-in-Some-2-clause-stop : goal.returns-in_err-move_over-in-Some-2-clause-stop
returns-in_err-move_over-in-Some-2-clause-stop c =
    let q = err_from_is_err_and c.from_residual-in_err-move_over-in-Some-2.result c.from_residual-in_err-move_over-in-Some-2.ensures.1 in
    rw (q.1, q.2) (c.in_err-move_over-in-Some-2.ensures.stop c.args.from.now c.args.to.now (moves c.args.sizes.now c.args.taken.now c.args.from.now c.args.to.now c.in-Some.front.now c.in-Some.name.now c.in-Some.ensures.some c.in_ok-old.old c.in_ok-old.ensures.ok (paths_differ c.args.from.now c.args.to.now c.eq.result c.eq.ensures c.if-eq.false) (λ k b. not_true c.goes_inside.result (c.goes_inside.ensures.1 (k, b)) c.if-goes_inside.false) c.in-Some-split.to_front.now c.in-Some-split.to_name.now c.in-Some-split.ensures.some c.in_ok-to_dir.to_dir c.in_ok-to_dir.ensures.ok c.in_ok-to_dir.ensures.directory))

pub move_to-requires-clause-moves : goal.move_to-requires-clause-moves
move_to-requires-clause-moves c = (c.args.from.now, c.args.to.now, (moves c.args.sizes.now c.args.taken.now c.args.from.now c.args.to.now c.in-Some.front.now c.in-Some.name.now c.in-Some.ensures.some c.in_ok-old.old c.in_ok-old.ensures.ok (paths_differ c.args.from.now c.args.to.now c.eq.result c.eq.ensures c.if-eq.false) (λ k b. not_true c.goes_inside.result (c.goes_inside.ensures.1 (k, b)) c.if-goes_inside.false) c.in-Some-split.to_front.now c.in-Some-split.to_name.now c.in-Some-split.ensures.some c.in_ok-to_dir.to_dir c.in_ok-to_dir.ensures.ok c.in_ok-to_dir.ensures.directory))

pub move_to-requires-clause-absent : goal.move_to-requires-clause-absent
move_to-requires-clause-absent c = (fresh_always c.args.sizes.now c.args.taken.now c.args.built.now c.requires.fresh (λ image. step (graph_of image) c.in_ok-to_dir.to_dir.number c.in-Some-split.to_name.now ≡ None)
    (subst (λ o. Made c.args.sizes.now c.args.taken.now c.args.built.now (λ image. IsEntryOf image c.in_ok-to_dir.to_dir.number c.in-Some-split.to_name.now o)) c.in-None.is c.in_ok-onto.ensures.ok))

pub returns-in_err-move_to-in-None-clause-stop : goal.returns-in_err-move_to-in-None-clause-stop
returns-in_err-move_to-in-None-clause-stop c =
    let q = err_from_is_err_and c.from_residual-in_err-move_to-in-None.result c.from_residual-in_err-move_to-in-None.ensures.1 in
    rw (q.1, q.2) (c.in_err-move_to-in-None.ensures.stop c.args.from.now c.args.to.now (moves c.args.sizes.now c.args.taken.now c.args.from.now c.args.to.now c.in-Some.front.now c.in-Some.name.now c.in-Some.ensures.some c.in_ok-old.old c.in_ok-old.ensures.ok (paths_differ c.args.from.now c.args.to.now c.eq.result c.eq.ensures c.if-eq.false) (λ k b. not_true c.goes_inside.result (c.goes_inside.ensures.1 (k, b)) c.if-goes_inside.false) c.in-Some-split.to_front.now c.in-Some-split.to_name.now c.in-Some-split.ensures.some c.in_ok-to_dir.to_dir c.in_ok-to_dir.ensures.ok c.in_ok-to_dir.ensures.directory))

pub returns-clause-done : goal.returns-clause-done
returns-clause-done c =
    let m = (moves c.args.sizes.now c.args.taken.now c.args.from.now c.args.to.now c.in-Some.front.now c.in-Some.name.now c.in-Some.ensures.some c.in_ok-old.old c.in_ok-old.ensures.ok (paths_differ c.args.from.now c.args.to.now c.eq.result c.eq.ensures c.if-eq.false) (λ k b. not_true c.goes_inside.result (c.goes_inside.ensures.1 (k, b)) c.if-goes_inside.false) c.in-Some-split.to_front.now c.in-Some-split.to_name.now c.in-Some-split.ensures.some c.in_ok-to_dir.to_dir c.in_ok-to_dir.ensures.ok c.in_ok-to_dir.ensures.directory) in
    elim c.match-branch-4.branch [
      | in-Some-2+in_ok-move_over-in-Some-2 w ↦ rw w.built-is
          (moved_over c.args.sizes.now c.args.taken.now c.args.from.now c.args.to.now c.in_ok-old.old c.in_ok-to_dir.to_dir.number (record { node = c.in_ok-old.old.number; name = c.in-Some-split.to_name.now }) m c.args.built.now c.requires.fresh w.move_over.new.built
          (subst (λ b. AreContents (map_of.entries b)) w.built-is c.len-contents.ensures.contents) w.in-Some-2.onto
          (fresh_always c.args.sizes.now c.args.taken.now c.args.built.now c.requires.fresh (λ image. StandsAt image c.in_ok-to_dir.to_dir.number c.in-Some-split.to_name.now w.in-Some-2.onto.place w.in-Some-2.onto.node)
          (subst (λ o. Made c.args.sizes.now c.args.taken.now c.args.built.now (λ image. IsEntryOf image c.in_ok-to_dir.to_dir.number c.in-Some-split.to_name.now o)) w.in-Some-2.is c.in_ok-onto.ensures.ok))
          w.in_ok-move_over-in-Some-2.ensures.matches w.in_ok-move_over-in-Some-2.ensures.done)
      | in-None+in_ok-move_to-in-None w ↦ rw w.built-is
          (moved_to c.args.sizes.now c.args.taken.now c.args.from.now c.args.to.now c.in_ok-old.old c.in_ok-to_dir.to_dir.number (record { node = c.in_ok-old.old.number; name = c.in-Some-split.to_name.now }) m c.args.built.now c.requires.fresh w.move_to.new.built
          (subst (λ b. AreContents (map_of.entries b)) w.built-is c.len-contents.ensures.contents)
          (fresh_always c.args.sizes.now c.args.taken.now c.args.built.now c.requires.fresh (λ image. step (graph_of image) c.in_ok-to_dir.to_dir.number c.in-Some-split.to_name.now ≡ None)
          (subst (λ o. Made c.args.sizes.now c.args.taken.now c.args.built.now (λ image. IsEntryOf image c.in_ok-to_dir.to_dir.number c.in-Some-split.to_name.now o)) w.in-None.is c.in_ok-onto.ensures.ok))
          w.in_ok-move_to-in-None.ensures.done)
    ]
