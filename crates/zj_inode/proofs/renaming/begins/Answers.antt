-- A path begins with another where its first names are those of the other.
use Rattle.std.proofs.Common.{ℕ, List, ◌++◌, length, take, drop, refl, sym, ap, ◌∙◌, arith}
use Rattle.std.proofs.lemmas.List.{length-append, take-append-drop}
use Rattle.std.proofs.lemmas.Slice.Eq.{bytes_eq-Decides, slice_eq-Decides}
use Rattle.std.proofs.Math.Seq.{take-append_seam}
use Rattle.zj_tree.specs.Path.{same_path}
use Rattle.zj_inode.proofs.renaming.begins.Goals as goal

pub returns-then-front-path : goal.returns-then-front-path
returns-then-front-path c = (λ t. absurd cc, λ b. absurd (omega (arith, c.if-front-path.true, ap length b.1, length-append c.args.front.now b.0)))

pub returns : goal.returns
returns c =
    let path = c.args.path.now in
    let front = c.args.front.now in
    let first : List (List ℕ) = take (length front) path in
    let decides = slice_eq-Decides bytes_eq-Decides first front (same_path first front) refl in (
      λ t. (drop (length front) path, sym (take-append-drop (length front) path) ∙ ap (λ (x : List (List ℕ)). x ++ drop (length front) path) (decides.0 (sym c.eq.ensures ∙ t))),
      λ b. c.eq.ensures ∙ decides.1 (ap (take (length front)) b.1 ∙ take-append_seam front b.0),
    )
