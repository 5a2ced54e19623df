use Rattle.std.proofs.Common.{◌≡◌, length, Some, ap, sym, ◌∙◌, arith}
use Rattle.zj_tree.specs.declared.content.Content.TheVariants.{File}
use Rattle.zj_tree.specs.Tree.{content_at}
use Rattle.zj_tree.proofs.WithinLemmas.{longest}
use Rattle.zj_tree.proofs.tree.Tree.file_size.Goals as goal

pub overflow_cast-result : goal.overflow_cast-result
overflow_cast-result c =
    let there : content_at c.args.self.now.tree c.args.path.now ≡ Some (File c.in-Some-File.bytes) = sym c.in-Some-File.ensures.value ∙ ap Some c.in-Some-File.field-0-is in
    omega (arith, c.in-Some-File.ensures.within.files c.args.path.now c.in-Some-File.bytes there, longest c.args.self.now.limits.version, ap length c.as_slice.ensures)
