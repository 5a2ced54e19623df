-- Where nothing is written, a block is as it was found.
use Rattle.std.proofs.Common.{sym, ap, ◌∙◌}
use Rattle.std.specs.Option.{option_copied}
use Rattle.zj_dirs.specs.Possible.{or_nothing, overlaid}
use Rattle.zj_dirs.proofs.Looks.{overlaid_nothing}
use Rattle.zj_dirs.proofs.looking.seen.Goals as goal

pub returns-in_default-clause-content : goal.returns-in_default-clause-content
returns-in_default-clause-content c =
    c.get.ensures.found ∙ sym (overlaid_nothing c.args.taken.now c.args.block.0) ∙ ap (λ w. overlaid c.args.taken.now (or_nothing (option_copied w)) c.args.block.0) (sym c.in_default.is)
