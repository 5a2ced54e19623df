use Rattle.std.proofs.Common.{sym, ◌∙◌}
use Rattle.std.proofs.lemmas.List.{get_or_default}
use Rattle.zj_layout.specs.Image.{no_link}
use Rattle.zj_layout.proofs.Entered.{no_name, some_name}
use Rattle.zj_layout.proofs.entries.is_repeated.Goals as goal

pub returns-clause-yes : goal.returns-clause-yes
returns-clause-yes c = λ h. some_name c.args.links.now c.args.place c.index-links-place.result c.requires (c.index-links-place.is ∙ get_or_default c.args.links.now c.args.place c.index-links-place.result no_link c.requires) (sym c.has_name.ensures ∙ h)

pub returns-clause-no : goal.returns-clause-no
returns-clause-no c = λ h. no_name c.args.links.now c.args.place c.index-links-place.result c.requires (c.index-links-place.is ∙ get_or_default c.args.links.now c.args.place c.index-links-place.result no_link c.requires) (sym c.has_name.ensures ∙ h)
