use Rattle.zj_tree.specs.Entry.{entry_content}
use Rattle.zj_tree.specs.Path.{path_text}
use Rattle.zj_script.specs.Entries.{content_words}
use Rattle.zj_script.proofs.Adding.{adds_line}
use Rattle.zj_script.proofs.entry.put_entry.Goals as goal

pub returns : goal.returns
returns c =
    adds_line c.extend.result c.args.out.now _ _ c.extend.new.self (path_text c.args.path.now) (content_words (entry_content c.args.content) c.args.entries)
    c.in_ok-put_first_path.ensures.all c.in_ok-put_content.ensures.all c.extend.ensures.ok c.extend.ensures.err
