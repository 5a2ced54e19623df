use Rattle.zj_dirs.proofs.Seen.{data_below, made_content}
use Rattle.zj_dirs.proofs.Written.{none_seen, none_taken}
use Rattle.zj_dirs.proofs.laws.seen_blocks.Goals as goal

pub returns : goal.returns
returns c = record {
  content = λ sizes found written block content seen for_data state tree p. made_content sizes found written state tree p block content for_data (data_below sizes block for_data) seen;
  unseen = λ found written all block. (none_seen found written block all, none_taken found written block all);
}
