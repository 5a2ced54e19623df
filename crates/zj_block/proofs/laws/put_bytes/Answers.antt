use Rattle.zj_block.proofs.Views.{IsContent-with_bytes_at, bytes_of-with_bytes_at}
use Rattle.zj_block.proofs.laws.put_bytes.Goals as goal

pub returns : goal.returns
returns c = record {
  bytes = bytes_of-with_bytes_at;
  content = IsContent-with_bytes_at;
}
