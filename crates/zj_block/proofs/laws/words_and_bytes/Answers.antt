use Rattle.zj_block.proofs.Bytes.{IsBytes-bytes_of, bytes_of-words_of, words_of-bytes_of}
use Rattle.zj_block.proofs.Views.{IsContent-words_of}
use Rattle.zj_block.proofs.laws.words_and_bytes.Goals as goal

pub returns : goal.returns
returns c = record {
  words = λ content is. words_of-bytes_of content is.fits;
  bytes = λ bytes is. bytes_of-words_of bytes 64 is.many is.fits;
  content_has_bytes = IsBytes-bytes_of;
  bytes_make_content = IsContent-words_of;
}
