use Rattle.zj_block.proofs.Views.{number_apart, number_elsewhere, number_found, u32_at_fits, word_elsewhere}
use Rattle.zj_block.proofs.laws.put_number.Goals as goal

pub returns : goal.returns
returns c = record {
  fits = u32_at_fits;
  found = number_found;
  apart = λ content at number other is within apart. number_apart content at number is within other apart;
  elsewhere = number_elsewhere;
  words = word_elsewhere;
}
