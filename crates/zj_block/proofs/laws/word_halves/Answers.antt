use Rattle.zj_block.proofs.Views.{number_off_word, word_of_halves}
use Rattle.zj_block.proofs.laws.word_halves.Goals as goal

pub returns : goal.returns
returns c = record { halves = word_of_halves; others = number_off_word }
