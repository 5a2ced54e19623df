use Rattle.zj_area.proofs.Readings.{not_both}
use Rattle.zj_area.proofs.laws.whole_or_damaged.Goals as goal

pub returns : goal.returns
returns c = λ n core image tail records end at found expected whole bad.
    not_both c.one_spelling.ensures c.gate_is_open.ensures n core image records bad.records tail end bad.bad whole.stand whole.closed bad.stand bad.opens bad.none
