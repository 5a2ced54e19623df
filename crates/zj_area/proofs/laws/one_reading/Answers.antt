use Rattle.zj_area.proofs.Readings.{one_list}
use Rattle.zj_area.proofs.laws.one_reading.Goals as goal

pub returns : goal.returns
returns c = λ n core image tail records others end other first second.
    one_list c.one_spelling.ensures c.gate_is_open.ensures n core image records others tail end other first.stand first.closed second.stand second.closed
