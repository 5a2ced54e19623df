use Rattle.std.proofs.Common.{arith}
use Rattle.zj_mount.proofs.SetLemmas.{name_of}
use Rattle.zj_mount.proofs.names.journal_name.Goals as goal

pub returns-in-0 : goal.returns-in-0
returns-in-0 c = name_of c.args.core 0 c.in-0.is (omega arith)

pub returns-in-1 : goal.returns-in-1
returns-in-1 c = name_of c.args.core 1 c.in-1.is (omega arith)

pub returns-in-2 : goal.returns-in-2
returns-in-2 c = name_of c.args.core 2 c.in-2.is (omega arith)

pub returns-in-3 : goal.returns-in-3
returns-in-3 c = name_of c.args.core 3 c.in-3.is (omega arith)

pub returns-in-4 : goal.returns-in-4
returns-in-4 c = name_of c.args.core 4 c.in-4.is (omega arith)

pub returns-in-5 : goal.returns-in-5
returns-in-5 c = name_of c.args.core 5 c.in-5.is (omega arith)

pub returns-in-6 : goal.returns-in-6
returns-in-6 c = name_of c.args.core 6 c.in-6.is (omega arith)

pub returns-in_default : goal.returns-in_default
returns-in_default c = name_of c.args.core 7 (omega arith) (omega arith)
