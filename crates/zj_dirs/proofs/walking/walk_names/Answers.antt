-- A walk over taken blocks is the walk in every possible state.
use Rattle.std.proofs.Common.{take, refl, subst}
use Rattle.zj_layout.specs.Image.{graph_of, image_of}
use Rattle.zj_dirs.specs.Walking.{StepSays}
use Rattle.zj_dirs.proofs.Walks.{follow_all, follow_rest, leads_live, stands_before, step_needs}
use Rattle.zj_dirs.proofs.walking.walk_names.Goals as goal

pub loop-name-init : goal.loop-name-init
loop-name-init c = λ state tree p. refl

pub step-requires : goal.step-requires
step-requires c = λ state tree p. leads_live c.args.sizes.now c.args.taken.now state tree p (take c.loop-name.name-index c.args.names.now) c.loop-name.node (c.loop-name.invariant state tree p)

pub returns-in-Ok-NotFound-clause-says : goal.returns-in-Ok-NotFound-clause-says
returns-in-Ok-NotFound-clause-says c = λ state tree p.
    let image = image_of c.args.sizes.now state in
    let says = subst (StepSays image c.loop-name.node c.name-item.result) c.in-Ok-NotFound.field-0-is (c.in-Ok-NotFound.ensures.ok state tree p) in
    record {
      name = c.name-item.result;
      dir = c.loop-name.node;
      on_the_way = stands_before image c.args.names.now c.loop-name.name-index c.loop-name.node c.name-item.result c.loop-name-test.true c.name-item.is (c.loop-name.invariant state tree p);
      directory = says.0;
      absent = says.1;
    }

pub returns-in-Ok-NotDir-clause-says : goal.returns-in-Ok-NotDir-clause-says
returns-in-Ok-NotDir-clause-says c = λ state tree p.
    let image = image_of c.args.sizes.now state in
    record {
      name = c.name-item.result;
      file = c.loop-name.node;
      on_the_way = stands_before image c.args.names.now c.loop-name.name-index c.loop-name.node c.name-item.result c.loop-name-test.true c.name-item.is (c.loop-name.invariant state tree p);
      is_file = subst (StepSays image c.loop-name.node c.name-item.result) c.in-Ok-NotDir.field-0-is (c.in-Ok-NotDir.ensures.ok state tree p);
    }

pub loop-name-preserved : goal.loop-name-preserved
loop-name-preserved c = λ state tree p.
    let image = image_of c.args.sizes.now state in
    follow_rest (graph_of image) c.args.names.now c.loop-name.name-index c.loop-name.node c.in-Ok-To.next c.name-item.result c.loop-name-test.true c.name-item.is (c.loop-name.invariant state tree p)
    (subst (StepSays image c.loop-name.node c.name-item.result) c.in-Ok-To.field-0-is (c.in-Ok-To.ensures.ok state tree p))

pub returns-in-Err-Need-clause-says : goal.returns-in-Err-Need-clause-says
returns-in-Err-Need-clause-says c = rw c.in-Err-Need.field-0-is
    (step_needs c.args.sizes.now c.args.taken.now c.args.names.now c.loop-name.name-index c.loop-name.node c.name-item.result c.in-Err-Need.field-0 c.in-Err-Need.block c.in-Err-Need.field-0-is c.loop-name-test.true c.name-item.is c.loop-name.invariant
    c.in-Err-Need.ensures.stop)

pub returns-clause-says : goal.returns-clause-says
returns-clause-says c = λ state tree p. follow_all (graph_of (image_of c.args.sizes.now state)) c.args.names.now c.loop-name.name-index c.loop-name.node c.loop-name-test.false (c.loop-name.invariant state tree p)
