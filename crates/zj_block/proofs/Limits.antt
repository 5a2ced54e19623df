-- Numbers within their limits are those of which none is out of range.
use Rattle.std.proofs.Common.{◌≡◌, None, arith}
use Rattle.std.proofs.lemmas.Grind.{common_steps}
use Rattle.std.proofs.lemmas.Bool.Decides.{nat_tests}
use Rattle.zj_block.specs.Sizes.{Numbers, IsInLimits, out_of_range}

pub in_limits : (n : Numbers) → out_of_range n ≡ None → IsInLimits n
in_limits n h = record {
  one_version = grind (arith, common_steps, nat_tests);
  least_blocks = grind (arith, common_steps, nat_tests);
  most_blocks = grind (arith, common_steps, nat_tests);
  least_nodes = grind (arith, common_steps, nat_tests);
  most_nodes = grind (arith, common_steps, nat_tests);
  whole_nodes = grind (arith, common_steps, nat_tests);
  least_cores = grind (arith, common_steps, nat_tests);
  most_cores = grind (arith, common_steps, nat_tests);
  some_data = grind (arith, common_steps, nat_tests);
  least_area = grind (arith, common_steps, nat_tests);
  most_area = grind (arith, common_steps, nat_tests);
}

pub none_out : (n : Numbers) → IsInLimits n → out_of_range n ≡ None
none_out n is = grind (arith, common_steps, nat_tests, is.one_version, is.least_blocks, is.most_blocks, is.least_nodes, is.most_nodes, is.whole_nodes, is.least_cores, is.most_cores, is.some_data, is.least_area, is.most_area)
