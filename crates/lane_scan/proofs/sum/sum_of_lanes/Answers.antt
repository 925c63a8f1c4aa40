use Rattle.std.proofs.Common.{arith}
use Rattle.lane_scan.proofs.Sums.{products_fit, at_most, lanes_fit, lanes_sum}
use Rattle.lane_scan.proofs.sum.sum_of_lanes.Goals as goal

pub dot4 : goal.dot4
dot4 c = (products_fit c.args.a.now c.args.at c.requires c.type_inv.a, tt)

pub overflow_add-result : goal.overflow_add-result
overflow_add-result c = lanes_fit c.args.a.now c.args.at c.requires c.type_inv.a

pub returns-clause-value : goal.returns-clause-value
returns-clause-value c = lanes_sum c.args.a.now c.args.at c.requires c.type_inv.a

pub returns-clause-bound : goal.returns-clause-bound
returns-clause-bound c = omega (arith, lanes_sum c.args.a.now c.args.at c.requires c.type_inv.a, at_most c.args.a.now c.args.at c.requires c.type_inv.a)
