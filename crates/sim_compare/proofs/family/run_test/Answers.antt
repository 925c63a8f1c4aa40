use Rattle.std.proofs.Common.{◌≡◌, ℕ, ap, Option, subst, true}
use Rattle.sim_rows.proofs.Common.{GplOperation, operation_entry, IsAt}
use Rattle.sim_compare.specs.Family.{is_test}
use Rattle.sim_compare.proofs.StatusTests
use Rattle.sim_compare.proofs.family.run_test.Goals as goal

pub test_status-requires-clause-is_at : goal.test_status-requires-clause-is_at
test_status-requires-clause-is_at g c =
    subst (λ (n : ℕ). IsAt c.args.machine.now n) (ap operation_entry c.requires.operation) c.requires.at.is_at

pub test_status-requires-clause-test : goal.test_status-requires-clause-test
test_status-requires-clause-test g c = subst (λ (o : Option GplOperation). is_test o ≡ true) c.requires.operation c.requires.at.family

pub end_comparison-requires : goal.end_comparison-requires
end_comparison-requires g c = StatusTests.test_decided c.args.name c.requires.operation c.requires.at c.test_status.ensures

pub returns : goal.returns
returns g c = StatusTests.test_turns c.args.name c.requires.operation c.requires.at c.test_status.ensures c.end_comparison.ensures
