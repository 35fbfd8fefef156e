use Rattle.std.proofs.Common.{arith, ◌<◌, ◌≡◌, length, map, min}
use Rattle.std.proofs.lemmas.Bool.Decides.{nat_tests}
use Rattle.bb_reg.specs.Chosen.{in_runs, register_of}
use Rattle.bb_reg.proofs.RunLemmas.{runs_pushed}
use Rattle.bb_reg.proofs.registers.runs_of.Goals as goal

pub runs-preserved : goal.runs-preserved
runs-preserved c =
    let most = c.args.most in
    let rest = c.runs.rest.now in
    let some : 0 < length rest = grind (arith, nat_tests, c.is_empty.ensures, c.runs-test.true) in
    let count : c.min.result ≡ min most (length rest) = omega (arith, c.min.ensures) in
    runs_pushed most c.min.result c.runs.registers.items c.push.new.self.items (map register_of (in_runs most c.args.sources.now)) rest c.split_at.result.0.now c.split_at.result.1.now c.in_ok-register_of.field-0
    c.in_ok-push.ensures.items c.in_ok-register_of.ensures c.split_at.ensures.front c.split_at.ensures.back c.requires some count c.runs.invariant
