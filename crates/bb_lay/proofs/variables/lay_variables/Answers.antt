use Rattle.bb_lay.proofs.LaidLemmas.{can_front, can_clock, can_tests, can_wires, can_inner, all_laid}
use Rattle.bb_lay.proofs.variables.lay_variables.Goals as goal

pub add_own_ports-requires-clause-stand : goal.add_own_ports-requires-clause-stand
add_own_ports-requires-clause-stand c = can_front c.args.named.now c.args.wires.now c.requires.stand

pub add_clock-requires-clause-stand : goal.add_clock-requires-clause-stand
add_clock-requires-clause-stand c =
    can_clock c.args.named.now c.args.wires.now c.args.builder.now c.add_own_ports.new.builder c.requires.started c.requires.stand c.in_ok-add_own_ports.ensures.adds

pub add_test_ports-requires-clause-stand : goal.add_test_ports-requires-clause-stand
add_test_ports-requires-clause-stand c =
    can_tests c.args.named.now c.args.wires.now c.args.builder.now c.add_own_ports.new.builder c.requires.started c.requires.stand c.in_ok-add_own_ports.ensures.adds c.add_clock.new.builder c.in_ok-add_clock.ensures.adds

pub add_own_wires-requires-clause-stand : goal.add_own_wires-requires-clause-stand
add_own_wires-requires-clause-stand c =
    can_wires c.args.named.now c.args.wires.now c.args.builder.now c.add_own_ports.new.builder c.requires.started c.requires.stand c.in_ok-add_own_ports.ensures.adds c.add_clock.new.builder c.in_ok-add_clock.ensures.adds
    c.add_test_ports.new.builder c.in_ok-add_test_ports.ensures.adds

pub add_wires-requires-clause-stand : goal.add_wires-requires-clause-stand
add_wires-requires-clause-stand c =
    can_inner c.args.named.now c.args.wires.now c.args.builder.now c.add_own_ports.new.builder c.requires.started c.requires.stand c.in_ok-add_own_ports.ensures.adds c.add_clock.new.builder c.in_ok-add_clock.ensures.adds
    c.add_test_ports.new.builder c.in_ok-add_test_ports.ensures.adds c.add_own_wires.new.builder c.in_ok-add_own_wires.ensures.adds

pub returns-clause-adds : goal.returns-clause-adds
returns-clause-adds c =
    all_laid c.args.named.now c.args.wires.now c.args.builder.now c.add_own_ports.new.builder c.requires.started c.requires.stand c.in_ok-add_own_ports.ensures.adds c.add_clock.new.builder c.in_ok-add_clock.ensures.adds
    c.add_test_ports.new.builder c.in_ok-add_test_ports.ensures.adds c.add_own_wires.new.builder c.in_ok-add_own_wires.ensures.adds c.add_wires.new.builder c.in_ok-add_wires.ensures.adds
