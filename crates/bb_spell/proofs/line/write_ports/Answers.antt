use Rattle.std.proofs.Common.{◌≡◌, true, false, sym, ◌∙◌, ◌++◌, codes}
use Rattle.bb_base.specs.Variables.{Entry, is_port}
use Rattle.bb_spell.specs.Spelling.{spelled_name}
use Rattle.bb_spell.proofs.Ports.{other_step, first_step, next_step}
use Rattle.bb_spell.proofs.line.write_ports.Goals as goal
use Rattle.bb_spell.proofs.line.write_ports.Goals.{then-is_port_role+in_ok-write_name, then-parted+in_ok-extend_from_slice, else-parted, else-is_port_role}

pub ports-preserved : goal.ports-preserved
ports-preserved c =
    let v : Entry = (c.variable.result.0.now, c.variable.result.1) in
    elim c.if-is_port_role.branch [
      | then-is_port_role+in_ok-write_name w ↦
          let port : is_port v.1.role ≡ true = sym c.is_port_role.ensures ∙ w.if-is_port_role.true in
          elim w.if-parted.branch [
            | then-parted+in_ok-extend_from_slice u ↦
                let mid : w.if-parted.line.items ≡ c.ports.line.items ++ codes ", " = cc (u.in_ok-extend_from_slice.ensures.items) in
                let new : c.if-is_port_role.line.items ≡ w.if-parted.line.items ++ spelled_name v.0 = cc (w.in_ok-write_name.ensures) in
                next_step c.args.named.now.variables c.ports.number v c.ports.parted c.if-is_port_role.parted c.ports.line.items w.if-parted.line.items c.if-is_port_role.line.items _ c.variable.ensures.value port
                u.if-parted.true w.parted-is mid new c.ports.invariant
            | else-parted u ↦
                let new : c.if-is_port_role.line.items ≡ c.ports.line.items ++ spelled_name v.0 = cc (w.in_ok-write_name.ensures) in
                first_step c.args.named.now.variables c.ports.number v c.ports.parted c.if-is_port_role.parted c.ports.line.items c.if-is_port_role.line.items _ c.variable.ensures.value port
                u.if-parted.false w.parted-is new c.ports.invariant
          ]
      | else-is_port_role w ↦
          let port : is_port v.1.role ≡ false = sym c.is_port_role.ensures ∙ w.if-is_port_role.false in
          other_step c.args.named.now.variables c.ports.number v c.ports.parted c.if-is_port_role.parted c.ports.line.items c.if-is_port_role.line.items _ c.variable.ensures.value port w.parted-is (cc) c.ports.invariant
    ]
