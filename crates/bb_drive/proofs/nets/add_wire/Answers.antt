use Rattle.std.proofs.Common.{arith, ◌≡◌, false, true, not, None, sym, ap, refl, ◌∙◌}
use Rattle.std.specs.Prelude.{is_some}
use Rattle.std.specs.Map.{lookup}
use Rattle.std.specs.Str.{bytes_eq}
use Rattle.bb_base.specs.declared.variable.Variable.{Variable}
use Rattle.bb_base.specs.declared.variable.Role.TheVariants.{Wire}
use Rattle.bb_base.specs.OwnNames.{made_name}
use Rattle.bb_drive.specs.Nets.{is_variable}
use Rattle.bb_drive.proofs.MadeNames.{is_found, wire_added}
use Rattle.bb_drive.proofs.nets.add_wire.Goals as goal

pub returns-then-is_some-clause-added : goal.returns-then-is_some-clause-added
returns-then-is_some-clause-added c =
    let es = c.args.vars.now.entries in
    let tested : is_some (lookup (bytes_eq c.in_ok-name.name) es) ≡ true = grind (arith, c.if-is_some.true, c.is_some.ensures, c.get.ensures.value) in
    let found : is_variable es (made_name c.args.number) ≡ true = ap (is_variable es) (sym c.in_ok-name.ensures) ∙ (sym (is_found es c.in_ok-name.name) ∙ tested) in
    sym (ap not found)

pub returns-clause-added : goal.returns-clause-added
returns-clause-added c =
    let es = c.args.vars.now.entries in
    let tested : is_some (lookup (bytes_eq c.in_ok-name.name) es) ≡ false = grind (arith, c.if-is_some.false, c.is_some.ensures, c.get.ensures.value) in
    let free : is_variable es (made_name c.args.number) ≡ false = ap (is_variable es) (sym c.in_ok-name.ensures) ∙ (sym (is_found es c.in_ok-name.name) ∙ tested) in
    sym (ap not free)

pub returns-clause-entries : goal.returns-clause-entries
returns-clause-entries c =
    let es = c.args.vars.now.entries in
    let wire : Variable = record { range = None; role = Wire } in
    let tested : is_some (lookup (bytes_eq c.in_ok-name.name) es) ≡ false = grind (arith, c.if-is_some.false, c.is_some.ensures, c.get.ensures.value) in
    let free : is_variable es (made_name c.args.number) ≡ false = ap (is_variable es) (sym c.in_ok-name.ensures) ∙ (sym (is_found es c.in_ok-name.name) ∙ tested) in
    wire_added es c.insert.new.self.entries (made_name c.args.number) c.in_ok-name.name wire free c.in_ok-name.ensures refl c.in_ok-insert.ensures.entries
