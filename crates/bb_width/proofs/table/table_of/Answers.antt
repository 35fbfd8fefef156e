use Rattle.std.proofs.Common.{fold, ap, ◌∙◌}
use Rattle.std.specs.Prelude.{flat_map}
use Rattle.bb_scope.specs.Names.{item_names}
use Rattle.bb_scope.specs.Uses.{Used, with_use}
use Rattle.bb_width.proofs.UsedLaws.{used_in}
use Rattle.bb_width.proofs.table.table_of.Goals as goal

pub returns-clause-vars : goal.returns-clause-vars
returns-clause-vars c =
    let none : Used = record { vars = c.new.result.entries; uses = c.new-2.result.items } in
    let front : Used = record { vars = c.used.inside.table.entries; uses = c.clear.new.self.items } in
    let items = c.in_ok-add_items.ensures ∙ ap (λ items. fold (with_use c.args.said.now.entries) front (flat_map item_names items)) c.as_slice.ensures in
    (used_in c.args.module.now c.args.said.now.entries none c.add_header.new.used front c.add_items.new.used c.requires c.new.ensures.empty c.in_ok-add_header.ensures
    (ap (λ u. u.vars) c.used.view_is) c.clear.ensures.items items).0

pub returns-clause-uses : goal.returns-clause-uses
returns-clause-uses c =
    let none : Used = record { vars = c.new.result.entries; uses = c.new-2.result.items } in
    let front : Used = record { vars = c.used.inside.table.entries; uses = c.clear.new.self.items } in
    let items = c.in_ok-add_items.ensures ∙ ap (λ items. fold (with_use c.args.said.now.entries) front (flat_map item_names items)) c.as_slice.ensures in
    (used_in c.args.module.now c.args.said.now.entries none c.add_header.new.used front c.add_items.new.used c.requires c.new.ensures.empty c.in_ok-add_header.ensures
    (ap (λ u. u.vars) c.used.view_is) c.clear.ensures.items items).1
