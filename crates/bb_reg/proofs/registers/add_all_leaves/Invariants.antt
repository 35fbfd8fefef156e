use Rattle.std.proofs.Common.{◌≡◌, ◌++◌, map, take}
use Rattle.std.specs.List.{flat_map}
use Rattle.bb_reg.specs.Fitting.{leaves_at}
use Rattle.bb_reg.proofs.registers.add_all_leaves.Given as goal

abbrev pub invariant-groups : goal.invariant-groups
invariant-groups l = map (λ k. k.items) l.added.items ≡ map (λ k. k.items) l.fn.added.items ++ flat_map (map (leaves_at (map (λ k. k.items) l.leaves))) (take l.group-index l.groups)
