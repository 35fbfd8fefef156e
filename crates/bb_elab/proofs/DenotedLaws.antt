-- What a sound module without a fault denotes is a named netlist. Each net is driven once in any case.
use Rattle.std.proofs.Common.{◌≡◌, Bool, length, All, subst, sym, arith, ◌<◌, ◌∙◌}
use Rattle.std.specs.Prelude.{None}
use Rattle.std.specs.Option.{option_or}
use Rattle.std.specs.List.{AllByRecursion}
use Rattle.bb_base.specs.Net.{driven, HasArity}
use Rattle.bb_base.specs.Named.{IsNamed}
use Rattle.bb_runs.proofs.Loops.{AreDrivenOnce}
use Rattle.bb_parse.specs.declared.syntax.Module.{Module}
use Rattle.bb_parse.specs.Sound.{IsSoundModule}
use Rattle.bb_fault.proofs.Parted.{none-first, none-second}
use Rattle.bb_scope.specs.Parts.{bad_part}
use Rattle.bb_scope.specs.Text.{text_fault}
use Rattle.bb_drive.specs.Nets.{driver_fault}
use Rattle.bb_drive.specs.Clock.{clock_fault}
use Rattle.bb_drive.specs.NamedOf.{kept}
use Rattle.bb_assemble.proofs.KeptNets.{IsFineWork}
use Rattle.bb_assemble.proofs.NamedLaws.{named_fits}
use Rattle.bb_assemble.proofs.NumberedNets.{as_many, once, drives_below}
use Rattle.bb_meaning.specs.Outcome.{first_fault, denoted, net_fault, variables_in, work_in}
use Rattle.bb_meaning.proofs.CountedFault.{counted_first}
use Rattle.bb_elab.proofs.PortLaws.{IsFine, fine_text, all_entries, ports_stand_first}
use Rattle.bb_elab.proofs.WithinLaws.{work_within}
use Rattle.bb_elab.proofs.NameLaws.{bits_are_all, variables_apart}
use Rattle.bb_elab.proofs.Arities.{module-fits}

module _ (own : Bool) (m : Module) (h : first_fault own m ≡ None) where
  -- the same by the count of nets
  none : option_or (text_fault own m) (net_fault (variables_in m) (work_in m)) ≡ None
  none = sym (counted_first own m) ∙ h

  fine : IsFine m
  fine = fine_text own m (none-first (text_fault own m) (net_fault (variables_in m) (work_in m)) none)

  nets : net_fault (variables_in m) (work_in m) ≡ None
  nets = none-second (text_fault own m) (net_fault (variables_in m) (work_in m)) none

  pub fine_parts : bad_part m ≡ None
  fine_parts = fine.parts

  pub fine_work : IsFineWork (variables_in m) (work_in m)
  fine_work = record {
    drivers = none-first (driver_fault (variables_in m) (work_in m)) (clock_fault (variables_in m) (work_in m)) nets;
    clocks = none-second (driver_fault (variables_in m) (work_in m)) (clock_fault (variables_in m) (work_in m)) nets;
    within = work_within m;
    total = bits_are_all m fine;
  }

  -- each net is driven once
  pub nets_counted : length (driven (denoted m).netlist) ≡ length (kept (variables_in m) (work_in m))
  nets_counted = as_many (variables_in m) (work_in m) fine_work

  pub driven-once : AreDrivenOnce (denoted m).netlist
  driven-once = record {
    one_driver = λ net less. once (variables_in m) (work_in m) fine_work net (omega (arith, less, nets_counted));
    drives_nets = subst (λ n. All (λ net. net < n) (driven (denoted m).netlist)) (sym nets_counted) (drives_below (variables_in m) (work_in m) fine_work);
  }

  pub arities : IsSoundModule m → AllByRecursion HasArity (work_in m).gates
  arities s = module-fits m s fine.parts

  -- and where the module is one of a text, this is a named netlist
  pub denoted-fits : IsSoundModule m → IsNamed (denoted m)
  denoted-fits s =
      named_fits m.name (variables_in m) (work_in m) fine_work (arities s) s.name (all_entries m s fine) (ports_stand_first m fine.ports) (variables_apart m fine)
