use Rattle.std.proofs.Common.{◌≡◌, ℕ, ◌<◌, length, Some, slice_get, slice_index}
use Rattle.bb_base.specs.Variables.{bit_at, ports_of}
use Rattle.bb_base.specs.Named.{name_of_net}
use Rattle.bb_lay.specs.Laying.{new_number}
use Rattle.bb_lay.proofs.lay.kept_nets.Given as goal

abbrev pub invariant-nets : goal.invariant-nets
invariant-nets l = record {
  builder : l.builder ≡ l.fn.builder;
  long : length l.nets.items ≡ l.net;
  each : (k : ℕ) → k < l.net → slice_get l.fn.builder.names (slice_index l.nets.items k) ≡ Some (bit_at (new_number (ports_of l.named.variables) l.added (name_of_net l.named k).variable) (name_of_net l.named k).place);
}
