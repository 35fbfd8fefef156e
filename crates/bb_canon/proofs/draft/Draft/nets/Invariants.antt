use Rattle.std.proofs.Common.{◌≡◌, ◌≤◌, ◌<◌, ℕ, List, length, map, take, All}
use Rattle.std.specs.List.{AllByRecursion}
use Rattle.bb_base.specs.Net.{Gate, Flop}
use Rattle.bb_base.specs.Named.{Named, name_of_net, net_text}
use Rattle.bb_spell.specs.Limits.{IsBuildable}
use Rattle.bb_canon.specs.Toward.{IsDrawn}
use Rattle.bb_canon.proofs.draft.Draft.nets.Given as goal

abbrev pub invariant-texts : goal.invariant-texts
invariant-texts l = record {
  grows : length l.fn.self.names ≤ length l.self.names;
  netlist : l.self.netlist ≡ l.fn.self.netlist;
  within : All (λ net. net < length l.self.names) l.nets.items;
  kept : (k : ℕ) → k < length l.fn.self.names → name_of_net l.self k ≡ name_of_net l.fn.self k;
  drawn : (a : Named) (gates : List (Gate ℕ)) (flops : List (Flop ℕ)) (ms : List ℕ) → IsBuildable a → IsDrawn a l.fn.self gates flops → AllByRecursion (λ m. m < length a.names) ms → l.texts ≡ map (net_text a) ms → IsDrawn a l.self gates flops;
  named : (a : Named) (gates : List (Gate ℕ)) (flops : List (Flop ℕ)) (ms : List ℕ) → IsBuildable a → IsDrawn a l.fn.self gates flops → AllByRecursion (λ m. m < length a.names) ms → l.texts ≡ map (net_text a) ms
      → map (name_of_net l.self) l.nets.items ≡ map (name_of_net a) (take l.text-index ms);
}
