-- Runs of a named netlist by sites and by texts.
use Rattle.std.proofs.Common.{arith, ◌≡◌, ℕ, ◌<◌, List, length, map, Bool, sym, ◌∙◌}
use Rattle.std.specs.List.{AllByRecursion}
use Rattle.bb_base.specs.Variables.{Bit}
use Rattle.bb_base.specs.Net.{Gate, renamed_gate}
use Rattle.bb_base.specs.Order.{HasOrder, HasRanks}
use Rattle.bb_base.specs.Run.{IsRunBy, at}
use Rattle.bb_base.specs.Named.{Named, IsNamed, design_of, net_text}
use Rattle.bb_net.specs.Sites.{Site, sited, site_of}
use Rattle.bb_base.proofs.Renamed.{run_back_by}
use Rattle.bb_net.proofs.Renaming.{at_map, net_named, finds_all}
use Rattle.bb_net.proofs.Designs.{run_by_site, run_by_text, sites_one}
use Rattle.bb_net.proofs.SiteLemmas.{site_eq, site_decides}
use Rattle.bb_runs.proofs.Ranks.{ranks_order, ranks_of_order, ranks_back, ranks_forth}
use Rattle.bb_runs.proofs.Valuations.{run_from, runs_agree}

module _ (n : Named) (is_named : IsNamed n) (has : HasOrder n.netlist.gates) where
  pub site_run : (gives : Gate Site → List Bool → Bool) (s : List Bool) (is : List (List Bool)) → length s ≡ length n.netlist.flops → AllByRecursion (λ i. length i ≡ length n.netlist.inputs) is → (vs : List (Site → Bool)) × IsRunBy gives (sited n).netlist s is vs
  site_run gives s is long each =
      let ran = run_from (λ g. gives (renamed_gate (site_of n) g)) n.netlist has.0 is_named.netlist has.1 s is long each in
      let there = run_by_site n is_named gives s is ran.0 ran.1 in
      (there.0, there.1)

  pub text_run : (gives : Gate Bit → List Bool → Bool) (s : List Bool) (is : List (List Bool)) → length s ≡ length n.netlist.flops → AllByRecursion (λ i. length i ≡ length n.netlist.inputs) is → (vs : List (Bit → Bool)) × IsRunBy gives (design_of n).netlist s is vs
  text_run gives s is long each =
      let ran = run_from (λ g. gives (renamed_gate (net_text n) g)) n.netlist has.0 is_named.netlist has.1 s is long each in
      let there = run_by_text n is_named gives s is ran.0 ran.1 in
      (there.0, there.1)

  pub site_runs_agree : (gives : Gate Site → List Bool → Bool) (s : List Bool) (is : List (List Bool)) (vs ws : List (Site → Bool)) → IsRunBy gives (sited n).netlist s is vs → IsRunBy gives (sited n).netlist s is ws
      → (c net : ℕ) → net < length n.names → at vs c (site_of n net) ≡ at ws c (site_of n net)
  site_runs_agree gives s is vs ws a b c net small =
      sym (at_map (site_of n) vs c net)
      ∙ (runs_agree (λ g. gives (renamed_gate (site_of n) g)) n.netlist has.0 is_named.netlist has.1 s is (map (λ v m. v (site_of n m)) vs) (map (λ v m. v (site_of n m)) ws)
      (run_back_by (site_of n) gives n.netlist s is vs a) (run_back_by (site_of n) gives n.netlist s is ws b) c net (omega (arith, small, is_named.names))
      ∙ at_map (site_of n) ws c net)

-- orders by sites
pub site_order : (n : Named) → IsNamed n → HasRanks (sited n).netlist.gates → HasOrder n.netlist.gates
site_order n is ranks = ranks_order n.netlist is.netlist (ranks_back (site_of n) n.netlist.gates ranks)

pub site_ranks : (n : Named) → IsNamed n → HasOrder n.netlist.gates → HasRanks (sited n).netlist.gates
site_ranks n is has =
    ranks_forth (site_of n) (net_named site_eq site_decides (site_of n) n.netlist is.netlist (sites_one n is)) n.netlist (finds_all site_eq site_decides (site_of n) n.netlist is.netlist (sites_one n is)) (ranks_of_order n.netlist.gates has)
