-- A netlist whose drivers are the written one's has an order, and runs as the original does.
use Rattle.std.proofs.Common.{◌≡◌, ℕ, length, ◌∙◌, subst}
use Rattle.std.specs.List.{AllByRecursion}
use Rattle.bb_base.proofs.Lists.{length_map}
use Rattle.bb_base.specs.Net.{Netlist, renamed_flop}
use Rattle.bb_base.specs.Order.{HasOrder}
use Rattle.bb_base.specs.Run.{by_op}
use Rattle.bb_base.specs.Named.{Named, IsNamed}
use Rattle.bb_net.specs.Sites.{sited, site_of}
use Rattle.bb_runs.proofs.NamedRuns.{site_order, site_run}
use Rattle.bb_runs.proofs.Ranks.{ranks_of_order}
use Rattle.bb_terms.specs.Plan.{PlanValue}
use Rattle.bb_terms.specs.Rules.{Kinds, Served}
use Rattle.bb_terms.specs.Valid.{IsValidPlan}
use Rattle.bb_written.specs.Falling.{HasNoLoop}
use Rattle.bb_written.specs.Restricted.{KeepsFlops, RunsAsOriginal}
use Rattle.bb_written.specs.Written.{written}
use Rattle.bb_normal.specs.Mirrors.{Mirrors}
use Rattle.bb_normal.specs.Normal.{Normal, RunsFromAll}
use Rattle.bb_ctl.specs.OwnNames.{HasOwnNames}
use Rattle.bb_normal.proofs.Standing.{all_of}
use Rattle.bb_normal.proofs.Flops.{keeps_flops}
use Rattle.bb_normal.proofs.Outside.{keeps_bits, inputs_are, outputs_are}
use Rattle.bb_normal.proofs.Ranks.{ranks_of_written}

-- from every start an ordered netlist has a run
runs_from_all : (b : Named) → IsNamed b → HasOrder b.netlist.gates → RunsFromAll (sited b).netlist
runs_from_all b named has s is long each =
    site_run b named has by_op s is (long ∙ length_map (renamed_flop (site_of b)) b.netlist.flops) (subst (λ n. AllByRecursion (λ i. length i ≡ n) is) (length_map (site_of b) b.netlist.inputs) each)

module _ (as_original : (n : Netlist ℕ) (p : PlanValue) → KeepsFlops n p → RunsAsOriginal n p) (no_loop : (n : Netlist ℕ) (p : PlanValue) → HasNoLoop n p)
    (a b : Named) (p : PlanValue) (named_a : IsNamed a) (named_b : IsNamed b) (own : HasOwnNames a) (valid : IsValidPlan a.netlist p) (m : Mirrors (written a p) b) where
  pub ordered : HasOrder b.netlist.gates
  ordered = site_order b named_b (ranks_of_written a b p named_a own (all_of a p named_a valid).gates (ranks_of_order a.netlist.gates valid.order) (valid.meets Kinds) (no_loop a.netlist p) m)

  pub normal : Normal (sited a).netlist (sited b).netlist
  normal =
      let original = as_original a.netlist p (keeps_flops a.netlist p named_a.netlist (valid.meets Served)) in
      record {
        inputs = inputs_are a b p named_a valid.order original m;
        outputs = outputs_are a b p named_a valid.order original m;
        bits = keeps_bits a b p named_a valid.order original m;
        runs = runs_from_all b named_b ordered;
      }
