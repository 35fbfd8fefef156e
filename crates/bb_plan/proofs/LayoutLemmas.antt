-- What the rules before the lines say of a plan's chain.
use Rattle.std.proofs.Common.{arith, ◌≡◌, ℕ, ◌≤◌, ◌^◌, ◌||◌, List, length, Bool, refl, ap, ◌∙◌}
use Rattle.std.proofs.Math.Nat.{pow-le-pow_right}
use Rattle.bb_base.specs.Net.{Netlist, driven, IsNetlist}
use Rattle.bb_terms.specs.Paths.{is_free}
use Rattle.bb_terms.specs.Support.{stop_at}
use Rattle.bb_terms.specs.Plan.{RegisterValue, PlanValue, chain}
use Rattle.bb_terms.specs.Lines.{is_stop}
use Rattle.bb_terms.specs.Rules.{Frame, Registers, Kinds, Apart, Room}
use Rattle.bb_plan.specs.declared.chain.Link.{Link}
use Rattle.bb_plan.specs.Chain.{links_from, has_cut, AreOnNets, HaveOneSource}
use Rattle.bb_plan.specs.Answers.{MeetsTo}
use Rattle.bb_plan.proofs.ChainLemmas.{at_chain, chain_long, has_cut_is}
use Rattle.bb_plan.proofs.Driven.{stands_within}
use Rattle.bb_plan.proofs.PlaceLemmas.{few_parts}
use Rattle.bb_rules.proofs.SourceLemmas.{one_source}

powers : (k : ℕ) → k ≤ 20 → 2 ^ k ≤ 2 ^ 20
powers k less = pow-le-pow_right (omega arith) less

-- the chain and the registers are few
pub few_cells : (a : Netlist ℕ) (p : PlanValue) → MeetsTo a p 10 → length (chain p) ≤ 2 ^ 20
few_cells a p before =
    let most = (before Frame (omega arith)).degree_most in
    let room : length (chain p) ≤ 2 ^ p.degree = before Room (omega arith) in
    let power = powers p.degree most in
    omega (arith, room, power)

pub few_links : (a : Netlist ℕ) (p : PlanValue) → MeetsTo a p 10 → length (links_from 0 p.registers) ≤ 2 ^ 20
few_links a p before = let few = few_cells a p before in let long = chain_long p in omega (arith, few, long)

pub few_in_plan : (a : Netlist ℕ) (p : PlanValue) → MeetsTo a p 10 → length p.registers ≤ 2 ^ 20
few_in_plan a p before =
    let few = few_cells a p before in
    let fewer = few_parts (λ (g : RegisterValue). g.cells) p.registers (λ r g at. (before Registers (omega arith) r g at).some) in
    omega (arith, few, fewer)

-- each cell is on a net
pub on_nets : (a : Netlist ℕ) (p : PlanValue) → IsNetlist a → MeetsTo a p 10 → AreOnNets (length (driven a)) (links_from 0 p.registers)
on_nets a p is before = λ i l at. stands_within a l.cell.kind l.cell.net is (before Kinds (omega arith) i l.cell (at_chain p i l at))

-- and no net is in two source cells
pub sources_once : (a : Netlist ℕ) (p : PlanValue) → MeetsTo a p 10 → HaveOneSource (links_from 0 p.registers)
sources_once a p before = λ i j l m at there source other same. one_source a p m.cell.net i j (before Apart (omega arith)) (record { source = l.cell; stands = at_chain p i l at; generates = source; on = same }) (record { source = m.cell; stands = at_chain p j m there; generates = other; on = refl })

pub stops_same : (a : Netlist ℕ) (p : PlanValue) (stops : List Bool) (links : List Link) → links ≡ links_from 0 p.registers → ((net : ℕ) → stop_at stops net ≡ (is_free a.gates net || has_cut links net)) → (net : ℕ) → stop_at stops net ≡ is_stop a p net
stops_same a p stops links is each net = each net ∙ ap (λ (ls : List Link). is_free a.gates net || has_cut ls net) is ∙ ap (λ b. is_free a.gates net || b) (has_cut_is p net)
