-- Where each q has the cells that it needs, each flip-flop is a cell's.
use Rattle.std.proofs.Common.{arith, ◌≡◌, ℕ, ◌==◌, ◌&&◌, true, ap, ◌∙◌, Contains}
use Rattle.std.proofs.lemmas.Bool.Decides.{nat_tests}
use Rattle.std.proofs.lemmas.List.Folds.{list_any_at}
use Rattle.std.specs.List.{list_any}
use Rattle.bb_base.specs.Net.{Flop, Netlist, IsNetlist}
use Rattle.bb_base.proofs.Contained.{to_all}
use Rattle.bb_terms.specs.Kinds.{is_flop}
use Rattle.bb_terms.specs.Lines.{d_of}
use Rattle.bb_terms.specs.Plan.{PlanValue, chain}
use Rattle.bb_terms.specs.Rules.{Holds, Served}
use Rattle.bb_terms.specs.declared.plan.Cell.{Cell}
use Rattle.bb_terms.proofs.NetLemmas.{d_is}
use Rattle.bb_terms.proofs.StopLemmas.{gives_q}
use Rattle.bb_written.specs.Restricted.{KeepsFlops}

pub keeps_flops : (a : Netlist ℕ) (p : PlanValue) → IsNetlist a → Holds a p Served → KeepsFlops a p
keeps_flops a p is served = record {
  has = to_all (λ (f : Flop ℕ). list_any (λ c. is_flop c.kind && (c.net == f.q)) (chain p) ≡ true) a.flops has_cell;
  own = to_all (λ (f : Flop ℕ). d_of a.flops f.q ≡ f.d) a.flops (λ f c. d_is a f is c);
}
  where
    has_cell : (f : Flop ℕ) → Contains a.flops f → list_any (λ c. is_flop c.kind && (c.net == f.q)) (chain p) ≡ true
    has_cell f c =
        let found = gives_q a p f is served c in
        let passes : (is_flop found.0.kind && (found.0.net == f.q)) ≡ true = grind (arith, nat_tests, found.2, found.3) in
        list_any_at (λ d. is_flop d.kind && (d.net == f.q)) (chain p) found.1.0 found.0 found.1.1 (ap (λ (d : Cell). is_flop d.kind && (d.net == f.q)) found.1.2 ∙ passes)
