use Rattle.std.proofs.Common.{arith, ℕ, ◌<◌, ap, sym, subst, All, Some, ◌∙◌}
use Rattle.std.proofs.lemmas.List.Elements.{All-from_recursion}
use Rattle.bb_base.proofs.Contained.{by_place, contains_at}
use Rattle.bb_base.specs.Net.{Flop}
use Rattle.bb_terms.specs.Lines.{d_of}
use Rattle.bb_terms.proofs.NetLemmas.{q_within}
use Rattle.bb_terms.specs.Reads.{read_behind}
use Rattle.bb_written.proofs.Driven.{d_inside}
use Rattle.bb_lay.proofs.reads.tables_of.Goals as goal

pub ds_of-requires : goal.ds_of-requires
ds_of-requires c =
    let a = c.args.netlist.now in
    record {
      within = subst (All (λ (f : Flop ℕ). f.q < c.nets-2.result)) (sym c.flops.ensures.value)
          (All-from_recursion (λ (f : Flop ℕ). f.q < c.nets-2.result) a.flops
          (by_place (λ (f : Flop ℕ). f.q < c.nets-2.result) a.flops (λ i f at. omega (arith, q_within a f c.flops.ensures.netlist (contains_at a.flops i f at), c.nets-2.ensures.count))));
    }

pub returns : goal.returns
returns c =
    let a = c.args.netlist.now in
    record {
      reads_long = c.in_ok-reads.ensures.long ∙ c.nets.ensures.count;
      reads_are = λ net less. c.in_ok-reads.ensures.each net (omega (arith, less, c.nets.ensures.count)) ∙ ap (λ cs. Some (read_behind 0 cs net)) c.requires.cells;
      ds_long = c.in_ok-ds.ensures.long ∙ c.nets-2.ensures.count;
      ds_are = λ net less. c.in_ok-ds.ensures.each net (omega (arith, less, c.nets-2.ensures.count)) ∙ ap (λ fs. Some (d_of fs net)) c.flops.ensures.value;
      inside = d_inside a c.flops.ensures.netlist;
    }
