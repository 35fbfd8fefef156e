use Rattle.std.proofs.Common.{ℕ, ◌<◌, ◌∙◌, ap, sym, subst, length, All, map}
use Rattle.bb_base.specs.Net.{Gate}
use Rattle.bb_lay.specs.Tables.{row_behind}
use Rattle.bb_lay.proofs.TableLemmas.{kept_are, ins_inside}
use Rattle.bb_lay.proofs.rows.rows_of.Goals as goal

pub kept_rows-requires : goal.kept_rows-requires
kept_rows-requires c =
    let a = c.args.netlist.now in
    let n : ℕ = length c.deref-2.result.now in
    subst (λ gs. All (λ (g : Gate ℕ). All (λ net. net < n) g.ins) gs) (sym c.gates.ensures.value) (ins_inside a n c.gates.ensures.netlist (ap length c.deref-2.ensures.value ∙ c.in_ok-tables.ensures.reads_long))

pub returns : goal.returns
returns c =
    let a = c.args.netlist.now in
    let p = c.args.plan.now in
    let t = c.in_ok-tables.tables in
    record {
      kept = c.in_ok-kept.ensures ∙ (λ i. map (row_behind (c.deref-2.ensures.value i)) (c.gates.ensures.value i)) ∙ kept_are a p t.reads.items t.ds.items c.in_ok-tables.ensures c.gates.ensures.netlist;
      control = c.in_ok-control.ensures.rows;
      cells = c.in_ok-cells.ensures;
      flops_are = c.in_ok-flops.ensures;
    }
