use Rattle.std.proofs.Common.{◌≡◌, ◌<◌, ◌+◌, ◌-◌, length, drop, ap, subst, ◌∙◌, arith, rules, slice_get, Some, refl, true, false}
use Rattle.std.proofs.lemmas.Option.{slice_get_read}
use Rattle.std.proofs.Math.ListN.{set, length-set}
use Rattle.bb_net.proofs.VariableLemmas.{all_at}
use Rattle.bb_terms.specs.declared.plan.Cell.{Cell}
use Rattle.bb_terms.specs.Kinds.{is_behind}
use Rattle.bb_terms.specs.declared.wire.Wire.TheVariants.{Read}
use Rattle.bb_lay.specs.Tables.{read_past, IsOn}
use Rattle.bb_lay.proofs.TableLemmas.{behind_step, other_step}
use Rattle.bb_lay.proofs.reads.put_cells.Goals as goal

pub cells-preserved-then-is_behind : goal.cells-preserved-then-is_behind
cells-preserved-then-is_behind c =
    let cells = c.args.cells.now in
    let i = c.cells.i - 1 in
    let cell : Cell = c.index-cells-i.result in
    let at : slice_get cells i ≡ Some cell = slice_get_read cells (length cells) i cell refl (omega (arith, c.cells.invariant.within, c.cells-test.true)) c.index-cells-i.is in
    let net : c.cell.inside.0.1.0.0 ≡ cell.net = ap (λ (k : Cell). k.net) c.cell.view_is in
    let behind : is_behind cell.kind ≡ true = search (rules, c.is_behind.ensures, c.if-is_behind.true, c.cell.view_is) in
    let within : cell.net < length c.cells.reads = omega (arith, all_at (IsOn (length c.args.reads.now)) cells i cell c.requires.within at, c.cells.invariant.long) in
    let back : c.cells.i ≡ i + 1 = omega (arith, c.cells-test.true) in
    record {
      within = omega (arith, c.cells.invariant.within);
      long = length-set c.cells.reads c.cell.inside.0.1.0.0 (Read i) ∙ c.cells.invariant.long;
      reads = λ n old h. behind_step c.cells.reads _ cells i cell n old at behind (ap (λ k. set c.cells.reads k (Read i)) net) within
          (subst (λ k. slice_get c.cells.reads n ≡ Some (read_past k (drop k cells) n old)) back (c.cells.invariant.reads n old h));
    }

pub cells-preserved : goal.cells-preserved
cells-preserved c =
    let cells = c.args.cells.now in
    let i = c.cells.i - 1 in
    let cell : Cell = c.index-cells-i.result in
    let at : slice_get cells i ≡ Some cell = slice_get_read cells (length cells) i cell refl (omega (arith, c.cells.invariant.within, c.cells-test.true)) c.index-cells-i.is in
    let behind : is_behind cell.kind ≡ false = search (rules, c.is_behind.ensures, c.if-is_behind.false, c.cell.view_is) in
    let back : c.cells.i ≡ i + 1 = omega (arith, c.cells-test.true) in
    record {
      within = omega (arith, c.cells.invariant.within);
      long = c.cells.invariant.long;
      reads = λ n old h. other_step c.cells.reads cells i cell n old at behind (subst (λ k. slice_get c.cells.reads n ≡ Some (read_past k (drop k cells) n old)) back (c.cells.invariant.reads n old h));
    }
