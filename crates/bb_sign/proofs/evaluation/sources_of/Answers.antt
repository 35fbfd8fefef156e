use Rattle.std.proofs.Common.{arith, ◌≡◌, ◌+◌, List, ℕ, ap, sym, ◌∙◌, Some}
use Rattle.std.specs.List.{AllZip}
use Rattle.bb_sign.specs.Bits.{noted_column}
use Rattle.bb_sign.proofs.SourceLemmas.{AllBefore, with_items, all_with, all_without, sources_are}
use Rattle.bb_sign.proofs.ZipLemmas.{zip_push}
use Rattle.bb_sign.proofs.evaluation.sources_of.Goals as goal
use Rattle.bb_sign.proofs.evaluation.sources_of.Goals.{in-Some+in_ok-push+in_ok-push-2, in_default}

pub nets-preserved : goal.nets-preserved
nets-preserved c =
    let table = c.args.table.now in
    elim c.match-column.branch [
      | in-Some+in_ok-push+in_ok-push-2 w ↦
          let nets = ap (λ v. v.items) w.nets-is ∙ w.in_ok-push.ensures.items in
          let columns = ap (λ v. v.items) w.columns-is ∙ w.in_ok-push-2.ensures.items in
          record {
            noted = with_items (AllZip (λ net column. noted_column table net ≡ Some column)) (sym nets) (sym columns)
                (zip_push (λ net column. noted_column table net ≡ Some column) c.nets.nets.items c.nets.columns.items c.nets.net w.in-Some.column c.nets.invariant.noted w.in-Some.is);
            all = with_items (λ ns (cs : List ℕ). AllBefore table (c.nets.net + 1) ns) (sym nets) (sym columns) (all_with table c.nets.net c.nets.nets.items c.nets.invariant.all);
          }
      | in_default w ↦
          let nets = ap (λ v. v.items) w.nets-is in
          let columns = ap (λ v. v.items) w.columns-is in
          record {
            noted = with_items (AllZip (λ net column. noted_column table net ≡ Some column)) (sym nets) (sym columns) c.nets.invariant.noted;
            all = with_items (λ ns (cs : List ℕ). AllBefore table (c.nets.net + 1) ns) (sym nets) (sym columns) (all_without table c.nets.net c.nets.nets.items w.in_default.is c.nets.invariant.all);
          }
    ]

pub returns : goal.returns
returns c = sources_are c.args.table.now c.nets.net c.nets.nets.items c.nets.columns.items (omega (arith, c.nets-test.false)) c.nets.invariant.noted c.nets.invariant.all
