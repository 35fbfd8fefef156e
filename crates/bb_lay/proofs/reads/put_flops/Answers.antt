use Rattle.std.proofs.Common.{ℕ, ◌≡◌, ◌<◌, ◌+◌, ◌-◌, length, drop, subst, ◌∙◌, arith, rules, slice_get, Some, refl}
use Rattle.std.proofs.lemmas.Option.{slice_get_read}
use Rattle.std.proofs.Math.ListN.{set, length-set}
use Rattle.bb_net.proofs.VariableLemmas.{all_at}
use Rattle.bb_base.specs.Net.{Flop}
use Rattle.bb_lay.specs.Tables.{d_over}
use Rattle.bb_lay.proofs.TableLemmas.{flop_step}
use Rattle.bb_lay.proofs.reads.put_flops.Goals as goal

pub flops-preserved : goal.flops-preserved
flops-preserved c =
    let flops = c.args.flops.now in
    let i = c.flops.i - 1 in
    let f : Flop ℕ = c.index-flops-i.result in
    let at : slice_get flops i ≡ Some f = slice_get_read flops (length flops) i f refl (omega (arith, c.flops.invariant.within, c.flops-test.true)) c.index-flops-i.is in
    let q : c.flop-inside.inside.0.0.0 ≡ f.q = search (rules, c.flop-inside.view_is, c.flop.view_is) in
    let d : c.flop-inside.inside.0.1.0 ≡ f.d = search (rules, c.flop-inside.view_is, c.flop.view_is) in
    let within : f.q < length c.flops.ds = omega (arith, all_at (λ (k : Flop ℕ). k.q < length c.args.ds.now) flops i f c.requires.within at, c.flops.invariant.long) in
    let back : c.flops.i ≡ i + 1 = omega (arith, c.flops-test.true) in
    record {
      within = omega (arith, c.flops.invariant.within);
      long = length-set c.flops.ds c.flop-inside.inside.0.0.0 c.flop-inside.inside.0.1.0 ∙ c.flops.invariant.long;
      ds = λ n old h. flop_step c.flops.ds _ flops i f n old at (λ j. set c.flops.ds (q j) (d j)) within (subst (λ k. slice_get c.flops.ds n ≡ Some (d_over (drop k flops) n old)) back (c.flops.invariant.ds n old h));
    }
