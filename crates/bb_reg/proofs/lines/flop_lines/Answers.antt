use Rattle.std.proofs.Common.{◌≡◌, ◌+◌, ◌∙◌, ◌<◌, List, ℕ, sym, ap, subst, length, take, map, ◌∷◌, [], Contains, get_or}
use Rattle.std.specs.List.{AllZip}
use Rattle.bb_base.specs.Net.{Flop, driven}
use Rattle.bb_base.proofs.Lists.{map_join}
use Rattle.bb_terms.specs.Paths.{Start, AtNet}
use Rattle.bb_terms.specs.Support.{AreLeaves, stop_at}
use Rattle.bb_terms.specs.declared.start.Start.TheVariants.{Net}
use Rattle.bb_segment.proofs.StartLemmas.{start_net}
use Rattle.bb_segment.proofs.WalkLemmas.{item_in}
use Rattle.bb_reg.proofs.LineLemmas.{flop_reads, zip_more}
use Rattle.bb_reg.proofs.lines.flop_lines.Goals as goal

pub leaves_from-requires-clause-start : goal.leaves_from-requires-clause-start
leaves_from-requires-clause-start c =
    let n = c.args.netlist.now in
    let stands = item_in c.flops-flop-items.result.now c.flops.flop-index c.flop-item.result c.flops-test.true c.flop-item.is in
    let low = flop_reads n c.flop-item.result c.flops-flop-items.ensures.netlist (subst (λ (fs : List (Flop ℕ)). Contains fs c.flop-item.result) c.flops-flop-items.ensures.value stands) in
    subst (λ k. k < length (driven n)) (sym (ap (λ (f : Flop ℕ). f.d) c.flop.view_is)) low

pub flops-preserved : goal.flops-preserved
flops-preserved c =
    let n = c.args.netlist.now in
    let flops = c.flops-flop-items.ensures.value in
    let flop = c.flop-item.result in
    let low : c.flops.flop-index < length n.flops = subst (λ (fs : List (Flop ℕ)). c.flops.flop-index < length fs) flops c.flops-test.true in
    let is = c.flop-item.is ∙ ap (λ (fs : List (Flop ℕ)). get_or fs c.flops.flop-index flop) flops in
    let l = c.leaves_from.ensures.leaves in
    let from : AtNet c.flop.inside.d ≡ l.from = start_net n.gates (Net c.flop.inside.d) c.flop.inside.d l.from (λ _. Net c.flop.inside.d) l.stands in
    let here = (λ k. AtNet (sym (ap (λ (f : Flop ℕ). f.d) c.flop.view_is) k)) ∙ from in
    let are = subst (λ (s : Start ℕ). AreLeaves n.gates (stop_at c.args.stops.now) s c.leaves_from.result.items) (sym here) l.are in
    let more = zip_more (λ (f : Flop ℕ) leaves. AreLeaves n.gates (stop_at c.args.stops.now) (AtNet f.d) leaves) n.flops (map (λ k. k.items) c.flops.lines.items) c.flops.flop-index flop c.leaves_from.result.items low is c.flops.invariant.lines are in
    record {
      walk = c.leaves_from.ensures.walk ∙ c.flops.invariant.walk;
      lines = subst (λ (ls : List (List ℕ)). AllZip (λ (f : Flop ℕ) leaves. AreLeaves n.gates (stop_at c.args.stops.now) (AtNet f.d) leaves) (take (c.flops.flop-index + 1) n.flops) ls)
          (sym (ap (map (λ k. k.items)) c.in_ok-push.ensures.items ∙ map_join (λ k. k.items) c.flops.lines.items (c.leaves_from.result ∷ []))) more;
    }
