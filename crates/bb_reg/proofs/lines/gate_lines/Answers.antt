use Rattle.std.proofs.Common.{◌+◌, ◌∙◌, List, ℕ, sym, ap, subst, take, map, ◌∷◌, []}
use Rattle.std.specs.List.{AllZip}
use Rattle.bb_base.proofs.Lists.{map_join}
use Rattle.bb_terms.specs.Support.{stop_at}
use Rattle.bb_reg.specs.LineTables.{IsLineBehind}
use Rattle.bb_reg.proofs.LineLemmas.{zip_more}
use Rattle.bb_reg.proofs.lines.gate_lines.Goals as goal

pub nets-preserved : goal.nets-preserved
nets-preserved c =
    let n = c.args.netlist.now in
    let l = c.leaves_from.ensures.leaves in
    let line : IsLineBehind n (stop_at c.args.stops.now) c.net-item.result c.leaves_from.result.items = record { start = l.from; begins = c.gate_start-start.ensures.begins l.from l.stands; are = l.are } in
    let more = zip_more (IsLineBehind n (stop_at c.args.stops.now)) c.args.nets.now (map (λ k. k.items) c.nets.lines.items) c.nets.net-index c.net-item.result c.leaves_from.result.items c.nets-test.true c.net-item.is c.nets.invariant.lines line in
    record {
      walk = c.leaves_from.ensures.walk ∙ c.nets.invariant.walk;
      lines = subst (λ (ls : List (List ℕ)). AllZip (IsLineBehind n (stop_at c.args.stops.now)) (take (c.nets.net-index + 1) c.args.nets.now) ls)
          (sym (ap (map (λ k. k.items)) c.in_ok-push.ensures.items ∙ map_join (λ k. k.items) c.nets.lines.items (c.leaves_from.result ∷ []))) more;
    }
