use Rattle.std.proofs.Common.{◌≡◌, ◌∙◌, Err, length, sym, ap, subst}
use Rattle.bb_base.specs.Operators.{IsArity}
use Rattle.bb_base.proofs.Lists.{length_map}
use Rattle.bb_ctl.proofs.NetLemmas.{only_memory_of_gate}
use Rattle.bb_ctl.proofs.numbering.add_row.Goals as goal

pub out_of_memory-requires : goal.out_of_memory-requires
out_of_memory-requires c =
    let long : length c.deref.result.now ≡ length c.args.row.now.ins =
    ap length (c.deref.ensures.value ∙ c.in_ok-ins.ensures.nets) ∙ length_map _ c.as_slice.result.now ∙ ap length c.as_slice.ensures ∙ ap (λ g. length g.ins) c.row.view_is in
    let many : IsArity c.args.row.now.op (length c.deref.result.now) = subst (IsArity c.args.row.now.op) (sym long) c.requires.arity in
    let fits : IsArity c.row.inside.op (length c.deref.result.now) = subst (λ o. IsArity o (length c.deref.result.now)) (sym (ap (λ g. g.op) c.row.view_is)) many in
    only_memory_of_gate c.in-Err.fault c.in-Err.ensures.only (λ gate e. ((c.in-Err.ensures.arity gate).0 (ap Err e)).1 fits)
