use Rattle.std.proofs.Common.{◌∙◌, length, get_or, arith}
use Rattle.std.proofs.lemmas.Result.{err_from_is_err_and}
use Rattle.bb_base.specs.Named.{name_of_net, net_text}
use Rattle.bb_canon.proofs.Drafts.{nets_more}
use Rattle.bb_canon.proofs.Drawing.{text_at, net_at, named_push, named_all}
use Rattle.bb_canon.proofs.draft.Draft.nets.Goals as goal

pub returns-in_err-net-clause-want : goal.returns-in_err-net-clause-want
returns-in_err-net-clause-want c = λ a gates flops ms h d all e.
    let m = get_or ms c.texts.text-index 0 in
    let text = text_at (net_text a) ms c.args.texts.now c.texts.text-index c.text-item.result c.text-item.is c.texts-test.true e in
    let within = net_at (length a.names) (net_text a) ms c.args.texts.now c.texts.text-index all c.texts-test.true e in
    let p = err_from_is_err_and c.from_residual.result c.from_residual.ensures.1 in
    rw (p.1, p.2) (c.in_err-net.ensures.want a gates flops m h (c.texts.invariant.drawn a gates flops ms h d all e) within text)

pub texts-preserved : goal.texts-preserved
texts-preserved c = record {
  grows = omega (arith, c.in_ok-net.ensures.grows);
  netlist = c.in_ok-net.ensures.netlist ∙ c.texts.invariant.netlist;
  within = nets_more c.texts.nets.items c.push.new.self.items c.in_ok-net.field-0 (length c.texts.self.names) (length c.net.new.self.names) c.in_ok-net.ensures.grows c.in_ok-net.ensures.within c.in_ok-push.ensures.items c.texts.invariant.within;
  kept = λ k below. c.in_ok-net.ensures.kept k (omega (arith, c.texts.invariant.grows)) ∙ c.texts.invariant.kept k below;
  drawn = λ a gates flops ms h d all e.
      let m = get_or ms c.texts.text-index 0 in
      let text = text_at (net_text a) ms c.args.texts.now c.texts.text-index c.text-item.result c.text-item.is c.texts-test.true e in
      let within = net_at (length a.names) (net_text a) ms c.args.texts.now c.texts.text-index all c.texts-test.true e in
      c.in_ok-net.ensures.drawn a gates flops m h (c.texts.invariant.drawn a gates flops ms h d all e) within text;
  named = λ a gates flops ms h d all e.
      let m = get_or ms c.texts.text-index 0 in
      let text = text_at (net_text a) ms c.args.texts.now c.texts.text-index c.text-item.result c.text-item.is c.texts-test.true e in
      let within = net_at (length a.names) (net_text a) ms c.args.texts.now c.texts.text-index all c.texts-test.true e in
      let last = c.in_ok-net.ensures.named a gates flops m h (c.texts.invariant.drawn a gates flops ms h d all e) within text in
      named_push (name_of_net c.texts.self) (name_of_net c.net.new.self) (name_of_net a) c.texts.nets.items c.push.new.self.items ms c.in_ok-net.field-0 c.texts.text-index (length c.texts.self.names) (net_text a) c.args.texts.now
      c.in_ok-net.ensures.kept c.texts.invariant.within (c.texts.invariant.named a gates flops ms h d all e) last c.texts-test.true e c.in_ok-push.ensures.items;
}

pub returns-clause-named : goal.returns-clause-named
returns-clause-named c = λ a gates flops ms h d all e.
    named_all (name_of_net c.texts.self) (name_of_net a) c.texts.nets.items ms c.texts.text-index (net_text a) c.args.texts.now (c.texts.invariant.named a gates flops ms h d all e) c.texts-test.false e
