use Rattle.std.proofs.Common.{rules, IfSome, ap, subst, sym, ◌∙◌}
use Rattle.bb_edge.specs.Told.{Left, Extends}
use Rattle.bb_edge.specs.Sure.{Sure, left_if, told_in, writing_of}
use Rattle.bb_edge.proofs.SureLemmas.{extends-written, on_ok, text-told, told-present}
use Rattle.bb_edge.proofs.sure_store.SureStoreStore.TheImpl.Goals as goal

pub begin-tells : goal.begin-tells
begin-tells c =
    let s = c.args.self.now in
    record {
      started = search rules;
      first = on_ok c.result _ (λ text h. ap (λ (m : Sure). left_if m.reading) c.ensures.begun ∙ ap Left (text-told s.files s.written c.args.name.now text h));
      failed = search rules;
      absent = λ h. absurd (told-present s.files s.written c.args.name.now h);
      contents = search rules;
      writing = search rules;
      write_faults = search rules;
      cause = search rules;
    }

pub put_piece-tells : goal.put_piece-tells
put_piece-tells c =
    let s = c.args.self.now in
    record {
      goes_on = search rules;
      all = on_ok c.result _ (subst (λ (m : Sure). IfSome (writing_of s) (λ name. Extends (told_in s.files s.written name) (told_in m.files m.written name) c.args.bytes.now)) (sym c.ensures.dropped)
          (extends-written s.files s.is_writing s.written c.args.bytes.now));
      failed = search rules;
      front = search rules;
      others = search rules;
      read_faults = search rules;
      cause = search rules;
    }
