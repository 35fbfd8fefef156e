use Rattle.std.proofs.Common.{rules, ◌≡◌, suc, List, drop, take, length, Some, slice_get, refl, sym, ap, ◌∙◌, subst}
use Rattle.std.proofs.lemmas.Option.{slice_get_read}
use Rattle.bb_base.proofs.Contained.{at_place}
use Rattle.bb_edge.specs.Files.{FileValue}
use Rattle.bb_edge.specs.Told.{Shows, SameBut, KeepsOrStarts}
use Rattle.bb_read.specs.Files.{AreApart, AreWhole, SameButAll, names_of}
use Rattle.bb_read.proofs.FileLemmas.{AreWritten, written_more, cut_short, cut_others, split_at, take_next}
use Rattle.bb_read.proofs.files.write_files.Goals as goal

pub write_whole-requires-clause-may : goal.write_whole-requires-clause-may
write_whole-requires-clause-may g c =
    let files : List FileValue = c.args.files.now in
    let f : FileValue = c.file-item.result in
    let i = c.files.file-index in
    let at : slice_get files i ≡ Some f = slice_get_read files (length files) i f refl c.files-test.true c.file-item.is in
    let name : c.as_str.result.now ≡ f.0 = c.as_str.ensures.value ∙ ap (λ (k : FileValue). k.0) c.file.view_is in
    subst g.S.Store.may_write (sym name) (at_place (λ (k : FileValue). g.S.Store.may_write k.0) files i f c.requires.may at)

pub files-preserved : goal.files-preserved
files-preserved g c =
    let holds = g.S.Store.holds in
    let files : List FileValue = c.args.files.now in
    let f : FileValue = c.file-item.result in
    let i = c.files.file-index in
    let at : slice_get files i ≡ Some f = slice_get_read files (length files) i f refl c.files-test.true c.file-item.is in
    let name : c.as_str.result.now ≡ f.0 = c.as_str.ensures.value ∙ ap (λ (k : FileValue). k.0) c.file.view_is in
    let text : c.deref.result.now ≡ f.1 = c.deref.ensures.value ∙ ap (λ (k : FileValue). k.1) c.file.view_is in
    let new = holds c.write_whole.new.store in
    let others = subst (λ n. SameBut n (holds c.files.store) new) name c.write_whole.ensures.others in
    let whole = subst (λ t. Shows (new f.0) t) text (subst (λ n. Shows (new n) c.deref.result.now) name c.in_ok-write_whole.ensures.whole) in
    record {
      free = c.write_whole.ensures.free;
      written = subst (λ fs. AreWritten fs (holds c.args.store.now) new) (sym (take_next files i f at))
          (written_more (take i files) (drop (suc i) files) f (holds c.args.store.now) (holds c.files.store) new (subst AreApart (split_at files i f at) c.requires.apart) c.files.invariant.written others whole);
      read_faults = c.write_whole.ensures.read_faults ∙ c.files.invariant.read_faults;
      faults = c.in_ok-write_whole.ensures.cause.kept ∙ c.files.invariant.faults;
    }

pub returns-in_err-write_whole-clause-partly : goal.returns-in_err-write_whole-clause-partly
returns-in_err-write_whole-clause-partly g c =
    let holds = g.S.Store.holds in
    let files : List FileValue = c.args.files.now in
    let f : FileValue = c.file-item.result in
    let i = c.files.file-index in
    let at : slice_get files i ≡ Some f = slice_get_read files (length files) i f refl c.files-test.true c.file-item.is in
    let name : c.as_str.result.now ≡ f.0 = c.as_str.ensures.value ∙ ap (λ (k : FileValue). k.0) c.file.view_is in
    let text : c.deref.result.now ≡ f.1 = c.deref.ensures.value ∙ ap (λ (k : FileValue). k.1) c.file.view_is in
    let old = holds c.files.store in
    let new = holds c.write_whole.new.store in
    let others = subst (λ n. SameBut n old new) name c.write_whole.ensures.others in
    let partly = subst (λ t. KeepsOrStarts (old f.0) (new f.0) t) text (subst (λ n. KeepsOrStarts (old n) (new n) c.deref.result.now) name c.in_err-write_whole.ensures.partly) in
    let cut = cut_short files (take i files) (drop (suc i) files) f (holds c.args.store.now) old new (split_at files i f at) c.requires.apart c.files.invariant.written others partly in
    search (rules, cut)

pub returns-in_err-write_whole-clause-others : goal.returns-in_err-write_whole-clause-others
returns-in_err-write_whole-clause-others g c =
    let holds = g.S.Store.holds in
    let files : List FileValue = c.args.files.now in
    let f : FileValue = c.file-item.result in
    let i = c.files.file-index in
    let at : slice_get files i ≡ Some f = slice_get_read files (length files) i f refl c.files-test.true c.file-item.is in
    let name : c.as_str.result.now ≡ f.0 = c.as_str.ensures.value ∙ ap (λ (k : FileValue). k.0) c.file.view_is in
    let new = holds c.write_whole.new.store in
    let others = subst (λ n. SameBut n (holds c.files.store) new) name c.write_whole.ensures.others in
    cut_others files (take i files) (drop (suc i) files) f (holds c.args.store.now) (holds c.files.store) new (split_at files i f at) c.files.invariant.written others
