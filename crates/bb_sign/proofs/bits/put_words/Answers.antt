use Rattle.std.proofs.Common.{arith, get_or, ◌∙◌}
use Rattle.std.proofs.lemmas.List.{length-set}
use Rattle.bb_sign.proofs.PutLemmas.{put_more, put_all}
use Rattle.bb_sign.proofs.bits.put_words.Goals as goal

pub returns-clause-put : goal.returns-clause-put
returns-clause-put c = put_all c.args.nets.now c.args.words.now c.nets.values c.nets.place (omega (arith, c.nets-test.false)) c.nets.invariant.so_far

pub nets-preserved : goal.nets-preserved
nets-preserved c =
    let within = c.requires.within c.nets.place 0 c.nets-test.true in
    record {
      long = length-set c.nets.values (get_or c.args.nets.now c.nets.place 0) (get_or c.args.words.now c.nets.place 0) ∙ c.nets.invariant.long;
      so_far = put_more c.args.nets.now c.args.words.now c.nets.values c.nets.place c.nets-test.true (omega (arith, within, c.nets.invariant.long)) c.nets.invariant.so_far;
    }
