use Rattle.std.proofs.Common.{map, ◌∙◌, sym}
use Rattle.bb_reg.proofs.SeenLemmas.{given_seen, read_seen}
use Rattle.bb_base.proofs.Lists.{length_map}
use Rattle.bb_reg.proofs.ends.ends_of.Goals as goal

pub returns-clause-gives : goal.returns-clause-gives
returns-clause-gives c = c.in_ok-gives.ensures ∙ given_seen c.args.cells.now (map (λ l. l.items) c.args.leaves.now) (c.requires ∙ sym (length_map (λ l. l.items) c.args.leaves.now))

pub returns-clause-reads : goal.returns-clause-reads
returns-clause-reads c = c.in_ok-reads.ensures ∙ read_seen (λ l. l.items) c.args.cells.now c.args.leaves.now c.requires
