use Rattle.std.proofs.Common.{ℕ, Global, String, Vec, string_bytes, map, ap, sym, ◌∙◌}
use Rattle.bb_edge.specs.Files.{FileValue, told_text}
use Rattle.bb_edge.proofs.FileLemmas.{held-none, is_place-found, position-map}
use Rattle.bb_edge.proofs.SureLemmas.{bytes-past}
use Rattle.bb_edge.proofs.sure_store.find_or_end.Goals as goal

abbrev value : String Global × Vec ℕ Global → FileValue
value f = (string_bytes f.0, f.1.items)

pub returns-in-Some : goal.returns-in-Some
returns-in-Some c =
    sym (ap told_text (is_place-found c.args.name.now (map value c.args.files.now) c.in-Some.place (sym (c.in-Some.ensures ∙ position-map value c.args.name.now c.args.files.now))).bytes)

pub returns-in-None : goal.returns-in-None
returns-in-None c =
    bytes-past value c.args.files.now ∙ sym (ap told_text (held-none c.args.name.now (map value c.args.files.now) (sym (c.in-None.ensures ∙ position-map value c.args.name.now c.args.files.now))))
