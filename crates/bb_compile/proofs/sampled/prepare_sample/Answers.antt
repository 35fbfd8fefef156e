use Rattle.std.proofs.Common.{◌∙◌, ap, List, [], ◌∷◌, ◌++◌, codes}
use Rattle.bb_edge.specs.Files.{FileValue}
use Rattle.bb_base.specs.Named.{Named, design_of}
use Rattle.bb_spell.specs.Canonical.{canonical_text}
use Rattle.bb_make.specs.Artifacts.{ArtifactsValue}
use Rattle.bb_compile.specs.Outputs.{outputs}
use Rattle.bb_compile.proofs.sampled.prepare_sample.Goals as goal

pub returns-clause-prepared : goal.returns-clause-prepared
returns-clause-prepared c =
    let prefix = c.args.prefix.now in
    let made : ArtifactsValue = c.in_ok-made.made in
    let alone : Named → List FileValue = λ n. (prefix ++ codes ".in.v", canonical_text (design_of n)) ∷ [] in
    record {
      made = made;
      made_of = c.in_ok-made.ensures.made;
      files = c.in_ok-prepared.ensures.files ∙ ap (λ (fs : List FileValue). fs ++ outputs prefix made) (c.in_ok-files.ensures ∙ ap alone c.in_ok-named.ensures);
      line = c.in_ok-prepared.ensures.line;
    }
