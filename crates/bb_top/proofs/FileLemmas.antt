-- The files that a command writes: their names differ, and each of them may be written where the command's names may.
use Rattle.std.proofs.Common.{◌≡◌, ◌≢◌, ℕ, List, ◌++◌, codes, slice_index_or, nat_eq, false, refl, ap, arith}
use Rattle.std.proofs.lemmas.List.{append_cancel_left}
use Rattle.std.proofs.lemmas.Bool.Decides.{nat_tests}
use Rattle.bb_read.specs.Files.{AreApart, names_of}
use Rattle.bb_words.specs.Commands.{CommandValue, Compile, Check, Sample, names_written}
use Rattle.bb_make.specs.Artifacts.{ArtifactsValue}
use Rattle.bb_compile.specs.Outputs.{outputs}
use Rattle.bb_top.specs.Ends.{files_for}

-- names with one beginning differ where the third bytes of their ends do
abbrev third : List ℕ → ℕ
third name = slice_index_or name 2 0

told_apart : (a b : ℕ) → nat_eq a b ≡ false → a ≢ b
told_apart a b test = λ e. grind (arith, nat_tests)

differ : (prefix x y : List ℕ) → nat_eq (third x) (third y) ≡ false → prefix ++ x ≢ prefix ++ y
differ prefix x y test = λ e. told_apart (third x) (third y) test (ap third (append_cancel_left prefix x y e))

outputs_apart : (prefix : List ℕ) (made : ArtifactsValue) → AreApart (outputs prefix made)
outputs_apart prefix made = (
  (
    differ prefix (codes ".v") (codes ".sched") refl,
    (differ prefix (codes ".v") (codes ".sig") refl, (differ prefix (codes ".v") (codes ".cert") refl, tt)),
  ),
  (
    (differ prefix (codes ".sched") (codes ".sig") refl, (differ prefix (codes ".sched") (codes ".cert") refl, tt)),
    ((differ prefix (codes ".sig") (codes ".cert") refl, tt), (tt, tt)),
  ),
)

pub files_apart : (command : CommandValue) (made : ArtifactsValue) → AreApart (files_for command made)
files_apart (Compile input prefix settings) made = outputs_apart prefix made
files_apart (Check input prefix) made = tt
files_apart (Sample number prefix settings) made = (
  (
    differ prefix (codes ".in.v") (codes ".v") refl,
    (
      differ prefix (codes ".in.v") (codes ".sched") refl,
      (differ prefix (codes ".in.v") (codes ".sig") refl, (differ prefix (codes ".in.v") (codes ".cert") refl, tt)),
    ),
  ),
  outputs_apart prefix made,
)

-- their names are those that the command writes
pub files_named : (command : CommandValue) (made : ArtifactsValue) → names_of (files_for command made) ≡ names_written command
files_named (Compile input prefix settings) made = refl
files_named (Check input prefix) made = refl
files_named (Sample number prefix settings) made = refl
