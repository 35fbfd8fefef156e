-- The files that are written, and the line that is put then (this project's own).
use Rattle.std.specs.Prelude.{ℕ, List, [], ◌∷◌, ◌++◌, codes, decimal}
use Rattle.bb_edge.specs.Files.{FileValue}
use Rattle.bb_make.specs.declared.artifacts.Summary.{Summary}
use Rattle.bb_make.specs.Artifacts.{ArtifactsValue}
use Rattle.bb_compile.specs.Made.{sample_text}

-- the files that `compile` writes, in order: the netlist with its test, the schedule, the signatures and the certificate
abbrev pub outputs : List ℕ → ArtifactsValue → List FileValue
outputs prefix made =
    (prefix ++ codes ".v", made.netlist) ∷ (prefix ++ codes ".sched", made.schedule) ∷ (prefix ++ codes ".sig", made.signatures) ∷ (prefix ++ codes ".cert", made.certificate) ∷ []

-- those that `sample` writes: the sample's own text, and then the same four
abbrev pub sample_outputs : List ℕ → ℕ → ArtifactsValue → List FileValue
sample_outputs prefix number made = (prefix ++ codes ".in.v", sample_text number) ∷ outputs prefix made

-- the line of a call that is done
abbrev pub done_line : Summary → List ℕ
done_line s =
    codes "done gates " ++ (decimal s.gates ++ (codes " flops " ++ (decimal s.flops ++ (codes " cells " ++ (decimal s.cells ++ (codes " registers " ++ (decimal s.registers
    ++ (codes " sessions " ++ (decimal s.sessions ++ (codes " degree " ++ (decimal s.degree ++ (codes " cycles " ++ (decimal s.cycles ++ codes "\n")))))))))))))
