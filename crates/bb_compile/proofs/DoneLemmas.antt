-- parts of the line of a call that is done, put together
use Rattle.std.proofs.Common.{◌≡◌, ℕ, List, [], ◌++◌, ◌∙◌, ap, append_assoc, codes, decimal}
use Rattle.bb_make.specs.declared.artifacts.Summary.{Summary}
use Rattle.bb_read.proofs.LineLemmas.{behind3}
use Rattle.bb_compile.specs.Outputs.{done_line}

behind4 : (a b c d z : List ℕ) → (a ++ (b ++ (c ++ d))) ++ z ≡ a ++ (b ++ (c ++ (d ++ z)))
behind4 a b c d z = append_assoc a (b ++ (c ++ d)) z ∙ ap (λ x. a ++ x) (behind3 b c d z)

-- a list of six parts and what stands behind it, and one of eight
behind6 : (a b c d e f z : List ℕ) → (a ++ (b ++ (c ++ (d ++ (e ++ f))))) ++ z ≡ a ++ (b ++ (c ++ (d ++ (e ++ (f ++ z)))))
behind6 a b c d e f z = append_assoc a (b ++ (c ++ (d ++ (e ++ f)))) z ∙ ap (λ x. a ++ x) (append_assoc b (c ++ (d ++ (e ++ f))) z ∙ ap (λ x. b ++ x) (behind4 c d e f z))

behind8 : (a b c d e f g h z : List ℕ) → (a ++ (b ++ (c ++ (d ++ (e ++ (f ++ (g ++ h))))))) ++ z ≡ a ++ (b ++ (c ++ (d ++ (e ++ (f ++ (g ++ (h ++ z)))))))
behind8 a b c d e f g h z =
    append_assoc a (b ++ (c ++ (d ++ (e ++ (f ++ (g ++ h)))))) z
    ∙ ap (λ x. a ++ x) (append_assoc b (c ++ (d ++ (e ++ (f ++ (g ++ h))))) z ∙ ap (λ x. b ++ x) (behind6 c d e f g h z))

-- six parts, eight parts and an end
pub whole_line : (a b c d e f g h i j k l m n z : List ℕ)
    → ((a ++ (b ++ (c ++ (d ++ (e ++ f))))) ++ (g ++ (h ++ (i ++ (j ++ (k ++ (l ++ (m ++ n)))))))) ++ z
    ≡ a ++ (b ++ (c ++ (d ++ (e ++ (f ++ (g ++ (h ++ (i ++ (j ++ (k ++ (l ++ (m ++ (n ++ z)))))))))))))
whole_line a b c d e f g h i j k l m n z =
    append_assoc (a ++ (b ++ (c ++ (d ++ (e ++ f))))) (g ++ (h ++ (i ++ (j ++ (k ++ (l ++ (m ++ n))))))) z
    ∙ (ap (λ x. (a ++ (b ++ (c ++ (d ++ (e ++ f))))) ++ x) (behind8 g h i j k l m n z)
    ∙ behind6 a b c d e f (g ++ (h ++ (i ++ (j ++ (k ++ (l ++ (m ++ (n ++ z)))))))))

-- the line of a call that is done, from its parts
pub done_line_is : (s : Summary) (none front line all : List ℕ) → none ≡ []
    → front ≡ none ++ (codes "done gates " ++ (decimal s.gates ++ (codes " flops " ++ (decimal s.flops ++ (codes " cells " ++ decimal s.cells)))))
    → line ≡ front ++ (codes " registers " ++ (decimal s.registers ++ (codes " sessions " ++ (decimal s.sessions ++ (codes " degree " ++ (decimal s.degree ++ (codes " cycles " ++ decimal s.cycles)))))))
    → all ≡ line ++ codes "\n" → all ≡ done_line s
done_line_is s none front line all nothing counted planned ended =
    ended
    ∙ (ap (λ x. x ++ codes "\n") (planned ∙ ap (λ x. x ++ (codes " registers " ++ (decimal s.registers ++ (codes " sessions " ++ (decimal s.sessions ++ (codes " degree " ++ (decimal s.degree ++ (codes " cycles " ++ decimal s.cycles))))))))
    (counted ∙ ap (λ x. x ++ (codes "done gates " ++ (decimal s.gates ++ (codes " flops " ++ (decimal s.flops ++ (codes " cells " ++ decimal s.cells)))))) nothing))
    ∙ whole_line (codes "done gates ") (decimal s.gates) (codes " flops ") (decimal s.flops) (codes " cells ") (decimal s.cells) (codes " registers ") (decimal s.registers)
    (codes " sessions ") (decimal s.sessions) (codes " degree ") (decimal s.degree) (codes " cycles ") (decimal s.cycles) (codes "\n"))
