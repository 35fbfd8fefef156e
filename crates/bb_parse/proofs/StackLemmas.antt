-- A stack whose next symbol lies last in memory.
use Rattle.std.proofs.Common.{◌≡◌, List, [], ◌∷◌, ◌++◌, length, reverse, sym, ◌∙◌, ap, arith, append_assoc}
use Rattle.std.proofs.lemmas.List.{reverse-append}

-- one more of the symbols lies on the stack
pub one_more : {S : Type 0} (symbols old rest front items last : List S) (x : S) → rest ≡ front ++ x ∷ [] → symbols ++ old ≡ rest ++ (reverse items ++ last) → symbols ++ old ≡ front ++ (reverse (items ++ x ∷ []) ++ last)
one_more symbols old rest front items last x split before =
    before ∙ ap (λ r. r ++ (reverse items ++ last)) split ∙ append_assoc front (x ∷ []) (reverse items ++ last)
    ∙ ap (λ r. front ++ (r ++ last)) (sym (reverse-append items (x ∷ [])))

-- all of the symbols lie on the stack
pub all_there : {S : Type 0} (all rest stack : List S) → length rest ≡ 0 → all ≡ rest ++ stack → stack ≡ all
all_there all [] stack none before = sym before
all_there all (x ∷ rest) stack none before = absurd (omega arith)
