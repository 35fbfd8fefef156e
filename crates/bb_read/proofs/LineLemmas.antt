-- parts of lines, put together
use Rattle.std.proofs.Common.{◌≡◌, ℕ, List, ◌++◌, ◌∙◌, ap, append_assoc}

pub behind3 : (a b c z : List ℕ) → (a ++ (b ++ c)) ++ z ≡ a ++ (b ++ (c ++ z))
behind3 a b c z = append_assoc a (b ++ c) z ∙ ap (λ x. a ++ x) (append_assoc b c z)
