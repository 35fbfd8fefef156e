-- The words that stand for themselves and are no simple names.
use Rattle.std.specs.Prelude.{ℕ, Bool, List, [], ◌∷◌, codes, bytes_eq, is_some, Option, Some, None, if◌then◌else◌}
use Rattle.bb_base.specs.declared.keyword.Keyword.{Keyword}
use Rattle.bb_base.specs.declared.keyword.Keyword.TheVariants.{Module, Endmodule, Input, Output, Wire, Assign, And, Nand, Or, Nor, Xor, Xnor, Not, Buf}

-- each keyword with its spelling
abbrev pub keywords : List (List ℕ × Keyword)
keywords = (codes "module", Module) ∷ (codes "endmodule", Endmodule) ∷ (codes "input", Input) ∷ (codes "output", Output) ∷ (codes "wire", Wire) ∷ (codes "assign", Assign)
    ∷ (codes "and", And) ∷ (codes "nand", Nand) ∷ (codes "or", Or) ∷ (codes "nor", Nor) ∷ (codes "xor", Xor) ∷ (codes "xnor", Xnor) ∷ (codes "not", Not) ∷ (codes "buf", Buf) ∷ []

-- the first entry with this spelling
abbrev pub in_table : List (List ℕ × Keyword) → List ℕ → Option Keyword
in_table [] word = None
in_table (e ∷ es) word = if bytes_eq word e.0 then Some e.1 else in_table es word

-- the keyword that a word spells
unfoldable pub keyword_of : List ℕ → Option Keyword
keyword_of word = in_table keywords word

-- the word is a keyword
abbrev pub is_keyword : List ℕ → Bool
is_keyword word = is_some (keyword_of word)
