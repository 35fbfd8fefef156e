-- The terminals of a primitive: which of them it drives, and which it reads. And the end of an expression.
use Rattle.std.specs.Prelude.{ℕ, Bool, true, false, List, [], ◌∷◌, take, drop, if◌then◌else◌, ◌-◌, length}
use Rattle.bb_parse.specs.declared.syntax.Step.{Step}
use Rattle.bb_base.specs.declared.operator.Op.{Op}
use Rattle.bb_base.specs.declared.operator.Op.TheVariants as op

-- no step follows
abbrev pub is_last : List Step → Bool
is_last [] = true
is_last (s ∷ ss) = false

-- not and buf drive every terminal but the last, other primitives the first alone
abbrev pub drives_all : Op → Bool
drives_all op.Not = true
drives_all op.Buf = true
drives_all op.And = false
drives_all op.Nand = false
drives_all op.Or = false
drives_all op.Nor = false
drives_all op.Xor = false
drives_all op.Xnor = false
drives_all op.Zero = false
drives_all op.One = false

-- how many of so many terminals a primitive drives
abbrev pub out_count : Op → ℕ → ℕ
out_count o terms = if drives_all o then terms - 1 else 1

-- the terminals that it drives, and those that it reads
abbrev pub outs_of : Op → List (List Step) → List (List Step)
outs_of o terms = take (out_count o (length terms)) terms

abbrev pub ins_of : Op → List (List Step) → List (List Step)
ins_of o terms = drop (out_count o (length terms)) terms
