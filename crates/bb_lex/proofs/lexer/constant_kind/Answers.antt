use Rattle.std.proofs.Common.{◌≡◌, ℕ, Bool, Option, None, ap, ◌∙◌, nat_lt, ◌^◌, min}
use Rattle.bb_base.specs.declared.token.TokenKind.TheVariants as kinds
use Rattle.bb_base.specs.declared.lex_fault.LexFault.TheVariants as faults
use Rattle.bb_lex.specs.Machine.{checked, capped}
use Rattle.bb_lex.proofs.CappedLemmas.{none_fits}
use Rattle.bb_lex.proofs.lexer.constant_kind.Goals as goal

pub returns-in-None : goal.returns-in-None
returns-in-None c =
    let e : c.args.value ≡ None = cc in
    let n : ℕ = c.args.size in
    ap (λ (v : Option ℕ). checked (nat_lt (capped v) (2 ^ min n 128)) (kinds.Const n (capped v)) (faults.BadNumber c.args.line)) e
    ∙ ap (λ (t : Bool). checked t (kinds.Const n (capped None)) (faults.BadNumber c.args.line)) (none_fits n)
