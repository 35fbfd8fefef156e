-- The number of a bad line as it is told.
use Rattle.std.proofs.Common.{◌≡◌, ℕ, List, Result, Err, sym, ap, ◌∙◌, subst}
use Rattle.bb_forms.specs.declared.fault.FormFault.{FormFault}
use Rattle.bb_forms.specs.declared.fault.FormFault.TheVariants.{BadLine, NoMemory}
use Rattle.bb_forms.specs.Forms.{IsUnformedLine}

line_in : FormFault → ℕ
line_in (BadLine line) = line
line_in NoMemory = 0

err_same : {T E : Type 0} (x y : E) → ◌≡◌ {A = Result T E} (Err x) (Err y) → x ≡ y
err_same x y h = cc

pub told_is : {T : Type 0} (IsForm : List (List ℕ) → Type 0) (text : List ℕ) (number told : ℕ) (fault : FormFault) → fault ≡ BadLine number → ◌≡◌ {A = Result T FormFault} (Err fault) (Err (BadLine told)) → IsUnformedLine IsForm number text → IsUnformedLine IsForm told text
unfolding line_in
told_is {T} IsForm text number told fault a b h = subst (λ n. IsUnformedLine IsForm n text) (ap line_in (sym a ∙ err_same {T = T} fault (BadLine told) b)) h
