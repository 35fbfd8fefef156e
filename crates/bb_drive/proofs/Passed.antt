-- An error that is passed on keeps what is known of it.
use Rattle.std.proofs.Common.{◌≡◌, ◌≢◌, ◌∙◌, sym, ap, subst, IfErr, Ok, Err, Option, Some, None}
use Rattle.std.specs.Prelude.{Result}
use Rattle.std.specs.Option.{option_or}
use Rattle.std.specs.Result.{IsErrAnd}
use Rattle.bb_fault.specs.declared.fault.ElabFault.{ElabFault}
use Rattle.bb_fault.specs.declared.fault.ElabFault.TheVariants.{NoMemory}

pub passed : {T : Type 0} (r : Result T ElabFault) (f : ElabFault) (P : ElabFault → Type 0) → IsErrAnd r (λ e. e ≡ f) → P f → IfErr r P
passed (Ok x) f P h p = tt
passed (Err e) f P h p = subst P (sym h) p

-- the first of two faults, and the second where there is no first
pub passed_first : {T : Type 0} (r : Result T ElabFault) (f : ElabFault) (a b : Option ElabFault) → IsErrAnd r (λ e. e ≡ f) → (f ≢ NoMemory → a ≡ Some f) → IfErr r (λ fault. fault ≢ NoMemory → option_or a b ≡ Some fault)
passed_first r f a b h p = passed r f (λ fault. fault ≢ NoMemory → option_or a b ≡ Some fault) h (λ other. ap (λ o. option_or o b) (p other))

pub passed_second : {T : Type 0} (r : Result T ElabFault) (f : ElabFault) (a b : Option ElabFault) → IsErrAnd r (λ e. e ≡ f) → a ≡ None → (f ≢ NoMemory → b ≡ Some f) → IfErr r (λ fault. fault ≢ NoMemory → option_or a b ≡ Some fault)
passed_second r f a b h none p = passed r f (λ fault. fault ≢ NoMemory → option_or a b ≡ Some fault) h (λ other. ap (λ o. option_or o b) none ∙ p other)
