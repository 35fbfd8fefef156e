-- What follows from what is said of a result.
use Rattle.std.proofs.Common.{Result, Ok, Err, IfOk, IfErr}

pub ok_then : {T E : Type 0} (P Q : T → Type 0) (r : Result T E) → ((x : T) → P x → Q x) → IfOk r P → IfOk r Q
ok_then P Q (Ok x) f h = f x h
ok_then P Q (Err e) f h = h

pub err_then : {T E : Type 0} (P Q : E → Type 0) (r : Result T E) → ((e : E) → P e → Q e) → IfErr r P → IfErr r Q
err_then P Q (Ok x) f h = h
err_then P Q (Err e) f h = f e h
