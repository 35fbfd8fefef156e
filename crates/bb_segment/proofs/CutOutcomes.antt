-- What follows from what is said of a result.
use Rattle.std.proofs.Common.{Result, Ok, Err, OnOk}

pub on_four : {T E : Type 0} (A B C D Q : Type 0) (r : Result T E) → (A → B → C → D → Q) → OnOk r A → OnOk r B → OnOk r C → OnOk r D → OnOk r Q
on_four A B C D Q (Ok x) f a b c d = f a b c d
on_four A B C D Q (Err e) f a b c d = a

pub on_two : {T E : Type 0} (A B Q : Type 0) (r : Result T E) → (A → B → Q) → OnOk r A → OnOk r B → OnOk r Q
on_two A B Q (Ok x) f a b = f a b
on_two A B Q (Err e) f a b = a
