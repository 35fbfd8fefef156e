-- Facts of two tests or two answers are facts of each.
use Rattle.std.proofs.Common.{◌≡◌, Bool, true, false, ◌&&◌, refl}
use Rattle.std.specs.Prelude.{Option, Some, None}
use Rattle.std.specs.Option.{option_or}

pub both-first : (a b : Bool) → (a && b) ≡ true → a ≡ true
both-first true b h = refl
both-first false b h = h

pub both-second : (a b : Bool) → (a && b) ≡ true → b ≡ true
both-second true b h = h
both-second false b h = cc

pub none-first : {X : Type 0} (a b : Option X) → option_or a b ≡ None → a ≡ None
none-first None b h = refl
none-first (Some x) b h = cc

pub none-second : {X : Type 0} (a b : Option X) → option_or a b ≡ None → b ≡ None
none-second None b h = h
none-second (Some x) b h = cc
