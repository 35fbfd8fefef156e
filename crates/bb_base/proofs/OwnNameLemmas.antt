-- Names of made wires are names.
use Rattle.std.proofs.Common.{arith, ℕ, ◌+◌, ◌%◌, ◌<◌, ◌^◌, [], ◌∷◌}
use Rattle.std.proofs.lemmas.Fmt.{decimal_by_steps, length-decimal-le}
use Rattle.std.proofs.lemmas.List.Elements.{All-from_recursion}
use Rattle.std.specs.Prelude.{decimal}
use Rattle.std.specs.List.{AllByRecursion}
use Rattle.bb_base.specs.Name.{IsName, IsNameByte}
use Rattle.bb_base.specs.OwnNames.{made_name}
use Rattle.bb_base.proofs.Lists.{all_join}

-- the bytes of a number are digits
pub decimal_plain : (k : ℕ) → k < 2 ^ 64 → AllByRecursion IsNameByte (decimal k)
decimal_plain k small =
    decimal_by_steps (λ n ds. AllByRecursion IsNameByte ds) (λ n one. ((omega (arith, one), omega (arith, one)), tt))
    (λ n ds ten all. all_join IsNameByte ds ((48 + n % 10) ∷ []) all ((omega arith, omega arith), tt)) k small

-- a made name is a name
pub made_is_name : (k : ℕ) → k < 2 ^ 64 → IsName (made_name k)
made_is_name k small = record {
  some = omega arith;
  short = omega (arith, length-decimal-le 20 k (omega arith) (omega (arith, small)) small);
  plain = All-from_recursion IsNameByte (made_name k) ((omega arith, omega arith), ((omega arith, omega arith), ((omega arith, omega arith), ((omega arith, omega arith), decimal_plain k small))));
}
