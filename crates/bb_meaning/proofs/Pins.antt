-- The names in what the pins of an instance are connected to are those of variables.
use Rattle.std.proofs.Common.{ℕ, List, [], ◌∷◌, map, zip}
use Rattle.std.specs.Prelude.{Some}
use Rattle.std.specs.List.{AllByRecursion}
use Rattle.bb_base.specs.Variables.{Entry}
use Rattle.bb_base.proofs.Lists.{all_parts}
use Rattle.bb_parse.specs.declared.syntax.Conns.{Conns}
use Rattle.bb_parse.specs.declared.syntax.Conns.TheVariants.{Places, Pins}
use Rattle.bb_parse.specs.declared.syntax.Step.{Step}
use Rattle.bb_scope.specs.Names.{steps_names, pin_names, conns_names}
use Rattle.bb_scope.specs.Cells.{Kind, Pin, pins_of}
use Rattle.bb_meaning.proofs.WithinSteps.{AreKnown, IsKnown}

-- the names in what pins are connected to are those of variables
abbrev pub IsPinKnown : List Entry → Pin → Type 0
IsPinKnown table p = AreKnown table (pin_names p.1)

-- pins of either form
zip-known : (table : List Entry) (places : List (List ℕ)) (terms : List (List Step)) → AllByRecursion (λ e. AreKnown table (steps_names e)) terms → AllByRecursion (IsPinKnown table) (zip places (map (λ e. Some e) terms))
zip-known table [] terms known = tt
zip-known table (p ∷ places) [] known = tt
zip-known table (p ∷ places) (e ∷ terms) known = (known.0, zip-known table places terms known.1)

pub pins-known : (table : List Entry) (kind : Kind) (conns : Conns) → AreKnown table (conns_names conns) → AllByRecursion (IsPinKnown table) (pins_of kind conns)
pins-known table kind (Places terms) known = zip-known table kind.places terms (all_parts (IsKnown table) steps_names terms known)
pins-known table kind (Pins pins) known = all_parts (IsKnown table) (λ p. pin_names p.1) pins known
