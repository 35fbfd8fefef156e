-- The rows of the table of cells as the code has them.
-- (No outcome rests on these: they serve contracts of inner calls and proofs.)
use Rattle.std.specs.Prelude.{ℕ, List, map}
use Rattle.std.specs.Borrow.{Bor}
use Rattle.bb_scope.specs.declared.cells.Kind.{Kind as StaticKind}
use Rattle.bb_scope.specs.declared.cells.Row.{Row}
use Rattle.bb_scope.specs.Cells.{Kind}

-- the bytes behind references
abbrev pub texts : List (Bor (List ℕ)) → List (List ℕ)
texts pins = map (λ r. r.now) pins

abbrev pub kind_value : StaticKind → Kind
kind_value k = record { ins = texts k.ins.now; out = k.out.now; body = k.body; places = texts k.places.now }

abbrev pub row_value : Row → List ℕ × Kind
row_value r = (r.name.now, kind_value r.kind)
