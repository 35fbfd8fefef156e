use Rattle.std.proofs.Common.{◌≡◌, ◌||◌, ◌&&◌, ℕ, nat_eq, take}
use Rattle.std.specs.List.{list_any}
use Rattle.bb_reg.specs.Fitting.{numbers_at}
use Rattle.bb_reg.proofs.index.note_all.Given as goal

abbrev pub invariant-nets : goal.invariant-nets
invariant-nets l = (net j : ℕ) → list_any (nat_eq j) (numbers_at l.index net) ≡ (list_any (nat_eq j) (numbers_at l.fn.index net) || nat_eq j l.number && list_any (nat_eq net) (take l.net-index l.nets))
