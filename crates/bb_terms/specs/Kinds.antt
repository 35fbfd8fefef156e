-- What each kind of cell is for (after the cells of a built-in logic block observer: Könemann, Mucha and Zwiehoff, 1979; the kinds are
-- this project's own).
use Rattle.std.specs.Prelude.{Bool, true, false, not, ◌&&◌, ◌||◌}
use Rattle.bb_terms.specs.declared.kind.Kind.{Kind}
use Rattle.bb_terms.specs.declared.kind.Kind.TheVariants.{Input, State, Split, Cut, Watch, Output}

-- values enter at the cell's net
abbrev pub is_source : Kind → Bool
is_source Input = true
is_source State = true
is_source Split = true
is_source Cut = true
is_source Watch = false
is_source Output = false

-- the cell observes the d of its flip-flop
abbrev pub takes_d : Kind → Bool
takes_d Input = false
takes_d State = true
takes_d Split = false
takes_d Cut = false
takes_d Watch = true
takes_d Output = false

-- the cell observes its net
abbrev pub takes_net : Kind → Bool
takes_net Input = false
takes_net State = false
takes_net Split = false
takes_net Cut = true
takes_net Watch = false
takes_net Output = true

-- the cell cuts its net: what reads it reads the cell
abbrev pub is_cut : Kind → Bool
is_cut Input = false
is_cut State = false
is_cut Split = false
is_cut Cut = true
is_cut Watch = false
is_cut Output = false

-- the cell observes a line
abbrev pub is_observer : Kind → Bool
is_observer kind = takes_d kind || takes_net kind

-- the cell can latch a line: an observer, or a Split cell, which is a flip-flop still
abbrev pub has_line : Kind → Bool
has_line Input = false
has_line State = true
has_line Split = true
has_line Cut = true
has_line Watch = true
has_line Output = true

-- other logic reads the net behind the cell
abbrev pub is_behind : Kind → Bool
is_behind Input = true
is_behind State = false
is_behind Split = false
is_behind Cut = true
is_behind Watch = false
is_behind Output = false

-- the cell's bit is the flip-flop itself
abbrev pub is_flop : Kind → Bool
is_flop Input = false
is_flop State = true
is_flop Split = true
is_flop Cut = false
is_flop Watch = false
is_flop Output = false

-- a source that observes nothing
abbrev pub only_generates : Kind → Bool
only_generates kind = is_source kind && not (is_observer kind)

-- a source that observes too, so that a line may read it back
abbrev pub reads_back : Kind → Bool
reads_back kind = is_source kind && is_observer kind
