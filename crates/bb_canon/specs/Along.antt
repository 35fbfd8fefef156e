-- A reader on the way through lines of one kind, of which each says an item. No public contract cites this.
use Rattle.std.specs.Prelude.{◌≡◌, ℕ, Bool, true, false, None, List, [], ◌∷◌, ◌++◌, Option, Some}
use Rattle.std.specs.List.{list_all, flat_map}
use Rattle.std.specs.Option.{option_map}
use Rattle.bb_base.specs.Net.{Gate, Flop, renamed_gate, renamed_flop}
use Rattle.bb_base.specs.Variables.{Entry, Bit, bit_of}
use Rattle.bb_base.specs.Named.{Named, net_text}
use Rattle.bb_spell.specs.Canonical.{with_feed}
use Rattle.bb_spell.specs.TextLines.{is_line_byte}
use Rattle.bb_canon.specs.Sections.{declares, states_gate, clocks, NoneFirst}
use Rattle.bb_spell.specs.Lines.{declaration_of, statement_of, flop_of, FlopLine}
use Rattle.bb_canon.specs.Toward.{IsDrawn, IsDeclared}

-- the line says this item: it has no line feed within, begins as one of its kind, and is read so
pub record Says {A X : Type 0} (test : List ℕ → Bool) (read : List ℕ → Option A) (means : X → A → Type 0) (x : X) (line : List ℕ) : Type 0 where
  pub clean : list_all is_line_byte line ≡ true
  pub passes : test line ≡ true
  pub item : A
  pub reads : read line ≡ Some item
  pub is : means x item

-- the lines say these items, one by one
abbrev pub SayAll : {X : Type 0} → (X → List ℕ → Type 0) → List X → List (List ℕ) → Type 0
SayAll says [] [] = Unit {0}
SayAll says (x ∷ xs) (line ∷ lines) = says x line × SayAll says xs lines
SayAll says [] (line ∷ lines) = ⊥
SayAll says (x ∷ xs) [] = ⊥

-- the text has lines that say these items, and then others
pub record Along {X : Type 0} (says : X → List ℕ → Type 0) (test : List ℕ → Bool) (text : List ℕ) (items : List X) (others : List (List ℕ)) : Type 0 where
  pub lines : List (List ℕ)
  pub all : SayAll says items lines
  pub stops : NoneFirst test others
  pub text_is : text ≡ flat_map with_feed (lines ++ others)

-- the text of the clock's bit
abbrev pub clock_text : Named → Option Bit
clock_text a = option_map (bit_of a.variables) a.clock

-- the line declares the variable
abbrev pub SaysVariable : Entry → List ℕ → Type 0
SaysVariable v line = Says declares declaration_of (λ (w : Entry) said. said ≡ w) v line

-- the line states the gate of a
abbrev pub SaysGate : Named → Gate ℕ → List ℕ → Type 0
SaysGate a g line = Says states_gate statement_of (λ (h : Gate ℕ) said. said ≡ renamed_gate (net_text a) h) g line

-- the line is that of the flip-flop of a
abbrev pub SaysFlop : Named → Flop ℕ → List ℕ → Type 0
SaysFlop a f line = Says clocks flop_of (λ (h : Flop ℕ) (said : FlopLine). (Some said.clock ≡ clock_text a) × (said.flop ≡ renamed_flop (net_text a) h)) f line

-- n is a but for the variables that the text still declares
pub record VariablesLeft (a n : Named) (text : List ℕ) (others : List (List ℕ)) : Type 0 where
  pub left : List Entry
  pub declared : IsDeclared a n left
  pub along : Along SaysVariable declares text left others

-- but for the gates that it still states, and the flip-flops
pub record GatesLeft (a n : Named) (text : List ℕ) (others : List (List ℕ)) : Type 0 where
  pub done : List (Gate ℕ)
  pub left : List (Gate ℕ)
  pub whole : a.netlist.gates ≡ done ++ left
  pub drawn : IsDrawn a n done []
  pub along : Along (SaysGate a) states_gate text left others

-- but for the flip-flops that it still has
pub record FlopsLeft (a n : Named) (text : List ℕ) (others : List (List ℕ)) : Type 0 where
  pub done : List (Flop ℕ)
  pub left : List (Flop ℕ)
  pub whole : a.netlist.flops ≡ done ++ left
  pub drawn : IsDrawn a n a.netlist.gates done
  pub along : Along (SaysFlop a) clocks text left others

-- the first line of a flip-flop among these has this clock, and where there is none, there is no clock
abbrev pub ClockIn : Option Bit → List (List ℕ) → Type 0
ClockIn clock [] = clock ≡ None
ClockIn clock (line ∷ lines) =
    (list_all is_line_byte line ≡ true)
    × (clocks line ≡ true → (said : FlopLine) × (flop_of line ≡ Some said) × (Some said.clock ≡ clock))
    × (clocks line ≡ false → ClockIn clock lines)

-- the text is such lines
pub record ClockLeft (clock : Option Bit) (text : List ℕ) : Type 0 where
  pub lines : List (List ℕ)
  pub within : ClockIn clock lines
  pub text_is : text ≡ flat_map with_feed lines
