-- No two variables of the written netlist have one name, and all of them can stand together.
use Rattle.std.proofs.Common.{arith, ◌≡◌, ◌≢◌, ℕ, ◌+◌, ◌-◌, ◌<◌, ◌≤◌, ◌^◌, nat_lt, ◌==◌, ◌&&◌, List, [], ◌∷◌, ◌++◌, map, take, drop, length, AllPairs, codes, Bool, true, false, Option, Some, None, slice_get, slice_index, refl, sym, ap, subst, ◌∙◌, append_assoc, take-append-drop}
use Rattle.std.proofs.lemmas.Bool.Decides.{nat_tests}
use Rattle.std.proofs.lemmas.Option.{slice_get_within}
use Rattle.std.proofs.lemmas.List.Elements.{All-from_recursion, recursion_from_All}
use Rattle.std.specs.List.{AllByRecursion}
use Rattle.bb_base.specs.declared.variable.Role.{Role}
use Rattle.bb_base.specs.declared.variable.Role.TheVariants.{Input, Output, Wire as WireRole}
use Rattle.bb_base.specs.declared.variable.BitName.{BitName}
use Rattle.bb_base.specs.OwnNames.{is_reserved, made_name}
use Rattle.bb_base.specs.Variables.{Entry, IsEntry, is_port, bit_count, ports_of}
use Rattle.bb_base.proofs.Contained.{by_place, at_place}
use Rattle.bb_base.proofs.Distinct.{Distinct}
use Rattle.bb_base.proofs.Lists.{all_front, all_back, all_join, get_front, get_back}
use Rattle.bb_base.specs.Named.{Named, IsNamed}
use Rattle.bb_base.specs.Building.{net_limit}
use Rattle.bb_netlist.proofs.Sorting.{Ascends, pairs_ascend, ascend_pairs}
use Rattle.bb_terms.specs.declared.wire.Wire.{Wire}
use Rattle.bb_terms.specs.declared.wire.Wire.TheVariants.{Kept, Test, Init, So, Done, NotInit, NotTest, Go, NotGo, Parity, Low, Feed, Word, WordNext, Wrap, Phase, PhaseTurned, PhaseNext, Advance, NotAdvance, Ring, RingKept, RingMoved, RingOr, RingNext, NotOver, Live, NotPhase, Running, Shifting, On, Compacts, Latches, Takes, Off, Codes, Feedback, Signed, Carried, First, Line, Chain, Code, Coded, Next, InTest, InNormal, Read, Held}
use Rattle.bb_terms.specs.Wires.{symbol_name, IsAdded}
use Rattle.bb_ctl.proofs.Names.{names_differ, added_reserved, never_made}
use Rattle.bb_lay.proofs.NameLemmas.{name_is, clock_is_name}
use Rattle.bb_written.specs.Written.{is_inner, scalar_entry, added_clock, added_ports, inner_entry}
use Rattle.bb_ctl.specs.OwnNames.{IsOwnName}
use Rattle.bb_lay.specs.Laying.{CanStand}
use Rattle.bb_lay.proofs.Ascending.{ascends_join, weaker}
use Rattle.bb_lay.proofs.Clocks.{PortsFirst, port_at, wire_at, front_long}
use Rattle.bb_lay.proofs.Standing.{bits_join}

-- the added clock's name is no other one
abbrev like_clock : List ℕ → Bool
like_clock text = (slice_index text 3 == 99) && (slice_index text 4 == 108)

not_clock : (w : Wire) → IsAdded w → like_clock (symbol_name w) ≡ false
not_clock (Kept net) h = absurd h
not_clock Test h = refl
not_clock Init h = refl
not_clock So h = refl
not_clock Done h = refl
not_clock NotInit h = refl
not_clock NotTest h = refl
not_clock Go h = refl
not_clock NotGo h = refl
not_clock Parity h = refl
not_clock Low h = refl
not_clock Feed h = refl
not_clock (Word i) h = refl
not_clock (WordNext i) h = refl
not_clock Wrap h = refl
not_clock Phase h = refl
not_clock PhaseTurned h = refl
not_clock PhaseNext h = refl
not_clock Advance h = refl
not_clock NotAdvance h = refl
not_clock (Ring i) h = refl
not_clock (RingKept i) h = refl
not_clock (RingMoved i) h = refl
not_clock (RingOr i) h = refl
not_clock (RingNext i) h = refl
not_clock NotOver h = refl
not_clock Live h = refl
not_clock NotPhase h = refl
not_clock Running h = refl
not_clock Shifting h = refl
not_clock (On i) h = refl
not_clock (Compacts i) h = refl
not_clock (Latches i) h = refl
not_clock (Takes i) h = refl
not_clock (Off i) h = refl
not_clock (Codes i) h = refl
not_clock (Feedback i) h = refl
not_clock (Signed i) h = refl
not_clock (Carried i) h = refl
not_clock (First i) h = refl
not_clock (Line i) h = refl
not_clock (Chain i) h = refl
not_clock (Code i) h = refl
not_clock (Coded i) h = refl
not_clock (Next i) h = refl
not_clock (InTest i) h = refl
not_clock (InNormal i) h = refl
not_clock (Read i) h = refl
not_clock (Held i) h = refl

-- a name that no text's variable has
record Fresh (name : List ℕ) : Type 0 where
  reserved : is_reserved name ≡ true
  never : (k : ℕ) → k < 2 ^ 32 → name ≡ made_name k → ⊥

abbrev Differ : Entry → Entry → Type 0
Differ v w = v.0 ≢ w.0

fresh_wire : (w : Wire) → IsAdded w → Fresh (symbol_name w)
fresh_wire w h = record { reserved = added_reserved w h; never = λ k small e. never_made w k h small e }

fresh_clock : Fresh (codes "bt_clk")
fresh_clock = record { reserved = refl; never = λ k small e. absurd (cc (ap like_clock e)) }

own_apart : (x name : List ℕ) → IsOwnName x → Fresh name → x ≢ name
own_apart x name own fresh e = let made = own (ap is_reserved e ∙ fresh.reserved) in fresh.never made.0 made.1 (sym e ∙ made.2)

apart_own : (x name : List ℕ) → IsOwnName x → Fresh name → name ≢ x
apart_own x name own fresh e = own_apart x name own fresh (sym e)

-- an added net that is no port
abbrev IsInner : Wire → Type 0
IsInner w = IsAdded w × (is_inner w ≡ true)

ascends_split : (R : Entry → Entry → Type 0) (xs ys : List Entry) → Ascends R (xs ++ ys) → Ascends R xs × Ascends R ys × AllByRecursion (λ x. AllByRecursion (R x) ys) xs
ascends_split R [] ys h = (tt, h, tt)
ascends_split R (x ∷ xs) ys h = let rest = ascends_split R xs ys h.1 in ((all_front (R x) xs ys h.0, rest.0), rest.1, (all_back (R x) xs ys h.0, rest.2))

-- facts of each item of a list beside each of another
crossed : (R : Entry → Entry → Type 0) (P Q : Entry → Type 0) → ((v w : Entry) → P v → Q w → R v w) → (xs ys : List Entry) → AllByRecursion P xs → AllByRecursion Q ys → AllByRecursion (λ x. AllByRecursion (R x) ys) xs
crossed R P Q f [] ys h k = tt
crossed R P Q f (x ∷ xs) ys h k = (weaker Q (R x) (λ w q. f x w h.0 q) ys k, crossed R P Q f xs ys h.1 k)

-- the variables of inner wires
abbrev IsInnerEntry : Entry → Type 0
IsInnerEntry e = (w : Wire) × IsInner w × (e ≡ inner_entry w)

inner_entries : (ws : List Wire) → AllByRecursion IsInner ws → AllByRecursion IsInnerEntry (map inner_entry ws)
inner_entries [] h = tt
inner_entries (w ∷ ws) h = ((w, h.0, refl), inner_entries ws h.1)

inner_apart : (ws : List Wire) → AllByRecursion IsInner ws → Distinct ws → Ascends Differ (map inner_entry ws)
inner_apart [] h d = tt
inner_apart (w ∷ ws) h d = (each ws h.1 d.0, inner_apart ws h.1 d.1)
  where
    each : (vs : List Wire) → AllByRecursion IsInner vs → AllByRecursion (λ v. v ≢ w) vs → AllByRecursion (Differ (inner_entry w)) (map inner_entry vs)
    each [] k e = tt
    each (v ∷ vs) k e = ((λ same. e.0 (sym (names_differ w v h.0.0 k.0.0 same))), each vs k.1 e.1)

abbrev FreshEntry : Entry → Type 0
FreshEntry e = Fresh e.0

inner_fresh : (e : Entry) → IsInnerEntry e → FreshEntry e
inner_fresh e h = subst FreshEntry (sym h.2) (fresh_wire h.0 h.1.0)

port_wire : (w v : Wire) → IsAdded w → is_inner w ≡ false → IsInner v → symbol_name w ≢ symbol_name v
port_wire w v h outer k e = let same = names_differ w v h k.0 e in cc (sym outer ∙ ap is_inner same ∙ k.1)

two_wires : (w v : Wire) → IsAdded w → IsAdded v → (w ≡ v → ⊥) → symbol_name w ≢ symbol_name v
two_wires w v h k apart e = apart (names_differ w v h k e)

-- the added ports' names differ from each other and from the others
abbrev IsPortEntry : Entry → Type 0
IsPortEntry e = (w : Wire) × IsAdded w × (is_inner w ≡ false) × (e.0 ≡ symbol_name w)

ports_are : AllByRecursion IsPortEntry added_ports
ports_are = ((Test, tt, refl, refl), ((Init, tt, refl, refl), ((So, tt, refl, refl), ((Done, tt, refl, refl), tt))))

ports_apart : Ascends Differ added_ports
ports_apart = (
  ((λ e. cc (two Test Init tt tt e)), ((λ e. cc (two Test So tt tt e)), ((λ e. cc (two Test Done tt tt e)), tt))),
  (((λ e. cc (two Init So tt tt e)), ((λ e. cc (two Init Done tt tt e)), tt)), (((λ e. cc (two So Done tt tt e)), tt), (tt, tt))),
)
  where
    two : (w v : Wire) → IsAdded w → IsAdded v → symbol_name w ≡ symbol_name v → w ≡ v
    two w v h k e = names_differ w v h k e

-- the name of the added clock
abbrev IsClockEntry : Entry → Type 0
IsClockEntry e = e ≡ scalar_entry Input (codes "bt_clk")

clock_are : (o : Option BitName) → AllByRecursion IsClockEntry (added_clock o)
clock_are None = (refl, tt)
clock_are (Some c) = tt

clock_apart : (o : Option BitName) → Ascends Differ (added_clock o)
clock_apart None = (tt, tt)
clock_apart (Some c) = tt

clock_wire : (w : Wire) → IsAdded w → codes "bt_clk" ≢ symbol_name w
clock_wire w h e = cc (sym (not_clock w h) ∙ sym (ap like_clock e))

abbrev IsPort : Entry → Type 0
IsPort v = is_port v.1.role ≡ true

abbrev IsWire : Entry → Type 0
IsWire v = is_port v.1.role ≡ false

module _ (a : Named) (ws : List Wire) (named : IsNamed a) (own : AllByRecursion (λ (v : Entry). IsOwnName v.0) a.variables) (inner : AllByRecursion IsInner ws) (distinct : Distinct ws) where
  abbrev n : ℕ
  n = ports_of a.variables

  abbrev front : List Entry
  front = take n a.variables

  abbrev back : List Entry
  back = drop n a.variables

  abbrev clk : List Entry
  clk = added_clock a.clock

  abbrev ins : List Entry
  ins = map inner_entry ws

  whole : front ++ back ≡ a.variables
  whole = take-append-drop n a.variables

  parts : Ascends Differ front × Ascends Differ back × AllByRecursion (λ x. AllByRecursion (Differ x) back) front
  parts = ascends_split Differ front back (subst (Ascends Differ) (sym whole) (pairs_ascend Differ a.variables named.apart))

  abbrev Own : Entry → Type 0
  Own v = IsOwnName v.0

  own_parts : AllByRecursion Own (front ++ back)
  own_parts = subst (AllByRecursion Own) (sym whole) own

  own_front : AllByRecursion Own front
  own_front = all_front Own front back own_parts

  own_back : AllByRecursion Own back
  own_back = all_back Own front back own_parts

  ins_are : AllByRecursion IsInnerEntry ins
  ins_are = inner_entries ws inner

  last_apart : Ascends Differ (back ++ ins)
  last_apart = ascends_join Differ back ins parts.1 (inner_apart ws inner distinct) (crossed Differ Own IsInnerEntry (λ v w o i. own_apart v.0 w.0 o (inner_fresh w i)) back ins own_back ins_are)

  ports_last : AllByRecursion (λ x. AllByRecursion (Differ x) (back ++ ins)) added_ports
  ports_last = weaker (λ x. AllByRecursion (Differ x) back × AllByRecursion (Differ x) ins) (λ x. AllByRecursion (Differ x) (back ++ ins)) (λ x k. all_join (Differ x) back ins k.0 k.1) added_ports
      (both added_ports
      (crossed Differ IsPortEntry Own (λ v w p o. apart_own w.0 v.0 o (subst Fresh (sym p.3) (fresh_wire p.0 p.1))) added_ports back ports_are own_back)
      (crossed Differ IsPortEntry IsInnerEntry (λ v w p i e. port_wire p.0 i.0 p.1 p.2 i.1 (sym p.3 ∙ e ∙ ap (λ (k : Entry). k.0) i.2)) added_ports ins ports_are ins_are))
    where
      both : (xs : List Entry) → AllByRecursion (λ x. AllByRecursion (Differ x) back) xs → AllByRecursion (λ x. AllByRecursion (Differ x) ins) xs → AllByRecursion (λ x. AllByRecursion (Differ x) back × AllByRecursion (Differ x) ins) xs
      both [] h k = tt
      both (x ∷ xs) h k = ((h.0, k.0), both xs h.1 k.1)

  middle_apart : Ascends Differ (added_ports ++ (back ++ ins))
  middle_apart = ascends_join Differ added_ports (back ++ ins) ports_apart last_apart ports_last

  clock_rest : AllByRecursion (Differ (scalar_entry Input (codes "bt_clk"))) (added_ports ++ (back ++ ins))
  clock_rest =
      all_join (Differ (scalar_entry Input (codes "bt_clk"))) added_ports (back ++ ins)
      (weaker IsPortEntry (Differ (scalar_entry Input (codes "bt_clk"))) (λ w p e. clock_wire p.0 p.1 (e ∙ p.3)) added_ports ports_are)
      (all_join (Differ (scalar_entry Input (codes "bt_clk"))) back ins (weaker Own (Differ (scalar_entry Input (codes "bt_clk"))) (λ w o. apart_own w.0 (codes "bt_clk") o fresh_clock) back own_back)
      (weaker IsInnerEntry (Differ (scalar_entry Input (codes "bt_clk"))) (λ w i e. clock_wire i.0 i.1.0 (e ∙ ap (λ (k : Entry). k.0) i.2)) ins ins_are))

  added_apart : Ascends Differ (clk ++ (added_ports ++ (back ++ ins)))
  added_apart = by a.clock
    where
      by : (o : Option BitName) → Ascends Differ (added_clock o ++ (added_ports ++ (back ++ ins)))
      by None = (clock_rest, middle_apart)
      by (Some c) = middle_apart

  front_added : AllByRecursion (λ x. AllByRecursion (Differ x) (clk ++ (added_ports ++ (back ++ ins)))) front
  front_added = join front own_front parts.2
    where
      clock_part : (x : Entry) → Own x → (o : Option BitName) → AllByRecursion (Differ x) (added_clock o)
      clock_part x h None = (own_apart x.0 (codes "bt_clk") h fresh_clock, tt)
      clock_part x h (Some c) = tt

      join : (xs : List Entry) → AllByRecursion Own xs → AllByRecursion (λ x. AllByRecursion (Differ x) back) xs → AllByRecursion (λ x. AllByRecursion (Differ x) (clk ++ (added_ports ++ (back ++ ins)))) xs
      join [] h k = tt
      join (x ∷ xs) h k = (
        all_join (Differ x) clk (added_ports ++ (back ++ ins)) (clock_part x h.0 a.clock)
            (all_join (Differ x) added_ports (back ++ ins) (weaker IsPortEntry (Differ x) (λ w p. own_apart x.0 w.0 h.0 (subst Fresh (sym p.3) (fresh_wire p.0 p.1))) added_ports ports_are)
            (all_join (Differ x) back ins k.0 (weaker IsInnerEntry (Differ x) (λ w i. own_apart x.0 w.0 h.0 (inner_fresh w i)) ins ins_are))),
        join xs h.1 k.1,
      )

  abbrev all : List Entry
  all = front ++ (clk ++ (added_ports ++ (back ++ ins)))

  apart : AllPairs Differ all
  apart = ascend_pairs Differ all (ascends_join Differ front (clk ++ (added_ports ++ (back ++ ins))) parts.0 added_apart front_added)

  -- each is an entry
  entries : AllByRecursion IsEntry all
  entries =
      let both = subst (AllByRecursion IsEntry) (sym whole) (recursion_from_All IsEntry a.variables named.consistent.entries) in
      all_join IsEntry front (clk ++ (added_ports ++ (back ++ ins))) (all_front IsEntry front back both)
      (all_join IsEntry clk (added_ports ++ (back ++ ins)) (clock_entry a.clock)
      (all_join IsEntry added_ports (back ++ ins) ports_entries (all_join IsEntry back ins (all_back IsEntry front back both) (inner_are ws inner))))
    where
      one : (role : Role) (w : Wire) → IsAdded w → IsEntry (scalar_entry role (symbol_name w))
      one role w h = record { name = name_is w h; range = tt }

      ports_entries : AllByRecursion IsEntry added_ports
      ports_entries = (one Input Test tt, (one Input Init tt, (one Output So tt, (one Output Done tt, tt))))

      clock_entry : (o : Option BitName) → AllByRecursion IsEntry (added_clock o)
      clock_entry None = (record { name = clock_is_name; range = tt }, tt)
      clock_entry (Some c) = tt

      inner_are : (vs : List Wire) → AllByRecursion IsInner vs → AllByRecursion IsEntry (map inner_entry vs)
      inner_are [] h = tt
      inner_are (v ∷ vs) h = (one WireRole v h.0.0, inner_are vs h.1)

  -- ports stand before wires
  ports_first : PortsFirst all
  ports_first = subst PortsFirst three (joined (front ++ (clk ++ added_ports)) (back ++ ins)
      (all_join IsPort front (clk ++ added_ports) (by_place IsPort front (λ i v at. let less = slice_get_within front i v at in port_at a.variables named.consistent.ports_first i v (ap (λ vs. slice_get vs i) (sym whole) ∙ get_front front back i less ∙ at) (omega (arith, less, front_long a.variables))))
      (all_join IsPort clk added_ports (clock_port a.clock) (refl, (refl, (refl, (refl, tt))))))
      (all_join IsWire back ins (by_place IsWire back (λ i v at. wire_at a.variables named.consistent.ports_first (n + i) v (back_at i v at) (omega arith))) (inner_wires_are ws)))
    where
      three : (front ++ (clk ++ added_ports)) ++ (back ++ ins) ≡ all
      three = append_assoc front (clk ++ added_ports) (back ++ ins) ∙ ap (λ vs. front ++ vs) (append_assoc clk added_ports (back ++ ins))

      back_at : (i : ℕ) (v : Entry) → slice_get back i ≡ Some v → slice_get a.variables (n + i) ≡ Some v
      back_at i v at =
          let place : n + i ≡ length front + i = omega (arith, front_long a.variables) in
          ap (λ vs. slice_get vs (n + i)) (sym whole) ∙ ap (slice_get (front ++ back)) place ∙ get_back front back i ∙ at

      clock_port : (o : Option BitName) → AllByRecursion IsPort (added_clock o)
      clock_port None = (refl, tt)
      clock_port (Some c) = tt

      inner_wires_are : (vs : List Wire) → AllByRecursion IsWire (map inner_entry vs)
      inner_wires_are [] = tt
      inner_wires_are (v ∷ vs) = (refl, inner_wires_are vs)

      joined : (xs ys : List Entry) → AllByRecursion IsPort xs → AllByRecursion IsWire ys → PortsFirst (xs ++ ys)
      joined xs ys h k i j v w less a b port = by (nat_lt j (length xs)) refl
        where
          by : (t : Bool) → nat_lt j (length xs) ≡ t → is_port v.1.role ≡ true
          by true t =
              let low : j < length xs = grind (arith, nat_tests, t) in
              at_place IsPort xs i v h (sym (get_front xs ys i (omega (arith, less, low))) ∙ a)
          by false t =
              let high : length xs ≤ j = grind (arith, nat_tests, t) in
              let place : j ≡ length xs + (j - length xs) = omega (arith, high) in
              let wire = at_place IsWire ys (j - length xs) w k (sym (ap (slice_get (xs ++ ys)) place ∙ get_back xs ys (j - length xs)) ∙ b) in
              absurd (cc (sym port ∙ wire))

  -- so they can stand together, where they have few bits
  pub all_stand : bit_count a.variables + 5 + length ws ≤ net_limit → CanStand all
  all_stand few = record {
    entries = All-from_recursion IsEntry all entries;
    apart = apart;
    ports_first = ports_first;
    few = omega (arith, few, all_bits);
  }
    where
      ones : (vs : List Wire) → bit_count (map inner_entry vs) ≡ length vs
      ones [] = refl
      ones (v ∷ vs) = omega (arith, ones vs)

      clock_bits : (o : Option BitName) → bit_count (added_clock o) ≤ 1
      clock_bits None = omega arith
      clock_bits (Some c) = omega arith

      all_bits : bit_count all ≤ bit_count a.variables + 5 + length ws
      all_bits = omega (arith, bits_join front (clk ++ (added_ports ++ (back ++ ins))), bits_join clk (added_ports ++ (back ++ ins)), bits_join added_ports (back ++ ins), bits_join back ins, bits_join front back, ap bit_count whole, ones ws, clock_bits a.clock)
