-- Variables of a sound module without a fault: names are names, ranges are in bounds, and ports stand first.
use Rattle.std.proofs.Common.{arith, ◌≡◌, ℕ, ◌+◌, ◌-◌, ◌<◌, ◌≤◌, ◌^◌, nat_lt, Bool, true, false, not, ◌&&◌, ◌||◌, cond, List, [], ◌∷◌, ◌++◌, map, length, refl, sym, ap, ◌∙◌, subst, fold, slice_get, append_assoc, append-nil, All}
use Rattle.std.proofs.lemmas.Bool.Decides.{nat_tests}
use Rattle.std.proofs.lemmas.List.Elements.{All-from_recursion}
use Rattle.std.proofs.lemmas.List.Folds.{list_any-append}
use Rattle.std.proofs.lemmas.List.Sums.{fold-append}
use Rattle.std.specs.Prelude.{Option, Some, None, find, flat_map, filter}
use Rattle.std.specs.Option.{option_or, option_map}
use Rattle.std.specs.List.{AllByRecursion, range_with_len}
use Rattle.std.specs.Str.{bytes_eq}
use Rattle.bb_base.specs.Variables.{Entry, IsEntry, IsRange, is_port}
use Rattle.bb_base.specs.declared.variable.Role.TheVariants.{Wire}
use Rattle.bb_base.specs.Name.{IsName}
use Rattle.bb_base.proofs.Lists.{all_join, all_map_back, map_join, get_front, get_back}
use Rattle.bb_parse.specs.declared.syntax.Module.{Module}
use Rattle.bb_parse.specs.declared.syntax.Header.{Header}
use Rattle.bb_parse.specs.declared.syntax.Header.TheVariants.{Plain, Ansi}
use Rattle.bb_parse.specs.declared.syntax.Item.{Item}
use Rattle.bb_parse.specs.declared.syntax.Item.TheVariants as item
use Rattle.bb_parse.specs.declared.syntax.Conns.{Conns}
use Rattle.bb_parse.specs.declared.syntax.Conns.TheVariants.{Places, Pins}
use Rattle.bb_parse.specs.declared.syntax.Decl.{Decl}
use Rattle.bb_parse.specs.declared.syntax.Step.{Step}
use Rattle.bb_parse.specs.declared.syntax.Step.TheVariants as step
use Rattle.bb_parse.specs.Sound.{IsSoundModule, IsSoundHeader, IsSoundItem, IsSoundConns, IsSoundPin, IsSoundValue, IsSoundExpr, IsSoundStep, IsSoundRef, IsSoundDecl}
use Rattle.bb_fault.specs.declared.fault.ElabFault.TheVariants.{BadPort}
use Rattle.bb_fault.specs.Firsts.{on_some, first_behind}
use Rattle.bb_scope.specs.Names.{step_names, steps_names, pin_names, conns_names, item_names, header_names, mentioned, has_name, with_new_name, variable_names, reserved}
use Rattle.bb_scope.specs.Declarations.{header_decls, item_decls, declarations, is_direction, has_direction, is_odd_port, is_stray, bad_port, redeclared}
use Rattle.bb_scope.specs.Variables.{declared_role, declared_range, entry_of, variables}
use Rattle.bb_fault.specs.Limits.{too_many}
use Rattle.bb_scope.specs.Parts.{bad_part, all_bits, too_many_bits, too_many_nets}
use Rattle.bb_scope.specs.Cells.{unknown_cell}
use Rattle.bb_scope.specs.Text.{name_fault, part_fault, text_fault}
use Rattle.bb_drive.specs.Nets.{made_count, is_variable, made_names, made_variable}
use Rattle.bb_base.specs.OwnNames.{made_name}
use Rattle.bb_assemble.specs.Assembling.{ArePortsFirst}
use Rattle.bb_meaning.specs.Outcome.{variables_in, work_in}
use Rattle.bb_scope.proofs.Counting.{module-fresh}
use Rattle.bb_meaning.proofs.Mentioned.{all_added}
use Rattle.bb_fault.proofs.Keys.{same_name}
use Rattle.bb_meaning.proofs.AllItems.{at_item, all_flat, all_take, all_filter, all_range}
use Rattle.bb_fault.proofs.Parted.{none-first, none-second}
use Rattle.bb_base.proofs.OwnNameLemmas.{made_is_name}
use Rattle.bb_net.proofs.CountLemmas.{variables_few}

-- names -----------------------------------------------------------------

-- the names in steps, pins, connections, items and the header of a sound module are names
step_named : (s : Step) → IsSoundStep s → AllByRecursion IsName (step_names s)
step_named (step.Ref r) s = (s.name, tt)
step_named (step.Const size value) s = tt
step_named step.Not s = tt
step_named step.And s = tt
step_named step.Or s = tt
step_named step.Xor s = tt
step_named step.Xnor s = tt
step_named step.Cond s = tt
step_named (step.Join n) s = tt
step_named (step.Repeat n) s = tt

steps_named : (steps : List Step) → IsSoundExpr steps → AllByRecursion IsName (steps_names steps)
steps_named steps s = all_flat IsName IsSoundStep step_names step_named steps s

pin_named : (o : Option (List Step)) → IsSoundValue o → AllByRecursion IsName (pin_names o)
pin_named None s = tt
pin_named (Some steps) s = steps_named steps s

conns_named : (c : Conns) → IsSoundConns c → AllByRecursion IsName (conns_names c)
conns_named (Places terms) s = all_flat IsName IsSoundExpr steps_names steps_named terms s
conns_named (Pins pins) s = all_flat IsName IsSoundPin (λ p. pin_names p.1) (λ p s. pin_named p.1 s.1) pins s

item_named : (i : Item) → IsSoundItem i → AllByRecursion IsName (item_names i)
item_named (item.Decl d) s = (s.name, tt)
item_named (item.Assign line left right) s =
    all_join IsName (map (λ r. r.name) left) (steps_names right) (all_map_back IsName IsSoundRef (λ r. r.name) (λ r s. s.name) left s.0) (steps_named right s.1)
item_named (item.Prim line op terms) s = all_flat IsName IsSoundExpr steps_names steps_named terms s.1
item_named (item.Cell line cell conns) s = conns_named conns s.1

header_named : (h : Header) → IsSoundHeader h → AllByRecursion IsName (header_names h)
header_named (Plain names) s = s
header_named (Ansi decls) s = all_map_back IsName IsSoundDecl (λ d. d.name) (λ d s. s.name) decls s

-- every name that a sound module uses for a variable is a name
mentioned_named : (m : Module) → IsSoundModule m → AllByRecursion IsName (mentioned m)
mentioned_named m s = all_join IsName (header_names m.header) (flat_map item_names m.items) (header_named m.header s.header) (all_flat IsName IsSoundItem item_names item_named m.items s.items)

-- each name once: what holds of all names still does
with_all : (P : List ℕ → Type 0) (names more : List (List ℕ)) → AllByRecursion P names → AllByRecursion P more → AllByRecursion P (fold with_new_name names more)
with_all P names [] all rest = all
with_all P names (m ∷ more) all rest = with_all P (with_new_name names m) more (go (has_name names m)) rest.1
  where
    go : (b : Bool) → AllByRecursion P (cond b names (names ++ m ∷ []))
    go true = all
    go false = all_join P names (m ∷ []) all (rest.0, tt)

-- declarations ------------------------------------------------------------

-- the declarations of a sound module are sound
item_declared : (i : Item) → IsSoundItem i → AllByRecursion IsSoundDecl (item_decls i)
item_declared (item.Decl d) s = (s, tt)
item_declared (item.Assign line left right) s = tt
item_declared (item.Prim line op terms) s = tt
item_declared (item.Cell line cell conns) s = tt

header_declared : (h : Header) → IsSoundHeader h → AllByRecursion IsSoundDecl (header_decls h)
header_declared (Plain names) s = tt
header_declared (Ansi decls) s = s

all_declared : (m : Module) → IsSoundModule m → AllByRecursion IsSoundDecl (declarations m)
all_declared m s = all_join IsSoundDecl (header_decls m.header) (flat_map item_decls m.items) (header_declared m.header s.header) (all_flat IsSoundDecl IsSoundItem item_decls item_declared m.items s.items)

-- so the range of each name is in bounds
range_sound : (decls : List Decl) (name : List ℕ) → AllByRecursion IsSoundDecl decls → IsRange (declared_range decls name)
range_sound [] name all = tt
range_sound (d ∷ decls) name all = go (bytes_eq name d.name) (range_sound decls name all.1)
  where
    go : (b : Bool) → IsRange (declared_range decls name) → IsRange (on_some (cond b (Some d) (find (λ d. bytes_eq name d.name) decls)) None (λ d. d.range))
    go true rest = all.0.range
    go false rest = rest

-- the entries of a sound module's text
entries_sound : (m : Module) → IsSoundModule m → AllByRecursion IsEntry (variables m)
entries_sound m s =
    all_map_back IsEntry IsName (entry_of (declarations m)) (λ name is. record { name = is; range = range_sound (declarations m) name (all_declared m s) }) (variable_names m)
    (with_all IsName [] (mentioned m) tt (mentioned_named m s))

-- made variables ----------------------------------------------------------

-- so many bits at most
few : (own : Bool) (count : ℕ) → too_many own count ≡ None → count ≤ 134217728
few true count h = go (nat_lt 134217728 count) refl h
  where
    go : (b : Bool) → nat_lt 134217728 count ≡ b → too_many true count ≡ None → count ≤ 134217728
    go true e h = absurd (grind (arith, h, e))
    go false e h = grind (arith, nat_tests, e)
few false count h = go (nat_lt 2097152 count) refl h
  where
    go : (b : Bool) → nat_lt 2097152 count ≡ b → too_many false count ≡ None → count ≤ 134217728
    go true e h = absurd (grind (arith, h, e))
    go false e h = grind (arith, nat_tests, e)

-- what a text without a fault keeps to
pub record IsFine (m : Module) : Type 0 where
  pub ports : bad_port m ≡ None
  pub parts : bad_part m ≡ None
  pub bits : all_bits m ≤ 134217728

-- a text without a fault keeps to it
pub fine_text : (own : Bool) (m : Module) → text_fault own m ≡ None → IsFine m
fine_text own m h =
    let names = none-first (name_fault own m) (part_fault own m) h in
    let parts = none-second (name_fault own m) (part_fault own m) h in
    let past = none-second (reserved own m) (option_or (redeclared m) (option_or (bad_port m) (too_many_bits own m))) names in
    let ports = none-second (redeclared m) (option_or (bad_port m) (too_many_bits own m)) past in
    let counted = none-second (unknown_cell m) (option_or (bad_part m) (too_many_nets own m)) parts in
    record {
      ports = none-first (bad_port m) (too_many_bits own m) ports;
      parts = none-first (bad_part m) (too_many_nets own m) counted;
      bits = few own (all_bits m) (none-second (bad_part m) (too_many_nets own m) counted);
    }

-- the entries of made variables
made_sound : (table : List Entry) (count : ℕ) → count + length table < 2 ^ 64 → AllByRecursion IsEntry (map made_variable (made_names table count))
made_sound table count small =
    all_map_back IsEntry IsName made_variable (λ name is. record { name = is; range = tt }) (made_names table count)
    (all_take IsName count (filter (λ n. not (is_variable table n)) (map made_name (range_with_len 0 (count + length table))))
    (all_filter IsName (λ n. not (is_variable table n)) (map made_name (range_with_len 0 (count + length table)))
    (all_range IsName made_name (2 ^ 64) 0 (count + length table) made_is_name (omega (arith, small)))))

-- all variables of a sound module
pub all_entries : (m : Module) → IsSoundModule m → IsFine m → All IsEntry (variables_in m)
all_entries m s fine =
    let small : made_count (variables m) (work_in m) + length (variables m) < 2 ^ 64 = omega (arith, module-fresh m fine.parts, variables_few (variables m), fine.bits) in
    All-from_recursion IsEntry (variables_in m)
    (all_join IsEntry (variables m) (map made_variable (made_names (variables m) (made_count (variables m) (work_in m)))) (entries_sound m s) (made_sound (variables m) (made_count (variables m) (work_in m)) small))

-- ports -------------------------------------------------------------------

-- a name is a port where some declaration gives it a direction
port_of : (decls : List Decl) (name : List ℕ) → is_port (declared_role decls name) ≡ has_direction decls name
port_of [] name = refl
port_of (d ∷ decls) name = go (is_port d.role) refl (bytes_eq name d.name) (port_of decls name)
  where
    go : (p : Bool) → is_port d.role ≡ p → (b : Bool) → is_port (declared_role decls name) ≡ has_direction decls name
        → is_port (on_some (cond (p && b) (Some d) (find (λ d. is_direction d && bytes_eq name d.name) decls)) Wire (λ d. d.role)) ≡ ((p && b) || has_direction decls name)
    go true e true rest = e
    go true e false rest = rest
    go false e b rest = rest

-- in a fine header each name has a direction
directed : (decls : List Decl) (before names : List (List ℕ)) → first_behind (is_odd_port decls) before names ≡ None → AllByRecursion (λ name. has_direction decls name ≡ true) names
directed decls before [] h = tt
directed decls before (n ∷ names) h = go (has_name before n) (has_direction decls n) refl h (directed decls (before ++ n ∷ []) names)
  where
    go : (a b : Bool) → has_direction decls n ≡ b → cond (a || not b) (Some n) (first_behind (is_odd_port decls) (before ++ n ∷ []) names) ≡ None
        → (first_behind (is_odd_port decls) (before ++ n ∷ []) names ≡ None → AllByRecursion (λ name. has_direction decls name ≡ true) names) → AllByRecursion (λ name. has_direction decls name ≡ true) (n ∷ names)
    go true b e none rest = absurd (cc none)
    go false true e none rest = (e, rest none)
    go false false e none rest = absurd (cc none)

-- where no direction is astray, each name with one stands in the header
in_header : (header : List (List ℕ)) (decls : List Decl) (name : List ℕ) → find (is_stray header) decls ≡ None → has_direction decls name ≡ true → has_name header name ≡ true
in_header header [] name none some = absurd (cc some)
in_header header (d ∷ decls) name none some = go (is_direction d) (bytes_eq name d.name) refl (has_name header d.name) refl none some (in_header header decls name)
  where
    go : (p b : Bool) → bytes_eq name d.name ≡ b → (h : Bool) → has_name header d.name ≡ h → cond (p && not h) (Some d) (find (is_stray header) decls) ≡ None → ((p && b) || has_direction decls name) ≡ true
        → (find (is_stray header) decls ≡ None → has_direction decls name ≡ true → has_name header name ≡ true) → has_name header name ≡ true
    go true true e true k none some rest = ap (has_name header) (same_name name d.name e) ∙ k
    go true true e false k none some rest = absurd (cc none)
    go true false e true k none some rest = rest none some
    go true false e false k none some rest = absurd (cc none)
    go false b e h k none some rest = rest none some

-- the names behind others are new
record Behind (names more : List (List ℕ)) : Type 0 where
  extra : List (List ℕ)
  whole : fold with_new_name names more ≡ names ++ extra
  new : AllByRecursion (λ name. has_name names name ≡ false) extra

-- what is not among names and one more is not among them
fewer : (names : List (List ℕ)) (m : List ℕ) (extra : List (List ℕ)) → AllByRecursion (λ name. has_name (names ++ m ∷ []) name ≡ false) extra → AllByRecursion (λ name. has_name names name ≡ false) extra
fewer names m [] all = tt
fewer names m (x ∷ extra) all = (go (has_name names x) (sym (list_any-append (bytes_eq x) names (m ∷ [])) ∙ all.0), fewer names m extra all.1)
  where
    go : (b : Bool) → (b || has_name (m ∷ []) x) ≡ false → b ≡ false
    go true e = e
    go false e = refl

behind : (names more : List (List ℕ)) → Behind names more
behind names [] = record { extra = []; whole = sym (append-nil names); new = tt }
behind names (m ∷ more) = go (has_name names m) refl (behind names more) (behind (names ++ m ∷ []) more)
  where
    go : (b : Bool) → has_name names m ≡ b → Behind names more → Behind (names ++ m ∷ []) more → Behind names (m ∷ more)
    go true e rest other = record { extra = rest.extra; whole = ap (λ b. fold with_new_name (cond b names (names ++ m ∷ [])) more) e ∙ rest.whole; new = rest.new }
    go false e other rest = record {
      extra = m ∷ rest.extra;
      whole = ap (λ b. fold with_new_name (cond b names (names ++ m ∷ [])) more) e ∙ (rest.whole ∙ append_assoc names (m ∷ []) rest.extra);
      new = (e, fewer names m rest.extra rest.new);
    }

abbrev IsPort : Entry → Type 0
IsPort v = is_port v.1.role ≡ true

abbrev IsNoPort : Entry → Type 0
IsNoPort v = is_port v.1.role ≡ false

-- ports in front of other variables
in_front : (xs ys : List Entry) → AllByRecursion IsPort xs → AllByRecursion IsNoPort ys → ArePortsFirst (xs ++ ys)
in_front xs ys ports others i j v w less at there port = by (nat_lt j (length xs)) refl
  where
    by : (b : Bool) → nat_lt j (length xs) ≡ b → is_port v.1.role ≡ true
    by true e =
        let within : i < length xs = grind (arith, nat_tests, e, less) in
        at_item IsPort xs i v ports (sym (get_front xs ys i within) ∙ at)
    by false e =
        let place : length xs + (j - length xs) ≡ j = grind (arith, nat_tests, e) in
        let here : slice_get ys (j - length xs) ≡ Some w = sym (get_back xs ys (j - length xs)) ∙ (ap (slice_get (xs ++ ys)) place ∙ there) in
        absurd (cc (port, at_item IsNoPort ys (j - length xs) w others here))

-- an answer that is none once it is mapped is none
none_mapped : {X Y : Type 0} (f : X → Y) (o : Option X) → option_map f o ≡ None → o ≡ None
none_mapped f None h = refl
none_mapped f (Some x) h = absurd (cc h)

-- the ports of a module without a fault of ports stand first
pub ports_stand_first : (m : Module) → bad_port m ≡ None → ArePortsFirst (variables_in m)
ports_stand_first m fine = subst ArePortsFirst whole (in_front (map (entry_of decls) front) (map (entry_of decls) rest.extra ++ made) ports (all_join IsNoPort (map (entry_of decls) rest.extra) made others wires))
  where
    decls : List Decl
    decls = declarations m

    header : List (List ℕ)
    header = header_names m.header

    front : List (List ℕ)
    front = fold with_new_name [] header

    rest : Behind front (flat_map item_names m.items)
    rest = behind front (flat_map item_names m.items)

    made : List Entry
    made = map made_variable (made_names (variables m) (made_count (variables m) (work_in m)))

    parts : option_or (first_behind (is_odd_port decls) [] header) (option_map (λ d. d.name) (find (is_stray header) decls)) ≡ None
    parts = none_mapped (λ name. BadPort name None) (option_or (first_behind (is_odd_port decls) [] header) (option_map (λ d. d.name) (find (is_stray header) decls))) fine

    even : first_behind (is_odd_port decls) [] header ≡ None
    even = none-first (first_behind (is_odd_port decls) [] header) (option_map (λ d. d.name) (find (is_stray header) decls)) parts

    no_stray : find (is_stray header) decls ≡ None
    no_stray = none_mapped (λ d. d.name) (find (is_stray header) decls) (none-second (first_behind (is_odd_port decls) [] header) (option_map (λ d. d.name) (find (is_stray header) decls)) parts)

    names : variable_names m ≡ front ++ rest.extra
    names = fold-append with_new_name [] header (flat_map item_names m.items) ∙ rest.whole

    whole : map (entry_of decls) front ++ (map (entry_of decls) rest.extra ++ made) ≡ variables_in m
    whole = sym (append_assoc (map (entry_of decls) front) (map (entry_of decls) rest.extra) made) ∙ ap (λ es. es ++ made) (sym (map_join (entry_of decls) front rest.extra) ∙ ap (map (entry_of decls)) (sym names))

    ports : AllByRecursion IsPort (map (entry_of decls) front)
    ports = all_map_back IsPort (λ name. has_direction decls name ≡ true) (entry_of decls) (λ name h. port_of decls name ∙ h) front
        (with_all (λ name. has_direction decls name ≡ true) [] header tt (directed decls [] header even))

    no_direction : (name : List ℕ) → has_name front name ≡ false → is_port (declared_role decls name) ≡ false
    no_direction name new = port_of decls name ∙ go (has_direction decls name) refl
      where
        go : (b : Bool) → has_direction decls name ≡ b → b ≡ false
        go false e = refl
        go true e = sym (all_added [] header name (in_header header decls name no_stray e)) ∙ new

    others : AllByRecursion IsNoPort (map (entry_of decls) rest.extra)
    others = all_map_back IsNoPort (λ name. has_name front name ≡ false) (entry_of decls) no_direction rest.extra rest.new

    all_wires : (names : List (List ℕ)) → AllByRecursion IsNoPort (map made_variable names)
    all_wires [] = tt
    all_wires (n ∷ names) = (refl, all_wires names)

    wires : AllByRecursion IsNoPort made
    wires = all_wires (made_names (variables m) (made_count (variables m) (work_in m)))
