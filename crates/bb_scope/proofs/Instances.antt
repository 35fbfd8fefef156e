-- How many nets an instance of a cell makes.
use Rattle.std.proofs.Common.{arith, ◌≡◌, ℕ, suc, ◌+◌, List, [], ◌∷◌, ◌++◌, length, map, zip, refl, ap, sym, ◌∙◌, Bool, true, false, not, ◌&&◌, ◌||◌, ◌==◌, cond, rules, nat_lt, subst, ◌<◌}
use Rattle.std.specs.Prelude.{Option, Some, None, is_some}
use Rattle.std.specs.Option.{option_or}
use Rattle.std.specs.List.{list_all}
use Rattle.std.specs.Map.{lookup}
use Rattle.std.specs.Str.{bytes_eq}
use Rattle.bb_base.specs.declared.operator.Op.{Op}
use Rattle.bb_base.specs.declared.operator.Op.TheVariants as op
use Rattle.bb_base.specs.Variables.{Entry}
use Rattle.bb_parse.specs.declared.syntax.Conns.{Conns}
use Rattle.bb_parse.specs.declared.syntax.Conns.TheVariants.{Places, Pins}
use Rattle.bb_parse.specs.declared.syntax.Step.{Step}
use Rattle.bb_parse.specs.declared.syntax.Step.TheVariants as step
use Rattle.bb_fault.specs.declared.fault.ElabFault.{ElabFault}
use Rattle.bb_fault.specs.declared.fault.ElabFault.TheVariants.{BadPins}
use Rattle.bb_scope.specs.declared.value.Bit.{Bit}
use Rattle.bb_scope.specs.declared.cells.Body.{Body}
use Rattle.bb_scope.specs.declared.cells.Body.TheVariants.{FlipFlop, Gate, SecondInverted, Choice}
use Rattle.bb_fault.specs.Firsts.{first_answer, first_behind}
use Rattle.bb_scope.specs.Names.{has_name}
use Rattle.bb_scope.specs.Cells.{Kind, kinds, kind_of, Pin, is_plain, by_place, pins_of, is_known, is_repeated, is_given, is_right_out, are_right_pins, are_right_places}
use Rattle.bb_scope.specs.Sizes.{width, last_size, expr_fault, terminal_nets}
use Rattle.bb_scope.specs.Parts.{pin_fault, cell_fault, terms_nets, pins_nets, inner_nets, cell_nets}
use Rattle.bb_fault.specs.Work.{Work, make, make_onto}
use Rattle.bb_scope.specs.Making.{Outs, To, first_out, last_value, steps_made, terminal_made, pins_made, nets_of, Read, out_of, out_net, driven_bits, flip_flop_made, all_nets, gate_made, multiplexer_made, each_choice, body_made, kind_made, cell_made}
use Rattle.bb_scope.specs.ValueSizes.{value_sizes}
use Rattle.bb_base.proofs.Lists.{length_map}
use Rattle.bb_fault.proofs.Keys.{same_name}
use Rattle.bb_fault.proofs.Parted.{both-first, both-second, none-first, none-second}
use Rattle.bb_scope.proofs.Operators.{width_is, grounded-length}
use Rattle.bb_scope.proofs.Expressions.{ref-length, all-counted, terminal-fresh}
use Rattle.bb_scope.proofs.Assigns.{fine-width, plain-nets}

-- terminals

last-width : (stack : List (List Bit)) → length (last_value stack) ≡ width (last_size (value_sizes stack))
last-width [] = refl
last-width (a ∷ rest) = sym (width_is a)

-- a terminal without a fault is one net
pub terminal-length : (table : List Entry) (line : ℕ) (steps : List Step) (w : Work) → expr_fault table line 1 steps ≡ None → length (terminal_made table steps w).0 ≡ 1
terminal-length table line steps w h =
    let made = steps_made table steps [] w in
    grounded-length (last_value made.0) made.1 ∙ (last-width made.0 ∙ (ap (λ z. width (last_size z)) (all-counted table steps [] w).sizes ∙ fine-width table line 1 steps h))

-- and a plain one is one bit
pub plain-bit : (table : List Entry) (line : ℕ) (steps : List Step) → is_plain steps ≡ true → expr_fault table line 1 steps ≡ None → length (driven_bits table steps) ≡ 1
plain-bit table line [] p h = cc
plain-bit table line (step.Ref r ∷ []) p h = ref-length table r ∙ (omega arith ∙ fine-width table line 1 (step.Ref r ∷ []) h)
plain-bit table line (step.Ref r ∷ next ∷ more) p h = cc
plain-bit table line (step.Const n value ∷ ss) p h = cc
plain-bit table line (step.Not ∷ ss) p h = cc
plain-bit table line (step.And ∷ ss) p h = cc
plain-bit table line (step.Or ∷ ss) p h = cc
plain-bit table line (step.Xor ∷ ss) p h = cc
plain-bit table line (step.Xnor ∷ ss) p h = cc
plain-bit table line (step.Cond ∷ ss) p h = cc
plain-bit table line (step.Join n ∷ ss) p h = cc
plain-bit table line (step.Repeat n ∷ ss) p h = cc

-- pins that are read

pub pins-fresh : (table : List Entry) (kind : Kind) (pins : List Pin) (w : Work) → list_all (is_right_out kind) pins ≡ true → (pins_made table kind pins w).1.fresh ≡ w.fresh + pins_nets table pins
pins-fresh table kind [] w h = omega arith
pins-fresh table kind ((name, None) ∷ pins) w h = pins-fresh table kind pins w (both-second (is_right_out kind (name, None)) (list_all (is_right_out kind) pins) h) ∙ omega arith
pins-fresh table kind ((name, Some steps) ∷ pins) w h =
    go (bytes_eq kind.out name) refl (both-first (is_right_out kind (name, Some steps)) (list_all (is_right_out kind) pins) h)
    (pins-fresh table kind pins w (both-second (is_right_out kind (name, Some steps)) (list_all (is_right_out kind) pins) h))
    (pins-fresh table kind pins (terminal_made table steps w).1 (both-second (is_right_out kind (name, Some steps)) (list_all (is_right_out kind) pins) h))
  where
    go : (b : Bool) → bytes_eq kind.out name ≡ b → (not b || is_plain steps) ≡ true
        → (pins_made table kind pins w).1.fresh ≡ w.fresh + pins_nets table pins
        → (pins_made table kind pins (terminal_made table steps w).1).1.fresh ≡ (terminal_made table steps w).1.fresh + pins_nets table pins
        → (cond {A = Work → Read × Work} b (pins_made table kind pins) (λ v. ((name, (terminal_made table steps v).0) ∷ (pins_made table kind pins (terminal_made table steps v).1).0, (pins_made table kind pins (terminal_made table steps v).1).1)) w).1.fresh
        ≡ w.fresh + (terminal_nets table steps + pins_nets table pins)
    go true e p h k = omega (arith, h, plain-nets table steps p)
    go false e p h k = omega (arith, k, terminal-fresh table steps w)

-- the net of a pin that is read
pub apart : (kind : Kind) (name other : List ℕ) → bytes_eq kind.out name ≡ false → bytes_eq kind.out other ≡ true → bytes_eq name other ≡ false
apart kind name other h k = go (bytes_eq name other) refl
  where
    go : (b : Bool) → bytes_eq name other ≡ b → b ≡ false
    go false e = refl
    go true e = sym (ap (bytes_eq kind.out) (same_name name other e) ∙ k) ∙ h

one-net :
    (table : List Entry) (line : ℕ) (kind : Kind) (name : List ℕ) (pins : List Pin) (w : Work) → bytes_eq kind.out name ≡ false → is_given pins name ≡ true → first_answer (pin_fault table line) pins ≡ None
    → length (nets_of (pins_made table kind pins w).0 name) ≡ 1
one-net table line kind name [] w a g f = cc
one-net table line kind name ((n, None) ∷ pins) w a g f = one-net table line kind name pins w a (open_next (bytes_eq name n) g) f
  where
    open_next : (b : Bool) → ((b && false) || is_given pins name) ≡ true → is_given pins name ≡ true
    open_next true h = h
    open_next false h = h
one-net table line kind name ((n, Some steps) ∷ pins) w a g f =
    go (bytes_eq kind.out n) (bytes_eq name n) refl refl g
    (λ h. one-net table line kind name pins w a h (none-second (expr_fault table line 1 steps) (first_answer (pin_fault table line) pins) f))
    (λ h. one-net table line kind name pins (terminal_made table steps w).1 a h (none-second (expr_fault table line 1 steps) (first_answer (pin_fault table line) pins) f))
  where
    go : (b t : Bool) → bytes_eq kind.out n ≡ b → bytes_eq name n ≡ t → ((t && true) || is_given pins name) ≡ true
        → (is_given pins name ≡ true → length (nets_of (pins_made table kind pins w).0 name) ≡ 1)
        → (is_given pins name ≡ true → length (nets_of (pins_made table kind pins (terminal_made table steps w).1).0 name) ≡ 1)
        → length (nets_of (cond {A = Work → Read × Work} b (pins_made table kind pins) (λ v. ((n, (terminal_made table steps v).0) ∷ (pins_made table kind pins (terminal_made table steps v).1).0, (pins_made table kind pins (terminal_made table steps v).1).1)) w).0 name) ≡ 1
    go true true p q k skip more = clash (sym q ∙ apart kind name n a p)
      where
        clash : true ≡ false → length (nets_of (pins_made table kind pins w).0 name) ≡ 1
        clash e = cc
    go true false p q k skip more = skip k
    go false true p q k skip more = ap (λ t. length (cond t (terminal_made table steps w).0 (nets_of (pins_made table kind pins (terminal_made table steps w).1).0 name))) q ∙ terminal-length table line steps w (none-first (expr_fault table line 1 steps) (first_answer (pin_fault table line) pins) f)
    go false false p q k skip more = ap (λ t. length (cond t (terminal_made table steps w).0 (nets_of (pins_made table kind pins (terminal_made table steps w).1).0 name))) q ∙ more k

-- where the output goes

-- a net or none, as a number of nets to make
abbrev pub wanting : Option ℕ → ℕ
wanting None = 1
wanting (Some t) = 0

some-target : (targets : List ℕ) → length targets ≡ 1 → wanting (first_out (To targets)) ≡ 0
some-target [] h = cc
some-target (t ∷ targets) h = refl

out-wanting :
    (table : List Entry) (line : ℕ) (kind : Kind) (pins : List Pin) → list_all (is_right_out kind) pins ≡ true → first_answer (pin_fault table line) pins ≡ None
    → wanting (first_out (out_of table kind pins)) ≡ cond (is_given pins kind.out) 0 1
out-wanting table line kind [] r f = refl
out-wanting table line kind ((n, None) ∷ pins) r f =
    out-wanting table line kind pins (both-second (is_right_out kind (n, None)) (list_all (is_right_out kind) pins) r) f ∙ ap (λ b. cond b 0 1) (sym (open_next (bytes_eq kind.out n)))
  where
    open_next : (b : Bool) → ((b && false) || is_given pins kind.out) ≡ is_given pins kind.out
    open_next true = refl
    open_next false = refl
out-wanting table line kind ((n, Some steps) ∷ pins) r f =
    go (bytes_eq kind.out n) (both-first (is_right_out kind (n, Some steps)) (list_all (is_right_out kind) pins) r)
    (out-wanting table line kind pins (both-second (is_right_out kind (n, Some steps)) (list_all (is_right_out kind) pins) r) (none-second (expr_fault table line 1 steps) (first_answer (pin_fault table line) pins) f))
  where
    go : (b : Bool) → (not b || is_plain steps) ≡ true → wanting (first_out (out_of table kind pins)) ≡ cond (is_given pins kind.out) 0 1
        → wanting (first_out (cond b (To (driven_bits table steps)) (out_of table kind pins))) ≡ cond ((b && true) || is_given pins kind.out) 0 1
    go true p ih = some-target (driven_bits table steps) (plain-bit table line steps p (none-first (expr_fault table line 1 steps) (first_answer (pin_fault table line) pins) f))
    go false p ih = ih

-- bodies

onto-wanting : (o : Op) (ins : List ℕ) (out : Option ℕ) (w : Work) → (make_onto o ins out w).1.fresh ≡ w.fresh + wanting out
onto-wanting o ins None w = omega arith
onto-wanting o ins (Some t) w = omega arith

net-wanting : (out : Option ℕ) (w : Work) → (out_net out w).1.fresh ≡ w.fresh + wanting out
net-wanting None w = omega arith
net-wanting (Some t) w = omega arith

gate-fresh : (o : Op) (outs : Outs) (ins : List ℕ) (w : Work) → (gate_made o outs ins w).1.fresh ≡ w.fresh + wanting (first_out outs)
gate-fresh o outs ins w = onto-wanting o ins (first_out outs) w

register-fresh : (outs : Outs) (a b : List ℕ) (w : Work) → length a ≡ 1 → length b ≡ 1 → (flip_flop_made outs (a ∷ b ∷ []) w).1.fresh ≡ w.fresh + wanting (first_out outs)
register-fresh outs [] b w h k = cc
register-fresh outs (c ∷ a) [] w h k = cc
register-fresh outs (c ∷ a) (d ∷ b) w h k = net-wanting (first_out outs) w

one-choice : (c : List ℕ) (n : ℕ) (xs ys : List ℕ) (outs : Outs) (w : Work) → length xs ≡ 1 → length ys ≡ 1 → (each_choice c n xs ys outs w).1.fresh ≡ w.fresh + (2 + wanting (first_out outs))
one-choice c n [] ys outs w h k = cc
one-choice c n (a ∷ xs) [] outs w h k = cc
one-choice c n (a ∷ []) (b ∷ ys) outs w h k =
    let w1 = make op.And (c ++ a ∷ []) w in
    let w2 = make op.And (n ∷ b ∷ []) w1.1 in
    omega (arith, onto-wanting op.Or (w1.0 ∷ w2.0 ∷ []) (first_out outs) w2.1)
one-choice c n (a ∷ x ∷ xs) (b ∷ ys) outs w h k = absurd (omega (arith, h))

choice-fresh : (outs : Outs) (a b s : List ℕ) (w : Work) → length a ≡ 1 → length b ≡ 1 → (multiplexer_made outs (a ∷ b ∷ s ∷ []) w).1.fresh ≡ w.fresh + (3 + wanting (first_out outs))
choice-fresh outs a b s w h k = let n = make op.Not s w in omega (arith, one-choice s n.0 b a outs n.1 k h)

-- the table's rows

-- as many inputs as the body takes
abbrev pub takes : Body → ℕ → Bool
takes FlipFlop n = n == 2
takes (Gate o) n = true
takes (SecondInverted o) n = n == 2
takes Choice n = n == 3

abbrev pub no_place : List (List ℕ) → Bool
no_place [] = true
no_place (p ∷ ps) = false

-- what holds of each row
pub record IsRow (kind : Kind) : Type 0 where
  pub count : takes kind.body (length kind.ins) ≡ true
  pub apart : list_all (λ n. not (bytes_eq kind.out n)) kind.ins ≡ true
  pub placed : (no_place kind.places || list_all (has_name kind.places) (kind.out ∷ kind.ins)) ≡ true

abbrev pub AllRows : List (List ℕ × Kind) → Type 0
AllRows [] = Unit {0}
AllRows (r ∷ rows) = IsRow r.1 × AllRows rows

pub all_rows : AllRows kinds
all_rows =
    (record { count = refl; apart = refl; placed = refl }, (record { count = refl; apart = refl; placed = refl }, (record { count = refl; apart = refl; placed = refl }, (record { count = refl; apart = refl; placed = refl }, (record { count = refl; apart = refl; placed = refl }, (record { count = refl; apart = refl; placed = refl }, (record { count = refl; apart = refl; placed = refl }, (record { count = refl; apart = refl; placed = refl }, (record { count = refl; apart = refl; placed = refl }, (record { count = refl; apart = refl; placed = refl }, (record { count = refl; apart = refl; placed = refl }, (record { count = refl; apart = refl; placed = refl }, (record { count = refl; apart = refl; placed = refl }, tt)))))))))))))

pub row_of : (test : List ℕ → Bool) (rows : List (List ℕ × Kind)) (kind : Kind) → AllRows rows → lookup test rows ≡ Some kind → IsRow kind
row_of test [] kind h e = cc
row_of test (r ∷ rows) kind h e = go (test r.0) e (row_of test rows kind h.1)
  where
    same : (a b : Kind) → Some a ≡ Some b → a ≡ b
    same a b e = cc

    go : (b : Bool) → cond b (Some r.1) (lookup test rows) ≡ Some kind → (lookup test rows ≡ Some kind → IsRow kind) → IsRow kind
    go true e rest = subst IsRow (same r.1 kind e) h.0
    go false e rest = rest e

-- instances

inputs-apart : (kind : Kind) (names : List (List ℕ)) (n : List ℕ) → list_all (λ n. not (bytes_eq kind.out n)) names ≡ true → has_name names n ≡ true → bytes_eq kind.out n ≡ false
inputs-apart kind [] n h k = cc
inputs-apart kind (m ∷ names) n h k = go (bytes_eq n m) (bytes_eq kind.out m) refl refl h k (inputs-apart kind names n)
  where
    go : (b c : Bool) → bytes_eq n m ≡ b → bytes_eq kind.out m ≡ c → (not c && list_all (λ n. not (bytes_eq kind.out n)) names) ≡ true → (b || has_name names n) ≡ true
        → (list_all (λ n. not (bytes_eq kind.out n)) names ≡ true → has_name names n ≡ true → bytes_eq kind.out n ≡ false) → bytes_eq kind.out n ≡ false
    go true false e f h k ih = ap (bytes_eq kind.out) (same_name n m e) ∙ f
    go true true e f h k ih = clash h
      where
        clash : false ≡ true → bytes_eq kind.out n ≡ false
        clash e = cc
    go false false e f h k ih = ih h k
    go false true e f h k ih = clash h
      where
        clash : false ≡ true → bytes_eq kind.out n ≡ false
        clash e = cc

-- the nets of inputs that are given and aren't the output
abbrev pub OneEach : List (List ℕ) → Type 0
OneEach [] = Unit {0}
OneEach (ns ∷ others) = (length ns ≡ 1) × OneEach others

pub one-each :
    (table : List Entry) (line : ℕ) (kind : Kind) (pins : List Pin) (w : Work) (names : List (List ℕ)) → list_all (λ n. not (bytes_eq kind.out n)) names ≡ true → list_all (is_given pins) names ≡ true
    → first_answer (pin_fault table line) pins ≡ None → OneEach (map (nets_of (pins_made table kind pins w).0) names)
one-each table line kind pins w [] a g f = tt
one-each table line kind pins w (n ∷ names) a g f = (
  one-net table line kind n pins w (negated (bytes_eq kind.out n) (both-first (not (bytes_eq kind.out n)) (list_all (λ n. not (bytes_eq kind.out n)) names) a)) (both-first (is_given pins n) (list_all (is_given pins) names) g) f,
  one-each table line kind pins w names (both-second (not (bytes_eq kind.out n)) (list_all (λ n. not (bytes_eq kind.out n)) names) a) (both-second (is_given pins n) (list_all (is_given pins) names) g) f,
)
  where
    negated : (b : Bool) → not b ≡ true → b ≡ false
    negated true h = cc
    negated false h = refl

body-fresh : (body : Body) (outs : Outs) (ins : List (List ℕ)) (w : Work) → takes body (length ins) ≡ true → OneEach ins → (body_made body outs ins w).1.fresh ≡ w.fresh + (inner_nets body + wanting (first_out outs))
body-fresh FlipFlop outs [] w t h = cc
body-fresh FlipFlop outs (a ∷ []) w t h = cc
body-fresh FlipFlop outs (a ∷ b ∷ []) w t h = omega (arith, register-fresh outs a b w h.0 h.1.0)
body-fresh FlipFlop outs (a ∷ b ∷ c ∷ more) w t h = absurd (too_many (length more) (search (rules, t)))
  where
    too_many : (n : ℕ) → suc (suc (suc n)) ≡ 2 → ⊥
    too_many n e = omega (arith, e)
body-fresh (Gate o) outs ins w t h = omega (arith, gate-fresh o outs (all_nets ins) w)
body-fresh (SecondInverted o) outs [] w t h = cc
body-fresh (SecondInverted o) outs (a ∷ []) w t h = cc
body-fresh (SecondInverted o) outs (a ∷ b ∷ others) w t h = let n = make op.Not b w in omega (arith, gate-fresh o outs (a ++ n.0 ∷ []) n.1)
body-fresh Choice outs [] w t h = cc
body-fresh Choice outs (a ∷ []) w t h = cc
body-fresh Choice outs (a ∷ b ∷ []) w t h = cc
body-fresh Choice outs (a ∷ b ∷ s ∷ []) w t h = omega (arith, choice-fresh outs a b s w h.0 h.1.0)
body-fresh Choice outs (a ∷ b ∷ s ∷ x ∷ more) w t h = absurd (too_many (length more) (search (rules, t)))
  where
    too_many : (n : ℕ) → suc (suc (suc (suc n))) ≡ 3 → ⊥
    too_many n e = omega (arith, e)

-- an instance by the names of its pins
by-pins :
    (table : List Entry) (line : ℕ) (kind : Kind) (pins : List Pin) (w : Work) → IsRow kind → list_all (is_right_out kind) pins ≡ true → list_all (is_given pins) kind.ins ≡ true
    → first_answer (pin_fault table line) pins ≡ None → (kind_made table kind pins w).1.fresh ≡ w.fresh + (pins_nets table pins + inner_nets kind.body + cond (is_given pins kind.out) 0 1)
by-pins table line kind pins w row r g f =
    let made = pins_made table kind pins w in
    let ins = map (nets_of made.0) kind.ins in
    let count : takes kind.body (length ins) ≡ true = ap (takes kind.body) (length_map (nets_of made.0) kind.ins) ∙ row.count in
    let body = body-fresh kind.body (out_of table kind pins) ins made.1 count (one-each table line kind pins w kind.ins row.apart g f) in
    omega (arith, pins-fresh table kind pins w r, body, out-wanting table line kind pins r f)

-- terminals in order are pins by name

placed-nets : (table : List Entry) (names : List (List ℕ)) (terms : List (List Step)) → length terms ≡ length names → pins_nets table (zip names (map (λ e. Some e) terms)) ≡ terms_nets table terms
placed-nets table [] [] h = refl
placed-nets table [] (e ∷ terms) h = cc
placed-nets table (n ∷ names) [] h = cc
placed-nets table (n ∷ names) (e ∷ terms) h = ap (λ z. terminal_nets table e + z) (placed-nets table names terms (omega (arith, h)))

pub placed-fault :
    (table : List Entry) (line : ℕ) (names : List (List ℕ)) (terms : List (List Step)) → length terms ≡ length names
    → first_answer (pin_fault table line) (zip names (map (λ e. Some e) terms)) ≡ first_answer (expr_fault table line 1) terms
placed-fault table line [] [] h = refl
placed-fault table line [] (e ∷ terms) h = cc
placed-fault table line (n ∷ names) [] h = cc
placed-fault table line (n ∷ names) (e ∷ terms) h = ap (λ z. option_or (expr_fault table line 1 e) z) (placed-fault table line names terms (omega (arith, h)))

placed-given : (names : List (List ℕ)) (terms : List (List Step)) (n : List ℕ) → length terms ≡ length names → has_name names n ≡ true → is_given (zip names (map (λ e. Some e) terms)) n ≡ true
placed-given [] terms n h k = cc
placed-given (m ∷ names) [] n h k = cc
placed-given (m ∷ names) (e ∷ terms) n h k = go (bytes_eq n m) k (placed-given names terms n (omega (arith, h)))
  where
    go : (b : Bool) → (b || has_name names n) ≡ true → (has_name names n ≡ true → is_given (zip names (map (λ e. Some e) terms)) n ≡ true) → ((b && true) || is_given (zip names (map (λ e. Some e) terms)) n) ≡ true
    go true k ih = refl
    go false k ih = ih k

pub placed-all : (places names : List (List ℕ)) (terms : List (List Step)) → length terms ≡ length places → list_all (has_name places) names ≡ true → list_all (is_given (zip places (map (λ e. Some e) terms))) names ≡ true
placed-all places [] terms h k = refl
placed-all places (n ∷ names) terms h k =
    (λ i. placed-given places terms n h (both-first (has_name places n) (list_all (has_name places) names) k) i && list_all (is_given (zip places (map (λ e. Some e) terms))) names)
    ∙ placed-all places names terms h (both-second (has_name places n) (list_all (has_name places) names) k)

-- a kind that may be connected in order has all its pins among its places
pub some-place : (places : List (List ℕ)) (b : Bool) (n : ℕ) → nat_lt 0 n ≡ true → n ≡ length places → (no_place places || b) ≡ true → b ≡ true
some-place [] b n h e k = absurd (omega (arith, less 0 n h, e))
  where
    less : (a b : ℕ) → nat_lt a b ≡ true → a < b
    less a b h = search (rules, h)
some-place (p ∷ places) b n h e k = k

by-places :
    (table : List Entry) (line : ℕ) (kind : Kind) (terms : List (List Step)) (w : Work) → IsRow kind → are_right_places kind terms ≡ true → first_answer (expr_fault table line 1) terms ≡ None
    → (kind_made table kind (by_place kind terms) w).1.fresh ≡ w.fresh + (terms_nets table terms + inner_nets kind.body + 0)
by-places table line kind terms w row r f =
    let rest = both-second (nat_lt 0 (length terms)) ((length terms == length kind.places) && list_all (is_right_out kind) (by_place kind terms)) r in
    let some = both-first (nat_lt 0 (length terms)) ((length terms == length kind.places) && list_all (is_right_out kind) (by_place kind terms)) r in
    let same : length terms ≡ length kind.places = equal (length terms) (length kind.places) (both-first (length terms == length kind.places) (list_all (is_right_out kind) (by_place kind terms)) rest) in
    let outs = both-second (length terms == length kind.places) (list_all (is_right_out kind) (by_place kind terms)) rest in
    let among = some-place kind.places (list_all (has_name kind.places) (kind.out ∷ kind.ins)) (length terms) some same row.placed in
    let given = placed-all kind.places (kind.out ∷ kind.ins) terms same among in
    let out : is_given (by_place kind terms) kind.out ≡ true = both-first (is_given (by_place kind terms) kind.out) (list_all (is_given (by_place kind terms)) kind.ins) given in
    let ins = both-second (is_given (by_place kind terms) kind.out) (list_all (is_given (by_place kind terms)) kind.ins) given in
    by-pins table line kind (by_place kind terms) w row outs ins (placed-fault table line kind.places terms same ∙ f)
    ∙ (λ i. w.fresh + (placed-nets table kind.places terms same i + inner_nets kind.body + cond (out i) 0 1))
  where
    equal : (a b : ℕ) → (a == b) ≡ true → a ≡ b
    equal a b h = search (rules, h)

pub right-conns : (line : ℕ) (b : Bool) (f : Option ElabFault) → cond b f (Some (BadPins line)) ≡ None → b ≡ true
right-conns line true f h = refl
right-conns line false f h = cc

pub fine-conns : (line : ℕ) (b : Bool) (f : Option ElabFault) → cond b f (Some (BadPins line)) ≡ None → f ≡ None
fine-conns line true f h = h
fine-conns line false f h = cc

known-fresh :
    (table : List Entry) (line : ℕ) (kind : Kind) (conns : Conns) (w : Work) → IsRow kind → cell_fault table line (Some kind) conns ≡ None
    → (kind_made table kind (pins_of kind conns) w).1.fresh ≡ w.fresh + cell_nets table (Some kind) conns
known-fresh table line kind (Places terms) w row f =
    by-places table line kind terms w row (right-conns line (are_right_places kind terms) (first_answer (expr_fault table line 1) terms) f) (fine-conns line (are_right_places kind terms) (first_answer (expr_fault table line 1) terms) f)
known-fresh table line kind (Pins pins) w row f =
    let right = right-conns line (are_right_pins kind pins) (first_answer (pin_fault table line) pins) f in
    let two = both-second (list_all (is_known kind) pins) (not (is_some (first_behind is_repeated [] pins)) && (list_all (is_given pins) kind.ins && list_all (is_right_out kind) pins)) right in
    let three = both-second (not (is_some (first_behind is_repeated [] pins))) (list_all (is_given pins) kind.ins && list_all (is_right_out kind) pins) two in
    by-pins table line kind pins w row (both-second (list_all (is_given pins) kind.ins) (list_all (is_right_out kind) pins) three) (both-first (list_all (is_given pins) kind.ins) (list_all (is_right_out kind) pins) three)
    (fine-conns line (are_right_pins kind pins) (first_answer (pin_fault table line) pins) f)

-- an instance without a fault makes the nets that are counted
pub cell-fresh :
    (table : List Entry) (line : ℕ) (name : List ℕ) (conns : Conns) (w : Work) → cell_fault table line (kind_of name) conns ≡ None
    → (cell_made table (kind_of name) conns w).1.fresh ≡ w.fresh + cell_nets table (kind_of name) conns
cell-fresh table line name conns w f = go (kind_of name) refl f
  where
    go : (k : Option Kind) → kind_of name ≡ k → cell_fault table line k conns ≡ None → (cell_made table k conns w).1.fresh ≡ w.fresh + cell_nets table k conns
    go None e f = omega arith
    go (Some kind) e f = known-fresh table line kind conns w (row_of (bytes_eq name) kinds kind all_rows e) f
