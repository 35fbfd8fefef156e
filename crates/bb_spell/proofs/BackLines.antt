-- What is read is spelled so: whole lines.
use Rattle.std.proofs.Common.{◌≡◌, ℕ, ◌+◌, zero, suc, List, [], ◌∷◌, ◌++◌, length, drop, codes, map, decimal, Option, Some, None, true, is_some, inl, inr, refl, sym, ap, ◌∙◌, append_assoc, subst}
use Rattle.std.proofs.lemmas.List.{take-append-drop}
use Rattle.std.specs.List.{prefix_len, AllByRecursion, flat_map}
use Rattle.std.specs.Str.{bytes_eq}
use Rattle.bb_base.specs.declared.operator.Op.{Op}
use Rattle.bb_base.specs.declared.operator.Op.TheVariants.{Zero, One}
use Rattle.bb_base.specs.declared.variable.Role.{Role}
use Rattle.bb_base.specs.declared.variable.Role.TheVariants.{Input, Output, Wire}
use Rattle.bb_base.specs.Name.{IsName}
use Rattle.bb_base.specs.Net.{Gate, Flop}
use Rattle.bb_base.specs.Variables.{Entry, Bit}
use Rattle.bb_base.specs.Words.{is_word_byte}
use Rattle.bb_spell.specs.Spelling.{spelled_name, spelled_bit, spelled_range, further, joined, module_line, role_word, declaration, op_word, constant_line, primitive_line, statement_by, pins, flop_line}
use Rattle.bb_spell.specs.Writable.{IsBitText}
use Rattle.bb_spell.specs.Forms.{MayRead, IsHeadLine, IsDeclarationLine, IsGateLine, IsFlopLine, LeadsFromFlops, LeadsFromGates, Leads}
use Rattle.bb_spell.specs.Front.{begins_with, after_mark, word_of, after_word, front_name, front_bit, front_range}
use Rattle.bb_spell.specs.Lines.{word_role, declaration_of, operators, op_in, op_of, front_bits, with_front, primitive_of, constant_op, constant_of, statement_of, FlopLine, flop_pins}
use Rattle.bb_spell.specs.Places.{after_names, after_ports, head_of, counted_of, after_flops, after_gates, after_declarations, stage_after}
use Rattle.bb_spell.specs.declared.places.Stage.{Stage}
use Rattle.bb_spell.specs.declared.places.Stage.TheVariants.{Head, Declarations, Gates, Flops, End}
use Rattle.bb_spell.proofs.Shorter.{bind_some, found_same}
use Rattle.bb_spell.proofs.Back.{Back, same_bytes, begins_back, mark_back, some_same, end_back, choice_told, name_back, bit_back, range_back}

-- bits
abbrev more_bits : List Bit → List ℕ
more_bits bits = flat_map further (map spelled_bit bits)

front_back : (front bits : List Bit) (o : Option (List Bit × List ℕ)) (rest : List ℕ) → with_front front o ≡ Some (bits, rest) → (more : List Bit) × (o ≡ Some (more, rest)) × (front ++ more ≡ bits)
front_back front bits None rest h = cc
front_back front bits (Some r) rest h =
    let same = found_same (front ++ r.0) bits r.1 rest h in
    (r.0, ap (λ z. Some (r.0, z)) same.1, same.0)

no_bits : (bytes : List ℕ) (bits : List Bit) (rest : List ℕ) → ◌≡◌ {A = Option (List Bit × List ℕ)} (Some ([], bytes)) (Some (bits, rest)) → Back (AllByRecursion IsBitText) more_bits bytes bits rest
no_bits bytes bits rest h =
    let same = found_same [] bits bytes rest h in
    let none : Back (AllByRecursion IsBitText) more_bits bytes [] rest = record { ok = tt; is = same.1 } in
    subst (λ z. Back (AllByRecursion IsBitText) more_bits bytes z rest) same.0 none

one_bit : (bytes rest mid : List ℕ) (b : Bit) (more bits : List Bit) → bytes ≡ codes ", " ++ drop 2 bytes → Back IsBitText spelled_bit (drop 2 bytes) b mid → Back (AllByRecursion IsBitText) more_bits mid more rest → b ∷ more ≡ bits → Back (AllByRecursion IsBitText) more_bits bytes bits rest
one_bit bytes rest mid b more bits s one others same =
    let found : Back (AllByRecursion IsBitText) more_bits bytes (b ∷ more) rest = record {
      ok = (one.ok, others.ok);
      is = s ∙ ap (λ z. codes ", " ++ z) (one.is ∙ ap (λ z. spelled_bit b ++ z) others.is ∙ sym (append_assoc (spelled_bit b) (more_bits more) rest));
    } in
    subst (λ z. Back (AllByRecursion IsBitText) more_bits bytes z rest) same found

bits_back : (most : ℕ) (bytes : List ℕ) (bits : List Bit) (rest : List ℕ) → front_bits most bytes ≡ Some (bits, rest) → Back (AllByRecursion IsBitText) more_bits bytes bits rest
unfolding front_bits
bits_back zero bytes bits rest h = no_bits bytes bits rest h
bits_back (suc most) bytes bits rest h =
    choice_told {A = List Bit × List ℕ} (begins_with (codes ", ") bytes) _ (Some ([], bytes)) (bits, rest) (Back (AllByRecursion IsBitText) more_bits bytes bits rest) (λ b e.
    let m = bind_some (front_bit (drop 2 bytes)) _ (bits, rest) e in
    let w = front_back (m.0.0 ∷ []) bits (front_bits most m.0.1) rest m.2 in
    one_bit bytes rest m.0.1 m.0.0 w.0 bits (begins_back (codes ", ") bytes b) (bit_back (drop 2 bytes) m.0.0 m.0.1 m.1) (bits_back most m.0.1 w.0 rest w.1) w.2) (λ b e. no_bits bytes bits rest e) h

-- names
record Names (spell : List (List ℕ) → List ℕ) (bytes rest : List ℕ) : Type 0 where
  names : List (List ℕ)
  ok : AllByRecursion IsName names
  is : bytes ≡ spell names ++ rest

abbrev more_names : List (List ℕ) → List ℕ
more_names names = flat_map further (map spelled_name names)

names_back : (most : ℕ) (bytes rest : List ℕ) → after_names most bytes ≡ Some rest → Names more_names bytes rest
unfolding after_names
names_back zero bytes rest h = record { names = []; ok = tt; is = some_same bytes rest h }
names_back (suc most) bytes rest h =
    choice_told {A = List ℕ} (begins_with (codes ", ") bytes) _ (Some bytes) rest (Names more_names bytes rest) (λ b e.
    let m = bind_some (front_name (drop 2 bytes)) _ rest e in
    let one = name_back (drop 2 bytes) m.0.0 m.0.1 m.1 in
    let others = names_back most m.0.1 rest m.2 in
    record {
      names = m.0.0 ∷ others.names;
      ok = (one.ok, others.ok);
      is = begins_back (codes ", ") bytes b ∙ ap (λ z. codes ", " ++ z) (one.is ∙ ap (λ z. spelled_name m.0.0 ++ z) others.is ∙ sym (append_assoc (spelled_name m.0.0) (more_names others.names) rest));
    }) (λ b e. record { names = []; ok = tt; is = some_same bytes rest e }) h

abbrev all_names : List (List ℕ) → List ℕ
all_names names = joined (map spelled_name names)

ports_back : (bytes rest : List ℕ) → after_ports bytes ≡ Some rest → Names all_names bytes rest
unfolding after_ports
ports_back bytes rest h =
    choice_told {A = List ℕ} (begins_with (codes ")") bytes) (Some bytes) _ rest (Names all_names bytes rest) (λ b e. record { names = []; ok = tt; is = some_same bytes rest e }) (λ b e.
    let m = bind_some (front_name bytes) _ rest e in
    let one = name_back bytes m.0.0 m.0.1 m.1 in
    let others = names_back (length m.0.1) m.0.1 rest m.2 in
    record { names = m.0.0 ∷ others.names; ok = (one.ok, others.ok); is = one.is ∙ ap (λ z. spelled_name m.0.0 ++ z) others.is ∙ sym (append_assoc (spelled_name m.0.0) (more_names others.names) rest) }) h

-- the first line
head_back : (line name : List ℕ) → head_of line ≡ Some name → IsHeadLine line
unfolding head_of
head_back line name h =
    let a = bind_some (after_mark (codes "module ") line) _ name h in
    let n = bind_some (front_name a.0) _ name a.2 in
    let b = bind_some (after_mark (codes " (") n.0.1) _ name n.2 in
    let r = bind_some (after_ports b.0) _ name b.2 in
    let end = end_back n.0.0 (codes ");") r.0 name r.2 in
    let named = name_back a.0 n.0.0 n.0.1 n.1 in
    let ports = ports_back b.0 r.0 r.1 in
    let inside : b.0 ≡ all_names ports.names ++ codes ");" = ports.is ∙ ap (λ z. all_names ports.names ++ z) end.1 in
    let behind : n.0.1 ≡ codes " (" ++ (all_names ports.names ++ codes ");") = mark_back (codes " (") n.0.1 b.0 b.1 ∙ ap (λ z. codes " (" ++ z) inside in
    let whole : line ≡ module_line n.0.0 ports.names = mark_back (codes "module ") line a.0 a.1 ∙ ap (λ z. codes "module " ++ z) (named.is ∙ ap (λ z. spelled_name n.0.0 ++ z) behind) in
    (n.0.0, ports.names, named.ok, ports.ok, whole)

-- declarations
word_parts : (line : List ℕ) → line ≡ word_of line ++ after_word line
word_parts line = sym (take-append-drop (prefix_len is_word_byte line) line)

role_back : (word : List ℕ) (role : Role) → word_role word ≡ Some role → word ≡ role_word role
unfolding word_role
role_back word role h =
    choice_told {A = Role} (bytes_eq word (codes "input")) (Some Input) _ role (word ≡ role_word role) (λ b e. same_bytes word (codes "input") b ∙ ap role_word (some_same Input role e)) (λ b e.
    choice_told {A = Role} (bytes_eq word (codes "output")) (Some Output) _ role (word ≡ role_word role) (λ c f. same_bytes word (codes "output") c ∙ ap role_word (some_same Output role f)) (λ c f.
    choice_told {A = Role} (bytes_eq word (codes "wire")) (Some Wire) None role (word ≡ role_word role) (λ d g. same_bytes word (codes "wire") d ∙ ap role_word (some_same Wire role g)) (λ d g. cc) f) e) h

declaration_back : (line : List ℕ) (v : Entry) → declaration_of line ≡ Some v → IsDeclarationLine line
unfolding declaration_of
declaration_back line v h =
    let r = bind_some (word_role (word_of line)) _ v h in
    let g = bind_some (front_range (after_word line)) _ v r.2 in
    let a = bind_some (after_mark (codes " ") g.0.1) _ v g.2 in
    let n = bind_some (front_name a.0) _ v a.2 in
    let read : Entry = (n.0.0, record { range = g.0.0; role = r.0 }) in
    let end = end_back read (codes ";") n.0.1 v n.2 in
    let word : word_of line ≡ role_word r.0 = role_back (word_of line) r.0 r.1 in
    let range = range_back (after_word line) g.0.0 g.0.1 g.1 in
    let named = name_back a.0 n.0.0 n.0.1 n.1 in
    let behind : g.0.1 ≡ codes " " ++ (spelled_name n.0.0 ++ codes ";") = mark_back (codes " ") g.0.1 a.0 a.1 ∙ ap (λ z. codes " " ++ z) (named.is ∙ ap (λ z. spelled_name n.0.0 ++ z) end.1) in
    let tail : after_word line ≡ spelled_range g.0.0 ++ (codes " " ++ (spelled_name n.0.0 ++ codes ";")) = range.is ∙ ap (λ z. spelled_range g.0.0 ++ z) behind in
    let whole : line ≡ declaration read = word_parts line ∙ (λ i. word i ++ tail i) in
    (read, record { name = named.ok; range = range.ok }, whole)

-- gates
abbrev IsKeyed : Op → Type 0
IsKeyed op = (out : Bit) (ins : List Bit) → (statement_by op out ins ≡ primitive_line op out ins) × MayRead op ins

abbrev Fits : List ℕ × Op → Type 0
Fits e = (e.0 ≡ op_word e.1) × IsKeyed e.1

table_back : (es : List (List ℕ × Op)) → AllByRecursion Fits es → (word : List ℕ) (op : Op) → op_in es word ≡ Some op → (word ≡ op_word op) × IsKeyed op
table_back [] all word op h = cc
table_back (e ∷ es) all word op h =
    choice_told {A = Op} (bytes_eq word e.0) (Some e.1) (op_in es word) op ((word ≡ op_word op) × IsKeyed op) (λ b k.
    let same : e.1 ≡ op = some_same e.1 op k in
    (same_bytes word e.0 b ∙ all.0.0 ∙ ap op_word same, subst IsKeyed same all.0.1)) (λ b k. table_back es all.1 word op k) h

op_back : (word : List ℕ) (op : Op) → op_of word ≡ Some op → (word ≡ op_word op) × IsKeyed op
unfolding op_of
op_back word op h =
    let keyed : AllByRecursion Fits operators =
    ((refl, λ out ins. (refl, tt)), ((refl, λ out ins. (refl, tt)), ((refl, λ out ins. (refl, tt)), ((refl, λ out ins. (refl, tt)), ((refl, λ out ins. (refl, tt)), ((refl, λ out ins. (refl, tt)), ((refl, λ out ins. (refl, tt)), ((refl, λ out ins. (refl, tt)), tt)))))))) in
    table_back operators keyed word op h

-- the line is this word and what is read behind it
primitive_back : (line : List ℕ) (op : Op) (g : Gate Bit) → word_of line ≡ op_word op → IsKeyed op → primitive_of op (after_word line) ≡ Some g → IsGateLine line
unfolding primitive_of
primitive_back line op g word keyed h =
    let a = bind_some (after_mark (codes " (") (after_word line)) _ g h in
    let o = bind_some (front_bit a.0) _ g a.2 in
    let is = bind_some (front_bits (length o.0.1) o.0.1) _ g o.2 in
    let read : Gate Bit = record { op = op; out = o.0.0; ins = is.0.0 } in
    let end = end_back read (codes ");") is.0.1 g is.2 in
    let out = bit_back a.0 o.0.0 o.0.1 o.1 in
    let ins = bits_back (length o.0.1) o.0.1 is.0.0 is.0.1 is.1 in
    let behind : o.0.1 ≡ more_bits is.0.0 ++ codes ");" = ins.is ∙ ap (λ z. more_bits is.0.0 ++ z) end.1 in
    let tail : after_word line ≡ codes " (" ++ (spelled_bit o.0.0 ++ (more_bits is.0.0 ++ codes ");")) = mark_back (codes " (") (after_word line) a.0 a.1 ∙ ap (λ z. codes " (" ++ z) (out.is ∙ ap (λ z. spelled_bit o.0.0 ++ z) behind) in
    let plain : line ≡ primitive_line op o.0.0 is.0.0 = word_parts line ∙ (λ i. word i ++ tail i) in
    let k = keyed o.0.0 is.0.0 in
    (read, record { out = out.ok; ins = ins.ok; reads = k.1 }, plain ∙ sym k.0)

-- a constant's digit, and its statement
abbrev IsConstant : Op → List ℕ → Type 0
IsConstant op bytes = (digit : List ℕ) × (bytes ≡ digit ++ codes ";") × ((out : Bit) → (statement_by op out [] ≡ constant_line out digit) × MayRead op [])

constant_op_back : (bytes : List ℕ) (op : Op) → constant_op bytes ≡ Some op → IsConstant op bytes
unfolding constant_op
constant_op_back bytes op h =
    choice_told {A = Op} (bytes_eq bytes (codes "0;")) (Some Zero) _ op (IsConstant op bytes) (λ b e. subst (λ z. IsConstant z bytes) (some_same Zero op e) (codes "0", same_bytes bytes (codes "0;") b, λ out. (refl, refl))) (λ b e.
    choice_told {A = Op} (bytes_eq bytes (codes "1;")) (Some One) None op (IsConstant op bytes) (λ c f. subst (λ z. IsConstant z bytes) (some_same One op f) (codes "1", same_bytes bytes (codes "1;") c, λ out. (refl, refl))) (λ c f. cc) e) h

constant_back : (line : List ℕ) (g : Gate Bit) → word_of line ≡ codes "assign" → constant_of (after_word line) ≡ Some g → IsGateLine line
unfolding constant_of
constant_back line g word h =
    let a = bind_some (after_mark (codes " ") (after_word line)) _ g h in
    let o = bind_some (front_bit a.0) _ g a.2 in
    let e = bind_some (after_mark (codes " = 1'b") o.0.1) _ g o.2 in
    let c = bind_some (constant_op e.0) _ g e.2 in
    let read : Gate Bit = record { op = c.0; out = o.0.0; ins = [] } in
    let out = bit_back a.0 o.0.0 o.0.1 o.1 in
    let k = constant_op_back e.0 c.0 c.1 in
    let behind : o.0.1 ≡ codes " = 1'b" ++ (k.0 ++ codes ";") = mark_back (codes " = 1'b") o.0.1 e.0 e.1 ∙ ap (λ z. codes " = 1'b" ++ z) k.1 in
    let tail : after_word line ≡ codes " " ++ (spelled_bit o.0.0 ++ (codes " = 1'b" ++ (k.0 ++ codes ";"))) = mark_back (codes " ") (after_word line) a.0 a.1 ∙ ap (λ z. codes " " ++ z) (out.is ∙ ap (λ z. spelled_bit o.0.0 ++ z) behind) in
    let plain : line ≡ constant_line o.0.0 k.0 = word_parts line ∙ (λ i. word i ++ tail i) in
    let same = k.2 o.0.0 in
    (read, record { out = out.ok; ins = tt; reads = same.1 }, plain ∙ sym same.0)

statement_back : (line : List ℕ) (g : Gate Bit) → statement_of line ≡ Some g → IsGateLine line
unfolding statement_of
statement_back line g h =
    choice_told {A = Gate Bit} (bytes_eq (word_of line) (codes "assign")) (constant_of (after_word line)) _ g (IsGateLine line) (λ b e. constant_back line g (same_bytes (word_of line) (codes "assign") b) e) (λ b e.
    let o = bind_some (op_of (word_of line)) _ g e in
    let k = op_back (word_of line) o.0 o.1 in
    primitive_back line o.0 g k.0 k.1 o.2) h

-- flip-flops
counted_back : (count : ℕ) (line : List ℕ) (i : FlopLine) → counted_of count line ≡ Some i → IsFlopLine count line
unfolding counted_of flop_pins
counted_back count line i h =
    let a = bind_some (after_mark (codes "dff bt_f") line) _ i h in
    let p = bind_some (after_mark (decimal count) a.0) _ i a.2 in
    let one = bind_some (after_mark (codes " (") p.0) _ i p.2 in
    let c = bind_some (front_bit one.0) _ i one.2 in
    let two = bind_some (after_mark (codes ", ") c.0.1) _ i c.2 in
    let q = bind_some (front_bit two.0) _ i two.2 in
    let three = bind_some (after_mark (codes ", ") q.0.1) _ i q.2 in
    let d = bind_some (front_bit three.0) _ i three.2 in
    let f : Flop Bit = record { q = q.0.0; d = d.0.0 } in
    let read : FlopLine = record { number = 0; clock = c.0.0; flop = f } in
    let end = end_back read (codes ");") d.0.1 i d.2 in
    let of_c = bit_back one.0 c.0.0 c.0.1 c.1 in
    let of_q = bit_back two.0 q.0.0 q.0.1 q.1 in
    let of_d = bit_back three.0 d.0.0 d.0.1 d.1 in
    let last : q.0.1 ≡ codes ", " ++ (spelled_bit d.0.0 ++ codes ");") = mark_back (codes ", ") q.0.1 three.0 three.1 ∙ ap (λ z. codes ", " ++ z) (of_d.is ∙ ap (λ z. spelled_bit d.0.0 ++ z) end.1) in
    let middle : c.0.1 ≡ codes ", " ++ (spelled_bit q.0.0 ++ (codes ", " ++ (spelled_bit d.0.0 ++ codes ");"))) = mark_back (codes ", ") c.0.1 two.0 two.1 ∙ ap (λ z. codes ", " ++ z) (of_q.is ∙ ap (λ z. spelled_bit q.0.0 ++ z) last) in
    let joined_pins : p.0 ≡ pins (Some c.0.0) f = mark_back (codes " (") p.0 one.0 one.1 ∙ ap (λ z. codes " (" ++ z) (of_c.is ∙ ap (λ z. spelled_bit c.0.0 ++ z) middle) in
    let whole : line ≡ flop_line (Some c.0.0) count f = mark_back (codes "dff bt_f") line a.0 a.1 ∙ ap (λ z. codes "dff bt_f" ++ z) (mark_back (decimal count) a.0 p.0 p.1 ∙ ap (λ z. decimal count ++ z) joined_pins) in
    (c.0.0, f, of_c.ok, record { q = of_q.ok; d = of_d.ok }, whole)

-- the stage that a line leads to
flops_lead : (count : ℕ) (line : List ℕ) (to : Stage) → after_flops count line ≡ Some to → LeadsFromFlops count line to
unfolding after_flops
flops_lead count line to h =
    choice_told {A = Stage} (bytes_eq line (codes "endmodule")) (Some End) _ to (LeadsFromFlops count line to) (λ b e. inr (sym (some_same End to e), same_bytes line (codes "endmodule") b)) (λ b e.
    let f = bind_some (counted_of count line) _ to e in
    inl (sym (some_same (Flops (count + 1)) to f.2), counted_back count line f.0 f.1)) h

given : {A : Type 0} (o : Option A) → is_some o ≡ true → (x : A) × (o ≡ Some x)
given None h = cc
given (Some x) h = (x, refl)

gates_lead : (line : List ℕ) (to : Stage) → after_gates line ≡ Some to → LeadsFromGates line to
unfolding after_gates
gates_lead line to h =
    choice_told {A = Stage} (is_some (statement_of line)) (Some Gates) (after_flops 0 line) to (LeadsFromGates line to) (λ b e.
    let g = given (statement_of line) b in
    inl (sym (some_same Gates to e), statement_back line g.0 g.1)) (λ b e. inr (flops_lead 0 line to e)) h

declarations_lead : (line : List ℕ) (to : Stage) → after_declarations line ≡ Some to → Leads Declarations line to
unfolding after_declarations
declarations_lead line to h =
    choice_told {A = Stage} (is_some (declaration_of line)) (Some Declarations) (after_gates line) to (Leads Declarations line to) (λ b e.
    let v = given (declaration_of line) b in
    inl (sym (some_same Declarations to e), declaration_back line v.0 v.1)) (λ b e. inr (gates_lead line to e)) h

pub stage_leads : (from to : Stage) (line : List ℕ) → stage_after from line ≡ Some to → Leads from line to
stage_leads Head to line h =
    let n = bind_some (head_of line) (λ (name : List ℕ). Some Declarations) to h in
    (sym (some_same Declarations to n.2), head_back line n.0 n.1)
stage_leads Declarations to line h = declarations_lead line to h
stage_leads Gates to line h = gates_lead line to h
stage_leads (Flops count) to line h = flops_lead count line to h
stage_leads End to line h = cc
