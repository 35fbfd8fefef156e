-- What is spelled is read: whole lines.
use Rattle.std.proofs.Common.{◌≡◌, ℕ, ◌≤◌, ◌<◌, zero, suc, List, [], ◌∷◌, ◌++◌, length, drop, map, codes, decimal, Option, Some, None, true, false, refl, sym, ap, ◌∙◌, arith, append_assoc, length-append}
use Rattle.std.specs.List.{prefix_len, AllByRecursion, flat_map}
use Rattle.std.specs.Str.{bytes_eq}
use Rattle.bb_base.specs.declared.operator.Op.{Op}
use Rattle.bb_base.specs.declared.operator.Op.TheVariants.{And, Nand, Or, Nor, Xor, Xnor, Not, Buf, Zero, One}
use Rattle.bb_base.specs.declared.variable.Role.{Role}
use Rattle.bb_base.specs.declared.variable.Role.TheVariants.{Input, Output, Wire}
use Rattle.bb_base.specs.Name.{IsName}
use Rattle.bb_base.specs.Net.{Gate, Flop}
use Rattle.bb_base.specs.Operators.{IsArity}
use Rattle.bb_base.specs.Variables.{Entry, Bit, IsEntry, IsRange}
use Rattle.bb_base.specs.Words.{is_word_byte}
use Rattle.bb_spell.specs.Spelling.{spelled_name, spelled_bit, further, joined, module_line, role_word, spelled_range, declaration, constant_line, primitive_line, statement_by, gate_line, pins, flop_line}
use Rattle.bb_spell.specs.Front.{◌>>=◌, begins_with, after_mark, word_of, after_word, front_name, index_limit, number_below, front_bit, front_range}
use Rattle.bb_spell.specs.Lines.{head_name, word_role, declaration_of, op_of, front_bits, primitive_of, constant_op, constant_of, statement_of, FlopLine, flop_pins, flop_of, with_front}
pub use Rattle.bb_spell.specs.Writable.{IsFlopText}
use Rattle.bb_spell.specs.Forms.{MayRead}
use Rattle.bb_spell.proofs.Again.{Pass, front_join, back_join, name_again, number_again, bit_again, Ends, plain_start}
use Rattle.bb_spell.specs.Writable.{IsBitText, IsGateText}
use Rattle.bb_spell.proofs.MoreBits.{bits_end, bits_one}

-- the first line
module_found : (line name_from rest name : List ℕ) → after_mark (codes "module ") line ≡ Some name_from → front_name name_from ≡ Some (name, rest) → head_name line ≡ Some name
unfolding head_name
module_found line name_from rest name a b = rw (a, b) refl

pub module_again : (name : List ℕ) (ports : List (List ℕ)) → IsName name → head_name (module_line name ports) ≡ Some name
module_again name ports h =
    let rest : List ℕ = codes " (" ++ (joined (map spelled_name ports) ++ codes ");") in
    module_found (module_line name ports) (spelled_name name ++ rest) rest name refl (name_again name rest h refl)

-- declarations
role_again : (r : Role) → word_role (role_word r) ≡ Some r
unfolding word_role
role_again Input = refl
role_again Output = refl
role_again Wire = refl

role_passes : (r : Role) → Pass is_word_byte (role_word r)
role_passes Input = (refl, (refl, (refl, (refl, (refl, tt)))))
role_passes Output = (refl, (refl, (refl, (refl, (refl, (refl, tt))))))
role_passes Wire = (refl, (refl, (refl, (refl, tt))))

range_stops : (r : Option (ℕ × ℕ)) (rest : List ℕ) → prefix_len is_word_byte (spelled_range r ++ (32 ∷ rest)) ≡ 0
range_stops None rest = refl
range_stops (Some r) rest = refl

no_range : (bytes : List ℕ) → begins_with (codes " [") bytes ≡ false → front_range bytes ≡ Some (None, bytes)
unfolding front_range
no_range bytes h = rw h refl

range_found : (bytes one two three rest : List ℕ) (left right : ℕ) → begins_with (codes " [") bytes ≡ true → number_below index_limit (drop 2 bytes) ≡ Some (left, one) → after_mark (codes ":") one ≡ Some two → number_below index_limit two ≡ Some (right, three) → after_mark (codes "]") three ≡ Some rest
    → front_range bytes ≡ Some (Some (left, right), rest)
unfolding front_range
range_found bytes one two three rest left right a b c d e = rw (a, b, c, d, e) refl

range_again : (r : Option (ℕ × ℕ)) (rest : List ℕ) → IsRange r → begins_with (codes " [") rest ≡ false → front_range (spelled_range r ++ rest) ≡ Some (r, rest)
range_again None rest h e = no_range rest e
range_again (Some r) rest h e =
    let three : List ℕ = 93 ∷ rest in
    let two : List ℕ = (decimal r.1 ++ codes "]") ++ rest in
    let one : List ℕ = 58 ∷ two in
    let left : number_below index_limit ((decimal r.0 ++ (codes ":" ++ (decimal r.1 ++ codes "]"))) ++ rest) ≡ Some (r.0, one) = ap (number_below index_limit) (append_assoc (decimal r.0) (codes ":" ++ (decimal r.1 ++ codes "]")) rest) ∙ number_again r.0 one h.0 refl in
    let right : number_below index_limit two ≡ Some (r.1, three) = ap (number_below index_limit) (append_assoc (decimal r.1) (codes "]") rest) ∙ number_again r.1 three h.1 refl in
    range_found (spelled_range (Some r) ++ rest) one two three rest r.0 r.1 refl left refl right refl

declaration_found : (line rest name_from : List ℕ) (role : Role) (range : Option (ℕ × ℕ)) (name : List ℕ) (blank : List ℕ) → word_role (word_of line) ≡ Some role → front_range (after_word line) ≡ Some (range, blank) → after_mark (codes " ") blank ≡ Some name_from
    → front_name name_from ≡ Some (name, codes ";") → declaration_of line ≡ Some (name, record { range = range; role = role })
unfolding declaration_of
declaration_found line rest name_from role range name blank a b c d = rw (a, b, c, d) refl

pub declaration_again : (v : Entry) → IsEntry v → declaration_of (declaration v) ≡ Some v
declaration_again v h =
    let name_from : List ℕ = spelled_name v.0 ++ codes ";" in
    let tail : List ℕ = spelled_range v.1.range ++ (codes " " ++ name_from) in
    let word : word_of (declaration v) ≡ role_word v.1.role = front_join is_word_byte (role_word v.1.role) tail (role_passes v.1.role) (range_stops v.1.range name_from) in
    let after : after_word (declaration v) ≡ tail = back_join is_word_byte (role_word v.1.role) tail (role_passes v.1.role) (range_stops v.1.range name_from) in
    declaration_found (declaration v) tail name_from v.1.role v.1.range v.0 (codes " " ++ name_from) (ap word_role word ∙ role_again v.1.role)
    (ap front_range after ∙ range_again v.1.range (codes " " ++ name_from) h.range (plain_start v.0 (codes ";"))) refl (name_again v.0 (codes ";") h.name refl)

-- gates
ends_more : (bits : List Bit) → Ends (flat_map further (map spelled_bit bits) ++ codes ");")
ends_more [] = record { word = refl; bracket = refl }
ends_more (b ∷ bs) = record { word = refl; bracket = refl }

bits_again : (most : ℕ) (bits : List Bit) → AllByRecursion IsBitText bits → length (flat_map further (map spelled_bit bits) ++ codes ");") ≤ most
    → front_bits most (flat_map further (map spelled_bit bits) ++ codes ");") ≡ Some (bits, codes ");")
bits_again most [] h l = bits_end most (codes ");") refl
bits_again zero (b ∷ bs) h l = absurd (omega arith)
bits_again (suc most) (b ∷ bs) h l =
    let flat : List ℕ = flat_map further (map spelled_bit bs) in
    let tail : List ℕ = flat ++ codes ");" in
    let regrouped : (spelled_bit b ++ flat) ++ codes ");" ≡ spelled_bit b ++ tail = append_assoc (spelled_bit b) flat (codes ");") in
    let short : length tail ≤ most = omega (arith, ap length regrouped, length-append (spelled_bit b) tail) in
    let read : front_bit ((spelled_bit b ++ flat) ++ codes ");") ≡ Some (b, tail) = ap front_bit regrouped ∙ bit_again b tail h.0 (ends_more bs) in
    bits_one most (flat_map further (map spelled_bit (b ∷ bs)) ++ codes ");") refl ∙ ap (λ r. r >>= (λ x. with_front (x.0 ∷ []) (front_bits most x.1))) read ∙ ap (with_front (b ∷ [])) (bits_again most bs h.1 short)

primitive_found : (bytes out_from rest : List ℕ) (op : Op) (out : Bit) (ins : List Bit) → after_mark (codes " (") bytes ≡ Some out_from → front_bit out_from ≡ Some (out, rest) → front_bits (length rest) rest ≡ Some (ins, codes ");")
    → primitive_of op bytes ≡ Some (record { op = op; out = out; ins = ins })
unfolding primitive_of
primitive_found bytes out_from rest op out ins a b c = rw (a, b, c) refl

primitive_again : (op : Op) (out : Bit) (ins : List Bit) → IsBitText out → AllByRecursion IsBitText ins
    → primitive_of op (codes " (" ++ (spelled_bit out ++ (flat_map further (map spelled_bit ins) ++ codes ");"))) ≡ Some (record { op = op; out = out; ins = ins })
primitive_again op out ins h k =
    let rest : List ℕ = flat_map further (map spelled_bit ins) ++ codes ");" in
    primitive_found (codes " (" ++ (spelled_bit out ++ rest)) (spelled_bit out ++ rest) rest op out ins refl (bit_again out rest h (ends_more ins)) (bits_again (length rest) ins k (omega arith))

statement_found : (line rest : List ℕ) (op : Op) (g : Gate Bit) → bytes_eq (word_of line) (codes "assign") ≡ false → op_of (word_of line) ≡ Some op → after_word line ≡ rest → primitive_of op rest ≡ Some g → statement_of line ≡ Some g
unfolding statement_of
statement_found line rest op g a b c d = rw (a, b, c) d

constant_found : (line bytes out_from rest value : List ℕ) (op : Op) (out : Bit) → bytes_eq (word_of line) (codes "assign") ≡ true → after_word line ≡ bytes → after_mark (codes " ") bytes ≡ Some out_from → front_bit out_from ≡ Some (out, rest)
    → after_mark (codes " = 1'b") rest ≡ Some value → constant_op value ≡ Some op → statement_of line ≡ Some (record { op = op; out = out; ins = [] })
unfolding statement_of constant_of
constant_found line bytes out_from rest value op out a b c d e f = rw (a, b, c, d, e, f) refl

zero_op : constant_op (codes "0;") ≡ Some Zero
unfolding constant_op
zero_op = refl

one_op : constant_op (codes "1;") ≡ Some One
unfolding constant_op
one_op = refl

zero_again : (out : Bit) → IsBitText out → statement_of (constant_line out (codes "0")) ≡ Some (record { op = Zero; out = out; ins = [] })
zero_again out h =
    let rest : List ℕ = codes " = 1'b" ++ (codes "0" ++ codes ";") in
    constant_found (constant_line out (codes "0")) (codes " " ++ (spelled_bit out ++ rest)) (spelled_bit out ++ rest) rest (codes "0;") Zero out refl refl refl (bit_again out rest h (record { word = refl; bracket = refl })) refl zero_op

one_again : (out : Bit) → IsBitText out → statement_of (constant_line out (codes "1")) ≡ Some (record { op = One; out = out; ins = [] })
one_again out h =
    let rest : List ℕ = codes " = 1'b" ++ (codes "1" ++ codes ";") in
    constant_found (constant_line out (codes "1")) (codes " " ++ (spelled_bit out ++ rest)) (spelled_bit out ++ rest) rest (codes "1;") One out refl refl refl (bit_again out rest h (record { word = refl; bracket = refl })) refl one_op

no_items : (ins : List Bit) → length ins ≡ 0 → ins ≡ []
no_items [] h = refl
no_items (i ∷ is) h = absurd (omega arith)

may_read : (op : Op) (ins : List Bit) → IsArity op (length ins) → MayRead op ins
may_read And ins n = tt
may_read Nand ins n = tt
may_read Or ins n = tt
may_read Nor ins n = tt
may_read Xor ins n = tt
may_read Xnor ins n = tt
may_read Not ins n = tt
may_read Buf ins n = tt
may_read Zero ins n = no_items ins n
may_read One ins n = no_items ins n

-- a gate of any number of bits
pub form_again : (op : Op) (out : Bit) (ins : List Bit) → MayRead op ins → IsBitText out → AllByRecursion IsBitText ins → statement_of (statement_by op out ins) ≡ Some (record { op = op; out = out; ins = ins })
unfolding op_of
form_again And out ins n h k = statement_found (primitive_line And out ins) _ And _ refl refl refl (primitive_again And out ins h k)
form_again Nand out ins n h k = statement_found (primitive_line Nand out ins) _ Nand _ refl refl refl (primitive_again Nand out ins h k)
form_again Or out ins n h k = statement_found (primitive_line Or out ins) _ Or _ refl refl refl (primitive_again Or out ins h k)
form_again Nor out ins n h k = statement_found (primitive_line Nor out ins) _ Nor _ refl refl refl (primitive_again Nor out ins h k)
form_again Xor out ins n h k = statement_found (primitive_line Xor out ins) _ Xor _ refl refl refl (primitive_again Xor out ins h k)
form_again Xnor out ins n h k = statement_found (primitive_line Xnor out ins) _ Xnor _ refl refl refl (primitive_again Xnor out ins h k)
form_again Not out ins n h k = statement_found (primitive_line Not out ins) _ Not _ refl refl refl (primitive_again Not out ins h k)
form_again Buf out ins n h k = statement_found (primitive_line Buf out ins) _ Buf _ refl refl refl (primitive_again Buf out ins h k)
form_again Zero out ins n h k = zero_again out h ∙ ap (λ z. Some (record { op = Zero; out = out; ins = z })) (sym n)
form_again One out ins n h k = one_again out h ∙ ap (λ z. Some (record { op = One; out = out; ins = z })) (sym n)

pub statement_again : (g : Gate Bit) → IsGateText g → statement_of (gate_line g) ≡ Some g
statement_again g h = form_again g.op g.out g.ins (may_read g.op g.ins h.arity) h.out h.ins

-- flip-flops
pins_found : (bytes one two three four five : List ℕ) (number : ℕ) (clock q d : Bit) → after_mark (codes " (") bytes ≡ Some one → front_bit one ≡ Some (clock, two) → after_mark (codes ", ") two ≡ Some three → front_bit three ≡ Some (q, four)
    → after_mark (codes ", ") four ≡ Some five → front_bit five ≡ Some (d, codes ");") → flop_pins number bytes ≡ Some (record { number = number; clock = clock; flop = record { q = q; d = d } })
unfolding flop_pins
pins_found bytes one two three four five number clock q d a b c e f g = rw (a, b, c, e, f, g) refl

pub pins_again : (number : ℕ) (clock : Bit) (f : Flop Bit) → IsBitText clock → IsBitText f.q → IsBitText f.d → flop_pins number (pins (Some clock) f) ≡ Some (record { number = number; clock = clock; flop = f })
pins_again number clock f h q d =
    let five : List ℕ = spelled_bit f.d ++ codes ");" in
    let four : List ℕ = codes ", " ++ five in
    let three : List ℕ = spelled_bit f.q ++ four in
    let two : List ℕ = codes ", " ++ three in
    let ends : (x : List ℕ) → Ends (44 ∷ x) = λ x. record { word = refl; bracket = refl } in
    pins_found (pins (Some clock) f) (spelled_bit clock ++ two) two three four five number clock f.q f.d refl (bit_again clock two h (ends (32 ∷ three))) refl (bit_again f.q four q (ends (32 ∷ five))) refl
    (bit_again f.d (codes ");") d (record { word = refl; bracket = refl }))

flop_found : (line number_from rest : List ℕ) (number : ℕ) (i : FlopLine) → after_mark (codes "dff bt_f") line ≡ Some number_from → number_below index_limit number_from ≡ Some (number, rest) → flop_pins number rest ≡ Some i → flop_of line ≡ Some i
unfolding flop_of
flop_found line number_from rest number i a b c = rw (a, b) c

pub flop_again : (clock : Bit) (number : ℕ) (f : Flop Bit) → number < index_limit → IsBitText clock → IsFlopText f → flop_of (flop_line (Some clock) number f) ≡ Some (record { number = number; clock = clock; flop = f })
flop_again clock number f small h k =
    flop_found (flop_line (Some clock) number f) (decimal number ++ pins (Some clock) f) (pins (Some clock) f) number _ refl (number_again number (pins (Some clock) f) small refl) (pins_again number clock f h k.q k.d)
