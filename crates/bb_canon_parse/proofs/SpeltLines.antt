-- Each line of a canonical text as lexemes, and their tokens' kinds.
use Rattle.std.proofs.Common.{◌≡◌, ℕ, ◌<◌, ◌≤◌, List, [], ◌∷◌, ◌++◌, length, map, codes, decimal, Option, Some, None, Bool, true, false, not, eqb, refl, sym, ap, ◌∙◌, arith, append_assoc, subst}
use Rattle.std.proofs.lemmas.Bool.Decides.{nat_tests}
use Rattle.std.specs.List.{AllByRecursion, flat_map, list_all}
use Rattle.std.proofs.lemmas.Fmt.{length-decimal-le}
use Rattle.std.specs.Char.{is_ascii_digit}
use Rattle.bb_base.specs.declared.keyword.Keyword.{Keyword}
use Rattle.bb_base.specs.declared.keyword.Keyword.TheVariants as keys
use Rattle.bb_base.specs.declared.token.Mark.TheVariants as marks
use Rattle.bb_base.specs.declared.token.TokenKind.{TokenKind}
use Rattle.bb_base.specs.declared.token.TokenKind.TheVariants.{Key, Name, Number, Const, Mark}
use Rattle.bb_lex.specs.Bytes.{is_number, begins}
use Rattle.bb_base.specs.Keywords.{keyword_of, is_keyword}
use Rattle.bb_lex.specs.Keywords.{word_kind}
use Rattle.bb_base.specs.declared.operator.Op.{Op}
use Rattle.bb_base.specs.declared.operator.Op.TheVariants.{And, Nand, Or, Nor, Xor, Xnor, Not, Buf, Zero, One}
use Rattle.bb_base.specs.declared.variable.Role.{Role}
use Rattle.bb_base.specs.declared.variable.Role.TheVariants.{Input, Output, Wire}
use Rattle.bb_base.specs.Name.{IsName}
use Rattle.bb_base.specs.Net.{Gate, Flop}
use Rattle.bb_base.specs.Variables.{Entry, Bit, IsEntry, IsRange}
use Rattle.bb_base.specs.Words.{starts_word, is_word_byte}
use Rattle.bb_spell.specs.Spelling.{is_simple, stands_plain, spelled_name, spelled_index, spelled_bit, further, joined, module_line, role_word, spelled_range, declaration, op_word, constant_line, primitive_line, statement_by, gate_line, flop_line}
use Rattle.bb_spell.specs.Front.{index_limit}
use Rattle.bb_spell.proofs.Again.{Pass, both_true, pass_from_all, decimal_passes}
use Rattle.bb_spell.specs.Writable.{IsIndex, IsBitText, IsGateText, IsFlopText}
use Rattle.bb_canon_parse.proofs.LineKinds.{Kinds, paren_end, further_names, names_kinds, module_kinds, role_key, range_kinds, declaration_kinds, index_kinds, bit_kinds, further_bits, primitive_kinds, constant_kinds, kinds_by, statement_kinds, flop_name, flop_kinds}
use Rattle.bb_canon_parse.proofs.Spelt.{Spelt, spelt_join, spelt_nothing, comma, semicolon, colon, equals, close_paren, open_bracket, close_bracket, space, open_paren, word_spelt, no_keyword, name_spelt, EndsNumber, number_spelt, zero_spelt, one_spelt}

-- no word goes on here
abbrev NoWord : List ℕ → Type 0
NoWord after = begins is_word_byte after ≡ false

pub at_feed : is_word_byte 10 ≡ false
at_feed = refl

at_space : is_word_byte 32 ≡ false
at_space = refl

at_paren : is_word_byte 41 ≡ false
at_paren = refl

at_comma : is_word_byte 44 ≡ false
at_comma = refl

at_semicolon : is_word_byte 59 ≡ false
at_semicolon = refl

at_bracket : is_word_byte 91 ≡ false
at_bracket = refl

before_bracket : (after : List ℕ) → EndsNumber (93 ∷ after)
unfolding is_number
before_bracket after = record { digits = refl; size = refl }

before_colon : (after : List ℕ) → EndsNumber (58 ∷ after)
unfolding is_number
before_colon after = record { digits = refl; size = refl }

-- no name begins as the inside of an attribute does
start_star : (b : ℕ) → starts_word b ≡ true → eqb b 42 ≡ false
start_star b h = grind (arith, nat_tests)

simple_star : (name rest : List ℕ) → is_simple name ≡ true → begins (λ b. eqb b 42) (name ++ rest) ≡ false
simple_star [] rest h = cc
simple_star (b ∷ bs) rest h = start_star b (both_true (starts_word b) (list_all is_word_byte bs) h).0

name_star : (name rest : List ℕ) → begins (λ b. eqb b 42) (spelled_name name ++ rest) ≡ false
unfolding spelled_name
name_star name rest = go (stands_plain name) refl
  where
    go : (b : Bool) → stands_plain name ≡ b → begins (λ b. eqb b 42) (spelled_name name ++ rest) ≡ false
    go true p = rw p (simple_star name rest (both_true (is_simple name) (not (is_keyword name)) p).0)
    go false p = rw p refl

bit_star : (b : Bit) (rest : List ℕ) → begins (λ b. eqb b 42) (spelled_bit b ++ rest) ≡ false
bit_star b rest = ap (begins (λ b. eqb b 42)) (append_assoc (spelled_name b.name) (spelled_index b.index) rest) ∙ name_star b.name (spelled_index b.index ++ rest)

-- keywords
word_of : (word after : List ℕ) (kind : TokenKind) → is_simple word ≡ true → length word ≤ 1024 → word_kind word ≡ kind → NoWord after → Spelt word (kind ∷ []) after
word_of [] after kind h short e stops = cc
word_of (b ∷ bs) after kind h short e stops =
    let parts = both_true (starts_word b) (list_all is_word_byte bs) h in
    subst (λ k. Spelt (b ∷ bs) (k ∷ []) after) e (word_spelt b bs after parts.0 (pass_from_all is_word_byte bs parts.1) stops short)

module_word : (after : List ℕ) → NoWord after → Spelt (codes "module") (Key keys.Module ∷ []) after
unfolding keyword_of
module_word after stops = word_of (codes "module") after (Key keys.Module) refl (omega arith) refl stops

pub end_word : (after : List ℕ) → NoWord after → Spelt (codes "endmodule") (Key keys.Endmodule ∷ []) after
unfolding keyword_of
end_word after stops = word_of (codes "endmodule") after (Key keys.Endmodule) refl (omega arith) refl stops

assign_word : (after : List ℕ) → NoWord after → Spelt (codes "assign") (Key keys.Assign ∷ []) after
unfolding keyword_of
assign_word after stops = word_of (codes "assign") after (Key keys.Assign) refl (omega arith) refl stops

dff_word : (after : List ℕ) → NoWord after → Spelt (codes "dff") (Name (codes "dff") ∷ []) after
unfolding keyword_of
dff_word after stops = word_of (codes "dff") after (Name (codes "dff")) refl (omega arith) refl stops

role_spelt : (r : Role) (after : List ℕ) → NoWord after → Spelt (role_word r) (Key (role_key r) ∷ []) after
unfolding keyword_of
role_spelt Input after stops = word_of (codes "input") after (Key keys.Input) refl (omega arith) refl stops
role_spelt Output after stops = word_of (codes "output") after (Key keys.Output) refl (omega arith) refl stops
role_spelt Wire after stops = word_of (codes "wire") after (Key keys.Wire) refl (omega arith) refl stops

-- bits
index_spelt : (i : Option ℕ) (after : List ℕ) → IsIndex i → Spelt (spelled_index i) (index_kinds i) after
index_spelt None after h = spelt_nothing after
index_spelt (Some i) after h =
    spelt_join (codes "[") (decimal i ++ codes "]") after (Mark marks.LeftBracket ∷ []) (Number i ∷ Mark marks.RightBracket ∷ []) (open_bracket _)
    (spelt_join (decimal i) (codes "]") after (Number i ∷ []) (Mark marks.RightBracket ∷ []) (number_spelt i (93 ∷ after) h (before_bracket after)) (close_bracket after))

index_stops : (i : Option ℕ) (after : List ℕ) → NoWord after → NoWord (spelled_index i ++ after)
index_stops None after stops = stops
index_stops (Some i) after stops = at_bracket

bit_spelt : (b : Bit) (after : List ℕ) → IsBitText b → NoWord after → Spelt (spelled_bit b) (bit_kinds b) after
bit_spelt b after h stops =
    spelt_join (spelled_name b.name) (spelled_index b.index) after (Name b.name ∷ []) (index_kinds b.index) (name_spelt b.name (spelled_index b.index ++ after) h.name (index_stops b.index after stops)) (index_spelt b.index after h.index)

-- an item behind a comma and a space
further_spelt : (item after : List ℕ) (ks : Kinds) → Spelt item ks after → Spelt (further item) (Mark marks.Comma ∷ ks) after
further_spelt item after ks s = spelt_join (codes ",") (codes " " ++ item) after (Mark marks.Comma ∷ []) ks (comma _) (spelt_join (codes " ") item after [] ks (space _) s)

bits_stop : (bits : List Bit) (after : List ℕ) → NoWord after → NoWord (flat_map further (map spelled_bit bits) ++ after)
bits_stop [] after stops = stops
bits_stop (b ∷ bs) after stops = at_comma

bits_spelt : (bits : List Bit) (after : List ℕ) → AllByRecursion IsBitText bits → NoWord after → Spelt (flat_map further (map spelled_bit bits)) (further_bits bits) after
bits_spelt [] after all stops = spelt_nothing after
bits_spelt (b ∷ bs) after all stops =
    let rest : List ℕ = flat_map further (map spelled_bit bs) in
    spelt_join (further (spelled_bit b)) rest after (Mark marks.Comma ∷ bit_kinds b) (further_bits bs) (further_spelt (spelled_bit b) (rest ++ after) (bit_kinds b) (bit_spelt b (rest ++ after) all.0 (bits_stop bs after stops))) (bits_spelt bs after all.1 stops)

names_stop : (names : List (List ℕ)) (after : List ℕ) → NoWord after → NoWord (flat_map further (map spelled_name names) ++ after)
names_stop [] after stops = stops
names_stop (n ∷ ns) after stops = at_comma

names_spelt : (names : List (List ℕ)) (after : List ℕ) → AllByRecursion IsName names → NoWord after → Spelt (flat_map further (map spelled_name names)) (further_names names) after
names_spelt [] after all stops = spelt_nothing after
names_spelt (n ∷ ns) after all stops =
    let rest : List ℕ = flat_map further (map spelled_name ns) in
    spelt_join (further (spelled_name n)) rest after (Mark marks.Comma ∷ Name n ∷ []) (further_names ns) (further_spelt (spelled_name n) (rest ++ after) (Name n ∷ []) (name_spelt n (rest ++ after) all.0 (names_stop ns after stops))) (names_spelt ns after all.1 stops)

-- the end of a list in parentheses
paren_end_spelt : (after : List ℕ) → Spelt (codes ");") paren_end after
paren_end_spelt after = spelt_join (codes ")") (codes ";") after (Mark marks.RightParen ∷ []) (Mark marks.Semicolon ∷ []) (close_paren _) (semicolon after)

-- the first line
ports_spelt : (ports : List (List ℕ)) (after : List ℕ) → AllByRecursion IsName ports → Spelt (joined (map spelled_name ports) ++ codes ");") (names_kinds ports ++ paren_end) after
ports_spelt [] after all = paren_end_spelt after
ports_spelt (p ∷ ps) after all =
    let rest : List ℕ = flat_map further (map spelled_name ps) in
    spelt_join (spelled_name p ++ rest) (codes ");") after (Name p ∷ further_names ps) paren_end
    (spelt_join (spelled_name p) rest (codes ");" ++ after) (Name p ∷ []) (further_names ps) (name_spelt p _ all.0 (names_stop ps _ at_paren)) (names_spelt ps (codes ");" ++ after) all.1 at_paren)) (paren_end_spelt after)

ports_star : (ports : List (List ℕ)) (after : List ℕ) → begins (λ b. eqb b 42) ((joined (map spelled_name ports) ++ codes ");") ++ after) ≡ false
ports_star [] after = refl
ports_star (p ∷ ps) after =
    let rest : List ℕ = flat_map further (map spelled_name ps) in
    ap (begins (λ b. eqb b 42)) (append_assoc (spelled_name p ++ rest) (codes ");") after ∙ append_assoc (spelled_name p) rest (codes ");" ++ after)) ∙ name_star p _

pub module_spelt : (name : List ℕ) (ports : List (List ℕ)) (after : List ℕ) → IsName name → AllByRecursion IsName ports → Spelt (module_line name ports) (module_kinds name ports) after
module_spelt name ports after h all =
    let inside : List ℕ = joined (map spelled_name ports) ++ codes ");" in
    let ks : Kinds = names_kinds ports ++ paren_end in
    let list : Spelt (codes "(" ++ inside) (Mark marks.LeftParen ∷ ks) after = spelt_join (codes "(") inside after (Mark marks.LeftParen ∷ []) ks (open_paren (inside ++ after) (ports_star ports after)) (ports_spelt ports after all) in
    spelt_join (codes "module") (codes " " ++ (spelled_name name ++ (codes " (" ++ inside))) after (Key keys.Module ∷ []) (Name name ∷ Mark marks.LeftParen ∷ ks) (module_word _ at_space)
    (spelt_join (codes " ") (spelled_name name ++ (codes " (" ++ inside)) after [] (Name name ∷ Mark marks.LeftParen ∷ ks) (space _)
    (spelt_join (spelled_name name) (codes " (" ++ inside) after (Name name ∷ []) (Mark marks.LeftParen ∷ ks) (name_spelt name _ h at_space)
    (spelt_join (codes " ") (codes "(" ++ inside) after [] (Mark marks.LeftParen ∷ ks) (space _) list)))

-- declarations
range_spelt : (r : Option (ℕ × ℕ)) (after : List ℕ) → IsRange r → Spelt (spelled_range r) (range_kinds r) after
range_spelt None after h = spelt_nothing after
range_spelt (Some r) after h =
    let right : List ℕ = decimal r.1 ++ codes "]" in
    let left : List ℕ = decimal r.0 ++ (codes ":" ++ right) in
    let last : Kinds = Number r.1 ∷ Mark marks.RightBracket ∷ [] in
    let rest : Kinds = Number r.0 ∷ Mark marks.Colon ∷ last in
    spelt_join (codes " ") (codes "[" ++ left) after [] (Mark marks.LeftBracket ∷ rest) (space _)
    (spelt_join (codes "[") left after (Mark marks.LeftBracket ∷ []) rest (open_bracket _)
    (spelt_join (decimal r.0) (codes ":" ++ right) after (Number r.0 ∷ []) (Mark marks.Colon ∷ last) (number_spelt r.0 _ h.0 (before_colon _))
    (spelt_join (codes ":") right after (Mark marks.Colon ∷ []) last (colon _)
    (spelt_join (decimal r.1) (codes "]") after (Number r.1 ∷ []) (Mark marks.RightBracket ∷ []) (number_spelt r.1 _ h.1 (before_bracket _)) (close_bracket after)))))

range_stops : (r : Option (ℕ × ℕ)) (after : List ℕ) → NoWord ((spelled_range r ++ (32 ∷ after)))
range_stops None after = at_space
range_stops (Some r) after = at_space

pub declaration_spelt : (v : Entry) (after : List ℕ) → IsEntry v → Spelt (declaration v) (declaration_kinds v) after
declaration_spelt v after h =
    let name : List ℕ = spelled_name v.0 ++ codes ";" in
    let blank : List ℕ = codes " " ++ name in
    let last : Kinds = Name v.0 ∷ Mark marks.Semicolon ∷ [] in
    spelt_join (role_word v.1.role) (spelled_range v.1.range ++ blank) after (Key (role_key v.1.role) ∷ []) (range_kinds v.1.range ++ last)
    (role_spelt v.1.role _ (subst NoWord (sym (append_assoc (spelled_range v.1.range) blank after)) (range_stops v.1.range (name ++ after))))
    (spelt_join (spelled_range v.1.range) blank after (range_kinds v.1.range) last (range_spelt v.1.range _ h.range)
    (spelt_join (codes " ") name after [] last (space _)
    (spelt_join (spelled_name v.0) (codes ";") after (Name v.0 ∷ []) (Mark marks.Semicolon ∷ []) (name_spelt v.0 _ h.name at_semicolon) (semicolon after))))

-- gates
terms_spelt : (out : Bit) (ins : List Bit) (after : List ℕ) → IsBitText out → AllByRecursion IsBitText ins
    → Spelt (codes " (" ++ (spelled_bit out ++ (flat_map further (map spelled_bit ins) ++ codes ");"))) (Mark marks.LeftParen ∷ (bit_kinds out ++ (further_bits ins ++ paren_end))) after
terms_spelt out ins after h all =
    let more : List ℕ = flat_map further (map spelled_bit ins) in
    let inside : List ℕ = spelled_bit out ++ (more ++ codes ");") in
    let ks : Kinds = bit_kinds out ++ (further_bits ins ++ paren_end) in
    let star : begins (λ b. eqb b 42) (inside ++ after) ≡ false = ap (begins (λ b. eqb b 42)) (append_assoc (spelled_bit out) (more ++ codes ");") after) ∙ bit_star out _ in
    let stops : NoWord ((more ++ codes ");") ++ after) = subst NoWord (sym (append_assoc more (codes ");") after)) (bits_stop ins (codes ");" ++ after) at_paren) in
    spelt_join (codes " ") (codes "(" ++ inside) after [] (Mark marks.LeftParen ∷ ks) (space _)
    (spelt_join (codes "(") inside after (Mark marks.LeftParen ∷ []) ks (open_paren _ star)
    (spelt_join (spelled_bit out) (more ++ codes ");") after (bit_kinds out) (further_bits ins ++ paren_end) (bit_spelt out _ h stops)
    (spelt_join more (codes ");") after (further_bits ins) paren_end (bits_spelt ins _ all at_paren) (paren_end_spelt after))))

primitive_spelt : (op : Op) (key : Keyword) (out : Bit) (ins : List Bit) (after : List ℕ) → is_simple (op_word op) ≡ true → length (op_word op) ≤ 1024 → word_kind (op_word op) ≡ Key key → IsBitText out → AllByRecursion IsBitText ins
    → Spelt (primitive_line op out ins) (primitive_kinds key out ins) after
primitive_spelt op key out ins after simple short kind h all =
    spelt_join (op_word op) (codes " (" ++ (spelled_bit out ++ (flat_map further (map spelled_bit ins) ++ codes ");"))) after (Key key ∷ []) (Mark marks.LeftParen ∷ (bit_kinds out ++ (further_bits ins ++ paren_end)))
    (word_of (op_word op) _ (Key key) simple short kind at_space) (terms_spelt out ins after h all)

constant_spelt : (out : Bit) (digit after : List ℕ) (value : ℕ) → IsBitText out → ((rest : List ℕ) → Spelt (codes "1'b" ++ digit) (Const 1 value ∷ []) (59 ∷ rest)) → Spelt (constant_line out digit) (constant_kinds out value) after
constant_spelt out digit after value h c =
    let number : List ℕ = codes "1'b" ++ digit in
    let last : List ℕ = number ++ codes ";" in
    let ks : Kinds = Const 1 value ∷ Mark marks.Semicolon ∷ [] in
    let tail : Spelt last ks after = spelt_join number (codes ";") after (Const 1 value ∷ []) (Mark marks.Semicolon ∷ []) (c after) (semicolon after) in
    let from : Spelt (codes " = " ++ last) (Mark marks.Equals ∷ ks) after =
    spelt_join (codes " ") (codes "= " ++ last) after [] (Mark marks.Equals ∷ ks) (space _) (spelt_join (codes "=") (codes " " ++ last) after (Mark marks.Equals ∷ []) ks (equals _) (spelt_join (codes " ") last after [] ks (space _) tail)) in
    spelt_join (codes "assign") (codes " " ++ (spelled_bit out ++ (codes " = " ++ last))) after (Key keys.Assign ∷ []) (bit_kinds out ++ Mark marks.Equals ∷ ks) (assign_word _ at_space)
    (spelt_join (codes " ") (spelled_bit out ++ (codes " = " ++ last)) after [] (bit_kinds out ++ Mark marks.Equals ∷ ks) (space _)
    (spelt_join (spelled_bit out) (codes " = " ++ last) after (bit_kinds out) (Mark marks.Equals ∷ ks) (bit_spelt out _ h at_space) from))

by_spelt : (op : Op) (out : Bit) (ins : List Bit) (after : List ℕ) → IsBitText out → AllByRecursion IsBitText ins → Spelt (statement_by op out ins) (kinds_by op out ins) after
unfolding keyword_of
by_spelt And out ins after h all = primitive_spelt And keys.And out ins after refl (omega arith) refl h all
by_spelt Nand out ins after h all = primitive_spelt Nand keys.Nand out ins after refl (omega arith) refl h all
by_spelt Or out ins after h all = primitive_spelt Or keys.Or out ins after refl (omega arith) refl h all
by_spelt Nor out ins after h all = primitive_spelt Nor keys.Nor out ins after refl (omega arith) refl h all
by_spelt Xor out ins after h all = primitive_spelt Xor keys.Xor out ins after refl (omega arith) refl h all
by_spelt Xnor out ins after h all = primitive_spelt Xnor keys.Xnor out ins after refl (omega arith) refl h all
by_spelt Not out ins after h all = primitive_spelt Not keys.Not out ins after refl (omega arith) refl h all
by_spelt Buf out ins after h all = primitive_spelt Buf keys.Buf out ins after refl (omega arith) refl h all
by_spelt Zero out ins after h all = constant_spelt out (codes "0") after 0 h zero_spelt
by_spelt One out ins after h all = constant_spelt out (codes "1") after 1 h one_spelt

pub statement_spelt : (g : Gate Bit) (after : List ℕ) → IsGateText g → Spelt (gate_line g) (statement_kinds g) after
statement_spelt g after h = by_spelt g.op g.out g.ins after h.out h.ins

-- flip-flops
digit_word : (b : ℕ) → is_ascii_digit b ≡ true → is_word_byte b ≡ true
digit_word b h = grind (arith, nat_tests)

digits_word : (bs : List ℕ) → Pass is_ascii_digit bs → Pass is_word_byte bs
digits_word [] h = tt
digits_word (b ∷ bs) h = (digit_word b h.0, digits_word bs h.1)

counted_other : (j : ℕ) → is_keyword (flop_name j) ≡ false
unfolding keyword_of
counted_other j = refl

counted_word : (j : ℕ) (after : List ℕ) → j < index_limit → NoWord after → Spelt (flop_name j) (Name (flop_name j) ∷ []) after
counted_word j after small stops =
    let digits = digits_word (decimal j) (decimal_passes j (omega arith)) in
    let short : length (flop_name j) ≤ 1024 = omega (arith, length-decimal-le 10 j (omega arith) (omega arith) (omega arith)) in
    subst (λ kind. Spelt (flop_name j) (kind ∷ []) after) (no_keyword (flop_name j) (counted_other j)) (word_spelt 98 (codes "t_f" ++ decimal j) after refl (refl, (refl, (refl, digits))) stops short)

pub flop_spelt : (clock : Bit) (j : ℕ) (f : Flop Bit) (after : List ℕ) → j < index_limit → IsBitText clock → IsFlopText f → Spelt (flop_line (Some clock) j f) (flop_kinds clock j f) after
flop_spelt clock j f after small h k =
    let d_end : List ℕ = spelled_bit f.d ++ codes ");" in
    let q_end : List ℕ = spelled_bit f.q ++ (codes ", " ++ d_end) in
    let inside : List ℕ = spelled_bit clock ++ (codes ", " ++ q_end) in
    let d_kinds : Kinds = bit_kinds f.d ++ paren_end in
    let q_kinds : Kinds = bit_kinds f.q ++ Mark marks.Comma ∷ d_kinds in
    let ks : Kinds = bit_kinds clock ++ Mark marks.Comma ∷ q_kinds in
    let star : begins (λ b. eqb b 42) (inside ++ after) ≡ false = ap (begins (λ b. eqb b 42)) (append_assoc (spelled_bit clock) (codes ", " ++ q_end) after) ∙ bit_star clock _ in
    let of_d : Spelt d_end d_kinds after = spelt_join (spelled_bit f.d) (codes ");") after (bit_kinds f.d) paren_end (bit_spelt f.d _ k.d at_paren) (paren_end_spelt after) in
    let of_q : Spelt q_end q_kinds after = spelt_join (spelled_bit f.q) (codes ", " ++ d_end) after (bit_kinds f.q) (Mark marks.Comma ∷ d_kinds) (bit_spelt f.q _ k.q at_comma) (further_spelt d_end after d_kinds of_d) in
    let of_all : Spelt inside ks after = spelt_join (spelled_bit clock) (codes ", " ++ q_end) after (bit_kinds clock) (Mark marks.Comma ∷ q_kinds) (bit_spelt clock _ h at_comma) (further_spelt q_end after q_kinds of_q) in
    spelt_join (codes "dff") (codes " " ++ (flop_name j ++ (codes " (" ++ inside))) after (Name (codes "dff") ∷ []) (Name (flop_name j) ∷ Mark marks.LeftParen ∷ ks) (dff_word _ at_space)
    (spelt_join (codes " ") (flop_name j ++ (codes " (" ++ inside)) after [] (Name (flop_name j) ∷ Mark marks.LeftParen ∷ ks) (space _)
    (spelt_join (flop_name j) (codes " (" ++ inside) after (Name (flop_name j) ∷ []) (Mark marks.LeftParen ∷ ks) (counted_word j _ small at_space)
    (spelt_join (codes " ") (codes "(" ++ inside) after [] (Mark marks.LeftParen ∷ ks) (space _)
    (spelt_join (codes "(") inside after (Mark marks.LeftParen ∷ []) ks (open_paren _ star) of_all))))
