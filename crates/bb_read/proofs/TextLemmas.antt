-- What a reader has read of a text, and what that says of the whole text.
use Rattle.std.proofs.Common.{◌≡◌, ◌⊎◌, ◌↔◌, inl, inr, ℕ, List, [], ◌∷◌, ◌++◌, refl, sym, ap, ◌∙◌, subst, append_assoc, append-nil, length, arith, Ok, Err}
use Rattle.std.specs.Prelude.{Result, IfOk, IsErrOf}
use Rattle.std.specs.Result.{IsErrAnd}
use Rattle.std.specs.List.{AllByRecursion}
use Rattle.bb_base.specs.declared.token.Token.{Token}
use Rattle.bb_base.specs.declared.lex_fault.LexFault.{LexFault}
use Rattle.bb_base.specs.declared.lex_fault.LexFault.TheVariants as faults
use Rattle.bb_lex.specs.Machine as lexing
use Rattle.bb_lex.specs.Text as lexical
use Rattle.bb_parse.specs.declared.syntax.Module.{Module}
use Rattle.bb_parse.specs.declared.fault.ParseFault.{ParseFault}
use Rattle.bb_parse.specs.declared.fault.ParseFault.TheVariants as grammar
use Rattle.bb_parse.specs.Machine as parsing
use Rattle.bb_parse.specs.Standing as standing
use Rattle.bb_parse.specs.Meaning as meaning
use Rattle.bb_base.specs.Tokens.{IsProper}
use Rattle.bb_lex.specs.Ranges.{IsSound}
use Rattle.bb_parse.specs.Sound.{IsSoundModule}
use Rattle.bb_grammar.specs.Texts.{IsModuleOf, HasBadToken, HasLexFault, IsUnreadable}
use Rattle.bb_read.specs.declared.fault.ReadFault.TheVariants as read
use Rattle.bb_read.specs.Faults.{of_lex, of_parse}
use Rattle.bb_read.specs.TextReading.{PartRead, HasRead, reading}

-- what is known of the lexer
pub record LexerLaws : Type 0 where
  pub exact : (text : List ℕ) (tokens : List Token) (end : Result ℕ LexFault) → lexical.Denotes text tokens end ↔ lexing.Closes (lexing.run lexing.start text) tokens end
  pub pieces : (m : lexing.Machine) (piece rest : List ℕ) → lexing.run m (piece ++ rest) ≡ lexing.run (lexing.run m piece) rest
  pub taken : (earlier : List Token) (m : lexing.Machine) (bytes : List ℕ) → lexing.run (lexing.after_tokens earlier m) bytes ≡ lexing.after_tokens earlier (lexing.run m bytes)
  pub taken_at_end : (earlier : List Token) (m : lexing.Machine) → lexing.close (lexing.after_tokens earlier m) ≡ lexing.after_tokens earlier (lexing.close m)

-- its tokens are ones that a text may have
pub record RangeLaws : Type 0 where
  pub start : IsSound lexing.start
  pub run : (m : lexing.Machine) (bytes : List ℕ) → IsSound m → IsSound (lexing.run m bytes)
  pub close : (m : lexing.Machine) → IsSound m → IsSound (lexing.close m)

-- what holds of two lists holds of both together, and what holds of both holds of the second
all_of_both : {A : Type 0} (P : A → Type 0) (xs ys : List A) → AllByRecursion P xs → AllByRecursion P ys → AllByRecursion P (xs ++ ys)
all_of_both P [] ys h k = k
all_of_both P (x ∷ xs) ys h k = (h.0, all_of_both P xs ys h.1 k)

all_of_second : {A : Type 0} (P : A → Type 0) (xs ys : List A) → AllByRecursion P (xs ++ ys) → AllByRecursion P ys
all_of_second P [] ys h = h
all_of_second P (x ∷ xs) ys h = all_of_second P xs ys h.1

-- what is known of the parser
pub record ParserLaws : Type 0 where
  pub exact : (tokens : List Token) (value : Module) (line : ℕ) → meaning.Denotes tokens value ↔ (parsing.end (parsing.run parsing.start tokens) line ≡ Ok value)
  pub stands : (front rest : List Token) (token : Token) → meaning.IsFirstBad front token → parsing.run parsing.start (front ++ token ∷ rest) ≡ parsing.Failed (grammar.Unreadable token.line)
  pub any : (tokens : List Token) → meaning.IsFront tokens ⊎ meaning.HasFirstBad tokens
  pub parts : (p : parsing.Parsing) (tokens more : List Token) → parsing.run p (tokens ++ more) ≡ parsing.run (parsing.run p tokens) more
  pub fault : (fault : ParseFault) (tokens : List Token) → parsing.run (parsing.Failed fault) tokens ≡ parsing.Failed fault

-- where no token was bad, a whole module begins with the tokens
going_front : (laws : ParserLaws) (tokens : List Token) → standing.answer_of (parsing.run parsing.start tokens) ≡ Ok tt → meaning.IsFront tokens
going_front laws tokens going = elim (laws.any tokens) [ inl front ↦ front | inr bad ↦ absurd (no bad) ]
  where
    no : meaning.HasFirstBad tokens → ⊥
    no bad =
        let failed = ap (parsing.run parsing.start) bad.3 ∙ laws.stands bad.0 bad.2 bad.1 bad.4 in
        cc (going, ap standing.answer_of failed)

-- tokens with which the parser has failed have a bad one in its fault's line
failed_bad : (laws : ParserLaws) (tokens : List Token) (line : ℕ) → parsing.run parsing.start tokens ≡ parsing.Failed (grammar.Unreadable line) → HasBadToken tokens line
failed_bad laws tokens line failed = elim (laws.any tokens) [ inl front ↦ absurd (no front) | inr bad ↦ found bad ]
  where
    no : meaning.IsFront tokens → ⊥
    no front =
        let whole = (laws.exact (tokens ++ front.0) (meaning.module_of front.2.0) 0).0 (front.2.0, front.2.1, refl) in
        let stays = laws.parts parsing.start tokens front.0 ∙ (ap (λ p. parsing.run p front.0) failed ∙ laws.fault (grammar.Unreadable line) front.0) in
        cc (whole, ap (λ p. parsing.end p 0) stays)

    found : meaning.HasFirstBad tokens → HasBadToken tokens line
    found bad =
        let there = sym failed ∙ (ap (parsing.run parsing.start) bad.3 ∙ laws.stands bad.0 bad.2 bad.1 bad.4) in
        record { front = bad.0; bad = bad.1; rest = bad.2; tokens_are = bad.3; first = bad.4; line_is = cc there }

-- more tokens behind a bad one
bad_before : (tokens more : List Token) (line : ℕ) → HasBadToken tokens line → HasBadToken (tokens ++ more) line
bad_before tokens more line b = record {
  front = b.front;
  bad = b.bad;
  rest = b.rest ++ more;
  tokens_are = ap (λ ts. ts ++ more) b.tokens_are ∙ append_assoc b.front (b.bad ∷ b.rest) more;
  first = b.first;
  line_is = b.line_is;
}

-- one list of tokens behind another
after_twice : (earlier more : List Token) (m : lexing.Machine) → lexing.after_tokens earlier (lexing.after_tokens more m) ≡ lexing.after_tokens (earlier ++ more) m
after_twice earlier more m = ap (lexing.at m.now.mode m.now.line) (sym (append_assoc earlier more m.tokens))

-- a machine is its tokens, and then what it goes on with
taken_out : (m : lexing.Machine) → m ≡ lexing.after_tokens m.tokens (lexing.seen m.now [])
taken_out m = ap (lexing.at m.now.mode m.now.line) (sym (append-nil m.tokens))

-- what the lexer makes of the bytes from here on
abbrev pub ahead : lexing.Lexing → List ℕ → lexing.Machine
ahead now bytes = lexing.run (lexing.seen now []) bytes

-- the whole run, where a front of the text has been read
whole_run : (laws : LexerLaws) (text bytes : List ℕ) (r : PartRead) (h : HasRead text r) → lexing.run lexing.start (text ++ bytes) ≡ lexing.after_tokens h.tokens (ahead r.lexer bytes)
whole_run laws text bytes r h = laws.pieces lexing.start text bytes ∙ (ap (λ m. lexing.run m bytes) h.lexed ∙ laws.taken h.tokens (lexing.seen r.lexer []) bytes)

-- the tokens of the whole text, and its end
pub whole_tokens :
    (laws : LexerLaws) (text bytes : List ℕ) (r : PartRead) (h : HasRead text r)
    → lexical.Denotes (text ++ bytes) (h.tokens ++ (lexing.close (ahead r.lexer bytes)).tokens) (lexing.answer (lexing.close (ahead r.lexer bytes)))
whole_tokens laws text bytes r h =
    let closed : lexing.close (lexing.run lexing.start (text ++ bytes)) ≡ lexing.after_tokens h.tokens (lexing.close (ahead r.lexer bytes)) =
    ap lexing.close (whole_run laws text bytes r h) ∙ laws.taken_at_end h.tokens (ahead r.lexer bytes) in
    (laws.exact (text ++ bytes) (h.tokens ++ (lexing.close (ahead r.lexer bytes)).tokens) (lexing.answer (lexing.close (ahead r.lexer bytes)))).1
    (record { tokens_are = ap (λ (m : lexing.Machine). m.tokens) closed; end_is = ap lexing.answer closed })

-- the tokens so far stand in front of those of the whole
pub tokens_grow : (laws : LexerLaws) (now : lexing.Lexing) (piece rest : List ℕ) → (more : List Token) × ((lexing.close (ahead now (piece ++ rest))).tokens ≡ (ahead now piece).tokens ++ more)
tokens_grow laws now piece rest =
    let m = ahead now piece in
    let split : ahead now (piece ++ rest) ≡ lexing.after_tokens m.tokens (lexing.run (lexing.seen m.now []) rest) =
    laws.pieces (lexing.seen now []) piece rest ∙ (ap (λ k. lexing.run k rest) (taken_out m) ∙ laws.taken m.tokens (lexing.seen m.now []) rest) in
    let closed = ap lexing.close split ∙ laws.taken_at_end m.tokens (lexing.run (lexing.seen m.now []) rest) in
    ((lexing.close (lexing.run (lexing.seen m.now []) rest)).tokens, ap (λ (k : lexing.Machine). k.tokens) closed)

-- the last tokens of a sound machine are ones that a text may have
last_proper : (m : lexing.Machine) (earlier out : List Token) → IsSound m → m.tokens ≡ earlier ++ out → AllByRecursion IsProper out
last_proper m earlier out sound same = all_of_second IsProper earlier out (subst (AllByRecursion IsProper) same sound.tokens)

-- a piece is read, and its tokens are taken
pub read_on :
    (lexer_laws : LexerLaws) (ranges : RangeLaws) (parser_laws : ParserLaws) (text piece : List ℕ) (old new : PartRead) (out : List Token) → HasRead text old
    → lexing.seen new.lexer out ≡ ahead old.lexer piece → lexing.told new.lexer.mode ≡ Ok tt → new.parser ≡ parsing.run old.parser out → standing.answer_of new.parser ≡ Ok tt
    → HasRead (text ++ piece) new
read_on lexer_laws ranges parser_laws text piece old new out h seen going parsed goes =
    let all : lexing.run lexing.start (text ++ piece) ≡ lexing.after_tokens h.tokens (lexing.seen new.lexer out) = whole_run lexer_laws text piece old h ∙ ap (lexing.after_tokens h.tokens) (sym seen) in
    let fit = last_proper (lexing.run lexing.start (text ++ piece)) h.tokens out (ranges.run lexing.start (text ++ piece) ranges.start) (ap (λ (m : lexing.Machine). m.tokens) all) in
    record {
      tokens = h.tokens ++ out;
      lexed = all ∙ ap (lexing.at new.lexer.mode new.lexer.line) (sym (append-nil (h.tokens ++ out)));
      proper = all_of_both IsProper h.tokens out h.proper fit;
      parsed = parsed ∙ (ap (λ p. parsing.run p out) h.parsed ∙ sym (parser_laws.parts parsing.start h.tokens out));
      no_lexical = going;
      no_grammatical = goes;
    }

-- the parser over all tokens so far
parser_all : (laws : ParserLaws) (text : List ℕ) (r : PartRead) (h : HasRead text r) (tokens : List Token) → parsing.run parsing.start (h.tokens ++ tokens) ≡ parsing.run r.parser tokens
parser_all laws text r h tokens = laws.parts parsing.start h.tokens tokens ∙ ap (λ p. parsing.run p tokens) (sym h.parsed)

-- a token is bad
pub broken_token :
    (lexer_laws : LexerLaws) (parser_laws : ParserLaws) (text bytes : List ℕ) (r : PartRead) (front more : List Token) (line : ℕ) → HasRead text r
    → (lexing.close (ahead r.lexer bytes)).tokens ≡ front ++ more → parsing.run r.parser front ≡ parsing.Failed (grammar.Unreadable line)
    → IsUnreadable (text ++ bytes) line
broken_token lexer_laws parser_laws text bytes r front more line h tokens failed =
    let bad = failed_bad parser_laws (h.tokens ++ front) line (parser_all parser_laws text r h front ∙ failed) in
    let all : h.tokens ++ (lexing.close (ahead r.lexer bytes)).tokens ≡ (h.tokens ++ front) ++ more = ap (λ ts. h.tokens ++ ts) tokens ∙ sym (append_assoc h.tokens front more) in
    record {
      tokens = h.tokens ++ (lexing.close (ahead r.lexer bytes)).tokens;
      end = lexing.answer (lexing.close (ahead r.lexer bytes));
      reads = whole_tokens lexer_laws text bytes r h;
      breaks = inl (subst (λ ts. HasBadToken ts line) (sym all) (bad_before (h.tokens ++ front) more line bad));
    }

-- no token is bad before the fault of the lexer
pub broken_lexeme :
    (lexer_laws : LexerLaws) (parser_laws : ParserLaws) (text bytes : List ℕ) (r : PartRead) (tokens : List Token) (fault : LexFault) → HasRead text r
    → (lexing.close (ahead r.lexer bytes)).tokens ≡ tokens → lexing.answer (lexing.close (ahead r.lexer bytes)) ≡ Err fault → standing.answer_of (parsing.run r.parser tokens) ≡ Ok tt
    → HasLexFault (text ++ bytes) fault
broken_lexeme lexer_laws parser_laws text bytes r tokens fault h are end going =
    let front = going_front parser_laws (h.tokens ++ tokens) (ap standing.answer_of (parser_all parser_laws text r h tokens) ∙ going) in
    let all = h.tokens ++ (lexing.close (ahead r.lexer bytes)).tokens in
    record {
      tokens = all;
      reads = subst (lexical.Denotes (text ++ bytes) all) end (whole_tokens lexer_laws text bytes r h);
      goes_on = subst meaning.IsFront (ap (λ ts. h.tokens ++ ts) (sym are)) front;
    }

-- a mode that tells a fault is that of the fault
mode_failed : (mode : lexing.Mode) (fault : LexFault) → lexing.told mode ≡ Err fault → mode ≡ lexing.Failed fault
mode_failed lexing.Between fault e = absurd (cc e)
mode_failed (lexing.InName bytes) fault e = absurd (cc e)
mode_failed (lexing.InNumber value) fault e = absurd (cc e)
mode_failed (lexing.AtQuote signed size) fault e = absurd (cc e)
mode_failed (lexing.AtBase size base) fault e = absurd (cc e)
mode_failed (lexing.InConstant size base value) fault e = absurd (cc e)
mode_failed lexing.AtTilde fault e = absurd (cc e)
mode_failed lexing.AtCaret fault e = absurd (cc e)
mode_failed lexing.AtParen fault e = absurd (cc e)
mode_failed lexing.AtSlash fault e = absurd (cc e)
mode_failed (lexing.AtTick matched) fault e = absurd (cc e)
mode_failed lexing.InLine fault e = absurd (cc e)
mode_failed (lexing.InFence fence place star from) fault e = absurd (cc e)
mode_failed lexing.AtBackslash fault e = absurd (cc e)
mode_failed (lexing.InEscaped bytes) fault e = absurd (cc e)
mode_failed (lexing.Failed f) fault e = ap lexing.Failed (cc e)

-- a fault stands
pub record FaultStands : Type 0 where
  pub run : (m : lexing.Machine) (fault : LexFault) (bytes : List ℕ) → m.now.mode ≡ lexing.Failed fault → lexing.run m bytes ≡ m
  pub close : (m : lexing.Machine) (fault : LexFault) → m.now.mode ≡ lexing.Failed fault → lexing.close m ≡ m

-- where a lexical fault was found, the call stands where the machine does
pub stood : (A : Type 0) (fault answer : LexFault) (m after : lexing.Machine) → of_lex fault ≡ read.Lex answer → lexing.Stands {A = A} (Err fault) m after → after ≡ m
stood A (faults.BadByte line) answer m after same stands = stands
stood A (faults.BadNumber line) answer m after same stands = stands
stood A (faults.LongName line) answer m after same stands = stands
stood A (faults.OpenComment line) answer m after same stands = stands
stood A faults.NoMemory answer m after same stands = absurd (cc same)

-- the fault that a conversion gives
pub err_gives : {T E F : Type 0} (gives : F → E) (result : Result T E) (found : F) (e : E) → IsErrAnd result (λ x. x ≡ gives found) → IsErrOf result e → gives found ≡ e
err_gives gives (Ok x) found e given is = absurd (cc is)
err_gives gives (Err y) found e given is = let same : y ≡ e = cc is in sym given ∙ same

-- the fault that is answered is the one that was found
pub one_lex : (fault answer : LexFault) → of_lex fault ≡ read.Lex answer → fault ≡ answer
one_lex (faults.BadByte line) answer same = cc same
one_lex (faults.BadNumber line) answer same = cc same
one_lex (faults.LongName line) answer same = cc same
one_lex (faults.OpenComment line) answer same = cc same
one_lex faults.NoMemory answer same = absurd (cc same)

-- and one of the grammar has its line
pub parse_line : (fault answer : ParseFault) → of_parse fault ≡ read.Parse answer → (line : ℕ) × (fault ≡ grammar.Unreadable line) × (answer ≡ grammar.Unreadable line)
parse_line (grammar.Unreadable line) answer same = (line, refl, cc same)
parse_line grammar.NoMemory answer same = absurd (cc same)

-- the tokens that a call gave stand in front of the machine's, also where memory ran out
pub given_front : {A : Type 0} (result : Result A LexFault) (m after : lexing.Machine) → lexing.Stands result m after → (more : List Token) × (m.tokens ≡ after.tokens ++ more)
given_front (Ok x) m after stands = ([], ap (λ (k : lexing.Machine). k.tokens) (sym stands) ∙ sym (append-nil after.tokens))
given_front (Err (faults.BadByte line)) m after stands = ([], ap (λ (k : lexing.Machine). k.tokens) (sym stands) ∙ sym (append-nil after.tokens))
given_front (Err (faults.BadNumber line)) m after stands = ([], ap (λ (k : lexing.Machine). k.tokens) (sym stands) ∙ sym (append-nil after.tokens))
given_front (Err (faults.LongName line)) m after stands = ([], ap (λ (k : lexing.Machine). k.tokens) (sym stands) ∙ sym (append-nil after.tokens))
given_front (Err (faults.OpenComment line)) m after stands = ([], ap (λ (k : lexing.Machine). k.tokens) (sym stands) ∙ sym (append-nil after.tokens))
given_front (Err faults.NoMemory) m after stands = (stands.0, stands.1)

-- a lexical fault in a piece
pub fed_lexeme :
    (lexer_laws : LexerLaws) (stays : FaultStands) (parser_laws : ParserLaws) (text piece rest : List ℕ) (r : PartRead) (now : lexing.Lexing) (out : List Token) (fault answer : LexFault)
    → HasRead text r → lexing.Stands {A = Unit {0}} (Err fault) (ahead r.lexer piece) (lexing.seen now out) → Err fault ≡ lexing.told now.mode → standing.answer_of (parsing.run r.parser out) ≡ Ok tt → of_lex fault ≡ read.Lex answer
    → HasLexFault ((text ++ piece) ++ rest) answer
fed_lexeme lexer_laws stays parser_laws text piece rest r now out fault answer h stands told going same =
    let seen = stood (Unit {0}) fault answer (ahead r.lexer piece) (lexing.seen now out) same stands in
    let mode = mode_failed now.mode fault (sym told) in
    let all : ahead r.lexer (piece ++ rest) ≡ lexing.seen now out =
    lexer_laws.pieces (lexing.seen r.lexer []) piece rest ∙ (ap (λ m. lexing.run m rest) (sym seen) ∙ stays.run (lexing.seen now out) fault rest mode) in
    let closed = ap lexing.close all ∙ stays.close (lexing.seen now out) fault mode in
    let end : lexing.answer (lexing.close (ahead r.lexer (piece ++ rest))) ≡ Err fault = ap lexing.answer closed ∙ ap (λ mode. lexing.answer_by mode now.line) mode in
    subst (HasLexFault ((text ++ piece) ++ rest)) (one_lex fault answer same)
    (subst (λ whole. HasLexFault whole fault) (sym (append_assoc text piece rest))
    (broken_lexeme lexer_laws parser_laws text (piece ++ rest) r out fault h (ap (λ (m : lexing.Machine). m.tokens) closed) end going))

-- a bad token in a piece
pub fed_token :
    {A : Type 0} (lexer_laws : LexerLaws) (parser_laws : ParserLaws) (text piece rest : List ℕ) (r : PartRead) (result : Result A LexFault) (after : lexing.Machine) (front back : List Token) (line : ℕ)
    → HasRead text r → lexing.Stands result (ahead r.lexer piece) after → after.tokens ≡ front ++ back → parsing.run r.parser front ≡ parsing.Failed (grammar.Unreadable line)
    → IsUnreadable ((text ++ piece) ++ rest) line
fed_token lexer_laws parser_laws text piece rest r result after front back line h stands parts failed =
    let given = given_front result (ahead r.lexer piece) after stands in
    let grown = tokens_grow lexer_laws r.lexer piece rest in
    let tokens : (lexing.close (ahead r.lexer (piece ++ rest))).tokens ≡ front ++ (back ++ (given.0 ++ grown.0)) =
    grown.1 ∙ (ap (λ ts. ts ++ grown.0) (given.1 ∙ ap (λ ts. ts ++ given.0) parts) ∙ (append_assoc (front ++ back) given.0 grown.0 ∙ append_assoc front back (given.0 ++ grown.0))) in
    subst (λ whole. IsUnreadable whole line) (sym (append_assoc text piece rest))
    (broken_token lexer_laws parser_laws text (piece ++ rest) r front (back ++ (given.0 ++ grown.0)) line h tokens failed)

-- the text ends here
same_text : (text : List ℕ) → text ++ [] ≡ text
same_text text = append-nil text

-- a bad token among the last ones
pub ended_token :
    (lexer_laws : LexerLaws) (parser_laws : ParserLaws) (text : List ℕ) (r : PartRead) (result : Result ℕ LexFault) (after : lexing.Machine) (front back : List Token) (line : ℕ)
    → HasRead text r → lexing.Stands result (lexing.close (lexing.seen r.lexer [])) after → after.tokens ≡ front ++ back → parsing.run r.parser front ≡ parsing.Failed (grammar.Unreadable line)
    → IsUnreadable text line
ended_token lexer_laws parser_laws text r result after front back line h stands parts failed =
    let given = given_front result (lexing.close (lexing.seen r.lexer [])) after stands in
    let tokens : (lexing.close (ahead r.lexer [])).tokens ≡ front ++ (back ++ given.0) = given.1 ∙ (ap (λ ts. ts ++ given.0) parts ∙ append_assoc front back given.0) in
    subst (λ whole. IsUnreadable whole line) (same_text text)
    (broken_token lexer_laws parser_laws text [] r front (back ++ given.0) line h tokens failed)

-- a lexical fault at the end
pub ended_lexeme :
    (lexer_laws : LexerLaws) (parser_laws : ParserLaws) (text : List ℕ) (r : PartRead) (now : lexing.Lexing) (out : List Token) (fault answer : LexFault)
    → HasRead text r → lexing.Stands {A = ℕ} (Err fault) (lexing.close (lexing.seen r.lexer [])) (lexing.seen now out) → Err fault ≡ lexing.answer_by now.mode now.line
    → standing.answer_of (parsing.run r.parser out) ≡ Ok tt → of_lex fault ≡ read.Lex answer → HasLexFault text answer
ended_lexeme lexer_laws parser_laws text r now out fault answer h stands told going same =
    let seen = stood ℕ fault answer (lexing.close (lexing.seen r.lexer [])) (lexing.seen now out) same stands in
    let end : lexing.answer (lexing.close (ahead r.lexer [])) ≡ Err fault = ap lexing.answer (sym seen) ∙ sym told in
    subst (HasLexFault text) (one_lex fault answer same)
    (subst (λ whole. HasLexFault whole fault) (same_text text)
    (broken_lexeme lexer_laws parser_laws text [] r out fault h (ap (λ (m : lexing.Machine). m.tokens) (sym seen)) end going))

-- what the last tokens make
pub record Ended (text : List ℕ) (r : PartRead) (tokens : List Token) (line : ℕ) : Type 0 where
  pub all : List Token
  pub reads : lexical.Denotes text all (Ok line)
  pub proper : AllByRecursion IsProper all
  pub parsed : parsing.run parsing.start all ≡ parsing.run r.parser tokens
  pub front : meaning.IsFront all

pub ended :
    (lexer_laws : LexerLaws) (ranges : RangeLaws) (parser_laws : ParserLaws) (text : List ℕ) (r : PartRead) (now : lexing.Lexing) (out : List Token) (line : ℕ)
    → HasRead text r → lexing.seen now out ≡ lexing.close (lexing.seen r.lexer []) → Ok line ≡ lexing.answer_by now.mode now.line → standing.answer_of (parsing.run r.parser out) ≡ Ok tt
    → Ended text r out line
ended lexer_laws ranges parser_laws text r now out line h seen told going =
    let reads = whole_tokens lexer_laws text [] r h in
    let tokens : h.tokens ++ (lexing.close (ahead r.lexer [])).tokens ≡ h.tokens ++ out = ap (λ (m : lexing.Machine). h.tokens ++ m.tokens) (sym seen) in
    let end : lexing.answer (lexing.close (ahead r.lexer [])) ≡ Ok line = ap lexing.answer (sym seen) ∙ sym told in
    let all = parser_all parser_laws text r h out in
    let closed : lexing.close (lexing.run lexing.start (text ++ [])) ≡ lexing.after_tokens h.tokens (lexing.close (ahead r.lexer [])) =
    ap lexing.close (whole_run lexer_laws text [] r h) ∙ lexer_laws.taken_at_end h.tokens (ahead r.lexer []) in
    let fit = last_proper (lexing.close (lexing.run lexing.start (text ++ []))) h.tokens out (ranges.close (lexing.run lexing.start (text ++ [])) (ranges.run lexing.start (text ++ []) ranges.start))
    (ap (λ (m : lexing.Machine). m.tokens) closed ∙ tokens) in
    record {
      all = h.tokens ++ out;
      reads = subst (λ whole. lexical.Denotes whole (h.tokens ++ out) (Ok line)) (same_text text)
          (subst (λ e. lexical.Denotes (text ++ []) (h.tokens ++ out) e) end (subst (λ ts. lexical.Denotes (text ++ []) ts (lexing.answer (lexing.close (ahead r.lexer [])))) tokens reads));
      proper = all_of_both IsProper h.tokens out h.proper fit;
      parsed = all;
      front = going_front parser_laws (h.tokens ++ out) (ap standing.answer_of all ∙ going);
    }

-- they are a whole module
pub ended_whole : (laws : ParserLaws) (text : List ℕ) (r : PartRead) (tokens : List Token) (line : ℕ) (value : Module) → Ended text r tokens line → parsing.end (parsing.run r.parser tokens) line ≡ Ok value → IsModuleOf value text
ended_whole laws text r tokens line value e end = record {
  tokens = e.all;
  line = line;
  reads = e.reads;
  derives = (laws.exact e.all value line).1 (ap (λ p. parsing.end p line) e.parsed ∙ end);
}

-- which has names for names, and numbers in their ranges
pub ended_sound :
    (laws : ParserLaws) (sound : (tokens : List Token) (value : Module) → AllByRecursion IsProper tokens → meaning.Denotes tokens value → IsSoundModule value)
    (text : List ℕ) (r : PartRead) (tokens : List Token) (line : ℕ) (value : Module) → Ended text r tokens line → parsing.end (parsing.run r.parser tokens) line ≡ Ok value → IsSoundModule value
unfolding ended_whole
ended_sound laws sound text r tokens line value e end = sound e.all value e.proper (ended_whole laws text r tokens line value e end).derives

-- or they are cut short
pub ended_short :
    (laws : ParserLaws) (cut : (tokens : List Token) (line : ℕ) → meaning.IsFront tokens → ((value : Module) → meaning.Denotes tokens value → ⊥) ↔ (parsing.end (parsing.run parsing.start tokens) line ≡ Err (grammar.Unreadable line)))
    (text : List ℕ) (r : PartRead) (tokens : List Token) (line at : ℕ) → Ended text r tokens line → parsing.end (parsing.run r.parser tokens) line ≡ Err (grammar.Unreadable at)
    → IsUnreadable text at
ended_short laws cut text r tokens line at e end =
    let whole = ap (λ p. parsing.end p line) e.parsed ∙ end in
    let none : (value : Module) → meaning.Denotes e.all value → ⊥ = λ value d. cc (whole, (laws.exact e.all value line).0 d) in
    let same : line ≡ at = cc (whole, (cut e.all line e.front).0 none) in
    subst (IsUnreadable text) same (record {
      tokens = e.all;
      end = Ok line;
      reads = e.reads;
      breaks = inr (record { goes_on = e.front; ends = refl; unfinished = none });
    })

-- a front of the text has been read
pub record Part (text rest : List ℕ) (r : PartRead) : Type 0 where
  pub done : List ℕ
  pub all : done ++ rest ≡ text
  pub read : HasRead done r

pub part_starts : (text : List ℕ) (lexer : lexing.Lexing) (parser : parsing.Parsing) → lexing.seen lexer [] ≡ lexing.start → parser ≡ parsing.start → Part text text (reading lexer parser)
part_starts text lexer parser fresh none = record {
  done = [];
  all = refl;
  read = record {
    tokens = [];
    lexed = sym fresh;
    proper = tt;
    parsed = none;
    no_lexical = ap (λ (m : lexing.Machine). lexing.told m.now.mode) fresh;
    no_grammatical = ap standing.answer_of none;
  };
}

pub part_goes : (text rest piece after : List ℕ) (r new : PartRead) → Part text rest r → rest ≡ piece ++ after → ((done : List ℕ) → HasRead done r → HasRead (done ++ piece) new) → Part text after new
part_goes text rest piece after r new p split on = record {
  done = p.done ++ piece;
  all = append_assoc p.done piece after ∙ (ap (λ bytes. p.done ++ bytes) (sym split) ∙ p.all);
  read = on p.done p.read;
}

pub part_broken : (Flawed : List ℕ → Type 0) (text rest piece after : List ℕ) (r : PartRead) → Part text rest r → rest ≡ piece ++ after → ((done more : List ℕ) → HasRead done r → Flawed ((done ++ piece) ++ more)) → Flawed text
part_broken Flawed text rest piece after r p split broken =
    subst Flawed (append_assoc p.done piece after ∙ (ap (λ bytes. p.done ++ bytes) (sym split) ∙ p.all)) (broken p.done after p.read)

pub part_ends : (text rest : List ℕ) (r : PartRead) → Part text rest r → rest ≡ [] → HasRead text r
part_ends text rest r p empty = subst (λ bytes. HasRead bytes r) (sym (append-nil p.done) ∙ (ap (λ bytes. p.done ++ bytes) (sym empty) ∙ p.all)) p.read

pub no_bytes : (bytes : List ℕ) → length bytes ≡ 0 → bytes ≡ []
no_bytes [] e = refl
no_bytes (b ∷ bytes) e = absurd (omega (arith, e))

-- what the end of the whole text says of it
pub whole_at_end : {E : Type 0} (result : Result Module E) (text : List ℕ) (r : PartRead) → HasRead text r
    → IfOk result (λ value. (all : List ℕ) → HasRead all r → IsModuleOf value all × IsSoundModule value)
    → IfOk result (λ value. IsModuleOf value text × IsSoundModule value)
whole_at_end (Ok value) text r h says = says text h
whole_at_end (Err e) text r h says = tt
