-- Each text has a module or a first flaw, and one of them.
use Rattle.std.proofs.Common.{◌≡◌, ◌⊎◌, inl, inr, ℕ, List, [], ◌∷◌, ◌++◌, Result, Ok, Err, refl, sym, ap, ◌∙◌, subst, append_assoc, append-nil}
use Rattle.bb_base.specs.declared.token.Token.{Token}
use Rattle.bb_base.specs.declared.lex_fault.LexFault.{LexFault}
use Rattle.bb_lex.specs.Text as lexical
use Rattle.bb_parse.specs.declared.syntax.Module.{Module}
use Rattle.bb_parse.specs.declared.fault.ParseFault.{ParseFault}
use Rattle.bb_parse.specs.declared.fault.ParseFault.TheVariants.{Unreadable, NoMemory}
use Rattle.bb_parse.specs.Grammar.{file}
use Rattle.bb_parse.specs.Meaning.{Denotes, IsFront, HasFirstBad}
use Rattle.bb_parse.specs.Machine.{run, start, end}
use Rattle.bb_grammar.specs.Texts.{IsModuleOf, HasBadToken, IsCutShort, HasLexFault, IsUnreadable, HasParseFault}
use Rattle.bb_grammar.proofs.Exact.{exact, split, stands}

-- a text has one list of tokens, and one end
abbrev pub Once : Type 0
Once = (text : List ℕ) (tokens others : List Token) (end other : Result ℕ LexFault) → lexical.Denotes text tokens end → lexical.Denotes text others other → (tokens ≡ others) × (end ≡ other)

-- tokens that go on have no bad one
front_good : (tokens : List Token) (line : ℕ) → IsFront tokens → HasBadToken tokens line → ⊥
front_good tokens line front bad =
    let all : tokens ++ front.0 ≡ bad.front ++ bad.bad ∷ (bad.rest ++ front.0) = ap (λ ts. ts ++ front.0) bad.tokens_are ∙ append_assoc bad.front (bad.bad ∷ bad.rest) front.0 in
    bad.first.none (bad.rest ++ front.0) front.2.0 (subst (λ ts. file front.2.0 ts []) all front.2.1)

-- a whole module goes on
whole_front : (tokens : List Token) (m : Module) → Denotes tokens m → IsFront tokens
whole_front tokens m d = ([], tt, (d.0, subst (λ ts. file d.0 ts []) (sym (append-nil tokens)) d.1))

-- a flaw of the grammar in these tokens, up to this end
abbrev Breaks : List Token → Result ℕ LexFault → ℕ → Type 0
Breaks tokens end line = HasBadToken tokens line ⊎ IsCutShort tokens end line

-- the flaw by the tokens that another reading gives
breaks_in : (once : Once) (text : List ℕ) (tokens : List Token) (end : Result ℕ LexFault) (line : ℕ) → lexical.Denotes text tokens end → IsUnreadable text line → Breaks tokens end line
breaks_in once text tokens end line reads flaw =
    let same = once text flaw.tokens tokens flaw.end end flaw.reads reads in
    subst (λ e. Breaks tokens e line) same.1 (subst (λ ts. Breaks ts flaw.end line) same.0 flaw.breaks)

same_line : (tokens : List Token) (end : Result ℕ LexFault) (a b : ℕ) → Breaks tokens end a → Breaks tokens end b → a ≡ b
same_line tokens end a b (inl one) (inl other) =
    let first = ap (run start) one.tokens_are ∙ stands one.front one.rest one.bad one.first in
    let second = ap (run start) other.tokens_are ∙ stands other.front other.rest other.bad other.first in
    let lines : one.bad.line ≡ other.bad.line = cc (first, second) in
    one.line_is ∙ (lines ∙ sym other.line_is)
same_line tokens end a b (inl bad) (inr cut) = absurd (front_good tokens a cut.goes_on bad)
same_line tokens end a b (inr cut) (inl bad) = absurd (front_good tokens b cut.goes_on bad)
same_line tokens end a b (inr one) (inr other) = cc (one.ends, other.ends)

pub no_lex_fault : (once : Once) (text : List ℕ) (m : Module) (fault : LexFault) → IsModuleOf m text → HasLexFault text fault → ⊥
no_lex_fault once text m fault whole flaw = cc (once text whole.tokens flaw.tokens (Ok whole.line) (Err fault) whole.reads flaw.reads).1

pub no_parse_fault : (once : Once) (text : List ℕ) (m : Module) (fault : ParseFault) → IsModuleOf m text → HasParseFault text fault → ⊥
no_parse_fault once text m NoMemory whole flaw = absurd flaw
no_parse_fault once text m (Unreadable line) whole flaw = elim (breaks_in once text whole.tokens (Ok whole.line) line whole.reads flaw)
    [ inl bad ↦ front_good whole.tokens line (whole_front whole.tokens m whole.derives) bad | inr cut ↦ cut.unfinished m whole.derives ]

pub one_lex_fault : (once : Once) (text : List ℕ) (a b : LexFault) → HasLexFault text a → HasLexFault text b → a ≡ b
one_lex_fault once text a b one other = cc (once text one.tokens other.tokens (Err a) (Err b) one.reads other.reads).1

pub one_parse_fault : (once : Once) (text : List ℕ) (a b : ParseFault) → HasParseFault text a → HasParseFault text b → a ≡ b
one_parse_fault once text (Unreadable a) (Unreadable b) one other =
    ap (λ line. Unreadable line) (same_line one.tokens one.end a b one.breaks (breaks_in once text one.tokens one.end b one.reads other))
one_parse_fault once text NoMemory b one other = absurd one
one_parse_fault once text (Unreadable a) NoMemory one other = absurd other

pub not_both : (once : Once) (text : List ℕ) (a : LexFault) (b : ParseFault) → HasLexFault text a → HasParseFault text b → ⊥
not_both once text a NoMemory one other = absurd other
not_both once text a (Unreadable line) one other = elim (breaks_in once text one.tokens (Err a) line one.reads other)
    [ inl bad ↦ front_good one.tokens line one.goes_on bad | inr cut ↦ apart cut.ends ]
  where
    apart : ◌≡◌ {A = Result ℕ LexFault} (Err a) (Ok line) → ⊥
    apart h = cc

-- a text's module, or its first flaw
abbrev pub Outcome : List ℕ → Type 0
Outcome text = ((m : Module) × IsModuleOf m text) ⊎ ((fault : LexFault) × HasLexFault text fault) ⊎ ((fault : ParseFault) × HasParseFault text fault)

at_end : (text : List ℕ) (tokens : List Token) (line : ℕ) → lexical.Denotes text tokens (Ok line) → IsFront tokens → Outcome text
at_end text tokens line reads front = by (end (run start tokens) line) refl
  where
    apart : (fault : ParseFault) (m : Module) → end (run start tokens) line ≡ Err fault → end (run start tokens) line ≡ Ok m → ⊥
    apart fault m h g = cc

    by : (r : Result Module ParseFault) → end (run start tokens) line ≡ r → Outcome text
    by (Ok m) is = inl (m, record { tokens = tokens; line = line; reads = reads; derives = (exact tokens m line).1 is })
    by (Err fault) is = inr (inr (
      Unreadable line,
      record {
        tokens = tokens;
        end = Ok line;
        reads = reads;
        breaks = inr (record { goes_on = front; ends = refl; unfinished = λ m d. apart fault m is ((exact tokens m line).0 d) });
      },
    ))

pub some_outcome : (text : List ℕ) (tokens : List Token) (end : Result ℕ LexFault) → lexical.Denotes text tokens end → Outcome text
some_outcome text tokens end reads = by end reads (split tokens)
  where
    by : (e : Result ℕ LexFault) → lexical.Denotes text tokens e → IsFront tokens ⊎ HasFirstBad tokens → Outcome text
    by e d (inr bad) = inr (inr (
      Unreadable bad.1.line,
      record {
        tokens = tokens;
        end = e;
        reads = d;
        breaks = inl (record { front = bad.0; bad = bad.1; rest = bad.2; tokens_are = bad.3; first = bad.4; line_is = refl });
      },
    ))
    by (Err fault) d (inl front) = inr (inl (fault, record { tokens = tokens; reads = d; goes_on = front }))
    by (Ok line) d (inl front) = at_end text tokens line d front
