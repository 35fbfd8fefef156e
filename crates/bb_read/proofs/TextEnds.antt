-- Each text comes to one end.
use Rattle.std.proofs.Common.{arith, ◌≡◌, ◌⊎◌, inl, inr, ℕ, ◌<◌, ◌≤◌, nat_lt, Bool, true, false, List, length, refl, ap}
use Rattle.std.proofs.lemmas.Bool.Decides.{nat_tests}
use Rattle.std.specs.Prelude.{Result, Ok, Err}
use Rattle.bb_base.specs.Named.{Named}
use Rattle.bb_base.specs.declared.lex_fault.LexFault.{LexFault}
use Rattle.bb_parse.specs.declared.syntax.Module.{Module}
use Rattle.bb_parse.specs.declared.fault.ParseFault.{ParseFault}
use Rattle.bb_parse.specs.Sound.{IsSoundModule}
use Rattle.bb_grammar.specs.Texts.{IsModuleOf, HasLexFault, HasParseFault}
use Rattle.bb_fault.specs.declared.fault.ElabFault.{ElabFault}
use Rattle.bb_meaning.specs.Outcome.{IsOutcome}
use Rattle.bb_meaning.specs.Denotes.{ElaboratesTo}
use Rattle.bb_read.specs.declared.refusal.TextRefusal.{TextRefusal}
use Rattle.bb_read.specs.declared.refusal.TextRefusal.TheVariants as refusals
use Rattle.bb_read.specs.Texts.{IsTextRefused, ComesTo}

-- what is known of texts' flaws and of what modules denote
pub record TextLaws : Type 0 where
  pub no_lex : (text : List ℕ) (m : Module) (fault : LexFault) → IsModuleOf m text → HasLexFault text fault → ⊥
  pub no_parse : (text : List ℕ) (m : Module) (fault : ParseFault) → IsModuleOf m text → HasParseFault text fault → ⊥
  pub one_lex : (text : List ℕ) (a b : LexFault) → HasLexFault text a → HasLexFault text b → a ≡ b
  pub one_parse : (text : List ℕ) (a b : ParseFault) → HasParseFault text a → HasParseFault text b → a ≡ b
  pub not_both : (text : List ℕ) (a : LexFault) (b : ParseFault) → HasLexFault text a → HasParseFault text b → ⊥
  pub one : (own : Bool) (text : List ℕ) (a b : Result Named ElabFault) → ElaboratesTo own text a → ElaboratesTo own text b → a ≡ b

-- what is made of texts that are this long at most
module _ (own : Bool) (limit : ℕ) (laws : TextLaws) where
  -- a text that denotes a netlist has no refusal
  unrefused : (refusal : TextRefusal) (text : List ℕ) (a : Named) → IsTextRefused own limit refusal text → length text ≤ limit → ElaboratesTo own text (Ok a) → ⊥
  unrefused refusals.TooLong text a refused small r = omega (arith, refused, small)
  unrefused (refusals.Lex fault) text a refused small r = laws.no_lex text r.syntax_of fault r.spells refused.1
  unrefused (refusals.Parse fault) text a refused small r = laws.no_parse text r.syntax_of fault r.spells refused.1
  unrefused (refusals.Elab fault) text a refused small r = cc (laws.one own text (Ok a) (Err fault) r refused.1)

  -- a text has one refusal
  one_refusal : (text : List ℕ) (a b : TextRefusal) → IsTextRefused own limit a text → IsTextRefused own limit b text → a ≡ b
  one_refusal text refusals.TooLong refusals.TooLong h k = refl
  one_refusal text refusals.TooLong (refusals.Lex g) h k = absurd (omega (arith, h, k.0))
  one_refusal text refusals.TooLong (refusals.Parse g) h k = absurd (omega (arith, h, k.0))
  one_refusal text refusals.TooLong (refusals.Elab g) h k = absurd (omega (arith, h, k.0))
  one_refusal text (refusals.Lex f) refusals.TooLong h k = absurd (omega (arith, h.0, k))
  one_refusal text (refusals.Lex f) (refusals.Lex g) h k = ap (λ x. refusals.Lex x) (laws.one_lex text f g h.1 k.1)
  one_refusal text (refusals.Lex f) (refusals.Parse g) h k = absurd (laws.not_both text f g h.1 k.1)
  one_refusal text (refusals.Lex f) (refusals.Elab g) h k = absurd (laws.no_lex text k.1.syntax_of f k.1.spells h.1)
  one_refusal text (refusals.Parse f) refusals.TooLong h k = absurd (omega (arith, h.0, k))
  one_refusal text (refusals.Parse f) (refusals.Lex g) h k = absurd (laws.not_both text g f k.1 h.1)
  one_refusal text (refusals.Parse f) (refusals.Parse g) h k = ap (λ x. refusals.Parse x) (laws.one_parse text f g h.1 k.1)
  one_refusal text (refusals.Parse f) (refusals.Elab g) h k = absurd (laws.no_parse text k.1.syntax_of f k.1.spells h.1)
  one_refusal text (refusals.Elab f) refusals.TooLong h k = absurd (omega (arith, h.0, k))
  one_refusal text (refusals.Elab f) (refusals.Lex g) h k = absurd (laws.no_lex text h.1.syntax_of g h.1.spells k.1)
  one_refusal text (refusals.Elab f) (refusals.Parse g) h k = absurd (laws.no_parse text h.1.syntax_of g h.1.spells k.1)
  one_refusal text (refusals.Elab f) (refusals.Elab g) h k = ap (λ x. refusals.Elab x) (same (laws.one own text (Err f) (Err g) h.1 k.1))
    where
      same : ◌≡◌ {A = Result Named ElabFault} (Err f) (Err g) → f ≡ g
      same e = cc

  -- and one end
  pub one_end : (text : List ℕ) (a b : Result Named TextRefusal) → ComesTo own limit text a → ComesTo own limit text b → a ≡ b
  one_end text (Ok x) (Ok y) h k = ap (λ z. Ok z) (same (laws.one own text (Ok x) (Ok y) h.1 k.1))
    where
      same : ◌≡◌ {A = Result Named ElabFault} (Ok x) (Ok y) → x ≡ y
      same e = cc
  one_end text (Ok x) (Err r) h k = absurd (unrefused r text x k h.0 h.1)
  one_end text (Err r) (Ok y) h k = absurd (unrefused r text y h k.0 k.1)
  one_end text (Err r) (Err s) h k = ap (λ z. Err z) (one_refusal text r s h k)

-- each text has an end
pub some_end :
    (sound : (m : Module) (text : List ℕ) → IsModuleOf m text → IsSoundModule m) (has : (own : Bool) (m : Module) → IsSoundModule m → (result : Result Named ElabFault) × IsOutcome own m result)
    (own : Bool) (limit : ℕ) (text : List ℕ)
    → ((m : Module) × IsModuleOf m text) ⊎ ((fault : LexFault) × HasLexFault text fault) ⊎ ((fault : ParseFault) × HasParseFault text fault) → (end : Result Named TextRefusal) × ComesTo own limit text end
some_end sound has own limit text flaw = by (nat_lt limit (length text)) refl
  where
    ended : length text ≤ limit → (m : Module) → IsModuleOf m text → (result : Result Named ElabFault) → IsOutcome own m result → (end : Result Named TextRefusal) × ComesTo own limit text end
    ended small m spells (Ok named) is = (Ok named, (small, record { syntax_of = m; spells = spells; outcome = is }))
    ended small m spells (Err fault) is = (Err (refusals.Elab fault), (small, record { syntax_of = m; spells = spells; outcome = is }))

    short : length text ≤ limit → ((m : Module) × IsModuleOf m text) ⊎ ((fault : LexFault) × HasLexFault text fault) ⊎ ((fault : ParseFault) × HasParseFault text fault) → (end : Result Named TextRefusal) × ComesTo own limit text end
    short small (inl m) = let out = has own m.0 (sound m.0 text m.1) in ended small m.0 m.1 out.0 out.1
    short small (inr (inl f)) = (Err (refusals.Lex f.0), (small, f.1))
    short small (inr (inr f)) = (Err (refusals.Parse f.0), (small, f.1))

    by : (t : Bool) → nat_lt limit (length text) ≡ t → (end : Result Named TextRefusal) × ComesTo own limit text end
    by true e = (Err refusals.TooLong, past e)
      where
        past : nat_lt limit (length text) ≡ true → limit < length text
        past e = grind (arith, nat_tests)
    by false e = short (small e) flaw
      where
        small : nat_lt limit (length text) ≡ false → length text ≤ limit
        small e = grind (arith, nat_tests)
